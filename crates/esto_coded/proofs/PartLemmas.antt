-- A part of the facts, made from the rows all of whose codes are among some codes.
use Rattle.std.proofs.Common.{◌≡◌, ◌⊎◌, ◌==◌, inl, inr, ℕ, zero, suc, ◌+◌, ◌<◌, ◌≤◌, Bool, true, false, cond, List, [], ◌∷◌, ◌++◌, map, length, take, Some}
use Rattle.std.proofs.Common.{slice_get, Contains, refl, sym, ap, ◌∙◌, subst, arith, Option, None, IsTrue}
use Rattle.std.specs.Prelude.{nat_eq, IfSome, ◌||◌}
use Rattle.std.specs.List.{AllZip, filter}
use Rattle.std.specs.Set.{is_member}
use Rattle.std.proofs.lemmas.Bool.{cases_lt, false≢true}
use Rattle.std.proofs.lemmas.Bool.Decides.{Decides-eqb}
use Rattle.std.proofs.lemmas.List.{append_assoc, append-nil, map-append}
use Rattle.std.proofs.lemmas.List.Elements.{filter-append}
use Rattle.std.proofs.lemmas.Option.{same_Some, slice_get_cases}
use Rattle.esto_term.specs.declared.term.Term.{Term}
use Rattle.esto_term.specs.declared.term.Term.TheVariants.{Const}
use Rattle.esto_term.proofs.ListLemmas.{Contains-nil, Contains-head, Contains-rest, Contains-cases, Contains-at, Contains-map, Contains-map_from}
use Rattle.esto_term.proofs.ListLemmas.{Contains-filter, Contains-filter_from, thing_at}
use Rattle.esto_term.proofs.PlaceLemmas.{earlier_or_last, take-there}
use Rattle.esto_term.proofs.ZipLemmas.{zip_left, zip_right}
use Rattle.esto_columns.specs.CodedRows.{CodedRows}
use Rattle.esto_columns.specs.declared.stored.StoredRows.{StoredRows}
use Rattle.esto_relmodel.specs.Once.{StandsBefore}
use Rattle.esto_relmodel.specs.Parts.{IsPartFor}
use Rattle.esto_semantics.specs.Facts.{image, Mentions}
use Rattle.esto_semantics.specs.Maps.{Sends, SendsInto}
use Rattle.esto_semantics.specs.Rules.{Rule, Concludes, body_of, equality}
use Rattle.esto_semantics.specs.declared.fact.Fact.{Fact}
use Rattle.esto_rows.specs.Wanted.{are_among}
use Rattle.esto_coded.specs.Active.{HaveActive}
use Rattle.esto_coded.specs.Coded.{Coded, IsCodeOf, AreCodesOf, AreTelling, StandFor, StandInOrder, facts_over, rows_in}
use Rattle.esto_coded.specs.Met.{StaysFor}
use Rattle.esto_coded.specs.Parted.{ArePart, ArePartBelow, GivesPart, asked_facts, fact_of, is_asked, kept_facts, term_of}
use Rattle.esto_rows.proofs.WantedLemmas.{among_each}
use Rattle.esto_coded.specs.Relations.{coded_of}
use Rattle.esto_coded.proofs.AnswerLemmas.{coded_rows, no_rows_at, terms_are}
use Rattle.esto_coded.proofs.StandLemmas.{one_codes}

-- ---- rows that stand in order

pub order_stands : (coded : Coded) (facts : List (Fact Term)) → StandInOrder coded facts → StandFor coded facts
order_stands coded facts order = record {
  has = λ fact inside. turned fact
      (zip_left (λ (fact : Fact Term) (codes : List ℕ). AreCodesOf coded.texts fact.terms codes) (facts_over fact.relation facts)
      (rows_in coded.relations fact.relation)
      (order fact.relation) fact (over_in fact inside));
  only = λ relation codes inside.
      let own = zip_right (λ (fact : Fact Term) (codes : List ℕ). AreCodesOf coded.texts fact.terms codes) (facts_over relation facts)
      (rows_in coded.relations relation)
      (order relation) codes inside in
      let among = Contains-filter_from (λ (fact : Fact Term). fact.relation == relation) facts own.0 own.1 in
      (own.0, among.0, (Decides-eqb own.0.relation relation).0 among.1, own.2);
}
  where
    over_in : (fact : Fact Term) → Contains facts fact → Contains (facts_over fact.relation facts) fact
    over_in fact inside =
        Contains-filter (λ (it : Fact Term). it.relation == fact.relation) facts fact inside ((Decides-eqb fact.relation fact.relation).1 refl)

    turned : (fact : Fact Term) → (codes : List ℕ) × Contains (rows_in coded.relations fact.relation) codes × AreCodesOf coded.texts fact.terms codes
        → (codes : List ℕ) × AreCodesOf coded.texts fact.terms codes × Contains (rows_in coded.relations fact.relation) codes
    turned fact (codes, inside, are) = (codes, are, inside)

pub gives_before : (old new : Coded) (rule : Rule) (answer : Option (List (Fact Term))) → StaysFor old new → GivesPart new rule answer
    → IfSome answer (λ part. (all : List (Fact Term)) → StandInOrder old all → IsPartFor rule all part)
gives_before old new rule (Some part) stays given = λ all order. given all (stays.ordered all order)
gives_before old new rule None stays given = tt

-- ---- the part, relation by relation

pub kept_none : (texts : List (List ℕ)) (codes : List ℕ) (number : ℕ) (row : List ℕ) (facts : List (Fact Term)) → are_among codes row ≡ false
    → facts ≡ facts ++ kept_facts texts codes number (row ∷ [])
kept_none texts codes number row facts told =
    sym (append-nil facts) ∙ ap (λ them. facts ++ map (fact_of texts number) them) (sym (ap (λ it. cond it (row ∷ []) []) told))

-- the same of the row at a place
pub kept_past : (texts : List (List ℕ)) (codes : List ℕ) (number : ℕ) (rows : List (List ℕ)) (at : ℕ) (facts : List (Fact Term)) (answer : Bool)
    → at < length rows → ((row : List ℕ) → slice_get rows at ≡ Some row → IsTrue (are_among codes row) → IsTrue answer) → answer ≡ false
    → (own : List ℕ) × (slice_get rows at ≡ Some own) × (facts ≡ facts ++ kept_facts texts codes number (own ∷ []))
kept_past texts codes number rows at facts answer within told is =
    let own = thing_at rows at within in
    (own.0, own.1, kept_none texts codes number own.0 facts (by (are_among codes own.0) (told own.0 own.1)))
  where
    by : (test : Bool) → (IsTrue test → IsTrue answer) → test ≡ false
    by true told = absurd (false≢true (sym is ∙ told refl))
    by false told = refl

pub kept_one : (texts : List (List ℕ)) (codes : List ℕ) (number : ℕ) (row : List ℕ) (facts : List (Fact Term)) (terms : List Term)
    → are_among codes row ≡ true
    → terms ≡ map (term_of texts) row
    → facts ++ record { relation = number; terms = terms } ∷ [] ≡ facts ++ kept_facts texts codes number (row ∷ [])
kept_one texts codes number row facts terms told are =
    ap (λ them. facts ++ record { relation = number; terms = them } ∷ []) are
    ∙ ap (λ them. facts ++ map (fact_of texts number) them) (sym (ap (λ it. cond it (row ∷ []) []) told))

pub kept_more : (texts : List (List ℕ)) (codes : List ℕ) (number : ℕ) (rows : List (List ℕ)) (at : ℕ) (first old new : List (Fact Term))
    → old ≡ first ++ kept_facts texts codes number (take at rows)
    → (own : List ℕ) × (slice_get rows at ≡ Some own) × (new ≡ old ++ kept_facts texts codes number (own ∷ []))
    → new ≡ first ++ kept_facts texts codes number (take (at + 1) rows)
kept_more texts codes number rows at first old new before (own, there, more) =
    more ∙ ap (λ them. them ++ kept_facts texts codes number (own ∷ [])) before
    ∙ append_assoc first (kept_facts texts codes number (take at rows)) (kept_facts texts codes number (own ∷ []))
    ∙ ap (λ them. first ++ them)
    (sym (map-append (fact_of texts number) (filter (are_among codes) (take at rows)) (filter (are_among codes) (own ∷ [])))
    ∙ ap (map (fact_of texts number)) (sym (filter-append (are_among codes) (take at rows) (own ∷ []))
    ∙ ap (filter (are_among codes)) (sym (take-there rows at own there))))

over_own : (texts : List (List ℕ)) (number : ℕ) (rows : List (List ℕ))
    → facts_over number (map (fact_of texts number) rows) ≡ map (fact_of texts number) rows
over_own texts number [] = refl
over_own texts number (row ∷ rows) =
    ap (λ it. cond it (fact_of texts number row ∷ facts_over number (map (fact_of texts number) rows))
    (facts_over number (map (fact_of texts number) rows)))
    ((Decides-eqb number number).1 refl)
    ∙ ap (λ them. fact_of texts number row ∷ them) (over_own texts number rows)

over_other : (texts : List (List ℕ)) (number other : ℕ) (rows : List (List ℕ)) → (other ≡ number → ⊥)
    → facts_over number (map (fact_of texts other) rows) ≡ []
over_other texts number other [] apart = refl
over_other texts number other (row ∷ rows) apart = by (other == number) refl (over_other texts number other rows apart)
  where
    by : (answer : Bool) → (other == number) ≡ answer → facts_over number (map (fact_of texts other) rows) ≡ []
        → facts_over number (map (fact_of texts other) (row ∷ rows)) ≡ []
    by true told none = absurd (apart ((Decides-eqb other number).0 told))
    by false told none =
        ap (λ it. cond it (fact_of texts other row ∷ facts_over number (map (fact_of texts other) rows))
        (facts_over number (map (fact_of texts other) rows))) told
        ∙ none

asked_own : (texts : List (List ℕ)) (atoms : List (Fact Term)) (codes : List ℕ) (number : ℕ) (rows : List (List ℕ))
    → facts_over number (asked_facts texts atoms codes number rows) ≡ asked_facts texts atoms codes number rows
asked_own texts atoms codes number rows = by (is_asked atoms number)
  where
    by : (answer : Bool) → facts_over number (cond answer (kept_facts texts codes number rows) []) ≡ cond answer (kept_facts texts codes number rows) []
    by true = over_own texts number (filter (are_among codes) rows)
    by false = refl

asked_other : (texts : List (List ℕ)) (atoms : List (Fact Term)) (codes : List ℕ) (number other : ℕ) (rows : List (List ℕ)) → (other ≡ number → ⊥)
    → facts_over number (asked_facts texts atoms codes other rows) ≡ []
asked_other texts atoms codes number other rows apart = by (is_asked atoms other)
  where
    by : (answer : Bool) → facts_over number (cond answer (kept_facts texts codes other rows) []) ≡ []
    by true = over_other texts number other (filter (are_among codes) rows) apart
    by false = refl

over_append : (number : ℕ) (facts more : List (Fact Term)) → facts_over number (facts ++ more) ≡ facts_over number facts ++ facts_over number more
over_append number facts more = filter-append (λ (fact : Fact Term). fact.relation == number) facts more

pub below_none : (texts : List (List ℕ)) (relations : List CodedRows) (atoms : List (Fact Term)) (codes : List ℕ)
    → ArePartBelow texts relations atoms codes 0 []
below_none texts relations atoms codes = record { below = λ number under. absurd (omega (arith, under)); past = λ number over. refl }

pub below_more : (texts : List (List ℕ)) (relations : List CodedRows) (atoms : List (Fact Term)) (codes : List ℕ) (count : ℕ) (old new : List (Fact Term))
    → ArePartBelow texts relations atoms codes count old → new ≡ old ++ asked_facts texts atoms codes count (rows_in relations count)
    → ArePartBelow texts relations atoms codes (count + 1) new
below_more texts relations atoms codes count old new before more = record {
  below = λ number under. ap (facts_over number) more ∙ over_append number old (asked_facts texts atoms codes count (rows_in relations count))
      ∙ elim (earlier_or_last number count under) [
        | inl early ↦
            (let none = asked_other texts atoms codes number count (rows_in relations count) (λ same. omega (arith, same, early)) in
            ap (λ them. facts_over number old ++ them) none ∙ append-nil (facts_over number old) ∙ before.below number early)
        | inr last ↦
            (let none = before.past number (omega (arith, last)) in
            ap (λ them. them ++ facts_over number (asked_facts texts atoms codes count (rows_in relations count))) none
            ∙ subst (λ it. facts_over it (asked_facts texts atoms codes count (rows_in relations count)) ≡ asked_facts texts atoms codes it
            (rows_in relations it)) (sym last)
            (asked_own texts atoms codes count (rows_in relations count)))
      ];
  past = λ number over.
      ap (facts_over number) more ∙ over_append number old (asked_facts texts atoms codes count (rows_in relations count))
      ∙ ap (λ them. them ++ facts_over number (asked_facts texts atoms codes count (rows_in relations count))) (before.past number (omega (arith, over)))
      ∙ asked_other texts atoms codes number count (rows_in relations count) (λ same. omega (arith, same, over));
}

pub asked_none : (texts : List (List ℕ)) (atoms : List (Fact Term)) (codes : List ℕ) (number : ℕ) (rows : List (List ℕ)) (facts : List (Fact Term))
    → is_asked atoms number ≡ false → facts ≡ facts ++ asked_facts texts atoms codes number rows
asked_none texts atoms codes number rows facts told =
    sym (append-nil facts) ∙ ap (λ answer. facts ++ cond answer (kept_facts texts codes number rows) []) (sym told)

pub asked_some : (texts : List (List ℕ)) (atoms : List (Fact Term)) (codes : List ℕ) (number : ℕ) (rows : List (List ℕ)) (facts : List (Fact Term))
    → is_asked atoms number ≡ true → facts ++ kept_facts texts codes number rows ≡ facts ++ asked_facts texts atoms codes number rows
asked_some texts atoms codes number rows facts told = ap (λ answer. facts ++ cond answer (kept_facts texts codes number rows) []) (sym told)

-- when all relations have come
pub below_all : (texts : List (List ℕ)) (relations : List StoredRows) (atoms : List (Fact Term)) (codes : List ℕ) (count : ℕ) (facts : List (Fact Term))
    → length relations ≤ count → ArePartBelow texts (coded_rows relations) atoms codes count facts → ArePart (coded_of texts relations) atoms codes facts
below_all texts relations atoms codes count facts past before number = elim (cases_lt number count) [
  | inl under ↦ before.below number under
  | inr over ↦
      before.past number over
      ∙ sym (ap (asked_facts texts atoms codes number) (no_rows_at relations number (outside relations number (omega (arith, past, over))))
      ∙ nothing (is_asked atoms number))
]
  where
    outside : (them : List StoredRows) (place : ℕ) → length them ≤ place → slice_get them place ≡ None
    outside them place far = elim (slice_get_cases them place).1 [
      | inl (it, inside, found, is) ↦ absurd (omega (arith, inside, far))
      | inr (beyond, none) ↦ none
    ]

    nothing : (answer : Bool) → cond answer (kept_facts texts codes number []) [] ≡ []
    nothing true = refl
    nothing false = refl

-- ---- one before another

module _ {X : Type 0} where
  before_here : (first one other : X) (rest : List X) → first ≡ one → (first ≡ other → ⊥) → StandsBefore (first ∷ rest) one other
  before_here first one other rest is apart = (zero, ap Some is, λ later there. past later there)
    where
      past : (later : ℕ) → slice_get (first ∷ rest) later ≡ Some other → zero < later
      past zero there = absurd (apart (same_Some first other there))
      past (suc later) there = omega arith

  before_there : (first one other : X) (rest : List X) → (first ≡ other → ⊥) → StandsBefore rest one other → StandsBefore (first ∷ rest) one other
  before_there first one other rest apart (place, at, last) = (suc place, at, past)
    where
      past : (later : ℕ) → slice_get (first ∷ rest) later ≡ Some other → suc place < later
      past zero there = absurd (apart (same_Some first other there))
      past (suc later) there = let under = last later there in omega (arith, under)

  before_cases : (first one other : X) (rest : List X) → StandsBefore (first ∷ rest) one other
      → (first ≡ other → ⊥) × ((first ≡ one) ⊎ StandsBefore rest one other)
  before_cases first one other rest (zero, at, last) =
      ((λ same. let under = last zero (ap Some same) in omega (arith, under)), inl (same_Some first one at))
  before_cases first one other rest (suc place, at, last) = (
    (λ same. let under = last zero (ap Some same) in omega (arith, under)),
    inr (place, at, λ later there. let under = last (suc later) there in omega (arith, under)),
  )

  before_nothing : (one other : X) → StandsBefore [] one other → ⊥
  before_nothing one other (place, at, last) = Contains-nil one (Contains-at [] place one at)

  -- a thing that passes a test is kept, and one that doesn't is not
  kept_first : (test : X → Bool) (first : X) (rest : List X) → test first ≡ true → filter test (first ∷ rest) ≡ first ∷ filter test rest
  kept_first test first rest told = ap (λ it. cond it (first ∷ filter test rest) (filter test rest)) told

  kept_rest : (test : X → Bool) (first : X) (rest : List X) → test first ≡ false → filter test (first ∷ rest) ≡ filter test rest
  kept_rest test first rest told = ap (λ it. cond it (first ∷ filter test rest) (filter test rest)) told

  -- among those of the things that pass a test, and among all
  before_filtered : (test : X → Bool) (things : List X) (one other : X) → test one ≡ true → StandsBefore things one other
      → StandsBefore (filter test things) one other
  before_filtered test [] one other passes before = absurd (before_nothing one other before)
  before_filtered test (first ∷ rest) one other passes before =
      by (test first) refl (before_cases first one other rest before) (λ later. before_filtered test rest one other passes later)
    where
      by : (answer : Bool) → test first ≡ answer → (first ≡ other → ⊥) × ((first ≡ one) ⊎ StandsBefore rest one other)
          → (StandsBefore rest one other → StandsBefore (filter test rest) one other) → StandsBefore (filter test (first ∷ rest)) one other
      by true told (apart, inl same) next =
          subst (λ them. StandsBefore them one other) (sym (kept_first test first rest told)) (before_here first one other (filter test rest) same apart)
      by true told (apart, inr later) next =
          subst (λ them. StandsBefore them one other) (sym (kept_first test first rest told))
          (before_there first one other (filter test rest) apart (next later))
      by false told (apart, inl same) next = absurd (false≢true (sym told ∙ ap test same ∙ passes))
      by false told (apart, inr later) next = subst (λ them. StandsBefore them one other) (sym (kept_rest test first rest told)) (next later)

  before_unfiltered : (test : X → Bool) (things : List X) (one other : X) → test other ≡ true → StandsBefore (filter test things) one other
      → StandsBefore things one other
  before_unfiltered test [] one other passes before = absurd (before_nothing one other before)
  before_unfiltered test (first ∷ rest) one other passes before = by (test first) refl before (λ later. before_unfiltered test rest one other passes later)
    where
      put : (first ≡ other → ⊥) × ((first ≡ one) ⊎ StandsBefore (filter test rest) one other)
          → (StandsBefore (filter test rest) one other → StandsBefore rest one other) → StandsBefore (first ∷ rest) one other
      put (apart, inl same) next = before_here first one other rest same apart
      put (apart, inr later) next = before_there first one other rest apart (next later)

      by : (answer : Bool) → test first ≡ answer → StandsBefore (filter test (first ∷ rest)) one other
          → (StandsBefore (filter test rest) one other → StandsBefore rest one other) → StandsBefore (first ∷ rest) one other
      by true told given next =
          put (before_cases first one other (filter test rest) (subst (λ them. StandsBefore them one other) (kept_first test first rest told) given)) next
      by false told given next = before_there first one other rest (λ same. false≢true (sym told ∙ ap test same ∙ passes))
          (next (subst (λ them. StandsBefore them one other) (kept_rest test first rest told) given))

-- the same of what is made of things, where nothing else makes the other
module _ {X Y : Type 0} (m : X → Y) (test : X → Bool) (one other : Y) where
  before_made : (things : List X) → ((thing : X) → Contains things thing → m thing ≡ other → test thing ≡ true)
      → StandsBefore (map m (filter test things)) one other → StandsBefore (map m things) one other
  before_made [] told before = before
  before_made (first ∷ rest) told before =
      by (test first) refl before (λ later. before_made rest (λ thing inside. told thing (Contains-rest first rest thing inside)) later)
    where
      put : (m first ≡ other → ⊥) × ((m first ≡ one) ⊎ StandsBefore (map m (filter test rest)) one other)
          → (StandsBefore (map m (filter test rest)) one other → StandsBefore (map m rest) one other) → StandsBefore (map m (first ∷ rest)) one other
      put (apart, inl same) next = before_here (m first) one other (map m rest) same apart
      put (apart, inr later) next = before_there (m first) one other (map m rest) apart (next later)

      by : (answer : Bool) → test first ≡ answer → StandsBefore (map m (filter test (first ∷ rest))) one other
          → (StandsBefore (map m (filter test rest)) one other → StandsBefore (map m rest) one other) → StandsBefore (map m (first ∷ rest)) one other
      by true is given next = put (before_cases (m first) one other (map m (filter test rest))
          (subst (λ them. StandsBefore (map m them) one other) (kept_first test first rest is) given)) next
      by false is given next = before_there (m first) one other (map m rest) (λ same. false≢true (sym is ∙ told first (Contains-head first rest) same))
          (next (subst (λ them. StandsBefore (map m them) one other) (kept_rest test first rest is) given))

-- ---- the part is one for the rule

module _ (coded : Coded) (tell : AreTelling coded.texts) (all part : List (Fact Term)) (order : StandInOrder coded all) (atoms : List (Fact Term))
    (codes : List ℕ)
    (are : ArePart coded atoms codes part) where
  abbrev rows : ℕ → List (List ℕ)
  rows number = rows_in coded.relations number

  stand : StandFor coded all
  stand = order_stands coded all order

  same_relation : (number : ℕ) (fact : Fact Term) → fact.relation ≡ number → (fact.relation == number) ≡ true
  same_relation number fact same = (Decides-eqb fact.relation number).1 same

  is_fact : (number : ℕ) (fact : Fact Term) (row : List ℕ) → fact.relation ≡ number → AreCodesOf coded.texts fact.terms row
      → fact ≡ fact_of coded.texts number row
  is_fact number fact row same codes_are =
      let terms = sym (terms_are coded.texts tell fact.terms row codes_are) in λ i. record { relation = same i; terms = terms i }

  over_is : (number : ℕ) → facts_over number all ≡ map (fact_of coded.texts number) (rows number)
  over_is number = made (facts_over number all) (rows number) (order number)
      (λ fact inside. (Decides-eqb fact.relation number).0 (Contains-filter_from (λ (it : Fact Term). it.relation == number) all fact inside).1)
    where
      made : (facts : List (Fact Term)) (list : List (List ℕ))
          → AllZip (λ (fact : Fact Term) (row : List ℕ). AreCodesOf coded.texts fact.terms row) facts list
          → ((fact : Fact Term) → Contains facts fact → fact.relation ≡ number) → facts ≡ map (fact_of coded.texts number) list
      made [] [] zip same = refl
      made [] (row ∷ list) zip same = absurd zip
      made (fact ∷ facts) [] zip same = absurd zip
      made (fact ∷ facts) (row ∷ list) zip same =
          let first = is_fact number fact row (same fact (Contains-head fact facts)) zip.0 in
          let rest = made facts list zip.1 (λ other inside. same other (Contains-rest fact facts other inside)) in λ i. first i ∷ rest i

  -- a fact of the part is that of a row all of whose codes are among the codes
  record IsKept (fact : Fact Term) : Type 0 where
    row : List ℕ
    inside : Contains (rows fact.relation) row
    told : are_among codes row ≡ true
    is : fact_of coded.texts fact.relation row ≡ fact

  in_part : (fact : Fact Term) → Contains part fact → IsKept fact
  in_part fact inside = by (is_asked atoms fact.relation) (subst (λ them. Contains them fact) (are fact.relation)
      (Contains-filter (λ (it : Fact Term). it.relation == fact.relation) part fact inside (same_relation fact.relation fact refl)))
    where
      by : (answer : Bool) → Contains (cond answer (kept_facts coded.texts codes fact.relation (rows fact.relation)) []) fact → IsKept fact
      by true among =
          let own = Contains-map_from (fact_of coded.texts fact.relation) (filter (are_among codes) (rows fact.relation)) fact among in
          let row = Contains-filter_from (are_among codes) (rows fact.relation) own.0 own.1 in
          record { row = own.0; inside = row.0; told = row.1; is = own.2 }
      by false among = absurd (Contains-nil fact among)

  row_among : (number : ℕ) (row : List ℕ) → Contains (rows number) row → Contains all (fact_of coded.texts number row)
  row_among number row inside =
      (Contains-filter_from (λ (it : Fact Term). it.relation == number) all (fact_of coded.texts number row)
      (subst (λ them. Contains them (fact_of coded.texts number row)) (sym (over_is number))
      (Contains-map (fact_of coded.texts number) (rows number) row inside))).0

  part_among : (fact : Fact Term) → Contains part fact → Contains all fact
  part_among fact inside = let own = in_part fact inside in subst (Contains all) own.is (row_among fact.relation own.row own.inside)

  -- a row that makes a fact of the part is among the codes
  told_row : (other : Fact Term) → Contains part other → (row : List ℕ) → Contains (rows other.relation) row
      → fact_of coded.texts other.relation row ≡ other
      → are_among codes row ≡ true
  told_row other inside row among makes =
      let own = in_part other inside in
      let one = stand.only other.relation row among in
      let two = stand.only other.relation own.row own.inside in
      let one_terms : one.0.terms ≡ other.terms = sym (terms_are coded.texts tell one.0.terms row one.3) ∙ ap (λ (it : Fact Term). it.terms) makes in
      let two_terms : two.0.terms ≡ other.terms = sym (terms_are coded.texts tell two.0.terms own.row two.3) ∙ ap (λ (it : Fact Term). it.terms) own.is in
      let same : own.row ≡ row = one_codes coded.texts tell.distinct other.terms own.row row
      (subst (λ terms. AreCodesOf coded.texts terms own.row) two_terms two.3) (subst (λ terms. AreCodesOf coded.texts terms row) one_terms one.3) in
      subst (λ it. are_among codes it ≡ true) same own.told

  part_in_order : (one other : Fact Term) → one.relation ≡ other.relation → Contains part other → StandsBefore part one other → StandsBefore all one other
  part_in_order one other same inside before =
      by (is_asked atoms other.relation) (subst (λ them. StandsBefore them one other) (are other.relation)
      (before_filtered (λ (it : Fact Term). it.relation == other.relation) part one other (same_relation other.relation one same) before))
    where
      by : (answer : Bool) → StandsBefore (cond answer (kept_facts coded.texts codes other.relation (rows other.relation)) []) one other
          → StandsBefore all one other
      by true kept = before_unfiltered (λ (it : Fact Term). it.relation == other.relation) all one other (same_relation other.relation other refl)
          (subst (λ them. StandsBefore them one other) (sym (over_is other.relation))
          (before_made (fact_of coded.texts other.relation) (are_among codes) one other (rows other.relation) (told_row other inside) kept))
      by false none = absurd (before_nothing one other none)

  asked_atom : (them : List (Fact Term)) (atom : Fact Term) → Contains them atom → is_asked them atom.relation ≡ true
  asked_atom [] atom inside = absurd (Contains-nil atom inside)
  asked_atom (first ∷ rest) atom inside = elim (Contains-cases first rest atom inside) [
    | inl same ↦
        ap (λ it. it || is_asked rest atom.relation) ((Decides-eqb first.relation atom.relation).1 (ap (λ (it : Fact Term). it.relation) same))
    | inr later ↦ ap (λ it. nat_eq first.relation atom.relation || it) (asked_atom rest atom later) ∙ or_true (nat_eq first.relation atom.relation)
  ]
    where
      or_true : (answer : Bool) → (answer || true) ≡ true
      or_true true = refl
      or_true false = refl

  -- a row of a relation that is asked is in the part, if all its codes are among the codes
  part_has : (atom : Fact Term) → Contains atoms atom → (fact : Fact Term) → fact.relation ≡ atom.relation → (row : List ℕ)
      → Contains (rows fact.relation) row
      → AreCodesOf coded.texts fact.terms row → are_among codes row ≡ true → Contains part fact
  part_has atom inside fact same row among codes_are told =
      let kept : Contains (kept_facts coded.texts codes fact.relation (rows fact.relation)) fact =
      subst (Contains (kept_facts coded.texts codes fact.relation (rows fact.relation))) (sym (is_fact fact.relation fact row refl codes_are))
      (Contains-map (fact_of coded.texts fact.relation) (filter (are_among codes) (rows fact.relation)) row
      (Contains-filter (are_among codes) (rows fact.relation) row among told)) in
      let asked : is_asked atoms fact.relation ≡ true = ap (is_asked atoms) same ∙ asked_atom atoms atom inside in
      (Contains-filter_from (λ (it : Fact Term). it.relation == fact.relation) part fact
      (subst (λ them. Contains them fact) (sym (are fact.relation))
      (subst (λ answer. Contains (cond answer (kept_facts coded.texts codes fact.relation (rows fact.relation)) []) fact) (sym asked) kept))).0

  -- what a match makes of an atom, if the codes have its terms'
  sent_in : (m : Term → Term) → Sends m atoms all
      → ((term : Term) → Mentions atoms term → (code : ℕ) → IsCodeOf coded.texts (m term) code → IsTrue (is_member nat_eq codes code))
      → SendsInto m atoms (Contains part)
  sent_in m sends have atom inside =
      let own = stand.has (image m atom) (sends atom inside) in
      part_has atom inside (image m atom) refl own.0 own.2 own.1 (among_each codes own.0 (λ code among.
      let found = zip_right (IsCodeOf coded.texts) (map m atom.terms) own.0 own.1 code among in
      let term = Contains-map_from m atom.terms found.0 found.1 in
      have term.0 (atom, inside, term.1) code (subst (λ it. IsCodeOf coded.texts it code) (sym term.2) found.2)))

  part_is : (rule : Rule) → atoms ≡ body_of rule → HaveActive coded rule codes
      → ((m : Term → Term) → Concludes Const ◌≡◌ (Contains all) rule m → Concludes Const ◌≡◌ (Contains part) rule m) → IsPartFor rule all part
  part_is rule body have concluded = record {
    among = part_among;
    in_order = part_in_order;
    active = λ m places is.
        let sends : Sends m (body_of rule) all = λ atom inside.
        (let found = zip_left (λ (it : Fact Term) (place : ℕ). slice_get all place ≡ Some (image m it)) (body_of rule) places is.matches atom inside in
        Contains-at all found.0 (image m atom) found.2) in
        subst (λ them. SendsInto m them (Contains part)) body
        (sent_in m (subst (λ them. Sends m them all) (sym body) sends) (λ term mentioned code stands.
        have all stand m is.keeps sends is.active term (subst (λ them. Mentions them term) body mentioned) code stands));
    concluded = λ m keeps sends. concluded m;
  }

-- what is made where the codes of active matches are known
pub equality_gives : (coded : Coded) (body : List (Fact Term)) (left right : Term) (codes : List ℕ) (answer : Option (List (Fact Term)))
    → AreTelling coded.texts
    → HaveActive coded (equality body left right) codes → IfSome answer (ArePart coded body codes) → GivesPart coded (equality body left right) answer
equality_gives coded body left right codes (Some part) tell have are =
    λ all order. part_is coded tell all part order body codes are (equality body left right) refl have (λ m so. so)
equality_gives coded body left right codes None tell have are = tt
