-- An audit comes to one end, and it rests on the sets of rows alone.
use Rattle.std.proofs.Common.{◌≡◌, ◌≢◌, ◌↔◌, inl, inr, ℕ, suc, ◌<◌, List, take, map, Option, None, Some, slice_get, Contains, refl, sym, ap, ◌∙◌, subst}
use Rattle.std.specs.Prelude.{filter}
use Rattle.std.specs.Cmp.Lexicographic.{slice_cmp}
use Rattle.std.specs.Ordering.{nat_cmp}
use Rattle.std.specs.declared.cmp.Ordering.{Ordering}
use Rattle.std.specs.declared.cmp.Ordering.TheVariants.{Greater}
use Rattle.std.proofs.lemmas.Bool.{cases_order}
use Rattle.std.proofs.lemmas.Cmp.{nat_list_cmp_total}
use Rattle.std.proofs.lemmas.Option.{same_Some}
use Rattle.std.proofs.lemmas.Map.Lookups.{exact_bytes}
use Rattle.esto_steps.specs.Rows.{IsRowOf, held_by}
use Rattle.esto_query.proofs.MatchLemmas.{images_same}
use Rattle.esto_query.specs.declared.query.Name.{Name}
use Rattle.esto_docs.specs.Stores.{IsFileRow}
use Rattle.esto_semantics.specs.Facts.{terms_of}
use Rattle.esto_semantics.specs.Maps.{AreFlat}
use Rattle.esto_semantics.specs.Matches.{IsActive, IsAtMost, IsMatch}
use Rattle.esto_semantics.specs.Queries.{ConjunctiveQuery}
use Rattle.esto_semantics.specs.Rules.{Rule, AreRules, body_of, Meets, AreMet}
use Rattle.esto_semantics.specs.Standing.{RulesStand}
use Rattle.esto_semantics.specs.declared.fact.Fact.{Fact}
use Rattle.esto_semantics.specs.declared.fact.Value.TheVariants.{Text}
use Rattle.esto_semantics.proofs.FactLemmas.{Sends-match}
use Rattle.esto_semantics.proofs.ValueLemmas.{same_texts}
use Rattle.esto_stores.specs.Rows.{Row}
use Rattle.esto_term.specs.declared.term.Term.{Term}
use Rattle.esto_term.proofs.ListLemmas.{Contains-at, Contains-flat_from, Contains-filter_from, agree-from_map, map_agree}
use Rattle.esto_term.proofs.PlaceLemmas.{Contains-take}
use Rattle.esto_term.proofs.TotalOrderLemmas.{at_most_both}
use Rattle.esto_fill.specs.Databases.{database_of}
use Rattle.esto_fill.specs.Differences.{AreOne, Audits, HoldViewRows, IsFirstApart, IsFirstBroken, IsInOne, IsOfView, at}
use Rattle.esto_fill.specs.Laws.{AuditsAreOne, AuditsAreOverFiles}
use Rattle.esto_fill.specs.Records.{IsRecordOf, cell_of, is_named, one_at_least}
use Rattle.esto_ports.specs.declared.difference.Difference.{Difference}
use Rattle.esto_ports.specs.declared.difference.Difference.TheVariants.{Rule as Broken, Missing, Extra}
use Rattle.esto_fill.proofs.DifferenceLemmas.{apart_same, first_rules, meets_met}
use Rattle.esto_fill.proofs.LawLemmas.{once_one}
use Rattle.esto_fill.proofs.OrderLemmas.{texts_exact, texts_total}
use Rattle.esto_fill.proofs.ValueLemmas.{facts_stand}

-- ---- the rules

module _ (rules : List Rule) (names : List (List Name)) (facts : List (Fact Term)) where
  -- facts that meet the rules break none
  broken_unmet : (number : ℕ) (cells : Row) → AreMet facts rules → IsFirstBroken rules names facts number cells → ⊥
  broken_unmet number cells met broken =
      broken.active.active (met broken.rule (Contains-at rules broken.place broken.rule broken.there) broken.m broken.active.keeps
      (Sends-match broken.m (body_of broken.rule) facts broken.places broken.active.matches))

  -- nor one before the first
  broken_before : (stand : RulesStand) (are : AreRules rules) (flat : AreFlat facts) (number other : ℕ) (cells its : Row)
      (one : IsFirstBroken rules names facts number cells) (two : IsFirstBroken rules names facts other its) → one.place < two.place → ⊥
  broken_before stand are flat number other cells its one two less =
      let met = meets_met stand facts (facts_stand facts flat) (take two.place rules) (first_rules rules two.place are) two.before in
      one.active.active (met one.rule (Contains-take rules two.place one.place one.rule less one.there) one.m one.active.keeps
      (Sends-match one.m (body_of one.rule) facts one.places one.active.matches))

  -- the record of a match rests on its places
  records_one : (body : List (Fact Term)) (own : List Name) (m other : Term → Term) (places : List ℕ) (cells its : Row) → IsMatch m body facts places
      → IsMatch other body facts places → IsRecordOf own body m cells → IsRecordOf own body other its → cells ≡ its
  records_one body own m other places cells its match too (variables, once, is) (others, also, are) =
      is ∙ ap one_at_least (ap (map (λ variable. cell_of (m variable))) (once_one (filter (is_named own) (terms_of body)) variables others once also)
      ∙ map_agree (λ variable. cell_of (m variable)) (λ variable. cell_of (other variable)) others (λ variable inside. ap cell_of (agree variable inside)))
      ∙ sym are
    where
      agree : (variable : Term) → Contains others variable → m variable ≡ other variable
      agree variable inside =
          let among = Contains-filter_from (is_named own) (terms_of body) variable ((also.same variable).0 inside) in
          let atom = Contains-flat_from (λ (fact : Fact Term). fact.terms) body variable among.0 in
          agree-from_map m other atom.0.terms variable
          (ap (λ (it : Fact Term). it.terms) (images_same m other body facts places match too atom.0 atom.1)) atom.2

  broken_one : (stand : RulesStand) (are : AreRules rules) (flat : AreFlat facts) (number other : ℕ) (cells its : Row)
      → IsFirstBroken rules names facts number cells → IsFirstBroken rules names facts other its → (number ≡ other) × (cells ≡ its)
  broken_one stand are flat number other cells its one two = elim (cases_order one.place two.place) [
    | inl is ↦
        let same : one.rule ≡ two.rule = same_Some one.rule two.rule (sym one.there ∙ ap (slice_get rules) is ∙ two.there) in
        let own : one.own ≡ two.own = same_Some one.own two.own (sym one.named ∙ ap (slice_get names) is ∙ two.named) in
        let active = subst (λ (it : Rule). IsActive it facts one.m one.places) same one.active in
        let least = subst (λ (it : Rule). (m : Term → Term) (others : List ℕ) → IsActive it facts m others → IsAtMost one.places others) same one.least in
        let places : one.places ≡ two.places =
        at_most_both (slice_cmp nat_cmp) nat_list_cmp_total exact_bytes one.places two.places (least two.m two.places two.active)
        (two.least one.m one.places active) in (
          one.counted ∙ ap suc is ∙ sym two.counted,
          records_one (body_of two.rule) two.own one.m two.m two.places cells its
              (subst (IsMatch one.m (body_of two.rule) facts) places active.matches) two.active.matches
              (subst (λ (it : Rule). IsRecordOf two.own (body_of it) one.m cells) same
              (subst (λ those. IsRecordOf those (body_of one.rule) one.m cells) own one.shown))
              two.shown,
        )
    | inr (inl less) ↦ absurd (broken_before stand are flat number other cells its one two less)
    | inr (inr more) ↦ absurd (broken_before stand are flat other number its cells two one more)
  ]

-- ---- the rows

abbrev texts_cmp : Row → Row → Ordering
texts_cmp = slice_cmp (slice_cmp nat_cmp)

turned : (One Other : Row → Type 0) (row : Row) → IsInOne One Other row → IsInOne Other One row
turned One Other row (inl found) = inr found
turned One Other row (inr found) = inl found

module _ (names : List (List ℕ)) (First Second : ℕ → Row → Type 0) where
  -- the first fragment at which the two are apart, whichever has the least row
  record IsEnd (name : List ℕ) (row : Row) : Type 0 where
    number : ℕ
    named : slice_get names number ≡ Some name
    in_one : IsInOne (First number) (Second number) row
    least : (other : Row) → IsInOne (First number) (Second number) other → texts_cmp row other ≢ Greater
    before : (earlier : ℕ) → earlier < number → AreOne (First earlier) (Second earlier)

  end_first : (name : List ℕ) (row : Row) → IsFirstApart names First Second name row → IsEnd name row
  end_first name row apart = record {
    number = apart.number;
    named = apart.named;
    in_one = inl (apart.apart.inside, apart.apart.outside);
    least = apart.apart.least;
    before = apart.before;
  }

  end_second : (name : List ℕ) (row : Row) → IsFirstApart names Second First name row → IsEnd name row
  end_second name row apart = record {
    number = apart.number;
    named = apart.named;
    in_one = inr (apart.apart.inside, apart.apart.outside);
    least = λ other differs. apart.apart.least other (turned (First apart.number) (Second apart.number) other differs);
    before = λ earlier less it. ((apart.before earlier less it).1, (apart.before earlier less it).0);
  }

  no_apart : (number : ℕ) (row : Row) → AreOne (First number) (Second number) → IsInOne (First number) (Second number) row → ⊥
  no_apart number row same (inl (inside, apart)) = apart ((same row).0 inside)
  no_apart number row same (inr (inside, apart)) = apart ((same row).1 inside)

  ends_one : (name other : List ℕ) (row its : Row) (one : IsEnd name row) (two : IsEnd other its) → (one.number ≡ two.number) × (name ≡ other) × (row ≡ its)
  ends_one name other row its one two = elim (cases_order one.number two.number) [
    | inl is ↦ (
      is,
      same_Some name other (sym one.named ∙ ap (slice_get names) is ∙ two.named),
      at_most_both texts_cmp texts_total texts_exact row its
          (one.least its (subst (λ n. IsInOne (First n) (Second n) its) (sym is) two.in_one))
          (two.least row (subst (λ n. IsInOne (First n) (Second n) row) is one.in_one)),
    )
    | inr (inl less) ↦ absurd (no_apart one.number row (two.before one.number less) one.in_one)
    | inr (inr more) ↦ absurd (no_apart two.number its (one.before two.number more) two.in_one)
  ]

-- ---- one end

module _ (stand : RulesStand) (rules : List Rule) (names : List (List Name)) (fragments : List (List ℕ)) (views : List ConjunctiveQuery)
    (facts : List (Fact Term)) (are : AreRules rules) (flat : AreFlat facts) (Holds : Fact (List ℕ) → Type 0) where
  abbrev OfView : ℕ → Row → Type 0
  OfView = IsOfView views (database_of facts)

  abbrev OfFile : ℕ → Row → Type 0
  OfFile number row = Holds (at number row)

  met : Meets rules (database_of facts) → AreMet facts rules
  met = meets_met stand facts (facts_stand facts flat) rules are

  -- fragments that hold their views' rows are not apart
  rows_one : HoldViewRows views (database_of facts) Holds → (number : ℕ) → AreOne (OfView number) (OfFile number)
  rows_one hold number row = (
    (λ inside. let found = (hold (record { relation = number; terms = map Text row })).0 inside in
        subst (λ it. Holds (at number it)) (sym (same_texts row found.0 found.2)) found.1),
    (λ inside. (hold (record { relation = number; terms = map Text row })).1 (row, inside, refl)),
  )

  pub end_one : (result other : Option Difference) → Audits rules names fragments views facts Holds result
      → Audits rules names fragments views facts Holds other → result ≡ other
  unfolding end_first end_second
  end_one None None one two = refl
  end_one None (Some (Broken number cells)) one two = absurd (broken_unmet rules names facts number cells (met one.meets) two)
  end_one None (Some (Missing name row)) one (meets, apart) =
      absurd (no_apart fragments OfView OfFile apart.number row (rows_one one.rows apart.number) (inl (apart.apart.inside, apart.apart.outside)))
  end_one None (Some (Extra name row)) one (meets, apart) =
      absurd (no_apart fragments OfView OfFile apart.number row (rows_one one.rows apart.number) (inr (apart.apart.inside, apart.apart.outside)))
  end_one (Some (Broken number cells)) None one two = absurd (broken_unmet rules names facts number cells (met two.meets) one)
  end_one (Some (Missing name row)) None (meets, apart) two =
      absurd (no_apart fragments OfView OfFile apart.number row (rows_one two.rows apart.number) (inl (apart.apart.inside, apart.apart.outside)))
  end_one (Some (Extra name row)) None (meets, apart) two =
      absurd (no_apart fragments OfView OfFile apart.number row (rows_one two.rows apart.number) (inr (apart.apart.inside, apart.apart.outside)))
  end_one (Some (Broken number cells)) (Some (Broken other its)) one two =
      let same = broken_one rules names facts stand are flat number other cells its one two in
      ap (λ n. Some (Broken n cells)) same.0 ∙ ap (λ those. Some (Broken other those)) same.1
  end_one (Some (Broken number cells)) (Some (Missing name row)) one (meets, apart) = absurd (broken_unmet rules names facts number cells (met meets) one)
  end_one (Some (Broken number cells)) (Some (Extra name row)) one (meets, apart) = absurd (broken_unmet rules names facts number cells (met meets) one)
  end_one (Some (Missing name row)) (Some (Broken number cells)) (meets, apart) two = absurd (broken_unmet rules names facts number cells (met meets) two)
  end_one (Some (Extra name row)) (Some (Broken number cells)) (meets, apart) two = absurd (broken_unmet rules names facts number cells (met meets) two)
  end_one (Some (Missing name row)) (Some (Missing other its)) (meets, apart) (too, also) =
      let same = ends_one fragments OfView OfFile name other row its (end_first fragments OfView OfFile name row apart)
      (end_first fragments OfView OfFile other its also) in
      ap (λ it. Some (Missing it row)) same.1 ∙ ap (λ it. Some (Missing other it)) same.2
  end_one (Some (Extra name row)) (Some (Extra other its)) (meets, apart) (too, also) =
      let same = ends_one fragments OfView OfFile name other row its (end_second fragments OfView OfFile name row apart)
      (end_second fragments OfView OfFile other its also) in
      ap (λ it. Some (Extra it row)) same.1 ∙ ap (λ it. Some (Extra other it)) same.2
  end_one (Some (Missing name row)) (Some (Extra other its)) (meets, apart) (too, also) =
      let same = ends_one fragments OfView OfFile name other row its (end_first fragments OfView OfFile name row apart)
      (end_second fragments OfView OfFile other its also) in
      absurd (also.apart.outside (subst (OfView also.number) same.2 (subst (λ n. OfView n row) same.0 apart.apart.inside)))
  end_one (Some (Extra name row)) (Some (Missing other its)) (meets, apart) (too, also) =
      let same = ends_one fragments OfView OfFile name other row its (end_second fragments OfView OfFile name row apart)
      (end_first fragments OfView OfFile other its also) in
      absurd (also.apart.outside (subst (OfFile also.number) same.2 (subst (λ n. OfFile n row) same.0 apart.apart.inside)))

-- ---- the same sets of rows

module _ (rules : List Rule) (names : List (List Name)) (fragments : List (List ℕ)) (views : List ConjunctiveQuery) (facts : List (Fact Term))
    (Holds Others : Fact (List ℕ) → Type 0) (same : (fact : Fact (List ℕ)) → Holds fact ↔ Others fact) where
  itself : (number : ℕ) → AreOne (IsOfView views (database_of facts) number) (IsOfView views (database_of facts) number)
  itself number row = ((λ inside. inside), (λ inside. inside))

  first_same : (First Second Firsts Seconds : ℕ → Row → Type 0) → ((number : ℕ) → AreOne (First number) (Firsts number))
      → ((number : ℕ) → AreOne (Second number) (Seconds number)) → (name : List ℕ) (row : Row) → IsFirstApart fragments First Second name row
      → IsFirstApart fragments Firsts Seconds name row
  first_same First Second Firsts Seconds one two name row apart = record {
    number = apart.number;
    named = apart.named;
    apart = apart_same (First apart.number) (Second apart.number) (Firsts apart.number) (Seconds apart.number) (one apart.number) (two apart.number) row
        apart.apart;
    before = λ earlier less it. (
      (λ inside. (two earlier it).0 ((apart.before earlier less it).0 ((one earlier it).1 inside))),
      (λ inside. (one earlier it).0 ((apart.before earlier less it).1 ((two earlier it).1 inside))),
    );
  }

  pub audits_same : (result : Option Difference) → Audits rules names fragments views facts Holds result → Audits rules names fragments views facts Others
      result
  audits_same None agree = record {
    meets = agree.meets;
    rows = λ fact. (
      (λ inside. let found = (agree.rows fact).0 inside in (found.0, (same (at fact.relation found.0)).0 found.1, found.2)),
      (λ (row, inside, is). (agree.rows fact).1 (row, (same (at fact.relation row)).1 inside, is)),
    );
  }
  audits_same (Some (Broken number cells)) broken = broken
  audits_same (Some (Missing name row)) (meets, apart) = (
    meets,
    first_same (IsOfView views (database_of facts)) (λ number it. Holds (at number it)) (IsOfView views (database_of facts))
        (λ number it. Others (at number it))
        itself (λ number it. same (at number it)) name row apart,
  )
  audits_same (Some (Extra name row)) (meets, apart) = (
    meets,
    first_same (λ number it. Holds (at number it)) (IsOfView views (database_of facts)) (λ number it. Others (at number it))
        (IsOfView views (database_of facts))
        (λ number it. same (at number it)) itself name row apart,
  )

pub audits_are_over_files : AuditsAreOverFiles
audits_are_over_files rules names fragments views facts stores files rows result same = (
  audits_same rules names fragments views facts (IsRowOf (held_by rows)) (IsFileRow stores files) same result,
  audits_same rules names fragments views facts (IsFileRow stores files) (IsRowOf (held_by rows)) (λ fact. ((same fact).1, (same fact).0)) result,
)

pub audits_are_one : (stand : RulesStand) → AuditsAreOne
audits_are_one stand rules names fragments views facts stores others files contents result other are flat same one two =
    end_one stand rules names fragments views facts are flat (IsFileRow stores files) result other one
    (audits_same rules names fragments views facts (IsFileRow others contents) (IsFileRow stores files) (λ fact. ((same fact).1, (same fact).0)) other two)
