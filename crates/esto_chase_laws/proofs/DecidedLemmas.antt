-- Over a list of facts each rule has a least active match or is met: there are finitely many maps and places to go through.
use Rattle.std.proofs.Common.{◌≡◌, ◌⊎◌, ◌≤◌, inl, inr, ℕ, Bool, true, false, cond, Option, None, Some, List, [], ◌∷◌, map, length, Contains, slice_get, refl}
use Rattle.std.proofs.Common.{sym, ap, ◌∙◌, subst, arith}
use Rattle.std.specs.Cmp.Lexicographic.{slice_cmp}
use Rattle.std.specs.Ordering.{nat_cmp}
use Rattle.std.specs.declared.cmp.Ordering.TheVariants.{Less, Equal as Same, Greater}
use Rattle.std.proofs.lemmas.Cmp.{nat_list_cmp_total, tied_itself}
use Rattle.std.proofs.lemmas.List.{length-map}
use Rattle.std.proofs.lemmas.Map.Lookups.{exact_bytes}
use Rattle.std.proofs.lemmas.Option.{none-some, same_Some, slice_get_within}
use Rattle.esto_term.specs.Finite.{lists_within}
use Rattle.esto_term.specs.Order.{same_term}
use Rattle.esto_term.specs.declared.term.Term.{Term}
use Rattle.esto_term.specs.declared.term.Term.TheVariants.{Const}
use Rattle.esto_term.proofs.ChoiceLemmas.{Decided, decided_both, decided_in, decided_not, in_order, kept, pairs_head, IsBelow, Rises}
use Rattle.esto_term.proofs.DistinctLemmas.{decided_contains}
use Rattle.esto_term.proofs.FiniteLemmas.{Contains-lists_within}
use Rattle.esto_term.proofs.ListLemmas.{Contains-nil, Contains-head, Contains-rest, Contains-cases, Contains-map_from, place-from_Contains}
use Rattle.esto_semantics.specs.Facts.{image, terms_of}
use Rattle.esto_semantics.specs.Maps.{IsVariable, Sends, Keeps, AreFlat, AgreeOn}
use Rattle.esto_semantics.specs.Matches.{IsMatch, IsAtMost, IsActive, HasLeast}
use Rattle.esto_semantics.specs.Rules.{Rule, tuple, equality, denial, IsRule, body_of, Concludes}
use Rattle.esto_semantics.specs.declared.fact.Fact.{Fact}
use Rattle.esto_semantics.proofs.CanonicalLemmas.{Mentions-terms_of}
use Rattle.esto_semantics.proofs.FactLemmas.{decided_fact, image_agree, SendsInto-agree, Mentions-sent, decided_sends, Sends-match}
use Rattle.esto_semantics.proofs.TermLemmas.{term_cases, Const-apart-Plain, Plain-apart-Made, same_term-Decides, decided_term}
use Rattle.esto_chase_laws.specs.Bounds.{numbers_below}
use Rattle.esto_chase_laws.specs.RunLaws.{IsDecidedAt, NoMatchIsFinished}
use Rattle.esto_chase_laws.proofs.MakingLemmas.{terms_of-Mentions}
use Rattle.esto_chase_laws.proofs.NextLemmas.{side_agrees}
use Rattle.esto_chase_laws.proofs.StockLemmas.{in_below}

-- ---- what is decided

decided_variable : (term : Term) → Decided (IsVariable term)
decided_variable = term_cases (λ term. Decided (IsVariable term))
    (λ text. inr (λ is. Const-apart-Plain text is.0 is.1))
    (λ number. inl (number, refl))
    (λ rule variable frontier. inr (λ is. Plain-apart-Made is.0 rule variable frontier (sym is.1)))

-- ---- a map with these values for these terms

abbrev with_values : List Term → List Term → (Term → Term) → Term → Term
with_values [] values base term = base term
with_values (first ∷ terms) [] base term = base term
with_values (first ∷ terms) (value ∷ values) base term = cond (same_term first term) value (with_values terms values base term)

with_other : (terms values : List Term) (base : Term → Term) (term : Term) → (Contains terms term → ⊥) → with_values terms values base term ≡ base term
with_other [] values base term apart = refl
with_other (first ∷ terms) [] base term apart = refl
with_other (first ∷ terms) (value ∷ values) base term apart =
    by (same_term first term) (same_term-Decides first term).0 (with_other terms values base term (λ later. apart (Contains-rest first terms term later)))
  where
    by : (answer : Bool) → (answer ≡ true → first ≡ term) → with_values terms values base term ≡ base term
        → cond answer value (with_values terms values base term) ≡ base term
    by true told later = absurd (apart (subst (Contains (first ∷ terms)) (told refl) (Contains-head first terms)))
    by false told later = later

with_mapped : (terms : List Term) (base m : Term → Term) (term : Term) → Contains terms term → with_values terms (map m terms) base term ≡ m term
with_mapped [] base m term inside = absurd (Contains-nil term inside)
with_mapped (first ∷ terms) base m term inside =
    by (same_term first term) (same_term-Decides first term) (λ later. with_mapped terms base m term later)
  where
    by : (answer : Bool) → (answer ≡ true → first ≡ term) × (first ≡ term → answer ≡ true)
        → (Contains terms term → with_values terms (map m terms) base term ≡ m term)
        → cond answer (m first) (with_values terms (map m terms) base term) ≡ m term
    by true told later = ap m (told.0 refl)
    by false told later = elim (Contains-cases first terms term inside) [
      | inl is ↦ let wrong : false ≡ true = told.1 is in cc
      | inr further ↦ later further
    ]

-- ---- maps of atoms into facts, given on some terms

module _ (facts atoms : List (Fact Term)) (flat : AreFlat atoms) (fixed : List Term) (base : Term → Term) (base_keeps : Keeps Const base) where
  -- a variable that is not given
  abbrev Free : Term → Type 0
  Free term = IsVariable term × (Contains fixed term → ⊥)

  free : (terms : List Term) × ((term : Term) → (Contains terms term → Contains (terms_of atoms) term × Free term)
      × (Contains (terms_of atoms) term × Free term → Contains terms term))
  free = kept Free (terms_of atoms) (λ term inside. decided_both (decided_variable term) (decided_not (decided_contains decided_term fixed term)))

  abbrev at : List Term → Term → Term
  at values = with_values free.0 values base

  at-keeps : (values : List Term) → Keeps Const (at values)
  at-keeps values text =
      with_other free.0 values base (Const text) (λ inside. let variable = ((free.1 (Const text)).0 inside).1.0 in Const-apart-Plain text variable.0 variable.1)
      ∙ base_keeps text

  at-fixed : (values : List Term) (term : Term) → Contains fixed term → base term ≡ at values term
  at-fixed values term inside = sym (with_other free.0 values base term (λ here. ((free.1 term).0 here).1.1 inside))

  at-map : (more : Term → Term) → Keeps Const more → ((term : Term) → Contains fixed term → base term ≡ more term)
      → AgreeOn ◌≡◌ atoms more (at (map more free.0))
  at-map more keeps given term inside = elim (flat term inside) [
    | inl constant ↦ ap more constant.1 ∙ keeps constant.0 ∙ sym (at-keeps (map more free.0) constant.0) ∙ ap (at (map more free.0)) (sym constant.1)
    | inr variable ↦ elim (decided_contains decided_term fixed term) [
      | inl here ↦ sym (given term here) ∙ at-fixed (map more free.0) term here
      | inr apart ↦ sym (with_mapped free.0 base more term ((free.1 term).1 (Mentions-terms_of atoms term inside, (variable, apart))))
    ]
  ]

  abbrev tried : List (List Term)
  tried = lists_within (terms_of facts) (length free.0)

  at-tried : (more : Term → Term) → Sends more atoms facts → Contains tried (map more free.0)
  at-tried more sends = Contains-lists_within (terms_of facts) (map more free.0) (length free.0) (omega (arith, length-map free.0 more)) (λ value inside.
      let from = Contains-map_from more free.0 value inside in
      let mentioned = terms_of-Mentions atoms from.0 ((free.1 from.0).0 from.1).0 in
      subst (Contains (terms_of facts)) from.2 (Mentions-terms_of facts (more from.0) (Mentions-sent more atoms facts from.0 sends mentioned)))

  module _ (P : (Term → Term) → Type 0) (decide : (m : Term → Term) → Keeps Const m → Decided (P m))
      (sent : (m : Term → Term) → P m → Sends m atoms facts)
      (alike : (m other : Term → Term) → Keeps Const m → Keeps Const other → AgreeOn ◌≡◌ atoms m other → P m → P other) where
    abbrev Found : Type 0
    Found = (m : Term → Term) × Keeps Const m × ((term : Term) → Contains fixed term → base term ≡ m term) × P m

    decided_map : Decided Found
    decided_map = elim (decided_in (λ values. P (at values)) (λ values. decide (at values) (at-keeps values)) tried) [
      | inl found ↦ inl (at found.0, at-keeps found.0, at-fixed found.0, found.2)
      | inr none ↦ inr (λ found.
          let (more, keeps, given, has) = found in
          none (
            map more free.0,
            at-tried more (sent more has),
            alike more (at (map more free.0)) keeps (at-keeps (map more free.0)) (at-map more keeps given) has,
          ))
    ]

-- ---- what a rule concludes from a match

-- maps that agree on the body conclude alike
Concludes-alike : (rule : Rule) (facts : List (Fact Term)) → IsRule rule → (m other : Term → Term) → Keeps Const m → Keeps Const other
    → AgreeOn ◌≡◌ (body_of rule) m other → Concludes Const ◌≡◌ (Contains facts) rule m → Concludes Const ◌≡◌ (Contains facts) rule other
Concludes-alike (tuple body head) facts is m other keeps other_keeps agree (more, more_keeps, same, sends) =
    (more, more_keeps, (λ term inside. sym (agree term inside) ∙ same term inside), sends)
Concludes-alike (equality body left right) facts is m other keeps other_keeps agree one =
    sym (side_agrees body m other left keeps other_keeps agree is.left_fixed) ∙ one ∙ side_agrees body m other right keeps other_keeps agree is.right_fixed
Concludes-alike (denial body) facts is m other keeps other_keeps agree never = never

module _ (facts : List (Fact Term)) where
  decided_concludes : (rule : Rule) → IsRule rule → (m : Term → Term) → Keeps Const m → Decided (Concludes Const ◌≡◌ (Contains facts) rule m)
  decided_concludes (tuple body head) is m keeps =
      elim (decided_map facts head is.flat_head (terms_of body) m keeps (λ more. Sends more head facts)
      (λ more more_keeps. decided_sends decided_term facts more head) (λ more sends. sends)
      (λ more other more_keeps other_keeps agree sends. SendsInto-agree more other head (Contains facts) agree sends)) [
        | inl found ↦ inl (found.0, found.1, (λ term inside. found.2 term (Mentions-terms_of body term inside)), found.3)
        | inr none ↦ inr (λ concludes.
            let (more, more_keeps, agree, sends) = concludes in
            none (more, more_keeps, (λ term inside. agree term (terms_of-Mentions body term inside)), sends))
      ]
  decided_concludes (equality body left right) is m keeps = decided_term (m left) (m right)
  decided_concludes (denial body) is m keeps = inr (λ never. never)

  -- ---- a match at given places

  decided_at : (m : Term → Term) (atom : Fact Term) (place : ℕ) → Decided (slice_get facts place ≡ Some (image m atom))
  decided_at m atom place = by (slice_get facts place)
    where
      by : (found : Option (Fact Term)) → Decided (found ≡ Some (image m atom))
      by None = inr (λ is. none-some (image m atom) is)
      by (Some fact) = elim (decided_fact decided_term fact (image m atom)) [
        | inl is ↦ inl (ap Some is)
        | inr apart ↦ inr (λ is. apart (same_Some fact (image m atom) is))
      ]

  decided_match : (m : Term → Term) (body : List (Fact Term)) (places : List ℕ) → Decided (IsMatch m body facts places)
  decided_match m [] [] = inl tt
  decided_match m [] (place ∷ places) = inr (λ never. never)
  decided_match m (atom ∷ body) [] = inr (λ never. never)
  decided_match m (atom ∷ body) (place ∷ places) = decided_both (decided_at m atom place) (decided_match m body places)

  match-alike : (m other : Term → Term) (body : List (Fact Term)) (places : List ℕ) → AgreeOn ◌≡◌ body m other → IsMatch m body facts places
      → IsMatch other body facts places
  match-alike m other [] [] agree matches = tt
  match-alike m other [] (place ∷ places) agree matches = matches
  match-alike m other (atom ∷ body) [] agree matches = matches
  match-alike m other (atom ∷ body) (place ∷ places) agree matches = (
    matches.0 ∙ ap Some (image_agree m other atom (λ term inside. agree term (atom, Contains-head atom body, inside))),
    match-alike m other body places (λ term (fact, inside, within). agree term (fact, Contains-rest atom body fact inside, within)) matches.1,
  )

  match-from_sends : (m : Term → Term) (body : List (Fact Term)) → Sends m body facts → (places : List ℕ) × IsMatch m body facts places
  match-from_sends m [] sends = ([], tt)
  match-from_sends m (atom ∷ body) sends =
      let here = place-from_Contains facts (image m atom) (sends atom (Contains-head atom body)) in
      let later = match-from_sends m body (λ fact inside. sends fact (Contains-rest atom body fact inside)) in
      (here.0 ∷ later.0, (here.1, later.1))

  match-short : (m : Term → Term) (body : List (Fact Term)) (places : List ℕ) → IsMatch m body facts places → length places ≤ length body
  match-short m [] [] matches = omega arith
  match-short m [] (place ∷ places) matches = absurd matches
  match-short m (atom ∷ body) [] matches = absurd matches
  match-short m (atom ∷ body) (place ∷ places) matches = let rest = match-short m body places matches.1 in omega (arith, rest)

  match-places : (m : Term → Term) (body : List (Fact Term)) (places : List ℕ) → IsMatch m body facts places
      → (place : ℕ) → Contains places place → Contains (numbers_below (length facts)) place
  match-places m [] [] matches place inside = absurd (Contains-nil place inside)
  match-places m [] (first ∷ places) matches place inside = absurd matches
  match-places m (atom ∷ body) [] matches place inside = absurd matches
  match-places m (atom ∷ body) (first ∷ places) matches place inside = elim (Contains-cases first places place inside) [
    | inl is ↦ subst (Contains (numbers_below (length facts))) is
        (in_below (length facts) first (slice_get_within facts first (image m atom) matches.0))
    | inr later ↦ match-places m body places matches.1 place later
  ]

  -- ---- the least active match

  module _ (rule : Rule) (is : IsRule rule) (flat : AreFlat (body_of rule)) where
    abbrev IsActiveAt : List ℕ → Type 0
    IsActiveAt places = (m : Term → Term) × IsActive rule facts m places

    decided_active : (places : List ℕ) → Decided (IsActiveAt places)
    decided_active places =
        elim (decided_map facts (body_of rule) flat [] (λ term. term) (λ text. refl)
        (λ m. IsMatch m (body_of rule) facts places × (Concludes Const ◌≡◌ (Contains facts) rule m → ⊥))
        (λ m keeps. decided_both (decided_match m (body_of rule) places) (decided_not (decided_concludes rule is m keeps)))
        (λ m has. Sends-match m (body_of rule) facts places has.0)
        (λ m other keeps other_keeps agree has. (
          match-alike m other (body_of rule) places agree has.0,
          λ concludes. has.1 (Concludes-alike rule facts is other m other_keeps keeps (λ term inside. sym (agree term inside)) concludes),
        ))) [
          | inl found ↦ inl (found.0, record { keeps = found.1; matches = found.3.0; active = found.3.1 })
          | inr none ↦ inr (λ (m, active). none (m, active.keeps, (λ term nothing. absurd (Contains-nil term nothing)), (active.matches, active.active)))
        ]

    abbrev all_places : List (List ℕ)
    all_places = lists_within (numbers_below (length facts)) (length (body_of rule))

    in_places : (m : Term → Term) (places : List ℕ) → IsActive rule facts m places → Contains all_places places
    in_places m places active =
        Contains-lists_within (numbers_below (length facts)) places (length (body_of rule)) (match-short m (body_of rule) places active.matches)
        (match-places m (body_of rule) places active.matches)

    not_greater : (places others : List ℕ) → slice_cmp nat_cmp places others ≡ Less → IsAtMost places others
    not_greater places others less greater = let wrong : Less ≡ Greater = sym less ∙ greater in cc

    at_itself : (places : List ℕ) → IsAtMost places places
    at_itself places greater = let tied = tied_itself nat_list_cmp_total places in let wrong : Same ≡ Greater = sym tied ∙ greater in cc

    least_or_none : HasLeast rule facts ⊎ ((m : Term → Term) (places : List ℕ) → IsActive rule facts m places → ⊥)
    least_or_none =
        let some = kept IsActiveAt all_places (λ places inside. decided_active places) in
        let ordered = in_order (slice_cmp nat_cmp) nat_list_cmp_total some.0 (λ places others one two. exact_bytes places others) in
        by ordered.0 (λ places. (
          (λ inside. ((some.1 places).0 ((ordered.1 places).0 inside)).1),
          (λ (m, active). (ordered.1 places).1 ((some.1 places).1 (in_places m places active, (m, active)))),
        )) ordered.2
      where
        by : (found : List (List ℕ)) → ((places : List ℕ) → (Contains found places → IsActiveAt places) × (IsActiveAt places → Contains found places))
            → Rises (slice_cmp nat_cmp) nat_list_cmp_total found
            → HasLeast rule facts ⊎ ((m : Term → Term) (places : List ℕ) → IsActive rule facts m places → ⊥)
        by [] exact rises = inr (λ m places active. Contains-nil places ((exact places).1 (m, active)))
        by (first ∷ rest) exact rises =
            let here = (exact first).0 (Contains-head first rest) in
            inl (
              here.0,
              first,
              here.1,
              λ other others active. elim (Contains-cases first rest others ((exact others).1 (other, active))) [
                | inl same ↦ subst (IsAtMost first) same (at_itself first)
                | inr later ↦ not_greater first others
                    (pairs_head (IsBelow (slice_cmp nat_cmp) nat_list_cmp_total) first rest rises others later)
              ],
            )

    decided_at_rule : IsDecidedAt facts rule
    decided_at_rule = elim least_or_none [
      | inl least ↦ inl least
      | inr none ↦ inr (λ m keeps sends. elim (decided_concludes rule is m keeps) [
        | inl concludes ↦ concludes
        | inr not ↦
            let at = match-from_sends m (body_of rule) sends in
            absurd (none m at.0 (record { keeps = keeps; matches = at.1; active = not }))
      ])
    ]

  pub rule_is_decided : (rule : Rule) → IsRule rule → IsDecidedAt facts rule
  rule_is_decided (tuple body head) is = decided_at_rule (tuple body head) is is.flat_body
  rule_is_decided (equality body left right) is = decided_at_rule (equality body left right) is is.flat_body
  rule_is_decided (denial body) is = decided_at_rule (denial body) is is.flat_body

pub no_match_is_finished : NoMatchIsFinished
no_match_is_finished rules now are_rules none rule inside = elim (rule_is_decided now.body rule (are_rules rule inside)) [
  | inl (m, places, active, least) ↦ absurd (none rule inside m places active)
  | inr meets ↦ meets
]
