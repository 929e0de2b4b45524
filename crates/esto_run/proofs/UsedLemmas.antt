-- The fragments that a set uses.
use Rattle.std.proofs.Common.{◌≡◌, ◌≢◌, ◌↔◌, inl, inr, ℕ, zero, suc, ◌+◌, ◌<◌, ◌≤◌, Bool, true, false, cond, List, map, take, [], ◌∷◌, ◌++◌, length, get_or}
use Rattle.std.proofs.Common.{Some, slice_get, Contains, refl, sym, ap, ◌∙◌, subst, arith}
use Rattle.std.specs.Prelude.{AllPairs}
use Rattle.std.proofs.lemmas.Bool.{cases_order, cases_Bool}
use Rattle.std.proofs.lemmas.List.{append-nil, append_assoc, map-append}
use Rattle.std.proofs.lemmas.List.Concat.{flat_map-append}
use Rattle.std.specs.List.{flat_map}
use Rattle.std.proofs.lemmas.List.Elements.{Contains-get_or, Contains-push_cases, Contains-append_left, Contains-append_right}
use Rattle.std.proofs.lemmas.Option.{same_Some, none-some, slice_get_within, slice_get_cases}
use Rattle.esto_term.specs.declared.term.Term.{Term}
use Rattle.esto_semantics.specs.Listed.{chosen}
use Rattle.esto_term.specs.Sets.{Has}
use Rattle.esto_semantics.specs.declared.fact.Fact.{Fact}
use Rattle.esto_term.proofs.ChoiceLemmas.{Decided, least_below, pairs_append}
use Rattle.esto_term.proofs.ListLemmas.{Contains-at, Contains-nil, Contains-head, Contains-cases, at_left, place-from_Contains, thing_at}
use Rattle.esto_term.proofs.PlaceLemmas.{take-item}
use Rattle.esto_semantics.specs.Queries.{ConjunctiveQuery}
use Rattle.esto_rows.proofs.RisingLemmas.{one_by_before}
use Rattle.esto_run.specs.Picks.{candidate_of}
use Rattle.esto_run.specs.Used.{Uses, UsesFirst, AreUsed, AreUsedByAll, AddsUse, StandsFirst, AreFirsts, fragments_of}
use Rattle.esto_run.specs.declared.picks.Pick.{Pick}

-- ---- one list of fragments

same_number : (x y : ℕ) → Decided (x ≡ y)
same_number x y = elim (cases_order x y) [
  | inl same ↦ inl same
  | inr (inl less) ↦ inr (λ same. omega (arith, less, same))
  | inr (inr more) ↦ inr (λ same. omega (arith, more, same))
]

module _ (atoms : List (Fact Term)) (set : List Bool) where
  uses_decided : (fragment number : ℕ) → Decided (Uses atoms set fragment number)
  uses_decided fragment number = elim (slice_get_cases atoms number).1 [
    | inl (atom, within, at, is) ↦ elim (cases_Bool (get_or set number false)) [
      | inl has ↦ elim (same_number atom.relation fragment) [
        | inl same ↦ inl (has, (atom, at, same))
        | inr apart ↦ inr (λ uses. apart (ap (λ (it : Fact Term). it.relation) (same_Some atom uses.1.0 (sym at ∙ uses.1.1)) ∙ uses.1.2))
      ]
      | inr hasnt ↦ inr (λ uses. absurd (cc))
    ]
    | inr (past, none) ↦ inr (λ uses. none-some uses.1.0 (sym none ∙ uses.1.1))
  ]

  pub first_use : (fragment number : ℕ) → Uses atoms set fragment number → (least : ℕ) × (least ≤ number) × UsesFirst atoms set fragment least
  first_use fragment number uses = elim (least_below (Uses atoms set fragment) (suc number) (λ k below. uses_decided fragment k)) [
    | inl found ↦ (found.0, omega (arith, found.1), record { uses = found.2; least = found.3 })
    | inr none ↦ absurd (none number (omega arith) uses)
  ]

  abbrev pub Before : ℕ → ℕ → Type 0
  Before fragment other = (number later : ℕ) → UsesFirst atoms set fragment number → UsesFirst atoms set other later → number < later

  pub used_once : (fragments others : List ℕ) → AreUsed atoms set fragments → AreUsed atoms set others → fragments ≡ others
  used_once fragments others are too = one_by_before Before fragments others
      (λ fragment inside before. let found = (are.exact fragment).0 inside in let first = first_use fragment found.0 found.1 in
      let less = before first.0 first.0 first.2 first.2 in omega (arith, less))
      (λ fragment other inside there before after.
      let found = (are.exact fragment).0 inside in let first = first_use fragment found.0 found.1 in
      let later = (are.exact other).0 there in let second = first_use other later.0 later.1 in
      let less = before first.0 second.0 first.2 second.2 in let more = after second.0 first.0 second.2 first.2 in omega (arith, less, more))
      are.rising too.rising
      (λ fragment. (
        (λ inside. (too.exact fragment).1 ((are.exact fragment).0 inside)),
        (λ inside. (are.exact fragment).1 ((too.exact fragment).0 inside)),
      ))

  -- each of them comes once
  pub used_distinct : (fragments : List ℕ) → AreUsed atoms set fragments → AllPairs ◌≢◌ fragments
  used_distinct fragments are = λ i j d less within same.
      let found = (are.exact (get_or fragments i d)).0 (Contains-get_or fragments i d (omega (arith, less, within))) in
      let first = first_use (get_or fragments i d) found.0 found.1 in
      let below = are.rising i j d less within first.0 first.0 first.2 (subst (λ it. UsesFirst atoms set it first.0) same first.2) in
      omega (arith, below)

  -- ---- atom by atom

  -- these are the fragments of the atoms that the set has of the first, so many
  pub record AreUsedBelow (count : ℕ) (fragments : List ℕ) : Type 0 where
    pub exact : (fragment : ℕ) → Contains fragments fragment ↔ ((number : ℕ) × (number < count) × Uses atoms set fragment number)
    pub rising : AllPairs Before fragments

  pub none_used : AreUsedBelow 0 []
  none_used = record {
    exact = λ fragment. ((λ inside. absurd (Contains-nil fragment inside)), (λ (number, below, uses). absurd (omega (arith, below))));
    rising = λ i j d below within. absurd (omega (arith, within));
  }

  pub all_used : (count : ℕ) (fragments : List ℕ) → length atoms ≤ count → AreUsedBelow count fragments → AreUsed atoms set fragments
  all_used count fragments all are = record {
    exact = λ fragment. (
      (λ inside. let found = (are.exact fragment).0 inside in (found.0, found.2)),
      (λ (number, uses). (are.exact fragment).1
          (number, (let within = slice_get_within atoms number uses.1.0 uses.1.1 in let below : number < count = omega (arith, within, all) in below), uses)),
    );
    rising = are.rising;
  }

  pub use_more : (count : ℕ) (atom : Fact Term) (old new : List ℕ) → slice_get atoms count ≡ Some atom → AddsUse set count atom.relation old new
      → AreUsedBelow count old → AreUsedBelow (count + 1) new
  use_more count atom old new at (inl (kept, same)) are = record {
    exact = λ fragment. (
      (λ inside. let found = (are.exact fragment).0 (subst (λ them. Contains them fragment) same inside) in
          (found.0, (let below = found.1 in let more : found.0 < count + 1 = omega (arith, below) in more), found.2)),
      (λ (number, below, uses). subst (λ them. Contains them fragment) (sym same) (elim (cases_order number count) [
        | inl last ↦ elim kept [
          | inl hasnt ↦ absurd (hasnt (subst (Has set) last uses.0))
          | inr (has, there) ↦ subst (Contains old)
              (ap (λ (it : Fact Term). it.relation) (same_Some atom uses.1.0 (sym at ∙ ap (slice_get atoms) (sym last) ∙ uses.1.1)) ∙ uses.1.2) there
        ]
        | inr (inl less) ↦ (are.exact fragment).1 (number, less, uses)
        | inr (inr more) ↦ absurd (omega (arith, below, more))
      ])),
    );
    rising = subst (AllPairs Before) (sym same) are.rising;
  }
  use_more count atom old new at (inr (has, absent, is)) are = record {
    exact = λ fragment. (
      (λ inside. elim (Contains-push_cases old atom.relation fragment (subst (λ them. Contains them fragment) is inside)) [
        | inl there ↦ let found = (are.exact fragment).0 there in
            (found.0, (let below = found.1 in let more : found.0 < count + 1 = omega (arith, below) in more), found.2)
        | inr last ↦ (count, (let more : count < count + 1 = omega arith in more), (has, (atom, at, last)))
      ]),
      (λ (number, below, uses). subst (λ them. Contains them fragment) (sym is) (elim (cases_order number count) [
        | inl last ↦ subst (Contains (old ++ atom.relation ∷ []))
            (ap (λ (it : Fact Term). it.relation) (same_Some atom uses.1.0 (sym at ∙ ap (slice_get atoms) (sym last) ∙ uses.1.1)) ∙ uses.1.2)
            (Contains-append_right old (atom.relation ∷ []) atom.relation (Contains-head atom.relation []))
        | inr (inl less) ↦ Contains-append_left old (atom.relation ∷ []) fragment ((are.exact fragment).1 (number, less, uses))
        | inr (inr more) ↦ absurd (omega (arith, below, more))
      ])),
    );
    rising = subst (AllPairs Before) (sym is) (pairs_append Before old (atom.relation ∷ []) are.rising
        (λ i j d below within. absurd (omega (arith, below, within)))
        (λ fragment other inside last. elim (Contains-cases atom.relation [] other last) [
          | inl same ↦ subst (Before fragment) same (λ number later first second.
              let found = (are.exact fragment).0 inside in
              let low = found.1 in
              elim (cases_order later count) [
                | inl e ↦ no_more number later first found.0 found.1 found.2 (λ less. less_on number later e less)
                | inr (inl less) ↦ absurd (absent ((are.exact atom.relation).1 (later, less, second.uses)))
                | inr (inr more) ↦ no_more number later first found.0 found.1 found.2 (λ less. less_past number later more less)
              ])
          | inr none ↦ absurd (Contains-nil other none)
        ]));
  }
    where
      less_on : (number later : ℕ) → later ≡ count → number < count → number < later
      less_on number later e less = omega (arith, e, less)

      less_past : (number later : ℕ) → count < later → number < count → number < later
      less_past number later more less = omega (arith, more, less)

      no_more : {fragment : ℕ} (number later : ℕ) → UsesFirst atoms set fragment number → (earlier : ℕ) → earlier < count → Uses atoms set fragment earlier
          → (number < count → number < later) → number < later
      no_more number later first earlier below uses then = elim (cases_order earlier number) [
        | inl same ↦ then (omega (arith, same, below))
        | inr (inl less) ↦ absurd (first.least earlier less uses)
        | inr (inr more) ↦ then (omega (arith, more, below))
      ]

-- ---- the fragments of several queries

module _ (numbers : List ℕ) where
  -- a number that is in the list stands first somewhere
  stands_first : (number place : ℕ) → slice_get numbers place ≡ Some number → (least : ℕ) × StandsFirst numbers number least
  stands_first number place here = elim (least_below (λ k. slice_get numbers k ≡ Some number) (suc place) (λ k below. decided k)) [
    | inl found ↦ (found.0, record { here = found.2; least = found.3 })
    | inr none ↦ absurd (none place (omega arith) here)
  ]
    where
      decided : (k : ℕ) → Decided (slice_get numbers k ≡ Some number)
      decided k = elim (slice_get_cases numbers k).1 [
        | inl (own, within, at, is) ↦ elim (same_number own number) [
          | inl same ↦ inl (at ∙ ap Some same)
          | inr apart ↦ inr (λ other. apart (same_Some own number (sym at ∙ other)))
        ]
        | inr (past, none) ↦ inr (λ other. none-some number (sym none ∙ other))
      ]

  abbrev ComesBefore : ℕ → ℕ → Type 0
  ComesBefore number other = (place later : ℕ) → StandsFirst numbers number place → StandsFirst numbers other later → place < later

  first_of : (firsts : List ℕ) → AreFirsts numbers firsts → (number : ℕ) → Contains firsts number → (least : ℕ) × StandsFirst numbers number least
  first_of firsts are number inside =
      let there = place-from_Contains numbers number ((are.exact number).0 inside) in stands_first number there.0 there.1

  pub firsts_once : (firsts others : List ℕ) → AreFirsts numbers firsts → AreFirsts numbers others → firsts ≡ others
  firsts_once firsts others are too = one_by_before ComesBefore firsts others
      (λ number inside before. let first = first_of firsts are number inside in
      let less = before first.0 first.0 first.1 first.1 in omega (arith, less))
      (λ number other inside there before after.
      let first = first_of firsts are number inside in let second = first_of firsts are other there in
      let less = before first.0 second.0 first.1 second.1 in let more = after second.0 first.0 second.1 first.1 in omega (arith, less, more))
      are.rising too.rising
      (λ number. (
        (λ inside. (too.exact number).1 ((are.exact number).0 inside)),
        (λ inside. (are.exact number).1 ((too.exact number).0 inside)),
      ))

  pub firsts_distinct : (firsts : List ℕ) → AreFirsts numbers firsts → AllPairs ◌≢◌ firsts
  firsts_distinct firsts are = λ i j d less within same.
      let first = first_of firsts are (get_or firsts i d) (Contains-get_or firsts i d (omega (arith, less, within))) in
      let below = are.rising i j d less within first.0 first.0 first.1 (subst (λ it. StandsFirst numbers it first.0) same first.1) in
      omega (arith, below)

-- ---- number by number

pub no_firsts : AreFirsts [] []
no_firsts = record { exact = λ number. ((λ inside. inside), (λ inside. inside)); rising = λ i j d below within. absurd (omega (arith, within)) }

module _ (numbers firsts : List ℕ) (are : AreFirsts numbers firsts) (next : ℕ) where
  -- a number of the list stands first where it did
  within_list : (number place : ℕ) → Contains numbers number → StandsFirst (numbers ++ next ∷ []) number place
      → (place < length numbers) × StandsFirst numbers number place
  within_list number place inside first = (
    below,
    record {
      here = here;
      least = λ lesser less at. first.least lesser less
          (at_left numbers (next ∷ []) lesser number at);
    },
  )
    where
      there : (own : ℕ) × (slice_get numbers own ≡ Some number)
      there = place-from_Contains numbers number inside

      below : place < length numbers
      below = elim (cases_order there.0 place) [
        | inl same ↦ let within = slice_get_within numbers there.0 number there.1 in omega (arith, within, same)
        | inr (inl less) ↦ absurd (first.least there.0 less (at_left numbers (next ∷ []) there.0 number there.1))
        | inr (inr more) ↦ let within = slice_get_within numbers there.0 number there.1 in omega (arith, within, more)
      ]

      here : slice_get numbers place ≡ Some number
      here = let own = thing_at numbers place below in
          own.1 ∙ sym (at_left numbers (next ∷ []) place own.0 own.1) ∙ first.here

  kept_rising : AllPairs (ComesBefore (numbers ++ next ∷ [])) firsts
  kept_rising = λ i j d less within place later first second.
      are.rising i j d less within place later
      (within_list (get_or firsts i d) place ((are.exact (get_or firsts i d)).0 (Contains-get_or firsts i d (omega (arith, less, within)))) first).1
      (within_list (get_or firsts j d) later ((are.exact (get_or firsts j d)).0 (Contains-get_or firsts j d within)) second).1

  pub firsts_kept : Contains firsts next → AreFirsts (numbers ++ next ∷ []) firsts
  firsts_kept there = record {
    exact = λ number. (
      (λ inside. Contains-append_left numbers (next ∷ []) number ((are.exact number).0 inside)),
      (λ inside. elim (Contains-push_cases numbers next number inside) [
        | inl old ↦ (are.exact number).1 old
        | inr last ↦ subst (Contains firsts) last there
      ]),
    );
    rising = kept_rising;
  }

  pub firsts_more : ¬ (Contains firsts next) → AreFirsts (numbers ++ next ∷ []) (firsts ++ next ∷ [])
  firsts_more absent = record {
    exact = λ number. (
      (λ inside. elim (Contains-push_cases firsts next number inside) [
        | inl old ↦ Contains-append_left numbers (next ∷ []) number ((are.exact number).0 old)
        | inr last ↦ subst (Contains (numbers ++ next ∷ [])) last (Contains-append_right numbers (next ∷ []) next (Contains-head next []))
      ]),
      (λ inside. elim (Contains-push_cases numbers next number inside) [
        | inl old ↦ Contains-append_left firsts (next ∷ []) number ((are.exact number).1 old)
        | inr last ↦ subst (Contains (firsts ++ next ∷ [])) last (Contains-append_right firsts (next ∷ []) next (Contains-head next []))
      ]),
    );
    rising = pairs_append (ComesBefore (numbers ++ next ∷ [])) firsts (next ∷ []) kept_rising
        (λ i j d below within. absurd (omega (arith, below, within)))
        (λ number other inside last. elim (Contains-cases next [] other last) [
          | inl same ↦ subst (ComesBefore (numbers ++ next ∷ []) number) same (λ place later first second.
              let below = (within_list number place ((are.exact number).0 inside) first).0 in
              elim (cases_order later (length numbers)) [
                | inl e ↦ less_on place later e below
                | inr (inl less) ↦ absurd (absent ((are.exact next).1
                    (let own = thing_at numbers later less in
                    Contains-at numbers later next (own.1 ∙ sym (at_left numbers (next ∷ []) later own.0 own.1) ∙ second.here))))
                | inr (inr more) ↦ less_past place later more below
              ])
          | inr none ↦ absurd (Contains-nil other none)
        ]);
  }
    where
      less_on : (place later : ℕ) → later ≡ length numbers → place < length numbers → place < later
      less_on place later e below = omega (arith, e, below)

      less_past : (place later : ℕ) → length numbers < later → place < length numbers → place < later
      less_past place later more below = omega (arith, more, below)

-- ---- the atoms of a set, one by one

pub nothing_chosen : (set : List Bool) → chosen set [] ≡ []
nothing_chosen [] = refl
nothing_chosen (is_in ∷ set) = refl

chosen_one_more : (set : List Bool) (atoms : List (Fact Term)) (number : ℕ) (atom : Fact Term) → slice_get atoms number ≡ Some atom
    → chosen set (take (suc number) atoms) ≡ chosen set (take number atoms) ++ cond (get_or set number false) (atom ∷ []) []
chosen_one_more [] atoms number atom at = refl
chosen_one_more (is_in ∷ set) [] number atom at = absurd (none-some atom at)
chosen_one_more (is_in ∷ set) (first ∷ atoms) zero atom at = by is_in
  where
    by : (test : Bool) → cond test (first ∷ chosen set (take 0 atoms)) (chosen set (take 0 atoms)) ≡ cond test (atom ∷ []) []
    by true = (λ i. first ∷ nothing_chosen set i) ∙ ap (λ it. it ∷ []) (same_Some first atom at)
    by false = nothing_chosen set
chosen_one_more (is_in ∷ set) (first ∷ atoms) (suc number) atom at = by is_in (chosen_one_more set atoms number atom at)
  where
    by : (test : Bool) → chosen set (take (suc number) atoms) ≡ chosen set (take number atoms) ++ cond (get_or set number false) (atom ∷ []) []
        → cond test (first ∷ chosen set (take (suc number) atoms)) (chosen set (take (suc number) atoms))
        ≡ cond test (first ∷ chosen set (take number atoms)) (chosen set (take number atoms)) ++ cond (get_or set number false) (atom ∷ []) []
    by true rest = ap (λ others. first ∷ others) rest
    by false rest = rest

-- the fragments of the first atoms of the set, so many, come to those before
pub firsts_step : (set : List Bool) (atoms : List (Fact Term)) (number : ℕ) (atom : Fact Term) (numbers old new : List ℕ) → slice_get atoms number ≡ Some atom
    → AddsUse set number atom.relation old new → AreFirsts (numbers ++ fragments_of (chosen set (take number atoms))) old
    → AreFirsts (numbers ++ fragments_of (chosen set (take (number + 1) atoms))) new
firsts_step set atoms number atom numbers old new at adds are =
    subst (λ them. AreFirsts (numbers ++ fragments_of them) new) (sym one_more) (by (get_or set number false) refl adds)
  where
    before : List (Fact Term)
    before = chosen set (take number atoms)

    one_more : chosen set (take (number + 1) atoms) ≡ before ++ cond (get_or set number false) (atom ∷ []) []
    one_more = let next : number + 1 ≡ suc number = omega arith in ap (λ count. chosen set (take count atoms)) next ∙ chosen_one_more set atoms number atom at

    joined : (numbers ++ fragments_of before) ++ atom.relation ∷ [] ≡ numbers ++ fragments_of (before ++ atom ∷ [])
    joined = append_assoc numbers (fragments_of before) (atom.relation ∷ []) ∙ ap (λ them. numbers ++ them)
        (sym (map-append (λ (it : Fact Term). it.relation) before (atom ∷ [])))

    by : (has : Bool) → get_or set number false ≡ has → AddsUse set number atom.relation old new
        → AreFirsts (numbers ++ fragments_of (before ++ cond has (atom ∷ []) [])) new
    by true has (inl (inl hasnt, same)) = absurd (hasnt has)
    by true has (inl (inr (has_too, there), same)) =
        subst (AreFirsts (numbers ++ fragments_of (before ++ atom ∷ []))) (sym same)
        (subst (λ them. AreFirsts them old) joined (firsts_kept (numbers ++ fragments_of before) old are atom.relation there))
    by true has (inr (has_too, absent, is)) =
        subst (AreFirsts (numbers ++ fragments_of (before ++ atom ∷ []))) (sym is)
        (subst (λ them. AreFirsts them (old ++ atom.relation ∷ [])) joined (firsts_more (numbers ++ fragments_of before) old are atom.relation absent))
    by false has (inl (kept, same)) =
        subst (AreFirsts (numbers ++ fragments_of (before ++ []))) (sym same)
        (subst (λ them. AreFirsts (numbers ++ fragments_of them) old) (sym (append-nil before)) are)
    by false has (inr (has_too, absent, is)) = let wrong : false ≡ true = sym has ∙ has_too in absurd (cc)

-- ---- pick by pick

-- one pick more is seen
pub one_seen : (picks : List Pick) (index : ℕ) (pick : Pick) → index < length picks → pick ≡ get_or picks index pick
    → map candidate_of (take (index + 1) picks) ≡ map candidate_of (take index picks) ++ candidate_of pick ∷ []
one_seen picks index pick below is =
    ap (map candidate_of) (take-item picks index pick below is) ∙ map-append candidate_of (take index picks)
    (pick ∷ [])

pub picks_step : (picks : List Pick) (index : ℕ) (pick : Pick) (old new : List ℕ) → index < length picks → pick ≡ get_or picks index pick
    → ((numbers : List ℕ) → AreFirsts numbers old → AreFirsts (numbers ++ fragments_of (candidate_of pick).body) new)
    → AreUsedByAll (map candidate_of (take index picks)) old → AreUsedByAll (map candidate_of (take (index + 1) picks)) new
picks_step picks index pick old new below is adds are =
    let parts : ConjunctiveQuery → List ℕ = λ query. fragments_of query.body in
    let seen = map candidate_of (take index picks) in
    subst (λ them. AreFirsts (flat_map parts them) new) (sym (one_seen picks index pick below is))
    (subst (λ them. AreFirsts them new)
    (sym (flat_map-append parts seen (candidate_of pick ∷ []) ∙ ap (λ them. flat_map parts seen ++ them) (append-nil (parts (candidate_of pick)))))
    (adds (flat_map parts seen) are))
