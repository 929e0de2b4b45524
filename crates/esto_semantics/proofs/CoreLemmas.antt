-- Cores: maps of a core to itself, two cores that map to each other, and cores under renamings.
use Rattle.std.proofs.Common.{◌≡◌, ◌≢◌, ◌⊎◌, inl, inr, zero, suc, ℕ, Bool, true, false, cond, List, [], ◌∷◌, ◌++◌, map, length, replicate, Contains, slice_get}
use Rattle.std.proofs.Common.{slice_index_or, Some, refl, sym, ap, ◌∙◌, subst, arith}
use Rattle.std.proofs.lemmas.List.{length-map, length-append, length-replicate}
use Rattle.std.proofs.lemmas.List.Sorted.{IsPermutation-sym, Contains-permutation, length_permutation}
use Rattle.esto_term.specs.declared.term.Term.{Term}
use Rattle.esto_term.specs.declared.term.Term.TheVariants.{Const}
use Rattle.esto_semantics.specs.Facts.{image, Mentions, terms_of}
use Rattle.esto_term.specs.Order.{same_term}
use Rattle.esto_semantics.specs.Instances.{MapsTo}
use Rattle.esto_semantics.specs.Listed.{chosen}
use Rattle.esto_semantics.specs.Maps.{AreFlat, IsFixedBy}
use Rattle.esto_semantics.specs.Plans.{IsUniversalPlan}
use Rattle.esto_semantics.specs.Queries.{ConjunctiveQuery, IsQuery}
use Rattle.esto_semantics.specs.Rewritings.{IsPlanFor}
use Rattle.esto_semantics.specs.Rules.{Rule}
use Rattle.esto_term.specs.Sets.{Has}
use Rattle.esto_semantics.specs.declared.fact.Fact.{Fact}
use Rattle.esto_semantics.proofs.CanonicalLemmas.{Mentions-terms_of}
use Rattle.esto_term.proofs.ListLemmas.{Contains-nil, Contains-at, Contains-head, Contains-rest, Contains-cases, Contains-map, Contains-map_from, Contains-flat}
use Rattle.esto_term.proofs.ListLemmas.{Contains-flat_from, map_agree, map_itself, map_then, thing_at}
use Rattle.esto_semantics.proofs.FactLemmas.{decided_fact, image_agree, image_then, image_itself, Mentions-sent}
use Rattle.esto_semantics.proofs.PlaceLemmas.{Has-from_chosen}
use Rattle.esto_semantics.proofs.TermLemmas.{same_term-Decides, decided_term}
use Rattle.esto_semantics.specs.Cores.{with_head, Retracts, IsCore, HasNoRetract, IsRenamedTo}
use Rattle.esto_semantics.proofs.MapsToLemmas.{MapsTo-then, retracts-among}
use Rattle.esto_term.proofs.DistinctLemmas.{Distinct, split, split_cases, split_more, split_thing, outside, length_split, distinct-from_splits}
use Rattle.esto_term.proofs.DistinctLemmas.{permutation-from_same, no_more, decided_contains, one_to_one, distinct_map}

-- ---- a core

terms_in : (facts : List (Fact Term)) (fact : Fact Term) (term : Term) → Contains facts fact → Contains fact.terms term → Contains (terms_of facts) term
terms_in facts fact term inside in_fact = Contains-flat (λ (it : Fact Term). it.terms) facts fact term inside in_fact

module _ (query : ConjunctiveQuery) (core : IsCore query) where
  -- its atoms are distinct
  pub core-distinct : Distinct query.body
  core-distinct = distinct-from_splits query.body (λ front back atom whole inside.
      core front back atom whole (retracts-among query.head query.body (front ++ back) (λ it in_body.
      elim (split_cases front back atom it (subst (λ all. Contains all it) whole in_body)) [
        | inl is ↦ subst (Contains (front ++ back)) is inside
        | inr left ↦ left
      ])))

  module _ (maps : MapsTo query query) where
    -- each map to itself reaches each of its atoms
    pub core-onto : (atom : Fact Term) → Contains query.body atom → Contains (map (image maps.0) query.body) atom
    core-onto atom inside = elim (decided_contains (decided_fact decided_term) (map (image maps.0) query.body) atom) [
      | inl there ↦ there
      | inr none ↦
          let parts = split query.body atom inside in
          absurd (core parts.0 parts.1 atom parts.2 (
            maps.0,
            maps.1,
            (λ fact in_body. elim (split_cases parts.0 parts.1 atom (image maps.0 fact)
                (subst (λ all. Contains all (image maps.0 fact)) parts.2 (maps.2 fact in_body))) [
                  | inl is ↦ absurd (none (subst (Contains (map (image maps.0) query.body)) (sym is) (Contains-map (image maps.0) query.body fact in_body)))
                  | inr left ↦ left
                ]),
            maps.3,
          ))
    ]

    -- and each of its terms
    core-onto_terms : (term : Term) → Contains (terms_of query.body) term → (other : Term) × Contains (terms_of query.body) other × (maps.0 other ≡ term)
    core-onto_terms term inside =
        let at = Contains-flat_from (λ (it : Fact Term). it.terms) query.body term inside in
        let from = Contains-map_from (image maps.0) query.body at.0 (core-onto at.0 at.1) in
        let source = Contains-map_from maps.0 from.0.terms term (subst (λ (it : Fact Term). Contains it.terms term) (sym from.2) at.2) in
        (source.0, terms_in query.body from.0 source.0 from.1 source.1, source.2)

    -- so it tells its terms apart
    pub core-one_to_one : (left right : Term) → Contains (terms_of query.body) left → Contains (terms_of query.body) right
        → maps.0 left ≡ maps.0 right → left ≡ right
    core-one_to_one = one_to_one decided_term (terms_of query.body) maps.0 core-onto_terms

-- ---- two cores that map to each other

module _ (m : Term → Term) where
  -- the first of the terms that goes to the target
  abbrev source : List Term → Term → Term
  source [] target = target
  source (term ∷ rest) target = cond (same_term (m term) target) term (source rest target)

  source-cases : (terms : List Term) (target : Term)
      → ((term : Term) × Contains terms term × (m term ≡ target) × (source terms target ≡ term))
      ⊎ ((source terms target ≡ target) × ((term : Term) → Contains terms term → m term ≡ target → ⊥))
  source-cases [] target = inr (refl, λ term inside is. Contains-nil term inside)
  source-cases (first ∷ rest) target = by (source-cases rest target) (same_term (m first) target) refl
    where
      by : ((term : Term) × Contains rest term × (m term ≡ target) × (source rest target ≡ term))
          ⊎ ((source rest target ≡ target) × ((term : Term) → Contains rest term → m term ≡ target → ⊥))
          → (answer : Bool) → same_term (m first) target ≡ answer
          → ((term : Term) × Contains (first ∷ rest) term × (m term ≡ target) × (cond answer first (source rest target) ≡ term))
          ⊎ ((cond answer first (source rest target) ≡ target) × ((term : Term) → Contains (first ∷ rest) term → m term ≡ target → ⊥))
      by later true told = inl (first, Contains-head first rest, (same_term-Decides (m first) target).0 told, refl)
      by (inl (term, inside, is, goes)) false told = inl (term, Contains-rest first rest term inside, is, goes)
      by (inr (goes, none)) false told = inr (
        goes,
        λ term inside is. elim (Contains-cases first rest term inside) [
          | inl here ↦ let wrong : true ≡ false = sym ((same_term-Decides (m first) target).1 (ap m here ∙ is)) ∙ told in cc
          | inr later ↦ none term later is
        ],
      )

module _ (plan other : ConjunctiveQuery) (core : IsCore plan) (other_core : IsCore other) (there : MapsTo plan other) (back : MapsTo other plan) where
  abbrev around : MapsTo plan plan
  around = MapsTo-then plan other plan there back

  abbrev undo : Term → Term
  undo = source there.0 (terms_of plan.body)

  undo-there : (term : Term) → Contains (terms_of plan.body) term → undo (there.0 term) ≡ term
  undo-there term inside = elim (source-cases there.0 (terms_of plan.body) (there.0 term)) [
    | inl (found, found_inside, is, goes) ↦ goes ∙ core-one_to_one plan core around found term found_inside inside (ap back.0 is)
    | inr (goes, none) ↦ absurd (none term inside refl)
  ]

  undo-keeps : (text : List ℕ) → undo (Const text) ≡ Const text
  undo-keeps text = elim (source-cases there.0 (terms_of plan.body) (Const text)) [
    | inr (goes, none) ↦ goes
    | inl (found, inside, is, goes) ↦
        let at = Contains-flat_from (λ (it : Fact Term). it.terms) plan.body found inside in
        let reached : back.0 (there.0 found) ≡ Const text = ap back.0 is ∙ back.1 text in
        let mentioned = Mentions-sent around.0 plan.body plan.body found around.2 (at.0, at.1, at.2) in
        let constant_in : Contains (terms_of plan.body) (Const text) =
        subst (Contains (terms_of plan.body)) reached (Mentions-terms_of plan.body (around.0 found) mentioned) in
        let stays : back.0 (there.0 (Const text)) ≡ Const text = ap back.0 (there.1 text) ∙ back.1 text in
        goes ∙ core-one_to_one plan core around found (Const text) inside constant_in (reached ∙ sym stays)
  ]

  image_back : (atom : Fact Term) → Contains plan.body atom → image undo (image there.0 atom) ≡ atom
  image_back atom inside =
      image_then there.0 undo atom
      ∙ image_agree (λ term. undo (there.0 term)) (λ term. term) atom (λ term in_atom. undo-there term (terms_in plan.body atom term inside in_atom))
      ∙ image_itself atom

  told_apart : (atom again : Fact Term) → Contains plan.body atom → Contains plan.body again → image there.0 atom ≡ image there.0 again → atom ≡ again
  told_apart atom again inside again_inside same = sym (image_back atom inside) ∙ ap (image undo) same ∙ image_back again again_inside

  into_other : (atom : Fact Term) → Contains (map (image there.0) plan.body) atom → Contains other.body atom
  into_other atom inside = let from = Contains-map_from (image there.0) plan.body atom inside in subst (Contains other.body) from.2 (there.2 from.0 from.1)

  from_other : (atom : Fact Term) → Contains other.body atom → Contains (map (image there.0) plan.body) atom
  from_other atom inside =
      let maps = MapsTo-then other plan other back there in
      let from = Contains-map_from (image maps.0) other.body atom (core-onto other other_core maps atom inside) in
      subst (Contains (map (image there.0) plan.body)) (image_then back.0 there.0 from.0 ∙ from.2)
      (Contains-map (image there.0) plan.body (image back.0 from.0) (back.2 from.0 from.1))

  pub cores-IsRenamedTo : ((term : Term) → Contains plan.head term → IsFixedBy plan.body term) → IsRenamedTo plan other
  cores-IsRenamedTo safe = record {
    renaming = there.0;
    back = undo;
    keeps = there.1;
    back_keeps = undo-keeps;
    undone = λ term within. elim within [
      | inl in_head ↦ elim (safe term in_head) [
        | inl (text, is) ↦ ap (λ it. undo (there.0 it)) is ∙ ap undo (there.1 text) ∙ undo-keeps text ∙ sym is
        | inr mentioned ↦ undo-there term (Mentions-terms_of plan.body term mentioned)
      ]
      | inr mentioned ↦ undo-there term (Mentions-terms_of plan.body term mentioned)
    ];
    head = there.3;
    atoms = permutation-from_same (map (image there.0) plan.body) other.body
        (distinct_map (image there.0) plan.body told_apart (core-distinct plan core)) (core-distinct other other_core)
        into_other from_other;
  }

-- ---- universal cores

module _ (query plan : ConjunctiveQuery) (form : IsPlanFor query plan) (safe : (term : Term) → Contains plan.head term → IsFixedBy plan.body term)
    (has_body : plan.body ≢ []) where
  plan-IsQuery : IsQuery plan
  plan-IsQuery = record {
    has_head = form.has_head;
    has_body = has_body;
    flat_head = λ term inside. elim (safe term inside) [ inl constant ↦ inl constant | inr mentioned ↦ form.flat_body term mentioned ];
    flat_body = form.flat_body;
    safe = safe;
  }

  -- a query that is contained in a plan maps to each universal plan
  universal-maps : (rules : List Rule) (views : List ConjunctiveQuery) (other : ConjunctiveQuery)
      → IsUniversalPlan rules views query plan → IsUniversalPlan rules views query other → MapsTo plan other
  universal-maps rules views other universal other_universal =
      (other_universal plan plan-IsQuery form.same_length).0
      ((universal plan plan-IsQuery form.same_length).1 (retracts-among plan.head plan.body plan.body (λ atom inside. inside)))

module _ (plan other : ConjunctiveQuery) (there : MapsTo plan other) where
  safe_there : ((term : Term) → Contains plan.head term → IsFixedBy plan.body term) → (term : Term) → Contains other.head term → IsFixedBy other.body term
  safe_there safe term inside =
      let from = Contains-map_from there.0 plan.head term (subst (λ head. Contains head term) (sym there.3) inside) in
      elim (safe from.0 from.1) [
        | inl (text, is) ↦ inl (text, sym from.2 ∙ ap there.0 is ∙ there.1 text)
        | inr mentioned ↦ inr (subst (Mentions other.body) from.2 (Mentions-sent there.0 plan.body other.body from.0 there.2 mentioned))
      ]

  body_there : plan.body ≢ [] → other.body ≢ []
  body_there has_body none = by plan.body refl
    where
      by : (body : List (Fact Term)) → plan.body ≡ body → ⊥
      by [] is = has_body is
      by (first ∷ rest) is =
          let inside = there.2 first (subst (λ all. Contains all first) (sym is) (Contains-head first rest)) in
          Contains-nil (image there.0 first) (subst (λ all. Contains all (image there.0 first)) none inside)

map_some : {X Y : Type 0} (m : X → Y) (things : List X) → things ≢ [] → map m things ≢ []
map_some m [] some none = some refl
map_some m (first ∷ rest) some none = cc

form_there : (query plan other : ConjunctiveQuery) → IsPlanFor query plan → AreFlat other.body → MapsTo plan other → IsPlanFor query other
form_there query plan other form flat there = record {
  same_length = ap length (sym there.3) ∙ length-map plan.head there.0 ∙ form.same_length;
  has_head = λ none. map_some there.0 plan.head form.has_head (there.3 ∙ none);
  flat_body = flat;
}

pub universal_cores-IsRenamedTo : (rules : List Rule) (views : List ConjunctiveQuery) (query plan other : ConjunctiveQuery)
    → IsPlanFor query plan → ((term : Term) → Contains plan.head term → IsFixedBy plan.body term) → plan.body ≢ [] → AreFlat other.body
    → IsUniversalPlan rules views query plan → IsUniversalPlan rules views query other → IsCore plan → IsCore other → IsRenamedTo plan other
universal_cores-IsRenamedTo rules views query plan other form safe has_body flat universal other_universal core other_core =
    let there = universal-maps query plan form safe has_body rules views other universal other_universal in
    let back =
    universal-maps query other (form_there query plan other form flat there) (safe_there plan other there safe) (body_there plan other there has_body)
    rules views plan other_universal universal in
    cores-IsRenamedTo plan other core other_core there back safe

-- ---- proper sublists

module _ {X : Type 0} where
  abbrev SplitsAt : List X → ℕ → X → Type 0
  SplitsAt things place thing =
      (front : List X) × (back : List X) × (things ≡ front ++ thing ∷ back)
      × ((other : ℕ) (it : X) → (other ≡ place → ⊥) → slice_get things other ≡ Some it → Contains (front ++ back) it)

  -- a list splits at a place into what stands there and what stands at the other places
  split_at : (things : List X) (place : ℕ) (thing : X) → slice_get things place ≡ Some thing → SplitsAt things place thing
  split_at [] place thing at = absurd (cc)
  split_at (first ∷ rest) zero thing at = let is : first ≡ thing = cc in ([], rest, ap (λ it. it ∷ rest) is, others)
    where
      others : (other : ℕ) (it : X) → (other ≡ zero → ⊥) → slice_get (first ∷ rest) other ≡ Some it → Contains rest it
      others zero it apart there = absurd (apart refl)
      others (suc other) it apart there = Contains-at rest other it there
  split_at (first ∷ rest) (suc place) thing at = by (split_at rest place thing at)
    where
      by : SplitsAt rest place thing → SplitsAt (first ∷ rest) (suc place) thing
      by (front, back, whole, others) = (first ∷ front, back, ap (λ all. first ∷ all) whole, more)
        where
          more : (other : ℕ) (it : X) → (other ≡ suc place → ⊥) → slice_get (first ∷ rest) other ≡ Some it → Contains (first ∷ (front ++ back)) it
          more zero it apart there = let is : first ≡ it = cc in subst (Contains (first ∷ (front ++ back))) is (Contains-head first (front ++ back))
          more (suc other) it apart there = Contains-rest first (front ++ back) it (others other it (λ same. apart (ap suc same)) there)

pub core-HasNoRetract : (plan : ConjunctiveQuery) → IsCore plan → HasNoRetract plan
core-HasNoRetract plan core set count retracts number below = by (slice_index_or set number false) refl
  where
    by : (answer : Bool) → slice_index_or set number false ≡ answer → slice_index_or set number false ≡ true
    by true told = told
    by false told =
        let at = thing_at plan.body number below in
        let parts = split_at plan.body number at.0 at.1 in
        absurd (core parts.0 parts.1 at.0 parts.2 (
          retracts.0,
          retracts.1,
          (λ atom inside.
              let found = Has-from_chosen set plan.body (image retracts.0 atom) (retracts.2 atom inside) in
              parts.3 found.0 (image retracts.0 atom)
              (λ same. let wrong : true ≡ false = sym found.1 ∙ ap (λ it. slice_index_or set it false) same ∙ told in cc) found.2),
          retracts.3,
        ))

-- all but the thing at a place
abbrev all_but : List (Fact Term) → List (Fact Term) → List Bool
all_but [] back = false ∷ replicate (length back) true
all_but (first ∷ front) back = true ∷ all_but front back

chosen_all : (atoms : List (Fact Term)) → chosen (replicate (length atoms) true) atoms ≡ atoms
chosen_all [] = refl
chosen_all (first ∷ rest) = ap (λ all. first ∷ all) (chosen_all rest)

chosen_but : (front back : List (Fact Term)) (atom : Fact Term) → chosen (all_but front back) (front ++ atom ∷ back) ≡ front ++ back
chosen_but [] back atom = chosen_all back
chosen_but (first ∷ front) back atom = ap (λ all. first ∷ all) (chosen_but front back atom)

length_but : (front back : List (Fact Term)) (atom : Fact Term) → length (all_but front back) ≡ length (front ++ atom ∷ back)
length_but [] back atom = ap suc (length-replicate (length back) true)
length_but (first ∷ front) back atom = ap suc (length_but front back atom)

not_in_but : (front back : List (Fact Term)) → Has (all_but front back) (length front) → ⊥
not_in_but [] back has = let wrong : false ≡ true = has in cc
not_in_but (first ∷ front) back has = not_in_but front back has

pub core-from_none : (plan : ConjunctiveQuery) → HasNoRetract plan → IsCore plan
core-from_none plan none front back atom whole retracts =
    let count : length plan.body ≡ suc (length (front ++ back)) = ap length whole ∙ length_split front back atom in
    let more = length-append front back in
    let fewer : chosen (all_but front back) plan.body ≡ front ++ back = ap (chosen (all_but front back)) whole ∙ chosen_but front back atom in
    not_in_but front back
    (none (all_but front back) (length_but front back atom ∙ ap length (sym whole)) (subst (Retracts plan.head plan.body) (sym fewer) retracts)
    (length front) (omega (arith, count, more)))

-- ---- renamed plans

module _ (plan other : ConjunctiveQuery) (renamed : IsRenamedTo plan other) where
  abbrev pub renamed-there : MapsTo plan other
  renamed-there = (
    renamed.renaming,
    renamed.keeps,
    (λ atom inside.
        Contains-permutation (map (image renamed.renaming) plan.body) other.body (image renamed.renaming atom) renamed.atoms
        (Contains-map (image renamed.renaming) plan.body atom inside)),
    renamed.head,
  )

  pub from_renamed : (atom : Fact Term) → Contains other.body atom
      → (own : Fact Term) × Contains plan.body own × (image renamed.renaming own ≡ atom) × (image renamed.back atom ≡ own)
  from_renamed atom inside =
      let from = Contains-map_from (image renamed.renaming) plan.body atom
      (Contains-permutation other.body (map (image renamed.renaming) plan.body) atom
      (IsPermutation-sym (map (image renamed.renaming) plan.body) other.body renamed.atoms) inside) in (
        from.0,
        from.1,
        from.2,
        ap (image renamed.back) (sym from.2) ∙ image_then renamed.renaming renamed.back from.0
            ∙ image_agree (λ term. renamed.back (renamed.renaming term)) (λ term. term) from.0
            (λ term in_atom. renamed.undone term (inr (from.0, from.1, in_atom))) ∙ image_itself from.0,
      )

  abbrev pub renamed-back : MapsTo other plan
  renamed-back = (
    renamed.back,
    renamed.back_keeps,
    (λ atom inside. let from = from_renamed atom inside in subst (Contains plan.body) (sym from.3) from.1),
    ap (map renamed.back) (sym renamed.head) ∙ map_then renamed.renaming renamed.back plan.head
        ∙ map_agree (λ term. renamed.back (renamed.renaming term)) (λ term. term) plan.head (λ term inside. renamed.undone term (inl inside))
        ∙ map_itself plan.head,
  )

  module _ (core : IsCore plan) where
    renamed-distinct : Distinct other.body
    renamed-distinct = distinct-from_splits other.body (λ front back atom whole inside.
        let counted : length other.body ≡ length plan.body =
        length_permutation (map (image renamed.renaming) plan.body) other.body renamed.atoms ∙ length-map plan.body (image renamed.renaming) in
        let split_count : length other.body ≡ suc (length (front ++ back)) = ap length whole ∙ length_split front back atom in
        let back_count : length (map (image renamed.back) (front ++ back)) ≡ length (front ++ back) = length-map (front ++ back) (image renamed.back) in
        let fewer = no_more (λ it. it) plan.body (map (image renamed.back) (front ++ back)) (core-distinct plan core) (λ own own_inside.
        let there = renamed-there.2 own own_inside in
        let undone = from_own own own_inside in
        let among = in_rest front back atom whole inside (image renamed.renaming own) there in
        let again = Contains-map (image renamed.back) (front ++ back) (image renamed.renaming own) among in
        (own, subst (Contains (map (image renamed.back) (front ++ back))) undone again, refl)) in
        omega (arith, counted, split_count, back_count, fewer))
      where
        from_own : (own : Fact Term) → Contains plan.body own → image renamed.back (image renamed.renaming own) ≡ own
        from_own own inside =
            image_then renamed.renaming renamed.back own
            ∙ image_agree (λ term. renamed.back (renamed.renaming term)) (λ term. term) own
            (λ term in_atom. renamed.undone term (inr (own, inside, in_atom))) ∙ image_itself own

        in_rest : (front back : List (Fact Term)) (atom : Fact Term) → other.body ≡ front ++ atom ∷ back → Contains (front ++ back) atom
            → (it : Fact Term) → Contains other.body it → Contains (front ++ back) it
        in_rest front back atom whole again it inside = elim (split_cases front back atom it (subst (λ all. Contains all it) whole inside)) [
          | inl is ↦ subst (Contains (front ++ back)) is again
          | inr left ↦ left
        ]

    pub renamed-IsCore : IsCore other
    renamed-IsCore front back atom whole retracts =
        let from = from_renamed atom (subst (λ all. Contains all atom) (sym whole) (split_thing front back atom)) in
        let parts = split plan.body from.0 from.1 in
        core parts.0 parts.1 from.0 parts.2 (
        MapsTo-then plan other (with_head plan.head (parts.0 ++ parts.1)) renamed-there
        (MapsTo-then other (with_head other.head (front ++ back)) (with_head plan.head (parts.0 ++ parts.1)) retracts (
          renamed.back,
          renamed.back_keeps,
          (λ it inside.
              let own = from_renamed it (subst (λ all. Contains all it) (sym whole) (split_more front back atom it inside)) in
              subst (Contains (parts.0 ++ parts.1)) (sym own.3)
              (elim (split_cases parts.0 parts.1 from.0 own.0 (subst (λ all. Contains all own.0) parts.2 own.1)) [
                | inl same ↦ absurd (outside front back atom (subst Distinct whole renamed-distinct)
                    (subst (Contains (front ++ back)) (sym own.2 ∙ ap (image renamed.renaming) (sym same) ∙ from.2) inside))
                | inr left ↦ left
              ])),
          renamed-back.3,
        ))
        )
