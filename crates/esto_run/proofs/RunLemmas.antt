-- The run of a set over stored rows.
use Rattle.std.proofs.Common.{◌≡◌, ◌↔◌, ◌⊎◌, ◌++◌, inl, inr, ℕ, ◌<◌, Bool, List, [], ◌∷◌, map, length, get_or, Some, slice_get, Contains, refl, sym, ap, ◌∙◌}
use Rattle.std.proofs.Common.{subst, arith}
use Rattle.std.specs.Prelude.{All, Option, None, option_to_list}
use Rattle.std.proofs.lemmas.List.{length-append, length-map}
use Rattle.std.proofs.lemmas.List.Elements.{Contains-get_or, Contains-append_cases, Contains-append_left, Contains-append_right, Contains-push_cases}
use Rattle.std.proofs.lemmas.Option.{get_or_from_slice_get}
use Rattle.esto_term.specs.declared.term.Term.{Term}
use Rattle.esto_columns.specs.Asked.{Shape}
use Rattle.esto_columns.specs.Interned.{Grows}
use Rattle.esto_columns.specs.declared.stored.StoredRows.{StoredRows}
use Rattle.esto_run.specs.Runnable.{HaveShapes}
use Rattle.esto_steps.specs.Planned.{AreStepsAfter, Fits, IsSource, atoms_of, inputs_of}
use Rattle.esto_steps.specs.Rows.{IsRowOf, held_by}
use Rattle.esto_steps.specs.Texts.{AreCoded}
use Rattle.esto_steps.specs.declared.steps.Get.{Get}
use Rattle.esto_steps.specs.declared.steps.Source.{Source}
use Rattle.esto_semantics.specs.Access.{Patterns, IsOrder}
use Rattle.esto_semantics.specs.Listed.{chosen, candidate}
use Rattle.esto_semantics.specs.ListedLaws.{ChosenAreNamed}
use Rattle.esto_semantics.specs.Queries.{ConjunctiveQuery}
use Rattle.esto_semantics.specs.declared.fact.Fact.{Fact}
use Rattle.esto_stores.specs.Rows.{Row}
use Rattle.esto_term.proofs.ListLemmas.{Contains-nil, Contains-at, Contains-cases, Contains-head, Contains-map_from, at_left, map_agree, map_at, map_then}
use Rattle.esto_term.proofs.ListLemmas.{thing_at}
use Rattle.esto_term.proofs.ZipLemmas.{zip_length}
use Rattle.esto_views.specs.Fragments.{patterns_of}
use Rattle.esto_views.specs.Plans.{fact_of, plan_query, IsPlanOver}
use Rattle.esto_views.specs.declared.fragments.FragmentDef.{FragmentDef}
use Rattle.esto_views.specs.declared.plan.Plan.{Plan}
use Rattle.esto_run.specs.Coded.{AreCodesOfAll}
use Rattle.esto_run.specs.Laws.{IsAnswerOfOne, IsAnswerOver}
use Rattle.esto_run.specs.Opened.{Held, HaveTexts, AreRowsFor, held_of, rows_held, shape_of}
use Rattle.esto_run.proofs.HeldLemmas.{text_of_codes, codes_long, code_below, coded_held}

-- what an executor sees of stored rows
abbrev pub shape_seen : StoredRows → Shape
shape_seen it = record { arity = it.rows.arity; ways = it.ways }

abbrev pub codes_of : StoredRows → List (List ℕ)
codes_of it = it.rows.rows

-- ---- the rows of all fragments

-- the stored rows are what is held, where these are the texts of the codes
pub record AreHeld (texts : List (List ℕ)) (opened : List Held) (stored : List StoredRows) : Type 0 where
  pub shapes : map shape_seen stored ≡ map (λ held. held.shape) opened
  pub coded : AreCoded texts (held_by (map codes_of stored)) (held_by (rows_held opened))

pub held_so : (old new : List (List ℕ)) (stored : List StoredRows) → Grows old new → HaveTexts old stored → AreHeld new (map (held_of old) stored) stored
held_so old new stored grown have = record {
  shapes = sym (map_then (held_of old) (λ held. held.shape) stored);
  coded = coded_held old new grown stored have;
}

module _ (texts : List (List ℕ)) (fragments : List FragmentDef) (opened : List Held) (stored : List StoredRows)
    (rows_are : AreRowsFor fragments opened) (are : AreHeld texts opened stored) where
  codes_wide : (number : ℕ) (fragment : FragmentDef) → slice_get fragments number ≡ Some fragment → (codes : List ℕ)
      → Contains (held_by (map codes_of stored) number) codes → length codes ≡ length fragment.view.head
  codes_wide number fragment at codes inside =
      let found = text_of_codes texts (held_by (map codes_of stored) number) (held_by (rows_held opened) number) (are.coded number) codes inside in
      codes_long texts codes found.0 found.2 ∙ rows_are.wide number fragment at found.0 found.1

  pub codes_have_texts : (number : ℕ) (codes : List ℕ) → Contains (held_by (map codes_of stored) number) codes
      → (code : ℕ) → Contains codes code → code < length texts
  codes_have_texts number codes inside =
      let found = text_of_codes texts (held_by (map codes_of stored) number) (held_by (rows_held opened) number) (are.coded number) codes inside in
      code_below texts codes found.0 found.2

  module _ (plan : Plan) (over : IsPlanOver plan fragments) where
    fragment_of : (atom : Fact Term) → Contains (plan_query plan).body atom
        → (fragment : FragmentDef) × (slice_get fragments atom.relation ≡ Some fragment) × (length atom.terms ≡ length fragment.view.head)
    fragment_of atom inside =
        let found = Contains-map_from fact_of plan.atoms atom inside in
        let its = over found.0 found.1 in (
          its.0,
          ap (λ (it : Fact Term). slice_get fragments it.relation) (sym found.2) ∙ its.1,
          ap (λ (it : Fact Term). length it.terms) (sym found.2) ∙ its.3,
        )

    pub shapes : (atoms : List (Fact Term)) → ((atom : Fact Term) → Contains atoms atom → Contains (plan_query plan).body atom)
        → HaveShapes (patterns_of fragments) atoms (map shape_seen stored)
    shapes atoms among atom inside =
        let its = fragment_of atom (among atom inside) in (
          shape_of its.0,
          ap (λ them. slice_get them atom.relation) (are.shapes ∙ rows_are.shapes) ∙ map_at shape_of fragments atom.relation its.0 its.1,
          sym its.2,
          ap (map inputs_of)
              (sym (get_or_from_slice_get (patterns_of fragments) atom.relation its.0.access []
              (map_at (λ (it : FragmentDef). it.access) fragments atom.relation its.0 its.1))),
        )

    pub fits : (atoms : List (Fact Term)) → ((atom : Fact Term) → Contains atoms atom → Contains (plan_query plan).body atom)
        → Fits atoms (IsRowOf (held_by (map codes_of stored)))
    fits atoms among atom fact inside holds same =
        let its = fragment_of atom (among atom inside) in
        its.2 ∙ sym (codes_wide fact.relation its.0 (ap (slice_get fragments) same ∙ its.1) fact.terms holds)

-- ---- the sets of an order

module _ (named : ChosenAreNamed) (patterns : Patterns) (plan : ConjunctiveQuery) (set other : List Bool) (order : List ℕ)
    (is_order : IsOrder patterns plan.body set order) (is_too : IsOrder patterns plan.body other order) where
  same_chosen : (atom : Fact Term) → Contains (chosen set plan.body) atom → Contains (chosen other plan.body) atom
  same_chosen atom inside =
      let found = (named set plan.body atom).0 inside in
      (named other plan.body atom).1 (found.0, (is_too.names found.0).0 ((is_order.names found.0).1 found.1), found.2)

  pub answers_same : (Holds : Fact (List ℕ) → Type 0) (row : Row) → IsAnswerOver Holds (candidate plan other) row → IsAnswerOver Holds (candidate plan set) row
  answers_same Holds row (m, keeps, sends, is) = (m, keeps, (λ atom inside. sends atom (same_chosen atom inside)), is)

-- the atoms of a set are among all
pub chosen_among : ChosenAreNamed → (set : List Bool) (atoms : List (Fact Term)) (atom : Fact Term) → Contains (chosen set atoms) atom → Contains atoms atom
chosen_among named set atoms atom inside = let found = (named set atoms atom).0 inside in Contains-at atoms found.0 atom found.2

-- so are those of numbers
pub atoms_among : (atoms : List (Fact Term)) (numbers : List ℕ) (atom : Fact Term) → Contains (atoms_of atoms numbers) atom → Contains atoms atom
atoms_among atoms [] atom inside = absurd (Contains-nil atom inside)
atoms_among atoms (first ∷ rest) atom inside =
    elim (Contains-append_cases (option_to_list (slice_get atoms first)) (atoms_of atoms rest) atom inside) [
      | inl here ↦ there (slice_get atoms first) refl here
      | inr later ↦ atoms_among atoms rest atom later
    ]
  where
    there : (read : Option (Fact Term)) → slice_get atoms first ≡ read → Contains (option_to_list read) atom → Contains atoms atom
    there None is here = absurd (Contains-nil atom here)
    there (Some own) is here = elim (Contains-cases own [] atom here) [
      | inl same ↦ Contains-at atoms first atom (is ∙ ap Some same)
      | inr none ↦ absurd (Contains-nil atom none)
    ]

-- ---- rows of codes

-- the steps have a source for each term of the head
pub sources_long : (texts : List (List ℕ)) (patterns : Patterns) (head : List Term) (sources : List Source) (bound : List Term) (atoms : List (Fact Term))
    (gets : List Get) → AreStepsAfter texts patterns head sources bound atoms gets → length head ≡ length sources
sources_long texts patterns head sources bound [] [] are = zip_length (IsSource texts bound) head sources are
sources_long texts patterns head sources bound [] (get ∷ gets) are = absurd are
sources_long texts patterns head sources bound (atom ∷ atoms) [] are = absurd are
sources_long texts patterns head sources bound (atom ∷ atoms) (get ∷ gets) are =
    sources_long texts patterns head sources (bound ++ atom.terms) atoms gets are.1

-- rows of codes are those of the same rows
pub same_codes : (texts coded : List (List ℕ)) (Has Other : Row → Type 0) → ((row : Row) → Has row ↔ Other row) → AreCodesOfAll texts coded Has
    → AreCodesOfAll texts coded Other
same_codes texts coded Has Other same are = record {
  below = are.below;
  exact = λ row. ((λ found. (same row).0 ((are.exact row).0 found)), (λ other. (are.exact row).1 ((same row).1 other)));
}

module _ (old new : List (List ℕ)) (grown : Grows old new) where
  same_texts : (codes : List ℕ) → ((code : ℕ) → Contains codes code → code < length old) → map (slice_get new) codes ≡ map (slice_get old) codes
  same_texts codes below = map_agree (slice_get new) (slice_get old) codes (λ code inside.
      let own = thing_at old code (below code inside) in
      ap (λ them. slice_get them code) grown.1 ∙ at_left old grown.0 code own.0 own.1 ∙ sym own.1)

  -- rows of codes that come to others are those of either's rows
  pub joined_codes : (coded more : List (List ℕ)) (Has Other : Row → Type 0) → AreCodesOfAll old coded Has → AreCodesOfAll new more Other
      → AreCodesOfAll new (coded ++ more) (λ row. Has row ⊎ Other row)
  joined_codes coded more Has Other are too = record {
    below = λ codes inside code within. elim (Contains-append_cases coded more codes inside) [
      | inl here ↦ (let below = are.below codes here code within in let long = ap length grown.1 ∙ length-append old grown.0 in omega (arith, below, long))
      | inr there ↦ too.below codes there code within
    ];
    exact = λ row. (
      (λ (codes, inside, is). elim (Contains-append_cases coded more codes inside) [
        | inl here ↦ inl ((are.exact row).0 (codes, here, sym (same_texts codes (are.below codes here)) ∙ is))
        | inr there ↦ inr ((too.exact row).0 (codes, there, is))
      ]),
      (λ has. elim has [
        | inl own ↦ let found = (are.exact row).1 own in
            (found.0, Contains-append_left coded more found.0 found.1, same_texts found.0 (are.below found.0 found.1) ∙ found.2)
        | inr other ↦ let found = (too.exact row).1 other in (found.0, Contains-append_right coded more found.0 found.1, found.2)
      ]),
    );
  }

-- an answer of one of the queries, or of one more, is one of either
pub one_answers_more : (Holds : Fact (List ℕ) → Type 0) (queries : List ConjunctiveQuery) (query : ConjunctiveQuery) (row : Row)
    → (IsAnswerOfOne Holds queries row ⊎ IsAnswerOver Holds query row) ↔ IsAnswerOfOne Holds (queries ++ query ∷ []) row
one_answers_more Holds queries query row = (
  λ either. elim either [
    | inl (own, inside, answer) ↦ (own, Contains-append_left queries (query ∷ []) own inside, answer)
    | inr answer ↦ (query, Contains-append_right queries (query ∷ []) query (Contains-head query []), answer)
  ],
  λ (own, inside, answer). elim (Contains-push_cases queries query own inside) [
    | inl old ↦ inl (own, old, answer)
    | inr last ↦ inr (subst (λ it. IsAnswerOver Holds it row) (sym last) answer)
  ],
)

-- where none is asked, there is none
pub no_codes : (texts : List (List ℕ)) (Holds : Fact (List ℕ) → Type 0) → AreCodesOfAll texts [] (IsAnswerOfOne Holds [])
no_codes texts Holds = record {
  below = λ codes inside. absurd (Contains-nil codes inside);
  exact = λ row. ((λ (codes, inside, is). absurd (Contains-nil codes inside)), (λ (query, inside, answer). absurd (Contains-nil query inside)));
}

-- ---- the text

pub answers_long : (Holds : Fact (List ℕ) → Type 0) (query : ConjunctiveQuery) (row : Row) → IsAnswerOver Holds query row → length row ≡ length query.head
answers_long Holds query row (m, keeps, sends, is) = ap length is ∙ length-map query.head m

pub all_long : (width : ℕ) (rows : List Row) → ((row : Row) → Contains rows row → length row ≡ width) → All (λ row. length row ≡ width) rows
all_long width rows long k d below = long (get_or rows k d) (Contains-get_or rows k d below)
