-- A query over fragments means what its expansion means.
use Rattle.std.proofs.Common.{◌≡◌, ◌⊎◌, ◌↔◌, inl, inr, ℕ, ◌<◌, List, map, length, slice_get, Contains, Option, Some, None, refl, sym, ap, ◌∙◌, subst}
use Rattle.std.proofs.lemmas.Option.{slice_get_within}
use Rattle.esto_term.specs.declared.term.Term.{Term}
use Rattle.esto_term.specs.declared.term.Term.TheVariants.{Const}
use Rattle.esto_semantics.specs.Containment.{IsContained}
use Rattle.esto_semantics.specs.ExpansionLaws.{ExpansionIsContainedInUnion}
use Rattle.esto_semantics.specs.Expansions.{IsInner, IsOfQuery, IsExpansion}
use Rattle.esto_semantics.specs.Facts.{Database, image, terms_of}
use Rattle.esto_semantics.specs.Instances.{MapsTo, IsUniversalFor, IsFinished}
use Rattle.esto_semantics.specs.Maps.{IsConstant, Keeps, SendsInto, Sends}
use Rattle.esto_semantics.specs.Queries.{ConjunctiveQuery, IsAnswer}
use Rattle.esto_semantics.specs.Rules.{Rule, AreRules}
use Rattle.esto_semantics.specs.Views.{IsViewRow, IsFragmentAnswer}
use Rattle.esto_semantics.specs.declared.fact.Fact.{Fact}
use Rattle.esto_semantics.specs.declared.fact.Value.{Value}
use Rattle.esto_semantics.specs.declared.fact.Value.TheVariants.{Text}
use Rattle.esto_semantics.proofs.CanonicalLemmas.{Mentions-terms_of}
use Rattle.esto_semantics.proofs.ContainmentLemmas.{unions_are_decided, universal_instances_decide}
use Rattle.esto_semantics.proofs.FactLemmas.{image_agree, image_then}
use Rattle.esto_semantics.proofs.JoinLemmas.{Contains-decided, joined, joined-spread, joined-given}
use Rattle.esto_semantics.proofs.TermLemmas.{Const-apart-Plain, constant_text, constant_text-told, constant_text-Const}
use Rattle.esto_term.proofs.ListLemmas.{Contains-at, Contains-flat_from, Contains-map, agree-from_map, map_agree, map_then, place-from_Contains, thing_at}

module _ (views : List ConjunctiveQuery) (query : ConjunctiveQuery) (expansion : List (Fact Term)) (is_expansion : IsExpansion views query expansion) where
  abbrev view : ℕ → ConjunctiveQuery
  view = is_expansion.view

  abbrev spread : ℕ → Term → Term
  spread = is_expansion.spread

  abbrev count : ℕ
  count = length query.body

  -- the query with its head over the expansion
  abbrev pub expanded : ConjunctiveQuery
  expanded = record { head = query.head; body = expansion }

  -- ---- back from the expansion

  row-from_expansion : (database : Database) (m : Term → Value) → Keeps Text m → Sends m expansion database
      → (number : ℕ) (atom : Fact Term) → slice_get query.body number ≡ Some atom → IsViewRow views database (image m atom)
  row-from_expansion database m keeps sends number atom at = (
    view number,
    is_expansion.has_view number atom at,
    (
      (λ term. m (spread number term)),
      (λ text. ap m (is_expansion.keeps number text) ∙ keeps text),
      (λ part inside. subst (Contains database) (image_then (spread number) m part)
          (sends (image (spread number) part)
          ((is_expansion.facts (image (spread number) part)).1 (number, slice_get_within query.body number atom at, (part, inside, refl))))),
      ap (map m) (sym (is_expansion.head number atom at)) ∙ map_then (spread number) m (view number).head,
    ),
  )

  pub answer-from_expansion : (database : Database) (row : List Value) → IsAnswer expanded database row → IsFragmentAnswer views query database row
  answer-from_expansion database row (m, keeps, sends, is) = (
    m,
    keeps,
    (λ atom inside. let at = place-from_Contains query.body atom inside in row-from_expansion database m keeps sends at.0 atom at.1),
    is,
  )

  -- ---- there

  module _ (database : Database) (m : Term → Value) (keeps : Keeps Text m) (sends : SendsInto m query.body (IsViewRow views database)) where
    -- a valuation by which the view of a number gives the row that the atom of that number is sent to
    abbrev IsChoice : ℕ → (Term → Value) → Type 0
    IsChoice number local =
        (atom : Fact Term) → slice_get query.body number ≡ Some atom
        → Keeps Text local × Sends local (view number).body database × (map m atom.terms ≡ map local (view number).head)

    choice : (number : ℕ) → (local : Term → Value) × IsChoice number local
    choice number = by (slice_get query.body number) refl
      where
        by : (found : Option (Fact Term)) → slice_get query.body number ≡ found → (local : Term → Value) × IsChoice number local
        by (Some atom) told =
            let row = sends atom (Contains-at query.body number atom told) in
            let has : slice_get views atom.relation ≡ Some (view number) = is_expansion.has_view number atom told in
            let has_row : slice_get views atom.relation ≡ Some row.0 = row.1 in
            let same : row.0 ≡ view number = cc in
            let answer : IsAnswer (view number) database (map m atom.terms) = subst (λ it. IsAnswer it database (map m atom.terms)) same row.2 in
            (answer.0, λ other at. let is : other ≡ atom = cc in (answer.1, answer.2, ap (λ (it : Fact Term). map m it.terms) is ∙ answer.3))
        by None told = (m, λ atom at. absurd (cc))

    abbrev local : ℕ → Term → Value
    local number = (choice number).0

    abbrev terms : ℕ → List Term
    terms number = terms_of (view number).body

    -- a term of the query, or a constant
    abbrev IsOld : Term → Type 0
    IsOld term = IsConstant term ⊎ IsOfQuery query term

    -- a term of a view is an inner one, or goes where the query's valuation sends it
    inner_cases : (number : ℕ) (term : Term) → number < count → Contains (terms number) term
        → (IsOld (spread number term) × (local number term ≡ m (spread number term))) ⊎ IsInner (view number) term
    inner_cases number term below inside = by (constant_text term) refl (Contains-decided (view number).head term)
      where
        by : (found : Option (List ℕ)) → constant_text term ≡ found → Contains (view number).head term ⊎ (Contains (view number).head term → ⊥)
            → (IsOld (spread number term) × (local number term ≡ m (spread number term))) ⊎ IsInner (view number) term
        by (Some text) told in_head =
            let at = thing_at query.body number below in
            let chosen = (choice number).1 at.0 at.1 in
            let is : term ≡ Const text = sym (constant_text-told term text told) in
            let goes : spread number term ≡ Const text = ap (spread number) is ∙ is_expansion.keeps number text in
            inl (inl (text, goes), ap (local number) is ∙ chosen.0 text ∙ sym (keeps text) ∙ ap m (sym goes))
        by None told (inl in_head) =
            let at = thing_at query.body number below in
            let chosen = (choice number).1 at.0 at.1 in
            let heads = is_expansion.head number at.0 at.1 in
            inl (
              inr (inl (
                at.0,
                Contains-at query.body number at.0 at.1,
                subst (λ it. Contains it (spread number term)) heads (Contains-map (spread number) (view number).head term in_head),
              )),
              agree-from_map (local number) (λ it. m (spread number it)) (view number).head term
                  (sym chosen.2 ∙ ap (map m) (sym heads) ∙ map_then (spread number) m (view number).head) in_head,
            )
        by None told (inr not_in_head) =
            let from = Contains-flat_from (λ (fact : Fact Term). fact.terms) (view number).body term inside in
            inr (record {
              in_body = (from.0, from.1, from.2);
              no_constant = λ (text, is). let wrong : None ≡ Some text = sym told ∙ ap constant_text is ∙ constant_text-Const text in cc;
              not_in_head = not_in_head;
            })

    inner-apart_old : (number : ℕ) (term other : Term) → number < count → IsInner (view number) term → spread number term ≡ other → IsOld other → ⊥
    inner-apart_old number term other below inner is (inl (text, constant)) =
        let plain = is_expansion.variable number term below inner in
        Const-apart-Plain text plain.0 (sym constant ∙ sym is ∙ plain.1)
    inner-apart_old number term other below inner is (inr old) =
        is_expansion.outside number term below inner (subst (IsOfQuery query) (sym is) old)

    one_value : (number other : ℕ) (term other_term : Term) → number < count → other < count → Contains (terms number) term → Contains (terms other) other_term
        → spread number term ≡ spread other other_term → local number term ≡ local other other_term
    one_value number other term other_term below other_below inside other_inside same = elim (inner_cases number term below inside) [
      | inl (old, goes) ↦ elim (inner_cases other other_term other_below other_inside) [
        | inl (other_old, other_goes) ↦ goes ∙ ap m same ∙ sym other_goes
        | inr other_inner ↦ absurd (inner-apart_old other other_term (spread number term) other_below other_inner (sym same) old)
      ]
      | inr inner ↦ elim (inner_cases other other_term other_below other_inside) [
        | inl (other_old, other_goes) ↦ absurd (inner-apart_old number term (spread other other_term) below inner same other_old)
        | inr other_inner ↦ let is = is_expansion.apart number other term other_term below other_below inner other_inner same in λ i. local (is.0 i) (is.1 i)
      ]
    ]

    abbrev valuation : Term → Value
    valuation = joined spread local terms m count

    valuation-old : (term : Term) → IsOld term → valuation term ≡ m term
    valuation-old term old = joined-given spread local terms m count term (λ number inner below inside is. elim (inner_cases number inner below inside) [
      | inl (spread_old, goes) ↦ goes ∙ ap m is
      | inr is_inner ↦ absurd (inner-apart_old number inner term below is_inner is old)
    ])

    valuation-Sends : Sends valuation expansion database
    valuation-Sends fact inside =
        let from = (is_expansion.facts fact).0 inside in
        let number = from.0 in
        let part = from.2.0 in
        let at = thing_at query.body number from.1 in
        let chosen = (choice number).1 at.0 at.1 in
        let goes : image valuation fact ≡ image (local number) part =
        ap (image valuation) (sym from.2.2) ∙ image_then (spread number) valuation part
        ∙ image_agree (λ term. valuation (spread number term)) (local number) part (λ term in_part.
        joined-spread spread local terms m count one_value number term from.1 (Mentions-terms_of (view number).body term (part, from.2.1, in_part))) in
        subst (Contains database) (sym goes) (chosen.1 part from.2.1)

    pub valuation_answer : IsAnswer expanded database (map m query.head)
    valuation_answer = (
      valuation,
      (λ text. valuation-old (Const text) (inl (text, refl)) ∙ keeps text),
      valuation-Sends,
      map_agree m valuation query.head (λ term inside. sym (valuation-old term (inr (inr inside)))),
    )

  pub answer-to_expansion : (database : Database) (row : List Value) → IsFragmentAnswer views query database row → IsAnswer expanded database row
  answer-to_expansion database row (m, keeps, sends, is) = subst (IsAnswer expanded database) (sym is) (valuation_answer database m keeps sends)

-- ---- containment

pub expansion_decides : (rules : List Rule) (views : List ConjunctiveQuery) (query : ConjunctiveQuery) (expansion : List (Fact Term))
    (end right : ConjunctiveQuery)
    → AreRules rules → IsExpansion views query expansion → IsUniversalFor rules (record { head = query.head; body = expansion }) end → IsFinished rules end
    → IsContained rules (IsFragmentAnswer views query) (IsAnswer right) ↔ MapsTo right end
expansion_decides rules views query expansion end right are_rules is_expansion universal finished =
    let decided = universal_instances_decide rules (record { head = query.head; body = expansion }) end right are_rules universal finished in (
      (λ contained. decided.0
          (λ database meets row answer. contained database meets row (answer-from_expansion views query expansion is_expansion database row answer))),
      (λ maps database meets row answer. decided.1 maps database meets row (answer-to_expansion views query expansion is_expansion database row answer)),
    )

pub expansion_decides_union : ExpansionIsContainedInUnion
expansion_decides_union rules views query expansion end queries are_rules is_expansion universal finished =
    let decided = unions_are_decided rules (record { head = query.head; body = expansion }) end queries are_rules universal finished in (
      (λ contained. decided.0
          (λ database meets row answer. contained database meets row (answer-from_expansion views query expansion is_expansion database row answer))),
      (λ one database meets row answer. decided.1 one database meets row (answer-to_expansion views query expansion is_expansion database row answer)),
    )
