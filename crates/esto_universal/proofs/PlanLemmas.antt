-- The stated plan is a plan of its end, and is over the fragments.
use Rattle.std.proofs.Common.{◌≡◌, inl, inr, List, length, slice_get, Contains, sym, ap, ◌∙◌, subst}
use Rattle.std.proofs.lemmas.List.{length-map}
use Rattle.esto_term.specs.declared.term.Term.{Term}
use Rattle.esto_semantics.specs.Facts.{image}
use Rattle.esto_semantics.specs.PlanOf.{IsOfRows, IsPlanOf}
use Rattle.esto_semantics.specs.Queries.{ConjunctiveQuery}
use Rattle.esto_semantics.specs.declared.fact.Fact.{Fact}
use Rattle.esto_semantics.specs.Cores.{with_head}
use Rattle.esto_query.specs.Making.{query_of}
use Rattle.esto_query.specs.declared.query.Name.{Name}
use Rattle.esto_views.specs.Fragments.{views_of, AreFragments}
use Rattle.esto_views.specs.Plans.{fact_of, plan_query, IsPlanOver}
use Rattle.esto_views.specs.declared.fragments.FragmentDef.{FragmentDef}
use Rattle.esto_views.specs.declared.plan.Plan.{Plan}
use Rattle.esto_views.specs.Reading.{terms_read}
use Rattle.esto_universal.specs.Stated.{IsStatedPlan}
use Rattle.esto_views.proofs.RenamingLemmas.{back, back-Const}
use Rattle.esto_term.proofs.ListLemmas.{Contains-at, Contains-map, Contains-map_from}
use Rattle.esto_term.proofs.ListLemmas.{map_at-from}
use Rattle.esto_views.proofs.RenamedLemmas.{read_row, read_head, term_undone}

-- ---- a plan of its end

module _ (names : List Name) (views : List ConjunctiveQuery) (end : ConjunctiveQuery) (plan : Plan) (stated : IsStatedPlan names views end plan) where
  of_rows : (term : Term) → IsOfRows views end term → Contains (terms_read stated.rows end.head) term
  of_rows term (inl (row, is_row, inside)) = read_row stated.rows end.head row term ((stated.are_rows.exact row).1 is_row) inside
  of_rows term (inr in_head) = read_head stated.rows end.head term in_head

  pub plan_of : IsPlanOf views end (plan_query plan)
  plan_of = record {
    renaming = stated.renamed.renaming;
    back = back stated.renamed.seen;
    keeps = stated.renamed.is_renaming.keeps;
    back_keeps = back-Const stated.renamed.seen;
    undone = λ term inside. term_undone names (with_head end.head stated.rows) (plan_query plan) plan.names stated.renamed term (of_rows term inside);
    rows = λ row is_row. subst (λ it. Contains it (image stated.renamed.renaming row)) (sym stated.renamed.atoms)
        (Contains-map (image stated.renamed.renaming) stated.rows row ((stated.are_rows.exact row).1 is_row));
    only_rows = λ atom inside.
        let found = Contains-map_from (image stated.renamed.renaming) stated.rows atom (subst (λ it. Contains it atom) stated.renamed.atoms inside) in
        (found.0, (stated.are_rows.exact found.0).0 found.1, found.2);
    head = stated.renamed.head;
  }

pub plan_over : (names : List Name) (fragments : List FragmentDef) (end : ConjunctiveQuery) (plan : Plan) → AreFragments fragments
    → IsStatedPlan names (views_of fragments) end plan → IsPlanOver plan fragments
plan_over names fragments end plan are_fragments stated atom inside =
    let found = Contains-map_from (image stated.renamed.renaming) stated.rows (fact_of atom)
    (subst (λ it. Contains it (fact_of atom)) stated.renamed.atoms (Contains-map fact_of plan.atoms atom inside)) in
    let row = (stated.are_rows.exact found.0).0 found.1 in
    let source = map_at-from (λ (it : FragmentDef). query_of it.view) fragments found.0.relation row.0 row.1 in
    let relation : found.0.relation ≡ atom.fragment = ap (λ (it : Fact Term). it.relation) found.2 in
    let lengths : length atom.terms ≡ length source.0.view.head =
    ap (λ (it : Fact Term). length it.terms) (sym found.2) ∙ length-map found.0.terms stated.renamed.renaming ∙ ap length row.2.3
    ∙ length-map row.0.head row.2.0
    ∙ ap (λ (it : ConjunctiveQuery). length it.head) (sym source.2) in
    (source.0, ap (slice_get fragments) (sym relation) ∙ source.1, are_fragments source.0 (Contains-at fragments found.0.relation source.0 source.1), lengths)
