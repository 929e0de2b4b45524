-- There is one stated plan.
use Rattle.std.proofs.Common.{◌≡◌, ◌≢◌, inl, inr, List}
use Rattle.std.proofs.Common.{get_or, sym, ap, ◌∙◌, subst, arith}
use Rattle.std.specs.List.{AllPairs}
use Rattle.std.specs.Cmp.{IsTotalOrder}
use Rattle.std.specs.Cmp.Lexicographic.{slice_cmp}
use Rattle.std.specs.Ordering.{ordering_reverse}
use Rattle.std.specs.declared.cmp.Ordering.TheVariants.{Less, Greater}
use Rattle.std.proofs.lemmas.Cmp.{lists_total}
use Rattle.esto_term.specs.Order.{term_cmp}
use Rattle.esto_term.specs.declared.term.Term.{Term}
use Rattle.esto_term.proofs.OrderLemmas.{term_cmp_total}
use Rattle.esto_semantics.specs.Queries.{ConjunctiveQuery}
use Rattle.esto_semantics.specs.declared.fact.Fact.{Fact}
use Rattle.esto_semantics.specs.Cores.{with_head}
use Rattle.esto_query.specs.declared.query.Name.{Name}
use Rattle.esto_views.specs.Plans.{plan_query}
use Rattle.esto_views.specs.declared.plan.Plan.{Plan}
use Rattle.esto_universal.specs.Rows.{IsRowBefore}
use Rattle.esto_universal.specs.Stated.{IsStatedPlan}
use Rattle.esto_views.specs.Renamed.{IsRenamedPlan}
use Rattle.esto_views.proofs.RenamedLemmas.{atoms_distinct}
use Rattle.esto_views.proofs.RenamedOnceLemmas.{one_order, one_renamed}

-- ---- the order of rows, and that of first occurrences

less_apart : (row other : List Term) → slice_cmp term_cmp row other ≡ Less → slice_cmp term_cmp other row ≡ Less → ⊥
less_apart row other less back =
    let total : IsTotalOrder (slice_cmp term_cmp) = lists_total term_cmp_total in
    let wrong : Less ≡ Greater = sym back ∙ total.antisymm other row ∙ ap ordering_reverse less in
    cc

rows_apart : (row other : Fact Term) → IsRowBefore row other → IsRowBefore other row → ⊥
rows_apart row other (inl less) (inl more) = omega arith
rows_apart row other (inl less) (inr (same, back)) = omega arith
rows_apart row other (inr (same, less)) (inl more) = omega arith
rows_apart row other (inr (same, less)) (inr (is, back)) = less_apart row.terms other.terms less back

-- ---- what is renamed

module _ (names : List Name) (views : List ConjunctiveQuery) (end : ConjunctiveQuery) where
  same_rows : (plan other : Plan) (stated : IsStatedPlan names views end plan) (again : IsStatedPlan names views end other) → stated.rows ≡ again.rows
  same_rows plan other stated again = one_order IsRowBefore rows_apart stated.rows again.rows stated.are_rows.ordered again.are_rows.ordered
      (λ row inside. (again.are_rows.exact row).1 ((stated.are_rows.exact row).0 inside))
      (λ row inside. (stated.are_rows.exact row).1 ((again.are_rows.exact row).0 inside))

  pub one_plan : (plan other : Plan) → IsStatedPlan names views end plan → IsStatedPlan names views end other
      → (plan_query plan ≡ plan_query other) × (plan.names ≡ other.names)
  one_plan plan other stated again =
      one_renamed names (with_head end.head stated.rows) (plan_query plan) (plan_query other) plan.names other.names stated.renamed
      (subst (λ rows. IsRenamedPlan names rows end.head other) (sym (same_rows plan other stated again)) again.renamed)

-- the atoms of a stated plan are distinct
pub stated_distinct : (names : List Name) (views : List ConjunctiveQuery) (end : ConjunctiveQuery) (plan : Plan) → IsStatedPlan names views end plan
    → AllPairs ◌≢◌ (plan_query plan).body
stated_distinct names views end plan stated =
    atoms_distinct names (with_head end.head stated.rows) (plan_query plan) plan.names stated.renamed
    (λ i j d less within same. let before = stated.are_rows.ordered i j d less within in rows_apart _ _ before
    (subst (λ it. IsRowBefore it (get_or stated.rows i d)) same (subst (IsRowBefore (get_or stated.rows i d)) (sym same) before)))
