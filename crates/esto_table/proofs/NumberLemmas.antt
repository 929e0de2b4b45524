-- Names in order, and the numbers of terms.
use Rattle.std.proofs.Common.{◌≡◌, inl, inr, ℕ, ◌≤◌, true, false, List, [], ◌∷◌, length, get_or}
use Rattle.std.proofs.Common.{sym, ap, ◌∙◌, arith}
use Rattle.std.proofs.lemmas.Bool.{cases_order}
use Rattle.std.specs.List.Sorted.{IsPartitionedBy, IsPartitionPoint}
use Rattle.std.specs.Ordering.{is_lt}
use Rattle.esto_term.specs.Order.{term_cmp}
use Rattle.esto_term.specs.declared.term.Term.{Term}
use Rattle.esto_term.proofs.TotalOrderLemmas.{below, is_less, not_less}
use Rattle.esto_term.proofs.OrderLemmas.{term_cmp_total}
use Rattle.esto_table.specs.Numbers.{AreInOrder, IsRank, IsNumber}

-- ---- names in order

pub names_none : AreInOrder []
names_none i j d le lt = absurd (omega arith)

pub names_parted : (names : List Term) (term : Term) → AreInOrder names → IsPartitionedBy (λ name. is_lt (term_cmp name term)) names
names_parted names term order i j d le lt told =
    ap is_lt (below term_cmp term_cmp_total (get_or names i d) (get_or names j d) term (order i j d le lt) (is_less (term_cmp (get_or names j d) term) told))

pub rank_counted : (names : List Term) (term : Term) (rank : ℕ) → rank ≤ length names
    → IsPartitionPoint (λ name. is_lt (term_cmp name term) ≡ true) (λ name. is_lt (term_cmp name term) ≡ false) names rank → IsRank names term rank
rank_counted names term rank within point = record {
  within = within;
  before = λ k d less inside. is_less (term_cmp (get_or names k d) term) (point.0 k d (omega arith) less);
  after = λ k d from inside. not_less (term_cmp (get_or names k d) term) (point.1 k d from inside);
}

-- ---- a term has one number

rank_is : (names : List Term) (term : Term) (one other : ℕ) → IsRank names term one → IsRank names term other → one ≡ other
rank_is names term one other is is_other = elim (cases_order one other) [
  | inl same ↦ same
  | inr apart ↦ elim apart [
    | inl less ↦ absurd (is.after one term (omega arith) (omega (arith, is_other.within)) (is_other.before one term less (omega (arith, is_other.within))))
    | inr more ↦ absurd (is_other.after other term (omega arith) (omega (arith, is.within)) (is.before other term more (omega (arith, is.within))))
  ]
]

pub number_is : (names : List Term) (term : Term) (one other : ℕ) → IsNumber names term one → IsNumber names term other → one ≡ other
number_is [] term one other is is_other = is ∙ sym is_other
number_is (name ∷ names) term one other is is_other = rank_is (name ∷ names) term one other is is_other
