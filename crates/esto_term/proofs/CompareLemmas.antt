-- What the order of terms answers at each two kinds of terms, and that it tells equal terms from others; rows of terms.
use Rattle.std.proofs.Common.{Bool, IsTrue, ◌↔◌, subst, ◌≡◌, ℕ, List, refl, sym, ◌∙◌}
use Rattle.std.specs.Cmp.{Equal-is, IsTotalOrder}
use Rattle.std.proofs.lemmas.Cmp.{tied_itself, lists_total}
use Rattle.std.proofs.lemmas.Map.Lookups.{CmpEqualImpliesEq}
use Rattle.std.specs.declared.cmp.Ordering.{Ordering}
use Rattle.std.specs.declared.cmp.Ordering.TheVariants.{Less, Equal, Greater}
use Rattle.std.specs.Ordering.{ordering_then, nat_cmp, is_eq}
use Rattle.std.specs.Cmp.Lexicographic.{slice_cmp}
use Rattle.esto_term.specs.declared.term.Term.{Term}
use Rattle.esto_term.specs.declared.term.Term.TheVariants.{Const, Plain, Made, outs-Const, outs-Plain, outs-Made}
use Rattle.esto_term.specs.Nesting.{nesting}
use Rattle.esto_term.specs.Order.{term_cmp}
use Rattle.esto_term.proofs.NestingLemmas.{nesting-Made}
use Rattle.esto_term.proofs.OrderLemmas.{term_cmp-levels, term_cmp_total, term_cmp_exact}
use Rattle.esto_term.proofs.TotalOrderLemmas.{lists_exact}

-- ---- one comparison after another

ordering_then-Equal : (first : Ordering) → ordering_then first Equal ≡ first
ordering_then-Equal Less = refl
ordering_then-Equal Equal = refl
ordering_then-Equal Greater = refl

ordering_then-assoc : (first second third : Ordering) → ordering_then (ordering_then first second) third ≡ ordering_then first (ordering_then second third)
ordering_then-assoc Less second third = refl
ordering_then-assoc Equal second third = refl
ordering_then-assoc Greater second third = refl

-- ---- each two kinds

pub term_cmp-Const-Const : (bytes others : List ℕ) → term_cmp (Const bytes) (Const others) ≡ slice_cmp nat_cmp bytes others
term_cmp-Const-Const bytes others = term_cmp-levels _ _ ∙ rw (outs-Const bytes, outs-Const others) (ordering_then-Equal _)

pub term_cmp-Const-Plain : (bytes : List ℕ) (n : ℕ) → term_cmp (Const bytes) (Plain n) ≡ Less
term_cmp-Const-Plain bytes n = term_cmp-levels _ _ ∙ rw (outs-Const bytes, outs-Plain n) refl

pub term_cmp-Const-Made : (bytes : List ℕ) (rule variable : ℕ) (frontier : List Term) → term_cmp (Const bytes) (Made rule variable frontier) ≡ Less
term_cmp-Const-Made bytes rule variable frontier = term_cmp-levels _ _ ∙ rw (outs-Const bytes, outs-Made rule variable frontier) refl

pub term_cmp-Plain-Const : (n : ℕ) (bytes : List ℕ) → term_cmp (Plain n) (Const bytes) ≡ Greater
term_cmp-Plain-Const n bytes = term_cmp-levels _ _ ∙ rw (outs-Plain n, outs-Const bytes) refl

pub term_cmp-Plain-Plain : (n m : ℕ) → term_cmp (Plain n) (Plain m) ≡ nat_cmp n m
term_cmp-Plain-Plain n m = term_cmp-levels _ _ ∙ rw (outs-Plain n, outs-Plain m) (ordering_then-Equal _)

pub term_cmp-Plain-Made : (n rule variable : ℕ) (frontier : List Term) → term_cmp (Plain n) (Made rule variable frontier) ≡ Less
term_cmp-Plain-Made n rule variable frontier = term_cmp-levels _ _ ∙ rw (outs-Plain n, outs-Made rule variable frontier) refl

pub term_cmp-Made-Const : (rule variable : ℕ) (frontier : List Term) (bytes : List ℕ) → term_cmp (Made rule variable frontier) (Const bytes) ≡ Greater
term_cmp-Made-Const rule variable frontier bytes = term_cmp-levels _ _ ∙ rw (outs-Made rule variable frontier, outs-Const bytes) refl

pub term_cmp-Made-Plain : (rule variable : ℕ) (frontier : List Term) (n : ℕ) → term_cmp (Made rule variable frontier) (Plain n) ≡ Greater
term_cmp-Made-Plain rule variable frontier n = term_cmp-levels _ _ ∙ rw (outs-Made rule variable frontier, outs-Plain n) refl

pub term_cmp-Made-Made : (rule variable : ℕ) (frontier : List Term) (rule' variable' : ℕ) (frontier' : List Term)
    → term_cmp (Made rule variable frontier) (Made rule' variable' frontier')
    ≡ ordering_then (ordering_then (ordering_then
    (nat_cmp (nesting (Made rule variable frontier)) (nesting (Made rule' variable' frontier')))
    (nat_cmp rule rule'))
    (nat_cmp variable variable'))
    (slice_cmp term_cmp frontier frontier')
term_cmp-Made-Made rule variable frontier rule' variable' frontier' =
    term_cmp-levels _ _
    ∙ rw (outs-Made rule variable frontier, outs-Made rule' variable' frontier') (simp (ordering_then-assoc, nesting-Made) refl)

-- what the code of the comparison answers at each two kinds
pub ruleset compare_rules = (
  term_cmp-Const-Const,
  term_cmp-Const-Plain,
  term_cmp-Const-Made,
  term_cmp-Plain-Const,
  term_cmp-Plain-Plain,
  term_cmp-Plain-Made,
  term_cmp-Made-Const,
  term_cmp-Made-Plain,
  term_cmp-Made-Made,
)

-- two terms of known kinds compare as those kinds do
pub kinds_answer : (left right one other : Term) (order : Ordering) → left ≡ one → right ≡ other → term_cmp one other ≡ order → order ≡ term_cmp left right
kinds_answer left right one other order is_one is_other is = sym ((λ i. term_cmp (is_one i) (is_other i)) ∙ is)

-- ---- equal terms

term_cmp-same : (left right : Term) → left ≡ right → term_cmp left right ≡ Equal
term_cmp-same left right same = subst (λ term. term_cmp left term ≡ Equal) same (tied_itself term_cmp_total left)

-- the order answers `Equal` exactly at equal terms
pub term_cmp-Equal : (left right : Term) → (term_cmp left right ≡ Equal) ↔ (left ≡ right)
term_cmp-Equal left right = (term_cmp_exact left right, term_cmp-same left right)

-- and so the test whether it answers `Equal` is the test whether they are equal
pub equal_tested : (left right : Term) (test : Bool) → test ≡ is_eq (term_cmp left right) → IsTrue test ↔ (left ≡ right)
equal_tested left right test is = (
  λ holds. term_cmp_exact left right ((Equal-is _).0 (sym is ∙ holds)),
  λ same. is ∙ (Equal-is _).1 (term_cmp-same left right same),
)

-- ---- rows of terms

pub rows_total : IsTotalOrder (slice_cmp term_cmp)
rows_total = lists_total term_cmp_total

pub rows_exact : CmpEqualImpliesEq (slice_cmp term_cmp)
rows_exact = lists_exact term_cmp term_cmp_exact
