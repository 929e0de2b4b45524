-- The order of terms. Constants come first, then plain terms, then made terms. Constants compare by their bytes,
-- plain terms by their numbers, and made terms by nesting, then rule, then variable, then frontier, as lists.
use Rattle.std.specs.Prelude.{ℕ, Bool, List, [], map, cond}
use Rattle.std.specs.Cmp.Lexicographic.{slice_cmp}
use Rattle.std.specs.Ordering.{ordering_then, nat_cmp, is_eq}
use Rattle.std.specs.declared.cmp.Ordering.{Ordering}
use Rattle.esto_term.specs.Nesting.{nesting, nesting_above}
use Rattle.esto_term.specs.declared.term.Term.{Term, out-Term, para-Term}
use Rattle.esto_term.specs.declared.term.Term.TheOpen.{Term-F}

-- The parts of one level of a term that the order compares; a kind that lacks a part has 0 or nothing there.
module _ {Part : Type 0} where
  -- Constants come first, and made terms last.
  abbrev pub kind : Term-F Part → ℕ
  kind (Term-F.Const _) = 0
  kind (Term-F.Plain _) = 1
  kind (Term-F.Made _ _ _) = 2

  -- The bytes of a constant.
  abbrev pub text : Term-F Part → List ℕ
  text (Term-F.Const bytes) = bytes
  text (Term-F.Plain _) = []
  text (Term-F.Made _ _ _) = []

  -- The number of a plain term.
  abbrev pub number : Term-F Part → ℕ
  number (Term-F.Const _) = 0
  number (Term-F.Plain n) = n
  number (Term-F.Made _ _ _) = 0

  -- The rule of a made term.
  abbrev pub rule : Term-F Part → ℕ
  rule (Term-F.Const _) = 0
  rule (Term-F.Plain _) = 0
  rule (Term-F.Made r _ _) = r

  -- The variable of a made term.
  abbrev pub variable : Term-F Part → ℕ
  variable (Term-F.Const _) = 0
  variable (Term-F.Plain _) = 0
  variable (Term-F.Made _ v _) = v

  -- The frontier of a made term.
  abbrev pub frontier : Term-F Part → List Part
  frontier (Term-F.Const _) = []
  frontier (Term-F.Plain _) = []
  frontier (Term-F.Made _ _ parts) = parts

-- Two levels compare by their parts, one after the other: `left_nesting` and `right_nesting` say how deep their
-- frontier terms nest, and `order` compares frontier terms.
abbrev pub level_cmp : {A B : Type 0} → (A → ℕ) → (B → ℕ) → (A → B → Ordering) → Term-F A → Term-F B → Ordering
level_cmp left_nesting right_nesting order left right =
    ordering_then (nat_cmp (kind left) (kind right))
    (ordering_then (slice_cmp nat_cmp (text left) (text right))
    (ordering_then (nat_cmp (number left) (number right))
    (ordering_then (nat_cmp (nesting_above (map left_nesting (frontier left))) (nesting_above (map right_nesting (frontier right))))
    (ordering_then (nat_cmp (rule left) (rule right))
    (ordering_then (nat_cmp (variable left) (variable right))
    (slice_cmp order (frontier left) (frontier right)))))))

-- The order of terms compares their levels, and their frontier terms by the order itself.
abbrev pub term_cmp : Term → Term → Ordering
term_cmp =
    para-Term (Term → Ordering)
    (λ level other. level_cmp (λ part. nesting part.0) nesting (λ part frontier_term. part.1 frontier_term) level (out-Term other))

-- Whether the terms are one.
abbrev pub same_term : Term → Term → Bool
same_term term other = is_eq (term_cmp term other)

-- Where a term is `from` it becomes `to`; every other term stays, and nothing is replaced inside a made term.
abbrev pub replaced : Term → Term → Term → Term
replaced from to term = cond (same_term term from) to term
