-- Rows of constants are ordered as their texts.
use Rattle.std.proofs.Common.{◌≡◌, [], ◌∷◌, map, refl, ap, ◌∙◌}
use Rattle.std.specs.Cmp.{IsTotalOrder}
use Rattle.std.specs.Cmp.Lexicographic.{slice_cmp}
use Rattle.std.specs.Ordering.{ordering_then, nat_cmp}
use Rattle.std.specs.declared.cmp.Ordering.TheVariants.{Equal}
use Rattle.std.proofs.lemmas.Cmp.{lists_total, nat_cmp_total}
use Rattle.std.proofs.lemmas.Map.Lookups.{exact_bytes}
use Rattle.esto_query.specs.Rows.{row_cmp}
use Rattle.esto_stores.specs.Rows.{Row}
use Rattle.esto_term.specs.declared.term.Term.TheVariants.{Const}
use Rattle.esto_term.proofs.CompareLemmas.{term_cmp-Const-Const}
use Rattle.esto_term.proofs.TotalOrderLemmas.{lists_exact}

pub ordered_as_texts : (cells others : Row) → row_cmp (map Const cells) (map Const others) ≡ slice_cmp (slice_cmp nat_cmp) cells others
ordered_as_texts [] [] = refl
ordered_as_texts [] (other ∷ others) = refl
ordered_as_texts (cell ∷ cells) [] = refl
ordered_as_texts (cell ∷ cells) (other ∷ others) =
    ap (λ order. ordering_then order (row_cmp (map Const cells) (map Const others))) (term_cmp-Const-Const cell other)
    ∙ ap (λ order. ordering_then (slice_cmp nat_cmp cell other) order) (ordered_as_texts cells others)

-- ---- rows of texts

pub texts_exact : (row other : Row) → slice_cmp (slice_cmp nat_cmp) row other ≡ Equal → row ≡ other
texts_exact = lists_exact (slice_cmp nat_cmp) exact_bytes

pub texts_total : IsTotalOrder (slice_cmp (slice_cmp nat_cmp))
texts_total = lists_total (lists_total nat_cmp_total)
