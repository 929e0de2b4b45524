-- The lines of relations and their ranks, one after the other.
use Rattle.std.proofs.Common.{◌≡◌, ◌<◌, ℕ, suc, ◌+◌, List, ◌∷◌, ◌++◌, drop, length, slice_get, Some, drop-cons, add-one, append_assoc, sym, ap, ◌∙◌}
use Rattle.std.specs.Prelude.{slice_index}
use Rattle.std.proofs.lemmas.Option.{slice_get_within, get_or_from_slice_get}
use Rattle.esto_top.specs.Check.{rank_line, rank_lines}

module _ (names : List (List ℕ)) (ranks : List ℕ) (at : ℕ) (name : List ℕ) (rank : ℕ) (is_name : slice_get names at ≡ Some name)
    (within : at < length ranks) (is_rank : rank ≡ slice_index ranks at) where
  names_left : drop at names ≡ name ∷ drop (at + 1) names
  names_left =
      let there : at < length names = slice_get_within names at name is_name in
      rw (drop-cons names at name, add-one) (ap (λ (it : List ℕ). it ∷ drop (suc at) names) (get_or_from_slice_get names at name name is_name))

  ranks_left : drop at ranks ≡ rank ∷ drop (at + 1) ranks
  ranks_left = rw (drop-cons ranks at 0, add-one) (ap (λ (it : ℕ). it ∷ drop (suc at) ranks) (sym is_rank))

  -- one line more
  pub rank_more : (text next whole : List ℕ) → next ≡ text ++ rank_line name rank → text ++ rank_lines (drop at names) (drop at ranks) ≡ whole
      → next ++ rank_lines (drop (at + 1) names) (drop (at + 1) ranks) ≡ whole
  rank_more text next whole grown before =
      let rest : List ℕ = rank_lines (drop (at + 1) names) (drop (at + 1) ranks) in
      let joined : (text ++ rank_line name rank) ++ rest ≡ text ++ (rank_line name rank ++ rest) = rw append_assoc in
      let here : text ++ (rank_line name rank ++ rest) ≡ text ++ rank_lines (drop at names) (drop at ranks) =
      λ i. text ++ rank_lines (sym names_left i) (sym ranks_left i) in
      ap (λ (it : List ℕ). it ++ rest) grown ∙ joined ∙ here ∙ before
