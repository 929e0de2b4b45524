-- Indexes of rows.
use Rattle.std.proofs.Common.{◌≡◌, inl, inr, ℕ, ◌+◌, ◌<◌, List, [], ◌∷◌, ◌++◌, map, length, take, Some, slice_get, Contains, sym, ap, ◌∙◌, subst}
use Rattle.std.specs.Prelude.{OnOk, OnErr}
use Rattle.std.proofs.Common.{Result, Ok, Err}
use Rattle.std.proofs.lemmas.List.{map_more}
use Rattle.std.proofs.lemmas.List.Elements.{Contains-push_cases}
use Rattle.std.proofs.lemmas.Option.{get_or_from_slice_get}
use Rattle.esto_columns.specs.Indexed.{IsIndexOf, key_at}
use Rattle.esto_columns.specs.RowIndexes.{AreIndexes}
use Rattle.esto_columns.specs.declared.index.RowIndex.{RowIndex}

-- one more row
pub keys_more : (columns : List ℕ) (rows : List (List ℕ)) (at : ℕ) (row given key own : List ℕ) → at < length rows → slice_get rows at ≡ Some row → given ≡ row
    → key ≡ key_at columns given → own ≡ key
    → map (key_at columns) (take at rows) ++ own ∷ [] ≡ map (key_at columns) (take (at + 1) rows)
keys_more columns rows at row given key own below there same is_key is =
    ap (λ it. map (key_at columns) (take at rows) ++ it ∷ []) (is ∙ is_key ∙ ap (key_at columns) (same ∙ sym (get_or_from_slice_get rows at row [] there)))
    ∙ sym (map_more (key_at columns) rows at [] below)

-- one more index, where memory allows
pub index_more : {A E : Type 0} (result : Result A E) (rows : List (List ℕ)) (old new : List RowIndex) (more : RowIndex) → AreIndexes rows old
    → IsIndexOf more.index (map (key_at more.columns) rows)
    → OnOk result (new ≡ old ++ more ∷ []) → OnErr result (new ≡ old) → AreIndexes rows new
index_more (Ok _) rows old new more are is ok err own inside = elim (Contains-push_cases old more own (subst (λ them. Contains them own) ok inside)) [
  | inl before ↦ are own before
  | inr last ↦ subst (λ (it : RowIndex). IsIndexOf it.index (map (key_at it.columns) rows)) last is
]
index_more (Err _) rows old new more are is ok err own inside = are own (subst (λ them. Contains them own) err inside)
