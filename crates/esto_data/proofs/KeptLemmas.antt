-- Files that are kept, and loaded again.
use Rattle.std.proofs.Common.{◌≡◌, ◌<◌, ◌≤◌, ◌+◌, ℕ, List, [], ◌∷◌, ◌++◌, length, take, get_or, slice_get, Some, refl, sym, subst}
use Rattle.std.proofs.lemmas.List.{take_all}
use Rattle.esto_mapping.specs.declared.dataset.Dataset.{Dataset}
use Rattle.esto_fill.specs.Files.{IsLoadedFrom}
use Rattle.esto_fill.specs.declared.datasets.DatasetBytes.{DatasetBytes}
use Rattle.esto_fill.specs.declared.loaded.Loaded.{Loaded}
use Rattle.esto_fill.specs.declared.wanted.Wanted.{Wanted}
use Rattle.esto_fill.proofs.WantedLemmas.{leaves_none}
use Rattle.esto_term.proofs.ListLemmas.{Contains-nil}
use Rattle.esto_term.proofs.PlaceLemmas.{item_at, take-item}

-- the file that is read at a place
pub file_read : (files items : List DatasetBytes) → items ≡ files → (index : ℕ) (file : DatasetBytes) → index < length items → file ≡ get_or items index file
    → slice_get files index ≡ Some file
file_read files items are index file below is =
    subst (λ (it : List DatasetBytes). slice_get it index ≡ Some file) are (item_at items index file below is)

module _ (datasets : List Dataset) (wanted : Wanted) where
  -- before the first file
  pub load_first : (loaded : Loaded) → loaded.facts ≡ [] → loaded.next ≡ 0 → IsLoadedFrom datasets wanted [] loaded
  load_first loaded facts next = ([], (refl, next), leaves_none wanted loaded.facts facts, λ file dataset inside. absurd (Contains-nil file inside))

  -- one file more
  pub load_turn : (items : List DatasetBytes) (index : ℕ) (file : DatasetBytes) → index < length items → file ≡ get_or items index file → (old new : Loaded)
      → ((files : List DatasetBytes) → IsLoadedFrom datasets wanted files old → IsLoadedFrom datasets wanted (files ++ file ∷ []) new)
      → IsLoadedFrom datasets wanted (take index items) old → IsLoadedFrom datasets wanted (take (index + 1) items) new
  load_turn items index file below is old new more are =
      subst (λ (it : List DatasetBytes). IsLoadedFrom datasets wanted it new) (sym (take-item items index file below is)) (more (take index items) are)

  -- no file is left
  pub load_last : (files items : List DatasetBytes) → items ≡ files → (index : ℕ) → length items ≤ index → (loaded : Loaded)
      → IsLoadedFrom datasets wanted (take index items) loaded → IsLoadedFrom datasets wanted files loaded
  load_last files items same index le loaded are =
      subst (λ (it : List DatasetBytes). IsLoadedFrom datasets wanted it loaded) same
      (subst (λ (it : List DatasetBytes). IsLoadedFrom datasets wanted it loaded) (take_all index items le) are)
