-- A file that is an array.
use Rattle.std.proofs.Common.{◌≡◌, ℕ, List, Some, None, refl}
use Rattle.serde_json.specs.Data as json
use Rattle.esto_docs.specs.Trees.{trees_of}
use Rattle.esto_docs.specs.Files.{json_of, array_fault, trees_of_array}

pub array_found : (bytes : List ℕ) (items : json.Items) → json_of bytes ≡ Some (json.array items)
    → (array_fault (json_of bytes) ≡ None) × (trees_of_array (json_of bytes) ≡ trees_of items)
array_found bytes items e = rw e (refl, refl)
