-- Which steps can be run over fragments.
use Rattle.std.specs.Prelude.{◌≡◌, List, Some, map, slice_get, Contains}
use Rattle.esto_columns.specs.Asked.{Shape, IsAllowed}
use Rattle.esto_steps.specs.declared.steps.Get.{Get}

-- Each get names a fragment that is there, and its inputs may be asked of it.
abbrev pub AreRunnable : List Shape → List Get → Type 0
AreRunnable shapes gets = (get : Get) → Contains gets get
    → (shape : Shape) × (slice_get shapes get.fragment ≡ Some shape) × IsAllowed shape (map (λ link. link.column) get.inputs)
