-- The get of an atom, column by column.
use Rattle.std.specs.Prelude.{◌≡◌, ◌⊎◌, ℕ, ◌<◌, Bool, List, [], ◌∷◌, ◌++◌, Some, map, take, slice_get, Contains}
use Rattle.esto_term.specs.declared.term.Term.{Term}
use Rattle.esto_steps.specs.declared.steps.Get.{Get}
use Rattle.esto_steps.specs.declared.steps.Link.{Link}
use Rattle.esto_steps.specs.Planned.{IsSource, IsLink, IsNew, inputs_of}

-- The link of the column has come, with a source of its term among the bound ones, or the term is new after them and no link has come.
abbrev pub IsLinkMade : List (List ℕ) → List Term → List Term → ℕ → List Link → List Link → Type 0
IsLinkMade texts bound terms column old new =
    (term : Term) × (slice_get terms column ≡ Some term)
    × ((IsNew bound term × (new ≡ old)) ⊎ ((link : Link) × (link.column ≡ column) × IsSource texts bound term link.source × (new ≡ old ++ link ∷ [])))

-- The get is that of the atom's first columns, so many, by the pattern.
pub record IsGetBelow (texts : List (List ℕ)) (pattern : List Bool) (bound terms : List Term) (count : ℕ) (get : Get) : Type 0 where
  pub columns : map (λ link. link.column) get.inputs ≡ inputs_of (take count pattern)
  pub inputs : (link : Link) → Contains get.inputs link → IsLink texts bound terms link
  pub filters : (link : Link) → Contains get.filters link → IsLink texts (bound ++ take link.column terms) terms link
  pub complete : (column : ℕ) (term : Term) → column < count → slice_get terms column ≡ Some term
      → IsNew (bound ++ take column terms) term ⊎ ((link : Link) × (link.column ≡ column) × (Contains get.inputs link ⊎ Contains get.filters link))
