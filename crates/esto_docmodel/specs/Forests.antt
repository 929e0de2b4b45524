-- Trees of labelled nodes, and which nodes stand in them. A node is known by what stands at it and below it, and has no number.
use Rattle.std.specs.Prelude.{◌≡◌, ◌⊎◌, ℕ, List, Option}

-- How a node is entered: as the field of a name, or as an item or a document, which has a place alone.
pub data Label : Type 0 where
  name : List ℕ → Label
  place : Label

-- Nodes in a row: none; or a first one with its label, the text that it holds or none, the row of the nodes right below it, and the nodes after it.
pub data Forest : Type 0 where
  none : Forest
  kid : Label → Option (List ℕ) → Forest → Forest → Forest

-- A node without its label: the text that it holds or none, and the row right below it.
pub record Node : Type 0 where
  pub content : Option (List ℕ)
  pub inside : Forest

-- The node that holds this, with this row below it.
abbrev pub node : Option (List ℕ) → Forest → Node
node content inside = record { content = content; inside = inside }

-- The node stands in the row under that label.
abbrev pub HasKid : Forest → Label → Node → Type 0
HasKid none label found = ⊥
HasKid (kid first content inside rest) label found = ((first ≡ label) × (node content inside ≡ found)) ⊎ HasKid rest label found

-- The node stands in the row, or strictly inside one of its nodes.
abbrev pub HasInside : Forest → Node → Type 0
HasInside none found = ⊥
HasInside (kid first content inside rest) found = (node content inside ≡ found) ⊎ (HasInside inside found ⊎ HasInside rest found)

-- The node is one of the documents of the row.
abbrev pub IsDocument : Forest → Node → Type 0
IsDocument forest found = (label : Label) × HasKid forest label found
