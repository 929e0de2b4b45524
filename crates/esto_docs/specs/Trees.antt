-- The tree of a JSON value.
use Rattle.std.specs.Prelude.{List, [], ◌∷◌, ℕ, Bool, true, false, codes, decimal}
use Rattle.std.specs.Fmt.{signed_decimal}
use Rattle.serde_json.specs.Data.{Num, unsigned, negative, float, Data, null, boolean, number, string, array, object, no_items, item, no_members, member}
use Rattle.serde_json.specs.Data as json
use Rattle.esto_docmodel.specs.declared.field.FieldOf.{FieldOf}
use Rattle.esto_docmodel.specs.declared.tree.Tree.{Tree}
use Rattle.esto_docmodel.specs.declared.tree.Tree.TheVariants.{Nothing, Value, Fields, Items}

-- A truth value as a word.
abbrev pub word : Bool → List ℕ
word true = codes "true"
word false = codes "false"

-- A whole number of 64 bits, signed or unsigned, is its digits. Any other number holds no text.
abbrev pub number_tree : Num → Tree
number_tree (unsigned n) = Value (decimal n)
number_tree (negative z) = Value (signed_decimal z)
number_tree (float x) = Nothing

-- The field of a name.
abbrev pub field_of : List ℕ → Tree → FieldOf Tree
field_of name tree = record { name = name; tree = tree }

abbrev mutual
  -- The tree of a value: its fields in order of their names, its items in order.
  pub tree_of : Data → Tree
  tree_of null = Nothing
  tree_of (boolean b) = Value (word b)
  tree_of (number n) = number_tree n
  tree_of (string s) = Value s
  tree_of (array ds) = Items (trees_of ds)
  tree_of (object ms) = Fields (fields_of ms)

  -- The trees of items, in order.
  pub trees_of : json.Items → List Tree
  trees_of no_items = []
  trees_of (item d ds) = tree_of d ∷ trees_of ds

  -- The fields of an object, each with the tree of its value.
  pub fields_of : json.Members → List (FieldOf Tree)
  fields_of no_members = []
  fields_of (member k d ms) = field_of k (tree_of d) ∷ fields_of ms
