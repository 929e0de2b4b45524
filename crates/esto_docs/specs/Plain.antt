-- Documents of texts, and that their text stands for them.
use Rattle.std.specs.Prelude.{◌≡◌, ◌≤◌, Some, ⊤}
use Rattle.serde_json.specs.Data.{Data, null, boolean, number, string, array, object, Items, no_items, item, Members, no_members, member, depth}
use Rattle.serde_json.specs.Written.{compact_text}
use Rattle.esto_docmodel.specs.declared.layout.TheConstants.{MAX_LAYOUT_DEPTH}
use Rattle.esto_docs.specs.Files.{json_of}

abbrev mutual
  -- The value is made of texts, objects and arrays alone.
  pub HasTextsOnly : Data → Type 0
  HasTextsOnly null = ⊥
  HasTextsOnly (boolean b) = ⊥
  HasTextsOnly (number n) = ⊥
  HasTextsOnly (string s) = ⊤
  HasTextsOnly (array ds) = ItemsHaveTextsOnly ds
  HasTextsOnly (object ms) = MembersHaveTextsOnly ms

  -- Each of the items is made of these alone.
  pub ItemsHaveTextsOnly : Items → Type 0
  ItemsHaveTextsOnly no_items = ⊤
  ItemsHaveTextsOnly (item d ds) = HasTextsOnly d × ItemsHaveTextsOnly ds

  -- The value of each member is made of these alone.
  pub MembersHaveTextsOnly : Members → Type 0
  MembersHaveTextsOnly no_members = ⊤
  MembersHaveTextsOnly (member k d ms) = HasTextsOnly d × MembersHaveTextsOnly ms

-- The value is an object or an array.
abbrev pub IsContainer : Data → Type 0
IsContainer null = ⊥
IsContainer (boolean b) = ⊥
IsContainer (number n) = ⊥
IsContainer (string s) = ⊥
IsContainer (array ds) = ⊤
IsContainer (object ms) = ⊤

-- A document that a layout writes.
pub record IsPlain (d : Data) : Type 0 where
  pub texts : HasTextsOnly d
  pub container : IsContainer d
  pub shallow : depth d ≤ MAX_LAYOUT_DEPTH

-- The text of the document is read as it.
abbrev pub IsReadBack : Data → Type 0
IsReadBack d = json_of (compact_text d) ≡ Some d
