-- Items as atoms, and what is wrong with an item.
use Rattle.std.specs.Prelude.{◌≡◌, ◌⊎◌, ℕ, suc, ◌+◌, ◌<◌, ◌≤◌, List, [], ◌∷◌, ◌++◌, Some, length, slice_get}
use Rattle.esto_query.specs.declared.make.TheConstants.{MAX_ATOMS}
use Rattle.esto_query.specs.declared.query.Name.{Name}
use Rattle.esto_semantics.specs.declared.fact.Fact.{Fact}
use Rattle.esto_term.specs.declared.term.Term.{Term}
use Rattle.esto_text.specs.Tokens.{text_of}
use Rattle.esto_text.specs.Trees.{EntryTree, Value, Nested, EntryTrees, NoEntry, AndEntry, ItemTree, Atom, Part, Pattern}
use Rattle.esto_text.specs.declared.fault.ReadError.{ReadError}
use Rattle.esto_text.specs.declared.fault.ReadError.TheVariants.{Fault, OutOfMemory}
use Rattle.esto_text.specs.declared.fault.TextFault.{TextFault}
use Rattle.esto_text.specs.declared.fault.TextKind.{TextKind}
use Rattle.esto_text.specs.declared.fault.TextKind.TheVariants.{Unknown, Arity, TooLarge}
use Rattle.esto_text.specs.declared.token.Token.{Token}
use Rattle.esto_read.specs.Patterns.{IsPatternOf}
use Rattle.esto_read.specs.Terms.{AreTerms}
use Rattle.esto_docmodel.specs.Words.{IsBaseOf, IsPartOf}
use Rattle.esto_docmodel.specs.declared.words.DataModel.TheVariants.{Table, Documents}
use Rattle.esto_docmodel.specs.declared.words.Word.{Word}

-- The token at which an item begins: the name of its dataset.
abbrev pub name_of : ItemTree → Token
name_of (Atom name terms) = name
name_of (Part name part terms) = name
name_of (Pattern name entries) = name

-- The relation that an item names: a table, or a part of a dataset; a pattern names the first of the five relations of documents.
abbrev pub IsRelationOf : List Word → List ℕ → ItemTree → ℕ → Type 0
IsRelationOf words bytes (Atom name terms) relation = IsBaseOf words (text_of bytes name) Table relation
IsRelationOf words bytes (Part name part terms) relation = IsPartOf words (text_of bytes name) (text_of bytes part) relation
IsRelationOf words bytes (Pattern name entries) relation = IsBaseOf words (text_of bytes name) Documents relation

-- The item has as many terms as its relation has columns. A pattern has no row of terms.
abbrev pub HasArity : List ℕ → ItemTree → ℕ → Type 0
HasArity schema (Atom name terms) relation = slice_get schema relation ≡ Some (length terms)
HasArity schema (Part name part terms) relation = slice_get schema relation ≡ Some (length terms)
HasArity schema (Pattern name entries) relation = Unit {0}

abbrev mutual
  -- How many atoms an entry gives: one for each step of its path, and then one for its term or those of its group.
  pub entry_size : EntryTree → ℕ
  entry_size (Value path term) = suc (length path)
  entry_size (Nested path entries) = length path + entries_size entries

  -- How many atoms entries give.
  pub entries_size : EntryTrees → ℕ
  entries_size NoEntry = 0
  entries_size (AndEntry first others) = entry_size first + entries_size others

-- How many atoms an item gives: a pattern one for its root and those of its entries, and any other item one.
abbrev pub item_size : ItemTree → ℕ
item_size (Atom name terms) = 1
item_size (Part name part terms) = 1
item_size (Pattern name entries) = suc (entries_size entries)

-- Nothing is wrong with the item, where so many atoms come before it: it names a relation, has as many terms as that has columns, and there is room for its
-- atoms.
abbrev pub IsFitting : List Word → List ℕ → List ℕ → ℕ → ItemTree → Type 0
IsFitting words schema bytes atoms item =
    (relation : ℕ) × IsRelationOf words bytes item relation × HasArity schema item relation × (atoms + item_size item ≤ MAX_ATOMS)

-- What is wrong with an item, where so many atoms come before it: it names no relation; else that has another number of columns; else its atoms are too many.
abbrev pub IsMisfit : List Word → List ℕ → List ℕ → ℕ → ItemTree → TextKind → Type 0
IsMisfit words schema bytes atoms item Unknown = (relation : ℕ) → ¬ IsRelationOf words bytes item relation
IsMisfit words schema bytes atoms item Arity = (relation : ℕ) × IsRelationOf words bytes item relation × ¬ HasArity schema item relation
IsMisfit words schema bytes atoms item TooLarge =
    (relation : ℕ) × IsRelationOf words bytes item relation × HasArity schema item relation × (MAX_ATOMS < atoms + item_size item)
IsMisfit words schema bytes atoms item _ = ⊥

-- Nothing is wrong with any of the items, where so many atoms come before them.
abbrev pub AreFitting : List Word → List ℕ → List ℕ → ℕ → List ItemTree → Type 0
AreFitting words schema bytes atoms [] = Unit {0}
AreFitting words schema bytes atoms (item ∷ items) =
    IsFitting words schema bytes atoms item × AreFitting words schema bytes (atoms + item_size item) items

-- The fault of an item, where so many atoms come before it. It stands where the item begins.
abbrev pub IsItemFault : List Word → List ℕ → List ℕ → ℕ → ItemTree → TextFault → Type 0
IsItemFault words schema bytes atoms item fault =
    (fault.offset ≡ (name_of item).start) × IsMisfit words schema bytes atoms item fault.kind

-- The first fault of the items, where so many atoms come before them.
abbrev pub IsFirstItemFault : List Word → List ℕ → List ℕ → ℕ → List ItemTree → TextFault → Type 0
IsFirstItemFault words schema bytes atoms [] fault = ⊥
IsFirstItemFault words schema bytes atoms (item ∷ items) fault =
    IsItemFault words schema bytes atoms item fault
    ⊎ (IsFitting words schema bytes atoms item × IsFirstItemFault words schema bytes (atoms + item_size item) items fault)

-- The one atom of these terms over the relation, where these names came before it, and the names after it.
abbrev pub IsAtomOf : List ℕ → List Name → ℕ → List Token → List (Fact Term) → List Name → Type 0
IsAtomOf bytes before relation terms atoms after =
    (row : List Term) × AreTerms bytes before terms row after × (atoms ≡ record { relation = relation; terms = row } ∷ [])

-- The atoms of an item over the relation, where these names came before it, and the names after it.
abbrev pub AreAtomsOf : List ℕ → List Name → ItemTree → ℕ → List (Fact Term) → List Name → Type 0
AreAtomsOf bytes before (Atom name terms) relation atoms after = IsAtomOf bytes before relation terms atoms after
AreAtomsOf bytes before (Part name part terms) relation atoms after = IsAtomOf bytes before relation terms atoms after
AreAtomsOf bytes before (Pattern name entries) base atoms after = IsPatternOf bytes before base entries atoms after

-- The atoms that an item is, where these names came before it, and the names after it.
abbrev pub IsItemOf : List Word → List ℕ → List ℕ → List Name → ItemTree → List (Fact Term) → List Name → Type 0
IsItemOf words schema bytes before item atoms after =
    (relation : ℕ) × IsRelationOf words bytes item relation × HasArity schema item relation × AreAtomsOf bytes before item relation atoms after

-- The atoms that items are, from left to right.
abbrev pub AreItems : List Word → List ℕ → List ℕ → List Name → List ItemTree → List (Fact Term) → List Name → Type 0
AreItems words schema bytes before [] atoms after = (atoms ≡ []) × (after ≡ before)
AreItems words schema bytes before (item ∷ items) atoms after =
    (first rest : List (Fact Term)) × (between : List Name) × (atoms ≡ first ++ rest) × IsItemOf words schema bytes before item first between
    × AreItems words schema bytes between items rest after

-- Why an item is not read: its fault, or want of memory.
abbrev pub IsItemError : List Word → List ℕ → List ℕ → ℕ → ItemTree → ReadError → Type 0
IsItemError words schema bytes atoms item (Fault fault) = IsItemFault words schema bytes atoms item fault
IsItemError words schema bytes atoms item OutOfMemory = Unit {0}

-- Why items are not read: the first fault of theirs, or want of memory.
abbrev pub IsBodyError : List Word → List ℕ → List ℕ → List ItemTree → ReadError → Type 0
IsBodyError words schema bytes items (Fault fault) = IsFirstItemFault words schema bytes 0 items fault
IsBodyError words schema bytes items OutOfMemory = Unit {0}
