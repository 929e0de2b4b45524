-- What a text of a layout means, and its first fault.
use Rattle.std.specs.Prelude.{◌≡◌, ◌≢◌, ◌⊎◌, ℕ, IsUtf8, List, [], ◌∷◌, ◌++◌, Contains, AllPairs}
use Rattle.esto_docmodel.specs.Shapes.{entries_of}
use Rattle.esto_docmodel.specs.declared.pattern.Pattern.{Pattern}
use Rattle.esto_query.specs.declared.query.Name.{Name}
use Rattle.esto_query.specs.declared.query.Name.TheVariants.{Given}
use Rattle.esto_text.specs.Faults.{IsLayoutText, IsLayoutGrammarFault}
use Rattle.esto_text.specs.Tokens.{text_of}
use Rattle.esto_text.specs.Trees.{EntryTree, Value, Nested, EntryTrees, NoEntry, AndEntry}
use Rattle.esto_text.specs.declared.fault.ReadError.{ReadError}
use Rattle.esto_text.specs.declared.fault.ReadError.TheVariants.{Fault, OutOfMemory}
use Rattle.esto_text.specs.declared.fault.TextFault.{TextFault}
use Rattle.esto_text.specs.declared.fault.TextKind.TheVariants.{Unknown}
use Rattle.esto_text.specs.declared.token.Token.{Token}
use Rattle.esto_text.specs.declared.token.TokenKind.TheVariants as kind
use Rattle.esto_read.specs.Patterns.{AreEntries}

-- The columns are named, each by a name of its own.
pub record AreColumns (columns : List Name) : Type 0 where
  pub given : (column : Name) → Contains columns column → (text : List ℕ) × (column ≡ Given text)
  pub distinct : AllPairs ◌≢◌ columns

abbrev mutual
  -- The terms of an entry, in the order of the text.
  pub entry_terms : EntryTree → List Token
  entry_terms (Value path term) = term ∷ []
  entry_terms (Nested path entries) = terms_of entries

  -- The terms of entries, in the order of the text.
  pub terms_of : EntryTrees → List Token
  terms_of NoEntry = []
  terms_of (AndEntry first others) = entry_terms first ++ terms_of others

-- The token is a name, and no column's.
abbrev pub IsStranger : List ℕ → List Name → Token → Type 0
IsStranger bytes columns token = (token.kind ≡ kind.Name) × ¬ Contains columns (Given (text_of bytes token))

-- Each name among the tokens is a column's.
abbrev pub AreKnown : List ℕ → List Name → List Token → Type 0
AreKnown bytes columns tokens = (token : Token) → Contains tokens token → ¬ IsStranger bytes columns token

-- The first fault of entries begins at the first name after `:` that is no column's.
abbrev pub IsFirstStranger : List ℕ → List Name → List Token → TextFault → Type 0
IsFirstStranger bytes columns tokens fault =
    (front rest : List Token) × (token : Token) × (tokens ≡ front ++ token ∷ rest) × AreKnown bytes columns front × IsStranger bytes columns token
    × (fault ≡ record { offset = token.start; kind = Unknown })

-- The text is in the grammar, each name after `:` is a column's, and the pattern is the one that the text writes: a variable has its column's number, and
-- wildcards have the numbers from the count of columns on.
abbrev pub IsLayoutReading : List Name → List ℕ → Pattern → Type 0
IsLayoutReading columns bytes pattern =
    (entries : EntryTrees) × (after : List Name) × IsLayoutText bytes entries × AreKnown bytes columns (terms_of entries)
    × AreEntries bytes columns entries (entries_of pattern.entries) after

-- The first fault of a text: that of its bytes or its grammar, or else the first name after `:` that is no column's.
abbrev pub IsLayoutFault : List Name → List ℕ → TextFault → Type 0
IsLayoutFault columns bytes fault =
    IsLayoutGrammarFault bytes fault
    ⊎ ((entries : EntryTrees) × IsLayoutText bytes entries × IsFirstStranger bytes columns (terms_of entries) fault)

-- Why a text is not read: its first fault, or, for bytes that are UTF-8, want of memory.
abbrev pub IsLayoutError : List Name → List ℕ → ReadError → Type 0
IsLayoutError columns bytes (Fault fault) = IsLayoutFault columns bytes fault
IsLayoutError columns bytes OutOfMemory = IsUtf8 bytes

-- A text has at most one pattern.
abbrev pub HaveOneLayout : Type 0
HaveOneLayout =
    (columns : List Name) (bytes : List ℕ) (pattern other : Pattern) → AreColumns columns → IsLayoutReading columns bytes pattern
    → IsLayoutReading columns bytes other → entries_of pattern.entries ≡ entries_of other.entries

-- A text that has a pattern has no fault.
abbrev pub HaveNoLayoutFault : Type 0
HaveNoLayoutFault =
    (columns : List Name) (bytes : List ℕ) (pattern : Pattern) (fault : TextFault) → AreColumns columns → IsLayoutReading columns bytes pattern
    → ¬ IsLayoutFault columns bytes fault

-- A text has at most one first fault.
abbrev pub HaveOneLayoutFault : Type 0
HaveOneLayoutFault =
    (columns : List Name) (bytes : List ℕ) (fault other : TextFault) → AreColumns columns → IsLayoutFault columns bytes fault
    → IsLayoutFault columns bytes other → fault ≡ other
