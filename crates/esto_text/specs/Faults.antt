-- The texts of the grammar, and the first place at which a text leaves it.
use Rattle.std.specs.Prelude.{◌≡◌, ◌≤◌, ◌-◌, ◌⊎◌, ◌↔◌, ℕ, true, drop, List, [], ◌∷◌, ◌++◌, length, codes, IsUtf8}
use Rattle.std.specs.List.{AllByRecursion}
use Rattle.esto_text.specs.declared.fault.ReadError.{ReadError}
use Rattle.esto_text.specs.declared.fault.ReadError.TheVariants.{Fault, OutOfMemory}
use Rattle.esto_text.specs.declared.fault.TextFault.{TextFault}
use Rattle.esto_text.specs.declared.fault.TextKind.TheVariants.{Syntax}
use Rattle.esto_text.specs.declared.stop.Stop.{Stop}
use Rattle.esto_text.specs.declared.stop.Stop.TheVariants as stop
use Rattle.esto_text.specs.declared.token.Token.{Token}
use Rattle.esto_text.specs.declared.token.TokenKind.TheVariants.{Name, Quoted}
use Rattle.esto_text.specs.declared.version.Version.{Version}
use Rattle.esto_text.specs.declared.version.Version.TheVariants.{One, Two}
use Rattle.esto_text.specs.Grammar.{is_term, IsLayout, IsQuery, IsUnion, IsConstraint}
use Rattle.esto_text.specs.Limits.{limited, limited_union}
use Rattle.esto_text.specs.Tokens.{AreTokens, StandsIn, text_of, utf8_fault}
use Rattle.esto_text.specs.Trees.{EntryTrees, EachOfEntries, QueryTree, EachOfQuery, ConstraintTree, EachOfConstraint}

-- The tokens begin a text of the grammar: with some more they are one of its trees.
abbrev pub IsViable : {T : Type 0} → (T → List Token → Type 0) → List Token → Type 0
IsViable {T} IsTree front = (tree : T) × (more : List Token) × IsTree tree (front ++ more)

-- With the next token they begin none; where there is none, they are no text of the grammar.
abbrev pub Leaves : {T : Type 0} → (T → List Token → Type 0) → List Token → List Token → Type 0
Leaves {T} IsTree front [] = (tree : T) → ¬ IsTree tree front
Leaves IsTree front (token ∷ rest) = ¬ IsViable IsTree (front ++ token ∷ [])

-- From this rest on the tokens stop being a prefix of a text of the grammar.
abbrev pub StopsAt : {T : Type 0} → (T → List Token → Type 0) → List Token → List Token → Type 0
StopsAt IsTree tokens rest = (front : List Token) × (tokens ≡ front ++ rest) × IsViable IsTree front × Leaves IsTree front rest

-- The place at which the rest begins, in a text of so many bytes.
abbrev pub place_of : List Token → ℕ → ℕ
place_of [] bytes = bytes
place_of (token ∷ rest) bytes = token.start

-- Where tokens were not read for this cause, no more are left than there are.
abbrev pub LeavesWithin : List Token → Stop → Type 0
LeavesWithin tokens stop.OutOfMemory = Unit {0}
LeavesWithin tokens (stop.Syntax left) = left ≤ length tokens

-- Why a text of so many bytes is not read, whose tokens were not read for this cause.
abbrev pub error_of : List Token → ℕ → Stop → ReadError
error_of tokens bytes stop.OutOfMemory = OutOfMemory
error_of tokens bytes (stop.Syntax left) = Fault (record { offset = place_of (drop (length tokens - left) tokens) bytes; kind = Syntax })

-- The bytes are a text of the grammar, which sees their tokens as they are marked, with this tree.
abbrev pub IsTextOf : {T : Type 0} → (T → List Token → Type 0) → (List Token → List Token) → List ℕ → T → Type 0
IsTextOf IsTree marked bytes tree = (tokens : List Token) × AreTokens bytes tokens × IsTree tree (marked tokens)

-- The first token at which a text leaves the grammar, or its end.
abbrev pub IsSyntaxFault : {T : Type 0} → (T → List Token → Type 0) → (List Token → List Token) → List ℕ → TextFault → Type 0
IsSyntaxFault IsTree marked bytes fault =
    (tokens rest : List Token) × AreTokens bytes tokens × StopsAt IsTree (marked tokens) rest
    × (fault ≡ record { offset = place_of rest (length bytes); kind = Syntax })

-- The first fault of bytes that are no text of the grammar.
abbrev pub IsFaultOf : {T : Type 0} → (T → List Token → Type 0) → (List Token → List Token) → List ℕ → TextFault → Type 0
IsFaultOf IsTree marked bytes fault = ((fault ≡ utf8_fault) × ¬ IsUtf8 bytes) ⊎ IsSyntaxFault IsTree marked bytes fault

-- Why bytes are not read as a tree: their first fault, or, for bytes that are UTF-8, want of memory.
abbrev pub IsErrorOf : (List ℕ → TextFault → Type 0) → List ℕ → ReadError → Type 0
IsErrorOf IsFault bytes (Fault fault) = IsFault bytes fault
IsErrorOf IsFault bytes OutOfMemory = IsUtf8 bytes

-- The bytes are a text of no other tree than this.
abbrev pub IsOnlyTree : {T : Type 0} → (List ℕ → T → Type 0) → List ℕ → T → Type 0
IsOnlyTree {T} IsText bytes tree = (other : T) → IsText bytes other → tree ≡ other

-- The bytes are a text of a query or a view, with this tree.
abbrev pub IsQueryText : List ℕ → QueryTree → Type 0
IsQueryText bytes query = IsTextOf IsQuery limited bytes query

-- The first fault of bytes that are no text of a query or a view.
abbrev pub IsGrammarFault : List ℕ → TextFault → Type 0
IsGrammarFault bytes fault = IsFaultOf IsQuery limited bytes fault

-- The bytes are a text of a union of queries, with these trees.
abbrev pub IsUnionText : List ℕ → List QueryTree → Type 0
IsUnionText bytes queries = IsTextOf IsUnion limited_union bytes queries

-- The first fault of bytes that are no text of a union of queries.
abbrev pub IsUnionGrammarFault : List ℕ → TextFault → Type 0
IsUnionGrammarFault bytes fault = IsFaultOf IsUnion limited_union bytes fault

-- The token is the word `false`, which version 2 has and version 1 has not.
abbrev pub IsFalse : Version → List ℕ → Token → Type 0
IsFalse One bytes token = ⊥
IsFalse Two bytes token = text_of bytes token ≡ codes "false"

-- The bytes are a text of a constraint in this version, with this tree.
abbrev pub IsConstraintText : Version → List ℕ → ConstraintTree → Type 0
IsConstraintText version bytes constraint = IsTextOf (IsConstraint (IsFalse version bytes)) (λ tokens. tokens) bytes constraint

-- The first fault of bytes that are no text of a constraint in this version.
abbrev pub IsConstraintGrammarFault : Version → List ℕ → TextFault → Type 0
IsConstraintGrammarFault version bytes fault = IsFaultOf (IsConstraint (IsFalse version bytes)) (λ tokens. tokens) bytes fault

-- The bytes are a text of a layout, with these entries.
abbrev pub IsLayoutText : List ℕ → EntryTrees → Type 0
IsLayoutText bytes entries = IsTextOf IsLayout (λ tokens. tokens) bytes entries

-- The first fault of bytes that are no text of a layout.
abbrev pub IsLayoutGrammarFault : List ℕ → TextFault → Type 0
IsLayoutGrammarFault bytes fault = IsFaultOf IsLayout (λ tokens. tokens) bytes fault

-- The token is a name that stands in the bytes.
abbrev pub IsNameIn : List ℕ → Token → Type 0
IsNameIn bytes token = StandsIn bytes token × (token.kind ≡ Name)

-- The token is a name or a quoted constant that stands in the bytes.
abbrev pub IsFieldIn : List ℕ → Token → Type 0
IsFieldIn bytes token = StandsIn bytes token × ((token.kind ≡ Name) ⊎ (token.kind ≡ Quoted))

-- The token is a term that stands in the bytes.
abbrev pub IsTermIn : List ℕ → Token → Type 0
IsTermIn bytes token = StandsIn bytes token × (is_term token.kind ≡ true)

-- Each token of the tree of a query or a view is what it is to be there, and stands in the bytes.
abbrev pub StandsAt : List ℕ → QueryTree → Type 0
StandsAt bytes query = EachOfQuery (IsNameIn bytes) (IsFieldIn bytes) (IsTermIn bytes) query

-- Each token of the trees of a union is what it is to be there, and stands in the bytes.
abbrev pub UnionStandsAt : List ℕ → List QueryTree → Type 0
UnionStandsAt bytes queries = AllByRecursion (StandsAt bytes) queries

-- Each token of the tree of a constraint is what it is to be there, and stands in the bytes.
abbrev pub ConstraintStandsAt : List ℕ → ConstraintTree → Type 0
ConstraintStandsAt bytes constraint = EachOfConstraint (IsNameIn bytes) (IsFieldIn bytes) (IsTermIn bytes) constraint

-- Each token of the entries of a layout is what it is to be there, and stands in the bytes.
abbrev pub LayoutStandsAt : List ℕ → EntryTrees → Type 0
LayoutStandsAt bytes entries = EachOfEntries (IsFieldIn bytes) (IsTermIn bytes) entries

-- A text has at most one tree.
abbrev pub HaveOneTree : {T : Type 0} → (List ℕ → T → Type 0) → Type 0
HaveOneTree {T} IsText = (bytes : List ℕ) (tree : T) → IsText bytes tree → IsOnlyTree IsText bytes tree

-- A text is a union of one query exactly where it is a text of that query.
abbrev pub UnionOfOneIsQueryText : Type 0
UnionOfOneIsQueryText = (bytes : List ℕ) (tree : QueryTree) → IsUnionText bytes (tree ∷ []) ↔ IsQueryText bytes tree

-- A text that has a tree has no fault.
abbrev pub HaveNoFault : {T : Type 0} → (List ℕ → T → Type 0) → (List ℕ → TextFault → Type 0) → Type 0
HaveNoFault {T} IsText IsFault = (bytes : List ℕ) (tree : T) (fault : TextFault) → IsText bytes tree → ¬ IsFault bytes fault

-- A text has at most one fault.
abbrev pub HaveOneFault : (List ℕ → TextFault → Type 0) → Type 0
HaveOneFault IsFault = (bytes : List ℕ) (fault other : TextFault) → IsFault bytes fault → IsFault bytes other → fault ≡ other
