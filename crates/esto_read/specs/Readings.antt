-- What a text of a query or a view means, and its first fault.
use Rattle.std.specs.Prelude.{IsUtf8, Contains, AllPairs, ◌≡◌, ◌≢◌, ◌⊎◌, ℕ, List, [], Some, slice_get}
use Rattle.esto_query.specs.declared.query.Name.{Name}
use Rattle.esto_semantics.specs.Maps.{IsVariable}
use Rattle.esto_semantics.specs.declared.fact.Fact.{Fact}
use Rattle.esto_term.specs.declared.term.Term.{Term}
use Rattle.esto_text.specs.Faults.{IsQueryText, IsGrammarFault}
use Rattle.esto_text.specs.Tokens.{text_of}
use Rattle.esto_text.specs.Trees.{QueryTree}
use Rattle.esto_text.specs.declared.fault.ReadError.{ReadError}
use Rattle.esto_text.specs.declared.fault.ReadError.TheVariants.{Fault, OutOfMemory}
use Rattle.esto_text.specs.declared.fault.TextFault.{TextFault}
use Rattle.esto_text.specs.declared.fault.TextKind.TheVariants.{SameVariable, Unsafe}
use Rattle.esto_text.specs.declared.token.Token.{Token}
use Rattle.esto_read.specs.Heads.{AreDifferent, IsFirstRepeat, AreMentioned, IsFirstMissing}
use Rattle.esto_read.specs.Items.{AreFitting, IsFirstItemFault, AreItems}
use Rattle.esto_read.specs.Terms.{AreTerms}
use Rattle.esto_docmodel.specs.Words.{IsVocabulary}
use Rattle.esto_read.specs.declared.read.Form.{Form}
use Rattle.esto_read.specs.declared.read.Form.TheVariants.{Query, View}
use Rattle.esto_read.specs.declared.read.NamedQuery.{NamedQuery}
use Rattle.esto_docmodel.specs.declared.words.Word.{Word}

-- The head, the body and the names of variables that a tree means. Variables are numbered by first occurrence, in the head first and then in the body; nothing
-- is wrong with any item.
pub record IsRead (words : List Word) (schema bytes : List ℕ) (tree : QueryTree) (head : List Term) (body : List (Fact Term)) (names : List Name) : Type 0 where
  pub between : List Name
  pub head_terms : AreTerms bytes [] tree.variables head between
  pub body_atoms : AreItems words schema bytes between tree.items body names
  pub fits : AreFitting words schema bytes 0 tree.items

-- The head of a text of this form may have these variables: a view's names are all different.
abbrev pub IsAllowed : Form → List ℕ → List Token → Type 0
IsAllowed Query bytes variables = Unit {0}
IsAllowed View bytes variables = AreDifferent bytes variables

-- The terms of a head of this form are variables, and a view's are all different.
abbrev pub HasVariables : Form → List Term → Type 0
HasVariables Query head = (term : Term) → Contains head term → IsVariable term
HasVariables View head = ((term : Term) → Contains head term → IsVariable term) × AllPairs ◌≢◌ head

-- There begins the first variable that a head of this form may not have again.
abbrev pub IsRefused : Form → List ℕ → List Token → ℕ → Type 0
IsRefused Query bytes variables offset = ⊥
IsRefused View bytes variables offset = IsFirstRepeat bytes variables offset

-- Nothing is wrong with the head: it may have these variables, and the body mentions each.
abbrev pub IsHeadFit : Form → List ℕ → List Token → List Term → List (Fact Term) → Type 0
IsHeadFit form bytes variables head body = IsAllowed form bytes variables × AreMentioned body head

-- The first fault of a head: a name that a view may not have again; else the first variable that the body does not mention.
abbrev pub IsHeadFault : Form → List ℕ → List Token → List Term → List (Fact Term) → TextFault → Type 0
IsHeadFault form bytes variables head body fault =
    ((fault.kind ≡ SameVariable) × IsRefused form bytes variables fault.offset)
    ⊎ ((fault.kind ≡ Unsafe) × IsAllowed form bytes variables × (place : ℕ) × (token : Token) × IsFirstMissing body head place
    × (slice_get variables place ≡ Some token) × (fault.offset ≡ token.start))

-- The query is what the tree says.
pub record IsSaid (form : Form) (words : List Word) (schema bytes : List ℕ) (tree : QueryTree) (query : NamedQuery) : Type 0 where
  pub name : query.name ≡ text_of bytes tree.name
  pub read : IsRead words schema bytes tree query.query.head query.query.body query.query.names
  pub fit : IsHeadFit form bytes tree.variables query.query.head query.query.body

-- The query is what the text means: the text has this tree, and the query is what it says.
pub record IsMeaning (form : Form) (words : List Word) (schema bytes : List ℕ) (tree : QueryTree) (query : NamedQuery) : Type 0 where
  pub text : IsQueryText bytes tree
  pub said : IsSaid form words schema bytes tree query

-- The text is in the grammar, and the query is what its tree means.
abbrev pub IsReading : Form → List Word → List ℕ → List ℕ → NamedQuery → Type 0
IsReading form words schema bytes query = (tree : QueryTree) × IsMeaning form words schema bytes tree query

-- The first fault of a tree: that of its items, or else that of its head.
abbrev pub IsTreeFault : Form → List Word → List ℕ → List ℕ → QueryTree → TextFault → Type 0
IsTreeFault form words schema bytes tree fault =
    IsFirstItemFault words schema bytes 0 tree.items fault
    ⊎ ((head : List Term) × (body : List (Fact Term)) × (names : List Name) × IsRead words schema bytes tree head body names
    × IsHeadFault form bytes tree.variables head body fault)

-- Why no query is made of a tree: its first fault, or want of memory.
abbrev pub IsTreeError : Form → List Word → List ℕ → List ℕ → QueryTree → ReadError → Type 0
IsTreeError form words schema bytes tree (Fault fault) = IsTreeFault form words schema bytes tree fault
IsTreeError form words schema bytes tree OutOfMemory = Unit {0}

-- The tree has a variable in its head, and an item in its body.
abbrev pub HasParts : QueryTree → Type 0
HasParts tree = (tree.variables ≢ []) × (tree.items ≢ [])

-- The first fault of a text: that of its bytes or its grammar, or else that of its tree.
abbrev pub IsFirstFault : Form → List Word → List ℕ → List ℕ → TextFault → Type 0
IsFirstFault form words schema bytes fault =
    IsGrammarFault bytes fault ⊎ ((tree : QueryTree) × IsQueryText bytes tree × IsTreeFault form words schema bytes tree fault)

-- Why a text is not read: its first fault, or, for bytes that are UTF-8, want of memory.
abbrev pub IsReadError : Form → List Word → List ℕ → List ℕ → ReadError → Type 0
IsReadError form words schema bytes (Fault fault) = IsFirstFault form words schema bytes fault
IsReadError form words schema bytes OutOfMemory = IsUtf8 bytes

-- Two queries have the same name, head, body and names of variables.
abbrev pub AreSame : NamedQuery → NamedQuery → Type 0
AreSame query other =
    (query.name ≡ other.name) × (query.query.head ≡ other.query.head) × (query.query.body ≡ other.query.body) × (query.query.names ≡ other.query.names)

-- A text has at most one reading.
abbrev pub HaveOneReading : Type 0
HaveOneReading =
    (form : Form) (words : List Word) (schema bytes : List ℕ) (query other : NamedQuery) → IsVocabulary schema words → IsReading form words schema bytes query
    → IsReading form words schema bytes other → AreSame query other

-- A text that has a reading has no fault.
abbrev pub HaveNoFault : Type 0
HaveNoFault =
    (form : Form) (words : List Word) (schema bytes : List ℕ) (query : NamedQuery) (fault : TextFault) → IsVocabulary schema words
    → IsReading form words schema bytes query → ¬ IsFirstFault form words schema bytes fault

-- A text has at most one first fault.
abbrev pub HaveOneFault : Type 0
HaveOneFault =
    (form : Form) (words : List Word) (schema bytes : List ℕ) (fault other : TextFault) → IsVocabulary schema words
    → IsFirstFault form words schema bytes fault → IsFirstFault form words schema bytes other → fault ≡ other
