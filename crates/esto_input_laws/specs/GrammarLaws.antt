-- That each text has tokens, and a tree or a place at which it leaves the grammar.
use Rattle.std.specs.Prelude.{◌≡◌, ◌⊎◌, ℕ, List, IsUtf8}
use Rattle.esto_text.specs.declared.token.Token.{Token}
use Rattle.esto_text.specs.declared.version.Version.{Version}
use Rattle.esto_text.specs.Faults.{StopsAt, IsQueryText, IsGrammarFault, IsUnionText, IsUnionGrammarFault, IsConstraintText, IsConstraintGrammarFault}
use Rattle.esto_text.specs.Faults.{IsFalse, IsLayoutText, IsLayoutGrammarFault}
use Rattle.esto_text.specs.Grammar.{IsQuery, IsUnion, IsConstraint, IsLayout}
use Rattle.esto_text.specs.Tokens.{AreTokens}
use Rattle.esto_input_laws.specs.Totality.{IsTotal, IsFunction}

-- Whatever the bytes are, they are not UTF-8, or they have tokens.
abbrev pub HaveTokens : Type 0
HaveTokens = (bytes : List ℕ) → (¬ IsUtf8 bytes) ⊎ ((tokens : List Token) × AreTokens bytes tokens)

-- Whatever the tokens are, they have a tree of the grammar, or there is a first place at which they leave it.
abbrev pub HaveTreeOrStop : {T : Type 0} → (T → List Token → Type 0) → Type 0
HaveTreeOrStop {T} IsTree = IsTotal (λ (tokens : List Token) (tree : T). IsTree tree tokens) (StopsAt IsTree)

-- So it is of the grammar of queries and views.
abbrev pub QueriesHaveTreeOrStop : Type 0
QueriesHaveTreeOrStop = HaveTreeOrStop IsQuery

-- And of the grammar of unions of queries.
abbrev pub UnionsHaveTreeOrStop : Type 0
UnionsHaveTreeOrStop = HaveTreeOrStop IsUnion

-- And of the grammar of layouts.
abbrev pub LayoutsHaveTreeOrStop : Type 0
LayoutsHaveTreeOrStop = HaveTreeOrStop IsLayout

-- And of the grammar of constraints, in each version: which of the tokens are the word `false` is for the bytes to say.
abbrev pub ConstraintsHaveTreeOrStop : Type 0
ConstraintsHaveTreeOrStop = (version : Version) (bytes : List ℕ) → HaveTreeOrStop (IsConstraint (IsFalse version bytes))

-- Whatever the bytes are, they have one tree as a query or a view, or one first fault of its grammar, and not both.
abbrev pub QueryTextsAreAFunction : Type 0
QueryTextsAreAFunction = IsFunction ◌≡◌ IsQueryText IsGrammarFault

-- The same of a union.
abbrev pub UnionTextsAreAFunction : Type 0
UnionTextsAreAFunction = IsFunction ◌≡◌ IsUnionText IsUnionGrammarFault

-- The same of a constraint, in each version.
abbrev pub ConstraintTextsAreAFunction : Type 0
ConstraintTextsAreAFunction = (version : Version) → IsFunction ◌≡◌ (IsConstraintText version) (IsConstraintGrammarFault version)

-- The same of a layout.
abbrev pub LayoutTextsAreAFunction : Type 0
LayoutTextsAreAFunction = IsFunction ◌≡◌ IsLayoutText IsLayoutGrammarFault
