-- The pattern that a group writes, and its atoms.
use Rattle.std.specs.Prelude.{◌≡◌, ℕ, List, [], ◌∷◌, ◌++◌, length, replicate}
use Rattle.std.specs.List.{AllZip}
use Rattle.esto_docmodel.specs.Encodings.{atoms_of, used}
use Rattle.esto_docmodel.specs.Patterns.{Entries, done, holds, group}
use Rattle.esto_docmodel.specs.declared.pattern.Step.{Step}
use Rattle.esto_docmodel.specs.declared.pattern.Step.TheVariants as step
use Rattle.esto_query.specs.declared.query.Name.{Name}
use Rattle.esto_query.specs.declared.query.Name.TheVariants.{Hidden}
use Rattle.esto_semantics.specs.declared.fact.Fact.{Fact}
use Rattle.esto_term.specs.declared.term.Term.{Term}
use Rattle.esto_text.specs.Quotes.{closed}
use Rattle.esto_text.specs.Tokens.{text_of}
use Rattle.esto_text.specs.Trees.{EntryTree, EntryTrees, Value, Nested, NoEntry, AndEntry}
use Rattle.esto_text.specs.declared.token.TokenKind.{TokenKind}
use Rattle.esto_text.specs.declared.token.TokenKind.TheVariants.{Quoted}
use Rattle.esto_text.specs.declared.token.TokenKind.TheVariants as kind
use Rattle.esto_text.specs.declared.tree.StepSyntax.{StepSyntax}
use Rattle.esto_text.specs.declared.tree.StepSyntax.TheVariants.{Field, Item, Below}
use Rattle.esto_read.specs.Terms.{IsTermOf}

-- The field's name that a token of the kind and text says: a name itself, and a quoted constant what is between its quotes.
abbrev pub IsFieldOf : TokenKind → List ℕ → List ℕ → Type 0
IsFieldOf kind.Name text field = field ≡ text
IsFieldOf Quoted text field = text ≡ 39 ∷ closed field
IsFieldOf _ text field = ⊥

-- The step that a step of the text says.
abbrev pub IsStepOf : List ℕ → StepSyntax → Step → Type 0
IsStepOf bytes (Field token) (step.Name field) = IsFieldOf token.kind (text_of bytes token) field
IsStepOf bytes Item step.Item = Unit {0}
IsStepOf bytes Below step.Below = Unit {0}
IsStepOf bytes _ _ = ⊥

-- The entries that a group writes, where these names came before them, and the names after them. Their terms are read from left to right.
abbrev pub AreEntries : List ℕ → List Name → EntryTrees → Entries → List Name → Type 0
AreEntries bytes before NoEntry done after = after ≡ before
AreEntries bytes before (AndEntry (Value path token) others) (holds steps term rest) after =
    (between : List Name) × AllZip (IsStepOf bytes) path steps × IsTermOf token.kind (text_of bytes token) before term between
    × AreEntries bytes between others rest after
AreEntries bytes before (AndEntry (Nested path entries) others) (group steps inner rest) after =
    (between : List Name) × AllZip (IsStepOf bytes) path steps × AreEntries bytes before entries inner between × AreEntries bytes between others rest after
AreEntries bytes before _ _ after = ⊥

-- What an entry of the text puts before others, where these names came before it, and the names after it.
abbrev pub Puts : List ℕ → List Name → EntryTree → (Entries → Entries) → List Name → Type 0
Puts bytes before entry put after =
    (others : EntryTrees) (rest : Entries) (end : List Name) → AreEntries bytes after others rest end
    → AreEntries bytes before (AndEntry entry others) (put rest) end

-- The atoms of the pattern that a group writes over the five relations from the base on, where these names came before it, and the names after it. Its root
-- takes the next number, then its terms take theirs, and then the nodes of its steps, in the order of the text; root and nodes have no name.
abbrev pub IsPatternOf : List ℕ → List Name → ℕ → EntryTrees → List (Fact Term) → List Name → Type 0
IsPatternOf bytes before base entries atoms after =
    (pattern : Entries) × (between : List Name) × AreEntries bytes (before ++ Hidden ∷ []) entries pattern between
    × (atoms ≡ atoms_of base pattern (length before) (length between)) × (after ≡ between ++ replicate (used pattern) Hidden)
