-- What a text of a constraint means, and its first fault.
use Rattle.std.specs.Prelude.{IsUtf8, ◌≡◌, ◌⊎◌, ℕ, List, [], ◌∷◌}
use Rattle.esto_constraint.specs.declared.rule.Constraint.{Constraint}
use Rattle.esto_constraint.specs.declared.rule.Constraint.TheVariants.{Tuple, Equal, Never}
use Rattle.esto_query.specs.declared.query.Name.{Name}
use Rattle.esto_semantics.specs.Maps.{IsFixedBy}
use Rattle.esto_semantics.specs.declared.fact.Fact.{Fact}
use Rattle.esto_term.specs.declared.term.Term.{Term}
use Rattle.esto_text.specs.Faults.{IsConstraintText, IsConstraintGrammarFault}
use Rattle.esto_text.specs.Trees.{ItemTree, HeadTree, Items, Equality, Never as Nothing, ConstraintTree}
use Rattle.esto_text.specs.declared.fault.ReadError.{ReadError}
use Rattle.esto_text.specs.declared.fault.ReadError.TheVariants.{Fault, OutOfMemory}
use Rattle.esto_text.specs.declared.fault.TextFault.{TextFault}
use Rattle.esto_text.specs.declared.fault.TextKind.TheVariants.{Unsafe}
use Rattle.esto_text.specs.declared.token.Token.{Token}
use Rattle.esto_text.specs.declared.version.Version.{Version}
use Rattle.esto_read.specs.Items.{AreFitting, IsFirstItemFault, AreItems}
use Rattle.esto_read.specs.Terms.{AreTerms}
use Rattle.esto_docmodel.specs.Words.{IsVocabulary}
use Rattle.esto_docmodel.specs.declared.words.Word.{Word}

-- The body, the head and the names of variables that items mean. Variables are numbered by first occurrence, in the body first and then in the head;
-- nothing is wrong with any item, where the atoms of body and head are counted apart.
pub record IsTupleRead (words : List Word) (schema bytes : List ℕ) (items head_items : List ItemTree) (body head : List (Fact Term)) (names : List Name)
    : Type 0 where
  pub between : List Name
  pub body_atoms : AreItems words schema bytes [] items body between
  pub body_fits : AreFitting words schema bytes 0 items
  pub head_atoms : AreItems words schema bytes between head_items head names
  pub head_fits : AreFitting words schema bytes 0 head_items

-- The body, the sides and the names of variables that items and two tokens mean. Variables are numbered by first occurrence, in the body first, then at the
-- left and then at the right; nothing is wrong with any item.
pub record IsEqualityRead (words : List Word) (schema bytes : List ℕ) (items : List ItemTree) (left_token right_token : Token) (body : List (Fact Term))
    (left right : Term) (names : List Name) : Type 0 where
  pub between : List Name
  pub body_atoms : AreItems words schema bytes [] items body between
  pub body_fits : AreFitting words schema bytes 0 items
  pub sides : AreTerms bytes between (left_token ∷ right_token ∷ []) (left ∷ right ∷ []) names

-- The body and the names of variables that the items of a denial mean. Variables are numbered by first occurrence; nothing is wrong with any item.
pub record IsDenialRead (words : List Word) (schema bytes : List ℕ) (items : List ItemTree) (body : List (Fact Term)) (names : List Name) : Type 0 where
  pub body_atoms : AreItems words schema bytes [] items body names
  pub body_fits : AreFitting words schema bytes 0 items

-- The first side of an equality that is no constant and not in the body begins there, the left side being the first.
abbrev pub IsUnsafeSide : List (Fact Term) → Token → Token → Term → Term → ℕ → Type 0
IsUnsafeSide body left_token right_token left right offset =
    (¬ IsFixedBy body left × (offset ≡ left_token.start))
    ⊎ (IsFixedBy body left × ¬ IsFixedBy body right × (offset ≡ right_token.start))

-- The rule is what a body's items and a head mean. Each side of an equality is a constant or in the body.
abbrev pub IsRuleOf : List Word → List ℕ → List ℕ → List ItemTree → HeadTree → Constraint → Type 0
IsRuleOf words schema bytes items (Items head_items) (Tuple rule) =
    IsTupleRead words schema bytes items head_items rule.body rule.head rule.names
IsRuleOf words schema bytes items (Equality left right) (Equal rule) =
    IsEqualityRead words schema bytes items left right rule.body rule.left rule.right rule.names
    × IsFixedBy rule.body rule.left × IsFixedBy rule.body rule.right
IsRuleOf words schema bytes items Nothing (Never rule) = IsDenialRead words schema bytes items rule.body rule.names
IsRuleOf words schema bytes items (Items head_items) (Equal rule) = ⊥
IsRuleOf words schema bytes items (Items head_items) (Never rule) = ⊥
IsRuleOf words schema bytes items (Equality left right) (Tuple rule) = ⊥
IsRuleOf words schema bytes items (Equality left right) (Never rule) = ⊥
IsRuleOf words schema bytes items Nothing (Tuple rule) = ⊥
IsRuleOf words schema bytes items Nothing (Equal rule) = ⊥

-- The text is in the grammar of this version, and the constraint is what its tree means.
abbrev pub IsConstraintReading : Version → List Word → List ℕ → List ℕ → Constraint → Type 0
IsConstraintReading version words schema bytes constraint =
    (tree : ConstraintTree) × IsConstraintText version bytes tree × IsRuleOf words schema bytes tree.body tree.head constraint

-- The first fault of a head behind a body in which nothing is wrong: that of its items; or, of an equality, that a side is no constant and not in the body.
-- A denial's head has none.
abbrev pub IsRuleHeadFault : List Word → List ℕ → List ℕ → List ItemTree → HeadTree → TextFault → Type 0
IsRuleHeadFault words schema bytes items (Items head_items) fault = IsFirstItemFault words schema bytes 0 head_items fault
IsRuleHeadFault words schema bytes items (Equality left right) fault =
    (body : List (Fact Term)) × (one other : Term) × (names : List Name) × IsEqualityRead words schema bytes items left right body one other names
    × (fault.kind ≡ Unsafe) × IsUnsafeSide body left right one other fault.offset
IsRuleHeadFault words schema bytes items Nothing fault = ⊥

-- The first fault of a tree: that of its body's items, or else that of its head.
abbrev pub IsRuleFault : List Word → List ℕ → List ℕ → ConstraintTree → TextFault → Type 0
IsRuleFault words schema bytes tree fault =
    IsFirstItemFault words schema bytes 0 tree.body fault
    ⊎ (AreFitting words schema bytes 0 tree.body × IsRuleHeadFault words schema bytes tree.body tree.head fault)

-- Why no constraint is made of a tree: its first fault, or want of memory.
abbrev pub IsRuleError : List Word → List ℕ → List ℕ → ConstraintTree → ReadError → Type 0
IsRuleError words schema bytes tree (Fault fault) = IsRuleFault words schema bytes tree fault
IsRuleError words schema bytes tree OutOfMemory = Unit {0}

-- The first fault of a text in this version: that of its bytes or its grammar, or else that of its tree.
abbrev pub IsConstraintFault : Version → List Word → List ℕ → List ℕ → TextFault → Type 0
IsConstraintFault version words schema bytes fault =
    IsConstraintGrammarFault version bytes fault
    ⊎ ((tree : ConstraintTree) × IsConstraintText version bytes tree × IsRuleFault words schema bytes tree fault)

-- Why a text is not read: its first fault, or, for bytes that are UTF-8, want of memory.
abbrev pub IsConstraintError : Version → List Word → List ℕ → List ℕ → ReadError → Type 0
IsConstraintError version words schema bytes (Fault fault) = IsConstraintFault version words schema bytes fault
IsConstraintError version words schema bytes OutOfMemory = IsUtf8 bytes

-- Two rules are of one kind, with the same body, the same head or sides if there are any, and the same names of variables.
abbrev pub AreSameRule : Constraint → Constraint → Type 0
AreSameRule (Tuple rule) (Tuple other) = (rule.body ≡ other.body) × (rule.head ≡ other.head) × (rule.names ≡ other.names)
AreSameRule (Equal rule) (Equal other) =
    (rule.body ≡ other.body) × (rule.left ≡ other.left) × (rule.right ≡ other.right) × (rule.names ≡ other.names)
AreSameRule (Never rule) (Never other) = (rule.body ≡ other.body) × (rule.names ≡ other.names)
AreSameRule (Tuple rule) (Equal other) = ⊥
AreSameRule (Tuple rule) (Never other) = ⊥
AreSameRule (Equal rule) (Tuple other) = ⊥
AreSameRule (Equal rule) (Never other) = ⊥
AreSameRule (Never rule) (Tuple other) = ⊥
AreSameRule (Never rule) (Equal other) = ⊥

-- In each version a text has at most one reading.
abbrev pub HaveOneRule : Type 0
HaveOneRule =
    (version : Version) (words : List Word) (schema bytes : List ℕ) (constraint other : Constraint) → IsVocabulary schema words
    → IsConstraintReading version words schema bytes constraint → IsConstraintReading version words schema bytes other → AreSameRule constraint other

-- In each version a text that has a reading has no fault.
abbrev pub HaveNoRuleFault : Type 0
HaveNoRuleFault =
    (version : Version) (words : List Word) (schema bytes : List ℕ) (constraint : Constraint) (fault : TextFault) → IsVocabulary schema words
    → IsConstraintReading version words schema bytes constraint → ¬ IsConstraintFault version words schema bytes fault

-- In each version a text has at most one first fault.
abbrev pub HaveOneRuleFault : Type 0
HaveOneRuleFault =
    (version : Version) (words : List Word) (schema bytes : List ℕ) (fault other : TextFault) → IsVocabulary schema words
    → IsConstraintFault version words schema bytes fault → IsConstraintFault version words schema bytes other → fault ≡ other
