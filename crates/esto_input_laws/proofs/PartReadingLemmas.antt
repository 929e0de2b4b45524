-- Tokens that stand in a text say terms, steps and entries.
use Rattle.std.proofs.Common.{◌≡◌, ◌⊎◌, ℕ, true, inl, inr, List, [], ◌∷◌, ◌++◌, length, refl, ap, subst}
use Rattle.std.specs.Prelude.{Contains, replicate}
use Rattle.std.specs.List.{AllByRecursion, AllZip}
use Rattle.esto_docmodel.specs.Encodings.{atoms_of, used}
use Rattle.esto_docmodel.specs.Patterns.{Entries, done, holds, group}
use Rattle.esto_docmodel.specs.declared.pattern.Step.{Step}
use Rattle.esto_docmodel.specs.declared.pattern.Step.TheVariants as step
use Rattle.esto_query.specs.declared.query.Name.{Name}
use Rattle.esto_query.specs.declared.query.Name.TheVariants.{Given, Hidden}
use Rattle.esto_semantics.specs.declared.fact.Fact.{Fact}
use Rattle.esto_term.proofs.ChoiceLemmas.{Decided, decided_in, decided_as}
use Rattle.esto_term.proofs.ListLemmas.{place-from_Contains}
use Rattle.esto_term.specs.declared.term.Term.{Term}
use Rattle.esto_term.specs.declared.term.Term.TheVariants.{Const, Plain}
use Rattle.esto_text.specs.Faults.{IsFieldIn, IsTermIn}
use Rattle.esto_text.specs.Grammar.{is_term}
use Rattle.esto_text.specs.Tokens.{IsToken, text_of}
use Rattle.esto_text.specs.Trees.{Value, Nested, EntryTrees, NoEntry, AndEntry, EachOfPath, EachOfEntries}
use Rattle.esto_text.specs.declared.token.Token.{Token}
use Rattle.esto_text.specs.declared.token.TokenKind.{TokenKind}
use Rattle.esto_text.specs.declared.token.TokenKind.TheVariants as kind
use Rattle.esto_text.specs.declared.tree.StepSyntax.{StepSyntax}
use Rattle.esto_text.specs.declared.tree.StepSyntax.TheVariants.{Field, Item, Below}
use Rattle.esto_read.specs.Items.{IsAtomOf}
use Rattle.esto_read.specs.Patterns.{IsFieldOf, IsStepOf, AreEntries, IsPatternOf}
use Rattle.esto_read.specs.Terms.{IsVariableOf, IsTermOf, AreTerms}
use Rattle.esto_term.proofs.DecisionLemmas.{same_bytes}

-- ---- names

is_given : (name : Name) (text : List ℕ) → Decided (name ≡ Given text)
is_given (Given other) text = decided_as (λ e. ap Given e, λ e. cc) (same_bytes other text)
is_given Hidden text = inr (λ e. cc)

pub given_in : (names : List Name) (text : List ℕ) → Decided (Contains names (Given text))
given_in names text = decided_as
    (λ (name, inside, is). subst (Contains names) is inside, λ inside. (Given text, inside, refl))
    (decided_in (λ name. name ≡ Given text) (λ name. is_given name text) names)

-- ---- terms

variable_of : (text : List ℕ) (before : List Name) → (term : Term) × (after : List Name) × IsVariableOf text before term after
variable_of text before = elim (given_in before text) [
  | inl inside ↦ let (number, at) = place-from_Contains before (Given text) inside in (Plain number, before, inl (number, at, refl, refl))
  | inr new ↦ (Plain (length before), before ++ Given text ∷ [], inr (new, refl, refl))
]

kind_term : (k : TokenKind) (text after_text : List ℕ) (before : List Name) → IsToken k text after_text → is_term k ≡ true
    → (term : Term) × (after : List Name) × IsTermOf k text before term after
kind_term kind.Name text after_text before token is = variable_of text before
kind_term kind.Wildcard text after_text before token is = (Plain (length before), before ++ Hidden ∷ [], (refl, refl))
kind_term kind.Quoted text after_text before token is =
    let (others, e, (content, high, f)) = token.stands in
    (Const content, before, (content, subst (λ (l : List ℕ). text ≡ 39 ∷ l) f e, refl, refl))
kind_term kind.Number text after_text before token is = (Const text, before, (refl, refl))
kind_term _ text after_text before token is = absurd cc

module _ (bytes : List ℕ) where
  pub term_of : (before : List Name) (token : Token) → IsTermIn bytes token
      → (term : Term) × (after : List Name) × IsTermOf token.kind (text_of bytes token) before term after
  term_of before token h = kind_term token.kind (text_of bytes token) _ before h.0.is_token h.1

  pub terms_of : (before : List Name) (tokens : List Token) → AllByRecursion (IsTermIn bytes) tokens
      → (terms : List Term) × (after : List Name) × AreTerms bytes before tokens terms after
  terms_of before [] h = ([], before, refl)
  terms_of before (token ∷ tokens) h =
      let (term, between, first) = term_of before token h.0 in
      let (terms, after, rest) = terms_of between tokens h.1 in
      (term ∷ terms, after, (between, first, rest))

  pub atom_of : (before : List Name) (relation : ℕ) (tokens : List Token) → AllByRecursion (IsTermIn bytes) tokens
      → (atoms : List (Fact Term)) × (after : List Name) × IsAtomOf bytes before relation tokens atoms after
  atom_of before relation tokens h =
      let (row, after, are) = terms_of before tokens h in (record { relation = relation; terms = row } ∷ [], after, (row, are, refl))

-- ---- steps

kind_field : (k : TokenKind) (text after_text : List ℕ) → IsToken k text after_text → (k ≡ kind.Name) ⊎ (k ≡ kind.Quoted)
    → (field : List ℕ) × IsFieldOf k text field
kind_field kind.Name text after_text token is = (text, refl)
kind_field kind.Quoted text after_text token is =
    let (others, e, (content, high, f)) = token.stands in (content, subst (λ (l : List ℕ). text ≡ 39 ∷ l) f e)
kind_field _ text after_text token (inl name) = absurd cc
kind_field _ text after_text token (inr quoted) = absurd cc

module _ (bytes : List ℕ) where
  field_of : (token : Token) → IsFieldIn bytes token → (field : List ℕ) × IsFieldOf token.kind (text_of bytes token) field
  field_of token h = kind_field token.kind (text_of bytes token) _ h.0.is_token h.1

  steps_of : (path : List StepSyntax) → EachOfPath (IsFieldIn bytes) path → (steps : List Step) × AllZip (IsStepOf bytes) path steps
  steps_of [] h = ([], tt)
  steps_of (Field token ∷ path) h =
      let (field, is) = field_of token h.0 in
      let (steps, are) = steps_of path h.1 in
      (step.Name field ∷ steps, (is, are))
  steps_of (Item ∷ path) h = let (steps, are) = steps_of path h in (step.Item ∷ steps, (tt, are))
  steps_of (Below ∷ path) h = let (steps, are) = steps_of path h in (step.Below ∷ steps, (tt, are))

  -- ---- entries

  pub entries_of : (before : List Name) (es : EntryTrees) → EachOfEntries (IsFieldIn bytes) (IsTermIn bytes) es
      → (pattern : Entries) × (after : List Name) × AreEntries bytes before es pattern after
  entries_of before NoEntry h = (done, before, refl)
  entries_of before (AndEntry (Value path token) others) h =
      let (steps, are) = steps_of path h.0.0 in
      let (term, between, is) = term_of bytes before token h.0.1 in
      let (rest, after, more) = entries_of between others h.1 in
      (holds steps term rest, after, (between, are, is, more))
  entries_of before (AndEntry (Nested path entries) others) h =
      let (steps, are) = steps_of path h.0.0 in
      let (inner, between, inside) = entries_of before entries h.0.1 in
      let (rest, after, more) = entries_of between others h.1 in
      (group steps inner rest, after, (between, are, inside, more))

  pub pattern_of : (before : List Name) (base : ℕ) (es : EntryTrees) → EachOfEntries (IsFieldIn bytes) (IsTermIn bytes) es
      → (atoms : List (Fact Term)) × (after : List Name) × IsPatternOf bytes before base es atoms after
  pattern_of before base es h =
      let (pattern, between, are) = entries_of (before ++ Hidden ∷ []) es h in (
        atoms_of base pattern (length before) (length between),
        between ++ replicate (used pattern) Hidden,
        (pattern, between, are, refl, refl),
      )
