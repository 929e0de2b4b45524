-- Facts that are wanted.
use Rattle.std.specs.Prelude.{◌≡◌, ◌⊎◌, ◌==◌, ℕ, ◌+◌, Bool, true, false, List, [], ◌∷◌, Some, slice_get, Contains}
use Rattle.std.specs.List.{list_any}
use Rattle.esto_docmodel.specs.DocumentFacts.{DocFact, flat, kind}
use Rattle.esto_docmodel.specs.Encodings.{has_text, is_kept}
use Rattle.esto_docmodel.specs.declared.kept.Kept.{Kept}
use Rattle.esto_docmodel.specs.declared.kept.KeptTexts.{KeptTexts}
use Rattle.esto_docmodel.specs.declared.kept.KeptTexts.TheVariants.{Every as EveryText, These}
use Rattle.esto_semantics.specs.Facts.{image}
use Rattle.esto_semantics.specs.declared.fact.Fact.{Fact}
use Rattle.esto_semantics.specs.declared.fact.Value.{Value}
use Rattle.esto_semantics.specs.declared.fact.Value.TheVariants.{Text}
use Rattle.esto_term.specs.declared.term.Term.{Term}
use Rattle.esto_term.specs.declared.term.Term.TheVariants.{Const}
use Rattle.esto_fill.specs.Databases.{value_of}
use Rattle.esto_fill.specs.declared.wanted.Wanted.{Wanted}
use Rattle.esto_fill.specs.declared.wanted.Wanted.TheVariants.{Every, Asked}

-- Whether one of the atoms is over the relation.
abbrev pub names : ℕ → List (Fact Term) → Bool
names relation body = list_any (λ (atom : Fact Term). atom.relation == relation) body

-- Whether facts of the relation are wanted.
abbrev pub is_wanted : Wanted → ℕ → Bool
is_wanted Every relation = true
is_wanted (Asked bodies) relation = list_any (names relation) bodies

-- Some atom of the bodies can go to the fact: a map that keeps constants sends it there.
abbrev pub IsAsked : List (List (Fact Term)) → Fact Term → Type 0
IsAsked bodies fact =
    (body : List (Fact Term)) × (atom : Fact Term) × (m : Term → Value) × Contains bodies body × Contains body atom
    × ((text : List ℕ) → m (Const text) ≡ Text text) × (image m atom ≡ image value_of fact)

-- The fact is wanted.
abbrev pub IsWanted : Wanted → Fact Term → Type 0
IsWanted Every fact = Unit {0}
IsWanted (Asked bodies) fact = IsAsked bodies fact

-- Fact by fact, in order: one that is left is of a relation that an atom of the bodies has, and to one that is not left no atom of the bodies can go.
abbrev pub LeavesAsked : List (List (Fact Term)) → List (Fact Term) → List (Fact Term) → Type 0
LeavesAsked bodies [] some = some ≡ []
LeavesAsked bodies (fact ∷ facts) some =
    (rest : List (Fact Term)) × LeavesAsked bodies facts rest
    × (((some ≡ fact ∷ rest) × (is_wanted (Asked bodies) fact.relation ≡ true)) ⊎ ((some ≡ rest) × ¬ (IsAsked bodies fact)))

-- Of the facts are left, in order, those that are wanted, each as often as it is there; where not all are wanted, others of wanted relations may be left too.
abbrev pub Leaves : Wanted → List (Fact Term) → List (Fact Term) → Type 0
Leaves Every facts some = some ≡ facts
Leaves (Asked bodies) facts some = LeavesAsked bodies facts some

-- Fact by fact, in order: each is left, or no atom of the bodies can go to it.
abbrev pub DropsUnasked : List (List (Fact Term)) → List (Fact Term) → List (Fact Term) → Type 0
DropsUnasked bodies [] some = some ≡ []
DropsUnasked bodies (fact ∷ facts) some =
    (rest : List (Fact Term)) × DropsUnasked bodies facts rest × ((some ≡ fact ∷ rest) ⊎ ((some ≡ rest) × ¬ (IsAsked bodies fact)))

-- The facts of the one list are of the other, and each of the other to which an atom of the bodies can go is there.
abbrev pub HasAsked : List (List (Fact Term)) → List (Fact Term) → List (Fact Term) → Type 0
HasAsked bodies facts some =
    ((fact : Fact Term) → Contains some fact → Contains facts fact) × ((fact : Fact Term) → Contains facts fact → IsAsked bodies fact → Contains some fact)

-- Of the facts of documents, whose relations stand from the base on, those that are wanted are kept, and others of wanted relations alone.
pub record IsKeptFor (wanted : Wanted) (base : ℕ) (relations : Kept) : Type 0 where
  pub from_base : relations.base ≡ base
  pub each : (fact : DocFact Term) → IsWanted wanted (flat base fact) → is_kept relations fact ≡ true
  pub others : (fact : DocFact Term) → is_kept relations fact ≡ true → is_wanted wanted (base + kind fact) ≡ true

-- ---- for private clauses

-- Each text, or this one among others.
abbrev pub IsThere : KeptTexts → Fact Term → Type 0
IsThere texts atom = (texts ≡ EveryText) ⊎ ((text : List ℕ) × (slice_get atom.terms 1 ≡ Some (Const text)) × (has_text texts text ≡ true))

-- What was there of texts is there still.
abbrev pub Grow : KeptTexts → KeptTexts → Type 0
Grow old new = (atom : Fact Term) → IsThere old atom → IsThere new atom

-- The text has come to the others.
abbrev pub AdmitsMore : List ℕ → KeptTexts → KeptTexts → Type 0
AdmitsMore text old new = Grow old new × ((new ≡ EveryText) ⊎ (has_text new text ≡ true))

-- What the atoms that are over the relation have at their second place has come to the others.
abbrev pub Admits : ℕ → List (Fact Term) → KeptTexts → KeptTexts → Type 0
Admits relation body old new = Grow old new × ((atom : Fact Term) → Contains body atom → atom.relation ≡ relation → IsThere new atom)

-- What the atoms of the bodies that are over the relation have at their second place is there.
abbrev pub AdmitsAll : ℕ → List (List (Fact Term)) → KeptTexts → Type 0
AdmitsAll relation bodies texts =
    (body : List (Fact Term)) (atom : Fact Term) → Contains bodies body → Contains body atom → atom.relation ≡ relation → IsThere texts atom

-- The texts are those at the second place of facts of the relation that are wanted, or more; none where the relation is not wanted.
abbrev pub MeetsWant : Wanted → ℕ → KeptTexts → Type 0
MeetsWant Every relation texts = texts ≡ EveryText
MeetsWant (Asked bodies) relation texts = AdmitsAll relation bodies texts × (is_wanted (Asked bodies) relation ≡ false → texts ≡ These [])
