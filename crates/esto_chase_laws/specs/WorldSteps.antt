-- What rules and links ask for at matches, and when all of it is there.
use Rattle.std.specs.Prelude.{◌≡◌, ℕ, Bool, List, Some, Contains, slice_get}
use Rattle.esto_term.specs.declared.term.Term.{Term}
use Rattle.esto_semantics.specs.Facts.{image}
use Rattle.esto_semantics.specs.Rules.{Rule, tuple, equality, denial, body_of}
use Rattle.esto_semantics.specs.declared.fact.Fact.{Fact}
use Rattle.esto_chase_laws.specs.Making.{extended}
use Rattle.esto_chase_laws.specs.Worlds.{InWorld}
use Rattle.esto_chase_laws.specs.WorldMatches.{Touching, match_map, IsDirectMatch}
use Rattle.esto_chase_laws.specs.declared.entry.Claim.{Claim}
use Rattle.esto_chase_laws.specs.declared.entry.Claim.TheVariants.{Fact as Stated, Same}
use Rattle.esto_chase_laws.specs.declared.entry.Entry.{Entry}

-- The rule of that number asks for the claim at a match whose map is `m`: a tuple rule for each fact of its head under the extended map, an equality rule for
-- its two sides to be one, and a denial for nothing.
abbrev pub IsAsked : ℕ → Rule → (Term → Term) → Claim → Type 0
IsAsked number (tuple body head) m claim = (atom : Fact Term) × Contains head atom × (claim ≡ Stated (image (extended number body head m) atom))
IsAsked number (equality body left right) m claim = claim ≡ Same (m left) (m right)
IsAsked number (denial body) m claim = ⊥

-- What holds covers the claim: a fact as it is, an equality in either order or of a term with itself.
abbrev pub IsCovered : (Claim → Type 0) → Claim → Type 0
IsCovered Holds (Stated fact) = Holds (Stated fact)
IsCovered Holds (Same term other) = Touching Holds term other

-- In the world of each set, what a rule asks for at a direct match among the old entries is covered by the new ones.
abbrev pub AreAnswered : List Rule → List Entry → List Entry → Type 0
AreAnswered rules old new =
    (atoms : List Bool) (number : ℕ) (rule : Rule) → slice_get rules number ≡ Some rule
    → (chosen : List (Fact Term)) → IsDirectMatch (InWorld old atoms) (body_of rule) chosen
    → (claim : Claim) → IsAsked number rule (match_map (body_of rule) chosen) claim → IsCovered (InWorld new atoms) claim

-- In the world of each set, two terms that touch by the old entries, where the second touches a third, touch it by the new ones.
abbrev pub AreJoined : List Entry → List Entry → Type 0
AreJoined old new =
    (atoms : List Bool) (term next other : Term) → Touching (InWorld old atoms) term next → Touching (InWorld old atoms) next other
    → Touching (InWorld new atoms) term other
