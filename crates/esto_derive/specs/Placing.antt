-- What rules make at places of their heads.
use Rattle.std.specs.Prelude.{◌≡◌, ℕ, Some}
use Rattle.esto_term.specs.declared.term.Term.{Term}
use Rattle.esto_semantics.specs.Rules.{Rule}
use Rattle.esto_chase_laws.specs.Claims.{AreSameClaim}
use Rattle.esto_chase_laws.specs.declared.entry.Claim.{Claim}
use Rattle.esto_cert.specs.Certificates.{made_at}

-- The rule of that number makes the claim at the place of its head, counted from 1, or at 0 for the equality of its
-- sides.
abbrev pub Makes : ℕ → ℕ → Rule → (Term → Term) → Claim → Type 0
Makes place number rule m claim = (made : Claim) × (made_at place number rule m ≡ Some made) × AreSameClaim made claim
