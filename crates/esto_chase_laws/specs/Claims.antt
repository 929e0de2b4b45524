-- When two claims are one.
use Rattle.std.specs.Prelude.{◌≡◌, ◌⊎◌}
use Rattle.esto_chase_laws.specs.declared.entry.Claim.{Claim}
use Rattle.esto_chase_laws.specs.declared.entry.Claim.TheVariants.{Fact as Stated, Same}

-- The claims are one: the same fact, or an equality of the same two terms, in either order.
abbrev pub AreSameClaim : Claim → Claim → Type 0
AreSameClaim (Stated fact) (Stated other) = fact ≡ other
AreSameClaim (Stated fact) (Same left right) = ⊥
AreSameClaim (Same left right) (Stated fact) = ⊥
AreSameClaim (Same left right) (Same other_left other_right) =
    ((left ≡ other_left) × (right ≡ other_right)) ⊎ ((left ≡ other_right) × (right ≡ other_left))
