-- Statuses that differ, and what one status says.
use Rattle.std.proofs.Common.{◌≡◌, ℕ}
use Rattle.esto_chase_laws.specs.declared.clash.Clash.{Clash}
use Rattle.esto_status.specs.declared.status.Status.TheVariants.{Done, Unsatisfiable, NoRewriting, NoSuchNumber}

pub done_not_clash : (clash : Clash) → Done ≡ Unsatisfiable clash → ⊥
done_not_clash clash same = cc

pub same_clash : (clash other : Clash) → Unsatisfiable clash ≡ Unsatisfiable other → clash ≡ other
same_clash clash other same = cc

pub done_not_above : (asked least : ℕ) → Done ≡ NoSuchNumber asked least → ⊥
done_not_above asked least same = cc

pub clash_not_above : (clash : Clash) (asked least : ℕ) → Unsatisfiable clash ≡ NoSuchNumber asked least → ⊥
clash_not_above clash asked least same = cc

pub none_not_above : (asked least : ℕ) → NoRewriting ≡ NoSuchNumber asked least → ⊥
none_not_above asked least same = cc

pub same_asked : (asked least other count : ℕ) → NoSuchNumber asked least ≡ NoSuchNumber other count → asked ≡ other
same_asked asked least other count same = cc

pub same_least : (asked least other count : ℕ) → NoSuchNumber asked least ≡ NoSuchNumber other count → least ≡ count
same_least asked least other count same = cc
