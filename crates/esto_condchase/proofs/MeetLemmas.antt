-- What a loop reads, and what holds after a success.
use Rattle.std.proofs.Common.{◌≡◌, ℕ, ◌<◌, List, length, get_or, Contains, subst}
use Rattle.std.specs.Prelude.{Result, Ok, Err, OnOk}
use Rattle.esto_term.proofs.ListLemmas.{Contains-read}

-- what is read of the items is one of the things
pub item_inside : {X : Type 0} (things items : List X) (place : ℕ) (thing : X) → items ≡ things → place < length items → thing ≡ get_or items place thing
    → Contains things thing
item_inside things items place thing same within is = subst (λ it. Contains it thing) same (Contains-read items place thing within is)

-- a fact that follows from two
pub on_ok_both : {T E P Q R : Type 0} (result : Result T E) → (P → Q → R) → OnOk result P → OnOk result Q → OnOk result R
on_ok_both (Ok value) f one other = f one other
on_ok_both (Err error) f one other = tt
