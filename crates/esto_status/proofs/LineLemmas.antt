-- What is put at the end of a line, a piece after another.
use Rattle.std.proofs.Common.{◌≡◌, ◌++◌, ℕ, List, Result, Ok, Err}
use Rattle.std.specs.Prelude.{OnOk}
use Rattle.esto_term.proofs.ListLemmas.{two_more}

-- where the second is put
pub put_both : {T E : Type 0} (old mid new one two : List ℕ) (result : Result T E) → mid ≡ old ++ one → OnOk result (new ≡ mid ++ two)
    → OnOk result (new ≡ old ++ (one ++ two))
put_both old mid new one two (Ok value) first second = two_more old mid new one two first second
put_both old mid new one two (Err error) first second = tt
