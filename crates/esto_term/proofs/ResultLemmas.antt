-- What holds of an answer where there is one.
use Rattle.std.specs.Prelude.{Result, Ok, Err, IfOk}

-- what follows from two facts of it
pub if_ok_both : {T E : Type 0} {P Q R : T → Type 0} (result : Result T E) → ((value : T) → P value → Q value → R value) → IfOk result P → IfOk result Q
    → IfOk result R
if_ok_both (Ok value) follows one other = follows value one other
if_ok_both (Err error) follows one other = tt
