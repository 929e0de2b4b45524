-- What is handed on where what comes before it went well.
use Rattle.std.proofs.Common.{◌≡◌, Result, Ok, Err, sym, subst}
use Rattle.std.specs.Result.{OnOk, IfOk, result_and}

module _ {S A E : Type 0} (done : Result S E) (value : A) (result : Result A E) (is : result ≡ result_and done (Ok value)) where
  pub handed_on : (P : A → Type 0) → OnOk done (P value) → IfOk result P
  handed_on P holds = subst (λ (it : Result A E). IfOk it P) (sym is) (keeps done holds) where
    keeps : (done : Result S E) → OnOk done (P value) → IfOk (result_and done (Ok value)) P
    keeps (Ok it) h = h
    keeps (Err error) h = tt
