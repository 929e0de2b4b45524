-- Numbers that are counted from 1.
use Rattle.std.proofs.Common.{◌≡◌, ◌==◌, ℕ, ◌+◌, ◌-◌, zero, suc, Bool, false, cond, List, ◌++◌, slice_get, Some, None, sym, ap, ◌∙◌, arith}
use Rattle.std.proofs.lemmas.Bool.Decides.{nat_tests}
use Rattle.esto_term.proofs.ListLemmas.{at_left}
use Rattle.esto_cert.specs.Certificates.{numbered}

pub numbered_next : {A : Type 0} (items : List A) (place : ℕ) → numbered items (place + 1) ≡ slice_get items place
numbered_next items place =
    ap (λ (it : Bool). cond it None (slice_get items (place + 1 - 1))) some ∙ ap (slice_get items) minus
  where
    some : (place + 1 == 0) ≡ false
    some = grind (arith, nat_tests)

    minus : place + 1 - 1 ≡ place
    minus = omega arith

pub numbered_at : {X : Type 0} (items : List X) (number : ℕ) (item : X) → numbered items number ≡ Some item
    → (place : ℕ) × (number ≡ place + 1) × (slice_get items place ≡ Some item)
numbered_at items zero item at = absurd (let wrong : None ≡ Some item = at in cc)
numbered_at items (suc place) item at =
    let next : suc place ≡ place + 1 = omega arith in
    (place, next, sym (numbered_next items place) ∙ ap (numbered items) (sym next) ∙ at)

pub numbered_more : {X : Type 0} (items more : List X) (number : ℕ) (item : X) → numbered items number ≡ Some item
    → numbered (items ++ more) number ≡ Some item
numbered_more items more number item at =
    let (place, is, there) = numbered_at items number item at in
    ap (numbered (items ++ more)) is ∙ numbered_next (items ++ more) place ∙ at_left items more place item there
