-- What replacing a term gives.
use Rattle.std.proofs.Common.{◌≡◌, Bool, true, false, refl}
use Rattle.std.specs.Ordering.{is_eq}
use Rattle.esto_term.specs.declared.term.Term.{Term}
use Rattle.esto_term.specs.Order.{replaced, term_cmp}
use Rattle.esto_term.proofs.CompareLemmas.{equal_tested}

pub replaced-same : (from to term : Term) → term ≡ from → replaced from to term ≡ to
replaced-same from to term same =
    let tested : is_eq (term_cmp term from) ≡ true = (equal_tested term from (is_eq (term_cmp term from)) refl).1 same in rw tested refl

pub replaced-other : (from to term : Term) → (term ≡ from → ⊥) → replaced from to term ≡ term
replaced-other from to term apart = by (is_eq (term_cmp term from)) refl
  where
    by : (test : Bool) → is_eq (term_cmp term from) ≡ test → replaced from to term ≡ term
    by true e = absurd (apart ((equal_tested term from (is_eq (term_cmp term from)) refl).0 e))
    by false e = rw e refl
