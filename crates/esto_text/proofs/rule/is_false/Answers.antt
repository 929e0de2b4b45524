use Rattle.std.proofs.Common.{sym, ◌∙◌}
use Rattle.std.proofs.lemmas.Slice.Eq.{bytes_eq-Decides}
use Rattle.esto_text.proofs.rule.is_false.Goals as goal

pub returns-in-Two : goal.returns-in-Two
returns-in-Two c =
    rw c.in-Two.is
    (λ told. (bytes_eq-Decides _ _).0 (sym c.eq.ensures ∙ told), λ is. c.eq.ensures ∙ (bytes_eq-Decides _ _).1 is)
