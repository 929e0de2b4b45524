use Rattle.std.proofs.lemmas.Bool.{false≢true}
use Rattle.esto_docmodel.proofs.layout.begins_with.Goals as goal

pub returns-in-None : goal.returns-in-None
returns-in-None c = (λ e. absurd (false≢true e), λ h. absurd (c.in-None.ensures _ h))
