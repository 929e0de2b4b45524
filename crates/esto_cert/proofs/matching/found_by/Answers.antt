use Rattle.std.proofs.Common.{ap, ◌∙◌}
use Rattle.esto_semantics.specs.Facts.{terms_of}
use Rattle.esto_cert.proofs.matching.found_by.Goals as goal

pub returns-clause-to : goal.returns-clause-to
returns-clause-to c = c.in_ok-to.ensures ∙ ap terms_of c.items.ensures
