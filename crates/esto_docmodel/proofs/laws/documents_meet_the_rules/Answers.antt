use Rattle.esto_docmodel.proofs.FactLemmas.{facts_meet_rules, roots_on_top}
use Rattle.esto_docmodel.specs.Shapes.{documents}
use Rattle.esto_docmodel.proofs.laws.documents_meet_the_rules.Goals as goal

pub returns-clause-rules : goal.returns-clause-rules
returns-clause-rules c base first trees rising = facts_meet_rules base first (documents trees) rising

pub returns-clause-roots : goal.returns-clause-roots
returns-clause-roots c base first trees = roots_on_top base first (documents trees)
