use Rattle.std.proofs.Common.{sym, ◌∙◌}
use Rattle.esto_read.proofs.unions.add_said_with.Goals as goal

pub said-requires-clause-words : goal.said-requires-clause-words
said-requires-clause-words c = c.requires.words

pub said-requires-clause-utf8 : goal.said-requires-clause-utf8
said-requires-clause-utf8 c = c.requires.utf8

pub said-requires-clause-parts : goal.said-requires-clause-parts
said-requires-clause-parts c = c.requires.parts

pub said-requires-clause-stands : goal.said-requires-clause-stands
said-requires-clause-stands c = c.requires.stands

pub returns-clause-added : goal.returns-clause-added
returns-clause-added c = (
  c.in_ok-query.query,
  (sym c.len.ensures ∙ c.if-len-count.false, c.in_ok-query.ensures.said),
  c.in_ok-query.ensures.over,
  c.in_ok-push.ensures.ok,
)
