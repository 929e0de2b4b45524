use Rattle.esto_read.proofs.layout.read_layout.Goals as goal

pub said_layout-requires-clause-text : goal.said_layout-requires-clause-text
said_layout-requires-clause-text c = rw c.items.ensures c.in_ok-group.ensures.tree

pub said_layout-requires-clause-stand : goal.said_layout-requires-clause-stand
said_layout-requires-clause-stand c = rw c.items.ensures c.in_ok-group.ensures.tokens
