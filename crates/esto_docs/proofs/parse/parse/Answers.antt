use Rattle.esto_docs.proofs.JsonLemmas.{json_some, json_none}
use Rattle.esto_docs.proofs.parse.parse.Goals as goal

pub returns-in-Ok : goal.returns-in-Ok
returns-in-Ok c = json_some _ _ c.in-Ok.ensures.ok.0 c.in-Ok.ensures.ok.1

pub returns-else-is_memory : goal.returns-else-is_memory
returns-else-is_memory c = json_none _ (c.in-Err.ensures.err (λ memory. let e = rw c.if-is_memory.false at (c.is_memory.ensures.1 memory) in cc e))
