use Rattle.esto_text.proofs.Covering.{covers_unique}
use Rattle.esto_text.proofs.tokens.read_tokens.Goals as goal

pub returns-clause-only : goal.returns-clause-only
returns-clause-only c others h = covers_unique 0 c.args.bytes.now c.in_ok-tokens.tokens others c.in_ok-tokens.ensures h.1
