use Rattle.esto_text.proofs.Covering.{covers_unique}
use Rattle.esto_text.proofs.tokens.tokens_are_determined.Goals as goal

pub returns : goal.returns
returns c bytes tokens h others g = covers_unique 0 bytes tokens others h.1 g.1
