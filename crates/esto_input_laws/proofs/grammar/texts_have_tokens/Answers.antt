use Rattle.esto_input_laws.proofs.TokenLemmas.{have_tokens}
use Rattle.esto_input_laws.proofs.grammar.texts_have_tokens.Goals as goal

pub returns : goal.returns
returns c = λ bytes. have_tokens bytes
