use Rattle.esto_text.proofs.LexemeLemmas.{quoted_is}
use Rattle.esto_text.proofs.lexeme.quoted.Goals as goal

pub returns-in-Some : goal.returns-in-Some
returns-in-Some c = quoted_is _ _ c.in-Some.ensures
