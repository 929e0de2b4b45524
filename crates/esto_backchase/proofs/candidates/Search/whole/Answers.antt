use Rattle.std.proofs.Common.{sym, ◌∙◌}
use Rattle.std.proofs.lemmas.Bool.{false≢true}
use Rattle.esto_backchase.proofs.candidates.Search.whole.Goals as goal

pub answers-requires-clause-count : goal.answers-requires-clause-count
answers-requires-clause-count c = c.in_ok-more.ensures.same_length ∙ c.requires.count

pub returns-then-branch : goal.returns-then-branch
returns-then-branch c = (c.in_ok-more.more, c.in_ok-more.ensures, c.in_ok-answers.ensures.0 c.if-branch.true)

pub returns : goal.returns
returns c = (c.in_ok-more.ensures, λ passes. false≢true (sym c.if-branch.false ∙ c.in_ok-answers.ensures.1 passes))
