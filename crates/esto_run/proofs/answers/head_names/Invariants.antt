use Rattle.std.proofs.Common.{◌≡◌, map, take}
use Rattle.esto_term.specs.declared.term.Term.{out-Term}
use Rattle.esto_run.specs.Answers.{level_name}
use Rattle.esto_run.proofs.answers.head_names.Given as goal

abbrev pub invariant-terms : goal.invariant-terms
invariant-terms l = l.names ≡ map (λ term. level_name l.query.names (out-Term term)) (take l.term-index l.term-items)
