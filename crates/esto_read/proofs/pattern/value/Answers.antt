use Rattle.std.proofs.lemmas.Result.{err_from_is_err_and}
use Rattle.esto_read.proofs.PatternLemmas.{value_puts}
use Rattle.esto_read.proofs.pattern.value.Goals as goal

pub path-requires : goal.path-requires
path-requires c = record { utf8 = c.requires.utf8; stand = c.requires.path }

pub term-requires : goal.term-requires
term-requires c = record { utf8 = c.requires.utf8; stands = c.requires.term }

pub returns-in_err-path : goal.returns-in_err-path
returns-in_err-path c = let p = err_from_is_err_and c.from_residual.result c.from_residual.ensures.1 in rw p.1 tt

pub returns-in_err-term : goal.returns-in_err-term
returns-in_err-term c = let p = err_from_is_err_and c.from_residual-in_err-term.result c.from_residual-in_err-term.ensures.1 in rw p.1 tt

pub returns : goal.returns
returns c =
    value_puts c.args.bytes.now c.args.names.now c.term.new.names c.args.steps.now c.in_ok-path.path c.in_ok-path.ensures c.args.token
    c.in_ok-term.field-0 c.in_ok-term.ensures
