use Rattle.std.proofs.lemmas.List.Elements.{All-from_recursion}
use Rattle.esto_text.specs.Faults.{IsTermIn}
use Rattle.esto_read.proofs.TermLemmas.{terms_more}
use Rattle.esto_read.proofs.term.terms.Goals as goal

pub term-requires-clause-utf8 : goal.term-requires-clause-utf8
term-requires-clause-utf8 c = c.requires.utf8

pub term-requires-clause-stands : goal.term-requires-clause-stands
term-requires-clause-stands c =
    All-from_recursion (IsTermIn c.args.bytes.now) c.args.tokens.now c.requires.stand c.tokens.token-index _ c.tokens-test.true

pub tokens-preserved : goal.tokens-preserved
tokens-preserved c =
    rw c.in_ok-push.ensures.ok (terms_more c.args.bytes.now c.args.names.now c.tokens.names c.term.new.names c.args.tokens.now c.tokens.token-index
    c.tokens.terms _ c.in_ok-term.field-0 c.tokens-test.true c.tokens.invariant c.in_ok-term.ensures)
