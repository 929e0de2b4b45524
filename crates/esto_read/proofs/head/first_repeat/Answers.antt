use Rattle.std.proofs.Common.{sym, ◌∙◌}
use Rattle.std.proofs.lemmas.Bool.{false≢true}
use Rattle.esto_text.specs.declared.token.TokenKind.TheVariants.{Name}
use Rattle.esto_read.proofs.HeadLemmas.{repeat_found, none_more, none_at_all}
use Rattle.esto_read.proofs.head.first_repeat.Goals as goal

pub returns-then-has_text : goal.returns-then-has_text
returns-then-has_text c =
    repeat_found c.args.bytes.now c.args.variables.now c.variables.place (record { kind = Name; start = 0; end = 0 }) c.variables-test.true
    c.variables.invariant
    (rw (c.split_at.ensures.front, c.bytes_of.ensures) at c.has_text.ensures.0 c.if-has_text.true)

pub variables-preserved : goal.variables-preserved
variables-preserved c =
    none_more c.args.bytes.now c.args.variables.now c.variables.place (record { kind = Name; start = 0; end = 0 }) c.variables-test.true c.variables.invariant
    (λ h. false≢true (sym c.if-has_text.false ∙ c.has_text.ensures.1 (rw (c.split_at.ensures.front, c.bytes_of.ensures) h)))

pub returns : goal.returns
returns c = none_at_all c.args.bytes.now c.args.variables.now c.variables.place c.variables-test.false c.variables.invariant
