use Rattle.std.proofs.Common.{◌+◌, Some, refl}
use Rattle.esto_text.specs.declared.token.TokenKind.TheVariants.{Name, Number}
use Rattle.esto_text.proofs.LexemeLemmas.{name_is, number_is, lexes_same}
use Rattle.esto_text.proofs.lexeme.lexeme_at.Goals as goal

pub returns-then-is_in : goal.returns-then-is_in
returns-then-is_in c =
    let run = c.run_len.ensures in
    lexes_same c.args.bytes.now c.in-Some.rest.now (Some (Name, c.run_len.result + 1)) c.in-Some.first.now c.in-Some.ensures.cases.0
    (name_is c.in-Some.first.now c.in-Some.rest.now _ run.in_range (c.if-is_in.ensures.0 refl) run.each run.stops)

pub returns-then-is_in-2 : goal.returns-then-is_in-2
returns-then-is_in-2 c =
    let run = c.run_len-then-is_in-2.ensures in
    lexes_same c.args.bytes.now c.in-Some.rest.now (Some (Number, c.run_len-then-is_in-2.result + 1)) c.in-Some.first.now c.in-Some.ensures.cases.0
    (number_is c.in-Some.first.now c.in-Some.rest.now _ run.in_range (c.if-is_in-2.ensures.0 refl) run.each run.stops)
