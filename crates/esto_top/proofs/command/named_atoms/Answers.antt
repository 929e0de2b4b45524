use Rattle.std.proofs.Common.{map, ap, ◌∙◌}
use Rattle.esto_top.proofs.AtomLemmas.{atoms_go, atoms_stop}
use Rattle.esto_top.proofs.command.named_atoms.Goals as goal

pub returns-in-Some : goal.returns-in-Some
returns-in-Some c =
    atoms_go c.bytes.result.now c.args.word.now _ c.in_ok-numbers.field-0 c.bytes.ensures.value
    (ap (λ it. map (λ part. part.now) it) c.as_slice.ensures.value ∙ c.in-Ok.ensures) c.in_ok-numbers.ensures c.in-Some.numbers c.in-Some.is

pub returns : goal.returns
returns c =
    atoms_stop c.bytes.result.now c.args.word.now _ c.in_ok-numbers.field-0 c.bytes.ensures.value
    (ap (λ it. map (λ part. part.now) it) c.as_slice.ensures.value ∙ c.in-Ok.ensures) c.in_ok-numbers.ensures c.in-None.is
