use Rattle.std.proofs.Common.{map, refl, sym, ◌∙◌}
use Rattle.std.proofs.lemmas.List.{get_or_default}
use Rattle.esto_cert.specs.Lines.{number_of, numbers_of}
use Rattle.esto_cert.specs.Reading.{within, list_within}
use Rattle.esto_cert.proofs.ReadLemmas.{walk_turn, walk_wanting, walk_end, within_more}
use Rattle.esto_cert.proofs.reading.numbers_of.Goals as goal

pub returns-in_default : goal.returns-in_default
returns-in_default c = walk_wanting c.args.parts.now (λ parts. list_within (numbers_of (map (λ part. part.now) parts))) (λ part. within (number_of part.now))
    refl (λ part rest. within_more (number_of part.now) (numbers_of (map (λ part. part.now) rest))) c.parts.part-index _ c.parts.numbers c.parts-test.true
    (get_or_default c.args.parts.now c.parts.part-index _ _ c.parts-test.true) (sym c.exact_of.ensures ∙ c.in_default.is) c.parts.invariant

pub parts-preserved : goal.parts-preserved
parts-preserved c = walk_turn c.args.parts.now (λ parts. list_within (numbers_of (map (λ part. part.now) parts))) (λ part. within (number_of part.now)) refl
    (λ part rest. within_more (number_of part.now) (numbers_of (map (λ part. part.now) rest))) c.parts.part-index _ c.in-Some.number c.parts.numbers
    c.push.new.self c.parts-test.true (get_or_default c.args.parts.now c.parts.part-index _ _ c.parts-test.true) (sym c.exact_of.ensures ∙ c.in-Some.is)
    c.in_ok-push.ensures.ok c.parts.invariant

pub returns : goal.returns
returns c = walk_end c.args.parts.now (λ parts. list_within (numbers_of (map (λ part. part.now) parts))) (λ part. within (number_of part.now)) refl
    (λ part rest. within_more (number_of part.now) (numbers_of (map (λ part. part.now) rest))) c.parts.part-index c.parts.numbers
    c.parts-test.false c.parts.invariant
