use Rattle.std.proofs.Common.{◌≡◌, drop, map}
use Rattle.esto_term.proofs.ListLemmas.{after}
use Rattle.esto_cert.specs.Lines.{numbers_of}
use Rattle.esto_cert.specs.Reading.{list_within}
use Rattle.esto_cert.proofs.reading.numbers_of.Given as goal

abbrev pub invariant-parts : goal.invariant-parts
invariant-parts l = after l.numbers (list_within (numbers_of (map (λ part. part.now) (drop l.part-index l.parts))))
    ≡ list_within (numbers_of (map (λ part. part.now) l.parts))
