use Rattle.std.proofs.Common.{◌≡◌, ◌++◌, map, drop, encode_utf8}
use Rattle.esto_query.specs.declared.query.Name.TheVariants.{Given}
use Rattle.esto_constraint.proofs.encodings.names_of.Given as goal

-- the names so far, with those of the letters that are left, are all of them
abbrev pub invariant-letters : goal.invariant-letters
invariant-letters l =
    l.names ++ map (λ letter. Given (encode_utf8 letter)) (drop l.letter-index l.letters) ≡ map (λ letter. Given (encode_utf8 letter)) l.letters
