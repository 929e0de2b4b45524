use Rattle.std.proofs.Common.{◌≡◌, [], map, get_or, take, Some}
use Rattle.esto_steps.specs.Meaning.{code_at}
use Rattle.esto_steps.proofs.codes.name_codes.Given as goal

abbrev pub invariant-sources : goal.invariant-sources
invariant-sources l = map (code_at (get_or l.rows.rows l.place [])) (take l.source-index l.source-items) ≡ map Some l.codes
