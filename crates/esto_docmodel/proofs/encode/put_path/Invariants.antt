use Rattle.std.proofs.Common.{◌≡◌, ◌+◌, ◌++◌, map, drop, length}
use Rattle.esto_docmodel.specs.DocumentFacts.{flat}
use Rattle.esto_docmodel.specs.Encodings.{end, step_atoms}
use Rattle.esto_docmodel.proofs.encode.put_path.Given as goal

-- the atoms so far, with those of the steps that are left, are all of them, and so with the end and the numbers
abbrev pub invariant-path : goal.invariant-path
invariant-path l =
    (l.body ++ map (flat l.base) (step_atoms (drop l.step-index l.path) l.node l.next) ≡ l.initial.body
    ++ map (flat l.base) (step_atoms l.path l.start l.first))
    × (end (drop l.step-index l.path) l.node l.next ≡ end l.path l.start l.first)
    × (l.next + length (drop l.step-index l.path) ≡ l.first + length l.path)
