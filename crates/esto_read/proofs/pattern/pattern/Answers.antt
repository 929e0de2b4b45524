use Rattle.std.proofs.Common.{ap, ◌∙◌, length}
use Rattle.std.proofs.lemmas.Result.{IfOk-weaker}
use Rattle.esto_docmodel.specs.Encodings.{atoms_of}
use Rattle.esto_docmodel.specs.Shapes.{entries_of as pattern_of}
use Rattle.esto_read.proofs.pattern.pattern.Goals as goal

pub returns : goal.returns
returns c =
    IfOk-weaker c.pattern_atoms.result _ _ (λ atoms both. (
      pattern_of c.in_ok-entries.field-0,
      c.entries.new.names,
      rw c.in_ok-push.ensures.ok at c.in_ok-entries.ensures,
      both.0 ∙ ap (λ root. atoms_of c.args.base (pattern_of c.in_ok-entries.field-0) root (length c.entries.new.names)) c.len-root.ensures,
      both.1,
    )) c.pattern_atoms.ensures
