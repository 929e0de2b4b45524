use Rattle.std.proofs.Common.{sym, ◌∙◌}
use Rattle.esto_ports.proofs.EntryLemmas.{looked_up}
use Rattle.esto_ports.proofs.memory_shelf.look_up.Goals as goal

pub returns : goal.returns
returns c = looked_up (λ b. b.now) c.args.files.now c.args.fails.now c.args.call c.args.name.now _
    (sym c.is_listed.ensures ∙ c.if-is_listed.false) c.find_file.ensures
