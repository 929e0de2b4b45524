use Rattle.std.proofs.Common.{arith}
use Rattle.std.proofs.lemmas.Grind.{common_steps}
use Rattle.esto_ports.proofs.EntryLemmas.{kept_of}
use Rattle.esto_ports.proofs.memory_sink.find_kept.Goals as goal

pub returns-then-is_eq : goal.returns-then-is_eq
returns-then-is_eq c = kept_of c.args.fails.now c.args.call _ (grind (arith, common_steps))

pub returns : goal.returns
returns c = kept_of c.args.fails.now c.args.call _ (grind (arith, common_steps))
