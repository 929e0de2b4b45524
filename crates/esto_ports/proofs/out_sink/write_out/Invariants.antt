use Rattle.std.proofs.Common.{length}
use Rattle.esto_ports.proofs.out_sink.write_out.Given as goal

abbrev pub decreases-writing : goal.decreases-writing
decreases-writing g l = length l.rest
