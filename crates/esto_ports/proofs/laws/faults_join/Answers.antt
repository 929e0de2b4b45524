use Rattle.esto_ports.proofs.LineLemmas.{faults_join}
use Rattle.esto_ports.proofs.laws.faults_join.Goals as goal

pub returns : goal.returns
returns c = faults_join
