use Rattle.esto_data.proofs.CodedAuditLemmas.{FragmentsSoFar}
use Rattle.esto_data.proofs.coded_audit.first_unlike.Given as goal

abbrev pub invariant-fragments : goal.invariant-fragments
invariant-fragments l = FragmentsSoFar l.initial.coded l.coded l.rows l.fragments l.number
