use Rattle.std.proofs.Common.{◌≡◌, ◌≤◌, length}
use Rattle.esto_constraint.specs.Constraints.{rules_of}
use Rattle.esto_cert.specs.Certificates.{Case}
use Rattle.esto_derive.specs.Writing.{IsBasis, IsState}
use Rattle.esto_derive.proofs.writing.Writer.write_used.Given as goal

abbrev pub invariant-entries : goal.invariant-entries
invariant-entries l = record {
  placed : length l.lines ≡ l.entry-index;
  few : l.written.count ≤ l.entry-index;
  writes : (case : Case) → case.rules ≡ rules_of l.self.rules.now → IsBasis case l.self.entries.now l.self.used.now
      → IsState case l.self.entries.now l.self.used.now l.lines l.written;
}
