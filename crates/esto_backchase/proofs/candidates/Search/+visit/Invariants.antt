use Rattle.std.proofs.Common.{◌≡◌, length, ◌+◌, ◌*◌}
use Rattle.esto_backchase.specs.Candidates.{Answers}
use Rattle.esto_backchase.specs.Searching.{AreFailing, Visited}
use Rattle.esto_backchase.proofs.VisitLemmas.{AreEarlier, HasOneBelow, lacks}
use Rattle.esto_backchase.proofs.candidates.Search.+visit.Given as goal

abbrev pub decreases-visit : goal.decreases-visit
decreases-visit l = 4 * lacks l.set.now + 3

abbrev pub decreases-visit_outside : goal.decreases-visit_outside
decreases-visit_outside l = 4 * lacks l.set.now + 2

abbrev pub decreases-visit_by : goal.decreases-visit_by
decreases-visit_by l = 4 * lacks l.set.now + 1

abbrev pub decreases-visit_more : goal.decreases-visit_more
decreases-visit_more l = 4 * lacks l.set.now

-- the sets that have one of the numbers so far are tried, and these numbers are left out then
abbrev pub invariant-visit_by-numbers : goal.invariant-visit_by-numbers
invariant-visit_by-numbers l = record {
  earlier_count : length l.earlier ≡ length l.self.plan.now.atoms;
  earlier : AreEarlier l.set l.left_out l.numbers l.number-index l.earlier;
  same_count : l.found.count ≡ l.fn.found.count;
  failing : AreFailing (length l.self.plan.now.atoms) (Answers l.self.catalogue.now l.self.query.now l.self.plan.now) l.failing;
  visited : Visited (Answers l.self.catalogue.now l.self.query.now l.self.plan.now)
      (HasOneBelow l.set l.left_out l.numbers l.number-index) l.fn.found.sets l.found.sets;
}
