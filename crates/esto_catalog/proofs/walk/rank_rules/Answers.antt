use Rattle.std.proofs.Common.{inl, length, refl, subst}
use Rattle.esto_constraint.specs.Graphs.{AreRanks, IsAcyclic}
use Rattle.esto_constraint.specs.Relations.{IsEdge}
use Rattle.esto_constraint.specs.Constraints.{rules_of}
use Rattle.esto_catalog.proofs.RowLemmas.{judges_goes, judges_stops, memory_stops, row_exit}
use Rattle.esto_catalog.specs.Reading.{is_ranked}
use Rattle.esto_catalog.proofs.WalkLemmas.{cycle_as, ranks_as, rules_within}
use Rattle.esto_catalog.proofs.walk.rank_rules.Goals as goal

pub judge-requires : goal.judge-requires
judge-requires c = rules_within c.args.scope.now.schema c.args.rules c.requires.rules

pub returns-in-Left-clause-course : goal.returns-in-Left-clause-course
returns-in-Left-clause-course c = λ version own are counted.
    let exact : AreRanks (IsEdge (rules_of c.args.rules)) (length c.args.scope.now.schema) c.in-Left.ranks = rw c.in-Left.is at c.in_ok-ranks.ensures.ranks in
    let acyclic : IsAcyclic (IsEdge (rules_of c.args.rules)) = rw c.in-Left.is at c.in_ok-ranks.ensures.acyclic in
    judges_goes _ _ _ (record {
      rules = are;
      given_are = counted;
      acyclic = subst (λ r. IsAcyclic (IsEdge r)) are.all acyclic;
      ranks = ranks_as _ _ _ _ c.in-Left.ranks are.all c.requires.scope.schema exact;
    })

pub returns-in-Right-clause-course : goal.returns-in-Right-clause-course
returns-in-Right-clause-course c = λ version own are counted.
    let found = rw c.in-Right.is at c.in_ok-ranks.ensures.cycle in
    judges_stops _ _ _ _ (λ other same. (
      c.in-Right.cycle,
      cycle_as c.args.scope.now.datasets _ _ c.args.scope.now.schema c.in-Right.cycle are.all c.requires.scope.schema found,
      same,
    )) (inl refl)

pub returns-in_err-ranks-clause-course : goal.returns-in_err-ranks-clause-course
returns-in_err-ranks-clause-course c = λ version own are counted.
    row_exit (is_ranked version c.args.scope.now.datasets own) _ _ c.from_residual.ensures.1 (memory_stops _ _ refl)
