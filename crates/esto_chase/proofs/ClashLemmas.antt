-- A query whose run clashes is not satisfiable.
use Rattle.std.proofs.Common.{List}
use Rattle.esto_semantics.specs.Containment.{IsSatisfiable}
use Rattle.esto_semantics.specs.Queries.{ConjunctiveQuery, IsQuery}
use Rattle.esto_semantics.specs.Rules.{Rule, AreRules}
use Rattle.esto_chase_laws.specs.ReceivedLaws.{ClashesReceiveNothing, StartsAreSatisfiableAlike}
use Rattle.esto_chase_laws.specs.RunLaws.{QueriesHaveStarts}
use Rattle.esto_chase_laws.specs.Runs.{start_of}
use Rattle.esto_chase_laws.specs.declared.clash.Clash.{Clash}
use Rattle.esto_chase.specs.Chased.{RunClashes}

module _ (alike : StartsAreSatisfiableAlike) (have_starts : QueriesHaveStarts) (rules : List Rule) (query : ConjunctiveQuery) (are_rules : AreRules rules)
    (is_query : IsQuery query) where
  pub clashed_unsatisfiable : ClashesReceiveNothing → (clash : Clash) → RunClashes rules (start_of query) clash → ¬ (IsSatisfiable rules query)
  clashed_unsatisfiable receive_nothing clash (trace, now, run, clashed) satisfiable = by ((alike rules query).0 satisfiable)
    where
      by : IsSatisfiable rules (start_of query) → ⊥
      by (database, meets, (row, (m, keeps, sends, is))) =
          receive_nothing rules (start_of query) are_rules (have_starts query is_query) trace now run clash clashed database meets m keeps sends
