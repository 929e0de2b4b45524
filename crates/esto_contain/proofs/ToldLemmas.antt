-- What is told of containment, at the end of a run or at its clash.
use Rattle.std.proofs.Common.{◌≡◌, ◌↔◌, inl, List, refl, subst}
use Rattle.esto_term.specs.declared.term.Term.{Term}
use Rattle.esto_semantics.specs.Containment.{IsContained, IsSatisfiable}
use Rattle.esto_semantics.specs.ContainmentLaws.{InstanceShows, QueriesAreDecided}
use Rattle.esto_semantics.specs.Instances.{MapsTo}
use Rattle.esto_semantics.specs.Queries.{ConjunctiveQuery, IsAnswer, IsQuery}
use Rattle.esto_semantics.specs.Rules.{Rule, AreRules}
use Rattle.esto_semantics.specs.declared.fact.Fact.{Fact}
use Rattle.esto_chase_laws.specs.ReceivedLaws.{FinishedRunsDecide, StatesAreUniversalForQueries}
use Rattle.esto_chase_laws.specs.RunLaws.{EndIsOne}
use Rattle.esto_chase_laws.specs.Runs.{IsRun, start_of}
use Rattle.esto_chase.specs.Chased.{IsFinishedRun}
use Rattle.esto_instance.specs.Instances.{state_of, steps_of, trace_of}
use Rattle.esto_instance.specs.declared.instance.Instance.{Instance}
use Rattle.esto_semantics.specs.Cores.{with_head}
use Rattle.esto_contain.specs.Contained.{IfNo, IsCounterexample, TellsContained}
use Rattle.esto_contain.specs.ContainedLaws.{NoIsShown, ToldIsOne}
use Rattle.esto_contain.specs.Ends.{FinishesAt}
use Rattle.esto_contain.specs.declared.containing.Contain.{Contain}
use Rattle.esto_contain.specs.declared.containing.Contain.TheVariants.{Yes, No}

-- a finished run of a start is one of the query whose start it is
pub finished_from : (rules : List Rule) (query start : ConjunctiveQuery) (instance : Instance) → start ≡ start_of query
    → IsFinishedRun rules start instance → FinishesAt rules (start_of query) (state_of instance)
finished_from rules query start instance same run = record {
  trace = steps_of (trace_of instance);
  run = subst (λ it. IsRun rules it (steps_of (trace_of instance)) (state_of instance)) same run.run;
  finished = run.finished;
}

module _ (decide : FinishedRunsDecide) (rules : List Rule) (left right end : ConjunctiveQuery) (are_rules : AreRules rules) (is_query : IsQuery left)
    (finishes : FinishesAt rules (start_of left) end) where
  decided : IsContained rules (IsAnswer left) (IsAnswer right) ↔ MapsTo right end
  decided = decide rules left right are_rules is_query finishes.trace end finishes.run finishes.finished

  pub yes_at : MapsTo right end → TellsContained rules left right Yes
  yes_at maps = decided.1 maps

  pub no_at : ¬ (MapsTo right end) → (facts : List (Fact Term)) (row : List Term) → end ≡ with_head row facts → TellsContained rules left right (No facts row)
  no_at apart facts row same = ((λ contained. apart (decided.0 contained)), subst (FinishesAt rules (start_of left)) same finishes)

-- a query that is not satisfiable is contained in every other
pub unsatisfiable_contained : (rules : List Rule) (left right : ConjunctiveQuery) → ¬ (IsSatisfiable rules left)
    → IsContained rules (IsAnswer left) (IsAnswer right)
unsatisfiable_contained rules left right none database meets row answer = absurd (none (database, meets, (row, answer)))

pub told_is_one : EndIsOne → ToldIsOne
told_is_one ends rules left right Yes Yes are_rules told other = refl
told_is_one ends rules left right Yes (No facts row) are_rules told other = absurd (other.0 told)
told_is_one ends rules left right (No facts row) Yes are_rules told other = absurd (told.0 other)
told_is_one ends rules left right (No facts row) (No others other_row) are_rules told other =
    let same : with_head row facts ≡ with_head other_row others =
    ends rules (start_of left) are_rules told.1.trace other.1.trace (with_head row facts) (with_head other_row others) told.1.run other.1.run
    (inl told.1.finished) (inl other.1.finished) in
    λ i. No (same i).body (same i).head

pub no_is_shown : StatesAreUniversalForQueries → QueriesAreDecided → InstanceShows → NoIsShown
no_is_shown universal_states decide show rules left right facts row are_rules is_query (apart, finishes) =
    let universal = universal_states rules left are_rules is_query finishes.trace (with_head row facts) finishes.run in
    let shown = show rules left (with_head row facts) are_rules universal finishes.finished in
    record {
      value = shown.0;
      values = shown.1.values;
      meets = shown.1.meets;
      answer = shown.1.row;
      no_answer = λ answer. apart
          ((decide rules left (with_head row facts) right are_rules universal finishes.finished).1 (shown.1.only right answer));
    }

pub shown_where_no : NoIsShown → (rules : List Rule) (left right : ConjunctiveQuery) (told : Contain) → AreRules rules → IsQuery left
    → TellsContained rules left right told → IfNo (IsCounterexample rules left right) told
shown_where_no shown rules left right Yes are_rules is_query tells = tt
shown_where_no shown rules left right (No facts row) are_rules is_query tells = shown rules left right facts row are_rules is_query tells
