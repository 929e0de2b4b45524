-- Laws of the length of a run, and of how deep its terms nest.
use Rattle.std.specs.Prelude.{◌<◌, ◌≤◌, ℕ, List, length, Contains}
use Rattle.esto_term.specs.Nesting.{nesting, greatest_u64}
use Rattle.esto_term.specs.declared.term.Term.{Term}
use Rattle.esto_semantics.specs.Queries.{ConjunctiveQuery}
use Rattle.esto_semantics.specs.Rules.{Rule, AreRules}
use Rattle.esto_semantics.specs.declared.fact.Fact.{Fact}
use Rattle.esto_chase_laws.specs.Bounds.{RanksRise, most_steps}
use Rattle.esto_chase_laws.specs.Runs.{Step, IsStart, IsRun}

-- Under ranks that rise and are at most a depth, no run has more steps than the bound for that depth.
abbrev pub RunsEnd : Type 0
RunsEnd =
    (rules : List Rule) (start : ConjunctiveQuery) (rank : ℕ → ℕ) (depth : ℕ) → AreRules rules → IsStart start
    → RanksRise rules rank → ((relation : ℕ) → rank relation ≤ depth) → depth < greatest_u64
    → (trace : List Step) (now : ConjunctiveQuery) → IsRun rules start trace now → length trace ≤ most_steps rules start depth

-- Under ranks that rise, a term in a fact of a run nests no deeper than the rank of the fact's relation.
abbrev pub TermsNestWithinRanks : Type 0
TermsNestWithinRanks =
    (rules : List Rule) (start : ConjunctiveQuery) (rank : ℕ → ℕ) → AreRules rules → IsStart start → RanksRise rules rank
    → (trace : List Step) (now : ConjunctiveQuery) → IsRun rules start trace now
    → (fact : Fact Term) (term : Term) → Contains now.body fact → Contains fact.terms term → nesting term ≤ rank fact.relation
