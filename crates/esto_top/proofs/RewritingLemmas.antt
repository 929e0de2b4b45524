-- Whether a set of a plan's atoms is a rewriting is decided: the candidate's expansion is chased to an end.
use Rattle.std.proofs.Common.{◌≡◌, ◌↔◌, inl, inr, ℕ, ◌<◌, Bool, List, [], ◌∷◌, length, Some, slice_get, Contains, sym, ap, ◌∙◌, subst}
use Rattle.esto_term.specs.declared.term.Term.{Term}
use Rattle.esto_term.proofs.ChoiceLemmas.{Decided, decided_as, decided_below, kept, decided_each}
use Rattle.esto_term.proofs.DistinctLemmas.{decided_contains}
use Rattle.esto_term.proofs.ListLemmas.{Contains-nil, Contains-head, Contains-at, Contains-map, Contains-map_from, thing_at}
use Rattle.esto_semantics.specs.Access.{Patterns, IsExecutable, IsAccessiblePart}
use Rattle.esto_semantics.specs.AccessLaws.{PartExists, PartIsOne, ExecutableIsOwnPart}
use Rattle.esto_semantics.specs.Containment.{IsContained}
use Rattle.esto_semantics.specs.ExpansionLaws.{ExpansionAnswers, ExpansionExists, ExpansionIsContained, ExpansionIsContainedInUnion}
use Rattle.esto_semantics.specs.Expansions.{IsExpansion, FitsViews, expanded}
use Rattle.esto_semantics.specs.Facts.{Database, Mentions}
use Rattle.esto_semantics.specs.Instances.{IsFinished, IsUniversalFor, MapsTo}
use Rattle.esto_semantics.specs.Listed.{chosen, candidate, HasCandidate, IsSafe, IsRewriting, AreListed}
use Rattle.esto_semantics.specs.Maps.{AreFlat, IsFixedBy, IsFlat}
use Rattle.esto_semantics.specs.PlanLaws.{ContainedCandidateIsEquivalent}
use Rattle.esto_semantics.specs.Plans.{IsUniversalPlan}
use Rattle.esto_semantics.specs.Queries.{ConjunctiveQuery, IsQuery, IsAnswer}
use Rattle.esto_semantics.specs.Rewritings.{IsPlanFor}
use Rattle.esto_semantics.specs.Rules.{Rule, AreRules}
use Rattle.esto_term.specs.SetLaws.{AllSetsAreListed, MinimalExist}
use Rattle.esto_term.specs.Sets.{Has, AreListedBy, HaveCount, HaveOneCount, all_sets}
use Rattle.esto_semantics.specs.Unions.{IsUnionAnswer}
use Rattle.esto_semantics.specs.Views.{IsFragmentAnswer}
use Rattle.esto_semantics.specs.declared.fact.Fact.{Fact}
use Rattle.esto_semantics.specs.declared.fact.Value.{Value}
use Rattle.esto_semantics.specs.UnionSets.{AreUnionListed, IsUnionRewriting}
use Rattle.esto_semantics.proofs.CandidateLemmas.{chosen-among}
use Rattle.esto_semantics.proofs.FactLemmas.{Mentions-among}
use Rattle.esto_term.proofs.SetLemmas.{decided_has, Has-within}
use Rattle.esto_semantics.proofs.TermLemmas.{Const-apart-Plain, decided_term}
use Rattle.esto_chase_laws.specs.ReceivedLaws.{StatesAreUniversal, ClashesReceiveNothing}
use Rattle.esto_chase_laws.specs.RunLaws.{StartsHaveTheBody}
use Rattle.esto_chase_laws.specs.Runs.{Step, IsEnd, IsRun, IsStart, start_of}
use Rattle.esto_top.proofs.AnswerLemmas.{maps_decided}
use Rattle.esto_term.proofs.DecisionLemmas.{same_bool, same_list}
use Rattle.esto_input_laws.proofs.RuleLemmas.{fixed}

-- ---- what is decided

pub some_decided : (set : List Bool) → Decided ((number : ℕ) × Has set number)
some_decided set = decided_as ((λ (number, below, has). (number, has)), (λ (number, has). (number, Has-within set number has, has)))
    (decided_below (Has set) (length set) (λ number below. decided_has set number))

executable_decided : PartExists → PartIsOne → ExecutableIsOwnPart → (patterns : Patterns) (atoms : List (Fact Term)) (set : List Bool)
    → Decided (IsExecutable patterns atoms set)
executable_decided exists one own patterns atoms set =
    let (part, is_part) = exists patterns atoms set in
    elim (same_list same_bool part set) [
      | inl same ↦ inl ((own patterns atoms set).1 (subst (IsAccessiblePart patterns atoms set) same is_part))
      | inr apart ↦ inr (λ executable. apart (one patterns atoms set part set is_part ((own patterns atoms set).0 executable)))
    ]

-- ---- expansions

module _ (views : List ConjunctiveQuery) (query : ConjunctiveQuery) (expansion : List (Fact Term)) (of : IsExpansion views query expansion) where
  -- facts that are the same as a set are an expansion too
  expansion_moved : (others : List (Fact Term)) → ((fact : Fact Term) → Contains others fact ↔ Contains expansion fact) → IsExpansion views query others
  expansion_moved others same = record {
    view = of.view;
    spread = of.spread;
    has_view = of.has_view;
    keeps = of.keeps;
    head = of.head;
    variable = of.variable;
    outside = of.outside;
    apart = of.apart;
    facts = λ fact. ((λ inside. (of.facts fact).0 ((same fact).0 inside)), (λ found. (same fact).1 ((of.facts fact).1 found)));
  }

  module _ (are : (number : ℕ) (view : ConjunctiveQuery) → slice_get views number ≡ Some view → IsQuery view) (flat : AreFlat query.body) where
    spread-flat : (number : ℕ) (atom : Fact Term) → number < length query.body → slice_get query.body number ≡ Some atom
        → (term : Term) → Mentions (of.view number).body term → IsFlat (of.spread number term)
    spread-flat number atom below at term mentioned =
        by ((are atom.relation (of.view number) (of.has_view number atom at)).flat_body term mentioned)
        (decided_contains decided_term (of.view number).head term)
      where
        by : IsFlat term → Decided (Contains (of.view number).head term) → IsFlat (of.spread number term)
        by (inl (text, is)) _ = inl (text, ap (of.spread number) is ∙ of.keeps number text)
        by (inr variable) (inl in_head) =
            flat (of.spread number term) (
              atom,
              Contains-at query.body number atom at,
              subst (λ terms. Contains terms (of.spread number term)) (of.head number atom at)
                  (Contains-map (of.spread number) (of.view number).head term in_head),
            )
        by (inr (plain, is)) (inr outside) = inr (of.variable number term below (record {
          in_body = mentioned;
          no_constant = λ (text, constant). Const-apart-Plain text plain (sym constant ∙ is);
          not_in_head = outside;
        }))

    expansion-flat : AreFlat expansion
    expansion-flat term (fact, there, inside) =
        let (number, below, (part, in_view, is)) = (of.facts fact).0 there in
        let source = Contains-map_from (of.spread number) part.terms term (subst (λ (it : Fact Term). Contains it.terms term) (sym is) inside) in
        let at = thing_at query.body number below in
        subst IsFlat source.2 (spread-flat number at.0 below at.1 source.0 (part, in_view, source.1))

-- whether some thing of a list has a property that is decided at each of them
pub decided_among : {X : Type 0} (P : X → Type 0) (xs : List X) → ((x : X) → Contains xs x → Decided (P x)) → Decided ((x : X) × Contains xs x × P x)
decided_among P xs decide = by (kept P xs decide)
  where
    by : ((ys : List _) × ((z : _) → Contains ys z ↔ (Contains xs z × P z))) → Decided ((x : _) × Contains xs x × P x)
    by ([], exact) = inr (λ (x, inside, has). Contains-nil x ((exact x).1 (inside, has)))
    by (first ∷ rest, exact) = let has = (exact first).0 (Contains-head first rest) in inl (first, has.0, has.1)

-- ---- a query over fragments is contained in a query, or not

-- each run from a start comes to an end
abbrev pub RunsEnd : List Rule → Type 0
RunsEnd rules = (start : ConjunctiveQuery) → IsStart start → (trace : List Step) × (end : ConjunctiveQuery) × IsRun rules start trace end × IsEnd rules end

-- what is known of a chase under the rules
pub record Chases (rules : List Rule) : Type 0 where
  pub are_rules : AreRules rules
  pub ends : RunsEnd rules
  pub universal : StatesAreUniversal
  pub nothing : ClashesReceiveNothing
  pub begin : StartsHaveTheBody

-- whether a query over fragments is contained in the target is decided where its expansion's chase has finished
abbrev pub IsTarget : List Rule → List ConjunctiveQuery → (Database → List Value → Type 0) → Type 0
IsTarget rules views Target =
    (other : ConjunctiveQuery) (expansion : List (Fact Term)) (end : ConjunctiveQuery) → IsExpansion views other expansion
    → IsUniversalFor rules (expanded other expansion) end → IsFinished rules end → Decided (IsContained rules (IsFragmentAnswer views other) Target)

module _ (rules : List Rule) (chases : Chases rules) (answers : ExpansionAnswers) (expand : ExpansionExists)
    (views : List ConjunctiveQuery) (are : (number : ℕ) (view : ConjunctiveQuery) → slice_get views number ≡ Some view → IsQuery view) where
  pub contained_decided : (Target : Database → List Value → Type 0) → IsTarget rules views Target → (other : ConjunctiveQuery) → AreFlat other.body
      → ((term : Term) → Contains other.head term → IsFlat term) → FitsViews views other → Decided (IsContained rules (IsFragmentAnswer views other) Target)
  contained_decided Target target other flat flat_head fits = by (expand views other fits)
    where
      Answer : Type 0
      Answer = Decided (IsContained rules (IsFragmentAnswer views other) Target)

      by : ((expansion : List (Fact Term)) × IsExpansion views other expansion) → Answer
      by (expansion, of) = at_end (chases.ends start is_start)
        where
          start : ConjunctiveQuery
          start = start_of (expanded other expansion)

          same : (fact : Fact Term) → Contains start.body fact ↔ Contains expansion fact
          same fact = chases.begin (expanded other expansion) fact

          is_start : IsStart start
          is_start = record {
            flat_body = λ term mentioned. expansion-flat views other expansion of are flat term
                (Mentions-among start.body expansion term (λ fact inside. (same fact).0 inside) mentioned);
            flat_head = flat_head;
          }

          of_start : IsExpansion views other start.body
          of_start = expansion_moved views other expansion of start.body same

          at_end : ((trace : List Step) × (end : ConjunctiveQuery) × IsRun rules start trace end × IsEnd rules end) → Answer
          at_end (trace, end, run, inl finished) =
              target other start.body end of_start (chases.universal rules start chases.are_rules is_start trace end run) finished
          at_end (trace, end, run, inr (clash, clashed)) = inl (λ database meets row answer.
              let (m, keeps, sends, _) = (answers views other start.body of_start database row).0 answer in
              absurd (chases.nothing rules start chases.are_rules is_start trace end run clash clashed database meets m keeps sends))

-- one query
pub one_target : ExpansionIsContained → (rules : List Rule) (views : List ConjunctiveQuery) (query : ConjunctiveQuery) → AreRules rules → IsQuery query
    → IsTarget rules views (IsAnswer query)
one_target contained rules views query are_rules is other expansion end of universal finished =
    let told = contained rules views other expansion end query are_rules of universal finished in
    decided_as (told.1, told.0) (maps_decided query end is.flat_body is.flat_head)

-- a union of queries
pub union_target : ExpansionIsContainedInUnion → (rules : List Rule) (views queries : List ConjunctiveQuery) → AreRules rules
    → ((query : ConjunctiveQuery) → Contains queries query → IsQuery query) → IsTarget rules views (IsUnionAnswer queries)
union_target contained rules views queries are_rules each other expansion end of universal finished =
    let told = contained rules views other expansion end queries are_rules of universal finished in
    decided_as (told.1, told.0) (decided_among (λ query. MapsTo query end) queries
    (λ query inside. maps_decided query end (each query inside).flat_body (each query inside).flat_head))

-- ---- the minimal sets that a decided property holds of

pub minimal_listed : AllSetsAreListed → MinimalExist → (count : ℕ) (P : List Bool → Type 0) → HaveCount count P
    → ((set : List Bool) → length set ≡ count → Decided (P set)) → (sets : List (List Bool)) × AreListedBy P sets
minimal_listed all_sets_are exist count P counted decide =
    let all = (all_sets_are count).0 in
    let (family, exact) = kept P (all_sets count) (λ set inside. decide set ((all set).0 inside)) in
    let same : (set : List Bool) → Contains family set ↔ P set = λ set. (
      (λ inside. ((exact set).0 inside).1),
      (λ has. (exact set).1 ((all set).1 (counted set has), has)),
    ) in
    let one : HaveOneCount family = λ set other inside there. counted set ((same set).0 inside) ∙ sym (counted other ((same other).0 there)) in
    let (minimal, are, ordered) = exist family one in (
      minimal,
      record {
        exact = λ set. (
          (λ inside.
              let least = (are.exact set).0 inside in
              ((same set).0 least.0, (λ other has within. least.1 other ((same other).1 has) within))),
          (λ least. (are.exact set).1 ((same set).1 least.0, (λ other inside within. least.1 other ((same other).0 inside) within))),
        );
        ordered = ordered;
      },
    )

-- ---- rewritings

-- what is known of a plan, and of executable sets of its atoms
pub record IsPlanKnown (views : List ConjunctiveQuery) (plan : ConjunctiveQuery) : Type 0 where
  pub flat_body : AreFlat plan.body
  pub flat_head : (term : Term) → Contains plan.head term → IsFlat term
  pub fits : FitsViews views plan

module _ (rules : List Rule) (chases : Chases rules) (answers : ExpansionAnswers) (expand : ExpansionExists)
    (views : List ConjunctiveQuery) (are : (number : ℕ) (view : ConjunctiveQuery) → slice_get views number ≡ Some view → IsQuery view)
    (part_exists : PartExists) (part_is_one : PartIsOne) (own_part : ExecutableIsOwnPart) (patterns : Patterns) (plan : ConjunctiveQuery)
    (known : IsPlanKnown views plan) where
  -- the set has a candidate, which is contained in the target, and is safe and executable
  abbrev IsPart : (Database → List Value → Type 0) → List Bool → Type 0
  IsPart Target set =
      HasCandidate plan set × IsSafe plan set × IsExecutable patterns plan.body set × IsContained rules (IsFragmentAnswer views (candidate plan set)) Target

  part_decided : (Target : Database → List Value → Type 0) → IsTarget rules views Target → (set : List Bool) → length set ≡ length plan.body
      → Decided (IsPart Target set)
  part_decided Target target set over = elim (some_decided set) [
    | inr none ↦ inr (λ part. none part.0.some)
    | inl some ↦ elim (decided_each (IsFixedBy (chosen set plan.body)) (fixed (chosen set plan.body)) plan.head) [
      | inr unsafe ↦ inr (λ part. unsafe part.1)
      | inl safe ↦ elim (executable_decided part_exists part_is_one own_part patterns plan.body set) [
        | inr not ↦ inr (λ part. not part.2)
        | inl executable ↦ elim (contained_decided rules chases answers expand views are Target target (candidate plan set)
            (λ term inside. known.flat_body term (Mentions-among (chosen set plan.body) plan.body term (chosen-among plan set) inside)) known.flat_head
            (λ atom inside. known.fits atom (chosen-among plan set atom inside))) [
              | inl within ↦ inl (record { over = over; some = some }, safe, executable, within)
              | inr apart ↦ inr (λ part. apart part.3)
            ]
      ]
    ]
  ]

  pub listed_sets_exist : AllSetsAreListed → MinimalExist → ExpansionIsContained → ContainedCandidateIsEquivalent → (query : ConjunctiveQuery) → IsQuery query
      → IsPlanFor query plan → IsUniversalPlan rules views query plan → (sets : List (List Bool)) × AreListed rules views patterns query plan sets
  listed_sets_exist all_sets_are exist contained equivalent query is form universal =
      minimal_listed all_sets_are exist (length plan.body) (IsRewriting rules views patterns query plan) (λ set rewriting. rewriting.has_candidate.over)
      (λ set over. decided_as (
        (λ (has, safe, executable, within). record {
          has_candidate = has;
          safe = safe;
          executable = executable;
          equivalent = (equivalent rules views query plan set form universal has safe).1 within;
        }),
        (λ rewriting. (rewriting.has_candidate, rewriting.safe, rewriting.executable, rewriting.equivalent.0)),
      ) (part_decided (IsAnswer query) (one_target contained rules views query chases.are_rules is) set over))

  pub union_sets_exist : AllSetsAreListed → MinimalExist → ExpansionIsContainedInUnion → (queries : List ConjunctiveQuery)
      → ((query : ConjunctiveQuery) → Contains queries query → IsQuery query)
      → (sets : List (List Bool)) × AreUnionListed rules views patterns queries plan sets
  union_sets_exist all_sets_are exist contained queries each =
      minimal_listed all_sets_are exist (length plan.body) (IsUnionRewriting rules views patterns queries plan) (λ set rewriting. rewriting.has_candidate.over)
      (λ set over. decided_as (
        (λ (has, safe, executable, within). record { has_candidate = has; safe = safe; executable = executable; contained = within }),
        (λ rewriting. (rewriting.has_candidate, rewriting.safe, rewriting.executable, rewriting.contained)),
      ) (part_decided (IsUnionAnswer queries) (union_target contained rules views queries chases.are_rules each) set over))
