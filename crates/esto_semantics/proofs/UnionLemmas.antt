-- Plans that receive unions, and the rewritings of unions.
use Rattle.std.proofs.Common.{◌↔◌, ◌⊎◌, inl, inr, Bool, List, [], ◌∷◌, length, map, Contains, sym, subst}
use Rattle.esto_term.proofs.ListLemmas.{Contains-nil, Contains-head, Contains-rest, Contains-cases, Contains-one}
use Rattle.esto_semantics.specs.Access.{Patterns, IsExecutableQuery, HoldsExecutably}
use Rattle.esto_semantics.specs.Containment.{IsSatisfiable}
use Rattle.esto_semantics.specs.Instances.{MapsTo}
use Rattle.esto_semantics.specs.Listed.{candidate, IsRewriting, IsListed}
use Rattle.esto_semantics.specs.Plans.{IsUniversalPlan}
use Rattle.esto_semantics.specs.Queries.{ConjunctiveQuery, IsQuery, IsAnswer}
use Rattle.esto_semantics.specs.Rewritings.{IsPlanFor}
use Rattle.esto_semantics.specs.Rules.{Rule}
use Rattle.esto_semantics.specs.Views.{IsFragmentAnswer}
use Rattle.esto_semantics.proofs.AnswerLemmas.{contained-in_mapped}
use Rattle.esto_semantics.proofs.AnsweringLemmas.{greater-MapsTo, greater-HasCandidate, greater-IsSafe, told_by_minimal, told_executably, of_parts}
use Rattle.esto_semantics.proofs.CandidateLemmas.{candidate-IsQuery, candidate-contains, candidate-equivalent, candidate-IsExecutableQuery}
use Rattle.esto_semantics.proofs.CanonicalLemmas.{canonical_value, canonical_database, canonical_database-Meets, answer-from_map}
use Rattle.esto_term.proofs.CoverLemmas.{minimal-cover, listed_by_is_one}
use Rattle.esto_semantics.proofs.PlanLemmas.{plan_is_universal, rows_answer-from_canonical, map-from_rows_answer}
use Rattle.esto_semantics.proofs.RewritingLemmas.{queries_map_onto}
use Rattle.esto_semantics.specs.UnionLaws.{RowsReceiveUnions, ReceiveUnionsAlike, ReceivingIsUniversal, UnionsMapOntoSets, ListedCoverUnions, UnionListIsOne}
use Rattle.esto_semantics.specs.UnionLaws.{UnionRewritingsRise, ChoiceIsExecutable, ChoiceExists, EmptyListExcludes, EmptyListOrChoice}
use Rattle.esto_semantics.specs.UnionLaws.{UnionAnsweringRises, UnionAnsweringIsTold, UnionListedAreExecutable, UnionListedAreOfParts}
use Rattle.esto_semantics.specs.UnionSets.{AnswersUnion, IsUnionRewriting, IsUnionListed, IsOption, HasOption, IsOfOption, IsAnswered, HasEmptyList, HasList}
use Rattle.esto_semantics.proofs.MapsToLemmas.{MapsTo-then}

-- ---- plans that receive unions

pub rows_receive : RowsReceiveUnions
rows_receive rules views query end plan are_rules universal finished is_plan others = (
  (λ contained.
      let meets = canonical_database-Meets end rules are_rules finished in
      let row = map (canonical_value end) end.head in
      let answer = contained (canonical_database end) meets row (answer-from_map end query universal.maps) in
      (answer.0, answer.1, map-from_rows_answer views end plan is_plan answer.0 (rows_answer-from_canonical views end answer.0 answer.2))),
  (λ one database meets row answer.
      (one.0, one.1, (plan_is_universal views end plan is_plan rules query one.0 are_rules universal finished).1 one.2 database meets row answer)),
)

pub receive_alike : ReceiveUnionsAlike
receive_alike rules views query plan other there back receives others = (
  (λ contained. let one = (receives others).0 contained in (one.0, one.1, MapsTo-then one.0 plan other one.2 there)),
  (λ one. (receives others).1 (one.0, one.1, MapsTo-then one.0 other plan one.2 back)),
)

pub receiving_is_universal : ReceivingIsUniversal
receiving_is_universal rules views query plan receives other shape lengths =
    let same = receives (other ∷ []) in (
      (λ contained.
          let one = same.0 (λ database meets row answer. (other, Contains-head other [], contained database meets row answer)) in
          subst (λ it. MapsTo it plan) (sym (Contains-one other one.0 one.1)) one.2),
      (λ maps database meets row answer.
          let one = same.1 (other, Contains-head other [], maps) database meets row answer in
          subst (λ it. IsFragmentAnswer views it database row) (sym (Contains-one other one.0 one.1)) one.2),
    )

-- ---- rewritings in a union

pub unions_map_onto : UnionsMapOntoSets
unions_map_onto rules views patterns queries others query plan inside receives union =
    let one = (receives others).0 (λ database meets row answer. union.equivalent.1 database meets row (query, inside, answer)) in
    let found = queries_map_onto rules views patterns plan one.0 (union.are_queries one.0 one.1) (union.executable one.0 one.1) one.2 in (
      one.0,
      one.1,
      (
        found.0,
        found.1.onto,
        record {
          has_candidate = found.1.has_candidate;
          safe = found.1.safe;
          executable = found.1.executable;
          contained = λ database meets row answer. union.equivalent.0 database meets row (one.0, one.1, found.1.contained database meets row answer);
        },
      ),
    )

pub listed_cover : ListedCoverUnions
listed_cover rules views patterns queries others query plan sets inside receives listed union =
    let found = unions_map_onto rules views patterns queries others query plan inside receives union in
    let P : List Bool → Type 0 = IsUnionRewriting rules views patterns queries plan in
    (found.0, found.1, (found.2.0, found.2.1, minimal-cover P (length plan.body) (λ set is. is.has_candidate.over) sets listed.exact found.2.0 found.2.2))

pub list_is_one : UnionListIsOne
list_is_one rules views patterns queries plan sets others listed also_listed =
    listed_by_is_one (IsUnionRewriting rules views patterns queries plan) sets others listed also_listed

pub union_answering_rises : UnionAnsweringRises
union_answering_rises rules views queries plan set other over other_over within answers = record {
  has_candidate = greater-HasCandidate plan set other other_over within answers.has_candidate;
  safe = greater-IsSafe plan set other within answers.safe;
  contained = λ database meets row answer. answers.contained database meets row
      (contained-in_mapped rules views (candidate plan set) (candidate plan other) (greater-MapsTo plan set other within) database meets row answer);
}

pub union_answering_is_told : UnionAnsweringIsTold
union_answering_is_told rules views queries plan =
    told_by_minimal (AnswersUnion rules views queries plan) (length plan.body) (λ set answers. answers.has_candidate.over)
    (union_answering_rises rules views queries plan)

-- a rewriting in the union is an executable set that answers a part of it
answering_executably : (rules : List Rule) (views : List ConjunctiveQuery) (patterns : Patterns) (queries : List ConjunctiveQuery) (plan : ConjunctiveQuery)
    (set : List Bool) → IsUnionRewriting rules views patterns queries plan set
    ↔ HoldsExecutably patterns plan.body (AnswersUnion rules views queries plan) set
answering_executably rules views patterns queries plan set = (
  (λ rewriting. (
    rewriting.executable,
    record { has_candidate = rewriting.has_candidate; safe = rewriting.safe; contained = rewriting.contained },
  )),
  (λ (executable, answers).
      record { has_candidate = answers.has_candidate; safe = answers.safe; executable = executable; contained = answers.contained }),
)

pub union_listed_are_executable : UnionListedAreExecutable
union_listed_are_executable rules views patterns queries plan sets tells =
    told_executably patterns plan.body (AnswersUnion rules views queries plan) (IsUnionRewriting rules views patterns queries plan)
    (answering_executably rules views patterns queries plan) sets tells

pub union_listed_are_of_parts : UnionListedAreOfParts
union_listed_are_of_parts rules views patterns queries plan =
    of_parts patterns plan.body (AnswersUnion rules views queries plan) (IsUnionRewriting rules views patterns queries plan)
    (answering_executably rules views patterns queries plan)

pub rewritings_rise : UnionRewritingsRise
rewritings_rise rules views patterns queries plan set other rewriting within over executable =
    let same = answering_executably rules views patterns queries plan in
    let answers = (same set).0 rewriting in
    (same other).1 (executable, union_answering_rises rules views queries plan set other answers.1.has_candidate.over over within answers.1)

-- ---- choices

pub choice_is_executable : ChoiceIsExecutable
choice_is_executable rules views patterns queries others choice = record {
  are_queries = λ other inside.
      let (query, plan, set, option, is) = choice.candidates other inside in
      subst IsQuery is (candidate-IsQuery plan set query option.form option.rewriting.has_candidate option.rewriting.safe);
  executable = λ other inside.
      let (query, plan, set, option, is) = choice.candidates other inside in
      subst (IsExecutableQuery patterns) is
      (candidate-IsExecutableQuery patterns plan set option.rewriting.executable.0 option.rewriting.executable.1);
  equivalent = (
    (λ database meets row (other, inside, answer).
        let (query, plan, set, option, is) = choice.candidates other inside in
        option.rewriting.contained database meets row (subst (λ it. IsFragmentAnswer views it database row) (sym is) answer)),
    (λ database meets row (query, inside, answer).
        let (plan, set, option, among) = choice.each query inside (database, meets, (row, answer)) in
        let contains = candidate-contains plan set query option.form option.rewriting.has_candidate option.rewriting.safe rules views option.universal in
        (candidate plan set, among, contains database meets row answer)),
  );
}

module _ (rules : List Rule) (views : List ConjunctiveQuery) (patterns : Patterns) (queries : List ConjunctiveQuery) where
  -- the others are a choice for some of the union's queries
  record IsChoiceFor (some others : List ConjunctiveQuery) : Type 0 where
    candidates : (other : ConjunctiveQuery) → Contains others other → IsOfOption rules views patterns queries other
    each : (query : ConjunctiveQuery) → Contains some query → IsSatisfiable rules query → HasOption rules views patterns queries others query

  abbrev HasChoiceFor : List ConjunctiveQuery → Type 0
  HasChoiceFor some = (others : List ConjunctiveQuery) × IsChoiceFor some others

  abbrev AreAnswered : List ConjunctiveQuery → Type 0
  AreAnswered some = (query : ConjunctiveQuery) → Contains some query → IsAnswered rules views patterns queries query

  choice_for : (some : List ConjunctiveQuery) → AreAnswered some → HasChoiceFor some
  choice_for [] answered = (
    [],
    record { candidates = λ other none. absurd (Contains-nil other none); each = λ query none satisfiable. absurd (Contains-nil query none) },
  )
  choice_for (first ∷ rest) answered =
      by (choice_for rest (λ query inside. answered query (Contains-rest first rest query inside))) (answered first (Contains-head first rest))
    where
      by : HasChoiceFor rest → IsAnswered rules views patterns queries first → HasChoiceFor (first ∷ rest)
      by (others, choice) (inl none) = (
        others,
        record {
          candidates = choice.candidates;
          each = λ query inside satisfiable. elim (Contains-cases first rest query inside) [
            | inl is ↦ absurd (none (subst (IsSatisfiable rules) (sym is) satisfiable))
            | inr later ↦ choice.each query later satisfiable
          ];
        },
      )
      by (others, choice) (inr (plan, set, option)) = (
        candidate plan set ∷ others,
        record {
          candidates = λ other inside. elim (Contains-cases (candidate plan set) others other inside) [
            | inl is ↦ (first, plan, set, option, is)
            | inr later ↦ choice.candidates other later
          ];
          each = λ query inside satisfiable. elim (Contains-cases first rest query inside) [
            | inl is ↦ (plan, set, subst (λ it. IsOption rules views patterns queries it plan set) is option, Contains-head (candidate plan set) others)
            | inr later ↦
                let (own, own_set, own_option, among) = choice.each query later satisfiable in
                (own, own_set, own_option, Contains-rest (candidate plan set) others (candidate own own_set) among)
          ];
        },
      )

pub choice_exists : ChoiceExists
choice_exists rules views patterns queries answered =
    let found = choice_for rules views patterns queries queries answered in
    (found.0, record { candidates = found.1.candidates; each = found.1.each })

-- ---- whether there is an executable rewriting of the union

pub empty_excludes : EmptyListExcludes
empty_excludes rules views patterns queries (query, inside, (plan, receives, none)) others union =
    let found = unions_map_onto rules views patterns queries others query plan inside receives union in
    let P : List Bool → Type 0 = IsUnionRewriting rules views patterns queries plan in
    let cover = minimal-cover P (length plan.body) (λ set is. is.has_candidate.over) []
    (λ set. ((λ in_none. absurd (Contains-nil set in_none)), (λ listed. absurd (none set listed)))) found.2.0 found.2.2 in
    Contains-nil cover.0 cover.1

module _ (rules : List Rule) (views : List ConjunctiveQuery) (patterns : Patterns) (queries : List ConjunctiveQuery) where
  abbrev Known : List ConjunctiveQuery → Type 0
  Known some = HasEmptyList rules views patterns queries ⊎ AreAnswered rules views patterns queries some

  one_more : (first : ConjunctiveQuery) (rest : List ConjunctiveQuery) → IsAnswered rules views patterns queries first → Known rest → Known (first ∷ rest)
  one_more first rest answered (inl empty) = inl empty
  one_more first rest answered (inr later) = inr (λ query inside. elim (Contains-cases first rest query inside) [
    | inl is ↦ subst (IsAnswered rules views patterns queries) is answered
    | inr further ↦ later query further
  ])

  at_first : (first : ConjunctiveQuery) (rest : List ConjunctiveQuery) → Contains queries first → HasList rules views patterns queries first
      → Known rest → Known (first ∷ rest)
  at_first first rest inside (inl unsatisfiable) further = one_more first rest (inl unsatisfiable) further
  at_first first rest inside (inr (plan, [], form, receives, listed)) further =
      inl (first, inside, (plan, receives, λ set is. Contains-nil set ((listed.exact set).1 is)))
  at_first first rest inside (inr (plan, set ∷ sets, form, receives, listed)) further =
      one_more first rest (inr (
        plan,
        set,
        record {
          form = form;
          universal = receiving_is_universal rules views first plan receives;
          rewriting = ((listed.exact set).0 (Contains-head set sets)).0;
        },
      )) further

  known : (some : List ConjunctiveQuery)
      → ((query : ConjunctiveQuery) → Contains some query → Contains queries query × HasList rules views patterns queries query) → Known some
  known [] lists = inr (λ query none. absurd (Contains-nil query none))
  known (first ∷ rest) lists =
      let here = lists first (Contains-head first rest) in
      at_first first rest here.0 here.1 (known rest (λ query inside. lists query (Contains-rest first rest query inside)))

pub empty_or_choice : EmptyListOrChoice
empty_or_choice rules views patterns queries lists = elim (known rules views patterns queries queries (λ query inside. (inside, lists query inside))) [
  | inl empty ↦ inl empty
  | inr answered ↦ inr (choice_exists rules views patterns queries answered)
]

-- ---- a union of one query

module _ (rules : List Rule) (views : List ConjunctiveQuery) (patterns : Patterns) (query plan : ConjunctiveQuery) (form : IsPlanFor query plan)
    (universal : IsUniversalPlan rules views query plan) where
  pub one_rewriting : (set : List Bool) → IsUnionRewriting rules views patterns (query ∷ []) plan set ↔ IsRewriting rules views patterns query plan set
  one_rewriting set = (
    (λ rewriting. record {
      has_candidate = rewriting.has_candidate;
      safe = rewriting.safe;
      executable = rewriting.executable;
      equivalent = (candidate-equivalent plan set query form rewriting.has_candidate rewriting.safe rules views universal).1
          (λ database meets row answer.
          let one = rewriting.contained database meets row answer in
          subst (λ it. IsAnswer it database row) (sym (Contains-one query one.0 one.1)) one.2);
    }),
    (λ rewriting. record {
      has_candidate = rewriting.has_candidate;
      safe = rewriting.safe;
      executable = rewriting.executable;
      contained = λ database meets row answer. (query, Contains-head query [], rewriting.equivalent.0 database meets row answer);
    }),
  )

  pub one_listed : (set : List Bool) → IsUnionListed rules views patterns (query ∷ []) plan set ↔ IsListed rules views patterns query plan set
  one_listed set = (
    (λ listed. ((one_rewriting set).0 listed.0, λ other is within. listed.1 other ((one_rewriting other).1 is) within)),
    (λ listed. ((one_rewriting set).1 listed.0, λ other is within. listed.1 other ((one_rewriting other).0 is) within)),
  )
