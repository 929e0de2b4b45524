-- What a course over files asked for is among the files up to its end, and is not where it lacks a file.
use Rattle.std.proofs.Common.{◌≡◌, inl, inr, ℕ, suc, List, [], ◌∷◌, ◌++◌, Contains, Some, None, Option, refl, sym, ap, subst, ◌∙◌}
use Rattle.std.proofs.lemmas.List.Elements.{Contains-append_cases, Contains-append_right}
use Rattle.std.specs.FinMap.{get}
use Rattle.either.specs.declared.Either.{Either}
use Rattle.either.specs.declared.Either.TheVariants.{Left, Right}
use Rattle.esto_mapping.specs.declared.catalogue.Catalogue.{Catalogue}
use Rattle.esto_top.specs.Verify.{verify_course}
use Rattle.esto_mapping.specs.declared.dataset.Dataset.{Dataset}
use Rattle.esto_chase_laws.specs.declared.clash.Clash.{Clash}
use Rattle.esto_course.specs.Course.{Course, Names, and_then, demands, each, gives, judges, refuses}
use Rattle.esto_course.specs.Course.Point.{went, stopped, missing}
use Rattle.esto_data.specs.Datasets.{loads}
use Rattle.esto_rewriting.specs.Run.{runs_end as ends_union, runs_union}
use Rattle.esto_rewriting.specs.declared.members.Member.{Member}
use Rattle.esto_status.specs.Answers.{IsCaused}
use Rattle.esto_status.specs.Asked.{Fetches}
use Rattle.esto_status.specs.Asked.Fetches.{to_lack, to_refusal, to_value}
use Rattle.esto_status.specs.Fetch.{FetchStops, fetches}
use Rattle.esto_status.specs.Fetch.FetchStops.{fails, is_longer}
use Rattle.esto_run.specs.Fragments.{opens_fragments}
use Rattle.esto_opening.specs.Opening.{opens_catalogue, opens_query, opens_union}
use Rattle.esto_status.specs.declared.status.Status.{Status}
use Rattle.esto_status.specs.declared.status.Status.TheVariants.{ReadFault}
use Rattle.esto_ports.specs.Files.{Files}
use Rattle.esto_views.specs.declared.plan.Plan.{Plan}
use Rattle.esto_query.specs.declared.query.Query.{Query}
use Rattle.esto_term.proofs.ListLemmas.{Contains-cases, Contains-head, Contains-nil}
use Rattle.esto_top.specs.Determined.{FetchesAreDetermined}
use Rattle.esto_top.specs.Existing.{AreAmong, FetchesExist, OutcomesAreWhereFilesAre, OutcomesExist, OutcomesHaveFiles, OutcomesLackNone}
use Rattle.esto_top.specs.Grammar.{Request, course_of, course_of_asked, request_of}
use Rattle.esto_top.specs.Grammar.Request.{AnswerFor, AuditOf, BenchOf, CheckOf, ContainsFor, ExplainFor, FillFor, ListFor, MinimiseFor, RunFor, VerifyFor}
use Rattle.esto_top.specs.List.{lists_queries}
use Rattle.esto_top.specs.Outcome.{Says}
use Rattle.esto_top.specs.Outcome.Says.{refuses as by_refusal, replies as by_reply}
use Rattle.esto_top.specs.Run.{runs_end, runs_queries}

module _ (files : Files) where
  pub record IsTold {A : Type 0} (course : Course Status A) : Type 0 where
    pub goes_on : (value : A) → course.goes value → (names : Names) × course.asks names (went value)
    pub stops_at : (refusal : Status) → course.stops refusal → (names : Names) × course.asks names (stopped refusal)
    pub at_value : (names : Names) (value : A) → course.asks names (went value) → AreAmong files names
    pub at_stop : (names : Names) (refusal : Status) → IsCaused ⊥ refusal → course.asks names (stopped refusal) → AreAmong files names
    pub at_lack : (names : Names) → course.asks names missing → (name : List ℕ) × Contains names name × (get files name ≡ None)

  none_among : (names : Names) → names ≡ [] → AreAmong files names
  none_among names is name inside = absurd (Contains-nil name (subst (λ it. Contains it name) is inside))

  one_among : (names : Names) (name : List ℕ) → names ≡ name ∷ [] → (file : List ℕ) × (get files name ≡ Some file) → AreAmong files names
  one_among names name is has other inside = elim (Contains-cases name [] other (subst (λ it. Contains it other) is inside)) [
    | inl same ↦ (has.0, ap (get files) (sym same) ∙ has.1)
    | inr none ↦ absurd (Contains-nil other none)
  ]

  both_among : (names early late : Names) → names ≡ early ++ late → AreAmong files early → AreAmong files late → AreAmong files names
  both_among names early late is first second name inside =
      elim (Contains-append_cases early late name (subst (λ it. Contains it name) is inside)) [ inl before ↦ first name before | inr after ↦ second name after ]

  told_judges : {A : Type 0} (Accepts : A → Type 0) (Refuses : Status → Type 0) → IsTold (judges Accepts Refuses)
  unfolding judges
  told_judges Accepts Refuses = record {
    goes_on = λ value goes. ([], (goes, refl));
    stops_at = λ refusal stops. ([], (stops, refl));
    at_value = λ names value asks. none_among names asks.1;
    at_stop = λ names refusal caused asks. none_among names asks.1;
    at_lack = λ names asks. absurd asks;
  }

  told_gives : {A : Type 0} (value : A) → IsTold (gives value)
  unfolding gives
  told_gives value = record {
    goes_on = λ value goes. ([], (goes, refl));
    stops_at = λ refusal stops. ([], (stops, refl));
    at_value = λ names value asks. none_among names asks.1;
    at_stop = λ names refusal caused asks. none_among names asks.1;
    at_lack = λ names asks. absurd asks;
  }

  told_refuses : {A : Type 0} (refusal : Status) → IsTold (refuses {A = A} refusal)
  unfolding refuses
  told_refuses refusal = record {
    goes_on = λ value goes. ([], (goes, refl));
    stops_at = λ refusal stops. ([], (stops, refl));
    at_value = λ names value asks. none_among names asks.1;
    at_stop = λ names refusal caused asks. none_among names asks.1;
    at_lack = λ names asks. absurd asks;
  }

  told_demands : (Condition : Type 0) (refusal : Status) → IsTold (demands Condition refusal)
  unfolding demands
  told_demands Condition refusal = record {
    goes_on = λ value goes. ([], (goes, refl));
    stops_at = λ refusal stops. ([], (stops, refl));
    at_value = λ names value asks. none_among names asks.1;
    at_stop = λ names refusal caused asks. none_among names asks.1;
    at_lack = λ names asks. absurd asks;
  }

  told_fetches : (name : List ℕ) (limit : ℕ) → IsTold (fetches (Some files) name limit)
  unfolding fetches
  told_fetches name limit = record {
    goes_on = λ value goes. (name ∷ [], (goes, refl));
    stops_at = λ refusal stops. (name ∷ [], (stops, refl));
    at_value = λ names value asks. one_among names name asks.1 (asks.0.0, asks.0.1);
    at_stop = λ names refusal caused asks. one_among names name asks.1 (by refusal caused asks.0);
    at_lack = λ names asks. (name, subst (λ it. Contains it name) (sym asks.1) (Contains-head name []), asks.0);
  }
    where
      by : (refusal : Status) → IsCaused ⊥ refusal → FetchStops (Some files) name limit refusal → (file : List ℕ) × (get files name ≡ Some file)
      by refusal caused (fails is) = let wrong : IsCaused ⊥ (ReadFault name) = subst (IsCaused ⊥) is caused in absurd wrong.cause
      by refusal caused (is_longer file has long is) = (file, has)

  module _ {A B : Type 0} {first : Course Status A} {next : A → Course Status B} where
    told_then : IsTold first → ((value : A) → IsTold (next value)) → IsTold (and_then first next)
    unfolding and_then
    told_then one more = record {
      goes_on = λ result goes.
          let early = one.goes_on goes.0 goes.1 in
          let late = (more goes.0).goes_on result goes.2 in (
            early.0 ++ late.0,
            record { value = goes.0; early = early.0; late = late.0; first_asks = early.1; next_asks = late.1; all = refl },
          );
      stops_at = λ refusal stops. elim stops [
        | inl here ↦ let early = one.stops_at refusal here in (early.0, inl early.1)
        | inr later ↦ let early = one.goes_on later.0 later.1 in
            let late = (more later.0).stops_at refusal later.2 in (
              early.0 ++ late.0,
              inr (record { value = later.0; early = early.0; late = late.0; first_asks = early.1; next_asks = late.1; all = refl }),
            )
      ];
      at_value = λ names value later.
          both_among names later.early later.late later.all (one.at_value later.early later.value later.first_asks)
          ((more later.value).at_value later.late value later.next_asks);
      at_stop = λ names refusal caused asks. elim asks [
        | inl here ↦ one.at_stop names refusal caused here
        | inr later ↦ both_among names later.early later.late later.all (one.at_value later.early later.value later.first_asks)
            ((more later.value).at_stop later.late refusal caused later.next_asks)
      ];
      at_lack = λ names asks. elim asks [
        | inl here ↦ one.at_lack names here
        | inr later ↦ let lack = (more later.value).at_lack later.late later.next_asks in
            (lack.0, subst (λ it. Contains it lack.0) (sym later.all) (Contains-append_right later.early later.late lack.0 lack.1), lack.2)
      ];
    }

  told_each : {A B : Type 0} {step : ℕ → B → A → Course Status B} → ((number : ℕ) (given : B) (item : A) → IsTold (step number given item))
      → (items : List A) (number : ℕ) (given : B) → IsTold (each step number given items)
  told_each told [] number given = told_gives given
  told_each told (item ∷ items) number given = told_then (told number given item) (λ next. told_each told items (suc number) next)

  -- ---- files

  catalogue_told : (name : List ℕ) → IsTold (opens_catalogue (Some files) name)
  catalogue_told name = told_then (told_fetches _ _) (λ _. told_judges _ _)

  query_told : (name : List ℕ) (catalogue : Catalogue) → IsTold (opens_query (Some files) name catalogue)
  query_told name catalogue = told_then (told_fetches _ _) (λ _. told_judges _ _)

  union_told : (name : List ℕ) (catalogue : Catalogue) → IsTold (opens_union (Some files) name catalogue)
  union_told name catalogue = told_then (told_fetches _ _) (λ _. told_judges _ _)

  fragments_told : (catalogue : Catalogue) (numbers : List ℕ) → IsTold (opens_fragments (Some files) catalogue numbers)
  fragments_told catalogue numbers =
      told_each (λ _ _ _.
      told_then (told_then (told_judges _ _) (λ _. told_then (told_fetches _ _) (λ _. told_then (told_judges _ _) (λ _. told_gives _)))) (λ _. told_gives _))
      numbers _ _

  loads_told : (datasets : List Dataset) (Needs : Dataset → Type 0) → IsTold (loads (Some files) datasets Needs)
  loads_told datasets Needs =
      told_then (told_judges _ _) (λ numbers.
      told_then (told_each (λ _ _ _. told_then (told_judges _ _) (λ _. told_demands _ _)) numbers _ _) (λ _.
      told_then
      (told_each (λ _ _ _.
      told_then (told_then (told_judges _ _) (λ _. told_then (told_fetches _ _) (λ _. told_then (told_judges _ _) (λ _. told_gives _)))) (λ _. told_gives _))
      numbers _ _)
      (λ _. told_judges _ _)))

  -- ---- commands

  list_told : (catalogue : Catalogue) (queries : List Query) → IsTold (lists_queries catalogue queries)
  list_told catalogue [] = told_then (told_judges _ _) (λ _. told_judges _ _)
  list_told catalogue (query ∷ []) = told_then (told_judges _ _) (λ _. told_judges _ _)
  list_told catalogue (query ∷ other ∷ rest) = told_then (told_judges _ _) (λ _. told_judges _ _)

  end_told : (catalogue : Catalogue) (query : Query) (number : Option ℕ) (end : Either Plan Clash)
      → IsTold (runs_end (Some files) catalogue query number end)
  end_told catalogue query number (Left plan) =
      told_then (told_judges _ _) (λ _. told_then (told_judges _ _) (λ _. told_then (told_judges _ _) (λ _.
      told_then (told_judges _ _) (λ numbers. told_then (fragments_told catalogue numbers) (λ _. told_then (told_judges _ _) (λ _. told_gives _))))))
  end_told catalogue query number (Right clash) = told_gives _

  union_end_told : (catalogue : Catalogue) (queries : List Query) (number : Option ℕ) (members : List Member) (end : Option Clash)
      → IsTold (ends_union (Some files) catalogue queries number members end)
  union_end_told catalogue queries number members None =
      told_then (told_judges _ _) (λ _.
      told_then (told_judges _ _) (λ numbers. told_then (fragments_told catalogue numbers) (λ _. told_then (told_judges _ _) (λ _. told_gives _))))
  union_end_told catalogue queries number members (Some clash) = told_judges _ _

  union_run_told : (catalogue : Catalogue) (queries : List Query) (number : Option ℕ) → IsTold (runs_union (Some files) catalogue queries number)
  union_run_told catalogue queries number =
      told_then (told_judges _ _) (λ members. told_then (told_judges _ _) (union_end_told catalogue queries number members))

  run_told : (catalogue : Catalogue) (number : Option ℕ) (queries : List Query) → IsTold (runs_queries (Some files) catalogue queries number)
  run_told catalogue number [] = union_run_told catalogue [] number
  run_told catalogue number (query ∷ []) = told_then (told_judges _ _) (end_told catalogue query number)
  run_told catalogue number (query ∷ other ∷ rest) = union_run_told catalogue (query ∷ other ∷ rest) number

  verify_told : (catalogue_name query_name file : List ℕ) (numbers : List ℕ)
      → IsTold (verify_course (Some files) catalogue_name query_name numbers file)
  verify_told catalogue_name query_name file numbers =
      told_then (catalogue_told catalogue_name) (λ catalogue. told_then (query_told query_name catalogue) (λ _.
      told_then (told_then (told_judges _ _) (λ _. told_then (told_judges _ _) (λ _. told_then (told_fetches _ _) (λ _. told_judges _ _))))
      (λ _. told_gives _)))

  request_told : (request : Request) → IsTold (course_of_asked (Some files) (Some request))
  request_told (CheckOf catalogue) = told_then (catalogue_told catalogue) (λ _. told_gives _)
  request_told (ListFor catalogue_name query_name) =
      told_then (catalogue_told catalogue_name) (λ catalogue. told_then (union_told query_name catalogue) (λ queries.
      told_then (list_told catalogue queries) (λ _. told_gives _)))
  request_told (RunFor catalogue_name query_name number) =
      told_then (catalogue_told catalogue_name) (λ catalogue. told_then (union_told query_name catalogue) (run_told catalogue number))
  request_told (BenchOf size) = told_then (told_judges _ _) (λ _. told_gives _)
  request_told (FillFor catalogue_name fragment) =
      told_then (catalogue_told catalogue_name) (λ catalogue. told_then (told_judges _ _) (λ _.
      told_then (told_judges _ _) (λ _. told_then (loads_told _ _) (λ _. told_then (told_judges _ _) (λ _. told_gives _)))))
  request_told (AnswerFor catalogue_name query_name) =
      told_then (catalogue_told catalogue_name) (λ catalogue. told_then (union_told query_name catalogue) (λ _.
      told_then (loads_told _ _) (λ _. told_then (told_judges _ _) (λ _. told_gives _))))
  request_told (AuditOf catalogue_name) =
      told_then (catalogue_told catalogue_name) (λ catalogue. told_then (loads_told _ _) (λ _.
      told_then (told_judges _ _) (λ _. told_then (fragments_told catalogue _) (λ _. told_then (told_judges _ _) (λ _. told_gives _)))))
  request_told (ContainsFor catalogue_name left right) =
      told_then (catalogue_told catalogue_name) (λ catalogue.
      told_then (query_told left catalogue) (λ _. told_then (query_told right catalogue) (λ _.
      told_then (told_then (told_demands _ _) (λ _. told_then (told_judges _ _) (λ _. told_judges _ _))) (λ _. told_gives _))))
  request_told (MinimiseFor catalogue_name query_name) =
      told_then (catalogue_told catalogue_name) (λ catalogue. told_then (query_told query_name catalogue) (λ _.
      told_then (told_then (told_judges _ _) (λ _. told_judges _ _)) (λ _. told_gives _)))
  request_told (ExplainFor catalogue_name query_name number) =
      told_then (catalogue_told catalogue_name) (λ catalogue. told_then (query_told query_name catalogue) (λ _.
      told_then (told_then (told_judges _ _) (λ _. told_then (told_judges _ _) (λ _.
      told_then (told_judges _ _) (λ _. told_then (told_judges _ _) (λ _. told_judges _ _)))))
      (λ _. told_gives _)))
  request_told (VerifyFor catalogue_name query_name atoms file) = told_then (told_judges _ _) (verify_told catalogue_name query_name file)

  pub asked_told : (request : Option Request) → IsTold (course_of_asked (Some files) request)
  asked_told None = told_refuses _
  asked_told (Some request) = request_told request

-- ---- outcomes

pub outcomes_have_files : OutcomesHaveFiles
outcomes_have_files words files (said, text, says) = by says
  where
    told : IsTold files (course_of words (Some files))
    told = asked_told files (request_of words)

    by : Says (course_of words (Some files)) ⊥ said text
        → (names : Names) × Fetches (course_of words (Some files)) names × AreAmong files names
    by (by_reply reply goes _ _) = let asks = told.goes_on reply goes in (asks.0, to_value reply asks.1, told.at_value asks.0 reply asks.1)
    by (by_refusal caused stops _) =
        let asks = told.stops_at said stops in (asks.0, to_refusal said caused asks.1, told.at_stop asks.0 said caused asks.1)

pub outcomes_lack_none : FetchesAreDetermined → OutcomesLackNone
outcomes_lack_none one words files outcome (names, lacks) =
    let had = outcomes_have_files words files outcome in
    let same : names ≡ had.0 = one words files names had.0 (to_lack lacks) had.1 in
    let lack = (asked_told files (request_of words)).at_lack names lacks in
    let there = had.2 lack.0 (subst (λ it. Contains it lack.0) same lack.1) in
    let wrong : None ≡ Some there.0 = sym lack.2 ∙ there.1 in
    absurd (cc)

pub fetches_exist : OutcomesExist → FetchesExist
fetches_exist exist words files = elim (exist words files) [
  | inl outcome ↦ let had = outcomes_have_files words files outcome in (had.0, had.1)
  | inr lacks ↦ (lacks.0, to_lack lacks.1)
]

pub outcomes_where_files_are : OutcomesExist → FetchesAreDetermined → OutcomesAreWhereFilesAre
outcomes_where_files_are exist one words files = (
  (λ outcome names fetches.
      let had = outcomes_have_files words files outcome in
      subst (AreAmong files) (one words files had.0 names had.1 fetches) had.2),
  (λ among. elim (exist words files) [
    | inl outcome ↦ outcome
    | inr lacks ↦
        let lack = (asked_told files (request_of words)).at_lack lacks.0 lacks.1 in
        let there = among lacks.0 (to_lack lacks.1) lack.0 lack.1 in
        let wrong : None ≡ Some there.0 = sym lack.2 ∙ there.1 in
        absurd (cc)
  ]),
)
