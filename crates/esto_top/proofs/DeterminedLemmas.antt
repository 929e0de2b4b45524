-- The same words over the same files have one status and one text.
use Rattle.std.proofs.Common.{◌≡◌, ℕ, true, false, Bool, List, [], ◌∷◌, ◌++◌, length, Option, Some, None, refl, sym, ap, ◌∙◌}
use Rattle.std.proofs.lemmas.List.{length-map}
use Rattle.esto_mapping.specs.Catalogues.{AreSame}
use Rattle.esto_mapping.specs.declared.catalogue.Catalogue.{Catalogue}
use Rattle.esto_ports.specs.Files.{Files}
use Rattle.esto_query.specs.Schemas.{names_of}
use Rattle.esto_query.specs.declared.query.Query.{Query}
use Rattle.esto_views.specs.declared.plan.Plan.{Plan}
use Rattle.esto_top.specs.Check.{check_text, check_course, count_lines, rank_lines}
use Rattle.esto_course.proofs.Determined.{then_agree, gives_agree, refuses_agree, judges_agree}
use Rattle.esto_top.specs.DataLaws.{AnswersAreOne, AuditsAreOne, MakesAreOne}
use Rattle.esto_top.specs.CertificateLaws.{ExplainHasOneStatus, VerifyIsOne}
use Rattle.esto_bench.specs.Summary.{SummariesAreOne}
use Rattle.esto_top.specs.ReasoningLaws.{ContainsIsOne, MinimiseIsOne}
use Rattle.esto_course.specs.Agreement.{IsEnd}
use Rattle.esto_course.specs.Course.{Course, Names, Point}
use Rattle.esto_course.specs.Course.Point.{went, stopped, missing}
use Rattle.esto_status.specs.Answers.{IsCaused}
use Rattle.esto_status.specs.Asked.{Fetches}
use Rattle.esto_status.specs.Asked.Fetches.{to_value, to_refusal, to_lack}
use Rattle.esto_status.specs.declared.reply.Reply.{Reply}
use Rattle.esto_top.specs.Determined.{AskedBeginsFetches, CoursesAreOne, FetchesAreDetermined, OutcomesAreDetermined, AsksCertificate, CountsAs}
use Rattle.esto_top.specs.Determined.{FixesText, writes_certificate}
use Rattle.esto_top.specs.Grammar.{Request, request_of, course_of_request, course_of_asked}
use Rattle.esto_top.specs.Grammar.Request.{CheckOf, ListFor, RunFor, FillFor, AnswerFor, AuditOf, ContainsFor, MinimiseFor, ExplainFor, VerifyFor, BenchOf}
use Rattle.esto_top.specs.List.{list_course, lists_queries, lists_query, prints_list}
use Rattle.esto_top.specs.Run.{run_course, runs_queries}
use Rattle.esto_top.specs.Outcome.{Says}
use Rattle.esto_status.specs.declared.reply.Reply.TheVariants.{Done}
use Rattle.esto_status.specs.declared.status.Status.{Status}
use Rattle.esto_status.specs.declared.status.Status.TheVariants as status
use Rattle.esto_status.specs.Calm.{AgreeCalmly}
use Rattle.esto_top.proofs.AgreeLemmas.{says-agree, says-status}
use Rattle.esto_top.proofs.CertificateLemmas.{verify_agrees}
use Rattle.esto_top.proofs.ExplainWords.{asks_certificate}
use Rattle.esto_top.proofs.BenchLemmas.{benches-agree}
use Rattle.esto_top.proofs.RunAgreeLemmas.{CourseLaws, query_agree}
use Rattle.esto_query.specs.Same.{AreSameQueries, IsSameQuery}
use Rattle.esto_rewriting.specs.UnionLaws.{UnionListsAreOne}
use Rattle.esto_rewriting.specs.RunLaws.{UnionRunsAreOne}
use Rattle.esto_rewriting.specs.Alike.{IsSamePlan}

-- ---- the text of a check

check_one : (catalogue other : Catalogue) → AreSame catalogue other → check_text catalogue ≡ check_text other
check_one catalogue other alike =
    let fragments : length catalogue.fragments ≡ length other.fragments =
    sym (length-map catalogue.fragments (λ fragment. fragment.name)) ∙ ap length alike.names ∙ length-map other.fragments (λ fragment. fragment.name) in
    λ i. count_lines (length (alike.datasets i)) (fragments i) (alike.given i) ++ rank_lines (names_of (alike.schema i)) (alike.ranks i)

-- ---- the courses

-- the laws by which `list` and `run` of unions have one outcome
pub record UnionLaws : Type 0 where
  pub lists : UnionListsAreOne
  pub runs : UnionRunsAreOne

-- the laws by which the commands on data, on queries and on certificates have one outcome
pub record OneLaws : Type 0 where
  pub fills : MakesAreOne
  pub answers : AnswersAreOne
  pub audits : AuditsAreOne
  pub contains : ContainsIsOne
  pub minimise : MinimiseIsOne
  pub verify : VerifyIsOne
  pub explain : ExplainHasOneStatus

module _ (laws : CourseLaws) (unions : UnionLaws) (summaries : SummariesAreOne) (on_each : OneLaws) (files : Files) where
  module _ (catalogue other : Catalogue) (alike : AreSame catalogue other) where
    module _ (query other_query : Query) (same : IsSameQuery query other_query) where
      printed_agree : (plan other_plan : Plan) → IsSamePlan plan other_plan
          → AgreeCalmly ◌≡◌ (prints_list catalogue query plan) (prints_list other other_query other_plan)
      printed_agree plan other_plan plans = judges_agree _ _ _ _ _ _
          (λ text other_text here there. laws.planning.text catalogue other query other_query plan other_plan text other_text alike same plans here there)
          (λ said other_said caused other_caused here there. absurd here)
          (λ value said caused here there. there) (λ value said caused here there. there)

      listed_agree : AgreeCalmly ◌≡◌ (lists_query catalogue query) (lists_query other other_query)
      listed_agree = then_agree _ IsSamePlan ◌≡◌ _ _ _ _ (laws.planning.plan catalogue other query other_query alike same)
          (λ plan other_plan goes plans. printed_agree plan other_plan plans)

    -- of one query, and of more
    all_listed_agree : (queries others : List Query) → AreSameQueries queries others
        → AgreeCalmly ◌≡◌ (lists_queries catalogue queries) (lists_queries other others)
    all_listed_agree [] [] same = unions.lists catalogue other [] [] alike same
    all_listed_agree [] (other_query ∷ others) same = absurd same
    all_listed_agree (query ∷ queries) [] same = absurd same
    all_listed_agree (query ∷ []) (other_query ∷ []) same = listed_agree query other_query same.0
    all_listed_agree (query ∷ []) (other_query ∷ more ∷ others) same = absurd same.1
    all_listed_agree (query ∷ next ∷ queries) (other_query ∷ []) same = absurd same.1
    all_listed_agree (query ∷ next ∷ queries) (other_query ∷ more ∷ others) same =
        unions.lists catalogue other (query ∷ next ∷ queries) (other_query ∷ more ∷ others) alike same

    all_run_agree : (number : Option ℕ) (queries others : List Query) → AreSameQueries queries others
        → AgreeCalmly ◌≡◌ (runs_queries (Some files) catalogue queries number) (runs_queries (Some files) other others number)
    all_run_agree number [] [] same = unions.runs files catalogue other [] [] number alike same
    all_run_agree number [] (other_query ∷ others) same = absurd same
    all_run_agree number (query ∷ queries) [] same = absurd same
    all_run_agree number (query ∷ []) (other_query ∷ []) same = query_agree laws files catalogue other alike query other_query same.0 number
    all_run_agree number (query ∷ []) (other_query ∷ more ∷ others) same = absurd same.1
    all_run_agree number (query ∷ next ∷ queries) (other_query ∷ []) same = absurd same.1
    all_run_agree number (query ∷ next ∷ queries) (other_query ∷ more ∷ others) same =
        unions.runs files catalogue other (query ∷ next ∷ queries) (other_query ∷ more ∷ others) number alike same

  list_agrees : (catalogue_name query_name : List ℕ) → AgreeCalmly ◌≡◌ (list_course (Some files) catalogue_name query_name)
      (list_course (Some files) catalogue_name query_name)
  list_agrees catalogue_name query_name =
      then_agree _ AreSame ◌≡◌ _ _ _ _ (laws.opening.catalogues files catalogue_name) (λ catalogue other goes alike.
      then_agree _ AreSameQueries ◌≡◌ _ _ _ _ (laws.opening.unions files query_name catalogue other alike) (λ queries others goes1 same.
      then_agree _ ◌≡◌ ◌≡◌ _ _ _ _ (all_listed_agree catalogue other alike queries others same)
      (λ text other_text goes2 texts. gives_agree _ (Done text) (Done other_text) (ap Done texts))))

  run_agrees : (catalogue_name query_name : List ℕ) (number : Option ℕ) → AgreeCalmly ◌≡◌ (run_course (Some files) catalogue_name query_name number)
      (run_course (Some files) catalogue_name query_name number)
  run_agrees catalogue_name query_name number =
      then_agree _ AreSame ◌≡◌ _ _ _ _ (laws.opening.catalogues files catalogue_name) (λ catalogue other goes alike.
      then_agree _ AreSameQueries ◌≡◌ _ _ _ _ (laws.opening.unions files query_name catalogue other alike) (λ queries others goes1 same.
      all_run_agree catalogue other alike number queries others same))

  check_agrees : (name : List ℕ) → AgreeCalmly ◌≡◌ (check_course (Some files) name) (check_course (Some files) name)
  check_agrees name =
      then_agree _ AreSame ◌≡◌ _ _ _ _ (laws.opening.catalogues files name) (λ catalogue other goes alike. gives_agree _ (Done (check_text catalogue))
      (Done (check_text other)) (ap Done (check_one catalogue other alike)))

  request_agrees : (request : Request) → AgreeCalmly (CountsAs (writes_certificate (Some request))) (course_of_request (Some files) request)
      (course_of_request (Some files) request)
  request_agrees (CheckOf name) = check_agrees name
  request_agrees (ListFor catalogue_name query_name) = list_agrees catalogue_name query_name
  request_agrees (RunFor catalogue_name query_name number) = run_agrees catalogue_name query_name number
  request_agrees (BenchOf size) = benches-agree summaries size
  request_agrees (FillFor catalogue_name name) = on_each.fills files catalogue_name name
  request_agrees (AnswerFor catalogue_name query_name) = on_each.answers files catalogue_name query_name
  request_agrees (AuditOf name) = on_each.audits files name
  request_agrees (ContainsFor catalogue_name left_name right_name) = on_each.contains files catalogue_name left_name right_name
  request_agrees (MinimiseFor catalogue_name query_name) = on_each.minimise files catalogue_name query_name
  request_agrees (ExplainFor catalogue_name query_name number) = on_each.explain files catalogue_name query_name number
  request_agrees (VerifyFor catalogue_name query_name atoms file) = verify_agrees on_each.verify files catalogue_name query_name atoms file

  asked_agrees : (asked : Option Request) → AgreeCalmly (CountsAs (writes_certificate asked)) (course_of_asked (Some files) asked)
      (course_of_asked (Some files) asked)
  asked_agrees None = refuses_agree _ _ status.Usage
  asked_agrees (Some request) = request_agrees request

pub courses_one : CourseLaws → UnionLaws → SummariesAreOne → OneLaws → CoursesAreOne
courses_one laws unions summaries on_each words files = asked_agrees laws unions summaries on_each files (request_of words)

-- ---- the outcome, and the names that are fetched

-- a sequence of fetches is what its course asks for up to an end
end_of : (course : Course Status Reply) (names : Names) → Fetches course names → (end : Point Status Reply) × IsEnd (IsCaused ⊥) end × course.asks names end
end_of course names (to_value reply asks) = (went reply, tt, asks)
end_of course names (to_refusal refusal caused asks) = (stopped refusal, caused, asks)
end_of course names (to_lack asks) = (missing, tt, asks)

-- what is said twice is one status, and one text where the words and the status fix it
says_one : (words : List (List ℕ)) (free : Bool) → (free ≡ true → AsksCertificate words) → (course : Course Status Reply)
    → AgreeCalmly (CountsAs free) course course → (said other_said : Status) (text other_text : List ℕ) → Says course ⊥ said text
    → Says course ⊥ other_said other_text → (said ≡ other_said) × (FixesText words said → text ≡ other_text)
says_one words true asks course agree said other_said text other_text here there =
    let one = says-status course course said other_said text other_text agree here there in
    (one.0, λ fixes. one.1 (λ done. fixes (asks refl, done)))
says_one words false asks course agree said other_said text other_text here there =
    let one = says-agree course course said other_said text other_text agree here there in
    (one.0, λ fixes. one.1)

module _ (one : CoursesAreOne) where
  pub outcomes_determined : OutcomesAreDetermined
  outcomes_determined words files said other_said text other_text outcome other_outcome =
      says_one words (writes_certificate (request_of words)) (asks_certificate words) _ (one words files) said other_said text other_text outcome other_outcome

  pub fetches_determined : FetchesAreDetermined
  fetches_determined words files names others fetched other_fetched =
      let (end, is_end, asks) = end_of _ names fetched in
      let (other_end, is_other, other_asks) = end_of _ others other_fetched in
      (one words files).alike.one names others end other_end is_end is_other asks other_asks

  pub asked_begins : AskedBeginsFetches
  asked_begins words files names all point fetched asks =
      let (end, is_end, all_asks) = end_of _ all fetched in
      (one words files).alike.begins names all point end is_end asks all_asks
