-- What a call does, by the laws of outcomes.
use Rattle.std.proofs.Common.{◌≡◌, ◌⊎◌, ℕ, List, [], ◌∷◌, Option, Some, Result, refl, sym, subst, inl, inr}
use Rattle.std.specs.Prelude.{codes}
use Rattle.std.proofs.lemmas.Option.{IfSome_then}
use Rattle.esto_data.specs.Exact.{IsExactFill}
use Rattle.esto_ports.specs.Files.{Files}
use Rattle.esto_status.specs.Answers.{Answers}
use Rattle.esto_status.specs.Asked.{AsksIn}
use Rattle.esto_status.specs.declared.reply.Reply.{Reply}
use Rattle.esto_status.specs.declared.status.Status.{Status}
use Rattle.esto_top.specs.Call.{Call, HasPut, HoldsOfPut, WantsMemory, WhereTold}
use Rattle.esto_top.specs.DataLaws.{FillsAreExact}
use Rattle.esto_top.specs.DataOutcomes.{AnswersFill, AsksAlongFill, FillsWhereTold, MediatesFill}
use Rattle.esto_top.specs.Determined.{ExactWhereTold, FixesText, OutcomesAreDetermined}
use Rattle.esto_top.specs.Existing.{AnsweredWhereTold, OutcomesAreWhereFilesAre}
use Rattle.esto_top.specs.Fill.{fill_course}
use Rattle.esto_top.specs.Grammar.{Request, course_of, request_of}
use Rattle.esto_top.specs.Grammar.Request.{FillFor}
use Rattle.esto_top.specs.Laws.{OutcomeLaws}
use Rattle.esto_top.specs.Mediation.{IsMediation}
use Rattle.esto_top.specs.Outcome.{CompleteWhereTold, Mediates, Outcome, Says}
use Rattle.esto_top.proofs.AskedLemmas.{asks_along}
use Rattle.esto_top.proofs.BenchLemmas.{benches_always}
use Rattle.esto_top.proofs.DataLemmas.{says_fact}
use Rattle.esto_top.proofs.Mediation.{FinishesCall, complete, mediates, read_fault, where_told, whole_or_wanting, write_fault}

-- ---- `fill`

-- what is said of `fill` is said of a command line: of most there is nothing to say
of_fill : (request : Option Request) (call : Call) (answer : Result Reply Status)
    → AnswersFill request call.files call.asked_before call.asked_after call.shelf_rose answer → FinishesCall answer call
    → MediatesFill request call × AsksAlongFill request call
of_fill (Some (FillFor catalogue_name name)) call answer fills finishes = (
  mediates (fill_course call.files catalogue_name name) call answer fills.0 finishes,
  asks_along (fill_course call.files catalogue_name name) call answer fills.0 fills.1 finishes,
)
of_fill _ call answer fills finishes = (tt, tt)

-- ---- what was put

module _ (call : Call) where
  -- what follows of what is said of the text follows where the text was put
  put_so : {Said Fact : List ℕ → Type 0} → ((text : List ℕ) → Said text → Fact text)
      → ((text : List ℕ) × Said text × HasPut call text) ⊎ WantsMemory call
      → ((text : List ℕ) × Fact text × HasPut call text) ⊎ WantsMemory call
  put_so so put = elim put [ inl whole ↦ inl (whole.0, so whole.0 whole.1, whole.2) | inr wants ↦ inr wants ]

  -- so it is put where the words are `fill C F`, over whatever files
  abbrev FillsOver : Option Files → Type 0
  FillsOver files = (catalogue_name name : List ℕ) → call.words ≡ codes "fill" ∷ catalogue_name ∷ name ∷ []
      → HoldsOfPut (Says (fill_course files catalogue_name name) ⊥) call

  module _ (fills : MediatesFill (request_of call.words) call) where
    fill_said : ¬ call.shelf_rose → ¬ call.sink_rose → FillsOver call.files
    fill_said calm sink_calm catalogue_name name is =
        whole_or_wanting (fill_course call.files catalogue_name name) call
        (subst (λ (it : List (List ℕ)). MediatesFill (request_of it) call) is fills) calm sink_calm

    fills_where_told : FillsAreExact → FillsWhereTold call
    fills_where_told exact =
        IfSome_then call.files (where_told call FillsOver fill_said) (λ files said calm sink_calm catalogue_name name catalogue is say.
        put_so (λ text.
        says_fact (fill_course (Some files) catalogue_name name) (IsExactFill files catalogue name) call.status text
        (exact files catalogue_name name catalogue say))
        (said calm sink_calm catalogue_name name is))

  module _ (completes : CompleteWhereTold call) where
    -- what follows of each outcome of the words and the files follows of the call, where they are told
    told : {Fact : Files → Type 0} → ((files : Files) → HoldsOfPut (Outcome call.words files) call → Fact files) → WhereTold call Fact
    told so = IfSome_then call.files completes (λ files holds calm sink_calm. so files (holds calm sink_calm))

    exact : OutcomesAreDetermined → ExactWhereTold call
    exact determined = told (λ files outcome said text is. elim outcome [
      | inl whole ↦
          let same = determined call.words files call.status said whole.0 text whole.1 is in
          inl (same.0, λ fixes. subst (HasPut call) (same.1 (subst (FixesText call.words) (sym same.0) fixes)) whole.2)
      | inr wants ↦ inr wants
    ])

    -- where there is an outcome, the answer is it
    answered : OutcomesAreWhereFilesAre → AnsweredWhereTold call
    answered where_files = told (λ files outcome have. elim outcome [
      | inl whole ↦ (call.status, whole.0, whole.1, inl (refl, whole.2))
      | inr wants ↦ let (said, text, is) = (where_files call.words files).1 have in (said, text, is, inr wants)
    ])

-- ---- the call

pub is_mediation : OutcomeLaws → (call : Call) (answer : Result Reply Status) → Answers (course_of call.words call.files) call.shelf_rose answer
    → AsksIn call.asked_before call.asked_after (course_of call.words call.files) answer
    → AnswersFill (request_of call.words) call.files call.asked_before call.asked_after call.shelf_rose answer → FinishesCall answer call → IsMediation call
is_mediation laws call answer answers asks fills finishes =
    record {
      outcome = outcome;
      filled = filled.0;
      complete = completes;
      exact = exact call completes laws.determined;
      answered = answered call completes laws.exactly;
      headline = told call completes (λ files says catalogue_name query_name catalogue query is say.
          put_so call (λ text. laws.lists call.words files catalogue_name query_name catalogue query call.status text is say) says);
      refusal = told call completes (λ files says catalogue_name query_name catalogue query is say.
          put_so call (λ text. laws.refusals call.words files catalogue_name query_name catalogue query call.status text is say) says);
      list_union = told call completes (λ files says catalogue_name query_name catalogue queries is say.
          put_so call (λ text. laws.union_lists call.words files catalogue_name query_name catalogue queries call.status text is say) says);
      run = told call completes (λ files says catalogue_name query_name number catalogue query asks say.
          put_so call (λ text. laws.runs call.words files catalogue_name query_name number catalogue query call.status text asks say) says);
      run_union = told call completes (λ files says catalogue_name query_name number catalogue queries asks say.
          put_so call (λ text. laws.union_runs call.words files catalogue_name query_name number catalogue queries call.status text asks say) says);
      bench = benches_always call outcome;
      answer = told call completes (λ files says catalogue_name query_name catalogue query is say.
          put_so call (λ text. laws.answers call.words files catalogue_name query_name catalogue query call.status text is say) says);
      fill = fills_where_told call filled.0 laws.fills;
      audit = told call completes (λ files says name catalogue is say.
          put_so call (λ text. laws.audits call.words files name catalogue call.status text is say) says);
      answer_union = told call completes (λ files says catalogue_name query_name catalogue queries is say say_union.
          put_so call (λ text. laws.union_answers call.words files catalogue_name query_name catalogue queries call.status text is say say_union) says);
      contains = told call completes (λ files says catalogue_name left_name right_name catalogue left right is say say_right.
          put_so call (λ text. laws.contains call.words files catalogue_name left_name right_name catalogue left right call.status text is say say_right)
          says);
      minimise = told call completes (λ files says catalogue_name query_name catalogue query is say.
          put_so call (λ text. laws.minimise call.words files catalogue_name query_name catalogue query call.status text is say) says);
      explain = told call completes (λ files says catalogue_name query_name number catalogue query asks say.
          put_so call (λ text. laws.explain call.words files catalogue_name query_name number catalogue query call.status text asks say) says);
      verify = told call completes (λ files says catalogue_name query_name numbers file catalogue query asks say.
          put_so call (λ text. laws.verify call.words files catalogue_name query_name numbers file catalogue query call.status text asks say) says);
      read_fault = read_fault (course_of call.words call.files) call outcome;
      write_fault = write_fault (course_of call.words call.files) call outcome;
      asked = asks_along (course_of call.words call.files) call answer answers asks finishes;
      filled_asked = filled.1;
    }
  where
    outcome : Mediates (course_of call.words call.files) call
    outcome = mediates (course_of call.words call.files) call answer answers finishes

    completes : CompleteWhereTold call
    completes = complete call outcome

    filled : MediatesFill (request_of call.words) call × AsksAlongFill (request_of call.words) call
    filled = of_fill (request_of call.words) call answer fills finishes
