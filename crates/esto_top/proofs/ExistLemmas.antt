-- The courses of command lines come to an end, or ask for a file that is not there.
use Rattle.std.proofs.Common.{◌≡◌, ◌≢◌, ◌⊎◌, ◌<◌, inl, inr, ℕ, Bool, true, false, List, [], ◌∷◌, length, slice_get, Some, None, Option, refl, ap, arith}
use Rattle.std.specs.Prelude.{◌&&◌, if◌then◌else◌, codes}
use Rattle.std.proofs.lemmas.Bool.{and_parts}
use Rattle.either.specs.Either.{MatchEither}
use Rattle.either.specs.declared.Either.{Either}
use Rattle.either.specs.declared.Either.TheVariants.{Left, Right}
use Rattle.esto_bench.specs.Summary.{IsSummaryOfCase, summary_text}
use Rattle.esto_mapping.specs.declared.catalogue.Catalogue.{Catalogue}
use Rattle.esto_top.specs.Verify.{verify_course}
use Rattle.esto_chase_laws.specs.declared.clash.Clash.{Clash}
use Rattle.esto_course.specs.Course.{Course, and_then, gives, judges}
use Rattle.esto_rewriting.specs.List.{lists_union}
use Rattle.esto_list.specs.declared.listing.Listed.{Listed}
use Rattle.esto_run.specs.Fragments.{opens_fragments}
use Rattle.esto_status.specs.Line.{line_of}
use Rattle.esto_opening.specs.Opening.{opens_catalogue, opens_union}
use Rattle.esto_status.specs.Replies.{reply_status, reply_text}
use Rattle.esto_opening.specs.Unions.{OpenedFormUnions}
use Rattle.esto_status.specs.declared.reply.Reply.{Reply}
use Rattle.esto_status.specs.declared.reply.Reply.TheVariants.{Done, Unsatisfiable as UnsatisfiableReply}
use Rattle.esto_status.specs.declared.status.Status.{Status}
use Rattle.esto_status.specs.declared.status.Status.TheVariants as status
use Rattle.esto_status.specs.declared.status.Status.TheVariants.{Usage}
use Rattle.esto_rewriting.specs.Choice.{HasNoPlace, IsItemOf, IsPlace}
use Rattle.esto_rewriting.specs.Listing.{IsClash, IsListOf, IsListing, IsPlanned}
use Rattle.esto_rewriting.specs.Planning.{chooses, ends_query, plans_query}
use Rattle.esto_ports.specs.Files.{Files}
use Rattle.esto_query.specs.declared.query.Query.{Query}
use Rattle.esto_run.specs.Answers.{rows_text}
use Rattle.esto_run.specs.Used.{AreUsed}
use Rattle.esto_term.proofs.ListLemmas.{thing_at}
use Rattle.esto_views.specs.Plans.{plan_query}
use Rattle.esto_views.specs.declared.plan.Plan.{Plan}
use Rattle.esto_top.specs.Ends.{EndsOrLacks}
use Rattle.esto_top.specs.Ends.Ends.{goes, stops, lacks}
use Rattle.esto_top.proofs.CourseLemmas.{ends_by, ends_judged, ends_more, ends_refused, ends_then, gives_ends, judges_accepted, judges_accepts}
use Rattle.esto_top.proofs.CourseLemmas.{judges_goes, refuses_ends}
use Rattle.esto_top.specs.Bench.{bench_course}
use Rattle.esto_top.specs.Check.{check_course, check_text, prints_check}
use Rattle.esto_top.specs.Existing.{HasOutcome, LacksFile, OutcomesExist}
use Rattle.esto_top.specs.Grammar.{Request, atom_numbers, course_of, course_of_asked, is_list_number, is_made_size, is_word, names_atoms, request_of}
use Rattle.esto_top.specs.Grammar.{request_of_one, request_of_three, request_of_two, verifies_named}
use Rattle.esto_top.specs.Grammar.Request.{AnswerFor, AuditOf, BenchOf, CheckOf, ContainsFor, ExplainFor, FillFor, ListFor, MinimiseFor, RunFor, VerifyFor}
use Rattle.esto_top.specs.Laws.{StepLaws}
use Rattle.esto_top.specs.List.{list_course, lists_queries, lists_query, prints_list}
use Rattle.esto_top.specs.Outcome.Says.{replies, refuses as by_refusal}
use Rattle.esto_top.specs.Run.{IsRunText, run_course, runs_end, runs_item, runs_plan, runs_queries, runs_query}
use Rattle.esto_top.proofs.SizeLemmas.{sized as made_sized}

-- ---- ends and outcomes

module _ (words : List (List ℕ)) (files : Files) where
  abbrev line : Course Status Reply
  line = course_of words (Some files)

  pub outcome_or_lack : EndsOrLacks line → HasOutcome words files ⊎ LacksFile words files
  outcome_or_lack (goes names reply asks) = inl (reply_status reply, reply_text reply, replies reply (line.asks_goes names reply asks) refl refl)
  outcome_or_lack (stops names refusal caused asks) = inl (refusal, line_of refusal, by_refusal caused (line.asks_stops names refusal asks) refl)
  outcome_or_lack (lacks names may asks) = inr (names, asks)

-- ---- the sizes that words name

-- A size that is asked for is above 0.
abbrev IsSized : Option Request → Type 0
IsSized (Some (BenchOf size)) = 0 < size
IsSized _ = Unit {0}

chosen : (test : Bool) (left right : Option Request) → (test ≡ true → IsSized left) → IsSized right → IsSized (if test then left else right)
chosen true left right first second = first refl
chosen false left right first second = second

one_sized : (verb word : List ℕ) → IsSized (request_of_one verb word)
one_sized verb word =
    chosen (is_word verb (codes "check")) _ _ (λ _. tt)
    (chosen (is_word verb (codes "audit")) _ _ (λ _. tt)
    (chosen (is_word verb (codes "bench") && is_made_size word) _ _
    (λ is. (made_sized word (and_parts (is_word verb (codes "bench")) (is_made_size word) is).1).2) tt))

two_sized : (verb first second : List ℕ) → IsSized (request_of_two verb first second)
two_sized verb first second =
    chosen (is_word verb (codes "list")) _ _ (λ _. tt)
    (chosen (is_word verb (codes "run")) _ _ (λ _. tt)
    (chosen (is_word verb (codes "fill")) _ _ (λ _. tt)
    (chosen (is_word verb (codes "answer")) _ _ (λ _. tt)
    (chosen (is_word verb (codes "minimise")) _ _ (λ _. tt) tt))))

three_sized : (verb first second third : List ℕ) → IsSized (request_of_three verb first second third)
three_sized verb first second third =
    chosen (is_word verb (codes "contains")) _ _ (λ _. tt)
    (chosen (is_word verb (codes "run") && is_list_number third) _ _ (λ _. tt)
    (chosen (is_word verb (codes "explain") && is_list_number third) _ _ (λ _. tt) tt))

words_sized : (words : List (List ℕ)) → IsSized (request_of words)
words_sized [] = tt
words_sized (verb ∷ []) = tt
words_sized (verb ∷ word ∷ []) = one_sized verb word
words_sized (verb ∷ first ∷ second ∷ []) = two_sized verb first second
words_sized (verb ∷ first ∷ second ∷ third ∷ []) = three_sized verb first second third
words_sized (verb ∷ first ∷ second ∷ third ∷ fourth ∷ []) = chosen (is_word verb (codes "verify")) _ _ (λ _. tt) tt
words_sized (verb ∷ first ∷ second ∷ third ∷ fourth ∷ fifth ∷ rest) = tt

-- ---- one query or more

some_query : OpenedFormUnions → (files : Option Files) (name : List ℕ) (catalogue : Catalogue) (queries : List Query)
    → (opens_union files name catalogue).goes queries → queries ≢ []
some_query formed files name catalogue queries opened none =
    let form = formed files name catalogue queries opened in
    let empty : length queries ≡ 0 = ap length none in
    omega (arith, form.some, empty)

module _ (laws : StepLaws) where
  -- ---- `list`

  module _ (catalogue : Catalogue) where
    list_ends : (query : Query) → EndsOrLacks (lists_query catalogue query)
    list_ends query =
        ends_then (plans_query catalogue query) (prints_list catalogue query) (ends_more (plans_query catalogue query) (laws.plans catalogue query))
        (λ plan goes. printed plan (judges_accepted (IsPlanned catalogue query) Refuses plan goes))
      where
        Refuses : Status → Type 0
        Refuses refusal = (clash : Clash) × IsClash catalogue query clash × (refusal ≡ status.Unsatisfiable clash)

        printed : (plan : Plan) → IsPlanned catalogue query plan → EndsOrLacks (prints_list catalogue query plan)
        printed plan planned =
            let text = laws.texts catalogue query plan planned in judges_accepts (IsListing catalogue query plan) (λ _. ⊥) text.0 text.1

    queries_list : (queries : List Query) → queries ≢ [] → EndsOrLacks (lists_queries catalogue queries)
    queries_list [] some = absurd (some refl)
    queries_list (query ∷ []) some = list_ends query
    queries_list (query ∷ other ∷ rest) some =
        ends_more (lists_union catalogue (query ∷ other ∷ rest)) (laws.union_list catalogue (query ∷ other ∷ rest) some)

  -- ---- `run`

  module _ (files : Files) (catalogue : Catalogue) where
    module _ (query : Query) where
      module _ (plan : Plan) (planned : IsPlanned catalogue query plan) where
        item_ends : (item : Listed) → IsItemOf catalogue query plan item → EndsOrLacks (runs_item (Some files) catalogue query plan item)
        item_ends item is =
            ends_judged (AreUsed (plan_query plan).body item.set) (λ _. ⊥) (λ numbers. and_then (opens_fragments (Some files) catalogue numbers) after)
            (laws.fragments plan item.set) (λ numbers are.
            ends_then (opens_fragments (Some files) catalogue numbers) after (laws.opened files catalogue query plan item numbers planned is are)
            (λ contents goes.
            ends_judged (IsRunText catalogue query plan item.set contents) (λ _. ⊥) (λ text. gives (Done text))
            (laws.rows files catalogue query plan item numbers planned is are contents goes) (λ text _. gives_ends (Done text))))
          where
            after : (ℕ → List ℕ) → Course Status Reply
            after contents = and_then (judges (IsRunText catalogue query plan item.set contents) (λ _. ⊥)) (λ text. gives (Done text))

        plan_ends : (number : Option ℕ) → EndsOrLacks (runs_plan (Some files) catalogue query number plan)
        plan_ends number =
            ends_judged (IsListOf catalogue query plan) (λ _. ⊥) (λ items. and_then (chooses items number) (after items))
            (laws.lists catalogue query plan planned) (λ items list.
            ends_then (chooses items number) (after items) (ends_more (chooses items number) (laws.chosen items number)) (λ place goes.
            ends_judged (λ item. slice_get items place ≡ Some item) (λ _. ⊥) (runs_item (Some files) catalogue query plan)
            (thing_at items place (laws.place items number place (judges_accepted (IsPlace items number) (HasNoPlace items number) place goes)))
            (λ item at. item_ends item (laws.item catalogue query plan items place item list at))))
          where
            after : List Listed → ℕ → Course Status Reply
            after items place = and_then (judges (λ item. slice_get items place ≡ Some item) (λ _. ⊥)) (runs_item (Some files) catalogue query plan)

      run_ends : (number : Option ℕ) → EndsOrLacks (runs_query (Some files) catalogue query number)
      run_ends number =
          ends_then (ends_query catalogue query) (runs_end (Some files) catalogue query number)
          (ends_more (ends_query catalogue query) (laws.ends catalogue query))
          (λ end goes. by end (judges_accepted (λ it. MatchEither it (IsPlanned catalogue query) (IsClash catalogue query)) (λ _. ⊥) end goes))
        where
          by : (end : Either Plan Clash) → MatchEither end (IsPlanned catalogue query) (IsClash catalogue query)
              → EndsOrLacks (runs_end (Some files) catalogue query number end)
          by (Left plan) planned = plan_ends plan planned number
          by (Right clash) is = gives_ends (UnsatisfiableReply clash (rows_text query []))

    queries_run : (number : Option ℕ) (queries : List Query) → queries ≢ [] → EndsOrLacks (runs_queries (Some files) catalogue queries number)
    queries_run number [] some = absurd (some refl)
    queries_run number (query ∷ []) some = run_ends query number
    queries_run number (query ∷ other ∷ rest) some = laws.union_run files catalogue (query ∷ other ∷ rest) some number

  -- ---- the courses

  module _ (files : Files) where
    checks_end : (catalogue_name : List ℕ) → EndsOrLacks (check_course (Some files) catalogue_name)
    checks_end catalogue_name =
        ends_then (opens_catalogue (Some files) catalogue_name) prints_check (laws.catalogue files catalogue_name)
        (λ catalogue _. gives_ends (Done (check_text catalogue)))

    lists_end : (catalogue_name query_name : List ℕ) → EndsOrLacks (list_course (Some files) catalogue_name query_name)
    lists_end catalogue_name query_name =
        ends_then _ _ (laws.catalogue files catalogue_name) (λ catalogue _. ends_then _ _ (laws.union files query_name catalogue) (λ queries opened.
        ends_then (lists_queries catalogue queries) (λ text. gives (Done text))
        (queries_list catalogue queries (some_query laws.formed (Some files) query_name catalogue queries opened)) (λ text _. gives_ends (Done text))))

    all_runs_end : (catalogue_name query_name : List ℕ) (number : Option ℕ) → EndsOrLacks (run_course (Some files) catalogue_name query_name number)
    all_runs_end catalogue_name query_name number =
        ends_then _ _ (laws.catalogue files catalogue_name) (λ catalogue _. ends_then _ _ (laws.union files query_name catalogue) (λ queries opened.
        queries_run files catalogue number queries (some_query laws.formed (Some files) query_name catalogue queries opened)))

    benches_end : (size : ℕ) → 0 < size → EndsOrLacks (bench_course size)
    benches_end size some =
        ends_judged (IsSummaryOfCase size) (λ _. ⊥) (λ summary. gives (Done (summary_text summary))) (laws.summary size some)
        (λ summary _. gives_ends (Done (summary_text summary)))

    named_ends : (catalogue_name query_name atoms file : List ℕ) → EndsOrLacks (verifies_named (Some files) catalogue_name query_name atoms file)
    named_ends catalogue_name query_name atoms file = by (atom_numbers atoms) refl
      where
        Accepts : List ℕ → Type 0
        Accepts numbers = atom_numbers atoms ≡ Some numbers

        Refuses : Status → Type 0
        Refuses refusal = (atom_numbers atoms ≡ None) × (refusal ≡ Usage)

        by : (found : Option (List ℕ)) → atom_numbers atoms ≡ found → EndsOrLacks (verifies_named (Some files) catalogue_name query_name atoms file)
        by None is =
            ends_refused Accepts Refuses (λ numbers. verify_course (Some files) catalogue_name query_name numbers file) Usage (record { cause = tt }) (is, refl)
        by (Some numbers) is =
            ends_by (names_atoms atoms) (λ numbers. verify_course (Some files) catalogue_name query_name numbers file) numbers
            (judges_goes Accepts Refuses numbers is) (laws.verify files catalogue_name query_name numbers file)

    asked_ends : (request : Option Request) → IsSized request → EndsOrLacks (course_of_asked (Some files) request)
    asked_ends None sized = refuses_ends Usage (record { cause = tt })
    asked_ends (Some (CheckOf catalogue)) sized = checks_end catalogue
    asked_ends (Some (ListFor catalogue query)) sized = lists_end catalogue query
    asked_ends (Some (RunFor catalogue query number)) sized = all_runs_end catalogue query number
    asked_ends (Some (AnswerFor catalogue query)) sized = laws.answer files catalogue query
    asked_ends (Some (AuditOf catalogue)) sized = laws.audit files catalogue
    asked_ends (Some (ContainsFor catalogue left right)) sized = laws.contains files catalogue left right
    asked_ends (Some (MinimiseFor catalogue query)) sized = laws.minimise files catalogue query
    asked_ends (Some (BenchOf size)) sized = benches_end size sized
    asked_ends (Some (FillFor catalogue fragment)) sized = laws.fill files catalogue fragment
    asked_ends (Some (ExplainFor catalogue query number)) sized = laws.explain files catalogue query number
    asked_ends (Some (VerifyFor catalogue query atoms file)) sized = named_ends catalogue query atoms file

pub outcomes_exist : StepLaws → OutcomesExist
outcomes_exist laws words files = outcome_or_lack words files (asked_ends laws files (request_of words) (words_sized words))
