-- What `run` answers where the files say a catalogue and a query over it.
use Rattle.std.proofs.Common.{◌≡◌, ◌≢◌, ◌↔◌, ℕ, true, false, Bool, List, [], ◌∷◌, map, length, slice_get, Contains, Option, Some, None, refl, sym, ap, subst}
use Rattle.std.proofs.Common.{◌∙◌, inl, inr, arith}
use Rattle.std.specs.Prelude.{codes}
use Rattle.std.proofs.lemmas.Option.{same_Some, none-some}
use Rattle.either.specs.declared.Either.TheVariants.{Left, Right}
use Rattle.esto_mapping.specs.Catalogues.{AreSame}
use Rattle.esto_mapping.specs.declared.catalogue.Catalogue.{Catalogue}
use Rattle.esto_docmodel.specs.declared.file.Store.{Store}
use Rattle.esto_chase_laws.specs.declared.clash.Clash.{Clash}
use Rattle.esto_constraint.specs.Constraints.{rules_of}
use Rattle.esto_course.specs.Course.{judges, gives, and_then}
use Rattle.esto_list.specs.declared.listing.Listed.{Listed}
use Rattle.esto_ports.specs.Files.{Files}
use Rattle.esto_query.specs.Making.{query_of}
use Rattle.esto_query.specs.declared.query.Query.{Query}
use Rattle.esto_run.specs.Answers.{rows_text}
use Rattle.esto_run.specs.Laws.{IsAnswerOver, FilesHoldViewRows, RewritingsAnswerQueries}
use Rattle.esto_docs.specs.Stores.{IsFileRow, IsRowIn}
use Rattle.esto_run.specs.Used.{AreUsed}
use Rattle.esto_semantics.specs.Facts.{Database}
use Rattle.esto_semantics.specs.Listed.{IsListed, candidate}
use Rattle.esto_semantics.specs.ListedLaws.{ChosenAreNamed}
use Rattle.esto_semantics.specs.Queries.{ConjunctiveQuery, IsAnswer}
use Rattle.esto_semantics.specs.Rules.{Meets}
use Rattle.esto_semantics.specs.declared.fact.Fact.{Fact}
use Rattle.esto_semantics.specs.declared.fact.Value.TheVariants.{Text}
use Rattle.esto_semantics.proofs.ValueLemmas.{same_texts}
use Rattle.esto_stores.specs.Rows.{Row}
use Rattle.esto_term.specs.declared.term.Term.{Term}
use Rattle.esto_views.specs.Fragments.{views_of, patterns_of}
use Rattle.esto_views.specs.Plans.{plan_query}
use Rattle.esto_views.specs.declared.plan.Plan.{Plan}
use Rattle.esto_status.specs.Answers.{IsCaused}
use Rattle.esto_run.specs.Fragments.{IsReadableFragment, opens_fragments}
use Rattle.esto_run.specs.Readable.{AreReadable, OpenedAreReadable, ReadableAreOpened, TellsOfFile}
use Rattle.esto_run.specs.Readable.TellsOfFile.{fails, is_longer, has_fault}
use Rattle.esto_status.proofs.StatusLemmas.{same_clash, same_asked, same_least}
use Rattle.esto_top.specs.Grammar.{course_of, is_list_number}
use Rattle.esto_top.specs.Headline.{FilesSay, HasAnswers, Rewrites}
use Rattle.esto_status.specs.Replies.{reply_status, reply_text}
use Rattle.esto_top.specs.Outcome.{Says}
use Rattle.esto_top.specs.Run.{IsRunText, run_course, runs_queries, runs_query}
use Rattle.esto_rewriting.specs.Choice.HasNoPlace.{is_empty, is_above}
use Rattle.esto_top.specs.Runs.{AsksRun, CanRun, IsAboveList, PrintsAnswers, PrintsRun, TellsClash, IsExactRun, OutcomesAreRuns}
use Rattle.esto_status.specs.declared.reply.Reply.{Reply}
use Rattle.esto_status.specs.declared.reply.Reply.TheVariants.{Done, Unsatisfiable}
use Rattle.esto_status.specs.declared.status.Status.{Status}
use Rattle.esto_status.specs.declared.status.Status.TheVariants as status
use Rattle.esto_top.proofs.AlikeRunLemmas.{run_text_moved}
use Rattle.esto_top.specs.Laws.{ListingLaws, OpeningLaws}
use Rattle.esto_top.proofs.HeadlineLemmas.{empty-without}
use Rattle.esto_status.specs.Calm.{Leads}
use Rattle.esto_status.proofs.LeadLemmas.{then-leads}
use Rattle.esto_run.proofs.RowsTextLemmas.{same_rows, same_rows_text}
use Rattle.esto_top.proofs.LeadLemmas.{says-leads}
use Rattle.esto_top.proofs.RunLemmas.{uses_only}
use Rattle.esto_top.proofs.SayLemmas.{alone_opens, catalogue_leads, catalogue_opens, one_alone, union_leads}
use Rattle.esto_query.specs.Same.{IsSameQuery}
use Rattle.esto_rewriting.specs.Alike.{IsSamePlan}
use Rattle.esto_rewriting.specs.Choice.{HasNoPlace, IsPlace}
use Rattle.esto_rewriting.specs.Listing.{IsClash, IsListOf, IsPlanned}

-- ---- the course of a query

module _ (files : Files) (catalogue : Catalogue) (query : Query) (number : Option ℕ) where
  -- how a run of the query ends with a reply: a listed set is run, or the query's run ends with a clash
  pub data RunGoes (reply : Reply) : Type 0 where
    is_run : (plan : Plan) → IsPlanned catalogue query plan → (items : List Listed) → IsListOf catalogue query plan items → (place : ℕ)
        → IsPlace items number place → (item : Listed) → slice_get items place ≡ Some item → (numbers : List ℕ)
        → AreUsed (plan_query plan).body item.set numbers → (contents : ℕ → List ℕ) → (opens_fragments (Some files) catalogue numbers).goes contents
        → (text : List ℕ) → IsRunText catalogue query plan item.set contents text → reply ≡ Done text → RunGoes reply
    has_clash : (clash : Clash) → IsClash catalogue query clash → reply ≡ Unsatisfiable clash (rows_text query []) → RunGoes reply

  -- and how it stops: no set is chosen, or a file of the chosen set's is not opened
  pub data RunStops (refusal : Status) : Type 0 where
    none_chosen : (plan : Plan) → IsPlanned catalogue query plan → (items : List Listed) → IsListOf catalogue query plan items
        → IsCaused ⊥ refusal → HasNoPlace items number refusal → RunStops refusal
    not_opened : (plan : Plan) → IsPlanned catalogue query plan → (items : List Listed) → IsListOf catalogue query plan items → (place : ℕ)
        → IsPlace items number place → (item : Listed) → slice_get items place ≡ Some item → (numbers : List ℕ)
        → AreUsed (plan_query plan).body item.set numbers → IsCaused ⊥ refusal → (opens_fragments (Some files) catalogue numbers).stops refusal
        → RunStops refusal

  run_goes : (reply : Reply) → (runs_query (Some files) catalogue query number).goes reply → RunGoes reply
  unfolding and_then judges gives
  run_goes reply (Left plan, planned, (items, list, (place, chosen, (item, there, (numbers, used, (contents, opened, (text, printed, is))))))) =
      is_run plan planned items list place chosen item there numbers used contents opened text printed is
  run_goes reply (Right clash, clashes, is) = has_clash clash clashes is

  run_stops : (refusal : Status) → IsCaused ⊥ refusal → (runs_query (Some files) catalogue query number).stops refusal → RunStops refusal
  unfolding and_then judges gives
  run_stops refusal caused (inl never) = absurd never
  run_stops refusal caused (inr (Right clash, clashes, never)) = absurd never
  run_stops refusal caused (inr (Left plan, planned, inl never)) = absurd never
  run_stops refusal caused (inr (Left plan, planned, inr (items, list, inl none))) = none_chosen plan planned items list caused none
  run_stops refusal caused (inr (Left plan, planned, inr (items, list, inr (place, chosen, inl never)))) = absurd never
  run_stops refusal caused (inr (Left plan, planned, inr (items, list, inr (place, chosen, inr (item, there, inl never))))) = absurd never
  run_stops refusal caused (inr (Left plan, planned, inr (items, list, inr (place, chosen, inr (item, there, inr (numbers, used, inl stops)))))) =
      not_opened plan planned items list place chosen item there numbers used caused stops
  run_stops refusal caused (inr (
    Left plan,
    planned,
    inr (
      items,
      list,
      inr (
        place,
        chosen,
        inr (
          item,
          there,
          inr (
            numbers,
            used,
            inr (contents, opened, inl never),
          ),
        ),
      ),
    ),
  )) =
      absurd never
  run_stops refusal caused (inr (
    Left plan,
    planned,
    inr (
      items,
      list,
      inr (
        place,
        chosen,
        inr (
          item,
          there,
          inr (
            numbers,
            used,
            inr (contents, opened, inr (text, printed, never)),
          ),
        ),
      ),
    ),
  )) = absurd never

  pub query_runs : Leads (runs_query (Some files) catalogue query number) RunGoes RunStops
  query_runs = record { goes = run_goes; stops = run_stops }

-- ---- the files

-- a status that tells of a file is not Done, Unsatisfiable, NoRewriting or NoSuchNumber
file_not_done : (said : Status) → TellsOfFile said → said ≢ status.Done
file_not_done said (fails name is) other = let h : status.ReadFault name ≡ status.Done = sym is ∙ other in cc
file_not_done said (is_longer name limit is) other = let h : status.TooLong name limit ≡ status.Done = sym is ∙ other in cc
file_not_done said (has_fault name fault is) other = let h : status.BadFragment name fault ≡ status.Done = sym is ∙ other in cc

file_not_clash : (clash : Clash) (said : Status) → TellsOfFile said → said ≢ status.Unsatisfiable clash
file_not_clash clash said (fails name is) other = let h : status.ReadFault name ≡ status.Unsatisfiable clash = sym is ∙ other in cc
file_not_clash clash said (is_longer name limit is) other = let h : status.TooLong name limit ≡ status.Unsatisfiable clash = sym is ∙ other in cc
file_not_clash clash said (has_fault name fault is) other = let h : status.BadFragment name fault ≡ status.Unsatisfiable clash = sym is ∙ other in cc

file_not_none : (said : Status) → TellsOfFile said → said ≢ status.NoRewriting
file_not_none said (fails name is) other = let h : status.ReadFault name ≡ status.NoRewriting = sym is ∙ other in cc
file_not_none said (is_longer name limit is) other = let h : status.TooLong name limit ≡ status.NoRewriting = sym is ∙ other in cc
file_not_none said (has_fault name fault is) other = let h : status.BadFragment name fault ≡ status.NoRewriting = sym is ∙ other in cc

file_not_above : (asked count : ℕ) (said : Status) → TellsOfFile said → said ≢ status.NoSuchNumber asked count
file_not_above asked count said (fails name is) other = let h : status.ReadFault name ≡ status.NoSuchNumber asked count = sym is ∙ other in cc
file_not_above asked count said (is_longer name limit is) other =
    let h : status.TooLong name limit ≡ status.NoSuchNumber asked count = sym is ∙ other in cc
file_not_above asked count said (has_fault name fault is) other =
    let h : status.BadFragment name fault ≡ status.NoSuchNumber asked count = sym is ∙ other in cc

-- ---- the rows

-- the answers of a query over files rest on the contents of those that it uses
pub over_same : (stores : List Store) (contents others : ℕ → List ℕ) (query : ConjunctiveQuery)
    → ((atom : Fact Term) → Contains query.body atom → contents atom.relation ≡ others atom.relation)
    → (row : Row) → IsAnswerOver (IsFileRow stores contents) query row → IsAnswerOver (IsFileRow stores others) query row
over_same stores contents others query same row (m, keeps, sends, is) = (
  m,
  keeps,
  λ atom inside. let (store, there, has) = sends atom inside in
      (store, there, subst (λ (it : List ℕ). IsRowIn store.shape it (map m atom.terms)) (same atom inside) has),
  is,
)

-- the laws of runs
pub record RunLaws : Type 0 where
  pub answers : RewritingsAnswerQueries
  pub named : ChosenAreNamed
  pub opened : OpenedAreReadable
  pub readable : ReadableAreOpened

module _ (laws : RunLaws) (catalogue : Catalogue) (query : Query) (plan : Plan) (set : List Bool)
    (listed : IsListed (rules_of catalogue.rules) (views_of catalogue.fragments) (patterns_of catalogue.fragments) (query_of query) (plan_query plan) set)
    (contents : ℕ → List ℕ) (text : List ℕ) (is_text : IsRunText catalogue query plan set contents text) where
  answers-printed : (database : Database) → Meets (rules_of catalogue.rules) database
      → FilesHoldViewRows (views_of catalogue.fragments) database (candidate (plan_query plan) set) catalogue.stores contents
      → PrintsAnswers query database text
  answers-printed database meets holds =
      let law = laws.answers (rules_of catalogue.rules) (views_of catalogue.fragments) (patterns_of catalogue.fragments) (query_of query) (plan_query plan)
      set catalogue.stores contents database listed.0 meets holds in
      record {
        exact = same_rows query (IsAnswerOver (IsFileRow catalogue.stores contents) (candidate (plan_query plan) set))
            (λ row. IsAnswer (query_of query) database (map Text row)) text
            (λ row. (
              λ over. (law (map Text row)).1 (row, refl, over),
              λ answer. let (other, same, over) = (law (map Text row)).0 answer in
                  subst (IsAnswerOver (IsFileRow catalogue.stores contents) (candidate (plan_query plan) set)) (sym (same_texts row other same)) over,
            )) is_text;
        texts = λ values answer. let (row, is, over) = (law values).0 answer in (row, is);
      }

  pub run_printed : PrintsRun catalogue query plan set contents text
  run_printed = record { rows = is_text; answers = answers-printed }

-- ---- the numbers

-- ---- the whole course

module _ (opening : OpeningLaws) (files : Files) (catalogue_name query_name : List ℕ) (catalogue : Catalogue) (query : Query)
    (say : FilesSay files catalogue_name query_name catalogue query) (number : Option ℕ) where
  -- over which catalogue and query a whole run replied or stopped
  record HasRun (reply : Reply) : Type 0 where
    other : Catalogue
    alike : AreSame catalogue other
    read : Query
    same : IsSameQuery query read
    goes : RunGoes files other read number reply

  record HasStopped (refusal : Status) : Type 0 where
    other : Catalogue
    alike : AreSame catalogue other
    read : Query
    same : IsSameQuery query read
    stops : RunStops files other read number refusal

  read_runs : (other : Catalogue) → AreSame catalogue other → (read : Query) → IsSameQuery query read
      → Leads (runs_query (Some files) other read number) HasRun HasStopped
  read_runs other alike read same =
      let leads = query_runs files other read number in record {
        goes = λ reply goes. record { other = other; alike = alike; read = read; same = same; goes = leads.goes reply goes };
        stops = λ refusal caused stops. record { other = other; alike = alike; read = read; same = same; stops = leads.stops refusal caused stops };
      }

  run_leads : Leads (run_course (Some files) catalogue_name query_name number) HasRun HasStopped
  run_leads =
      then-leads _ _ _ _ _
      (catalogue_leads opening files catalogue_name query_name catalogue HasStopped
      (catalogue_opens files catalogue_name catalogue say.says_catalogue)) (λ other alike.
      then-leads _ _ _ _ _
      (union_leads opening files catalogue_name query_name catalogue HasStopped (query ∷ [])
      (alone_opens files query_name catalogue opening.alone query say.says_query) other alike)
      (one_alone query (λ queries. Leads (runs_queries (Some files) other queries number) HasRun HasStopped) (read_runs other alike)))

  module _ (laws : ListingLaws) (run_laws : RunLaws) where
    module _ (other : Catalogue) (alike : AreSame catalogue other) (read : Query) (same : IsSameQuery query read) where
      module _ (plan : Plan) (planned : IsPlanned other read plan) where
        planned_here : IsPlanned catalogue query plan
        planned_here = laws.planning.plan_moved catalogue other query read plan alike same planned

        answers_here : HasAnswers catalogue query
        answers_here = laws.satisfiable catalogue query plan planned_here

        list_here : (items : List Listed) → IsListOf other read plan items → IsListOf catalogue query plan items
        list_here items list = laws.planning.list_moved catalogue other query read plan items alike same list

        empty_here : (items : List Listed) → IsListOf other read plan items
            → (items ≡ []) ↔ ((rewriting : ConjunctiveQuery) → ¬ (Rewrites catalogue query rewriting))
        empty_here items list = empty-without laws catalogue query plan planned_here items (list_here items list)

        -- a number above the length of the query's list is above that of this one
        above_here : (items : List Listed) → IsListOf other read plan items → (asked count : ℕ) → IsAboveList catalogue query number asked count
            → HasNoPlace items number (status.NoSuchNumber asked count)
        unfolding judges
        above_here items list asked count above =
            let plans : IsSamePlan above.plan plan =
            (laws.planning.plan catalogue other query read alike same).one above.plan plan above.planned planned in
            let lists : above.items ≡ items =
            (laws.planning.list catalogue other query read above.plan plan alike same plans).one above.items items above.list list in
            is_above asked above.asks (λ empty. above.some (lists ∙ empty)) (omega (arith, above.above, above.counts, ap length lists))
            (ap (status.NoSuchNumber asked) (sym above.counts ∙ ap length lists))

        module _ (items : List Listed) (list : IsListOf other read plan items) (can : CanRun files catalogue query number) where
          plans : IsSamePlan can.plan plan
          unfolding judges
          plans = (laws.planning.plan catalogue other query read alike same).one can.plan plan can.planned planned

          same_list : can.items ≡ items
          unfolding judges
          same_list = (laws.planning.list catalogue other query read can.plan plan alike same plans).one can.items items can.list list

          chosen_anyway : (refusal : Status) → IsCaused ⊥ refusal → HasNoPlace items number refusal → ⊥
          unfolding judges
          chosen_anyway refusal caused none = (laws.planning.choice can.items number).apart can.place refusal caused can.chosen
              (subst (λ (it : List Listed). HasNoPlace it number refusal) (sym same_list) none)

          module _ (place : ℕ) (chosen : IsPlace items number place) (item : Listed) (there : slice_get items place ≡ Some item) (numbers : List ℕ)
              (used : AreUsed (plan_query plan).body item.set numbers) where
            same_place : can.place ≡ place
            unfolding judges
            same_place = (laws.planning.choice can.items number).one can.place place can.chosen
                (subst (λ (it : List Listed). IsPlace it number place) (sym same_list) chosen)

            same_item : can.item ≡ item
            same_item = same_Some can.item item (sym can.there ∙ (λ i. slice_get (same_list i) (same_place i)) ∙ there)

            used_here : AreUsed (plan_query can.plan).body can.item.set numbers
            used_here = subst (λ (it : ConjunctiveQuery). AreUsed it.body can.item.set numbers) (sym plans.0)
                (subst (λ (it : Listed). AreUsed (plan_query plan).body it.set numbers) (sym same_item) used)

            -- the files of the used fragments are readable
            readable : AreReadable files catalogue numbers can.contents
            readable fragment inside =
                let at = (used_here.exact fragment).0 inside in
                let atom : Fact Term = at.1.1.0 in
                subst (λ (it : ℕ). IsReadableFragment files catalogue it (can.contents it)) at.1.1.2
                (can.readable atom ((run_laws.named can.item.set (plan_query can.plan).body atom).1 (at.0, at.1.0, at.1.1.1)))

            opens : Leads (opens_fragments (Some files) other numbers)
                (λ opened. (fragment : ℕ) → Contains numbers fragment → opened fragment ≡ can.contents fragment) (λ _. ⊥)
            opens = run_laws.readable files catalogue other numbers can.contents alike readable

            opened_anyway : (refusal : Status) → IsCaused ⊥ refusal → (opens_fragments (Some files) other numbers).stops refusal → ⊥
            opened_anyway = opens.stops

            module _ (contents : ℕ → List ℕ) (opened : (opens_fragments (Some files) other numbers).goes contents) (text : List ℕ)
                (printed : IsRunText other read plan item.set contents text) where
              text_here : IsRunText catalogue query can.plan can.item.set contents text
              text_here = subst (λ (it : Listed). IsRunText catalogue query can.plan it.set contents text) (sym same_item)
                  (run_text_moved opening.rows catalogue other alike query read same can.plan plan plans item.set contents text printed)

              same_contents : (atom : Fact Term) → Contains (candidate (plan_query can.plan) can.item.set).body atom
                  → contents atom.relation ≡ can.contents atom.relation
              same_contents atom inside = opens.goes contents opened atom.relation
                  (uses_only run_laws.named can.plan can.item.set numbers used_here atom inside)

              text_over : IsRunText catalogue query can.plan can.item.set can.contents text
              text_over = same_rows query (IsAnswerOver (IsFileRow catalogue.stores contents) (candidate (plan_query can.plan) can.item.set))
                  (IsAnswerOver (IsFileRow catalogue.stores can.contents) (candidate (plan_query can.plan) can.item.set)) text
                  (λ row. (
                    over_same catalogue.stores contents can.contents (candidate (plan_query can.plan) can.item.set) same_contents row,
                    over_same catalogue.stores can.contents contents (candidate (plan_query can.plan) can.item.set)
                        (λ atom inside. sym (same_contents atom inside)) row,
                  )) text_here

              prints_exactly : PrintsRun catalogue query can.plan can.item.set can.contents text
              prints_exactly = run_printed run_laws catalogue query can.plan can.item.set (laws.planning.item catalogue query can.plan can.items can.place
                  can.item can.list can.there).set can.contents text text_over

      -- where a set can be run, it is
      runs_reply : (reply : Reply) → RunGoes files other read number reply → (can : CanRun files catalogue query number)
          → (reply_status reply ≡ status.Done) × PrintsRun catalogue query can.plan can.item.set can.contents (reply_text reply)
      runs_reply reply (is_run plan planned items list place chosen item there numbers used contents opened text printed is) can = (
        ap reply_status is,
        subst (PrintsRun catalogue query can.plan can.item.set can.contents) (sym (ap reply_text is))
            (prints_exactly plan planned items list can place chosen item there numbers used contents opened text printed),
      )
      runs_reply reply (has_clash clash clashes is) can =
          absurd (laws.unsatisfiable catalogue query clash (laws.planning.clash_moved catalogue other query read clash alike same clashes)
          (laws.satisfiable catalogue query can.plan can.planned))

      -- and what was run can be
      run_can : (reply : Reply) → RunGoes files other read number reply → reply_status reply ≡ status.Done → CanRun files catalogue query number
      run_can reply (is_run plan planned items list place chosen item there numbers used contents opened text printed is) done = record {
        plan = plan;
        planned = planned_here plan planned;
        items = items;
        list = list_here plan planned items list;
        place = place;
        chosen = chosen;
        item = item;
        there = there;
        contents = contents;
        readable = λ atom inside. (run_laws.opened files catalogue other numbers alike).goes contents opened atom.relation
            (uses_only run_laws.named plan item.set numbers used atom inside);
      }
      run_can reply (has_clash clash clashes is) done =
          absurd (let h : status.Unsatisfiable clash ≡ status.Done = sym (ap reply_status is) ∙ done in cc)

      stop_not_done : (refusal : Status) → RunStops files other read number refusal → refusal ≢ status.Done
      stop_not_done refusal (none_chosen plan planned items list caused (is_empty none is)) done =
          let h : status.NoRewriting ≡ status.Done = sym is ∙ done in cc
      stop_not_done refusal (none_chosen plan planned items list caused (is_above asked is_asked some less is)) done =
          let h : status.NoSuchNumber asked (length items) ≡ status.Done = sym is ∙ done in cc
      stop_not_done refusal (not_opened plan planned items list place chosen item there numbers used caused stops) done =
          file_not_done refusal ((run_laws.opened files catalogue other numbers alike).stops refusal caused stops) done

      never_stops : (refusal : Status) → RunStops files other read number refusal → CanRun files catalogue query number → ⊥
      never_stops refusal (none_chosen plan planned items list caused none) can = chosen_anyway plan planned items list can refusal caused none
      never_stops refusal (not_opened plan planned items list place chosen item there numbers used caused stops) can =
          opened_anyway plan planned items list can place chosen item there numbers used refusal caused stops

      -- where the query is unsatisfiable, the reply tells it
      refuses_reply : (reply : Reply) → RunGoes files other read number reply → ¬ (HasAnswers catalogue query)
          → (clash : Clash) × IsClash catalogue query clash × (reply_status reply ≡ status.Unsatisfiable clash) × (reply_text reply ≡ rows_text query [])
      refuses_reply reply (is_run plan planned items list place chosen item there numbers used contents opened text printed is) none =
          absurd (none (answers_here plan planned))
      refuses_reply reply (has_clash clash clashes is) none = (
        clash,
        laws.planning.clash_moved catalogue other query read clash alike same clashes,
        ap reply_status is,
        ap reply_text is ∙ sym (same_rows_text query read same []),
      )

      -- a reply that tells a clash tells that of the query's run
      reply_clash : (reply : Reply) → RunGoes files other read number reply → (clash : Clash) → reply_status reply ≡ status.Unsatisfiable clash
          → TellsClash catalogue query clash (reply_text reply)
      reply_clash reply (is_run plan planned items list place chosen item there numbers used contents opened text printed is) clash told =
          absurd (let h : status.Done ≡ status.Unsatisfiable clash = sym (ap reply_status is) ∙ told in cc)
      reply_clash reply (has_clash own clashes is) clash told = (
        subst (IsClash catalogue query) (same_clash own clash (sym (ap reply_status is) ∙ told))
            (laws.planning.clash_moved catalogue other query read own alike same clashes),
        ap reply_text is ∙ sym (same_rows_text query read same []),
      )

      -- for a satisfiable query a reply is Done
      reply_done : (reply : Reply) → RunGoes files other read number reply → HasAnswers catalogue query → reply_status reply ≡ status.Done
      reply_done reply (is_run plan planned items list place chosen item there numbers used contents opened text printed is) answers = ap reply_status is
      reply_done reply (has_clash clash clashes is) answers =
          absurd (laws.unsatisfiable catalogue query clash (laws.planning.clash_moved catalogue other query read clash alike same clashes) answers)

      stop_not_clash : (refusal : Status) → RunStops files other read number refusal → (clash : Clash) → refusal ≢ status.Unsatisfiable clash
      stop_not_clash refusal (none_chosen plan planned items list caused (is_empty none is)) clash told =
          let h : status.NoRewriting ≡ status.Unsatisfiable clash = sym is ∙ told in cc
      stop_not_clash refusal (none_chosen plan planned items list caused (is_above asked is_asked some less is)) clash told =
          let h : status.NoSuchNumber asked (length items) ≡ status.Unsatisfiable clash = sym is ∙ told in cc
      stop_not_clash refusal (not_opened plan planned items list place chosen item there numbers used caused stops) clash told =
          file_not_clash clash refusal ((run_laws.opened files catalogue other numbers alike).stops refusal caused stops) told

      answers_stops : (refusal : Status) → RunStops files other read number refusal → HasAnswers catalogue query
      answers_stops refusal (none_chosen plan planned items list caused none) = answers_here plan planned
      answers_stops refusal (not_opened plan planned items list place chosen item there numbers used caused stops) = answers_here plan planned

      -- a reply is not NoRewriting, and comes only where there is one
      replies_apart : (reply : Reply) → reply_status reply ≢ status.NoRewriting
      replies_apart (Done text) is = let h : status.Done ≡ status.NoRewriting = is in cc
      replies_apart (Unsatisfiable clash text) is = let h : status.Unsatisfiable clash ≡ status.NoRewriting = is in cc

      reply_needs : (reply : Reply) → RunGoes files other read number reply → HasAnswers catalogue query
          → ((rewriting : ConjunctiveQuery) → ¬ (Rewrites catalogue query rewriting)) → ⊥
      reply_needs reply (is_run plan planned items list place chosen item there numbers used contents opened text printed is) answers none =
          none-some item (sym (ap (λ (it : List Listed). slice_get it place) ((empty_here plan planned items list).1 none)) ∙ there)
      reply_needs reply (has_clash clash clashes is) answers none =
          laws.unsatisfiable catalogue query clash (laws.planning.clash_moved catalogue other query read clash alike same clashes) answers

      stop_tells : (refusal : Status) → RunStops files other read number refusal
          → (refusal ≡ status.NoRewriting) ↔ ((rewriting : ConjunctiveQuery) → ¬ (Rewrites catalogue query rewriting))
      stop_tells refusal (none_chosen plan planned items list caused (is_empty none is)) = (λ said. (empty_here plan planned items list).0 none, λ absent. is)
      stop_tells refusal (none_chosen plan planned items list caused (is_above asked is_asked some less is)) = (
        λ said. let h : status.NoSuchNumber asked (length items) ≡ status.NoRewriting = sym is ∙ said in absurd (cc),
        λ absent. absurd (some ((empty_here plan planned items list).1 absent)),
      )
      stop_tells refusal (not_opened plan planned items list place chosen item there numbers used caused stops) = (
        λ said. absurd (file_not_none refusal ((run_laws.opened files catalogue other numbers alike).stops refusal caused stops) said),
        λ absent. absurd (none-some item (sym (ap (λ (it : List Listed). slice_get it place) ((empty_here plan planned items list).1 absent)) ∙ there)),
      )

      -- a reply is not NoSuchNumber, and comes only where the number is not above the list
      reply_apart : (asked count : ℕ) (reply : Reply) → reply_status reply ≢ status.NoSuchNumber asked count
      reply_apart asked count (Done text) is = let h : status.Done ≡ status.NoSuchNumber asked count = is in cc
      reply_apart asked count (Unsatisfiable clash text) is = let h : status.Unsatisfiable clash ≡ status.NoSuchNumber asked count = is in cc

      reply_within : (asked count : ℕ) (reply : Reply) → RunGoes files other read number reply → ¬ (IsAboveList catalogue query number asked count)
      unfolding judges
      reply_within asked count reply (is_run plan planned items list place chosen item there numbers used contents opened text printed is) above =
          (laws.planning.choice items number).apart place (status.NoSuchNumber asked count) (record { cause = tt }) chosen
          (above_here plan planned items list asked count above)
      reply_within asked count reply (has_clash clash clashes is) above =
          laws.unsatisfiable catalogue query clash (laws.planning.clash_moved catalogue other query read clash alike same clashes)
          (laws.satisfiable catalogue query above.plan above.planned)

      number_tells : (refusal : Status) → RunStops files other read number refusal → (asked count : ℕ)
          → (refusal ≡ status.NoSuchNumber asked count) ↔ IsAboveList catalogue query number asked count
      unfolding judges
      number_tells refusal (none_chosen plan planned items list caused none) asked count = (
        above_from none,
        λ above. (laws.planning.choice items number).one_stop refusal (status.NoSuchNumber asked count) caused (record { cause = tt }) none
            (above_here plan planned items list asked count above),
      )
        where
          above_from : HasNoPlace items number refusal → refusal ≡ status.NoSuchNumber asked count → IsAboveList catalogue query number asked count
          above_from (is_empty empty is) said = let h : status.NoRewriting ≡ status.NoSuchNumber asked count = sym is ∙ said in absurd (cc)
          above_from (is_above own is_own some less is) said =
              let h : status.NoSuchNumber own (length items) ≡ status.NoSuchNumber asked count = sym is ∙ said in record {
                asks = is_own ∙ ap Some (same_asked own (length items) asked count h);
                plan = plan;
                planned = planned_here plan planned;
                items = items;
                list = list_here plan planned items list;
                some = some;
                counts = same_least own (length items) asked count h;
                above = omega (arith, less, same_asked own (length items) asked count h, same_least own (length items) asked count h);
              }
      number_tells refusal (not_opened plan planned items list place chosen item there numbers used caused stops) asked count = (
        λ said. absurd (file_not_above asked count refusal ((run_laws.opened files catalogue other numbers alike).stops refusal caused stops) said),
        λ above. absurd ((laws.planning.choice items number).apart place (status.NoSuchNumber asked count) (record { cause = tt }) chosen
            (above_here plan planned items list asked count above)),
      )

    module _ (said : Status) (text : List ℕ) (says : Says (run_course (Some files) catalogue_name query_name number) ⊥ said text) where
      pub exact_run : IsExactRun files number catalogue query said text
      exact_run = elim (says-leads _ HasRun HasStopped said text run_leads says) [
        | inl (reply, run, said_is, text_is) ↦ record {
          runs = λ can. let exact = runs_reply run.other run.alike run.read run.same reply run.goes can in (
            said_is ∙ exact.0,
            subst (PrintsRun catalogue query can.plan can.item.set can.contents) (sym text_is) exact.1,
          );
          done = λ is. run_can run.other run.alike run.read run.same reply run.goes (sym said_is ∙ is);
          unsatisfiable = (
            λ (clash, is). laws.unsatisfiable catalogue query clash
                (reply_clash run.other run.alike run.read run.same reply run.goes clash (sym said_is ∙ is)).0,
            λ none. let (clash, clashes, is, header) = refuses_reply run.other run.alike run.read run.same reply run.goes none in (clash, said_is ∙ is),
          );
          clash = λ clash is. subst (TellsClash catalogue query clash) (sym text_is)
              (reply_clash run.other run.alike run.read run.same reply run.goes clash (sym said_is ∙ is));
          no_rewriting = λ answers. (
            λ none. absurd (replies_apart run.other run.alike run.read run.same reply (sym said_is ∙ none)),
            λ absent. absurd (reply_needs run.other run.alike run.read run.same reply run.goes answers absent),
          );
          no_number = λ asked count. (
            λ is. absurd (reply_apart run.other run.alike run.read run.same asked count reply (sym said_is ∙ is)),
            λ above. absurd (reply_within run.other run.alike run.read run.same asked count reply run.goes above),
          );
          line = λ answers other. absurd (other (said_is ∙ reply_done run.other run.alike run.read run.same reply run.goes answers));
        }
        | inr (stopped, text_is) ↦ record {
          runs = λ can. absurd (never_stops stopped.other stopped.alike stopped.read stopped.same said stopped.stops can);
          done = λ is. absurd (stop_not_done stopped.other stopped.alike stopped.read stopped.same said stopped.stops is);
          unsatisfiable = (
            λ (clash, is). absurd (stop_not_clash stopped.other stopped.alike stopped.read stopped.same said stopped.stops clash is),
            λ none. absurd (none (answers_stops stopped.other stopped.alike stopped.read stopped.same said stopped.stops)),
          );
          clash = λ clash is. absurd (stop_not_clash stopped.other stopped.alike stopped.read stopped.same said stopped.stops clash is);
          no_rewriting = λ answers. stop_tells stopped.other stopped.alike stopped.read stopped.same said stopped.stops;
          no_number = number_tells stopped.other stopped.alike stopped.read stopped.same said stopped.stops;
          line = λ answers other. text_is;
        }
      ]

-- ---- the words

-- words that ask for a run have its course
pub run_words : (words : List (List ℕ)) (catalogue_name query_name : List ℕ) (number : Option ℕ) (files : Option Files)
    → AsksRun words catalogue_name query_name number → course_of words files ≡ run_course files catalogue_name query_name number
run_words words catalogue_name query_name None files is = ap (λ (it : List (List ℕ)). course_of it files) is
run_words words catalogue_name query_name (Some number) files (word, is_number, number_is, is) =
    ap (λ (it : List (List ℕ)). course_of it files) is ∙ by_test (is_list_number word) refl
  where
    by_test : (test : Bool) → is_list_number word ≡ test
        → course_of (codes "run" ∷ catalogue_name ∷ query_name ∷ word ∷ []) files ≡ run_course files catalogue_name query_name (Some number)
    by_test true test = rw (test, number_is) refl
    by_test false test = let h : false ≡ true = sym test ∙ is_number in absurd (cc)

module _ (opening : OpeningLaws) (laws : ListingLaws) (run_laws : RunLaws) where
  pub outcomes_are_runs : OutcomesAreRuns
  outcomes_are_runs words files catalogue_name query_name number catalogue query said text asks say outcome =
      exact_run opening files catalogue_name query_name catalogue query say number laws run_laws said text
      (subst (λ it. Says it ⊥ said text) (run_words words catalogue_name query_name number (Some files) asks) outcome)
