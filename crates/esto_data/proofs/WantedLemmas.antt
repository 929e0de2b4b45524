-- What is said over the facts that are left, said over all facts.
use Rattle.std.proofs.Common.{◌≡◌, ◌↔◌, inl, inr, ℕ, List, [], ◌∷◌, length, map, Contains, Result, Ok, Err, subst}
use Rattle.esto_mapping.specs.declared.catalogue.Catalogue.{Catalogue}
use Rattle.esto_docmodel.specs.declared.file.Shape.{Shape}
use Rattle.esto_constraint.specs.Constraints.{rules_of}
use Rattle.esto_course.specs.Course.{Course, and_then, gives, judges}
use Rattle.esto_course.specs.Course.Stops.{is_free, refused}
use Rattle.esto_fill.specs.Databases.{database_of}
use Rattle.esto_fill.specs.Filled.{Fills, IsOpenedAs}
use Rattle.esto_ports.specs.Marks.{without_mark}
use Rattle.esto_fill.specs.Laws.{AnswersRestOnWantedFacts}
use Rattle.esto_fill.specs.Texts.{AreTextsOf, AreTextViews, HaveTextsOnly, IsFirstNodeColumn, IsFirstNodeView}
use Rattle.esto_fill.specs.Trials.{IsEnoughFor, IsTrialOf}
use Rattle.esto_fill.specs.Wanted.{Leaves}
use Rattle.esto_fill.proofs.TrialLemmas.{view_same as same_over}
use Rattle.esto_fill.proofs.WantedLemmas.{has_asked, leaves_drop}
use Rattle.esto_fill.specs.declared.filled.FillError.{FillError}
use Rattle.esto_fill.specs.declared.filled.FillError.TheVariants as filled
use Rattle.esto_fill.specs.declared.trial.Trial.{Trial}
use Rattle.esto_fill.specs.declared.wanted.Wanted.{Wanted}
use Rattle.esto_fill.specs.declared.wanted.Wanted.TheVariants.{Asked}
use Rattle.esto_status.specs.Answers.{Answers}
use Rattle.esto_run.specs.Fragments.{Stored}
use Rattle.esto_run.specs.Texts.{union_rows_text}
use Rattle.esto_status.specs.declared.reply.Reply.{Reply}
use Rattle.esto_status.specs.declared.reply.Reply.TheVariants.{Done}
use Rattle.esto_status.specs.declared.status.Status.{Status}
use Rattle.esto_status.specs.declared.status.Status.TheVariants as status
use Rattle.esto_query.specs.Making.{query_of}
use Rattle.esto_query.specs.declared.query.Query.{Query}
use Rattle.esto_semantics.specs.Queries.{ConjunctiveQuery, IsAnswer}
use Rattle.esto_semantics.specs.Rules.{Rule}
use Rattle.esto_semantics.specs.declared.fact.Fact.{Fact}
use Rattle.esto_semantics.specs.declared.fact.Value.{Value}
use Rattle.esto_semantics.specs.declared.fact.Value.TheVariants.{Text}
use Rattle.esto_term.specs.declared.term.Term.{Term}
use Rattle.esto_term.proofs.ListLemmas.{Contains-at, Contains-head, Contains-map, Contains-map_from}
use Rattle.esto_views.specs.Fragments.{views_of}
use Rattle.esto_data.specs.Answer.{IsUnionAnswerOfFacts, answers_facts}
use Rattle.esto_data.specs.Audit.{judges_views}
use Rattle.esto_data.specs.Datasets.{AreLawful, named_by}
use Rattle.esto_data.specs.Fill.{IsFilled, IsRowOfView, fill_status, fills_file}

-- ---- sets of rows that have the same rows

module _ (Rows Others : List Value → Type 0) (same : (values : List Value) → Rows values ↔ Others values) where
  texts_alike : (rows : List (List (List ℕ))) → AreTextsOf Rows rows → AreTextsOf Others rows
  texts_alike rows are = record {
    exact = λ values. (λ there. (are.exact values).0 ((same values).1 there), λ found. (same values).0 ((are.exact values).1 found));
    rising = are.rising;
  }

  first_alike : (column : ℕ) → IsFirstNodeColumn Rows column → IsFirstNodeColumn Others column
  first_alike column first = record {
    values = first.values;
    there = (same first.values).0 first.there;
    node = first.node;
    least = λ other lesser there node. first.least other lesser ((same other).1 there) node;
  }

  fills_alike : (shape : Shape) (result : Result (List ℕ) FillError) → Fills shape Rows result → Fills shape Others result
  fills_alike shape (Ok text) (rows, are, holds, is) = (rows, texts_alike rows are, holds, is)
  fills_alike shape (Err (filled.NodeInRow column)) first = first_alike column first
  fills_alike shape (Err (filled.KeyText cell)) (keys, (rows, are, unfit)) = (keys, (rows, texts_alike rows are, unfit))
  fills_alike shape (Err filled.OutOfMemory) want = tt

  opened_alike : (shape : Shape) (width : ℕ) (text : List ℕ) → IsOpenedAs shape width Rows text → IsOpenedAs shape width Others text
  opened_alike shape width text opened = record {
    no_fault = opened.no_fault;
    rows = λ row. (λ there. (same (map Text row)).0 ((opened.rows row).0 there), λ there. (opened.rows row).1 ((same (map Text row)).1 there));
  }

-- ---- judgements

-- what accepts and refuses no less answers no less
judged_more : {A : Type 0} (accepts others : A → Type 0) (refuses refusals : Status → Type 0) → ((value : A) → accepts value → others value)
    → ((said : Status) → refuses said → refusals said) → (result : Result A Status) → Answers (judges accepts refuses) ⊥ result
    → Answers (judges others refusals) ⊥ result
unfolding judges
judged_more accepts others refuses refusals more worse (Ok value) accepted = more value accepted
judged_more accepts others refuses refusals more worse (Err said) (is_free free) = is_free free
judged_more accepts others refuses refusals more worse (Err said) (refused caused stops) = refused caused (worse said stops)

then_more : {A B : Type 0} (accepts others : A → Type 0) (refuses refusals : Status → Type 0) → ((value : A) → accepts value → others value)
    → ((said : Status) → refuses said → refusals said) → (next : A → Course Status B) → (result : Result B Status)
    → Answers (and_then (judges accepts refuses) next) ⊥ result → Answers (and_then (judges others refusals) next) ⊥ result
unfolding and_then judges
then_more accepts others refuses refusals more worse next (Ok value) (given, accepted, goes) = (given, more given accepted, goes)
then_more accepts others refuses refusals more worse next (Err said) (is_free free) = is_free free
then_more accepts others refuses refusals more worse next (Err said) (refused caused (inl stops)) = refused caused (inl (worse said stops))
then_more accepts others refuses refusals more worse next (Err said) (refused caused (inr (given, accepted, stops))) =
    refused caused (inr (given, more given accepted, stops))

-- ---- `answer`

module _ (law : AnswersRestOnWantedFacts) (queries : List Query) (facts some : List (Fact Term)) (leaves : Leaves (named_by queries) facts some) where
  union_same : (values : List Value) → IsUnionAnswerOfFacts queries some values ↔ IsUnionAnswerOfFacts queries facts values
  union_same values = (
    (λ (query, inside, answer). (query, inside, (by query inside).0 answer)),
    (λ (query, inside, answer). (query, inside, (by query inside).1 answer)),
  )
    where
      by : (query : ConjunctiveQuery) → Contains (map query_of queries) query
          → IsAnswer query (database_of some) values ↔ IsAnswer query (database_of facts) values
      by query inside =
          let from = Contains-map_from query_of queries query inside in
          subst (λ (it : ConjunctiveQuery). IsAnswer it (database_of some) values ↔ IsAnswer it (database_of facts) values) from.2
          (law (map (λ its. (query_of its).body) queries) facts some (query_of from.0) values
          (has_asked (map (λ its. (query_of its).body) queries) facts some leaves)
          (Contains-map (λ its. (query_of its).body) queries from.0 from.1))

  pub answers_all : (result : Result Reply Status) → Answers (answers_facts queries some) ⊥ result
      → Answers (answers_facts queries facts) ⊥ result
  answers_all result answers =
      then_more (AreTextsOf (IsUnionAnswerOfFacts queries some)) (AreTextsOf (IsUnionAnswerOfFacts queries facts))
      (λ refusal. (column : ℕ) × IsFirstNodeColumn (IsUnionAnswerOfFacts queries some) column × (refusal ≡ status.NodeInRow column))
      (λ refusal. (column : ℕ) × IsFirstNodeColumn (IsUnionAnswerOfFacts queries facts) column × (refusal ≡ status.NodeInRow column))
      (texts_alike (IsUnionAnswerOfFacts queries some) (IsUnionAnswerOfFacts queries facts) union_same)
      (λ said (column, first, tells).
      (column, first_alike (IsUnionAnswerOfFacts queries some) (IsUnionAnswerOfFacts queries facts) union_same column first, tells))
      (λ rows. gives (Done (union_rows_text queries rows))) result answers

-- ---- `fill`

module _ (law : AnswersRestOnWantedFacts) (stored : Stored) (facts some : List (Fact Term))
    (leaves : Leaves (Asked ((query_of stored.definition.view).body ∷ [])) facts some) where
  view_same : (values : List Value) → IsRowOfView stored.definition some values ↔ IsRowOfView stored.definition facts values
  view_same values =
      law ((query_of stored.definition.view).body ∷ []) facts some (query_of stored.definition.view) values
      (has_asked ((query_of stored.definition.view).body ∷ []) facts some leaves)
      (Contains-head (query_of stored.definition.view).body [])

  pub fills_all : (result : Result (List ℕ) Status) → Answers (fills_file stored some) ⊥ result
      → Answers (fills_file stored facts) ⊥ result
  fills_all result answers =
      judged_more (IsFilled stored some) (IsFilled stored facts)
      (λ refusal. (cause : FillError) × Fills stored.store.shape (IsRowOfView stored.definition some) (Err cause) × (refusal ≡ fill_status cause))
      (λ refusal. (cause : FillError) × Fills stored.store.shape (IsRowOfView stored.definition facts) (Err cause) × (refusal ≡ fill_status cause))
      (λ text filled. record {
        filled = fills_alike (IsRowOfView stored.definition some) (IsRowOfView stored.definition facts) view_same stored.store.shape (Ok text) filled.filled;
        opened = opened_alike (IsRowOfView stored.definition some) (IsRowOfView stored.definition facts) view_same stored.store.shape
            (length stored.definition.view.head) (without_mark text) filled.opened;
      })
      (λ said (cause, fills, tells). (
        cause,
        fills_alike (IsRowOfView stored.definition some) (IsRowOfView stored.definition facts) view_same stored.store.shape (Err cause) fills,
        tells,
      ))
      result answers

-- ---- `audit`

-- what is left of the facts is enough for the trial
pub enough_left : (catalogue : Catalogue) (trial : Trial) → IsTrialOf catalogue trial → (facts some : List (Fact Term))
    → Leaves trial.wanted facts some → AreLawful catalogue.datasets facts → IsEnoughFor catalogue (rules_of trial.laws) facts some
enough_left catalogue trial are facts some leaves lawful = record {
  flat = lawful.flat;
  met = lawful.met (rules_of trial.laws) are.laws;
  bodies = are.wants.0;
  covers = are.wants.2;
  drops = leaves_drop are.wants.0 facts some (subst (λ (it : Wanted). Leaves it facts some) are.wants.1 leaves);
}

module _ (catalogue : Catalogue) (laws : List Rule) (facts some : List (Fact Term)) (enough : IsEnoughFor catalogue laws facts some) where
  abbrev its_views : List ConjunctiveQuery
  its_views = views_of catalogue.fragments

  same_in : (view : ConjunctiveQuery) → Contains its_views view → (values : List Value)
      → IsAnswer view (database_of some) values ↔ IsAnswer view (database_of facts) values
  same_in = same_over (rules_of catalogue.rules) laws its_views facts some enough

  texts_in : (view : ConjunctiveQuery) → Contains its_views view → HaveTextsOnly (IsAnswer view (database_of some))
      → HaveTextsOnly (IsAnswer view (database_of facts))
  texts_in view inside texts values answer = texts values ((same_in view inside values).1 answer)

  -- so it is the other way round
  pub texts_back : AreTextViews its_views (database_of facts) → AreTextViews its_views (database_of some)
  texts_back texts view inside values answer = texts view inside values ((same_in view inside values).0 answer)

  -- what is judged of the views over what is left is so over all facts
  pub judged_all : (result : Result (Unit {0}) Status) → Answers (judges_views catalogue some) ⊥ result → Answers (judges_views catalogue facts) ⊥ result
  judged_all result answers =
      judged_more (λ _. AreTextViews its_views (database_of some)) (λ _. AreTextViews its_views (database_of facts))
      (λ refusal. (column : ℕ) × IsFirstNodeView its_views (database_of some) column × (refusal ≡ status.NodeInRow column))
      (λ refusal. (column : ℕ) × IsFirstNodeView its_views (database_of facts) column × (refusal ≡ status.NodeInRow column))
      (λ value texts view inside. texts_in view inside (texts view inside))
      (λ said (column, first, tells). (
        column,
        record {
          number = first.number;
          view = first.view;
          there = first.there;
          first = first_alike (IsAnswer first.view (database_of some)) (IsAnswer first.view (database_of facts))
              (same_in first.view (Contains-at its_views first.number first.view first.there)) column first.first;
          before = λ earlier other less at. texts_in other (Contains-at its_views earlier other at) (first.before earlier other less at);
        },
        tells,
      ))
      result answers
