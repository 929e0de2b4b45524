-- What `fill`, `answer` and `audit` say agrees, over catalogues that say the same.
use Rattle.std.proofs.Common.{◌≡◌, ◌≢◌, ℕ, List, map, Contains, Some, None, Option, Result, Ok, Err, refl, sym, ap, subst, ◌∙◌}
use Rattle.std.specs.List.{range_with_len}
use Rattle.std.proofs.lemmas.Option.{none-some, same_Some}
use Rattle.esto_mapping.specs.Catalogues.{AreSame}
use Rattle.esto_mapping.specs.declared.catalogue.Catalogue.{Catalogue}
use Rattle.esto_mapping.specs.declared.dataset.Dataset.{Dataset}
use Rattle.esto_constraint.specs.Constraints.{rules_of}
use Rattle.esto_constraint.specs.EncodingRules.{written}
use Rattle.esto_course.specs.Course.{Course, judges}
use Rattle.esto_course.proofs.Determined.{then_agree, gives_agree, judges_agree}
use Rattle.esto_fill.specs.Databases.{database_of}
use Rattle.esto_fill.specs.Filled.{Fills}
use Rattle.esto_fill.specs.Texts.{AreTextsOf, AreTextViews, IsFirstNodeColumn, IsFirstNodeView}
use Rattle.esto_ports.specs.declared.difference.Difference.{Difference}
use Rattle.esto_fill.specs.declared.filled.FillError.{FillError}
use Rattle.esto_fill.specs.declared.filled.FillError.TheVariants as filled
use Rattle.esto_fill.specs.declared.rows.AnswerError.{AnswerError}
use Rattle.esto_fill.specs.declared.rows.AnswerError.TheVariants as answer
use Rattle.esto_ports.specs.Files.{Files}
use Rattle.esto_query.specs.Making.{query_of}
use Rattle.esto_query.specs.declared.query.Query.{Query}
use Rattle.esto_docs.specs.Stores.{IsFileRow}
use Rattle.esto_semantics.specs.Maps.{AreFlat}
use Rattle.esto_semantics.specs.Queries.{ConjunctiveQuery, IsAnswer}
use Rattle.esto_semantics.specs.Rules.{AreRules}
use Rattle.esto_semantics.specs.Unions.{IsUnionAnswer}
use Rattle.esto_semantics.specs.declared.fact.Fact.{Fact}
use Rattle.esto_stores.specs.Rows.{Row}
use Rattle.esto_term.proofs.ListLemmas.{Contains-at}
use Rattle.esto_term.specs.declared.term.Term.{Term}
use Rattle.esto_views.specs.Fragments.{views_of}
use Rattle.esto_query.specs.Same.{AreSameQueries}
use Rattle.esto_status.specs.Answers.{IsCaused}
use Rattle.esto_status.specs.Calm.{AgreeCalmly}
use Rattle.esto_run.specs.Fragments.{Stored, IsStoredAt, opens_fragments}
use Rattle.esto_run.specs.Texts.{union_rows_text}
use Rattle.esto_status.specs.declared.reply.Reply.TheVariants.{Done}
use Rattle.esto_status.specs.declared.status.Status.{Status}
use Rattle.esto_status.specs.declared.status.Status.TheVariants as status
use Rattle.esto_status.proofs.Steps.{never_wanting}
use Rattle.esto_run.proofs.StoreAlikeLemmas.{same_stored}
use Rattle.esto_constraint.proofs.RuleLemmas.{are_rules}
use Rattle.esto_data.specs.Answer.{IsUnionAnswerOfFacts, answers_union, lists_texts}
use Rattle.esto_data.specs.Audit.{AuditsFiles, all_fragments, audit_text, audits_catalogue, audits_facts, compares, judges_views}
use Rattle.esto_data.specs.Datasets.{IsAny, Names, OneNames, loads}
use Rattle.esto_data.specs.DataLaws.{DataLaws}
use Rattle.esto_data.specs.Fill.{IsFirstOf, IsMade, fill_status, finds_fragment, gives_file, gives_fragment, gives_named}
use Rattle.esto_data.specs.Fill.{names_of}
use Rattle.esto_data.proofs.AlikeLemmas.{audits_over, first_one, fragments_long, texts_one, same_view}
use Rattle.esto_data.proofs.LoadLemmas.{loads_agree, loads_flat}
use Rattle.esto_data.proofs.UnionLemmas.{same_queries, same_union_text}

-- ---- results

-- a result that is a value, and one that is an error
abbrev good : (A E : Type 0) → A → Result A E
good A E value = Ok value

abbrev bad : (A E : Type 0) → E → Result A E
bad A E error = Err error

ok_same : {A E : Type 0} (value other : A) → good A E value ≡ good A E other → value ≡ other
ok_same value other same = cc

err_same : {A E : Type 0} (error other : E) → bad A E error ≡ bad A E other → error ≡ other
err_same error other same = cc

pub ok_not_err : {A E : Type 0} (value : A) (error : E) → good A E value ≡ bad A E error → ⊥
ok_not_err value error same = cc

node_not_want : (A : Type 0) (column : ℕ) → bad A AnswerError (answer.NodeInRow column) ≢ bad A AnswerError answer.OutOfMemory
node_not_want A column same = cc

same_column : (column other : ℕ) → answer.NodeInRow column ≡ answer.NodeInRow other → column ≡ other
same_column column other same = cc

module _ (laws : DataLaws) where
  module _ (queries : List ConjunctiveQuery) (facts : List (Fact Term)) where
    abbrev texts_course : Course Status (List Row)
    texts_course = lists_texts (IsUnionAnswer queries (database_of facts))

    pub listed_not_node : (rows : List Row) (column : ℕ) → AreTextsOf (IsUnionAnswer queries (database_of facts)) rows
        → IsFirstNodeColumn (IsUnionAnswer queries (database_of facts)) column → ⊥
    listed_not_node rows column here there = ok_not_err rows (answer.NodeInRow column)
        (laws.answers queries (database_of facts) (Ok rows) (Err (answer.NodeInRow column)) here there (λ same. ok_not_err rows answer.OutOfMemory same)
        (node_not_want (List Row) column))

    texts_agree : AgreeCalmly ◌≡◌ texts_course texts_course
    texts_agree = judges_agree _ _ _ _ _ _
        (λ rows others here there. ok_same rows others
        (laws.answers queries (database_of facts) (Ok rows) (Ok others) here there (λ same. ok_not_err rows answer.OutOfMemory same)
        (λ same. ok_not_err others answer.OutOfMemory same)))
        (λ said other caused other_caused here there. here.2 ∙ ap status.NodeInRow (same_column here.0 there.0
        (err_same (answer.NodeInRow here.0) (answer.NodeInRow there.0)
        (laws.answers queries (database_of facts) (Err (answer.NodeInRow here.0)) (Err (answer.NodeInRow there.0)) here.1 there.1
        (node_not_want (List Row) here.0)
        (node_not_want (List Row) there.0)))) ∙ sym there.2)
        (λ rows said caused here there. listed_not_node rows there.0 here there.1) (λ rows said caused here there. listed_not_node rows there.0 here there.1)

  module _ (files : Files) (catalogue other : Catalogue) (alike : AreSame catalogue other) where
    -- the facts of datasets that are needed, which are the same
    named_agree : (body other_body : List (Fact Term)) → body ≡ other_body
        → AgreeCalmly ◌≡◌ (loads (Some files) catalogue.datasets (Names body)) (loads (Some files) other.datasets (Names other_body))
    named_agree body other_body same =
        subst (λ (it : List Dataset). AgreeCalmly ◌≡◌ (loads (Some files) catalogue.datasets (Names body)) (loads (Some files) it (Names other_body)))
        alike.datasets
        (subst (λ (it : List (Fact Term)). AgreeCalmly ◌≡◌ (loads (Some files) catalogue.datasets (Names body))
        (loads (Some files) catalogue.datasets (Names it))) same (loads_agree files catalogue.datasets laws.facts (Names body)))

    union_named_agree : (queries others : List ConjunctiveQuery) → queries ≡ others
        → AgreeCalmly ◌≡◌ (loads (Some files) catalogue.datasets (OneNames queries)) (loads (Some files) other.datasets (OneNames others))
    union_named_agree queries others same =
        subst (λ (it : List Dataset). AgreeCalmly ◌≡◌ (loads (Some files) catalogue.datasets (OneNames queries)) (loads (Some files) it (OneNames others)))
        alike.datasets
        (subst (λ (it : List ConjunctiveQuery). AgreeCalmly ◌≡◌ (loads (Some files) catalogue.datasets (OneNames queries))
        (loads (Some files) catalogue.datasets (OneNames it))) same (loads_agree files catalogue.datasets laws.facts (OneNames queries)))

    module _ (queries others : List Query) (same : AreSameQueries queries others) where
      rows_agree : (facts : List (Fact Term))
          → AgreeCalmly ◌≡◌ (lists_texts (IsUnionAnswerOfFacts queries facts)) (lists_texts (IsUnionAnswerOfFacts others facts))
      rows_agree facts =
          subst (λ (it : List ConjunctiveQuery). AgreeCalmly ◌≡◌ (texts_course (map query_of queries) facts) (texts_course it facts))
          (same_queries queries others same) (texts_agree (map query_of queries) facts)

      pub answers_agree : AgreeCalmly ◌≡◌ (answers_union (Some files) catalogue queries) (answers_union (Some files) other others)
      answers_agree =
          then_agree _ ◌≡◌ ◌≡◌ _ _ _ _
          (union_named_agree (map query_of queries) (map query_of others) (same_queries queries others same)) (λ facts other_facts goes one.
          then_agree _ ◌≡◌ ◌≡◌ _ _ _ _
          (subst (λ (it : List (Fact Term)). AgreeCalmly ◌≡◌ (lists_texts (IsUnionAnswerOfFacts queries facts))
          (lists_texts (IsUnionAnswerOfFacts others it))) one (rows_agree facts))
          (λ rows other_rows goes1 one1. gives_agree _ (Done (union_rows_text queries rows)) (Done (union_rows_text others other_rows))
          (ap (λ (it : List Row). Done (union_rows_text queries it)) one1 ∙ ap Done (same_union_text queries others same other_rows))))

    -- ---- `fill`

    abbrev finds_in : List (List ℕ) → List ℕ → Course Status ℕ
    finds_in names name = judges (IsFirstOf names name) (λ refusal. ¬ (Contains names name) × (refusal ≡ status.NoSuchFragment name))

    found_agree : (name : List ℕ) → AgreeCalmly ◌≡◌ (finds_fragment catalogue name) (finds_fragment other name)
    found_agree name =
        subst (λ (it : List (List ℕ)). AgreeCalmly ◌≡◌ (finds_in (names_of catalogue.fragments) name) (finds_in it name)) alike.names
        (judges_agree _ _ _ _ _ _ (first_one (names_of catalogue.fragments) name)
        (λ said other_said caused other_caused here there. here.1 ∙ sym there.1)
        (λ number said caused here there. there.0 (Contains-at (names_of catalogue.fragments) number name here.there))
        (λ number said caused here there. there.0 (Contains-at (names_of catalogue.fragments) number name here.there)))

    -- the fragment of the number in each of the catalogues
    record BothStored (number : ℕ) (stored other_stored : Stored) : Type 0 where
      here : IsStoredAt catalogue number stored
      there : IsStoredAt other number other_stored

    module _ (number : ℕ) (stored other_stored : Stored) (are : BothStored number stored other_stored) where
      no_want : (said : Status) (cause : FillError) → IsCaused ⊥ said → said ≡ fill_status cause
          → bad (List ℕ) FillError cause ≢ bad (List ℕ) FillError filled.OutOfMemory
      no_want said cause caused is wanting = never_wanting ⊥ said (is ∙ ap fill_status (err_same cause filled.OutOfMemory wanting)) caused

      -- the file is filled in one way in both
      one_filled : (facts : List (Fact Term)) (result other_result : Result (List ℕ) FillError)
          → Fills stored.store.shape (IsAnswer (query_of stored.definition.view) (database_of facts)) result
          → Fills other_stored.store.shape (IsAnswer (query_of other_stored.definition.view) (database_of facts)) other_result
          → result ≢ Err filled.OutOfMemory → other_result ≢ Err filled.OutOfMemory → result ≡ other_result
      one_filled facts result other_result here there =
          laws.fills stored.store other_stored.store (query_of stored.definition.view) (database_of facts) result other_result
          (same_stored catalogue other alike number stored other_stored are.here are.there) here
          (subst (λ (it : ConjunctiveQuery). Fills other_stored.store.shape (IsAnswer it (database_of facts)) other_result)
          (sym (same_view catalogue other alike number stored other_stored are.here are.there)) there)

    -- whatever is asked of the text, where it is made of the rows of the view
    module _ (Is : Stored → List (Fact Term) → List ℕ → Type 0)
        (made : (stored : Stored) (facts : List (Fact Term)) (text : List ℕ) → Is stored facts text → IsMade stored facts text) where
      file_agree : (number : ℕ) (stored other_stored : Stored) → BothStored number stored other_stored → (facts : List (Fact Term))
          → AgreeCalmly ◌≡◌ (gives_file Is stored facts) (gives_file Is other_stored facts)
      file_agree number stored other_stored are facts = judges_agree _ _ _ _ _ _
          (λ text other_text here there. ok_same text other_text
          (one (Ok text) (Ok other_text) (made stored facts text here) (made other_stored facts other_text there)
          (λ wanting. ok_not_err text filled.OutOfMemory wanting) (λ wanting. ok_not_err other_text filled.OutOfMemory wanting)))
          (λ said other_said caused other_caused here there.
          here.2 ∙ ap fill_status (err_same here.0 there.0 (one (Err here.0) (Err there.0) here.1 there.1
          (no_want number stored other_stored are said here.0 caused here.2)
          (no_want number stored other_stored are other_said there.0 other_caused there.2))) ∙ sym there.2)
          (λ text said caused here there. ok_not_err text there.0 (one (Ok text) (Err there.0) (made stored facts text here) there.1
          (λ wanting. ok_not_err text filled.OutOfMemory wanting) (no_want number stored other_stored are said there.0 caused there.2)))
          (λ text said caused here there. ok_not_err text there.0 (sym (one (Err there.0) (Ok text) there.1 (made other_stored facts text here)
          (no_want number stored other_stored are said there.0 caused there.2) (λ wanting. ok_not_err text filled.OutOfMemory wanting))))
        where
          one : (result other_result : Result (List ℕ) FillError)
              → Fills stored.store.shape (IsAnswer (query_of stored.definition.view) (database_of facts)) result
              → Fills other_stored.store.shape (IsAnswer (query_of other_stored.definition.view) (database_of facts)) other_result
              → result ≢ Err filled.OutOfMemory → other_result ≢ Err filled.OutOfMemory → result ≡ other_result
          one = one_filled number stored other_stored are facts

      fragment_agree : (number : ℕ) → AgreeCalmly ◌≡◌ (gives_fragment Is (Some files) catalogue number) (gives_fragment Is (Some files) other number)
      fragment_agree number =
          then_agree _ (BothStored number) ◌≡◌ _ _ _ _
          (judges_agree _ _ _ _ _ _ (λ stored other_stored here there. record { here = here; there = there })
          (λ said other_said caused other_caused here there. absurd here) (λ value said caused here there. there) (λ value said caused here there. there))
          (λ stored other_stored goes are.
          then_agree _ ◌≡◌ ◌≡◌ _ _ _ _
          (named_agree (query_of stored.definition.view).body (query_of other_stored.definition.view).body
          (ap (λ (it : ConjunctiveQuery). it.body) (same_view catalogue other alike number stored other_stored are.here are.there)))
          (λ facts others goes1 one.
          then_agree _ ◌≡◌ ◌≡◌ _ _ _ _
          (subst (λ (it : List (Fact Term)). AgreeCalmly ◌≡◌ (gives_file Is stored facts) (gives_file Is other_stored it)) one
          (file_agree number stored other_stored are facts))
          (λ text other_text goes2 one2. gives_agree _ (Done text) (Done other_text) (ap Done one2))))

      pub fills_agree : (name : List ℕ) → AgreeCalmly ◌≡◌ (gives_named Is (Some files) name catalogue) (gives_named Is (Some files) name other)
      fills_agree name =
          then_agree _ ◌≡◌ ◌≡◌ _ _ _ _ (found_agree name) (λ number other_number goes same.
          subst (λ (it : ℕ). AgreeCalmly ◌≡◌ (gives_fragment Is (Some files) catalogue number) (gives_fragment Is (Some files) other it)) same
          (fragment_agree number))

    -- ---- `audit`

    abbrev judged_by : List ConjunctiveQuery → List (Fact Term) → Course Status (Unit {0})
    judged_by views facts = judges (λ _. AreTextViews views (database_of facts))
        (λ refusal. (column : ℕ) × IsFirstNodeView views (database_of facts) column × (refusal ≡ status.NodeInRow column))

    pub texts_not_node : (views : List ConjunctiveQuery) (facts : List (Fact Term)) (column : ℕ) → AreTextViews views (database_of facts)
        → IsFirstNodeView views (database_of facts) column → ⊥
    texts_not_node views facts column here there = ok_not_err tt (answer.NodeInRow column)
        (laws.judgements views (database_of facts) (Ok tt) (Err (answer.NodeInRow column)) here there (λ same. ok_not_err tt answer.OutOfMemory same)
        (node_not_want (Unit {0}) column))

    views_agree : (facts : List (Fact Term)) → AgreeCalmly ◌≡◌ (judges_views catalogue facts) (judges_views other facts)
    views_agree facts =
        let views = views_of catalogue.fragments in
        subst (λ (it : List ConjunctiveQuery). AgreeCalmly ◌≡◌ (judged_by views facts) (judged_by it facts)) alike.views
        (judges_agree _ _ _ _ _ _ (λ value other_value here there. refl)
        (λ said other_said caused other_caused here there.
        here.2 ∙ ap status.NodeInRow (same_column here.0 there.0 (err_same (answer.NodeInRow here.0) (answer.NodeInRow there.0)
        (laws.judgements views (database_of facts) (Err (answer.NodeInRow here.0)) (Err (answer.NodeInRow there.0)) here.1 there.1
        (node_not_want (Unit {0}) here.0)
        (node_not_want (Unit {0}) there.0)))) ∙ sym there.2)
        (λ value said caused here there. texts_not_node views facts there.0 here there.1)
        (λ value said caused here there. texts_not_node views facts there.0 here there.1))

    module _ (facts : List (Fact Term)) (flat : AreFlat facts) (contents : ℕ → List ℕ) where
      one_audit : (rules : AreRules (rules_of catalogue.rules)) (outcome other_outcome : Option Difference) → AuditsFiles catalogue facts contents outcome
          → AuditsFiles other facts contents other_outcome → outcome ≡ other_outcome
      one_audit rules outcome other_outcome here there =
          laws.audits (rules_of catalogue.rules) (map written catalogue.rules) (names_of catalogue.fragments) (views_of catalogue.fragments) facts
          catalogue.stores other.stores contents contents outcome other_outcome rules flat
          (λ fact. laws.rows catalogue.stores other.stores contents fact alike.stores) here
          (audits_over catalogue other alike facts (IsFileRow other.stores contents) other_outcome there)

      compared_agree : AreRules (rules_of catalogue.rules) → AgreeCalmly ◌≡◌ (compares catalogue facts contents) (compares other facts contents)
      compared_agree rules = judges_agree _ _ _ _ _ _ (λ value other_value here there. refl)
          (λ said other_said caused other_caused here there.
          here.2 ∙ ap status.Differs (same_Some here.0 there.0 (one_audit rules (Some here.0) (Some there.0) here.1 there.1)) ∙ sym there.2)
          (λ value said caused here there. none-some there.0 (one_audit rules None (Some there.0) here there.1))
          (λ value said caused here there. none-some there.0 (sym (one_audit rules (Some there.0) None there.1 here)))

    module _ (rules : AreRules (rules_of catalogue.rules)) where
      audited_agree : (facts : List (Fact Term)) → AreFlat facts
          → AgreeCalmly ◌≡◌ (audits_facts (Some files) catalogue facts) (audits_facts (Some files) other facts)
      audited_agree facts flat =
          then_agree _ ◌≡◌ ◌≡◌ _ _ _ _ (views_agree facts) (λ value other_value goes same.
          then_agree _ ◌≡◌ ◌≡◌ _ _ _ _
          (subst (λ (it : ℕ). AgreeCalmly ◌≡◌ (opens_fragments (Some files) catalogue (all_fragments catalogue))
          (opens_fragments (Some files) other (range_with_len 0 it))) (fragments_long catalogue other alike)
          (laws.fragments files catalogue other (all_fragments catalogue) alike))
          (λ contents other_contents goes1 same1.
          then_agree _ ◌≡◌ ◌≡◌ _ _ _ _
          (subst (λ (it : ℕ → List ℕ). AgreeCalmly ◌≡◌ (compares catalogue facts contents) (compares other facts it)) same1
          (compared_agree facts flat contents rules))
          (λ value1 other_value1 goes2 same2. gives_agree _ (Done (audit_text catalogue)) (Done (audit_text other))
          (ap Done (texts_one catalogue other alike)))))

    pub catalogue_agree : AgreeCalmly ◌≡◌ (audits_catalogue (Some files) catalogue) (audits_catalogue (Some files) other)
    catalogue_agree =
        then_agree _ ◌≡◌ ◌≡◌ _ _ _ _
        (subst (λ (it : List Dataset). AgreeCalmly ◌≡◌ (loads (Some files) catalogue.datasets IsAny) (loads (Some files) it IsAny)) alike.datasets
        (loads_agree files catalogue.datasets laws.facts IsAny))
        (λ facts others goes one. subst (λ (it : List (Fact Term)). AgreeCalmly ◌≡◌ (audits_facts (Some files) catalogue facts)
        (audits_facts (Some files) other it)) one
        (audited_agree (are_rules laws.rules catalogue.rules) facts (loads_flat (Some files) catalogue.datasets IsAny facts goes)))
