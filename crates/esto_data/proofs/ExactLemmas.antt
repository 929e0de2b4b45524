-- What `fill`, `answer` and `audit` say of a catalogue where nothing is wrong with the files.
use Rattle.std.proofs.Common.{◌≡◌, ◌≢◌, ◌↔◌, ℕ, suc, List, [], ◌∷◌, ◌++◌, map, length, Contains, Option, Some, None, Err, refl, sym, ap, subst, ◌∙◌, inl, inr}
use Rattle.std.proofs.lemmas.Option.{same_Some, none-some}
use Rattle.esto_mapping.specs.declared.catalogue.Catalogue.{Catalogue}
use Rattle.esto_mapping.specs.declared.dataset.Dataset.{Dataset}
use Rattle.esto_constraint.specs.Constraints.{rules_of}
use Rattle.esto_constraint.specs.EncodingRules.{written}
use Rattle.esto_course.specs.Course.{Course, judges, demands, gives, and_then, each}
use Rattle.esto_fill.specs.Databases.{database_of}
use Rattle.esto_fill.specs.Differences.{HoldViewRows}
use Rattle.esto_fill.specs.Filled.{Fills}
use Rattle.esto_fill.specs.Texts.{AreTextViews, AreTextsOf, IsFirstNodeColumn, IsFirstNodeView}
use Rattle.esto_ports.specs.declared.difference.Difference.{Difference}
use Rattle.esto_fill.specs.declared.filled.FillError.{FillError}
use Rattle.esto_fill.specs.declared.filled.FillError.TheVariants as filled
use Rattle.esto_fill.specs.declared.datasets.DatasetBytes.{DatasetBytes}
use Rattle.esto_fill.proofs.LawLemmas.{texts_no_node, columns_one, views_no_node, views_one}
use Rattle.esto_ports.specs.Files.{Files}
use Rattle.esto_ports.specs.declared.file_fault.FileFault.{FileFault}
use Rattle.esto_query.specs.Making.{query_of}
use Rattle.esto_query.specs.declared.query.Query.{Query}
use Rattle.esto_run.specs.Answers.{rows_text}
use Rattle.esto_docs.specs.Stores.{IsFileRow}
use Rattle.esto_semantics.specs.Facts.{Database}
use Rattle.esto_semantics.specs.Maps.{AreFlat}
use Rattle.esto_semantics.specs.Queries.{ConjunctiveQuery}
use Rattle.esto_semantics.specs.declared.fact.Fact.{Fact}
use Rattle.esto_semantics.specs.declared.fact.Value.{Value}
use Rattle.esto_stores.specs.Rows.{Row}
use Rattle.esto_term.proofs.ListLemmas.{Contains-at, place-from_Contains}
use Rattle.esto_term.specs.declared.term.Term.{Term}
use Rattle.esto_views.specs.Fragments.{views_of}
use Rattle.esto_status.specs.Answers.{IsCaused}
use Rattle.esto_status.specs.Calm.{Leads, SaysAlways}
use Rattle.esto_status.specs.Fetch.{fetches, FetchStops}
use Rattle.esto_status.specs.Fetch.FetchStops.{fails, is_longer}
use Rattle.esto_run.specs.Fragments.{Stored, IsStoredAt, opens_fragments}
use Rattle.esto_status.specs.Line.{line_of}
use Rattle.esto_run.specs.Texts.{union_rows_text}
use Rattle.esto_status.specs.declared.limits.TheConstants.{DATA_LIMIT}
use Rattle.esto_status.specs.declared.reply.Reply.{Reply}
use Rattle.esto_status.specs.declared.reply.Reply.TheVariants.{Done}
use Rattle.esto_status.specs.declared.status.Status.{Status}
use Rattle.esto_status.specs.declared.status.Status.TheVariants as status
use Rattle.esto_status.proofs.LeadLemmas.{then-leads, leads-more, gives-leads}
use Rattle.esto_status.proofs.Steps.{never_wanting, read_cause}
use Rattle.esto_constraint.proofs.RuleLemmas.{are_rules}
use Rattle.esto_data.specs.Answer.{IsAnswerOfFacts, IsUnionAnswerOfFacts, answers_union}
use Rattle.esto_data.specs.Audit.{AuditsFiles, all_fragments, audit_text, audits_catalogue}
use Rattle.esto_data.specs.Datasets.{IsAny, Names, OneNames, demands_file, loads, loads_next, opens_dataset}
use Rattle.esto_data.specs.Exact.{AreReadableFragments, AuditsExactly, FillsExactly, GivesExactly, HoldFacts, IsExactAnswer, IsExactAudit, IsExactFill}
use Rattle.esto_data.specs.Exact.{IsExactUnionAnswer}
use Rattle.esto_data.specs.Exact.FillsExactly.{prints, tells_key, tells_node}
use Rattle.esto_data.specs.Fill.{IsFilled, IsFirstOf, IsRowOfView, fill_status, fills_file, fills_named, names_of}
use Rattle.esto_data.specs.DataLaws.{DataLaws}
use Rattle.esto_data.proofs.AlikeLemmas.{audits-moved, first_one}
use Rattle.esto_data.proofs.FragmentLemmas.{fragments_never, rows_same}
use Rattle.esto_data.proofs.LeadLemmas.{holds-leads, holds_leads}
use Rattle.esto_data.proofs.LoadLemmas.{loads_flat}
use Rattle.esto_data.proofs.NodeLemmas.{TellsNoNode, opened_without_node}
use Rattle.esto_data.proofs.UnionLemmas.{gives_moved, holds_for, one_names, one_union}

-- what holds of replies and refusals, as it is said, once more is
pub says-more : (course : Course Status Reply) (Fact More : Status → List ℕ → Type 0) → ((said : Status) (text : List ℕ) → Fact said text → More said text)
    → SaysAlways course Fact → SaysAlways course More
says-more course Fact More more says = record {
  goes = λ reply goes. let found = says.goes reply goes in (found.0, found.1, more status.Done found.0 found.2);
  stops = λ said caused stop. more said (line_of said) (says.stops said caused stop);
}

-- ---- nodes in rows

done_not_node : (column : ℕ) → status.Done ≡ status.NodeInRow column → ⊥
done_not_node column same = cc

node_same : (column other : ℕ) → status.NodeInRow column ≡ status.NodeInRow other → column ≡ other
node_same column other same = cc

-- ---- `answer`

module _ (Rows : List Value → Type 0) (text_of : List Row → List ℕ) where
  answered : (rows : List Row) → AreTextsOf Rows rows → GivesExactly Rows text_of status.Done (text_of rows)
  answered rows texts = record {
    prints = λ only. (refl, (rows, texts, refl));
    node = λ column. (
      (λ same. absurd (done_not_node column same)),
      (λ first. absurd (texts_no_node Rows column (λ values there. let found = (texts.exact values).0 there in (found.0, found.2)) first)),
    );
  }

  refused : (column : ℕ) (said : Status) (text : List ℕ) → IsFirstNodeColumn Rows column → said ≡ status.NodeInRow column
      → GivesExactly Rows text_of said text
  refused column said text first is = record {
    prints = λ only. absurd (texts_no_node Rows column only first);
    node = λ other. (
      (λ same. subst (IsFirstNodeColumn Rows) (node_same column other (sym is ∙ same)) first),
      (λ its. is ∙ ap status.NodeInRow (columns_one Rows column other first its)),
    );
  }

-- what is exact of the union of one query is exact of the query
pub one_exact : (files : Files) (catalogue : Catalogue) (query : Query) (said : Status) (text : List ℕ)
    → IsExactUnionAnswer files catalogue (query ∷ []) said text → IsExactAnswer files catalogue query said text
one_exact files catalogue query said text exact facts holds =
    gives_moved (IsUnionAnswerOfFacts (query ∷ []) facts) (IsAnswerOfFacts query facts) (one_union query facts) (union_rows_text (query ∷ [])) (rows_text query)
    (λ rows. refl) said text
    (exact facts (holds_for (Names (query_of query).body) (OneNames (query_of query ∷ []))
    (λ dataset. ((one_names (query_of query) dataset).1, (one_names (query_of query) dataset).0)) files catalogue.datasets facts holds))

module _ (laws : DataLaws) (files : Files) (catalogue : Catalogue) where
  module _ (queries : List Query) where
    abbrev needs : Dataset → Type 0
    needs = OneNames (map query_of queries)

    pub answer_says : SaysAlways (answers_union (Some files) catalogue queries) (IsExactUnionAnswer files catalogue queries)
    unfolding and_then judges gives
    answer_says = record {
      goes = λ reply (others, loaded, (rows, texts, done)). (
        union_rows_text queries rows,
        done,
        (λ facts holds.
            let same : others ≡ facts = (holds_leads files catalogue.datasets needs facts holds laws.facts).goes others loaded in
            answered (IsUnionAnswerOfFacts queries facts) (union_rows_text queries) rows
            (subst (λ (it : List (Fact Term)). AreTextsOf (IsUnionAnswerOfFacts queries it) rows) same texts)),
      );
      stops = λ said caused stop facts holds. elim stop [
        | inl unloaded ↦ absurd ((holds_leads files catalogue.datasets needs facts holds laws.facts).stops said caused unloaded)
        | inr (others, loaded, more) ↦
            let same : others ≡ facts = (holds_leads files catalogue.datasets needs facts holds laws.facts).goes others loaded in
            elim more [
              | inl (column, first, is) ↦ refused (IsUnionAnswerOfFacts queries facts) (union_rows_text queries) column said (line_of said)
                  (subst (λ (it : List (Fact Term)). IsFirstNodeColumn (IsUnionAnswerOfFacts queries it) column) same first) is
              | inr (rows, texts, none) ↦ absurd none
            ]
      ];
    }

  -- ---- `fill`

  -- no status of loading says that there is no fragment
  demanded_other : (name : List ℕ) (number counter : ℕ) (given : Unit {0})
      → Leads (demands_file catalogue.datasets counter given number) (λ _. Unit {0}) (λ said. said ≢ status.NoSuchFragment name)
  unfolding and_then judges demands
  demanded_other name number counter given = record {
    goes = λ value goes. tt;
    stops = λ said caused stop. elim stop [
      | inl none ↦ absurd none
      | inr (dataset, at, (without, is)) ↦ no_data dataset.name said is
    ];
  }
    where
      no_data : (its : List ℕ) (said : Status) → said ≡ status.NoData its → said ≢ status.NoSuchFragment name
      no_data its said is same = cc

  opened_other : (name : List ℕ) (number : ℕ)
      → Leads (opens_dataset (Some files) catalogue.datasets number) (λ _. Unit {0}) (λ said. said ≢ status.NoSuchFragment name)
  unfolding and_then judges gives fetches
  opened_other name number = record {
    goes = λ value goes. tt;
    stops = λ said caused stop. elim stop [
      | inl none ↦ absurd none
      | inr (source, at, more) ↦ elim more [
        | inl unfetched ↦ fetch_other source.file said caused unfetched
        | inr (bytes, fetched, later) ↦ elim later [
          | inl (fault, found, is) ↦ bad_data source.dataset.name fault said is
          | inr (good, read, none) ↦ absurd none
        ]
      ]
    ];
  }
    where
      bad_data : (its : List ℕ) (fault : FileFault) (said : Status) → said ≡ status.BadDataset its fault → said ≢ status.NoSuchFragment name
      bad_data its fault said is same = cc

      long : (its : List ℕ) (limit : ℕ) (said : Status) → said ≡ status.TooLong its limit → said ≢ status.NoSuchFragment name
      long its limit said is same = cc

      fetch_other : (file : List ℕ) (said : Status) → IsCaused ⊥ said → FetchStops (Some files) file DATA_LIMIT said → said ≢ status.NoSuchFragment name
      fetch_other file said caused (fails is) = absurd (read_cause ⊥ said file is caused)
      fetch_other file said caused (is_longer bytes holds less is) = long file DATA_LIMIT said is

  loaded_other : (name : List ℕ) (numbers : List ℕ) (counter : ℕ) (so_far : List DatasetBytes)
      → Leads (each (loads_next (Some files) catalogue.datasets) counter so_far numbers) (λ _. Unit {0}) (λ said. said ≢ status.NoSuchFragment name)
  loaded_other name [] counter so_far = leads-more _ _ _ _ (λ value is. tt) (gives-leads so_far (λ said. said ≢ status.NoSuchFragment name))
  loaded_other name (number ∷ rest) counter so_far =
      then-leads _ _ (λ _. Unit {0}) _ _
      (then-leads _ _ (λ _. Unit {0}) _ _ (opened_other name number)
      (λ bytes opened. leads-more _ _ _ _ (λ value is. tt)
      (gives-leads (so_far ++ record { dataset = number; bytes = bytes } ∷ []) (λ said. said ≢ status.NoSuchFragment name))))
      (λ next done. loaded_other name rest (suc counter) next)

  demanded_all : (name : List ℕ) (numbers : List ℕ) (counter : ℕ) (given : Unit {0})
      → Leads (each (demands_file catalogue.datasets) counter given numbers) (λ _. Unit {0}) (λ said. said ≢ status.NoSuchFragment name)
  demanded_all name [] counter given = leads-more _ _ _ _ (λ value is. tt) (gives-leads given (λ said. said ≢ status.NoSuchFragment name))
  demanded_all name (number ∷ rest) counter given =
      then-leads _ _ (λ _. Unit {0}) _ _ (demanded_other name number counter given) (λ next done. demanded_all name rest (suc counter) next)

  loads_other : (name : List ℕ) (Needs : Dataset → Type 0)
      → Leads (loads (Some files) catalogue.datasets Needs) (λ _. Unit {0}) (λ said. said ≢ status.NoSuchFragment name)
  loads_other name Needs =
      then-leads _ _ (λ _. Unit {0}) _ _ (holds-leads _ _ _ (λ value holds. tt))
      (λ numbers needed. then-leads _ _ (λ _. Unit {0}) _ _ (demanded_all name numbers 0 tt)
      (λ value have. then-leads _ _ (λ _. Unit {0}) _ _ (loaded_other name numbers 0 [])
      (λ contents opened. holds-leads _ _ _ (λ facts are. tt))))

  cause_other : (name : List ℕ) (cause : FillError) → fill_status cause ≢ status.NoSuchFragment name
  cause_other name (filled.NodeInRow column) same = cc
  cause_other name (filled.KeyText cell) same = cc
  cause_other name filled.OutOfMemory same = cc

  done_other : (name : List ℕ) → status.Done ≢ status.NoSuchFragment name
  done_other name same = cc

  one_stored : (number : ℕ) (stored its : Stored) → IsStoredAt catalogue number stored → IsStoredAt catalogue number its → stored ≡ its
  one_stored number stored its here there =
      let definition : stored.definition ≡ its.definition = same_Some stored.definition its.definition (sym here.definition ∙ there.definition) in
      let store : stored.store ≡ its.store = same_Some stored.store its.store (sym here.store ∙ there.store) in
      λ i. record { definition = definition i; store = store i }

  -- from a stored fragment on, what follows
  abbrev fills_from : Stored → Course Status Reply
  fills_from stored =
      and_then (loads (Some files) catalogue.datasets (Names (query_of stored.definition.view).body)) (λ facts.
      and_then (fills_file stored facts) (λ text. gives (Done text)))

  from_other : (name : List ℕ) (stored : Stored) (said : Status) → IsCaused ⊥ said → (fills_from stored).stops said → said ≢ status.NoSuchFragment name
  unfolding and_then judges gives
  from_other name stored said caused stop = elim stop [
    | inl unloaded ↦ (loads_other name (Names (query_of stored.definition.view).body)).stops said caused unloaded
    | inr (facts, loaded, more) ↦ elim more [
      | inl (cause, fills, is) ↦ (λ same. cause_other name cause (sym is ∙ same))
      | inr (text, filled, none) ↦ absurd none
    ]
  ]

  module _ (stored : Stored) (facts : List (Fact Term))
      (holds : HoldFacts files catalogue.datasets (Names (query_of stored.definition.view).body) facts) where
    from_goes : (others : List (Fact Term)) (text : List ℕ)
        → (loads (Some files) catalogue.datasets (Names (query_of stored.definition.view).body)).goes others
        → IsFilled stored others text → FillsExactly stored facts status.Done text
    from_goes others text loaded filled =
        let same : others ≡ facts =
        (holds_leads files catalogue.datasets (Names (query_of stored.definition.view).body) facts holds laws.facts).goes others loaded in
        prints refl (subst (λ (it : List (Fact Term)). IsFilled stored it text) same filled)

    told : (cause : FillError) (said : Status) (text : List ℕ) → Fills stored.store.shape (IsRowOfView stored.definition facts) (Err cause)
        → said ≡ fill_status cause → ¬ (said ≡ status.OutOfMemory) → FillsExactly stored facts said text
    told (filled.NodeInRow column) said text fills is wanting = tells_node column fills is
    told (filled.KeyText cell) said text fills is wanting = tells_key cell fills is
    told filled.OutOfMemory said text fills is wanting = absurd (wanting is)

    from_stops : (said : Status) → IsCaused ⊥ said → (fills_from stored).stops said → FillsExactly stored facts said (line_of said)
    unfolding and_then judges gives
    from_stops said caused stop =
        let leads = holds_leads files catalogue.datasets (Names (query_of stored.definition.view).body) facts holds laws.facts in
        elim stop [
          | inl unloaded ↦ absurd (leads.stops said caused unloaded)
          | inr (others, loaded, more) ↦ elim more [
            | inl (cause, fills, is) ↦ told cause said (line_of said)
                (subst (λ (it : List (Fact Term)). Fills stored.store.shape (IsRowOfView stored.definition it) (Err cause)) (leads.goes others loaded) fills)
                is (λ wanting. never_wanting ⊥ said wanting caused)
            | inr (text, filled, none) ↦ absurd none
          ]
        ]

  module _ (name : List ℕ) where
    named : (number : ℕ) → IsFirstOf (names_of catalogue.fragments) name number → Contains (names_of catalogue.fragments) name
    named number first = Contains-at (names_of catalogue.fragments) number name first.there

    -- the first fragment of the name is one
    same_fragment : (number other : ℕ) → IsFirstOf (names_of catalogue.fragments) name number → IsFirstOf (names_of catalogue.fragments) name other
        → (stored its : Stored) → IsStoredAt catalogue number stored → IsStoredAt catalogue other its → stored ≡ its
    same_fragment number other first its_first stored its here there =
        one_stored other stored its
        (subst (λ (it : ℕ). IsStoredAt catalogue it stored) (first_one (names_of catalogue.fragments) name number other first its_first) here) there

    pub fill_says : SaysAlways (fills_named (Some files) name catalogue) (IsExactFill files catalogue name)
    unfolding and_then judges gives
    fill_says = record {
      goes = λ reply (number, first, (stored, here, (others, loaded, (text, filled, done)))). (
        text,
        done,
        record {
          fills = λ other its facts its_first there holds.
              let moved = subst (λ (it : Stored). (loads (Some files) catalogue.datasets (Names (query_of it.definition.view).body)).goes others
              × IsFilled it others text) (same_fragment number other first its_first stored its here there) (loaded, filled) in
              from_goes its facts holds others text moved.0 moved.1;
          unnamed = ((λ is. absurd (done_other name is)), (λ none. absurd (none (named number first))));
        },
      );
      stops = λ said caused stop. elim stop [
        | inl (none, is) ↦ record {
          fills = λ number its facts first there holds. absurd (none (named number first));
          unnamed = ((λ same. none), (λ still. is));
        }
        | inr (number, first, more) ↦ elim more [
          | inl never ↦ absurd never
          | inr (stored, here, later) ↦ record {
            fills = λ other its facts its_first there holds.
                from_stops its facts holds said caused
                (subst (λ (it : Stored). (fills_from it).stops said) (same_fragment number other first its_first stored its here there) later);
            unnamed = ((λ is. absurd (from_other name stored said caused later is)), (λ none. absurd (none (named number first))));
          }
        ]
      ];
    }

-- ---- `audit`

-- where each fragment holds its view's rows, these are of texts
agree_texts : (views : List ConjunctiveQuery) (database : Database) (Holds : Fact (List ℕ) → Type 0) → HoldViewRows views database Holds
    → AreTextViews views database
agree_texts views database Holds rows view inside values answers =
    let place = place-from_Contains views view inside in
    let found = (rows (record { relation = place.0; terms = values })).0 (view, place.1, answers) in
    (found.0, found.2)

differs_same : (difference other : Difference) → status.Differs difference ≡ status.Differs other → difference ≡ other
differs_same difference other same = cc

differs_not_node : (difference : Difference) (column : ℕ) → status.Differs difference ≡ status.NodeInRow column → ⊥
differs_not_node difference column same = cc

done_not_differs : (difference : Difference) → status.Done ≡ status.Differs difference → ⊥
done_not_differs difference same = cc

module _ (laws : DataLaws) (catalogue : Catalogue) (facts : List (Fact Term)) (flat : AreFlat facts) (contents : ℕ → List ℕ) where
  ends_one : (outcome other : Option Difference) → AuditsFiles catalogue facts contents outcome → AuditsFiles catalogue facts contents other → outcome ≡ other
  ends_one outcome other here there =
      laws.audits (rules_of catalogue.rules) (map written catalogue.rules) (names_of catalogue.fragments) (views_of catalogue.fragments) facts
      catalogue.stores catalogue.stores contents contents outcome other (are_rules laws.rules catalogue.rules) flat (λ fact. ((λ is. is), (λ is. is)))
      here there

  agreed : AuditsFiles catalogue facts contents None → AuditsExactly catalogue facts contents status.Done (audit_text catalogue)
  agreed agree = record {
    done = ((λ same. agree), (λ same. refl));
    prints = λ same. refl;
    differs = λ texts difference. (
      (λ same. absurd (done_not_differs difference same)),
      (λ first. absurd (none-some difference (ends_one None (Some difference) agree first))),
    );
  }

  module _ (said : Status) where
    differing : (difference : Difference) → AreTextViews (views_of catalogue.fragments) (database_of facts)
        → AuditsFiles catalogue facts contents (Some difference) → said ≡ status.Differs difference
        → AuditsExactly catalogue facts contents said (line_of said)
    differing difference texts first is = record {
      done = (
        (λ same. absurd (done_not_differs difference (sym same ∙ is))),
        (λ agree. absurd (none-some difference (ends_one None (Some difference) agree first))),
      );
      prints = λ same. absurd (done_not_differs difference (sym same ∙ is));
      differs = λ only other. (
        (λ same. subst (λ (it : Difference). AuditsFiles catalogue facts contents (Some it)) (differs_same difference other (sym is ∙ same)) first),
        (λ its. is ∙ ap status.Differs (same_Some difference other (ends_one (Some difference) (Some other) first its))),
      );
    }

    noded : (column : ℕ) → IsFirstNodeView (views_of catalogue.fragments) (database_of facts) column → said ≡ status.NodeInRow column
        → AuditsExactly catalogue facts contents said (line_of said)
    noded column first is = record {
      done = (
        (λ same. absurd (done_not_node column (sym same ∙ is))),
        (λ agree. absurd (views_no_node (views_of catalogue.fragments) (database_of facts) column
            (agree_texts (views_of catalogue.fragments) (database_of facts) (IsFileRow catalogue.stores contents) agree.rows) first)),
      );
      prints = λ same. absurd (done_not_node column (sym same ∙ is));
      differs = λ texts difference. absurd (views_no_node (views_of catalogue.fragments) (database_of facts) column texts first);
    }

module _ (laws : DataLaws) (files : Files) (catalogue : Catalogue) (many : length catalogue.stores ≡ length catalogue.fragments) where
  module _ (facts : List (Fact Term)) (holds : HoldFacts files catalogue.datasets IsAny facts) where
    loaded_is : (others : List (Fact Term)) → (loads (Some files) catalogue.datasets IsAny).goes others → others ≡ facts
    loaded_is others loaded = (holds_leads files catalogue.datasets IsAny facts holds laws.facts).goes others loaded

    flat_facts : (others : List (Fact Term)) → (loads (Some files) catalogue.datasets IsAny).goes others → AreFlat facts
    flat_facts others loaded = subst AreFlat (loaded_is others loaded) (loads_flat (Some files) catalogue.datasets IsAny others loaded)

    -- where the views' rows are of texts, no node is told; where they are not, that of the first such view
    node_none : (said : Status) → AreTextViews (views_of catalogue.fragments) (database_of facts) → TellsNoNode said → (column : ℕ)
        → (said ≡ status.NodeInRow column) ↔ IsFirstNodeView (views_of catalogue.fragments) (database_of facts) column
    node_none said texts other column = (
      (λ same. absurd (other column same)),
      (λ first. absurd (views_no_node (views_of catalogue.fragments) (database_of facts) column texts first)),
    )

    node_told : (said : Status) (column : ℕ) → IsFirstNodeView (views_of catalogue.fragments) (database_of facts) column
        → said ≡ status.NodeInRow column → (other : ℕ)
        → (said ≡ status.NodeInRow other) ↔ IsFirstNodeView (views_of catalogue.fragments) (database_of facts) other
    node_told said column first is other = (
      (λ same. subst (IsFirstNodeView (views_of catalogue.fragments) (database_of facts)) (node_same column other (sym is ∙ same)) first),
      (λ its. is ∙ ap status.NodeInRow (views_one (views_of catalogue.fragments) (database_of facts) column other first its)),
    )

    texts_moved : (others : List (Fact Term)) → (loads (Some files) catalogue.datasets IsAny).goes others
        → AreTextViews (views_of catalogue.fragments) (database_of others) → AreTextViews (views_of catalogue.fragments) (database_of facts)
    texts_moved others loaded texts =
        subst (λ (it : List (Fact Term)). AreTextViews (views_of catalogue.fragments) (database_of it)) (loaded_is others loaded) texts

    node_stops : (said : Status) → IsCaused ⊥ said → (audits_catalogue (Some files) catalogue).stops said → (column : ℕ)
        → (said ≡ status.NodeInRow column) ↔ IsFirstNodeView (views_of catalogue.fragments) (database_of facts) column
    unfolding and_then judges gives
    node_stops said caused stop = elim stop [
      | inl unloaded ↦ absurd ((holds_leads files catalogue.datasets IsAny facts holds laws.facts).stops said caused unloaded)
      | inr (others, loaded, more) ↦ elim more [
        | inl (column, first, is) ↦ node_told said column
            (subst (λ (it : List (Fact Term)). IsFirstNodeView (views_of catalogue.fragments) (database_of it) column) (loaded_is others loaded) first) is
        | inr (value, texts, later) ↦ node_none said (texts_moved others loaded texts) (elim later [
          | inl unopened ↦ (opened_without_node files catalogue (all_fragments catalogue)).stops said caused unopened
          | inr (their, opened, last) ↦ elim last [
            | inl (difference, first, is) ↦ (λ column same. differs_not_node difference column (sym is ∙ same))
            | inr (given, agree, none) ↦ absurd none
          ]
        ])
      ]
    ]

    module _ (contents : ℕ → List ℕ) (readable : AreReadableFragments files catalogue contents) where
      -- an audit over what was loaded and opened is one over the readable files
      ends_moved : (others : List (Fact Term)) (their : ℕ → List ℕ) (outcome : Option Difference) → (loads (Some files) catalogue.datasets IsAny).goes others
          → (opens_fragments (Some files) catalogue (all_fragments catalogue)).goes their → AuditsFiles catalogue others their outcome
          → AuditsFiles catalogue facts contents outcome
      ends_moved others their outcome loaded opened audits =
          audits-moved (rules_of catalogue.rules) (map written catalogue.rules) (names_of catalogue.fragments) (views_of catalogue.fragments) facts
          (IsFileRow catalogue.stores their) (IsFileRow catalogue.stores contents) (rows_same files catalogue contents readable their opened many) outcome
          (subst (λ (it : List (Fact Term)). AuditsFiles catalogue it their outcome) (loaded_is others loaded) audits)

      audit_stops : (said : Status) → IsCaused ⊥ said → (audits_catalogue (Some files) catalogue).stops said
          → AuditsExactly catalogue facts contents said (line_of said)
      unfolding and_then judges gives
      audit_stops said caused stop = elim stop [
        | inl unloaded ↦ absurd ((holds_leads files catalogue.datasets IsAny facts holds laws.facts).stops said caused unloaded)
        | inr (others, loaded, more) ↦ elim more [
          | inl (column, first, is) ↦ noded laws catalogue facts (flat_facts others loaded) contents said column
              (subst (λ (it : List (Fact Term)). IsFirstNodeView (views_of catalogue.fragments) (database_of it) column) (loaded_is others loaded) first) is
          | inr (value, texts, later) ↦ elim later [
            | inl unopened ↦ absurd (fragments_never files catalogue contents readable said caused unopened)
            | inr (their, opened, last) ↦ elim last [
              | inl (difference, first, is) ↦ differing laws catalogue facts (flat_facts others loaded) contents said difference
                  (texts_moved others loaded texts)
                  (ends_moved others their (Some difference) loaded opened first) is
              | inr (given, agree, none) ↦ absurd none
            ]
          ]
        ]
      ]

  pub audit_says : SaysAlways (audits_catalogue (Some files) catalogue) (IsExactAudit files catalogue)
  unfolding and_then judges gives
  audit_says = record {
    goes = λ reply (others, loaded, (value, texts, (their, opened, (given, agree, done)))). (
      audit_text catalogue,
      done,
      record {
        node = λ facts holds. node_none facts holds status.Done (texts_moved facts holds others loaded texts) (λ column same. done_not_node column same);
        audits = λ facts contents holds readable.
            agreed laws catalogue facts (flat_facts facts holds others loaded) contents
            (ends_moved facts holds contents readable others their None loaded opened agree);
      },
    );
    stops = λ said caused stop. record {
      node = λ facts holds. node_stops facts holds said caused stop;
      audits = λ facts contents holds readable. audit_stops facts holds contents readable said caused stop;
    };
  }
