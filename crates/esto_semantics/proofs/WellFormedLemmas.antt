-- A database without the facts that aren't over a schema, and with each text that isn't UTF-8 renamed to an unnamed value, meets the
-- same rules and gives the same answers.
use Rattle.std.proofs.Common.{◌≡◌, ◌↔◌, ◌==◌, ℕ, Bool, true, false, Option, Some, None, List, ◌++◌, length, map, Contains, slice_get, IsUtf8, refl, sym, ap}
use Rattle.std.proofs.Common.{◌∙◌, subst}
use Rattle.std.specs.Bool.{Decides}
use Rattle.std.specs.List.{flat_map}
use Rattle.std.specs.Str.{bytes_eq, is_utf8}
use Rattle.std.proofs.lemmas.Bool.Decides.{Decides-eqb}
use Rattle.std.proofs.lemmas.List.{length-map}
use Rattle.std.proofs.lemmas.List.Elements.{Contains-append_left, Contains-append_right}
use Rattle.std.proofs.lemmas.Slice.Eq.{bytes_eq-Decides}
use Rattle.std.proofs.lemmas.Str.{IsUtf8-from_is_utf8, is_utf8-from_IsUtf8}
use Rattle.esto_term.specs.declared.term.Term.{Term}
use Rattle.esto_term.specs.declared.term.Term.TheVariants.{Const}
use Rattle.esto_semantics.specs.Containment.{IsContained, IsSatisfiable}
use Rattle.esto_semantics.specs.Facts.{Database, image, Mentions}
use Rattle.esto_semantics.specs.Maps.{Sends}
use Rattle.esto_semantics.specs.Queries.{ConjunctiveQuery, IsAnswer, IsAnswerInto}
use Rattle.esto_semantics.specs.Restriction.{is_over, has_columns, over_schema, AreRulesOver, HasUtf8, AreQueriesOver, IsSideOver, IsContainedOver}
use Rattle.esto_semantics.specs.Restriction.{IsSatisfiableOver}
use Rattle.esto_semantics.specs.Rules.{Rule, tuple, equality, denial, AreRules, MeetsRule, Meets}
use Rattle.esto_semantics.specs.Sides.{Side, over_datasets, over_fragments, union_over_datasets, union_over_fragments, IsAnswerOf}
use Rattle.esto_semantics.specs.Views.{IsViewRow, IsFragmentAnswer}
use Rattle.esto_semantics.specs.WellFormed.{AreOver, HaveUtf8, IsWellFormed, IsQueryOver, IsRuleOver}
use Rattle.esto_semantics.specs.declared.fact.Fact.{Fact}
use Rattle.esto_semantics.specs.declared.fact.Value.{Value}
use Rattle.esto_semantics.specs.declared.fact.Value.TheVariants.{Text, Node}
use Rattle.esto_semantics.proofs.FactLemmas.{Mentions-images}
use Rattle.esto_semantics.proofs.RenamingLemmas.{Naming, RuleIsKept, value_of, thing_of, renamed, value_of-Text, map-thing_of-value_of, answer_there}
use Rattle.esto_semantics.proofs.RenamingLemmas.{answer_back, fact_there, fact_back, meets_there}
use Rattle.esto_semantics.proofs.ContainmentLemmas.{IsAnswerOf-grows, IsAnswerInto-grows}
use Rattle.esto_term.proofs.ListLemmas.{Contains-at, Contains-filter, Contains-filter_from, Contains-flat, Contains-map_from}

-- ---- the facts over a schema

is_over-Decides : (schema : List ℕ) (fact : Fact Value) → Decides (is_over schema fact) (slice_get schema fact.relation ≡ Some (length fact.terms))
is_over-Decides schema fact = by (slice_get schema fact.relation)
  where
    by : (found : Option ℕ) → Decides (has_columns found (length fact.terms)) (found ≡ Some (length fact.terms))
    by (Some columns) = let test = Decides-eqb columns (length fact.terms) in ((λ told. ap Some (test.0 told)), (λ same. test.1 (cc)))
    by None = ((λ told. cc), (λ same. cc))

module _ (schema : List ℕ) (database : Database) where
  pub over_schema-among : (fact : Fact Value) → Contains (over_schema schema database) fact → Contains database fact
  over_schema-among fact inside = (Contains-filter_from (is_over schema) database fact inside).0

  pub over_schema-AreOver : AreOver schema (over_schema schema database)
  over_schema-AreOver fact inside = (is_over-Decides schema fact).0 (Contains-filter_from (is_over schema) database fact inside).1

  -- a map sends atoms over the schema to such facts alone
  sends_over : (m : Term → Value) (body : List (Fact Term)) → AreOver schema body → Sends m body database → Sends m body (over_schema schema database)
  sends_over m body over sends atom inside =
      Contains-filter (is_over schema) database (image m atom) (sends atom inside)
      ((is_over-Decides schema (image m atom)).1 (over atom inside ∙ ap Some (sym (length-map atom.terms m))))

  sends_all : (m : Term → Value) (body : List (Fact Term)) → Sends m body (over_schema schema database) → Sends m body database
  sends_all m body sends atom inside = over_schema-among (image m atom) (sends atom inside)

  rule_over : (rule : Rule) → IsRuleOver schema rule → MeetsRule rule database → MeetsRule rule (over_schema schema database)
  rule_over (tuple body head) over meets = λ m keeps sends.
      let found = meets m keeps (sends_all m body sends) in (found.0, found.1, found.2, sends_over found.0 head over.1 found.3)
  rule_over (equality body left right) over meets = λ m keeps sends. meets m keeps (sends_all m body sends)
  rule_over (denial body) over meets = λ m keeps sends. meets m keeps (sends_all m body sends)

  rule_all : (rule : Rule) → IsRuleOver schema rule → MeetsRule rule (over_schema schema database) → MeetsRule rule database
  rule_all (tuple body head) over meets = λ m keeps sends.
      let found = meets m keeps (sends_over m body over.0 sends) in (found.0, found.1, found.2, sends_all found.0 head found.3)
  rule_all (equality body left right) over meets = λ m keeps sends. meets m keeps (sends_over m body over.0 sends)
  rule_all (denial body) over meets = λ m keeps sends. meets m keeps (sends_over m body over.0 sends)

  pub over_schema-Meets : (rules : List Rule) → AreRulesOver schema rules → Meets rules database ↔ Meets rules (over_schema schema database)
  over_schema-Meets rules over = (
    (λ meets rule inside. rule_over rule (over rule inside) (meets rule inside)),
    (λ meets rule inside. rule_all rule (over rule inside) (meets rule inside)),
  )

  query_over : (query : ConjunctiveQuery) (row : List Value) → AreOver schema query.body → IsAnswer query database row
      → IsAnswer query (over_schema schema database) row
  query_over query row over (m, keeps, sends, is) = (m, keeps, sends_over m query.body over sends, is)

  view_over : (views : List ConjunctiveQuery) → AreQueriesOver schema views
      → (fact : Fact Value) → IsViewRow views database fact → IsViewRow views (over_schema schema database) fact
  view_over views over fact (view, found, answer) =
      (view, found, query_over view fact.terms (over view (Contains-at views fact.relation view found)).over answer)

  fragments_over : (views : List ConjunctiveQuery) (query : ConjunctiveQuery) (row : List Value) → AreQueriesOver schema views
      → IsFragmentAnswer views query database row → IsFragmentAnswer views query (over_schema schema database) row
  fragments_over views query row over answer =
      IsAnswerInto-grows Text query (IsViewRow views database) (IsViewRow views (over_schema schema database)) row (view_over views over) answer

  side_over : (side : Side) (row : List Value) → IsSideOver schema side → IsAnswerOf side database row → IsAnswerOf side (over_schema schema database) row
  side_over (over_datasets query) row over answer = query_over query row over.over answer
  side_over (over_fragments views query) row over answer = fragments_over views query row over.0 answer
  side_over (union_over_datasets queries) row over (query, inside, answer) = (query, inside, query_over query row (over query inside).over answer)
  side_over (union_over_fragments views queries) row over (query, inside, answer) = (query, inside, fragments_over views query row over.0 answer)

  pub over_schema-IsAnswerOf : (side : Side) (row : List Value) → IsSideOver schema side
      → IsAnswerOf side database row ↔ IsAnswerOf side (over_schema schema database) row
  over_schema-IsAnswerOf side row over = (side_over side row over, IsAnswerOf-grows side (over_schema schema database) database over_schema-among row)

-- ---- values, named by their texts where these are UTF-8

abbrev same_value : Value → Value → Bool
same_value (Text text) (Text other) = bytes_eq text other
same_value (Text text) (Node number) = false
same_value (Node number) (Text text) = false
same_value (Node number) (Node other) = number == other

same_value-Decides : (value other : Value) → Decides (same_value value other) (value ≡ other)
same_value-Decides (Text text) (Text other) = let test = bytes_eq-Decides text other in ((λ told. ap Text (test.0 told)), (λ is. test.1 (cc)))
same_value-Decides (Text text) (Node number) = ((λ told. cc), (λ is. cc))
same_value-Decides (Node number) (Text text) = ((λ told. cc), (λ is. cc))
same_value-Decides (Node number) (Node other) = let test = Decides-eqb number other in ((λ told. ap Node (test.0 told)), (λ is. test.1 (cc)))

abbrev text_if : Bool → List ℕ → Option (List ℕ)
text_if true text = Some text
text_if false text = None

abbrev utf8_text : Value → Option (List ℕ)
utf8_text (Text text) = text_if (is_utf8 text) text
utf8_text (Node number) = None

-- a text that is told is the value's own, and UTF-8
utf8_text-told : (value : Value) (text : List ℕ) → utf8_text value ≡ Some text → (Text text ≡ value) × (is_utf8 text ≡ true)
utf8_text-told (Text own) text told = by (is_utf8 own) refl told
  where
    by : (answer : Bool) → is_utf8 own ≡ answer → text_if answer own ≡ Some text → (Text text ≡ Text own) × (is_utf8 text ≡ true)
    by true utf8 is = let same : text ≡ own = cc in (ap Text same, ap is_utf8 same ∙ utf8)
    by false utf8 is = absurd (cc)
utf8_text-told (Node number) text told = absurd (cc)

abbrev values_naming : Naming Value
values_naming = record {
  constant = Text;
  text_of = utf8_text;
  same = same_value;
  told = λ value text told. (utf8_text-told value text told).0;
  decides = same_value-Decides;
}

utf8-IsKept : (text : List ℕ) → IsUtf8 text → utf8_text (Text text) ≡ Some text
utf8-IsKept text utf8 = ap (λ answer. text_if answer text) (is_utf8-from_IsUtf8 text utf8)

rule-IsKept : (schema : List ℕ) (rule : Rule) → IsRuleOver schema rule → RuleIsKept values_naming rule
rule-IsKept schema (tuple body head) over = λ text inside. utf8-IsKept text (over.3 text inside)
rule-IsKept schema (equality body left right) over = ((λ text is. utf8-IsKept text (over.2 text is)), (λ text is. utf8-IsKept text (over.3 text is)))
rule-IsKept schema (denial body) over = tt

-- ---- a database over the schema with each other text renamed

module _ (schema : List ℕ) (database : Database) (over : AreOver schema database) (row : List Value) where
  abbrev things : List Value
  things = flat_map (λ (fact : Fact Value). fact.terms) database ++ row

  abbrev there : Value → Value
  there = value_of values_naming things

  abbrev back : Value → Value
  back = thing_of values_naming things

  abbrev clean : Database
  clean = renamed values_naming things database

  in_database : (value : Value) → Mentions database value → Contains things value
  in_database value (fact, inside, in_fact) =
      Contains-append_left _ row value (Contains-flat (λ (fact : Fact Value). fact.terms) database fact value inside in_fact)

  clean_text : (text : List ℕ) (value : Value) → there value ≡ Text text → IsUtf8 text
  clean_text text value is = let own = value_of-Text values_naming things value text is in IsUtf8-from_is_utf8 text (utf8_text-told value text own).1

  clean-IsWellFormed : IsWellFormed schema clean
  clean-IsWellFormed = record {
    over = λ fact inside.
        let found = Contains-map_from (image there) database fact inside in
        subst (λ (it : Fact Value). slice_get schema it.relation ≡ Some (length it.terms)) found.2
        (over found.0 found.1 ∙ ap Some (sym (length-map found.0.terms there)));
    texts = λ text inside. let from = Mentions-images there database (Text text) inside in clean_text text from.0 from.2;
  }

  clean-Meets : (rules : List Rule) → AreRules rules → AreRulesOver schema rules → Meets rules database → Meets rules clean
  clean-Meets rules are_rules rules_over meets rule inside =
      meets_there values_naming things database in_database rule (are_rules rule inside) (rule-IsKept schema rule (rules_over rule inside)) (meets rule inside)

  -- ---- answers go there and back

  into_there : (query : ConjunctiveQuery) (Holds Named : Fact Value → Type 0) (own : List Value) → HaveUtf8 query.body
      → ((text : List ℕ) → Contains query.head (Const text) → IsUtf8 text)
      → ((fact : Fact Value) → Holds fact → Named (image there fact)) → IsAnswerInto Text query Holds own → IsAnswerInto Text query Named (map there own)
  into_there query Holds Named own body_utf8 head_utf8 carried answer =
      answer_there values_naming things query Holds Named own (λ text inside. utf8-IsKept text (body_utf8 text inside))
      (λ term inside text is. utf8-IsKept text (head_utf8 text (subst (Contains query.head) is inside))) carried answer

  query_there : (query : ConjunctiveQuery) (own : List Value) → IsQueryOver schema query → IsAnswer query database own → IsAnswer query clean (map there own)
  query_there query own query_over answer =
      into_there query (Contains database) (Contains clean) own query_over.body_texts query_over.head_texts
      (fact_there values_naming things database in_database) answer

  query_back : (query : ConjunctiveQuery) (own : List Value) → IsAnswer query clean own → IsAnswer query database (map back own)
  query_back query own answer =
      answer_back values_naming things query (Contains database) (Contains clean) own (fact_back values_naming things database in_database) answer

  fragments_there : (views : List ConjunctiveQuery) (query : ConjunctiveQuery) (own : List Value) → AreQueriesOver schema views → HasUtf8 query
      → IsFragmentAnswer views query database own → IsFragmentAnswer views query clean (map there own)
  fragments_there views query own are_over utf8 answer =
      into_there query (IsViewRow views database) (IsViewRow views clean) own utf8.body_texts utf8.head_texts
      (λ fact (view, found, view_answer). (view, found, query_there view fact.terms (are_over view (Contains-at views fact.relation view found)) view_answer))
      answer

  side_there : (side : Side) (own : List Value) → IsSideOver schema side → IsAnswerOf side database own → IsAnswerOf side clean (map there own)
  side_there (over_datasets query) own is_over answer = query_there query own is_over answer
  side_there (over_fragments views query) own is_over answer = fragments_there views query own is_over.0 is_over.1 answer
  side_there (union_over_datasets queries) own is_over (query, inside, answer) = (query, inside, query_there query own (is_over query inside) answer)
  side_there (union_over_fragments views queries) own is_over (query, inside, answer) =
      (query, inside, fragments_there views query own is_over.0 (is_over.1 query inside) answer)

  fragments_back : (views : List ConjunctiveQuery) (query : ConjunctiveQuery) (own : List Value) → IsFragmentAnswer views query clean own
      → IsFragmentAnswer views query database (map back own)
  fragments_back views query own answer =
      answer_back values_naming things query (IsViewRow views database) (IsViewRow views clean) own
      (λ fact (view, found, view_answer). (view, found, query_back view fact.terms view_answer)) answer

  side_back : (side : Side) (own : List Value) → IsAnswerOf side clean own → IsAnswerOf side database (map back own)
  side_back (over_datasets query) own answer = query_back query own answer
  side_back (over_fragments views query) own answer = fragments_back views query own answer
  side_back (union_over_datasets queries) own (query, inside, answer) = (query, inside, query_back query own answer)
  side_back (union_over_fragments views queries) own (query, inside, answer) = (query, inside, fragments_back views query own answer)

  row_back : map back (map there row) ≡ row
  row_back = map-thing_of-value_of values_naming things row (λ value inside. Contains-append_right _ row value inside)

  contained_here : (rules : List Rule) (left right : Side) → AreRules rules → AreRulesOver schema rules → IsSideOver schema left
      → IsContainedOver schema rules (IsAnswerOf left) (IsAnswerOf right) → Meets rules database → IsAnswerOf left database row → IsAnswerOf right database row
  contained_here rules left right are_rules rules_over left_over contained meets answer =
      subst (IsAnswerOf right database) row_back
      (side_back right (map there row)
      (contained clean clean-IsWellFormed (clean-Meets rules are_rules rules_over meets) (map there row) (side_there left row left_over answer)))

-- ---- the law

pub contained-from_well_formed : (schema : List ℕ) (rules : List Rule) (left right : Side) → AreRules rules → AreRulesOver schema rules
    → IsSideOver schema left → IsSideOver schema right
    → IsContainedOver schema rules (IsAnswerOf left) (IsAnswerOf right) → IsContained rules (IsAnswerOf left) (IsAnswerOf right)
contained-from_well_formed schema rules left right are_rules rules_over left_over right_over contained database meets row answer =
    (over_schema-IsAnswerOf schema database right row right_over).1
    (contained_here schema (over_schema schema database) (over_schema-AreOver schema database) row rules left right are_rules rules_over left_over contained
    ((over_schema-Meets schema database rules rules_over).0 meets)
    ((over_schema-IsAnswerOf schema database left row left_over).0 answer))

pub satisfiable_well_formed : (schema : List ℕ) (rules : List Rule) (query : ConjunctiveQuery) → AreRules rules → AreRulesOver schema rules
    → IsQueryOver schema query
    → IsSatisfiable rules query → IsSatisfiableOver schema rules query
satisfiable_well_formed schema rules query are_rules rules_over query_over (database, meets, (row, answer)) =
    let within : Database = over_schema schema database in
    let is_over : AreOver schema within = over_schema-AreOver schema database in (
      clean schema within is_over row,
      clean-IsWellFormed schema within is_over row,
      clean-Meets schema within is_over row rules are_rules rules_over ((over_schema-Meets schema database rules rules_over).0 meets),
      (
        map (there schema within is_over row) row,
        query_there schema within is_over row query row query_over ((over_schema-IsAnswerOf schema database (over_datasets query) row query_over).0 answer),
      ),
    )
