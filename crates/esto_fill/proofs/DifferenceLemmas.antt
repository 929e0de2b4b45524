-- An audit: the rules, the rows of one fragment, and those of all.
use Rattle.std.proofs.Common.{◌≡◌, ◌↔◌, inl, inr, ℕ, ◌≤◌, ◌<◌, ◌+◌, List, [], length, take, map, Option, None, Some, slice_get, Contains, refl}
use Rattle.std.proofs.Common.{sym, ap, ◌∙◌, subst, arith}
use Rattle.std.proofs.lemmas.Bool.{cases_order}
use Rattle.std.proofs.lemmas.List.{get_or_past, length-map}
use Rattle.std.proofs.lemmas.Option.{get_or_from_slice_get, same_Some, slice_get_cases, slice_get_within}
use Rattle.esto_constraint.specs.Constraints.{rule_of, rules_of}
use Rattle.esto_constraint.specs.declared.rule.Constraint.{Constraint}
use Rattle.esto_steps.specs.Rows.{IsRowOf, held_by}
use Rattle.esto_query.specs.Making.{query_of}
use Rattle.esto_query.specs.declared.query.Name.{Name}
use Rattle.esto_semantics.specs.Facts.{Database}
use Rattle.esto_semantics.specs.Queries.{ConjunctiveQuery, IsAnswer}
use Rattle.esto_semantics.specs.Rules.{Rule, IsRule, AreRules, Meets, AreMet}
use Rattle.esto_semantics.specs.Standing.{Stands, RulesStand}
use Rattle.esto_semantics.specs.Views.{IsViewRow}
use Rattle.esto_semantics.specs.declared.fact.Fact.{Fact}
use Rattle.esto_semantics.specs.declared.fact.Value.{Value}
use Rattle.esto_semantics.specs.declared.fact.Value.TheVariants.{Text}
use Rattle.esto_semantics.proofs.ValueLemmas.{same_texts}
use Rattle.esto_stores.specs.Rows.{Row}
use Rattle.esto_term.specs.declared.term.Term.{Term}
use Rattle.esto_term.specs.declared.term.Term.TheVariants.{Const}
use Rattle.esto_term.proofs.ListLemmas.{Contains-at, Contains-map, Contains-map_from, Contains-nil, map_at}
use Rattle.esto_term.proofs.PlaceLemmas.{Contains-take_in}
use Rattle.esto_views.specs.Fragments.{views_of}
use Rattle.esto_views.specs.declared.fragments.FragmentDef.{FragmentDef}
use Rattle.esto_fill.specs.Databases.{value_of, database_of}
use Rattle.esto_fill.specs.Differences.{AreOne, Audits, HoldViewRows, IsInOne, IsLeastApart, IsOfView, at}
use Rattle.esto_fill.specs.Judging.{IsText, JudgesFragment, JudgesFragments, JudgesRules, TellsApart}
use Rattle.esto_fill.specs.Placing.{IsImageOf, text_of}
use Rattle.esto_fill.specs.Texts.{AreExactly, AreTextViews, HaveTextsOnly}
use Rattle.esto_ports.specs.declared.difference.Difference.{Difference}
use Rattle.esto_ports.specs.declared.difference.Difference.TheVariants.{Rule as Broken, Missing, Extra}
use Rattle.esto_fill.proofs.TextLemmas.{row_of_texts}
use Rattle.esto_fill.proofs.ValueLemmas.{map_text, map_value}

-- ---- the rules

module _ (stand : RulesStand) (facts : List (Fact Term)) (stands : Stands facts value_of (database_of facts)) where
  -- what the facts meet, the database meets
  pub met_meets : (rules : List Rule) → AreRules rules → AreMet facts rules → Meets rules (database_of facts)
  met_meets rules are met rule inside = (stand facts value_of (database_of facts) rule stands (are rule inside)).0 (met rule inside)

  pub meets_met : (rules : List Rule) → AreRules rules → Meets rules (database_of facts) → AreMet facts rules
  meets_met rules are meets rule inside = (stand facts value_of (database_of facts) rule stands (are rule inside)).1 (meets rule inside)

-- each rule of a catalogue is one
pub are_rules : (each : (constraint : Constraint) → IsRule (rule_of constraint)) (rules : List Constraint) → AreRules (rules_of rules)
are_rules each rules rule inside = let from = Contains-map_from rule_of rules rule inside in subst IsRule from.2 (each from.0)

pub first_rules : (rules : List Rule) (count : ℕ) → AreRules rules → AreRules (take count rules)
first_rules rules count are rule inside = are rule (Contains-take_in rules count rule inside)

-- ---- rows of texts as rows of constants, in order

-- rows of constants are the same where their texts are
constants_same : (cells others : Row) → map Const cells ≡ map Const others → cells ≡ others
constants_same cells others same = sym (map_text cells) ∙ ap (map text_of) same ∙ map_text others

module _ (rows : List Row) (held : List (List Term)) (same : (row : List Term) → Contains held row ↔ Contains (map (map Const) rows) row) where
  -- their images are rows of texts
  pub constants_texts : HaveTextsOnly (IsImageOf held)
  constants_texts values (row, inside, is) =
      let from = Contains-map_from (map Const) rows row ((same row).0 inside) in
      (from.0, is ∙ ap (map value_of) (sym from.2) ∙ map_value from.0)

  -- which are the rows
  pub constants_rows : (texts : List Row) → AreExactly (IsImageOf held) texts → AreOne (Contains texts) (Contains rows)
  constants_rows texts exact cells = (
    (λ inside.
        let image = (exact (map Text cells)).1 (cells, inside, refl) in
        let is = row_of_texts image.0 cells (sym image.2) in
        let from = Contains-map_from (map Const) rows (map Const cells) ((same (map Const cells)).0 (subst (Contains held) is image.1)) in
        subst (Contains rows) (constants_same from.0 cells from.2) from.1),
    (λ inside.
        let there = (same (map Const cells)).1 (Contains-map (map Const) rows cells inside) in
        let found = (exact (map Text cells)).0 (map Const cells, there, sym (map_value cells)) in
        subst (Contains texts) (sym (same_texts cells found.0 found.2)) found.1),
  )

-- ---- sets that are the same

module _ (One Other Ones Others : Row → Type 0) (same : AreOne One Ones) (too : AreOne Other Others) where
  either_same : (row : Row) → IsInOne Ones Others row → IsInOne One Other row
  either_same row (inl (inside, apart)) = inl ((same row).1 inside, λ there. apart ((too row).0 there))
  either_same row (inr (inside, apart)) = inr ((too row).1 inside, λ there. apart ((same row).0 there))

  pub apart_same : (row : Row) → IsLeastApart One Other row → IsLeastApart Ones Others row
  apart_same row apart = record {
    inside = (same row).0 apart.inside;
    outside = λ there. apart.outside ((too row).1 there);
    least = λ other differs. apart.least other (either_same other differs);
  }

-- ---- one fragment

module _ (Rows : List Value → Type 0) (own held list : List Row) (exact : AreExactly Rows own) (same : AreOne (Contains held) (Contains list)) where
  as_texts : AreOne (Contains own) (IsText Rows)
  as_texts row = (
    (λ inside. (exact (map Text row)).1 (row, inside, refl)),
    (λ there. let found = (exact (map Text row)).0 there in subst (Contains own) (sym (same_texts row found.0 found.2)) found.1),
  )

  -- what tells its view's rows and its own apart judges it
  pub told_judges : (name : List ℕ) (outcome : Option Difference) → TellsApart name own held outcome → JudgesFragment name Rows list outcome
  told_judges name None told = λ row. (
    (λ there. (same row).0 ((told row).0 ((as_texts row).1 there))),
    (λ inside. (as_texts row).0 ((told row).1 ((same row).1 inside))),
  )
  told_judges name (Some (Missing its row)) (is, apart) =
      (is, apart_same (Contains own) (Contains held) (IsText Rows) (Contains list) as_texts same row apart)
  told_judges name (Some (Extra its row)) (is, apart) =
      (is, apart_same (Contains held) (Contains own) (Contains list) (IsText Rows) same as_texts row apart)
  told_judges name (Some (Broken number cells)) told = absurd told

-- ---- all fragments

module _ (fragments : List FragmentDef) (database : Database) (rows : List (List Row)) where
  abbrev its_views : List ConjunctiveQuery
  its_views = views_of fragments

  abbrev its_names : List (List ℕ)
  its_names = map (λ (fragment : FragmentDef). fragment.name) fragments

  abbrev OfView : ℕ → Row → Type 0
  OfView = IsOfView its_views database

  abbrev OfFile : ℕ → Row → Type 0
  OfFile number row = IsRowOf (held_by rows) (at number row)

  -- each fragment before the number has the rows of its view
  abbrev pub AreOneBelow : ℕ → Type 0
  AreOneBelow count = (number : ℕ) → number < count → AreOne (OfView number) (OfFile number)

  module _ (number : ℕ) (fragment : FragmentDef) (held : List Row) (there : slice_get fragments number ≡ Some fragment)
      (rows_there : slice_get rows number ≡ Some held) where
    abbrev OwnRows : List Value → Type 0
    OwnRows = IsAnswer (query_of fragment.view) database

    view_at : slice_get its_views number ≡ Some (query_of fragment.view)
    view_at = map_at (λ (its : FragmentDef). query_of its.view) fragments number fragment there

    of_view : AreOne (IsText OwnRows) (OfView number)
    of_view row = (
      (λ answer. (query_of fragment.view, view_at, answer)),
      (λ (view, is, answer). subst (λ it. IsAnswer it database (map Text row)) (same_Some view (query_of fragment.view) (sym is ∙ view_at)) answer),
    )

    of_file : AreOne (Contains held) (OfFile number)
    of_file row =
        let is = get_or_from_slice_get rows number held [] rows_there in (
          (λ inside. subst (λ those. Contains those row) (sym is) inside),
          (λ inside. subst (λ those. Contains those row) is inside),
        )

    pub one_more : JudgesFragment fragment.name OwnRows held None → AreOneBelow number → AreOneBelow (number + 1)
    one_more same before other below = elim (cases_order other number) [
      | inl is ↦ subst (λ n. AreOne (OfView n) (OfFile n)) (sym is) (λ row. (
        (λ inside. (of_file row).0 ((same row).0 ((of_view row).1 inside))),
        (λ inside. (of_view row).0 ((same row).1 ((of_file row).1 inside))),
      ))
      | inr (inl less) ↦ before other less
      | inr (inr more) ↦ absurd (omega (arith, more, below))
    ]

    named : (name : List ℕ) → name ≡ fragment.name → slice_get its_names number ≡ Some name
    named name is = map_at (λ (its : FragmentDef). its.name) fragments number fragment there ∙ ap Some (sym is)

    pub first_apart : (difference : Difference) → JudgesFragment fragment.name OwnRows held (Some difference) → AreOneBelow number
        → JudgesFragments its_names its_views database rows (Some difference)
    first_apart (Broken _ _) judged before = absurd judged
    first_apart (Missing name row) (is, apart) before = record {
      number = number;
      named = named name is;
      apart = apart_same (IsText OwnRows) (Contains held) (OfView number) (OfFile number) of_view of_file row apart;
      before = before;
    }
    first_apart (Extra name row) (is, apart) before = record {
      number = number;
      named = named name is;
      apart = apart_same (Contains held) (IsText OwnRows) (OfFile number) (OfView number) of_file of_view row apart;
      before = λ earlier less row. ((before earlier less row).1, (before earlier less row).0);
    }

  pub all_one : length rows ≡ length fragments → AreTextViews its_views database → (count : ℕ) → length fragments ≤ count → AreOneBelow count
      → HoldViewRows its_views database (IsRowOf (held_by rows))
  all_one many texts count past before fact = (there, back)
    where
      there : IsViewRow its_views database fact → (row : Row) × IsRowOf (held_by rows) (at fact.relation row) × (fact.terms ≡ map Text row)
      there (view, is, answer) =
          let found = texts view (Contains-at its_views fact.relation view is) fact.terms answer in
          let within = slice_get_within its_views fact.relation view is in
          let long = length-map fragments (λ (its : FragmentDef). query_of its.view) in
          let below : fact.relation < count = omega (arith, within, long, past) in
          (found.0, (before fact.relation below found.0).0 (view, is, subst (IsAnswer view database) found.1 answer), found.1)

      back : (row : Row) × IsRowOf (held_by rows) (at fact.relation row) × (fact.terms ≡ map Text row) → IsViewRow its_views database fact
      back (row, inside, is) = elim (slice_get_cases rows fact.relation).1 [
        | inl (held, within, found, read) ↦
            let below : fact.relation < count = omega (arith, within, many, past) in
            let own = (before fact.relation below row).1 inside in
            (own.0, own.1, subst (IsAnswer own.0 database) (sym is) own.2)
        | inr (beyond, none) ↦ absurd (Contains-nil row (subst (λ those. Contains those row) (get_or_past rows fact.relation [] beyond) inside))
      ]

-- ---- the audit

pub audited_rule : (rules : List Rule) (own : List (List Name)) (names : List (List ℕ)) (views : List ConjunctiveQuery) (facts : List (Fact Term))
    (Holds : Fact (List ℕ) → Type 0) (difference : Difference) → JudgesRules rules own facts (Some difference)
    → Audits rules own names views facts Holds (Some difference)
audited_rule rules own names views facts Holds (Broken number cells) judged = judged
audited_rule rules own names views facts Holds (Missing name row) judged = absurd judged
audited_rule rules own names views facts Holds (Extra name row) judged = absurd judged

pub audited : (rules : List Rule) (own : List (List Name)) (names : List (List ℕ)) (views : List ConjunctiveQuery) (facts : List (Fact Term))
    (rows : List (List Row)) (outcome : Option Difference) → JudgesRules rules own facts None → JudgesFragments names views (database_of facts) rows outcome
    → Audits rules own names views facts (IsRowOf (held_by rows)) outcome
audited rules own names views facts rows None meets judged = record { meets = meets; rows = judged }
audited rules own names views facts rows (Some (Broken number cells)) meets judged = absurd judged
audited rules own names views facts rows (Some (Missing name row)) meets judged = (meets, judged)
audited rules own names views facts rows (Some (Extra name row)) meets judged = (meets, judged)
