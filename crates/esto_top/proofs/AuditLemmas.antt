-- The course of `audit` comes to an end: facts and rows agree, or there is a first difference.
use Rattle.std.proofs.Common.{◌≡◌, ◌≢◌, ◌↔◌, ◌⊎◌, inl, inr, ℕ, zero, suc, ◌+◌, ◌<◌, ◌≤◌, List, [], ◌∷◌, ◌++◌, length, map, take, Some, None, Option, slice_get}
use Rattle.std.proofs.Common.{Contains, refl, sym, ap, ◌∙◌, subst, arith}
use Rattle.std.specs.Cmp.Lexicographic.{slice_cmp}
use Rattle.std.specs.List.{filter}
use Rattle.std.specs.Ordering.{nat_cmp}
use Rattle.std.specs.declared.cmp.Ordering.TheVariants.{Less, Greater}
use Rattle.std.proofs.lemmas.Bool.{cases_eq, cases_lt}
use Rattle.std.proofs.lemmas.Cmp.{tied_itself}
use Rattle.std.proofs.lemmas.List.{length-map, take_all}
use Rattle.std.proofs.lemmas.List.FromFn.{length-range_with_len}
use Rattle.std.proofs.lemmas.List.Elements.{Contains-append_cases, Contains-append_left, Contains-append_right}
use Rattle.std.proofs.lemmas.Option.{same_Some, slice_get_within}
use Rattle.esto_mapping.specs.declared.catalogue.Catalogue.{Catalogue}
use Rattle.esto_docmodel.specs.declared.file.Store.{Store}
use Rattle.esto_chase_laws.specs.RunLaws.{RulesAreDecided}
use Rattle.esto_constraint.specs.Constraints.{rules_of, rule_of}
use Rattle.esto_constraint.specs.EncodingRules.{written}
use Rattle.esto_course.specs.Course.{Course, and_then, gives}
use Rattle.esto_data.specs.Audit.{AuditsFiles, all_fragments, audit_text, audits_catalogue, audits_facts, compares}
use Rattle.esto_data.specs.Datasets.{IsAny, loads}
use Rattle.esto_data.specs.Fill.{names_of}
use Rattle.esto_data.proofs.LeadLemmas.{are_loaded}
use Rattle.esto_fill.specs.Databases.{database_of, value_of}
use Rattle.esto_fill.specs.Differences.{AreOne, HoldViewRows, IsFirstApart, IsFirstBroken, IsInOne, IsLeastApart, IsOfView, at}
use Rattle.esto_fill.specs.Records.{cell_of, is_named, one_at_least}
use Rattle.esto_fill.specs.Texts.{AreTextViews, IsFirstNodeView}
use Rattle.esto_ports.specs.declared.difference.Difference.{Difference}
use Rattle.esto_ports.specs.declared.difference.Difference.TheVariants.{Rule as Broken, Missing, Extra}
use Rattle.esto_fill.proofs.FilledLemmas.{in_rows}
use Rattle.esto_fill.proofs.OrderLemmas.{texts_exact, texts_total}
use Rattle.esto_fill.proofs.ValueLemmas.{facts_stand}
use Rattle.esto_run.specs.Fragments.{opens_fragments}
use Rattle.esto_run.specs.Readable.{AreReadable}
use Rattle.esto_status.specs.declared.reply.Reply.{Reply}
use Rattle.esto_status.specs.declared.reply.Reply.TheVariants.{Done}
use Rattle.esto_status.specs.declared.status.Status.{Status}
use Rattle.esto_status.specs.declared.status.Status.TheVariants.{Differs, NodeInRow}
use Rattle.esto_run.proofs.SameLemmas.{itself}
use Rattle.esto_ports.specs.Files.{Files}
use Rattle.esto_query.specs.Making.{query_of}
use Rattle.esto_query.specs.declared.query.Name.{Name}
use Rattle.esto_docs.specs.Stores.{IsFileRow}
use Rattle.esto_semantics.specs.Facts.{Database, terms_of}
use Rattle.esto_semantics.specs.Maps.{AreFlat}
use Rattle.esto_semantics.specs.Queries.{ConjunctiveQuery, IsAnswer}
use Rattle.esto_semantics.specs.Rules.{AreRules, Meets, MeetsRule, Rule, body_of}
use Rattle.esto_semantics.specs.Standing.{RulesStand}
use Rattle.esto_semantics.specs.declared.fact.Fact.{Fact}
use Rattle.esto_semantics.specs.declared.fact.Value.TheVariants.{Text}
use Rattle.esto_semantics.proofs.TermLemmas.{decided_term}
use Rattle.esto_stores.specs.Rows.{Row}
use Rattle.esto_term.specs.declared.term.Term.{Term}
use Rattle.esto_term.proofs.ChoiceLemmas.{Decided, IsBelow, Rises, in_order, kept, pairs_head}
use Rattle.esto_term.proofs.DistinctLemmas.{decided_contains}
use Rattle.esto_term.proofs.ListLemmas.{Contains-at, Contains-nil, Contains-head, Contains-cases, map_at, map_at-from, place-from_Contains, range_at, thing_at}
use Rattle.esto_term.proofs.PlaceLemmas.{Contains-take, Contains-take_from}
use Rattle.esto_views.specs.Fragments.{views_of}
use Rattle.esto_views.specs.declared.fragments.FragmentDef.{FragmentDef}
use Rattle.esto_relmodel.proofs.OnceLemmas.{each_once}
use Rattle.esto_top.specs.Ends.{Ends, EndsOrLacks}
use Rattle.esto_top.specs.LawsBelow.{BelowLaws}
use Rattle.esto_top.proofs.CourseLemmas.{ends_judged, ends_refused, ends_then, gives_ends, judges_accepts, judges_refuses}
use Rattle.esto_top.proofs.DataEndLemmas.{loads_end}
use Rattle.esto_term.proofs.DecisionLemmas.{same_list}
use Rattle.esto_top.proofs.ListedLemmas.{Listed}
use Rattle.esto_top.proofs.FileLemmas.{file_rows}
use Rattle.esto_top.proofs.PlannedLemmas.{are_rules, views_are}
use Rattle.esto_top.proofs.RunEndLemmas.{fragments_end}
use Rattle.esto_top.proofs.TextLemmas.{database_answers, texts_listed, views_judged}

-- ---- two sets of rows that stand in lists: they are one, or a least row is in one of them alone

module _ (One Other : Row → Type 0) (ones : Listed One) (others : Listed Other) where
  decided_row : (row other : Row) → Decided (row ≡ other)
  decided_row = same_list (same_list cases_eq)

  apart : (rows : List Row) × ((row : Row) → Contains rows row ↔ IsInOne One Other row)
  apart =
      let left = kept (λ row. Contains others.0 row → ⊥) ones.0 (λ row inside. by (decided_contains decided_row others.0 row)) in
      let right = kept (λ row. Contains ones.0 row → ⊥) others.0 (λ row inside. by (decided_contains decided_row ones.0 row)) in (
        left.0 ++ right.0,
        λ row. (
          (λ inside. elim (Contains-append_cases left.0 right.0 row inside) [
            | inl first ↦ let has = (left.1 row).0 first in inl ((ones.1 row).0 has.0, (λ other. has.1 ((others.1 row).1 other)))
            | inr second ↦ let has = (right.1 row).0 second in inr ((others.1 row).0 has.0, (λ one. has.1 ((ones.1 row).1 one)))
          ]),
          (λ is. elim is [
            | inl (one, not) ↦ Contains-append_left left.0 right.0 row ((left.1 row).1 ((ones.1 row).1 one, (λ there. not ((others.1 row).0 there))))
            | inr (other, not) ↦ Contains-append_right left.0 right.0 row ((right.1 row).1 ((others.1 row).1 other, (λ there. not ((ones.1 row).0 there))))
          ]),
        ),
      )
    where
      by : {P : Type 0} → Decided P → Decided (P → ⊥)
      by (inl has) = inr (λ not. not has)
      by (inr not) = inl not

  least_apart : AreOne One Other ⊎ ((row : Row) × IsLeastApart One Other row) ⊎ ((row : Row) × IsLeastApart Other One row)
  least_apart =
      let ordered = in_order (slice_cmp (slice_cmp nat_cmp)) texts_total apart.0 (λ row other one two. texts_exact row other) in
      by ordered.0 (λ row. ((λ inside. (apart.1 row).0 ((ordered.1 row).0 inside)), (λ is. (ordered.1 row).1 ((apart.1 row).1 is)))) ordered.2
    where
      turned : (row : Row) → IsInOne Other One row → IsInOne One Other row
      turned row (inl both) = inr both
      turned row (inr both) = inl both

      by : (rows : List Row) → ((row : Row) → Contains rows row ↔ IsInOne One Other row) → Rises (slice_cmp (slice_cmp nat_cmp)) texts_total rows
          → AreOne One Other ⊎ ((row : Row) × IsLeastApart One Other row) ⊎ ((row : Row) × IsLeastApart Other One row)
      by [] exact rises = inl (λ row. (
        (λ one. elim (decided_contains decided_row others.0 row) [
          | inl there ↦ (others.1 row).0 there
          | inr not ↦ absurd (Contains-nil row ((exact row).1 (inl (one, (λ other. not ((others.1 row).1 other))))))
        ]),
        (λ other. elim (decided_contains decided_row ones.0 row) [
          | inl there ↦ (ones.1 row).0 there
          | inr not ↦ absurd (Contains-nil row ((exact row).1 (inr (other, (λ one. not ((ones.1 row).1 one))))))
        ]),
      ))
      by (first ∷ rest) exact rises = inr (elim ((exact first).0 (Contains-head first rest)) [
        | inl (one, not) ↦ inl (first, record { inside = one; outside = not; least = λ other is. no_greater other ((exact other).1 is) })
        | inr (other, not) ↦ inr (first, record { inside = other; outside = not; least = λ its is. no_greater its ((exact its).1 (turned its is)) })
      ])
        where
          no_greater : (other : Row) → Contains (first ∷ rest) other → slice_cmp (slice_cmp nat_cmp) first other ≢ Greater
          no_greater other inside greater = elim (Contains-cases first rest other inside) [
            | inl same ↦ let tied = tied_itself texts_total first in
                let wrong = subst (λ it. slice_cmp (slice_cmp nat_cmp) first it ≡ Greater) (sym same) greater in cc
            | inr later ↦
                let less = pairs_head (IsBelow (slice_cmp (slice_cmp nat_cmp)) texts_total) first rest rises other later in
                let wrong : Less ≡ Greater = sym less ∙ greater in cc
          ]

-- ---- the rules

module _ (decide : RulesAreDecided) (stand : RulesStand) (rules : List Rule) (names : List (List Name)) (lengths : length names ≡ length rules)
    (are : AreRules rules) (facts : List (Fact Term)) (flat : AreFlat facts) where
  broken_below : (count : ℕ) → count ≤ length rules
      → Meets (take count rules) (database_of facts) ⊎ ((number : ℕ) × (cells : Row) × IsFirstBroken rules names facts number cells)
  broken_below zero within = inl (λ rule inside. absurd (Contains-nil rule inside))
  broken_below (suc count) within = by (broken_below count (omega (arith, within))) (thing_at rules count (omega (arith, within)))
    where
      by : Meets (take count rules) (database_of facts) ⊎ ((number : ℕ) × (cells : Row) × IsFirstBroken rules names facts number cells)
          → (rule : Rule) × (slice_get rules count ≡ Some rule)
          → Meets (take (suc count) rules) (database_of facts) ⊎ ((number : ℕ) × (cells : Row) × IsFirstBroken rules names facts number cells)
      by (inr found) own = inr found
      by (inl so_far) (rule, there) = elim (decide facts rule (are rule (Contains-at rules count rule there))) [
        | inl (m, places, active, least) ↦
            let own = thing_at names count (omega (arith, within, lengths)) in
            let variables = each_once decided_term (filter (is_named own.0) (terms_of (body_of rule))) in
            inr (
              suc count,
              one_at_least (map (λ variable. cell_of (m variable)) variables.0),
              record {
                place = count;
                counted = refl;
                rule = rule;
                there = there;
                own = own.0;
                named = own.1;
                m = m;
                places = places;
                active = active;
                least = least;
                before = so_far;
                shown = (variables.0, variables.1, refl);
              },
            )
        | inr met ↦ inl (λ other inside.
            let found = Contains-take_from rules (suc count) other inside in
            elim (cases_lt found.0 count) [
              | inl early ↦ so_far other (Contains-take rules count found.0 other early found.2)
              | inr late ↦
                  let last : found.0 ≡ count = omega (arith, found.1, late) in
                  subst (λ (it : Rule). MeetsRule it (database_of facts)) (same_Some rule other (sym there ∙ ap (slice_get rules) (sym last) ∙ found.2))
                  ((stand facts value_of (database_of facts) rule (facts_stand facts flat) (are rule (Contains-at rules count rule there))).0 met)
            ])
      ]

  pub rules_judged : Meets rules (database_of facts) ⊎ ((number : ℕ) × (cells : Row) × IsFirstBroken rules names facts number cells)
  rules_judged = elim (broken_below (length rules) (omega arith)) [
    | inl meets ↦ inl (subst (λ them. Meets them (database_of facts)) (take_all (length rules) rules (omega arith)) meets)
    | inr found ↦ inr found
  ]

-- ---- the fragments

module _ (laws : BelowLaws) (decide : RulesAreDecided) (stand : RulesStand) (catalogue : Catalogue) (facts : List (Fact Term)) (flat : AreFlat facts)
    (texts : AreTextViews (views_of catalogue.fragments) (database_of facts)) (files : Files) (contents : ℕ → List ℕ)
    (readable : AreReadable files catalogue (all_fragments catalogue) contents) where
  abbrev views : List ConjunctiveQuery
  views = views_of catalogue.fragments

  abbrev database : Database
  database = database_of facts

  abbrev OfView : ℕ → Row → Type 0
  OfView = IsOfView views database

  abbrev OfFile : ℕ → Row → Type 0
  OfFile number own = IsFileRow catalogue.stores contents (at number own)

  view_rows : (number : ℕ) → number < length catalogue.fragments → Listed (OfView number)
  view_rows number below = by (thing_at views number (rw (length-map catalogue.fragments (λ (it : FragmentDef). query_of it.view)) below))
    where
      by : (view : ConjunctiveQuery) × (slice_get views number ≡ Some view) → Listed (OfView number)
      by (view, there) =
          let all = texts_listed (IsAnswer view database) (database_answers view (views_are laws.keeps laws.chase catalogue number view there) database)
          (texts view (Contains-at views number view there)) in (
            all.0,
            λ row. (
              (λ inside. (view, there, (in_rows (IsAnswer view database) all.0 all.1.exact row).0 inside)),
              (λ (other, its, answer). (in_rows (IsAnswer view database) all.0 all.1.exact row).1
                  (subst (λ it. IsAnswer it database (map Text row)) (same_Some other view (sym its ∙ there)) answer)),
            ),
          )

  in_all : (number : ℕ) → number < length catalogue.fragments → Contains (all_fragments catalogue) number
  in_all number below =
      let same : 0 + number ≡ number = omega arith in
      Contains-at (all_fragments catalogue) number number (range_at 0 (length catalogue.fragments) number below ∙ ap Some same)

  own_rows : (number : ℕ) → number < length catalogue.fragments → Listed (OfFile number)
  own_rows number below =
      file_rows laws.rows files catalogue (laws.keeps.catalogues catalogue).shapes (all_fragments catalogue) contents readable number (in_all number below)

  abbrev AreOneBelow : ℕ → Type 0
  AreOneBelow count = (earlier : ℕ) → earlier < count → AreOne (OfView earlier) (OfFile earlier)

  abbrev Difference_at : Type 0
  Difference_at = (name : List ℕ) × (row : Row)
      × (IsFirstApart (names_of catalogue.fragments) OfView OfFile name row ⊎ IsFirstApart (names_of catalogue.fragments) OfFile OfView name row)

  apart_below : (count : ℕ) → count ≤ length catalogue.fragments → AreOneBelow count ⊎ Difference_at
  apart_below zero within = inl (λ earlier less. absurd (omega (arith, less)))
  apart_below (suc count) within = by (apart_below count (omega (arith, within)))
    where
      below : count < length catalogue.fragments
      below = omega (arith, within)

      named : (name : List ℕ) × (slice_get (names_of catalogue.fragments) count ≡ Some name)
      named = let own = thing_at catalogue.fragments count below in
          (own.0.name, map_at (λ (it : FragmentDef). it.name) catalogue.fragments count own.0 own.1)

      turned : AreOneBelow count → (earlier : ℕ) → earlier < count → AreOne (OfFile earlier) (OfView earlier)
      turned so_far earlier less row = ((so_far earlier less row).1, (so_far earlier less row).0)

      by : AreOneBelow count ⊎ Difference_at → AreOneBelow (suc count) ⊎ Difference_at
      by (inr found) = inr found
      by (inl so_far) = elim (least_apart (OfView count) (OfFile count) (view_rows count below) (own_rows count below)) [
        | inl one ↦ inl (λ earlier less. elim (cases_lt earlier count) [
          | inl early ↦ so_far earlier early
          | inr late ↦ let last : count ≡ earlier = omega (arith, less, late) in subst (λ it. AreOne (OfView it) (OfFile it)) last one
        ])
        | inr (inl (row, is)) ↦ inr (named.0, row, inl (record { number = count; named = named.1; apart = is; before = so_far }))
        | inr (inr (row, is)) ↦ inr (named.0, row, inr (record { number = count; named = named.1; apart = is; before = turned so_far }))
      ]

  -- where each fragment has the rows of its view, the two agree
  hold_rows : AreOneBelow (length catalogue.fragments) → HoldViewRows views database (IsFileRow catalogue.stores contents)
  hold_rows all fact = (
    (λ (view, there, answer).
        let (row, is) = texts view (Contains-at views fact.relation view there) fact.terms answer in
        let below = within_views fact.relation view there in
        (row, (all fact.relation below row).0 (view, there, subst (IsAnswer view database) is answer), is)),
    (λ (row, held, is).
        let below = within_stores fact.relation held.0 held.1 in
        let (view, there, answer) = (all fact.relation below row).1 held in
        (view, there, subst (IsAnswer view database) (sym is) answer)),
  )
    where
      within_views : (number : ℕ) (view : ConjunctiveQuery) → slice_get views number ≡ Some view → number < length catalogue.fragments
      within_views number view there =
          let own = map_at-from (λ (it : FragmentDef). query_of it.view) catalogue.fragments number view there in
          slice_get_within catalogue.fragments number own.0 own.1

      within_stores : (number : ℕ) (store : Store) → slice_get catalogue.stores number ≡ Some store → number < length catalogue.fragments
      within_stores number store there =
          let below = slice_get_within catalogue.stores number store there in
          let same = (laws.keeps.catalogues catalogue).stored in omega (arith, below, same)

  audit_exists : (outcome : Option Difference) × AuditsFiles catalogue facts contents outcome
  audit_exists = elim (rules_judged decide stand (rules_of catalogue.rules) (map written catalogue.rules)
      (length-map catalogue.rules written ∙ sym (length-map catalogue.rules rule_of)) (are_rules laws.keeps laws.chase catalogue) facts flat) [
        | inr (number, cells, is) ↦ (Some (Broken number cells), is)
        | inl meets ↦ elim (apart_below (length catalogue.fragments) (omega arith)) [
          | inl all ↦ (None, record { meets = meets; rows = hold_rows all })
          | inr (name, row, inl is) ↦ (Some (Missing name row), (meets, is))
          | inr (name, row, inr is) ↦ (Some (Extra name row), (meets, is))
        ]
      ]

  compares_end : {lack : Type 0} → Ends lack (compares catalogue facts contents)
  compares_end {lack} = by audit_exists
    where
      Refuses : Status → Type 0
      Refuses refusal = (difference : Difference) × AuditsFiles catalogue facts contents (Some difference) × (refusal ≡ Differs difference)

      by : ((outcome : Option Difference) × AuditsFiles catalogue facts contents outcome) → Ends lack (compares catalogue facts contents)
      by (None, agree) = judges_accepts (λ _. AuditsFiles catalogue facts contents None) Refuses tt agree
      by (Some difference, is) =
          judges_refuses (λ _. AuditsFiles catalogue facts contents None) Refuses (Differs difference) (record { cause = tt }) (difference, is, refl)

-- ---- all together

module _ (laws : BelowLaws) (decide : RulesAreDecided) (stand : RulesStand) (files : Files) (catalogue : Catalogue) where
  facts_end : (facts : List (Fact Term)) → AreFlat facts → EndsOrLacks (audits_facts (Some files) catalogue facts)
  facts_end facts flat =
      elim (views_judged (views_of catalogue.fragments) (views_are laws.keeps laws.chase catalogue) (database_of facts)) [
        | inr (column, is) ↦ ends_refused (λ _. AreTextViews (views_of catalogue.fragments) (database_of facts)) Refuses after (NodeInRow column)
            (record { cause = tt }) (column, is, refl)
        | inl texts ↦ ends_judged (λ _. AreTextViews (views_of catalogue.fragments) (database_of facts)) Refuses after (tt, texts) (λ _ _.
            ends_then (opens_fragments (Some files) catalogue (all_fragments catalogue)) compared
            (fragments_end files catalogue (laws.keeps.catalogues catalogue).stored (all_fragments catalogue) below) (λ contents goes.
            ends_then (compares catalogue facts contents) (λ _. gives (Done (audit_text catalogue)))
            (compares_end laws decide stand catalogue facts flat texts files contents
            ((laws.readable files catalogue catalogue (all_fragments catalogue) (itself catalogue)).goes contents goes))
            (λ _ _. gives_ends (Done (audit_text catalogue)))))
      ]
    where
      Refuses : Status → Type 0
      Refuses refusal = (column : ℕ) × IsFirstNodeView (views_of catalogue.fragments) (database_of facts) column × (refusal ≡ NodeInRow column)

      compared : (ℕ → List ℕ) → Course Status Reply
      compared contents = and_then (compares catalogue facts contents) (λ _. gives (Done (audit_text catalogue)))

      after : Unit {0} → Course Status Reply
      after _ = and_then (opens_fragments (Some files) catalogue (all_fragments catalogue)) compared

      below : (number : ℕ) → Contains (all_fragments catalogue) number → number < length catalogue.fragments
      below number inside =
          let here = place-from_Contains (all_fragments catalogue) number inside in
          let short : here.0 < length catalogue.fragments = rw (length-range_with_len 0 (length catalogue.fragments)) at
          (slice_get_within (all_fragments catalogue) here.0 number here.1) in
          let same : 0 + here.0 ≡ number = same_Some (0 + here.0) number (sym (range_at 0 (length catalogue.fragments) here.0 short) ∙ here.1) in
          omega (arith, short, same)

  pub audits_end : EndsOrLacks (audits_catalogue (Some files) catalogue)
  audits_end =
      ends_then (loads (Some files) catalogue.datasets IsAny) (audits_facts (Some files) catalogue)
      (loads_end files catalogue.datasets IsAny (λ dataset. inl tt))
      (λ facts goes. facts_end facts (are_loaded (Some files) catalogue.datasets IsAny facts goes).facts_are.flat)
