-- The plan that is stated for an end, and its cored plan, are there.
use Rattle.std.proofs.Common.{◌≡◌, ◌≢◌, inl, inr, ℕ, zero, suc, ◌+◌, ◌≤◌, List, [], ◌∷◌, ◌++◌, map, length, take, Some, slice_get, Contains, refl}
use Rattle.std.proofs.Common.{subst, arith}
use Rattle.std.proofs.lemmas.List.{take_all}
use Rattle.esto_term.specs.declared.term.Term.{Term}
use Rattle.esto_term.specs.declared.term.Term.TheVariants.{Const}
use Rattle.esto_term.proofs.ChoiceLemmas.{Decided, in_order}
use Rattle.esto_term.proofs.DistinctLemmas.{decided_contains}
use Rattle.esto_term.proofs.ListLemmas.{Contains-nil, Contains-head, Contains-rest, Contains-cases, thing_at}
use Rattle.esto_term.proofs.CompareLemmas.{rows_total, rows_exact}
use Rattle.esto_semantics.specs.Maps.{AreFlat, IsConstant, IsFlat}
use Rattle.esto_semantics.specs.Queries.{ConjunctiveQuery, IsQuery}
use Rattle.esto_semantics.specs.declared.fact.Fact.{Fact}
use Rattle.esto_semantics.proofs.FactLemmas.{Mentions-among, Mentions-append}
use Rattle.esto_semantics.proofs.TermLemmas.{decided_term}
use Rattle.esto_semantics.specs.Cores.{with_head, Retracts, AreLeft}
use Rattle.esto_semantics.proofs.LeftLemmas.{left-among}
use Rattle.esto_query.specs.Rows.{row_cmp}
use Rattle.esto_query.specs.declared.query.Name.{Name}
use Rattle.esto_views.specs.Plans.{plan_query}
use Rattle.esto_views.specs.Soundness.{IsSoundPlan}
use Rattle.esto_views.specs.declared.plan.Plan.{Plan}
use Rattle.esto_views.proofs.FlatLemmas.{named-flat, plan_atoms-flat}
use Rattle.esto_core.specs.Cored.{IsCoredPlan}
use Rattle.esto_views.specs.Reading.{terms_read, AreFirstOccurrences}
use Rattle.esto_views.specs.Renamings.{numbered, renamed_atom, name_of}
use Rattle.esto_universal.specs.Rows.{over, AreRows, AreRowsOf}
use Rattle.esto_universal.specs.Stated.{IsStatedPlan}
use Rattle.esto_views.specs.Renamed.{IsRenamedPlan}
use Rattle.esto_views.proofs.RenamedLemmas.{keeps, renamed_is}
use Rattle.esto_views.proofs.ReadingLemmas.{seen_none, place_known, place_new}
use Rattle.esto_universal.proofs.RowLemmas.{AreRowsBelow, rows_none, rows_joined, rows_all}
use Rattle.esto_input_laws.proofs.RuleLemmas.{is_constant}
use Rattle.esto_top.proofs.AnswerLemmas.{answers_listed, maps_decided}

-- ---- the rows of all views

view_rows : (view : ConjunctiveQuery) → IsQuery view → (facts : List (Fact Term)) → (rows : List (List Term)) × AreRowsOf view facts rows
view_rows view is facts =
    let all = answers_listed Const (λ term. term) (λ text. refl) decided_term view is.flat_body is.safe facts in
    let ordered = in_order row_cmp rows_total all.0 (λ row other one two. rows_exact row other) in (
      ordered.0,
      record {
        exact = λ row. ((λ inside. (all.1 row).0 ((ordered.1 row).0 inside)), (λ is_row. (ordered.1 row).1 ((all.1 row).1 is_row)));
        ordered = ordered.2;
      },
    )

module _ (views : List ConjunctiveQuery) (are : (number : ℕ) (view : ConjunctiveQuery) → slice_get views number ≡ Some view → IsQuery view)
    (facts : List (Fact Term)) where
  rows_below : (number : ℕ) → number ≤ length views → (rows : List (Fact Term)) × AreRowsBelow views facts number rows
  rows_below zero within = ([], rows_none views facts)
  rows_below (suc number) within =
      let so_far = rows_below number (omega (arith, within)) in
      let at = thing_at views number (omega (arith, within)) in
      let own = view_rows at.0 (are number at.0 at.1) facts in
      let one : number + 1 ≡ suc number = omega arith in (
        so_far.0 ++ map (over number) own.0,
        subst (λ count. AreRowsBelow views facts count (so_far.0 ++ map (over number) own.0)) one
            (rows_joined views facts number at.0 so_far.0 (so_far.0 ++ map (over number) own.0) own.0 at.1 own.1 refl so_far.1),
      )

  pub rows_exist : (rows : List (Fact Term)) × AreRows views facts rows
  rows_exist =
      let all = rows_below (length views) (omega arith) in (all.0, rows_all views facts (length views) all.0 (omega arith) all.1)

-- ---- the terms by first occurrence

module _ (terms : List Term) where
  seen_below : (place : ℕ) → place ≤ length terms → (seen : List Term) × AreFirstOccurrences (take place terms) seen
  seen_below zero within = ([], seen_none)
  seen_below (suc place) within =
      let so_far = seen_below place (omega (arith, within)) in
      let at = thing_at terms place (omega (arith, within)) in
      let one : place + 1 ≡ suc place = omega arith in
      let all = by so_far.0 at.0 at.1 so_far.1 (is_constant at.0) (decided_contains decided_term (take place terms) at.0) in
      (all.0, subst (λ count. AreFirstOccurrences (take count terms) all.0) one all.1)
    where
      by : (seen : List Term) (term : Term) → slice_get terms place ≡ Some term → AreFirstOccurrences (take place terms) seen
          → Decided (IsConstant term) → Decided (Contains (take place terms) term) → (new : List Term) × AreFirstOccurrences (take (place + 1) terms) new
      by seen term at so_far (inl constant) read = (seen, place_known terms seen place term at so_far (inl constant))
      by seen term at so_far (inr not) (inl read) = (seen, place_known terms seen place term at so_far (inr read))
      by seen term at so_far (inr not) (inr unread) =
          (seen ++ term ∷ [], place_new terms seen place term at so_far (seen ++ term ∷ []) refl not unread)

  pub seen_exist : (seen : List Term) × AreFirstOccurrences terms seen
  seen_exist =
      let all = seen_below (length terms) (omega arith) in
      (all.0, subst (λ read. AreFirstOccurrences read all.0) (take_all (length terms) terms (omega arith)) all.1)

-- ---- plans

pub renamed_exists : (names : List Name) (rows : List (Fact Term)) (head : List Term) → head ≢ [] → (plan : Plan) × IsRenamedPlan names rows head plan
renamed_exists names rows head has_head = by (seen_exist (terms_read rows head))
  where
    by : ((seen : List Term) × AreFirstOccurrences (terms_read rows head) seen) → (plan : Plan) × IsRenamedPlan names rows head plan
    by (seen, are_seen) = (
      record {
        atoms = map (renamed_atom (numbered 0 seen)) rows;
        head = map (numbered 0 seen) head;
        names = map (name_of names) seen;
        sound = ∣ keeps names rows head seen are_seen has_head ∣₁;
      },
      renamed_is names rows head seen are_seen (map (renamed_atom (numbered 0 seen)) rows) (map (numbered 0 seen) head)
          (map (name_of names) seen) refl refl refl,
    )

pub stated_exists : (names : List Name) (views : List ConjunctiveQuery) (end : ConjunctiveQuery)
    → ((number : ℕ) (view : ConjunctiveQuery) → slice_get views number ≡ Some view → IsQuery view) → end.head ≢ []
    → (plan : Plan) × IsStatedPlan names views end plan
stated_exists names views end are has_head =
    let rows = rows_exist views are end.body in
    let plan = renamed_exists names rows.0 end.head has_head in
    (plan.0, record { rows = rows.0; are_rows = rows.1; renamed = plan.1 })

-- ---- cored plans

module _ (head : List Term) (flat_head : (term : Term) → Contains head term → IsFlat term) where
  left_exists : (before atoms : List (Fact Term)) → AreFlat before → AreFlat atoms → (left : List (Fact Term)) × AreLeft head before atoms left
  left_exists before [] flat_before flat = ([], refl)
  left_exists before (atom ∷ atoms) flat_before flat =
      by (left_exists (before ++ atom ∷ []) atoms
      (λ term inside. elim (Mentions-append before (atom ∷ []) term inside) [
        | inl early ↦ flat_before term early
        | inr own ↦ flat term (Mentions-among (atom ∷ []) (atom ∷ atoms) term first_among own)
      ])
      (λ term inside. flat term (Mentions-among atoms (atom ∷ atoms) term (λ fact later. rest_among fact later) inside)))
    where
      first_among : (fact : Fact Term) → Contains (atom ∷ []) fact → Contains (atom ∷ atoms) fact
      first_among fact inside = elim (Contains-cases atom [] fact inside) [
        | inl is ↦ subst (Contains (atom ∷ atoms)) is (Contains-head atom atoms)
        | inr none ↦ absurd (Contains-nil fact none)
      ]

      rest_among : (fact : Fact Term) → Contains atoms fact → Contains (atom ∷ atoms) fact
      rest_among fact inside = Contains-rest atom atoms fact inside

      decided : (after : List (Fact Term)) → AreLeft head (before ++ atom ∷ []) atoms after → Decided (Retracts head (before ++ atom ∷ after) (before ++ after))
      decided after are = maps_decided (with_head head (before ++ atom ∷ after)) (with_head head (before ++ after))
          (λ term inside. elim (Mentions-append before (atom ∷ after) term inside) [
            | inl early ↦ flat_before term early
            | inr later ↦ flat term (Mentions-among (atom ∷ after) (atom ∷ atoms) term (λ fact in_it. elim (Contains-cases atom after fact in_it) [
              | inl is ↦ subst (Contains (atom ∷ atoms)) is (Contains-head atom atoms)
              | inr further ↦ rest_among fact (left-among head (before ++ atom ∷ []) atoms after are fact further)
            ]) later)
          ])
          flat_head

      by : ((after : List (Fact Term)) × AreLeft head (before ++ atom ∷ []) atoms after) → (left : List (Fact Term)) × AreLeft head before (atom ∷ atoms) left
      by (after, are) = elim (decided after are) [
        | inl drops ↦ (after, (after, are, inl (drops, refl)))
        | inr stays ↦ (atom ∷ after, (after, are, inr (stays, refl)))
      ]

pub cored_exists : (plan : Plan) → IsSoundPlan plan.atoms plan.head plan.names → (cored : Plan) × IsCoredPlan plan cored
cored_exists plan sound =
    let left = left_exists plan.head (λ term inside. named-flat plan term (sound.named_head term inside)) [] (plan_query plan).body
    (λ term (fact, none, inside). absurd (Contains-nil fact none)) (plan_atoms-flat plan sound) in
    let cored = renamed_exists plan.names left.0 plan.head sound.has_head in
    (cored.0, record { left = left.0; are_left = left.1; renamed = cored.1 })
