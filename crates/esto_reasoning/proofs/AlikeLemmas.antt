-- The texts of the commands are one.
use Rattle.std.proofs.Common.{◌≡◌, ℕ, List, length, sym, ap, ◌∙◌, subst}
use Rattle.esto_mapping.specs.Catalogues.{AreSame}
use Rattle.esto_mapping.specs.declared.catalogue.Catalogue.{Catalogue}
use Rattle.esto_chase.specs.Chased.{RunClashes}
use Rattle.esto_chase_laws.specs.Runs.{start_of}
use Rattle.esto_chase_laws.specs.declared.clash.Clash.{Clash}
use Rattle.esto_constraint.specs.Constraints.{rules_of}
use Rattle.esto_contain.specs.Contained.{TellsContained}
use Rattle.esto_contain.specs.ContainedLaws.{ToldIsOne}
use Rattle.esto_contain.specs.Ends.{FinishesAt}
use Rattle.esto_contain.specs.Minimised.{instance_of, IsMinimised}
use Rattle.esto_contain.specs.MinimisedLaws.{MinimisedIsOne}
use Rattle.esto_contain.specs.declared.containing.Contain.{Contain}
use Rattle.esto_contain.specs.declared.containing.Contain.TheVariants.{Yes, No}
use Rattle.esto_contain.specs.declared.minimising.Minimal.{Minimal}
use Rattle.esto_course.specs.Agreement.{IsDetermined}
use Rattle.esto_course.specs.Course.{Course, and_then, demands, judges}
use Rattle.esto_course.proofs.Determined.{demands_determined, judges_agree, judges_determined, then_agree, then_determined}
use Rattle.esto_status.specs.Answers.{IsCaused}
use Rattle.esto_status.specs.Calm.{AgreeCalmly}
use Rattle.esto_status.specs.declared.status.Status.{Status}
use Rattle.esto_status.specs.declared.status.Status.TheVariants.{HeadLengths, Unsatisfiable}
use Rattle.esto_status.proofs.AgreeLemmas.{calmly}
use Rattle.esto_query.specs.Making.{query_of}
use Rattle.esto_query.specs.Schemas.{names_of}
use Rattle.esto_query.specs.declared.query.Name.{Name}
use Rattle.esto_query.specs.declared.query.Query.{Query}
use Rattle.esto_semantics.specs.Containment.{IsSatisfiable}
use Rattle.esto_semantics.specs.Listed.{IsEquivalentPart}
use Rattle.esto_semantics.specs.ListedLaws.{EquivalentPartsAreOne}
use Rattle.esto_semantics.specs.Queries.{ConjunctiveQuery, IsQuery}
use Rattle.esto_semantics.specs.Rules.{Rule, AreRules}
use Rattle.esto_term.specs.Sets.{AreListedBy}
use Rattle.esto_universal.specs.PlannedLaws.{ClashOfRunIsOne}
use Rattle.esto_views.specs.RenamedLaws.{RenamedPlanIsOne}
use Rattle.esto_reasoning.specs.Contains.{SaysTold, compares}
use Rattle.esto_reasoning.specs.Minimise.{IsMinimalText, minimises}
use Rattle.esto_reasoning.specs.Texts.{minimal_text, no_text}

-- ---- what is told of two queries

module _ (renamed_one : RenamedPlanIsOne) (relations : List (List ℕ)) (names : List Name) where
  said_once : (told : Contain) (text other : List ℕ) → SaysTold relations names told text → SaysTold relations names told other → text ≡ other
  said_once Yes text other here there = here ∙ sym there
  said_once (No facts row) text other (plan, renamed, is) (again, renamed_too, is_too) =
      let same = renamed_one names facts row plan again renamed renamed_too in
      is ∙ (λ i. no_text relations (same.1 i) (same.0 i).head (same.0 i).body) ∙ sym is_too

-- the course of what is told, over the rules, the names of the relations, the names of the left query's variables, and the two queries
abbrev pub compares_by : List Rule → List (List ℕ) → List Name → ConjunctiveQuery → ConjunctiveQuery → Course Status (List ℕ)
compares_by rules relations names left right =
    and_then (demands (length left.head ≡ length right.head) (HeadLengths (length left.head) (length right.head))) (λ _.
    and_then (judges (TellsContained rules left right) (λ _. ⊥)) (λ told. judges (SaysTold relations names told) (λ _. ⊥)))

compared_once : ToldIsOne → RenamedPlanIsOne → (rules : List Rule) (relations : List (List ℕ)) (names : List Name) (left right : ConjunctiveQuery)
    → AreRules rules → IsDetermined (compares_by rules relations names left right)
compared_once told_one renamed_one rules relations names left right are_rules =
    then_determined ◌≡◌ (demands (length left.head ≡ length right.head) (HeadLengths (length left.head) (length right.head)))
    (λ _. and_then (judges (TellsContained rules left right) (λ _. ⊥)) (λ told. judges (SaysTold relations names told) (λ _. ⊥)))
    (demands_determined (length left.head ≡ length right.head) (HeadLengths (length left.head) (length right.head)))
    (λ _ _. then_determined ◌≡◌ (judges (TellsContained rules left right) (λ _. ⊥)) (λ told. judges (SaysTold relations names told) (λ _. ⊥))
    (judges_determined ◌≡◌ (TellsContained rules left right) (λ _. ⊥)
    (λ told other here there. told_one rules left right told other are_rules here there) (λ _ _ never _. absurd never) (λ _ _ _ never. never))
    (λ told _. judges_determined ◌≡◌ (SaysTold relations names told) (λ _. ⊥)
    (λ text other here there. said_once renamed_one relations names told text other here there) (λ _ _ never _. absurd never) (λ _ _ _ never. never)))

pub compared_alike : ToldIsOne → RenamedPlanIsOne → (catalogue other : Catalogue) (left same_left right same_right : Query)
    → AreRules (rules_of catalogue.rules) → AreSame catalogue other → query_of left ≡ query_of same_left → left.names ≡ same_left.names
    → query_of right ≡ query_of same_right
    → AgreeCalmly ◌≡◌ (compares catalogue left right) (compares other same_left same_right)
compared_alike told_one renamed_one catalogue other left same_left right same_right are_rules same lefts names rights =
    let one : compares catalogue left right ≡ compares other same_left same_right =
    λ i. compares_by (same.rules i) (names_of (same.schema i)) (names i) (lefts i) (rights i) in
    subst (AgreeCalmly ◌≡◌ (compares catalogue left right)) one
    (calmly (compares catalogue left right)
    (compared_once told_one renamed_one (rules_of catalogue.rules) (names_of catalogue.schema) left.names (query_of left) (query_of right) are_rules))

-- ---- what a query is minimised to

-- two with the same facts, head and names
abbrev IsSameMinimal : Minimal → Minimal → Type 0
IsSameMinimal minimal other = (instance_of minimal ≡ instance_of other) × (minimal.names ≡ other.names)

-- why a query is not minimised
abbrev IsClash : List Rule → ConjunctiveQuery → Status → Type 0
IsClash rules query refusal = (clash : Clash) × RunClashes rules (start_of query) clash × (refusal ≡ Unsatisfiable clash)

abbrev pub minimises_by : List Rule → List (List ℕ) → List Name → ConjunctiveQuery → Course Status (List ℕ)
minimises_by rules relations names query =
    and_then (judges (IsMinimised rules names query) (IsClash rules query)) (λ minimal. judges (IsMinimalText rules relations query minimal) (λ _. ⊥))

listed_once : EquivalentPartsAreOne → (rules : List Rule) (relations : List (List ℕ)) (query : ConjunctiveQuery) (minimal other : Minimal)
    → IsSameMinimal minimal other → (text other_text : List ℕ) → IsMinimalText rules relations query minimal text
    → IsMinimalText rules relations query other other_text → text ≡ other_text
listed_once sets_one rules relations query minimal other (instances, names) text other_text here there =
    let sets : here.sets ≡ there.sets =
    sets_one rules query (instance_of other) here.sets there.sets
    (subst (λ it. AreListedBy (IsEquivalentPart rules query it) here.sets) instances here.are_listed) there.are_listed in
    here.is ∙ (λ i. minimal_text relations (names i) (instances i).body (instances i).head (sets i)) ∙ sym there.is

module _ (minimised_one : MinimisedIsOne) (clash_one : ClashOfRunIsOne)
    (satisfies : (rules : List Rule) (query end : ConjunctiveQuery) → AreRules rules → IsQuery query → FinishesAt rules (start_of query) end
    → IsSatisfiable rules query)
    (clashed : (rules : List Rule) (query : ConjunctiveQuery) (clash : Clash) → AreRules rules → IsQuery query
    → RunClashes rules (start_of query) clash → ¬ (IsSatisfiable rules query)) (sets_one : EquivalentPartsAreOne) where
  minimised_once : (rules : List Rule) (relations : List (List ℕ)) (names : List Name) (query : ConjunctiveQuery) → AreRules rules → IsQuery query
      → AgreeCalmly ◌≡◌ (minimises_by rules relations names query) (minimises_by rules relations names query)
  minimised_once rules relations names query are_rules is_query =
      then_agree (IsCaused ⊥) IsSameMinimal ◌≡◌ (judges (IsMinimised rules names query) (IsClash rules query))
      (judges (IsMinimised rules names query) (IsClash rules query)) (λ minimal. judges (IsMinimalText rules relations query minimal) (λ _. ⊥))
      (λ minimal. judges (IsMinimalText rules relations query minimal) (λ _. ⊥))
      (judges_agree (IsCaused ⊥) IsSameMinimal (IsMinimised rules names query) (IsMinimised rules names query) (IsClash rules query) (IsClash rules query)
      (λ minimal other here there. let same = minimised_one rules names query minimal other are_rules here there in (same.0, same.1))
      (λ error other _ _ (clash, ends, is) (again, ends_too, is_too).
      is ∙ ap Unsatisfiable (clash_one rules query clash again are_rules ends ends_too) ∙ sym is_too)
      (λ minimal error _ here there. apart minimal error here there) (λ minimal error _ here there. apart minimal error here there))
      (λ minimal other _ same. judges_agree (IsCaused ⊥) ◌≡◌ (IsMinimalText rules relations query minimal) (IsMinimalText rules relations query other)
      (λ _. ⊥) (λ _. ⊥) (λ text other_text here there. listed_once sets_one rules relations query minimal other same text other_text here there)
      (λ _ _ _ _ never _. absurd never) (λ _ _ _ _ never. never) (λ _ _ _ _ never. never))
    where
      apart : (minimal : Minimal) (error : Status) → IsMinimised rules names query minimal → IsClash rules query error → ⊥
      apart minimal error here (clash, ends, is) =
          clashed rules query clash are_rules is_query ends (satisfies rules query here.end are_rules is_query here.finishes)

  pub minimised_alike : (catalogue other : Catalogue) (query again : Query) → AreRules (rules_of catalogue.rules) → IsQuery (query_of query)
      → AreSame catalogue other → query_of query ≡ query_of again → query.names ≡ again.names
      → AgreeCalmly ◌≡◌ (minimises catalogue query) (minimises other again)
  minimised_alike catalogue other query again are_rules is_query same queries names =
      let one : minimises catalogue query ≡ minimises other again =
      λ i. minimises_by (same.rules i) (names_of (same.schema i)) (names i) (queries i) in
      subst (AgreeCalmly ◌≡◌ (minimises catalogue query)) one
      (minimised_once (rules_of catalogue.rules) (names_of catalogue.schema) query.names (query_of query) are_rules is_query)
