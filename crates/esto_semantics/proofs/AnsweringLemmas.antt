-- Listed sets, by the sets that answer the query whether or not they are executable.
use Rattle.std.proofs.Common.{◌≡◌, ◌↔◌, inl, inr, ℕ, Bool, List, length, Contains, refl, sym, subst}
use Rattle.esto_term.specs.declared.term.Term.{Term}
use Rattle.esto_semantics.specs.Access.{Patterns, HoldsExecutably, HoldsOfPart}
use Rattle.esto_semantics.specs.Instances.{MapsTo}
use Rattle.esto_semantics.specs.Listed.{chosen, candidate, HasCandidate, IsSafe, AnswersQuery, IsEquivalentPart, IsRewriting}
use Rattle.esto_semantics.specs.ListedLaws.{AnsweringRises, AnsweringIsTold, ListedAreExecutable, ListedAreOfParts}
use Rattle.esto_semantics.specs.ListedLaws.{EquivalentPartsAreOne, EquivalentPartsCover, NoPartIsListed, EquivalentPartsRise, EquivalentPartsAreTold}
use Rattle.esto_semantics.specs.Queries.{ConjunctiveQuery}
use Rattle.esto_semantics.specs.Rules.{Rule}
use Rattle.esto_term.specs.Sets.{Covers, HaveCount, IsMinimal, Rises, TellHolds, Within}
use Rattle.esto_semantics.proofs.AccessLawLemmas.{minimal_of_parts}
use Rattle.esto_semantics.proofs.AnswerLemmas.{IsAnswerInto-mapped, contained-in_mapped}
use Rattle.esto_semantics.proofs.CandidateLemmas.{candidate-equivalent}
use Rattle.esto_term.proofs.CoverLemmas.{listed_by_is_one, minimal-cover, minimal_tell, none_is_listed_by}
use Rattle.esto_semantics.proofs.FactLemmas.{image_itself, Mentions-among}
use Rattle.esto_semantics.proofs.ListedLemmas.{chosen_within}
use Rattle.esto_semantics.proofs.ShownLemmas.{part_contains}
use Rattle.esto_semantics.specs.declared.fact.Fact.{Fact}
use Rattle.esto_semantics.specs.declared.fact.Value.TheVariants.{Text}
use Rattle.esto_term.proofs.ListLemmas.{map_itself}

-- what is minimal for one property is minimal for another that the same sets have
pub minimal_as : (P Q : List Bool → Type 0) → ((set : List Bool) → P set ↔ Q set) → (set : List Bool) → IsMinimal P set ↔ IsMinimal Q set
minimal_as P Q same set = (
  (λ (holds, least). ((same set).0 holds, λ other other_holds within. least other ((same other).1 other_holds) within)),
  (λ (holds, least). ((same set).1 holds, λ other other_holds within. least other ((same other).0 other_holds) within)),
)

-- where each set that has the property has a count, the sets that are minimal for the property are so for it at that count
pub told_by_minimal : (P : List Bool → Type 0) (count : ℕ) → HaveCount count P → Rises count P → (sets : List (List Bool))
    → ((set : List Bool) → Contains sets set ↔ IsMinimal P set) → TellHolds count P sets
told_by_minimal P count counted rises sets exact = minimal_tell P count rises sets (λ set.
    let same = minimal_as P (λ it. (length it ≡ count) × P it) (λ it. ((λ has. (counted it has, has)), (λ both. both.1))) set in
    ((λ inside. same.0 ((exact set).0 inside)), (λ minimal. (exact set).1 (same.1 minimal))))

-- ---- a property that is another one of executable sets

module _ (patterns : Patterns) (atoms : List (Fact Term)) (P Q : List Bool → Type 0) (same : (set : List Bool) → Q set ↔ HoldsExecutably patterns atoms P set)
  where
    pub told_executably : (sets : List (List Bool)) → TellHolds (length atoms) P sets
        → (set : List Bool) → IsMinimal Q set ↔ IsMinimal (HoldsExecutably patterns atoms (Covers sets)) set
    told_executably sets tells = minimal_as Q (HoldsExecutably patterns atoms (Covers sets)) (λ set. (
      (λ has. let both = (same set).0 has in (both.0, (tells set (both.0.1).over).1 both.1)),
      (λ (executable, covered). (same set).1 (executable, (tells set (executable.1).over).0 covered)),
    ))

    pub of_parts : (set : List Bool) → IsMinimal Q set ↔ IsMinimal (HoldsOfPart patterns atoms P) set
    of_parts set =
        let one = minimal_as Q (HoldsExecutably patterns atoms P) same set in
        let two = minimal_of_parts patterns atoms P set in
        ((λ minimal. two.0 (one.0 minimal)), (λ minimal. one.1 (two.1 minimal)))

-- ---- rewritings

module _ (rules : List Rule) (views : List ConjunctiveQuery) (patterns : Patterns) (query plan : ConjunctiveQuery) where
  rewriting_answers : (set : List Bool) → IsRewriting rules views patterns query plan set → AnswersQuery rules views query plan set
  rewriting_answers set rewriting = record { has_candidate = rewriting.has_candidate; safe = rewriting.safe; equivalent = rewriting.equivalent }

  -- a rewriting is an executable set that answers the query
  answering_executably : (set : List Bool) → IsRewriting rules views patterns query plan set
      ↔ HoldsExecutably patterns plan.body (AnswersQuery rules views query plan) set
  answering_executably set = (
    (λ rewriting. (rewriting.executable, rewriting_answers set rewriting)),
    (λ (executable, answers).
        record { has_candidate = answers.has_candidate; safe = answers.safe; executable = executable; equivalent = answers.equivalent }),
  )

pub listed_are_executable : ListedAreExecutable
listed_are_executable rules views patterns query plan sets tells =
    told_executably patterns plan.body (AnswersQuery rules views query plan) (IsRewriting rules views patterns query plan)
    (answering_executably rules views patterns query plan) sets tells

pub listed_are_of_parts : ListedAreOfParts
listed_are_of_parts rules views patterns query plan =
    of_parts patterns plan.body (AnswersQuery rules views query plan) (IsRewriting rules views patterns query plan)
    (answering_executably rules views patterns query plan)

-- the candidate of a greater set is contained in that of a lesser one
pub greater-MapsTo : (plan : ConjunctiveQuery) (set other : List Bool) → Within set other → MapsTo (candidate plan set) (candidate plan other)
greater-MapsTo plan set other within = (
  (λ term. term),
  (λ text. refl),
  (λ atom inside. subst (Contains (chosen other plan.body)) (sym (image_itself atom)) (chosen_within set other plan.body within atom inside)),
  map_itself plan.head,
)

-- a greater set has a candidate and is safe, as the lesser one
pub greater-HasCandidate : (plan : ConjunctiveQuery) (set other : List Bool) → length other ≡ length plan.body → Within set other → HasCandidate plan set
    → HasCandidate plan other
greater-HasCandidate plan set other over within has = record { over = over; some = (has.some.0, within has.some.0 has.some.1) }

pub greater-IsSafe : (plan : ConjunctiveQuery) (set other : List Bool) → Within set other → IsSafe plan set → IsSafe plan other
greater-IsSafe plan set other within safe term inside = elim (safe term inside) [
  | inl constant ↦ inl constant
  | inr mentioned ↦ inr (Mentions-among (chosen set plan.body) (chosen other plan.body) term (chosen_within set other plan.body within) mentioned)
]

pub answering_rises : AnsweringRises
answering_rises rules views query plan form universal set other over other_over within answers =
    let has_candidate = greater-HasCandidate plan set other other_over within answers.has_candidate in
    let safe = greater-IsSafe plan set other within answers.safe in
    record {
      has_candidate = has_candidate;
      safe = safe;
      equivalent = (candidate-equivalent plan other query form has_candidate safe rules views universal).1
          (λ database meets row answer. answers.equivalent.0 database meets row
          (contained-in_mapped rules views (candidate plan set) (candidate plan other) (greater-MapsTo plan set other within) database meets row answer));
    }

pub answering_is_told : AnsweringIsTold
answering_is_told rules views query plan form universal =
    told_by_minimal (AnswersQuery rules views query plan) (length plan.body) (λ set answers. answers.has_candidate.over)
    (answering_rises rules views query plan form universal)

-- ---- sets of an instance's facts that are equivalent to the query

part_count : (rules : List Rule) (query instance : ConjunctiveQuery) → HaveCount (length instance.body) (IsEquivalentPart rules query instance)
part_count rules query instance set is = is.has_candidate.over

pub equivalent_parts_are_one : EquivalentPartsAreOne
equivalent_parts_are_one rules query instance = listed_by_is_one (IsEquivalentPart rules query instance)

pub equivalent_parts_cover : EquivalentPartsCover
equivalent_parts_cover rules query instance sets listed =
    minimal-cover (IsEquivalentPart rules query instance) (length instance.body) (part_count rules query instance) sets listed.exact

pub no_part_is_listed : NoPartIsListed
no_part_is_listed rules query instance =
    none_is_listed_by (IsEquivalentPart rules query instance) (length instance.body) (part_count rules query instance)

pub equivalent_parts_rise : EquivalentPartsRise
equivalent_parts_rise rules query instance universal set other over other_over within is = record {
  has_candidate = greater-HasCandidate instance set other other_over within is.has_candidate;
  safe = greater-IsSafe instance set other within is.safe;
  equivalent = (
    (λ database meets row answer. is.equivalent.0 database meets row
        (IsAnswerInto-mapped Text (candidate instance set) (candidate instance other) (Contains database) row
        (greater-MapsTo instance set other within) answer)),
    part_contains rules query instance other universal,
  );
}

pub equivalent_parts_are_told : EquivalentPartsAreTold
equivalent_parts_are_told rules query instance universal sets listed =
    told_by_minimal (IsEquivalentPart rules query instance) (length instance.body) (part_count rules query instance)
    (equivalent_parts_rise rules query instance universal) sets listed.exact
