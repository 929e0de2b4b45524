-- The pick among the listed sets.
use Rattle.std.proofs.Common.{◌≡◌, ℕ, zero, suc, ◌<◌, ◌≤◌, Bool, List, [], ◌∷◌, length, get_or, refl, ap, arith, inl, inr}
use Rattle.std.specs.Prelude.{◌⊎◌}
use Rattle.std.proofs.lemmas.Bool.{cases_order, cases_lt}
use Rattle.std.proofs.lemmas.Option.{slice_get_within, get_or_from_slice_get}
use Rattle.esto_term.proofs.ListLemmas.{place-from_Contains}
use Rattle.esto_term.proofs.ZipLemmas.{zip_at}
use Rattle.esto_semantics.specs.Listed.{chosen, candidate, IsWeight, IsPick}
use Rattle.esto_semantics.specs.ListedLaws.{AreWeights, NoRewritingExists, PickExists, PickIsOne, PickWeighsLeast, PickWeighsLeastOfAll, WeightExists}
use Rattle.esto_semantics.specs.Queries.{ConjunctiveQuery}
use Rattle.esto_term.specs.Sets.{Covers}
use Rattle.esto_semantics.proofs.CandidateLemmas.{candidate-IsExecutableRewriting}
use Rattle.esto_semantics.proofs.ListedLemmas.{chosen_within, listed_cover, none_is_listed}
use Rattle.esto_semantics.proofs.RewritingLemmas.{maps_onto_rewriting}
use Rattle.esto_semantics.proofs.WeightLemmas.{MapsOnto-weight, weight_rises}

-- the first place of least weight among the first few
record IsBest (weights : List ℕ) (count place : ℕ) : Type 0 where
  there : place < count
  least : (other : ℕ) → other < count → get_or weights place 0 ≤ get_or weights other 0
  first : (other : ℕ) → other < place → get_or weights place 0 < get_or weights other 0

best_of : (weights : List ℕ) (count : ℕ) → (place : ℕ) × IsBest weights (suc count) place
best_of weights zero = (
  0,
  record {
    there = omega arith;
    least = λ other l. (let e : 0 ≡ other = omega (arith, l) in let d = ap (λ k. get_or weights k 0) e in omega (arith, d));
    first = λ other l. absurd (omega (arith, l));
  },
)
best_of weights (suc count) = go (best_of weights count) (cases_lt (get_or weights (suc count) 0) (get_or weights (best_of weights count).0 0))
  where
    go : (best : (place : ℕ) × IsBest weights (suc count) place)
        → (get_or weights (suc count) 0 < get_or weights best.0 0) ⊎ (get_or weights best.0 0 ≤ get_or weights (suc count) 0)
        → (place : ℕ) × IsBest weights (suc (suc count)) place
    go best (inl less) = (
      suc count,
      record {
        there = omega arith;
        least = λ other l. elim (cases_order other (suc count)) [
          | inl e ↦ (let d = ap (λ k. get_or weights k 0) e in omega (arith, d))
          | inr apart ↦ elim apart [
            | inl below ↦ (let low = (best.1).least other below in omega (arith, low, less))
            | inr above ↦ absurd (omega (arith, above, l))
          ]
        ];
        first = λ other l. let low = (best.1).least other l in omega (arith, low, less);
      },
    )
    go best (inr most) = (
      best.0,
      record {
        there = omega (arith, (best.1).there);
        least = λ other l. elim (cases_order other (suc count)) [
          | inl e ↦ (let d = ap (λ k. get_or weights k 0) e in omega (arith, d, most))
          | inr apart ↦ elim apart [
            | inl below ↦ (best.1).least other below
            | inr above ↦ absurd (omega (arith, above, l))
          ]
        ];
        first = (best.1).first;
      },
    )

pub pick_exists : PickExists
pick_exists [] some = absurd (some refl)
pick_exists (weight ∷ weights) some =
    let best = best_of (weight ∷ weights) (length weights) in
    (best.0, record { there = (best.1).there; least = (best.1).least; first = (best.1).first })

pub pick_is_one : PickIsOne
pick_is_one weights place other pick pick' = elim (cases_order place other) [
  | inl e ↦ e
  | inr apart ↦ elim apart [
    | inl below ↦ (let first = pick'.first place below in let least = pick.least other pick'.there in absurd (omega (arith, first, least)))
    | inr above ↦ (let first = pick.first other above in let least = pick'.least place pick.there in absurd (omega (arith, first, least)))
  ]
]

-- the pick weighs no more than any set that has one of the weighed sets within it
module _ (weights : List ℕ) (plan : ConjunctiveQuery) (sets : List (List Bool)) (totals : List ℕ) (are_weights : AreWeights weights plan sets totals)
    (place : ℕ) (pick : IsPick totals place) where
  pub pick_below : (set : List Bool) (weight : ℕ) → Covers sets set → IsWeight weights (chosen set plan.body) weight → get_or totals place 0 ≤ weight
  pick_below set weight (low, inside, within) is_weight =
      let at = place-from_Contains sets low inside in
      let total = zip_at (λ it total. IsWeight weights (chosen it plan.body) total) sets totals are_weights at.0 low at.1 in
      let among = chosen_within low set plan.body within in
      let below = weight_rises weights (chosen low plan.body) (chosen set plan.body) total.0 weight among total.2 is_weight in
      let least = pick.least at.0 (slice_get_within totals at.0 total.0 total.1) in
      omega (arith, below, least, get_or_from_slice_get totals at.0 total.0 0 total.1)

pub pick_weighs_least : PickWeighsLeast
pick_weighs_least rules views patterns query plan sets weights totals listed are_weights place pick set weight rewriting =
    pick_below weights plan sets totals are_weights place pick set weight (listed_cover rules views patterns query plan sets listed set rewriting)

pub pick_weighs_least_of_all : WeightExists → PickWeighsLeastOfAll
pick_weighs_least_of_all exist rules views patterns query plan sets weights totals flat universal satisfiable listed are_weights place pick other weight
    rewriting is_weight =
    let onto = maps_onto_rewriting rules views patterns query plan other rewriting flat universal satisfiable in
    let own = exist weights (chosen onto.0 plan.body) in
    let first = pick_weighs_least rules views patterns query plan sets weights totals listed are_weights place pick onto.0 own.0 onto.1 own.1 in
    let second = MapsOnto-weight weights plan other onto.0 own.0 weight onto.2 own.1 is_weight in
    omega (arith, first, second)

pub no_rewriting_exists : NoRewritingExists
no_rewriting_exists rules views patterns query plan sets form universal satisfiable listed =
    let none = none_is_listed rules views patterns query plan sets listed in (
      (λ is other rewriting.
          let onto = maps_onto_rewriting rules views patterns query plan other rewriting form.flat_body universal satisfiable in
          none.0 is onto.0 onto.1),
      (λ absent. none.1 (λ set rewriting. absent (candidate plan set) (candidate-IsExecutableRewriting rules views patterns query plan set form rewriting))),
    )
