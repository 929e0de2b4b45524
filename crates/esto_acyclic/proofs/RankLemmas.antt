-- Numbers that rise along each edge and are numbers of edges on walks: they are the ranks.
use Rattle.std.proofs.Common.{◌≡◌, ◌≢◌, inl, inr, ℕ, zero, ◌+◌, ◌*◌, ◌-◌, ◌<◌, ◌≤◌, Bool, true, false, List, [], length, Contains, slice_index, slice_index_or}
use Rattle.std.proofs.Common.{set, get_or, refl, sym, ap, ◌∙◌, subst, arith, replicate}
use Rattle.std.specs.List.{sum}
use Rattle.std.proofs.lemmas.List.{length-set, get_or-set_same, get_or-set_other, length-replicate, get_or-replicate, get_or_default}
use Rattle.std.proofs.lemmas.List.Sums.{sum_by-set, sum_by-le}
use Rattle.std.proofs.lemmas.List.Elements.{All-from_get_or, Contains-get_or}
use Rattle.esto_constraint.specs.Graphs.{Joins, IsWithin, Arrives, AreRanks}
use Rattle.esto_acyclic.specs.Rounds.{IsLong, AreReached, Lifts, RisesAt}
use Rattle.esto_acyclic.specs.declared.graph.Round.TheVariants.{Still, Rose, Full}
use Rattle.esto_constraint.proofs.WalkLemmas.{same_or_apart, walk_rises, Arrives-next}

-- ---- numbers in a list, of which one is set

-- what holds of the new number at its place, and of each old one at another, holds of the number at each place
pub set_at_each : (P : ℕ → ℕ → Type 0) (numbers : List ℕ) (place number : ℕ) → place < length numbers → P place number → (k : ℕ)
    → (k ≢ place → P k (slice_index numbers k)) → P k (slice_index (set numbers place number) k)
set_at_each P numbers place number below new k old = elim (same_or_apart k place) [
  | inl same ↦ subst (λ j. P j (get_or (set numbers place number) j 0)) (sym same) (subst (P place) (sym (get_or-set_same numbers place number 0 below)) new)
  | inr apart ↦ subst (P k) (sym (get_or-set_other numbers place k number 0 apart)) (old apart)
]

-- what holds of the place before which it held so far, holds before the next one
pub so_far : (P : ℕ → Type 0) (bound : ℕ) → ((k : ℕ) → k < bound → P k) → P bound → (k : ℕ) → k < bound + 1 → P k
so_far P bound before here k below = elim (same_or_apart k bound) [
  | inl same ↦ subst P (sym same) here
  | inr apart ↦ before k (omega arith)
]

-- ---- one edge

module _ (Edge : ℕ → ℕ → Type 0) (ranks : List ℕ) (from to : ℕ) (within : IsWithin (length ranks) Edge) (reached : AreReached Edge ranks)
    (edge : Edge from to) where
  AreReached-set : slice_index ranks from + 1 < length ranks → AreReached Edge (set ranks to (slice_index ranks from + 1))
  AreReached-set fits relation below =
      let same = length-set ranks to (slice_index ranks from + 1) in
      subst (λ count. Arrives Edge relation (slice_index (set ranks to (slice_index ranks from + 1)) relation)
      × (slice_index (set ranks to (slice_index ranks from + 1)) relation < count)) (sym same)
      (set_at_each (λ r rank. Arrives Edge r rank × (rank < length ranks)) ranks to (slice_index ranks from + 1) (within from to edge).1
      (Arrives-next Edge from to (slice_index ranks from) (reached from (within from to edge).0).0 edge, fits)
      relation (λ apart. reached relation (subst (λ count. relation < count) same below)))

  IsLong-full : length ranks ≤ slice_index ranks from + 1 → IsLong Edge (length ranks)
  IsLong-full long =
      let start = reached from (within from to edge).0 in
      let exact : slice_index ranks from + 1 ≡ length ranks = omega (arith, start.1) in
      (to, (within from to edge).1, subst (Arrives Edge to) exact (Arrives-next Edge from to (slice_index ranks from) start.0 edge))

sum-raised : (ranks : List ℕ) (place number : ℕ) → place < length ranks → slice_index ranks place < number → sum ranks < sum (set ranks place number)
sum-raised ranks place number below more = omega (arith, sum_by-set (λ y. y) ranks place number 0 below)

-- ---- a round over the edges

-- how far a round has come
pub record RaisedSoFar (edges : List (ℕ × ℕ)) (old now : List ℕ) (rose : Bool) (done : ℕ) : Type 0 where
  pub same : length now ≡ length old
  pub within : IsWithin (length now) (Joins edges)
  pub reached : AreReached (Joins edges) now
  pub grew : sum old ≤ sum now
  pub more : rose ≡ true → sum old < sum now
  pub still : rose ≡ false → (place : ℕ) → place < done → RisesAt edges now place

-- at the start of a round nothing has changed
pub raised_start : (edges : List (ℕ × ℕ)) (old : List ℕ) → IsWithin (length old) (Joins edges) → AreReached (Joins edges) old
    → RaisedSoFar edges old old false 0
raised_start edges old within reached = record {
  same = refl;
  within = within;
  reached = reached;
  grew = omega arith;
  more = λ never. absurd (cc);
  still = λ _ place below. absurd (omega arith);
}

module _ (edges : List (ℕ × ℕ)) (old now : List ℕ) (rose : Bool) (done from to : ℕ) (far : RaisedSoFar edges old now rose done) (below : done < length edges)
    (is : slice_index_or edges done (0, 0) ≡ (from, to)) where
  edge : Joins edges from to
  edge = subst (Contains edges) is (Contains-get_or edges done (0, 0) below)

  pub raised_within : (from < length now) × (to < length now)
  raised_within = far.within from to edge

  pub raised_still : (new : List ℕ) → Lifts from to now new Still → RaisedSoFar edges old new rose (done + 1)
  raised_still new (stays, rises) = subst (λ n. RaisedSoFar edges old n rose (done + 1)) (sym stays) record {
    same = far.same;
    within = far.within;
    reached = far.reached;
    grew = far.grew;
    more = far.more;
    still = λ none. so_far (RisesAt edges now) done (far.still none) (subst (λ e. slice_index now e.0 < slice_index now e.1) (sym is) rises);
  }

  pub raised_more : (new : List ℕ) → Lifts from to now new Rose → RaisedSoFar edges old new true (done + 1)
  raised_more new (becomes, low, fits) = subst (λ n. RaisedSoFar edges old n true (done + 1)) (sym becomes) record {
    same = length-set now to (slice_index now from + 1) ∙ far.same;
    within = subst (λ count. IsWithin count (Joins edges)) (sym (length-set now to (slice_index now from + 1))) far.within;
    reached = AreReached-set (Joins edges) now from to far.within far.reached edge fits;
    grew = omega (arith, grows, far.grew);
    more = λ t. omega (arith, grows, far.grew);
    still = λ f. absurd (cc);
  }
    where
      grows : sum now < sum (set now to (slice_index now from + 1))
      grows = sum-raised now to (slice_index now from + 1) raised_within.1 (omega arith)

  pub raised_full : (new : List ℕ) → Lifts from to now new Full → IsLong (Joins edges) (length old) × AreReached (Joins edges) new × (length new ≡ length old)
  raised_full new (stays, long) = (
    subst (IsLong (Joins edges)) far.same (IsLong-full (Joins edges) now from to far.within far.reached edge long),
    subst (AreReached (Joins edges)) (sym stays) far.reached,
    ap length stays ∙ far.same,
  )

-- ---- rounds until nothing rises

pub AreReached-start : (Edge : ℕ → ℕ → Type 0) (count : ℕ) (ranks : List ℕ) → ranks ≡ replicate count 0 → (length ranks ≡ count) × AreReached Edge ranks
AreReached-start Edge count ranks is = (same, λ relation below. reached relation below (zero_at relation below))
  where
    same : length ranks ≡ count
    same = ap length is ∙ length-replicate count zero

    zero_at : (relation : ℕ) → relation < length ranks → get_or ranks relation zero ≡ zero
    zero_at relation below = ap (λ l. get_or l relation zero) is
        ∙ get_or-replicate count relation zero zero (subst (λ c. relation < c) (ap length is ∙ length-replicate count zero) below)

    reached : (relation : ℕ) → relation < length ranks → get_or ranks relation zero ≡ zero
        → Arrives Edge relation (get_or ranks relation zero) × (get_or ranks relation zero < length ranks)
    reached relation below z = subst (λ rank. Arrives Edge relation rank × (rank < length ranks)) (sym z) ((relation, [], refl, refl), omega arith)

pub AreRanks-still : (edges : List (ℕ × ℕ)) (count : ℕ) (ranks : List ℕ) → length ranks ≡ count → AreReached (Joins edges) ranks
    → ((place : ℕ) → place < length edges → RisesAt edges ranks place) → AreRanks (Joins edges) count ranks
AreRanks-still edges count ranks same reached still = record {
  for_each = same;
  exact = λ relation below. record {
    arrives = (reached relation (omega arith)).0;
    most = λ from relations walk. omega (arith, walk_rises (Joins edges) (slice_index ranks) rises from relations relation walk);
  };
}
  where
    rises : (from to : ℕ) → Joins edges from to → slice_index ranks from < slice_index ranks to
    rises from to (place, below, is) =
        subst (λ e. slice_index ranks e.0 < slice_index ranks e.1) (get_or_default edges place (0, 0) (from, to) below ∙ is) (still place below)

sum-bound : (Edge : ℕ → ℕ → Type 0) (count : ℕ) (ranks : List ℕ) → length ranks ≡ count → AreReached Edge ranks → sum ranks ≤ count * count
sum-bound Edge count ranks same reached =
    subst (λ m. sum ranks ≤ m * count) same
    (sum_by-le (λ x. x) count ranks (All-from_get_or (λ x. x ≤ count) ranks 0 (λ relation below. omega (arith, (reached relation below).1))))

pub room_falls : (Edge : ℕ → ℕ → Type 0) (count : ℕ) (old new : List ℕ) → length new ≡ count → AreReached Edge new → sum old < sum new
    → count * count - sum new < count * count - sum old
room_falls Edge count old new same reached grew = let bound = sum-bound Edge count new same reached in omega arith
