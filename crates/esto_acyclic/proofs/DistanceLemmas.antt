-- Distances to a relation, and the least of the shortest cycles there.
use Rattle.std.proofs.Common.{◌≡◌, ◌≢◌, ◌⊎◌, inl, inr, ℕ, zero, suc, ◌+◌, ◌-◌, ◌<◌, ◌≤◌, Bool, true, false, List, [], ◌∷◌, ◌++◌, length, Contains, slice_index}
use Rattle.std.proofs.Common.{slice_index_or, set, get_or, refl, sym, ap, ◌∙◌, subst, arith, replicate, append_assoc}
use Rattle.std.specs.List.{sum}
use Rattle.std.proofs.lemmas.List.{length-set, get_or-set_same, get_or-set_other, length-replicate, get_or-replicate, get_or_default, append-nil}
use Rattle.std.proofs.lemmas.List.Sums.{sum_by-set}
use Rattle.std.proofs.lemmas.List.Elements.{Contains-get_or}
use Rattle.esto_semantics.specs.Matches.{IsAtMost}
use Rattle.esto_query.proofs.PlaceLemmas.{IsAtMost-nil}
use Rattle.esto_constraint.specs.Graphs.{Joins, IsWithin, IsWalk, IsCycleAt, HasNoCycle, IsLeastCycleAt}
use Rattle.esto_acyclic.specs.Rounds.{IsLong, Leads, AreNear, AreDistances, Lowers, FallsAt}
use Rattle.esto_constraint.proofs.WalkLemmas.{same_or_apart, short_walk, long_walk_loops, Loops}
use Rattle.esto_acyclic.proofs.RankLemmas.{set_at_each, so_far}
use Rattle.esto_constraint.proofs.CycleLemmas.{IsAtMost-less, IsAtMost-same}

-- ---- one edge

Leads-next : (Edge : ℕ → ℕ → Type 0) (from next edges target : ℕ) → Edge from next → Leads Edge next edges target → Leads Edge from (edges + 1) target
Leads-next Edge from next edges target edge (relations, walk, long) = (from ∷ relations, (next, refl, edge, walk), omega arith)

module _ (Edge : ℕ → ℕ → Type 0) (target : ℕ) (distances : List ℕ) (from to : ℕ) (from_below : from < length distances) (to_below : to < length distances)
    (edge : Edge from to) where
  AreNear-set : slice_index distances to + 1 < slice_index distances from → AreNear Edge target distances
      → AreNear Edge target (set distances from (slice_index distances to + 1))
  AreNear-set lower near = record {
    zero = get_or-set_other distances from target (slice_index distances to + 1) 0 apart ∙ near.zero;
    held = λ relation below small.
        let same = length-set distances from (slice_index distances to + 1) in
        set_at_each (λ r distance. distance < length distances → Leads Edge r distance target) distances from (slice_index distances to + 1) from_below
        (λ fits. Leads-next Edge from to (slice_index distances to) target edge (near.held to to_below (omega arith)))
        relation (λ other. near.held relation (subst (λ count. relation < count) same below))
        (subst (λ count. slice_index (set distances from (slice_index distances to + 1)) relation < count) same small);
  }
    where
      apart : target ≢ from
      apart same = let none : get_or distances from 0 ≡ 0 = subst (λ x. get_or distances x 0 ≡ 0) same near.zero in omega arith

sum-lowered : (distances : List ℕ) (place number : ℕ) → place < length distances → number < slice_index distances place
    → sum (set distances place number) < sum distances
sum-lowered distances place number below less = omega (arith, sum_by-set (λ y. y) distances place number 0 below)

-- ---- a round over the edges

-- how far a round has come
pub record SunkSoFar (edges : List (ℕ × ℕ)) (old now : List ℕ) (fell : Bool) (done : ℕ) : Type 0 where
  pub same : length now ≡ length old
  pub within : IsWithin (length now) (Joins edges)
  pub near : (target : ℕ) → AreNear (Joins edges) target old → AreNear (Joins edges) target now
  pub shrank : sum now ≤ sum old
  pub less : fell ≡ true → sum now < sum old
  pub still : fell ≡ false → (place : ℕ) → place < done → FallsAt edges now place

-- at the start of a round nothing has changed
pub sunk_start : (edges : List (ℕ × ℕ)) (old : List ℕ) → IsWithin (length old) (Joins edges) → SunkSoFar edges old old false 0
sunk_start edges old within = record {
  same = refl;
  within = within;
  near = λ target near. near;
  shrank = omega arith;
  less = λ never. absurd (cc);
  still = λ _ place below. absurd (omega arith);
}

module _ (edges : List (ℕ × ℕ)) (old now : List ℕ) (fell : Bool) (done from to : ℕ) (far : SunkSoFar edges old now fell done) (below : done < length edges)
    (is : slice_index_or edges done (0, 0) ≡ (from, to)) where
  edge : Joins edges from to
  edge = subst (Contains edges) is (Contains-get_or edges done (0, 0) below)

  pub sunk_within : (from < length now) × (to < length now)
  sunk_within = far.within from to edge

  pub sunk_still : (new : List ℕ) → Lowers from to now new false → SunkSoFar edges old new fell (done + 1)
  sunk_still new (stays, falls) = subst (λ n. SunkSoFar edges old n fell (done + 1)) (sym stays) record {
    same = far.same;
    within = far.within;
    near = far.near;
    shrank = far.shrank;
    less = far.less;
    still = λ none. so_far (FallsAt edges now) done (far.still none) (subst (λ e. slice_index now e.0 ≤ slice_index now e.1 + 1) (sym is) falls);
  }

  pub sunk_less : (new : List ℕ) → Lowers from to now new true → SunkSoFar edges old new true (done + 1)
  sunk_less new (becomes, lower) = subst (λ n. SunkSoFar edges old n true (done + 1)) (sym becomes) record {
    same = length-set now from (slice_index now to + 1) ∙ far.same;
    within = subst (λ count. IsWithin count (Joins edges)) (sym (length-set now from (slice_index now to + 1))) far.within;
    near = λ target near. AreNear-set (Joins edges) target now from to sunk_within.0 sunk_within.1 edge lower (far.near target near);
    shrank = omega (arith, falls, far.shrank);
    less = λ t. omega (arith, falls, far.shrank);
    still = λ f. absurd (cc);
  }
    where
      falls : sum (set now from (slice_index now to + 1)) < sum now
      falls = sum-lowered now from (slice_index now to + 1) sunk_within.0 lower

-- ---- rounds until no distance falls

pub AreNear-start : (Edge : ℕ → ℕ → Type 0) (count target : ℕ) → target < count → AreNear Edge target (set (replicate count count) target 0)
AreNear-start Edge count target below = record {
  zero = get_or-set_same (replicate count count) target 0 0 inside;
  held = λ relation under small.
      set_at_each (λ r distance. distance < count → Leads Edge r distance target) (replicate count count) target zero inside
      (λ fits. ([], refl, refl))
      relation (λ apart fits. absurd (far relation (subst (λ c. relation < c) same under) fits))
      (subst (λ c. get_or (set (replicate count count) target 0) relation 0 < c) same small);
}
  where
    inside : target < length (replicate count count)
    inside = subst (λ c. target < c) (sym (length-replicate count count)) below

    same : length (set (replicate count count) target zero) ≡ count
    same = length-set (replicate count count) target zero ∙ length-replicate count count

    far : (relation : ℕ) → relation < count → get_or (replicate count count) relation 0 < count → ⊥
    far relation under fits = let greatest : get_or (replicate count count) relation 0 ≡ count = get_or-replicate count relation count 0 under in omega arith

pub AreDistances-still : (edges : List (ℕ × ℕ)) (target : ℕ) (distances : List ℕ) → AreNear (Joins edges) target distances
    → ((place : ℕ) → place < length edges → FallsAt edges distances place) → AreDistances (Joins edges) target distances
AreDistances-still edges target distances near still = record { near = near; falls = falls }
  where
    falls : (from to : ℕ) → Joins edges from to → slice_index distances from ≤ slice_index distances to + 1
    falls from to (place, below, is) =
        subst (λ e. slice_index distances e.0 ≤ slice_index distances e.1 + 1) (get_or_default edges place (0, 0) (from, to) below ∙ is) (still place below)

-- no walk to the target has fewer edges than the distance
pub walk_is_far : (Edge : ℕ → ℕ → Type 0) (target : ℕ) (distances : List ℕ) → AreDistances Edge target distances → (from : ℕ) (relations : List ℕ)
    → IsWalk Edge from relations target → slice_index distances from ≤ length relations
walk_is_far Edge target distances exact from [] same = let none : slice_index distances from ≡ 0 =
    subst (λ x. slice_index distances x ≡ 0) (sym same) exact.near.zero in omega arith
walk_is_far Edge target distances exact from (here ∷ rest) (next, is, edge, walk) =
    let further = walk_is_far Edge target distances exact next rest walk in
    let step = exact.falls from next edge in
    omega arith

-- where no edge from the relation leads near it, no cycle is there
pub HasNoCycle-far : (Edge : ℕ → ℕ → Type 0) (count start : ℕ) (distances : List ℕ) → IsWithin count Edge → start < count → AreDistances Edge start distances
    → ((next : ℕ) → Edge start next → count ≤ slice_index distances next) → HasNoCycle Edge start
HasNoCycle-far Edge count start distances within below exact far relations (some, walk) =
    no (short_walk Edge count within (length relations) start start relations below (omega arith) some walk)
  where
    no : (others : List ℕ) × (0 < length others) × (length others ≤ count) × IsWalk Edge start others start → ⊥
    no ([], any, fits, back) = omega arith
    no (here ∷ rest, any, fits, (next, is, edge, back)) =
        let near = walk_is_far Edge start distances exact next rest back in
        let out = far next edge in
        omega arith

-- ---- the greedy walk

-- it is a walk of so many edges, and the least of these
pub record IsLeastWalk (Edge : ℕ → ℕ → Type 0) (from edges to : ℕ) (relations : List ℕ) : Type 0 where
  pub walk : IsWalk Edge from relations to
  pub long : length relations ≡ edges
  pub least : (others : List ℕ) → IsWalk Edge from others to → length others ≡ edges → IsAtMost relations others

-- how far the walk has come: what is least for the rest makes the whole least
pub record WalkedSoFar (Edge : ℕ → ℕ → Type 0) (start edges : ℕ) (distances path : List ℕ) (here left : ℕ) : Type 0 where
  pub inside : here < length distances
  pub fits : left ≤ length distances
  pub leads : Leads Edge here left start
  pub tight : (next : ℕ) → Edge here next → left ≤ slice_index distances next + 1
  pub completes : (rest : List ℕ) → IsLeastWalk Edge here left start rest → IsLeastWalk Edge start edges start (path ++ rest)

module _ (Edge : ℕ → ℕ → Type 0) (start : ℕ) (distances : List ℕ) (exact : AreDistances Edge start distances) where
  IsLeastWalk-cons : (here next k : ℕ) → ((other : ℕ) → Edge here other → suc k ≤ slice_index distances other + 1) → Edge here next
      → ((other : ℕ) → Edge here other → slice_index distances other ≡ k → next ≤ other) → (rest : List ℕ) → IsLeastWalk Edge next k start rest
      → IsLeastWalk Edge here (suc k) start (here ∷ rest)
  IsLeastWalk-cons here next k tight edge low rest is = record { walk = (next, refl, edge, is.walk); long = ap suc is.long; least = least }
    where
      apart : (other : ℕ) (first second : List ℕ) → IsWalk Edge next first start → IsWalk Edge other second start → length second ≡ length first → next < other
          → IsAtMost first second
      apart other [] second walk more same less = IsAtMost-nil second
      apart other (x ∷ xs) [] walk more same less = absurd (omega arith)
      apart other (x ∷ xs) (y ∷ ys) (a, xe, b, c) (d, ye, e, f) same less = IsAtMost-less x y xs ys (omega arith)

      rest_least : (other : ℕ) (others : List ℕ) → Edge here other → IsWalk Edge other others start → length others ≡ k → IsAtMost rest others
      rest_least other others e walk long =
          let near = walk_is_far Edge start distances exact other others walk in
          let far = tight other e in
          let after : next ≤ other = low other e (omega arith) in
          elim (same_or_apart next other) [
            | inl same ↦ is.least others (subst (λ x. IsWalk Edge x others start) (sym same) walk) long
            | inr differ ↦ apart other rest others is.walk walk (long ∙ sym is.long) (omega arith)
          ]

      least : (others : List ℕ) → IsWalk Edge here others start → length others ≡ suc k → IsAtMost (here ∷ rest) others
      least [] walk long = absurd (omega arith)
      least (y ∷ others) (other, ye, e, walk) long = IsAtMost-same here y rest others (sym ye) (rest_least other others e walk (omega arith))

  module _ (edges : ℕ) (path : List ℕ) (here left next : ℕ) (within : IsWithin (length distances) Edge)
      (far : WalkedSoFar Edge start edges distances path here left) (some : 0 < left)
      (low : (other : ℕ) → Edge here other → slice_index distances other ≡ left - 1 → next ≤ other)
      (is : next < length distances → Edge here next × (slice_index distances next ≡ left - 1)) where
    candidate : Leads Edge here left start → (other : ℕ) × Edge here other × (slice_index distances other ≡ left - 1)
    candidate ([], walk, long) = absurd (omega arith)
    candidate (x ∷ rest, (other, xe, e, walk), long) =
        (other, e, (let near = walk_is_far Edge start distances exact other rest walk in let out = far.tight other e in omega arith))

    next_inside : next < length distances
    next_inside =
        let one = candidate far.leads in
        let after = low one.0 one.1 one.2 in
        let below = (within here one.0 one.1).1 in
        omega arith

    pub walked_next : WalkedSoFar Edge start edges distances (path ++ here ∷ []) next (left - 1)
    walked_next = record {
      inside = next_inside;
      fits = (let fits = far.fits in omega arith);
      leads = subst (λ k. Leads Edge next k start) (is next_inside).1
          (exact.near.held next next_inside (let fits = far.fits in let at = (is next_inside).1 in omega arith));
      tight = λ other e. (let at = (is next_inside).1 in let falls = exact.falls next other e in omega arith);
      completes = λ rest least.
          subst (IsLeastWalk Edge start edges start) (sym (append_assoc path (here ∷ []) rest))
          (far.completes (here ∷ rest) (subst (λ k. IsLeastWalk Edge here k start (here ∷ rest)) back
          (IsLeastWalk-cons here next (left - 1) (λ other e. (let out = far.tight other e in omega arith)) (is next_inside).0 low rest least)));
    }
      where
        back : suc (left - 1) ≡ left
        back = omega arith

  pub walked_start : (near : ℕ) → start < length distances → IsWithin (length distances) Edge
      → ((next : ℕ) → Edge start next → near ≤ slice_index distances next) → near < length distances
      → (next : ℕ) × Edge start next × (slice_index distances next ≡ near) → WalkedSoFar Edge start (near + 1) distances [] start (near + 1)
  walked_start near below within low small (next, edge, is) = record {
    inside = below;
    fits = omega arith;
    leads = Leads-next Edge start next near start edge
        (subst (λ k. Leads Edge next k start) is (exact.near.held next (within start next edge).1 (omega arith)));
    tight = λ other e. (let least = low other e in omega arith);
    completes = λ rest least. least;
  }

  pub walked_end : (near : ℕ) (path : List ℕ) (here : ℕ) → ((next : ℕ) → Edge start next → near ≤ slice_index distances next)
      → WalkedSoFar Edge start (near + 1) distances path here 0 → IsLeastCycleAt Edge start path
  walked_end near path here low far = whole (subst (IsLeastWalk Edge start (near + 1) start) (append-nil path) (far.completes [] (stay far.leads)))
    where
      stay : Leads Edge here 0 start → IsLeastWalk Edge here 0 start []
      stay ([], same, long) = record { walk = same; long = refl; least = λ others walk none. IsAtMost-nil others }
      stay (x ∷ rest, walk, long) = absurd (omega arith)

      not_shorter : (others : List ℕ) → IsCycleAt Edge start others → near + 1 ≤ length others
      not_shorter [] (some, walk) = absurd (omega arith)
      not_shorter (x ∷ rest) (some, (next, is, edge, walk)) =
          let further = walk_is_far Edge start distances exact next rest walk in
          let out = low next edge in
          omega arith

      whole : IsLeastWalk Edge start (near + 1) start path → IsLeastCycleAt Edge start path
      whole is = record {
        cycle = (omega (arith, is.long), is.walk);
        shortest = λ others cycle. omega (arith, is.long, not_shorter others cycle);
        least = λ others cycle long. is.least others cycle.1 (long ∙ is.long);
      }

-- ---- the least over the edges from a relation

-- how far the search over the edges has come: the least key among ends of edges from the relation that have a property
pub record LeastSoFar (edges : List (ℕ × ℕ)) (relation : ℕ) (P : ℕ → Type 0) (key : ℕ → ℕ) (bound best done : ℕ) : Type 0 where
  pub least : (place : ℕ) → place < done → (slice_index_or edges place (0, 0)).0 ≡ relation → P (slice_index_or edges place (0, 0)).1
      → best ≤ key (slice_index_or edges place (0, 0)).1
  pub is : best < bound → (next : ℕ) × Joins edges relation next × P next × (key next ≡ best)

pub least_start : (edges : List (ℕ × ℕ)) (relation : ℕ) (P : ℕ → Type 0) (key : ℕ → ℕ) (bound : ℕ) → LeastSoFar edges relation P key bound bound 0
least_start edges relation P key bound = record { least = λ place none. absurd (omega arith); is = λ none. absurd (omega arith) }

module _ (edges : List (ℕ × ℕ)) (relation : ℕ) (P : ℕ → Type 0) (key : ℕ → ℕ) (bound best done : ℕ)
    (far : LeastSoFar edges relation P key bound best done) where
  pub least_next : done < length edges → (from to : ℕ) → slice_index_or edges done (0, 0) ≡ (from, to) → (new : ℕ) → new ≤ best
      → (from ≡ relation → P to → new ≤ key to) → (new ≡ best) ⊎ ((from ≡ relation) × P to × (key to ≡ new))
      → LeastSoFar edges relation P key bound new (done + 1)
  least_next below from to is new low here which = record {
    least = so_far (λ place. (slice_index_or edges place (0, 0)).0 ≡ relation → P (slice_index_or edges place (0, 0)).1
        → new ≤ key (slice_index_or edges place (0, 0)).1) done
        (λ place before at has. (let so = far.least place before at has in omega arith))
        (subst (λ e. e.0 ≡ relation → P e.1 → new ≤ key e.1) (sym is) here);
    is = λ small. found small which;
  }
    where
      found : new < bound → (new ≡ best) ⊎ ((from ≡ relation) × P to × (key to ≡ new)) → (next : ℕ) × Joins edges relation next × P next × (key next ≡ new)
      found small (inl same) = let old = far.is (omega arith) in (old.0, old.1, old.2, old.3 ∙ sym same)
      found small (inr (at, has, equal)) =
          (to, subst (λ x. Contains edges (x, to)) at (subst (Contains edges) is (Contains-get_or edges done (0, 0) below)), has, equal)

  pub least_whole : length edges ≤ done → (next : ℕ) → Joins edges relation next → P next → best ≤ key next
  least_whole all next (place, below, is) =
      subst (λ e. e.0 ≡ relation → P e.1 → best ≤ key e.1) (get_or_default edges place (0, 0) (relation, next) below ∙ is) (far.least place (omega arith)) refl

pub ends_within : (edges : List (ℕ × ℕ)) (count place : ℕ) → IsWithin count (Joins edges) → place < length edges
    → ((slice_index_or edges place (0, 0)).0 < count) × ((slice_index_or edges place (0, 0)).1 < count)
ends_within edges count place within below = within _ _ (Contains-get_or edges place (0, 0) below)

-- ---- some cycle

-- where some walk is long, some relation is on a cycle
pub no_long_walk : (Edge : ℕ → ℕ → Type 0) (count : ℕ) → IsWithin count Edge → IsLong Edge count → ((start : ℕ) → start < count → HasNoCycle Edge start) → ⊥
no_long_walk Edge count within (relation, below, (from, relations, walk, long)) none = by found.0 found.2 found.5
  where
    found : Loops Edge from relations relation
    found = long_walk_loops Edge count within from relations relation below walk (omega arith)

    by : (start : ℕ) (cycle : List ℕ) → IsCycleAt Edge start cycle → ⊥
    by start [] (some, walk) = omega arith
    by start (x ∷ rest) (some, (next, is, edge, walk)) = none start (within start next edge).0 (x ∷ rest) (some, (next, is, edge, walk))
