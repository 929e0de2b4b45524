-- Walks: joined, cut apart, and no longer than the number of relations where none closes.
use Rattle.std.proofs.Common.{◌≡◌, ◌≢◌, ◌⊎◌, inl, inr, ℕ, zero, suc, ◌+◌, ◌<◌, ◌≤◌, Bool, true, false, ◌||◌, List, [], ◌∷◌, ◌++◌, length, refl, sym, ap, ◌∙◌}
use Rattle.std.proofs.Common.{subst, arith, length-append}
use Rattle.std.specs.List.{IsDistinct, list_any, AllByRecursion}
use Rattle.std.proofs.Math.Dec.{eqb}
use Rattle.std.proofs.lemmas.Bool.Decides.{eqb_tells}
use Rattle.std.proofs.lemmas.Map.Steps.{length-le_from_distinct_below}
use Rattle.esto_constraint.specs.Graphs.{IsWithin, IsWalk, IsCycleAt, IsAcyclic, Arrives}

pub le_or_more : (i j : ℕ) → (i ≤ j) ⊎ (j < i)
le_or_more i j = grind arith

pub same_or_apart : (i j : ℕ) → (i ≡ j) ⊎ (i ≢ j)
same_or_apart i j = elim (eqb_tells i j) [ inl (t, same) ↦ inl same | inr (f, apart) ↦ inr apart ]

-- ---- walks joined

pub IsWalk-append : (Edge : ℕ → ℕ → Type 0) (from : ℕ) (first : List ℕ) (middle : ℕ) (second : List ℕ) (to : ℕ) → IsWalk Edge from first middle
    → IsWalk Edge middle second to → IsWalk Edge from (first ++ second) to
IsWalk-append Edge from [] middle second to same more = subst (λ at. IsWalk Edge at second to) (sym same) more
IsWalk-append Edge from (here ∷ rest) middle second to (next, is, edge, walk) more =
    (next, is, edge, IsWalk-append Edge next rest middle second to walk more)

pub Arrives-next : (Edge : ℕ → ℕ → Type 0) (from to edges : ℕ) → Arrives Edge from edges → Edge from to → Arrives Edge to (edges + 1)
Arrives-next Edge from to edges (start, relations, walk, long) edge = (
  start,
  relations ++ from ∷ [],
  IsWalk-append Edge start relations from (from ∷ []) to walk (to, refl, edge, refl),
  omega (arith, length-append relations (from ∷ [])),
)

-- numbers that rise along each edge rise along a walk by the number of its edges at least
pub walk_rises : (Edge : ℕ → ℕ → Type 0) (number : ℕ → ℕ) → ((from to : ℕ) → Edge from to → number from < number to) → (from : ℕ) (relations : List ℕ) (to : ℕ)
    → IsWalk Edge from relations to → number from + length relations ≤ number to
walk_rises Edge number rises from [] to same = let equal = ap number same in omega arith
walk_rises Edge number rises from (here ∷ rest) to (next, is, edge, walk) =
    let step = rises from next edge in
    let more = walk_rises Edge number rises next rest to walk in
    omega arith

-- ---- walks cut apart

-- the relations of a walk, its end among them
abbrev pub stops : List ℕ → ℕ → List ℕ
stops [] to = to ∷ []
stops (here ∷ rest) to = here ∷ stops rest to

length-stops : (relations : List ℕ) (to : ℕ) → length (stops relations to) ≡ suc (length relations)
length-stops [] to = refl
length-stops (here ∷ rest) to = ap suc (length-stops rest to)

-- a walk in two parts, cut at a relation
abbrev pub PartsAt : (ℕ → ℕ → Type 0) → ℕ → List ℕ → ℕ → ℕ → Type 0
PartsAt Edge from relations to cut =
    (before : List ℕ) × (after : List ℕ) × IsWalk Edge from before cut × IsWalk Edge cut after to × (length relations ≡ length before + length after)

-- a walk in three parts, the second of which is a cycle
abbrev pub Loops : (ℕ → ℕ → Type 0) → ℕ → List ℕ → ℕ → Type 0
Loops Edge from relations to =
    (cut : ℕ) × (before : List ℕ) × (cycle : List ℕ) × (after : List ℕ) × IsWalk Edge from before cut × IsCycleAt Edge cut cycle × IsWalk Edge cut after to
    × (length relations ≡ length before + length cycle + length after)

cut_here : (Edge : ℕ → ℕ → Type 0) (from : ℕ) (relations : List ℕ) (to cut : ℕ) → IsWalk Edge from relations to → cut ≡ from
    → PartsAt Edge from relations to cut
cut_here Edge from relations to cut walk is =
    ([], relations, sym is, subst (λ at. IsWalk Edge at relations to) (sym is) walk, omega arith)

cut_later : (Edge : ℕ → ℕ → Type 0) (from here next : ℕ) (rest : List ℕ) (to cut : ℕ) → here ≡ from → Edge from next → PartsAt Edge next rest to cut
    → PartsAt Edge from (here ∷ rest) to cut
cut_later Edge from here next rest to cut is edge (before, after, one, two, long) =
    (here ∷ before, after, (next, is, edge, one), two, omega arith)

-- a test over a list without its first item, where the item doesn't pass
any_later : (first rest : Bool) → first ≡ false → (first || rest) ≡ true → rest ≡ true
any_later first rest fails some = subst (λ t. (t || rest) ≡ true) fails some

no_any : (first : Bool) → first ≡ false → (first || false) ≡ true → ⊥
no_any first fails some = let never : false ≡ true = any_later first false fails some in cc

cut_at : (Edge : ℕ → ℕ → Type 0) (from : ℕ) (relations : List ℕ) (to cut : ℕ) → IsWalk Edge from relations to → list_any (eqb cut) (stops relations to) ≡ true
    → PartsAt Edge from relations to cut
cut_at Edge from [] to cut walk stands = elim (eqb_tells cut to) [
  | inl (t, same) ↦ cut_here Edge from [] to cut walk (same ∙ sym walk)
  | inr (f, apart) ↦ absurd (no_any (eqb cut to) f stands)
]
cut_at Edge from (here ∷ rest) to cut (next, is, edge, walk) stands = elim (eqb_tells cut here) [
  | inl (t, same) ↦ cut_here Edge from (here ∷ rest) to cut (next, is, edge, walk) (same ∙ is)
  | inr (f, apart) ↦ cut_later Edge from here next rest to cut is edge
      (cut_at Edge next rest to cut walk (any_later (eqb cut here) (list_any (eqb cut) (stops rest to)) f stands))
]

-- ---- a walk that comes to no relation twice, or has a cycle

none_same : (here : ℕ) (others : List ℕ) → list_any (eqb here) others ≡ false → AllByRecursion (λ other. eqb here other ≡ false) others
none_same here [] none = tt
none_same here (other ∷ others) none = elim (eqb_tells here other) [
  | inl (t, same) ↦ absurd (let never : true ≡ false = subst (λ b. (b || list_any (eqb here) others) ≡ false) t none in cc)
  | inr (f, apart) ↦ (f, none_same here others (subst (λ b. (b || list_any (eqb here) others) ≡ false) f none))
]

IsDistinct-one : (here : ℕ) → IsDistinct eqb (here ∷ [])
unfolding IsDistinct
IsDistinct-one here = (tt, tt)

IsDistinct-more : (here : ℕ) (others : List ℕ) → list_any (eqb here) others ≡ false → IsDistinct eqb others → IsDistinct eqb (here ∷ others)
unfolding IsDistinct
IsDistinct-more here others none distinct = (none_same here others none, distinct)

distinct_or_loops : (Edge : ℕ → ℕ → Type 0) (from : ℕ) (relations : List ℕ) (to : ℕ) → IsWalk Edge from relations to
    → IsDistinct eqb (stops relations to) ⊎ Loops Edge from relations to
distinct_or_loops Edge from [] to walk = inl (IsDistinct-one to)
distinct_or_loops Edge from (here ∷ rest) to (next, is, edge, walk) = elim (distinct_or_loops Edge next rest to walk) [
  | inr (cut, before, cycle, after, one, two, three, long) ↦ inr (cut, here ∷ before, cycle, after, (next, is, edge, one), two, three, omega arith)
  | inl distinct ↦ by distinct (list_any (eqb here) (stops rest to)) refl
]
  where
    by : IsDistinct eqb (stops rest to) → (again : Bool) → list_any (eqb here) (stops rest to) ≡ again
        → IsDistinct eqb (here ∷ stops rest to) ⊎ Loops Edge from (here ∷ rest) to
    by distinct false none = inl (IsDistinct-more here (stops rest to) none distinct)
    by distinct true again = back (cut_at Edge next rest to here walk again)
      where
        back : PartsAt Edge next rest to here → IsDistinct eqb (here ∷ stops rest to) ⊎ Loops Edge from (here ∷ rest) to
        back (before, after, one, two, long) =
            inr (here, [], here ∷ before, after, sym is, (omega arith, (next, refl, subst (λ at. Edge at next) (sym is) edge, one)), two, omega arith)

stops_below : (Edge : ℕ → ℕ → Type 0) (count : ℕ) → IsWithin count Edge → (from : ℕ) (relations : List ℕ) (to : ℕ) → to < count → IsWalk Edge from relations to
    → (stop : ℕ) → list_any (eqb stop) (stops relations to) ≡ true → stop < count
stops_below Edge count within from [] to below walk stop stands = elim (eqb_tells stop to) [
  | inl (t, same) ↦ omega arith
  | inr (f, apart) ↦ absurd (no_any (eqb stop to) f stands)
]
stops_below Edge count within from (here ∷ rest) to below (next, is, edge, walk) stop stands = elim (eqb_tells stop here) [
  | inl (t, same) ↦ let ends = within from next edge in omega arith
  | inr (f, apart) ↦ stops_below Edge count within next rest to below walk stop (any_later (eqb stop here) (list_any (eqb stop) (stops rest to)) f stands)
]

-- a walk of as many edges as there are relations has a cycle
pub long_walk_loops : (Edge : ℕ → ℕ → Type 0) (count : ℕ) → IsWithin count Edge → (from : ℕ) (relations : List ℕ) (to : ℕ) → to < count
    → IsWalk Edge from relations to → count ≤ length relations → Loops Edge from relations to
long_walk_loops Edge count within from relations to below walk long = elim (distinct_or_loops Edge from relations to walk) [
  | inr found ↦ found
  | inl distinct ↦ absurd (omega (
    arith,
    length-le_from_distinct_below (stops relations to) count distinct (stops_below Edge count within from relations to below walk),
    length-stops relations to,
  ))
]

pub walk_is_short : (Edge : ℕ → ℕ → Type 0) (count : ℕ) → IsWithin count Edge → IsAcyclic Edge → (from : ℕ) (relations : List ℕ) (to : ℕ) → to < count
    → IsWalk Edge from relations to → length relations < count
walk_is_short Edge count within acyclic from relations to below walk = elim (le_or_more count (length relations)) [
  | inr short ↦ short
  | inl long ↦ let found = long_walk_loops Edge count within from relations to below walk long in absurd (acyclic found.0 found.2 found.5)
]

-- where a walk of at least one edge leads, a walk of at most as many edges as there are relations does
pub short_walk : (Edge : ℕ → ℕ → Type 0) (count : ℕ) → IsWithin count Edge → (bound from to : ℕ) (relations : List ℕ) → to < count → length relations ≤ bound
    → 0 < length relations → IsWalk Edge from relations to → (others : List ℕ) × (0 < length others) × (length others ≤ count) × IsWalk Edge from others to
short_walk Edge count within zero from to relations below fits some walk = absurd (omega arith)
short_walk Edge count within (suc bound) from to [] below fits some walk = absurd (omega arith)
short_walk Edge count within (suc bound) from to (here ∷ rest) below fits some (next, is, edge, walk) =
    go (λ others short more leads. short_walk Edge count within bound from to others below short more leads) (le_or_more count (length rest))
  where
    without_cycle : Loops Edge next rest to → (others : List ℕ) × (length others < length (here ∷ rest)) × (0 < length others) × IsWalk Edge from others to
    without_cycle (cut, before, cycle, after, one, two, three, long) = (
      here ∷ (before ++ after),
      omega (arith, length-append before after, two.0),
      omega arith,
      (next, is, edge, IsWalk-append Edge next before cut after to one three),
    )

    go : ((others : List ℕ) → length others ≤ bound → 0 < length others → IsWalk Edge from others to
        → (found : List ℕ) × (0 < length found) × (length found ≤ count) × IsWalk Edge from found to) → (count ≤ length rest) ⊎ (length rest < count)
        → (found : List ℕ) × (0 < length found) × (length found ≤ count) × IsWalk Edge from found to
    go again (inr short) = (here ∷ rest, omega arith, omega arith, (next, is, edge, walk))
    go again (inl long) =
        let cut = without_cycle (long_walk_loops Edge count within next rest to below walk long) in
        again cut.0 (omega (arith, cut.1)) cut.2 cut.3
