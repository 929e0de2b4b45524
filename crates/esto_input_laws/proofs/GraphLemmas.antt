-- A graph over finitely many relations has ranks, or a least cycle.
use Rattle.std.proofs.Common.{◌≡◌, ◌≢◌, ◌⊎◌, ℕ, zero, suc, ◌<◌, ◌≤◌, inl, inr, List, [], ◌∷◌, length, slice_index, refl, sym, ap, subst}
use Rattle.std.proofs.Common.{◌∙◌, arith}
use Rattle.std.specs.Prelude.{Contains}
use Rattle.std.specs.List.{AllByRecursion}
use Rattle.std.proofs.lemmas.Bool.{cases_lt, cases_eq}
use Rattle.std.proofs.lemmas.List.Elements.{recursion_from_All}
use Rattle.esto_constraint.proofs.CycleLemmas.{IsAtMost-less, IsAtMost-same}
use Rattle.esto_acyclic.proofs.EdgeLemmas.{cycle_below}
use Rattle.esto_constraint.proofs.EdgeLemmas.{joins_edges}
use Rattle.esto_constraint.proofs.WalkLemmas.{walk_is_short, short_walk}
use Rattle.esto_acyclic.proofs.DistanceLemmas.{IsLeastWalk}
use Rattle.esto_constraint.specs.Graphs.{IsWithin, IsWalk, IsCycleAt, HasNoCycle, IsAcyclic, IsLeastCycleAt, IsLeastCycle, Arrives, IsRank, AreRanks}
use Rattle.esto_acyclic.specs.Relations.{AreNamesOf}
use Rattle.esto_constraint.specs.Relations.{edges_of, IsEdge}
use Rattle.esto_acyclic.specs.Rounds.{Leads}
use Rattle.esto_query.proofs.PlaceLemmas.{IsAtMost-nil}
use Rattle.esto_query.specs.Schemas.{names_of}
use Rattle.esto_query.specs.declared.schema.Relation.{Relation}
use Rattle.esto_semantics.specs.Matches.{IsAtMost}
use Rattle.esto_semantics.specs.Rules.{Rule}
use Rattle.esto_term.proofs.ChoiceLemmas.{Decided, decided_as, decided_both, decided_below, decided_in, least_below}
use Rattle.esto_term.proofs.ListLemmas.{thing_at}
use Rattle.esto_term.proofs.DecisionLemmas.{greatest}

-- ---- edges

same_edge : (edge other : ℕ × ℕ) → Decided (edge ≡ other)
same_edge (a, b) (c, d) = elim (cases_eq a c) [
  | inl first ↦ elim (cases_eq b d) [
    | inl second ↦ inl (λ i. (first i, second i))
    | inr apart ↦ inr (λ e. apart (ap (λ (x : ℕ × ℕ). x.1) e))
  ]
  | inr apart ↦ inr (λ e. apart (ap (λ (x : ℕ × ℕ). x.0) e))
]

pub edge_decided : (rules : List Rule) (from to : ℕ) → Decided (IsEdge rules from to)
edge_decided rules from to = decided_as (
  λ (edge, inside, is). (joins_edges rules from to).0 (subst (Contains (edges_of rules)) is inside),
  λ edge. ((from, to), (joins_edges rules from to).1 edge, refl),
)
    (decided_in (λ (edge : ℕ × ℕ). edge ≡ (from, to)) (λ edge. same_edge edge (from, to)) (edges_of rules))

module _ (Edge : ℕ → ℕ → Type 0) (count : ℕ) (within : IsWithin count Edge) (decide : (from to : ℕ) → Decided (Edge from to)) where
  -- ---- walks of so many edges

  -- an edge to a relation from which a walk leads on
  abbrev Steps : ℕ → ℕ → ℕ → ℕ → Type 0
  Steps from edges to next = Edge from next × Leads Edge next edges to

  first_step : (from edges to : ℕ) → Leads Edge from (suc edges) to → (next : ℕ) × (next < count) × Steps from edges to next
  first_step from edges to ([], walk, long) = absurd (omega (arith, long))
  first_step from edges to (here ∷ rest, (next, is, edge, walk), long) = (next, (within from next edge).1, (edge, (rest, walk, omega (arith, long))))

  from_step : (from edges to next : ℕ) → Steps from edges to next → Leads Edge from (suc edges) to
  from_step from edges to next (edge, (rest, walk, long)) = (from ∷ rest, (next, refl, edge, walk), ap suc long)

  leads : (edges from to : ℕ) → Decided (Leads Edge from edges to)
  leads zero from to = decided_as (λ same. ([], same, refl), λ found. none found.0 found.1 found.2) (cases_eq from to)
    where
      none : (relations : List ℕ) → IsWalk Edge from relations to → length relations ≡ 0 → from ≡ to
      none [] walk long = walk
      none (here ∷ rest) walk long = absurd (omega (arith, long))
  leads (suc edges) from to = decided_as
      (λ (next, below, goes). from_step from edges to next goes, λ found. first_step from edges to found)
      (decided_below (Steps from edges to) count (λ next below. decided_both (decide from next) (leads edges next to)))

  arrives : (edges relation : ℕ) → Decided (Arrives Edge relation edges)
  arrives zero relation = inl (relation, [], refl, refl)
  arrives (suc edges) relation = decided_as (
    λ (from, below, (relations, walk, long)). (from, relations, walk, long),
    λ (from, relations, walk, long). (from, start from relations walk long, (relations, walk, long)),
  )
      (decided_below (λ from. Leads Edge from (suc edges) relation) count (λ from below. leads (suc edges) from relation))
    where
      start : (from : ℕ) (relations : List ℕ) → IsWalk Edge from relations relation → length relations ≡ suc edges → from < count
      start from [] walk long = absurd (omega (arith, long))
      start from (here ∷ rest) (next, is, edge, walk) long = (within from next edge).0

  -- ---- the least walk of so many edges

  -- walks from different relations are in the order of these
  in_order : (first second : ℕ) (one other : List ℕ) (to : ℕ) → IsWalk Edge first one to → IsWalk Edge second other to → length other ≡ length one
      → first < second → IsAtMost one other
  in_order first second [] other to walk walk' same less = IsAtMost-nil other
  in_order first second (x ∷ one) [] to walk walk' same less = absurd (omega (arith, same))
  in_order first second (x ∷ one) (y ∷ other) to (next, is, edge, walk) (next', is', edge', walk') same less = IsAtMost-less x y one other
      (omega (arith, is, is', less))

  least_walk : (edges from to : ℕ) → Leads Edge from edges to → (relations : List ℕ) × IsLeastWalk Edge from edges to relations
  least_walk zero from to (relations, walk, long) =
      ([], record { walk = none relations walk long; long = refl; least = λ others walk' long'. IsAtMost-nil others })
    where
      none : (relations : List ℕ) → IsWalk Edge from relations to → length relations ≡ 0 → from ≡ to
      none [] walk long = walk
      none (here ∷ rest) walk long = absurd (omega (arith, long))
  least_walk (suc edges) from to found = by (least_below (Steps from edges to) count (λ next below. decided_both (decide from next) (leads edges next to)))
      (λ next. least_walk edges next to)
    where
      by : ((next : ℕ) × (next < count) × Steps from edges to next × ((other : ℕ) → other < next → Steps from edges to other → ⊥))
          ⊎ ((next : ℕ) → next < count → Steps from edges to next → ⊥)
          → ((next : ℕ) → Leads Edge next edges to → (relations : List ℕ) × IsLeastWalk Edge next edges to relations)
          → (relations : List ℕ) × IsLeastWalk Edge from (suc edges) to relations
      by (inr none) later = let (next, below, goes) = first_step from edges to found in absurd (none next below goes)
      by (inl (next, below, (edge, goes), first)) later =
          let (rest, is) = later next goes in (
            from ∷ rest,
            record {
              walk = (next, refl, edge, is.walk);
              long = ap suc is.long;
              least = λ others walk long. compare rest is others walk long;
            },
          )
        where
          compare : (rest : List ℕ) → IsLeastWalk Edge next edges to rest → (others : List ℕ) → IsWalk Edge from others to → length others ≡ suc edges
              → IsAtMost (from ∷ rest) others
          compare rest is [] walk long = absurd (omega (arith, long))
          compare rest is (y ∷ others) (other, same, edge', walk) long = IsAtMost-same from y rest others (sym same) (elim (cases_eq next other) [
            | inl one ↦ is.least others (subst (λ (at : ℕ). IsWalk Edge at others to) (sym one) walk) (omega (arith, long))
            | inr apart ↦ elim (cases_lt next other) [
              | inl less ↦ in_order next other rest others to is.walk walk (omega (arith, long, is.long)) less
              | inr more ↦ absurd (first other (omega (arith, more, apart_less next other apart more)) (edge', (others, walk, omega (arith, long))))
            ]
          ])
            where
              apart_less : (next other : ℕ) → next ≢ other → other ≤ next → other < next
              apart_less next other apart more = elim (cases_lt other next) [
                | inl less ↦ less
                | inr le ↦ let e : next ≡ other = omega (arith, le, more) in absurd (apart e)
              ]

  -- ---- cycles

  -- some cycle of one edge more than so many is at the relation
  abbrev CycleOf : ℕ → ℕ → Type 0
  CycleOf start edges = Leads Edge start (suc edges) start

  cycle_starts : (start : ℕ) (relations : List ℕ) → IsCycleAt Edge start relations → start < count
  cycle_starts start [] (some, walk) = absurd (omega (arith, some))
  cycle_starts start (here ∷ rest) (some, (next, is, edge, walk)) = (within start next edge).0

  -- a cycle is at the relation, the least of the shortest; or none is there
  cycle_at : (start : ℕ) → ((relations : List ℕ) × IsLeastCycleAt Edge start relations) ⊎ HasNoCycle Edge start
  cycle_at start = elim (least_below (CycleOf start) count (λ edges below. leads (suc edges) start start)) [
    | inl (edges, below, goes, first) ↦
        let (relations, is) = least_walk (suc edges) start start goes in
        inl (
          relations,
          record {
            cycle = (omega (arith, is.long), is.walk);
            shortest = λ others cycle. no_shorter edges first relations is.long others cycle;
            least = λ others cycle same. is.least others cycle.1 (same ∙ is.long);
          },
        )
    | inr none ↦ inr (λ relations cycle.
        let (others, some, fits, walk) = short_walk Edge count within (length relations) start start relations (cycle_starts start relations cycle)
        (omega arith) cycle.0 cycle.1 in
        absurd (any others some fits walk none))
  ]
    where
      any : (others : List ℕ) → 0 < length others → length others ≤ count → IsWalk Edge start others start
          → ((edges : ℕ) → edges < count → CycleOf start edges → ⊥) → ⊥
      any [] some fits walk none = omega (arith, some)
      any (here ∷ rest) some fits walk none = none (length rest) (omega (arith, fits)) (here ∷ rest, walk, refl)

      no_shorter : (edges : ℕ) → ((fewer : ℕ) → fewer < edges → CycleOf start fewer → ⊥) → (relations : List ℕ) → length relations ≡ suc edges
          → (others : List ℕ) → IsCycleAt Edge start others → length relations ≤ length others
      no_shorter edges first relations long [] (some, walk) = absurd (omega (arith, some))
      no_shorter edges first relations long (here ∷ rest) (some, walk) = elim (cases_lt (length rest) edges) [
        | inl less ↦ absurd (first (length rest) less (here ∷ rest, walk, refl))
        | inr more ↦ omega (arith, long, more)
      ]

  -- the least cycle, or the graph has none
  least_cycle : ((relations : List ℕ) × IsLeastCycle Edge relations) ⊎ IsAcyclic Edge
  least_cycle = elim (least_below HasCycle count (λ start below. has_cycle start)) [
    | inl (start, below, (relations, is), first) ↦ inl (
      relations,
      record {
        start = start;
        here = is;
        first = λ other before. none other (first other before);
      },
    )
    | inr no_cycle ↦ inr (λ start relations cycle. none start (no_cycle start (cycle_starts start relations cycle)) relations cycle)
  ]
    where
      HasCycle : ℕ → Type 0
      HasCycle start = (relations : List ℕ) × IsLeastCycleAt Edge start relations

      has_cycle : (start : ℕ) → Decided (HasCycle start)
      has_cycle start = elim (cycle_at start) [ inl found ↦ inl found | inr free ↦ inr (λ (relations, is). free relations is.cycle) ]

      none : (start : ℕ) → (HasCycle start → ⊥) → HasNoCycle Edge start
      none start refuted = elim (cycle_at start) [ inl found ↦ absurd (refuted found) | inr free ↦ free ]

  -- ---- ranks

  rank_of : IsAcyclic Edge → (relation : ℕ) → relation < count → (rank : ℕ) × IsRank Edge relation rank
  rank_of acyclic relation below = elim (greatest (λ edges. Arrives Edge relation edges) (λ edges. arrives edges relation) count) [
    | inl (rank, fits, found, most) ↦ (
      rank,
      record {
        arrives = found;
        most = λ from relations walk.
            let short = walk_is_short Edge count within acyclic from relations relation below walk in
            most (length relations) (omega (arith, short)) (from, relations, walk, refl);
      },
    )
    | inr none ↦ absurd (none 0 (omega arith) (relation, [], refl, refl))
  ]

-- one thing for each number below a bound
one_each : (P : ℕ → ℕ → Type 0) (bound : ℕ) → ((k : ℕ) → k < bound → (n : ℕ) × P k n)
    → (numbers : List ℕ) × (length numbers ≡ bound) × ((k : ℕ) → k < bound → P k (slice_index numbers k))
one_each P zero choose = ([], refl, λ k below. absurd (omega (arith, below)))
one_each P (suc bound) choose =
    let (first, is) = choose 0 (omega arith) in
    let (rest, long, each) = one_each (λ k n. P (suc k) n) bound (λ k below. choose (suc k) (omega (arith, below))) in
    (first ∷ rest, ap suc long, λ k below. by first is rest each k below)
  where
    by : (first : ℕ) → P 0 first → (rest : List ℕ) → ((k : ℕ) → k < bound → P (suc k) (slice_index rest k)) → (k : ℕ) → k < suc bound
        → P k (slice_index (first ∷ rest) k)
    by first is rest each zero below = is
    by first is rest each (suc k) below = each k (omega (arith, below))

pub ranks_or_cycle : (rules : List Rule) (count : ℕ) → IsWithin count (IsEdge rules)
    → ((ranks : List ℕ) × AreRanks (IsEdge rules) count ranks × IsAcyclic (IsEdge rules)) ⊎ ((relations : List ℕ) × IsLeastCycle (IsEdge rules) relations)
ranks_or_cycle rules count within = elim (least_cycle (IsEdge rules) count within (edge_decided rules)) [
  | inl found ↦ inr found
  | inr acyclic ↦
      let (ranks, long, each) = one_each (λ relation rank. IsRank (IsEdge rules) relation rank) count
      (rank_of (IsEdge rules) count within (edge_decided rules) acyclic) in
      inl (ranks, record { for_each = long; exact = each }, acyclic)
]

-- ---- the names of a cycle's relations

names_at : (schema : List Relation) (relations : List ℕ) → AllByRecursion (λ relation. relation < length (names_of schema)) relations
    → (names : List (List ℕ)) × AreNamesOf schema relations names
names_at schema [] below = ([], refl)
names_at schema (relation ∷ relations) below =
    let (name, at) = thing_at (names_of schema) relation below.0 in
    let (names, are) = names_at schema relations below.1 in
    (name ∷ names, λ i. sym at i ∷ are i)

pub cycle_names : (schema : List Relation) (rules : List Rule) (relations : List ℕ) → IsWithin (length schema) (IsEdge rules)
    → IsLeastCycle (IsEdge rules) relations → length (names_of schema) ≡ length schema → (names : List (List ℕ)) × AreNamesOf schema relations names
cycle_names schema rules relations within is same =
    names_at schema relations
    (subst (λ (n : ℕ). AllByRecursion (λ relation. relation < n) relations) (sym same)
    (recursion_from_All (λ relation. relation < length schema) relations (cycle_below (IsEdge rules) (length schema) within relations is)))
