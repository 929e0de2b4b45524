-- The list of the edges that rules give has each of them, and no other.
use Rattle.std.proofs.Common.{◌≡◌, ◌↔◌, ◌⊎◌, ℕ, List, [], ◌∷◌, Contains, refl, ap, subst, inl, inr}
use Rattle.esto_term.specs.declared.term.Term.{Term}
use Rattle.esto_semantics.specs.Rules.{Rule, tuple, equality, denial}
use Rattle.esto_semantics.specs.declared.fact.Fact.{Fact}
use Rattle.esto_constraint.specs.Graphs.{Joins}
use Rattle.esto_constraint.specs.Relations.{edges_from, edges_of_rule, edges_of, HasRelation, IsEdge}
use Rattle.esto_term.proofs.ListLemmas.{Contains-cases, Contains-flat, Contains-flat_from, Contains-head, Contains-nil}

abbrev edge_of : ℕ → ℕ → ℕ × ℕ
edge_of from to = (from, to)

edges_from-is : (relation : ℕ) (head : List (Fact Term)) (from to : ℕ) → Contains (edges_from relation head) (edge_of from to)
    → (relation ≡ from) × HasRelation head to
edges_from-is relation head from to inside =
    let found = Contains-flat_from (λ (atom : Fact Term). edge_of relation atom.relation ∷ []) head (edge_of from to) inside in
    by found.0 found.1 (Contains-cases (edge_of relation found.0.relation) [] (edge_of from to) found.2)
  where
    by : (atom : Fact Term) → Contains head atom → (edge_of relation atom.relation ≡ edge_of from to) ⊎ Contains [] (edge_of from to)
        → (relation ≡ from) × HasRelation head to
    by atom at (inl same) = (ap (λ (edge : ℕ × ℕ). edge.0) same, (atom, at, ap (λ (edge : ℕ × ℕ). edge.1) same))
    by atom at (inr none) = absurd (Contains-nil (edge_of from to) none)

edges_from-has : (relation : ℕ) (head : List (Fact Term)) (to : ℕ) → HasRelation head to → Contains (edges_from relation head) (edge_of relation to)
edges_from-has relation head to (atom, at, is) =
    Contains-flat (λ (other : Fact Term). edge_of relation other.relation ∷ []) head atom (edge_of relation to) at
    (subst (λ end. Contains (edge_of relation atom.relation ∷ []) (edge_of relation end)) is (Contains-head (edge_of relation atom.relation) []))

rule_joins : (rule : Rule) (from to : ℕ) → Contains (edges_of_rule rule) (edge_of from to)
    → (body : List (Fact Term)) × (head : List (Fact Term)) × (rule ≡ tuple body head) × HasRelation body from × HasRelation head to
rule_joins (tuple body head) from to inside =
    let found = Contains-flat_from (λ (atom : Fact Term). edges_from atom.relation head) body (edge_of from to) inside in
    let ends = edges_from-is found.0.relation head from to found.2 in
    (body, head, refl, (found.0, found.1, ends.0), ends.1)
rule_joins (equality body left right) from to inside = absurd (Contains-nil (edge_of from to) inside)
rule_joins (denial body) from to inside = absurd (Contains-nil (edge_of from to) inside)

tuple_joins : (body head : List (Fact Term)) (from to : ℕ) → HasRelation body from → HasRelation head to
    → Contains (edges_of_rule (tuple body head)) (edge_of from to)
tuple_joins body head from to (atom, at, is) ends =
    Contains-flat (λ (other : Fact Term). edges_from other.relation head) body atom (edge_of from to) at
    (subst (λ start. Contains (edges_from atom.relation head) (edge_of start to)) is (edges_from-has atom.relation head to ends))

pub joins_edges : (rules : List Rule) (from to : ℕ) → Joins (edges_of rules) from to ↔ IsEdge rules from to
joins_edges rules from to = (
  λ joined.
      let found = Contains-flat_from edges_of_rule rules (edge_of from to) joined in
      let ends = rule_joins found.0 from to found.2 in
      (ends.0, ends.1, subst (Contains rules) ends.2 found.1, ends.3, ends.4),
  λ edge. Contains-flat edges_of_rule rules (tuple edge.0 edge.1) (edge_of from to) edge.2 (tuple_joins edge.0 edge.1 from to edge.3 edge.4),
)
