-- The graph of relations of rules.
use Rattle.std.specs.Prelude.{◌≡◌, ℕ, List, Contains, [], ◌∷◌}
use Rattle.esto_term.specs.declared.term.Term.{Term}
use Rattle.esto_semantics.specs.Rules.{Rule, tuple, equality, denial}
use Rattle.esto_semantics.specs.declared.fact.Fact.{Fact}
use Rattle.std.specs.List.{flat_map}

-- Some atom is over the relation.
abbrev pub HasRelation : List (Fact Term) → ℕ → Type 0
HasRelation atoms relation = (atom : Fact Term) × Contains atoms atom × (atom.relation ≡ relation)

-- Some tuple rule has an atom over the first relation in its body, and one over the second in its head.
abbrev pub IsEdge : List Rule → ℕ → ℕ → Type 0
IsEdge rules from to =
    (body : List (Fact Term)) × (head : List (Fact Term)) × Contains rules (tuple body head) × HasRelation body from × HasRelation head to

-- The edges from a relation to those of the atoms.
abbrev pub edges_from : ℕ → List (Fact Term) → List (ℕ × ℕ)
edges_from relation head = flat_map (λ (atom : Fact Term). (relation, atom.relation) ∷ []) head

-- The edges from the relations of the body to those of the head.
abbrev pub edges_between : List (Fact Term) → List (Fact Term) → List (ℕ × ℕ)
edges_between body head = flat_map (λ (atom : Fact Term). edges_from atom.relation head) body

-- The edges that a rule gives.
abbrev pub edges_of_rule : Rule → List (ℕ × ℕ)
edges_of_rule (tuple body head) = edges_between body head
edges_of_rule (equality body left right) = []
edges_of_rule (denial body) = []

-- The edges that the rules give.
abbrev pub edges_of : List Rule → List (ℕ × ℕ)
edges_of rules = flat_map edges_of_rule rules
