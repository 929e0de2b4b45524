-- A bound on the number of entries: the claims that may be made, each with each set of atoms.
use Rattle.std.specs.Prelude.{ℕ, List, [], ◌++◌, length, map, Bool}
use Rattle.std.specs.List.{flat_map}
use Rattle.esto_term.specs.Finite.{lists_within}
use Rattle.esto_term.specs.declared.term.Term.{Term}
use Rattle.esto_semantics.specs.Queries.{ConjunctiveQuery}
use Rattle.esto_semantics.specs.Rules.{Rule, tuple, equality, denial}
use Rattle.esto_term.specs.Sets.{all_sets}
use Rattle.esto_semantics.specs.declared.fact.Fact.{Fact}
use Rattle.esto_chase_laws.specs.Bounds.{width_of, run_terms}
use Rattle.esto_chase_laws.specs.declared.entry.Claim.{Claim}
use Rattle.esto_chase_laws.specs.declared.entry.Claim.TheVariants.{Fact as Stated, Same}

-- The facts as a start, without a head.
abbrev pub start_from : List (Fact Term) → ConjunctiveQuery
start_from facts = record { head = []; body = facts }

-- The relations of the atoms.
abbrev pub relations_of : List (Fact Term) → List ℕ
relations_of atoms = map (λ (atom : Fact Term). atom.relation) atoms

-- The relations of the atoms of a rule's head.
abbrev pub head_relations : Rule → List ℕ
head_relations (tuple body head) = relations_of head
head_relations (equality body left right) = []
head_relations (denial body) = []

-- The relations of the facts and of the rules' heads.
abbrev pub claimed_relations : List Rule → List (Fact Term) → List ℕ
claimed_relations rules facts = relations_of facts ++ flat_map head_relations rules

-- The facts of a relation over these terms, with a row no longer than the width.
abbrev pub rows_over : List Term → ℕ → ℕ → List Claim
rows_over terms width relation = map (λ (row : List Term). Stated (record { relation = relation; terms = row })) (lists_within terms width)

-- The equalities of these terms.
abbrev pub pairs_over : List Term → List Claim
pairs_over terms = flat_map (λ left. map (Same left) terms) terms

-- The claims that may be made from the facts by the rules, where made terms nest at most so deep.
abbrev pub most_claims : List Rule → List (Fact Term) → ℕ → List Claim
most_claims rules facts depth =
    flat_map (rows_over (run_terms rules (start_from facts) depth) (width_of rules (start_from facts))) (claimed_relations rules facts)
    ++ pairs_over (run_terms rules (start_from facts) depth)

-- The pairs of such a claim and a set of atoms of this count.
abbrev pub claimed_sets : List Rule → List (Fact Term) → ℕ → ℕ → List (Claim × List Bool)
claimed_sets rules facts depth count =
    flat_map (λ claim. map (λ (set : List Bool). (claim, set)) (all_sets count)) (most_claims rules facts depth)

-- The bound of the entries whose products have this count: no pair of a claim and a product comes twice.
abbrev pub most_entries : List Rule → List (Fact Term) → ℕ → ℕ → ℕ
most_entries rules facts depth count = length (claimed_sets rules facts depth count)
