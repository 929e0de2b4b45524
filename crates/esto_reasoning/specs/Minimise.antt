-- What `minimise` says of a query.
use Rattle.std.specs.Prelude.{◌≡◌, ℕ, Bool, List}
use Rattle.esto_mapping.specs.declared.catalogue.Catalogue.{Catalogue}
use Rattle.esto_chase.specs.Chased.{RunClashes}
use Rattle.esto_chase_laws.specs.Runs.{start_of}
use Rattle.esto_chase_laws.specs.declared.clash.Clash.{Clash}
use Rattle.esto_constraint.specs.Constraints.{rules_of}
use Rattle.esto_contain.specs.Minimised.{instance_of, IsMinimised}
use Rattle.esto_contain.specs.declared.minimising.Minimal.{Minimal}
use Rattle.esto_course.specs.Course.{Course, judges, and_then}
use Rattle.esto_status.specs.declared.status.Status.{Status}
use Rattle.esto_status.specs.declared.status.Status.TheVariants.{Unsatisfiable}
use Rattle.esto_query.specs.Making.{query_of}
use Rattle.esto_query.specs.Schemas.{names_of}
use Rattle.esto_query.specs.declared.query.Query.{Query}
use Rattle.esto_semantics.specs.Listed.{IsEquivalentPart}
use Rattle.esto_semantics.specs.Queries.{ConjunctiveQuery}
use Rattle.esto_semantics.specs.Rules.{Rule}
use Rattle.esto_term.specs.Sets.{AreListedBy}
use Rattle.esto_reasoning.specs.Texts.{minimal_text}

-- The text is that of the last facts of the query's run, with its head, and of exactly the minimal sets of these facts that are equivalent to the query, in
-- the order of a list, each once.
pub record IsMinimalText (rules : List Rule) (relations : List (List ℕ)) (query : ConjunctiveQuery) (minimal : Minimal) (text : List ℕ) : Type 0 where
  pub sets : List (List Bool)
  pub are_listed : AreListedBy (IsEquivalentPart rules query (instance_of minimal)) sets
  pub is : text ≡ minimal_text relations minimal.names minimal.facts minimal.head sets

-- The query has minimal equivalent parts.
abbrev pub IsMinimisedTo : Catalogue → Query → Minimal → Type 0
IsMinimisedTo catalogue query = IsMinimised (rules_of catalogue.rules) query.names (query_of query)

-- The query is minimised, or its run ends with a clash.
abbrev pub minimises_query : Catalogue → Query → Course Status Minimal
minimises_query catalogue query =
    judges (IsMinimisedTo catalogue query) (λ refusal. (clash : Clash)
    × RunClashes (rules_of catalogue.rules) (start_of (query_of query)) clash × (refusal ≡ Unsatisfiable clash))

-- The text of what it is minimised to is made.
abbrev pub prints_minimal : Catalogue → Query → Minimal → Course Status (List ℕ)
prints_minimal catalogue query minimal = judges (IsMinimalText (rules_of catalogue.rules) (names_of catalogue.schema) (query_of query) minimal) (λ _. ⊥)

-- The query is minimised, and the text is made.
abbrev pub minimises : Catalogue → Query → Course Status (List ℕ)
minimises catalogue query = and_then (minimises_query catalogue query) (prints_minimal catalogue query)
