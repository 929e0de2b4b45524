-- Queries, and when one is made.
use Rattle.std.specs.Prelude.{◌≡◌, ℕ, ◌<◌, ◌≤◌, List, Some, length, take, slice_get, Result, Ok, Err}
use Rattle.esto_term.specs.declared.term.Term.{Term}
use Rattle.esto_term.specs.declared.term.Term.TheVariants.{Plain}
use Rattle.esto_semantics.specs.Facts.{Mentions}
use Rattle.esto_semantics.specs.Queries.{ConjunctiveQuery}
use Rattle.esto_semantics.specs.WellFormed.{AreOver}
use Rattle.esto_semantics.specs.declared.fact.Fact.{Fact}
use Rattle.esto_query.specs.Soundness.{IsSafe}
use Rattle.esto_query.specs.declared.query.Name.{Name}
use Rattle.esto_query.specs.declared.query.Query.{Query}
use Rattle.esto_query.specs.declared.make.TheConstants.{MAX_ATOMS}
use Rattle.esto_query.specs.declared.make.QueryFault.{QueryFault}
use Rattle.esto_query.specs.declared.make.QueryFault.TheVariants.{Unsafe, Arity, TooLarge, OutOfMemory}

-- The query without its names.
abbrev pub query_of : Query → ConjunctiveQuery
query_of query = record { head = query.head; body = query.body }

-- The place is that of the first atom which has another number of terms than its relation has columns.
pub record IsFirstMisfit (schema : List ℕ) (body : List (Fact Term)) (place : ℕ) : Type 0 where
  pub atom : Fact Term
  pub there : slice_get body place ≡ Some atom
  pub misfit : ¬ (slice_get schema atom.relation ≡ Some (length atom.terms))
  pub before : AreOver schema (take place body)

-- The variable is the first of the head that is not in the body.
pub record IsFirstUnsafe (head : List Term) (body : List (Fact Term)) (variable : ℕ) : Type 0 where
  pub place : ℕ
  pub there : slice_get head place ≡ Some (Plain variable)
  pub missing : ¬ (Mentions body (Plain variable))
  pub before : IsSafe (take place head) body

-- What comes of making a query: the query, where each atom has the right number of terms, there are not too many atoms and the head is safe; else the first of
-- these that fails. Memory is never wanting.
abbrev pub MakesQuery : List ℕ → List Term → List (Fact Term) → List Name → Result Query QueryFault → Type 0
MakesQuery schema head body names (Ok query) =
    AreOver schema body × (length body ≤ MAX_ATOMS) × IsSafe head body × (query.head ≡ head) × (query.body ≡ body) × (query.names ≡ names)
MakesQuery schema head body names (Err (Arity place)) = IsFirstMisfit schema body place
MakesQuery schema head body names (Err (TooLarge atoms)) = AreOver schema body × (atoms ≡ length body) × (MAX_ATOMS < atoms)
MakesQuery schema head body names (Err (Unsafe variable)) =
    AreOver schema body × (length body ≤ MAX_ATOMS) × IsFirstUnsafe head body variable
MakesQuery schema head body names (Err OutOfMemory) = ⊥
