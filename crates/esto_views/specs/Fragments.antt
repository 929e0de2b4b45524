-- Fragments, and when they are well made.
use Rattle.std.specs.Prelude.{◌≡◌, ◌≢◌, ℕ, Bool, List, [], length, map, Contains, AllPairs}
use Rattle.esto_term.specs.declared.term.Term.{Term}
use Rattle.esto_semantics.specs.Maps.{IsVariable}
use Rattle.esto_semantics.specs.Queries.{ConjunctiveQuery}
use Rattle.esto_query.specs.Making.{query_of}
use Rattle.esto_views.specs.declared.fragments.FragmentDef.{FragmentDef}
use Rattle.esto_semantics.specs.Access.{Patterns}

-- The views of the fragments, in order.
abbrev pub views_of : List FragmentDef → List ConjunctiveQuery
views_of fragments = map (λ fragment. query_of fragment.view) fragments

-- The binding patterns, fragment by fragment.
abbrev pub patterns_of : List FragmentDef → Patterns
patterns_of fragments = map (λ fragment. fragment.access) fragments

-- What one use of each fragment weighs.
abbrev pub weights_of : List FragmentDef → List ℕ
weights_of fragments = map (λ fragment. fragment.weight) fragments

-- A fragment is well made: the head of its view is of distinct variables, and it has one or more patterns, each of which says of as many columns whether they
-- are inputs.
pub record IsFragment (fragment : FragmentDef) : Type 0 where
  pub has_pattern : fragment.access ≢ []
  pub variables : (term : Term) → Contains fragment.view.head term → IsVariable term
  pub distinct : AllPairs ◌≢◌ fragment.view.head
  pub columns : (pattern : List Bool) → Contains fragment.access pattern → length pattern ≡ length fragment.view.head

-- Each of the fragments is well made.
abbrev pub AreFragments : List FragmentDef → Type 0
AreFragments fragments = (fragment : FragmentDef) → Contains fragments fragment → IsFragment fragment
