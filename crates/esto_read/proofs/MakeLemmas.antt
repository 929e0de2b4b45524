-- Queries and rules of parts in which nothing is wrong are made.
use Rattle.std.proofs.Common.{◌≡◌, ℕ, ◌<◌, ◌≤◌, ◌++◌, inl, inr, get_or, List, length, Ok, Err, sym, subst, ◌∙◌, arith}
use Rattle.std.specs.Prelude.{All, Contains}
use Rattle.std.proofs.lemmas.List.{length-map, get_or_default}
use Rattle.std.proofs.lemmas.List.Elements.{Contains-append_cases}
use Rattle.std.proofs.lemmas.Option.{slice_get_within}
use Rattle.esto_term.specs.declared.term.Term.{Term}
use Rattle.esto_term.specs.declared.term.Term.TheVariants.{Plain}
use Rattle.esto_term.proofs.ListLemmas.{Contains-at}
use Rattle.esto_semantics.specs.Facts.{Mentions}
use Rattle.esto_semantics.specs.Maps.{IsFixedBy}
use Rattle.esto_semantics.specs.WellFormed.{AreOver}
use Rattle.esto_semantics.specs.declared.fact.Fact.{Fact}
use Rattle.esto_query.specs.Making.{MakesQuery, IsFirstMisfit, IsFirstUnsafe}
use Rattle.esto_query.specs.Schemas.{arities_of}
use Rattle.esto_query.specs.Soundness.{IsSafe}
use Rattle.esto_query.specs.declared.make.TheConstants.{MAX_ATOMS}
use Rattle.esto_query.specs.declared.make.QueryFault.{QueryFault}
use Rattle.esto_query.specs.declared.make.QueryFault.TheVariants.{Unsafe, Arity, TooLarge, OutOfMemory}
use Rattle.esto_query.specs.declared.query.Name.{Name}
use Rattle.esto_query.specs.declared.query.Query.{Query}
use Rattle.esto_query.specs.declared.schema.Relation.{Relation}
use Rattle.esto_constraint.specs.Making.{MakesTuple, MakesEquality, MakesDenial}
use Rattle.esto_read.proofs.BelowLemmas.{const_no_plain}

-- ---- what the makers ask for

pub relations_within : (schema : List Relation) (atoms : List (Fact Term)) → AreOver (arities_of schema) atoms
    → All (λ (atom : Fact Term). atom.relation < length schema) atoms
relations_within schema atoms over k d lt =
    let inside : Contains atoms (get_or atoms k d) = (k, lt, get_or_default atoms k (get_or atoms k d) d lt) in
    let within = slice_get_within (arities_of schema) (get_or atoms k d).relation (length (get_or atoms k d).terms) (over (get_or atoms k d) inside) in
    omega (arith, within, length-map schema (λ relation. relation.arity))

-- ---- what is never wrong

no_misfit : (schema : List ℕ) (atoms : List (Fact Term)) (place : ℕ) → AreOver schema atoms → IsFirstMisfit schema atoms place → ⊥
no_misfit schema atoms place over first = first.misfit (over first.atom (Contains-at atoms place first.atom first.there))

no_unsafe : (head : List Term) (body : List (Fact Term)) (variable : ℕ) → IsSafe head body → IsFirstUnsafe head body variable → ⊥
no_unsafe head body variable safe first = elim (safe (Plain variable) (Contains-at head first.place (Plain variable) first.there)) [
  | inl constant ↦ const_no_plain constant.0 variable (sym constant.1)
  | inr mentioned ↦ first.missing mentioned
]

pub query_is_made : (schema : List ℕ) (head : List Term) (body : List (Fact Term)) (names : List Name) (fault : QueryFault) → IsSafe head body
    → AreOver schema body
    → length body ≤ MAX_ATOMS → MakesQuery schema head body names (Err fault) → ⊥
query_is_made schema head body names (Arity place) safe over size made = no_misfit schema body place over made
query_is_made schema head body names (TooLarge atoms) safe over size made = omega (arith, made.1, made.2)
query_is_made schema head body names (Unsafe variable) safe over size made = no_unsafe head body variable safe made.2
query_is_made schema head body names OutOfMemory safe over size made = made

pub tuple_is_made : (schema : List ℕ) (body head : List (Fact Term)) (names : List Name) (fault : QueryFault) → AreOver schema body → AreOver schema head
    → length body ≤ MAX_ATOMS → length head ≤ MAX_ATOMS → MakesTuple schema body head names (Err fault) → ⊥
tuple_is_made schema body head names (Arity place) over head_over size head_size made = no_misfit schema (body ++ head) place both made
  where
    both : AreOver schema (body ++ head)
    both fact inside = elim (Contains-append_cases body head fact inside) [ inl in_body ↦ over fact in_body | inr in_head ↦ head_over fact in_head ]
tuple_is_made schema body head names (TooLarge atoms) over head_over size head_size made = elim made.1.1 [
  | inl is ↦ omega (arith, is, made.1.0)
  | inr both ↦ omega (arith, both.1, made.1.0)
]
tuple_is_made schema body head names (Unsafe variable) over head_over size head_size made = made
tuple_is_made schema body head names OutOfMemory over head_over size head_size made = omega (arith, made)

pub equality_is_made : (schema : List ℕ) (body : List (Fact Term)) (left right : Term) (names : List Name) (fault : QueryFault) → IsFixedBy body left
    → IsFixedBy body right
    → AreOver schema body → length body ≤ MAX_ATOMS → MakesEquality schema body left right names (Err fault) → ⊥
equality_is_made schema body left right names (Arity place) one other over size made = no_misfit schema body place over made
equality_is_made schema body left right names (TooLarge atoms) one other over size made = omega (arith, made.1, made.2)
equality_is_made schema body left right names (Unsafe variable) one other over size made = elim made.2.1 [
  | inl is ↦ missing left is one
  | inr both ↦ missing right both.1 other
]
  where
    missing : (side : Term) → side ≡ Plain variable → IsFixedBy body side → ⊥
    missing side is (inl constant) = const_no_plain constant.0 variable (sym constant.1 ∙ is)
    missing side is (inr mentioned) = made.2.0 (subst (Mentions body) is mentioned)
equality_is_made schema body left right names OutOfMemory one other over size made = made

pub denial_is_made : (schema : List ℕ) (body : List (Fact Term)) (names : List Name) (fault : QueryFault) → AreOver schema body → length body ≤ MAX_ATOMS
    → MakesDenial schema body names (Err fault) → ⊥
denial_is_made schema body names (Arity place) over size made = no_misfit schema body place over made
denial_is_made schema body names (TooLarge atoms) over size made = omega (arith, made.1, made.2)
denial_is_made schema body names (Unsafe variable) over size made = made
denial_is_made schema body names OutOfMemory over size made = made

-- ---- what holds of the parts holds of the query

pub query_along : (schema : List ℕ) (head : List Term) (body : List (Fact Term)) (names : List Name) (query : Query) (P : List Term → List (Fact Term)
    → List Name → Type 0)
    → MakesQuery schema head body names (Ok query) → P head body names → P query.head query.body query.names
query_along schema head body names query P made p =
    subst (λ (l : List Name). P query.head query.body l) (sym made.5)
    (subst (λ (l : List (Fact Term)). P query.head l names) (sym made.4) (subst (λ (l : List Term). P l body names) (sym made.3) p))
