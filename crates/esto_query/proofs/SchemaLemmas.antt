-- Schemas: looking a name up, and adding a relation.
use Rattle.std.proofs.Common.{◌≡◌, ◌≢◌, ℕ, ◌<◌, List, [], ◌∷◌, ◌++◌, length, get_or, All, Contains, Option, Some, None, false, true, sym, ap, ◌∙◌, arith}
use Rattle.std.specs.List.{slice_get}
use Rattle.std.specs.Option.{option_map, is_some, MatchOption}
use Rattle.std.proofs.lemmas.Bool.{false≢true}
use Rattle.std.proofs.lemmas.List.{map_push, length_push, get_or_default}
use Rattle.std.proofs.lemmas.List.Elements.{All-push}
use Rattle.std.proofs.lemmas.List.Quantifiers.{all_pairs_push}
use Rattle.std.proofs.lemmas.Option.{slice_get-map, slice_get_within, get_or_from_slice_get}
use Rattle.esto_query.specs.Schemas.{names_of, arities_of, IsArity, IsSchema}
use Rattle.esto_query.specs.declared.schema.TheConstants.{MAX_RELATIONS}
use Rattle.esto_query.specs.declared.schema.Relation.{Relation}
use Rattle.esto_query.specs.declared.schema.SchemaError.TheVariants.{SameName, OutOfMemory}
use Rattle.esto_term.proofs.ListLemmas.{Contains-map_from}

pub name_missing : (schema : List Relation) (name : List ℕ) → ((relation : Relation) → Contains schema relation → relation.name ≢ name)
    → ¬ (Contains (names_of schema) name)
name_missing schema name apart inside =
    let found = Contains-map_from (λ (it : Relation). it.name) schema name inside in apart found.0 found.1 found.2

pub arity_range : (schema : List Relation) (number : ℕ) (relation : Relation) → slice_get schema number ≡ Some relation → All IsArity (arities_of schema)
    → IsArity relation.arity
arity_range schema number relation there all =
    let at : slice_get (arities_of schema) number ≡ Some relation.arity =
    slice_get-map (λ (it : Relation). it.arity) schema number ∙ ap (option_map (λ (it : Relation). it.arity)) there in
    let ranged = all number relation.arity (slice_get_within (arities_of schema) number relation.arity at) in
    rw (get_or_from_slice_get (arities_of schema) number relation.arity relation.arity at) at ranged

pub IsSchema-push : (schema new : List Relation) (relation : Relation) → new ≡ schema ++ relation ∷ [] → IsSchema schema
    → ¬ (Contains (names_of schema) relation.name) → IsArity relation.arity → length schema < MAX_RELATIONS → IsSchema new
IsSchema-push schema new relation grown old missing ranged room = rw grown (record {
  distinct =
      rw (map_push (λ (it : Relation). it.name) schema relation)
      (all_pairs_push ◌≢◌ (names_of schema) relation.name old.distinct (λ k d within same. missing (k, within, other k d within same)));
  arities = rw (map_push (λ (it : Relation). it.arity) schema relation) (All-push IsArity (arities_of schema) relation.arity old.arities ranged);
  room = omega (arith, length_push schema relation);
})
  where
    other : (k : ℕ) (d : List ℕ) → k < length (names_of schema) → get_or (names_of schema) k d ≡ relation.name
        → get_or (names_of schema) k relation.name ≡ relation.name
    other k d within same = get_or_default (names_of schema) k relation.name d within ∙ same

-- where a look-up answered nothing
pub none_found : {X : Type 0} (found : Option X) (P : Type 0) (Q : X → Type 0) → is_some found ≡ false → MatchOption found P Q → P
none_found None P Q e missing = missing
none_found (Some x) P Q e there = absurd (false≢true (sym e))

-- that a name is there is not that memory is wanting
pub same_name_told : SameName ≢ OutOfMemory
same_name_told same = cc

-- where it answered something
pub some_found : {X : Type 0} (found : Option X) (P : Type 0) (Q : X → Type 0) → is_some found ≡ true → MatchOption found P Q → (x : X) × Q x
some_found None P Q e missing = absurd (false≢true e)
some_found (Some x) P Q e there = (x, there)
