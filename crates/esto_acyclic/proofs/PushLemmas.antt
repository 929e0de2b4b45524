-- Loops that put at the end what each item of a list gives.
use Rattle.std.proofs.Common.{◌≡◌, ℕ, ◌+◌, ◌<◌, List, [], ◌∷◌, ◌++◌, length, map, take, get_or, slice_get, Some, sym, ap, ◌∙◌, append_assoc}
use Rattle.std.specs.List.{flat_map}
use Rattle.std.proofs.lemmas.List.{append-nil, take_more}
use Rattle.std.proofs.lemmas.List.Concat.{flat_map-append}
use Rattle.std.proofs.lemmas.List.{map-append}
use Rattle.esto_term.proofs.PlaceLemmas.{take-item}
use Rattle.esto_query.specs.Schemas.{names_of}
use Rattle.esto_query.specs.declared.schema.Relation.{Relation}
use Rattle.esto_acyclic.specs.Relations.{AreNamesOf}

-- what the first few items give, and the one that is read, is what one item more give
pub flat_more : {X Y : Type 0} (parts : X → List Y) (things : List X) (place : ℕ) (thing : X) → place < length things → thing ≡ get_or things place thing
    → flat_map parts (take place things) ++ parts thing ≡ flat_map parts (take (place + 1) things)
flat_more parts things place thing within is =
    ap (λ more. flat_map parts (take place things) ++ more) (sym (append-nil (parts thing)))
    ∙ sym (flat_map-append parts (take place things) (thing ∷ []))
    ∙ ap (flat_map parts) (sym (take-item things place thing within is))

-- the same behind a list
pub flat_behind : {X Y : Type 0} (parts : X → List Y) (things : List X) (place : ℕ) (thing : X) → place < length things → thing ≡ get_or things place thing
    → (old now new : List Y) → now ≡ old ++ flat_map parts (take place things) → new ≡ now ++ parts thing
    → new ≡ old ++ flat_map parts (take (place + 1) things)
flat_behind parts things place thing within is old now new so_far grows =
    grows ∙ ap (λ them. them ++ parts thing) so_far ∙ append_assoc old (flat_map parts (take place things)) (parts thing)
    ∙ ap (λ them. old ++ them) (flat_more parts things place thing within is)

-- the same of the images of the items, where the list was empty
pub flat_images : {X Y Z : Type 0} (m : X → Y) (parts : Y → List Z) (things : List X) (place : ℕ) (thing : X) → place < length things
    → thing ≡ get_or things place thing → (now new : List Z) → now ≡ flat_map parts (map m (take place things)) → new ≡ now ++ parts (m thing)
    → new ≡ flat_map parts (map m (take (place + 1) things))
flat_images m parts things place thing within is now new so_far grows =
    grows ∙ ap (λ them. them ++ parts (m thing)) so_far
    ∙ ap (λ more. flat_map parts (map m (take place things)) ++ more) (sym (append-nil (parts (m thing))))
    ∙ sym (flat_map-append parts (map m (take place things)) (m thing ∷ []))
    ∙ ap (flat_map parts) (sym (ap (map m) (take-item things place thing within is) ∙ map-append m (take place things) (thing ∷ [])))

-- the schema's names of the relations so far, and of one more
pub names_more : (schema : List Relation) (relations : List ℕ) (place : ℕ) (name : List ℕ) (names new : List (List ℕ)) → place < length relations
    → slice_get (names_of schema) (get_or relations place 0) ≡ Some name → AreNamesOf schema (take place relations) names → new ≡ names ++ name ∷ []
    → AreNamesOf schema (take (place + 1) relations) new
names_more schema relations place name names new within found so_far is =
    ap (map Some) is ∙ map-append Some names (name ∷ []) ∙ (λ i. so_far i ++ sym found i ∷ [])
    ∙ sym (ap (map (slice_get (names_of schema))) (take_more relations place 0 within)
    ∙ map-append (slice_get (names_of schema)) (take place relations) (get_or relations place 0 ∷ []))
