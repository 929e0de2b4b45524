-- Words: what a name and a part stand for.
use Rattle.std.proofs.Common.{◌≡◌, ◌≢◌, ℕ, zero, suc, ◌+◌, ◌<◌, inl, inr, eqb, cond, get_or, List, [], ◌∷◌, length, Option, Some, None, refl, sym, ap, subst}
use Rattle.std.proofs.Common.{◌∙◌, arith}
use Rattle.std.specs.Prelude.{Contains, All, AllPairs, MatchOption, codes, map, slice_get}
use Rattle.std.proofs.Math.ListN.{get_or-map}
use Rattle.std.proofs.lemmas.Bool.{cases_lt}
use Rattle.std.proofs.lemmas.List.{length-map}
use Rattle.std.proofs.lemmas.Option.{same_Some, none-some, slice_get_within, slice_get-get_or, get_or_from_slice_get}
use Rattle.esto_query.specs.Schemas.{arities_of, IsSchema}
use Rattle.esto_query.specs.declared.schema.Relation.{Relation}
use Rattle.esto_query.specs.declared.schema.TheConstants.{MAX_RELATIONS}
use Rattle.esto_text.specs.Tokens.{text_of}
use Rattle.esto_text.specs.Trees.{ItemTree, Atom, Part, Pattern}
use Rattle.esto_read.specs.Items.{IsRelationOf}
use Rattle.esto_docmodel.specs.Words.{IsBaseOf, IsPart, HasRelations}
use Rattle.esto_docmodel.specs.declared.words.DataModel.{DataModel}
use Rattle.esto_docmodel.specs.declared.words.DataModel.TheVariants.{Table, Documents, Keys}
use Rattle.esto_docmodel.specs.declared.words.Word.{Word}

-- ---- parts

-- the parts of documents begin with letters of their own
abbrev place_by : ℕ → ℕ
place_by letter = cond (eqb letter 114) 0 (cond (eqb letter 102) 1 (cond (eqb letter 105) 2 (cond (eqb letter 118) 3 4)))

begins : (word part : List ℕ) → Some word ≡ Some part → place_by (get_or part 0 0) ≡ place_by (get_or word 0 0)
begins word part e = let same : word ≡ part = cc in ap (λ (text : List ℕ). place_by (get_or text 0 0)) (sym same)

document_place : (part : List ℕ) (place : ℕ) → IsPart Documents part place → place_by (get_or part 0 0) ≡ place
document_place part zero e = begins (codes "root") part e
document_place part (suc zero) e = begins (codes "field") part e
document_place part (suc (suc zero)) e = begins (codes "item") part e
document_place part (suc (suc (suc zero))) e = begins (codes "value") part e
document_place part (suc (suc (suc (suc zero)))) e = begins (codes "below") part e
document_place part (suc (suc (suc (suc (suc place))))) e = absurd cc

-- what is none of their names names no part
pub no_document_part : (part : List ℕ) → part ≢ codes "root" → part ≢ codes "field" → part ≢ codes "item" → part ≢ codes "value" → part ≢ codes "below"
    → (place : ℕ) → ¬ (IsPart Documents part place)
no_document_part part root field item value below zero is = root (sym (same_Some _ _ is))
no_document_part part root field item value below (suc zero) is = field (sym (same_Some _ _ is))
no_document_part part root field item value below (suc (suc zero)) is = item (sym (same_Some _ _ is))
no_document_part part root field item value below (suc (suc (suc zero))) is = value (sym (same_Some _ _ is))
no_document_part part root field item value below (suc (suc (suc (suc zero)))) is = below (sym (same_Some _ _ is))
no_document_part part root field item value below (suc (suc (suc (suc (suc place))))) is = none-some part is

pub no_key_part : (part : List ℕ) → part ≢ codes "pair" → (place : ℕ) → ¬ IsPart Keys part place
no_key_part part pair zero is = pair (sym (same_Some _ _ is))
no_key_part part pair (suc place) is = none-some part is

pub part_place : (model : DataModel) (part : List ℕ) (place other : ℕ) → IsPart model part place → IsPart model part other → place ≡ other
part_place Table part place other h g = absurd h
part_place Documents part place other h g = sym (document_place part place h) ∙ document_place part other g
part_place Keys part zero zero h g = refl
part_place Keys part zero (suc other) h g = absurd cc
part_place Keys part (suc place) other h g = absurd cc

-- a dataset with parts has its relations in the schema
pub part_inside : (schema : List ℕ) (model : DataModel) (base : ℕ) (part : List ℕ) (place : ℕ) → HasRelations schema model base → IsPart model part place
    → (columns : ℕ) × (slice_get schema (base + place) ≡ Some columns)
part_inside schema Table base part place has h = absurd h
part_inside schema Documents base part zero has h = let here : base + 0 ≡ base = omega arith in rw here (1, has.0)
part_inside schema Documents base part (suc zero) has h = (3, has.1)
part_inside schema Documents base part (suc (suc zero)) has h = (2, has.2)
part_inside schema Documents base part (suc (suc (suc zero))) has h = (2, has.3)
part_inside schema Documents base part (suc (suc (suc (suc zero)))) has h = (2, has.4)
part_inside schema Documents base part (suc (suc (suc (suc (suc place))))) has h = absurd cc
part_inside schema Keys base part zero has h = let here : base + 0 ≡ base = omega arith in rw here (3, has)
part_inside schema Keys base part (suc place) has h = absurd cc

pub base_inside : (schema : List ℕ) (model : DataModel) (base : ℕ) → HasRelations schema model base → base < length schema
base_inside schema Table base has = has
base_inside schema Documents base has = slice_get_within schema base 1 has.0
base_inside schema Keys base has = slice_get_within schema base 3 has

pub part_small : (model : DataModel) (part : List ℕ) (place : ℕ) → IsPart model part place → place < 5
part_small Table part place h = absurd h
part_small Documents part place h =
    slice_get_within (codes "root" ∷ codes "field" ∷ codes "item" ∷ codes "value" ∷ codes "below" ∷ []) place part h
part_small Keys part place h = let within = slice_get_within (codes "pair" ∷ []) place part h in omega (arith, within)

-- ---- words

-- what holds of each word holds of the one that is named
pub of_each : (P : Word → Type 0) (words : List Word) → All P words → (word : Word) → Contains words word → P word
of_each P words all word (k, within, at) = subst P at (all k word within)

pub bases : (schema : List Relation) (words : List Word) → IsSchema schema
    → All (λ word. HasRelations (arities_of schema) word.model word.base) words → All (λ word. word.base < MAX_RELATIONS) words
bases schema words sound relations k d within =
    let inside = base_inside (arities_of schema) (get_or words k d).model (get_or words k d).base (relations k d within) in
    omega (arith, inside, length-map schema (λ relation. relation.arity), sound.room)

module _ (words : List Word) (schema : List ℕ) (relations : All (λ word. HasRelations schema word.model word.base) words) where
  -- what is named has its relations
  pub base_has : (name : List ℕ) (model : DataModel) (base : ℕ) → IsBaseOf words name model base → HasRelations schema model base
  base_has name model base (word, inside, n, m, b) =
      subst (HasRelations schema model) b
      (subst (λ (model : DataModel). HasRelations schema model word.base) m
      (of_each (λ word. HasRelations schema word.model word.base) words relations word inside))

  pub relation_inside : (bytes : List ℕ) (item : ItemTree) (relation : ℕ) → IsRelationOf words bytes item relation → relation < length schema
  relation_inside bytes (Atom name terms) relation h = base_inside schema Table relation (base_has (text_of bytes name) Table relation h)
  relation_inside bytes (Part name part terms) relation (model, base, place, h, g, e) =
      let found = part_inside schema model base (text_of bytes part) place (base_has (text_of bytes name) model base h) g in
      subst (λ (at : ℕ). at < length schema) (sym e) (slice_get_within schema (base + place) found.0 found.1)
  relation_inside bytes (Pattern name entries) relation h = base_inside schema Documents relation (base_has (text_of bytes name) Documents relation h)

-- the answer of a search for a relation is one of the schema
pub found_inside : (schema : List Relation) (words : List Word) → All (λ word. HasRelations (arities_of schema) word.model word.base) words
    → (bytes : List ℕ) (item : ItemTree) (found : Option ℕ)
    → MatchOption found ((relation : ℕ) → ¬ IsRelationOf words bytes item relation) (IsRelationOf words bytes item)
    → MatchOption found (Unit {0}) (λ relation. relation < length schema)
found_inside schema words relations bytes item None h = tt
found_inside schema words relations bytes item (Some relation) h =
    let inside = relation_inside words (arities_of schema) relations bytes item relation h in
    omega (arith, inside, length-map schema (λ relation. relation.arity))

-- ---- a name is one dataset's

module _ (words : List Word) (apart : AllPairs ◌≢◌ (map (λ word. word.name) words)) where
  differ : (i j : ℕ) (w v : Word) → i < j → j < length words → get_or words i w ≡ w → get_or words j v ≡ v → ¬ (w.name ≡ v.name)
  differ i j w v less lt at at' e =
      let one : slice_get words j ≡ Some v = slice_get-get_or words j v lt ∙ ap (λ (x : Word). Some x) at' in
      let here : get_or words j w ≡ v = get_or_from_slice_get words j v w one in
      apart i j w.name less (omega (arith, length-map words (λ (word : Word). word.name), lt))
      (get_or-map (λ word. word.name) words i w ∙ ap (λ (x : Word). x.name) at ∙ e
      ∙ sym (get_or-map (λ word. word.name) words j w ∙ ap (λ (x : Word). x.name) here))

  word_one : (w v : Word) → Contains words w → Contains words v → w.name ≡ v.name → w ≡ v
  word_one w v (i, lt, at) (j, lt', at') same =
      elim (cases_lt i j) [
        | inl less ↦ absurd (differ i j w v less lt' at at' same)
        | inr le ↦ elim (cases_lt j i) [
          | inl less ↦ absurd (differ j i v w less lt at' at (sym same))
          | inr ge ↦
              let k : i ≡ j = omega arith in
              let one : slice_get words i ≡ Some w = slice_get-get_or words i w lt ∙ ap (λ (x : Word). Some x) at in
              let two : slice_get words j ≡ Some v = slice_get-get_or words j v lt' ∙ ap (λ (x : Word). Some x) at' in
              let both : Some w ≡ Some v = sym one ∙ ap (slice_get words) k ∙ two in cc
        ]
      ]

  base_one : (name : List ℕ) (model model' : DataModel) (base base' : ℕ) → IsBaseOf words name model base → IsBaseOf words name model' base'
      → (model ≡ model') × (base ≡ base')
  base_one name model model' base base' (w, inside, n, m, b) (v, inside', n', m', b') =
      let same = word_one w v inside inside' (n ∙ sym n') in
      (sym m ∙ ap (λ (x : Word). x.model) same ∙ m', sym b ∙ ap (λ (x : Word). x.base) same ∙ b')

  pub relation_one : (bytes : List ℕ) (item : ItemTree) (relation other : ℕ) → IsRelationOf words bytes item relation
      → IsRelationOf words bytes item other → relation ≡ other
  relation_one bytes (Atom name terms) relation other h g = (base_one (text_of bytes name) Table Table relation other h g).1
  relation_one bytes (Part name part terms) relation other (model, base, place, h, p, e) (model', base', place', h', p', e') =
      let same = base_one (text_of bytes name) model model' base base' h h' in
      let places = part_place model' (text_of bytes part) place place'
      (subst (λ (model : DataModel). IsPart model (text_of bytes part) place) same.0 p) p' in
      omega (arith, e, e', same.1, places)
  relation_one bytes (Pattern name entries) relation other h g = (base_one (text_of bytes name) Documents Documents relation other h g).1
