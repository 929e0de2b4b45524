-- The binding patterns and the weight of a fragment.
use Rattle.std.proofs.Common.{◌≡◌, ◌≢◌, ◌<◌, ◌≤◌, ◌+◌, ℕ, ℤ, pos, Bool, true, false, List, [], ◌∷◌, ◌++◌, map, take, length, get_or, Option, Some, None, inl}
use Rattle.std.proofs.Common.{inr, refl, sym, ap, subst, ◌∙◌, arith}
use Rattle.std.specs.Prelude.{AllPairs, Contains}
use Rattle.std.proofs.Math.ListN.{get_or-map}
use Rattle.std.proofs.lemmas.List.{length-map, map-append, take_more}
use Rattle.std.proofs.lemmas.List.Elements.{Contains-push_cases}
use Rattle.std.proofs.lemmas.List.FromFn.{length-map-range_with_len, map-range_with_len_more}
use Rattle.esto_course.specs.Course.{judges, gives, refuses}
use Rattle.esto_term.proofs.ListLemmas.{Contains-cases, Contains-map_from, Contains-nil, map_one}
use Rattle.esto_docmodel.specs.declared.words.DataModel.{DataModel}
use Rattle.esto_catalog.specs.Access.{is_usual_input, letter_of, usual_pattern, written_pattern, IsPattern, ArePatterns, IsWeight, allows_access, allows_weight}
use Rattle.esto_mapping.specs.declared.catalogue.TheConstants.{MAX_PATTERNS, MAX_WEIGHT}
use Rattle.esto_catalog.specs.declared.fault.Place.{Place}
use Rattle.esto_settings.specs.declared.setting.Setting.{Setting}
use Rattle.esto_settings.specs.declared.setting.Setting.TheVariants.{Text, Integer, Texts, Other}

-- ---- a text is that of at most one pattern

letter_one : (input other : Bool) → letter_of input ≡ letter_of other → input ≡ other
letter_one true true same = refl
letter_one true false same = absurd (omega (arith, same))
letter_one false true same = absurd (omega (arith, same))
letter_one false false same = refl

pattern_one : (pattern other : List Bool) → written_pattern pattern ≡ written_pattern other → pattern ≡ other
pattern_one = map_one letter_of letter_one

pub patterns_one : (columns : ℕ) (texts : List (List ℕ)) (patterns others : List (List Bool)) → ArePatterns columns texts patterns
    → ArePatterns columns texts others → patterns ≡ others
patterns_one columns texts patterns others are are' = map_one written_pattern pattern_one patterns others (sym are.written ∙ are'.written)

-- ---- what the patterns of a fragment keep

-- There is one, no more than a fragment may have, no two are the same, and each has so many columns.
pub record AreSoundPatterns (columns : ℕ) (patterns : List (List Bool)) : Type 0 where
  pub some : patterns ≢ []
  pub few : length patterns ≤ MAX_PATTERNS
  pub distinct : AllPairs ◌≢◌ patterns
  pub wide : (pattern : List Bool) → Contains patterns pattern → length pattern ≡ columns

pairs_before : {A B : Type 0} (f : A → B) (xs : List A) → AllPairs ◌≢◌ (map f xs) → AllPairs ◌≢◌ xs
pairs_before f xs pairs i j d before below same =
    pairs i j (f d) before (omega (arith, below, length-map xs f)) (get_or-map f xs i d ∙ ap f same ∙ sym (get_or-map f xs j d))

written_sound : (columns : ℕ) (texts : List (List ℕ)) (patterns : List (List Bool)) → ArePatterns columns texts patterns → AreSoundPatterns columns patterns
written_sound columns texts patterns are =
    let long : length texts ≡ length patterns = ap length are.written ∙ length-map patterns written_pattern in
    record {
      some = λ none. omega (arith, are.some, long, ap length none);
      few = omega (arith, are.few, long);
      distinct = pairs_before written_pattern patterns (subst (AllPairs ◌≢◌) are.written are.distinct);
      wide = are.wide;
    }

-- one column more
pub usual_more : (model : DataModel) (column : ℕ) (pattern : List Bool) (input : Bool) → pattern ≡ usual_pattern model column
    → input ≡ is_usual_input model column → pattern ++ input ∷ [] ≡ usual_pattern model (column + 1)
usual_more model column pattern input so_far is =
    let first : 0 + column ≡ column = omega arith in
    (λ i. so_far i ++ is i ∷ []) ∙ sym (map-range_with_len_more (is_usual_input model) 0 column column first)

usual_sound : (model : DataModel) (columns : ℕ) → AreSoundPatterns columns (usual_pattern model columns ∷ [])
usual_sound model columns = record {
  some = λ none. cc;
  few = omega arith;
  distinct = λ i j d before below same. omega (arith, before, below);
  wide = λ pattern own. elim (Contains-cases (usual_pattern model columns) [] pattern own) [
    | inl same ↦ ap length (sym same) ∙ length-map-range_with_len (is_usual_input model) 0 columns
    | inr later ↦ absurd (Contains-nil pattern later)
  ];
}

pub access_sound : (place : Place) (model : DataModel) (columns : ℕ) (setting : Option Setting) (patterns : List (List Bool))
    → (allows_access place model columns setting).goes patterns
    → AreSoundPatterns columns patterns
unfolding judges gives refuses
access_sound place model columns None patterns goes = subst (AreSoundPatterns columns) (sym goes) (usual_sound model columns)
access_sound place model columns (Some (Text text)) patterns goes = written_sound columns (text ∷ []) patterns goes
access_sound place model columns (Some (Texts texts)) patterns goes = written_sound columns texts patterns goes
access_sound place model columns (Some (Integer number)) patterns goes = absurd goes
access_sound place model columns (Some Other) patterns goes = absurd goes

pub weight_light : (place : Place) (setting : Option Setting) (weight : ℕ) → (allows_weight place setting).goes weight → weight ≤ MAX_WEIGHT
unfolding judges gives refuses
weight_light place None weight goes = omega (arith, goes)
weight_light place (Some (Integer number)) weight goes = goes.1
weight_light place (Some (Text text)) weight goes = absurd goes
weight_light place (Some (Texts texts)) weight goes = absurd goes
weight_light place (Some Other) weight goes = absurd goes

pub weight_one : (number : ℤ) (weight other : ℕ) → IsWeight number weight → IsWeight number other → weight ≡ other
weight_one number weight other is is' = let same : pos weight ≡ pos other = sym is.0 ∙ is'.0 in cc

-- ---- a loop over letters, and one over texts

-- a text with a letter of no column is that of no pattern
pub no_pattern : (columns : ℕ) (text : List ℕ) (letter : ℕ) → Contains text letter → ((input : Bool) → letter ≢ letter_of input)
    → (pattern : List Bool) → ¬ IsPattern columns text pattern
no_pattern columns text letter inside none pattern (is, wide) =
    let (input, there, same) = Contains-map_from letter_of pattern letter (subst (λ (l : List ℕ). Contains l letter) is inside) in
    none input (sym same)

-- texts with one that is that of no pattern are those of no patterns
pub no_patterns : (columns : ℕ) (texts : List (List ℕ)) (text : List ℕ) → Contains texts text → ((pattern : List Bool) → ¬ IsPattern columns text pattern)
    → (patterns : List (List Bool)) → ¬ ArePatterns columns texts patterns
no_patterns columns texts text inside none patterns are =
    let (pattern, there, same) = Contains-map_from written_pattern patterns text (subst (λ (l : List (List ℕ)). Contains l text) are.written inside) in
    none pattern (sym same, are.wide pattern there)

pub wide_more : (columns : ℕ) (patterns : List (List Bool)) (pattern : List Bool) → ((other : List Bool) → Contains patterns other → length other ≡ columns)
    → length pattern ≡ columns → (other : List Bool) → Contains (patterns ++ pattern ∷ []) other → length other ≡ columns
wide_more columns patterns pattern wide last other inside = elim (Contains-push_cases patterns pattern other inside) [
  | inl before ↦ wide other before
  | inr same ↦ ap length (sym same) ∙ last
]

-- one text more, which is that of one pattern more
pub written_more : (texts : List (List ℕ)) (patterns : List (List Bool)) (index : ℕ) (text : List ℕ) (pattern : List Bool) → index < length texts
    → text ≡ get_or texts index text → take index texts ≡ map written_pattern patterns → text ≡ written_pattern pattern
    → take (index + 1) texts ≡ map written_pattern (patterns ++ pattern ∷ [])
written_more texts patterns index text pattern below is so_far written =
    let more : take (index + 1) texts ≡ take index texts ++ get_or texts index text ∷ [] = take_more texts index text below in
    let last : get_or texts index text ≡ written_pattern pattern = sym is ∙ written in
    more ∙ ap (λ (l : List (List ℕ)). l ++ get_or texts index text ∷ []) so_far
    ∙ ap (λ (l : List ℕ). map written_pattern patterns ++ l ∷ []) last ∙ sym (map-append written_pattern patterns (pattern ∷ []))
