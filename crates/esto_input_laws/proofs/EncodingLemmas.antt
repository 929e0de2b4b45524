-- The rules that the encodings of datasets bring are there.
use Rattle.std.proofs.Common.{◌≡◌, ℕ, zero, suc, ◌+◌, ◌<◌, Bool, true, List, [], ◌∷◌, ◌++◌, length, map, codes, slice_index_or, refl, sym}
use Rattle.std.proofs.Common.{subst, arith}
use Rattle.std.specs.Prelude.{nat_lt}
use Rattle.std.specs.List.{list_all, AllByRecursion}
use Rattle.std.proofs.lemmas.Bool.{ltb-true, and_parts}
use Rattle.std.proofs.lemmas.Option.{get_or_from_slice_get}
use Rattle.esto_constraint.proofs.EncodingLemmas.{sound_equality, sound_tuple, sound_denial}
use Rattle.esto_constraint.specs.Constraints.{rules_of}
use Rattle.esto_constraint.specs.EncodingRules.{letters, written}
use Rattle.esto_semantics.specs.DocumentRules.{atom}
use Rattle.esto_constraint.specs.declared.rule.Constraint.{Constraint}
use Rattle.esto_constraint.specs.declared.rule.Constraint.TheVariants.{Tuple, Equal, Never}
use Rattle.esto_query.specs.Schemas.{arities_of}
use Rattle.esto_query.specs.declared.query.Name.TheVariants.{Given}
use Rattle.esto_docmodel.specs.declared.words.DataModel.{DataModel}
use Rattle.esto_docmodel.specs.declared.words.DataModel.TheVariants.{Table, Documents, Keys}
use Rattle.esto_term.proofs.ListLemmas.{thing_at}
use Rattle.esto_term.specs.declared.term.Term.TheVariants.{Plain}
use Rattle.esto_text.specs.declared.version.Version.{Version}
use Rattle.esto_text.specs.declared.version.Version.TheVariants.{One, Two}
use Rattle.esto_catalog.proofs.EncodingLemmas.{AreRulesSoFar, rules_start, rules_goes, rules_end}
use Rattle.esto_catalog.specs.Rules.{AreAllRules, encoding_rules, encoding_names}
use Rattle.esto_catalog.specs.Scope.{IsScope}
use Rattle.esto_catalog.specs.Soundness.{AreSoundRules}
use Rattle.esto_catalog.specs.declared.scope.Scope.{Scope}

-- the variables are among those of so many letters
abbrev are_below : List ℕ → List ℕ → Bool
are_below text variables = list_all (λ v. nat_lt v (length text)) variables

below : (text variables : List ℕ) → are_below text variables ≡ true → AllByRecursion (λ v. v < length text) variables
below text [] told = tt
below text (v ∷ variables) told =
    let (first, rest) = and_parts (nat_lt v (length text)) (are_below text variables) told in
    (ltb-true v (length text) first, below text variables rest)

-- two atoms of one relation agree at a place
abbrev agree : (text : List ℕ) (relation place : ℕ) (first second : List ℕ) → place < length first → place < length second → are_below text first ≡ true
    → are_below text second ≡ true → Constraint
agree text relation place first second here there one other = Equal (record {
  body = atom relation first ∷ atom relation second ∷ [];
  left = Plain (slice_index_or first place 0);
  right = Plain (slice_index_or second place 0);
  names = letters text;
  sound = ∣ sound_equality (λ letter. Given (letter ∷ [])) text (letters text) refl relation place first second
      (atom relation first ∷ atom relation second ∷ []) refl here there (below text first one) (below text second other) ∣₁;
})

-- an atom asks for another
abbrev asks : (text : List ℕ) (relation other : ℕ) (from to : List ℕ) → are_below text from ≡ true → are_below text to ≡ true → Constraint
asks text relation other from to one two = Tuple (record {
  body = atom relation from ∷ [];
  head = atom other to ∷ [];
  names = letters text;
  sound = ∣ sound_tuple (λ letter. Given (letter ∷ [])) text (letters text) refl relation other from to (atom relation from ∷ []) (atom other to ∷ []) refl
      refl (below text from one) (below text to two) ∣₁;
})

-- two atoms never stand together
abbrev excludes : (text : List ℕ) (relation other : ℕ) (first second : List ℕ) → are_below text first ≡ true → are_below text second ≡ true → Constraint
excludes text relation other first second one two = Never (record {
  body = atom relation first ∷ atom other second ∷ [];
  names = letters text;
  sound = ∣ sound_denial (λ letter. Given (letter ∷ [])) text (letters text) refl relation other first second (atom relation first ∷ atom other second ∷ [])
      refl (below text first one) (below text second two) ∣₁;
})

abbrev documents : ℕ → List Constraint
documents base =
    agree (codes "nkmp") (base + 1) 2 (0 ∷ 1 ∷ 2 ∷ []) (0 ∷ 1 ∷ 3 ∷ []) (omega arith) (omega arith) refl refl
    ∷ agree (codes "nkmpl") (base + 1) 0 (0 ∷ 1 ∷ 2 ∷ []) (3 ∷ 4 ∷ 2 ∷ []) (omega arith) (omega arith) refl refl
    ∷ agree (codes "nkmpl") (base + 1) 1 (0 ∷ 1 ∷ 2 ∷ []) (3 ∷ 4 ∷ 2 ∷ []) (omega arith) (omega arith) refl refl
    ∷ agree (codes "nmp") (base + 2) 0 (0 ∷ 1 ∷ []) (2 ∷ 1 ∷ []) (omega arith) (omega arith) refl refl
    ∷ agree (codes "nvw") (base + 3) 1 (0 ∷ 1 ∷ []) (0 ∷ 2 ∷ []) (omega arith) (omega arith) refl refl
    ∷ asks (codes "nkm") (base + 1) (base + 4) (0 ∷ 1 ∷ 2 ∷ []) (0 ∷ 2 ∷ []) refl refl
    ∷ asks (codes "nm") (base + 2) (base + 4) (0 ∷ 1 ∷ []) (0 ∷ 1 ∷ []) refl refl
    ∷ []

encoding_of : (version : Version) (model : DataModel) (base : ℕ)
    → (more : List Constraint) × (rules_of more ≡ encoding_rules version model base) × (map written more ≡ encoding_names version model)
encoding_of version Table base = ([], refl, refl)
encoding_of One Documents base = (documents base, refl, refl)
encoding_of Two Documents base =
    (documents base ++ excludes (codes "nm") (base + 0) (base + 4) (0 ∷ []) (1 ∷ 0 ∷ []) refl refl ∷ [], refl, refl)
encoding_of version Keys base =
    (agree (codes "kfvw") base 2 (0 ∷ 1 ∷ 2 ∷ []) (0 ∷ 1 ∷ 3 ∷ []) (omega arith) (omega arith) refl refl ∷ [], refl, refl)

module _ (version : Version) (scope : Scope) (is : IsScope scope) (own : List Constraint) (sound : AreSoundRules (arities_of scope.schema) own) where
  abbrev SoFar : List Constraint → ℕ → Type 0
  SoFar rules index = AreRulesSoFar version (arities_of scope.schema) scope.datasets own rules index

  go : (left index : ℕ) (rules : List Constraint) → index + left ≡ length scope.datasets → SoFar rules index
      → (all : List Constraint) × SoFar all (length scope.datasets)
  go zero index rules whole so_far = (rules, subst (SoFar rules) (let e : index ≡ length scope.datasets = omega (arith, whole) in e) so_far)
  go (suc left) index rules whole so_far =
      let inside : index < length scope.datasets = omega (arith, whole) in
      let (dataset, at) = thing_at scope.datasets index inside in
      let (more, own_rules, own_names) = encoding_of version dataset.model dataset.base in
      go left (index + 1) (rules ++ more) (omega (arith, whole))
      (rules_goes version scope scope.datasets own rules more index dataset is refl so_far inside
      (sym (get_or_from_slice_get scope.datasets index dataset dataset at)) own_rules own_names)

  pub with_encodings : (rules : List Constraint) × AreAllRules version scope.datasets own rules × AreSoundRules (arities_of scope.schema) rules
  with_encodings =
      let (rules, all) = go (length scope.datasets) 0 own (omega arith) (rules_start version (arities_of scope.schema) scope.datasets own sound) in
      (rules, rules_end version (arities_of scope.schema) scope.datasets own rules (length scope.datasets) (omega arith) all, all.over)
