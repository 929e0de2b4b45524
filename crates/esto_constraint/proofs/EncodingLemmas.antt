-- The rules of the encodings are rules.
use Rattle.std.proofs.Common.{◌≡◌, ◌≢◌, ℕ, zero, suc, ◌<◌, ◌≤◌, ◌+◌, List, [], ◌∷◌, ◌++◌, map, drop, get_or, length, slice_index_or, Contains, Result, refl}
use Rattle.std.proofs.Common.{sym, ◌∙◌, ap, subst, inl, inr, arith}
use Rattle.std.specs.List.{AllByRecursion}
use Rattle.std.specs.Result.{OnOk}
use Rattle.std.proofs.lemmas.List.{append-nil, append_assoc, drop_all, drop_more, length-map, map_push}
use Rattle.std.proofs.lemmas.Result.{on_ok_weaker}
use Rattle.esto_term.proofs.ListLemmas.{Contains-cases, Contains-head, Contains-map, Contains-map_from, Contains-nil, Contains-rest}
use Rattle.esto_term.specs.declared.term.Term.{Term}
use Rattle.esto_term.specs.declared.term.Term.TheVariants.{Plain}
use Rattle.esto_semantics.proofs.TermLemmas.{Plain-same}
use Rattle.esto_semantics.specs.Facts.{Mentions}
use Rattle.esto_semantics.specs.Maps.{IsFlat, AreFlat}
use Rattle.esto_semantics.specs.declared.fact.Fact.{Fact}
use Rattle.esto_query.specs.Soundness.{AreNamed}
use Rattle.esto_query.specs.declared.query.Name.{Name}
use Rattle.esto_semantics.specs.DocumentRules.{atom}
use Rattle.esto_constraint.specs.Soundness.{IsSoundTuple, IsSoundEquality, IsSoundDenial}

-- a number among others that are below a bound
below_bound : (bound : ℕ) (variables : List ℕ) (variable : ℕ) → AllByRecursion (λ v. v < bound) variables → Contains variables variable → variable < bound
below_bound bound [] variable below inside = absurd (Contains-nil variable inside)
below_bound bound (first ∷ rest) variable below inside = elim (Contains-cases first rest variable inside) [
  | inl same ↦ subst (λ v. v < bound) same below.0
  | inr later ↦ below_bound bound rest variable below.1 later
]

at_place : (variables : List ℕ) (place : ℕ) → place < length variables → Contains variables (slice_index_or variables place 0)
at_place [] place within = absurd (omega arith)
at_place (first ∷ rest) zero within = Contains-head first rest
at_place (first ∷ rest) (suc place) within = Contains-rest first rest (slice_index_or rest place 0) (at_place rest place (omega arith))

-- what holds of the variables of atoms holds of what the atoms mention
of_one : (P : Term → Type 0) (relation : ℕ) (variables : List ℕ) → ((variable : ℕ) → Contains variables variable → P (Plain variable))
    → (term : Term) → Mentions (atom relation variables ∷ []) term → P term
of_one P relation variables each term (fact, inside, stands) = elim (Contains-cases (atom relation variables) [] fact inside) [
  | inl same ↦
      let from = Contains-map_from Plain variables term (subst (λ (it : Fact Term). Contains it.terms term) (sym same) stands) in
      subst P from.2 (each from.0 from.1)
  | inr none ↦ absurd (Contains-nil fact none)
]

of_two : (P : Term → Type 0) (relation other : ℕ) (variables others : List ℕ)
    → ((variable : ℕ) → Contains variables variable → P (Plain variable)) → ((variable : ℕ) → Contains others variable → P (Plain variable))
    → (term : Term) → Mentions (atom relation variables ∷ atom other others ∷ []) term → P term
of_two P relation other variables others each later term (fact, inside, stands) =
    elim (Contains-cases (atom relation variables) (atom other others ∷ []) fact inside) [
      | inl same ↦
          let from = Contains-map_from Plain variables term (subst (λ (it : Fact Term). Contains it.terms term) (sym same) stands) in
          subst P from.2 (each from.0 from.1)
      | inr more ↦ of_one P other others later term (fact, more, stands)
    ]

flat_plain : (variable : ℕ) → IsFlat (Plain variable)
flat_plain variable = inr (variable, refl)

named_plain : (bound : ℕ) (variables : List ℕ) → AllByRecursion (λ v. v < bound) variables → (variable : ℕ) → Contains variables variable
    → (other : ℕ) → Plain variable ≡ Plain other → other < bound
named_plain bound variables below variable inside other same =
    subst (λ v. v < bound) (Plain-same variable other same) (below_bound bound variables variable below inside)

-- the body is one of one atom, with that many names
record IsOfOne (names : List Name) (relation : ℕ) (variables : List ℕ) (body : List (Fact Term)) : Type 0 where
  pub some : body ≢ []
  pub flat : AreFlat body
  pub named : AreNamed names body

one_atom : (names : List Name) (bound relation : ℕ) (variables : List ℕ) (body : List (Fact Term)) → body ≡ atom relation variables ∷ [] → length names ≡ bound
    → AllByRecursion (λ v. v < bound) variables → IsOfOne names relation variables body
one_atom names bound relation variables body are many below = record {
  some = λ none. absurd (cons-nil (sym are ∙ none));
  flat = subst AreFlat (sym are) (λ term. of_one IsFlat relation variables (λ v inside. flat_plain v) term);
  named = λ variable stands. subst (λ count. variable < count) (sym many)
      (of_one (λ term. (other : ℕ) → term ≡ Plain other → other < bound) relation variables (named_plain bound variables below) (Plain variable)
      (subst (λ those. Mentions those (Plain variable)) are stands) variable refl);
} where
  cons-nil : {X : Type 0} {first : X} {rest : List X} → first ∷ rest ≡ [] → ⊥
  cons-nil same = cc

two_atoms : (names : List Name) (bound relation other : ℕ) (variables others : List ℕ) (body : List (Fact Term))
    → body ≡ atom relation variables ∷ atom other others ∷ []
    → length names ≡ bound → AllByRecursion (λ v. v < bound) variables → AllByRecursion (λ v. v < bound) others → IsOfOne names relation variables body
two_atoms names bound relation other variables others body are many below lower = record {
  some = λ none. absurd (cons-nil (sym are ∙ none));
  flat = subst AreFlat (sym are) (λ term. of_two IsFlat relation other variables others (λ v inside. flat_plain v) (λ v inside. flat_plain v) term);
  named = λ variable stands. subst (λ count. variable < count) (sym many)
      (of_two (λ term. (w : ℕ) → term ≡ Plain w → w < bound) relation other variables others (named_plain bound variables below)
      (named_plain bound others lower) (Plain variable)
      (subst (λ those. Mentions those (Plain variable)) are stands) variable refl);
} where
  cons-nil : {X : Type 0} {first : X} {rest : List X} → first ∷ rest ≡ [] → ⊥
  cons-nil same = cc

module _ {T : Type 0} (named_as : T → Name) (texts : List T) (names : List Name) (are_names : names ≡ map named_as texts) where
  many : length names ≡ length texts
  many = ap length are_names ∙ length-map texts named_as

  pub sound_equality : (relation place : ℕ) (first second : List ℕ) (body : List (Fact Term)) → body ≡ atom relation first ∷ atom relation second ∷ []
      → place < length first → place < length second → AllByRecursion (λ v. v < length texts) first → AllByRecursion (λ v. v < length texts) second
      → IsSoundEquality body (Plain (slice_index_or first place 0)) (Plain (slice_index_or second place 0)) names
  sound_equality relation place first second body are within_first within_second below lower =
      let it = two_atoms names (length texts) relation relation first second body are many below lower in
      record {
        rule = record {
          has_body = it.some;
          flat_body = it.flat;
          left_fixed = inr (subst (λ those. Mentions those (Plain (slice_index_or first place 0))) (sym are) (
            atom relation first,
            Contains-head (atom relation first) (atom relation second ∷ []),
            Contains-map Plain first _ (at_place first place within_first),
          ));
          right_fixed = inr (subst (λ those. Mentions those (Plain (slice_index_or second place 0))) (sym are) (
            atom relation second,
            Contains-rest (atom relation first) (atom relation second ∷ []) (atom relation second)
                (Contains-head (atom relation second) []),
            Contains-map Plain second _ (at_place second place within_second),
          ));
        };
        named = it.named;
      }

  pub sound_tuple : (relation other : ℕ) (from to : List ℕ) (body head : List (Fact Term)) → body ≡ atom relation from ∷ [] → head ≡ atom other to ∷ []
      → AllByRecursion (λ v. v < length texts) from → AllByRecursion (λ v. v < length texts) to → IsSoundTuple body head names
  sound_tuple relation other from to body head are_body are_head below lower =
      let it = one_atom names (length texts) relation from body are_body many below in
      let that = one_atom names (length texts) other to head are_head many lower in
      record {
        rule = record { has_body = it.some; has_head = that.some; flat_body = it.flat; flat_head = that.flat };
        body_named = it.named;
        head_named = that.named;
      }

  pub sound_denial : (relation other : ℕ) (first second : List ℕ) (body : List (Fact Term)) → body ≡ atom relation first ∷ atom other second ∷ []
      → AllByRecursion (λ v. v < length texts) first → AllByRecursion (λ v. v < length texts) second → IsSoundDenial body names
  sound_denial relation other first second body are below lower =
      let it = two_atoms names (length texts) relation other first second body are many below lower in
      record { rule = record { has_body = it.some; flat_body = it.flat }; named = it.named }

-- a list that gets what a function makes of the items of another: what it has, and what the items that are left make, are the whole
module _ {A B : Type 0} (f : A → B) (items : List A) (place : ℕ) (made whole : List B) (so_far : made ++ map f (drop place items) ≡ whole) where
  -- one more item
  pub made_more : (other : A) → place < length items → (next : List B) → next ≡ made ++ f (get_or items place other) ∷ []
      → next ++ map f (drop (place + 1) items) ≡ whole
  made_more other below next grown =
      ap (λ those. those ++ map f (drop (place + 1) items)) grown
      ∙ append_assoc made (f (get_or items place other) ∷ []) (map f (drop (place + 1) items))
      ∙ subst (λ left. made ++ map f left ≡ whole) (drop_more items place other below) so_far

  -- no item is left
  pub made_all : length items ≤ place → made ≡ whole
  made_all past = sym (append-nil made) ∙ subst (λ left. made ++ map f left ≡ whole) (drop_all place items past) so_far

-- a list that got more, and then one more
pub grown : {Y : Type 0} (first old new more : List Y) (last : Y) → old ≡ first ++ more → new ≡ old ++ last ∷ [] → new ≡ first ++ (more ++ last ∷ [])
grown first old new more last before is = is ∙ ap (λ those. those ++ last ∷ []) before ∙ append_assoc first more (last ∷ [])

pub after : {T E Y : Type 0} (first old new more : List Y) (last : Y) (result : Result T E) → old ≡ first ++ more → OnOk result (new ≡ old ++ last ∷ [])
    → OnOk result (new ≡ first ++ (more ++ last ∷ []))
after first old new more last result before = on_ok_weaker result (grown first old new more last before)

-- a list that was empty, and got more
pub begun : {Y : Type 0} (old new more : List Y) → old ≡ [] → new ≡ old ++ more → new ≡ more
begun old new more none is = is ∙ ap (λ those. those ++ more) none

-- what is said of the items of a list that got one more
pub put_last : {T E X Y : Type 0} (f : X → Y) (old new : List X) (last : X) (other : Y) (result : Result T E) → OnOk result (new ≡ old ++ last ∷ [])
    → f last ≡ other → OnOk result (map f new ≡ map f old ++ other ∷ [])
put_last f old new last other result pushed now =
    on_ok_weaker result (λ is. ap (map f) is ∙ map_push f old last ∙ ap (λ one. map f old ++ one ∷ []) now) pushed
