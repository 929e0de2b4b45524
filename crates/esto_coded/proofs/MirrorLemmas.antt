-- Equality rules whose body is two halves, each of which is the other under another naming of variables.
use Rattle.std.proofs.Common.{◌≡◌, ◌↔◌, ◌⊎◌, inl, inr, ℕ, zero, suc, ◌≤◌, Bool, true, false, cond, List, [], ◌∷◌, ◌++◌, map, length, take, drop, Some}
use Rattle.std.proofs.Common.{slice_get, Contains, refl, sym, ap, ◌∙◌, subst, arith, IsTrue}
use Rattle.std.specs.List.{filter}
use Rattle.std.specs.Set.{is_member}
use Rattle.std.proofs.lemmas.Bool.{cases_order, false≢true, and_parts}
use Rattle.std.proofs.lemmas.List.{take-append-drop}
use Rattle.std.proofs.lemmas.List.Elements.{Contains-append_left, Contains-append_right, Contains-append_cases}
use Rattle.std.proofs.lemmas.Option.{same_Some, slice_get_within}
use Rattle.esto_term.specs.Order.{same_term}
use Rattle.esto_term.specs.declared.term.Term.{Term, out-Term}
use Rattle.esto_term.specs.declared.term.Term.TheVariants.{Const}
use Rattle.esto_term.proofs.ListLemmas.{Contains-nil, Contains-head, Contains-rest, Contains-cases, Contains-map, Contains-filter_from, map_agree, map_then}
use Rattle.esto_term.proofs.ListLemmas.{map_itself, agree-from_map}
use Rattle.esto_semantics.specs.Facts.{image, Mentions, terms_of}
use Rattle.esto_semantics.specs.Maps.{IsConstant, AreFlat, IsFixedBy, Keeps, Sends}
use Rattle.esto_semantics.specs.Rules.{IsEqualityRule, IsMet, equality}
use Rattle.esto_semantics.specs.declared.fact.Fact.{Fact}
use Rattle.esto_semantics.proofs.FactLemmas.{Mentions-sent}
use Rattle.esto_semantics.proofs.TermLemmas.{same_term-Decides}
use Rattle.esto_chase_laws.specs.Making.{is_variable_of, is_variable_level, frontier}
use Rattle.esto_chase_laws.proofs.JoinedLemmas.{joined_from}
use Rattle.esto_chase_laws.proofs.MakingLemmas.{frontier_body, frontier_has}
use Rattle.esto_coded.specs.Answered.{AreCodedAnswers}
use Rattle.esto_coded.specs.Coded.{Coded, IsCodeOf, AreCodesOf, AreTelling}
use Rattle.esto_coded.specs.Met.{AnswersWhether}
use Rattle.esto_rows.specs.Told.{IsContrary, AreTold}
use Rattle.esto_coded.specs.Mirrored.{renamed, GoesOver, IsMirrored}
use Rattle.esto_coded.proofs.MeetLemmas.{HaveTexts, answer_row, joint, joint_body, joint_other, one_terms}
use Rattle.esto_coded.proofs.StandLemmas.{one_term, one_code, one_codes}

-- ---- what stands for a term

renamed_here : (one two term : Term) (rest others : List Term) → one ≡ term → renamed (one ∷ rest) (two ∷ others) term ≡ two
renamed_here one two term rest others is = ap (λ it. cond it two (renamed rest others term)) ((same_term-Decides one term).1 is)

renamed_later : (one two term : Term) (rest others : List Term) → (one ≡ term → ⊥) → renamed (one ∷ rest) (two ∷ others) term ≡ renamed rest others term
renamed_later one two term rest others apart = by (same_term one term) (λ told. apart ((same_term-Decides one term).0 told))
  where
    by : (answer : Bool) → (answer ≡ true → ⊥) → cond answer two (renamed rest others term) ≡ renamed rest others term
    by true wrong = absurd (wrong refl)
    by false wrong = refl

pub renamed_at : (from to : List Term) (place : ℕ) (term one two : Term) → slice_get from place ≡ Some one → slice_get to place ≡ Some two → one ≡ term
    → renamed (drop place from) (drop place to) term ≡ two
renamed_at [] to place term one two at also is = absurd (let within = slice_get_within [] place one at in omega (arith, within))
renamed_at (first ∷ from) [] place term one two at also is = absurd (let within = slice_get_within [] place two also in omega (arith, within))
renamed_at (first ∷ from) (second ∷ to) zero term one two at also is =
    renamed_here first second term from to (same_Some first one at ∙ is) ∙ same_Some second two also
renamed_at (first ∷ from) (second ∷ to) (suc place) term one two at also is = renamed_at from to place term one two at also is

pub renamed_past : (from to : List Term) (place : ℕ) (term one two : Term) → slice_get from place ≡ Some one → slice_get to place ≡ Some two → (one ≡ term → ⊥)
    → renamed (drop place from) (drop place to) term ≡ renamed (drop (suc place) from) (drop (suc place) to) term
renamed_past [] to place term one two at also apart = absurd (let within = slice_get_within [] place one at in omega (arith, within))
renamed_past (first ∷ from) [] place term one two at also apart = absurd (let within = slice_get_within [] place two also in omega (arith, within))
renamed_past (first ∷ from) (second ∷ to) zero term one two at also apart =
    renamed_later first second term from to (λ is. apart (sym (same_Some first one at) ∙ is))
renamed_past (first ∷ from) (second ∷ to) (suc place) term one two at also apart = renamed_past from to place term one two at also apart

pub renamed_end : (from to : List Term) (place : ℕ) (term : Term) → length from ≤ place → renamed (drop place from) (drop place to) term ≡ term
renamed_end [] to zero term past = refl
renamed_end [] to (suc place) term past = refl
renamed_end (one ∷ from) to zero term past = absurd (omega (arith, past))
renamed_end (one ∷ from) [] (suc place) term past = renamed_nothing (drop place from) term
  where
    renamed_nothing : (from : List Term) (term : Term) → renamed from [] term ≡ term
    renamed_nothing [] term = refl
    renamed_nothing (one ∷ from) term = refl
renamed_end (one ∷ from) (two ∷ to) (suc place) term past = renamed_end from to place term (omega (arith, past))

-- constants stay, where the first list has none
pub renamed_keeps : (from to : List Term) → ((term : Term) → Contains from term → is_variable_level (out-Term term) ≡ true) → Keeps Const (renamed from to)
unfolding out-Term denote.Hole.Carrier.out
renamed_keeps [] to none text = refl
renamed_keeps (one ∷ from) [] none text = refl
renamed_keeps (one ∷ from) (two ∷ to) none text =
    renamed_later one two (Const text) from to
    (λ is. false≢true (subst (λ it. is_variable_level (out-Term it) ≡ true) is (none one (Contains-head one from))))
    ∙ renamed_keeps from to (λ term inside. none term (Contains-rest one from term inside)) text

pub frontier_plain : (body head : List (Fact Term)) (term : Term) → Contains (frontier body head) term → is_variable_level (out-Term term) ≡ true
frontier_plain body head term inside = elim (joined_from same_term same_term-Decides (filter (is_variable_of head) (terms_of body)) [] term inside) [
  | inl wrong ↦ absurd (Contains-nil term wrong)
  | inr passed ↦
      let told = (Contains-filter_from (is_variable_of head) (terms_of body) term passed).1 in
      (and_parts (is_variable_level (out-Term term)) (is_member same_term (terms_of head) term) told).0
]

-- ---- whether facts meet the rule

-- rows that are not contrary, of terms that agree after the first, agree on the first
first_one : (texts : List (List ℕ)) → AreTelling texts → (one other : Term) (terms : List Term) (row more : List ℕ) → AreCodesOf texts (one ∷ terms) row
    → AreCodesOf texts (other ∷ terms) more → (IsContrary row more → ⊥) → one ≡ other
first_one texts tell one other terms [] more are also apart = absurd are
first_one texts tell one other terms (code ∷ key) [] are also apart = absurd also
first_one texts tell one other terms (code ∷ key) (next ∷ rest) are also apart = elim (cases_order code next) [
  | inl same ↦ one_term texts tell.few one other code are.0 (subst (IsCodeOf texts other) (sym same) also.0)
  | inr (inl under) ↦ absurd (apart ((λ is. omega (arith, is, under)), one_codes texts tell.distinct terms key rest are.1 also.1))
  | inr (inr above) ↦ absurd (apart ((λ is. omega (arith, is, above)), one_codes texts tell.distinct terms key rest are.1 also.1))
]

-- and rows that are contrary are of terms that agree after the first alone
contrary_apart : (texts : List (List ℕ)) → AreTelling texts → (one other : Term) (terms others : List Term) (row more : List ℕ)
    → AreCodesOf texts (one ∷ terms) row → AreCodesOf texts (other ∷ others) more → IsContrary row more → (terms ≡ others) × (one ≡ other → ⊥)
contrary_apart texts tell one other terms others [] more are also contrary = absurd are
contrary_apart texts tell one other terms others (code ∷ key) [] are also contrary = absurd also
contrary_apart texts tell one other terms others (code ∷ key) (next ∷ rest) are also contrary = (
  one_terms texts tell terms others key are.1 (subst (AreCodesOf texts others) (sym contrary.1) also.1),
  λ is. contrary.0 (one_code texts tell.distinct one code next are.0 (subst (λ it. IsCodeOf texts it next) (sym is) also.0)),
)

-- a map after another that makes the one half the other
pub sends_after : (go m : Term → Term) (first second facts : List (Fact Term)) → map (image go) first ≡ second → Sends m second facts
    → Sends (λ term. m (go term)) first facts
sends_after go m first second facts is sends atom inside =
    let there = subst (λ atoms. Contains atoms (image go atom)) is (Contains-map (image go) first atom inside) in
    subst (λ them. Contains facts (record { relation = atom.relation; terms = them })) (map_then go m atom.terms) (sends (image go atom) there)

module _ (first second : List (Fact Term)) (left right : Term) (shared : List Term) (is : IsMirrored first second left right shared)
    (facts : List (Fact Term)) where
  -- two matches of the first half that agree on what is shared agree on the side, where the rule is met
  two_agree : IsMet facts (equality (first ++ second) left right) → (m other : Term → Term) → Keeps Const m → Keeps Const other → Sends m first facts
      → Sends other first facts → map m shared ≡ map other shared → m left ≡ other left
  two_agree met m other keeps also sends goes same =
      sym (joint_body first m over left is.inside)
      ∙ met both both_keeps both_sends ∙ at_second right right_in ∙ ap other is.back.1.side
    where
      over : Term → Term
      over term = other (is.back.0 term)

      over_keeps : Keeps Const over
      over_keeps text = ap other (is.back.1.keeps text) ∙ also text

      both : Term → Term
      both = joint first m over

      right_in : Mentions second right
      right_in = subst (Mentions second) is.there.1.side (Mentions-sent is.there.0 first second left
          (λ atom inside. subst (λ atoms. Contains atoms (image is.there.0 atom)) is.there.1.atoms (Contains-map (image is.there.0) first atom inside))
          is.inside)

      both_keeps : Keeps Const both
      both_keeps text = joint_other first m over (Const text) (λ inside. keeps text ∙ sym (over_keeps text)) ∙ over_keeps text

      stays : (term : Term) → Contains shared term → is.back.0 term ≡ term
      stays term inside = agree-from_map is.back.0 (λ it. it) shared term (is.back.1.stay ∙ sym (map_itself shared)) inside

      shared_same : (term : Term) → Contains shared term → m term ≡ over term
      shared_same term inside = agree-from_map m other shared term same inside ∙ ap other (sym (stays term inside))

      by_kind : (term : Term) → IsConstant term ⊎ Contains shared term → m term ≡ over term
      by_kind term (inl (text, it)) = ap m it ∙ keeps text ∙ sym (over_keeps text) ∙ ap over (sym it)
      by_kind term (inr inside) = shared_same term inside

      at_second : (term : Term) → Mentions second term → both term ≡ over term
      at_second term inside = joint_other first m over term (λ early. by_kind term (is.common term early inside))

      both_sends : Sends both (first ++ second) facts
      both_sends atom inside = elim (Contains-append_cases first second atom inside) [
        | inl early ↦ subst (λ them. Contains facts (record { relation = atom.relation; terms = them }))
            (sym (map_agree both m atom.terms (λ term among. joint_body first m over term (atom, early, among)))) (sends atom early)
        | inr later ↦ subst (λ them. Contains facts (record { relation = atom.relation; terms = them }))
            (sym (map_agree both over atom.terms (λ term among. at_second term (atom, later, among))))
            (sends_after is.back.0 other second first facts is.back.1.atoms goes atom later)
      ]

  -- and where each two do, the rule is met
  met_where : ((m other : Term → Term) → Keeps Const m → Keeps Const other → Sends m first facts → Sends other first facts → map m shared ≡ map other shared
      → m left ≡ other left) → IsMet facts (equality (first ++ second) left right)
  met_where each m keeps sends =
      let go = is.there.0 in
      let over = is.there.1 in
      each m (λ term. m (go term)) keeps (λ text. ap m (over.keeps text) ∙ keeps text)
      (λ atom inside. sends atom (Contains-append_left first second atom inside))
      (sends_after go m first second facts over.atoms (λ atom inside. sends atom (Contains-append_right first second atom inside)))
      (ap (map m) (sym over.stay) ∙ map_then go m shared)
      ∙ ap m over.side

pub mirrored_answered : (coded : Coded) (first second : List (Fact Term)) (left right : Term) (shared : List Term) → IsMirrored first second left right shared
    → (rows : List (List ℕ)) (answer : Bool) → AreTelling coded.texts → HaveTexts coded.texts (left ∷ shared)
    → ((term : Term) → Contains (left ∷ shared) term → IsFixedBy first term)
    → AreCodedAnswers coded (record { head = left ∷ shared; body = first }) rows
    → IsTrue answer ↔ AreTold rows → AnswersWhether coded (equality (first ++ second) left right) answer
mirrored_answered coded first second left right shared is rows answer tell known fixed answers told facts stand = (
  λ yes. met_where first second left right shared is facts (λ m other keeps also sends goes same.
      let one = answer_row coded (left ∷ shared) first rows answers known fixed facts stand m keeps sends in
      let two = answer_row coded (left ∷ shared) first rows answers known fixed facts stand other also goes in
      first_one coded.texts tell (m left) (other left) (map m shared) one.0 two.0 one.2
      (subst (λ terms. AreCodesOf coded.texts (other left ∷ terms) two.0) (sym same) two.2)
      (told.0 yes one.0 one.1 two.0 two.1)),
  λ met. told.1 (λ row inside more within contrary.
      let one = (answers facts stand row).0 inside in
      let two = (answers facts stand more).0 within in
      let apart = contrary_apart coded.texts tell (one.2.0 left) (two.2.0 left) (map one.2.0 shared) (map two.2.0 shared) row more
      (subst (λ terms. AreCodesOf coded.texts terms row) one.2.3 one.1) (subst (λ terms. AreCodesOf coded.texts terms more) two.2.3 two.1) contrary in
      apart.1 (two_agree first second left right shared is facts met one.2.0 two.2.0 one.2.1 two.2.1 one.2.2 two.2.2 apart.0)),
)

-- ---- when a body is mirrored

pub goes_over : (from to : List Term) (first second : List (Fact Term)) (left right : Term) (shared : List Term)
    → ((term : Term) → Contains from term → is_variable_level (out-Term term) ≡ true) → map (image (renamed from to)) first ≡ second
    → renamed from to left ≡ right → map (renamed from to) shared ≡ shared → GoesOver (renamed from to) first second left right shared
goes_over from to first second left right shared plain atoms side stay = record {
  keeps = renamed_keeps from to plain;
  atoms = atoms;
  side = side;
  stay = stay;
}

pub is_mirrored : (first second : List (Fact Term)) (left right : Term) (shared from to : List Term) → AreFlat first → shared ≡ frontier first second
    → from ≡ frontier first first → to ≡ frontier second second → Contains from left → map (image (renamed from to)) first ≡ second
    → map (image (renamed to from)) second ≡ first → (renamed from to left ≡ right) × (map (renamed from to) shared ≡ shared)
    → (renamed to from right ≡ left) × (map (renamed to from) shared ≡ shared) → IsMirrored first second left right shared
is_mirrored first second left right shared from to flat is one two inside atoms back sides others = record {
  there = (
    renamed from to,
    goes_over from to first second left right shared
        (λ term among. frontier_plain first first term (subst (λ terms. Contains terms term) one among)) atoms sides.0 sides.1,
  );
  back = (
    renamed to from,
    goes_over to from second first right left shared
        (λ term among. frontier_plain second second term (subst (λ terms. Contains terms term) two among)) back others.0 others.1,
  );
  inside = frontier_body first first left (subst (λ terms. Contains terms left) one inside);
  own = λ term among. frontier_body first second term (subst (λ terms. Contains terms term) is among);
  common = λ term early later. elim (flat term early) [
    | inl constant ↦ inl constant
    | inr variable ↦ inr (subst (λ terms. Contains terms term) (sym is)
        (subst (Contains (frontier first second)) (sym variable.1)
        (frontier_has first second variable.0 (subst (Mentions first) variable.1 early) (subst (Mentions second) variable.1 later))))
  ];
}

pub head_fixed : (first second : List (Fact Term)) (left right : Term) (shared : List Term) → IsMirrored first second left right shared
    → (term : Term) → Contains (left ∷ shared) term → IsFixedBy first term
head_fixed first second left right shared is term inside = elim (Contains-cases left shared term inside) [
  | inl same ↦ inr (subst (Mentions first) same is.inside)
  | inr later ↦ inr (is.own term later)
]

pub front_flat : (first second body : List (Fact Term)) → first ++ second ≡ body → AreFlat body → AreFlat first
front_flat first second body is flat term (atom, inside, among) =
    flat term (atom, subst (λ atoms. Contains atoms atom) is (Contains-append_left first second atom inside), among)

pub parts : (body first second : List (Fact Term)) (half : ℕ) → first ≡ take half body → second ≡ drop half body → first ++ second ≡ body
parts body first second half front back = (λ i. front i ++ back i) ∙ take-append-drop half body

-- ---- the sides turned

pub turned_rule : (body : List (Fact Term)) (left right : Term) → IsEqualityRule body left right → IsEqualityRule body right left
turned_rule body left right is = record {
  has_body = is.has_body;
  flat_body = is.flat_body;
  left_fixed = is.right_fixed;
  right_fixed = is.left_fixed;
}
