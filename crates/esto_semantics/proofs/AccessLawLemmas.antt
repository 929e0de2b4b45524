-- What accessible parts and stated orders are, where no run is needed.
use Rattle.std.proofs.Common.{◌≡◌, ℕ, zero, suc, ◌<◌, ◌≤◌, Bool, List, [], Option, Some, None, slice_get, refl, sym, ap, ◌∙◌, subst, arith, inl, inr}
use Rattle.std.proofs.lemmas.Bool.{cases_order, cases_lt}
use Rattle.std.proofs.lemmas.Option.{none-some, same_Some, slice_get_within, get_or_from_slice_get}
use Rattle.esto_term.specs.declared.term.Term.{Term}
use Rattle.esto_semantics.specs.declared.fact.Fact.{Fact}
use Rattle.esto_term.specs.Sets.{Has, Within, numbers}
use Rattle.esto_semantics.specs.Access.{Patterns, IsEarlier, IsStatedOrder, HoldsExecutably, HoldsOfPart}
use Rattle.esto_semantics.specs.AccessLaws.{NoneIsExecutable, PartIsOne, ExecutableIsOwnPart, PartRises}
use Rattle.esto_semantics.specs.AccessLaws.{StatedOrderIsOne, NumbersAreStated, RewritingsNeedNoOrder, MinimalOfParts}
use Rattle.esto_term.proofs.SetLemmas.{within_refl, within_trans, within_same, numbers_have, numbers_rise, Has-within}
use Rattle.esto_term.proofs.ListLemmas.{Contains-at, place-from_Contains, thing_at}
use Rattle.esto_term.proofs.PlaceLemmas.{one_place, same_places}
use Rattle.esto_semantics.proofs.AccessLemmas.{accessible_more, none_is_order}

-- ---- laws that need no run

pub none_is_executable : NoneIsExecutable
none_is_executable patterns atoms = ([], none_is_order patterns atoms)

pub part_is_one : PartIsOne
part_is_one patterns atoms set part other is_part is_part' =
    within_same part other (((is_part.executable).1).over ∙ sym ((is_part'.executable).1).over) (is_part'.greatest part is_part.executable is_part.within)
    (is_part.greatest other is_part'.executable is_part'.within)

pub executable_is_own_part : ExecutableIsOwnPart
executable_is_own_part patterns atoms set = (
  λ executable. record { within = within_refl set; executable = executable; greatest = λ other h within. within },
  λ is_part. is_part.executable,
)

pub part_rises : PartRises
part_rises patterns atoms set other part part_of_other within is_part is_part' =
    is_part'.greatest part is_part.executable (within_trans part set other is_part.within within)

-- ---- what holds of accessible parts

module _ (patterns : Patterns) (atoms : List (Fact Term)) (P : List Bool → Type 0) where
  own_part : (set : List Bool) → HoldsExecutably patterns atoms P set → HoldsOfPart patterns atoms P set
  own_part set (executable, holds) =
      record { over = (executable.1).over; part = set; is_part = (executable_is_own_part patterns atoms set).0 executable; holds = holds }

  pub minimal_of_parts : MinimalOfParts patterns atoms P
  minimal_of_parts set = (
    (λ (holds, least). (
      own_part set holds,
      λ other of_part within.
          let part_within : Within of_part.part set = within_trans of_part.part other set (of_part.is_part).within within in
          let same : of_part.part ≡ set = least of_part.part ((of_part.is_part).executable, of_part.holds) part_within in
          within_same other set (of_part.over ∙ sym (own_part set holds).over) within (subst (λ it. Within it other) same (of_part.is_part).within),
    )),
    (λ (of_part, least).
        let executable = (of_part.is_part).executable in
        let same : of_part.part ≡ set = least of_part.part (own_part of_part.part (executable, of_part.holds)) (of_part.is_part).within in
        (subst (HoldsExecutably patterns atoms P) same (executable, of_part.holds), λ other holds within. least other (own_part other holds) within)),
  )

-- ---- one stated order

module _ (patterns : Patterns) (atoms : List (Fact Term)) (set : List Bool) where
  module _ (order other : List ℕ) (stated : IsStatedOrder patterns atoms set order) (stated' : IsStatedOrder patterns atoms set other) (place : ℕ)
      (same : (before : ℕ) → before < place → slice_get order before ≡ slice_get other before) where
    earlier_same : (number : ℕ) → IsEarlier order place number → IsEarlier other place number
    earlier_same number h = (h.0, h.1, sym (same h.0 h.1) ∙ h.2)

    -- a number of the one order that stands earlier in the other can't stand at this place
    not_earlier : (number : ℕ) → slice_get order place ≡ Some number → IsEarlier other place number → ⊥
    not_earlier number e h = let one = one_place order (stated.is_order).once h.0 place number (same h.0 h.1 ∙ h.2) e in omega (arith, one, h.1)

    not_below : (number number' : ℕ) → slice_get order place ≡ Some number → slice_get other place ≡ Some number' → number < number' → ⊥
    not_below number number' e d below =
        let has : Has set number = ((stated.is_order).names number).0 (Contains-at order place number e) in
        let found = thing_at atoms number (subst (λ n. number < n) (stated.is_order).over (Has-within set number has)) in
        not_earlier number e (stated'.least place number' d number found.0 below has found.1
        (accessible_more patterns atoms _ _ earlier_same found.0 ((stated.is_order).accessible place number found.0 e found.1)))

    not_ended : (number : ℕ) → slice_get order place ≡ Some number → slice_get other place ≡ None → ⊥
    not_ended number e d =
        let at = place-from_Contains other number
        (((stated'.is_order).names number).1 (((stated.is_order).names number).0 (Contains-at order place number e))) in
        elim (cases_lt at.0 place) [
          | inl before ↦ not_earlier number e (at.0, before, at.1)
          | inr after ↦ beyond_end at.0 number at.1 after
        ]
      where
        beyond_end : (at number : ℕ) → slice_get other at ≡ Some number → place ≤ at → ⊥
        beyond_end at number f after = let within = slice_get_within other at number f in
            let found = thing_at other place (omega (arith, within, after)) in none-some found.0 (sym d ∙ found.1)

  same_so_far : (order other : List ℕ) → IsStatedOrder patterns atoms set order → IsStatedOrder patterns atoms set other
      → (bound place : ℕ) → place < bound → slice_get order place ≡ slice_get other place
  same_so_far order other stated stated' zero place l = absurd (omega (arith, l))
  same_so_far order other stated stated' (suc bound) place l =
      go (λ before m. same_so_far order other stated stated' bound before (omega (arith, m, l))) (slice_get order place) (slice_get other place) refl refl
    where
      go : ((before : ℕ) → before < place → slice_get order before ≡ slice_get other before) → (found found' : Option ℕ) → slice_get order place ≡ found
          → slice_get other place ≡ found'
          → slice_get order place ≡ slice_get other place
      go same None None e d = e ∙ sym d
      go same None (Some number) e d = absurd (not_ended other order stated' stated place (λ before m. sym (same before m)) number d e)
      go same (Some number) None e d = absurd (not_ended order other stated stated' place same number e d)
      go same (Some number) (Some number') e d = elim (cases_order number number') [
        | inl one ↦ e ∙ ap Some one ∙ sym d
        | inr apart ↦ elim apart [
          | inl below ↦ absurd (not_below order other stated stated' place same number number' e d below)
          | inr above ↦ absurd (not_below other order stated' stated place (λ before m. sym (same before m)) number' number d e above)
        ]
      ]

pub stated_order_is_one : StatedOrderIsOne
stated_order_is_one patterns atoms set order other stated stated' =
    same_places order other (λ place. same_so_far patterns atoms set order other stated stated' (suc place) place (omega arith))

-- ---- no inputs

pub numbers_are_stated : NumbersAreStated
numbers_are_stated patterns atoms open_atoms set l = record {
  is_order = record {
    over = l;
    names = numbers_have set;
    once = λ i j d below inside e. let rise = numbers_rise 0 set i j d below inside in omega (arith, rise, e);
    accessible = λ place number atom e d. let way = open_atoms atom (Contains-at atoms number atom d) in
        (way.0, way.1, λ column term input at. absurd (way.2 column input));
  };
  least = λ place number e lesser atom below has there accessible.
      let at = place-from_Contains (numbers set) lesser ((numbers_have set lesser).1 has) in (
        at.0,
        elim (cases_lt at.0 place) [
          | inl before ↦ before
          | inr after ↦ absurd (late at.0 place lesser number at.1 e below after)
        ],
        at.1,
      );
}
  where
    late : (at place lesser number : ℕ) → slice_get (numbers set) at ≡ Some lesser → slice_get (numbers set) place ≡ Some number → lesser < number → place ≤ at
        → ⊥
    late at place lesser number e d below after = elim (cases_order place at) [
      | inl same ↦ (let one = same_Some number lesser (sym d ∙ ap (slice_get (numbers set)) same ∙ e) in omega (arith, one, below))
      | inr apart ↦ elim apart [
        | inl before ↦ (let rise = numbers_rise 0 set place at 0 before (slice_get_within (numbers set) at lesser e) in
            let high = get_or_from_slice_get (numbers set) place number 0 d in
            let low = get_or_from_slice_get (numbers set) at lesser 0 e in omega (arith, rise, high, low, below))
        | inr behind ↦ omega (arith, behind, after)
      ]
    ]

pub rewritings_need_no_order : RewritingsNeedNoOrder
rewritings_need_no_order patterns rules views query plan open_atoms set has_candidate safe equivalent = record {
  has_candidate = has_candidate;
  safe = safe;
  executable = (numbers set, (numbers_are_stated patterns plan.body open_atoms set has_candidate.over).is_order);
  equivalent = equivalent;
}
