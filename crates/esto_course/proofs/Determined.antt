-- Courses that agree, and courses that go on with at most one value or stop with at most one error.
use Rattle.std.proofs.Common.{◌≡◌, ℕ, suc, List, [], ◌∷◌, inl, inr, refl, sym, subst, ◌∙◌}
use Rattle.esto_course.specs.Agreement.{Agree, IsDetermined, IsDeterminedUpTo}
use Rattle.esto_course.proofs.Alike.{then_alike, nothing_alike}
use Rattle.esto_course.specs.Course.{Course, judges, gives, refuses, demands, and_then, each}

module _ {E A B : Type 0} (caused : E → Type 0) (Same : A → A → Type 0) (Result : B → B → Type 0) (first other : Course E A)
    (next other_next : A → Course E B) where
  -- one step, and then what follows
  pub then_agree : Agree caused Same first other → ((value other_value : A) → first.goes value → Same value other_value
      → Agree caused Result (next value) (other_next other_value))
      → Agree caused Result (and_then first next) (and_then other other_next)
  unfolding and_then
  then_agree here there = record {
    one = λ value other_value (early, goes, more) (late, follows, most). (there early late goes
        (here.one early late goes follows)).one value other_value more most;
    one_stop = λ error other_error because because' stops stops'. elim stops [
      | inl at_once ↦ elim stops' [
        | inl at_once' ↦ here.one_stop error other_error because because' at_once at_once'
        | inr (late, follows, most) ↦ absurd (here.other_apart late error because follows at_once)
      ]
      | inr (early, goes, more) ↦ elim stops' [
        | inl at_once' ↦ absurd (here.apart early other_error because' goes at_once')
        | inr (late, follows, most) ↦ (there early late goes (here.one early late goes follows)).one_stop error other_error because because' more most
      ]
    ];
    apart = λ value error because (early, goes, more) stops. elim stops [
      | inl at_once ↦ here.apart early error because goes at_once
      | inr (late, follows, most) ↦ (there early late goes (here.one early late goes follows)).apart value error because more most
    ];
    other_apart = λ value error because (late, follows, most) stops. elim stops [
      | inl at_once ↦ here.other_apart late error because follows at_once
      | inr (early, goes, more) ↦ (there early late goes (here.one early late goes follows)).other_apart value error because most more
    ];
    alike = then_alike caused Same first other next other_next here.one here.apart here.other_apart here.alike
        (λ early late goes same. (there early late goes same).alike);
  }

module _ {E : Type 0} (caused : E → Type 0) where
  pub gives_agree : {A : Type 0} (value other : A) → value ≡ other → Agree caused ◌≡◌ (gives value) (gives other)
  unfolding gives
  gives_agree value other same = record {
    one = λ one two here there. here ∙ same ∙ sym there;
    one_stop = λ error other_error because because' here there. absurd here;
    apart = λ one error because here there. there;
    other_apart = λ one error because here there. there;
    alike = nothing_alike caused (λ it. it ≡ value) (λ it. it ≡ other) (λ _. ⊥) (λ _. ⊥);
  }

  pub refuses_agree : (A : Type 0) (error : E) → Agree caused ◌≡◌ (refuses {A = A} error) (refuses {A = A} error)
  unfolding refuses
  refuses_agree A error = record {
    one = λ one two here there. absurd here;
    one_stop = λ one two because because' here there. here ∙ sym there;
    apart = λ one error because here there. here;
    other_apart = λ one error because here there. here;
    alike = nothing_alike caused (λ _. ⊥) (λ _. ⊥) (λ it. it ≡ error) (λ it. it ≡ error);
  }

  pub judges_agree : {A : Type 0} (Same : A → A → Type 0) (Accepts Others : A → Type 0) (Refuses OtherRefuses : E → Type 0)
      → ((value other : A) → Accepts value → Others other → Same value other)
      → ((error other : E) → caused error → caused other → Refuses error → OtherRefuses other → error ≡ other)
      → ((value : A) (error : E) → caused error → Accepts value → OtherRefuses error → ⊥)
      → ((value : A) (error : E) → caused error → Others value → Refuses error → ⊥)
      → Agree caused Same (judges Accepts Refuses) (judges Others OtherRefuses)
  unfolding judges
  judges_agree Same Accepts Others Refuses OtherRefuses one one_stop apart other_apart =
      record {
        one = one;
        one_stop = one_stop;
        apart = apart;
        other_apart = other_apart;
        alike = nothing_alike caused Accepts Others Refuses OtherRefuses;
      }

pub then_determined : {E A B : Type 0} (Same : B → B → Type 0) (first : Course E A) (next : A → Course E B) → IsDetermined first
    → ((value : A) → first.goes value → IsDeterminedUpTo Same (next value))
    → IsDeterminedUpTo Same (and_then first next)
then_determined Same first next one two = then_agree (λ _. Unit {0}) ◌≡◌ Same first first next next one
    (λ value other goes same. subst (λ it. Agree (λ _. Unit {0}) Same (next value) (next it)) same (two value goes))

pub gives_determined : (E : Type 0) {A : Type 0} (value : A) → IsDetermined (gives {E = E} value)
gives_determined E value = gives_agree (λ _. Unit {0}) value value refl

pub refuses_determined : (A : Type 0) {E : Type 0} (error : E) → IsDetermined (refuses {A = A} error)
refuses_determined A error = refuses_agree (λ _. Unit {0}) A error

pub demands_determined : {E : Type 0} (condition : Type 0) (error : E) → IsDetermined (demands condition error)
unfolding demands
demands_determined condition error = record {
  one = λ v w h k. refl;
  one_stop = λ s t because because' h k. h.1 ∙ sym k.1;
  apart = λ v s because h k. k.0 h;
  other_apart = λ v s because h k. k.0 h;
  alike = nothing_alike (λ _. Unit {0}) (λ _. condition) (λ _. condition) (λ it. ¬ condition × (it ≡ error)) (λ it. ¬ condition × (it ≡ error));
}

pub judges_determined : {E A : Type 0} (Same : A → A → Type 0) (accepts : A → Type 0) (refused : E → Type 0)
    → ((value other : A) → accepts value → accepts other → Same value other)
    → ((error other : E) → refused error → refused other → error ≡ other) → ((value : A) (error : E) → accepts value → refused error → ⊥)
    → IsDeterminedUpTo Same (judges accepts refused)
judges_determined Same accepts refused one one_stop apart =
    judges_agree (λ _. Unit {0}) Same accepts accepts refused refused one (λ error other because because'. one_stop error other)
    (λ value error because. apart value error) (λ value error because. apart value error)

pub each_determined : {E A B : Type 0} (step : ℕ → B → A → Course E B) → ((number : ℕ) (given : B) (item : A) → IsDetermined (step number given item))
    → (number : ℕ) (given : B) (items : List A)
    → IsDetermined (each step number given items)
each_determined {E} step one number given [] = gives_determined E given
each_determined step one number given (item ∷ items) = then_determined ◌≡◌ _ _ (one number given item)
    (λ next goes. each_determined step one (suc number) next items)
