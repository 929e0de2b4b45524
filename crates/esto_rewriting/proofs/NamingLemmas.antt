-- The set of the atoms of numbers.
use Rattle.std.proofs.Common.{◌≡◌, ◌⊎◌, ◌↔◌, inl, inr, ℕ, ◌+◌, ◌<◌, ◌≤◌, Bool, true, false, nat_lt, if◌then◌else◌, List, [], ◌∷◌, drop, length}
use Rattle.std.proofs.Common.{get_or, replicate, Some, Contains, subst, refl, sym, ap, ◌∙◌, arith}
use Rattle.std.proofs.lemmas.Bool.Decides.{nat_tests}
use Rattle.std.proofs.lemmas.List.{drop_all, drop_more, length-replicate}
use Rattle.esto_term.proofs.ListLemmas.{Contains-cases, Contains-head, Contains-nil, Contains-rest}
use Rattle.esto_term.specs.Sets.{Has}
use Rattle.esto_term.proofs.SetLemmas.{none_has}
use Rattle.esto_course.specs.Course.{Stops, judges}
use Rattle.esto_course.specs.Course.Stops.{refused}
use Rattle.esto_views.specs.declared.plan.Plan.{Plan}
use Rattle.esto_status.specs.Answers.{IsCaused, IsWant}
use Rattle.esto_status.specs.declared.status.Status.TheVariants.{NoSuchNumber}
use Rattle.esto_rewriting.specs.Verify.{first_above, IsSetOf, names_set}

-- a number that is not above the count is passed
above_no : (count number : ℕ) (numbers : List ℕ) → number ≤ count → first_above count (number ∷ numbers) ≡ first_above count numbers
above_no count number numbers le =
    let told : nat_lt count number ≡ false = grind (arith, nat_tests) in
    ap (λ (it : Bool). if it then Some number else first_above count numbers) told

above_yes : (count number : ℕ) (numbers : List ℕ) → count < number → first_above count (number ∷ numbers) ≡ Some number
above_yes count number numbers less =
    let told : nat_lt count number ≡ true = grind (arith, nat_tests) in
    ap (λ (it : Bool). if it then Some number else first_above count numbers) told

-- ---- the walk over the numbers: the set has the atoms of those so far

pub record IsNamedSoFar (count : ℕ) (numbers left : List ℕ) (set : List Bool) : Type 0 where
  pub none_above : first_above count left ≡ first_above count numbers
  pub over : length set ≡ count
  pub exact : (atom : ℕ) → (Has set atom ⊎ Contains left (atom + 1)) ↔ Contains numbers (atom + 1)

module _ (count : ℕ) (numbers : List ℕ) where
  pub named_none : (set : List Bool) → set ≡ replicate count false → IsNamedSoFar count numbers numbers set
  named_none set is = record {
    none_above = refl;
    over = ap length is ∙ length-replicate count false;
    exact = λ atom. (
      (λ either. elim either [ inl own ↦ absurd (none_has count atom (subst (λ (it : List Bool). Has it atom) is own)) | inr left ↦ left ]),
      inr,
    );
  }

  module _ (place : ℕ) (set : List Bool) (so_far : IsNamedSoFar count numbers (drop place numbers) set) (below : place < length numbers) where
    abbrev number : ℕ
    number = get_or numbers place 0

    left_is : drop place numbers ≡ number ∷ drop (place + 1) numbers
    left_is = drop_more numbers place 0 below

    pub named_above : count < number → first_above count numbers ≡ Some number
    named_above less = sym so_far.none_above ∙ ap (first_above count) left_is ∙ above_yes count number (drop (place + 1) numbers) less

    module _ (later : List Bool) (le : number ≤ count) (same : length later ≡ length set)
        (has : (atom : ℕ) → Has later atom ↔ ((number ≡ atom + 1) ⊎ Has set atom)) where
      there : (atom : ℕ) → Has later atom ⊎ Contains (drop (place + 1) numbers) (atom + 1) → Contains numbers (atom + 1)
      there atom (inl own) = (so_far.exact atom).0 (elim ((has atom).0 own) [
        | inl named ↦ inr (subst (λ (it : List ℕ). Contains it (atom + 1)) (sym left_is)
            (subst (Contains (number ∷ drop (place + 1) numbers)) named (Contains-head number (drop (place + 1) numbers))))
        | inr old ↦ inl old
      ])
      there atom (inr after) = (so_far.exact atom).0
          (inr (subst (λ (it : List ℕ). Contains it (atom + 1)) (sym left_is) (Contains-rest number (drop (place + 1) numbers) (atom + 1) after)))

      back_again : (atom : ℕ) → Contains numbers (atom + 1) → Has later atom ⊎ Contains (drop (place + 1) numbers) (atom + 1)
      back_again atom inside = elim ((so_far.exact atom).1 inside) [
        | inl old ↦ inl ((has atom).1 (inr old))
        | inr left ↦ elim (Contains-cases number (drop (place + 1) numbers) (atom + 1) (subst (λ (it : List ℕ). Contains it (atom + 1)) left_is left)) [
          | inl named ↦ inl ((has atom).1 (inl named))
          | inr after ↦ inr after
        ]
      ]

      pub named_more : IsNamedSoFar count numbers (drop (place + 1) numbers) later
      named_more = record {
        none_above = sym (above_no count number (drop (place + 1) numbers) le) ∙ ap (first_above count) (sym left_is) ∙ so_far.none_above;
        over = same ∙ so_far.over;
        exact = λ atom. (there atom, back_again atom);
      }

  pub named_all : (place : ℕ) (set : List Bool) → IsNamedSoFar count numbers (drop place numbers) set → length numbers ≤ place → IsSetOf count numbers set
  named_all place set so_far past =
      let whole : IsNamedSoFar count numbers [] set =
      subst (λ (it : List ℕ). IsNamedSoFar count numbers it set) (drop_all place numbers past) so_far in
      record {
        none_above = sym whole.none_above;
        over = whole.over;
        exact = λ atom. (
          (λ own. (whole.exact atom).0 (inl own)),
          (λ inside. elim ((whole.exact atom).1 inside) [ inl own ↦ own | inr none ↦ absurd (Contains-nil (atom + 1) none) ]),
        );
      }

-- ---- the step

module _ (plan : Plan) (numbers : List ℕ) where
  pub set_goes : (set : List Bool) → IsSetOf (length plan.atoms) numbers set → (names_set plan numbers).goes set
  unfolding judges
  set_goes set is = is

  pub above_stops : (number count : ℕ) → count ≡ length plan.atoms → first_above (length plan.atoms) numbers ≡ Some number
      → Stops IsWant (IsCaused ⊥) (names_set plan numbers) (NoSuchNumber number count)
  unfolding judges
  above_stops number count is above = refused (record { cause = tt }) (number, above, ap (NoSuchNumber number) is)
