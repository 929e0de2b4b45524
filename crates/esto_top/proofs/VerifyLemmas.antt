-- A certificate for a set of a plan's atoms is verified.
use Rattle.std.proofs.Common.{◌≡◌, inl, inr, ℕ, zero, suc, ◌+◌, ◌<◌, ◌≤◌, Bool, true, false, List, [], ◌∷◌, length, Some, None, Option}
use Rattle.std.proofs.Common.{Contains, nat_lt, refl, ap, arith}
use Rattle.std.specs.Prelude.{codes, if◌then◌else◌}
use Rattle.std.proofs.lemmas.Bool.Decides.{nat_tests}
use Rattle.std.proofs.lemmas.Bool.{cases_eq}
use Rattle.esto_mapping.specs.declared.catalogue.Catalogue.{Catalogue}
use Rattle.esto_cert.proofs.ExpansionLemmas.{expanded_exists}
use Rattle.esto_cert.specs.Judging.{DecidesFor, case_for}
use Rattle.esto_rewriting.specs.Verify.{HasVerdict, IsAbove, IsSetOf, first_above, judges_certificate, names_set, verifies_query, verifies_set}
use Rattle.esto_status.specs.declared.limits.TheConstants.{DATA_LIMIT}
use Rattle.esto_constraint.specs.declared.rule.Constraint.{Constraint}
use Rattle.esto_course.specs.Course.{and_then, judges}
use Rattle.esto_status.specs.Fetch.{fetches}
use Rattle.esto_status.specs.declared.status.Status.{Status}
use Rattle.esto_status.specs.declared.status.Status.TheVariants.{NoSuchNumber, Rejected}
use Rattle.esto_rewriting.specs.Listing.{IsPlanned}
use Rattle.esto_rewriting.specs.Planning.{plans_query}
use Rattle.esto_ports.specs.Files.{Files}
use Rattle.esto_query.specs.declared.query.Query.{Query}
use Rattle.esto_term.proofs.DistinctLemmas.{decided_contains}
use Rattle.esto_term.specs.Sets.{Has}
use Rattle.esto_term.proofs.ChoiceLemmas.{Decided}
use Rattle.esto_term.proofs.ListLemmas.{Contains-cases, Contains-nil}
use Rattle.esto_views.proofs.ExpandedLemmas.{plan_expands}
use Rattle.esto_views.proofs.FlatLemmas.{expanded-flat}
use Rattle.esto_views.specs.Plans.{IsPlanOver}
use Rattle.esto_views.specs.declared.fragments.FragmentDef.{FragmentDef}
use Rattle.esto_views.specs.declared.plan.Plan.{Plan}
use Rattle.esto_top.specs.Ends.{Ends, EndsOrLacks}
use Rattle.esto_top.specs.LawsBelow.{BelowLaws, KeptLaws}
use Rattle.esto_top.proofs.CourseLemmas.{ends_then, fetches_ends, judges_accepts, judges_refuses}
use Rattle.esto_top.proofs.RunEndLemmas.{plan_of, plans_ends}
use Rattle.esto_top.proofs.VerdictLemmas.{decides}

-- ---- the verdict

verdict_exists : (keeps : KeptLaws) (plan : Plan) (fragments : List FragmentDef) → IsPlanOver plan fragments → (set : List Bool) (rules : List Constraint)
    (query : Query) (bytes : List ℕ)
    → (verdict : Option ℕ) × DecidesFor plan fragments set rules query bytes verdict
verdict_exists keeps plan fragments over set rules query bytes =
    let expanded = expanded_exists keeps.queries fragments plan.atoms 0 (length plan.names) over in
    let expands = plan_expands plan fragments expanded.0 (keeps.plans plan) keeps.queries expanded.1 in
    let verdict = decides (case_for plan set rules query expanded.0) bytes in
    (verdict.0, (expanded.0, expanded.1, expands, expanded-flat plan fragments expanded.0 (keeps.plans plan) keeps.queries expands, verdict.1))

-- ---- the set

-- the set of the numbers below a count that have a decided property
set_where : (P : ℕ → Type 0) → ((number : ℕ) → Decided (P number)) → (count : ℕ)
    → (set : List Bool) × (length set ≡ count) × ((number : ℕ) → (Has set number → P number) × (number < count → P number → Has set number))
set_where P decide zero = ([], refl, (λ number. ((λ has. absurd (cc)), (λ below. absurd (omega (arith, below))))))
set_where P decide (suc count) =
    let rest = set_where (λ number. P (suc number)) (λ number. decide (suc number)) count in elim (decide 0) [
      | inl has ↦ (true ∷ rest.0, ap suc rest.1, with_first true rest.0 (λ _. has) (λ _. refl) rest.2)
      | inr not ↦ (false ∷ rest.0, ap suc rest.1, with_first false rest.0 (λ is. absurd (cc)) (λ has. absurd (not has)) rest.2)
    ]
  where
    with_first : (answer : Bool) (set : List Bool) → (answer ≡ true → P 0) → (P 0 → answer ≡ true)
        → ((number : ℕ) → (Has set number → P (suc number)) × (number < count → P (suc number) → Has set number))
        → (number : ℕ) → (Has (answer ∷ set) number → P number) × (number < suc count → P number → Has (answer ∷ set) number)
    with_first answer set from to rest zero = (from, (λ _. to))
    with_first answer set from to rest (suc number) = ((rest number).0, (λ below. (rest number).1 (omega (arith, below))))

none_is_above : (count : ℕ) (numbers : List ℕ) → first_above count numbers ≡ None → (number : ℕ) → Contains numbers number → number ≤ count
none_is_above count [] none number inside = absurd (Contains-nil number inside)
none_is_above count (first ∷ rest) none number inside =
    let tested = by (nat_lt count first) none in elim (Contains-cases first rest number inside) [
      | inl is ↦ let small = not_above (tested.0) in omega (arith, is, small)
      | inr later ↦ none_is_above count rest tested.1 number later
    ]
  where
    by : (answer : Bool) → (if answer then Some first else first_above count rest) ≡ None → (answer ≡ false) × (first_above count rest ≡ None)
    by true some = absurd (cc)
    by false none = (refl, none)

    not_above : nat_lt count first ≡ false → first ≤ count
    not_above is = grind (arith, nat_tests, is)

module _ (count : ℕ) (numbers : List ℕ) where
  names_ends : {lack : Type 0} (plan : Plan) → length plan.atoms ≡ count → Ends lack (judges (IsSetOf count numbers) (IsAbove count numbers))
  names_ends {lack} plan same = by (first_above count numbers) refl
    where
      by : (found : Option ℕ) → first_above count numbers ≡ found → Ends lack (judges (IsSetOf count numbers) (IsAbove count numbers))
      by (Some number) is =
          judges_refuses (IsSetOf count numbers) (IsAbove count numbers) (NoSuchNumber number count) (record { cause = tt }) (number, is, refl)
      by None none =
          let set = set_where (λ atom. Contains numbers (atom + 1)) (λ atom. decided_contains cases_eq numbers (atom + 1)) count in
          judges_accepts (IsSetOf count numbers) (IsAbove count numbers) set.0 (record {
            none_above = none;
            over = set.1;
            exact = λ atom. (
              (set.2 atom).0,
              (λ inside. let below = none_is_above count numbers none (atom + 1) inside in (set.2 atom).1 (omega (arith, below)) inside),
            );
          })

-- ---- the course

module _ (laws : BelowLaws) (files : Files) (catalogue : Catalogue) (query : Query) (numbers file : List ℕ) where
  certificate_ends : (plan : Plan) → IsPlanned catalogue query plan → (set : List Bool) (bytes : List ℕ)
      → EndsOrLacks (judges_certificate catalogue query plan set bytes)
  certificate_ends plan planned set bytes =
      by (verdict_exists laws.keeps plan catalogue.fragments (laws.lists.over catalogue query plan planned) set catalogue.rules query bytes)
    where
      Accepts : List ℕ → Type 0
      Accepts text = HasVerdict catalogue query plan set bytes None × (text ≡ codes "accepted\n")

      Refuses : Status → Type 0
      Refuses refusal = (line : ℕ) × HasVerdict catalogue query plan set bytes (Some line) × (refusal ≡ Rejected line)

      by : (verdict : Option ℕ) × HasVerdict catalogue query plan set bytes verdict → EndsOrLacks (judges_certificate catalogue query plan set bytes)
      by (None, verdict) = judges_accepts Accepts Refuses (codes "accepted\n") (verdict, refl)
      by (Some line, verdict) = judges_refuses Accepts Refuses (Rejected line) (record { cause = tt }) (line, verdict, refl)

  pub verifies_ends : EndsOrLacks (verifies_query (Some files) numbers file catalogue query)
  verifies_ends =
      ends_then (plans_query catalogue query) (λ plan. and_then (names_set plan numbers) (λ set. verifies_set (Some files) catalogue query plan file set))
      (plans_ends laws catalogue query) (λ plan goes.
      ends_then (names_set plan numbers) (λ set. verifies_set (Some files) catalogue query plan file set) (names_ends (length plan.atoms) numbers plan refl)
      (λ set _.
      ends_then (fetches (Some files) file DATA_LIMIT) (λ bytes. judges_certificate catalogue query plan set bytes)
      (fetches_ends files file DATA_LIMIT)
      (λ bytes _. certificate_ends plan (plan_of laws catalogue query plan goes) set bytes)))
