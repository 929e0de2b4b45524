-- Where each rule has a least active match or is met, a state is an end or a step leads on from it.
use Rattle.std.proofs.Common.{◌≡◌, ◌⊎◌, inl, inr, ℕ, zero, suc, ◌<◌, Option, None, Some, List, map, length, Contains, slice_get, refl, sym, ap, ◌∙◌, subst}
use Rattle.std.proofs.Common.{arith}
use Rattle.std.specs.Ordering.{ordering_reverse}
use Rattle.std.specs.declared.cmp.Ordering.{Ordering}
use Rattle.std.specs.declared.cmp.Ordering.TheVariants.{Less, Equal as Same, Greater}
use Rattle.std.proofs.lemmas.Bool.{cases_lt, cases_eq}
use Rattle.std.proofs.lemmas.Option.{none-some, same_Some, slice_get_within}
use Rattle.esto_term.specs.Order.{term_cmp, replaced}
use Rattle.esto_term.specs.declared.term.Term.{Term}
use Rattle.esto_term.specs.declared.term.Term.TheVariants.{Const}
use Rattle.esto_term.proofs.CompareLemmas.{term_cmp-Equal, term_cmp-Plain-Const, term_cmp-Made-Const}
use Rattle.esto_term.proofs.ListLemmas.{Contains-at, place-from_Contains}
use Rattle.esto_term.proofs.OrderLemmas.{term_cmp_total}
use Rattle.esto_semantics.specs.Instances.{IsFinished}
use Rattle.esto_semantics.specs.Maps.{IsConstant}
use Rattle.esto_semantics.specs.Matches.{HasLeast}
use Rattle.esto_semantics.specs.Queries.{ConjunctiveQuery}
use Rattle.esto_semantics.specs.Rules.{Rule, tuple, equality, denial, MeetsInto}
use Rattle.esto_semantics.specs.declared.fact.Fact.{Fact}
use Rattle.esto_semantics.proofs.TermLemmas.{term_cases, constant_text, constant_text-told, constant_text-Const}
use Rattle.esto_chase_laws.specs.Joined.{joined}
use Rattle.esto_chase_laws.specs.Making.{made_facts}
use Rattle.esto_chase_laws.specs.RunLaws.{IsDecidedAt}
use Rattle.esto_chase_laws.specs.Runs.{Step, added, merged, AreSides, IsNext, IsStep, IsEnd, kind_of, replaced_facts}
use Rattle.esto_chase_laws.specs.declared.clash.Clash.TheVariants.{Equal, Denied}
use Rattle.esto_chase_laws.proofs.NextLemmas.{met_has_no_match}

-- what is less than a constant is one
pub lesser_of_constant : (term : Term) (text : List ℕ) → term_cmp term (Const text) ≡ Less → IsConstant term
lesser_of_constant = term_cases (λ term. (text : List ℕ) → term_cmp term (Const text) ≡ Less → IsConstant term)
    (λ here text less. (here, refl))
    (λ number text less. let wrong : ◌≡◌ {A = Ordering} Greater Less = sym (term_cmp-Plain-Const number text) ∙ less in absurd (cc))
    (λ r v fs text less. let wrong : ◌≡◌ {A = Ordering} Greater Less = sym (term_cmp-Made-Const r v fs text) ∙ less in absurd (cc))

module _ (rules : List Rule) (now : ConjunctiveQuery) where
  abbrev GoesOn : Type 0
  GoesOn = IsEnd rules now ⊎ ((step : Step) × (next : ConjunctiveQuery) × IsStep rules now step next)

  abbrev Met : Rule → Type 0
  Met rule = MeetsInto Const ◌≡◌ (Contains now.body) rule

  -- ---- what comes of the match that is next

  module _ (number : ℕ) (body : List (Fact Term)) (left right : Term) (m : Term → Term) (places : List ℕ)
      (is_next : IsNext rules now.body number (equality body left right) m places) where
    clash_or_merge : (to from : Term) → AreSides m left right to from → term_cmp to from ≡ Less → GoesOn
    clash_or_merge to from sides lesser = by (constant_text from) refl
      where
        clash : (one other : List ℕ) → to ≡ Const one → from ≡ Const other → GoesOn
        clash one other is_to is_from = inl (inr (
          Equal one other,
          record {
            number = number;
            body = body;
            left = left;
            right = right;
            m = m;
            places = places;
            is_next = is_next;
            sides = subst (λ (it : Term × Term). AreSides m left right it.0 it.1) (λ i. (is_to i, is_from i)) sides;
            lesser = sym (λ i. term_cmp (is_to i) (is_from i)) ∙ lesser;
          },
        ))

        by : (found : Option (List ℕ)) → constant_text from ≡ found → GoesOn
        by (Some text) told =
            let is : from ≡ Const text = sym (constant_text-told from text told) in
            let constant = lesser_of_constant to text (subst (λ it. term_cmp to it ≡ Less) is lesser) in
            clash constant.0 text constant.1 is
        by None told = inr (
          merged number m places from to,
          record { head = map (replaced from to) now.head; body = replaced_facts from to now.body },
          record {
            body = body;
            left = left;
            right = right;
            is_next = is_next;
            sides = sides;
            lesser = lesser;
            no_constant = λ constant. none-some constant.0 (sym told ∙ ap constant_text constant.1 ∙ constant_text-Const constant.0);
            facts = refl;
            replaced_head = refl;
          },
        )

    at_equality : GoesOn
    at_equality = by (term_cmp (m left) (m right)) refl
      where
        by : (order : Ordering) → term_cmp (m left) (m right) ≡ order → GoesOn
        by Less told = clash_or_merge (m left) (m right) (inl (refl, refl)) told
        by Same told = absurd (is_next.active.active ((term_cmp-Equal (m left) (m right)).0 told))
        by Greater told = clash_or_merge (m right) (m left) (inr (refl, refl)) (term_cmp_total.antisymm (m right) (m left) ∙ ap ordering_reverse told)

  at_rule : (rule : Rule) (number : ℕ) (m : Term → Term) (places : List ℕ) → IsNext rules now.body number rule m places → GoesOn
  at_rule (tuple body head) number m places is_next = inr (
    added number m places,
    record { head = now.head; body = joined now.body (made_facts number body head m) },
    record { body = body; head = head; is_next = is_next; facts = refl; kept_head = refl },
  )
  at_rule (equality body left right) number m places is_next = at_equality number body left right m places is_next
  at_rule (denial body) number m places is_next = inl (inr (Denied number, record { body = body; m = m; places = places; is_next = is_next }))

  -- ---- the first rule that has an active match

  module _ (decided : (rule : Rule) → Contains rules rule → IsDecidedAt now.body rule) where
    -- the facts meet each rule of the kind with a lower number
    abbrev MetBelow : ℕ → ℕ → Type 0
    MetBelow kind bound = (number : ℕ) (rule : Rule) → number < bound → slice_get rules number ≡ Some rule → kind_of rule ≡ kind → Met rule

    -- the first rule of the kind that they don't meet
    record FirstOf (kind : ℕ) : Type 0 where
      number : ℕ
      rule : Rule
      there : slice_get rules number ≡ Some rule
      is_kind : kind_of rule ≡ kind
      least : HasLeast rule now.body
      before : MetBelow kind number

    one_more : (kind bound : ℕ) → MetBelow kind bound → ((rule : Rule) → slice_get rules bound ≡ Some rule → kind_of rule ≡ kind → Met rule)
        → MetBelow kind (suc bound)
    one_more kind bound met last number rule below there is_kind = elim (cases_lt number bound) [
      | inl less ↦ met number rule less there is_kind
      | inr above ↦ let same : number ≡ bound = omega (arith, below, above) in last rule (subst (λ it. slice_get rules it ≡ Some rule) same there) is_kind
    ]

    at_bound : (kind bound : ℕ) → MetBelow kind bound → (found : Option Rule) → slice_get rules bound ≡ found → FirstOf kind ⊎ MetBelow kind (suc bound)
    at_bound kind bound met None told = inr (one_more kind bound met (λ rule there is_kind. absurd (none-some rule (sym told ∙ there))))
    at_bound kind bound met (Some rule) told = elim (cases_eq (kind_of rule) kind) [
      | inl is_kind ↦ elim (decided rule (Contains-at rules bound rule told)) [
        | inl least ↦ inl (record { number = bound; rule = rule; there = told; is_kind = is_kind; least = least; before = met })
        | inr meets ↦ inr (one_more kind bound met (λ other there other_kind. subst Met (same_Some rule other (sym told ∙ there)) meets))
      ]
      | inr other_kind ↦ inr (one_more kind bound met (λ other there is_kind.
          absurd (other_kind (ap kind_of (same_Some rule other (sym told ∙ there)) ∙ is_kind))))
    ]

    search : (kind bound : ℕ) → FirstOf kind ⊎ MetBelow kind bound
    search kind zero = inr (λ number rule below. absurd (omega (arith, below)))
    search kind (suc bound) = elim (search kind bound) [
      | inl found ↦ inl found
      | inr met ↦ at_bound kind bound met (slice_get rules bound) refl
    ]

    at_first : (kind : ℕ) → ((lesser : ℕ) → lesser < kind → MetBelow lesser (length rules)) → FirstOf kind → GoesOn
    at_first kind lower found = by found.least
      where
        by : HasLeast found.rule now.body → GoesOn
        by (m, places, active, least) = at_rule found.rule found.number m places (record {
          there = found.there;
          active = active;
          first = λ number other there before other_map others other_active. elim before [
            | inl below ↦
                let lesser = subst (λ it. kind_of other < it) found.is_kind below in
                let meets = lower (kind_of other) lesser number other (slice_get_within rules number other there) there refl in
                met_has_no_match other now.body other_map others meets other_active
            | inr tie ↦ met_has_no_match other now.body other_map others (found.before number other tie.1 there (tie.0 ∙ found.is_kind)) other_active
          ];
          least = least;
        })

    below_one : MetBelow 0 (length rules) → (lesser : ℕ) → lesser < 1 → MetBelow lesser (length rules)
    below_one equalities zero less = equalities
    below_one equalities (suc more) less = absurd (omega (arith, less))

    below_two : MetBelow 0 (length rules) → MetBelow 1 (length rules) → (lesser : ℕ) → lesser < 2 → MetBelow lesser (length rules)
    below_two equalities denials zero less = equalities
    below_two equalities denials (suc zero) less = denials
    below_two equalities denials (suc (suc more)) less = absurd (omega (arith, less))

    all_met : MetBelow 0 (length rules) → MetBelow 1 (length rules) → MetBelow 2 (length rules) → IsFinished rules now
    all_met equalities denials tuples rule inside = by rule (place-from_Contains rules rule inside)
      where
        by : (rule : Rule) → ((number : ℕ) × (slice_get rules number ≡ Some rule)) → Met rule
        by (tuple body head) (number, there) = tuples number (tuple body head) (slice_get_within rules number (tuple body head) there) there refl
        by (equality body left right) (number, there) =
            equalities number (equality body left right) (slice_get_within rules number (equality body left right) there) there refl
        by (denial body) (number, there) = denials number (denial body) (slice_get_within rules number (denial body) there) there refl

    pub goes_on : IsEnd rules now ⊎ ((step : Step) × (next : ConjunctiveQuery) × IsStep rules now step next)
    goes_on = elim (search 0 (length rules)) [
      | inl found ↦ at_first 0 (λ lesser less. absurd (omega (arith, less))) found
      | inr equalities ↦ elim (search 1 (length rules)) [
        | inl found ↦ at_first 1 (below_one equalities) found
        | inr denials ↦ elim (search 2 (length rules)) [
          | inl found ↦ at_first 2 (below_two equalities denials) found
          | inr tuples ↦ inl (inl (all_met equalities denials tuples))
        ]
      ]
    ]
