-- The entries that are used, directly or through reasons.
use Rattle.std.proofs.Common.{◌≡◌, ◌⊎◌, ◌↔◌, inl, inr, ℕ, ◌+◌, ◌<◌, ◌≤◌, Bool, List, take, slice_get, Some, Contains, All, subst, refl, sym, ap, ◌∙◌, arith}
use Rattle.std.proofs.Common.{zero, suc}
use Rattle.std.proofs.lemmas.List.{length-take}
use Rattle.std.proofs.lemmas.List.Elements.{All-weaker, All-contains_itself}
use Rattle.std.proofs.lemmas.Option.{same_Some}
use Rattle.esto_term.proofs.ListLemmas.{Contains-nil}
use Rattle.esto_term.proofs.PlaceLemmas.{at_before}
use Rattle.esto_term.specs.Sets.{Has, Within}
use Rattle.esto_chase_laws.specs.Derived.{IsUnion}
use Rattle.esto_chase_laws.specs.WorldLaws.{AreReasoned, IsReasoned}
use Rattle.esto_chase_laws.specs.declared.entry.Entry.{Entry}
use Rattle.esto_chase_laws.specs.declared.entry.Reason.{Reason}
use Rattle.esto_chase_laws.specs.declared.entry.Reason.TheVariants.{Expanded, Step, Equal}
use Rattle.esto_derive.specs.Marking.{named_by, AddsNamed, AreUsed, AreUsedWithin, Closes, IsNamedByUsed}

pub all_below : (count : ℕ) (places : List ℕ) → ((place : ℕ) → Contains places place → place < count) → All (λ place. place < count) places
all_below count places below = All-weaker (Contains places) (λ place. place < count) below places (All-contains_itself places)

pub same_or_later : (place number : ℕ) → place ≤ number → (number ≡ place) ⊎ (place + 1 ≤ number)
same_or_later zero zero from = inl refl
same_or_later zero (suc number) from = inr (omega arith)
same_or_later (suc place) zero from = absurd (omega (arith, from))
same_or_later (suc place) (suc number) from = elim (same_or_later place number (omega (arith, from))) [
  | inl same ↦ inl (ap suc same)
  | inr later ↦ inr (omega (arith, later))
]

-- a reason that names an entry is one of a union
named_union : (entries : List Entry) (product : List Bool) (reason : Reason) → IsReasoned entries product reason → (place : ℕ)
    → Contains (named_by reason) place → IsUnion entries (named_by reason) product
named_union entries product (Expanded atom at) is place inside = absurd (Contains-nil place inside)
named_union entries product (Step number places) is place inside = is
named_union entries product (Equal places) is place inside = is

-- each entry that is named is an earlier one
abbrev pub NamesEarlier : ℕ → Entry → Type 0
NamesEarlier place entry = (named : ℕ) → Contains (named_by entry.reason) named → named < place

module _ (entries : List Entry) (reasoned : AreReasoned entries) (place : ℕ) (entry : Entry) (at : slice_get entries place ≡ Some entry) where
  union : (named : ℕ) → Contains (named_by entry.reason) named → IsUnion (take place entries) (named_by entry.reason) entry.product
  union named inside = named_union (take place entries) entry.product entry.reason (reasoned.reasoned place entry at) named inside

  pub named_before : NamesEarlier place entry
  named_before named inside = omega (arith, (union named inside).there named inside, length-take place entries)

  named_within : (named : ℕ) (other : Entry) → Contains (named_by entry.reason) named → slice_get entries named ≡ Some other
      → Within other.product entry.product
  named_within named other inside other_at number has =
      ((union named inside).exact number).1 (named, other, inside, at_before entries named place other (named_before named inside) other_at, has)

  module _ (old new : List Bool) (adds : AddsNamed place entry old new) where
    keeps : (number : ℕ) → Has old number → Has new number
    keeps number has = (adds number).1 (inl has)

    -- all that stands at the place or later names what is used, and what is used stays within a set
    pub closed_on : ((at_place : ℕ) (its : Entry) → place + 1 ≤ at_place → slice_get entries at_place ≡ Some its → Has old at_place
        → (named : ℕ) → Contains (named_by its.reason) named → Has old named)
        → (at_place : ℕ) (its : Entry) → place ≤ at_place → slice_get entries at_place ≡ Some its → Has new at_place
        → (named : ℕ) → Contains (named_by its.reason) named → Has new named
    closed_on closed at_place its from its_at has named inside = elim ((adds at_place).0 has) [
      | inl had ↦ elim (is_later at_place from) [
        | inl same ↦ (adds named).1 (inr (
          subst (λ (it : ℕ). Has old it) same had,
          subst (λ (it : Entry). Contains (named_by it.reason) named)
              (same_Some its entry (sym its_at ∙ ap (λ (it : ℕ). slice_get entries it) same ∙ at)) inside,
        ))
        | inr later ↦ keeps named (closed at_place its later its_at had named inside)
      ]
      | inr (had, its_named) ↦ absurd (omega (arith, from, named_before at_place its_named))
    ]
      where
        is_later : (number : ℕ) → place ≤ number → (number ≡ place) ⊎ (place + 1 ≤ number)
        is_later number from = same_or_later place number from

    -- what is used beside the first ones is named by a used entry
    pub only_on : (first : List Bool) → ((number : ℕ) → Has old number → Has first number ⊎ IsNamedByUsed entries old number)
        → (number : ℕ) → Has new number → Has first number ⊎ IsNamedByUsed entries new number
    only_on first only number has = elim ((adds number).0 has) [
      | inl had ↦ elim (only number had) [
        | inl is ↦ inl is
        | inr (by, its, its_at, by_has, inside) ↦ inr (by, its, its_at, keeps by by_has, inside)
      ]
      | inr (had, inside) ↦ inr (place, entry, at, keeps place had, inside)
    ]

    pub within_on : (set : List Bool) → AreUsedWithin entries set old → AreUsedWithin entries set new
    within_on set within at_place its its_at has number holds = elim ((adds at_place).0 has) [
      | inl had ↦ within at_place its its_at had number holds
      | inr (had, its_named) ↦ within place entry at had number (named_within at_place its its_named its_at number holds)
    ]

-- ---- facts and links

pub used_with : (entries : List Entry) (facts links : List ℕ) (old mid new : List Bool) → ((place : ℕ) → Has old place ↔ Contains facts place)
    → ((place : ℕ) → Has mid place ↔ (Has old place ⊎ Contains links place)) → Closes entries mid new → AreUsed entries facts links new
used_with entries facts links old mid new are adds closes = record {
  has_facts = λ place inside. closes.keeps place ((adds place).1 (inl ((are place).1 inside)));
  has_links = λ place inside. closes.keeps place ((adds place).1 (inr inside));
  only = λ place has. elim (closes.only place has) [
    | inl first ↦ inl (either place first)
    | inr named ↦ inr named
  ];
  closed = closes.closed;
  within = λ set each. closes.within set (λ place entry at has. each place entry (either place has) at);
}
  where
    either : (place : ℕ) → Has mid place → Contains facts place ⊎ Contains links place
    either place has = elim ((adds place).0 has) [ inl before ↦ inl ((are place).0 before) | inr inside ↦ inr inside ]
