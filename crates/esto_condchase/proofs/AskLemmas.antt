-- What is asked for.
use Rattle.std.proofs.Common.{◌≡◌, inl, inr, ℕ, Bool, List, [], ◌∷◌, ◌++◌, length, Contains, refl, sym, subst}
use Rattle.std.proofs.lemmas.List.Elements.{Contains-append_cases, Contains-append_left, Contains-append_right, Contains-push, Contains-push_cases}
use Rattle.esto_semantics.specs.Rules.{Rule}
use Rattle.esto_semantics.specs.declared.expanded.ExpandedFact.{ExpandedFact}
use Rattle.esto_term.proofs.ListLemmas.{Contains-nil}
use Rattle.esto_chase_laws.specs.Derived.{Follows}
use Rattle.esto_chase_laws.specs.declared.entry.Claim.{Claim}
use Rattle.esto_chase_laws.specs.declared.entry.Reason.{Reason}
use Rattle.esto_chase_laws.specs.declared.entry.Entry.{Entry}
use Rattle.esto_chase_laws.proofs.GrowLemmas.{InWorld-more, InWorld-within, IsCovered-more}
use Rattle.esto_condchase.specs.Rounds.{IsNoted, AsksMore}
use Rattle.esto_known.specs.Added.{IsThere, IsFollowing}
use Rattle.esto_known.proofs.CoverLemmas.{holds_covered}

-- more claims are there where entries grow
pub IsThere-grows : (entries more later : List Entry) → ((entry : Entry) → Contains more entry → Contains later entry) → (claim : Claim) (product : List Bool)
    → IsThere (entries ++ more) claim product → IsThere (entries ++ later) claim product
IsThere-grows entries more later kept claim product there atoms within =
    IsCovered-more (InWorld-more (entries ++ more) (entries ++ later) atoms (λ entry inside. elim (Contains-append_cases entries more entry inside) [
      | inl here ↦ Contains-append_left entries later entry here
      | inr last ↦ Contains-append_right entries later entry (kept entry last)
    ])) claim (there atoms within)

pub AsksMore-none : (rules : List Rule) (count : ℕ) (entries more : List Entry) → AsksMore rules count entries more more
AsksMore-none rules count entries more = record { kept = λ entry inside. inside; new = λ entry inside. inl inside }

pub AsksMore-then : (rules : List Rule) (count : ℕ) (entries one two three : List Entry) → AsksMore rules count entries one two
    → AsksMore rules count entries two three → AsksMore rules count entries one three
AsksMore-then rules count entries one two three first second = record {
  kept = λ entry inside. second.kept entry (first.kept entry inside);
  new = λ entry inside. elim (second.new entry inside) [ inl earlier ↦ first.new entry earlier | inr follows ↦ inr follows ];
}

module _ (rules : List Rule) (count : ℕ) (entries more later : List Entry) (entry : Entry) where
  -- one entry more that follows
  pub pushed_asks : later ≡ more ++ entry ∷ [] → IsFollowing rules count entries entry → AsksMore rules count entries more later
  pushed_asks is follows = record {
    kept = λ own inside. subst (λ its. Contains its own) (sym is) (Contains-append_left more (entry ∷ []) own inside);
    new = λ own inside. elim (Contains-push_cases more entry own (subst (λ its. Contains its own) is inside)) [
      | inl earlier ↦ inl earlier
      | inr same ↦ inr (subst (IsFollowing rules count entries) same follows)
    ];
  }

  -- and it is there
  pub pushed_there : later ≡ more ++ entry ∷ [] → IsThere (entries ++ later) entry.claim entry.product
  pushed_there is atoms within = holds_covered (entries ++ later) atoms entry.claim (
    entry,
    Contains-append_right entries later entry (subst (λ its. Contains its entry) (sym is) (Contains-push more entry)),
    within,
    refl,
  )

module _ (rules : List Rule) (count : ℕ) (entries more later : List Entry) (claim : Claim) (product : List Bool) (reason : Reason)
    (noted : IsNoted entries more claim product reason later) where
  -- what follows from the entries may be asked for
  pub noted_asks : length product ≡ count → ((expanded : List ExpandedFact) → Follows expanded rules entries claim product reason)
      → AsksMore rules count entries more later
  noted_asks counted follows = elim noted [
    | inl same ↦ subst (AsksMore rules count entries more) (sym same.1) (AsksMore-none rules count entries more)
    | inr is ↦ pushed_asks rules count entries more later (record { claim = claim; product = product; reason = reason }) is
        (record { follows = follows; counted = counted })
  ]

  pub noted_there : IsThere (entries ++ later) claim product
  noted_there = elim noted [
    | inl same ↦ λ atoms within. IsCovered-more (InWorld-more entries (entries ++ later) atoms
        (λ own inside. Contains-append_left entries later own inside)) claim
        (IsCovered-more (InWorld-within entries product atoms within) claim same.0)
    | inr is ↦ pushed_there rules count entries more later (record { claim = claim; product = product; reason = reason }) is
  ]

-- all that is asked for from nothing on follows
pub asked_follows_on : (rules : List Rule) (count : ℕ) (entries asked : List Entry) → AsksMore rules count entries [] asked → (entry : Entry)
    → Contains asked entry → IsFollowing rules count entries entry
asked_follows_on rules count entries asked asks entry inside = elim (asks.new entry inside) [
  | inl none ↦ absurd (Contains-nil entry none)
  | inr follows ↦ follows
]
