-- What completions cover, and that the minimal ones are the minimal executable sets in which it holds.
use Rattle.std.proofs.Common.{◌≡◌, ◌↔◌, ℕ, ◌<◌, Bool, false, List, [], ◌∷◌, map, length, replicate, slice_index_or, Contains, sym, ap, ◌∙◌, subst, inl, inr}
use Rattle.std.proofs.Common.{arith}
use Rattle.std.proofs.lemmas.List.{length-replicate}
use Rattle.std.proofs.lemmas.List.Elements.{All-contains, Contains-append_cases, Contains-get_or}
use Rattle.esto_term.specs.declared.term.Term.{Term}
use Rattle.esto_term.proofs.ListLemmas.{Contains-cases, Contains-head, Contains-map, Contains-map_from, Contains-nil, Contains-rest, thing_at}
use Rattle.esto_semantics.specs.declared.fact.Fact.{Fact}
use Rattle.esto_semantics.specs.Access.{Patterns, HoldsExecutably, HoldsOfPart}
use Rattle.esto_semantics.specs.AccessLaws.{PartExists}
use Rattle.esto_term.specs.Sets.{Has, Covers, IsMinimal, TellHolds, numbers, united}
use Rattle.esto_semantics.proofs.AccessLawLemmas.{minimal_of_parts, part_is_one}
use Rattle.esto_term.proofs.SetLemmas.{length-united, numbers_have, Has-within}
use Rattle.esto_bits.specs.Kept.{Kept, AreOver, IsAntichain, unions}
use Rattle.esto_bits.proofs.FamilyLemmas.{antichain_is_minimal, told_are_minimal}
use Rattle.esto_bits.proofs.JoinLemmas.{covers_append, covers_none, covers_unions}
use Rattle.esto_access.specs.Supplies.{AreAccessProducts, EachIs, IsReachedIn, IsSupplied, sets_at}
use Rattle.esto_access.proofs.NeedLemmas.{none_within, sets_there, supplied_from}
use Rattle.esto_access.specs.Completion.{AreAccessSupplies, HaveOwn, IsCompletedIn, IsOneCompletedIn, MinimalCompletions, combined, completions}
use Rattle.esto_access.specs.Completion.{completions_of}

-- ---- what the completions cover

covers_combined : (count : ℕ) (families : List (List (List Bool))) (set : List Bool)
    → Covers (combined count families) set ↔ ((family : List (List Bool)) → Contains families family → Covers family set)
covers_combined count [] set =
    (λ _ family inside. absurd (Contains-nil family inside), λ _. (replicate count false, Contains-head (replicate count false) [], none_within count set))
covers_combined count (first ∷ families) set =
    let rest = covers_combined count families set in
    let both = covers_unions first (combined count families) set in (
      λ h family inside. elim (Contains-cases first families family inside)
          [ inl is ↦ subst (λ it. Covers it set) is (both.0 h).0 | inr later ↦ rest.0 (both.0 h).1 family later ],
      λ each. both.1 (each first (Contains-head first families), rest.1 (λ family inside. each family (Contains-rest first families family inside))),
    )

covers_completions_of : (count : ℕ) (supplies : List Kept) (low set : List Bool)
    → Covers (completions_of count supplies low) set ↔ IsCompletedIn supplies low set
covers_completions_of count supplies low set =
    let all = covers_combined count (map (sets_at supplies) (numbers low)) set in (
      λ h number has. all.0 h (sets_at supplies number) (Contains-map (sets_at supplies) (numbers low) number ((numbers_have low number).1 has)),
      λ each. all.1 (λ family inside.
          let from = Contains-map_from (sets_at supplies) (numbers low) family inside in
          subst (λ it. Covers it set) from.2 (each from.0 ((numbers_have low from.0).0 from.1))),
    )

pub covers_completions : (count : ℕ) (supplies : List Kept) (lows : List (List Bool)) (set : List Bool)
    → Covers (completions count supplies lows) set ↔ IsOneCompletedIn supplies lows set
covers_completions count supplies [] set = (λ h. absurd (covers_none set h), λ h. absurd (Contains-nil h.0 h.1))
covers_completions count supplies (first ∷ lows) set =
    let rest = covers_completions count supplies lows set in
    let own = covers_completions_of count supplies first set in
    let both = covers_append (completions_of count supplies first) (completions count supplies lows) set in (
      λ h. elim (both.0 h) [
        | inl here ↦ (first, Contains-head first lows, own.0 here)
        | inr later ↦ (let found = rest.0 later in (found.0, Contains-rest first lows found.0 found.1, found.2))
      ],
      λ (low, inside, completed). both.1 (elim (Contains-cases first lows low inside) [
        | inl is ↦ inl (own.1 (subst (λ it. IsCompletedIn supplies it set) (sym is) completed))
        | inr later ↦ inr (rest.1 (low, later, completed))
      ]),
    )

-- ---- they are of the count

module _ (count : ℕ) where
  abbrev AreOf : List (List Bool) → Type 0
  AreOf family = (set : List Bool) → Contains family set → length set ≡ count

  unions-count : (family others : List (List Bool)) → AreOf family → AreOf others → AreOf (unions family others)
  unions-count [] others own other_own set inside = absurd (Contains-nil set inside)
  unions-count (one ∷ family) others own other_own set inside = elim (Contains-append_cases (map (united one) others) (unions family others) set inside) [
    | inl here ↦ (let from = Contains-map_from (united one) others set here in
        let first : length one ≡ count = own one (Contains-head one family) in
        sym (ap length from.2) ∙ length-united one from.0 (first ∙ sym (other_own from.0 from.1)) ∙ first)
    | inr later ↦ unions-count family others (λ it there. own it (Contains-rest one family it there)) other_own set later
  ]

  combined-count : (families : List (List (List Bool))) → ((family : List (List Bool)) → Contains families family → AreOf family)
      → AreOf (combined count families)
  combined-count [] own set inside = elim (Contains-cases (replicate count false) [] set inside)
      [ inl is ↦ sym (ap length is) ∙ length-replicate count false | inr later ↦ absurd (Contains-nil set later) ]
  combined-count (first ∷ families) own set inside =
      unions-count first (combined count families) (own first (Contains-head first families))
      (combined-count families (λ family there. own family (Contains-rest first families family there))) set inside

  module _ (supplies : List Kept) (over : EachIs (λ _ products. AreOf products.sets) supplies) where
    supplied-count : (number : ℕ) → AreOf (sets_at supplies number)
    supplied-count number set inside =
        let from = supplied_from supplies set number (set, inside, λ _ has. has) in
        over number from.0 from.1 set (subst (λ its. Contains its set) (sets_there supplies number from.0 from.1) inside)

    completions-count : (lows : List (List Bool)) → AreOf (completions count supplies lows)
    completions-count [] set inside = absurd (Contains-nil set inside)
    completions-count (first ∷ lows) set inside = elim
        (Contains-append_cases (completions_of count supplies first) (completions count supplies lows) set inside) [
          | inl here ↦ combined-count (map (sets_at supplies) (numbers first)) (λ family there it at.
              let from = Contains-map_from (sets_at supplies) (numbers first) family there in supplied-count from.0 it
              (subst (λ fam. Contains fam it) (sym from.2) at)) set here
          | inr later ↦ completions-count lows set later
        ]

    pub completions-over : (lows : List (List Bool)) → AreOver count (completions count supplies lows)
    completions-over lows k d below = completions-count lows (slice_index_or (completions count supplies lows) k d)
        (Contains-get_or (completions count supplies lows) k d below)

-- an antichain that covers where one of the low sets is completed has the minimal completions
pub completed_is_minimal : (count : ℕ) (supplies : List Kept) → EachIs (λ _ products. AreOver count products.sets) supplies → (lows found : List (List Bool))
    → AreOver count found → IsAntichain found
    → ((set : List Bool) → Covers found set ↔ IsOneCompletedIn supplies lows set) → (set : List Bool)
    → Contains found set ↔ IsMinimal (Contains (completions count supplies lows)) set
completed_is_minimal count supplies over lows found found_over antichain covers set =
    let each : EachIs (λ _ products. AreOf count products.sets) supplies =
    (λ number products at it inside. All-contains (λ one. length one ≡ count) products.sets it (over number products at) inside) in
    let own = antichain_is_minimal count P (λ it h. h.0) found found_over (λ it l. (λ h. (l, (covers it).0 h), λ h. (covers it).1 h.1)) antichain set in
    let told = told_are_minimal count P (λ it h. h.0) (completions count supplies lows) (completions-over count supplies each lows)
    (λ it l. let all = covers_completions count supplies lows it in (λ h. (l, all.0 h), λ h. all.1 h.1)) set in
    (λ inside. told.0 (own.0 inside), λ minimal. own.1 (told.1 minimal))
  where
    P : List Bool → Type 0
    P it = (length it ≡ count) × IsOneCompletedIn supplies lows it

-- ---- the law

module _ (exist : PartExists) (patterns : Patterns) (atoms : List (Fact Term)) (P : List Bool → Type 0) (sets : List (List Bool))
    (tells : TellHolds (length atoms) P sets)
    (supplies : List Kept) (are : AreAccessSupplies patterns atoms supplies) where
  supplied : (set : List Bool) → length set ≡ length atoms → (number : ℕ) → number < length atoms
      → IsSupplied supplies set number ↔ IsReachedIn patterns atoms number set
  supplied set over number below =
      let there = thing_at supplies number (omega (arith, are.each, below)) in
      subst (λ its. Covers its set ↔ IsReachedIn patterns atoms number set) (sym (sets_there supplies number there.0 there.1))
      (are.tell number there.0 there.1 set over)

  -- one of the sets is completed in a set of the atoms exactly where P holds of its accessible part
  completed_tells : (set : List Bool) → length set ≡ length atoms → IsOneCompletedIn supplies sets set ↔ HoldsOfPart patterns atoms P set
  completed_tells set over =
      let part = exist patterns atoms set in
      let part_over : length part.0 ≡ length atoms = ((part.1).executable.1).over in (
        λ (low, inside, completed). record {
          over = over;
          part = part.0;
          is_part = part.1;
          holds = (tells part.0 part_over).0 (
            low,
            inside,
            λ number has.
                let from = supplied_from supplies set number (completed number has) in
                let found = (are.tell number from.0 from.1 set over).0 from.2 in
                subst (λ it. Has it number) (part_is_one patterns atoms set found.part part.0 found.is_part part.1) found.has,
          );
        },
        λ of_part.
            let part_is : length of_part.part ≡ length atoms = ((of_part.is_part).executable.1).over in
            let low = (tells of_part.part part_is).1 of_part.holds in (
              low.0,
              low.1,
              λ number has.
                  let within = low.2 number has in
                  (supplied set over number (subst (λ n. number < n) part_is (Has-within of_part.part number within))).1
                  (record { over = over; part = of_part.part; is_part = of_part.is_part; has = within }),
            ),
      )

  pub executable_by_completion : (set : List Bool)
      → IsMinimal (HoldsExecutably patterns atoms P) set ↔ IsMinimal (Contains (completions (length atoms) supplies sets)) set
  executable_by_completion set =
      let parts = minimal_of_parts patterns atoms P set in
      let each : EachIs (λ _ products. AreOf (length atoms) products.sets) supplies =
      (λ number products at it inside. (((are.least number products at it).0 inside).0).over) in
      let told = told_are_minimal (length atoms) (HoldsOfPart patterns atoms P) (λ it of_part. of_part.over) (completions (length atoms) supplies sets)
      (completions-over (length atoms) supplies each sets)
      (λ it over.
      let covered = covers_completions (length atoms) supplies sets it in
      let tell = completed_tells it over in
      (λ h. tell.0 (covered.0 h), λ h. covered.1 (tell.1 h))) set in
      (λ minimal. told.0 (parts.0 minimal), λ minimal. parts.1 (told.1 minimal))

pub minimal_completions : PartExists → (patterns : Patterns) (atoms : List (Fact Term)) (P : List Bool → Type 0) → MinimalCompletions patterns atoms P
minimal_completions exist patterns atoms P sets supplies tells are = executable_by_completion exist patterns atoms P sets tells supplies are

-- ---- access products are of the count, and have their own atom

module _ (patterns : Patterns) (atoms : List (Fact Term)) (supplies : List Kept)
    (least : EachIs (λ number products. AreAccessProducts patterns atoms number products.sets) supplies) where
  pub products-over : (count : ℕ) → length atoms ≡ count → EachIs (λ _ products. AreOver count products.sets) supplies
  products-over count same number products at k d below =
      (((least number products at (slice_index_or products.sets k d)).0 (Contains-get_or products.sets k d below)).0).over ∙ same

  pub products_are_own : HaveOwn supplies
  products_are_own number products at set inside = let reached = ((least number products at set).0 inside).0 in (reached.is_part).within number reached.has
