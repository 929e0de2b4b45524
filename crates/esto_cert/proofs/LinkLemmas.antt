-- Renamings tell what equalities link.
use Rattle.std.proofs.Common.{◌≡◌, ◌⊎◌, inl, inr, ℕ, ◌+◌, ◌<◌, ◌≤◌, Bool, true, false, cond, List, [], ◌∷◌, ◌++◌, take, length, get_or, subst, refl, sym, ap}
use Rattle.std.proofs.Common.{◌∙◌}
use Rattle.std.proofs.lemmas.List.{take_all}
use Rattle.std.proofs.lemmas.List.Elements.{Contains-append_left, Contains-append_right, Contains-append_cases}
use Rattle.std.specs.Bool.{Decides}
use Rattle.esto_term.proofs.ListLemmas.{Contains-nil, Contains-cases, Contains-head}
use Rattle.esto_term.proofs.PlaceLemmas.{take-item}
use Rattle.esto_term.specs.Order.{replaced, same_term}
use Rattle.esto_term.specs.declared.term.Term.{Term}
use Rattle.esto_semantics.proofs.TermLemmas.{same_term-Decides}
use Rattle.esto_semantics.specs.declared.fact.Fact.{Fact}
use Rattle.esto_chase_laws.specs.Worlds.{Linked, here, along, back}
use Rattle.esto_chase_laws.specs.declared.entry.Claim.{Claim}
use Rattle.esto_chase_laws.specs.declared.entry.Claim.TheVariants.{Fact as Stated, Same}
use Rattle.esto_chase_laws.proofs.LinkLemmas.{Linked-back, Linked-is, Linked-more, Linked-respects, Linked-then, one_link}
use Rattle.esto_cert.specs.Linking.{IsAmong, standing, Tells}
use Rattle.esto_cert.specs.declared.linking.Equality.{Equality}

-- links by links
pub Linked-through : {P Q : Claim → Type 0} → ((s t : Term) → P (Same s t) → Linked Q s t) → (s t : Term) → Linked P s t → Linked Q s t
Linked-through through s t here = here
Linked-through through s t (along holds linked) = Linked-then _ _ _ (through _ _ holds) (Linked-through through _ _ linked)
Linked-through through s t (back holds linked) = Linked-then _ _ _ (Linked-back _ _ (through _ _ holds)) (Linked-through through _ _ linked)

pub Linked-said : {P Q : Claim → Type 0} → ((s t : Term) → P (Same s t) → Q (Same s t)) → (s t : Term) → Linked P s t → Linked Q s t
Linked-said said = Linked-through (λ s t holds. one_link s t (said s t holds))

-- ---- one more renaming

standing-more : (renamings : List Equality) (last : Equality) (term : Term) → standing (renamings ++ last ∷ []) term
    ≡ replaced last.left last.right (standing renamings term)
standing-more [] last term = refl
standing-more (first ∷ rest) last term = standing-more rest last (replaced first.left first.right term)

-- what a term becomes, by whether it is the renamed one
replaced-cases : (from to term : Term) → ((term ≡ from) × (replaced from to term ≡ to)) ⊎ ((replaced from to term ≡ term))
replaced-cases from to term = by (same_term term from) (same_term-Decides term from) refl
  where
    by : (answer : Bool) → Decides answer (term ≡ from) → same_term term from ≡ answer
        → ((term ≡ from) × (replaced from to term ≡ to)) ⊎ (replaced from to term ≡ term)
    by true decides is = inl (decides.0 refl, ap (λ it. cond it to term) is)
    by false decides is = inr (ap (λ it. cond it to term) is)

replaced-left : (from to : Term) → replaced from to from ≡ to
replaced-left from to = ap (λ it. cond it to from) ((same_term-Decides from from).1 refl)

replaced-right : (from to : Term) → replaced from to to ≡ to
replaced-right from to = elim (replaced-cases from to to) [ inl is ↦ is.1 | inr is ↦ is ]

module _ (renamings equalities : List Equality) (facts : List (Fact Term)) (last : Equality) (tells : Tells renamings (IsAmong facts equalities)) where
  abbrev pub Before : Claim → Type 0
  Before = IsAmong facts equalities

  abbrev pub After : Claim → Type 0
  After = IsAmong facts (equalities ++ last ∷ [])

  abbrev pub renaming : Equality
  renaming = record { left = standing renamings last.left; right = standing renamings last.right }

  abbrev pub then : Term → Term
  then term = replaced (standing renamings last.left) (standing renamings last.right) (standing renamings term)

  kept : (claim : Claim) → Before claim → After claim
  kept (Stated fact) held = held
  kept (Same s t) held = Contains-append_left _ _ _ held

  joined : After (Same last.left last.right)
  joined = Contains-append_right equalities (last ∷ []) last (Contains-head last [])

  by_last : (s t : Term) → record { left = s; right = t } ≡ last → then s ≡ then t
  by_last s t is =
      ap (λ (it : Equality). then it.left) is ∙ replaced-left (standing renamings last.left) (standing renamings last.right)
      ∙ sym (replaced-right (standing renamings last.left) (standing renamings last.right)) ∙ sym (ap (λ (it : Equality). then it.right) is)

  one : (s t : Term) → After (Same s t) → then s ≡ then t
  one s t held =
      elim (Contains-append_cases equalities (last ∷ []) _ held) [
        | inl earlier ↦ ap (replaced (standing renamings last.left) (standing renamings last.right)) ((tells s t).0 (along earlier here))
        | inr new ↦ elim (Contains-cases last [] _ new) [ inl is ↦ by_last s t (sym is) | inr none ↦ absurd (Contains-nil _ none) ]
      ]

  linked : (s t : Term) → standing renamings s ≡ standing renamings t → Linked After s t
  linked s t is = Linked-more kept s t ((tells s t).1 is)

  across : (s t : Term) → standing renamings s ≡ standing renamings last.left → standing renamings t ≡ standing renamings last.right → Linked After s t
  across s t left right = Linked-then s last.left t (linked s last.left left) (along joined (linked last.right t (sym right)))

  apart : (s t : Term) → then s ≡ then t → Linked After s t
  apart s t same =
      elim (replaced-cases (standing renamings last.left) (standing renamings last.right) (standing renamings s)) [
        | inl left ↦ elim (replaced-cases (standing renamings last.left) (standing renamings last.right) (standing renamings t)) [
          | inl other ↦ linked s t (left.0 ∙ sym other.0)
          | inr stays ↦ across s t left.0 (sym stays ∙ sym same ∙ left.1)
        ]
        | inr kept_s ↦ elim (replaced-cases (standing renamings last.left) (standing renamings last.right) (standing renamings t)) [
          | inl other ↦ Linked-back t s (across t s other.0 (sym kept_s ∙ same ∙ other.1))
          | inr stays ↦ linked s t (sym kept_s ∙ same ∙ stays)
        ]
      ]

  stands : (s : Term) → standing (renamings ++ renaming ∷ []) s ≡ then s
  stands s = standing-more renamings renaming s

  pub tells_more : Tells (renamings ++ renaming ∷ []) (IsAmong facts (equalities ++ last ∷ []))
  tells_more s t = ((λ l. stands s ∙ Linked-respects then one s t l ∙ sym (stands t)), (λ same. apart s t (sym (stands s) ∙ same ∙ stands t)))

pub tells_nothing : (facts : List (Fact Term)) → Tells [] (IsAmong facts [])
tells_nothing facts s t = ((λ l. Linked-respects (λ term. term) (λ a b held. absurd (Contains-nil _ held)) s t l), (λ same. Linked-is s t same))

-- ---- the walk over equalities

module _ (facts : List (Fact Term)) (renamings equalities : List Equality) (place : ℕ) (tells : Tells renamings (IsAmong facts (take place equalities))) where
  pub tells_step : (later shown : List Equality) (last new : Equality) → place < length equalities → last ≡ get_or equalities place last → shown ≡ renamings
      → new ≡ record { left = standing shown last.left; right = standing shown last.right } → later ≡ renamings ++ new ∷ []
      → Tells later (IsAmong facts (take (place + 1) equalities))
  tells_step later shown last new within is same made_of pushed =
      let made : new ≡ record { left = standing renamings last.left; right = standing renamings last.right } =
      subst (λ (it : List Equality). new ≡ record { left = standing it last.left; right = standing it last.right }) same made_of in
      subst (λ (it : List Equality). Tells it (IsAmong facts (take (place + 1) equalities))) (sym (pushed ∙ ap (λ (it : Equality). renamings ++ it ∷ []) made))
      (subst (λ (it : List Equality). Tells (renamings ++ record { left = standing renamings last.left; right = standing renamings last.right } ∷ [])
      (IsAmong facts it))
      (sym (take-item equalities place last within is))
      (tells_more renamings (take place equalities) facts last tells))

  pub tells_end : length equalities ≤ place → Tells renamings (IsAmong facts equalities)
  tells_end past = subst (λ (it : List Equality). Tells renamings (IsAmong facts it)) (take_all place equalities past) tells
