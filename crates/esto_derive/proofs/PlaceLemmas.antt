-- The place at which a rule makes a claim.
use Rattle.std.proofs.Common.{◌≡◌, ℕ, ◌+◌, ◌<◌, List, Option, Some, None, option_map, length, subst, refl, sym, ap, ◌∙◌}
use Rattle.esto_term.proofs.ListLemmas.{place-from_Contains}
use Rattle.esto_term.specs.declared.term.Term.{Term}
use Rattle.esto_semantics.specs.Facts.{image}
use Rattle.esto_semantics.specs.Rules.{tuple}
use Rattle.esto_semantics.specs.declared.fact.Fact.{Fact}
use Rattle.esto_chase_laws.specs.Making.{extended}
use Rattle.esto_chase_laws.specs.Claims.{AreSameClaim}
use Rattle.esto_chase_laws.specs.WorldSteps.{IsAsked}
use Rattle.esto_chase_laws.specs.declared.entry.Claim.{Claim}
use Rattle.esto_chase_laws.specs.declared.entry.Claim.TheVariants.{Fact as Stated, Same}
use Rattle.esto_cert.specs.Certificates.{made_at, numbered}
use Rattle.std.proofs.lemmas.Option.{slice_get_within}
use Rattle.esto_cert.proofs.NumberLemmas.{numbered_next}
use Rattle.esto_derive.specs.Placing.{Makes}

-- what is made of a place is a fact
made_fact : {A : Type 0} (f : A → Fact Term) (option : Option A) (made claim : Claim) → option_map (λ it. Stated (f it)) option ≡ Some made
    → AreSameClaim made claim → option_map (λ it. Stated (f it)) option ≡ Some claim
made_fact f None made claim is same = absurd (let wrong = is in cc)
made_fact f (Some it) (Stated fact) (Stated other) is same = is ∙ ap (λ (its : Fact Term). Some (Stated its)) same
made_fact f (Some it) (Stated fact) (Same left right) is same = absurd same
made_fact f (Some it) (Same left right) claim is same = absurd (let wrong = is in cc)

module _ (number : ℕ) (body head : List (Fact Term)) (m : Term → Term) (claim : Claim) where
  pub made_exactly : (place : ℕ) → Makes place number (tuple body head) m claim → made_at place number (tuple body head) m ≡ Some claim
  made_exactly place (made, is, same) = made_fact (λ atom. image (extended number body head m) atom) (numbered head place) made claim is same

  pub asked_at : IsAsked number (tuple body head) m claim → (at : ℕ) × (at < length head) × Makes (at + 1) number (tuple body head) m claim
  asked_at (atom, inside, is) =
      let at = place-from_Contains head atom inside in (
        at.0,
        slice_get_within head at.0 atom at.1,
        (
          Stated (image (extended number body head m) atom),
          ap (option_map (λ (it : Fact Term). Stated (image (extended number body head m) it))) (numbered_next head at.0 ∙ at.1),
          subst (AreSameClaim (Stated (image (extended number body head m) atom))) (sym is) refl,
        ),
      )
