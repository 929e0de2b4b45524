-- Claims that are one.
use Rattle.std.proofs.Common.{◌≡◌, inl, inr, refl, sym, ap, ◌∙◌, subst}
use Rattle.esto_term.specs.declared.term.Term.{Term}
use Rattle.esto_semantics.specs.declared.fact.Fact.{Fact}
use Rattle.esto_chase_laws.specs.Worlds.{SaysOne}
use Rattle.esto_chase_laws.specs.Claims.{AreSameClaim}
use Rattle.esto_chase_laws.specs.declared.entry.Claim.{Claim}
use Rattle.esto_chase_laws.specs.declared.entry.Claim.TheVariants.{Fact as Stated, Same}

pub stated_same : (fact : Fact Term) (claim : Claim) → claim ≡ Stated fact → AreSameClaim (Stated fact) claim
stated_same fact claim is = subst (AreSameClaim (Stated fact)) (sym is) refl

pub same_stated : (fact : Fact Term) (claim : Claim) → AreSameClaim (Stated fact) claim → claim ≡ Stated fact
same_stated fact (Stated other) same = ap Stated (sym same)
same_stated fact (Same left right) same = absurd same

pub says_same : (left right : Term) (claim : Claim) → SaysOne claim left right → AreSameClaim (Same left right) claim
says_same left right claim (inl is) = subst (AreSameClaim (Same left right)) (sym is) (inl (refl, refl))
says_same left right claim (inr is) = subst (AreSameClaim (Same left right)) (sym is) (inr (refl, refl))

pub same_says : (left right : Term) (claim : Claim) → AreSameClaim (Same left right) claim → SaysOne claim left right
same_says left right (Stated fact) same = absurd same
same_says left right (Same one other) (inl same) = inl (λ i. Same (sym same.0 i) (sym same.1 i))
same_says left right (Same one other) (inr same) = inr (λ i. Same (sym same.1 i) (sym same.0 i))

-- two claims that are one with a third are one
pub same_both : (third claim other : Claim) → AreSameClaim third claim → AreSameClaim third other → AreSameClaim claim other
same_both (Stated fact) (Stated one) (Stated two) first second = sym first ∙ second
same_both (Stated fact) (Stated one) (Same left right) first second = absurd second
same_both (Stated fact) (Same left right) other first second = absurd first
same_both (Same left right) (Stated one) other first second = absurd first
same_both (Same left right) (Same a b) (Stated two) first second = absurd second
same_both (Same left right) (Same a b) (Same c d) (inl first) (inl second) = inl (sym first.0 ∙ second.0, sym first.1 ∙ second.1)
same_both (Same left right) (Same a b) (Same c d) (inl first) (inr second) = inr (sym first.0 ∙ second.0, sym first.1 ∙ second.1)
same_both (Same left right) (Same a b) (Same c d) (inr first) (inl second) = inr (sym first.1 ∙ second.1, sym first.0 ∙ second.0)
same_both (Same left right) (Same a b) (Same c d) (inr first) (inr second) = inl (sym first.1 ∙ second.1, sym first.0 ∙ second.0)

pub same_itself : (claim : Claim) → AreSameClaim claim claim
same_itself (Stated fact) = refl
same_itself (Same left right) = inl (refl, refl)

pub same_back : (claim other : Claim) → AreSameClaim claim other → AreSameClaim other claim
same_back claim other same = same_both claim other claim same (same_itself claim)
