-- What every plan keeps.
use Rattle.std.proofs.Common.{◌≡◌, inl, inr, ℕ, ◌<◌, List, length, refl, sym, arith}
use Rattle.std.specs.Coded.{le_prop}
use Rattle.std.proofs.Math.Logic.{∥∥₁_elim}
use Rattle.esto_term.specs.declared.term.Term.{Term}
use Rattle.esto_term.specs.declared.term.Term.TheVariants.{Plain, Made}
use Rattle.esto_query.specs.declared.query.Name.{Name}
use Rattle.esto_semantics.proofs.TermLemmas.{term_cases, Const-apart-Plain, Const-apart-Made, Plain-apart-Made, Plain-same}
use Rattle.esto_views.specs.Soundness.{IsNamed, IsSoundPlan}
use Rattle.esto_views.specs.declared.plan.PlanAtom.{PlanAtom}

pub named-Plain : (names : List Name) (number : ℕ) → IsNamed names (Plain number) → number < length names
named-Plain names number (inl constant) = absurd (Const-apart-Plain constant.0 number (sym constant.1))
named-Plain names number (inr (other, is, within)) = let same : number ≡ other = Plain-same number other is in omega arith

named-Made : (names : List Name) (rule variable : ℕ) (frontier : List Term) → IsNamed names (Made rule variable frontier) → ⊥
named-Made names rule variable frontier (inl constant) = Const-apart-Made constant.0 rule variable frontier (sym constant.1)
named-Made names rule variable frontier (inr (number, is, within)) = Plain-apart-Made number rule variable frontier (sym is)

-- a term that is named where something holds that merely holds
named_known : (names : List Name) (P : Type 0) → ∥ P ∥₁ → (term : Term) → (P → IsNamed names term) → IsNamed names term
named_known names P known = term_cases (λ term. (P → IsNamed names term) → IsNamed names term)
    (λ text named. inl (text, refl))
    (λ number named. inr (number, refl, ∥∥₁_elim known le_prop (λ holds. named-Plain names number (named holds))))
    (λ rule variable frontier named. absurd (∥∥₁_elim known (λ p q. absurd p) (λ holds. named-Made names rule variable frontier (named holds))))

pub sound_of : (atoms : List PlanAtom) (head : List Term) (names : List Name) → ∥ IsSoundPlan atoms head names ∥₁ → IsSoundPlan atoms head names
sound_of atoms head names known = record {
  has_head = λ none. ∥∥₁_elim known (λ p q. absurd p) (λ sound. sound.has_head none);
  named_atoms = λ atom in_atoms term inside. named_known names (IsSoundPlan atoms head names) known term (λ sound. sound.named_atoms atom in_atoms term inside);
  named_head = λ term inside. named_known names (IsSoundPlan atoms head names) known term (λ sound. sound.named_head term inside);
}
