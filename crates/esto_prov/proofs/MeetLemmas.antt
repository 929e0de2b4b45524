-- Steps of the walks for what a term meets first.
use Rattle.std.proofs.Common.{◌≡◌, ◌↔◌, ℕ, ◌≤◌, Bool, true, false, cond, List, [], ◌∷◌, ◌++◌, drop, length, Contains, IsTrue, refl, ap, ◌∙◌}
use Rattle.std.proofs.Common.{sym, subst, arith}
use Rattle.std.specs.Bool.{Decides}
use Rattle.std.specs.Set.{is_member}
use Rattle.std.proofs.lemmas.List.{drop_all}
use Rattle.std.proofs.lemmas.Map.Made.{is_member-Decides}
use Rattle.esto_term.specs.Order.{same_term}
use Rattle.esto_term.specs.declared.term.Term.{Term, out-Term}
use Rattle.esto_term.proofs.ListLemmas.{Contains-head, Contains-rest}
use Rattle.esto_semantics.proofs.TermLemmas.{same_term-Decides}
use Rattle.esto_semantics.specs.Spreads.{substituted}
use Rattle.esto_chase_laws.specs.WorldMatches.{unless_constant, taken}
use Rattle.esto_chase_laws.proofs.TakenLemmas.{taken-stays}

nothing : (from : List Term) (term : Term) → substituted from [] term ≡ term
nothing [] term = refl
nothing (first ∷ from) term = refl

pub nothing_left : (from to : List Term) (place : ℕ) (term : Term) → length to ≤ place → substituted (drop place from) (drop place to) term ≡ term
nothing_left from to place term past = ap (λ it. substituted (drop place from) it term) (drop_all place to past) ∙ nothing (drop place from) term

pub member_is : (terms : List Term) (term : Term) (answer : Bool) → IsTrue answer ↔ Contains terms term → answer ≡ is_member same_term terms term
member_is terms term answer same_answer = by answer (is_member same_term terms term) (is_member-Decides same_term-Decides terms term) same_answer
  where
    by : (one other : Bool) → Decides other (Contains terms term) → IsTrue one ↔ Contains terms term → one ≡ other
    by true true decides told = refl
    by true false decides told = let wrong : false ≡ true = decides.1 (told.0 refl) in cc
    by false true decides told = let wrong : false ≡ true = told.1 (decides.0 refl) in cc
    by false false decides told = refl

-- ---- terms behind others

-- of a term that stands in none of the first, the later places tell
substituted-new : (from to more owns : List Term) → length from ≡ length to → (term : Term) → (Contains from term → ⊥)
    → substituted (from ++ more) (to ++ owns) term ≡ substituted more owns term
substituted-new [] [] more owns l term apart = refl
substituted-new [] (target ∷ to) more owns l term apart = absurd (omega (arith, l))
substituted-new (first ∷ from) [] more owns l term apart = absurd (omega (arith, l))
substituted-new (first ∷ from) (target ∷ to) more owns l term apart = by (same_term term first) refl
    (substituted-new from to more owns (omega (arith, l)) term (λ inside. apart (Contains-rest first from term inside)))
  where
    by : (answer : Bool) → same_term term first ≡ answer → substituted (from ++ more) (to ++ owns) term ≡ substituted more owns term
        → cond answer target (substituted (from ++ more) (to ++ owns) term) ≡ substituted more owns term
    by true told rest = absurd (apart (subst (Contains (first ∷ from)) (sym ((same_term-Decides term first).0 told)) (Contains-head first from)))
    by false told rest = rest

pub taken-new : (from to more owns : List Term) → length from ≡ length to → (term : Term) → (Contains from term → ⊥)
    → taken (from ++ more) (to ++ owns) term ≡ taken more owns term
taken-new from to more owns l term apart = ap (unless_constant (out-Term term) term) (substituted-new from to more owns l term apart)

-- what a term meets behind others
pub met_behind : (from to terms owns : List Term) → length from ≡ length to → (term : Term) → (Contains from term → ⊥)
    → taken terms owns term ≡ taken (from ++ terms) (to ++ owns) term
met_behind from to terms owns l term apart = sym (taken-new from to terms owns l term apart)

pub met_within : (from to terms owns : List Term) → length from ≡ length to → (term : Term) → Contains from term
    → taken from to term ≡ taken (from ++ terms) (to ++ owns) term
met_within from to terms owns l term inside = sym (taken-stays from to terms owns l term inside)
