-- When terms of each two kinds are equal.
use Rattle.std.proofs.Common.{◌≡◌, ◌≢◌, ◌↔◌, ◌==◌, Bool, false, IsTrue, ℕ, List, sym, ap, ◌∙◌}
use Rattle.std.proofs.lemmas.Bool.Decides.{Decides-eqb}
use Rattle.std.proofs.lemmas.Slice.Eq.{bytes_eq-Decides}
use Rattle.std.specs.Str.{bytes_eq}
use Rattle.esto_term.specs.declared.term.Term.{Term, out-Term}
use Rattle.esto_term.specs.declared.term.Term.TheVariants.{Const, Plain, Made, outs-Made}
use Rattle.esto_term.specs.Kinds.{IsConstant}
use Rattle.esto_term.specs.Order.{frontier}

-- ---- terms of two kinds are not equal

pub apart_Const_Plain : (left right : Term) (bytes : List ℕ) (n : ℕ) → left ≡ Const bytes → right ≡ Plain n → IsTrue false ↔ (left ≡ right)
apart_Const_Plain left right bytes n is other = (λ holds. absurd (cc), λ same. absurd (cc))

pub apart_Const_Made : (left right : Term) (bytes : List ℕ) (rule variable : ℕ) (parts : List Term) → left ≡ Const bytes
    → right ≡ Made rule variable parts → IsTrue false ↔ (left ≡ right)
apart_Const_Made left right bytes rule variable parts is other = (λ holds. absurd (cc), λ same. absurd (cc))

pub apart_Plain_Made : (left right : Term) (n rule variable : ℕ) (parts : List Term) → left ≡ Plain n → right ≡ Made rule variable parts
    → IsTrue false ↔ (left ≡ right)
apart_Plain_Made left right n rule variable parts is other = (λ holds. absurd (cc), λ same. absurd (cc))

-- the same the other way round
pub apart_turned : (left right : Term) → IsTrue false ↔ (left ≡ right) → IsTrue false ↔ (right ≡ left)
apart_turned left right apart = (λ holds. sym (apart.0 holds), λ same. apart.1 (sym same))

-- and no constant
pub no_constant_Plain : (term : Term) (n : ℕ) → term ≡ Plain n → IsTrue false ↔ IsConstant term
no_constant_Plain term n is = (λ holds. absurd (cc), λ (bytes, other). absurd (cc))

pub no_constant_Made : (term : Term) (rule variable : ℕ) (parts : List Term) → term ≡ Made rule variable parts → IsTrue false ↔ IsConstant term
no_constant_Made term rule variable parts is = (λ holds. absurd (cc), λ (bytes, other). absurd (cc))

-- ---- terms of one kind

-- bytes that are compared
pub tested : (bytes others xs ys : List ℕ) (test : Bool) → test ≡ bytes_eq xs ys → xs ≡ bytes → ys ≡ others → IsTrue test ↔ (bytes ≡ others)
tested bytes others xs ys test is own own' = (
  λ holds. sym own ∙ (bytes_eq-Decides xs ys).0 (sym is ∙ holds) ∙ own',
  λ same. is ∙ (bytes_eq-Decides xs ys).1 (own ∙ same ∙ sym own'),
)

pub same_Const : (left right : Term) (bytes others : List ℕ) (test : Bool) → left ≡ Const bytes → right ≡ Const others
    → IsTrue test ↔ (bytes ≡ others) → IsTrue test ↔ (left ≡ right)
same_Const left right bytes others test is other same = (λ holds. is ∙ ap Const (same.0 holds) ∙ sym other, λ equal. same.1 (cc))

pub same_Plain : (left right : Term) (n m : ℕ) → left ≡ Plain n → right ≡ Plain m → IsTrue (n == m) ↔ (left ≡ right)
same_Plain left right n m is other = (
  λ holds. is ∙ ap Plain ((Decides-eqb n m).0 holds) ∙ sym other,
  λ equal. (Decides-eqb n m).1 (cc),
)

-- the parts of a made term
made_parts : (rule variable : ℕ) (parts : List Term) (rule' variable' : ℕ) (parts' : List Term)
    → Made rule variable parts ≡ Made rule' variable' parts' → parts ≡ parts'
made_parts rule variable parts rule' variable' parts' same =
    sym (ap frontier (outs-Made rule variable parts)) ∙ ap (λ term. frontier (out-Term term)) same ∙ ap frontier (outs-Made rule' variable' parts')

module _ (left right : Term) (rule variable : ℕ) (parts : List Term) (rule' variable' : ℕ) (parts' : List Term)
    (is : left ≡ Made rule variable parts) (other : right ≡ Made rule' variable' parts') where
  pub same_Made : (test : Bool) (items items' : List Term) → rule ≡ rule' → variable ≡ variable' → items ≡ parts → items' ≡ parts'
      → IsTrue test ↔ (items ≡ items') → IsTrue test ↔ (left ≡ right)
  same_Made test items items' rules variables own own' same = (
    λ holds. let lists : parts ≡ parts' = sym own ∙ same.0 holds ∙ own' in is ∙ (λ i. Made (rules i) (variables i) (lists i)) ∙ sym other,
    λ equal. same.1 (own ∙ made_parts rule variable parts rule' variable' parts' (sym is ∙ equal ∙ other) ∙ sym own'),
  )

  pub apart_variables : variable ≢ variable' → left ≡ right → ⊥
  apart_variables apart equal = apart (cc)

  pub apart_rules : rule ≢ rule' → left ≡ right → ⊥
  apart_rules apart equal = apart (cc)
