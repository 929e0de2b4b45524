-- Terms: their kinds, the test of equality, and maps that are mended at the constants.
use Rattle.std.proofs.Common.{◌≡◌, ◌≢◌, ◌⊎◌, inl, inr, ℕ, Bool, true, false, cond, List, Some, None, Option, refl, sym, ap, subst, ◌∙◌}
use Rattle.std.specs.Bool.{Decides}
use Rattle.esto_term.specs.declared.term.Term.{Term, out-Term, roll-Term, roll-out-Term}
use Rattle.esto_term.specs.declared.term.Term.TheVariants.{Const, Plain, Made, outs-Const, outs-Plain, outs-Made, rolls-Const, rolls-Plain, rolls-Made}
use Rattle.esto_term.specs.declared.term.Term.TheOpen.{Term-F}
use Rattle.esto_term.specs.Order.{replaced, same_term}
use Rattle.esto_term.proofs.ChoiceLemmas.{Decided}
use Rattle.esto_term.proofs.CompareLemmas.{equal_tested}
use Rattle.esto_semantics.specs.Maps.{IsFlat, Keeps}

-- ---- the kinds of a term

-- what holds of each kind of term holds of every term
pub term_cases : (P : Term → Type 0) → ((text : List ℕ) → P (Const text)) → ((number : ℕ) → P (Plain number))
    → ((rule variable : ℕ) (frontier : List Term) → P (Made rule variable frontier)) → (term : Term) → P term
term_cases P constant plain made term = subst P (roll-out-Term term) (by (out-Term term))
  where
    by : (level : Term-F Term) → P (roll-Term level)
    by (Term-F.Const text) = subst P (sym (rolls-Const text)) (constant text)
    by (Term-F.Plain number) = subst P (sym (rolls-Plain number)) (plain number)
    by (Term-F.Made rule variable frontier) = subst P (sym (rolls-Made rule variable frontier)) (made rule variable frontier)

pub Const-apart-Plain : (text : List ℕ) (number : ℕ) → Const text ≡ Plain number → ⊥
Const-apart-Plain text number is = let levels : Term-F.Const text ≡ Term-F.Plain number = sym (outs-Const text) ∙ ap out-Term is ∙ outs-Plain number in cc

pub Const-apart-Made : (text : List ℕ) (rule variable : ℕ) (frontier : List Term) → Const text ≡ Made rule variable frontier → ⊥
Const-apart-Made text rule variable frontier is =
    let levels : Term-F.Const text ≡ Term-F.Made rule variable frontier = sym (outs-Const text) ∙ ap out-Term is ∙ outs-Made rule variable frontier in cc

pub Plain-apart-Made : (number rule variable : ℕ) (frontier : List Term) → Plain number ≡ Made rule variable frontier → ⊥
Plain-apart-Made number rule variable frontier is =
    let levels : Term-F.Plain number ≡ Term-F.Made rule variable frontier = sym (outs-Plain number) ∙ ap out-Term is ∙ outs-Made rule variable frontier in cc

pub flat-apart-Made : (term : Term) (rule variable : ℕ) (frontier : List Term) → IsFlat term → term ≡ Made rule variable frontier → ⊥
flat-apart-Made term rule variable frontier flat is = elim flat [
  | inl constant ↦ Const-apart-Made constant.0 rule variable frontier (sym constant.1 ∙ is)
  | inr plain ↦ Plain-apart-Made plain.0 rule variable frontier (sym plain.1 ∙ is)
]

-- ---- equal terms have equal parts

pub Const-same : (text other : List ℕ) → Const text ≡ Const other → text ≡ other
Const-same text other is = let levels : ◌≡◌ {A = Term-F Term} (Term-F.Const text) (Term-F.Const other) = sym (outs-Const text) ∙ ap out-Term is
    ∙ outs-Const other in cc

pub Plain-same : (number other : ℕ) → Plain number ≡ Plain other → number ≡ other
Plain-same number other is = let levels : ◌≡◌ {A = Term-F Term} (Term-F.Plain number) (Term-F.Plain other) = sym (outs-Plain number) ∙ ap out-Term is
    ∙ outs-Plain other in cc

pub Made-same : (rule variable : ℕ) (frontier : List Term) (other_rule other_variable : ℕ) (other_frontier : List Term)
    → Made rule variable frontier ≡ Made other_rule other_variable other_frontier
    → (rule ≡ other_rule) × (variable ≡ other_variable) × (frontier ≡ other_frontier)
Made-same rule variable frontier other_rule other_variable other_frontier is =
    let levels : Term-F.Made rule variable frontier ≡ Term-F.Made other_rule other_variable other_frontier =
    sym (outs-Made rule variable frontier) ∙ ap out-Term is ∙ outs-Made other_rule other_variable other_frontier in (cc, cc, cc)

-- ---- the test of equality, and a replacement

pub same_term-Decides : (term other : Term) → Decides (same_term term other) (term ≡ other)
same_term-Decides term other = let both = equal_tested term other (same_term term other) refl in (both.0, both.1)

pub decided_term : (term other : Term) → Decided (term ≡ other)
decided_term term other = by (same_term term other) refl
  where
    by : (answer : Bool) → same_term term other ≡ answer → Decided (term ≡ other)
    by true told = inl ((same_term-Decides term other).0 told)
    by false told = inr (λ is. let wrong : true ≡ false = sym ((same_term-Decides term other).1 is) ∙ told in cc)

pub replaced_cases : (from to term : Term) → ((term ≡ from) × (replaced from to term ≡ to)) ⊎ ((term ≢ from) × (replaced from to term ≡ term))
replaced_cases from to term = by (same_term term from) refl
  where
    by : (answer : Bool) → same_term term from ≡ answer → ((term ≡ from) × (cond answer to term ≡ to)) ⊎ ((term ≢ from) × (cond answer to term ≡ term))
    by true told = inl ((same_term-Decides term from).0 told, refl)
    by false told = inr ((λ is. let wrong : true ≡ false = sym ((same_term-Decides term from).1 is) ∙ told in cc), refl)

-- ---- the text of a constant, and maps mended at the constants

abbrev text_step : Term-F Term → Option (List ℕ)
text_step (Term-F.Const text) = Some text
text_step (Term-F.Plain _) = None
text_step (Term-F.Made _ _ _) = None

abbrev pub constant_text : Term → Option (List ℕ)
constant_text term = text_step (out-Term term)

pub constant_text-told : (term : Term) (text : List ℕ) → constant_text term ≡ Some text → Const text ≡ term
constant_text-told = term_cases (λ term. (text : List ℕ) → constant_text term ≡ Some text → Const text ≡ term)
    (λ own text told. let same : Some own ≡ Some text = sym (ap text_step (outs-Const own)) ∙ told in let is : text ≡ own = cc in ap Const is)
    (λ number text told. let wrong : None ≡ Some text = sym (ap text_step (outs-Plain number)) ∙ told in cc)
    (λ rule variable frontier text told. let wrong : None ≡ Some text = sym (ap text_step (outs-Made rule variable frontier)) ∙ told in cc)

pub constant_text-Const : (text : List ℕ) → constant_text (Const text) ≡ Some text
constant_text-Const text = ap text_step (outs-Const text)

module _ {V : Type 0} where
  abbrev mended_step : (List ℕ → V) → V → Option (List ℕ) → V
  mended_step constant otherwise (Some text) = constant text
  mended_step constant otherwise None = otherwise

  -- the map, but for constants, each of which goes to what its text stands for
  abbrev pub mended : (List ℕ → V) → (Term → V) → Term → V
  mended constant m term = mended_step constant (m term) (constant_text term)

  pub mended-Keeps : (constant : List ℕ → V) (m : Term → V) → Keeps constant (mended constant m)
  mended-Keeps constant m text = ap (mended_step constant (m (Const text))) (constant_text-Const text)

  -- where the map is right already
  pub mended-same : (constant : List ℕ → V) (m : Term → V) (term : Term) → ((text : List ℕ) → term ≡ Const text → m term ≡ constant text)
      → m term ≡ mended constant m term
  mended-same constant m term right = by (constant_text term) refl
    where
      by : (found : Option (List ℕ)) → constant_text term ≡ found → m term ≡ mended_step constant (m term) found
      by (Some text) told = right text (sym (constant_text-told term text told))
      by None told = refl
