-- The values of terms and the texts of constants, and databases that stand for facts over constants and plain terms.
use Rattle.std.proofs.Common.{◌≡◌, ◌⊎◌, inl, inr, ℕ, List, map, refl, sym, ap, ◌∙◌}
use Rattle.std.proofs.Math.Logic.{∥∥₁_elim}
use Rattle.esto_semantics.specs.Maps.{AreFlat}
use Rattle.esto_semantics.specs.declared.fact.Fact.{Fact}
use Rattle.esto_semantics.specs.declared.fact.Value.TheVariants.{Text, Node}
use Rattle.esto_semantics.proofs.TermLemmas.{term_cases, Const-apart-Plain, Const-apart-Made}
use Rattle.esto_term.specs.Kinds.{IsConstant, IsFlat}
use Rattle.esto_term.specs.declared.term.Term.{Term}
use Rattle.esto_term.specs.declared.term.Term.TheVariants.{Const, Plain, outs-Const, outs-Plain, outs-Made}
use Rattle.esto_term.proofs.ListLemmas.{map_then, map_agree, map_itself}
use Rattle.esto_query.proofs.SoundLemmas.{flat_known}
use Rattle.esto_fill.specs.Databases.{value_by_kind, value_of}
use Rattle.esto_fill.specs.Laws.{FactsStand}
use Rattle.esto_fill.specs.Placing.{text_by_kind, text_of}

pub value_Const : (text : List ℕ) → value_of (Const text) ≡ Text text
value_Const text = ap value_by_kind (outs-Const text)

pub value_Plain : (node : ℕ) → value_of (Plain node) ≡ Node node
value_Plain node = ap value_by_kind (outs-Plain node)

pub text_Const : (text : List ℕ) → text_of (Const text) ≡ text
text_Const text = ap text_by_kind (outs-Const text)

-- a term is a constant, or its value is an unnamed one
abbrev pub IsTold : Term → Type 0
IsTold term = IsConstant term ⊎ ((node : ℕ) × (value_of term ≡ Node node) × ¬ (IsConstant term))

pub told : (term : Term) → IsTold term
told term = term_cases IsTold
    (λ text. inl (text, refl))
    (λ number. inr (number, value_Plain number, λ (text, is). Const-apart-Plain text number (sym is)))
    (λ rule variable frontier. inr (
      rule,
      ap value_by_kind (outs-Made rule variable frontier),
      λ (text, is). Const-apart-Made text rule variable frontier
          (sym is),
    ))
    term

-- a term with an unnamed value is no constant
pub node_open : (term : Term) (node : ℕ) → value_of term ≡ Node node → ¬ (IsConstant term)
node_open term node is (text, constant) = let wrong : Text text ≡ Node node = sym (ap value_of constant ∙ value_Const text) ∙ is in absurd (cc)

-- one with a text as its value is that constant
pub text_constant : (term : Term) (text : List ℕ) → value_of term ≡ Text text → term ≡ Const text
text_constant term text is = elim (told term) [
  | inl (own, constant) ↦
      let same : Text own ≡ Text text = sym (ap value_of constant ∙ value_Const own) ∙ is in
      let one : own ≡ text = cc in constant ∙ ap Const one
  | inr (node, unnamed, open_) ↦ let wrong : Node node ≡ Text text = sym unnamed ∙ is in absurd (cc)
]

-- ---- rows

pub map_value : (cells : List (List ℕ)) → map value_of (map Const cells) ≡ map Text cells
map_value cells = map_then Const value_of cells ∙ map_agree (λ cell. value_of (Const cell)) Text cells (λ cell inside. value_Const cell)

pub map_text : (cells : List (List ℕ)) → map text_of (map Const cells) ≡ cells
map_text cells = map_then Const text_of cells ∙ map_agree (λ cell. text_of (Const cell)) (λ cell. cell) cells (λ cell inside. text_Const cell) ∙ map_itself
    cells

-- ---- facts

pub facts_stand : FactsStand
facts_stand facts flat = record {
  values = record {
    keeps = value_Const;
    unnamed = λ term mentioned. by term (flat term mentioned);
    apart = λ term other mentioned there same. one term other (flat term mentioned) (flat other there) same;
  };
  images = λ fact. ((λ inside. inside), (λ inside. inside));
}
  where
    by : (term : Term) → IsFlat term → IsConstant term ⊎ ((node : ℕ) × (value_of term ≡ Node node))
    by term (inl constant) = inl constant
    by term (inr (number, is)) = inr (number, ap value_of is ∙ value_Plain number)

    one : (term other : Term) → IsFlat term → IsFlat other → value_of term ≡ value_of other → term ≡ other
    one term other (inl (text, is)) flat_other same = sym (text_constant other text (sym same ∙ ap value_of is ∙ value_Const text) ∙ sym is)
    one term other (inr (number, is)) (inl (text, constant)) same =
        let wrong : Node number ≡ Text text = sym (ap value_of is ∙ value_Plain number) ∙ same ∙ ap value_of constant ∙ value_Const text in absurd (cc)
    one term other (inr (number, is)) (inr (its, plain)) same =
        let nodes : Node number ≡ Node its = sym (ap value_of is ∙ value_Plain number) ∙ same ∙ ap value_of plain ∙ value_Plain its in
        let numbers : number ≡ its = cc in is ∙ ap Plain numbers ∙ sym plain

-- what is loaded keeps that its facts are flat

pub flat_kept : (facts : List (Fact Term)) → ∥ AreFlat facts ∥₁ → AreFlat facts
flat_kept facts sound term mentioned = flat_known term (λ no. ∥∥₁_elim sound (λ p q. absurd p) (λ flat. no (flat term mentioned)))
