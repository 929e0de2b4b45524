-- That entries are a layout is known without its truncation.
use Rattle.std.proofs.Common.{◌≡◌, ◌⊎◌, ℕ, List, [], ◌∷◌, inl, inr, refl, subst}
use Rattle.std.specs.Coded.{le_prop}
use Rattle.std.proofs.Math.Logic.{∥∥₁_elim, ∥∥₁_map}
use Rattle.esto_docmodel.specs.Layouts.{AreFields, AreLaidOut, Begins, FitTogether, IsColumn, IsLayout, IsOneItem, SomeBegins, StandsOnce, paths}
use Rattle.esto_docmodel.specs.Patterns.{Entries, done, holds, group, Mentions}
use Rattle.esto_docmodel.specs.declared.pattern.Step.{Step}
use Rattle.esto_docmodel.specs.declared.pattern.Step.TheVariants.{Name, Item, Below}
use Rattle.esto_semantics.proofs.TermLemmas.{decided_term}
use Rattle.esto_term.proofs.ChoiceLemmas.{decided_below}
use Rattle.esto_term.specs.declared.term.Term.{Term}
use Rattle.esto_term.specs.declared.term.Term.TheVariants.{Plain}

-- what is refuted of a fact is refuted of its truncation
never : {P : Type 0} → ∥ P ∥₁ → (P → ⊥) → ⊥
never some refuted = ∥∥₁_elim some (λ p q. absurd p) refuted

-- ---- how paths begin

fields_known : (list : List (List Step)) → ∥ AreFields list ∥₁ → AreFields list
fields_known [] some = tt
fields_known ([] ∷ rest) some = absurd (never some (λ (k : AreFields ([] ∷ rest)). k.0.1))
fields_known ((Name name ∷ path) ∷ rest) some = (
  (name, refl, λ begins. never some (λ (k : AreFields ((Name name ∷ path) ∷ rest)). k.0.2 (subst (λ step. SomeBegins step rest) k.0.1 begins))),
  fields_known rest (∥∥₁_map some (λ (k : AreFields ((Name name ∷ path) ∷ rest)). k.1)),
)
fields_known ((Item ∷ path) ∷ rest) some = absurd (never some (λ (k : AreFields ((Item ∷ path) ∷ rest)). item_name k.0.0 k.0.1)) where
  item_name : (name : List ℕ) → Item ≡ Name name → ⊥
  item_name name is = cc
fields_known ((Below ∷ path) ∷ rest) some = absurd (never some (λ (k : AreFields ((Below ∷ path) ∷ rest)). below_name k.0.0 k.0.1)) where
  below_name : (name : List ℕ) → Below ≡ Name name → ⊥
  below_name name is = cc

begins_item : (path : List Step) → Begins Item path ⊎ ¬ Begins Item path
begins_item [] = inr (λ begins. begins)
begins_item (Item ∷ path) = inl refl
begins_item (Name name ∷ path) = inr (λ begins. name_item begins) where
  name_item : Name name ≡ Item → ⊥
  name_item is = cc
begins_item (Below ∷ path) = inr (λ begins. below_item begins) where
  below_item : Below ≡ Item → ⊥
  below_item is = cc

one_item : (list : List (List Step)) → IsOneItem list ⊎ ¬ IsOneItem list
one_item [] = inr (λ one. one)
one_item (path ∷ []) = begins_item path
one_item (path ∷ other ∷ rest) = inr (λ one. one)

together_known : (list : List (List Step)) → ∥ FitTogether list ∥₁ → FitTogether list
together_known list some = elim (one_item list) [
  | inl one ↦ inl one
  | inr none ↦ inr (
    λ empty. never some (λ (k : FitTogether list). elim k [ inl one ↦ none one | inr both ↦ both.0 empty ]),
    fields_known list (∥∥₁_map some (λ (k : FitTogether list). elim k [ inl one ↦ absurd (none one) | inr both ↦ both.1 ])),
  )
]

-- ---- what stands after `:`

column_known : (columns : ℕ) (term : Term) → ∥ IsColumn columns term ∥₁ → IsColumn columns term
column_known columns term some = elim (decided_below (λ column. term ≡ Plain column) columns (λ column below. decided_term term (Plain column))) [
  | inl (column, below, is) ↦ (column, is, below)
  | inr none ↦ absurd (never some (λ (k : IsColumn columns term). none (k.0, k.2, k.1)))
]

laid_out_known : (columns : ℕ) (entries : Entries) → ∥ AreLaidOut columns entries ∥₁ → AreLaidOut columns entries
laid_out_known columns done some = tt
laid_out_known columns (holds path term rest) some = (
  λ inside. never some (λ (k : AreLaidOut columns (holds path term rest)). k.0 inside),
  column_known columns term (∥∥₁_map some (λ (k : AreLaidOut columns (holds path term rest)). k.1)),
  laid_out_known columns rest (∥∥₁_map some (λ (k : AreLaidOut columns (holds path term rest)). k.2)),
)
laid_out_known columns (group path inner rest) some = (
  λ inside. never some (λ (k : AreLaidOut columns (group path inner rest)). k.0 inside),
  together_known (paths inner) (∥∥₁_map some (λ (k : AreLaidOut columns (group path inner rest)). k.1)),
  laid_out_known columns inner (∥∥₁_map some (λ (k : AreLaidOut columns (group path inner rest)). k.2)),
  laid_out_known columns rest (∥∥₁_map some (λ (k : AreLaidOut columns (group path inner rest)). k.3)),
)

-- ---- where a column stands

mentions_column : (entries : Entries) (column : ℕ) → Mentions entries (Plain column) ⊎ ¬ Mentions entries (Plain column)
mentions_column done column = inr (λ there. there)
mentions_column (holds path term rest) column = elim (decided_term term (Plain column)) [
  | inl same ↦ inl (inl same)
  | inr other ↦ elim (mentions_column rest column) [
    | inl there ↦ inl (inr there)
    | inr none ↦ inr (λ either. elim either [ inl same ↦ other same | inr there ↦ none there ])
  ]
]
mentions_column (group path inner rest) column = elim (mentions_column inner column) [
  | inl there ↦ inl (inl there)
  | inr none ↦ elim (mentions_column rest column) [
    | inl there ↦ inl (inr there)
    | inr nowhere ↦ inr (λ either. elim either [ inl there ↦ none there | inr there ↦ nowhere there ])
  ]
]

stands_mentions : (entries : Entries) (column : ℕ) → StandsOnce (Plain column) entries → Mentions entries (Plain column)
stands_mentions done column stands = stands
stands_mentions (holds path term rest) column stands = elim stands [
  | inl here ↦ inl here.0
  | inr later ↦ inr (stands_mentions rest column later.1)
]
stands_mentions (group path inner rest) column stands = elim stands [
  | inl here ↦ inl (stands_mentions inner column here.0)
  | inr later ↦ inr (stands_mentions rest column later.1)
]

once_known : (entries : Entries) (column : ℕ) → ∥ StandsOnce (Plain column) entries ∥₁ → StandsOnce (Plain column) entries
once_known done column some = never some (λ k. k)
once_known (holds path term rest) column some = elim (decided_term term (Plain column)) [
  | inl same ↦ inl (same, λ there. never some (λ k. elim k [ inl here ↦ here.1 there | inr later ↦ later.0 same ]))
  | inr other ↦ inr (other, once_known rest column (∥∥₁_map some (λ k. elim k [ inl here ↦ absurd (other here.0) | inr later ↦ later.1 ])))
]
once_known (group path inner rest) column some = elim (mentions_column inner column) [
  | inl there ↦ inl (
    once_known inner column (∥∥₁_map some (λ k. elim k [ inl here ↦ here.0 | inr later ↦ absurd (later.0 there) ])),
    λ rest_there. never some (λ k. elim k [ inl here ↦ here.1 rest_there | inr later ↦ later.0 there ]),
  )
  | inr none ↦ inr (
    none,
    once_known rest column (∥∥₁_map some (λ k. elim k [ inl here ↦ absurd (none (stands_mentions inner column here.0)) | inr later ↦ later.1 ])),
  )
]

pub layout_known : (columns : ℕ) (entries : Entries) → ∥ IsLayout columns entries ∥₁ → IsLayout columns entries
layout_known columns entries some = record {
  together = together_known (paths entries) (∥∥₁_map some (λ (k : IsLayout columns entries). k.together));
  laid_out = laid_out_known columns entries (∥∥₁_map some (λ (k : IsLayout columns entries). k.laid_out));
  once = λ column below. once_known entries column (∥∥₁_map some (λ (k : IsLayout columns entries). k.once column below));
  shallow = ∥∥₁_elim some le_prop (λ k. k.shallow);
}
