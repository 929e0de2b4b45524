-- The rules of documents, over a predicate of facts.
use Rattle.std.specs.Prelude.{◌≡◌}
use Rattle.esto_term.specs.declared.term.Term.{Term}
use Rattle.esto_docmodel.specs.DocumentFacts.{DocFact, root, field, item, value, below}

pub record MeetsDocumentRules (P : DocFact Term → Type 0) : Type 0 where
  pub one_kid : (n k m p : Term) → P (field n k m) → P (field n k p) → m ≡ p
  pub one_parent : (n k m p l : Term) → P (field n k m) → P (field p l m) → n ≡ p
  pub one_name : (n k m p l : Term) → P (field n k m) → P (field p l m) → k ≡ l
  pub one_list : (n m p : Term) → P (item n m) → P (item p m) → n ≡ p
  pub one_value : (n v w : Term) → P (value n v) → P (value n w) → v ≡ w
  pub field_below : (n k m : Term) → P (field n k m) → P (below n m)
  pub item_below : (n m : Term) → P (item n m) → P (below n m)
  pub no_root_below : (n m : Term) → P (root m) → P (below n m) → ⊥
