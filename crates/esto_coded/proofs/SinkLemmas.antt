-- Rows of codes that gain facts.
use Rattle.std.proofs.Common.{◌≡◌, inl, inr, ℕ, ◌+◌, List, [], ◌∷◌, Some, slice_get, refl, sym, ap, subst}
use Rattle.std.proofs.lemmas.List.{append-nil}
use Rattle.std.specs.Prelude.{Result, OnOk}
use Rattle.std.proofs.lemmas.Result.{on_ok_weaker}
use Rattle.esto_columns.specs.Interned.{Grows}
use Rattle.esto_columns.specs.declared.stored.StoredRows.{StoredRows}
use Rattle.esto_docmodel.specs.Gaining.{Gains, fact_over}
use Rattle.esto_term.specs.declared.term.Term.{Term}
use Rattle.esto_term.specs.declared.term.Term.TheVariants.{Const, Plain}
use Rattle.esto_coded.specs.Coded.{AreCodesOf, Coded, IsCodeOf, StandInOrder, arities_of}
use Rattle.esto_coded.specs.Relations.{PutsRow, coded_of}
use Rattle.esto_coded.specs.declared.coded.TheConstants.{FIRST_NODE}
use Rattle.esto_coded.proofs.StandLemmas.{order_grow}

-- the code of a node, and that of a text
pub node_code : (texts : List (List ℕ)) (node code : ℕ) → code ≡ FIRST_NODE + node → IsCodeOf texts (Plain node) code
node_code texts node code is = inr (node, refl, is)

pub text_code : (texts : List (List ℕ)) (text : List ℕ) (code : ℕ) → slice_get texts code ≡ Some text → IsCodeOf texts (Const text) code
text_code texts text code is = inl (text, refl, is)

-- a row that is put is a fact more
module _ {E : Type 0} (start : Coded) (texts more : List (List ℕ)) (old new : List StoredRows) (number : ℕ) (terms : List Term) (codes : List ℕ)
    (result : Result (Unit {0}) E) (is : coded_of texts old ≡ start) where
  pub text_row : Grows texts more → AreCodesOf more terms codes → OnOk result (PutsRow number codes old new)
      → OnOk result (Gains StandInOrder (λ (it : Coded). Some (arities_of it)) (fact_over number terms ∷ []) start (coded_of more new))
  text_row grown are = on_ok_weaker result (λ puts. subst
      (λ it. Gains StandInOrder (λ (it : Coded). Some (arities_of it)) (fact_over number terms ∷ []) it (coded_of more new)) is (record {
        held = λ before stand. puts.facts more terms are before (order_grow (coded_of texts old) (coded_of more old) before grown refl stand);
        same = ap Some puts.arities;
      }))

-- and so where no text comes to those that have codes
pub node_row : {E : Type 0} (start : Coded) (texts : List (List ℕ)) (old new : List StoredRows) (number : ℕ) (terms : List Term) (codes : List ℕ)
    (result : Result (Unit {0}) E) → coded_of texts old ≡ start → AreCodesOf texts terms codes → OnOk result (PutsRow number codes old new)
    → OnOk result (Gains StandInOrder (λ (it : Coded). Some (arities_of it)) (fact_over number terms ∷ []) start (coded_of texts new))
node_row start texts old new number terms codes result is = text_row start texts texts old new number terms codes result is ([], sym (append-nil texts))
