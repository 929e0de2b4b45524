-- What the columns of a view are called.
use Rattle.std.specs.Prelude.{◌≡◌, ◌≢◌, ℕ, List, Some, slice_get, Contains, AllPairs}
use Rattle.std.specs.List.{AllZip}
use Rattle.esto_query.specs.declared.query.Name.{Name}
use Rattle.esto_query.specs.declared.query.Name.TheVariants.{Given}
use Rattle.esto_term.specs.declared.term.Term.{Term}
use Rattle.esto_term.specs.declared.term.Term.TheVariants.{Plain}
use Rattle.esto_text.specs.Lexemes.{IsNameText}
use Rattle.esto_read.specs.Readings.{IsReading}
use Rattle.esto_read.specs.declared.read.Form.TheVariants.{View}
use Rattle.esto_read.specs.declared.read.NamedQuery.{NamedQuery}
use Rattle.esto_docmodel.specs.declared.words.Word.{Word}

-- The term is a variable of this name.
abbrev pub IsCalled : List Name → Term → List ℕ → Type 0
IsCalled names term text = (number : ℕ) × (term ≡ Plain number) × (slice_get names number ≡ Some (Given text))

-- The terms of the head are variables of these names, place by place; no two of the names are the same, and each is a name of the grammar.
pub record AreHeadNames (names : List Name) (head : List Term) (texts : List (List ℕ)) : Type 0 where
  pub called : AllZip (IsCalled names) head texts
  pub distinct : AllPairs ◌≢◌ texts
  pub written : (text : List ℕ) → Contains texts text → IsNameText text

-- The columns of a view that is read from a text have names.
abbrev pub ViewsNameTheirColumns : Type 0
ViewsNameTheirColumns =
    (words : List Word) (schema bytes : List ℕ) (view : NamedQuery) → IsReading View words schema bytes view
    → (texts : List (List ℕ)) × AreHeadNames view.query.names view.query.head texts
