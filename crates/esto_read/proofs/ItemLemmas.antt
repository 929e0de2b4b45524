-- How many atoms items give.
use Rattle.std.proofs.Common.{◌≡◌, ℕ, ◌+◌, ◌<◌, ◌≤◌, List, [], ◌∷◌, length, ap, arith}
use Rattle.std.proofs.lemmas.List.{length-append}
use Rattle.esto_query.specs.declared.make.TheConstants.{MAX_ATOMS}
use Rattle.esto_query.specs.declared.query.Name.{Name}
use Rattle.esto_semantics.specs.declared.fact.Fact.{Fact}
use Rattle.esto_term.specs.declared.term.Term.{Term}
use Rattle.esto_text.specs.Trees.{ItemTree, Atom, Part, Pattern}
use Rattle.esto_read.specs.Items.{item_size, AreFitting, IsItemOf, AreItems}
use Rattle.esto_docmodel.specs.declared.words.Word.{Word}
use Rattle.esto_read.proofs.EntryLemmas.{pattern_count}

pub size_positive : (item : ItemTree) → 0 < item_size item
size_positive (Atom name terms) = omega arith
size_positive (Part name part terms) = omega arith
size_positive (Pattern name entries) = omega arith

module _ (words : List Word) (schema bytes : List ℕ) where
  pub item_count : (before : List Name) (item : ItemTree) (own : List (Fact Term)) (after : List Name) → IsItemOf words schema bytes before item own after
      → length own ≡ item_size item
  item_count before (Atom name terms) own after (relation, named, columns, (row, h, e)) = ap length e
  item_count before (Part name part terms) own after (relation, named, columns, (row, h, e)) = ap length e
  item_count before (Pattern name entries) own after (base, named, columns, h) = pattern_count bytes before base entries own after h

  pub items_size : (count : ℕ) (before : List Name) (items : List ItemTree) (atoms : List (Fact Term)) (after : List Name) → count ≤ MAX_ATOMS
      → AreItems words schema bytes before items atoms after → AreFitting words schema bytes count items → count + length atoms ≤ MAX_ATOMS
  items_size count before [] atoms after room (none, same) fits = omega (arith, ap length none)
  items_size count before (item ∷ items) atoms after room (own, rest, between, joined, is, more) fits =
      let later = items_size (count + item_size item) between items rest after fits.0.3 more fits.1 in
      omega (arith, later, ap length joined, length-append own rest, item_count before item own between is)
