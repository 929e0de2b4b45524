use Rattle.std.proofs.Common.{◌≡◌, take}
use Rattle.std.specs.Prelude.{Contains}
use Rattle.esto_docmodel.specs.declared.words.Word.{Word}
use Rattle.esto_read.proofs.words.base_of.Given as goal

abbrev pub invariant-words : goal.invariant-words
invariant-words l = (word : Word) → Contains (take l.word-index l.words) word → ¬ ((word.name ≡ l.name) × (word.model ≡ l.model))
