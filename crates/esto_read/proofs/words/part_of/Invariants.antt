use Rattle.std.proofs.Common.{ℕ, ◌≡◌, take}
use Rattle.std.specs.Prelude.{Contains}
use Rattle.esto_docmodel.specs.Words.{IsPart}
use Rattle.esto_docmodel.specs.declared.words.Word.{Word}
use Rattle.esto_read.proofs.words.part_of.Given as goal

abbrev pub invariant-words : goal.invariant-words
invariant-words l =
    (word : Word) → Contains (take l.word-index l.words) word → (place : ℕ) → ¬ ((word.name ≡ l.name) × IsPart word.model l.part place)
