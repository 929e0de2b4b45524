use Rattle.std.proofs.Common.{◌≡◌, drop, map}
use Rattle.esto_top.specs.Grammar.{numbers_above}
use Rattle.esto_top.proofs.AtomLemmas.{after}
use Rattle.esto_top.proofs.command.numbers_of.Given as goal

abbrev pub invariant-words : goal.invariant-words
invariant-words l =
    after l.numbers (numbers_above l.before (map (λ word. word.now) (drop l.word-index l.words))) ≡ numbers_above 0 (map (λ word. word.now) l.words)
