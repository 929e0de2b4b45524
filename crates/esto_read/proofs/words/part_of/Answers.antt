use Rattle.std.proofs.Common.{ℕ, ◌≡◌, sym, subst}
use Rattle.esto_docmodel.specs.Words.{IsPart}
use Rattle.esto_docmodel.specs.declared.words.DataModel.{DataModel}
use Rattle.esto_docmodel.specs.declared.words.Word.{Word}
use Rattle.esto_term.proofs.ListLemmas.{each_more, each_seen}
use Rattle.esto_read.proofs.words.part_of.Goals as goal

pub words-preserved : goal.words-preserved
words-preserved c =
    each_more (λ (word : Word). (place : ℕ) → ¬ ((word.name ≡ c.args.name.now) × IsPart word.model c.args.part.now place)) _ _ _ c.words-test.true
    c.word-item.is c.in_default.ensures c.words.invariant

pub returns : goal.returns
returns c relation (model, base, place, (word, h, n, m, b), part, e) =
    each_seen (λ (word : Word). (place : ℕ) → ¬ ((word.name ≡ c.args.name.now) × IsPart word.model c.args.part.now place)) c.args.words.now
    c.words.word-index c.words-test.false c.words.invariant word h place
    (n, subst (λ (model : DataModel). IsPart model c.args.part.now place) (sym m) part)
