use Rattle.std.proofs.Common.{◌≡◌, sym, ◌∙◌}
use Rattle.std.proofs.lemmas.Bool.{false≢true}
use Rattle.esto_docmodel.specs.declared.words.Word.{Word}
use Rattle.esto_term.proofs.ListLemmas.{each_more, each_seen}
use Rattle.esto_read.proofs.words.base_of.Goals as goal

pub words-preserved : goal.words-preserved
words-preserved c =
    each_more (λ (word : Word). ¬ ((word.name ≡ c.args.name.now) × (word.model ≡ c.args.model))) _ _ _ c.words-test.true c.word-item.is
    (λ same. false≢true (sym c.if-is_dataset.false ∙ c.is_dataset.ensures.1 same)) c.words.invariant

pub returns : goal.returns
returns c base (word, h, n, m, b) =
    each_seen (λ (word : Word). ¬ ((word.name ≡ c.args.name.now) × (word.model ≡ c.args.model))) c.args.words.now c.words.word-index c.words-test.false
    c.words.invariant word h (n, m)
