use Rattle.std.proofs.Common.{sym, ◌∙◌}
use Rattle.std.proofs.lemmas.Result.{on_ok_weaker}
use Rattle.esto_term.specs.declared.term.Term.TheVariants.{Const, Plain}
use Rattle.esto_docmodel.specs.DocumentFacts.{value}
use Rattle.esto_docmodel.proofs.EncodeLemmas.{has_constant, kept_none, kept_one}
use Rattle.esto_docmodel.proofs.GainLemmas.{gains_none, gains_those}
use Rattle.esto_docmodel.proofs.nodes.put_value.Goals as goal

pub put_text-requires : goal.put_text-requires
put_text-requires g c = c.requires.room (value (Plain c.args.node) (Const c.args.text.now))

pub returns-then-not-has : goal.returns-then-not-has
returns-then-not-has g c =
    gains_none g.S.FactSink.Holds g.S.FactSink.arities _ c.args.sink.now
    (kept_none c.args.relations.now (value (Plain c.args.node) (Const c.args.text.now))
    (has_constant c.args.relations.now.value c.args.text.now ∙ sym c.has.ensures ∙ c.if-not-has.true))

pub returns : goal.returns
returns g c = on_ok_weaker c.put_text.result
    (gains_those g.S.FactSink.Holds g.S.FactSink.arities _ _ c.args.sink.now c.put_text.new.self
    (sym (kept_one c.args.relations.now (value (Plain c.args.node) (Const c.args.text.now))
    (has_constant c.args.relations.now.value c.args.text.now ∙ sym c.has.ensures ∙ c.if-not-has.false))))
    c.put_text.ensures
