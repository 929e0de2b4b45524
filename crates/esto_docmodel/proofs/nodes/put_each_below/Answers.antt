use Rattle.std.proofs.Common.{get_or, ap, arith, map}
use Rattle.std.proofs.lemmas.List.{drop_all}
use Rattle.esto_term.specs.declared.term.Term.TheVariants.{Plain}
use Rattle.esto_docmodel.specs.DocumentFacts.{below, flat}
use Rattle.esto_docmodel.specs.Encodings.{belows}
use Rattle.esto_docmodel.specs.Putting.{turned}
use Rattle.esto_docmodel.proofs.EncodeLemmas.{below_rest}
use Rattle.esto_docmodel.proofs.GainLemmas.{leads_start, leads_more, leads_end, room_stays}
use Rattle.esto_docmodel.proofs.nodes.put_each_below.Goals as goal

pub above-init : goal.above-init
above-init g c = leads_start g.S.FactSink.Holds g.S.FactSink.arities _ c.args.sink.now

pub put_two-requires : goal.put_two-requires
put_two-requires g c =
    room_stays g.S.FactSink.Holds g.S.FactSink.arities c.args.base c.args.sink.now c.above.sink c.above.invariant.same c.requires.room
    (below (Plain (get_or c.args.above.now c.above.ancestor-index 0)) (Plain c.args.number))

pub above-preserved : goal.above-preserved
above-preserved g c =
    leads_more g.S.FactSink.Holds g.S.FactSink.arities _ _ _ _ c.args.sink.now c.above.sink c.put_two.new.self
    (below_rest c.args.base c.args.number c.args.above.now c.above.ancestor-index c.above-test.true) c.in_ok-put_two.ensures c.above.invariant

pub returns : goal.returns
returns g c =
    leads_end g.S.FactSink.Holds g.S.FactSink.arities _ _ c.args.sink.now c.above.sink
    (ap (λ xs. map (flat c.args.base) (belows (turned xs) c.args.number))
    (drop_all c.above.ancestor-index c.args.above.now (omega (arith, c.above-test.false)))) c.above.invariant
