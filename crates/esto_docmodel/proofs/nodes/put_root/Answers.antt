use Rattle.esto_docmodel.proofs.GainLemmas.{root_room}
use Rattle.esto_docmodel.proofs.nodes.put_root.Goals as goal

pub put_one-requires : goal.put_one-requires
put_one-requires g c = root_room (g.S.FactSink.arities c.args.sink.now) c.args.relations.now.base c.args.node c.requires
