use Rattle.std.proofs.Common.{subst}
use Rattle.esto_coded.specs.Shown.{LeastNode}
use Rattle.esto_data.proofs.CodedRowLemmas.{known, no_node, shows_node}
use Rattle.esto_data.proofs.coded_answering.shown.Goals as goal

pub returns-in-Some : goal.returns-in-Some
returns-in-Some c =
    shows_node c.args.facts.now.texts c.args.rows.now.rows c.in-Some.place c.node_at.result c.node_at.ensures
    (subst (LeastNode c.args.rows.now.rows) c.in-Some.is c.least_node.ensures)

pub sorted_texts-requires : goal.sorted_texts-requires
sorted_texts-requires c row inside =
    let none = no_node c.args.rows.now.rows c.least_node.result c.in_default.not-Some c.least_node.ensures in
    let own = c.requires row inside in
    known c.args.facts.now.texts own.0 row own.1 (λ column has. none row column inside has)

pub returns : goal.returns
returns c =
    (no_node c.args.rows.now.rows c.least_node.result c.in_default.not-Some c.least_node.ensures, c.in_ok-texts.ensures.rows, c.in_ok-texts.ensures.ascending)
