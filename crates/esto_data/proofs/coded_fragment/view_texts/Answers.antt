use Rattle.esto_fill.specs.Databases.{database_of}
use Rattle.esto_fill.proofs.LawLemmas.{texts_no_node}
use Rattle.esto_query.specs.Making.{query_of}
use Rattle.esto_semantics.specs.Queries.{IsAnswer}
use Rattle.esto_data.proofs.coded_fragment.view_texts.Goals as goal

pub answer_coded-requires : goal.answer_coded-requires
answer_coded-requires c = (c.requires.0, c.requires.1)

pub unreachable-requires : goal.unreachable-requires
unreachable-requires c =
    let (loaded, its, texts) = c.requires in
    texts_no_node (IsAnswer (query_of c.args.view.now) (database_of loaded.facts)) c.in-Err-NodeInRow.field-0-0 texts
    (rw c.in-Err-NodeInRow.field-0-is at (rw c.in-Err-NodeInRow.is at (c.answer_coded.ensures.rows loaded its)))
