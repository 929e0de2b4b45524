use Rattle.std.proofs.Common.{length}
use Rattle.esto_docs.specs.Stores.{IsRowIn, first_fault_in}
use Rattle.esto_docs.proofs.StoreLemmas.{gives_wide, shape_wide}
use Rattle.esto_docs.proofs.store.open_store.Goals as goal

pub returns-clause-wide : goal.returns-clause-wide
returns-clause-wide c =
    let columns = length c.args.fragment.now.view.head in
    gives_wide (IsRowIn c.args.store.now.shape c.args.bytes.now) columns (first_fault_in c.args.store.now.shape columns c.args.bytes.now) c.rows_in.result
    c.rows_in.ensures (shape_wide c.args.store.now.shape c.args.fragment.now c.args.bytes.now c.requires)
