use Rattle.std.proofs.Common.{map}
use Rattle.esto_query.specs.Making.{query_of}
use Rattle.esto_data.specs.Datasets.{OneNames, named_by}
use Rattle.esto_data.proofs.DatasetLemmas.{demand_exit, demand_exit_asks, load_exit_asks, loads_by, loads_by_asks, loads_want, needed_there, sources_there}
use Rattle.esto_data.proofs.unions.load_union.Goals as goal

pub demand_files-requires : goal.demand_files-requires
demand_files-requires g c =
    needed_there (g.S.Shelf.files c.args.shelf.now) c.args.catalogue.now.datasets (OneNames (map query_of c.args.queries.now))
    c.in_ok-numbers.numbers c.in_ok-numbers.ensures

pub returns-in_err-demand_files-clause-answer : goal.returns-in_err-demand_files-clause-answer
returns-in_err-demand_files-clause-answer g c =
    demand_exit (g.S.Shelf.files c.args.shelf.now) c.args.catalogue.now.datasets (OneNames (map query_of c.args.queries.now)) c.in_ok-numbers.numbers
    c.in_ok-numbers.ensures _ _ c.from_residual-in_err-demand_files.result c.from_residual-in_err-demand_files.ensures.1 c.in_err-demand_files.ensures _

pub load_files-requires : goal.load_files-requires
load_files-requires g c = sources_there c.args.catalogue.now.datasets 0 c.in_ok-numbers.numbers c.in_ok-demand_files.ensures

pub returns-clause-answer : goal.returns-clause-answer
returns-clause-answer g c =
    loads_by (g.S.Shelf.files c.args.shelf.now) c.args.catalogue.now.datasets (OneNames (map query_of c.args.queries.now)) c.in_ok-numbers.numbers
    c.in_ok-numbers.ensures (named_by c.args.queries.now)
    c.in_ok-demand_files.ensures _ _ _ c.load_files.result (rw (c.in_ok-wanted.ensures, c.items.ensures) at c.load_files.ensures.answer)

pub returns-in_err-wanted-clause-asked : goal.returns-in_err-wanted-clause-asked
returns-in_err-wanted-clause-asked g c =
    load_exit_asks _ _ _ c.from_residual.result c.from_residual.ensures.1 (loads_want (g.S.Shelf.files c.args.shelf.now) c.args.catalogue.now.datasets
    (OneNames (map query_of c.args.queries.now)) _)

pub returns-in_err-numbers-clause-asked : goal.returns-in_err-numbers-clause-asked
returns-in_err-numbers-clause-asked g c =
    load_exit_asks _ _ _ c.from_residual-in_err-numbers.result c.from_residual-in_err-numbers.ensures.1
    (loads_want (g.S.Shelf.files c.args.shelf.now) c.args.catalogue.now.datasets (OneNames (map query_of c.args.queries.now)) _)

pub returns-in_err-demand_files-clause-asked : goal.returns-in_err-demand_files-clause-asked
returns-in_err-demand_files-clause-asked g c =
    demand_exit_asks (g.S.Shelf.files c.args.shelf.now) c.args.catalogue.now.datasets (OneNames (map query_of c.args.queries.now)) c.in_ok-numbers.numbers
    c.in_ok-numbers.ensures _ _ c.from_residual-in_err-demand_files.result c.from_residual-in_err-demand_files.ensures.1 c.in_err-demand_files.ensures _

pub returns-clause-asked : goal.returns-clause-asked
returns-clause-asked g c =
    loads_by_asks (g.S.Shelf.files c.args.shelf.now) c.args.catalogue.now.datasets (OneNames (map query_of c.args.queries.now)) c.in_ok-numbers.numbers
    c.in_ok-numbers.ensures (named_by c.args.queries.now)
    c.in_ok-demand_files.ensures _ _ _ c.load_files.result (rw (c.in_ok-wanted.ensures, c.items.ensures) at c.load_files.ensures.answer)
