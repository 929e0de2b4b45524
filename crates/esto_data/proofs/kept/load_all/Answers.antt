use Rattle.esto_data.specs.Datasets.{IsAny}
use Rattle.esto_data.proofs.DatasetLemmas.{demand_exit, demand_exit_asks, keeps_by, keeps_by_asks, load_exit_asks, loads_want, needed_there, sources_there}
use Rattle.esto_data.proofs.kept.load_all.Goals as goal

pub demand_files-requires : goal.demand_files-requires
demand_files-requires g c =
    needed_there (g.S.Shelf.files c.args.shelf.now) c.args.catalogue.now.datasets IsAny c.in_ok-numbers.numbers c.in_ok-numbers.ensures

pub returns-in_err-demand_files-clause-answer : goal.returns-in_err-demand_files-clause-answer
returns-in_err-demand_files-clause-answer g c =
    demand_exit (g.S.Shelf.files c.args.shelf.now) c.args.catalogue.now.datasets IsAny c.in_ok-numbers.numbers c.in_ok-numbers.ensures _ _
    c.from_residual-in_err-demand_files.result c.from_residual-in_err-demand_files.ensures.1 c.in_err-demand_files.ensures _

pub keep_files-requires-clause-sources : goal.keep_files-requires-clause-sources
keep_files-requires-clause-sources g c = sources_there c.args.catalogue.now.datasets 0 c.in_ok-numbers.numbers c.in_ok-demand_files.ensures

pub returns-clause-answer : goal.returns-clause-answer
returns-clause-answer g c =
    keeps_by (g.S.Shelf.files c.args.shelf.now) c.args.catalogue.now.datasets IsAny c.in_ok-numbers.numbers c.in_ok-numbers.ensures c.args.wanted.now
    c.in_ok-demand_files.ensures _ c.keep_files.new.coded c.keep_files.result c.keep_files.ensures.answer c.keep_files.ensures.loaded

pub returns-in_err-numbers-clause-asked : goal.returns-in_err-numbers-clause-asked
returns-in_err-numbers-clause-asked g c =
    load_exit_asks _ _ _ c.from_residual.result c.from_residual.ensures.1 (loads_want (g.S.Shelf.files c.args.shelf.now) c.args.catalogue.now.datasets IsAny _)

pub returns-in_err-demand_files-clause-asked : goal.returns-in_err-demand_files-clause-asked
returns-in_err-demand_files-clause-asked g c =
    demand_exit_asks (g.S.Shelf.files c.args.shelf.now) c.args.catalogue.now.datasets IsAny c.in_ok-numbers.numbers c.in_ok-numbers.ensures _ _
    c.from_residual-in_err-demand_files.result c.from_residual-in_err-demand_files.ensures.1 c.in_err-demand_files.ensures _

pub returns-clause-asked : goal.returns-clause-asked
returns-clause-asked g c =
    keeps_by_asks (g.S.Shelf.files c.args.shelf.now) c.args.catalogue.now.datasets IsAny c.in_ok-numbers.numbers c.in_ok-numbers.ensures c.args.wanted.now
    c.in_ok-demand_files.ensures _ _ _
    c.keep_files.new.coded c.keep_files.result c.keep_files.ensures.answer c.keep_files.ensures.asked c.keep_files.ensures.loaded
