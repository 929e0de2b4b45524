use Rattle.esto_term.proofs.ListLemmas.{Contains-at}
use Rattle.esto_data.proofs.KeptLemmas.{file_read, load_first, load_last, load_turn}
use Rattle.esto_data.proofs.kept.load_again.Goals as goal

pub files-init : goal.files-init
files-init c = load_first c.args.catalogue.now.datasets c.args.wanted.now c.nothing_loaded-loaded.result c.nothing_loaded-loaded.ensures.facts
    c.nothing_loaded-loaded.ensures.next

pub load_file-requires-clause-number : goal.load_file-requires-clause-number
load_file-requires-clause-number c =
    c.requires.numbers c.file-item.result
    (Contains-at c.args.files.now c.files.file-index c.file-item.result (file_read c.args.files.now c.items-file-items.result.now c.items-file-items.ensures
    c.files.file-index c.file-item.result c.files-test.true c.file-item.is))

pub load_file-requires-clause-readable : goal.load_file-requires-clause-readable
load_file-requires-clause-readable c dataset =
    c.requires.readable c.files.file-index c.file-item.result dataset (file_read c.args.files.now c.items-file-items.result.now c.items-file-items.ensures
    c.files.file-index c.file-item.result c.files-test.true c.file-item.is)

pub files-preserved : goal.files-preserved
files-preserved c =
    load_turn c.args.catalogue.now.datasets c.args.wanted.now c.items-file-items.result.now c.files.file-index c.file-item.result c.files-test.true
    c.file-item.is c.files.loaded c.in_ok-loaded.loaded c.in_ok-loaded.ensures c.files.invariant

pub returns : goal.returns
returns c =
    load_last c.args.catalogue.now.datasets c.args.wanted.now c.args.files.now c.items-file-items.result.now c.items-file-items.ensures c.files.file-index
    c.files-test.false c.files.loaded c.files.invariant
