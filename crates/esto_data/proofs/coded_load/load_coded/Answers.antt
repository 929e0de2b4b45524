use Rattle.std.proofs.Common.{List, ℕ, sym, subst}
use Rattle.std.specs.Prelude.{IfSome}
use Rattle.esto_mapping.specs.declared.dataset.Dataset.{Dataset}
use Rattle.esto_term.proofs.ListLemmas.{Contains-at}
use Rattle.esto_data.specs.CodedParts.{PutsFile}
use Rattle.esto_fill.specs.Files.{FindsFault, dataset_fault}
use Rattle.esto_data.proofs.CodedLoadLemmas.{file_more, finds_fault, has_relations, over_stays}
use Rattle.esto_data.proofs.coded_load.load_coded.Goals as goal

pub put_file-requires : goal.put_file-requires
put_file-requires c =
    let catalogue = c.args.catalogue.now in
    let dataset = c.item-dataset.result.now in
    has_relations catalogue.schema dataset c.args.coded.now c.requires.over
    ((c.catalogues_are_sound.ensures catalogue).datasets_are dataset (Contains-at catalogue.datasets c.args.number dataset c.item-dataset.ensures)).relations

pub returns-clause-over : goal.returns-clause-over
returns-clause-over c =
    let catalogue = c.args.catalogue.now in
    over_stays catalogue.datasets c.args.wanted.now c.args.number c.bytes.result.now c.item-dataset.result.now c.args.coded.now c.put_file.new.coded
    c.put_file.result catalogue.schema c.put_file.ensures c.requires.over

pub returns-clause-loaded : goal.returns-clause-loaded
returns-clause-loaded c =
    let catalogue = c.args.catalogue.now in
    let dataset = c.item-dataset.result.now in
    file_more catalogue.datasets c.args.wanted.now c.args.number c.args.bytes.now dataset c.args.coded.now c.put_file.new.coded
    c.put_file.result c.rows_in_order_stand_for_facts.ensures c.item-dataset.ensures
    (subst (λ (bytes : List ℕ). PutsFile dataset.model dataset c.args.wanted.now bytes c.args.coded.now c.put_file.new.coded c.put_file.result)
    c.bytes.ensures c.put_file.ensures)

pub returns-clause-fault : goal.returns-clause-fault
returns-clause-fault c =
    let dataset = c.item-dataset.result.now in
    subst (λ it. IfSome it (λ (its : Dataset). FindsFault (dataset_fault its c.args.bytes.now) c.put_file.result)) (sym c.item-dataset.ensures)
    (subst (λ (bytes : List ℕ). FindsFault (dataset_fault dataset bytes) c.put_file.result) c.bytes.ensures
    (finds_fault dataset c.args.wanted.now c.bytes.result.now c.args.coded.now c.put_file.new.coded dataset.model c.put_file.result c.put_file.ensures))
