use Rattle.std.proofs.Common.{List, map, refl, subst}
use Rattle.std.proofs.lemmas.Option.{slice_get_within}
use Rattle.std.proofs.lemmas.Result.{on_ok_weaker}
use Rattle.esto_columns.specs.declared.stored.StoredRows.{StoredRows}
use Rattle.esto_term.specs.declared.term.Term.{Term}
use Rattle.esto_coded.specs.Coded.{rows_in}
use Rattle.esto_coded.specs.Relations.{coded_of}
use Rattle.esto_coded.specs.Spread.{AreReached, TakesPassing}
use Rattle.esto_coded.specs.Whole.{TellsOver}
use Rattle.esto_coded.proofs.SpreadLemmas.{atom_reached, atom_vain}
use Rattle.esto_coded.proofs.spread.take_atom.Goals as goal

pub returns-then-not-is_over : goal.returns-then-not-is_over
returns-then-not-is_over c = λ texts. atom_vain texts c.args.relations.now c.args.lead.now c.args.before.now c.args.atom.now c.args.set.now
    (subst (TellsOver c.args.relations.now c.args.atom.now) c.if-not-is_over.true c.is_over.ensures)

pub take_relation-requires : goal.take_relation-requires
take_relation-requires c =
    let over = subst (TellsOver c.args.relations.now c.args.atom.now) c.if-not-is_over.false c.is_over.ensures in
    slice_get_within c.args.relations.now c.args.atom.now.relation over.0 over.1

pub returns : goal.returns
returns c = on_ok_weaker c.take_relation.result
    (λ takes texts. atom_reached (coded_of texts c.args.relations.now) c.args.lead.now c.args.before.now c.args.atom.now c.in_ok-columns.columns
    (rows_in (map (λ (stored : StoredRows). stored.rows) c.args.relations.now) c.args.atom.now.relation) c.args.set.now c.take_relation.new.set refl
    (subst (λ (terms : List Term). AreReached c.args.lead.now c.args.before.now terms c.in_ok-columns.columns) c.items.ensures c.in_ok-columns.ensures)
    (subst (λ columns. TakesPassing columns (rows_in (map (λ (stored : StoredRows). stored.rows) c.args.relations.now) c.args.atom.now.relation)
    c.args.set.now c.take_relation.new.set)
    c.items-2.ensures takes))
    c.take_relation.ensures
