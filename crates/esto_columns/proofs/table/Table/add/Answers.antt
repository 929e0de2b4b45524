use Rattle.esto_columns.proofs.RowLemmas.{add_have, add_view, cut_have, cut_view}
use Rattle.esto_columns.proofs.table.Table.add.Goals as goal

pub invariant_of-self : goal.invariant_of-self
invariant_of-self c = add_have c.self.inside.count c.self.inside.columns.items c.push_codes.new.columns.items c.args.row.now c.args.self.now c.self.view_is
    c.self.invariant c.requires c.in-Ok.ensures.ok

pub invariant_of-self-in-Err : goal.invariant_of-self-in-Err
invariant_of-self-in-Err c = cut_have c.self.inside.count c.self.inside.columns.items c.cut.new.columns.items c.push_codes.new.columns.items c.args.row.now
    c.self.invariant c.in-Err.ensures.err c.cut.ensures

pub returns-in-Ok-clause-ok : goal.returns-in-Ok-clause-ok
returns-in-Ok-clause-ok c = add_view c.self.inside.count c.self.inside.columns.items c.push_codes.new.columns.items c.args.row.now c.args.self.now
    c.self.view_is c.self.invariant c.requires c.in-Ok.ensures.ok

pub returns-in-Err-clause-err : goal.returns-in-Err-clause-err
returns-in-Err-clause-err c = cut_view c.self.inside.count c.self.inside.columns.items c.cut.new.columns.items c.push_codes.new.columns.items c.args.row.now
    c.args.self.now c.self.view_is c.self.invariant c.in-Err.ensures.err c.cut.ensures
