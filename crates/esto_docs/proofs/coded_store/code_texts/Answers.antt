use Rattle.std.proofs.Common.{length, sym, subst, ◌∙◌}
use Rattle.esto_docs.specs.Stores.{HaveWidth, IsRowIn, first_fault_in}
use Rattle.esto_docs.proofs.CodedStoreLemmas.{given_wide, given_codes}
use Rattle.esto_docs.proofs.coded_store.code_texts.Goals as goal

pub code_taken_rows-requires : goal.code_taken_rows-requires
code_taken_rows-requires c = subst (λ n. HaveWidth n c.in_ok-rows.rows) (sym c.len-columns.ensures)
    (given_wide c.args.shape.now c.args.fragment.now c.args.bytes.now c.in_ok-rows.rows c.requires c.in_ok-rows.ensures)

pub returns-clause-rows : goal.returns-clause-rows
returns-clause-rows c =
    let width = length c.args.fragment.now.view.head in
    given_codes (IsRowIn c.args.shape.now c.args.bytes.now) (first_fault_in c.args.shape.now width c.args.bytes.now) width c.in_ok-rows.rows
    c.code_taken_rows.new.codes c.in_ok-coded.coded c.in_ok-rows.ensures
    (given_wide c.args.shape.now c.args.fragment.now c.args.bytes.now c.in_ok-rows.rows c.requires c.in_ok-rows.ensures)
    (c.in_ok-coded.ensures.arity ∙ c.len-columns.ensures) c.in_ok-coded.ensures.coded
