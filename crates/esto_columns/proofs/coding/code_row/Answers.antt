use Rattle.std.proofs.Common.{◌∙◌}
use Rattle.esto_columns.proofs.CodingLemmas.{text_turn, grows_by, grows_on}
use Rattle.esto_columns.proofs.coding.code_row.Goals as goal

pub returns-in-Err-clause-grown : goal.returns-in-Err-clause-grown
returns-in-Err-clause-grown c = (c.texts.invariant.1.0, c.in-Err.ensures.err ∙ c.texts.invariant.1.1)

pub returns-in_err-push-in-Ok-clause-grown : goal.returns-in_err-push-in-Ok-clause-grown
returns-in_err-push-in-Ok-clause-grown c =
    grows_on c.args.codes.now c.texts.codes c.intern.new.self c.texts.invariant.1
    (grows_by c.texts.codes c.intern.new.self c.bytes.result.now c.in-Ok.code c.in-Ok.ensures.grown)

pub texts-preserved : goal.texts-preserved
texts-preserved c =
    let grown = grows_by c.texts.codes c.intern.new.self c.bytes.result.now c.in-Ok.code c.in-Ok.ensures.grown in (
      text_turn c.texts.codes c.intern.new.self c.items-text-items.result.now c.texts.coded c.push.new.self c.texts.text-index c.in-Ok.code c.text-item.result
          c.bytes.result.now grown c.texts-test.true c.text-item.is c.bytes.ensures.value
          c.texts.invariant.0 c.in-Ok.ensures.found c.in_ok-push-in-Ok.ensures.ok,
      grows_on c.args.codes.now c.texts.codes c.intern.new.self c.texts.invariant.1 grown,
    )
