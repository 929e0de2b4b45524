use Rattle.std.proofs.Common.{ap, refl}
use Rattle.esto_course.specs.Course.Stops.{is_free}
use Rattle.esto_course.proofs.Steps.{at_exit, first_stops, gives_goes, then_goes}
use Rattle.esto_status.specs.declared.reply.Reply.TheVariants.{Done}
use Rattle.esto_data.proofs.UnionLemmas.{rows_fit}
use Rattle.esto_data.proofs.answering.answer_data.Goals as goal

pub returns-in_err-rows : goal.returns-in_err-rows
returns-in_err-rows c loaded stands = at_exit _ _ c.from_residual.result c.from_residual.ensures.1 (first_stops _ _ (c.in_err-rows.ensures loaded stands))

pub union_rows_text-requires : goal.union_rows_text-requires
union_rows_text-requires c = record {
  union = c.requires.union;
  fit = rows_fit c.args.queries.now c.requires.coded.0.facts c.in_ok-rows.rows c.requires.union
      (c.in_ok-rows.ensures c.requires.coded.0 c.requires.coded.1);
}

pub returns-in_err-text : goal.returns-in_err-text
returns-in_err-text c loaded stands = at_exit _ _ c.from_residual-in_err-text.result c.from_residual-in_err-text.ensures.1 (is_free refl)

pub returns : goal.returns
returns c loaded stands =
    then_goes _ _ c.in_ok-rows.rows _ (c.in_ok-rows.ensures loaded stands) (gives_goes _ _ _ (ap Done c.in_ok-text.ensures))
