use Rattle.std.proofs.Common.{List, ap, ◌∙◌}
use Rattle.esto_status.specs.declared.reply.Reply.TheVariants.{Unsatisfiable}
use Rattle.esto_run.specs.Answers.{rows_text}
use Rattle.esto_stores.specs.Rows.{Row}
use Rattle.esto_rewriting.proofs.RunLemmas.{first_of}
use Rattle.esto_rewriting.proofs.run.no_rows.Goals as goal

pub returns : goal.returns
returns c = (
  c.index-queries-0.result,
  first_of c.args.queries.now c.index-queries-0.result c.requires c.index-queries-0.is,
  ap (Unsatisfiable c.args.clash) (c.in_ok-text.ensures ∙ ap (λ (rows : List Row). rows_text c.index-queries-0.result rows) c.new-rows.ensures),
)
