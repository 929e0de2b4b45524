use Rattle.std.proofs.Common.{◌≡◌, All, length, ap, sym, subst, ◌∙◌}
use Rattle.std.proofs.lemmas.Result.{IfOk-weaker}
use Rattle.esto_rows.specs.Lent.{lent_rows}
use Rattle.esto_rows.proofs.LentLemmas.{sorted_members}
use Rattle.esto_run.specs.Answers.{rows_text}
use Rattle.esto_run.proofs.RunLemmas.{all_long}
use Rattle.esto_run.proofs.answers.coded_answers_text.Goals as goal

pub lent_answers_text-requires : goal.lent_answers_text-requires
lent_answers_text-requires c =
    let width = length c.args.query.now.head in let rows = lent_rows c.in_ok-sorted.sorted.items in
    let members = sorted_members c.args.codes.now c.args.rows.now.rows _ rows c.in_ok-lent.ensures c.in_ok-sorted.ensures.rows in
    subst (All (λ row. length row ≡ width)) (sym (ap lent_rows c.as_slice.ensures.value))
    (all_long width rows (λ row inside. c.requires.wide row ((members row).0 inside)))

pub returns : goal.returns
returns c = IfOk-weaker c.lent_answers_text.result _ _ (λ text is. record {
  rows = lent_rows c.in_ok-sorted.sorted.items;
  exact = sorted_members c.args.codes.now c.args.rows.now.rows _ (lent_rows c.in_ok-sorted.sorted.items) c.in_ok-lent.ensures c.in_ok-sorted.ensures.rows;
  rising = c.in_ok-sorted.ensures.ascending;
  printed = is ∙ ap (λ them. rows_text c.args.query.now (lent_rows them)) c.as_slice.ensures.value;
}) c.lent_answers_text.ensures
