use Rattle.std.proofs.Common.{◌∷◌, [], ◌++◌, take, Contains, sym, subst, ap, ◌∙◌, arith}
use Rattle.std.proofs.lemmas.Bool.{false≢true}
use Rattle.std.proofs.lemmas.List.{take_all}
use Rattle.esto_term.proofs.ListLemmas.{Contains-at}
use Rattle.esto_term.proofs.PlaceLemmas.{take-there}
use Rattle.esto_rows.specs.Same.{AreMarked}
use Rattle.esto_rows.proofs.SameLemmas.{is_so, is_not, part_more, part_all}
use Rattle.esto_rows.proofs.same.mark_each.Goals as goal

pub returns-then-not-mark-clause-part : goal.returns-then-not-mark-clause-part
returns-then-not-mark-clause-part c = is_not (λ part. false≢true (sym c.if-not-mark.true ∙ c.mark.ensures.found.1
    (part c.items.result.now (subst (λ it. Contains c.args.others.now.rows it) (sym c.items.ensures)
    (Contains-at c.args.others.now.rows c.rows.at c.read_row.new.codes c.in_ok-read_row.ensures)))))

pub returns-then-not-mark-clause-marked : goal.returns-then-not-mark-clause-marked
returns-then-not-mark-clause-marked c = λ told. absurd (false≢true told)

pub rows-preserved : goal.rows-preserved
rows-preserved c = (
  c.mark.ensures.long ∙ c.rows.invariant.0,
  part_more c.args.others.now.rows c.args.rows.now.rows c.rows.at c.read_row.new.codes c.in_ok-read_row.ensures
      (subst (λ it. Contains c.args.rows.now.rows it) c.items.ensures (c.mark.ensures.found.0 c.if-not-mark.false)) c.rows.invariant.1,
  subst (λ them. AreMarked c.args.rows.now.rows them c.mark.new.marks)
      (ap (λ it. take c.rows.at c.args.others.now.rows ++ it ∷ []) c.items.ensures
      ∙ sym (take-there c.args.others.now.rows c.rows.at c.read_row.new.codes c.in_ok-read_row.ensures))
      (c.mark.ensures.marked c.if-not-mark.false (take c.rows.at c.args.others.now.rows) c.rows.invariant.2),
)

pub returns-clause-part : goal.returns-clause-part
returns-clause-part c = is_so (part_all c.args.others.now.rows c.args.rows.now.rows c.rows.at
    (let past = c.rows-test.false in let count = c.len-at-end.ensures in omega (arith, past, count)) c.rows.invariant.1)

pub returns-clause-marked : goal.returns-clause-marked
returns-clause-marked c = λ _. subst (λ them. AreMarked c.args.rows.now.rows them c.rows.marks)
    (take_all c.rows.at c.args.others.now.rows (let past = c.rows-test.false in let count = c.len-at-end.ensures in omega (arith, past, count)))
    c.rows.invariant.2
