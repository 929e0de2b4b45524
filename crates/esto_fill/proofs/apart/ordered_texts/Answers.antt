use Rattle.std.proofs.Common.{List, sym, subst}
use Rattle.std.proofs.lemmas.Result.{IfOk-weaker}
use Rattle.esto_query.specs.Rows.{IsAscending}
use Rattle.esto_term.specs.declared.term.Term.{Term}
use Rattle.esto_fill.specs.Placing.{IsImageOf}
use Rattle.esto_fill.specs.Texts.{HaveTextsOnly}
use Rattle.esto_fill.proofs.DifferenceLemmas.{constants_rows, constants_texts}
use Rattle.esto_fill.proofs.apart.ordered_texts.Goals as goal

pub constant_texts-requires-clause-ascending : goal.constant_texts-requires-clause-ascending
constant_texts-requires-clause-ascending c = subst IsAscending (sym c.items.ensures) c.in_ok-terms.ensures.ascending

pub constant_texts-requires-clause-texts : goal.constant_texts-requires-clause-texts
constant_texts-requires-clause-texts c =
    subst (λ (those : List (List Term)). HaveTextsOnly (IsImageOf those)) (sym c.items.ensures)
    (constants_texts c.args.rows.now c.in_ok-terms.terms c.in_ok-terms.ensures.rows)

pub returns-clause-rows : goal.returns-clause-rows
returns-clause-rows c =
    IfOk-weaker c.constant_texts.result _ _
    (λ texts are. constants_rows c.args.rows.now c.in_ok-terms.terms c.in_ok-terms.ensures.rows texts are.exact)
    (rw c.items.ensures at c.constant_texts.ensures)

pub returns-clause-rising : goal.returns-clause-rising
returns-clause-rising c = IfOk-weaker c.constant_texts.result _ _ (λ texts are. are.rising) c.constant_texts.ensures
