use Rattle.std.proofs.Common.{◌≡◌, ◌≤◌, [], length, sym, subst, ◌∙◌, arith}
use Rattle.std.proofs.lemmas.Result.{IfOk-weaker}
use Rattle.esto_term.proofs.ZipLemmas.{zip_length}
use Rattle.esto_columns.specs.CodedRows.{CodedRows}
use Rattle.esto_steps.specs.Planned.{IsSource}
use Rattle.esto_semantics.specs.Facts.{terms_of}
use Rattle.esto_coded.specs.Answered.{AreCodedAnswers}
use Rattle.esto_coded.specs.Relations.{coded_of}
use Rattle.esto_coded.specs.declared.coded.TheConstants.{FIRST_NODE}
use Rattle.esto_coded.proofs.AnswerLemmas.{no_answers, results_coded}
use Rattle.esto_coded.proofs.WholeLemmas.{take_whole}
use Rattle.esto_coded.proofs.answers.answers_by.Goals as goal

pub returns-then-not-are_over-clause-rows : goal.returns-then-not-are_over-clause-rows
returns-then-not-are_over-clause-rows c = let vain = c.if-not-are_over.ensures in
    IfOk-weaker c.new.result (λ (it : CodedRows). it ≡ record { arity = length c.args.head.now; rows = [] })
    (λ (it : CodedRows). AreCodedAnswers (coded_of c.args.codes.now c.args.relations.now) (record { head = c.args.head.now; body = c.args.body.now }) it.rows)
    (λ it is. subst (λ (them : CodedRows). AreCodedAnswers (coded_of c.args.codes.now c.args.relations.now)
    (record { head = c.args.head.now; body = c.args.body.now }) them.rows) (sym is)
    (no_answers c.args.codes.now c.args.relations.now (record { head = c.args.head.now; body = c.args.body.now }) vain.0 vain.1 vain.2))
    c.new.ensures

pub results-requires : goal.results-requires
results-requires c = take_whole c.args.codes.now (record { head = c.args.head.now; body = c.args.body.now }) c.args.steps.now c.args.relations.now
    c.requires.whole c.if-not-are_over.ensures c.requires.steps

pub returns-clause-arity : goal.returns-clause-arity
returns-clause-arity c =
    IfOk-weaker c.results.result (λ (it : CodedRows). it.arity ≡ length c.args.steps.now.head) (λ (it : CodedRows). it.arity ≡ length c.args.head.now)
    (λ it is. is ∙ sym (zip_length (IsSource c.args.codes.now (terms_of c.args.body.now)) c.args.head.now c.args.steps.now.head (c.requires.steps).head))
    c.results.ensures.arity

pub returns-clause-rows : goal.returns-clause-rows
returns-clause-rows c =
    let count = c.len.ensures.count in
    let below = c.if-len-gt-FIRST_NODE.false in
    let few : length c.args.codes.now ≤ FIRST_NODE = omega (arith, count, below) in
    IfOk-weaker c.results.result _ _
    (λ it told. results_coded c.args.codes.now c.args.relations.now (record { head = c.args.head.now; body = c.args.body.now }) c.args.steps.now it.rows
    (record { distinct = c.len.ensures.distinct; few = few }) c.requires.fixed c.if-not-are_over.ensures c.requires.steps told)
    c.results.ensures.rows
