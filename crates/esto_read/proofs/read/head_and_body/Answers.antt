use Rattle.std.proofs.Common.{inr}
use Rattle.std.proofs.lemmas.Result.{err_from_is_err_and, IfErr-weaker}
use Rattle.esto_query.specs.Schemas.{arities_of}
use Rattle.esto_text.specs.View.{tree_of}
use Rattle.esto_read.proofs.BelowLemmas.{names_are_terms, terms_length}
use Rattle.esto_read.proofs.ReadLemmas.{is_read, body_error}
use Rattle.esto_read.proofs.RuleLemmas.{passed_holds, passed_ok, passed_err}
use Rattle.esto_read.proofs.read.head_and_body.Goals as goal

pub terms-requires-clause-utf8 : goal.terms-requires-clause-utf8
terms-requires-clause-utf8 c = c.requires.utf8

pub terms-requires-clause-stand : goal.terms-requires-clause-stand
terms-requires-clause-stand c = rw c.items-variables.ensures (names_are_terms c.args.bytes.now c.args.tree.now.variables c.requires.stands.1)

pub body-requires-clause-utf8 : goal.body-requires-clause-utf8
body-requires-clause-utf8 c = c.requires.utf8

pub body-requires-clause-stand : goal.body-requires-clause-stand
body-requires-clause-stand c = rw c.items.ensures c.requires.stands.2

pub body-requires-clause-relations : goal.body-requires-clause-relations
body-requires-clause-relations c = rw c.items-2.ensures c.requires.words.relations

pub demand_fit-requires-clause-names : goal.demand_fit-requires-clause-names
demand_fit-requires-clause-names c = rw c.items-variables.ensures c.requires.stands.1

pub demand_fit-requires-clause-lengths : goal.demand_fit-requires-clause-lengths
demand_fit-requires-clause-lengths c =
    rw c.items-3.ensures (terms_length c.args.bytes.now c.args.names.now c.items-variables.result.now c.in_ok-head.head c.terms.new.names
    c.in_ok-head.ensures)

pub returns-in_err-head : goal.returns-in_err-head
returns-in_err-head c =
    let p = err_from_is_err_and c.from_residual.result c.from_residual.ensures.1 in
    rw (p.1, p.2) (record { read = tt; fit = tt; error = tt })

pub returns-in_err-body : goal.returns-in_err-body
returns-in_err-body c =
    let p = err_from_is_err_and c.from_residual-in_err-body.result c.from_residual-in_err-body.ensures.1 in
    rw (p.1, p.2) (record {
      read = tt;
      fit = tt;
      error = body_error c.args.form c.args.words.now (arities_of c.args.schema.now) c.args.bytes.now (tree_of c.args.tree.now) _
          (rw (c.items.ensures, c.items-2.ensures) at c.in_err-body.ensures.err);
    })

pub returns-clause-read : goal.returns-clause-read
returns-clause-read c =
    passed_holds _ (c.in_ok-head.head, c.in_ok-body.body) _ c.and.ensures _
    (is_read c.args.words.now (arities_of c.args.schema.now) c.args.bytes.now c.args.tree.now c.in_ok-head.head c.in_ok-body.body c.body.new.names
    _ _ c.terms.new.names _ _ c.items-2.ensures c.requires.none c.items-variables.ensures c.items.ensures c.in_ok-head.ensures c.in_ok-body.ensures.ok
    c.in_ok-body.ensures.fits)

pub returns-clause-fit : goal.returns-clause-fit
returns-clause-fit c =
    passed_ok _ (c.in_ok-head.head, c.in_ok-body.body) _ c.and.ensures _
    (rw (c.items-variables.ensures, c.items-3.ensures, c.items-4.ensures) at c.demand_fit.ensures.fit)

pub returns-clause-error : goal.returns-clause-error
returns-clause-error c =
    passed_err _ _ _ c.and.ensures _ (IfErr-weaker c.demand_fit.result _ _ (λ error (fault, wrong, is). rw is (inr (
      c.in_ok-head.head,
      c.in_ok-body.body,
      c.body.new.names,
      is_read c.args.words.now (arities_of c.args.schema.now) c.args.bytes.now c.args.tree.now c.in_ok-head.head c.in_ok-body.body c.body.new.names
          _ _ c.terms.new.names _ _ c.items-2.ensures c.requires.none c.items-variables.ensures c.items.ensures c.in_ok-head.ensures
          c.in_ok-body.ensures.ok c.in_ok-body.ensures.fits,
      wrong,
    ))) (rw (c.items-variables.ensures, c.items-3.ensures, c.items-4.ensures) at c.demand_fit.ensures.error))
