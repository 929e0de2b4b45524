use Rattle.std.proofs.Common.{inl, inr, refl}
use Rattle.std.proofs.lemmas.Result.{err_from_is_err_and, IfErr-weaker}
use Rattle.esto_read.proofs.RuleLemmas.{sides_are, passed_holds, passed_ok, passed_err}
use Rattle.esto_read.proofs.rule.safe_sides.Goals as goal

pub term-requires : goal.term-requires
term-requires c = record { utf8 = c.requires.utf8; stands = c.requires.left }

pub term-requires-2 : goal.term-requires-2
term-requires-2 c = record { utf8 = c.requires.utf8; stands = c.requires.right }

pub returns-in_err-left_term : goal.returns-in_err-left_term
returns-in_err-left_term c =
    let p = err_from_is_err_and c.from_residual.result c.from_residual.ensures.1 in
    rw (p.1, p.2) (record { sides = tt; fixed = tt; error = inl refl })

pub returns-in_err-right_term : goal.returns-in_err-right_term
returns-in_err-right_term c =
    let p = err_from_is_err_and c.from_residual-in_err-right_term.result c.from_residual-in_err-right_term.ensures.1 in
    rw (p.1, p.2) (record { sides = tt; fixed = tt; error = inl refl })

pub returns-clause-sides : goal.returns-clause-sides
returns-clause-sides c =
    passed_holds _ (c.in_ok-left_term.left_term, c.in_ok-right_term.right_term) _ c.and.ensures _
    (sides_are c.args.bytes.now c.args.names.now c.term.new.names c.term-2.new.names c.args.left c.args.right
    c.in_ok-left_term.left_term c.in_ok-right_term.right_term c.in_ok-left_term.ensures c.in_ok-right_term.ensures)

pub returns-clause-fixed : goal.returns-clause-fixed
returns-clause-fixed c =
    passed_ok _ (c.in_ok-left_term.left_term, c.in_ok-right_term.right_term) _ c.and.ensures _ c.demand_fixed.ensures.fixed

pub returns-clause-error : goal.returns-clause-error
returns-clause-error c =
    passed_err _ _ _ c.and.ensures _ (IfErr-weaker c.demand_fixed.result _ _ (λ error (offset, unsafe, is). inr (
      c.term-2.new.names,
      c.in_ok-left_term.left_term,
      c.in_ok-right_term.right_term,
      offset,
      sides_are c.args.bytes.now c.args.names.now c.term.new.names c.term-2.new.names c.args.left c.args.right c.in_ok-left_term.left_term
          c.in_ok-right_term.right_term c.in_ok-left_term.ensures c.in_ok-right_term.ensures,
      unsafe,
      is,
    )) c.demand_fixed.ensures.error)
