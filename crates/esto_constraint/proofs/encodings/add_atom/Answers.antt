use Rattle.std.proofs.Common.{◌++◌, ◌∷◌, [], ap, map, ◌∙◌}
use Rattle.std.proofs.lemmas.Result.{on_ok_weaker}
use Rattle.esto_term.specs.declared.term.Term.TheVariants.{Plain}
use Rattle.esto_constraint.proofs.EncodingLemmas.{made_all, made_more}
use Rattle.esto_constraint.proofs.encodings.add_atom.Goals as goal

pub variables-init : goal.variables-init
variables-init c = ap (λ those. those ++ map Plain c.args.variables.now) c.new-terms.ensures

pub variables-preserved : goal.variables-preserved
variables-preserved c =
    made_more Plain c.args.variables.now c.variables.variable-index c.variables.terms _ c.variables.invariant _ c.variables-test.true _ c.in_ok-push.ensures.ok

pub returns : goal.returns
returns c =
    let terms = made_all Plain c.args.variables.now c.variables.variable-index c.variables.terms _ c.variables.invariant c.variables-test.false in
    on_ok_weaker c.push-2.result (λ is. is ∙ ap (λ it. c.args.atoms.now ++ record { relation = c.args.relation; terms = it } ∷ []) terms)
    c.push-2.ensures.ok
