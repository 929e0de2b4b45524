use Rattle.std.proofs.Common.{List, [], ◌∷◌, ◌++◌, map, take, get_or, refl, ap, ◌∙◌}
use Rattle.std.proofs.lemmas.List.{get_or_default, take_all}
use Rattle.esto_term.specs.declared.term.Term.{Term}
use Rattle.esto_term.specs.declared.term.Term.TheVariants.{Const, Plain}
use Rattle.esto_semantics.proofs.SubstitutionLemmas.{map_more}
use Rattle.esto_docmodel.specs.Matching.{head_of}
use Rattle.esto_docmodel.proofs.matches.head_of.Goals as goal

pub variables-init : goal.variables-init
variables-init c = rw (c.new-head.ensures, c.new.ensures) at c.in_ok-push.ensures.ok

pub variables-preserved : goal.variables-preserved
variables-preserved c =
    let before = map Plain (take c.variables.variable-index c.args.variables.now) in
    let variable = get_or c.args.variables.now c.variables.variable-index 0 in
    c.in_ok-push-2.ensures.ok ∙ ap (λ (it : List Term). it ++ Plain variable ∷ []) c.variables.invariant
    ∙ ap (λ (it : List Term). Const [] ∷ it)
    (map_more Plain c.args.variables.now c.variables.variable-index variable before (before ++ Plain variable ∷ []) c.variables-test.true
    (get_or_default c.args.variables.now c.variables.variable-index 0 variable c.variables-test.true) refl refl)

pub returns : goal.returns
returns c = c.variables.invariant ∙ ap head_of (take_all c.variables.variable-index c.args.variables.now c.variables-test.false)
