use Rattle.std.proofs.Common.{◌++◌, ◌∷◌, [], List, ℕ, map, ap, ◌∙◌}
use Rattle.std.proofs.lemmas.List.{take_all}
use Rattle.esto_semantics.proofs.SubstitutionLemmas.{map_more}
use Rattle.esto_term.specs.declared.term.Term.{Term, out-Term}
use Rattle.esto_run.specs.Answers.{level_name}
use Rattle.esto_run.proofs.answers.head_names.Goals as goal

pub terms-init : goal.terms-init
terms-init c = c.new-names.ensures

pub terms-preserved : goal.terms-preserved
terms-preserved c =
    let name_in : Term → List ℕ = λ term. level_name c.args.query.now.names (out-Term term) in
    map_more name_in c.items-term-items.result.now c.terms.term-index c.term-item.result c.terms.names c.push.new.self c.terms-test.true c.term-item.is
    (c.in_ok-push.ensures.ok ∙ ap (λ it. c.terms.names ++ it ∷ []) c.in_ok-name.ensures) c.terms.invariant

pub returns : goal.returns
returns c =
    let name_in : Term → List ℕ = λ term. level_name c.args.query.now.names (out-Term term) in
    c.terms.invariant ∙ ap (map name_in) (take_all c.terms.term-index c.items-term-items.result.now c.terms-test.false ∙ c.items-term-items.ensures)
