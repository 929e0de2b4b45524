use Rattle.std.proofs.Common.{[], ◌∷◌, ◌++◌, sym, ap, ◌∙◌}
use Rattle.std.proofs.lemmas.Bool.{false≢true}
use Rattle.esto_term.proofs.ListLemmas.{Contains-read}
use Rattle.esto_views.specs.Expanded.{facts_chosen}
use Rattle.esto_backchase.proofs.CandidateLemmas.{chosen-ends, chosen-passed, chosen-taken}
use Rattle.esto_backchase.proofs.candidates.facts_chosen.Goals as goal
use Rattle.esto_backchase.proofs.candidates.facts_chosen.Goals.{then-has+in_ok-fact+in_ok-push, else-has}

pub has-requires : goal.has-requires
has-requires c = c.requires _ (Contains-read _ _ _ c.facts-test.true c.part-item.is)

pub facts-init : goal.facts-init
facts-init c = ap (λ it. it ++ facts_chosen c.args.set.now c.args.expanded.now) c.new-facts.ensures

pub facts-preserved : goal.facts-preserved
facts-preserved c = elim c.if-has.branch [
  | then-has+in_ok-fact+in_ok-push w ↦
      chosen-taken c.args.set.now c.args.expanded.now c.facts.part-index c.facts.facts c.facts.invariant c.part-item.result c.facts-test.true c.part-item.is
      (c.has.ensures.0 w.if-has.true) _ (w.facts-is ∙ w.in_ok-push.ensures.ok ∙ ap (λ it. c.facts.facts ++ it ∷ []) w.in_ok-fact.ensures)
  | else-has w ↦
      rw w.facts-is (chosen-passed c.args.set.now c.args.expanded.now c.facts.part-index c.facts.facts c.facts.invariant c.part-item.result c.facts-test.true
      c.part-item.is (λ has. false≢true (sym w.if-has.false ∙ c.has.ensures.1 has)))
]

pub returns : goal.returns
returns c = chosen-ends c.args.set.now c.args.expanded.now c.facts.part-index c.facts.facts c.facts.invariant c.facts-test.false
