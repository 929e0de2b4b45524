use Rattle.std.proofs.Common.{◌≢◌, refl, sym, ◌∙◌}
use Rattle.std.proofs.lemmas.Bool.{false≢true}
use Rattle.esto_query.specs.declared.query.Name.{Name}
use Rattle.esto_query.specs.declared.query.Name.TheVariants.{Given}
use Rattle.esto_term.proofs.ListLemmas.{each_more, each_seen}
use Rattle.esto_read.proofs.term.number_of.Goals as goal

pub names-preserved : goal.names-preserved
names-preserved c =
    each_more (λ (name : Name). name ≢ Given c.args.text.now) _ _ _ c.names-test.true c.index-names-number.is
    (λ same. false≢true (sym c.if-is_given.false ∙ c.is_given.ensures.1 same)) c.names.invariant

pub returns : goal.returns
returns c h = each_seen (λ (name : Name). name ≢ Given c.args.text.now) c.args.names.now c.names.number c.names-test.false c.names.invariant
    (Given c.args.text.now) h refl
