use Rattle.std.proofs.Common.{sym, ◌∙◌, refl}
use Rattle.std.proofs.lemmas.Bool.{false≢true}
use Rattle.esto_docmodel.proofs.LayoutLemmas.{some_parts, one_more, one_found}
use Rattle.esto_docmodel.specs.declared.pattern.Step.TheVariants.{Name}
use Rattle.esto_docmodel.proofs.layout.some_begins_with.Goals as goal

pub entries-preserved : goal.entries-preserved
entries-preserved c =
    one_more (some_parts c.entries.left.now c.in-Some.rest.now c.in-Some.entry.now c.in-Some.ensures.cases.0 c.path_of.result.now c.path_of.ensures.paths
    (Name c.args.name.now))
    (λ is. false≢true (sym c.if-begins_with.false ∙ c.begins_with.ensures.1 is)) c.entries.invariant

pub returns-then-begins_with : goal.returns-then-begins_with
returns-then-begins_with c = (
  λ e. one_found (some_parts c.entries.left.now c.in-Some.rest.now c.in-Some.entry.now c.in-Some.ensures.cases.0 c.path_of.result.now c.path_of.ensures.paths
      (Name c.args.name.now))
      (c.begins_with.ensures.0 c.if-begins_with.true) c.entries.invariant,
  λ h. refl,
)
