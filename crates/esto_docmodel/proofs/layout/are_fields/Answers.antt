use Rattle.std.proofs.Common.{sym, ◌∙◌}
use Rattle.std.proofs.lemmas.Bool.{false≢true}
use Rattle.esto_docmodel.proofs.LayoutLemmas.{fields_parts, each_goes, each_fails}
use Rattle.esto_docmodel.proofs.layout.are_fields.Goals as goal

pub entries-preserved : goal.entries-preserved
entries-preserved c =
    each_goes (fields_parts c.entries.left.now c.in-Some.rest.now c.in-Some.entry.now c.in-Some.ensures.cases.0 c.path_of.result.now c.path_of.ensures.paths)
    (c.is_new_field.ensures.0 c.if-not-is_new_field.false) c.entries.invariant

pub returns-then-not-is_new_field : goal.returns-then-not-is_new_field
returns-then-not-is_new_field c = (
  λ e. absurd (false≢true e),
  λ h. absurd (each_fails
      (fields_parts c.entries.left.now c.in-Some.rest.now c.in-Some.entry.now c.in-Some.ensures.cases.0 c.path_of.result.now c.path_of.ensures.paths)
      (λ is. false≢true (sym c.if-not-is_new_field.true ∙ c.is_new_field.ensures.1 is)) c.entries.invariant h),
)
