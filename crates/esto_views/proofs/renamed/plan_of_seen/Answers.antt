use Rattle.std.proofs.Common.{map, ◌∙◌, ap}
use Rattle.esto_views.specs.Renamings.{name_of, numbered}
use Rattle.esto_views.proofs.RenamedLemmas.{keeps, renamed_is}
use Rattle.esto_views.proofs.renamed.plan_of_seen.Goals as goal

pub invariant_of-result : goal.invariant_of-result
invariant_of-result c = record {
  sound = ∣ rw (
    c.in_ok-atoms.ensures,
    c.in_ok-new_head.ensures ∙ ap (map (numbered 0 c.args.seen.now)) c.items.ensures,
    c.in_ok-new_names.ensures ∙ ap (map (name_of c.args.names.now)) c.items-2.ensures,
  )
      (keeps c.args.names.now c.args.rows.now c.args.head.now c.args.seen.now c.requires.seen c.requires.head) ∣₁;
}

pub returns : goal.returns
returns c =
    renamed_is c.args.names.now c.args.rows.now c.args.head.now c.args.seen.now c.requires.seen
    c.in_ok-atoms.atoms c.in_ok-new_head.new_head c.in_ok-new_names.new_names c.in_ok-atoms.ensures
    (c.in_ok-new_head.ensures ∙ ap (map (numbered 0 c.args.seen.now)) c.items.ensures)
    (c.in_ok-new_names.ensures ∙ ap (map (name_of c.args.names.now)) c.items-2.ensures)
