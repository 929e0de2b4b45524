use Rattle.std.proofs.Common.{◌∙◌}
use Rattle.esto_docmodel.proofs.VariableLemmas.{fresh_numbers, sound_query}
use Rattle.esto_docmodel.specs.Shapes.{entries_of}
use Rattle.esto_docmodel.proofs.matches.query_of.Goals as goal

pub invariant_of-result : goal.invariant_of-result
invariant_of-result c =
    let entries = entries_of c.args.pattern.now.entries in
    let above = c.in_ok-root.ensures in
    record {
      sound = ∣ sound_query entries c.args.variables.now c.in_ok-root.root c.in_ok-next.next c.requires.flat c.requires.variables above
          c.in_ok-next.ensures
          c.in_ok-head.head c.in_ok-encoded.encoded.atoms c.in_ok-names.names c.in_ok-head.ensures c.in_ok-encoded.ensures.atoms
          (c.in_ok-names.ensures ∙ c.in_ok-encoded.ensures.next) ∣₁;
    }

pub returns-clause-body : goal.returns-clause-body
returns-clause-body c =
    let entries = entries_of c.args.pattern.now.entries in (
      c.in_ok-root.root,
      c.in_ok-next.next,
      fresh_numbers entries c.args.variables.now c.in_ok-root.root c.in_ok-next.next c.requires.variables c.in_ok-root.ensures c.in_ok-next.ensures,
      c.in_ok-encoded.ensures.atoms,
    )
