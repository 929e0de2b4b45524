use Rattle.std.proofs.Common.{◌<◌, All, false, inl, inr, length, ap, sym, subst, ◌∙◌}
use Rattle.std.proofs.lemmas.List.{length-replicate}
use Rattle.esto_term.specs.Sets.{Has}
use Rattle.esto_term.proofs.SetLemmas.{none_has}
use Rattle.esto_bits.proofs.row_bits.RowBits.of.Goals as goal

pub insert_all-requires : goal.insert_all-requires
insert_all-requires c = subst (λ count. All (λ number. number < count) c.args.numbers.now)
    (sym (ap length c.in_ok-set.ensures ∙ length-replicate c.args.atoms false)) c.requires

pub returns-clause-count : goal.returns-clause-count
returns-clause-count c = c.insert_all.ensures.count ∙ ap length c.in_ok-set.ensures ∙ length-replicate c.args.atoms false

pub returns-clause-has : goal.returns-clause-has
returns-clause-has c = λ number. (
  λ has. elim ((c.insert_all.ensures.has number).0 has) [
    | inl named ↦ named
    | inr before ↦ absurd (none_has c.args.atoms number (subst (λ set. Has set number) c.in_ok-set.ensures before))
  ],
  λ named. (c.insert_all.ensures.has number).1 (inl named),
)
