use Rattle.std.proofs.Common.{◌≡◌, ◌<◌, ◌/◌, sym, subst}
use Rattle.std.specs.Prelude.{◌↔◌, ◌⊎◌}
use Rattle.esto_term.specs.Sets.{Has}
use Rattle.esto_bits.proofs.SetLemmas.{Has-set}
use Rattle.esto_bits.proofs.WordLemmas.{word_within, keep-changed}
use Rattle.esto_bits.proofs.row_bits.RowBits.insert.Goals as goal

pub index_mut-requires : goal.index_mut-requires
index_mut-requires c =
    subst (λ many. c.args.atom / 64 < many) (sym c.self.inside.words.ok.0)
    (word_within _ _ _ (record { below = c.self.invariant; is = c.self.view_is }) c.args.atom c.requires)

pub invariant_of-self : goal.invariant_of-self
invariant_of-self c =
    (keep-changed _ _ _ (record { below = c.self.invariant; is = c.self.view_is }) c.args.atom c.index_mut.result.now c.requires
    c.index_mut.ensures.value).below

pub returns-clause-value : goal.returns-clause-value
returns-clause-value c =
    (keep-changed _ _ _ (record { below = c.self.invariant; is = c.self.view_is }) c.args.atom c.index_mut.result.now c.requires c.index_mut.ensures.value).is

pub returns-clause-has : goal.returns-clause-has
returns-clause-has c number =
    let is = (keep-changed _ _ _ (record { below = c.self.invariant; is = c.self.view_is }) c.args.atom c.index_mut.result.now c.requires
    c.index_mut.ensures.value).is in
    subst (λ row. Has row number ↔ ((number ≡ c.args.atom) ⊎ Has c.args.self.now number)) (sym is) (Has-set c.args.self.now c.args.atom number c.requires)
