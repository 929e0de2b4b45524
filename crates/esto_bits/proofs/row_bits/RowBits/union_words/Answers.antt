use Rattle.std.proofs.Common.{◌∙◌, ap, refl, sym, length}
use Rattle.esto_term.specs.Sets.{united}
use Rattle.esto_term.proofs.SetLemmas.{length-united}
use Rattle.esto_bits.specs.Words.{set_of}
use Rattle.esto_bits.proofs.WordLemmas.{Keep, same_length, length-set_of, keep-joined}
use Rattle.esto_bits.proofs.row_bits.RowBits.union_words.Goals as goal

pub add_bits-requires : goal.add_bits-requires
add_bits-requires c =
    same_length _ _ _ (record { below = c.self.invariant; is = c.self.view_is }) c.args.words.now (length c.args.self.now) _
    (record { below = c.requires; is = refl }) (sym (length-set_of c.args.words.now (length c.args.self.now)))

-- the words keep the union
joined : (c : goal.After-add_bits) → Keep c.add_bits.new.words.items c.self.inside.count
    (united c.args.self.now (set_of c.args.words.now (length c.args.self.now)))
joined c =
    keep-joined _ _ _ (record { below = c.self.invariant; is = c.self.view_is }) c.args.words.now (length c.args.self.now) _
    (record { below = c.requires; is = refl }) (sym (length-set_of c.args.words.now (length c.args.self.now)))
    _ c.args.words.now refl c.add_bits.ensures.length c.add_bits.ensures.bits

pub invariant_of-self : goal.invariant_of-self
invariant_of-self c = (joined c).below

pub returns-clause-value : goal.returns-clause-value
returns-clause-value c = (joined c).is

pub returns-clause-count : goal.returns-clause-count
returns-clause-count c =
    ap length (joined c).is
    ∙ length-united c.args.self.now (set_of c.args.words.now (length c.args.self.now)) (sym (length-set_of c.args.words.now (length c.args.self.now)))
