use Rattle.std.proofs.Common.{◌≡◌, ◌∙◌, refl, subst, sym}
use Rattle.std.proofs.lemmas.Bool.{false≢true}
use Rattle.esto_term.specs.Sets.{Covers}
use Rattle.esto_bits.specs.Kept.{AreOver, IsAntichain, Kept, with_set}
use Rattle.esto_bits.specs.Words.{AreWordsBelow, set_of}
use Rattle.esto_bits.proofs.FamilyLemmas.{with_set-covered}
use Rattle.esto_bits.proofs.ProductLemmas.{added, added_holds}
use Rattle.esto_bits.proofs.products.Products.add_words.Goals as goal

pub covers-requires : goal.covers-requires
covers-requires c = subst (λ (it : Kept). AreWordsBelow c.args.words.now it.count) (sym c.self.view_is) c.requires

-- ---- the set is covered

covered : (c : goal.Then-covers) → Covers c.args.self.now.sets (set_of c.args.words.now c.args.self.now.count)
covered c = subst (λ (it : Kept). Covers it.sets (set_of c.args.words.now it.count)) c.self.view_is (c.covers.ensures.0 c.if-covers.true)

pub returns-then-covers-clause-answer : goal.returns-then-covers-clause-answer
returns-then-covers-clause-answer c = (λ _. covered c, λ _. refl)

pub returns-then-covers-clause-ok : goal.returns-then-covers-clause-ok
returns-then-covers-clause-ok c = with_set-covered c.args.self.now.sets _ (covered c)

-- ---- memory is wanting

pub invariant_of-self : goal.invariant_of-self
invariant_of-self c =
    subst (λ (it : Kept). AreOver it.count it.sets × IsAntichain it.sets) (sym c.in_err-put_for_supersets.ensures.err) c.self.invariant

-- ---- the set is put in place of its supersets

uncovered : (c : goal.In_ok-put_for_supersets) → ¬ (Covers c.self.inside.packed.sets (set_of c.args.words.now c.self.inside.packed.count))
uncovered c = λ covers. false≢true (sym c.if-covers.false ∙ c.covers.ensures.1 covers)

pub returns-clause-answer : goal.returns-clause-answer
returns-clause-answer c = (
  λ never. absurd (false≢true (sym never)),
  λ covers. absurd (uncovered c (subst (λ (it : Kept). Covers it.sets (set_of c.args.words.now it.count)) (sym c.self.view_is) covers)),
)

pub invariant_of-self-2 : goal.invariant_of-self-2
invariant_of-self-2 c =
    added_holds c.args.words.now c.self.inside.packed c.self.invariant (uncovered c) c.put_for_supersets.new.self c.in_ok-put_for_supersets.ensures.ok

pub returns-clause-ok : goal.returns-clause-ok
returns-clause-ok c =
    subst (λ (it : Kept). c.put_for_supersets.new.self.sets ≡ with_set it.sets (set_of c.args.words.now it.count)) c.self.view_is
    (added c.args.words.now c.self.inside.packed c.self.invariant (uncovered c) c.put_for_supersets.new.self c.in_ok-put_for_supersets.ensures.ok)
