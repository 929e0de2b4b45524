use Rattle.std.proofs.Common.{◌≡◌, ◌↔◌, ◌∙◌, IfOk, OnOk, ap, false, subst, sym}
use Rattle.std.proofs.lemmas.Result.{on_ok_weaker}
use Rattle.esto_term.specs.Sets.{Covers}
use Rattle.esto_bits.specs.Kept.{CoversAlso, with_set}
use Rattle.esto_bits.specs.Words.{AreWordsBelow, set_of}
use Rattle.esto_bits.proofs.FamilyLemmas.{covered-with_set}
use Rattle.esto_bits.proofs.products.Products.add.Goals as goal

pub add_words-requires : goal.add_words-requires
add_words-requires c = subst (AreWordsBelow c.words.result.now) c.requires c.words.ensures.below

-- the words keep the set
same : (c : goal.After-add_words) → set_of c.words.result.now c.args.self.now.count ≡ c.args.set.now
same c = ap (set_of c.words.result.now) (sym c.requires) ∙ c.words.ensures.set

pub returns-clause-answer : goal.returns-clause-answer
returns-clause-answer c =
    subst (λ set. IfOk c.add_words.result (λ added. (added ≡ false) ↔ Covers c.args.self.now.sets set)) (same c) c.add_words.ensures.answer

pub returns-clause-ok : goal.returns-clause-ok
returns-clause-ok c =
    subst (λ set. OnOk c.add_words.result (c.add_words.new.self.sets ≡ with_set c.args.self.now.sets set)) (same c) c.add_words.ensures.ok

pub returns-clause-covers : goal.returns-clause-covers
returns-clause-covers c =
    on_ok_weaker c.add_words.result
    (λ now. subst (CoversAlso c.args.self.now.sets c.args.set.now) (sym now) (covered-with_set c.args.self.now.sets c.args.set.now)) (returns-clause-ok c)
