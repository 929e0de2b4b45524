use Rattle.std.proofs.Common.{get_or, refl, sym, ◌∙◌}
use Rattle.std.proofs.lemmas.List.{get_or_default}
use Rattle.esto_cert.specs.Certificates.{numbered, equality_of, equalities_at}
use Rattle.esto_cert.proofs.ReadLemmas.{walk_turn, walk_wanting, walk_end}
use Rattle.esto_cert.proofs.naming.equalities_at.Goals as goal

pub returns-in_default : goal.returns-in_default
returns-in_default c = walk_wanting c.args.numbers.now (equalities_at c.args.claims.now) (λ number. equality_of (numbered c.args.claims.now number)) refl
    (λ number rest. refl) c.numbers.number-index (get_or c.args.numbers.now c.numbers.number-index 0) c.numbers.equalities c.numbers-test.true
    (get_or_default c.args.numbers.now c.numbers.number-index _ _ c.numbers-test.true) (sym c.in_ok-equality.ensures ∙ c.in_default.is) c.numbers.invariant

pub numbers-preserved : goal.numbers-preserved
numbers-preserved c = walk_turn c.args.numbers.now (equalities_at c.args.claims.now) (λ number. equality_of (numbered c.args.claims.now number)) refl
    (λ number rest. refl) c.numbers.number-index (get_or c.args.numbers.now c.numbers.number-index 0) c.in-Some.equality c.numbers.equalities c.push.new.self
    c.numbers-test.true (get_or_default c.args.numbers.now c.numbers.number-index _ _ c.numbers-test.true)
    (sym c.in_ok-equality.ensures ∙ c.in-Some.is) c.in_ok-push.ensures.ok c.numbers.invariant

pub returns : goal.returns
returns c = walk_end c.args.numbers.now (equalities_at c.args.claims.now) (λ number. equality_of (numbered c.args.claims.now number)) refl
    (λ number rest. refl) c.numbers.number-index c.numbers.equalities c.numbers-test.false c.numbers.invariant
