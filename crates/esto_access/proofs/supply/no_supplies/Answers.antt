use Rattle.std.proofs.Common.{◌≡◌, ◌++◌, [], ◌∷◌, replicate, arith, ap, ap₂, ◌∙◌}
use Rattle.std.proofs.lemmas.List.{replicate_more}
use Rattle.esto_bits.specs.Kept.{kept}
use Rattle.esto_access.proofs.supply.no_supplies.Goals as goal

pub numbers-init : goal.numbers-init
numbers-init c = c.new-supplies.ensures

pub numbers-preserved : goal.numbers-preserved
numbers-preserved c =
    let none : c.new.result ≡ kept c.args.count [] = λ i. record { count = c.new.ensures.count i; sets = c.new.ensures.empty i } in
    c.in_ok-push.ensures.ok ∙ ap₂ (λ supplies it. supplies ++ it ∷ []) c.numbers.invariant none ∙ replicate_more c.numbers._number (kept c.args.count [])

pub returns : goal.returns
returns c = c.numbers.invariant
    ∙ ap (λ number. replicate number (kept c.args.count [])) (omega (arith, c.numbers-test.false, c.numbers.auto._number-end))
