use Rattle.std.proofs.Common.{◌∙◌, ap, subst, sym}
use Rattle.esto_bits.specs.Kept.{CoversBoth, unions, with_sets}
use Rattle.esto_bits.proofs.JoinLemmas.{covers-joined}
use Rattle.esto_bits.proofs.products.Products.joined.Goals as goal

pub returns-clause-value : goal.returns-clause-value
returns-clause-value c =
    c.in_ok-add_unions.ensures.ok ∙ ap (λ start. with_sets start (unions c.args.self.now.sets c.args.others.now.sets)) c.new-found.ensures.empty

pub returns-clause-covers : goal.returns-clause-covers
returns-clause-covers c =
    subst (CoversBoth c.args.self.now.sets c.args.others.now.sets) (sym (returns-clause-value c)) (covers-joined c.args.self.now.sets c.args.others.now.sets)
