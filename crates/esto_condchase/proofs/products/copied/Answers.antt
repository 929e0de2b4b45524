use Rattle.std.proofs.Common.{◌++◌, ap, ◌∙◌}
use Rattle.std.proofs.lemmas.Result.{on_ok_weaker}
use Rattle.esto_known.proofs.DoneLemmas.{handed_on}
use Rattle.esto_condchase.proofs.products.copied.Goals as goal

pub returns : goal.returns
returns c = handed_on c.put_terms.result _ c.and.result c.and.ensures _
    (on_ok_weaker c.put_terms.result (λ is. is ∙ ap (λ them. them ++ c.args.terms.now) c.new-own.ensures) c.put_terms.ensures)
