use Rattle.std.proofs.Common.{◌++◌, ap, ◌∙◌}
use Rattle.std.proofs.lemmas.Result.{on_ok_weaker}
use Rattle.esto_term.proofs.ListLemmas.{two_more}
use Rattle.esto_views.specs.Printing.{terms_text}
use Rattle.esto_list.proofs.text.put_atom.Goals as goal

pub returns : goal.returns
returns c =
    let numbered = two_more _ _ _ _ _ c.in_ok-put_number.ensures c.in_ok-append.ensures.ok in
    let named = two_more _ _ _ _ _ numbered c.in_ok-put_fragment_name.ensures in
    let terms = c.in_ok-put_terms.ensures
    ∙ ap (λ them. c.put_fragment_name.new.text ++ terms_text c.args.names.now c.args.nameless.now them) c.items.ensures in
    on_ok_weaker c.append-2.result (λ is. two_more _ _ _ _ _ (two_more _ _ _ _ _ named terms) is) c.append-2.ensures.ok
