use Rattle.std.proofs.Common.{◌++◌, ap, ◌∙◌}
use Rattle.std.proofs.lemmas.Result.{on_ok_weaker}
use Rattle.esto_term.proofs.ListLemmas.{two_more}
use Rattle.esto_views.specs.Printing.{numbers_text}
use Rattle.esto_list.proofs.text.put_item.Goals as goal

pub returns : goal.returns
returns c =
    let opened = two_more _ _ _ _ _ c.in_ok-put_number.ensures c.in_ok-append.ensures.ok in
    let closed = two_more _ _ _ _ _ (two_more _ _ _ _ _ opened c.in_ok-put_set.ensures) c.in_ok-append-2.ensures.ok in
    let order = c.in_ok-put_numbers.ensures ∙ ap (λ them. c.append-2.new.self ++ numbers_text them) c.items.ensures in
    on_ok_weaker c.put_count.result (λ is. two_more _ _ _ _ _ (two_more _ _ _ _ _ closed order) is) c.put_count.ensures
