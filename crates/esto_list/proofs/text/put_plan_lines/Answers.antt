use Rattle.std.proofs.Common.{◌++◌, ◌≡◌, codes, length, ap, ◌∙◌}
use Rattle.std.proofs.lemmas.Result.{on_ok_weaker}
use Rattle.esto_term.proofs.ListLemmas.{two_more}
use Rattle.esto_list.specs.Text.{atom_line}
use Rattle.esto_views.specs.Printing.{count_line, each_from, terms_text}
use Rattle.esto_list.proofs.text.put_plan_lines.Goals as goal

pub returns : goal.returns
returns c =
    let names = c.args.plan.now.names in
    let count = count_line (codes "plan ") (length c.args.plan.now.atoms) in
    let counted : c.put_count.new.text ≡ c.args.text.now ++ count =
    c.in_ok-put_count.ensures ∙ ap (λ count. c.args.text.now ++ count_line (codes "plan ") count) c.len.ensures in
    let atoms = c.in_ok-put_atoms.ensures
    ∙ ap (λ them. c.put_count.new.text ++ each_from (atom_line c.args.fragments.now names c.args.nameless.now) 0 them) c.items.ensures in
    let terms = c.in_ok-put_terms.ensures ∙ ap (λ them. c.append.new.self ++ terms_text names c.args.nameless.now them) c.items-2.ensures in
    let heads =
    two_more c.args.text.now _ _ _ _ (two_more c.args.text.now c.put_count.new.text c.put_atoms.new.text count _ counted atoms) c.in_ok-append.ensures.ok in
    on_ok_weaker c.append-2.result (λ is. two_more c.args.text.now _ _ _ _ (two_more c.args.text.now _ _ _ _ heads terms) is) c.append-2.ensures.ok
