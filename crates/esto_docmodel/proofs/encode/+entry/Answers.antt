use Rattle.std.proofs.Common.{◌++◌, List, map, refl, sym, ap, ◌∙◌, arith}
use Rattle.std.proofs.lemmas.List.{append-nil, drop_all}
use Rattle.std.proofs.lemmas.Result.{on_ok_weaker}
use Rattle.esto_docmodel.specs.DocumentFacts.{flat}
use Rattle.esto_docmodel.specs.Encodings.{atoms, used}
use Rattle.esto_docmodel.specs.Shapes.{entries_of}
use Rattle.esto_docmodel.specs.declared.pattern.Entry.{Entry}
use Rattle.esto_docmodel.proofs.EncodeLemmas.{value_entry_put, group_entry_put, value_entry_next, group_entry_next}
use Rattle.esto_docmodel.proofs.encode.+entry.Goals as goal

pub put_entry-returns-in_ok-put_term-in-Value-clause-atoms : goal.put_entry-returns-in_ok-put_term-in-Value-clause-atoms
put_entry-returns-in_ok-put_term-in-Value-clause-atoms t c =
    value_entry_put c.args.base c.args.node c.args.next c.in-Value.path _ _ c.in_ok-end-in-Value.end c.in_ok-end-in-Value.next
    (rw c.items.ensures at c.in_ok-end-in-Value.ensures.atoms) (rw c.items.ensures at c.in_ok-end-in-Value.ensures.numbers)
    c.args.entry.now c.in-Value.term _ _ c.in-Value.is refl c.in_ok-put_term-in-Value.ensures

pub put_entry-returns-in_ok-end-in-Group-clause-atoms : goal.put_entry-returns-in_ok-end-in-Group-clause-atoms
put_entry-returns-in_ok-end-in-Group-clause-atoms t c =
    on_ok_weaker c.put_entries.result
    (group_entry_put c.args.base c.args.node c.args.next c.in-Group.path _ _ c.in_ok-end-in-Group.end c.in_ok-end-in-Group.next
    (rw c.items-in-Group.ensures at c.in_ok-end-in-Group.ensures.atoms) (rw c.items-in-Group.ensures at c.in_ok-end-in-Group.ensures.numbers)
    c.args.entry.now c.in-Group.entries _ c.in-Group.is) (rw c.items-in-Group-2.ensures at c.put_entries.ensures.atoms)

pub put_entry-returns-in_ok-put_term-in-Value-clause-next : goal.put_entry-returns-in_ok-put_term-in-Value-clause-next
put_entry-returns-in_ok-put_term-in-Value-clause-next t c =
    value_entry_next c.args.node c.args.next c.in-Value.path c.in_ok-end-in-Value.end c.in_ok-end-in-Value.next
    (rw c.items.ensures at c.in_ok-end-in-Value.ensures.numbers) c.args.entry.now c.in-Value.term c.in-Value.is

pub put_entry-returns-in_ok-end-in-Group-clause-next : goal.put_entry-returns-in_ok-end-in-Group-clause-next
put_entry-returns-in_ok-end-in-Group-clause-next t c =
    group_entry_next c.args.node c.args.next c.in-Group.path c.in_ok-end-in-Group.end c.in_ok-end-in-Group.next
    (rw c.items-in-Group.ensures at c.in_ok-end-in-Group.ensures.numbers) c.put_entries.result c.args.entry.now c.in-Group.entries c.in-Group.is
    (rw c.items-in-Group-2.ensures at c.put_entries.ensures.next)

pub put_entries-returns-clause-atoms : goal.put_entries-returns-clause-atoms
put_entries-returns-clause-atoms t c =
    let none = drop_all c.entries.entry-index c.args.entries.now (omega (arith, c.entries-test.false)) in
    sym (append-nil c.entries.body)
    ∙ ap (λ (w : List Entry). c.entries.body ++ map (flat c.args.base) (atoms (entries_of w) c.args.node c.entries.next)) (sym none)
    ∙ c.entries.invariant.0

pub put_entries-returns-clause-next : goal.put_entries-returns-clause-next
put_entries-returns-clause-next t c =
    let none = ap (λ (w : List Entry). used (entries_of w)) (drop_all c.entries.entry-index c.args.entries.now (omega (arith, c.entries-test.false))) in
    omega (arith, c.entries.invariant.1, none)
