use Rattle.std.proofs.Common.{ℕ, ◌+◌, ◌++◌, ◌≤◌, codes, subst, ap, ◌∙◌}
use Rattle.esto_term.specs.Nesting.{greatest_u64}
use Rattle.esto_cert.specs.declared.line.Line.TheVariants.{Expanded}
use Rattle.esto_derive.specs.Printing.{line_text}
use Rattle.esto_derive.proofs.LoopLemmas.{if_ok_with}
use Rattle.esto_derive.proofs.WriteLemmas.{expanded_goes}
use Rattle.esto_derive.proofs.writing.Writer.write_expanded.Goals as goal

pub returns-clause-writes : goal.returns-clause-writes
returns-clause-writes c =
    if_ok_with c.end_line.result c.end_line.ensures.own c.end_line.ensures.text c.end_line.ensures.count
    (λ own own_is text count case rules_is basis has state.
    expanded_goes case c.args.self.now.entries.now c.args.self.now.used.now basis c.args.lines.now c.args.written.now state c.args.entry.now
    c.requires.at has c.args.atom c.args.place c.requires.reason
    (subst (λ (it : ℕ). it ≤ greatest_u64) c.in_ok-number.ensures c.put_expanded.ensures.atom)
    (subst (λ (it : ℕ). it ≤ greatest_u64) c.in_ok-at.ensures c.put_expanded.ensures.place) c.end_line.new.self
    (text ∙ c.in_ok-put_expanded.ensures.text
    ∙ ap (λ (it : ℕ). c.args.written.now.text ++ (line_text (Expanded it c.in_ok-at.at) ++ codes "\n")) c.in_ok-number.ensures
    ∙ ap (λ (it : ℕ). c.args.written.now.text ++ (line_text (Expanded (c.args.atom + 1) it) ++ codes "\n")) c.in_ok-at.ensures)
    count own own_is)
