use Rattle.std.proofs.Common.{List, ℕ, [], ◌+◌, ◌++◌, ◌<◌, inl, inr, length, map, codes, subst, sym, ap, ◌∙◌, arith}
use Rattle.std.proofs.lemmas.List.Elements.{Contains-append_cases}
use Rattle.esto_cert.specs.declared.line.Line.TheVariants.{Match}
use Rattle.esto_derive.specs.Printing.{line_text}
use Rattle.esto_derive.specs.Writing.{AddsNew, lines_at}
use Rattle.esto_derive.proofs.MatchLemmas.{match_ends}
use Rattle.esto_derive.proofs.writing.Writer.write.Goals as goal

pub put_match-requires-clause-facts : goal.put_match-requires-clause-facts
put_match-requires-clause-facts c = λ place inside.
    subst (λ (it : ℕ). place < it) (sym (ap length c.items.ensures ∙ c.in_ok-lines.ensures.length)) (c.requires.facts place inside)

pub put_match-requires-clause-links : goal.put_match-requires-clause-links
put_match-requires-clause-links c = λ place inside.
    subst (λ (it : ℕ). place < it) (sym (ap length c.items.ensures ∙ c.in_ok-lines.ensures.length)) (c.requires.links place inside)

pub returns : goal.returns
returns c = λ case rules_is basis some are_used found.
    let state = c.in_ok-lines.ensures.writes case rules_is basis in
    let (linked, adds, is) = c.in_ok-put_match.ensures in
    match_ends case c.args.self.now.entries.now c.args.self.now.used.now basis c.in_ok-lines.lines c.write_used.new.written state c.in_ok-lines.ensures.length
    c.args.facts.now c.args.links.now
    (λ place inside. subst (λ (it : ℕ). place < it) (sym c.in_ok-lines.ensures.length)
    (elim (Contains-append_cases c.args.facts.now c.args.links.now place inside) [ inl it ↦ c.requires.facts place it | inr it ↦ c.requires.links place it ]))
    are_used found some linked
    (subst (λ (it : List (List ℕ)). AddsNew [] (lines_at it c.args.links.now) linked) c.items.ensures adds)
    (omega (arith, state.counted, c.in_ok-lines.ensures.count)) c.put_match.new.text
    (is ∙ ap (λ (it : List (List ℕ)). c.write_used.new.written.text ++ (line_text (Match (map (λ line. line + 1) (lines_at it c.args.facts.now))
    (map (λ line. line + 1) linked)) ++ codes "\n")) c.items.ensures)
