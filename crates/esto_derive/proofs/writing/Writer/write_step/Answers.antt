use Rattle.std.proofs.Common.{◌≡◌, ℕ, List, ◌+◌, ◌++◌, ◌≤◌, length, map, take, drop, slice_get, slice_index_or, Some, codes, refl, subst, sym, ap, ◌∙◌}
use Rattle.std.proofs.Common.{arith}
use Rattle.std.proofs.lemmas.Option.{slice_get-get_or}
use Rattle.esto_term.specs.Nesting.{greatest_u64}
use Rattle.esto_constraint.specs.Constraints.{rule_of}
use Rattle.esto_semantics.specs.Facts.{terms_of}
use Rattle.esto_semantics.specs.Rules.{Rule}
use Rattle.esto_semantics.specs.declared.fact.Fact.{Fact}
use Rattle.esto_semantics.proofs.RuleLemmas.{has_body}
use Rattle.esto_term.specs.declared.term.Term.{Term}
use Rattle.esto_cert.specs.declared.line.Line.TheVariants.{Step}
use Rattle.esto_derive.specs.Printing.{line_text}
use Rattle.esto_derive.specs.Writing.{lines_at}
use Rattle.esto_derive.proofs.LoopLemmas.{if_ok_with}
use Rattle.esto_derive.proofs.UseLemmas.{number_within, rule_there, splits, facts_there, facts_below, links_below, asked, made_by}
use Rattle.esto_derive.proofs.WriteLemmas.{step_goes}
use Rattle.esto_derive.proofs.writing.Writer.write_step.Goals as goal

pub bounds-self-number : goal.bounds-self-number
bounds-self-number c = number_within c.args.self.now.entries.now c.args.self.now.rules.now c.args.lines.now c.args.entry.now c.requires.at
    c.requires.derived c.args.number c.args.places.now c.requires.reason

pub split_at-requires : goal.split_at-requires
split_at-requires c = splits c.args.self.now.entries.now c.args.self.now.rules.now c.args.lines.now c.args.entry.now c.requires.at c.requires.derived
    c.args.number c.args.places.now c.requires.reason
    (slice_index_or c.args.self.now.rules.now c.args.number c.index-self-number.result)
    (slice_get-get_or c.args.self.now.rules.now c.args.number c.index-self-number.result
    (number_within c.args.self.now.entries.now c.args.self.now.rules.now c.args.lines.now c.args.entry.now c.requires.at c.requires.derived c.args.number
    c.args.places.now c.requires.reason))
    c.body_of-body.result.now c.body_of-body.ensures

pub place_at-requires-clause-there : goal.place_at-requires-clause-there
place_at-requires-clause-there c = facts_there c.args.self.now.entries.now c.args.self.now.rules.now c.args.lines.now c.args.entry.now c.requires.at
    c.requires.derived c.args.number c.args.places.now c.requires.reason
    (slice_index_or c.args.self.now.rules.now c.args.number c.index-self-number.result)
    (slice_get-get_or c.args.self.now.rules.now c.args.number c.index-self-number.result
    (number_within c.args.self.now.entries.now c.args.self.now.rules.now c.args.lines.now c.args.entry.now c.requires.at c.requires.derived c.args.number
    c.args.places.now c.requires.reason))
    c.body_of-body.result.now c.body_of-body.ensures
    c.split_at.result.0.now c.split_at.ensures.front

pub place_at-requires-clause-asked : goal.place_at-requires-clause-asked
place_at-requires-clause-asked c = asked c.args.self.now.entries.now c.args.self.now.rules.now c.args.lines.now c.args.entry.now c.requires.at
    c.requires.derived c.args.number c.args.places.now c.requires.reason
    (slice_index_or c.args.self.now.rules.now c.args.number c.index-self-number.result)
    (slice_get-get_or c.args.self.now.rules.now c.args.number c.index-self-number.result
    (number_within c.args.self.now.entries.now c.args.self.now.rules.now c.args.lines.now c.args.entry.now c.requires.at c.requires.derived c.args.number
    c.args.places.now c.requires.reason))
    c.body_of-body.result.now c.body_of-body.ensures
    c.split_at.result.0.now c.split_at.ensures.front _ _ (ap terms_of (sym c.body_of-body.ensures)) refl

pub put_step-requires-clause-facts : goal.put_step-requires-clause-facts
put_step-requires-clause-facts c = facts_below c.args.self.now.entries.now c.args.self.now.rules.now c.args.lines.now c.args.entry.now c.requires.at
    c.requires.derived c.args.number c.args.places.now c.requires.reason
    (slice_index_or c.args.self.now.rules.now c.args.number c.index-self-number.result)
    (slice_get-get_or c.args.self.now.rules.now c.args.number c.index-self-number.result
    (number_within c.args.self.now.entries.now c.args.self.now.rules.now c.args.lines.now c.args.entry.now c.requires.at c.requires.derived c.args.number
    c.args.places.now c.requires.reason))
    c.body_of-body.result.now c.body_of-body.ensures
    c.split_at.result.0.now c.split_at.ensures.front

pub put_step-requires-clause-links : goal.put_step-requires-clause-links
put_step-requires-clause-links c = links_below c.args.self.now.entries.now c.args.self.now.rules.now c.args.lines.now c.args.entry.now c.requires.at
    c.requires.derived c.args.number c.args.places.now c.requires.reason
    (slice_index_or c.args.self.now.rules.now c.args.number c.index-self-number.result)
    (slice_get-get_or c.args.self.now.rules.now c.args.number c.index-self-number.result
    (number_within c.args.self.now.entries.now c.args.self.now.rules.now c.args.lines.now c.args.entry.now c.requires.at c.requires.derived c.args.number
    c.args.places.now c.requires.reason))
    c.body_of-body.result.now c.body_of-body.ensures
    c.split_at.result.1.now c.split_at.ensures.back

pub returns-clause-writes : goal.returns-clause-writes
returns-clause-writes c =
    let rule = rule_of (slice_index_or c.args.self.now.rules.now c.args.number c.index-self-number.result) in
    let body_is = c.body_of-body.ensures in
    let (linked, adds, text_is) = c.in_ok-put_step.ensures.text in
    if_ok_with c.end_line.result c.end_line.ensures.own c.end_line.ensures.text c.end_line.ensures.count
    (λ own own_is text count case rules_is basis has state.
    step_goes case c.args.self.now.entries.now c.args.self.now.used.now basis c.args.lines.now c.args.written.now state c.args.entry.now
    c.requires.at has c.args.number c.args.places.now c.requires.reason rule
    (subst (λ (it : List Rule). slice_get it c.args.number ≡ Some rule) (sym rules_is) (rule_there c.args.self.now.entries.now c.args.self.now.rules.now
    c.args.lines.now c.args.entry.now c.requires.at c.requires.derived c.args.number c.args.places.now c.requires.reason
    (slice_index_or c.args.self.now.rules.now c.args.number c.index-self-number.result)
    (slice_get-get_or c.args.self.now.rules.now c.args.number c.index-self-number.result
    (number_within c.args.self.now.entries.now c.args.self.now.rules.now c.args.lines.now c.args.entry.now c.requires.at c.requires.derived c.args.number
    c.args.places.now c.requires.reason))
    c.body_of-body.result.now c.body_of-body.ensures))
    (has_body rule (c.rules_are_sound.ensures.rules (slice_index_or c.args.self.now.rules.now c.args.number c.index-self-number.result)))
    c.split_at.result.0.now c.split_at.result.1.now
    (c.split_at.ensures.front ∙ ap (λ (it : List (Fact Term)). take (length it) c.args.places.now) body_is)
    (c.split_at.ensures.back ∙ ap (λ (it : List (Fact Term)). drop (length it) c.args.places.now) body_is)
    linked adds
    c.in_ok-place.place
    (made_by c.args.self.now.entries.now c.args.self.now.rules.now c.args.lines.now c.args.entry.now c.requires.at c.requires.derived c.args.number
    c.args.places.now c.requires.reason
    (slice_index_or c.args.self.now.rules.now c.args.number c.index-self-number.result)
    (slice_get-get_or c.args.self.now.rules.now c.args.number c.index-self-number.result
    (number_within c.args.self.now.entries.now c.args.self.now.rules.now c.args.lines.now c.args.entry.now c.requires.at c.requires.derived c.args.number
    c.args.places.now c.requires.reason))
    c.body_of-body.result.now c.body_of-body.ensures
    c.split_at.result.0.now c.split_at.ensures.front _ _ (ap terms_of (sym body_is)) refl c.in_ok-place.place c.in_ok-place.ensures)
    (subst (λ (it : ℕ). it ≤ greatest_u64) c.in_ok-numbered.ensures c.put_step.ensures.number)
    c.put_step.ensures.place (omega (arith, state.counted, c.end_line.ensures.fits)) c.end_line.new.self
    (text ∙ text_is
    ∙ ap (λ (it : ℕ). c.args.written.now.text
    ++ (line_text (Step it c.in_ok-place.place (map (λ line. line + 1) (lines_at c.args.lines.now c.split_at.result.0.now)) (map (λ line. line + 1) linked))
    ++ codes "\n"))
    c.in_ok-numbered.ensures)
    count own own_is)
