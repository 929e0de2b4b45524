use Rattle.std.proofs.Common.{List, ℕ, [], Contains, subst}
use Rattle.std.proofs.lemmas.Result.{IfOk-weaker}
use Rattle.esto_derive.specs.Writing.{AddsNew, lines_at}
use Rattle.esto_derive.proofs.UseLemmas.{chain_below}
use Rattle.esto_derive.proofs.WriteLemmas.{chain_goes}
use Rattle.esto_derive.proofs.writing.Writer.write_entry.Goals as goal

pub links_at-requires : goal.links_at-requires
links_at-requires c = λ place inside.
    chain_below c.args.self.now.entries.now c.args.self.now.rules.now c.args.lines.now c.args.entry.now c.requires.at c.requires.derived
    c.in-Equal.places c.in-Equal.is place (subst (λ (it : List ℕ). Contains it place) c.items-in-Equal.ensures inside)

pub returns-in-Equal-clause-writes : goal.returns-in-Equal-clause-writes
returns-in-Equal-clause-writes c =
    IfOk-weaker c.links_at.result _ _
    (λ own adds case rules_is basis has state.
    chain_goes case c.args.self.now.entries.now c.args.self.now.used.now basis c.args.lines.now c.args.written.now state c.args.entry.now
    c.requires.at has
    c.in-Equal.places c.in-Equal.is own (subst (λ (it : List ℕ). AddsNew [] (lines_at c.args.lines.now it) own) c.items-in-Equal.ensures adds))
    c.links_at.ensures
