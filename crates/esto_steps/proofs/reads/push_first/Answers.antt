use Rattle.std.proofs.Common.{inl, inr, [], length, get_or, Contains, refl, sym, subst, ap, ◌∙◌}
use Rattle.std.proofs.lemmas.List.{get_or_default}
use Rattle.std.proofs.lemmas.List.Elements.{Contains-push_cases}
use Rattle.std.proofs.lemmas.Result.{on_ok_weaker}
use Rattle.esto_columns.specs.CodedRows.{CodedRows}
use Rattle.esto_steps.specs.Named.{NamesCodes}
use Rattle.esto_steps.proofs.NamedLemmas.{names_true, length-named}
use Rattle.esto_steps.proofs.ReadLemmas.{stood_seen, stood_pushed}
use Rattle.esto_steps.proofs.reads.push_first.Goals as goal

pub returns-then-not-branch-clause-stand : goal.returns-then-not-branch-clause-stand
returns-then-not-branch-clause-stand c =
    let row = get_or c.args.rows.now.rows c.args.at [] in
    on_ok_weaker c.add_from.result
    (λ grown before. stood_pushed c.args.cells.now c.args.rows.now.rows c.args.at row c.requires.there
    (get_or_default c.args.rows.now.rows c.args.at [] row c.requires.there)
    c.args.seen.now.rows c.args.few.now.rows before row c.args.seen.now.rows c.add_from.new.self.rows
    refl (ap (λ (it : CodedRows). it.rows) grown) (λ key inside. inl inside))
    c.add_from.ensures

pub returns-then-has-clause-stand : goal.returns-then-has-clause-stand
returns-then-has-clause-stand c = λ before.
    let row = get_or c.args.rows.now.rows c.args.at [] in
    stood_seen c.args.cells.now c.args.rows.now.rows c.args.at row c.requires.there
    (get_or_default c.args.rows.now.rows c.args.at [] row c.requires.there)
    c.args.seen.now.rows c.args.few.now.rows before c.name_codes.new.codes
    (names_true row c.args.cells.now c.name_codes.new.codes c.in_ok-name_codes.field-0 c.in_ok-name_codes.ensures c.if-not-branch.false)
    (subst (Contains c.args.seen.now.rows) c.items.ensures (c.has.ensures c.if-has.true))

pub put-requires : goal.put-requires
put-requires c = ap length c.items-2.ensures
    ∙ length-named (get_or c.args.rows.now.rows c.args.at []) c.args.cells.now c.name_codes.new.codes
    (names_true (get_or c.args.rows.now.rows c.args.at []) c.args.cells.now c.name_codes.new.codes c.in_ok-name_codes.field-0 c.in_ok-name_codes.ensures
    c.if-not-branch.false)
    ∙ sym c.requires.width

pub returns-clause-stand : goal.returns-clause-stand
returns-clause-stand c =
    let row = get_or c.args.rows.now.rows c.args.at [] in
    on_ok_weaker c.add_from-2.result
    (λ grown before. stood_pushed c.args.cells.now c.args.rows.now.rows c.args.at row c.requires.there
    (get_or_default c.args.rows.now.rows c.args.at [] row c.requires.there)
    c.args.seen.now.rows c.args.few.now.rows before row c.put.new.self.rows c.add_from-2.new.self.rows
    refl (ap (λ (it : CodedRows). it.rows) grown)
    (λ key inside. elim (Contains-push_cases c.args.seen.now.rows c.items-2.result.now key
    (subst (λ (them : CodedRows). Contains them.rows key) c.in_ok-put.ensures inside)) [
      | inl old ↦ inl old
      | inr same ↦ inr (subst (NamesCodes row c.args.cells.now) (sym c.items-2.ensures ∙ same)
          (names_true row c.args.cells.now c.name_codes.new.codes c.in_ok-name_codes.field-0 c.in_ok-name_codes.ensures c.if-not-branch.false))
    ]))
    c.add_from-2.ensures

pub returns-then-not-branch-clause-arity : goal.returns-then-not-branch-clause-arity
returns-then-not-branch-clause-arity c = on_ok_weaker c.add_from.result (λ grown. ap (λ (it : CodedRows). it.arity) grown) c.add_from.ensures

pub returns-then-not-branch-clause-width : goal.returns-then-not-branch-clause-width
returns-then-not-branch-clause-width c = on_ok_weaker c.add_from.result (λ _. refl) c.add_from.ensures

pub returns-then-has-clause-arity : goal.returns-then-has-clause-arity
returns-then-has-clause-arity c = refl

pub returns-then-has-clause-width : goal.returns-then-has-clause-width
returns-then-has-clause-width c = refl

pub returns-clause-arity : goal.returns-clause-arity
returns-clause-arity c = on_ok_weaker c.add_from-2.result (λ grown. ap (λ (it : CodedRows). it.arity) grown) c.add_from-2.ensures

pub returns-clause-width : goal.returns-clause-width
returns-clause-width c = on_ok_weaker c.add_from-2.result (λ _. ap (λ (it : CodedRows). it.arity) c.in_ok-put.ensures) c.add_from-2.ensures
