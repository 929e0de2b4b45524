use Rattle.std.proofs.Common.{◌≡◌, [], ◌∷◌, ◌++◌, Contains, refl, ap, subst, ◌∙◌}
use Rattle.std.proofs.lemmas.List.Elements.{Contains-append_left}
use Rattle.std.proofs.lemmas.Result.{on_ok_weaker}
use Rattle.esto_columns.specs.CodedRows.{CodedRows}
use Rattle.esto_steps.specs.Paired.{Gained, kept_of, kept_rows, gained_rows}
use Rattle.esto_steps.proofs.GainLemmas.{same_gains, own_pushed, gains_between}
use Rattle.esto_steps.proofs.gained.Gained.put_row.Goals as goal

pub returns-then-has_row-clause-rows : goal.returns-then-has_row-clause-rows
returns-then-has_row-clause-rows c =
    let before : Gained = record { own = c.self.inside.own; pairs = c.self.inside.pairs } in
    let code = kept_of c.args.kept.now c.args.so_far.now c.args.rows.now c.args.pair in
    same_gains (gained_rows c.args.kept.now c.args.so_far.now c.args.rows.now c.args.self.now)
    (gained_rows c.args.kept.now c.args.so_far.now c.args.rows.now before) code
    (ap (gained_rows c.args.kept.now c.args.so_far.now c.args.rows.now) c.self.view_is)
    (subst (λ them. Contains (gained_rows c.args.kept.now c.args.so_far.now c.args.rows.now them) code) c.self.view_is
    (Contains-append_left c.self.inside.own.rows (kept_rows c.args.kept.now c.args.so_far.now c.args.rows.now c.self.inside.pairs) code
    (subst (Contains c.self.inside.own.rows) (c.items.ensures ∙ c.in_ok-read_kept.ensures) (c.has_row.ensures c.if-has_row.true))))

pub returns-clause-rows : goal.returns-clause-rows
returns-clause-rows c =
    let before : Gained = record { own = c.self.inside.own; pairs = c.self.inside.pairs } in
    let after : Gained = record { own = c.add.new.self; pairs = c.self.inside.pairs } in
    let code = kept_of c.args.kept.now c.args.so_far.now c.args.rows.now c.args.pair in
    on_ok_weaker c.note.result
    (λ same. gains_between c.args.kept.now c.args.so_far.now c.args.rows.now c.args.self.now before after c.note.new.self (λ it. code ≡ it)
    c.self.view_is same
    (own_pushed c.args.kept.now c.args.so_far.now c.args.rows.now before after code
    (ap (λ (it : CodedRows). it.rows) c.in_ok-add.ensures.ok
    ∙ ap (λ it. c.self.inside.own.rows ++ it ∷ []) (c.items-2.ensures ∙ c.in_ok-read_kept.ensures)) refl))
    c.note.ensures
