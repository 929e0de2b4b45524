use Rattle.std.proofs.Common.{inl, inr, [], ◌∷◌, ◌++◌, get_or, refl, sym, subst, ap, ◌∙◌}
use Rattle.std.proofs.lemmas.Result.{on_ok_weaker}
use Rattle.std.specs.List.{filter}
use Rattle.esto_columns.specs.Asked.{holds_all}
use Rattle.esto_columns.specs.CodedRows.{CodedRows}
use Rattle.esto_steps.specs.Inputs.{inputs_with}
use Rattle.esto_steps.specs.Named.{NamesCodes}
use Rattle.esto_steps.proofs.NamedLemmas.{names_true, names_false}
use Rattle.esto_steps.proofs.AskedLemmas.{named_by, seen_complete, named_length, ask_kept, ask_sound, ask_answered, ask_complete}
use Rattle.esto_steps.proofs.asked.ask.Goals as goal

pub returns-then-not-branch-clause-kept : goal.returns-then-not-branch-clause-kept
returns-then-not-branch-clause-kept g c = λ row has. has

pub returns-then-not-branch-clause-sound : goal.returns-then-not-branch-clause-sound
returns-then-not-branch-clause-sound g c = λ row has. inl has

pub returns-then-not-branch-clause-answered : goal.returns-then-not-branch-clause-answered
returns-then-not-branch-clause-answered g c = λ answered. answered

pub returns-then-not-branch-clause-complete : goal.returns-then-not-branch-clause-complete
returns-then-not-branch-clause-complete g c = λ answered row among follows.
    absurd (names_false (get_or c.args.so_far.now.rows c.args.at []) c.args.sources.now c.name_codes.new.codes c.in_ok-name_codes.field-0
    c.in_ok-name_codes.ensures c.if-not-branch.true
    (named_by c.args.get.now (g.F.Fragment.rows c.args.fragment.now) (get_or c.args.so_far.now.rows c.args.at []) c.args.sources.now
    c.requires.sources row follows))

pub returns-then-has-clause-kept : goal.returns-then-has-clause-kept
returns-then-has-clause-kept g c = λ row has. has

pub returns-then-has-clause-sound : goal.returns-then-has-clause-sound
returns-then-has-clause-sound g c = λ row has. inl has

pub returns-then-has-clause-answered : goal.returns-then-has-clause-answered
returns-then-has-clause-answered g c = λ answered. answered

pub returns-then-has-clause-complete : goal.returns-then-has-clause-complete
returns-then-has-clause-complete g c =
    seen_complete c.args.get.now (g.F.Fragment.rows c.args.fragment.now) (get_or c.args.so_far.now.rows c.args.at []) c.args.sources.now c.requires.sources
    c.items.result.now (subst (NamesCodes (get_or c.args.so_far.now.rows c.args.at []) c.args.sources.now) (sym c.items.ensures)
    (names_true (get_or c.args.so_far.now.rows c.args.at []) c.args.sources.now c.name_codes.new.codes c.in_ok-name_codes.field-0
    c.in_ok-name_codes.ensures c.if-not-branch.false))
    c.args.seen.now.rows c.args.asked.now.rows (c.has.ensures c.if-has.true)

pub put-requires : goal.put-requires
put-requires g c =
    named_length c.args.get.now.inputs (get_or c.args.so_far.now.rows c.args.at []) c.args.sources.now c.requires.sources c.items-2.result.now
    (subst (NamesCodes (get_or c.args.so_far.now.rows c.args.at []) c.args.sources.now) (sym c.items-2.ensures)
    (names_true (get_or c.args.so_far.now.rows c.args.at []) c.args.sources.now c.name_codes.new.codes c.in_ok-name_codes.field-0
    c.in_ok-name_codes.ensures c.if-not-branch.false))
    ∙ sym c.requires.width

pub push_asked-requires-clause-key : goal.push_asked-requires-clause-key
push_asked-requires-clause-key g c =
    named_length c.args.get.now.inputs (get_or c.args.so_far.now.rows c.args.at []) c.args.sources.now c.requires.sources c.items-3.result.now
    (subst (NamesCodes (get_or c.args.so_far.now.rows c.args.at []) c.args.sources.now) (sym c.items-3.ensures)
    (names_true (get_or c.args.so_far.now.rows c.args.at []) c.args.sources.now c.name_codes.new.codes c.in_ok-name_codes.field-0
    c.in_ok-name_codes.ensures c.if-not-branch.false))

pub returns-clause-arity : goal.returns-clause-arity
returns-clause-arity g c = on_ok_weaker c.push_asked.result (λ grown. ap (λ (it : CodedRows). it.arity) grown) c.push_asked.ensures

pub returns-clause-kept : goal.returns-clause-kept
returns-clause-kept g c =
    on_ok_weaker c.push_asked.result
    (λ grown. ask_kept c.args.asked.now.rows c.push_asked.new.asked.rows
    (filter (holds_all (inputs_with c.args.get.now.inputs c.items-3.result.now)) (g.F.Fragment.rows c.args.fragment.now))
    (ap (λ (it : CodedRows). it.rows) grown))
    c.push_asked.ensures

pub returns-clause-sound : goal.returns-clause-sound
returns-clause-sound g c =
    on_ok_weaker c.push_asked.result
    (λ grown. ask_sound c.args.asked.now.rows c.push_asked.new.asked.rows
    (filter (holds_all (inputs_with c.args.get.now.inputs c.items-3.result.now)) (g.F.Fragment.rows c.args.fragment.now))
    (ap (λ (it : CodedRows). it.rows) grown) (g.F.Fragment.rows c.args.fragment.now) (inputs_with c.args.get.now.inputs c.items-3.result.now)
    refl)
    c.push_asked.ensures

pub returns-clause-answered : goal.returns-clause-answered
returns-clause-answered g c =
    on_ok_weaker c.push_asked.result
    (λ grown. ask_answered c.args.asked.now.rows c.push_asked.new.asked.rows
    (filter (holds_all (inputs_with c.args.get.now.inputs c.items-3.result.now)) (g.F.Fragment.rows c.args.fragment.now))
    (ap (λ (it : CodedRows). it.rows) grown) (g.F.Fragment.rows c.args.fragment.now) (inputs_with c.args.get.now.inputs c.items-3.result.now)
    refl
    c.args.get.now c.items-3.result.now refl c.args.seen.now.rows c.put.new.self.rows
    (inr (ap (λ (it : CodedRows). it.rows) c.in_ok-put.ensures
    ∙ ap (λ it. c.args.seen.now.rows ++ it ∷ []) (c.items-2.ensures ∙ sym c.items-3.ensures))))
    c.push_asked.ensures

pub returns-clause-complete : goal.returns-clause-complete
returns-clause-complete g c =
    on_ok_weaker c.push_asked.result
    (λ grown. ask_complete c.args.asked.now.rows c.push_asked.new.asked.rows
    (filter (holds_all (inputs_with c.args.get.now.inputs c.items-3.result.now)) (g.F.Fragment.rows c.args.fragment.now))
    (ap (λ (it : CodedRows). it.rows) grown) (g.F.Fragment.rows c.args.fragment.now) (inputs_with c.args.get.now.inputs c.items-3.result.now)
    refl
    c.args.get.now c.items-3.result.now refl c.args.seen.now.rows (get_or c.args.so_far.now.rows c.args.at []) c.args.sources.now c.requires.sources
    (subst (NamesCodes (get_or c.args.so_far.now.rows c.args.at []) c.args.sources.now) (sym c.items-3.ensures)
    (names_true (get_or c.args.so_far.now.rows c.args.at []) c.args.sources.now c.name_codes.new.codes c.in_ok-name_codes.field-0
    c.in_ok-name_codes.ensures c.if-not-branch.false)))
    c.push_asked.ensures
