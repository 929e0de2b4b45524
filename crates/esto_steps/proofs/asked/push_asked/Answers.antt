use Rattle.std.proofs.Common.{◌++◌, ap, map, sym, subst, ◌∙◌}
use Rattle.std.proofs.lemmas.Result.{on_ok_weaker}
use Rattle.std.specs.List.{filter}
use Rattle.esto_columns.specs.Asked.{IsAllowed, holds_all}
use Rattle.esto_columns.specs.CodedRows.{CodedRows}
use Rattle.esto_steps.proofs.AskedLemmas.{columns_with}
use Rattle.esto_steps.proofs.asked.push_asked.Goals as goal

pub inputs_of-requires : goal.inputs_of-requires
inputs_of-requires g c = c.requires.key

pub get-requires : goal.get-requires
get-requires g c =
    subst (IsAllowed (g.F.Fragment.shape c.args.fragment.now))
    (sym (ap (map (λ input. input.column)) c.in_ok-inputs.ensures ∙ columns_with c.args.get.now.inputs c.args.key.now c.requires.key))
    c.requires.allowed

pub add_all-requires : goal.add_all-requires
add_all-requires g c = c.requires.arity ∙ sym (ap (λ (it : CodedRows). it.arity) c.in_ok-rows.ensures)

pub returns : goal.returns
returns g c = on_ok_weaker c.add_all.result
    (λ grown. grown ∙ ap (λ rows. record { arity = c.args.asked.now.arity; rows = c.args.asked.now.rows ++ rows })
    (ap (λ (it : CodedRows). it.rows) c.in_ok-rows.ensures
    ∙ ap (λ inputs. filter (holds_all inputs) (g.F.Fragment.rows c.args.fragment.now)) c.in_ok-inputs.ensures))
    c.add_all.ensures
