use Rattle.std.proofs.Common.{◌≡◌, ◌∙◌, ℕ, Vec, Global, map, refl, sym, ap}
use Rattle.std.proofs.lemmas.Option.{MatchOption-at_some}
use Rattle.std.proofs.lemmas.Result.{IfOk-weaker}
use Rattle.std.proofs.lemmas.List.Elements.{Contains-get_or}
use Rattle.std.specs.List.{filter}
use Rattle.esto_columns.specs.declared.fragment.Input.{Input}
use Rattle.esto_columns.specs.Asked.{holds_all}
use Rattle.esto_columns.specs.CodedRows.{CodedRows}
use Rattle.esto_columns.specs.Indexed.{key_at, AreAmongPlaces}
use Rattle.esto_columns.specs.Picked.{rows_at}
use Rattle.esto_columns.proofs.StoredLemmas.{among_within, among_all, some_inputs, all_hold}
use Rattle.esto_columns.proofs.stored.found.Goals as goal

pub held_among-requires-clause-places : goal.held_among-requires-clause-places
held_among-requires-clause-places c =
    let columns = map (λ (input : Input). input.column) c.args.inputs.now in
    let codes = map (λ (input : Input). input.code) c.args.inputs.now in
    among_within c.args.rows.now.rows columns codes c.in-Some.places.items c.as_slice.result.now
    (MatchOption-at_some (Unit {0}) (λ (it : Vec ℕ Global). AreAmongPlaces codes (map (key_at columns) c.args.rows.now.rows) it.items)
    c.in-Some.places c.in-Some.is c.in_ok-places.ensures) c.as_slice.ensures.value c.args.inputs.now

pub returns-in-Some : goal.returns-in-Some
returns-in-Some c =
    let columns = map (λ (input : Input). input.column) c.args.inputs.now in
    let codes = map (λ (input : Input). input.code) c.args.inputs.now in
    IfOk-weaker c.held_among.result
    (λ (it : CodedRows). it ≡ record
    { arity = c.args.rows.now.arity; rows = filter (holds_all c.args.inputs.now) (rows_at c.args.rows.now.rows c.as_slice.result.now) })
    (λ (it : CodedRows). it ≡ record { arity = c.args.rows.now.arity; rows = filter (holds_all c.args.inputs.now) c.args.rows.now.rows })
    (λ it is. among_all c.args.rows.now.rows columns codes c.in-Some.places.items c.as_slice.result.now
    (MatchOption-at_some (Unit {0}) (λ (it : Vec ℕ Global). AreAmongPlaces codes (map (key_at columns) c.args.rows.now.rows) it.items)
    c.in-Some.places c.in-Some.is c.in_ok-places.ensures) c.as_slice.ensures.value c.args.inputs.now refl refl c.args.rows.now.arity it is)
    c.held_among.ensures

pub picked-requires-clause-first : goal.picked-requires-clause-first
picked-requires-clause-first c =
    Contains-get_or c.args.inputs.now 0 (record { column = 0; code = 0 }) (some_inputs c.args.inputs.now (sym c.if-is_empty.false ∙ c.is_empty.ensures))

pub returns-then-is_empty : goal.returns-then-is_empty
returns-then-is_empty c = IfOk-weaker c.copy.result
    (λ (it : CodedRows). it ≡ c.args.rows.now)
    (λ (it : CodedRows). it ≡ record { arity = c.args.rows.now.arity; rows = filter (holds_all c.args.inputs.now) c.args.rows.now.rows })
    (λ it is. is ∙ ap (λ them. record { arity = c.args.rows.now.arity; rows = them })
    (sym (all_hold c.args.inputs.now (sym c.if-is_empty.true ∙ c.is_empty.ensures) c.args.rows.now.rows)))
    c.copy.ensures
