use Rattle.std.specs.Prelude.{IfOk, MatchOption}
use Rattle.std.proofs.Common.{◌∙◌, ℕ, Vec, Global, map, subst}
use Rattle.esto_columns.specs.declared.fragment.Input.{Input}
use Rattle.esto_columns.specs.Indexed.{key_at, AreAmongPlaces}
use Rattle.esto_columns.proofs.stored.places_by.Goals as goal

pub returns : goal.returns
returns c =
    subst (λ columns. IfOk c.places.result (λ found. MatchOption found (Unit {0}) (λ (it : Vec ℕ Global).
    AreAmongPlaces (map (λ (input : Input). input.code) c.args.inputs.now) (map (key_at columns) c.args.rows.now.rows) it.items)))
    (c.items.ensures ∙ c.in_ok-columns.ensures)
    (subst (λ key. IfOk c.places.result (λ found. MatchOption found (Unit {0}) (λ (it : Vec ℕ Global).
    AreAmongPlaces key (map (key_at c.items.result.now) c.args.rows.now.rows) it.items)))
    (c.items-2.ensures ∙ c.in_ok-codes.ensures) c.places.ensures)
