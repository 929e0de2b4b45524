use Rattle.std.proofs.Common.{◌≡◌, get_or, refl, ap, subst}
use Rattle.std.specs.List.{filter}
use Rattle.std.proofs.lemmas.List.{take_all}
use Rattle.std.proofs.lemmas.List.Elements.{Contains-get_or}
use Rattle.esto_columns.specs.Asked.{holds_all}
use Rattle.esto_columns.specs.CodedRows.{CodedRows}
use Rattle.esto_columns.specs.Picked.{rows_at}
use Rattle.esto_columns.proofs.StoredLemmas.{held_more}
use Rattle.esto_columns.proofs.stored.with_held.Goals as goal

pub push_held-requires-clause-there : goal.push_held-requires-clause-there
push_held-requires-clause-there c =
    c.requires.places (get_or c.args.places.now c.places.place-index 0) (Contains-get_or c.args.places.now c.places.place-index 0 c.places-test.true)

pub places-preserved : goal.places-preserved
places-preserved c = held_more c.args.rows.now.rows c.args.places.now c.args.inputs.now c.args.rows.now.arity c.places.place-index
    (get_or c.args.places.now c.places.place-index 0) c.places.held c.push_held.new.into c.places-test.true refl
    c.places.invariant c.in_ok-push_held.ensures

pub push_held-requires-clause-columns : goal.push_held-requires-clause-columns
push_held-requires-clause-columns c = c.requires.columns

pub push_held-requires-clause-arity : goal.push_held-requires-clause-arity
push_held-requires-clause-arity c = ap (λ (it : CodedRows). it.arity) c.places.invariant

pub returns : goal.returns
returns c =
    subst (λ them. c.places.held ≡ record {
      arity = c.args.rows.now.arity;
      rows = filter (holds_all c.args.inputs.now) (rows_at c.args.rows.now.rows them);
    }) (take_all c.places.place-index c.args.places.now c.places-test.false) c.places.invariant

pub places-init : goal.places-init
places-init c = c.requires.none
