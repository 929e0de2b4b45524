use Rattle.std.proofs.Common.{◌++◌, List, false, refl, ap}
use Rattle.std.proofs.lemmas.List.{length-replicate}
use Rattle.esto_semantics.specs.Facts.{terms_of}
use Rattle.esto_semantics.specs.declared.fact.Fact.{Fact}
use Rattle.esto_term.proofs.SetLemmas.{none_has}
use Rattle.esto_term.specs.declared.term.Term.{Term}
use Rattle.esto_condchase.specs.Ways.{empty_way}
use Rattle.esto_condchase.proofs.WayLemmas.{found_none, found_lengths, body_all, rest_after, from_turn, counted_one}
use Rattle.esto_condchase.proofs.FoundLemmas.{body_turn}
use Rattle.esto_condchase.proofs.ways.matches_of.Goals as goal

pub atoms-init : goal.atoms-init
atoms-init c =
    let are = c.in_ok-ways.ensures in
    record {
      found = found_none c.args.known.now (terms_of c.args.body.now ++ c.args.asked.now) c.args.sides.now c.in_ok-ways.ways (empty_way c.args.count) are
          refl refl refl (λ number has. none_has c.args.count number has);
      from_is = c.new-from.ensures;
      counted = counted_one c.args.count c.in_ok-ways.ways (empty_way c.args.count) are (length-replicate c.args.count false);
    }

pub go_on-requires-clause-lengths : goal.go_on-requires-clause-lengths
go_on-requires-clause-lengths c =
    found_lengths c.args.known.now _ _ _ c.atoms.ways c.atoms.ways c.atoms.from c.atoms.invariant.found refl c.atoms.invariant.from_is

pub go_on-requires-clause-counted : goal.go_on-requires-clause-counted
go_on-requires-clause-counted c = c.atoms.invariant.counted

pub returns-clause-found : goal.returns-clause-found
returns-clause-found c =
    body_all c.args.known.now c.args.body.now c.args.asked.now c.args.sides.now c.atoms.place c.atoms.ways c.atoms-test.false c.atoms.invariant.found

pub returns-clause-counted : goal.returns-clause-counted
returns-clause-counted c = c.atoms.invariant.counted

pub atoms-preserved : goal.atoms-preserved
atoms-preserved c =
    let atom = c.index-body-place.result in
    record {
      found = body_turn c.args.known.now c.args.body.now c.args.asked.now c.args.sides.now _ c.atoms.place atom c.atoms.ways
          c.go_on.new.ways c.atoms.from c.requires.among c.atoms-test.true c.index-body-place.is
          (ap (λ (it : List (Fact Term)). terms_of it ++ c.args.asked.now) (rest_after c.args.body.now c.atoms.place c.atoms-test.true))
          c.atoms.invariant.from_is c.atoms.invariant.found c.in_ok-go_on.ensures.next;
      from_is = from_turn c.args.body.now c.atoms.place atom c.atoms.from c.go_on.new.from _ c.atoms-test.true c.index-body-place.is
          c.atoms.invariant.from_is refl c.in_ok-go_on.ensures.from;
      counted = c.in_ok-go_on.ensures.counted;
    }
