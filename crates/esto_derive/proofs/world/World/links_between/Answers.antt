use Rattle.std.proofs.Common.{length, Contains, refl, subst, arith}
use Rattle.std.proofs.lemmas.Option.{slice_get_read}
use Rattle.esto_term.proofs.ListLemmas.{Contains-nil}
use Rattle.esto_term.proofs.ZipLemmas.{zip_length}
use Rattle.esto_chase_laws.specs.Derived.{IsNamed}
use Rattle.esto_chase_laws.specs.Worlds.{InWorld, Linked}
use Rattle.esto_derive.proofs.FoundLemmas.{related_more, related_all, named_more}
use Rattle.esto_derive.proofs.world.World.links_between.Goals as goal

pub places-init : goal.places-init
places-init c = record {
  are = λ place inside. absurd (Contains-nil place (subst (λ it. Contains it place) c.new-links.ensures inside));
  related = λ place x y below at at_y. absurd (omega (arith, below));
}

pub places-preserved : goal.places-preserved
places-preserved c =
    let same = zip_length (Linked (InWorld c.args.self.now.entries.now c.args.self.now.set.now)) c.args.terms.now c.args.others.now c.requires.one in
    record {
      are = c.in_ok-put_chain.ensures.are c.places.invariant.are;
      related = related_more (Linked (IsNamed c.args.self.now.entries.now c.put_chain.new.links)) c.args.terms.now c.args.others.now c.places.place
          c.index-terms-place.result c.index-others-place.result
          (slice_get_read c.args.terms.now (length c.args.terms.now) c.places.place c.index-terms-place.result refl c.places-test.true c.index-terms-place.is)
          (slice_get_read c.args.others.now (length c.args.others.now) c.places.place c.index-others-place.result refl (omega (arith, c.places-test.true, same))
          c.index-others-place.is)
          c.in_ok-put_chain.ensures.one
          (λ place x y within at at_y. named_more c.args.self.now.entries.now c.places.links c.put_chain.new.links c.in_ok-put_chain.ensures.keeps x y
          (c.places.invariant.related place x y within at at_y));
    }

pub returns-clause-one : goal.returns-clause-one
returns-clause-one c =
    related_all (Linked (IsNamed c.args.self.now.entries.now c.places.links)) c.args.terms.now c.args.others.now c.places.place
    (zip_length (Linked (InWorld c.args.self.now.entries.now c.args.self.now.set.now)) c.args.terms.now c.args.others.now c.requires.one)
    (omega (arith, c.places-test.false)) c.places.invariant.related
