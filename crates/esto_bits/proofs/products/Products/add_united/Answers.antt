use Rattle.std.proofs.Common.{◌∙◌, ap, arith, map, refl}
use Rattle.std.proofs.lemmas.List.{take_all}
use Rattle.esto_term.specs.Sets.{united}
use Rattle.esto_term.proofs.ListLemmas.{thing_at}
use Rattle.esto_bits.specs.Kept.{with_sets}
use Rattle.esto_bits.proofs.JoinLemmas.{united_next}
use Rattle.esto_bits.proofs.products.Products.add_united.Goals as goal

pub places-init : goal.places-init
places-init c = record { count = refl; sets = λ _ _. refl }

pub places-preserved : goal.places-preserved
places-preserved c =
    let here = thing_at c.args.others.now.sets c.places.place (omega (arith, c.places-test.true, c.len-place-end.ensures)) in
    record {
      count = c.add_union_at.ensures.count ∙ c.places.invariant.count;
      sets = λ set there.
          united_next c.args.self.now.sets c.places.self.sets c.add_union_at.new.self.sets c.args.others.now.sets c.places.place here.0 here.1 set
          (c.in_ok-add_union_at.ensures.ok set here.0 there here.1) (c.places.invariant.sets set there);
    }

pub returns-clause-ok : goal.returns-clause-ok
returns-clause-ok c = λ set there.
    c.places.invariant.sets set there ∙ ap (λ some. with_sets c.args.self.now.sets (map (united set) some))
    (take_all c.places.place c.args.others.now.sets (omega (arith, c.places-test.false, c.len-place-end.ensures)))
