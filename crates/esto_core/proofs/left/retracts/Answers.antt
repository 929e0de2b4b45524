use Rattle.std.proofs.Common.{◌↔◌, ◌∷◌, Contains, IsTrue, ap, sym, subst, ◌∙◌}
use Rattle.esto_semantics.specs.Maps.{AreFlat}
use Rattle.esto_semantics.specs.Cores.{Retracts}
use Rattle.esto_core.specs.Left.{IsFixing}
use Rattle.esto_core.proofs.LeftLemmas.{found-retracts}
use Rattle.esto_core.proofs.left.retracts.Goals as goal

pub fixing-requires : goal.fixing-requires
fixing-requires c = λ term inside. c.requires.flat_head term (subst (λ terms. Contains terms term) c.items.ensures inside)

pub first_match-requires : goal.first_match-requires
first_match-requires c =
    subst AreFlat (sym (c.in_ok-all.ensures ∙ ap (λ rest. c.args.atom.now ∷ rest) c.items-2.ensures)) c.requires.flat

pub returns : goal.returns
returns c =
    subst (λ atoms. IsTrue c.is_some.result ↔ Retracts c.args.head.now atoms c.args.others.now)
    (c.in_ok-all.ensures ∙ ap (λ rest. c.args.atom.now ∷ rest) c.items-2.ensures)
    (found-retracts c.args.head.now c.in_ok-all.all c.args.others.now c.in_ok-start.start
    (subst (λ terms. IsFixing terms c.in_ok-start.start) c.items.ensures c.in_ok-start.ensures)
    c.matches_send.ensures c.valuations_are_maps.ensures.keeps c.valuations_are_maps.ensures.extends
    c.in_ok-found.found c.in_ok-found.ensures.found c.in_ok-found.ensures.none c.is_some.result c.is_some.ensures)
