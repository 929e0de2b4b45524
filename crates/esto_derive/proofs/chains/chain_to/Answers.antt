use Rattle.std.proofs.Common.{length, refl, subst, sym, arith}
use Rattle.std.proofs.lemmas.Option.{slice_get_read}
use Rattle.esto_derive.proofs.ChainLemmas.{LeadsFrom, earlier, leads_all, leads_more, leads_nowhere}
use Rattle.esto_derive.proofs.chains.chain_to.Goals as goal

pub steps-init : goal.steps-init
steps-init c = record {
  there = c.requires.there;
  leads = subst (LeadsFrom c.args.reached.now c.args.place c.args.place) (sym c.new-chain.ensures) (leads_nowhere c.args.reached.now c.args.place);
}

pub steps-smaller : goal.steps-smaller
steps-smaller c =
    let reached = c.args.reached.now in
    earlier reached c.args.place c.steps.at c.index-reached-at.result
    (slice_get_read reached (length reached) c.steps.at c.index-reached-at.result refl c.steps.invariant.there c.index-reached-at.is) c.steps.chain
    c.steps.invariant.leads c.requires.are.0 c.requires.are.1 c.requires.are.2 c.requires.are.3 c.in-Some.from c.in-Some.link c.in-Some.is

pub steps-preserved : goal.steps-preserved
steps-preserved c =
    let reached = c.args.reached.now in
    let at = slice_get_read reached (length reached) c.steps.at c.index-reached-at.result refl c.steps.invariant.there c.index-reached-at.is in
    record {
      there = omega (
        arith,
        earlier reached c.args.place c.steps.at c.index-reached-at.result at c.steps.chain c.steps.invariant.leads c.requires.are.0 c.requires.are.1
            c.requires.are.2 c.requires.are.3 c.in-Some.from c.in-Some.link c.in-Some.is,
        c.steps.invariant.there,
      );
      leads = subst (LeadsFrom reached c.in-Some.from c.args.place) (sym c.in_ok-insert.ensures.ok)
          (leads_more reached c.args.place c.steps.at c.index-reached-at.result at c.steps.chain c.steps.invariant.leads c.in-Some.from c.in-Some.link
          c.in-Some.is);
    }

pub returns-in_default : goal.returns-in_default
returns-in_default c =
    let reached = c.args.reached.now in
    leads_all reached c.args.place c.steps.at c.index-reached-at.result
    (slice_get_read reached (length reached) c.steps.at c.index-reached-at.result refl c.steps.invariant.there c.index-reached-at.is) c.steps.chain
    c.steps.invariant.leads c.in_default.is
