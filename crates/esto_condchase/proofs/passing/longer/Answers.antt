use Rattle.std.proofs.Common.{◌≡◌, ◌≤◌, ◌⊎◌, ◌++◌, inl, inr, ℕ, List, Bool, Some, refl, slice_get}
use Rattle.std.proofs.lemmas.List.{get_or_default}
use Rattle.std.proofs.lemmas.Result.{on_ok_weaker}
use Rattle.esto_term.specs.Sets.{Within}
use Rattle.esto_term.proofs.ListLemmas.{Contains-nil, each_more, each_seen}
use Rattle.esto_chase_laws.specs.Worlds.{SaysOne}
use Rattle.esto_chase_laws.specs.declared.entry.Entry.{Entry}
use Rattle.esto_condchase.specs.Ways.{IsTold, HasSupport, IsLonger}
use Rattle.esto_condchase.specs.declared.passing.Support.{Support}
use Rattle.esto_condchase.proofs.StepLemmas.{grown_same, grown_then, support_kept, links_end, free_goes}
use Rattle.esto_condchase.proofs.passing.longer.Goals as goal

pub returns-in-Some-clause-goes : goal.returns-in-Some-clause-goes
returns-in-Some-clause-goes c = on_ok_weaker c.longer_at.result (λ goes. free_goes c.args.step.now.known.now c.args.floor c.args.own.now c.args.goal.now
    c.args.before.now.product _ _ c.in-Some.ensures goes) c.longer_at.ensures.goes

pub links-init : goal.links-init
links-init c = record {
  grown = grown_same (IsLonger c.args.step.now.known.now c.args.own.now c.args.goal.now c.args.before.now) c.args.next.now c.args.next.now refl;
  tried = λ place inside. absurd (Contains-nil place inside);
}

pub returns-clause-grown : goal.returns-clause-grown
returns-clause-grown c = c.links.invariant.grown

pub links-preserved : goal.links-preserved
links-preserved c =
    let Goes : List Support → ℕ → Type 0 = λ next place. (set : List Bool) (entry : Entry) → c.args.floor ≤ place
    → slice_get c.args.step.now.known.now place ≡ Some entry → SaysOne entry.claim c.args.own.now c.args.goal.now → Within c.args.before.now.product set
    → Within entry.product set → HasSupport next set
    ⊎ IsTold c.args.step.now.known.now c.args.step.now.sides c.args.step.now.places.now c.args.kept.now
    (c.args.step.now.to.now ++ c.args.step.now.owns.now) set in
    record {
      grown = grown_then (IsLonger c.args.step.now.known.now c.args.own.now c.args.goal.now c.args.before.now) c.args.next.now c.links.next
          c.longer_at-in-links.new.next c.links.invariant.grown c.in_ok-longer_at.ensures.grown;
      tried = each_more (Goes c.longer_at-in-links.new.next) c.args.links.now c.links.place-index _ c.links-test.true
          (get_or_default c.args.links.now c.links.place-index _ _ c.links-test.true) c.in_ok-longer_at.ensures.goes
          (λ place inside set entry late at says within its_within. elim (c.links.invariant.tried place inside set entry late at says within its_within) [
            | inl found ↦ inl (support_kept c.links.next c.longer_at-in-links.new.next set c.in_ok-longer_at.ensures.grown.kept found)
            | inr settled ↦ inr settled
          ]);
    }

pub returns-clause-goes : goal.returns-clause-goes
returns-clause-goes c set within link =
    links_end c.args.step.now.known.now c.args.own.now c.args.goal.now c.args.links.now c.args.floor set set _ c.requires.links
    (λ place inside entry late at says its_within. each_seen (λ place. (entry : Entry) → c.args.floor ≤ place
    → slice_get c.args.step.now.known.now place ≡ Some entry → SaysOne entry.claim c.args.own.now c.args.goal.now → Within entry.product set
    → HasSupport c.links.next set
    ⊎ IsTold c.args.step.now.known.now c.args.step.now.sides c.args.step.now.places.now c.args.kept.now (c.args.step.now.to.now ++ c.args.step.now.owns.now)
    set) c.args.links.now c.links.place-index
    c.links-test.false (λ its its_inside its_entry its_late its_at its_says in_set. c.links.invariant.tried its its_inside set its_entry its_late its_at
    its_says within in_set) place inside entry
    late at says its_within) link
