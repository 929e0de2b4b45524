-- Equations with another hub say the same.
use Rattle.std.proofs.Common.{◌≡◌, ℕ, Bool, true, false, cond, List, map, Some, slice_get, Contains, refl, sym, ap, ◌∙◌, subst}
use Rattle.std.proofs.lemmas.Option.{same_Some}
use Rattle.esto_term.proofs.ListLemmas.{Contains-at, Contains-map, Contains-map_from}
use Rattle.esto_exec.specs.Slots.{AreEqual, IsKnown}
use Rattle.esto_exec.specs.Turns.{same_slot}
use Rattle.esto_exec.specs.Hubs.{turned_by, turned, AreMet, SayTheSame}
use Rattle.esto_exec.specs.declared.slots.Slot.{Slot}
use Rattle.esto_exec.specs.declared.slots.Equation.{Equation}
use Rattle.esto_exec.specs.declared.slots.Side.{Side}
use Rattle.esto_exec.specs.declared.slots.Side.TheVariants.{Constant, Held, Nothing}
use Rattle.esto_exec.proofs.TurnLemmas.{slots_same, same_slots}

-- ---- lists that say the same

pub same_self : (equations : List Equation) → SayTheSame equations equations
same_self equations = record { met = λ choice. ((λ is. is), (λ is. is)); known = λ done is. is }

pub same_through : (one other third : List Equation) → SayTheSame one other → SayTheSame other third → SayTheSame one third
same_through one other third first second = record {
  met = λ choice. ((λ is. (second.met choice).0 ((first.met choice).0 is)), (λ is. (first.met choice).1 ((second.met choice).1 is)));
  known = λ done is. second.known done (first.known done is);
}

-- ---- two slots that hold one code

equal_back : (choice : ℕ → List ℕ) (slot other : Slot) → AreEqual choice slot (Held other) → AreEqual choice other (Held slot)
equal_back choice slot other (code, own, its) = (code, its, own)

equal_through : (choice : ℕ → List ℕ) (slot other third : Slot) → AreEqual choice slot (Held other) → AreEqual choice other (Held third)
    → AreEqual choice slot (Held third)
equal_through choice slot other third (code, own, its) (also, here, last) = (
  code,
  own,
  last ∙ ap Some (same_Some also code (sym here ∙ its)),
)

-- ---- one equation

module _ (hub slot : Slot) where
  -- the turned equation, by whether its side is the hub, and whether it is the slot's own
  abbrev turned_as : Bool → Bool → Slot → Slot → Equation
  turned_as answer first own other = cond answer (cond first (record { slot = hub; side = Held slot }) (record { slot = own; side = Held slot }))
      (record { slot = own; side = Held other })

  -- the equation of the two is turned round
  turned_own : turned_by hub slot slot (Held hub) ≡ record { slot = hub; side = Held slot }
  turned_own =
      let same = same_slots hub hub refl in
      let own = same_slots slot slot refl in
      λ i. turned_as (same i) (own i) slot hub

  module _ (choice : ℕ → List ℕ) (equal : AreEqual choice slot (Held hub)) where
    turned_met : (own : Slot) (side : Side) → AreEqual choice own side → AreEqual choice (turned_by hub slot own side).slot (turned_by hub slot own side).side
    turned_met own (Constant code) is = is
    turned_met own Nothing is = is
    turned_met own (Held other) is = by (same_slot other hub) refl (same_slot own slot)
      where
        by : (answer : Bool) → same_slot other hub ≡ answer → (first : Bool)
            → AreEqual choice (turned_as answer first own other).slot (turned_as answer first own other).side
        by false differs first = is
        by true same true = equal_back choice slot hub equal
        by true same false = equal_through choice own hub slot
            (subst (λ (it : Slot). AreEqual choice own (Held it)) (slots_same other hub same) is) (equal_back choice slot hub equal)

    met_before : (own : Slot) (side : Side) → AreEqual choice (turned_by hub slot own side).slot (turned_by hub slot own side).side → AreEqual choice own side
    met_before own (Constant code) is = is
    met_before own Nothing is = is
    met_before own (Held other) is = by (same_slot other hub) refl (same_slot own slot) refl is
      where
        by : (answer : Bool) → same_slot other hub ≡ answer → (first : Bool) → same_slot own slot ≡ first
            → AreEqual choice (turned_as answer first own other).slot (turned_as answer first own other).side
            → AreEqual choice own (Held other)
        by false differs first what it = it
        by true same true own_is it = subst (λ (its : Slot). AreEqual choice its (Held other)) (sym (slots_same own slot own_is))
            (subst (λ (its : Slot). AreEqual choice slot (Held its)) (sym (slots_same other hub same)) equal)
        by true same false what it = subst (λ (its : Slot). AreEqual choice own (Held its)) (sym (slots_same other hub same))
            (equal_through choice own slot hub it equal)

  turned_known : (done : List ℕ) → Contains done slot.get → Contains done hub.get → (own : Slot) (side : Side) → Contains done own.get → IsKnown done side
      → Contains done (turned_by hub slot own side).slot.get × IsKnown done (turned_by hub slot own side).side
  turned_known done slot_done hub_done own (Constant code) own_done known = (own_done, known)
  turned_known done slot_done hub_done own Nothing own_done known = (own_done, known)
  turned_known done slot_done hub_done own (Held other) own_done known = by (same_slot other hub) (same_slot own slot)
    where
      by : (answer first : Bool)
          → Contains done (turned_as answer first own other).slot.get × IsKnown done (turned_as answer first own other).side
      by false first = (own_done, known)
      by true true = (hub_done, slot_done)
      by true false = (own_done, slot_done)

-- ---- a turn

-- where the equation of the two is in the list, the turned list says the same
pub turned_same : (equations own : List Equation) (hub slot : Slot) → Contains equations (record { slot = slot; side = Held hub })
    → own ≡ map (turned hub slot) equations → SayTheSame equations own
turned_same equations own hub slot among own_is = subst (SayTheSame equations) (sym own_is) (record {
  met = λ choice. (
    (λ is it inside.
        let from = Contains-map_from (turned hub slot) equations it inside in
        subst (λ (e : Equation). AreEqual choice e.slot e.side) from.2
        (turned_met hub slot choice (is _ among) (from.0).slot (from.0).side (is from.0 from.1))),
    (λ is it inside.
        met_before hub slot choice (equal choice is) it.slot it.side (is (turned hub slot it) (Contains-map (turned hub slot) equations it inside))),
  );
  known = λ done is it inside.
      let from = Contains-map_from (turned hub slot) equations it inside in
      let both = is _ among in
      let own_known = is from.0 from.1 in
      subst (λ (e : Equation). Contains done e.slot.get × IsKnown done e.side) from.2
      (turned_known hub slot done both.0 both.1 (from.0).slot (from.0).side own_known.0 own_known.1);
})
  where
    equal : (choice : ℕ → List ℕ) → AreMet choice (map (turned hub slot) equations) → AreEqual choice slot (Held hub)
    equal choice is = equal_back choice hub slot
        (subst (λ (e : Equation). AreEqual choice e.slot e.side) (turned_own hub slot)
        (is _ (Contains-map (turned hub slot) equations (record { slot = slot; side = Held hub }) among)))

pub turned_at : (equations own : List Equation) (index : ℕ) (equation : Equation) (hub : Slot) → slice_get equations index ≡ Some equation
    → equation.side ≡ Held hub → own ≡ map (turned hub equation.slot) equations → SayTheSame equations own
turned_at equations own index equation hub there side_is = turned_same equations own hub equation.slot
    (subst (λ side. Contains equations (record { slot = equation.slot; side = side })) side_is (Contains-at equations index equation there))
