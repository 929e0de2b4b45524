-- The turns of the loop, and its end.
use Rattle.std.proofs.Common.{◌≡◌, ◌↔◌, ◌<◌, ◌≤◌, ◌+◌, ◌-◌, inl, inr, ℕ, zero, suc, Bool, List, [], ◌∷◌, ◌++◌, length, take, get_or, Contains, refl, sym, ap}
use Rattle.std.proofs.Common.{◌∙◌, subst, arith, length-append}
use Rattle.esto_constraint.specs.Constraints.{rules_of}
use Rattle.esto_constraint.specs.declared.rule.Constraint.{Constraint}
use Rattle.std.proofs.lemmas.List.{take_all, append-nil, nil_from_length}
use Rattle.std.proofs.lemmas.List.Elements.{Contains-append_left, Contains-push_cases}
use Rattle.esto_semantics.specs.Rules.{Rule}
use Rattle.esto_term.specs.Sets.{Has}
use Rattle.esto_semantics.specs.declared.fact.Fact.{Fact}
use Rattle.esto_term.specs.declared.term.Term.{Term}
use Rattle.esto_term.proofs.ListLemmas.{Contains-nil, Contains-one, Contains-head}
use Rattle.esto_semantics.specs.declared.expanded.ExpandedFact.{ExpandedFact}
use Rattle.esto_chase_laws.specs.Worlds.{InWorld}
use Rattle.esto_chase_laws.specs.WorldSteps.{AreAnswered, AreJoined}
use Rattle.esto_chase_laws.specs.Derived.{AreDerived, AreNew}
use Rattle.esto_semantics.specs.Maps.{AreFlat}
use Rattle.esto_semantics.specs.Rules.{AreRules}
use Rattle.esto_term.specs.Nesting.{greatest_u64}
use Rattle.esto_chase_laws.specs.Bounds.{RanksRise}
use Rattle.esto_semantics.specs.Expanded.{facts_of}
use Rattle.esto_chase_laws.specs.WorldBounds.{most_entries}
use Rattle.esto_chase_laws.specs.WorldLaws.{AreGiven, DerivedEntriesAreFew}
use Rattle.esto_chase_laws.specs.declared.entry.Claim.TheVariants.{Fact as Stated}
use Rattle.esto_chase_laws.specs.declared.entry.Reason.TheVariants.{Expanded}
use Rattle.esto_chase_laws.specs.declared.entry.Entry.{Entry}
use Rattle.esto_chase_laws.proofs.GrowLemmas.{InWorld-more}
use Rattle.esto_chase_laws.specs.Worlds.{AreOfCount}
use Rattle.esto_condchase.specs.Rounds.{IsEntryOf}
use Rattle.esto_known.specs.Added.{IsAdded, IsGrownBy}
use Rattle.esto_term.proofs.PlaceLemmas.{take-item}
use Rattle.esto_known.proofs.CoverLemmas.{added_there, added_keeps, added_derived, added_new}

pub one_number : (set : List Bool) (atom : ℕ) → ((number : ℕ) → Has set number ↔ Contains (atom ∷ []) number)
    → (number : ℕ) → Has set number ↔ (number ≡ atom)
one_number set atom has number = (
  (λ in_set. sym (Contains-one atom number ((has number).0 in_set))),
  (λ is. (has number).1 (subst (Contains (atom ∷ [])) (sym is) (Contains-head atom []))),
)

pub answered_same : (its rules : List Constraint) (old new : List Entry) → its ≡ rules → AreAnswered (rules_of its) old new
    → AreAnswered (rules_of rules) old new
answered_same its rules old new same answered = subst (λ it. AreAnswered (rules_of it) old new) same answered

-- the entries of the expanded facts so far
pub record GivenSoFar (facts : List ExpandedFact) (count place : ℕ) (entries : List Entry) : Type 0 where
  pub derived : (rules : List Rule) → AreDerived facts rules entries
  pub new : AreNew entries
  pub counted : AreOfCount count entries
  pub given : AreGiven (take place facts) entries

pub given_none : (facts : List ExpandedFact) (count : ℕ) (entries : List Entry) → entries ≡ [] → GivenSoFar facts count 0 entries
given_none facts count entries none = rw none record {
  derived = λ rules place entry at. absurd (cc);
  new = λ place entry at. absurd (cc);
  counted = λ entry inside. absurd (Contains-nil entry inside);
  given = λ fact inside. absurd (Contains-nil fact inside);
}

pub given_turn : (facts : List ExpandedFact) (count place : ℕ) (fact : ExpandedFact) (entries later : List Entry) (it : Fact Term) (product : List Bool)
    → place < length facts → fact ≡ get_or facts place fact → it ≡ fact.fact → length product ≡ count
    → ((number : ℕ) → Has product number ↔ (number ≡ fact.atom)) → IsAdded entries (Stated it) product (Expanded fact.atom fact.place) later
    → GivenSoFar facts count place entries → GivenSoFar facts count (place + 1) later
given_turn facts count place fact entries later it product within is it_is counted has added so_far = record {
  derived = λ rules. added_derived entries later entry_of added facts rules (fact, (place, within, sym is), refl, refl, ap Stated it_is, has)
      (so_far.derived rules);
  new = added_new entries later entry_of added so_far.new;
  counted = elim added [
    | inl same ↦ subst (AreOfCount count) (sym same.1) so_far.counted
    | inr new ↦ subst (AreOfCount count) (sym new.1) (λ entry inside. elim
        (Contains-push_cases entries entry_of entry inside) [
          | inl earlier ↦ so_far.counted entry earlier
          | inr same ↦ subst (λ (its : Entry). length its.product
              ≡ count) same counted
        ])
  ];
  given = λ other inside atoms in_atoms. elim (Contains-push_cases (take place facts) fact other
      (subst (λ its. Contains its other) (take-item facts place fact within is) inside)) [
        | inl earlier ↦ InWorld-more entries later atoms (added_keeps entries later entry_of added) (Stated other.fact)
            (so_far.given other earlier atoms in_atoms)
        | inr same ↦
            let here : InWorld later atoms (Stated it) =
            added_there entries later entry_of added atoms
            (λ number in_product. subst (Has atoms) (sym ((has number).0 in_product))
            (subst (λ (its : ExpandedFact). Has atoms its.atom) (sym same) in_atoms)) in
            subst (λ its. InWorld later atoms (Stated its)) (it_is ∙ ap (λ (its : ExpandedFact). its.fact) same) here
      ];
}
  where
    entry_of : Entry
    entry_of = record { claim = Stated it; product = product; reason = Expanded fact.atom fact.place }

-- the same, of the entry itself
pub given_entry : (facts : List ExpandedFact) (count place : ℕ) (fact : ExpandedFact) (entries later : List Entry) (entry : Entry)
    → place < length facts → fact ≡ get_or facts place fact → length entry.product ≡ count → IsEntryOf fact entry
    → IsAdded entries entry.claim entry.product entry.reason later → GivenSoFar facts count place entries → GivenSoFar facts count (place + 1) later
given_entry facts count place fact entries later entry within is counted it added so_far =
    given_turn facts count place fact entries later fact.fact entry.product within is refl counted it.only
    (subst (λ claim. IsAdded entries claim entry.product (Expanded fact.atom fact.place) later) it.states
    (subst (λ reason. IsAdded entries entry.claim entry.product reason later) it.expanded added)) so_far

pub given_all : (facts : List ExpandedFact) (place : ℕ) (entries : List Entry) → length facts ≤ place → AreGiven (take place facts) entries
    → AreGiven facts entries
given_all facts place entries past given = subst (λ it. AreGiven it entries) (take_all place facts past) given

-- ---- rounds

pub grown_same : (its rules : List Constraint) (entries later : List Entry) → its ≡ rules
    → (asked : List Entry) × IsGrownBy (rules_of its) entries asked later → (asked : List Entry) × IsGrownBy (rules_of rules) entries asked later
grown_same its rules entries later same (asked, grown) = (asked, subst (λ it. IsGrownBy (rules_of it) entries asked later) same grown)

module _ (facts : List ExpandedFact) (rules : List Rule) (count : ℕ) (entries asked later : List Entry) (grown : IsGrownBy rules entries asked later) where
  pub turn_given : AreGiven facts entries → AreGiven facts later
  turn_given given = subst (AreGiven facts) (sym grown.more.1) (λ fact inside atoms has. InWorld-more entries (entries ++ grown.more.0) atoms
      (λ entry in_entries. Contains-append_left entries grown.more.0 entry in_entries) (Stated fact.fact) (given fact inside atoms has))

  -- an entry more is a pair less
  pub turn_falls : DerivedEntriesAreFew → (rank : ℕ → ℕ) (depth : ℕ) → AreRules rules → AreFlat (facts_of facts) → RanksRise rules rank
      → ((relation : ℕ) → rank relation ≤ depth) → depth < greatest_u64 → AreDerived facts rules entries → AreNew entries → AreOfCount count later
      → (length later ≡ length entries → ⊥)
      → most_entries rules (facts_of facts) depth count - length later < most_entries rules (facts_of facts) depth count - length entries
  turn_falls few rank depth sound flat rise low deep derived new counted some =
      let bound = few facts rules later rank depth count sound flat rise low deep (grown.derived facts derived) (grown.new new) counted in
      let long = ap length grown.more.1 ∙ length-append entries grown.more.0 in
      by (length grown.more.0) long bound
    where
      by : (others : ℕ) → length later ≡ length entries + others → length later ≤ most_entries rules (facts_of facts) depth count
          → most_entries rules (facts_of facts) depth count - length later < most_entries rules (facts_of facts) depth count - length entries
      by zero long bound = absurd (some (omega (arith, long)))
      by (suc others) long bound = omega (arith, long, bound)

  -- where nothing was added, the entries are the same
  pub turn_same : length later ≡ length entries → entries ≡ later
  turn_same same = sym (append-nil entries) ∙ ap (λ it. entries ++ it) (sym (nil_from_length grown.more.0
      (let long = ap length grown.more.1 ∙ length-append entries grown.more.0 in omega (arith, long, same)))) ∙ sym grown.more.1

pub end_answered : (rules : List Rule) (entries later : List Entry) → entries ≡ later → AreAnswered rules entries later → AreAnswered rules later later
end_answered rules entries later same answered = subst (λ it. AreAnswered rules it later) same answered

pub end_joined : (entries later : List Entry) → entries ≡ later → AreJoined entries later → AreJoined later later
end_joined entries later same joined = subst (λ it. AreJoined it later) same joined
