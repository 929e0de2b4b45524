-- What is covered, and entries that are added where it is not.
use Rattle.std.proofs.Common.{◌≡◌, ◌⊎◌, inl, inr, ℕ, ◌+◌, ◌<◌, ◌≤◌, Bool, List, [], ◌∷◌, ◌++◌, length, take, get_or, slice_get, Some, arith, Contains, refl}
use Rattle.std.proofs.Common.{sym, ap, ◌∙◌, subst, ltb, true}
use Rattle.std.proofs.lemmas.Bool.{ltb-true}
use Rattle.std.proofs.lemmas.Option.{slice_get_within}
use Rattle.std.proofs.lemmas.List.{append_assoc, append-nil}
use Rattle.std.proofs.lemmas.List.Elements.{Contains-append_cases, Contains-append_left, Contains-push, Contains-push_cases}
use Rattle.esto_semantics.specs.Rules.{Rule}
use Rattle.esto_term.specs.Sets.{Within}
use Rattle.esto_semantics.specs.declared.expanded.ExpandedFact.{ExpandedFact}
use Rattle.esto_term.specs.declared.term.Term.{Term}
use Rattle.esto_term.proofs.ListLemmas.{Contains-nil, Contains-at, place-from_Contains}
use Rattle.esto_term.proofs.PlaceLemmas.{take-item, item_at}
use Rattle.esto_chase_laws.specs.WorldMatches.{Touching}
use Rattle.esto_chase_laws.specs.Worlds.{InWorld, AreOfCount}
use Rattle.esto_chase_laws.specs.Claims.{AreSameClaim}
use Rattle.esto_chase_laws.specs.WorldSteps.{IsCovered}
use Rattle.esto_chase_laws.specs.Derived.{Follows, AreDerived, AreNew}
use Rattle.esto_chase_laws.specs.declared.entry.Claim.{Claim}
use Rattle.esto_chase_laws.specs.declared.entry.Claim.TheVariants.{Fact as Stated, Same}
use Rattle.esto_chase_laws.specs.declared.entry.Entry.{Entry}
use Rattle.esto_chase_laws.proofs.GrowLemmas.{InWorld-more, InWorld-within, IsCovered-more, Follows-append, AreDerived-push, AreNew-push}
use Rattle.esto_known.specs.Added.{IsAdded, IsTrivial, IsThere, IsFollowing, IsAddedAt, IsGrownBy, IsGrownIn}
use Rattle.esto_known.specs.Turns.{AreTurnsOf}
use Rattle.esto_known.specs.declared.turns.Turn.{Turn}
use Rattle.esto_known.specs.Indexes.{CoversClaim}

-- what is read at a place stands there
pub read_at : {X : Type 0} (items : List X) (place : ℕ) (item : X) → true ≡ ltb place (length items) → item ≡ get_or items place item
    → slice_get items place ≡ Some item
read_at items place item inside at = item_at items place item (ltb-true place (length items) (sym inside)) at

-- ---- covered

alike_covered : (entries : List Entry) (product : List Bool) (entry : Entry) → Contains entries entry → Within entry.product product → (own claim : Claim)
    → entry.claim ≡ own → AreSameClaim own claim → IsCovered (InWorld entries product) claim
alike_covered entries product entry inside within (Stated fact) (Stated other) is alike = (entry, inside, within, is ∙ ap Stated alike)
alike_covered entries product entry inside within (Stated fact) (Same left right) is alike = absurd alike
alike_covered entries product entry inside within (Same left right) (Stated fact) is alike = absurd alike
alike_covered entries product entry inside within (Same left right) (Same other_left other_right) is (inl both) =
    inr (inl (entry, inside, within, is ∙ (λ i. Same (both.0 i) (both.1 i))))
alike_covered entries product entry inside within (Same left right) (Same other_left other_right) is (inr both) =
    inr (inr (entry, inside, within, is ∙ (λ i. Same (both.0 i) (both.1 i))))

pub covers_covered : (entries : List Entry) (claim : Claim) (product : List Bool) → CoversClaim entries claim product
    → IsCovered (InWorld entries product) claim
covers_covered entries claim product (entry, inside, alike, within) = alike_covered entries product entry inside within entry.claim claim refl alike

itself_alike : (own claim : Claim) → own ≡ claim → AreSameClaim own claim
itself_alike own claim is = subst (AreSameClaim own) is (by own)
  where
    by : (it : Claim) → AreSameClaim it it
    by (Stated fact) = refl
    by (Same left right) = inl (refl, refl)

module _ (entries : List Entry) (product : List Bool) where
  pub covered_cases : (claim : Claim) → IsCovered (InWorld entries product) claim → IsTrivial claim ⊎ CoversClaim entries claim product
  covered_cases (Stated fact) (entry, inside, within, is) = inr (entry, inside, itself_alike entry.claim (Stated fact) is, within)
  covered_cases (Same left right) (inl is) = inl is
  covered_cases (Same left right) (inr (inl (entry, inside, within, is))) = inr (entry, inside, itself_alike entry.claim (Same left right) is, within)
  covered_cases (Same left right) (inr (inr (entry, inside, within, is))) =
      inr (entry, inside, subst (λ it. AreSameClaim it (Same left right)) (sym is) (inr (refl, refl)), within)

  pub trivial_covered : (claim : Claim) → IsTrivial claim → IsCovered (InWorld entries product) claim
  trivial_covered (Stated fact) trivial = absurd trivial
  trivial_covered (Same left right) trivial = inl trivial

-- what is covered in the world of a product is there for it
pub covered_there : (entries : List Entry) (claim : Claim) (own product : List Bool) → own ≡ product → IsCovered (InWorld entries own) claim
    → IsThere entries claim product
covered_there entries claim own product same covered atoms within =
    IsCovered-more (InWorld-within entries product atoms within) claim (subst (λ it. IsCovered (InWorld entries it) claim) same covered)

-- a claim of the world is covered in it
pub holds_covered : (entries : List Entry) (atoms : List Bool) (claim : Claim) → InWorld entries atoms claim → IsCovered (InWorld entries atoms) claim
holds_covered entries atoms (Stated fact) holds = holds
holds_covered entries atoms (Same left right) holds = inr (inl holds)

pub touching_back : (Holds : Claim → Type 0) (term other : Term) → Touching Holds term other → Touching Holds other term
touching_back Holds term other (inl is) = inl (sym is)
touching_back Holds term other (inr (inl along)) = inr (inr along)
touching_back Holds term other (inr (inr back)) = inr (inl back)

-- ---- what is added

pub there_more : (entries others : List Entry) (claim : Claim) (product : List Bool) → IsThere entries claim product → IsThere (entries ++ others) claim product
there_more entries others claim product there atoms within = IsCovered-more (InWorld-more entries (entries ++ others) atoms
    (λ own inside. Contains-append_left entries others own inside)) claim (there atoms within)

pub added_keeps : (entries later : List Entry) (entry : Entry) → IsAdded entries entry.claim entry.product entry.reason later → (other : Entry)
    → Contains entries other → Contains later other
added_keeps entries later entry added other inside = elim added [
  | inl same ↦ subst (λ its. Contains its other) (sym same.1) inside
  | inr new ↦ subst (λ its. Contains its other) (sym new.1) (Contains-append_left entries (entry ∷ []) other inside)
]

-- one entry more that was asked for
module _ (entries later : List Entry) (entry : Entry) (added : IsAdded entries entry.claim entry.product entry.reason later) where
  pub added_more : (others : List Entry) × (later ≡ entries ++ others)
  added_more = elim added [ inl same ↦ ([], same.1 ∙ sym (append-nil entries)) | inr new ↦ (entry ∷ [], new.1) ]

  pub added_there : IsThere later entry.claim entry.product
  added_there atoms within = elim added [
    | inl same ↦ subst (λ it. IsCovered (InWorld it atoms) entry.claim) (sym same.1)
        (IsCovered-more (InWorld-within entries entry.product atoms within) entry.claim same.0)
    | inr new ↦ holds_covered later atoms entry.claim
        (entry, subst (λ its. Contains its entry) (sym new.1) (Contains-push entries entry), within, refl)
  ]

  pub added_counted : (count : ℕ) → length entry.product ≡ count → AreOfCount count entries → AreOfCount count later
  added_counted count counted counts = elim added [
    | inl same ↦ subst (AreOfCount count) (sym same.1) counts
    | inr new ↦ subst (AreOfCount count) (sym new.1) (λ own inside. elim (Contains-push_cases entries entry own inside) [
      | inl earlier ↦ counts own earlier
      | inr is ↦ subst (λ (it : Entry). length it.product ≡ count) is counted
    ])
  ]

  pub added_derived : (expanded : List ExpandedFact) (rules : List Rule) → Follows expanded rules entries entry.claim entry.product entry.reason
      → AreDerived expanded rules entries → AreDerived expanded rules later
  added_derived expanded rules follows derived = elim added [
    | inl same ↦ subst (AreDerived expanded rules) (sym same.1) derived
    | inr new ↦ subst (AreDerived expanded rules) (sym new.1) (AreDerived-push expanded rules entries entry derived follows)
  ]

  pub added_new : AreNew entries → AreNew later
  added_new new = elim added [
    | inl same ↦ subst AreNew (sym same.1) new
    | inr other ↦ subst AreNew (sym other.1) (AreNew-push entries entry new other.0)
  ]

pub grown_none : (rules : List Rule) (entries asked : List Entry) → IsGrownIn rules entries asked [] entries
grown_none rules entries asked = record {
  more = ([], sym (append-nil entries));
  derived = λ expanded derived. derived;
  new = λ new. new;
  there = λ entry (turn, inside, read). absurd (Contains-nil turn inside);
}

pub added_at_counted : (entries asked later : List Entry) (place count : ℕ) → ((entry : Entry) → Contains asked entry → length entry.product ≡ count)
    → IsAddedAt entries asked place later → AreOfCount count entries → AreOfCount count later
added_at_counted entries asked later place count counted (inl (entry, at, added)) counts =
    added_counted entries later entry added count (counted entry (Contains-at asked place entry at)) counts
added_at_counted entries asked later place count counted (inr (past, same)) counts = subst (AreOfCount count) (sym same) counts

-- one turn more
module _ (rules : List Rule) (count : ℕ) (entries asked : List Entry)
    (follow : (entry : Entry) → Contains asked entry → IsFollowing rules count entries entry) (turns : List Turn) (place : ℕ) (turn : Turn)
    (inside : place < length turns) (is : turn ≡ get_or turns place turn) (current later : List Entry)
    (so_far : IsGrownIn rules entries asked (take place turns) current) where
  turn_added : (entry : Entry) → slice_get asked turn.place ≡ Some entry → IsAdded current entry.claim entry.product entry.reason later
      → IsGrownIn rules entries asked (take (place + 1) turns) later
  turn_added entry at added = record {
    more = (so_far.more.0 ++ its.0, its.1 ∙ ap (λ it. it ++ its.0) so_far.more.1 ∙ append_assoc entries so_far.more.0 its.0);
    derived = λ expanded derived. added_derived current later entry added expanded rules
        (subst (λ it. Follows expanded rules it entry.claim entry.product entry.reason) (sym so_far.more.1)
        (Follows-append entries so_far.more.0 expanded rules entry.claim entry.product entry.reason
        ((follow entry (Contains-at asked turn.place entry at)).follows expanded)))
        (so_far.derived expanded derived);
    new = λ new. added_new current later entry added (so_far.new new);
    there = λ asks (own, in_turns, read). elim (Contains-push_cases (take place turns) turn own
        (subst (λ it. Contains it own) (take-item turns place turn inside is) in_turns)) [
          | inl earlier ↦ subst (λ it. IsThere it asks.claim asks.product) (sym its.1)
              (there_more current its.0 asks.claim asks.product (so_far.there asks (own, earlier, read)))
          | inr same ↦
              let both : Some entry ≡ Some asks = sym at ∙ ap (λ (it : Turn). slice_get asked it.place) same ∙ read in
              let one : entry ≡ asks = cc in
              subst (λ (it : Entry). IsThere later it.claim it.product) one (added_there current later entry added)
        ];
  }
    where
      its : (others : List Entry) × (later ≡ current ++ others)
      its = added_more current later entry added

  turn_past : length asked ≤ turn.place → later ≡ current → IsGrownIn rules entries asked (take (place + 1) turns) later
  turn_past past same = subst (IsGrownIn rules entries asked (take (place + 1) turns)) (sym same) (record {
    more = so_far.more;
    derived = so_far.derived;
    new = so_far.new;
    there = λ asks (own, in_turns, read). elim (Contains-push_cases (take place turns) turn own
        (subst (λ it. Contains it own) (take-item turns place turn inside is) in_turns)) [
          | inl earlier ↦ so_far.there asks (own, earlier, read)
          | inr it ↦ absurd (let within = slice_get_within asked own.place asks read in
              let at = ap (λ (its : Turn). its.place) it in omega (arith, within, past, at))
        ];
  })

  pub grown_turn : IsAddedAt current asked turn.place later → IsGrownIn rules entries asked (take (place + 1) turns) later
  grown_turn (inl (entry, at, added)) = turn_added entry at added
  grown_turn (inr (past, same)) = turn_past past same

-- in all turns
pub grown_all : (rules : List Rule) (entries asked : List Entry) (turns : List Turn) (later : List Entry) → AreTurnsOf (length asked) turns
    → IsGrownIn rules entries asked turns later → IsGrownBy rules entries asked later
grown_all rules entries asked turns later all grown = record {
  more = grown.more;
  derived = grown.derived;
  new = grown.new;
  there = λ entry inside.
      let at = place-from_Contains asked entry inside in
      let turn = all at.0 (slice_get_within asked at.0 entry at.1) in
      grown.there entry (turn.0, turn.1, ap (slice_get asked) turn.2 ∙ at.1);
}

-- what is covered by the entries and what was asked for is covered by the later ones
pub covered_grown : (rules : List Rule) (entries asked later : List Entry) → IsGrownBy rules entries asked later
    → (atoms : List Bool) (claim : Claim) → IsCovered (InWorld (entries ++ asked) atoms) claim → IsCovered (InWorld later atoms) claim
covered_grown rules entries asked later grown atoms = by
  where
    holds : (claim : Claim) → InWorld (entries ++ asked) atoms claim → IsCovered (InWorld later atoms) claim
    holds claim (entry, inside, within, is) = elim (Contains-append_cases entries asked entry inside) [
      | inl here ↦ holds_covered later atoms claim (
        entry,
        subst (λ its. Contains its entry) (sym grown.more.1) (Contains-append_left entries grown.more.0 entry here),
        within,
        is,
      )
      | inr last ↦ subst (IsCovered (InWorld later atoms)) is (grown.there entry last atoms within)
    ]

    by : (claim : Claim) → IsCovered (InWorld (entries ++ asked) atoms) claim → IsCovered (InWorld later atoms) claim
    by (Stated fact) covered = holds (Stated fact) covered
    by (Same left right) (inl is) = inl is
    by (Same left right) (inr (inl along)) = holds (Same left right) along
    by (Same left right) (inr (inr back)) = touching_back (InWorld later atoms) right left (holds (Same right left) back)
