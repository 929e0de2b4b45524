-- Live entries of a claim: the places of its group.
use Rattle.std.proofs.Common.{inl, inr, ap, ◌∙◌, ◌≡◌, ◌<◌, arith, ℕ, List, ◌++◌, Some, slice_get, Contains, sym, subst, ◌+◌, length, take, get_or}
use Rattle.std.proofs.lemmas.List.Elements.{Contains-append_cases, Contains-append_left, Contains-append_right, Contains-push_cases}
use Rattle.std.proofs.lemmas.Option.{same_Some}
use Rattle.esto_term.specs.declared.term.Term.{Term}
use Rattle.esto_semantics.specs.declared.fact.Fact.{Fact}
use Rattle.esto_term.proofs.ListLemmas.{Contains-at, place-from_Contains}
use Rattle.esto_chase_laws.specs.Worlds.{SaysOne}
use Rattle.esto_chase_laws.specs.Claims.{AreSameClaim}
use Rattle.esto_chase_laws.specs.declared.entry.Claim.{Claim}
use Rattle.esto_chase_laws.specs.declared.entry.Claim.TheVariants.{Fact as Stated, Same}
use Rattle.esto_chase_laws.specs.declared.entry.Entry.{Entry}
use Rattle.esto_chase_laws.proofs.ClaimLemmas.{same_stated, says_same, same_says, same_both, same_back}
use Rattle.esto_known.specs.Indexes.{HasSide}
use Rattle.esto_known.specs.Groups.{AreGroups}
use Rattle.esto_known.specs.declared.group.Group.{Group}
use Rattle.esto_known.specs.KeptWays.{IsOldWay}
use Rattle.esto_known.specs.Live.{AreAllLive, AreAllFacts, AreFresh, IsUnlinked}
use Rattle.esto_known.specs.declared.way.Way.{Way}
use Rattle.esto_term.proofs.PlaceLemmas.{take-item}

-- ---- live entries

module _ (entries : List Entry) (groups : List Group) (are : AreGroups entries groups) where
  pub links_nowhere : (own goal : Term) → ((group : Group) → Contains groups group → SaysOne group.claim own goal → ⊥) → (place : ℕ) (entry : Entry)
      → slice_get entries place ≡ Some entry → SaysOne entry.claim own goal → ⊥
  links_nowhere own goal none place entry at says =
      let it = are.all entry (Contains-at entries place entry at) in
      let one = same_back (Same own goal) entry.claim (says_same own goal entry.claim says) in
      none it.0 it.1 (same_says own goal it.0.claim (same_both entry.claim (Same own goal) it.0.claim one it.2))

  pub links_some : (own goal : Term) (group : Group) → Contains groups group → SaysOne group.claim own goal → (places : List ℕ) → places ≡ group.places
      → AreAllLive entries places (λ claim. SaysOne claim own goal)
  links_some own goal group inside group_says places same place entry at says =
      let own_group = says_same own goal group.claim group_says in
      let it = (are.each group inside).live place entry at (same_both (Same own goal) entry.claim group.claim
      (says_same own goal entry.claim says) own_group) in
      let its = it.3.0 in
      let its_says = same_says own goal its.claim (same_both group.claim (Same own goal) its.claim (same_back (Same own goal) group.claim own_group)
      (same_back its.claim group.claim it.3.2)) in
      (it.0, its, subst (λ them. Contains them it.0) (sym same) it.1, it.2, it.3.1, its_says, it.3.3)

  pub facts_all : (relation : ℕ) (found places : List ℕ)
      → ((place : ℕ) (group : Group) (fact : Fact Term) → slice_get groups place ≡ Some group → group.claim ≡ Stated fact → fact.relation ≡ relation
      → Contains found place)
      → ((at : ℕ) → Contains found at → (group : Group) → slice_get groups at ≡ Some group → (place : ℕ) → Contains group.places place → Contains places place)
      → AreAllFacts entries relation places
  facts_all relation found places are_found all fact same place entry at states =
      let it = are.all entry (Contains-at entries place entry at) in
      let group_is : it.0.claim ≡ Stated fact = same_stated fact it.0.claim (subst (λ claim. AreSameClaim claim it.0.claim) states it.2) in
      let there = place-from_Contains groups it.0 it.1 in
      let live = (are.each it.0 it.1).live place entry at it.2 in
      let its = live.3.0 in
      let its_is : its.claim ≡ Stated fact = same_stated fact its.claim (subst (λ claim. AreSameClaim claim its.claim) group_is
      (same_back its.claim it.0.claim live.3.2)) in
      (live.0, its, all there.0 (are_found there.0 it.0 fact there.1 group_is same) it.0 there.1 live.0 live.1, live.2, live.3.1, its_is, live.3.3)

pub kept_all : (places more later : List ℕ) → later ≡ places ++ more → (place : ℕ) → Contains places place → Contains later place
kept_all places more later grown place inside = rw grown (Contains-append_left places more place inside)

pub has_all : (places more later its : List ℕ) → later ≡ places ++ more → more ≡ its → (place : ℕ) → Contains its place → Contains later place
has_all places more later its grown same place inside =
    rw grown (Contains-append_right places more place (subst (λ it. Contains it place) (sym same) inside))

pub read_items : (items groups : List Group) (at : ℕ) (group : Group) → items ≡ groups → slice_get groups at ≡ Some group → slice_get items at ≡ Some group
read_items items groups at group same is = ap (λ (it : List Group). slice_get it at) same ∙ is

-- ---- equalities with a term

same_side : (claim other : Claim) (own : Term) → AreSameClaim claim other → HasSide claim own → HasSide other own
same_side (Stated fact) other own same side = absurd side
same_side (Same left right) (Stated fact) own same side = absurd same
same_side (Same left right) (Same s t) own (inl same) (inl is) = inl (sym same.0 ∙ is)
same_side (Same left right) (Same s t) own (inl same) (inr is) = inr (sym same.1 ∙ is)
same_side (Same left right) (Same s t) own (inr same) (inl is) = inr (sym same.0 ∙ is)
same_side (Same left right) (Same s t) own (inr same) (inr is) = inl (sym same.1 ∙ is)

pub unlinked : (entries : List Entry) (groups items : List Group) (own : Term) (since : ℕ) (found its_found : List ℕ) → AreGroups entries groups
    → items ≡ groups → its_found ≡ found
    → ((place : ℕ) (group : Group) → slice_get groups place ≡ Some group → HasSide group.claim own → Contains found place)
    → ((at : ℕ) → Contains its_found at → (group : Group) → slice_get items at ≡ Some group → (place : ℕ) → Contains group.places place → place < since)
    → IsUnlinked entries since own
unlinked entries groups items own since found its_found are same same_found with_side old place entry at side =
    let it = are.all entry (Contains-at entries place entry at) in
    let there = place-from_Contains groups it.0 it.1 in
    let inside = with_side there.0 it.0 there.1 (same_side entry.claim it.0.claim own it.2 side) in
    let live = (are.each it.0 it.1).live place entry at it.2 in
    let below = old there.0 (subst (λ them. Contains them there.0) (sym same_found) inside) it.0 (read_items items groups there.0 it.0 same there.1) live.0
    live.1 in
    let above = live.2 in
    omega (arith, below, above)

pub since_group : (groups : List Group) (at : ℕ) (its group : Group) (items : List ℕ) (since : ℕ) → items ≡ its.places → slice_get groups at ≡ Some its
    → ((place : ℕ) → Contains items place → place < since) → slice_get groups at ≡ Some group → (place : ℕ) → Contains group.places place → place < since
since_group groups at its group items since same at_its low at_group place inside =
    low place (subst (λ it. Contains it place) (sym (same ∙ ap (λ (it : Group). it.places) (same_Some its group (sym at_its ∙ at_group)))) inside)

pub fresh_items : (entries : List Entry) (since : ℕ) (facts items other fresh its : List ℕ) → items ≡ facts → other ≡ facts → its ≡ fresh
    → AreFresh entries since items fresh → AreFresh entries since other its
fresh_items entries since facts items other fresh its same same_other same_fresh are =
    subst (AreFresh entries since other) (sym same_fresh) (subst (λ it. AreFresh entries since it fresh) (same ∙ sym same_other) are)

-- ---- places that are among the first few

-- one place more is below
pub below_more : (items : List ℕ) (at since item : ℕ) → at < length items → item ≡ get_or items at item → item < since
    → ((place : ℕ) → Contains (take at items) place → place < since) → (place : ℕ) → Contains (take (at + 1) items) place → place < since
below_more items at since item within is below before place inside =
    elim (Contains-push_cases (take at items) item place (subst (λ it. Contains it place) (take-item items at item within is) inside)) [
      | inl earlier ↦ before place earlier
      | inr last ↦ subst (λ it. it < since) last below
    ]

-- ---- ways among the first few

pub way_old : (way : Way) (since : ℕ) (facts links : List ℕ) → facts ≡ way.facts → links ≡ way.links → ((place : ℕ) → Contains facts place → place < since)
    → ((place : ℕ) → Contains links place → place < since) → IsOldWay since way
way_old way since facts links facts_are links_are by_facts by_links place inside = elim (Contains-append_cases way.facts way.links place inside) [
  | inl here ↦ by_facts place (subst (λ it. Contains it place) (sym facts_are) here)
  | inr there ↦ by_links place (subst (λ it. Contains it place) (sym links_are) there)
]
