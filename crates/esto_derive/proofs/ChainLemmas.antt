-- Chains of equalities in a world, and what is reached over them.
use Rattle.std.proofs.Common.{◌≡◌, ◌≢◌, ◌↔◌, ◌⊎◌, inl, inr, zero, suc, ℕ, ◌+◌, ◌-◌, ◌<◌, ◌≤◌, Bool, true, false, List, [], ◌∷◌, ◌++◌, length, take, get_or}
use Rattle.std.proofs.Common.{slice_get, Option, Some, None, MatchOption, is_some, Contains, AllPairs, subst, sym, ap, ◌∙◌, arith}
use Rattle.std.specs.List.{flat_map}
use Rattle.std.proofs.lemmas.List.{length-map, map-append, take_more}
use Rattle.std.proofs.lemmas.List.Elements.{Contains-append_cases, Contains-append_left, Contains-append_right, Contains-get_or, Contains-push_cases}
use Rattle.std.proofs.lemmas.List.Quantifiers.{all_pairs_push}
use Rattle.std.proofs.lemmas.Option.{same_Some, slice_get_within}
use Rattle.esto_term.proofs.DistinctLemmas.{no_more_than}
use Rattle.esto_term.proofs.ListLemmas.{Contains-nil, Contains-at, Contains-cases, Contains-flat, Contains-head, Contains-map, Contains-map_from, Contains-rest}
use Rattle.esto_term.proofs.ListLemmas.{at_left, at_pushed, each_seen, place-from_Contains, thing_at}
use Rattle.esto_term.proofs.PlaceLemmas.{earlier_or_last}
use Rattle.esto_term.specs.Sets.{Within}
use Rattle.esto_term.specs.declared.term.Term.{Term}
use Rattle.esto_chase_laws.proofs.LinkLemmas.{Linked-is, Linked-then}
use Rattle.esto_chase_laws.specs.Derived.{Claims, IsChain, IsNamed}
use Rattle.esto_chase_laws.specs.Worlds.{InWorld, Linked, SaysOne, here, along, back}
use Rattle.esto_chase_laws.specs.declared.entry.Claim.{Claim}
use Rattle.esto_chase_laws.specs.declared.entry.Claim.TheVariants.{Fact as Stated, Same}
use Rattle.esto_chase_laws.specs.declared.entry.Entry.{Entry}
use Rattle.esto_derive.specs.Chains.{AreReached, Grows, IsAt, IsOther, IsPassed, IsReached, LeadsTo, reached_terms}
use Rattle.esto_derive.specs.Searching.{AddsChain, AreAllLinks, AreLinks, ClaimsIn, IsChainIn, IsEqualityIn, IsLink, SaysOneIn}
use Rattle.esto_derive.specs.declared.chains.Reached.{Reached}

-- ---- what one equality says

module _ (entries : List Entry) (set : List Bool) where
  in_world : (place : ℕ) (claim : Claim) → ClaimsIn entries set place claim → InWorld entries set claim
  in_world place claim (entry, at, within, is) = (entry, Contains-at entries place entry at, within, is)

  one_step : (place : ℕ) (term next : Term) → SaysOneIn entries set place term next → Linked (InWorld entries set) term next
  one_step place term next (inl claims) = along (in_world place (Same term next) claims) here
  one_step place term next (inr claims) = back (in_world place (Same next term) claims) here

  is_link : (place : ℕ) (term next : Term) → SaysOneIn entries set place term next → IsLink entries set place
  is_link place term next (inl (entry, at, within, is)) = (entry, at, (term, next, within, is))
  is_link place term next (inr (entry, at, within, is)) = (entry, at, (next, term, within, is))

  claims_one : (place : ℕ) (term next : Term) → SaysOneIn entries set place term next
      → Claims entries place (Same term next) ⊎ Claims entries place (Same next term)
  claims_one place term next (inl (entry, at, within, is)) = inl (entry, at, is)
  claims_one place term next (inr (entry, at, within, is)) = inr (entry, at, is)

  module _ (place : ℕ) (entry : Entry) (at : slice_get entries place ≡ Some entry) (term next : Term) where
    entry_says : SaysOneIn entries set place term next → SaysOne entry.claim term next
    entry_says (inl (its, its_at, within, is)) = inl (subst (λ (it : Entry). it.claim ≡ Same term next) (same_Some its entry (sym its_at ∙ at)) is)
    entry_says (inr (its, its_at, within, is)) = inr (subst (λ (it : Entry). it.claim ≡ Same next term) (same_Some its entry (sym its_at ∙ at)) is)

    says_in : Within entry.product set → SaysOne entry.claim term next → SaysOneIn entries set place term next
    says_in within (inl is) = inl (entry, at, within, is)
    says_in within (inr is) = inr (entry, at, within, is)

  -- a link is of an entry of the world
  link_within : (place : ℕ) (entry : Entry) → slice_get entries place ≡ Some entry → IsLink entries set place → Within entry.product set
  link_within place entry at (its, its_at, (left, right, within, is)) =
      subst (λ (it : Entry). Within it.product set) (same_Some its entry (sym its_at ∙ at)) within

  pub link_there : (links : List ℕ) → AreAllLinks entries set links → (link : ℕ) → Contains links link → link < length entries
  link_there links all link inside = let it = (all link).0 inside in slice_get_within entries link it.0 it.1

-- ---- all links

-- the places are those of the links among the first entries
abbrev pub AreLinksBelow : List Entry → List Bool → ℕ → List ℕ → Type 0
AreLinksBelow entries set count links = (place : ℕ) → Contains links place ↔ ((place < count) × IsLink entries set place)

module _ (entries : List Entry) (set : List Bool) where
  pub links_none : AreLinksBelow entries set 0 []
  links_none place = ((λ inside. absurd (Contains-nil place inside)), (λ (below, is). absurd (omega (arith, below))))

  module _ (count : ℕ) (entry : Entry) (at : slice_get entries count ≡ Some entry) (links : List ℕ) (so_far : AreLinksBelow entries set count links) where
    -- an entry that is a link
    pub links_more : IsEqualityIn set entry → (new : List ℕ) → new ≡ links ++ count ∷ [] → AreLinksBelow entries set (count + 1) new
    links_more is new pushed place = (
      (λ inside. elim (Contains-append_cases links (count ∷ []) place (subst (λ (it : List ℕ). Contains it place) pushed inside)) [
        | inl earlier ↦ let before = (so_far place).0 earlier in (omega (arith, before.0), before.1)
        | inr last ↦ elim (Contains-cases count [] place last) [
          | inl same ↦ subst (λ (it : ℕ). (it < count + 1) × IsLink entries set it) same (omega arith, (entry, at, is))
          | inr none ↦ absurd (Contains-nil place none)
        ]
      ]),
      (λ (below, link). subst (λ (it : List ℕ). Contains it place) (sym pushed) (elim (earlier_or_last place count below) [
        | inl earlier ↦ Contains-append_left links (count ∷ []) place ((so_far place).1 (earlier, link))
        | inr same ↦ subst (Contains (links ++ count ∷ [])) (sym same) (Contains-append_right links (count ∷ []) count (Contains-head count []))
      ])),
    )

    -- an entry that is none
    pub links_same : ¬ (IsEqualityIn set entry) → AreLinksBelow entries set (count + 1) links
    links_same other place = (
      (λ inside. let before = (so_far place).0 inside in (omega (arith, before.0), before.1)),
      (λ (below, link). elim (earlier_or_last place count below) [
        | inl earlier ↦ (so_far place).1 (earlier, link)
        | inr same ↦ absurd (not_last (subst (IsLink entries set) same link))
      ]),
    )
      where
        not_last : IsLink entries set count → ⊥
        not_last (its, its_at, is) = other (subst (IsEqualityIn set) (same_Some its entry (sym its_at ∙ at)) is)

  pub links_all : (count : ℕ) (links : List ℕ) → length entries ≤ count → AreLinksBelow entries set count links → AreAllLinks entries set links
  links_all count links past so_far place = (
    (λ inside. ((so_far place).0 inside).1),
    (λ link. (so_far place).1 (omega (arith, past, slice_get_within entries place link.0 link.1), link)),
  )

-- ---- chains that are found

pub chain_links : (entries : List Entry) (places all : List ℕ) (term other : Term) → ((place : ℕ) → Contains places place → Contains all place)
    → IsChain entries places term other → Linked (IsNamed entries all) term other
chain_links entries [] all term other among same = Linked-is term other same
chain_links entries (place ∷ places) all term other among (next, says, rest) =
    let later = chain_links entries places all next other (λ its inside. among its (Contains-rest place places its inside)) rest in
    elim says [
      | inl claims ↦ along (place, among place (Contains-head place places), claims) later
      | inr claims ↦ back (place, among place (Contains-head place places), claims) later
    ]

module _ (entries : List Entry) (set : List Bool) (term other : Term) where
  pub adds_none : (places : List ℕ) → term ≡ other → AddsChain entries set term other places places
  adds_none places same = record {
    keeps = λ place inside. inside;
    are = λ links. links;
    one = Linked-is term other same;
  }

  pub adds_chain : (chain old new : List ℕ) → IsChainIn entries set term other (Some chain) → new ≡ old ++ chain → AddsChain entries set term other old new
  adds_chain chain old new (are, leads) is = record {
    keeps = λ its inside. subst (λ (it : List ℕ). Contains it its) (sym is) (Contains-append_left old chain its inside);
    are = λ links its inside. elim (Contains-append_cases old chain its (subst (λ (it : List ℕ). Contains it its) is inside)) [
      | inl earlier ↦ links its earlier
      | inr added ↦ are its added
    ];
    one = chain_links entries chain new term other
        (λ its inside. subst (λ (it : List ℕ). Contains it its) (sym is) (Contains-append_right old chain its inside)) leads;
  }

-- ---- what is reached

-- the two sides of an equality
abbrev pub claim_sides : Claim → List Term
claim_sides (Stated fact) = []
claim_sides (Same left right) = left ∷ right ∷ []

-- the sides of all equalities
abbrev pub sides : List Entry → List Term
sides entries = flat_map (λ (entry : Entry). claim_sides entry.claim) entries

module _ (entries : List Entry) (set : List Bool) (first : Term) (reached : List Reached) (are : AreReached entries set first reached) where
  linked_by : (place : ℕ) (term : Term) (by : Option (ℕ × ℕ)) → IsReached entries set first reached place term by
      → ((from : ℕ) (other : Reached) → from < place → slice_get reached from ≡ Some other → Linked (InWorld entries set) first other.term.now)
      → Linked (InWorld entries set) first term
  linked_by place term None same earlier = Linked-is first term same
  linked_by place term (Some by) (less, from, at, says) earlier =
      Linked-then first from.term.now term (earlier by.0 from less at) (one_step entries set by.1 from.term.now term says)

  linked_below : (bound place : ℕ) (it : Reached) → place < bound → slice_get reached place ≡ Some it → Linked (InWorld entries set) first it.term.now
  linked_below zero place it below at = absurd (omega (arith, below))
  linked_below (suc bound) place it below at =
      linked_by place it.term.now it.by (are.each place it at)
      (λ from other less other_at. linked_below bound from other (omega (arith, below, less)) other_at)

  -- what is reached is one with the first term
  pub reached_linked : (term : Term) (place : ℕ) → IsAt reached term place → Linked (InWorld entries set) first term
  reached_linked term place (it, at, is) = subst (Linked (InWorld entries set) first) is (linked_below (suc place) place it (omega arith) at)

  side : (place : ℕ) (term next : Term) → SaysOneIn entries set place term next → Contains (sides entries) next
  side place term next (inl (entry, at, within, is)) =
      Contains-flat (λ (entry : Entry). claim_sides entry.claim) entries entry next (Contains-at entries place entry at)
      (subst (λ (it : Claim). Contains (claim_sides it) next) (sym is) (Contains-rest term (next ∷ []) next (Contains-head next [])))
  side place term next (inr (entry, at, within, is)) =
      Contains-flat (λ (entry : Entry). claim_sides entry.claim) entries entry next (Contains-at entries place entry at)
      (subst (λ (it : Claim). Contains (claim_sides it) next) (sym is) (Contains-head next (term ∷ [])))

  among_by : (place : ℕ) (term : Term) (by : Option (ℕ × ℕ)) → IsReached entries set first reached place term by → Contains (first ∷ sides entries) term
  among_by place term None same = subst (Contains (first ∷ sides entries)) same (Contains-head first (sides entries))
  among_by place term (Some by) (less, from, at, says) = Contains-rest first (sides entries) term (side by.1 from.term.now term says)

  among : (term : Term) → Contains (reached_terms reached) term → Contains (first ∷ sides entries) term
  among term inside =
      let (it, it_inside, is) = Contains-map_from (λ (it : Reached). it.term.now) reached term inside in
      let (place, at) = place-from_Contains reached it it_inside in
      subst (Contains (first ∷ sides entries)) is (among_by place it.term.now it.by (are.each place it at))

  -- no more terms are reached than the first one and the sides of equalities
  pub reached_few : length reached ≤ suc (length (sides entries))
  reached_few =
      omega (arith, no_more_than (reached_terms reached) (first ∷ sides entries) are.distinct among, length-map reached (λ (it : Reached). it.term.now))

-- so a place that is found or not tells whether terms are one
pub told : (entries : List Entry) (set : List Bool) (term other : Term) (reached : List Reached) → AreReached entries set term reached → (found : Option ℕ)
    → MatchOption found (¬ (Linked (InWorld entries set) term other)) (IsAt reached other) → (answer : Bool) → answer ≡ is_some found
    → (answer ≡ true) ↔ Linked (InWorld entries set) term other
told entries set term other reached are None none answer is = ((λ yes. let wrong : false ≡ true = sym is ∙ yes in cc), (λ linked. absurd (none linked)))
told entries set term other reached are (Some place) at answer is =
    ((λ yes. reached_linked entries set term reached are other place at), (λ linked. is))

-- the first one by itself
pub reached_first : (entries : List Entry) (set : List Bool) (first : Term) (it : Reached) → it.term.now ≡ first → it.by ≡ None
    → AreReached entries set first (it ∷ [])
reached_first entries set first it is by = record {
  has_first = subst (Contains (it.term.now ∷ [])) is (Contains-head it.term.now []);
  each = λ place other at. each place other at;
  distinct = λ i j d less within. absurd (omega (arith, less, within));
}
  where
    each : (place : ℕ) (other : Reached) → slice_get (it ∷ []) place ≡ Some other → IsReached entries set first (it ∷ []) place other.term.now other.by
    each zero other at =
        subst (λ (o : Reached). IsReached entries set first (it ∷ []) 0 o.term.now o.by) (same_Some it other at)
        (subst (IsReached entries set first (it ∷ []) 0 it.term.now) (sym by) (sym is))
    each (suc place) other at = absurd (let wrong = at in cc)

pub reached_start : (entries : List Entry) (set : List Bool) (first : Term) (it : Reached) → it.term.now ≡ first → it.by ≡ None → (old new : List Reached)
    → old ≡ [] → new ≡ old ++ it ∷ [] → AreReached entries set first new
reached_start entries set first it is by old new none pushed =
    subst (AreReached entries set first) (sym (pushed ∙ ap (λ (all : List Reached). all ++ it ∷ []) none)) (reached_first entries set first it is by)

-- none of the first ones is the term, and these are all
pub placed_nowhere : (reached : List Reached) (term : Term) (count : ℕ) → length reached ≤ count
    → ((it : Reached) → Contains (take count reached) it → it.term.now ≢ term) → ¬ (Contains (reached_terms reached) term)
placed_nowhere reached term count past apart inside =
    let (it, it_inside, is) = Contains-map_from (λ (it : Reached). it.term.now) reached term inside in
    each_seen (λ (it : Reached). it.term.now ≢ term) reached count past apart it it_inside is

-- whether a term is reached, by a place that is found or not
module _ (reached shown : List Reached) (same : shown ≡ reached) (term : Term) where
  abbrev pub IsPlace : Option ℕ → Type 0
  IsPlace found = MatchOption found (¬ (Contains (reached_terms shown) term)) (IsAt shown term)

  pub place_there : (found : Option ℕ) → IsPlace found → (answer : Bool) → answer ≡ is_some found → answer ≡ true → Contains (reached_terms reached) term
  place_there None none answer is found = absurd (let wrong : false ≡ true = sym is ∙ found in cc)
  place_there (Some place) (it, at, is_term) answer is found =
      subst (λ (all : List Reached). Contains (reached_terms all) term) same
      (subst (Contains (reached_terms shown)) is_term (Contains-map (λ (it : Reached). it.term.now) shown it (Contains-at shown place it at)))

  pub place_nowhere : (found : Option ℕ) → IsPlace found → (answer : Bool) → answer ≡ is_some found → answer ≡ false → ¬ (Contains (reached_terms reached) term)
  place_nowhere None none answer is missed = subst (λ (all : List Reached). ¬ (Contains (reached_terms all) term)) same none
  place_nowhere (Some place) at answer is missed = absurd (let wrong : true ≡ false = sym is ∙ missed in cc)

-- each turn of a walk over what is reached is nearer to its end
pub turn_falls : (entries : List Entry) (set : List Bool) (first : Term) (reached : List Reached) → AreReached entries set first reached → (at : ℕ)
    → at < length reached → suc (length (sides entries)) - (at + 1) < suc (length (sides entries)) - at
turn_falls entries set first reached are at within = omega (arith, reached_few entries set first reached are, within)

-- ---- what is reached grows

module _ (entries : List Entry) (set : List Bool) where
  pub grows_not : (reached : List Reached) → Grows entries set reached reached
  grows_not reached = record { keeps = λ place it at. at; are = λ first are. are }

  pub grows_then : (old mid new : List Reached) → Grows entries set old mid → Grows entries set mid new → Grows entries set old new
  grows_then old mid new one other = record {
    keeps = λ place it at. other.keeps place it (one.keeps place it at);
    are = λ first are. other.are first (one.are first are);
  }

  module _ (old new : List Reached) (grows : Grows entries set old new) where
    terms_kept : (term : Term) → Contains (reached_terms old) term → Contains (reached_terms new) term
    terms_kept term inside =
        let (it, it_inside, is) = Contains-map_from (λ (it : Reached). it.term.now) old term inside in
        let (place, at) = place-from_Contains old it it_inside in
        subst (Contains (reached_terms new)) is
        (Contains-map (λ (it : Reached). it.term.now) new it (Contains-at new place it (grows.keeps place it at)))

    -- what stands at a place of the old ones stands there
    same_there : (place : ℕ) → place < length old → (it : Reached) → slice_get new place ≡ Some it → slice_get old place ≡ Some it
    same_there place there it at =
        let (its, its_at) = thing_at old place there in its_at ∙ ap Some (same_Some its it (sym (grows.keeps place its its_at) ∙ at))

    pub still_there : (place : ℕ) → place < length old → place < length new
    still_there place there = let (its, its_at) = thing_at old place there in slice_get_within new place its (grows.keeps place its its_at)

    pub passed_more : (place link : ℕ) → place < length old → IsPassed entries set old place link → IsPassed entries set new place link
    passed_more place link there passed it next at says = terms_kept next (passed it next (same_there place there it at) says)

    -- one equality more
    pub passed_next : (place : ℕ) (links : List ℕ) (count : ℕ) → place < length old → count < length links
        → IsPassed entries set new place (get_or links count 0)
        → ((link : ℕ) → Contains (take count links) link → IsPassed entries set old place link)
        → (link : ℕ) → Contains (take (count + 1) links) link → IsPassed entries set new place link
    passed_next place links count there within passed so_far link inside =
        elim (Contains-push_cases (take count links) (get_or links count 0) link
        (subst (λ (it : List ℕ). Contains it link) (take_more links count 0 within) inside)) [
          | inl earlier ↦ passed_more place link there (so_far link earlier)
          | inr same ↦ subst (IsPassed entries set new place) same passed
        ]

    -- one term more
    pub passed_turn : (links : List ℕ) (count : ℕ) → count < length old
        → ((link : ℕ) → Contains links link → IsPassed entries set new count link)
        → ((place link : ℕ) → place < count → Contains links link → IsPassed entries set old place link)
        → (place link : ℕ) → place < count + 1 → Contains links link → IsPassed entries set new place link
    passed_turn links count within latest so_far place link below inside = elim (earlier_or_last place count below) [
      | inl earlier ↦ passed_more place link (omega (arith, earlier, within)) (so_far place link earlier inside)
      | inr same ↦ subst (λ (it : ℕ). IsPassed entries set new it link) (sym same) (latest link inside)
    ]

    -- none of the first ones is the other term
    pub apart_more : (other : Term) (count : ℕ) → count < length old → ¬ (Contains (reached_terms old) other)
        → (place : ℕ) (it : Reached) → place < count + 1 → slice_get new place ≡ Some it → it.term.now ≢ other
    apart_more other count within none place it below at is =
        none (subst (Contains (reached_terms old)) is (Contains-map (λ (it : Reached). it.term.now) old it
        (Contains-at old place it (same_there place (omega (arith, below, within)) it at))))

-- ---- one equality from one term

module _ (entries : List Entry) (set : List Bool) (old : List Reached) (from : Reached) (at link : ℕ) (from_at : slice_get old at ≡ Some from)
    (entry : Entry) (entry_at : slice_get entries link ≡ Some entry) where
  -- it leads to what is reached alone
  passed : (reached : List Reached) → slice_get reached at ≡ Some from
      → ((next : Term) → SaysOne entry.claim from.term.now next → Contains (reached_terms reached) next) → IsPassed entries set reached at link
  passed reached its_at each it next it_at says =
      each next (entry_says entries set link entry entry_at from.term.now next
      (subst (λ (o : Reached). SaysOneIn entries set link o.term.now next) (same_Some it from (sym it_at ∙ its_at)) says))

  pub passed_nowhere : ((next : Term) → ¬ (SaysOne entry.claim from.term.now next)) → IsPassed entries set old at link
  passed_nowhere none = passed old from_at (λ next says. absurd (none next says))

  module _ (next : Term) (other : IsOther entry.claim from.term.now next) where
    pub passed_reached : Contains (reached_terms old) next → IsPassed entries set old at link
    passed_reached inside = passed old from_at (λ its says. subst (Contains (reached_terms old)) (sym (other.1 its says)) inside)

    module _ (it : Reached) (is : it.term.now ≡ next) (by : it.by ≡ Some (at, link)) (new : List Reached) (pushed : new ≡ old ++ it ∷ []) where
      keeps : (place : ℕ) (its : Reached) → slice_get old place ≡ Some its → slice_get new place ≡ Some its
      keeps place its its_at = subst (λ (all : List Reached). slice_get all place ≡ Some its) (sym pushed) (at_left old (it ∷ []) place its its_at)

      terms_are : reached_terms new ≡ reached_terms old ++ it.term.now ∷ []
      terms_are = ap reached_terms pushed ∙ map-append (λ (it : Reached). it.term.now) old (it ∷ [])

      pub passed_pushed : IsPassed entries set new at link
      passed_pushed = passed new (keeps at from from_at) (λ its says. subst (λ (all : List Term). Contains all its) (sym terms_are)
          (Contains-append_right (reached_terms old) (it.term.now ∷ []) its
          (subst (Contains (it.term.now ∷ [])) (is ∙ sym (other.1 its says)) (Contains-head it.term.now []))))

      still : (first : Term) (place : ℕ) (term : Term) (way : Option (ℕ × ℕ)) → IsReached entries set first old place term way
          → IsReached entries set first new place term way
      still first place term None same = same
      still first place term (Some way) (less, source, source_at, says) = (less, source, keeps way.0 source source_at, says)

      module _ (within : Within entry.product set) where
        each : (first : Term) → AreReached entries set first old → (place : ℕ) (its : Reached) → slice_get new place ≡ Some its
            → IsReached entries set first new place its.term.now its.by
        each first are place its its_at =
            elim (at_pushed old it place its (subst (λ (all : List Reached). slice_get all place ≡ Some its) pushed its_at)) [
              | inl earlier ↦ still first place its.term.now its.by (are.each place its earlier)
              | inr (last, same) ↦ subst (λ (o : Reached). IsReached entries set first new place o.term.now o.by) same
                  (subst (IsReached entries set first new place it.term.now) (sym by) (
                    omega (arith, last, slice_get_within old at from from_at),
                    from,
                    keeps at from from_at,
                    subst (SaysOneIn entries set link from.term.now) (sym is) (says_in entries set link entry entry_at from.term.now next within other.0),
                  ))
            ]

        pub grows_pushed : ¬ (Contains (reached_terms old) next) → Grows entries set old new
        grows_pushed none = record {
          keeps = keeps;
          are = λ first are. record {
            has_first = subst (λ (all : List Term). Contains all first) (sym terms_are)
                (Contains-append_left (reached_terms old) (it.term.now ∷ []) first are.has_first);
            each = each first are;
            distinct = subst (AllPairs ◌≢◌) (sym terms_are) (all_pairs_push ◌≢◌ (reached_terms old) it.term.now are.distinct
                (λ place default below same. none (subst (Contains (reached_terms old)) (same ∙ is)
                (Contains-get_or (reached_terms old) place default below))));
          };
        }

-- the link's own entry is in the world
pub entry_within : (entries : List Entry) (set : List Bool) (links : List ℕ) → AreAllLinks entries set links → (link : ℕ) → Contains links link
    → (entry : Entry) → slice_get entries link ≡ Some entry → Within entry.product set
entry_within entries set links all link inside entry at = link_within entries set link entry at ((all link).0 inside)

-- ---- all equalities from all terms

module _ (entries : List Entry) (set : List Bool) (links : List ℕ) (reached : List Reached) (all : AreAllLinks entries set links)
    (passed : (place link : ℕ) → place < length reached → Contains links link → IsPassed entries set reached place link) where
  over : (s t : Term) → InWorld entries set (Same s t) ⊎ InWorld entries set (Same t s) → (link : ℕ) × SaysOneIn entries set link s t
  over s t (inl (entry, inside, within, is)) = let (link, at) = place-from_Contains entries entry inside in (link, inl (entry, at, within, is))
  over s t (inr (entry, inside, within, is)) = let (link, at) = place-from_Contains entries entry inside in (link, inr (entry, at, within, is))

  next_reached : (s t : Term) → Contains (reached_terms reached) s → InWorld entries set (Same s t) ⊎ InWorld entries set (Same t s)
      → Contains (reached_terms reached) t
  next_reached s t inside holds =
      let (it, it_inside, is) = Contains-map_from (λ (it : Reached). it.term.now) reached s inside in
      let (place, at) = place-from_Contains reached it it_inside in
      let (link, says) = over s t holds in
      passed place link (slice_get_within reached place it at) ((all link).1 (is_link entries set link s t says)) it t at
      (subst (λ (o : Term). SaysOneIn entries set link o t) (sym is) says)

  linked_reached : (s t : Term) → Contains (reached_terms reached) s → Linked (InWorld entries set) s t → Contains (reached_terms reached) t
  linked_reached s t inside here = inside
  linked_reached s t inside (along holds more) = linked_reached _ t (next_reached s _ inside (inl holds)) more
  linked_reached s t inside (back holds more) = linked_reached _ t (next_reached s _ inside (inr holds)) more

  -- where the other term is not reached in the end, it is not linked
  pub unlinked : (first other : Term) → AreReached entries set first reached
      → ((place : ℕ) (it : Reached) → place < length reached → slice_get reached place ≡ Some it → it.term.now ≢ other)
      → ¬ (Linked (InWorld entries set) first other)
  unlinked first other are apart linked =
      let (it, it_inside, is) = Contains-map_from (λ (it : Reached). it.term.now) reached other (linked_reached first other are.has_first linked) in
      let (place, at) = place-from_Contains reached it it_inside in
      apart place it (slice_get_within reached place it at) at is

-- ---- the chain to a term that is reached

-- the places are those of a chain from the term at the one place to that at the other
abbrev pub LeadsFrom : List Reached → ℕ → ℕ → List ℕ → Type 0
LeadsFrom reached from place chain =
    (entries : List Entry) (set : List Bool) (first : Term) (it own : Reached) → AreReached entries set first reached → slice_get reached place ≡ Some it
    → slice_get reached from ≡ Some own → AreLinks entries set chain × IsChain entries chain own.term.now it.term.now

module _ (reached : List Reached) (place : ℕ) where
  pub leads_nowhere : LeadsFrom reached place place []
  leads_nowhere entries set first it own are at own_at =
      ((λ its inside. absurd (Contains-nil its inside)), ap (λ (o : Reached). o.term.now) (same_Some own it (sym own_at ∙ at)))

  module _ (at : ℕ) (now : Reached) (now_at : slice_get reached at ≡ Some now) (chain : List ℕ) (leads : LeadsFrom reached at place chain) where
    way : (entries : List Entry) (set : List Bool) (first : Term) → AreReached entries set first reached → (by : Option (ℕ × ℕ)) → now.by ≡ by
        → IsReached entries set first reached at now.term.now by
    way entries set first are by is = subst (IsReached entries set first reached at now.term.now) is (are.each at now now_at)

    -- from the term before it
    pub leads_more : (from link : ℕ) → now.by ≡ Some (from, link) → LeadsFrom reached from place (link ∷ chain)
    leads_more from link is entries set first it own are it_at own_at =
        let (less, source, source_at, says) = way entries set first are (Some (from, link)) is in
        let (links, rest) = leads entries set first it now are it_at now_at in (
          (λ its inside. elim (Contains-cases link chain its inside) [
            | inl same ↦ subst (IsLink entries set) same (is_link entries set link source.term.now now.term.now says)
            | inr later ↦ links its later
          ]),
          (
            now.term.now,
            claims_one entries set link own.term.now now.term.now
                (subst (λ (o : Reached). SaysOneIn entries set link o.term.now now.term.now) (same_Some source own (sym source_at ∙ own_at)) says),
            rest,
          ),
        )

    -- from the first one
    pub leads_all : now.by ≡ None → LeadsTo reached place chain
    leads_all is entries set first it are it_at =
        let same = way entries set first are None is in
        let (links, rest) = leads entries set first it now are it_at now_at in
        (links, subst (λ (o : Term). IsChain entries chain o it.term.now) (sym same) rest)

    -- it stands earlier
    pub earlier : (entries : List Entry) (set : List Bool) (first : Term) → AreReached entries set first reached
        → (from link : ℕ) → now.by ≡ Some (from, link) → from < at
    earlier entries set first are from link is = (way entries set first are (Some (from, link)) is).0

-- what leads to where the other term is reached is a chain to it
pub chain_found : (entries : List Entry) (set : List Bool) (term other : Term) (reached shown : List Reached) → shown ≡ reached
    → AreReached entries set term reached → (found : Option ℕ) (place : ℕ) → found ≡ Some place
    → MatchOption found (¬ (Linked (InWorld entries set) term other)) (IsAt reached other) → (chain : List ℕ) → LeadsTo shown place chain
    → IsChainIn entries set term other (Some chain)
chain_found entries set term other reached shown same are found place is at chain leads =
    let (it, it_at, it_is) = subst (λ (o : Option ℕ). MatchOption o (¬ (Linked (InWorld entries set) term other)) (IsAt reached other)) is at in
    subst (λ (o : Term). IsChainIn entries set term o (Some chain)) it_is
    (subst (λ (all : List Reached). LeadsTo all place chain) same leads entries set term it are it_at)
