-- What links ask for.
use Rattle.std.proofs.Common.{◌≡◌, ◌⊎◌, ◌↔◌, ◌<◌, ◌≤◌, ◌+◌, inl, inr, ℕ, Bool, List, [], ◌∷◌, ◌++◌, length, take, get_or, slice_get, Contains, Some, refl}
use Rattle.std.proofs.Common.{sym, ap, ◌∙◌, subst, arith}
use Rattle.std.proofs.lemmas.Bool.{cases_order}
use Rattle.std.proofs.lemmas.List.{take_all}
use Rattle.std.proofs.lemmas.List.Elements.{Contains-append_cases, Contains-append_left, Contains-append_right, Contains-push, Contains-push_cases}
use Rattle.std.proofs.lemmas.Option.{slice_get_within}
use Rattle.esto_term.specs.declared.term.Term.{Term}
use Rattle.esto_semantics.specs.Rules.{Rule}
use Rattle.esto_term.specs.Sets.{Has, Within, Covers, united}
use Rattle.esto_term.proofs.SetLemmas.{has_united, length-united}
use Rattle.esto_term.proofs.ListLemmas.{Contains-nil, Contains-head, Contains-rest, Contains-cases, Contains-at, place-from_Contains}
use Rattle.esto_term.proofs.PlaceLemmas.{take-item, Contains-take, item_at}
use Rattle.esto_semantics.specs.declared.expanded.ExpandedFact.{ExpandedFact}
use Rattle.esto_bits.specs.Kept.{Kept, CoversAlso}
use Rattle.esto_chase_laws.specs.Claims.{AreSameClaim}
use Rattle.esto_chase_laws.specs.Worlds.{InWorld, AreOfCount, SaysOne}
use Rattle.esto_chase_laws.specs.WorldMatches.{Touching}
use Rattle.esto_chase_laws.specs.WorldSteps.{AreJoined}
use Rattle.esto_chase_laws.specs.Derived.{Claims, IsUnion, Follows}
use Rattle.esto_chase_laws.specs.declared.entry.Claim.{Claim}
use Rattle.esto_chase_laws.specs.declared.entry.Claim.TheVariants.{Fact as Stated, Same}
use Rattle.esto_chase_laws.specs.declared.entry.Reason.TheVariants.{Equal}
use Rattle.esto_chase_laws.specs.declared.entry.Entry.{Entry}
use Rattle.esto_chase_laws.proofs.LinkLemmas.{Touching-more}
use Rattle.esto_chase_laws.proofs.GrowLemmas.{InWorld-more}
use Rattle.esto_known.specs.Indexes.{CoversClaim, HasSide}
use Rattle.esto_known.specs.Groups.{IsGroup, AreGroups}
use Rattle.esto_known.specs.declared.group.Group.{Group}
use Rattle.esto_condchase.specs.Rounds.{AsksMore, AreOpen, TellOne, MeetBy, MeetAt, IsUnionMet, IsEndMet, IsLeft, IsSideMet, IsMetWithAll}
use Rattle.esto_known.specs.Added.{IsFollowing}
use Rattle.esto_known.specs.Live.{AreOld}
use Rattle.esto_condchase.proofs.WayLemmas.{IsUnion-more}
use Rattle.esto_condchase.proofs.AskLemmas.{AsksMore-none, AsksMore-then, pushed_asks}
use Rattle.esto_known.proofs.CoverLemmas.{touching_back}

-- ---- claims

pub says_back : (claim : Claim) (term other : Term) → SaysOne claim term other → SaysOne claim other term
says_back claim term other (inl is) = inr is
says_back claim term other (inr is) = inl is

same_says : (claim : Claim) (term other : Term) → AreSameClaim claim (Same term other) → SaysOne claim term other
same_says (Stated fact) term other same = absurd same
same_says (Same left right) term other (inl same) = inl (λ i. Same (same.0 i) (same.1 i))
same_says (Same left right) term other (inr same) = inr (λ i. Same (same.0 i) (same.1 i))

-- a claim that is one with an equality of the terms is one
pub says_alike : (own claim : Claim) (term other : Term) → AreSameClaim own claim → SaysOne claim term other → SaysOne own term other
says_alike own claim term other alike (inl is) = same_says own term other (subst (AreSameClaim own) is alike)
says_alike own claim term other alike (inr is) = says_back own other term (same_says own other term (subst (AreSameClaim own) is alike))

-- and the other way round
pub alike_says : (own claim : Claim) (term other : Term) → AreSameClaim own claim → SaysOne own term other → SaysOne claim term other
alike_says own claim term other alike (inl is) = by claim (subst (λ it. AreSameClaim it claim) is alike)
  where
    by : (its : Claim) → AreSameClaim (Same term other) its → SaysOne its term other
    by (Stated fact) same = absurd same
    by (Same left right) (inl same) = inl (λ i. Same (sym same.0 i) (sym same.1 i))
    by (Same left right) (inr same) = inr (λ i. Same (sym same.1 i) (sym same.0 i))
alike_says own claim term other alike (inr is) = by claim (subst (λ it. AreSameClaim it claim) is alike)
  where
    by : (its : Claim) → AreSameClaim (Same other term) its → SaysOne its term other
    by (Stated fact) same = absurd same
    by (Same left right) (inl same) = inr (λ i. Same (sym same.0 i) (sym same.1 i))
    by (Same left right) (inr same) = inl (λ i. Same (sym same.1 i) (sym same.0 i))

pub says_touching : (entries : List Entry) (entry : Entry) (set : List Bool) (term other : Term) → Contains entries entry → Within entry.product set
    → SaysOne entry.claim term other → Touching (InWorld entries set) term other
says_touching entries entry set term other inside within (inl is) = inr (inl (entry, inside, within, is))
says_touching entries entry set term other inside within (inr is) = inr (inr (entry, inside, within, is))

pub says_side : (claim : Claim) (term other : Term) → SaysOne claim term other → HasSide claim term
says_side claim term other (inl is) = subst (λ it. HasSide it term) (sym is) (inl refl)
says_side claim term other (inr is) = subst (λ it. HasSide it term) (sym is) (inr refl)

pub touching_later : (entries more : List Entry) (set : List Bool) (term other : Term) → Touching (InWorld entries set) term other
    → Touching (InWorld (entries ++ more) set) term other
touching_later entries more set term other it =
    Touching-more (InWorld-more entries (entries ++ more) set (λ entry inside. Contains-append_left entries more entry inside)) term other it

pub touching_kept : (entries more later : List Entry) → ((entry : Entry) → Contains more entry → Contains later entry) → (set : List Bool) (term other : Term)
    → Touching (InWorld (entries ++ more) set) term other → Touching (InWorld (entries ++ later) set) term other
touching_kept entries more later kept set term other it = Touching-more (InWorld-more (entries ++ more) (entries ++ later) set
    (λ entry inside. elim (Contains-append_cases entries more entry inside) [
      | inl here ↦ Contains-append_left entries later entry here
      | inr last ↦ Contains-append_right entries later entry (kept entry last)
    ])) term other it

-- ---- what is known of two terms

pub group_count : (entries : List Entry) (groups : List Group) (group : Group) (it : Kept) (count : ℕ) → it ≡ group.by → AreGroups entries groups
    → Contains groups group → AreOfCount count entries → it.count ≡ count
group_count entries groups group it count is are inside counts = ap (λ (its : Kept). its.count) is ∙ (are.each group inside).counted count counts

pub group_tells : (entries : List Entry) (groups : List Group) (group : Group) (it : Kept) (term other : Term) → it ≡ group.by → AreGroups entries groups
    → Contains groups group → SaysOne group.claim term other → TellOne entries it.sets term other
group_tells entries groups group it term other is are inside says set covers =
    let found = ((are.each group inside).exact set).0 (subst (λ (its : Kept). Covers its.sets set) is covers) in
    says_touching entries found.0 set term other found.1 found.3 (says_alike found.0.claim group.claim term other found.2 says)

-- ---- one union

one_place : (entries : List Entry) (place : ℕ) (entry : Entry) → slice_get entries place ≡ Some entry → IsUnion entries (place ∷ []) entry.product
one_place entries place entry at = record {
  there = λ other inside. elim (Contains-cases place [] other inside) [
    | inl is ↦ subst (λ it. it < length entries) is (slice_get_within entries place entry at)
    | inr none ↦ absurd (Contains-nil other none)
  ];
  exact = λ number. (
    (λ has. (place, entry, Contains-head place [], at, has)),
    (λ (other, its, inside, at_other, has). elim (Contains-cases place [] other inside) [
      | inl is ↦ (let both : Some entry ≡ Some its = sym at ∙ ap (slice_get entries) is ∙ at_other in let same : its ≡ entry = cc in
          subst (λ (it : Entry). Has it.product number) same has)
      | inr none ↦ absurd (Contains-nil other none)
    ]),
  );
}

two_more : (first second other : ℕ) → Contains (first ∷ second ∷ []) other ↔ (Contains (first ∷ []) other ⊎ (second ≡ other))
two_more first second other = (
  (λ inside. elim (Contains-cases first (second ∷ []) other inside) [
    | inl is ↦ inl (subst (Contains (first ∷ [])) is (Contains-head first []))
    | inr later ↦ elim (Contains-cases second [] other later) [ inl is ↦ inr is | inr none ↦ absurd (Contains-nil other none) ]
  ]),
  (λ which. elim which [
    | inl inside ↦ elim (Contains-cases first [] other inside) [
      | inl is ↦ subst (Contains (first ∷ second ∷ [])) is (Contains-head first (second ∷ []))
      | inr none ↦ absurd (Contains-nil other none)
    ]
    | inr is ↦ Contains-rest first (second ∷ []) other (subst (Contains (second ∷ [])) is (Contains-head second []))
  ]),
)

module _ (entries : List Entry) (first second : ℕ) (one two : Entry) (from to : Term) (at : slice_get entries first ≡ Some one)
    (at_other : slice_get entries second ≡ Some two) (meet : MeetBy one.claim two.claim from to) where
  links_there : (place : ℕ) (entry : Entry) (s t : Term) → slice_get entries place ≡ Some entry → SaysOne entry.claim s t
      → Claims entries place (Same s t) ⊎ Claims entries place (Same t s)
  links_there place entry s t read (inl is) = inl (entry, read, is)
  links_there place entry s t read (inr is) = inr (entry, read, is)

  union_follows : (rules : List Rule) (expanded : List ExpandedFact) → Follows expanded rules entries (Same from to) (united one.product two.product)
      (Equal (first ∷ second ∷ []))
  union_follows rules expanded = (
    (λ is. let bad : first ∷ second ∷ [] ≡ [] = is in cc),
    from,
    to,
    refl,
    (
      meet.0,
      links_there first one from meet.0 at meet.1,
      (to, links_there second two meet.0 to at_other meet.2, refl),
    ),
    IsUnion-more entries (first ∷ []) (first ∷ second ∷ []) one.product second two at_other (two_more first second) (one_place entries first one at),
  )

  pub union_count : (count : ℕ) → AreOfCount count entries
      → (length one.product ≡ length two.product) × (length (united one.product two.product) ≡ count)
  union_count count counts =
      let its = counts one (Contains-at entries first one at) in
      let other = counts two (Contains-at entries second two at_other) in
      (its ∙ sym other, length-united one.product two.product (its ∙ sym other) ∙ its)

  -- the entry that is made of them follows
  union_following : (rules : List Rule) (count : ℕ) → AreOfCount count entries → (product : List Bool) → product ≡ united one.product two.product
      → IsFollowing rules count entries (record { claim = Same from to; product = product; reason = Equal (first ∷ second ∷ []) })
  union_following rules count counts product is = record {
    follows = λ expanded. subst (λ it. Follows expanded rules entries (Same from to) it (Equal (first ∷ second ∷ []))) (sym is) (union_follows rules expanded);
    counted = ap length is ∙ (union_count count counts).1;
  }

  -- so that it may be asked for
  pub union_asks : (rules : List Rule) (count : ℕ) → AreOfCount count entries → (product : List Bool) → product ≡ united one.product two.product
      → (more later : List Entry)
      → (later ≡ more) ⊎ (later ≡ more ++ (record { claim = Same from to; product = product; reason = Equal (first ∷ second ∷ []) }) ∷ [])
      → AsksMore rules count entries more later
  union_asks rules count counts product is more later asks = elim asks [
    | inl same ↦ subst (AsksMore rules count entries more) (sym same) (AsksMore-none rules count entries more)
    | inr pushed ↦ pushed_asks rules count entries more later _ pushed (union_following rules count counts product is)
  ]

  union_within : (set : List Bool) → Within one.product set → Within two.product set → Within (united one.product two.product) set
  union_within set within within_too number has = elim ((has_united one.product two.product number).0 has) [
    | inl here ↦ within number here
    | inr there ↦ within_too number there
  ]

  same_at : (place : ℕ) (entry own : Entry) → slice_get entries place ≡ Some entry → slice_get entries place ≡ Some own → entry ≡ own
  same_at place entry own read read_own = let both : Some entry ≡ Some own = sym read ∙ read_own in cc

  -- where sets that tell cover the union, it is met
  pub union_met : (since : ℕ) (new : List Entry) (sets : List (List Bool)) → TellOne new sets from to → Covers sets (united one.product two.product)
      → IsUnionMet entries since new first second from to
  union_met since new sets tell covers own its at_own at_its = inr (λ set within within_too. tell set (
    covers.0,
    covers.1,
    (λ number has. union_within set (subst (λ (it : Entry). Within it.product set) (same_at first own one at_own at) within)
        (subst (λ (it : Entry). Within it.product set) (same_at second its two at_its at_other) within_too) number (covers.2 number has)),
  ))

-- a covered union tells nothing new
pub tell_same : (new : List Entry) (sets with_union : List (List Bool)) (product : List Bool) (from to : Term) → CoversAlso sets product with_union
    → Covers sets product → TellOne new sets from to → TellOne new with_union from to
tell_same new sets with_union product from to also covered tell set covers = elim ((also set).0 covers) [
  | inl before ↦ tell set before
  | inr within ↦ tell set (covered.0, covered.1, λ number has. within number (covered.2 number has))
]

pub covers_itself : (sets with_union : List (List Bool)) (product union : List Bool) → product ≡ union → CoversAlso sets product with_union
    → Covers with_union union
covers_itself sets with_union product union is also = (also union).1 (inr (subst (Within product) is (λ number has. has)))

-- where the places have no entries, nothing is to be met
pub none_met : (entries : List Entry) (since : ℕ) (new : List Entry) (first second : ℕ) (from to : Term)
    → (length entries ≤ first) ⊎ (length entries ≤ second) → IsUnionMet entries since new first second from to
none_met entries since new first second from to past one two at at_other = elim past [
  | inl after ↦ absurd (let below = slice_get_within entries first one at in omega (arith, after, below))
  | inr after ↦ absurd (let below = slice_get_within entries second two at_other in omega (arith, after, below))
]

-- the sets tell still, with the union, for which the entry is asked
pub tell_more : (entries more later : List Entry) (entry : Entry) (sets with_union : List (List Bool)) (product : List Bool) (from to : Term)
    → later ≡ more ++ entry ∷ [] → entry.claim ≡ Same from to → entry.product ≡ product → CoversAlso sets product with_union
    → TellOne (entries ++ more) sets from to → TellOne (entries ++ later) with_union from to
tell_more entries more later entry sets with_union product from to is claim_is product_is also tell set covers = elim ((also set).0 covers) [
  | inl before ↦ touching_kept entries more later
      (λ own inside. subst (λ its. Contains its own) (sym is) (Contains-append_left more (entry ∷ []) own inside)) set from to (tell set before)
  | inr within ↦ inr (inl (
    entry,
    Contains-append_right entries later entry (subst (λ its. Contains its entry) (sym is) (Contains-push more entry)),
    subst (λ it. Within it set) (sym product_is) within,
    claim_is,
  ))
]

pub met_kept : (entries : List Entry) (since : ℕ) (more later : List Entry) (first second : ℕ) (from to : Term)
    → ((entry : Entry) → Contains more entry → Contains later entry)
    → IsUnionMet entries since (entries ++ more) first second from to → IsUnionMet entries since (entries ++ later) first second from to
met_kept entries since more later first second from to kept met one two at at_other = elim (met one two at at_other) [
  | inl early ↦ inl early
  | inr touching ↦ inr (λ set within within_too. touching_kept entries more later kept set from to (touching set within within_too))
]

-- one place more is met
pub met_turn : (entries : List Entry) (since : ℕ) (more later : List Entry) (first : ℕ) (seconds : List ℕ) (at second : ℕ) (from to : Term)
    → at < length seconds → second ≡ get_or seconds at second → ((entry : Entry) → Contains more entry → Contains later entry)
    → ((its : ℕ) → Contains (take at seconds) its → IsUnionMet entries since (entries ++ more) first its from to)
    → IsUnionMet entries since (entries ++ later) first second from to
    → (its : ℕ) → Contains (take (at + 1) seconds) its → IsUnionMet entries since (entries ++ later) first its from to
met_turn entries since more later first seconds at second from to within is kept before here its inside =
    elim (Contains-push_cases (take at seconds) second its (subst (λ it. Contains it its) (take-item seconds at second within is) inside)) [
      | inl earlier ↦ met_kept entries since more later first its from to kept (before its earlier)
      | inr same ↦ subst (λ it. IsUnionMet entries since (entries ++ later) first it from to) same here
    ]

-- one place more is met with each
pub each_turn : (entries : List Entry) (since : ℕ) (more later : List Entry) (firsts seconds : List ℕ) (at first : ℕ) (from to : Term)
    → at < length firsts → first ≡ get_or firsts at first → ((entry : Entry) → Contains more entry → Contains later entry)
    → ((its second : ℕ) → Contains (take at firsts) its → Contains seconds second → IsUnionMet entries since (entries ++ more) its second from to)
    → ((second : ℕ) → Contains seconds second → IsUnionMet entries since (entries ++ later) first second from to)
    → (its second : ℕ) → Contains (take (at + 1) firsts) its → Contains seconds second → IsUnionMet entries since (entries ++ later) its second from to
each_turn entries since more later firsts seconds at first from to within is kept before here its second inside has =
    elim (Contains-push_cases (take at firsts) first its (subst (λ it. Contains it its) (take-item firsts at first within is) inside)) [
      | inl earlier ↦ met_kept entries since more later its second from to kept (before its second earlier has)
      | inr same ↦ subst (λ it. IsUnionMet entries since (entries ++ later) it second from to) same (here second has)
    ]

pub asks_on : (rules : List Rule) (count its : ℕ) (entries one two three : List Entry) → its ≡ count → AsksMore rules count entries one two
    → AsksMore rules its entries two three → AsksMore rules count entries one three
asks_on rules count its entries one two three is first second =
    AsksMore-then rules count entries one two three first (subst (λ it. AsksMore rules it entries two three) is second)

-- ---- places that are open

pub open_none : (entries : List Entry) (sets : List (List Bool)) (open_places : List ℕ) → open_places ≡ [] → AreOpen entries sets [] open_places
open_none entries sets open_places is = record {
  of_given = λ place inside. absurd (Contains-nil place (subst (λ it. Contains it place) is inside));
  others = λ place entry inside. absurd (Contains-nil place inside);
}

module _ (entries : List Entry) (sets : List (List Bool)) (places open_places : List ℕ) (at place : ℕ) (within : at < length places)
    (is : place ≡ get_or places at place) (so_far : AreOpen entries sets (take at places) open_places) where
  pub open_kept : (later : List ℕ) → later ≡ open_places ++ place ∷ [] → AreOpen entries sets (take (at + 1) places) later
  open_kept later later_is = rw (take-item places at place within is) (rw later_is (record {
    of_given = λ own inside. elim (Contains-push_cases open_places place own inside) [
      | inl old ↦ Contains-append_left (take at places) (place ∷ []) own (so_far.of_given own old)
      | inr same ↦ subst (Contains (take at places ++ place ∷ [])) same (Contains-push (take at places) place)
    ];
    others = λ own entry inside own_at. elim (Contains-push_cases (take at places) place own inside) [
      | inl old ↦ elim (so_far.others own entry old own_at) [
        | inl kept ↦ inl (Contains-append_left open_places (place ∷ []) own kept)
        | inr covered ↦ inr covered
      ]
      | inr same ↦ inl (subst (Contains (open_places ++ place ∷ [])) same (Contains-push open_places place))
    ];
  }))

  pub open_dropped : ((entry : Entry) → slice_get entries place ≡ Some entry → Covers sets entry.product)
      → AreOpen entries sets (take (at + 1) places) open_places
  open_dropped covered = rw (take-item places at place within is) (record {
    of_given = λ own inside. Contains-append_left (take at places) (place ∷ []) own (so_far.of_given own inside);
    others = λ own entry inside own_at. elim (Contains-push_cases (take at places) place own inside) [
      | inl old ↦ so_far.others own entry old own_at
      | inr same ↦ inr (covered entry (subst (λ it. slice_get entries it ≡ Some entry) (sym same) own_at))
    ];
  })

pub open_all : (entries : List Entry) (sets : List (List Bool)) (places open_places : List ℕ) (at : ℕ) → length places ≤ at
    → AreOpen entries sets (take at places) open_places → AreOpen entries sets places open_places
open_all entries sets places open_places at past so_far = subst (λ it. AreOpen entries sets it open_places) (take_all at places past) so_far

-- ---- two groups

-- the entries at places of the groups link the terms
pub places_meet : (entries : List Entry) (first second : Group) (from to : Term) → IsGroup entries first → IsGroup entries second
    → MeetBy first.claim second.claim from to → (place other : ℕ) → Contains first.places place → Contains second.places other
    → MeetAt entries place other from to
places_meet entries first second from to is_first is_second meet place other inside inside_too one two at at_other =
    (meet.0, says first place one is_first inside at from meet.0 meet.1, says second other two is_second inside_too at_other meet.0 to meet.2)
  where
    says : (group : Group) (own : ℕ) (entry : Entry) → IsGroup entries group → Contains group.places own → slice_get entries own ≡ Some entry
        → (s t : Term) → SaysOne group.claim s t → SaysOne entry.claim s t
    says group own entry its has read s t it =
        let found = its.claimed own has in
        let both : Some found.0 ≡ Some entry = sym found.1 ∙ read in
        let same : found.0 ≡ entry = cc in
        subst (λ (its_own : Entry). SaysOne its_own.claim s t) same (says_alike found.0.claim group.claim s t found.2 it)

module _ (entries more : List Entry) (since : ℕ) (first second : Group) (from to : Term) (is_first : IsGroup entries first)
    (is_second : IsGroup entries second) (meet : MeetBy first.claim second.claim from to) (before : AreJoined (take since entries) entries)
    (sets : List (List Bool)) (tell : TellOne entries sets from to) (firsts seconds : List ℕ) (open_firsts : AreOpen entries sets first.places firsts)
    (open_seconds : AreOpen entries sets second.places seconds)
    (met : (place other : ℕ) → Contains firsts place → Contains seconds other
    → ((place < since) × (other < since)) ⊎ IsUnionMet entries since (entries ++ more) place other from to) where
  -- a live entry of a claim in the world
  live_at : (group : Group) → IsGroup entries group → (set : List Bool) → CoversClaim entries group.claim set
      → (place : ℕ) × (entry : Entry) × Contains group.places place × (slice_get entries place ≡ Some entry) × Within entry.product set
  live_at group its set (entry, inside, same, within) =
      let at = place-from_Contains entries entry inside in
      let live = its.live at.0 entry at.1 same in
      (live.0, live.3.0, live.1, live.3.1, λ number has. within number (live.3.3 number has))

  closed : (set : List Bool) (entry : Entry) → Covers sets entry.product → Within entry.product set → Touching (InWorld (entries ++ more) set) from to
  closed set entry covers within = touching_later entries more set from to (tell set (covers.0, covers.1, λ number has. within number (covers.2 number has)))

  both_old : (set : List Bool) (place other : ℕ) (one two : Entry) → slice_get entries place ≡ Some one → slice_get entries other ≡ Some two
      → Contains first.places place → Contains second.places other → Within one.product set → Within two.product set → place < since → other < since
      → Touching (InWorld (entries ++ more) set) from to
  both_old set place other one two at at_other inside inside_too within within_too early early_too =
      let links = places_meet entries first second from to is_first is_second meet place other inside inside_too one two at at_other in
      touching_later entries more set from to (before set from links.0 to
      (says_touching (take since entries) one set from links.0 (Contains-take entries since place one early at) within links.1)
      (says_touching (take since entries) two set links.0 to (Contains-take entries since other two early_too at_other) within_too links.2))

  pub groups_met : IsEndMet entries (entries ++ more) first.claim second.claim from to
  groups_met set covers covers_too =
      let one = live_at first is_first set covers in
      let two = live_at second is_second set covers_too in
      elim (open_firsts.others one.0 one.1 one.2 one.3) [
        | inr covered ↦ closed set one.1 covered one.4
        | inl here ↦ elim (open_seconds.others two.0 two.1 two.2 two.3) [
          | inr covered ↦ closed set two.1 covered two.4
          | inl there ↦ elim (met one.0 two.0 here there) [
            | inl early ↦ both_old set one.0 two.0 one.1 two.1 one.3 two.3 one.2 two.2 one.4 two.4 early.0 early.1
            | inr union ↦ elim (union one.1 two.1 one.3 two.3) [
              | inl early ↦ both_old set one.0 two.0 one.1 two.1 one.3 two.3 one.2 two.2 one.4 two.4 early.0 early.1
              | inr touching ↦ touching set one.4 two.4
            ]
          ]
        ]
      ]

-- ---- all groups

pub end_kept : (entries more later : List Entry) (claim other : Claim) (from to : Term) → ((entry : Entry) → Contains more entry → Contains later entry)
    → IsEndMet entries (entries ++ more) claim other from to → IsEndMet entries (entries ++ later) claim other from to
end_kept entries more later claim other from to kept met set covers covers_too =
    touching_kept entries more later kept set from to (met set covers covers_too)

-- a group from both of its sides
pub side_met : (entries one two : List Entry) (since number : ℕ) (claim : Claim) (place : ℕ) (other : Group) (from via left right : Term)
    → other.claim ≡ Same left right → ((entry : Entry) → Contains one entry → Contains two entry)
    → (via ≡ left → IsEndMet entries (entries ++ one) claim other.claim from right)
    → (via ≡ right → IsEndMet entries (entries ++ two) claim other.claim from left)
    → IsSideMet entries since (entries ++ two) number claim place other from via
side_met entries one two since number claim place other from via left right is kept along back = inr (λ to says. by to says)
  where
    by : (to : Term) → SaysOne other.claim via to → IsEndMet entries (entries ++ two) claim other.claim from to
    by to (inl says) =
        let both : Same left right ≡ Same via to = sym is ∙ says in
        let meet : via ≡ left = cc in
        let end : right ≡ to = cc in
        subst (IsEndMet entries (entries ++ two) claim other.claim from) end
        (end_kept entries one two claim other.claim from right kept (along meet))
    by to (inr says) =
        let both : Same left right ≡ Same to via = sym is ∙ says in
        let meet : via ≡ right = cc in
        let end : left ≡ to = cc in
        subst (IsEndMet entries (entries ++ two) claim other.claim from) end (back meet)

pub side_none : (entries : List Entry) (since : ℕ) (new : List Entry) (number : ℕ) (claim : Claim) (place : ℕ) (other : Group) (from via : Term)
    → ((left right : Term) → other.claim ≡ Same left right → ⊥) → IsSideMet entries since new number claim place other from via
side_none entries since new number claim place other from via none = inr (λ to says. absurd (elim says [
  | inl is ↦ none via to is
  | inr is ↦ none to via is
]))

pub side_kept : (entries more later : List Entry) (since number : ℕ) (claim : Claim) (place : ℕ) (other : Group) (from via : Term)
    → ((entry : Entry) → Contains more entry → Contains later entry)
    → IsSideMet entries since (entries ++ more) number claim place other from via
    → IsSideMet entries since (entries ++ later) number claim place other from via
side_kept entries more later since number claim place other from via kept met = elim met [
  | inl left ↦ inl left
  | inr all ↦ inr (λ to says. end_kept entries more later claim other.claim from to kept (all to says))
]

-- one place more is met
pub side_turn : (entries more later : List Entry) (groups : List Group) (since number : ℕ) (claim : Claim) (from via : Term) (places : List ℕ) (at place : ℕ)
    → at < length places → place ≡ get_or places at place → ((entry : Entry) → Contains more entry → Contains later entry)
    → ((its : ℕ) (other : Group) → Contains (take at places) its → slice_get groups its ≡ Some other
    → IsSideMet entries since (entries ++ more) number claim its other from via)
    → ((other : Group) → slice_get groups place ≡ Some other → IsSideMet entries since (entries ++ later) number claim place other from via)
    → (its : ℕ) (other : Group) → Contains (take (at + 1) places) its → slice_get groups its ≡ Some other
    → IsSideMet entries since (entries ++ later) number claim its other from via
side_turn entries more later groups since number claim from via places at place within is kept before here its other inside read =
    elim (Contains-push_cases (take at places) place its (subst (λ it. Contains it its) (take-item places at place within is) inside)) [
      | inl earlier ↦ side_kept entries more later since number claim its other from via kept (before its other earlier read)
      | inr same ↦ subst (λ it. IsSideMet entries since (entries ++ later) number claim it other from via) same
          (here other (subst (λ it. slice_get groups it ≡ Some other) (sym same) read))
    ]

-- the group from both of its sides
pub group_met : (entries one two : List Entry) (groups : List Group) (since number : ℕ) (claim : Claim) (left right : Term) → claim ≡ Same left right
    → ((entry : Entry) → Contains one entry → Contains two entry)
    → ((place : ℕ) (other : Group) → slice_get groups place ≡ Some other → HasSide other.claim right
    → IsSideMet entries since (entries ++ one) number claim place other left right)
    → ((place : ℕ) (other : Group) → slice_get groups place ≡ Some other → HasSide other.claim left
    → IsSideMet entries since (entries ++ two) number claim place other right left)
    → IsMetWithAll entries groups since (entries ++ two) number claim
group_met entries one two groups since number claim left right is kept along back place other at from to (via, says, says_on) = by says
  where
    by : SaysOne claim from via → IsLeft since number place other ⊎ IsEndMet entries (entries ++ two) claim other.claim from to
    by (inl it) =
        let both : Same left right ≡ Same from via = sym is ∙ it in
        let begin : left ≡ from = cc in
        let meet : right ≡ via = cc in
        elim (along place other at (subst (HasSide other.claim) (sym meet) (says_side other.claim via to says_on))) [
          | inl first ↦ inl first
          | inr all ↦ inr (end_kept entries one two claim other.claim from to kept
              (subst (λ its. IsEndMet entries (entries ++ one) claim other.claim its to) begin
              (all to (subst (λ its. SaysOne other.claim its to) (sym meet) says_on))))
        ]
    by (inr it) =
        let both : Same left right ≡ Same via from = sym is ∙ it in
        let begin : right ≡ from = cc in
        let meet : left ≡ via = cc in
        elim (back place other at (subst (HasSide other.claim) (sym meet) (says_side other.claim via to says_on))) [
          | inl first ↦ inl first
          | inr all ↦ inr (subst (λ its. IsEndMet entries (entries ++ two) claim other.claim its to) begin
              (all to (subst (λ its. SaysOne other.claim its to) (sym meet) says_on)))
        ]

pub group_none : (entries : List Entry) (groups : List Group) (since : ℕ) (new : List Entry) (number : ℕ) (claim : Claim)
    → ((left right : Term) → claim ≡ Same left right → ⊥) → IsMetWithAll entries groups since new number claim
group_none entries groups since new number claim none place other at from to meet = absurd (elim meet.1 [
  | inl is ↦ none from meet.0 is
  | inr is ↦ none meet.0 from is
])

pub group_kept : (entries more later : List Entry) (groups : List Group) (since number : ℕ) (claim : Claim)
    → ((entry : Entry) → Contains more entry → Contains later entry)
    → IsMetWithAll entries groups since (entries ++ more) number claim → IsMetWithAll entries groups since (entries ++ later) number claim
group_kept entries more later groups since number claim kept met place other at from to meet = elim (met place other at from to meet) [
  | inl first ↦ inl first
  | inr all ↦ inr (end_kept entries more later claim other.claim from to kept all)
]

-- each group before a place has nothing new, or is met with all
abbrev pub AreMetBefore : List Entry → List Group → ℕ → List Entry → ℕ → Type 0
AreMetBefore entries groups since new bound = (number : ℕ) (first : Group) → number < bound → slice_get groups number ≡ Some first
    → AreOld since first.places ⊎ IsMetWithAll entries groups since new number first.claim

pub met_before_turn : (entries more later : List Entry) (groups items : List Group) (since bound : ℕ) (group : Group) → items ≡ groups
    → bound < length items → group ≡ get_or items bound group → ((entry : Entry) → Contains more entry → Contains later entry)
    → AreMetBefore entries groups since (entries ++ more) bound
    → AreOld since group.places ⊎ IsMetWithAll entries groups since (entries ++ later) bound group.claim
    → AreMetBefore entries groups since (entries ++ later) (bound + 1)
met_before_turn entries more later groups items since bound group same within is kept before here number first below at =
    elim (cases_order number bound) [
      | inl it ↦
          let both : Some group ≡ Some first = sym (subst (λ its. slice_get its bound ≡ Some group) same (item_at items bound group within is))
          ∙ ap (slice_get groups) (sym it) ∙ at in
          let one : group ≡ first = cc in
          subst (λ (its : Group). AreOld since its.places ⊎ IsMetWithAll entries groups since (entries ++ later) number its.claim) one
          (subst (λ its. AreOld since group.places ⊎ IsMetWithAll entries groups since (entries ++ later) its group.claim) (sym it) here)
      | inr apart ↦ elim apart [
        | inl lower ↦ elim (before number first lower at) [
          | inl early ↦ inl early
          | inr met ↦ inr (group_kept entries more later groups since number first.claim kept met)
        ]
        | inr above ↦ absurd (omega (arith, below, above))
      ]
    ]

-- links are joined in each world, where each group has nothing new or is met with all
module _ (entries more : List Entry) (groups : List Group) (since bound : ℕ) (are : AreGroups entries groups) (past : length groups ≤ bound)
    (before : AreJoined (take since entries) entries) (met : AreMetBefore entries groups since (entries ++ more) bound) (atoms : List Bool) where
  -- the group of an equality of the terms in the world
  record Linked (term other : Term) : Type 0 where
    pub number : ℕ
    pub group : Group
    pub at : slice_get groups number ≡ Some group
    pub says : SaysOne group.claim term other
    pub covers : CoversClaim entries group.claim atoms

  link_of : (entry : Entry) (term other : Term) → Contains entries entry → Within entry.product atoms → SaysOne entry.claim term other → Linked term other
  link_of entry term other inside within says =
      let found = are.all entry inside in
      let at = place-from_Contains groups found.0 found.1 in record {
        number = at.0;
        group = found.0;
        at = at.1;
        says = alike_says entry.claim found.0.claim term other found.2 says;
        covers = (entry, inside, found.2, within);
      }

  linked : (term other : Term) → InWorld entries atoms (Same term other) ⊎ InWorld entries atoms (Same other term) → Linked term other
  linked term other (inl (entry, inside, within, is)) = link_of entry term other inside within (inl is)
  linked term other (inr (entry, inside, within, is)) = link_of entry term other inside within (inr is)

  -- a group with nothing new links the terms by the first few entries
  old_link : (term other : Term) (link : Linked term other) → AreOld since link.group.places → Touching (InWorld (take since entries) atoms) term other
  old_link term other link early =
      let its = are.each link.group (Contains-at groups link.number link.group link.at) in
      let at = place-from_Contains entries link.covers.0 link.covers.1 in
      let live = its.live at.0 link.covers.0 at.1 link.covers.2 in
      says_touching (take since entries) live.3.0 atoms term other
      (Contains-take entries since live.0 live.3.0 (early live.0 live.1) live.3.1)
      (λ number has. link.covers.3 number (live.3.3 number has)) (says_alike live.3.0.claim link.group.claim term other live.3.2 link.says)

  by_links : (s t u : Term) → Linked s t → Linked t u → Touching (InWorld (entries ++ more) atoms) s u
  by_links s t u one two =
      elim (met one.number one.group (below one.number one.group one.at) one.at) [
        | inl early ↦ elim (met two.number two.group (below two.number two.group two.at) two.at) [
          | inl early_too ↦ touching_later entries more atoms s u (before atoms s t u (old_link s t one early) (old_link t u two early_too))
          | inr all ↦ elim (back all) [ inl first ↦ absurd (first.1 early) | inr there ↦ there ]
        ]
        | inr all ↦ elim (met two.number two.group (below two.number two.group two.at) two.at) [
          | inl early ↦ elim (along all) [ inl first ↦ absurd (first.1 early) | inr there ↦ there ]
          | inr all_too ↦ elim (along all) [
            | inl first ↦ elim (back all_too) [ inl other ↦ absurd (let a = first.0 in let b = other.0 in omega (arith, a, b)) | inr there ↦ there ]
            | inr there ↦ there
          ]
        ]
      ]
    where
      below : (number : ℕ) (group : Group) → slice_get groups number ≡ Some group → number < bound
      below number group at = let under = slice_get_within groups number group at in omega (arith, under, past)

      along : IsMetWithAll entries groups since (entries ++ more) one.number one.group.claim
          → IsLeft since one.number two.number two.group ⊎ Touching (InWorld (entries ++ more) atoms) s u
      along all = elim (all two.number two.group two.at s u (t, one.says, two.says)) [
        | inl first ↦ inl first
        | inr there ↦ inr (there atoms one.covers two.covers)
      ]

      back : IsMetWithAll entries groups since (entries ++ more) two.number two.group.claim
          → IsLeft since two.number one.number one.group ⊎ Touching (InWorld (entries ++ more) atoms) s u
      back all = elim (all one.number one.group one.at u s (t, says_back two.group.claim t u two.says, says_back one.group.claim s t one.says)) [
        | inl first ↦ inl first
        | inr there ↦ inr (touching_back (InWorld (entries ++ more) atoms) u s (there atoms two.covers one.covers))
      ]

  join_touching : (s t u : Term) → Touching (InWorld entries atoms) s t → Touching (InWorld entries atoms) t u → Touching (InWorld (entries ++ more) atoms) s u
  join_touching s t u (inl is) it =
      subst (λ its. Touching (InWorld (entries ++ more) atoms) its u) (sym is) (touching_later entries more atoms t u it)
  join_touching s t u (inr it) (inl is) = subst (Touching (InWorld (entries ++ more) atoms) s) is (touching_later entries more atoms s t (inr it))
  join_touching s t u (inr it) (inr its) = by_links s t u (linked s t it) (linked t u its)

pub all_joined : (entries more : List Entry) (groups : List Group) (since bound : ℕ) → AreGroups entries groups → length groups ≤ bound
    → AreJoined (take since entries) entries → AreMetBefore entries groups since (entries ++ more) bound → AreJoined entries (entries ++ more)
all_joined entries more groups since bound are past before met atoms s t u one two =
    join_touching entries more groups since bound are past before met atoms s t u one two

-- ---- what the loops keep

-- What is asked for more follows, and so much is met.
pub record AreMetSoFar (count : ℕ) (entries start more : List Entry) (Met : Type 0) : Type 0 where
  pub asks : (rules : List Rule) → AsksMore rules count entries start more
  pub met : Met

-- The same; and the sets, which keep their count, tell that the terms are one.
pub record AreToldSoFar (entries start more : List Entry) (given own : Kept) (from to : Term) (Met : Type 0) : Type 0 where
  pub count : own.count ≡ given.count
  pub tell : TellOne (entries ++ more) own.sets from to
  pub asks : (rules : List Rule) → AsksMore rules given.count entries start more
  pub met : Met
