-- Indexes of claims: a walk along the chain of a key, and what it finds.
use Rattle.std.proofs.Common.{◌≡◌, inl, inr, ℕ, ◌+◌, ◌<◌, ◌≤◌, Bool, true, false, List, [], ◌∷◌, ◌++◌, length, map, take, get_or, Some, slice_get}
use Rattle.std.proofs.Common.{Contains, refl, sym, ap, ◌∙◌, subst, arith, max, min}
use Rattle.std.proofs.lemmas.Bool.{cases_order}
use Rattle.std.proofs.lemmas.List.{map-append, take_all}
use Rattle.std.proofs.lemmas.List.Elements.{Contains-append_left, Contains-append_right}
use Rattle.std.proofs.lemmas.Option.{none-some, slice_get_within, get_or_from_slice_get}
use Rattle.esto_term.specs.declared.term.Term.{Term}
use Rattle.esto_semantics.specs.declared.fact.Fact.{Fact}
use Rattle.esto_term.proofs.ListLemmas.{Contains-at, place-from_Contains, map_at}
use Rattle.esto_term.proofs.PlaceLemmas.{take-item}
use Rattle.esto_columns.specs.Indexed.{Index, IsIndexOf, LeadsOn, AreAmongPlaces, bucket_of, mixed}
use Rattle.esto_columns.specs.Picked.{places_where}
use Rattle.esto_chase_laws.specs.Worlds.{SaysOne}
use Rattle.esto_chase_laws.specs.declared.entry.Claim.{Claim}
use Rattle.esto_chase_laws.specs.declared.entry.Claim.TheVariants.{Fact as Stated, Same}
use Rattle.esto_known.specs.Hashes.{claim_key, first_key, second_key, pair_hash, term_hash, relation_hash}
use Rattle.esto_known.specs.Indexes.{AreKeysOf, HasSide}
use Rattle.esto_known.specs.Groups.{claims_of, StatesAt, LinksAt}
use Rattle.esto_known.specs.declared.group.Group.{Group}
use Rattle.esto_known.specs.declared.keys.Keys.{Keys}
use Rattle.esto_columns.proofs.StoredLemmas.{where_has}

-- ---- one claim more

pub key_more : (key : Claim → List ℕ) (claims : List Claim) (claim : Claim) (own : List ℕ) (index later : Index) → own ≡ key claim
    → IsIndexOf index (map key claims)
    → ((listed : List (List ℕ)) → IsIndexOf index listed → IsIndexOf later (listed ++ own ∷ [])) → IsIndexOf later (map key (claims ++ claim ∷ []))
key_more key claims claim own index later own_is its put =
    subst (IsIndexOf later) (ap (λ it. map key claims ++ it ∷ []) own_is ∙ sym (map-append key claims (claim ∷ []))) (put (map key claims) its)

-- the keys of one group more
pub groups_turn : (groups items : List Group) (place : ℕ) (group : Group) (keys later : Keys) → items ≡ groups → place < length items
    → group ≡ get_or items place group → AreKeysOf keys (claims_of (take place groups))
    → ((claims : List Claim) → AreKeysOf keys claims → AreKeysOf later (claims ++ group.claim ∷ [])) → AreKeysOf later (claims_of (take (place + 1) groups))
groups_turn groups items place group keys later same within is so_far put =
    let more : take (place + 1) groups ≡ take place groups ++ group ∷ [] =
    subst (λ its. take (place + 1) its ≡ take place its ++ group ∷ []) same (take-item items place group within is) in
    subst (AreKeysOf later) (sym (map-append (λ (it : Group). it.claim) (take place groups) (group ∷ [])) ∙ ap claims_of (sym more))
    (put (claims_of (take place groups)) so_far)

pub groups_all : (groups items : List Group) (place : ℕ) (keys : Keys) → items ≡ groups → length items ≤ place → AreKeysOf keys (claims_of (take place groups))
    → AreKeysOf keys (claims_of groups)
groups_all groups items place keys same past so_far =
    subst (λ its. AreKeysOf keys (claims_of its)) (take_all place groups (subst (λ its. length its ≤ place) same past)) so_far

-- ---- a walk along the chain of a key

-- the places of the key of which something holds are below `next`, which leads on along its bucket
pub record Sought (index : Index) (listed : List (List ℕ)) (key : List ℕ) (P : ℕ → Type 0) (next : ℕ) : Type 0 where
  pub own : (place : ℕ) → place + 1 ≡ next → slice_get (map (bucket_of (length index.last)) listed) place ≡ Some (bucket_of (length index.last) key)
  pub left : (place : ℕ) → slice_get listed place ≡ Some key → P place → place < next

pub seek_start : (index : Index) (listed : List (List ℕ)) (key : List ℕ) (P : ℕ → Type 0) (next : ℕ) → IsIndexOf index listed
    → next ≡ get_or index.last (bucket_of (length index.last) key) 0 → Sought index listed key P next
seek_start index listed key P next are is =
    let bucket = bucket_of (length index.last) key in
    let buckets = map (bucket_of (length index.last)) listed in
    let leads : LeadsOn buckets bucket (length buckets) next = subst (LeadsOn buckets bucket (length buckets)) (sym is) (are.last bucket) in record {
      own = leads.own;
      left = λ place at _. let found = map_at (bucket_of (length index.last)) listed place key at in
          leads.past place (slice_get_within buckets place bucket found) found;
    }

pub seek_more : (index : Index) (listed : List (List ℕ)) (key : List ℕ) (P : ℕ → Type 0) (next place then : ℕ) → IsIndexOf index listed
    → Sought index listed key P next → place + 1 ≡ next → (P place → ⊥)
    → (get_or index.before place 0 ≤ place → then ≡ get_or index.before place 0) → Sought index listed key P then
seek_more index listed key P next place then are so_far is other is_then =
    let bucket = bucket_of (length index.last) key in
    let buckets = map (bucket_of (length index.last)) listed in
    let before = are.before place bucket (so_far.own place is) in
    let leads : LeadsOn buckets bucket place then = subst (LeadsOn buckets bucket place) (sym (is_then before.within)) before in record {
      own = leads.own;
      left = λ found at holds. elim (cases_order found place) [
        | inl same ↦ absurd (other (subst P same holds))
        | inr apart ↦ elim apart [
          | inl below ↦ leads.past found below (map_at (bucket_of (length index.last)) listed found key at)
          | inr above ↦ absurd (let under = so_far.left found at holds in omega (arith, under, above, is))
        ]
      ];
    }

-- ---- claims

max_either : (one other : ℕ) → pair_hash one other ≡ pair_hash other one
max_either one other =
    let high : max one other ≡ max other one = omega arith in
    let low : min one other ≡ min other one = omega arith in λ i. mixed (high i) (low i)

says_key : (claim : Claim) (term other : Term) → SaysOne claim term other → claim_key claim ≡ claim_key (Same term other)
says_key claim term other says = elim says [
  | inl is ↦ ap claim_key is
  | inr is ↦ ap claim_key is ∙ ap (λ it. it ∷ []) (max_either (term_hash other) (term_hash term))
]

pub key_at : (key : Claim → List ℕ) (groups : List Group) (place : ℕ) (group : Group) → slice_get groups place ≡ Some group
    → slice_get (map key (claims_of groups)) place ≡ Some (key group.claim)
key_at key groups place group at =
    map_at key (claims_of groups) place group.claim (map_at (λ (it : Group). it.claim) groups place group at)

-- where nothing of the chain is left, no group states the fact
pub stating_none : (groups : List Group) (index : Index) (fact : Fact Term) (next : ℕ) → next ≤ 0
    → Sought index (map claim_key (claims_of groups)) (claim_key (Stated fact)) (StatesAt groups fact) next
    → (group : Group) → Contains groups group → group.claim ≡ Stated fact → ⊥
stating_none groups index fact next none sought group inside is =
    let at = place-from_Contains groups group inside in
    let under = sought.left at.0 (key_at claim_key groups at.0 group at.1 ∙ ap (λ it. Some (claim_key it)) is) (group, at.1, is) in
    omega (arith, none, under)

-- and none links the terms
pub linking_none : (groups : List Group) (index : Index) (term other : Term) (next : ℕ) → next ≤ 0
    → Sought index (map claim_key (claims_of groups)) (claim_key (Same term other)) (LinksAt groups term other) next
    → (group : Group) → Contains groups group → SaysOne group.claim term other → ⊥
linking_none groups index term other next none sought group inside says =
    let at = place-from_Contains groups group inside in
    let under = sought.left at.0 (key_at claim_key groups at.0 group at.1 ∙ ap Some (says_key group.claim term other says)) (group, at.1, says) in
    omega (arith, none, under)

-- ---- places of a key

pub among_has : (key : List ℕ) (listed : List (List ℕ)) (places : List ℕ) (place : ℕ) → AreAmongPlaces key listed places → slice_get listed place ≡ Some key
    → Contains places place
among_has key listed places place (test, passes, are) at = subst (λ its. Contains its place) (sym are)
    (subst (Contains (places_where test 0 listed)) (omega arith) (where_has test 0 listed place key at passes))

none_at : (groups : List Group) (place : ℕ) (group : Group) → groups ≡ [] → slice_get groups place ≡ Some group → ⊥
none_at groups place group none at = none-some group (subst (λ its. slice_get its place ≡ Some group) none at)

-- where the groups are whole, their keys are those of their claims, and else there is no group
module _ (now inside : List Group) (keys : Keys) (whole : Bool) (view : inside ≡ now)
    (kept : (whole ≡ true → AreKeysOf keys (claims_of inside)) × (whole ≡ false → inside ≡ [])) where
  by_keys : (P : Type 0) (place : ℕ) (group : Group) → slice_get now place ≡ Some group
      → (AreKeysOf keys (claims_of inside) → slice_get inside place ≡ Some group → P) → P
  by_keys P place group at goes = by whole refl
    where
      inside_at : slice_get inside place ≡ Some group
      inside_at = subst (λ its. slice_get its place ≡ Some group) (sym view) at

      by : (its : Bool) → whole ≡ its → P
      by true is = goes (kept.0 is) inside_at
      by false is = absurd (none_at inside place group (kept.1 is) inside_at)

  -- what is put after places of a key has all of the key
  abbrev Puts : Index → ℕ → List ℕ → List ℕ → Type 0
  Puts index hash old new =
      (listed : List (List ℕ)) → IsIndexOf index listed → (found : List ℕ) × AreAmongPlaces (hash ∷ []) listed found × (new ≡ old ++ found)

  put_old : (index : Index) (listed : List (List ℕ)) (hash : ℕ) (old new : List ℕ) → IsIndexOf index listed → Puts index hash old new → (place : ℕ)
      → Contains old place → Contains new place
  put_old index listed hash old new is puts place inside = let found = puts listed is in
      subst (λ it. Contains it place) (sym found.2) (Contains-append_left old found.0 place inside)

  put_found : (index : Index) (listed : List (List ℕ)) (hash : ℕ) (old new : List ℕ) → IsIndexOf index listed → Puts index hash old new → (place : ℕ)
      → slice_get listed place ≡ Some (hash ∷ []) → Contains new place
  put_found index listed hash old new is puts place at = let found = puts listed is in
      subst (λ it. Contains it place) (sym found.2) (Contains-append_right old found.0 place (among_has (hash ∷ []) listed found.0 place found.1 at))

  -- the places of the key of a relation have all groups of its facts
  pub relation_found : (relation hash : ℕ) (places : List ℕ) → hash ≡ relation_hash relation → (none : List ℕ) → Puts keys.by_first hash none places
      → (place : ℕ) (group : Group) (fact : Fact Term) → slice_get now place ≡ Some group → group.claim ≡ Stated fact → fact.relation ≡ relation
      → Contains places place
  relation_found relation hash places hash_is none puts place group fact at is same =
      by_keys (Contains places place) place group at (λ own inside_at.
      put_found keys.by_first (map first_key (claims_of inside)) hash none places own.by_first puts place
      (key_at first_key inside place group inside_at ∙ ap (λ it. Some (first_key it)) is
      ∙ ap (λ it. Some (it ∷ [])) (ap relation_hash same ∙ sym hash_is)))

  -- the places of both keys of a term have all groups of equalities with it as a side
  pub sides_found : (term : Term) (hash : ℕ) (firsts places : List ℕ) → hash ≡ term_hash term → (none : List ℕ) → Puts keys.by_first hash none firsts
      → Puts keys.by_second hash firsts places
      → (place : ℕ) (group : Group) → slice_get now place ≡ Some group → HasSide group.claim term → Contains places place
  sides_found term hash firsts places hash_is none puts_first puts_second place group at side =
      by_keys (Contains places place) place group at (λ own inside_at. by own inside_at group.claim refl side)
    where
      by : AreKeysOf keys (claims_of inside) → slice_get inside place ≡ Some group → (claim : Claim) → group.claim ≡ claim → HasSide claim term
          → Contains places place
      by own inside_at (Stated fact) is has = absurd has
      by own inside_at (Same one other) is (inl same) = put_old keys.by_second (map second_key (claims_of inside)) hash firsts places own.by_second
          puts_second place (put_found keys.by_first (map first_key (claims_of inside)) hash none firsts own.by_first puts_first place
          (key_at first_key inside place group inside_at ∙ ap (λ it. Some (first_key it)) is
          ∙ ap (λ it. Some (it ∷ [])) (ap term_hash same ∙ sym hash_is)))
      by own inside_at (Same one other) is (inr same) = put_found keys.by_second (map second_key (claims_of inside)) hash firsts places own.by_second
          puts_second place (key_at second_key inside place group inside_at ∙ ap (λ it. Some (second_key it)) is
          ∙ ap (λ it. Some (it ∷ [])) (ap term_hash same ∙ sym hash_is))

-- what is read at the place that was found is a group that fits
pub found_group : (now inside items : List Group) (place : ℕ) (read : Group) (P : Group → Type 0) → items ≡ inside → inside ≡ now
    → read ≡ get_or inside place read → (found : Group) → slice_get items place ≡ Some found → P found → Contains now read × P read
found_group now inside items place read P items_are inside_is read_is found at fits =
    let inside_at : slice_get inside place ≡ Some found = subst (λ its. slice_get its place ≡ Some found) items_are at in
    let is : found ≡ read = sym (read_is ∙ get_or_from_slice_get inside place found read inside_at) in (
      subst (Contains now) is (Contains-at now place found (subst (λ its. slice_get its place ≡ Some found) inside_is inside_at)),
      subst P is fits,
    )
