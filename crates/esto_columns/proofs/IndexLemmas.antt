-- Indexes of keys, place by place.
use Rattle.std.proofs.Common.{◌≡◌, inl, inr, ℕ, ◌+◌, ◌-◌, ◌<◌, ◌≤◌, Bool, false, cond, eqb, List, [], ◌∷◌, ◌++◌, map, length, get_or, set, take, drop, reverse}
use Rattle.std.proofs.Common.{Some, slice_get, refl, sym, ap, ◌∙◌, subst, arith, slice_range}
use Rattle.std.proofs.lemmas.Bool.Decides.{eqb_tells, Decides-eqb}
use Rattle.std.proofs.lemmas.List.{length-append, length-set, length-take, map-append, append-nil, append_assoc, take_all, take_more, reverse-append}
use Rattle.std.proofs.lemmas.List.{get_or-set_same, get_or-set_other, get_or_append_left, get_or-take, get_or-drop}
use Rattle.std.proofs.lemmas.Option.{slice_get_within, slice_get-get_or, get_or_from_slice_get}
use Rattle.esto_term.proofs.ListLemmas.{at_left, at_end, at_pushed}
use Rattle.esto_columns.specs.Indexed.{Index, LeadsOn, AreChains, IsIndexOf, AreAmongPlaces, with_place, bucket_of}
use Rattle.esto_columns.specs.Picked.{places_of, places_where}
use Rattle.esto_columns.proofs.PickLemmas.{places-append, none_placed, placed_part}

-- ---- chains of one place more

leads_left : (buckets : List ℕ) (more bucket below next : ℕ) → below ≤ length buckets → LeadsOn buckets bucket below next
    → LeadsOn (buckets ++ more ∷ []) bucket below next
leads_left buckets more bucket below next short leads = record {
  within = leads.within;
  own = λ place is. at_left buckets (more ∷ []) place bucket (leads.own place is);
  past = λ place under at. elim (at_pushed buckets more place bucket at) [
    | inl old ↦ leads.past place under old
    | inr last ↦ absurd (let is = last.0 in omega (arith, is, under, short))
  ];
}

-- the place that is put is the last of its bucket
leads_here : (buckets : List ℕ) (bucket : ℕ) → LeadsOn (buckets ++ bucket ∷ []) bucket (length (buckets ++ bucket ∷ [])) (length buckets + 1)
leads_here buckets bucket =
    let long : length (buckets ++ bucket ∷ []) ≡ length buckets + 1 = length-append buckets (bucket ∷ []) in record {
      within = omega (arith, long);
      own = λ place is. let same : place ≡ length buckets = omega (arith, is) in ap (slice_get (buckets ++ bucket ∷ [])) same ∙ at_end buckets bucket;
      past = λ place under at. omega (arith, long, under);
    }

-- and of another bucket the last place stays
leads_beside : (buckets : List ℕ) (put bucket next : ℕ) → (put ≡ bucket → ⊥) → LeadsOn buckets bucket (length buckets) next
    → LeadsOn (buckets ++ put ∷ []) bucket (length (buckets ++ put ∷ [])) next
leads_beside buckets put bucket next other leads =
    let long : length (buckets ++ put ∷ []) ≡ length buckets + 1 = length-append buckets (put ∷ []) in
    let within = leads.within in record {
      within = omega (arith, long, within);
      own = λ place is. at_left buckets (put ∷ []) place bucket (leads.own place is);
      past = λ place under at. elim (at_pushed buckets put place bucket at) [
        | inl old ↦ leads.past place (slice_get_within buckets place bucket old) old
        | inr last ↦ absurd (other last.1)
      ];
    }

pub chains_put : (index : Index) (buckets : List ℕ) (bucket : ℕ) → bucket < length index.last → AreChains index buckets
    → AreChains (with_place index bucket) (buckets ++ bucket ∷ [])
chains_put index buckets bucket inside are = record {
  long = length-append index.before (get_or index.last bucket 0 ∷ []) ∙ ap (λ n. n + 1) are.long ∙ sym (length-append buckets (bucket ∷ []));
  last = λ other. elim (eqb_tells other bucket) [
    | inl same ↦
        let next : length buckets + 1 ≡ get_or (set index.last bucket (length index.before + 1)) other 0 =
        ap (λ n. n + 1) (sym are.long) ∙ sym (get_or-set_same index.last bucket (length index.before + 1) 0 inside)
        ∙ ap (λ n. get_or (set index.last bucket (length index.before + 1)) n 0) (sym same.1) in
        subst (LeadsOn (buckets ++ bucket ∷ []) other (length (buckets ++ bucket ∷ []))) next
        (subst (λ it. LeadsOn (buckets ++ bucket ∷ []) it (length (buckets ++ bucket ∷ [])) (length buckets + 1)) (sym same.1) (leads_here buckets bucket))
    | inr differ ↦
        subst (LeadsOn (buckets ++ bucket ∷ []) other (length (buckets ++ bucket ∷ [])))
        (sym (get_or-set_other index.last bucket other (length index.before + 1) 0 differ.1))
        (leads_beside buckets bucket other (get_or index.last other 0) (λ same. differ.1 (sym same)) (are.last other))
  ];
  before = λ place other at. elim (at_pushed buckets bucket place other at) [
    | inl old ↦
        let under = slice_get_within buckets place other old in let long = are.long in
        subst (LeadsOn (buckets ++ bucket ∷ []) other place)
        (sym (get_or_append_left index.before (get_or index.last bucket 0 ∷ []) 0 place (omega (arith, under, long))))
        (leads_left buckets bucket other place (get_or index.before place 0) (omega (arith, under)) (are.before place other old))
    | inr end ↦ put_before place other end
  ];
}
  where
    put_before : (place other : ℕ) → (place ≡ length buckets) × (bucket ≡ other)
        → LeadsOn (buckets ++ bucket ∷ []) other place (get_or (index.before ++ get_or index.last bucket 0 ∷ []) place 0)
    put_before place other (is, same) =
        let at_the_end : get_or index.last bucket 0 ≡ get_or (index.before ++ get_or index.last bucket 0 ∷ []) place 0 =
        sym (ap (λ n. get_or (index.before ++ get_or index.last bucket 0 ∷ []) n 0) (is ∙ sym are.long)
        ∙ get_or_from_slice_get (index.before ++ get_or index.last bucket 0 ∷ []) (length index.before) (get_or index.last bucket 0) 0
        (at_end index.before (get_or index.last bucket 0))) in
        subst (λ it. LeadsOn (buckets ++ bucket ∷ []) it place (get_or (index.before ++ get_or index.last bucket 0 ∷ []) place 0)) same
        (subst (LeadsOn (buckets ++ bucket ∷ []) bucket place) at_the_end
        (subst (λ n. LeadsOn (buckets ++ bucket ∷ []) bucket n (get_or index.last bucket 0)) (sym is)
        (leads_left buckets bucket bucket (length buckets) (get_or index.last bucket 0) (omega arith) (are.last bucket))))

-- one more key
pub index_put : (index new : Index) (listed : List (List ℕ)) (key : List ℕ) (bucket : ℕ) → bucket ≡ bucket_of (length index.last) key
    → bucket < length index.last → new ≡ with_place index bucket → IsIndexOf index listed → IsIndexOf new (listed ++ key ∷ [])
index_put index new listed key bucket is inside put are =
    let same_count : length new.last ≡ length index.last =
    ap (λ (it : Index). length it.last) put ∙ length-set index.last bucket (length index.before + 1) in
    let more : map (bucket_of (length new.last)) (listed ++ key ∷ []) ≡ map (bucket_of (length index.last)) listed ++ bucket ∷ [] =
    ap (λ count. map (bucket_of count) (listed ++ key ∷ [])) same_count ∙ map-append (bucket_of (length index.last)) listed (key ∷ [])
    ∙ ap (λ it. map (bucket_of (length index.last)) listed ++ it ∷ []) (sym is) in
    subst (AreChains new) (sym more) (subst (λ it. AreChains it (map (bucket_of (length index.last)) listed ++ bucket ∷ [])) (sym put)
    (chains_put index (map (bucket_of (length index.last)) listed) bucket inside are))

-- ---- the places of a chain

-- between two places, none of which is of the bucket, the places stay
places_same : (buckets : List ℕ) (bucket from to : ℕ) → from ≤ to → to ≤ length buckets
    → ((place : ℕ) → from ≤ place → place < to → slice_get buckets place ≡ Some bucket → ⊥)
    → places_of 0 bucket (take to buckets) ≡ places_of 0 bucket (take from buckets)
places_same buckets bucket from to order inside none =
    placed_part buckets from to bucket order inside
    ∙ ap (λ them. places_of 0 bucket (take from buckets) ++ them) (none_placed from bucket (slice_range buckets from to) missed)
    ∙ append-nil (places_of 0 bucket (take from buckets))
  where
    missed : (k : ℕ) → k < length (slice_range buckets from to) → eqb (get_or (slice_range buckets from to) k 0) bucket ≡ false
    missed k below =
        let cut = length-take (to - from) (drop from buckets) in
        let short : k < to - from = omega (arith, below, cut) in
        let held : get_or (slice_range buckets from to) k 0 ≡ get_or buckets (from + k) 0 =
        get_or-take (to - from) (drop from buckets) k 0 short ∙ get_or-drop from buckets k 0 in
        elim (eqb_tells (get_or buckets (from + k) 0) bucket) [
          | inl same ↦ absurd (none (from + k) (omega arith) (omega (arith, short))
              (slice_get-get_or buckets (from + k) 0 (omega (arith, short, inside)) ∙ ap Some same.1))
          | inr apart ↦ ap (λ it. eqb it bucket) held ∙ apart.0
        ]

-- and a place of the bucket comes last
places_more : (buckets : List ℕ) (bucket place : ℕ) → slice_get buckets place ≡ Some bucket
    → places_of 0 bucket (take (place + 1) buckets) ≡ places_of 0 bucket (take place buckets) ++ place ∷ []
places_more buckets bucket place at =
    let within = slice_get_within buckets place bucket at in
    let short = length-take place buckets in
    let start : 0 + length (take place buckets) ≡ place = omega (arith, short, within) in
    ap (places_of 0 bucket) (take_more buckets place bucket within
    ∙ ap (λ it. take place buckets ++ it ∷ []) (get_or_from_slice_get buckets place bucket bucket at))
    ∙ places-append 0 bucket (take place buckets) (bucket ∷ [])
    ∙ ap (λ answer. places_of 0 bucket (take place buckets)
    ++ cond answer ((0 + length (take place buckets)) ∷ []) []) ((Decides-eqb bucket bucket).1 refl)
    ∙ ap (λ it. places_of 0 bucket (take place buckets) ++ it ∷ []) start

-- the place before `next`, if there is one, is of the bucket
abbrev pub OwnsLast : List ℕ → ℕ → ℕ → Type 0
OwnsLast buckets bucket next = (place : ℕ) → place + 1 ≡ next → slice_get buckets place ≡ Some bucket

-- the places below `next` and those that were collected, the last first, are all
pub record Collected (buckets : List ℕ) (bucket next : ℕ) (places : List ℕ) : Type 0 where
  pub own : OwnsLast buckets bucket next
  pub all : places_of 0 bucket (take next buckets) ++ reverse places ≡ places_of 0 bucket buckets

pub collect_start : (buckets : List ℕ) (bucket last : ℕ) → LeadsOn buckets bucket (length buckets) last → Collected buckets bucket last []
collect_start buckets bucket last leads = record {
  own = leads.own;
  all = append-nil (places_of 0 bucket (take last buckets))
      ∙ sym (places_same buckets bucket last (length buckets) leads.within (omega arith)
      (λ place past under at. let below = leads.past place under at in omega (arith, past, below)))
      ∙ ap (places_of 0 bucket) (take_all (length buckets) buckets (omega arith));
}

pub collect_more : (buckets : List ℕ) (bucket next place then : ℕ) (places : List ℕ) → place + 1 ≡ next → LeadsOn buckets bucket place then
    → Collected buckets bucket next places → Collected buckets bucket then (places ++ place ∷ [])
collect_more buckets bucket next place then places is leads so_far =
    let at = so_far.own place is in
    let within = slice_get_within buckets place bucket at in
    record {
      own = leads.own;
      all = ap (λ them. places_of 0 bucket (take then buckets) ++ them) (reverse-append places (place ∷ []))
          ∙ sym (append_assoc (places_of 0 bucket (take then buckets)) (place ∷ []) (reverse places))
          ∙ ap (λ them. (them ++ place ∷ []) ++ reverse places)
          (sym (places_same buckets bucket then place leads.within (omega (arith, within))
          (λ other past under found. let below = leads.past other under found in omega (arith, past, below))))
          ∙ ap (λ them. them ++ reverse places) (sym (places_more buckets bucket place at))
          ∙ ap (λ n. places_of 0 bucket (take n buckets) ++ reverse places) is
          ∙ so_far.all;
    }

pub collect_end : (buckets : List ℕ) (bucket next : ℕ) (places : List ℕ) → next ≤ 0 → Collected buckets bucket next places
    → reverse places ≡ places_of 0 bucket buckets
collect_end buckets bucket next places none so_far =
    let zero_is : 0 ≡ next = omega (arith, none) in ap (λ n. places_of 0 bucket (take n buckets) ++ reverse places) zero_is ∙ so_far.all

-- ---- the places of a key

where_mapped : {X Y : Type 0} (test : Y → Bool) (seen : X → Y) (from : ℕ) (xs : List X)
    → places_where test from (map seen xs) ≡ places_where (λ x. test (seen x)) from xs
where_mapped test seen from [] = refl
where_mapped test seen from (x ∷ xs) =
    ap (λ them. cond (test (seen x)) (from ∷ them) them) (where_mapped test seen (from + 1) xs)

pub among_places : (count : ℕ) (key : List ℕ) (listed : List (List ℕ)) (places : List ℕ)
    → places ≡ places_of 0 (bucket_of count key) (map (bucket_of count) listed) → AreAmongPlaces key listed places
among_places count key listed places are = (
  (λ other. eqb (bucket_of count other) (bucket_of count key)),
  (Decides-eqb (bucket_of count key) (bucket_of count key)).1 refl,
  are ∙ where_mapped (λ bucket. eqb bucket (bucket_of count key)) (bucket_of count) 0 listed,
)
