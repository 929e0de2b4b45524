-- Places that are picked, part by part.
use Rattle.std.proofs.Common.{◌≡◌, ℕ, suc, ◌+◌, ◌-◌, ◌<◌, ◌≤◌, Bool, true, false, cond, eqb, List, [], ◌∷◌, ◌++◌, length, get_or, take, drop, refl, sym, ap}
use Rattle.std.proofs.Common.{◌∙◌, arith, slice_range, not, map, take-add, inl, inr}
use Rattle.std.proofs.lemmas.List.{append_assoc, append-nil, take_more, take_all, get_or-drop, length-take, length-drop, get_or-take}
use Rattle.std.proofs.lemmas.List.{take-append-le, drop-append-le}
use Rattle.std.proofs.lemmas.Bool.Decides.{eqb_tells, Decides-eqb}
use Rattle.std.proofs.lemmas.Simd.{length-chunk, get_or-chunk, none_from_empty_mask}
use lib.Lanes.{mask_l, chunk}
use Rattle.esto_columns.specs.Picked.{places_of}

pub places-append : (from code : ℕ) (xs ys : List ℕ) → places_of from code (xs ++ ys) ≡ places_of from code xs ++ places_of (from + length xs) code ys
places-append from code [] ys = ap (λ at. places_of at code ys) (omega arith)
places-append from code (x ∷ xs) ys =
    by (eqb x code) (places-append (from + 1) code xs ys ∙ ap (λ at. places_of (from + 1) code xs ++ places_of at code ys) (omega arith))
  where
    by : (answer : Bool) → places_of (from + 1) code (xs ++ ys) ≡ places_of (from + 1) code xs ++ places_of (from + suc (length xs)) code ys
        → cond answer (from ∷ places_of (from + 1) code (xs ++ ys)) (places_of (from + 1) code (xs ++ ys)) ≡ cond answer (from ∷ places_of (from + 1) code xs)
        (places_of (from + 1) code xs) ++ places_of (from + suc (length xs)) code ys
    by true rest = ap (λ them. from ∷ them) rest
    by false rest = rest

pub none_placed : (from code : ℕ) (xs : List ℕ) → ((k : ℕ) → k < length xs → eqb (get_or xs k 0) code ≡ false) → places_of from code xs ≡ []
none_placed from code [] none = refl
none_placed from code (x ∷ xs) none =
    ap (λ answer. cond answer (from ∷ places_of (from + 1) code xs) (places_of (from + 1) code xs)) (none 0 (omega arith))
    ∙ none_placed (from + 1) code xs (λ k below. none (suc k) (omega (arith, below)))

-- one more code of a part
part_more : (codes : List ℕ) (from at : ℕ) → from ≤ at → at < length codes
    → take ((at + 1) - from) (drop from codes) ≡ take (at - from) (drop from codes) ++ get_or codes at 0 ∷ []
part_more codes from at order below =
    let long = length-drop from codes in
    let place : from + (at - from) ≡ at = omega (arith, order) in
    let next : (at + 1) - from ≡ (at - from) + 1 = omega (arith, order) in
    ap (λ n. take n (drop from codes)) next ∙ take_more (drop from codes) (at - from) 0 (omega (arith, long, below, order))
    ∙ ap (λ it. take (at - from) (drop from codes) ++ it ∷ []) (get_or-drop from codes (at - from) 0 ∙ ap (λ it. get_or codes it 0) place)

part_length : (codes : List ℕ) (from at : ℕ) → from ≤ at → at ≤ length codes → length (take (at - from) (drop from codes)) ≡ at - from
part_length codes from at order below = let short = length-take (at - from) (drop from codes) in let long = length-drop from codes in
    omega (arith, short, long, order, below)

pub placed_more : (codes : List ℕ) (from at code : ℕ) → from ≤ at → at < length codes
    → places_of from code (slice_range codes from (at + 1)) ≡ places_of from code (slice_range codes from at)
    ++ cond (eqb (get_or codes at 0) code) (at ∷ []) []
placed_more codes from at code order below =
    ap (places_of from code) (part_more codes from at order below) ∙ places-append from code (take (at - from) (drop from codes)) (get_or codes at 0 ∷ [])
    ∙ ap (λ it. places_of from code (take (at - from) (drop from codes)) ++ cond (eqb (get_or codes at 0) code) (it ∷ []) [])
    (let long = part_length codes from at order (omega (arith, below)) in omega (arith, long, order))

pub placed_none : (codes : List ℕ) (from code : ℕ) → places_of from code (slice_range codes from from) ≡ []
placed_none codes from code = let none : from - from ≡ 0 = omega arith in ap (λ n. places_of from code (take n (drop from codes))) none

-- one more part after the first codes
pub placed_part : (codes : List ℕ) (at to code : ℕ) → at ≤ to → to ≤ length codes
    → places_of 0 code (take to codes) ≡ places_of 0 code (take at codes) ++ places_of at code (slice_range codes at to)
placed_part codes at to code order below =
    let short = length-take at codes in
    let whole : take to codes ≡ take at codes ++ take (to - at) (drop at codes) =
    ap (λ n. take n codes) (let n : to ≡ at + (to - at) = omega (arith, order) in n) ∙ take-add at (to - at) codes in
    let start : 0 + length (take at codes) ≡ at = omega (arith, short, order, below) in
    ap (places_of 0 code) whole ∙ places-append 0 code (take at codes) (take (to - at) (drop at codes))
    ∙ ap (λ n. places_of 0 code (take at codes) ++ places_of n code (take (to - at) (drop at codes))) start

-- ---- lanes

not_false : (b : Bool) → not b ≡ false → b ≡ true
not_false true e = refl
not_false false e = absurd (cc)

-- where the mask of a comparison with the code is empty, the part has no place of it
pub among_none : (codes : List ℕ) (at code mask : ℕ) → at + 8 ≤ length codes → mask ≡ mask_l (map (λ x. eqb x code) (chunk at 8 codes))
    → not (eqb mask 0) ≡ false → places_of at code (slice_range codes at (at + 8)) ≡ []
among_none codes at code mask room is missed =
    let empty : mask_l (map (λ x. eqb x code) (chunk at 8 codes)) ≡ 0 = sym is ∙ (Decides-eqb mask 0).0 (not_false (eqb mask 0) missed) in
    let eight : (at + 8) - at ≡ 8 = omega arith in
    let long = length-chunk at 8 codes room in
    ap (λ n. places_of at code (take n (drop at codes))) eight
    ∙ none_placed at code (chunk at 8 codes) (λ k below. ap (λ it. eqb it code) (get_or-chunk at 8 codes k 0 (omega (arith, below, long)))
    ∙ none_from_empty_mask (λ x. eqb x code) codes at 8 0 room empty (at + k) (omega arith) (omega (arith, below, long)))

-- a code that is larger than all codes stands in no part of them
pub too_large : (codes : List ℕ) (from to code : ℕ) → ((place : ℕ) → get_or codes place 0 < 4294967296) → 4294967295 < code
    → places_of from code (slice_range codes from to) ≡ []
too_large codes from to code fits large = none_placed from code (slice_range codes from to) missed
  where
    missed : (k : ℕ) → k < length (slice_range codes from to) → eqb (get_or (slice_range codes from to) k 0) code ≡ false
    missed k below =
        let cut = length-take (to - from) (drop from codes) in
        let held : get_or (slice_range codes from to) k 0 ≡ get_or codes (from + k) 0 =
        get_or-take (to - from) (drop from codes) k 0 (omega (arith, below, cut)) ∙ get_or-drop from codes k 0 in
        let small = fits (from + k) in
        elim (eqb_tells (get_or codes (from + k) 0) code) [
          | inl same ↦ absurd (let is = same.1 in omega (arith, is, small, large))
          | inr apart ↦ ap (λ it. eqb it code) held ∙ apart.0
        ]

-- where the codes that a column begins with have no place of the code in a part, the column has none there
pub begun_none : (codes column rest : List ℕ) (at end code : ℕ) → end ≡ at + 8 → at + 8 ≤ length codes → column ≡ codes ++ rest
    → places_of at code (slice_range codes at (at + 8)) ≡ [] → places_of at code (slice_range column at end) ≡ []
begun_none codes column rest at end code is inside begins none =
    let long = length-drop at codes in
    ap (λ n. places_of at code (slice_range column at n)) is ∙ ap (λ them. places_of at code (slice_range them at (at + 8))) begins
    ∙ ap (λ them. places_of at code (take ((at + 8) - at) them)) (drop-append-le at codes rest (omega (arith, inside)))
    ∙ ap (places_of at code) (take-append-le ((at + 8) - at) (drop at codes) rest (omega (arith, long, inside)))
    ∙ none

-- ---- turns

pub push_place : (codes : List ℕ) (old now new : List ℕ) (from at code : ℕ) → from ≤ at → at < length codes
    → now ≡ old ++ places_of from code (slice_range codes from at) → new ≡ now ++ cond (eqb (get_or codes at 0) code) (at ∷ []) []
    → new ≡ old ++ places_of from code (slice_range codes from (at + 1))
push_place codes old now new from at code order below so_far is =
    is ∙ ap (λ them. them ++ cond (eqb (get_or codes at 0) code) (at ∷ []) []) so_far
    ∙ append_assoc old (places_of from code (slice_range codes from at)) (cond (eqb (get_or codes at 0) code) (at ∷ []) [])
    ∙ ap (λ them. old ++ them) (sym (placed_more codes from at code order below))

pub pushed_here : (now new : List ℕ) (at held code : ℕ) → held ≡ code → new ≡ now ++ at ∷ [] → new ≡ now ++ cond (eqb held code) (at ∷ []) []
pushed_here now new at held code same is = is ∙ ap (λ answer. now ++ cond answer (at ∷ []) []) (sym ((Decides-eqb held code).1 same))

pub pushed_not : (now : List ℕ) (at held code : ℕ) → (held ≡ code → ⊥) → now ≡ now ++ cond (eqb held code) (at ∷ []) []
pushed_not now at held code apart = by (eqb held code) refl
  where
    by : (answer : Bool) → eqb held code ≡ answer → now ≡ now ++ cond answer (at ∷ []) []
    by true told = absurd (apart ((Decides-eqb held code).0 told))
    by false told = sym (append-nil now)

pub part_joined : (codes old now new : List ℕ) (at to code : ℕ) → at ≤ to → to ≤ length codes → now ≡ old ++ places_of 0 code (take at codes)
    → new ≡ now ++ places_of at code (slice_range codes at to) → new ≡ old ++ places_of 0 code (take to codes)
part_joined codes old now new at to code order below so_far is =
    is ∙ ap (λ them. them ++ places_of at code (slice_range codes at to)) so_far
    ∙ append_assoc old (places_of 0 code (take at codes)) (places_of at code (slice_range codes at to))
    ∙ ap (λ them. old ++ them) (sym (placed_part codes at to code order below))

pub all_joined : (codes old now new : List ℕ) (at count code : ℕ) → at ≤ count → count ≡ length codes → now ≡ old ++ places_of 0 code (take at codes)
    → new ≡ now ++ places_of at code (slice_range codes at count) → new ≡ old ++ places_of 0 code codes
all_joined codes old now new at count code inside long so_far is =
    part_joined codes old now new at count code inside (omega (arith, long)) so_far is
    ∙ ap (λ them. old ++ places_of 0 code them) (take_all count codes (omega (arith, long)))
