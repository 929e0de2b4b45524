-- Rows of texts as rows of codes.
use Rattle.std.proofs.Common.{◌≡◌, ◌⊎◌, inl, inr, ℕ, ◌+◌, ◌<◌, ◌≤◌, List, [], ◌∷◌, ◌++◌, map, length, get_or, set, take, Some, slice_get, Contains, refl, sym}
use Rattle.std.proofs.Common.{ap, ◌∙◌, arith}
use Rattle.std.proofs.lemmas.List.{append-nil, append_assoc, map_push, take_more, length-map, get_or_default, get_or-set_other}
use Rattle.std.proofs.lemmas.Option.{get_or_from_slice_get}
use Rattle.esto_term.proofs.ListLemmas.{at_left}
use Rattle.esto_columns.specs.Interned.{Grows, AreCodesOf, AreCodedRows}

pub grows_by : (old new : List (List ℕ)) (text : List ℕ) (code : ℕ) → (new ≡ old) ⊎ ((new ≡ old ++ text ∷ []) × (code ≡ length old)) → Grows old new
grows_by old new text code grown = elim grown [ inl same ↦ ([], same ∙ sym (append-nil old)) | inr more ↦ (text ∷ [], more.0) ]

pub grows_on : (old mid new : List (List ℕ)) → Grows old mid → Grows mid new → Grows old new
grows_on old mid new first next = (first.0 ++ next.0, next.1 ∙ ap (λ them. them ++ next.0) first.1 ∙ append_assoc old first.0 next.0)

pub codes_grow : (old new : List (List ℕ)) (codes : List ℕ) (row : List (List ℕ)) → Grows old new → AreCodesOf old codes row → AreCodesOf new codes row
codes_grow old new [] [] grown are = refl
codes_grow old new [] (text ∷ row) grown are = absurd (cc)
codes_grow old new (code ∷ codes) [] grown are = absurd (cc)
codes_grow old new (code ∷ codes) (text ∷ row) grown are =
    let here : slice_get old code ≡ Some text = cc in
    let first : slice_get new code ≡ Some text = ap (λ them. slice_get them code) grown.1 ∙ at_left old grown.0 code text here in
    let rest = codes_grow old new codes row grown (cc) in λ i. first i ∷ rest i

pub rows_grow : (old new : List (List ℕ)) (coded : List (List ℕ)) (rows : List (List (List ℕ))) → Grows old new → AreCodedRows old coded rows
    → AreCodedRows new coded rows
rows_grow old new [] [] grown are = refl
rows_grow old new [] (row ∷ rows) grown are = absurd (cc)
rows_grow old new (codes ∷ coded) [] grown are = absurd (cc)
rows_grow old new (codes ∷ coded) (row ∷ rows) grown are =
    let here : map (slice_get old) codes ≡ map Some row = cc in
    let first = codes_grow old new codes row grown here in let rest = rows_grow old new coded rows grown (cc) in λ i. first i ∷ rest i

pub text_turn : (old new : List (List ℕ)) (items : List (List ℕ)) (codes more : List ℕ) (count code : ℕ) (text bytes : List ℕ) → Grows old new
    → count < length items → text ≡ get_or items count text → bytes ≡ text
    → AreCodesOf old codes (take count items) → slice_get new code ≡ Some bytes → more ≡ codes ++ code ∷ [] → AreCodesOf new more (take (count + 1) items)
text_turn old new items codes more count code text bytes grown below is same are found pushed =
    ap (map (slice_get new)) pushed ∙ map_push (slice_get new) codes code
    ∙ (λ i. codes_grow old new codes (take count items) grown are i ++ (found ∙ ap Some (same ∙ is)) i ∷ [])
    ∙ sym (map_push Some (take count items) (get_or items count text))
    ∙ ap (map Some) (sym (take_more items count text below))

-- one more row and its codes
pub row_added : (old new : List (List ℕ)) (coded : List (List ℕ)) (codes : List ℕ) (rows : List (List (List ℕ))) (row : List (List ℕ))
    → Grows old new → AreCodesOf new codes row → AreCodedRows old coded rows → AreCodedRows new (coded ++ codes ∷ []) (rows ++ row ∷ [])
row_added old new coded codes rows row grown own are =
    map_push (λ it. map (slice_get new) it) coded codes ∙ (λ i. rows_grow old new coded rows grown are i ++ own i ∷ [])
    ∙ sym (map_push (λ it. map Some it) rows row)

-- the first rows, and one more
pub row_taken : (items : List (List (List ℕ))) (count : ℕ) (row : List (List ℕ)) → count < length items → row ≡ get_or items count row
    → take count items ++ row ∷ [] ≡ take (count + 1) items
row_taken items count row below is = ap (λ it. take count items ++ it ∷ []) is ∙ sym (take_more items count row below)

pub codes_long : (texts : List (List ℕ)) (codes : List ℕ) (row : List (List ℕ)) → AreCodesOf texts codes row → length codes ≡ length row
codes_long texts codes row are = sym (length-map codes (slice_get texts)) ∙ ap length are ∙ length-map row Some

-- ---- rows that are emptied once they are coded

pub left_row : (rows left : List (List (List ℕ))) (at : ℕ) (row : List (List ℕ)) → at < length rows → slice_get left at ≡ Some row
    → get_or left at [] ≡ get_or rows at [] → row ≡ get_or rows at row
left_row rows left at row below is same = sym (get_or_from_slice_get left at row [] is) ∙ same ∙ get_or_default rows at [] row below

pub left_inside : (rows left : List (List (List ℕ))) (at : ℕ) (row : List (List ℕ)) → at < length rows → slice_get left at ≡ Some row
    → get_or left at [] ≡ get_or rows at [] → Contains rows row
left_inside rows left at row below is same = (at, below, sym (left_row rows left at row below is same))

pub left_after : (rows left new : List (List (List ℕ))) (at : ℕ) → new ≡ set left at []
    → ((place : ℕ) → at ≤ place → get_or left place [] ≡ get_or rows place [])
    → (place : ℕ) → at + 1 ≤ place → get_or new place [] ≡ get_or rows place []
left_after rows left new at is same place past =
    ap (λ them. get_or them place []) is ∙ get_or-set_other left at place [] [] (λ here. omega (arith, here, past)) ∙ same place (omega (arith, past))
