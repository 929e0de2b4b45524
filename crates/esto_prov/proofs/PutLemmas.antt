-- Items that are put at the end of a list, if they were made.
use Rattle.std.specs.Prelude.{◌≡◌, ◌<◌, ◌+◌, ℕ, List, [], ◌∷◌, ◌++◌, Result, Ok, Err, IfOk, IsOkAnd, length, flat_map, map, take}
use Rattle.std.proofs.Common.{append_assoc, ap, ◌∙◌, get_or, sym}
use Rattle.std.proofs.lemmas.List.{flat_map_more, map_more, take_more}

-- what is put has what each item has that was made
pub put_has : {T E : Type 0} (made : Result T E) (P : T → Type 0) (before after : List T) → IfOk made P
    → IsOkAnd made (λ item. after ≡ before ++ item ∷ []) → (item : T) × P item × (after ≡ before ++ item ∷ [])
put_has (Ok item) P before after has put = (item, has, put)
put_has (Err error) P before after has put = absurd put

-- what a loop has put in a list, one for each item, with one more
pub put_more : {X T E : Type 0} (f : X → T) (made : Result T E) (items : List X) (before after : List T) (place : ℕ) (item : X) → place < length items
    → item ≡ get_or items place item → before ≡ map f (take place items) → IfOk made (λ it. it ≡ f item)
    → IsOkAnd made (λ it. after ≡ before ++ it ∷ []) → after ≡ map f (take (place + 1) items)
put_more f made items before after place item within there so_far has put =
    let (own, is, now) = put_has made (λ it. it ≡ f item) before after has put in
    now ∙ ap (λ them. them ++ own ∷ []) so_far ∙ ap (λ it. map f (take place items) ++ it ∷ []) (is ∙ ap f there)
    ∙ sym (map_more f items place item within)

-- the same of copies
pub put_copy : {T E : Type 0} (made : Result T E) (items before after : List T) (place : ℕ) (item : T) → place < length items
    → item ≡ get_or items place item → before ≡ take place items → IfOk made (λ it. it ≡ item)
    → IsOkAnd made (λ it. after ≡ before ++ it ∷ []) → after ≡ take (place + 1) items
put_copy made items before after place item within there so_far has put =
    let (own, is, now) = put_has made (λ it. it ≡ item) before after has put in
    now ∙ ap (λ them. them ++ own ∷ []) so_far ∙ ap (λ it. take place items ++ it ∷ []) (is ∙ there) ∙ sym (take_more items place item within)

-- the same of lists that are put one behind the other
pub put_list : {X Y : Type 0} (f : X → List Y) (items : List X) (before after more : List Y) (place : ℕ) (item : X) → place < length items
    → item ≡ get_or items place item → before ≡ flat_map f (take place items) → more ≡ f item → after ≡ before ++ more
    → after ≡ flat_map f (take (place + 1) items)
put_list f items before after more place item within there so_far its now =
    now ∙ ap (λ them. them ++ more) so_far ∙ ap (λ it. flat_map f (take place items) ++ it) (its ∙ ap f there)
    ∙ flat_map_more f [] (take place items) (get_or items place item) ∙ ap (flat_map f) (sym (take_more items place item within))

-- a copy that is put behind those so far
pub put_behind : {T : Type 0} (items start before after : List T) (place : ℕ) (item own : T) → place < length items → item ≡ get_or items place item
    → before ≡ start ++ take place items → own ≡ item → after ≡ before ++ own ∷ [] → after ≡ start ++ take (place + 1) items
put_behind items start before after place item own within there so_far copy now =
    now ∙ ap (λ them. them ++ own ∷ []) so_far ∙ append_assoc start (take place items) (own ∷ [])
    ∙ ap (λ it. start ++ (take place items ++ it ∷ [])) (copy ∙ there) ∙ ap (λ it. start ++ it) (sym (take_more items place item within))
