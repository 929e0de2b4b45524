-- Bodies with the same atoms have the same matches, since a match is by membership; atoms that are taken from a list and put back.
use Rattle.std.proofs.Common.{◌≡◌, ℕ, suc, ◌+◌, ◌<◌, ◌↔◌, ◌++◌, List, ◌∷◌, length, get_or, take, drop, map, Contains, Some, sym, ap, ◌∙◌, inl, inr, arith}
use Rattle.std.specs.List.{slice_get, insert, remove}
use Rattle.std.specs.List.Sorted.{IsPermutation}
use Rattle.std.proofs.lemmas.List.{take_at, drop_at, take-append-drop, drop_more, length-take-le, map-append, take-map, drop-map}
use Rattle.std.proofs.lemmas.List.Edits.{length-remove}
use Rattle.std.proofs.lemmas.List.Sorted.{Contains-permutation, IsPermutation-sym, IsPermutation-remove}
use Rattle.std.proofs.lemmas.Option.{slice_get_within, get_or_from_slice_get}
use Rattle.esto_term.specs.declared.term.Term.{Term}
use Rattle.esto_semantics.specs.Facts.{Mentions}
use Rattle.esto_semantics.specs.Maps.{AreFlat, SendsInto}
use Rattle.esto_semantics.specs.declared.fact.Fact.{Fact}
use Rattle.esto_query.specs.Orders.{HaveSameAtoms}
use Rattle.esto_query.specs.Rows.{AreKnown, IsKnown, IsRow, Adds}
use Rattle.esto_semantics.specs.Valuations.{Assignment}
use Rattle.esto_query.proofs.RowLemmas.{Adds-same}

-- ---- an atom that is taken, and put back

module _ {X : Type 0} (xs : List X) (place : ℕ) (x : X) (at : slice_get xs place ≡ Some x) where
  pub taken_within : place < length xs
  taken_within = slice_get_within xs place x at

  taken_read : x ≡ get_or xs place x
  taken_read = sym (get_or_from_slice_get xs place x x at)

  pub taken_shorter : length (remove xs place) + 1 ≡ length xs
  taken_shorter = length-remove xs place taken_within

  moved : IsPermutation xs (x ∷ remove xs place)
  moved = IsPermutation-remove xs place x taken_within taken_read

  pub taken_same : (other : X) → Contains xs other ↔ Contains (x ∷ remove xs place) other
  taken_same other = (
    λ there. Contains-permutation xs (x ∷ remove xs place) other moved there,
    λ there. Contains-permutation (x ∷ remove xs place) xs other (IsPermutation-sym xs (x ∷ remove xs place) moved) there,
  )

  pub put_back : insert (remove xs place) place x ≡ xs
  put_back =
      let next : suc place ≡ place + 1 = omega arith in
      let long : length (take place xs) ≡ place = length-take-le place xs (omega (arith, taken_within)) in
      ap (λ front. front ++ x ∷ drop place (remove xs place)) (take_at (take place xs) (drop (suc place) xs) place long)
      ∙ ap (λ back. take place xs ++ x ∷ back) (drop_at (take place xs) (drop (suc place) xs) place long)
      ∙ ap (λ one. take place xs ++ one ∷ drop (suc place) xs) taken_read
      ∙ ap (λ next. take place xs ++ get_or xs place x ∷ drop next xs) next
      ∙ ap (λ back. take place xs ++ back) (sym (drop_more xs place x taken_within))
      ∙ take-append-drop place xs

-- the same of what is lent
module _ {X Y : Type 0} (m : X → Y) (xs : List X) (place : ℕ) where
  pub map-remove : map m (remove xs place) ≡ remove (map m xs) place
  map-remove =
      map-append m (take place xs) (drop (suc place) xs) ∙ ap (λ front. front ++ map m (drop (suc place) xs)) (sym (take-map m place xs))
      ∙ ap (λ back. take place (map m xs) ++ back) (sym (drop-map m (suc place) xs))

  pub map-insert : (x : X) → map m (insert xs place x) ≡ insert (map m xs) place (m x)
  map-insert x =
      map-append m (take place xs) (x ∷ drop place xs) ∙ ap (λ front. front ++ m x ∷ map m (drop place xs)) (sym (take-map m place xs))
      ∙ ap (λ back. take place (map m xs) ++ m x ∷ back) (sym (drop-map m place xs))

-- ---- what hangs on the atoms of a body alone

module _ (body other : List (Fact Term)) (same : HaveSameAtoms body other) where
  pub same_mentions : (term : Term) → Mentions body term ↔ Mentions other term
  same_mentions term = (
    λ at. (at.0, (same at.0).0 at.1, at.2),
    λ at. (at.0, (same at.0).1 at.1, at.2),
  )

  pub same_flat : AreFlat body → AreFlat other
  same_flat flat term at = flat term ((same_mentions term).1 at)

  pub same_known : (head : List Term) (known : Assignment) → AreKnown head body known → AreKnown head other known
  same_known head known all term inside = by (all term inside)
    where
      by : IsKnown body known term → IsKnown other known term
      by (inl constant) = inl constant
      by (inr plain) = inr (plain.0, plain.1, elim plain.2 [ inl some ↦ inl some | inr at ↦ inr ((same_mentions term).0 at) ])

  pub same_sends : {V : Type 0} (m : Term → V) (Holds : Fact V → Type 0) → SendsInto m body Holds ↔ SendsInto m other Holds
  same_sends m Holds = (λ sends atom inside. sends atom ((same atom).1 inside), λ sends atom inside. sends atom ((same atom).0 inside))

  pub same_rows : (head : List Term) (facts : List (Fact Term)) (known : Assignment) (old new : List (List Term)) → Adds old new (IsRow head other facts known)
      → Adds old new (IsRow head body facts known)
  same_rows head facts known old new = Adds-same old new (IsRow head other facts known) (IsRow head body facts known) (λ row. (
    λ r. (r.0, r.1, r.2, (same_sends r.0 (Contains facts)).1 r.3, r.4),
    λ r. (r.0, r.1, r.2, (same_sends r.0 (Contains facts)).0 r.3, r.4),
  ))
