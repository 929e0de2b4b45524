-- Matches that are found atom by atom.
use Rattle.std.proofs.Common.{◌≡◌, ◌↔◌, inl, inr, ℕ, ◌+◌, ◌<◌, ◌≤◌, Bool, true, false, is_some, List, [], ◌∷◌, ◌++◌, length, map, slice_get, Option, Some}
use Rattle.std.proofs.Common.{None, Contains, option_map, subst, sym, ap, ◌∙◌, arith}
use Rattle.std.specs.List.{AllZip}
use Rattle.std.proofs.lemmas.List.{append-nil, append_assoc, length-append, length-map}
use Rattle.esto_term.proofs.ListLemmas.{Contains-at}
use Rattle.esto_term.proofs.ZipLemmas.{zip_both, zip_by_places, zip_length}
use Rattle.esto_term.specs.declared.term.Term.{Term}
use Rattle.esto_semantics.specs.Facts.{terms_of}
use Rattle.esto_term.specs.Sets.{Within}
use Rattle.esto_semantics.specs.declared.fact.Fact.{Fact}
use Rattle.esto_chase_laws.proofs.LinkLemmas.{Linked-more}
use Rattle.esto_chase_laws.proofs.TakenLemmas.{Fits-split, Fits-join}
use Rattle.esto_chase_laws.specs.Derived.{IsNamed}
use Rattle.esto_chase_laws.specs.WorldMatches.{taken, Fits}
use Rattle.esto_chase_laws.specs.Worlds.{InWorld, Linked}
use Rattle.esto_chase_laws.specs.declared.entry.Claim.{Claim}
use Rattle.esto_chase_laws.specs.declared.entry.Claim.TheVariants.{Fact as Stated, Same}
use Rattle.esto_chase_laws.specs.declared.entry.Entry.{Entry}
use Rattle.std.proofs.lemmas.Option.{same_Some, slice_get_within}
use Rattle.esto_derive.proofs.MarkLemmas.{same_or_later}
use Rattle.esto_derive.specs.Searching.{GoesOn, IsFound, IsFoundAfter, IsFoundBy, IsFoundIfOne}

-- ---- going on

module _ (Holds : Claim → Type 0) (from to : List Term) (lengths : length from ≡ length to) where
  abbrev One : Term → Term → Type 0
  One = Linked Holds

  -- what goes on with a body does so by a fact for its first atom
  pub goes_first : (atom fact : Fact Term) (rest chosen : List (Fact Term)) → GoesOn Holds from to (atom ∷ rest) (fact ∷ chosen)
      → (Holds (Stated fact) × (fact.relation ≡ atom.relation) × (length fact.terms ≡ length atom.terms))
      × AllZip One fact.terms (map (taken (from ++ atom.terms) (to ++ fact.terms)) atom.terms)
      × GoesOn Holds (from ++ atom.terms) (to ++ fact.terms) rest chosen
  goes_first atom fact rest chosen (are, fits) =
      let both : length (from ++ atom.terms) ≡ length (to ++ fact.terms) = rw (length-append, length-append) (omega (arith, lengths, are.0.2)) in
      let all : length (to ++ (fact.terms ++ terms_of chosen)) ≡ length (map (taken (from ++ (atom.terms ++ terms_of rest)) (to ++
      (fact.terms ++ terms_of chosen))) (from ++ (atom.terms ++ terms_of rest))) =
      zip_length One _ _ fits in
      let left : length (terms_of rest) ≡ length (terms_of chosen) =
      omega (
        arith,
        all,
        lengths,
        are.0.2,
        length-map (from ++ (atom.terms ++ terms_of rest)) (taken (from ++ (atom.terms ++ terms_of rest)) (to ++ (fact.terms ++ terms_of chosen))),
        length-append from (atom.terms ++ terms_of rest),
        length-append atom.terms (terms_of rest),
        length-append to (fact.terms ++ terms_of chosen),
        length-append fact.terms (terms_of chosen),
      ) in
      let whole : Fits One ((from ++ atom.terms) ++ terms_of rest) ((to ++ fact.terms) ++ terms_of chosen) =
      subst (λ (it : List Term). Fits One it ((to ++ fact.terms) ++ terms_of chosen)) (sym (append_assoc from atom.terms (terms_of rest)))
      (subst (λ (it : List Term). Fits One (from ++ (atom.terms ++ terms_of rest)) it) (sym (append_assoc to fact.terms (terms_of chosen))) fits) in
      let parts = Fits-split One (from ++ atom.terms) (to ++ fact.terms) both (terms_of rest) (terms_of chosen) left whole in
      let row = Fits-split One from to lengths atom.terms fact.terms (sym are.0.2) parts.0 in
      (are.0, row.1, (are.1, whole))

  -- and such a fact, with what goes on after it, goes on with the body
  pub goes_more : (atom fact : Fact Term) (rest chosen : List (Fact Term)) → Holds (Stated fact) → fact.relation ≡ atom.relation
      → length fact.terms ≡ length atom.terms → GoesOn Holds (from ++ atom.terms) (to ++ fact.terms) rest chosen
      → GoesOn Holds from to (atom ∷ rest) (fact ∷ chosen)
  goes_more atom fact rest chosen holds relation terms (are, fits) = (
    ((holds, relation, terms), are),
    subst (λ (it : List Term). Fits One it (to ++ (fact.terms ++ terms_of chosen))) (append_assoc from atom.terms (terms_of rest))
        (subst (λ (it : List Term). Fits One ((from ++ atom.terms) ++ terms_of rest) it) (append_assoc to fact.terms (terms_of chosen)) fits),
  )

  pub goes_none : Fits One from to → GoesOn Holds from to [] []
  goes_none fits = (
    tt,
    subst (λ (it : List Term). Fits One it (to ++ [])) (sym (append-nil from)) (subst (λ (it : List Term). Fits One from it) (sym (append-nil to)) fits),
  )

  -- the row that is tested
  pub fits_row : (atom fact : Fact Term) → Fits One from to → AllZip One fact.terms (map (taken (from ++ atom.terms) (to ++ fact.terms)) atom.terms)
      → Fits One (from ++ atom.terms) (to ++ fact.terms)
  fits_row atom fact fits row = Fits-join One from to lengths atom.terms fact.terms fits row

  -- so that longer rows fit where it is right
  pub fits_then : (atom fact : Fact Term) → Fits One from to → (longer met : List Term) → longer ≡ from ++ atom.terms → met ≡ to ++ fact.terms
      → AllZip One fact.terms (map (taken longer met) atom.terms) → Fits One longer met
  fits_then atom fact fits longer met longer_is met_is row =
      subst (λ (it : List Term). Fits One it met) (sym longer_is)
      (subst (Fits One (from ++ atom.terms)) (sym met_is)
      (fits_row atom fact fits (subst (λ (it : List Term). AllZip One fact.terms (map (taken it (to ++ fact.terms)) atom.terms)) longer_is
      (subst (λ (it : List Term). AllZip One fact.terms (map (taken longer it) atom.terms)) met_is row))))

-- ---- found

module _ (entries : List Entry) (set : List Bool) (from to : List Term) (lengths : length from ≡ length to) (atom : Fact Term) (rest : List (Fact Term)) where
  abbrev World : Claim → Type 0
  World = InWorld entries set

  pub unlike : (fact : Fact Term) → ¬ ((fact.relation ≡ atom.relation) × (length fact.terms ≡ length atom.terms))
      → IsFoundAfter entries set from to atom rest fact None
  unlike fact wrong chosen goes = let first = goes_first World from to lengths atom fact rest chosen goes in wrong (first.0.1, first.0.2)

  pub unfit : (fact : Fact Term) → ¬ (AllZip (Linked World) fact.terms (map (taken (from ++ atom.terms) (to ++ fact.terms)) atom.terms))
      → IsFoundAfter entries set from to atom rest fact None
  unfit fact wrong chosen goes = wrong (goes_first World from to lengths atom fact rest chosen goes).1

  pub found_after : (fact : Fact Term) → fact.relation ≡ atom.relation → length fact.terms ≡ length atom.terms
      → (places : Option (List ℕ)) → IsFound entries set (from ++ atom.terms) (to ++ fact.terms) rest places
      → IsFoundAfter entries set from to atom rest fact places
  found_after fact relation terms None none = λ chosen goes. none chosen (goes_first World from to lengths atom fact rest chosen goes).2
  found_after fact relation terms (Some places) (chosen, stated, goes) =
      (chosen, stated, (λ holds. goes_more World from to lengths atom fact rest chosen holds relation terms goes))

  -- where the row is right, what is found for longer rows goes on after it; else nothing does
  pub found_if_one : (fact : Fact Term) → fact.relation ≡ atom.relation → length fact.terms ≡ length atom.terms
      → (places : Option (List ℕ)) (longer met : List Term) → longer ≡ from ++ atom.terms → met ≡ to ++ fact.terms
      → IsFoundIfOne entries set longer met atom.terms fact.terms rest places → IsFoundAfter entries set from to atom rest fact places
  found_if_one fact relation terms places longer met longer_is met_is found =
      elim (subst (λ (it : List Term). IsFoundIfOne entries set it (to ++ fact.terms) atom.terms fact.terms rest places) longer_is
      (subst (λ (it : List Term). IsFoundIfOne entries set longer it atom.terms fact.terms rest places) met_is found)) [
        | inl (row, goes) ↦ found_after fact relation terms places goes
        | inr (wrong, none) ↦ subst (IsFoundAfter entries set from to atom rest fact) (sym none) (unfit fact wrong)
      ]

  -- an entry outside the world, or of an equality, has no fact to go on with
  pub outside : (entry : Entry) → ¬ (Within entry.product set) → IsFoundBy entries set from to atom rest entry None
  outside entry wrong fact chosen within is goes = wrong within

  pub equality_found : (entry : Entry) (left right : Term) → entry.claim ≡ Same left right → IsFoundBy entries set from to atom rest entry None
  equality_found entry left right is fact chosen within states goes = let wrong : Stated fact ≡ Same left right = sym states ∙ is in cc

  pub found_by : (entry : Entry) (place : ℕ) (fact : Fact Term) → slice_get entries place ≡ Some entry → Within entry.product set → entry.claim ≡ Stated fact
      → (places : Option (List ℕ)) → IsFoundAfter entries set from to atom rest fact places
      → IsFoundBy entries set from to atom rest entry (option_map (λ its. place ∷ its) places)
  found_by entry place fact at within is None none = λ other chosen within_too is_too goes.
      none chosen (subst (λ (it : Fact Term). GoesOn World from to (atom ∷ rest) (it ∷ chosen)) (same other is_too) goes)
    where
      same : (other : Fact Term) → entry.claim ≡ Stated other → other ≡ fact
      same other is_too = let both : Stated other ≡ Stated fact = sym is_too ∙ is in cc
  found_by entry place fact at within is (Some places) (chosen, stated, goes) =
      (fact ∷ chosen, ((entry, at, within, is), stated), goes (entry, Contains-at entries place entry at, within, is))

  -- where there are no places, an entry has no such fact
  pub found_nothing : (entry : Entry) (found : Option (List ℕ)) → IsFoundBy entries set from to atom rest entry found → is_some found ≡ false
      → IsFoundBy entries set from to atom rest entry None
  found_nothing entry None is nothing = is
  found_nothing entry (Some places) is nothing = absurd (let wrong : true ≡ false = nothing in cc)

  pub found_something : (entry : Entry) (found : Option (List ℕ)) → IsFoundBy entries set from to atom rest entry found → is_some found ≡ true
      → IsFound entries set from to (atom ∷ rest) found
  found_something entry None is some = absurd (let wrong : false ≡ true = some in cc)
  found_something entry (Some places) is some = is

  -- no entry has such a fact
  pub found_none : ((entry : Entry) → Contains entries entry → IsFoundBy entries set from to atom rest entry None)
      → IsFound entries set from to (atom ∷ rest) None
  found_none none [] (are, fits) = are
  found_none none (fact ∷ chosen) goes =
      let holds : World (Stated fact) = goes.0.0.0 in none holds.0 holds.1 fact chosen holds.2 holds.3 goes

-- ---- places one by one

module _ {X Y : Type 0} (R : X → Y → Type 0) (xs : List X) (ys : List Y) where
  -- the first few are related
  abbrev pub RelatedBelow : ℕ → Type 0
  RelatedBelow count = (place : ℕ) (x : X) (y : Y) → place < count → slice_get xs place ≡ Some x → slice_get ys place ≡ Some y → R x y

  module _ (count : ℕ) (x : X) (y : Y) (at : slice_get xs count ≡ Some x) (at_y : slice_get ys count ≡ Some y) where
    pub related_more : R x y → RelatedBelow count → RelatedBelow (count + 1)
    related_more holds below place one other within at_one at_other = elim (same_or_later place count (omega (arith, within))) [
      | inl same ↦ subst (λ (it : X). R it other) (same_item xs one at_one x (ap (slice_get xs) (sym same) ∙ at))
          (subst (λ (it : Y). R x it) (same_item ys other at_other y (ap (slice_get ys) (sym same) ∙ at_y)) holds)
      | inr later ↦ below place one other (omega (arith, later)) at_one at_other
    ]
      where
        same_item : {Z : Type 0} (items : List Z) (item : Z) → slice_get items place ≡ Some item → (other : Z) → slice_get items place ≡ Some other
            → other ≡ item
        same_item items item is other other_is = same_Some other item (sym other_is ∙ is)

    pub related_not : ¬ (R x y) → ¬ (AllZip R xs ys)
    related_not wrong all = wrong (zip_both R xs ys all count x y at at_y)

  pub related_all : (count : ℕ) → length xs ≡ length ys → length xs ≤ count → RelatedBelow count → AllZip R xs ys
  related_all count lengths past below =
      zip_by_places R xs ys lengths (λ place x y at at_y. below place x y (omega (arith, past, slice_get_within xs place x at)) at at_y)

-- ---- links that are kept

pub named_more : (entries : List Entry) (old new : List ℕ) → ((place : ℕ) → Contains old place → Contains new place) → (s t : Term)
    → Linked (IsNamed entries old) s t → Linked (IsNamed entries new) s t
named_more entries old new keeps = Linked-more (λ claim (place, inside, claims). (place, keeps place inside, claims))

-- ---- the row that is tested

pub row_of : (Holds : Claim → Type 0) (from to terms others from_items to_items items other_items met met_items : List Term) → from_items ≡ from → to_items ≡ to
    → items ≡ terms → other_items ≡ others → met ≡ map (taken from_items to_items) items → met_items ≡ met
    → AllZip (Linked Holds) other_items met_items ↔ AllZip (Linked Holds) others (map (taken from to) terms)
row_of Holds from to terms others from_items to_items items other_items met met_items from_is to_is are others_are met_is met_are = (
  (λ all. subst (λ (it : List Term). AllZip (Linked Holds) it (map (taken from to) terms)) others_are (subst (AllZip (Linked Holds) other_items) same all)),
  (λ all. subst (AllZip (Linked Holds) other_items) (sym same) (subst (λ (it : List Term). AllZip (Linked Holds) it (map (taken from to) terms))
      (sym others_are) all)),
)
  where
    same : met_items ≡ map (taken from to) terms
    same = met_are ∙ met_is ∙ ap (λ (it : List Term). map (taken it to_items) items) from_is ∙ ap (λ (it : List Term). map (taken from it) items) to_is
        ∙ ap (map (taken from to)) are
