-- A row whose names rise has each name once.
use Rattle.std.proofs.Common.{◌≡◌, List, ℕ, sym, ap, subst, ◌∙◌, inl, inr}
use Rattle.std.proofs.lemmas.Bool.{false≢true}
use Rattle.std.proofs.lemmas.Cmp.{nat_list_cmp_total}
use Rattle.std.proofs.lemmas.List.{drop_all}
use Rattle.std.specs.Cmp.Lexicographic.{slice_cmp}
use Rattle.std.specs.Ordering.{nat_cmp, ordering_reverse}
use Rattle.std.specs.declared.cmp.Ordering.TheVariants.{Less, Greater}
use Rattle.esto_docmodel.proofs.Spots.{AreNamedOnce}
use Rattle.esto_docmodel.specs.Forests.{Label, name, place, Forest, none, kid, Node, HasKid}
use Rattle.esto_docmodel.specs.Names.{names_of, rise_from, Rise}
use Rattle.esto_docmodel.specs.Rising.{Precedes, PrecedesRow, IsRising, AreInside}
use Rattle.esto_docmodel.specs.Shapes.{shape, row, named_row, shaped_field}
use Rattle.std.specs.Prelude.{IsTrue}
use Rattle.esto_docmodel.specs.declared.field.FieldOf.{FieldOf}
use Rattle.esto_docmodel.specs.declared.tree.Tree.{Tree}
use Rattle.std.proofs.Common.{Bool, false, cond, zero, suc, [], ◌∷◌, ◌≤◌, length, drop, take, map, refl}
use Rattle.std.specs.Ordering.{is_lt}
use Rattle.std.specs.declared.cmp.Ordering.{Ordering}
use Rattle.std.specs.declared.cmp.Ordering.TheVariants.{Equal}

name_inj : {c d : List ℕ} → name c ≡ name d → c ≡ d
name_inj e = cc

not_itself : (c : List ℕ) → slice_cmp nat_cmp c c ≡ Less → ⊥
not_itself c less =
    let turn : Less ≡ ordering_reverse Less = sym less ∙ nat_list_cmp_total.antisymm c c ∙ ap ordering_reverse less in
    let wrong : Less ≡ Greater = turn in
    cc

above : (c d : List ℕ) (k : Label) → slice_cmp nat_cmp c d ≡ Less → Precedes (name d) k → Precedes (name c) k
above c d (name e) less more = nat_list_cmp_total.trans c d e less more
above c d place less more = more

above_row : (c d : List ℕ) (rest : Forest) → slice_cmp nat_cmp c d ≡ Less → PrecedesRow (name d) rest → PrecedesRow (name c) rest
above_row c d none less more = tt
above_row c d (kid k t i rest) less more = above c d k less more

-- a name before a rising row isn't in it
absent : (c : List ℕ) (rest : Forest) (u : Node) → PrecedesRow (name c) rest → IsRising rest → HasKid rest (name c) u → ⊥
absent c none u before rising h = h
absent c (kid (name d) t i rest) u before rising (inl g) = not_itself c (subst (λ (w : List ℕ). slice_cmp nat_cmp c w ≡ Less) (name_inj g.0) before)
absent c (kid (name d) t i rest) u before rising (inr h) = absent c rest u (above_row c d rest before rising.0) rising.1.1 h
absent c (kid place t i rest) u before rising h = before

once_at : (l : Label) (rest : Forest) → PrecedesRow l rest → IsRising rest → (k : List ℕ) (u : Node) → l ≡ name k → HasKid rest (name k) u → ⊥
once_at l rest before rising k u is h = absent k rest u (subst (λ (w : Label). PrecedesRow w rest) is before) rising h

pub named_once : (f : Forest) → IsRising f → AreNamedOnce f
named_once none rising = tt
named_once (kid l t i rest) rising = (once_at l rest rising.0 rising.1.1, (named_once i rising.1.0, named_once rest rising.1.1))

-- ---- rows of the code's trees

less_of : (o : Ordering) (b : Bool) → IsTrue (cond (is_lt o) b false) → (o ≡ Less) × IsTrue b
less_of Less b h = (refl, h)
less_of Equal b h = absurd (false≢true h)
less_of Greater b h = absurd (false≢true h)

pub rising_fields : (fs : List (FieldOf Tree)) → Rise fs → AreInside (named_row (map shaped_field fs)) → IsRising (named_row (map shaped_field fs))
rising_fields [] rise inside = tt
rising_fields (f ∷ []) rise inside = (tt, (inside.0, tt))
rising_fields (f ∷ g ∷ fs) rise inside =
    let both = less_of (slice_cmp nat_cmp f.name g.name) (rise_from g.name (names_of fs)) rise in
    (both.0, (inside.0, rising_fields (g ∷ fs) both.1 inside.1))

pub rising_items : (ts : List Tree) → AreInside (row (map shape ts)) → IsRising (row (map shape ts))
rising_items [] inside = tt
rising_items (t ∷ []) inside = (tt, (inside.0, tt))
rising_items (t ∷ u ∷ ts) inside = (tt, (inside.0, rising_items (u ∷ ts) inside.1))

pub field_end : (items fields : List (FieldOf Tree)) (i : ℕ) → length items ≤ i → items ≡ fields → Rise items
    → (AreInside (named_row (map shaped_field (drop i items))) → AreInside (named_row (map shaped_field items)))
    → IsRising (named_row (map shaped_field fields))
field_end items fields i past is rise known =
    subst (λ (w : List (FieldOf Tree)). IsRising (named_row (map shaped_field w))) is
    (rising_fields items rise (known (subst (λ (w : List (FieldOf Tree)). AreInside (named_row (map shaped_field w))) (sym (drop_all i items past)) tt)))

pub item_end : (items : List Tree) (i : ℕ) → length items ≤ i → (AreInside (row (map shape (drop i items))) → AreInside (row (map shape items)))
    → IsRising (row (map shape items))
item_end items i past known = rising_items items (known (subst (λ (w : List Tree). AreInside (row (map shape w))) (sym (drop_all i items past)) tt))

-- ---- the first of rising fields

less_in : (o : Ordering) (b : Bool) → o ≡ Less → IsTrue b → IsTrue (cond (is_lt o) b false)
less_in o b is h = subst (λ (w : Ordering). IsTrue (cond (is_lt w) b false)) (sym is) h

rise_from_taken : {X : Type 0} (c : List ℕ) (n : ℕ) (fs : List (FieldOf X)) → IsTrue (rise_from c (names_of fs)) → IsTrue (rise_from c (names_of (take n fs)))
rise_from_taken c zero fs rise = refl
rise_from_taken c (suc n) [] rise = refl
rise_from_taken c (suc n) (f ∷ fs) rise =
    let both = less_of (slice_cmp nat_cmp c f.name) (rise_from f.name (names_of fs)) rise in
    less_in (slice_cmp nat_cmp c f.name) (rise_from f.name (names_of (take n fs))) both.0 (rise_from_taken f.name n fs both.1)

pub rise_taken : {X : Type 0} (n : ℕ) (fs : List (FieldOf X)) → Rise fs → Rise (take n fs)
rise_taken zero fs rise = refl
rise_taken (suc n) [] rise = refl
rise_taken (suc n) (f ∷ fs) rise = rise_from_taken f.name n fs rise
