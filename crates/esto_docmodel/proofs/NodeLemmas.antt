-- Numbers and trees.
use Rattle.std.proofs.Common.{◌≡◌, ◌⊎◌, ℕ, suc, ◌+◌, ◌<◌, ◌≤◌, List, [], ◌∷◌, ◌++◌, Option, Some, None, refl, sym, ap, ◌∙◌, subst, inl, inr, arith, Contains}
use Rattle.std.proofs.lemmas.List.Elements.{Contains-append_left, Contains-append_right, Contains-append_cases}
use Rattle.esto_term.proofs.ListLemmas.{Contains-head, Contains-rest, Contains-cases, Contains-nil}
use Rattle.esto_term.specs.declared.term.Term.{Term}
use Rattle.esto_term.specs.declared.term.Term.TheVariants.{Const, Plain}
use Rattle.esto_docmodel.proofs.Spots.{Spot, spot, At, IsFactOf}
use Rattle.esto_docmodel.specs.DocumentFacts.{DocFact, value, below}
use Rattle.esto_docmodel.specs.Encodings.{size, entering, belows, holding, facts_from}
use Rattle.esto_docmodel.specs.Forests.{Label, Forest, none, kid, Node, node, HasKid, HasInside}

-- ---- the numbers

pub bounds : (a : List ℕ) (n : ℕ) (f : Forest) (s : Spot) → At a n f s → (n ≤ s.number) × (s.number < n + size f)
bounds a n none s h = absurd h
bounds a n (kid l t i rest) s (inl e) = let k : n ≡ s.number = ap (λ (w : Spot). w.number) e in (omega arith, omega arith)
bounds a n (kid l t i rest) s (inr (inl h)) = let b = bounds (n ∷ a) (suc n) i s h in (omega arith, omega arith)
bounds a n (kid l t i rest) s (inr (inr h)) = let b = bounds a (suc n + size i) rest s h in (omega arith, omega arith)

pub unique : (a : List ℕ) (n : ℕ) (f : Forest) (s u : Spot) → At a n f s → At a n f u → s.number ≡ u.number → s ≡ u
unique a n none s u h g e = absurd h
unique a n (kid l t i rest) s u (inl h) (inl g) e = sym h ∙ g
unique a n (kid l t i rest) s u (inl h) (inr (inl g)) e = let k : n ≡ s.number = ap (λ (w : Spot). w.number) h in let b = bounds (n ∷ a) (suc n) i u g in
    absurd (omega arith)
unique a n (kid l t i rest) s u (inl h) (inr (inr g)) e = let k : n ≡ s.number = ap (λ (w : Spot). w.number) h in let b = bounds a (suc n + size i) rest u g in
    absurd (omega arith)
unique a n (kid l t i rest) s u (inr (inl h)) (inl g) e = let k : n ≡ u.number = ap (λ (w : Spot). w.number) g in let b = bounds (n ∷ a) (suc n) i s h in
    absurd (omega arith)
unique a n (kid l t i rest) s u (inr (inl h)) (inr (inl g)) e = unique (n ∷ a) (suc n) i s u h g e
unique a n (kid l t i rest) s u (inr (inl h)) (inr (inr g)) e = let b = bounds (n ∷ a) (suc n) i s h in let d = bounds a (suc n + size i) rest u g in
    absurd (omega arith)
unique a n (kid l t i rest) s u (inr (inr h)) (inl g) e = let k : n ≡ u.number = ap (λ (w : Spot). w.number) g in let b = bounds a (suc n + size i) rest s h in
    absurd (omega arith)
unique a n (kid l t i rest) s u (inr (inr h)) (inr (inl g)) e = let b = bounds (n ∷ a) (suc n) i u g in let d = bounds a (suc n + size i) rest s h in
    absurd (omega arith)
unique a n (kid l t i rest) s u (inr (inr h)) (inr (inr g)) e = unique a (suc n + size i) rest s u h g e

-- ---- from trees to nodes

pub kid_at : (a : List ℕ) (n : ℕ) (f : Forest) (l : Label) (u : Node) → HasKid f l u → (s : Spot) × At a n f s × (s.above ≡ a) × (s.label ≡ l) × (s.here ≡ u)
kid_at a n none l u h = absurd h
kid_at a n (kid k t i rest) l u (inl (e, g)) = (spot a k n (node t i), inl refl, refl, e, g)
kid_at a n (kid k t i rest) l u (inr h) = let r = kid_at a (suc n + size i) rest l u h in (r.0, inr (inr r.1), r.2, r.3, r.4)

pub kid_below : (a : List ℕ) (n : ℕ) (f : Forest) (s : Spot) (l : Label) (u : Node) → At a n f s → HasKid s.here.inside l u
    → (d : Spot) × At a n f d × (d.above ≡ s.number ∷ s.above) × (d.label ≡ l) × (d.here ≡ u)
kid_below a n none s l u h g = absurd h
kid_below a n (kid k t i rest) s l u (inl e) g =
    let here : HasKid i l u = subst (λ (w : Spot). HasKid w.here.inside l u) (sym e) g in
    let r = kid_at (n ∷ a) (suc n) i l u here in
    (r.0, inr (inl r.1), r.2 ∙ ap (λ (w : Spot). w.number ∷ w.above) e, r.3, r.4)
kid_below a n (kid k t i rest) s l u (inr (inl h)) g = let r = kid_below (n ∷ a) (suc n) i s l u h g in (r.0, inr (inl r.1), r.2, r.3, r.4)
kid_below a n (kid k t i rest) s l u (inr (inr h)) g = let r = kid_below a (suc n + size i) rest s l u h g in (r.0, inr (inr r.1), r.2, r.3, r.4)

pub inside_at : (a : List ℕ) (n : ℕ) (f : Forest) (u : Node) → HasInside f u → (s : Spot) × At a n f s × (s.here ≡ u)
inside_at a n none u h = absurd h
inside_at a n (kid k t i rest) u (inl e) = (spot a k n (node t i), inl refl, e)
inside_at a n (kid k t i rest) u (inr (inl h)) = let r = inside_at (n ∷ a) (suc n) i u h in (r.0, inr (inl r.1), r.2)
inside_at a n (kid k t i rest) u (inr (inr h)) = let r = inside_at a (suc n + size i) rest u h in (r.0, inr (inr r.1), r.2)

pub above_kept : (a : List ℕ) (n : ℕ) (f : Forest) (s : Spot) (x : ℕ) → At a n f s → Contains a x → Contains s.above x
above_kept a n none s x h c = absurd h
above_kept a n (kid k t i rest) s x (inl e) c = subst (λ (w : Spot). Contains w.above x) e c
above_kept a n (kid k t i rest) s x (inr (inl h)) c = above_kept (n ∷ a) (suc n) i s x h (Contains-rest n a x c)
above_kept a n (kid k t i rest) s x (inr (inr h)) c = above_kept a (suc n + size i) rest s x h c

pub inside_below : (a : List ℕ) (n : ℕ) (f : Forest) (s : Spot) (u : Node) → At a n f s → HasInside s.here.inside u
    → (d : Spot) × At a n f d × Contains d.above s.number × (d.here ≡ u)
inside_below a n none s u h g = absurd h
inside_below a n (kid k t i rest) s u (inl e) g =
    let here : HasInside i u = subst (λ (w : Spot). HasInside w.here.inside u) (sym e) g in
    let r = inside_at (n ∷ a) (suc n) i u here in
    (r.0, inr (inl r.1), subst (λ (w : Spot). Contains r.0.above w.number) e (above_kept (n ∷ a) (suc n) i r.0 n r.1 (Contains-head n a)), r.2)
inside_below a n (kid k t i rest) s u (inr (inl h)) g = let r = inside_below (n ∷ a) (suc n) i s u h g in (r.0, inr (inl r.1), r.2, r.3)
inside_below a n (kid k t i rest) s u (inr (inr h)) g = let r = inside_below a (suc n + size i) rest s u h g in (r.0, inr (inr r.1), r.2, r.3)

-- ---- from nodes to trees

pub kid_from : (a : List ℕ) (n : ℕ) (f : Forest) (d : Spot) → At a n f d
    → ((d.above ≡ a) × HasKid f d.label d.here) ⊎ ((s : Spot) × At a n f s × (d.above ≡ s.number ∷ s.above) × HasKid s.here.inside d.label d.here)
kid_from a n none d h = absurd h
kid_from a n (kid l t i rest) d (inl e) = inl (sym (ap (λ (w : Spot). w.above) e), inl (ap (λ (w : Spot). w.label) e, ap (λ (w : Spot). w.here) e))
kid_from a n (kid l t i rest) d (inr (inl h)) = elim (kid_from (n ∷ a) (suc n) i d h) [
  | inl g ↦ inr (spot a l n (node t i), inl refl, g.0, g.1)
  | inr g ↦ inr (g.0, inr (inl g.1), g.2, g.3)
]
kid_from a n (kid l t i rest) d (inr (inr h)) = elim (kid_from a (suc n + size i) rest d h) [
  | inl g ↦ inl (g.0, inr g.1)
  | inr g ↦ inr (g.0, inr (inr g.1), g.2, g.3)
]

pub inside_here : (a : List ℕ) (n : ℕ) (f : Forest) (d : Spot) → At a n f d → HasInside f d.here
inside_here a n none d h = absurd h
inside_here a n (kid l t i rest) d (inl e) = inl (ap (λ (w : Spot). w.here) e)
inside_here a n (kid l t i rest) d (inr (inl h)) = inr (inl (inside_here (n ∷ a) (suc n) i d h))
inside_here a n (kid l t i rest) d (inr (inr h)) = inr (inr (inside_here a (suc n + size i) rest d h))

pub inside_from : (a : List ℕ) (n : ℕ) (f : Forest) (d : Spot) (x : ℕ) → At a n f d → Contains d.above x
    → Contains a x ⊎ ((s : Spot) × At a n f s × (s.number ≡ x) × HasInside s.here.inside d.here)
inside_from a n none d x h c = absurd h
inside_from a n (kid l t i rest) d x (inl e) c = inl (subst (λ (w : Spot). Contains w.above x) (sym e) c)
inside_from a n (kid l t i rest) d x (inr (inl h)) c = elim (inside_from (n ∷ a) (suc n) i d x h c) [
  | inl g ↦ elim (Contains-cases n a x g) [
    | inl e ↦ inr (spot a l n (node t i), inl refl, e, inside_here (n ∷ a) (suc n) i d h)
    | inr g ↦ inl g
  ]
  | inr g ↦ inr (g.0, inr (inl g.1), g.2, g.3)
]
inside_from a n (kid l t i rest) d x (inr (inr h)) c = elim (inside_from a (suc n + size i) rest d x h c) [
  | inl g ↦ inl g
  | inr g ↦ inr (g.0, inr (inr g.1), g.2, g.3)
]

-- ---- facts

from_belows : (a : List ℕ) (n : ℕ) (f : DocFact Term) → Contains (belows a n) f → (x : ℕ) × Contains a x × (below (Plain x) (Plain n) ≡ f)
from_belows [] n f c = absurd (Contains-nil f c)
from_belows (p ∷ a) n f c = elim (Contains-append_cases (belows a n) _ f c) [
  | inl d ↦ let r = from_belows a n f d in (r.0, Contains-rest p a r.0 r.1, r.2)
  | inr d ↦ elim (Contains-cases _ [] f d) [ inl e ↦ (p, Contains-head p a, e) | inr z ↦ absurd (Contains-nil f z) ]
]

to_belows : (a : List ℕ) (n x : ℕ) → Contains a x → Contains (belows a n) (below (Plain x) (Plain n))
to_belows [] n x c = absurd (Contains-nil x c)
to_belows (p ∷ a) n x c = elim (Contains-cases p a x c) [
  | inl e ↦ Contains-append_right (belows a n) _ _
      (subst (λ (w : ℕ). Contains (below (Plain w) (Plain n) ∷ []) (below (Plain x) (Plain n))) (sym e) (Contains-head _ []))
  | inr d ↦ Contains-append_left (belows a n) _ _ (to_belows a n x d)
]

from_holding : (t : Option (List ℕ)) (n : ℕ) (f : DocFact Term) → Contains (holding t n) f → (c : List ℕ) × (t ≡ Some c) × (value (Plain n) (Const c) ≡ f)
from_holding None n f c = absurd (Contains-nil f c)
from_holding (Some t) n f c = elim (Contains-cases _ [] f c) [ inl e ↦ (t, refl, e) | inr z ↦ absurd (Contains-nil f z) ]

to_holding : (t : Option (List ℕ)) (n : ℕ) (c : List ℕ) → t ≡ Some c → Contains (holding t n) (value (Plain n) (Const c))
to_holding t n c e = subst (λ (w : Option (List ℕ)). Contains (holding w n) (value (Plain n) (Const c))) (sym e) (Contains-head _ [])

pub from_facts : (a : List ℕ) (n : ℕ) (fs : Forest) (f : DocFact Term) → Contains (facts_from a n fs) f → (s : Spot) × At a n fs s × IsFactOf s f
from_facts a n none f c = absurd (Contains-nil f c)
from_facts a n (kid l t i rest) f c = elim (Contains-cases _ _ f c) [
  | inl e ↦ (spot a l n (node t i), inl refl, inl e)
  | inr c1 ↦ elim (Contains-append_cases (belows a n) _ f c1) [
    | inl d ↦ (spot a l n (node t i), inl refl, inr (inl (from_belows a n f d)))
    | inr c2 ↦ elim (Contains-append_cases (holding t n) _ f c2) [
      | inl d ↦ (spot a l n (node t i), inl refl, inr (inr (from_holding t n f d)))
      | inr c3 ↦ elim (Contains-append_cases (facts_from (n ∷ a) (suc n) i) _ f c3) [
        | inl d ↦ let r = from_facts (n ∷ a) (suc n) i f d in (r.0, inr (inl r.1), r.2)
        | inr d ↦ let r = from_facts a (suc n + size i) rest f d in (r.0, inr (inr r.1), r.2)
      ]
    ]
  ]
]

own_facts : (a : List ℕ) (l : Label) (n : ℕ) (t : Option (List ℕ)) (i : Forest) (others : List (DocFact Term)) (f : DocFact Term)
    → IsFactOf (spot a l n (node t i)) f → Contains (entering a l n ∷ (belows a n ++ (holding t n ++ others))) f
own_facts a l n t i others f (inl e) = subst (λ (w : DocFact Term). Contains (entering a l n ∷ (belows a n ++ (holding t n ++ others))) w) e (Contains-head _ _)
own_facts a l n t i others f (inr (inl (x, c, e))) =
    Contains-rest _ _ f (Contains-append_left (belows a n) _ f (subst (λ (w : DocFact Term). Contains (belows a n) w) e (to_belows a n x c)))
own_facts a l n t i others f (inr (inr (c, g, e))) =
    Contains-rest _ _ f (Contains-append_right (belows a n) _ f
    (Contains-append_left (holding t n) _ f (subst (λ (w : DocFact Term). Contains (holding t n) w) e (to_holding t n c g))))

pub to_facts : (a : List ℕ) (n : ℕ) (fs : Forest) (s : Spot) (f : DocFact Term) → At a n fs s → IsFactOf s f → Contains (facts_from a n fs) f
to_facts a n none s f h g = absurd h
to_facts a n (kid l t i rest) s f (inl e) g =
    own_facts a l n t i (facts_from (n ∷ a) (suc n) i ++ facts_from a (suc n + size i) rest) f (subst (λ (w : Spot). IsFactOf w f) (sym e) g)
to_facts a n (kid l t i rest) s f (inr (inl h)) g =
    Contains-rest _ _ f (Contains-append_right (belows a n) _ f
    (Contains-append_right (holding t n) _ f (Contains-append_left (facts_from (n ∷ a) (suc n) i) _ f (to_facts (n ∷ a) (suc n) i s f h g))))
to_facts a n (kid l t i rest) s f (inr (inr h)) g =
    Contains-rest _ _ f (Contains-append_right (belows a n) _ f
    (Contains-append_right (holding t n) _ f (Contains-append_right (facts_from (n ∷ a) (suc n) i) _ f (to_facts a (suc n + size i) rest s f h g))))
