-- The facts of trees tie numbers to trees.
use Rattle.std.proofs.Common.{◌≡◌, ℕ, List, [], ◌∷◌, Some, refl, sym, ap, ◌∙◌, subst, inl, inr, Contains}
use Rattle.esto_semantics.proofs.TermLemmas.{Const-same, Plain-same}
use Rattle.esto_term.proofs.ListLemmas.{Contains-nil}
use Rattle.esto_docmodel.proofs.NodeLemmas.{unique, kid_at, kid_below, inside_below, kid_from, inside_from, from_facts, to_facts}
use Rattle.esto_term.specs.declared.term.Term.{Term}
use Rattle.esto_term.specs.declared.term.Term.TheVariants.{Const, Plain}
use Rattle.esto_docmodel.proofs.Spots.{Spot, At, IsFactOf, Is}
use Rattle.esto_docmodel.proofs.Worlds.{IsEncoded}
use Rattle.esto_docmodel.specs.DocumentFacts.{root, field, item, value, below}
use Rattle.esto_docmodel.specs.Encodings.{entering, facts_from, linked}
use Rattle.esto_docmodel.specs.Forests.{Label, name, place, Forest, Node, HasKid, HasInside, IsDocument}
use Rattle.esto_docmodel.specs.Patterns.{Takes}
use Rattle.esto_docmodel.specs.declared.pattern.Step.{Step}
use Rattle.esto_docmodel.specs.declared.pattern.Step.TheVariants.{Name, Item, Below}

-- ---- what a fact of a node says

entering_root : (a : List ℕ) (l : Label) (n : ℕ) (x : Term) → entering a l n ≡ root x → (a ≡ []) × (x ≡ Plain n)
entering_root [] l n x e = (refl, cc)
entering_root (p ∷ a) (name k) n x e = cc
entering_root (p ∷ a) place n x e = cc

entering_field : (a : List ℕ) (l : Label) (n : ℕ) (p k m : Term) → entering a l n ≡ field p k m
    → (q : ℕ) × (b : List ℕ) × (c : List ℕ) × (a ≡ q ∷ b) × (l ≡ name c) × (p ≡ Plain q) × (k ≡ Const c) × (m ≡ Plain n)
entering_field [] l n p k m e = cc
entering_field (q ∷ b) (name c) n p k m e = (q, b, c, refl, refl, cc, cc, cc)
entering_field (q ∷ b) place n p k m e = cc

entering_item : (a : List ℕ) (l : Label) (n : ℕ) (p m : Term) → entering a l n ≡ item p m
    → (q : ℕ) × (b : List ℕ) × (a ≡ q ∷ b) × (l ≡ place) × (p ≡ Plain q) × (m ≡ Plain n)
entering_item [] l n p m e = cc
entering_item (q ∷ b) (name c) n p m e = cc
entering_item (q ∷ b) place n p m e = (q, b, refl, refl, cc, cc)

entering_value : (a : List ℕ) (l : Label) (n : ℕ) (x y : Term) → entering a l n ≡ value x y → ⊥
entering_value [] l n x y e = cc
entering_value (q ∷ b) (name c) n x y e = cc
entering_value (q ∷ b) place n x y e = cc

entering_below : (a : List ℕ) (l : Label) (n : ℕ) (x y : Term) → entering a l n ≡ below x y → ⊥
entering_below [] l n x y e = cc
entering_below (q ∷ b) (name c) n x y e = cc
entering_below (q ∷ b) place n x y e = cc

pub root_of : (s : Spot) (x : Term) → IsFactOf s (root x) → (s.above ≡ []) × (x ≡ Plain s.number)
root_of s x (inl e) = entering_root s.above s.label s.number x e
root_of s x (inr (inl (y, c, e))) = cc
root_of s x (inr (inr (c, g, e))) = cc

pub field_of : (s : Spot) (p k m : Term) → IsFactOf s (field p k m)
    → (q : ℕ) × (b : List ℕ) × (c : List ℕ) × (s.above ≡ q ∷ b) × (s.label ≡ name c) × (p ≡ Plain q) × (k ≡ Const c) × (m ≡ Plain s.number)
field_of s p k m (inl e) = entering_field s.above s.label s.number p k m e
field_of s p k m (inr (inl (y, c, e))) = absurd cc
field_of s p k m (inr (inr (c, g, e))) = absurd cc

pub item_of : (s : Spot) (p m : Term) → IsFactOf s (item p m)
    → (q : ℕ) × (b : List ℕ) × (s.above ≡ q ∷ b) × (s.label ≡ place) × (p ≡ Plain q) × (m ≡ Plain s.number)
item_of s p m (inl e) = entering_item s.above s.label s.number p m e
item_of s p m (inr (inl (y, c, e))) = absurd cc
item_of s p m (inr (inr (c, g, e))) = absurd cc

pub below_of : (s : Spot) (x y : Term) → IsFactOf s (below x y) → (q : ℕ) × Contains s.above q × (x ≡ Plain q) × (y ≡ Plain s.number)
below_of s x y (inl e) = absurd (entering_below s.above s.label s.number x y e)
below_of s x y (inr (inl (q, c, e))) = (q, c, cc, cc)
below_of s x y (inr (inr (c, g, e))) = absurd cc

pub value_of : (s : Spot) (x y : Term) → IsFactOf s (value x y) → (c : List ℕ) × (s.here.content ≡ Some c) × (x ≡ Plain s.number) × (y ≡ Const c)
value_of s x y (inl e) = absurd (entering_value s.above s.label s.number x y e)
value_of s x y (inr (inl (q, c, e))) = absurd cc
value_of s x y (inr (inr (c, g, e))) = (c, g, cc, cc)

node_inj : {n m : ℕ} → Plain n ≡ Plain m → n ≡ m
node_inj {n} {m} e = Plain-same n m e

field_at : (s : Spot) (q : ℕ) (b : List ℕ) (c : List ℕ) → s.above ≡ q ∷ b → s.label ≡ name c
    → entering s.above s.label s.number ≡ field (Plain q) (Const c) (Plain s.number)
field_at s q b c e g = rw (e, g)

item_at : (s : Spot) (q : ℕ) (b : List ℕ) → s.above ≡ q ∷ b → s.label ≡ place → entering s.above s.label s.number ≡ item (Plain q) (Plain s.number)
item_at s q b e g = rw (e, g)

module _ (base : ℕ) (forest : Forest) where
  -- the parent of a node that has a node above
  pub parent : (d : Spot) (q : ℕ) (b : List ℕ) → At [] base forest d → d.above ≡ q ∷ b
      → (s : Spot) × At [] base forest s × (d.above ≡ s.number ∷ s.above) × (s.number ≡ q) × HasKid s.here.inside d.label d.here
  parent d q b h e = elim (kid_from [] base forest d h) [
    | inl g ↦ let z : [] ≡ q ∷ b = sym g.0 ∙ e in absurd cc
    | inr g ↦ let z : g.0.number ∷ g.0.above ≡ q ∷ b = sym g.2 ∙ e in (g.0, g.1, g.2, cc, g.3)
  ]

  -- nodes of one number are one
  pub one_is : (n : ℕ) (t : Node) (s : Spot) → Is base forest n t → At [] base forest s → s.number ≡ n → s.here ≡ t
  one_is n t s (u, h, e, g) at k = ap (λ (w : Spot). w.here) (unique [] base forest s u at h (k ∙ sym e)) ∙ g

  from_kid : (n : ℕ) (t : Node) (d : Spot) (q : ℕ) (b : List ℕ) (l : Label) → Is base forest n t → At [] base forest d → d.above ≡ q ∷ b → d.label ≡ l → q ≡ n
      → HasKid t.inside l d.here
  from_kid n t d q b l is h e g k =
      let r = parent d q b h e in
      let same : r.0.here ≡ t = one_is n t r.0 is r.1 (r.3 ∙ k) in
      subst (λ (w : Node). HasKid w.inside l d.here) same (subst (λ (w : Label). HasKid r.0.here.inside w d.here) g r.4)

  from_step : (s : Step) (n : ℕ) (t : Node) (y : Term) → Is base forest n t → Contains (facts_from [] base forest) (linked Const s (Plain n) y)
      → (k : ℕ) × (u : Node) × (y ≡ Plain k) × Is base forest k u × Takes s t u
  from_step (Name k) n t y is c =
      let r = from_facts [] base forest _ c in
      let f = field_of r.0 (Plain n) (Const k) y r.2 in
      let z : r.0.label ≡ name k = f.4 ∙ ap (λ (w : List ℕ). name w) (sym (Const-same _ _ f.6)) in
      (r.0.number, r.0.here, f.7, (r.0, r.1, refl, refl), from_kid n t r.0 f.0 f.1 (name k) is r.1 f.3 z (node_inj (sym f.5)))
  from_step Item n t y is c =
      let r = from_facts [] base forest _ c in
      let f = item_of r.0 (Plain n) y r.2 in
      (r.0.number, r.0.here, f.5, (r.0, r.1, refl, refl), from_kid n t r.0 f.0 f.1 place is r.1 f.2 f.3 (node_inj (sym f.4)))
  from_step Below n t y is c =
      let r = from_facts [] base forest _ c in
      let f = below_of r.0 (Plain n) y r.2 in (
        r.0.number,
        r.0.here,
        f.3,
        (r.0, r.1, refl, refl),
        elim (inside_from [] base forest r.0 f.0 r.1 f.1) [
          | inl g ↦ absurd (Contains-nil f.0 g)
          | inr g ↦ subst (λ (w : Node). HasInside w.inside r.0.here) (one_is n t g.0 is g.1 (g.2 ∙ node_inj (sym f.2))) g.3
        ],
      )

  to_step : (s : Step) (n : ℕ) (t u : Node) → Is base forest n t → Takes s t u
      → (k : ℕ) × Is base forest k u × Contains (facts_from [] base forest) (linked Const s (Plain n) (Plain k))
  to_step (Name k) n t u (s, h, e, g) takes =
      let r = kid_below [] base forest s (name k) u h (subst (λ (w : Node). HasKid w.inside (name k) u) (sym g) takes) in
      let f : field (Plain s.number) (Const k) (Plain r.0.number) ≡ field (Plain n) (Const k) (Plain r.0.number) =
      ap (λ (w : ℕ). field (Plain w) (Const k) (Plain r.0.number)) e in
      (r.0.number, (r.0, r.1, refl, r.4), to_facts [] base forest r.0 _ r.1 (inl (field_at r.0 s.number s.above k r.2 r.3 ∙ f)))
  to_step Item n t u (s, h, e, g) takes =
      let r = kid_below [] base forest s place u h (subst (λ (w : Node). HasKid w.inside place u) (sym g) takes) in
      let f : item (Plain s.number) (Plain r.0.number) ≡ item (Plain n) (Plain r.0.number) = ap (λ (w : ℕ). item (Plain w) (Plain r.0.number)) e in
      (r.0.number, (r.0, r.1, refl, r.4), to_facts [] base forest r.0 _ r.1 (inl (item_at r.0 s.number s.above r.2 r.3 ∙ f)))
  to_step Below n t u (s, h, e, g) takes =
      let r = inside_below [] base forest s u h (subst (λ (w : Node). HasInside w.inside u) (sym g) takes) in
      let f : below (Plain s.number) (Plain r.0.number) ≡ below (Plain n) (Plain r.0.number) = ap (λ (w : ℕ). below (Plain w) (Plain r.0.number)) e in
      (r.0.number, (r.0, r.1, refl, r.3), to_facts [] base forest r.0 _ r.1 (inr (inl (s.number, r.2, f))))

  from_root : (x : Term) → Contains (facts_from [] base forest) (root x) → (n : ℕ) × (t : Node) × (x ≡ Plain n) × Is base forest n t × IsDocument forest t
  from_root x c =
      let r = from_facts [] base forest _ c in
      let f = root_of r.0 x r.2 in (
        r.0.number,
        r.0.here,
        f.1,
        (r.0, r.1, refl, refl),
        elim (kid_from [] base forest r.0 r.1) [
          | inl g ↦ (r.0.label, g.1)
          | inr g ↦ let z : [] ≡ g.0.number ∷ g.0.above = sym f.0 ∙ g.2 in absurd cc
        ],
      )

  to_root : (t : Node) → IsDocument forest t → (n : ℕ) × Is base forest n t × Contains (facts_from [] base forest) (root (Plain n))
  to_root t (l, h) =
      let r = kid_at [] base forest l t h in
      let e : entering r.0.above r.0.label r.0.number ≡ root (Plain r.0.number) = ap (λ (w : List ℕ). entering w r.0.label r.0.number) r.2 in
      (r.0.number, (r.0, r.1, refl, r.4), to_facts [] base forest r.0 _ r.1 (inl e))

  from_value : (n : ℕ) (t : Node) (y : Term) → Is base forest n t → Contains (facts_from [] base forest) (value (Plain n) y)
      → (c : List ℕ) × (y ≡ Const c) × (t.content ≡ Some c)
  from_value n t y is c =
      let r = from_facts [] base forest _ c in
      let f = value_of r.0 (Plain n) y r.2 in
      let same : r.0.here ≡ t = one_is n t r.0 is r.1 (node_inj (sym f.2)) in
      (f.0, f.3, sym (ap (λ (w : Node). w.content) same) ∙ f.1)

  to_value : (n : ℕ) (t : Node) (c : List ℕ) → Is base forest n t → t.content ≡ Some c → Contains (facts_from [] base forest) (value (Plain n) (Const c))
  to_value n t c (s, h, e, g) k = to_facts [] base forest s _ h (inr (inr (c, ap (λ (w : Node). w.content) g ∙ k, ap (λ (w : ℕ). value (Plain w) (Const c)) e)))

  pub encoded : IsEncoded (Is base forest) (IsDocument forest) (Contains (facts_from [] base forest))
  encoded = record { from_root = from_root; to_root = to_root; from_step = from_step; to_step = to_step; from_value = from_value; to_value = to_value }
