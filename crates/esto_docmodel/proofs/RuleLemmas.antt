-- The facts of trees meet the rules of documents.
use Rattle.std.proofs.Common.{◌≡◌, ◌⊎◌, ℕ, suc, ◌+◌, ◌<◌, ◌≤◌, List, [], ◌∷◌, Some, sym, ap, ◌∙◌, subst, inl, inr, arith, Contains}
use Rattle.esto_semantics.proofs.TermLemmas.{Const-same, Plain-same}
use Rattle.esto_term.proofs.ListLemmas.{Contains-head, Contains-cases, Contains-nil}
use Rattle.esto_docmodel.proofs.NodeLemmas.{bounds, unique, kid_from, inside_from, above_kept, from_facts, to_facts}
use Rattle.esto_docmodel.proofs.TieLemmas.{root_of, below_of, field_of, item_of, value_of, parent}
use Rattle.esto_term.specs.declared.term.Term.{Term}
use Rattle.esto_term.specs.declared.term.Term.TheVariants.{Const, Plain}
use Rattle.esto_docmodel.proofs.KindRules.{MeetsDocumentRules}
use Rattle.esto_docmodel.proofs.Spots.{Spot, At, AreNamedOnce}
use Rattle.esto_docmodel.specs.DocumentFacts.{root, field, item, value, below}
use Rattle.esto_docmodel.specs.Encodings.{size, facts_from}
use Rattle.esto_docmodel.specs.Forests.{Label, name, Forest, none, kid, Node, HasKid}

node_inj : {n m : ℕ} → Plain n ≡ Plain m → n ≡ m
node_inj {n} {m} e = Plain-same n m e

name_inj : {c d : List ℕ} → name c ≡ name d → c ≡ d
name_inj e = cc

some_inj : {c d : List ℕ} → Some c ≡ Some d → c ≡ d
some_inj e = cc

abbrev AreLow : List ℕ → ℕ → Type 0
AreLow a n = (x : ℕ) → Contains a x → x < n

low_in : (a : List ℕ) (n : ℕ) → AreLow a n → AreLow (n ∷ a) (suc n)
low_in a n low x c = elim (Contains-cases n a x c) [ inl e ↦ omega arith | inr d ↦ let h = low x d in omega arith ]

low_on : (a : List ℕ) (n k : ℕ) → n ≤ k → AreLow a n → AreLow a k
low_on a n k le low x c = let h = low x c in omega arith

above_high : (a : List ℕ) (n : ℕ) (f : Forest) (s : Spot) (x : ℕ) → At a n f s → Contains s.above x → Contains a x ⊎ (n ≤ x)
above_high a n f s x h c = elim (inside_from a n f s x h c) [
  | inl g ↦ inl g
  | inr g ↦ let b = bounds a n f g.0 g.1 in let e : g.0.number ≡ x = g.2 in inr (omega arith)
]

-- a node of the row and one inside its first tree have different nodes above
apart_inside : (a : List ℕ) (n : ℕ) (i : Forest) (u : Spot) → AreLow a n → At (n ∷ a) (suc n) i u → u.above ≡ a → ⊥
apart_inside a n i u low h e = let l = low n (subst (λ (w : List ℕ). Contains w n) e (above_kept (n ∷ a) (suc n) i u n h (Contains-head n a))) in omega arith

apart_rest : (a : List ℕ) (n k : ℕ) (i rest : Forest) (s u : Spot) → AreLow a n → n < k → At (n ∷ a) (suc n) i s → At a k rest u → s.above ≡ u.above → ⊥
apart_rest a n k i rest s u low lt h g e =
    elim (above_high a k rest u n g (subst (λ (w : List ℕ). Contains w n) e (above_kept (n ∷ a) (suc n) i s n h (Contains-head n a)))) [
      | inl c ↦ let l = low n c in omega arith
      | inr c ↦ omega arith
    ]

apart_named : (a : List ℕ) (n : ℕ) (rest : Forest) (c : List ℕ) (u : Spot) → AreLow a n → ((t : Node) → HasKid rest (name c) t → ⊥) → At a n rest u
    → u.above ≡ a → u.label ≡ name c → ⊥
apart_named a n rest c u low once h e g = elim (kid_from a n rest u h) [
  | inl k ↦ once u.here (subst (λ (w : Label). HasKid rest w u.here) g k.1)
  | inr k ↦
      let b = bounds a n rest k.0 k.1 in
      let l = low k.0.number (subst (λ (w : List ℕ). Contains w k.0.number) (sym k.2 ∙ e) (Contains-head k.0.number k.0.above)) in
      omega arith
]

pub once : (a : List ℕ) (n : ℕ) (f : Forest) (s u : Spot) (c : List ℕ) → AreLow a n → AreNamedOnce f → At a n f s → At a n f u → s.above ≡ u.above
    → s.label ≡ name c → u.label ≡ name c → s ≡ u
once a n none s u c low names h g e p q = absurd h
once a n (kid l t i rest) s u c low names (inl h) (inl g) e p q = sym h ∙ g
once a n (kid l t i rest) s u c low names (inl h) (inr (inl g)) e p q = absurd (apart_inside a n i u low g (sym e ∙ sym (ap (λ (w : Spot). w.above) h)))
once a n (kid l t i rest) s u c low names (inl h) (inr (inr g)) e p q =
    absurd (apart_named a (suc n + size i) rest c u (low_on a n _ (omega arith) low) (λ t k. names.0 c t (ap (λ (w : Spot). w.label) h ∙ p) k) g
    (sym e ∙ sym (ap (λ (w : Spot). w.above) h)) q)
once a n (kid l t i rest) s u c low names (inr (inl h)) (inl g) e p q = absurd (apart_inside a n i s low h (e ∙ sym (ap (λ (w : Spot). w.above) g)))
once a n (kid l t i rest) s u c low names (inr (inl h)) (inr (inl g)) e p q = once (n ∷ a) (suc n) i s u c (low_in a n low) names.1.0 h g e p q
once a n (kid l t i rest) s u c low names (inr (inl h)) (inr (inr g)) e p q = absurd (apart_rest a n (suc n + size i) i rest s u low (omega arith) h g e)
once a n (kid l t i rest) s u c low names (inr (inr h)) (inl g) e p q =
    absurd (apart_named a (suc n + size i) rest c s (low_on a n _ (omega arith) low) (λ t k. names.0 c t (ap (λ (w : Spot). w.label) g ∙ q) k) h
    (e ∙ sym (ap (λ (w : Spot). w.above) g)) p)
once a n (kid l t i rest) s u c low names (inr (inr h)) (inr (inl g)) e p q = absurd (apart_rest a n (suc n + size i) i rest u s low (omega arith) g h (sym e))
once a n (kid l t i rest) s u c low names (inr (inr h)) (inr (inr g)) e p q =
    once a (suc n + size i) rest s u c (low_on a n _ (omega arith) low) names.1.1 h g e p q

module _ (base : ℕ) (forest : Forest) where
  same_node : (s u : Spot) (m : Term) → At [] base forest s → At [] base forest u → m ≡ Plain s.number → m ≡ Plain u.number → s ≡ u
  same_node s u m h g p q = unique [] base forest s u h g (node_inj (sym p ∙ q))

  one_kid : AreNamedOnce forest → (n k m p : Term) → Contains (facts_from [] base forest) (field n k m) → Contains (facts_from [] base forest) (field n k p)
      → m ≡ p
  one_kid names n k m p c d =
      let r = from_facts [] base forest _ c in
      let s = from_facts [] base forest _ d in
      let f = field_of r.0 n k m r.2 in
      let g = field_of s.0 n k p s.2 in
      let x = parent base forest r.0 f.0 f.1 r.1 f.3 in
      let y = parent base forest s.0 g.0 g.1 s.1 g.3 in
      let z : f.0 ≡ g.0 = node_inj (sym f.5 ∙ g.5) in
      let e : x.0 ≡ y.0 = unique [] base forest x.0 y.0 x.1 y.1 (x.3 ∙ z ∙ sym y.3) in
      let up : r.0.above ≡ s.0.above = x.2 ∙ ap (λ (w : Spot). w.number ∷ w.above) e ∙ sym y.2 in
      let key : Const g.2 ≡ Const f.2 = sym g.6 ∙ f.6 in
      let label : s.0.label ≡ name f.2 = g.4 ∙ ap (λ (w : List ℕ). name w) (Const-same _ _ key) in
      f.7 ∙ ap (λ (w : Spot). Plain w.number) (once [] base forest r.0 s.0 f.2 (λ x c. absurd (Contains-nil x c)) names r.1 s.1 up f.4 label) ∙ sym g.7

  heads : {x y : ℕ} {a b : List ℕ} → x ∷ a ≡ y ∷ b → x ≡ y
  heads e = cc

  one_parent : (n k m p l : Term) → Contains (facts_from [] base forest) (field n k m) → Contains (facts_from [] base forest) (field p l m) → (n ≡ p) × (k ≡ l)
  one_parent n k m p l c d =
      let r = from_facts [] base forest _ c in
      let s = from_facts [] base forest _ d in
      let f = field_of r.0 n k m r.2 in
      let g = field_of s.0 p l m s.2 in
      let e : r.0 ≡ s.0 = same_node r.0 s.0 m r.1 s.1 f.7 g.7 in
      let z : f.0 ∷ f.1 ≡ g.0 ∷ g.1 = sym f.3 ∙ ap (λ (w : Spot). w.above) e ∙ g.3 in
      let y : name f.2 ≡ name g.2 = sym f.4 ∙ ap (λ (w : Spot). w.label) e ∙ g.4 in
      (f.5 ∙ ap Plain (heads z) ∙ sym g.5, f.6 ∙ ap Const (name_inj y) ∙ sym g.6)

  one_list : (n m p : Term) → Contains (facts_from [] base forest) (item n m) → Contains (facts_from [] base forest) (item p m) → n ≡ p
  one_list n m p c d =
      let r = from_facts [] base forest _ c in
      let s = from_facts [] base forest _ d in
      let f = item_of r.0 n m r.2 in
      let g = item_of s.0 p m s.2 in
      let e : r.0 ≡ s.0 = same_node r.0 s.0 m r.1 s.1 f.5 g.5 in
      let z : f.0 ∷ f.1 ≡ g.0 ∷ g.1 = sym f.2 ∙ ap (λ (w : Spot). w.above) e ∙ g.2 in
      f.4 ∙ ap Plain (heads z) ∙ sym g.4

  one_value : (n v w : Term) → Contains (facts_from [] base forest) (value n v) → Contains (facts_from [] base forest) (value n w) → v ≡ w
  one_value n v w c d =
      let r = from_facts [] base forest _ c in
      let s = from_facts [] base forest _ d in
      let f = value_of r.0 n v r.2 in
      let g = value_of s.0 n w s.2 in
      let e : r.0 ≡ s.0 = same_node r.0 s.0 n r.1 s.1 f.2 g.2 in
      let z : Some f.0 ≡ Some g.0 = sym f.1 ∙ ap (λ (w : Spot). w.here.content) e ∙ g.1 in
      f.3 ∙ ap Const (some_inj z) ∙ sym g.3

  lies_below : (s : Spot) (q : ℕ) (b : List ℕ) (n m : Term) → At [] base forest s → s.above ≡ q ∷ b → n ≡ Plain q → m ≡ Plain s.number
      → Contains (facts_from [] base forest) (below n m)
  lies_below s q b n m h e x y = to_facts [] base forest s _ h (inr (inl (q, subst (λ (w : List ℕ). Contains w q) (sym e) (Contains-head q b), cc)))

  -- a root has no node above
  pub no_root_below : (n m : Term) → Contains (facts_from [] base forest) (root m) → Contains (facts_from [] base forest) (below n m) → ⊥
  no_root_below n m c d =
      let r = from_facts [] base forest _ c in
      let s = from_facts [] base forest _ d in
      let f = root_of r.0 m r.2 in
      let g = below_of s.0 n m s.2 in
      let e : r.0 ≡ s.0 = same_node r.0 s.0 m r.1 s.1 f.1 g.3 in
      Contains-nil g.0 (subst (λ (w : List ℕ). Contains w g.0) (sym (ap (λ (w : Spot). w.above) e) ∙ f.0) g.1)

  pub rules_hold : AreNamedOnce forest → MeetsDocumentRules (Contains (facts_from [] base forest))
  rules_hold names = record {
    one_kid = one_kid names;
    one_parent = λ n k m p l c d. (one_parent n k m p l c d).0;
    one_name = λ n k m p l c d. (one_parent n k m p l c d).1;
    one_list = one_list;
    one_value = one_value;
    field_below = λ n k m c. let r = from_facts [] base forest _ c in let f = field_of r.0 n k m r.2 in lies_below r.0 f.0 f.1 n m r.1 f.3 f.5 f.7;
    no_root_below = no_root_below;
    item_below = λ n m c. let r = from_facts [] base forest _ c in let f = item_of r.0 n m r.2 in lies_below r.0 f.0 f.1 n m r.1 f.2 f.4 f.5;
  }
