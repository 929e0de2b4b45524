-- The five relations lose nothing.
use Rattle.std.proofs.Common.{◌≡◌, ◌↔◌, ℕ, zero, suc, ◌+◌, List, [], ◌∷◌, map, Option, Some, None, refl, sym, ap, ◌∙◌, subst, inl, inr, arith, Contains}
use Rattle.esto_term.proofs.ListLemmas.{Contains-head, Contains-rest, Contains-cases, Contains-nil, Contains-map, Contains-map_from}
use Rattle.esto_term.specs.declared.term.Term.{Term}
use Rattle.esto_term.specs.declared.term.Term.TheVariants.{Plain}
use Rattle.esto_docmodel.proofs.KindRules.{MeetsDocumentRules}
use Rattle.esto_docmodel.proofs.Worlds.{Sends}
use Rattle.esto_docmodel.specs.DocumentFacts.{DocFact, root, field, item, value, below, carried, kind, row_of, flat}
use Rattle.esto_semantics.specs.DocumentRules.{document_rules_2}
use Rattle.esto_semantics.specs.declared.fact.Fact.{Fact}
use Rattle.esto_semantics.specs.Facts.{image}
use Rattle.esto_semantics.specs.Maps.{SendsInto}
use Rattle.esto_semantics.specs.Rules.{Rule, IsMet, AreMet}

natural : (base : ℕ) (m : Term → Term) (f : DocFact Term) → flat base (carried m f) ≡ image m (flat base f)
natural base m (root n) = refl
natural base m (field p k n) = refl
natural base m (item p n) = refl
natural base m (value n t) = refl
natural base m (below a n) = refl

decode : {V : Type 0} → ℕ → List V → Option (DocFact V)
decode zero (n ∷ []) = Some (root n)
decode (suc zero) (p ∷ k ∷ n ∷ []) = Some (field p k n)
decode (suc (suc zero)) (p ∷ n ∷ []) = Some (item p n)
decode (suc (suc (suc zero))) (n ∷ t ∷ []) = Some (value n t)
decode (suc (suc (suc (suc zero)))) (a ∷ n ∷ []) = Some (below a n)
decode k vs = None

decoded : {V : Type 0} (f : DocFact V) → decode (kind f) (row_of f) ≡ Some f
unfolding decode
decoded (root n) = refl
decoded (field p k n) = refl
decoded (item p n) = refl
decoded (value n t) = refl
decoded (below a n) = refl

some_inj : {X : Type 0} {x y : X} → Some x ≡ Some y → x ≡ y
some_inj e = cc

pub flat_inj : (base : ℕ) (f g : DocFact Term) → flat base f ≡ flat base g → f ≡ g
flat_inj base f g e =
    let k0 : base + kind f ≡ base + kind g = ap (λ (w : Fact Term). w.relation) e in
    let k : kind f ≡ kind g = omega arith in
    let v : row_of f ≡ row_of g = ap (λ (w : Fact Term). w.terms) e in
    some_inj (sym (decoded f) ∙ ap (λ (w : ℕ). decode w (row_of f)) k ∙ ap (λ (w : List Term). decode (kind g) w) v ∙ decoded g)

pub from_flat_in : (base : ℕ) (facts : List (DocFact Term)) (f : DocFact Term) → Contains (map (flat base) facts) (flat base f) → Contains facts f
from_flat_in base facts f c = let r = Contains-map_from (flat base) facts (flat base f) c in
    subst (λ (w : DocFact Term). Contains facts w) (flat_inj base r.0 f r.2) r.1

pub sends_flat : (base : ℕ) (m : Term → Term) (body : List (DocFact Term)) (facts : List (DocFact Term))
    → Sends m body (Contains facts) ↔ SendsInto m (map (flat base) body) (Contains (map (flat base) facts))
sends_flat base m body facts = (
  (λ sends a c.
      let r = Contains-map_from (flat base) body a c in
      subst (λ (w : Fact Term). Contains (map (flat base) facts) (image m w)) r.2
      (subst (λ (w : Fact Term). Contains (map (flat base) facts) w) (natural base m r.0)
      (Contains-map (flat base) facts (carried m r.0) (sends r.0 r.1)))),
  λ sends a c. from_flat_in base facts (carried m a)
      (subst (λ (w : Fact Term). Contains (map (flat base) facts) w) (sym (natural base m a)) (sends (flat base a) (Contains-map (flat base) body a c))),
)

module _ (base : ℕ) (facts : List (DocFact Term)) (rules : MeetsDocumentRules (Contains facts)) where
  first : (m : Term → Term) (a : DocFact Term) (rest : List (Fact Term)) → SendsInto m (flat base a ∷ rest) (Contains (map (flat base) facts))
      → Contains facts (carried m a)
  first m a rest sends = from_flat_in base facts (carried m a)
      (subst (λ (w : Fact Term). Contains (map (flat base) facts) w) (sym (natural base m a)) (sends (flat base a) (Contains-head (flat base a) rest)))

  second : (m : Term → Term) (a : Fact Term) (b : DocFact Term) (rest : List (Fact Term))
      → SendsInto m (a ∷ flat base b ∷ rest) (Contains (map (flat base) facts)) → Contains facts (carried m b)
  second m a b rest sends = first m b rest (λ x c. sends x (Contains-rest a (flat base b ∷ rest) x c))

  one : (m : Term → Term) (a : DocFact Term) → Contains facts (carried m a) → SendsInto m (flat base a ∷ []) (Contains (map (flat base) facts))
  one m a c = (sends_flat base m (a ∷ []) facts).0
      (λ x d. elim (Contains-cases a [] x d) [ inl e ↦ subst (λ (w : DocFact Term). Contains facts (carried m w)) e c | inr z ↦ absurd (Contains-nil x z) ])

  abbrev Each : List Rule → Type 0
  Each [] = Unit {0}
  Each (r ∷ rs) = IsMet (map (flat base) facts) r × Each rs

  each : (rs : List Rule) → Each rs → AreMet (map (flat base) facts) rs
  each [] h rule c = absurd (Contains-nil rule c)
  each (r ∷ rs) (h, more) rule c = elim (Contains-cases r rs rule c) [
    | inl e ↦ subst (λ (w : Rule). IsMet (map (flat base) facts) w) e h
    | inr d ↦ each rs more rule d
  ]

  -- two facts of the images of a body of two atoms
  both : (m : Term → Term) (a b : DocFact Term) → SendsInto m (flat base a ∷ flat base b ∷ []) (Contains (map (flat base) facts))
      → Contains facts (carried m a) × Contains facts (carried m b)
  both m a b sends = (first m a (flat base b ∷ []) sends, second m (flat base a) b [] sends)

  pub meets_flat : AreMet (map (flat base) facts) (document_rules_2 base)
  meets_flat = each (document_rules_2 base) (
    (λ m keeps sends. let h = both m (field (Plain 0) (Plain 1) (Plain 2)) (field (Plain 0) (Plain 1) (Plain 3)) sends in rules.one_kid _ _ _ _ h.0 h.1),
    (
      (λ m keeps sends. let h = both m (field (Plain 0) (Plain 1) (Plain 2)) (field (Plain 3) (Plain 4) (Plain 2)) sends in rules.one_parent _ _ _ _ _ h.0 h.1),
      (
        (λ m keeps sends. let h = both m (field (Plain 0) (Plain 1) (Plain 2)) (field (Plain 3) (Plain 4) (Plain 2)) sends in rules.one_name _ _ _ _ _ h.0 h.1),
        (
          (λ m keeps sends. let h = both m (item (Plain 0) (Plain 1)) (item (Plain 2) (Plain 1)) sends in rules.one_list _ _ _ h.0 h.1),
          (
            (λ m keeps sends. let h = both m (value (Plain 0) (Plain 1)) (value (Plain 0) (Plain 2)) sends in rules.one_value _ _ _ h.0 h.1),
            (
              (λ m keeps sends. let x = first m (field (Plain 0) (Plain 1) (Plain 2)) [] sends in
                  (m, keeps, (λ v o. refl), one m (below (Plain 0) (Plain 2)) (rules.field_below _ _ _ x))),
              (
                (λ m keeps sends. let x = first m (item (Plain 0) (Plain 1)) [] sends in
                    (m, keeps, (λ v o. refl), one m (below (Plain 0) (Plain 1)) (rules.item_below _ _ x))),
                ((λ m keeps sends. let h = both m (root (Plain 0)) (below (Plain 1) (Plain 0)) sends in rules.no_root_below _ _ h.0 h.1), tt),
              ),
            ),
          ),
        ),
      ),
    ),
  )
