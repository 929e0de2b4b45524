-- Links, and rows and facts that are one.
use Rattle.std.proofs.Common.{◌≡◌, List, [], ◌∷◌, map, refl, sym, ◌∙◌, inl, inr, subst}
use Rattle.std.specs.List.{AllZip}
use Rattle.esto_term.specs.declared.term.Term.{Term}
use Rattle.esto_semantics.specs.Facts.{image}
use Rattle.esto_semantics.specs.declared.fact.Fact.{Fact}
use Rattle.esto_chase_laws.specs.Worlds.{Linked, here, along, back, AreOne}
use Rattle.esto_chase_laws.specs.WorldMatches.{Touching}
use Rattle.esto_chase_laws.specs.declared.entry.Claim.{Claim}
use Rattle.esto_chase_laws.specs.declared.entry.Claim.TheVariants.{Same}

module _ {Holds : Claim → Type 0} where
  pub one_link : (s t : Term) → Holds (Same s t) → Linked Holds s t
  one_link s t h = along h here

  pub Linked-then : (s t u : Term) → Linked Holds s t → Linked Holds t u → Linked Holds s u
  Linked-then s t u here k = k
  Linked-then s t u (along h l) k = along h (Linked-then _ _ _ l k)
  Linked-then s t u (back h l) k = back h (Linked-then _ _ _ l k)

  turned : (s t u : Term) → Linked Holds s t → Linked Holds s u → Linked Holds t u
  turned s t u here k = k
  turned s t u (along h l) k = turned _ _ _ l (back h k)
  turned s t u (back h l) k = turned _ _ _ l (along h k)

  pub Linked-back : (s t : Term) → Linked Holds s t → Linked Holds t s
  Linked-back s t l = turned s t s l here

  pub Linked-is : (s t : Term) → s ≡ t → Linked Holds s t
  Linked-is s t e = subst (λ (u : Term). Linked Holds s u) e here

  pub Linked-touching : (s t : Term) → Touching Holds s t → Linked Holds s t
  Linked-touching s t (inl e) = Linked-is s t e
  Linked-touching s t (inr (inl h)) = along h here
  Linked-touching s t (inr (inr h)) = back h here

  -- what gives the sides of each equality one value gives linked terms one value
  pub Linked-respects : {V : Type 0} (h : Term → V) → ((s t : Term) → Holds (Same s t) → h s ≡ h t) → (s t : Term) → Linked Holds s t → h s ≡ h t
  Linked-respects h e s t here = refl
  Linked-respects h e s t (along k l) = e _ _ k ∙ Linked-respects h e _ _ l
  Linked-respects h e s t (back k l) = sym (e _ _ k) ∙ Linked-respects h e _ _ l

  pub rows_one : {V : Type 0} (h : Term → V) → ((s t : Term) → Linked Holds s t → h s ≡ h t) → (xs ys : List Term) → AllZip (Linked Holds) xs ys
      → map h xs ≡ map h ys
  rows_one h e [] [] z = refl
  rows_one h e [] (y ∷ ys) z = absurd z
  rows_one h e (x ∷ xs) [] z = absurd z
  rows_one h e (x ∷ xs) (y ∷ ys) z = let first = e x y z.0 in let rest = rows_one h e xs ys z.1 in λ i. first i ∷ rest i

  pub facts_one : {V : Type 0} (h : Term → V) → ((s t : Term) → Linked Holds s t → h s ≡ h t) → (f g : Fact Term) → AreOne Holds f g → image h f ≡ image h g
  facts_one h e f g (a, z) = let r = rows_one h e f.terms g.terms z in λ i. record { relation = a i; terms = r i }

module _ (Holds : Claim → Type 0) where
  pub rows_themselves : (xs : List Term) → AllZip (Linked Holds) xs xs
  rows_themselves [] = tt
  rows_themselves (x ∷ xs) = (here, rows_themselves xs)

-- more claims, more links
pub Linked-more : {P Q : Claim → Type 0} → ((c : Claim) → P c → Q c) → (s t : Term) → Linked P s t → Linked Q s t
Linked-more f s t here = here
Linked-more f s t (along h l) = along (f _ h) (Linked-more f _ _ l)
Linked-more f s t (back h l) = back (f _ h) (Linked-more f _ _ l)

pub Touching-more : {P Q : Claim → Type 0} → ((c : Claim) → P c → Q c) → (s t : Term) → Touching P s t → Touching Q s t
Touching-more f s t (inl e) = inl e
Touching-more f s t (inr (inl h)) = inr (inl (f (Same s t) h))
Touching-more f s t (inr (inr h)) = inr (inr (f (Same t s) h))

pub Touching-back : (P : Claim → Type 0) → (s t : Term) → Touching P s t → Touching P t s
Touching-back P s t (inl e) = inl (sym e)
Touching-back P s t (inr (inl h)) = inr (inr h)
Touching-back P s t (inr (inr h)) = inr (inl h)
