-- Choices among finitely many things, and lists by what they contain.
use Rattle.std.proofs.Common.{◌≡◌, ℕ, zero, suc, ◌<◌, List, [], ◌∷◌, ◌++◌, map, get_or, refl, sym, ap, ◌∙◌, subst, arith, inl, inr, Bool, true, false}
use Rattle.std.specs.Prelude.{◌⊎◌, ◌↔◌, Contains, AllPairs}
use Rattle.std.specs.Cmp.{IsTotalOrder}
use Rattle.std.specs.Ordering.{ordering_reverse}
use Rattle.std.specs.declared.cmp.Ordering.{Ordering}
use Rattle.std.specs.declared.cmp.Ordering.TheVariants.{Less, Equal, Greater}
use Rattle.std.proofs.lemmas.Bool.{cases_order}
use Rattle.std.proofs.lemmas.Cmp.{tied_itself}
use Rattle.std.proofs.lemmas.List.Elements.{Contains-get_or, Contains-append_cases}
use Rattle.std.proofs.lemmas.List.Kept.{AllPairs-cons}
use Rattle.esto_term.proofs.ListLemmas.{Contains-cases, Contains-head, Contains-map_from, Contains-nil, Contains-rest}

-- ---- what is decided

abbrev pub Decided : Type 0 → Type 0
Decided P = P ⊎ (P → ⊥)

pub decided_both : {P Q : Type 0} → Decided P → Decided Q → Decided (P × Q)
decided_both (inl p) (inl q) = inl (p, q)
decided_both (inl p) (inr no_q) = inr (λ h. no_q h.1)
decided_both (inr no_p) q = inr (λ h. no_p h.0)

pub decided_either : {P Q : Type 0} → Decided P → Decided Q → Decided (P ⊎ Q)
decided_either (inl p) q = inl (inl p)
decided_either (inr no_p) (inl q) = inl (inr q)
decided_either (inr no_p) (inr no_q) = inr (λ h. elim h [ inl p ↦ no_p p | inr q ↦ no_q q ])

pub decided_not : {P : Type 0} → Decided P → Decided (P → ⊥)
decided_not (inl p) = inr (λ f. f p)
decided_not (inr no_p) = inl no_p

pub decided_as : {P Q : Type 0} → P ↔ Q → Decided P → Decided Q
decided_as same (inl p) = inl (same.0 p)
decided_as same (inr no_p) = inr (λ q. no_p (same.1 q))

-- two truth values that imply one another are equal
pub same_truth : (one other : Bool) → (one ≡ true → other ≡ true) → (other ≡ true → one ≡ true) → one ≡ other
same_truth true other there back = sym (there refl)
same_truth false true there back = back refl
same_truth false false there back = refl

-- of a property that is decided below a bound: the least number below the bound that has it, or none has it
pub least_below : (P : ℕ → Type 0) (bound : ℕ) → ((k : ℕ) → k < bound → Decided (P k))
    → ((k : ℕ) × (k < bound) × P k × ((j : ℕ) → j < k → P j → ⊥)) ⊎ ((k : ℕ) → k < bound → P k → ⊥)
least_below P zero decide = inr (λ k l p. omega (arith, l))
least_below P (suc n) decide = elim (least_below P n (λ k l. decide k (omega arith))) [
  | inl found ↦ inl (found.0, omega (arith, found.1), found.2, found.3)
  | inr none ↦ elim (decide n (omega arith)) [
    | inl p ↦ inl (n, omega arith, p, none)
    | inr no_p ↦ inr (λ k l p. elim (cases_order k n) [
      | inl e ↦ no_p (subst P e p)
      | inr apart ↦ elim apart [ inl below ↦ none k below p | inr above ↦ omega (arith, l, above) ]
    ])
  ]
]

pub decided_below : (P : ℕ → Type 0) (bound : ℕ) → ((k : ℕ) → k < bound → Decided (P k)) → Decided ((k : ℕ) × (k < bound) × P k)
decided_below P bound decide = elim (least_below P bound decide) [
  | inl found ↦ inl (found.0, found.1, found.2)
  | inr none ↦ inr (λ h. none h.0 h.1 h.2)
]

-- ---- what a list contains

-- whether a list has a thing with a property that is decided
pub decided_in : {A : Type 0} (P : A → Type 0) → ((thing : A) → Decided (P thing)) → (things : List A) → Decided ((thing : A) × Contains things thing × P thing)
decided_in P decide [] = inr (λ found. Contains-nil found.0 found.1)
decided_in {A} P decide (first ∷ rest) = by (decide first) (decided_in P decide rest)
  where
    by : Decided (P first) → Decided ((thing : A) × Contains rest thing × P thing) → Decided ((thing : A) × Contains (first ∷ rest) thing × P thing)
    by (inl has) later = inl (first, Contains-head first rest, has)
    by (inr not) (inl (thing, inside, has)) = inl (thing, Contains-rest first rest thing inside, has)
    by (inr not) (inr none) = inr (λ found. elim (Contains-cases first rest found.0 found.1) [
      | inl is ↦ not (subst P (sym is) found.2)
      | inr later ↦ none (found.0, later, found.2)
    ])

-- whether each thing of a list has a property that is decided
pub decided_each : {A : Type 0} (P : A → Type 0) → ((thing : A) → Decided (P thing)) → (things : List A)
    → Decided ((thing : A) → Contains things thing → P thing)
decided_each P decide [] = inl (λ thing none. absurd (Contains-nil thing none))
decided_each {A} P decide (first ∷ rest) = by (decide first) (decided_each P decide rest)
  where
    by : Decided (P first) → Decided ((thing : A) → Contains rest thing → P thing) → Decided ((thing : A) → Contains (first ∷ rest) thing → P thing)
    by (inl here) (inl later) = inl (λ thing inside. elim (Contains-cases first rest thing inside) [
      | inl is ↦ subst P is here
      | inr further ↦ later thing further
    ])
    by (inl here) (inr not) = inr (λ all. not (λ thing inside. all thing (Contains-rest first rest thing inside)))
    by (inr not) later = inr (λ all. not (all first (Contains-head first rest)))

module _ {A : Type 0} where
  pub contains_more : (x : A) (xs ys : List A) → ((z : A) → Contains xs z ↔ Contains ys z) → (z : A) → Contains (x ∷ xs) z → Contains (x ∷ ys) z
  contains_more x xs ys same z h = elim (Contains-cases x xs z h) [
    | inl e ↦ subst (Contains (x ∷ ys)) e (Contains-head x ys)
    | inr later ↦ Contains-rest x ys z ((same z).0 later)
  ]

  -- the items of a list that have a property which is decided at each
  pub kept : (P : A → Type 0) (xs : List A) → ((x : A) → Contains xs x → Decided (P x)) → (ys : List A) × ((z : A) → Contains ys z ↔ (Contains xs z × P z))
  kept P [] decide = ([], λ z. (λ h. absurd (Contains-nil z h), λ h. h.0))
  kept P (x ∷ xs) decide = go (kept P xs (λ z h. decide z (Contains-rest x xs z h))) (decide x (Contains-head x xs))
    where
      go : ((ys : List A) × ((z : A) → Contains ys z ↔ (Contains xs z × P z))) → Decided (P x)
          → (ys : List A) × ((z : A) → Contains ys z ↔ (Contains (x ∷ xs) z × P z))
      go rest (inl p) = (
        x ∷ rest.0,
        λ z. (
          λ h. elim (Contains-cases x rest.0 z h) [
            | inl e ↦ (subst (Contains (x ∷ xs)) e (Contains-head x xs), subst P e p)
            | inr later ↦ (Contains-rest x xs z ((rest.1 z).0 later).0, ((rest.1 z).0 later).1)
          ],
          λ h. elim (Contains-cases x xs z h.0) [
            | inl e ↦ subst (Contains (x ∷ rest.0)) e (Contains-head x rest.0)
            | inr later ↦ Contains-rest x rest.0 z ((rest.1 z).1 (later, h.1))
          ],
        ),
      )
      go rest (inr no_p) = (
        rest.0,
        λ z. (
          λ h. (Contains-rest x xs z ((rest.1 z).0 h).0, ((rest.1 z).0 h).1),
          λ h. elim (Contains-cases x xs z h.0) [
            | inl e ↦ absurd (no_p (subst P (sym e) h.1))
            | inr later ↦ (rest.1 z).1 (later, h.1)
          ],
        ),
      )

  -- ---- pairs

  pub pairs_head : (R : A → A → Type 0) (x : A) (xs : List A) → AllPairs R (x ∷ xs) → (z : A) → Contains xs z → R x z
  pairs_head R x xs pairs z h = subst (R x) h.2 (pairs 0 (suc h.0) z (omega arith) (omega (arith, h.1)))

  pub pairs_tail : (R : A → A → Type 0) (x : A) (xs : List A) → AllPairs R (x ∷ xs) → AllPairs R xs
  pairs_tail R x xs pairs i j d l m = pairs (suc i) (suc j) d (omega (arith, l)) (omega (arith, m))

  pub pairs_cons : (R : A → A → Type 0) (x : A) (xs : List A) → ((z : A) → Contains xs z → R x z) → AllPairs R xs → AllPairs R (x ∷ xs)
  pairs_cons R x xs first pairs = AllPairs-cons R x xs (λ k d l. first (get_or xs k d) (Contains-get_or xs k d l)) pairs

  pub pairs_append : (R : A → A → Type 0) (xs ys : List A) → AllPairs R xs → AllPairs R ys → ((x y : A) → Contains xs x → Contains ys y → R x y)
      → AllPairs R (xs ++ ys)
  pairs_append R [] ys left right across = right
  pairs_append R (x ∷ xs) ys left right across =
      pairs_cons R x (xs ++ ys)
      (λ z h. elim (Contains-append_cases xs ys z h) [ inl there ↦ pairs_head R x xs left z there | inr there ↦ across x z (Contains-head x xs) there ])
      (pairs_append R xs ys (pairs_tail R x xs left) right (λ a b h k. across a b (Contains-rest x xs a h) k))

module _ {A B : Type 0} (f : A → B) where
  pub pairs_map : (R : A → A → Type 0) (S : B → B → Type 0) → ((x y : A) → R x y → S (f x) (f y)) → (xs : List A) → AllPairs R xs → AllPairs S (map f xs)
  pairs_map R S step [] = λ pairs i j d l m. absurd (omega (arith, m))
  pairs_map R S step (x ∷ xs) = λ pairs.
      pairs_cons S (f x) (map f xs)
      (λ z h. let back = Contains-map_from f xs z h in subst (S (f x)) back.2 (step x back.0 (pairs_head R x xs pairs back.0 back.1)))
      (pairs_map R S step xs (pairs_tail R x xs pairs))

-- ---- lists that rise in a total order

module _ {A : Type 0} (cmp : A → A → Ordering) (total : IsTotalOrder cmp) where
  abbrev pub IsBelow : A → A → Type 0
  IsBelow x y = cmp x y ≡ Less

  abbrev pub Rises : List A → Type 0
  Rises xs = AllPairs IsBelow xs

  pub not_less_itself : (x : A) → cmp x x ≡ Less → ⊥
  not_less_itself x e = let tied = tied_itself total x in cc

  pub not_less_both : (x y : A) → cmp x y ≡ Less → cmp y x ≡ Less → ⊥
  not_less_both x y e d = not_less_itself x (total.trans x y x e d)

  -- two rising lists with the same items are one list
  pub one_list : (xs ys : List A) → Rises xs → Rises ys → ((z : A) → Contains xs z ↔ Contains ys z) → xs ≡ ys
  one_list [] [] rises rises' same = refl
  one_list [] (y ∷ ys) rises rises' same = absurd (Contains-nil y ((same y).1 (Contains-head y ys)))
  one_list (x ∷ xs) [] rises rises' same = absurd (Contains-nil x ((same x).0 (Contains-head x xs)))
  one_list (x ∷ xs) (y ∷ ys) rises rises' same =
      ap (λ z. z ∷ xs) heads ∙ ap (λ zs. y ∷ zs) (one_list xs ys (pairs_tail IsBelow x xs rises) (pairs_tail IsBelow y ys rises') tails)
    where
      below : (z : A) → Contains xs z → cmp x z ≡ Less
      below = pairs_head IsBelow x xs rises

      below' : (z : A) → Contains ys z → cmp y z ≡ Less
      below' = pairs_head IsBelow y ys rises'

      heads : x ≡ y
      heads = elim (Contains-cases y ys x ((same x).0 (Contains-head x xs))) [
        | inl e ↦ sym e
        | inr later ↦ elim (Contains-cases x xs y ((same y).1 (Contains-head y ys))) [
          | inl e ↦ e
          | inr later' ↦ absurd (not_less_both x y (below y later') (below' x later))
        ]
      ]

      tails : (z : A) → Contains xs z ↔ Contains ys z
      tails z = (
        λ h. elim (Contains-cases y ys z ((same z).0 (Contains-rest x xs z h))) [
          | inl e ↦ absurd (not_less_itself z (subst (λ a. cmp a z ≡ Less) (heads ∙ e) (below z h)))
          | inr later ↦ later
        ],
        λ h. elim (Contains-cases x xs z ((same z).1 (Contains-rest y ys z h))) [
          | inl e ↦ absurd (not_less_itself z (subst (λ a. cmp a z ≡ Less) (sym heads ∙ e) (below' z h)))
          | inr later ↦ later
        ],
      )

  -- an item put into a rising list, unless it is there
  put_in : (x : A) (ys : List A) → ((z : A) → Contains ys z → cmp x z ≡ Equal → x ≡ z) → Rises ys
      → (zs : List A) × ((z : A) → Contains zs z ↔ ((x ≡ z) ⊎ Contains ys z)) × Rises zs
  put_in x [] exact rises = (
    x ∷ [],
    λ z. (Contains-cases x [] z, λ h. elim h [ inl e ↦ subst (Contains (x ∷ [])) e (Contains-head x []) | inr none ↦ absurd (Contains-nil z none) ]),
    pairs_cons IsBelow x [] (λ z h. absurd (Contains-nil z h)) rises,
  )
  put_in x (y ∷ ys) exact rises = go (cmp x y) refl (put_in x ys (λ z h. exact z (Contains-rest y ys z h)) (pairs_tail IsBelow y ys rises))
    where
      below : (z : A) → Contains ys z → cmp y z ≡ Less
      below = pairs_head IsBelow y ys rises

      go : (o : Ordering) → cmp x y ≡ o → ((zs : List A) × ((z : A) → Contains zs z ↔ ((x ≡ z) ⊎ Contains ys z)) × Rises zs)
          → (zs : List A) × ((z : A) → Contains zs z ↔ ((x ≡ z) ⊎ Contains (y ∷ ys) z)) × Rises zs
      go Less e rest = (
        x ∷ y ∷ ys,
        λ z. (
          Contains-cases x (y ∷ ys) z,
          λ h. elim h [ inl d ↦ subst (Contains (x ∷ y ∷ ys)) d (Contains-head x (y ∷ ys)) | inr later ↦ Contains-rest x (y ∷ ys) z later ],
        ),
        pairs_cons IsBelow x (y ∷ ys) (λ z h. elim (Contains-cases y ys z h)
            [ inl d ↦ subst (λ a. cmp x a ≡ Less) d e | inr later ↦ total.trans x y z e (below z later) ]) rises,
      )
      go Equal e rest = (
        y ∷ ys,
        λ z. (
          inr,
          λ h. elim h
              [ inl d ↦ subst (Contains (y ∷ ys)) (sym (exact y (Contains-head y ys) e) ∙ d) (Contains-head y ys) | inr there ↦ there ],
        ),
        rises,
      )
      go Greater e rest = (
        y ∷ rest.0,
        λ z. (
          λ h. elim (Contains-cases y rest.0 z h) [
            | inl d ↦ inr (subst (Contains (y ∷ ys)) d (Contains-head y ys))
            | inr later ↦ elim ((rest.1 z).0 later) [ inl d ↦ inl d | inr there ↦ inr (Contains-rest y ys z there) ]
          ],
          λ h. elim h [
            | inl d ↦ Contains-rest y rest.0 z ((rest.1 z).1 (inl d))
            | inr there ↦ elim (Contains-cases y ys z there) [
              | inl d ↦ subst (Contains (y ∷ rest.0)) d (Contains-head y rest.0)
              | inr later ↦ Contains-rest y rest.0 z ((rest.1 z).1 (inr later))
            ]
          ],
        ),
        pairs_cons IsBelow y rest.0 (λ z h. elim ((rest.1 z).0 h) [
          | inl d ↦ subst (λ a. cmp y a ≡ Less) d (total.antisymm y x ∙ ap ordering_reverse e)
          | inr there ↦ below z there
        ]) rest.2,
      )

  -- the items of a list, each once and rising
  pub in_order : (xs : List A) → ((x z : A) → Contains xs x → Contains xs z → cmp x z ≡ Equal → x ≡ z)
      → (ys : List A) × ((z : A) → Contains ys z ↔ Contains xs z) × Rises ys
  in_order [] exact = ([], λ z. (λ h. h, λ h. h), λ i j d l m. absurd (omega (arith, m)))
  in_order (x ∷ xs) exact = go (in_order xs (λ a z h k. exact a z (Contains-rest x xs a h) (Contains-rest x xs z k)))
    where
      go : ((ys : List A) × ((z : A) → Contains ys z ↔ Contains xs z) × Rises ys) → (ys : List A) × ((z : A) → Contains ys z ↔ Contains (x ∷ xs) z) × Rises ys
      go rest = let all = put_in x rest.0 (λ z h. exact x z (Contains-head x xs) (Contains-rest x xs z ((rest.1 z).0 h))) rest.2 in (
        all.0,
        λ z. (
          λ h. elim ((all.1 z).0 h) [ inl e ↦ subst (Contains (x ∷ xs)) e (Contains-head x xs) | inr there ↦ Contains-rest x xs z ((rest.1 z).0 there) ],
          λ h. elim (Contains-cases x xs z h) [ inl e ↦ (all.1 z).1 (inl e) | inr later ↦ (all.1 z).1 (inr ((rest.1 z).1 later)) ],
        ),
        all.2,
      )
