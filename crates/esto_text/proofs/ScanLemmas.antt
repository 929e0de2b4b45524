-- What the loops over bytes keep.
use Rattle.std.proofs.Common.{◌≡◌, ◌≢◌, ℕ, ◌+◌, ◌<◌, ◌≤◌, ◌⊎◌, inl, inr, Bool, true, false, eqb, List, [], ◌∷◌, ◌++◌, length, take, drop, get_or, Option, Some}
use Rattle.std.proofs.Common.{None, refl, sym, ap, subst, ◌∙◌, append_assoc, arith}
use Rattle.std.specs.List.{flat_map}
use Rattle.std.specs.Prelude.{◌↔◌, IsTrue, MatchBool}
use Rattle.std.proofs.lemmas.List.{append-nil, take_more, take_all, drop_all, take_at, length-append, take-append-drop, take-append-le}
use Rattle.std.proofs.lemmas.Bool.{false≢true, eqb-true, cases_lt}
use Rattle.esto_text.specs.Gaps.{IsGap, IsComment}
use Rattle.esto_text.specs.Quotes.{written, closed, IsClosed, LongestClosed}

-- ---- classes

-- a test that tells which of two facts holds tells the first, where both can't hold
pub told_apart : {P Q : Type 0} (told : Bool) → MatchBool told P Q → (P → Q → ⊥) → IsTrue told ↔ P
told_apart true holds apart = (λ _. holds, λ _. refl)
told_apart false other apart = (λ yes. absurd (false≢true yes), λ holds. absurd (apart holds other))

-- what is within bounds is not beyond them
pub not_beyond : (least most byte : ℕ) → (least ≤ byte) × (byte ≤ most) → (byte < least) ⊎ (most < byte) → ⊥
not_beyond least most byte within (inl below) = omega (arith, within.0, below)
not_beyond least most byte within (inr above) = omega (arith, within.1, above)

-- one more byte at the front
front_more : (bytes : List ℕ) (n : ℕ) (x : List ℕ) → n < length bytes → take (n + 1) bytes ++ x ≡ take n bytes ++ (get_or bytes n 0 ∷ x)
front_more bytes n x lt = ap (λ (l : List ℕ). l ++ x) (take_more bytes n 0 lt) ∙ append_assoc (take n bytes) (get_or bytes n 0 ∷ []) x

-- ---- gaps

abbrev pub GapFrom : Bool → List ℕ → List ℕ → Type 0
GapFrom false gap after = IsGap gap after
GapFrom true gap after = IsComment gap after

-- whatever completes what is left completes the gap
abbrev pub GapSoFar : List ℕ → ℕ → Bool → Type 0
GapSoFar bytes n c = (gap : List ℕ) (after : List ℕ) → GapFrom c gap after → IsGap (take n bytes ++ gap) after

pub gap_ends : (bytes : List ℕ) (n : ℕ) (c : Bool) → length bytes ≤ n → GapSoFar bytes n c → IsGap (take (length bytes) bytes) (drop (length bytes) bytes)
gap_ends bytes n c le h =
    let nothing : GapFrom c [] [] = elim c as (λ b. GapFrom b [] []) [ true ↦ refl | false ↦ tt ] in
    let whole : take n bytes ++ [] ≡ take (length bytes) bytes = append-nil (take n bytes) ∙ take_all n bytes le
    ∙ sym (take_all (length bytes) bytes (omega arith)) in
    let rest : [] ≡ drop (length bytes) bytes = sym (drop_all (length bytes) bytes (omega arith)) in
    subst (λ (l : List ℕ). IsGap l (drop (length bytes) bytes)) whole (subst (λ (l : List ℕ). IsGap (take n bytes ++ []) l) rest (h [] [] nothing))

pub gap_stops : (bytes : List ℕ) (n : ℕ) (c : Bool) → c ≡ false → GapSoFar bytes n c → IsGap (take n bytes) (drop n bytes)
gap_stops bytes n c e h =
    let open' : GapFrom c [] (drop n bytes) = subst (λ (b : Bool). GapFrom b [] (drop n bytes)) (sym e) tt in
    subst (λ (l : List ℕ). IsGap l (drop n bytes)) (append-nil (take n bytes)) (h [] (drop n bytes) open')

-- ---- quoted constants

written_cases : (x : ℕ) → ((x ≡ 39) × (written x ≡ 39 ∷ 39 ∷ [])) ⊎ ((x ≢ 39) × (written x ≡ x ∷ []))
written_cases x = go (eqb x 39) refl
  where
    go : (b : Bool) → eqb x 39 ≡ b → ((x ≡ 39) × (written x ≡ 39 ∷ 39 ∷ [])) ⊎ ((x ≢ 39) × (written x ≡ x ∷ []))
    go true e = inl (eqb-true x 39 e, rw e refl)
    go false e = inr (λ (is : x ≡ 39). let t : eqb x 39 ≡ true = rw is refl in absurd cc, rw e refl)

-- what is left behind a quote that may be the last one, and elsewhere
abbrev pub StateQ : Bool → List ℕ → Type 0
StateQ false t = IsClosed t
StateQ true t = (t ≡ []) ⊎ ((u : List ℕ) × (t ≡ 39 ∷ u) × IsClosed u)

pub not_closed_nil : IsClosed [] → ⊥
not_closed_nil ([], ok, e) = absurd cc
not_closed_nil (x ∷ xs, ok, e) =
    elim (written_cases x) [
      | inl w ↦ let e2 : [] ≡ 39 ∷ 39 ∷ closed xs = e ∙ ap (λ (l : List ℕ). (l ++ flat_map written xs) ++ 39 ∷ []) w.1 in absurd cc
      | inr w ↦ let e2 : [] ≡ x ∷ closed xs = e ∙ ap (λ (l : List ℕ). (l ++ flat_map written xs) ++ 39 ∷ []) w.1 in absurd cc
    ]

pub closed_cons : (b : ℕ) (t : List ℕ) → IsClosed (b ∷ t) → ((b ≡ 39) × StateQ true t) ⊎ ((b ≢ 39) × (32 ≤ b) × IsClosed t)
closed_cons b t ([], ok, e) = let p : b ≡ 39 = cc in let q : t ≡ [] = cc in inl (p, inl q)
closed_cons b t (x ∷ xs, ok, e) =
    elim (written_cases x) [
      | inl w ↦ let e2 : b ∷ t ≡ 39 ∷ 39 ∷ closed xs = e ∙ ap (λ (l : List ℕ). (l ++ flat_map written xs) ++ 39 ∷ []) w.1 in
          let p : b ≡ 39 = cc in let q : t ≡ 39 ∷ closed xs = cc in inl (p, inr (closed xs, q, (xs, ok.1, refl)))
      | inr w ↦ let e2 : b ∷ t ≡ x ∷ closed xs = e ∙ ap (λ (l : List ℕ). (l ++ flat_map written xs) ++ 39 ∷ []) w.1 in
          let p : b ≡ x = cc in let q : t ≡ closed xs = cc in let r : b ≢ 39 = λ (is : b ≡ 39). w.0 (sym p ∙ is) in
          inr (r, omega (arith, ok.0), (xs, ok.1, q))
    ]

pub quote_cons : (b : ℕ) (t : List ℕ) → b ≡ 39 → StateQ true t → IsClosed (b ∷ t)
quote_cons b t p (inl e) = ([], tt, cc)
quote_cons b t p (inr (u, e, (content, ok, e'))) = (39 ∷ content, (omega arith, ok), cc)

pub inside_cons : (b : ℕ) (t : List ℕ) → (b ≢ 39) → 32 ≤ b → IsClosed t → IsClosed (b ∷ t)
inside_cons b t ne le (content, ok, e) =
    elim (written_cases b) [
      | inl w ↦ absurd (ne w.0)
      | inr w ↦ (b ∷ content, (le, ok), ap (λ (l : List ℕ). b ∷ l) e ∙ sym (ap (λ (l : List ℕ). (l ++ flat_map written content) ++ 39 ∷ []) w.1))
    ]

abbrev pub Best : List ℕ → ℕ → Option ℕ → Type 0
Best bytes n None = (k : ℕ) → k ≤ n → IsClosed (take k bytes) → ⊥
Best bytes n (Some m) = (m ≤ n) × IsClosed (take m bytes) × ((k : ℕ) → k ≤ n → IsClosed (take k bytes) → k ≤ m)

pub record QuoteSoFar (bytes : List ℕ) (n : ℕ) (found : Option ℕ) (last : Bool) : Type 0 where
  pub forth : (t : List ℕ) → StateQ last t → IsClosed (take n bytes ++ t)
  pub back : (t : List ℕ) → IsClosed (take n bytes ++ t) → StateQ last t
  pub best : Best bytes n found

-- where no constant ends at the new place, what was found stays
best_stays : (bytes : List ℕ) (n : ℕ) (found : Option ℕ) → Best bytes n found → (IsClosed (take (n + 1) bytes) → ⊥) → Best bytes (n + 1) found
best_stays bytes n None h none = λ k le closed'.
    elim (cases_lt k (n + 1)) [
      | inl lt ↦ h k (omega arith) closed'
      | inr ge ↦ let e : k ≡ n + 1 = omega arith in
          none (subst (λ (i : ℕ). IsClosed (take i bytes)) e closed')
    ]
best_stays bytes n (Some m) h none = (
  omega (arith, h.0),
  h.1,
  λ k le closed'.
      elim (cases_lt k (n + 1)) [
        | inl lt ↦ h.2 k (omega arith) closed'
        | inr ge ↦ let e : k ≡ n + 1 = omega arith in
            absurd (none (subst (λ (i : ℕ). IsClosed (take i bytes)) e closed'))
      ],
)

module _ (bytes : List ℕ) (n : ℕ) (found : Option ℕ) (lt : n < length bytes) where
  pub quote_more : (last last' : Bool) (found' : Option ℕ) → QuoteSoFar bytes n found last
      → ((t : List ℕ) → StateQ last' t → StateQ last (get_or bytes n 0 ∷ t)) → ((t : List ℕ) → StateQ last (get_or bytes n 0 ∷ t) → StateQ last' t)
      → Best bytes (n + 1) found' → QuoteSoFar bytes (n + 1) found' last'
  quote_more last last' found' h to from best = record {
    forth = λ t s. subst IsClosed (sym (front_more bytes n t lt)) (h.forth (get_or bytes n 0 ∷ t) (to t s));
    back = λ t s. from t (h.back (get_or bytes n 0 ∷ t) (subst IsClosed (front_more bytes n t lt) s));
    best = best;
  }

  at_next : (last : Bool) → QuoteSoFar bytes n found last → IsClosed (take (n + 1) bytes) → StateQ last (get_or bytes n 0 ∷ [])
  at_next last h s = h.back (get_or bytes n 0 ∷ []) (subst IsClosed (sym (append-nil (take (n + 1) bytes)) ∙ front_more bytes n [] lt) s)

  pub quote_reopens : QuoteSoFar bytes n found true → get_or bytes n 0 ≡ 39 → QuoteSoFar bytes (n + 1) found false
  quote_reopens h is =
      let to : (t : List ℕ) → StateQ false t → StateQ true (get_or bytes n 0 ∷ t) = λ t s. inr (t, ap (λ (b : ℕ). b ∷ t) is, s) in
      let from : (t : List ℕ) → StateQ true (get_or bytes n 0 ∷ t) → StateQ false t = λ t. elim [
        | inl e ↦ absurd cc
        | inr s ↦ let e : t ≡ s.0 = cc in
            subst IsClosed (sym e) s.2
      ] in
      quote_more true false found h to from (best_stays bytes n found h.best (λ s. not_closed_nil (from [] (at_next true h s))))

  pub quote_closes : QuoteSoFar bytes n found false → get_or bytes n 0 ≡ 39 → QuoteSoFar bytes (n + 1) (Some (n + 1)) true
  quote_closes h is =
      let from : (t : List ℕ) → IsClosed (get_or bytes n 0 ∷ t) → StateQ true t =
      λ t s. elim (closed_cons (get_or bytes n 0) t s) [ inl w ↦ w.1 | inr w ↦ absurd (w.0 is) ] in
      let here : IsClosed (take (n + 1) bytes) = subst IsClosed (sym (sym (append-nil (take (n + 1) bytes)) ∙ front_more bytes n [] lt))
      (h.forth (get_or bytes n 0 ∷ []) (quote_cons (get_or bytes n 0) [] is (inl refl))) in
      quote_more false true (Some (n + 1)) h (λ t s. quote_cons (get_or bytes n 0) t is s) from (omega arith, here, λ k le s. le)

  pub quote_inside : QuoteSoFar bytes n found false → (get_or bytes n 0 ≢ 39) → 32 ≤ get_or bytes n 0 → QuoteSoFar bytes (n + 1) found false
  quote_inside h ne le =
      let from : (t : List ℕ) → IsClosed (get_or bytes n 0 ∷ t) → StateQ false t =
      λ t s. elim (closed_cons (get_or bytes n 0) t s) [ inl w ↦ absurd (ne w.0) | inr w ↦ w.2 ] in
      quote_more false false found h (λ t s. inside_cons (get_or bytes n 0) t ne le s) from
      (best_stays bytes n found h.best (λ s. not_closed_nil (from [] (at_next false h s))))

-- a text at the front is the front of its length
pub front_is : (bytes text after : List ℕ) → text ++ after ≡ bytes → take (length text) bytes ≡ text
front_is bytes text after e = ap (take (length text)) (sym e) ∙ take_at text after (length text) refl

pub quote_ends : (bytes : List ℕ) (n : ℕ) (found : Option ℕ) (last : Bool) → n ≤ length bytes → QuoteSoFar bytes n found last
    → (n < length bytes → (t : List ℕ) → StateQ last (get_or bytes n 0 ∷ t) → ⊥) → LongestClosed bytes found
quote_ends bytes n found last le h stuck = go found h.best
  where
    short : (text after : List ℕ) → text ++ after ≡ bytes → IsClosed text → length text ≤ n
    short text after e s =
        elim (cases_lt n (length text)) [
          | inl lt ↦
              let is : take (length text) bytes ≡ text = front_is bytes text after e in
              let long : length text ≤ length bytes = omega (arith, length-append text after, ap length e) in
              let parts : take (n + 1) text ++ drop (n + 1) text ≡ text = take-append-drop (n + 1) text in
              let same : take (n + 1) text ≡ take (n + 1) bytes = sym (take-append-le (n + 1) text after (omega arith)) ∙ ap (take (n + 1)) e in
              let whole : text ≡ take n bytes ++ (get_or bytes n 0 ∷ drop (n + 1) text) = sym parts ∙ ap (λ (l : List ℕ). l ++ drop (n + 1) text) same
              ∙ front_more bytes n (drop (n + 1) text) (omega arith) in
              absurd (stuck (omega arith) (drop (n + 1) text) (h.back (get_or bytes n 0 ∷ drop (n + 1) text) (subst IsClosed whole s)))
          | inr ge ↦ ge
        ]

    go : (f : Option ℕ) → Best bytes n f → LongestClosed bytes f
    go None b = λ text after e s. b (length text) (short text after e s) (subst IsClosed (sym (front_is bytes text after e)) s)
    go (Some m) b = (omega (arith, b.0), b.1, λ text after e s. b.2 (length text) (short text after e s) (subst IsClosed (sym (front_is bytes text after e)) s))

-- behind a quote that may be the last stands a quote or nothing, and elsewhere no control byte
pub quote_stuck : (last : Bool) (b : ℕ) (t : List ℕ) → (b ≢ 39) → (last ≡ true) ⊎ (b < 32) → StateQ last (b ∷ t) → ⊥
quote_stuck true b t ne why (inl e) = absurd cc
quote_stuck true b t ne why (inr s) = let e : b ≡ 39 = cc in ne e
quote_stuck false b t ne (inl e) s = absurd cc
quote_stuck false b t ne (inr lt) s = elim (closed_cons b t s) [ inl w ↦ ne w.0 | inr w ↦ omega (arith, w.1) ]
