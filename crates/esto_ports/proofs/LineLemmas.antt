-- Lines, one after the other.
use Rattle.std.proofs.Common.{◌≡◌, ◌<◌, ◌≤◌, ◌+◌, ◌-◌, ◌∙◌, ◌==◌, ◌||◌, ◌++◌, ℕ, zero, suc, List, [], ◌∷◌, Bool, true, false, not, cond, Some, None, get_or}
use Rattle.std.proofs.Common.{take, drop, length, refl, ap, sym, arith, inl, inr, add-one}
use Rattle.std.specs.Prelude.{position, nat_lt}
use Rattle.std.specs.List.{list_any, prefix_len, position_or_len, onto_first}
use Rattle.std.proofs.lemmas.Bool.{cases_Bool}
use Rattle.std.proofs.lemmas.Bool.Decides.{nat_tests}
use Rattle.std.proofs.lemmas.List.{take_rest}
use Rattle.std.proofs.lemmas.List.Quantifiers.{position-Some}
use Rattle.std.proofs.lemmas.List.Sums.{prefix_len-le-length, sum_by-cons}
use Rattle.esto_ports.specs.Lines.{line_feed, lines_of, feeds_in, with_feed, LinesBeginAnew, LinesJoin, LinesAreCounted}
use Rattle.esto_ports.specs.FileFaults.{or_else, FaultsJoin}

or_left : (a b : Bool) → (a || b) ≡ false → a ≡ false
or_left true b e = cc e
or_left false b e = refl

or_right : (a b : Bool) → (a || b) ≡ false → b ≡ false
or_right true b e = cc e
or_right false b e = e

-- Where no element passes, there is no place of one.
all_pass : {X : Type 0} (p : X → Bool) (xs : List X) → prefix_len (λ x. not (p x)) xs ≡ length xs → list_any p xs ≡ false
all_pass p [] e = refl
all_pass p (x ∷ xs) e = elim (cases_Bool (p x)) [
  | inl passes ↦ absurd (let f : 0 ≡ suc (length xs) = rw passes at e in omega arith)
  | inr fails ↦ let f : 1 + prefix_len (λ x. not (p x)) xs ≡ suc (length xs) = rw fails at e in rw fails (all_pass p xs (omega arith))
]

no_place : (n m : ℕ) → cond (nat_lt n m) (Some n) None ≡ None → n ≤ m → n ≡ m
no_place n m e h = elim (cases_Bool (nat_lt n m)) [
  | inl less ↦ cc (rw less at e)
  | inr more ↦ grind (arith, nat_tests)
]

pub none_passes : {X : Type 0} (p : X → Bool) (xs : List X) → position p xs ≡ None → list_any p xs ≡ false
none_passes p xs e = all_pass p xs (no_place (position_or_len p xs) (length xs) e (prefix_len-le-length (λ x. not (p x)) xs))

-- The first line, up to the first line feed.
line_at : (xs : List ℕ) (i : ℕ) → i < length xs → (get_or xs i 0 == line_feed) ≡ true → ((k : ℕ) → k < i → (get_or xs k 0 == line_feed) ≡ false)
    → lines_of xs ≡ take i xs ∷ lines_of (drop (suc i) xs)
unfolding lines_of
line_at [] i h e before = absurd (omega arith)
line_at (x ∷ xs) zero h e before = rw e refl
line_at (x ∷ xs) (suc i) h e before =
    rw (before 0 (omega arith)) (ap (onto_first x) (line_at xs i (omega arith) e (λ k l. before (suc k) (omega arith))))

pub line_first : (xs : List ℕ) (i : ℕ) → Some i ≡ position (λ b. b == line_feed) xs
    → lines_of xs ≡ take i xs ∷ lines_of (take (length xs - (i + 1)) (drop (i + 1) xs))
line_first xs i e =
    let p = position-Some (λ b. b == line_feed) xs i 0 (sym e) in
    rw (take_rest xs (i + 1), add-one) (line_at xs i p.0 p.1 p.2)

one_line : (xs : List ℕ) → list_any (λ b. b == line_feed) xs ≡ false → 0 < length xs → lines_of xs ≡ xs ∷ []
unfolding lines_of
one_line [] e h = absurd (omega arith)
one_line (x ∷ []) e h = rw (or_left (x == line_feed) _ e) refl
one_line (x ∷ y ∷ ys) e h =
    rw (or_left (x == line_feed) _ e) (ap (onto_first x) (one_line (y ∷ ys) (or_right (x == line_feed) _ e) (omega arith)))

pub line_last : (xs : List ℕ) → None ≡ position (λ b. b == line_feed) xs → 0 < length xs → lines_of xs ≡ xs ∷ lines_of []
unfolding lines_of
line_last xs e h = one_line xs (none_passes (λ b. b == line_feed) xs (sym e)) h

-- A line without a line feed, before one.
pub begin_anew : LinesBeginAnew
unfolding lines_of
begin_anew [] rest h = refl
begin_anew (x ∷ xs) rest h = rw (or_left (x == line_feed) _ h) (ap (onto_first x) (begin_anew xs rest (or_right (x == line_feed) _ h)))

-- A list that has a first item.
onto_some : (x : ℕ) (ls : List (List ℕ)) → 0 < length (onto_first x ls)
onto_some x [] = omega arith
onto_some x (l ∷ ls) = omega arith

onto_append : (x : ℕ) (ls ms : List (List ℕ)) → 0 < length ls → onto_first x (ls ++ ms) ≡ onto_first x ls ++ ms
onto_append x [] ms h = absurd (omega arith)
onto_append x (l ∷ ls) ms h = refl

onto_length : (x : ℕ) (ls : List (List ℕ)) → 0 < length ls → length (onto_first x ls) ≡ length ls
onto_length x [] h = absurd (omega arith)
onto_length x (l ∷ ls) h = refl

lines_some : (bytes : List ℕ) → 0 < length (lines_of (with_feed bytes))
unfolding lines_of
lines_some [] = omega arith
lines_some (x ∷ xs) = elim (cases_Bool (x == line_feed)) [
  | inl feed ↦ rw feed (omega arith)
  | inr other ↦ rw other (onto_some x (lines_of (with_feed xs)))
]

pub lines_join : LinesJoin
unfolding lines_of
lines_join [] after = refl
lines_join (x ∷ xs) after = elim (cases_Bool (x == line_feed)) [
  | inl feed ↦ rw feed (ap (λ (ls : List (List ℕ)). [] ∷ ls) (lines_join xs after))
  | inr other ↦ rw other (ap (onto_first x) (lines_join xs after) ∙ onto_append x (lines_of (with_feed xs)) (lines_of after) (lines_some xs))
]

feeds_more : (x : ℕ) (ys : List ℕ) → (x == line_feed) ≡ true → suc (feeds_in ys) ≡ feeds_in (x ∷ ys)
feeds_more x ys e =
    let h = sum_by-cons (λ (b : ℕ). cond (b == line_feed) 1 0) x ys in
    let one : cond {A = ℕ} (x == line_feed) 1 0 ≡ 1 = rw e refl in
    omega (arith, h, one)

feeds_same : (x : ℕ) (ys : List ℕ) → (x == line_feed) ≡ false → feeds_in ys ≡ feeds_in (x ∷ ys)
feeds_same x ys e =
    let h = sum_by-cons (λ (b : ℕ). cond (b == line_feed) 1 0) x ys in
    let none : cond {A = ℕ} (x == line_feed) 1 0 ≡ 0 = rw e refl in
    omega (arith, h, none)

pub lines_count : LinesAreCounted
unfolding lines_of
lines_count [] = refl
lines_count (x ∷ xs) = elim (cases_Bool (x == line_feed)) [
  | inl feed ↦ rw feed (ap suc (lines_count xs) ∙ feeds_more x (with_feed xs) feed)
  | inr other ↦ rw other (onto_length x (lines_of (with_feed xs)) (lines_some xs) ∙ lines_count xs ∙ feeds_same x (with_feed xs) other)
]

-- Faults that are found line by line.
pub faults_join : FaultsJoin
faults_join fault goes bytes after =
    let first = lines_of (with_feed bytes) in
    ap (fault 1) (lines_join bytes after)
    ∙ goes.append 1 first (lines_of after)
    ∙ ap (or_else (fault 1 first)) (goes.move 1 (length first) (lines_of after) ∙ rw (lines_count bytes) refl)
