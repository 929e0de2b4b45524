-- Whole texts: the place of a fault, and what a text has as its tree.
use Rattle.std.proofs.Common.{inl, ◌≡◌, ℕ, zero, suc, ◌+◌, ◌-◌, ◌≤◌, Bool, true, false, cond, inr, List, [], ◌∷◌, ◌++◌, length, drop, Some, refl, sym, ap}
use Rattle.std.proofs.Common.{subst, ◌∙◌, append_assoc, arith}
use Rattle.std.specs.Prelude.{map}
use Rattle.std.proofs.lemmas.List.{append-nil, length-append, map-append, drop-map}
use Rattle.std.proofs.Math.Seq.{drop-append_seam}
use Rattle.esto_text.specs.declared.fault.ReadError.{ReadError}
use Rattle.esto_text.specs.declared.fault.ReadError.TheVariants.{Fault, OutOfMemory}
use Rattle.esto_text.specs.declared.fault.TextKind.TheVariants as kind
use Rattle.esto_text.specs.declared.stop.Stop.{Stop}
use Rattle.esto_text.specs.declared.stop.Stop.TheVariants as stop
use Rattle.esto_text.specs.declared.stop.Stop.TheVariants.{Syntax}
use Rattle.esto_text.specs.declared.token.Token.{Token}
use Rattle.esto_text.specs.Faults.{IsErrorOf, IsViable, Leaves, StopsAt, place_of, IsTextOf, IsFaultOf, IsOnlyTree, IsGrammarFault, IsLayoutGrammarFault}
use Rattle.esto_text.specs.Faults.{LeavesWithin, error_of, IsUnionGrammarFault, HaveOneTree, HaveNoFault, HaveOneFault}
use Rattle.esto_text.specs.Grammar.{class_of, IsLayout, IsQuery, IsConstraint}
use Rattle.esto_text.specs.Limits.{is_close, is_name, in_room, limited_row, limited, Reached, Nothing, Part, Head, reached_then, limited_token, limited_after}
use Rattle.esto_text.specs.Limits.{limited_union}
use Rattle.esto_text.specs.Machine.{Symbol, start, constraint_start, layout_start, first_fault, FailsAt, ConstraintFails, UnionFails}
use Rattle.esto_text.specs.Tokens.{AreTokens, IsTokenError}
use Rattle.esto_text.proofs.Languages.{fault_is, constraint_fault_is, layout_fault_is}
use Rattle.esto_text.proofs.Covering.{covers_unique}

-- why there are no tokens is why there is no tree
pub token_error : {T : Type 0} (IsTree : T → List Token → Type 0) (marked : List Token → List Token) (bytes : List ℕ) (error : ReadError)
    → IsTokenError bytes error → IsErrorOf (IsFaultOf IsTree marked) bytes error
token_error IsTree marked bytes (Fault fault) is = inl is
token_error IsTree marked bytes OutOfMemory is = is

-- ---- places

abbrev starts : List Token → List ℕ
starts ts = map (λ t. t.start) ts

abbrev place_by : List ℕ → ℕ → ℕ
place_by [] n = n
place_by (x ∷ xs) n = x

place_is : (ts : List Token) (n : ℕ) → place_of ts n ≡ place_by (starts ts) n
place_is [] n = refl
place_is (t ∷ ts) n = refl

-- a limit changes no place
starts_limited_row : (room : ℕ) (ts : List Token) → starts (limited_row room ts) ≡ starts ts
starts_limited_row room [] = refl
starts_limited_row room (t ∷ ts) = go (is_close (class_of t)) (is_name (class_of t)) (starts_limited_row room ts) (starts_limited_row (room - 1) ts)
  where
    here : (r : ℕ) → (in_room r t).start ≡ t.start
    here zero = refl
    here (suc r) = refl

    go : (b c : Bool) → starts (limited_row room ts) ≡ starts ts → starts (limited_row (room - 1) ts) ≡ starts ts
        → starts (cond b (t ∷ ts) (cond c (in_room room t ∷ limited_row (room - 1) ts) (t ∷ limited_row room ts))) ≡ starts (t ∷ ts)
    go true c p q = refl
    go false true p q = ap (λ (n : ℕ). n ∷ starts (limited_row (room - 1) ts)) (here room) ∙ ap (λ (l : List ℕ). t.start ∷ l) q
    go false false p q = ap (λ (l : List ℕ). t.start ∷ l) p

starts_limited : (ts : List Token) → starts (limited ts) ≡ starts ts
starts_limited [] = refl
starts_limited (t ∷ ts) = ap (λ (l : List ℕ). t.start ∷ l) (starts_limited_row 32 ts)

room_start : (room : ℕ) (t : Token) → (in_room room t).start ≡ t.start
room_start zero t = refl
room_start (suc room) t = refl

token_start : (reached : Reached) (t : Token) → (limited_token reached t).start ≡ t.start
token_start Nothing t = refl
token_start Head t = refl
token_start (Part room) t = go (is_close (class_of t)) (is_name (class_of t))
  where
    go : (close name : Bool) → (cond close t (cond name (in_room room t) t)).start ≡ t.start
    go true name = refl
    go false true = room_start room t
    go false false = refl

starts_after : (reached : Reached) (ts : List Token) → starts (limited_after reached ts) ≡ starts ts
starts_after reached [] = refl
starts_after reached (t ∷ ts) =
    let first = token_start reached t in let rest = starts_after (reached_then reached (class_of t)) ts in λ i. first i ∷ rest i

length_starts : (ts : List Token) → length (starts ts) ≡ length ts
length_starts [] = refl
length_starts (t ∷ ts) = ap suc (length_starts ts)

-- the tokens as a grammar sees them, each at its place
module _ (marked : List Token → List Token) (kept : (ts : List Token) → starts (marked ts) ≡ starts ts) where
  module _ (ts : List Token) (front rest : List Token) (e : marked ts ≡ front ++ rest) where
    starts_split : starts ts ≡ starts front ++ starts rest
    starts_split = sym (kept ts) ∙ ap starts e ∙ map-append (λ t. t.start) front rest

    lengths : length ts ≡ length front + length rest
    lengths = omega (arith, length_starts ts, ap length starts_split, length-append (starts front) (starts rest), length_starts front, length_starts rest)

    place_same : (n : ℕ) → place_of rest n ≡ place_of (drop (length ts - length rest) ts) n
    place_same n =
        let k : length ts - length rest ≡ length (starts front) = omega (arith, lengths, length_starts front) in
        let d : starts (drop (length ts - length rest) ts) ≡ starts rest =
        sym (drop-map (λ t. t.start) (length ts - length rest) ts) ∙ ap (λ (i : ℕ). drop i (starts ts)) k ∙ ap (drop (length (starts front))) starts_split
        ∙ drop-append_seam (starts front) (starts rest) in
        place_is rest n ∙ ap (λ (l : List ℕ). place_by l n) (sym d) ∙ sym (place_is (drop (length ts - length rest) ts) n)

  module _ {T : Type 0} (IsTree : T → List Token → Type 0) (whole : List Symbol) (ts : List Token)
      (stops : (rest : List Token) → first_fault whole (marked ts) ≡ Some rest → StopsAt IsTree (marked ts) rest) where
    left_is : (left : ℕ) → FailsAt whole (marked ts) (Syntax left) → left ≤ length ts
    left_is left (rest, e, n) = let f = stops rest e in omega (arith, n, lengths ts f.0 rest f.1)

    fault_at : (bytes : List ℕ) (left offset : ℕ) → AreTokens bytes ts → FailsAt whole (marked ts) (Syntax left)
        → offset ≡ place_of (drop (length ts - left) ts) (length bytes) → IsFaultOf IsTree marked bytes (record { offset = offset; kind = kind.Syntax })
    fault_at bytes left offset h (rest, e, n) p =
        let f = stops rest e in
        let q : offset ≡ place_of rest (length bytes) = p ∙ ap (λ (i : ℕ). place_of (drop (length ts - i) ts) (length bytes)) n
        ∙ sym (place_same ts f.0 rest f.1 (length bytes)) in
        inr (ts, rest, h, f, ap (λ (i : ℕ). record { offset = i; kind = kind.Syntax }) q)

pub left_fits : (ts : List Token) (left : ℕ) → FailsAt start (limited ts) (Syntax left) → left ≤ length ts
left_fits ts = left_is limited starts_limited IsQuery start ts (fault_is (limited ts))

pub syntax_fault : (bytes : List ℕ) (ts : List Token) (left offset : ℕ) → AreTokens bytes ts → FailsAt start (limited ts) (Syntax left) → offset
    ≡ place_of (drop (length ts - left) ts) (length bytes)
    → IsGrammarFault bytes (record { offset = offset; kind = kind.Syntax })
syntax_fault bytes ts = fault_at limited starts_limited IsQuery start ts (fault_is (limited ts)) bytes

abbrev unmarked : List Token → List Token
unmarked tokens = tokens

pub layout_left_fits : (ts : List Token) (left : ℕ) → FailsAt layout_start ts (Syntax left) → left ≤ length ts
layout_left_fits ts = left_is unmarked (λ ts. refl) IsLayout layout_start ts (layout_fault_is ts)

pub layout_syntax_fault : (bytes : List ℕ) (ts : List Token) (left offset : ℕ) → AreTokens bytes ts → FailsAt layout_start ts (Syntax left) → offset
    ≡ place_of (drop (length ts - left) ts) (length bytes)
    → IsLayoutGrammarFault bytes (record { offset = offset; kind = kind.Syntax })
layout_syntax_fault bytes ts = fault_at unmarked (λ ts. refl) IsLayout layout_start ts (layout_fault_is ts) bytes

module _ (IsFalse : Token → Type 0) (ts : List Token) (left : ℕ) (fails : ConstraintFails IsFalse ts (Syntax left)) where
  stops : (rest : List Token) → first_fault constraint_start ts ≡ Some rest → StopsAt (IsConstraint IsFalse) ts rest
  stops rest e = constraint_fault_is IsFalse ts rest fails.0 e

  pub constraint_left_fits : left ≤ length ts
  constraint_left_fits = left_is unmarked (λ ts. refl) (IsConstraint IsFalse) constraint_start ts stops left fails.1

  pub constraint_syntax_fault : (bytes : List ℕ) (offset : ℕ) → AreTokens bytes ts → offset ≡ place_of (drop (length ts - left) ts) (length bytes)
      → IsFaultOf (IsConstraint IsFalse) unmarked bytes (record { offset = offset; kind = kind.Syntax })
  constraint_syntax_fault bytes offset h p =
      fault_at unmarked (λ ts. refl) (IsConstraint IsFalse) constraint_start ts stops bytes left offset h fails.1 p

pub union_left_fits : (ts : List Token) (left : ℕ) → UnionFails ts (Syntax left) → left ≤ length ts
union_left_fits ts left (rest, (front, e, viable, leaves), n) = omega (arith, n, lengths limited_union (starts_after Nothing) ts front rest e)

pub union_syntax_fault : (bytes : List ℕ) (ts : List Token) (left offset : ℕ) → AreTokens bytes ts → UnionFails ts (Syntax left)
    → offset ≡ place_of (drop (length ts - left) ts) (length bytes) → IsUnionGrammarFault bytes (record { offset = offset; kind = kind.Syntax })
union_syntax_fault bytes ts left offset h (rest, (front, e, viable, leaves), n) p =
    let q : offset ≡ place_of rest (length bytes) = p ∙ ap (λ (i : ℕ). place_of (drop (length ts - i) ts) (length bytes)) n
    ∙ sym (place_same limited_union (starts_after Nothing) ts front rest e (length bytes)) in
    inr (ts, rest, h, (front, e, viable, leaves), ap (λ (i : ℕ). record { offset = i; kind = kind.Syntax }) q)

-- why a text is not read, whose tokens were not read for this cause
pub query_within : (ts : List Token) (cause : Stop) → FailsAt start (limited ts) cause → LeavesWithin ts cause
query_within ts stop.OutOfMemory fails = tt
query_within ts (Syntax left) fails = left_fits ts left fails

pub query_error : (bytes : List ℕ) (ts : List Token) (cause : Stop) → AreTokens bytes ts → FailsAt start (limited ts) cause
    → IsErrorOf IsGrammarFault bytes (error_of ts (length bytes) cause)
query_error bytes ts stop.OutOfMemory tokens fails = tokens.0
query_error bytes ts (Syntax left) tokens fails = syntax_fault bytes ts left _ tokens fails refl

pub layout_within : (ts : List Token) (cause : Stop) → FailsAt layout_start ts cause → LeavesWithin ts cause
layout_within ts stop.OutOfMemory fails = tt
layout_within ts (Syntax left) fails = layout_left_fits ts left fails

pub layout_error : (bytes : List ℕ) (ts : List Token) (cause : Stop) → AreTokens bytes ts → FailsAt layout_start ts cause
    → IsErrorOf IsLayoutGrammarFault bytes (error_of ts (length bytes) cause)
layout_error bytes ts stop.OutOfMemory tokens fails = tokens.0
layout_error bytes ts (Syntax left) tokens fails = layout_syntax_fault bytes ts left _ tokens fails refl

pub union_within : (ts : List Token) (cause : Stop) → UnionFails ts cause → LeavesWithin ts cause
union_within ts stop.OutOfMemory fails = tt
union_within ts (Syntax left) fails = union_left_fits ts left fails

pub union_error : (bytes : List ℕ) (ts : List Token) (cause : Stop) → AreTokens bytes ts → UnionFails ts cause
    → IsErrorOf IsUnionGrammarFault bytes (error_of ts (length bytes) cause)
union_error bytes ts stop.OutOfMemory tokens fails = tokens.0
union_error bytes ts (Syntax left) tokens fails = union_syntax_fault bytes ts left _ tokens fails refl

pub constraint_within : (IsFalse : Token → Type 0) (ts : List Token) (cause : Stop) → ConstraintFails IsFalse ts cause → LeavesWithin ts cause
constraint_within IsFalse ts stop.OutOfMemory fails = tt
constraint_within IsFalse ts (Syntax left) fails = constraint_left_fits IsFalse ts left fails

pub constraint_error : (IsFalse : Token → Type 0) (bytes : List ℕ) (ts : List Token) (cause : Stop) → AreTokens bytes ts → ConstraintFails IsFalse ts cause
    → IsErrorOf (IsFaultOf (IsConstraint IsFalse) unmarked) bytes (error_of ts (length bytes) cause)
constraint_error IsFalse bytes ts stop.OutOfMemory tokens fails = tokens.0
constraint_error IsFalse bytes ts (Syntax left) tokens fails = constraint_syntax_fault IsFalse ts left fails bytes _ tokens refl

-- ---- one tree, or one fault

same_tokens : (bytes : List ℕ) (ts us : List Token) → AreTokens bytes ts → AreTokens bytes us → ts ≡ us
same_tokens bytes ts us h g = covers_unique 0 bytes ts us h.1 g.1

along : (pre : List Token) (x : Token) (front : List Token) → pre ++ x ∷ front ≡ (pre ++ x ∷ []) ++ front
along pre x front = sym (append_assoc pre (x ∷ []) front)

module _ {T : Type 0} (IsTree : T → List Token → Type 0) where
  -- where the text leaves the grammar it is no text of it
  leaves_none : (q : T) (front rest : List Token) → Leaves IsTree front rest → ¬ IsTree q (front ++ rest)
  leaves_none q front [] h g = h q (subst (IsTree q) (append-nil front) g)
  leaves_none q front (t ∷ rest) h g = h (q, rest, subst (IsTree q) (sym (append_assoc front (t ∷ []) rest)) g)

  -- what begins a text that begins a text begins one
  viable_front : (pre : List Token) (x : Token) (front : List Token) → IsViable IsTree (pre ++ x ∷ front) → IsViable IsTree (pre ++ x ∷ [])
  viable_front pre x front (q, more, h) = (
    q,
    front ++ more,
    subst (IsTree q) (append_assoc pre (x ∷ front) more
        ∙ sym (append_assoc pre (x ∷ []) (front ++ more))) h,
  )

  not_sooner : (pre : List Token) (rest : List Token) (x : Token) (front rest' : List Token) → rest ≡ x ∷ (front ++ rest') → Leaves IsTree (pre ++ []) rest
      → ¬ IsViable IsTree (pre ++ x ∷ front)
  not_sooner pre [] x front rest' e leaves viable = absurd cc
  not_sooner pre (t ∷ rest) x front rest' e leaves viable =
      let same : x ≡ t = cc in
      leaves (subst (λ (l : List Token). IsViable IsTree (l ++ t ∷ [])) (sym (append-nil pre))
      (subst (λ (y : Token). IsViable IsTree (pre ++ y ∷ [])) same (viable_front pre x front viable)))

  one_stop : (pre front rest front' rest' : List Token) → front ++ rest ≡ front' ++ rest' → IsViable IsTree (pre ++ front) → Leaves IsTree (pre ++ front) rest
      → IsViable IsTree (pre ++ front')
      → Leaves IsTree (pre ++ front') rest' → rest ≡ rest'
  one_stop pre [] rest [] rest' e v l v' l' = e
  one_stop pre [] rest (x ∷ front') rest' e v l v' l' = absurd (not_sooner pre rest x front' rest' e l v')
  one_stop pre (x ∷ front) rest [] rest' e v l v' l' = absurd (not_sooner pre rest' x front rest (sym e) l' v)
  one_stop pre (x ∷ front) rest (y ∷ front') rest' e v l v' l' =
      let same : x ≡ y = cc in
      let more : front ++ rest ≡ front' ++ rest' = cc in
      let whole : pre ++ y ∷ front' ≡ (pre ++ x ∷ []) ++ front' = ap (λ (z : Token). pre ++ z ∷ front') (sym same) ∙ along pre x front' in
      one_stop (pre ++ x ∷ []) front rest front' rest' more (subst (IsViable IsTree) (along pre x front) v)
      (subst (λ (w : List Token). Leaves IsTree w rest) (along pre x front) l)
      (subst (IsViable IsTree) whole v') (subst (λ (w : List Token). Leaves IsTree w rest') whole l')

  module _ (marked : List Token → List Token) where
    pub no_fault : HaveNoFault (IsTextOf IsTree marked) (IsFaultOf IsTree marked)
    no_fault bytes q fault (ts, h, g) (inl (e, none)) = none h.0
    no_fault bytes q fault (ts, h, g) (inr (us, rest, h', (front, e, viable, leaves), p)) =
        leaves_none q front rest leaves (subst (IsTree q) (ap marked (same_tokens bytes ts us h h') ∙ e) g)

    pub one_fault : HaveOneFault (IsFaultOf IsTree marked)
    one_fault bytes fault other (inl (e, none)) (inl (e', none')) = e ∙ sym e'
    one_fault bytes fault other (inl (e, none)) (inr (us, rest, h, stop, p)) = absurd (none h.0)
    one_fault bytes fault other (inr (us, rest, h, stop, p)) (inl (e, none)) = absurd (none h.0)
    one_fault bytes fault other (inr (ts, rest, h, (front, e, v, l), p)) (inr (us, rest', h', (front', e', v', l'), p')) =
        let whole : front ++ rest ≡ front' ++ rest' = sym e ∙ ap marked (same_tokens bytes ts us h h') ∙ e' in
        let same : rest ≡ rest' = one_stop [] front rest front' rest' whole v l v' l' in
        p ∙ ap (λ (r : List Token). record { offset = place_of r (length bytes); kind = kind.Syntax }) same ∙ sym p'

    module _ (one : (q q' : T) (ts : List Token) → IsTree q ts → IsTree q' ts → q ≡ q') where
      pub only_tree : (bytes : List ℕ) (ts : List Token) (q : T) → ((us : List Token) → AreTokens bytes us → ts ≡ us) → IsTree q (marked ts)
          → IsOnlyTree (IsTextOf IsTree marked) bytes q
      only_tree bytes ts q only h other (us, tokens, g) = one q other (marked ts) h
          (subst (λ (l : List Token). IsTree other (marked l)) (sym (only us tokens)) g)

      pub one_tree : HaveOneTree (IsTextOf IsTree marked)
      one_tree bytes q (ts, h, g) = only_tree bytes ts q (λ us tokens. same_tokens bytes ts us h tokens) g
