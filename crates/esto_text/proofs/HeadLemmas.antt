-- The row of a head, with its limit.
use Rattle.std.proofs.Common.{◌≡◌, ◌≢◌, ℕ, zero, suc, ◌-◌, Bool, true, false, cond, List, [], ◌∷◌, ◌++◌, length, refl, sym, ap, subst, ◌∙◌, arith}
use Rattle.std.proofs.lemmas.Bool.{true≢false, false≢true}
use Rattle.esto_text.specs.declared.stop.Stop.{Stop}
use Rattle.esto_text.specs.declared.stop.Stop.TheVariants.{Syntax}
use Rattle.esto_text.specs.declared.token.Token.{Token}
use Rattle.esto_text.specs.declared.token.TokenKind.{TokenKind}
use Rattle.esto_text.specs.declared.token.TokenKind.TheVariants.{Name, RightParen, LeftParen, Comma, Stray}
use Rattle.esto_text.specs.Grammar.{class_of, IsName, IsRow}
use Rattle.esto_text.specs.Limits.{is_close, is_name, in_room, limited_row, limited}
use Rattle.esto_text.specs.Machine.{Symbol, AName, MoreNames, class_at, first_fault, Fails, Takes}
use Rattle.esto_text.proofs.Runs.{seen}
use Rattle.esto_text.proofs.RowLemmas.{fails_along, fails_here, not_name, not_more_names, Goes, goes_done, row_fails, row_more, row_grows, names_run, Ends}
use Rattle.esto_text.proofs.RowLemmas.{Ended, NoEnd}

-- ---- the next token of a limited row

abbrev Limits : ℕ → Token → List Token → TokenKind → List Token
Limits room t ts k = cond (is_close k) (t ∷ ts) (cond (is_name k) (in_room room t ∷ limited_row (room - 1) ts) (t ∷ limited_row room ts))

by_class : (room : ℕ) (t : Token) (ts : List Token) (k : TokenKind) → class_of t ≡ k → limited_row room (t ∷ ts) ≡ Limits room t ts k
by_class room t ts k p = ap (Limits room t ts) p

pub at_name : (room : ℕ) (t : Token) (ts : List Token) → IsName t → limited_row (suc room) (t ∷ ts) ≡ t ∷ limited_row room ts
at_name room t ts p = by_class (suc room) t ts Name p ∙ ap (λ (n : ℕ). t ∷ limited_row n ts) (omega arith)

pub at_end : (room : ℕ) (t : Token) (ts : List Token) → class_of t ≡ RightParen → limited_row room (t ∷ ts) ≡ t ∷ ts
at_end room t ts p = by_class room t ts RightParen p

pub at_comma : (room : ℕ) (t : Token) (ts : List Token) → class_of t ≡ Comma → limited_row room (t ∷ ts) ≡ t ∷ limited_row room ts
at_comma room t ts p = by_class room t ts Comma p

pub at_paren : (room : ℕ) (t : Token) (ts : List Token) → class_of t ≡ LeftParen → limited_row room (t ∷ ts) ≡ t ∷ limited_row room ts
at_paren room t ts p = by_class room t ts LeftParen p

pub length_limited : (room : ℕ) (ts : List Token) → length (limited_row room ts) ≡ length ts
length_limited room [] = refl
length_limited room (t ∷ ts) = go (is_close (class_of t)) (is_name (class_of t)) (length_limited room ts) (length_limited (room - 1) ts)
  where
    go : (b c : Bool) → length (limited_row room ts) ≡ length ts → length (limited_row (room - 1) ts) ≡ length ts
        → length (cond b (t ∷ ts) (cond c (in_room room t ∷ limited_row (room - 1) ts) (t ∷ limited_row room ts))) ≡ suc (length ts)
    go true c p q = refl
    go false true p q = ap suc q
    go false false p q = ap suc p

-- the next class is that of the token, or Stray
class_cases : (room : ℕ) (ts : List Token) (P : TokenKind → Type 0) → P (class_at ts) → P Stray → P (class_at (limited_row room ts))
class_cases room [] P p q = p
class_cases room (t ∷ ts) P p q = go (is_close (class_of t)) (is_name (class_of t)) room
  where
    go : (b c : Bool) (r : ℕ) → P (class_at (cond b (t ∷ ts) (cond c (in_room r t ∷ limited_row (r - 1) ts) (t ∷ limited_row r ts))))
    go true c r = p
    go false true zero = q
    go false true (suc r) = p
    go false false r = p

-- with no room a name fits nowhere
no_room : (ts : List Token) → class_at (limited_row 0 ts) ≢ Name
no_room [] = λ e. cc
no_room (t ∷ ts) = go (is_close (class_of t)) (is_name (class_of t)) refl refl
  where
    go : (b c : Bool) → is_close (class_of t) ≡ b → is_name (class_of t) ≡ c
        → class_at (cond b (t ∷ ts) (cond c (in_room 0 t ∷ limited_row 0 ts) (t ∷ limited_row 0 ts))) ≢ Name
    go true c p q e = false≢true (sym (ap is_close e) ∙ p)
    go false true p q e = cc
    go false false p q e = true≢false (sym (ap is_name e) ∙ q)

-- ---- the row of a head

-- what is left of a row: with more to come, so many names have room
abbrev pub rest_of : Bool → ℕ → List Token → List Token
rest_of true room rest = limited_row room rest
rest_of false room rest = rest

pub no_room_fails : (rest : List Token) (e : Stop) → e ≡ Syntax (length rest) → Fails (AName ∷ MoreNames ∷ []) (limited_row 0 rest) e
no_room_fails rest e q s = fails_here AName (MoreNames ∷ s) (limited_row 0 rest) e refl (not_name (class_at (limited_row 0 rest)) (no_room rest))
    (q ∙ ap Syntax (sym (length_limited 0 rest)))

pub head_name_fails : (room : ℕ) (rest : List Token) (e : Stop) → (e ≡ Syntax (length rest)) × (class_at rest ≢ Name)
    → Fails (AName ∷ MoreNames ∷ []) (limited_row room rest) e
head_name_fails room rest e (q, n) s =
    fails_here AName (MoreNames ∷ s) (limited_row room rest) e refl (not_name (class_at (limited_row room rest))
    (class_cases room rest (λ k. k ≢ Name) n (λ p. cc))) (q ∙ ap Syntax (sym (length_limited room rest)))

pub head_end_fails : (room : ℕ) (rest after' : List Token) (x : Token) (e : Stop) → (rest ≡ x ∷ after') × IsName x → NoEnd RightParen after' e
    → Fails (AName ∷ MoreNames ∷ []) (limited_row (suc room) rest) e
head_end_fails room rest after' x e (r, p) (q, n, m) s =
    let left = limited_row room after' in
    let whole : limited_row (suc room) rest ≡ x ∷ left = ap (limited_row (suc room)) r ∙ at_name room x after' p in
    fails_along (AName ∷ MoreNames ∷ s) (MoreNames ∷ s) (limited_row (suc room) rest) left e (ap (first_fault (AName ∷ MoreNames ∷ s)) whole
    ∙ seen (AName ∷ MoreNames ∷ s) x left Name p)
    (fails_here MoreNames s left e refl (not_more_names (class_at left) (class_cases room after' (λ k. k ≢ Comma) n (λ z. cc))
    (class_cases room after' (λ k. k ≢ RightParen) m (λ z. cc)))
    (q ∙ ap Syntax (sym (length_limited room after'))))

pub ended_rest : (room : ℕ) (more' : Bool) (t : Token) (left : List Token) → Ends RightParen more' t → limited_row room (t ∷ left) ≡ t ∷ rest_of more' room left
ended_rest room true t left p = at_comma room t left p
ended_rest room false t left p = at_end room t left p

pub head_more : (tokens : List Token) (so_far : List Token) (room : ℕ) (rest : List Token) (more : Bool) → more ≡ true
    → ((s : List Symbol) → Goes (IsRow IsName) (AName ∷ MoreNames ∷ s) s tokens so_far (rest_of more (suc room) rest) more)
    → (x : Token) (after' left : List Token) (more' : Bool) → (rest ≡ x ∷ after') × IsName x → Ended RightParen more' after' left
    → (s : List Symbol) → Goes (IsRow IsName) (AName ∷ MoreNames ∷ s) s tokens (so_far ++ x ∷ []) (rest_of more' room left) more'
head_more tokens so_far room rest more on h x after' left more' (r, p) (t, e, q) =
    let here : rest_of more (suc room) rest ≡ limited_row (suc room) rest = ap (λ (b : Bool). rest_of b (suc room) rest) on in
    let whole : rest_of more (suc room) rest ≡ (x ∷ t ∷ []) ++ rest_of more' room left =
    here ∙ ap (limited_row (suc room)) (r ∙ ap (λ (l : List Token). x ∷ l) e) ∙ at_name room x (t ∷ left) p
    ∙ ap (λ (l : List Token). x ∷ l) (ended_rest room more' t left q) in
    row_more (IsRow IsName) (AName ∷ MoreNames ∷ []) tokens so_far (rest_of more (suc room) rest) more on h x (x ∷ t ∷ []) (rest_of more' room left) more' whole
    (row_grows IsName x t more' p q)
    (λ s. ap (first_fault (AName ∷ MoreNames ∷ s)) whole ∙ names_run s x t (rest_of more' room left) more' p q)

module _ (tokens so_far : List Token) (r : ℕ) (rest : List Token) (more : Bool)
    (h : (s : List Symbol) → Goes (IsRow IsName) (AName ∷ MoreNames ∷ s) s tokens so_far (rest_of more r rest) more) where
  pub head_fails : more ≡ true → (e : Stop) → Fails (AName ∷ MoreNames ∷ []) (limited_row r rest) e → Fails (AName ∷ MoreNames ∷ []) tokens e
  head_fails on e f = row_fails (IsRow IsName) (AName ∷ MoreNames ∷ []) tokens so_far (rest_of more r rest) more on h e
      (subst (λ (b : Bool). Fails (AName ∷ MoreNames ∷ []) (rest_of b r rest) e) (sym on) f)

  pub head_next : more ≡ true → (room : ℕ) → r ≡ suc room → (x : Token) (after' left : List Token) (more' : Bool) → (rest ≡ x ∷ after') × IsName x
      → Ended RightParen more' after' left
      → (s : List Symbol) → Goes (IsRow IsName) (AName ∷ MoreNames ∷ s) s tokens (so_far ++ x ∷ []) (rest_of more' room left) more'
  head_next on room z = head_more tokens so_far room rest more on (λ s. subst
      (λ (n : ℕ). Goes (IsRow IsName) (AName ∷ MoreNames ∷ s) s tokens so_far (rest_of more n rest) more) z (h s))

  pub head_done : more ≡ false → Takes (IsRow IsName so_far) tokens rest
  head_done off = subst (λ (b : Bool). Takes (IsRow IsName so_far) tokens (rest_of b r rest)) off
      (goes_done (IsRow IsName) (AName ∷ MoreNames ∷ []) [] tokens so_far (rest_of more r rest) more off (h []))

-- ---- a query before its row of variables

pub limited_name : (tokens rest : List Token) (name : Token) → (tokens ≡ name ∷ rest) × IsName name → (limited tokens ≡ name ∷ limited_row 32 rest)
    × IsName name
limited_name tokens rest name (e, p) = (ap limited e, p)

pub limited_paren : (tokens rest : List Token) (paren : Token) → (tokens ≡ paren ∷ rest) × (class_of paren ≡ LeftParen)
    → (limited_row 32 tokens ≡ paren ∷ limited_row 32 rest) × (class_of paren ≡ LeftParen)
limited_paren tokens rest paren (e, p) = (ap (limited_row 32) e ∙ at_paren 32 paren rest p, p)

pub limited_not_name : (tokens : List Token) (e : Stop) → (e ≡ Syntax (length tokens)) × (class_at tokens ≢ Name) → (e ≡ Syntax (length (limited tokens)))
    × (class_at (limited tokens) ≢ Name)
limited_not_name [] e (q, n) = (q, n)
limited_not_name (t ∷ ts) e (q, n) = (q ∙ ap (λ (k : ℕ). Syntax (suc k)) (sym (length_limited 32 ts)), n)

pub limited_not_paren : (tokens : List Token) (e : Stop) → (e ≡ Syntax (length tokens)) × (class_at tokens ≢ LeftParen)
    → (e ≡ Syntax (length (limited_row 32 tokens))) × (class_at (limited_row 32 tokens) ≢ LeftParen)
limited_not_paren tokens e (q, n) = (q ∙ ap Syntax (sym (length_limited 32 tokens)), class_cases 32 tokens (λ k. k ≢ LeftParen) n (λ p. cc))
