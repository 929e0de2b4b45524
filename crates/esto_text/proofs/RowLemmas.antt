-- What the loops over rows keep, and where a part fails.
use Rattle.std.proofs.Common.{◌≡◌, ◌≢◌, ℕ, suc, ◌≤◌, Bool, true, false, cond, List, [], ◌∷◌, ◌++◌, length, Option, Some, None, refl, sym, ap, subst, ◌∙◌}
use Rattle.std.proofs.Common.{append_assoc}
use Rattle.std.specs.Prelude.{if◌then◌else◌}
use Rattle.std.proofs.lemmas.Bool.{le-ltb}
use Rattle.esto_text.specs.declared.stop.Stop.{Stop}
use Rattle.esto_text.specs.declared.stop.Stop.TheVariants.{Syntax, OutOfMemory}
use Rattle.esto_text.specs.declared.token.Token.{Token}
use Rattle.esto_text.specs.declared.token.TokenKind.{TokenKind}
use Rattle.esto_text.specs.declared.token.TokenKind.TheVariants.{Name, Quoted, LeftParen, RightParen, LeftBrace, RightBrace, LeftBracket, RightBracket, Comma}
use Rattle.esto_text.specs.declared.token.TokenKind.TheVariants.{Dot, Colon, Turnstile, Arrow, Stars}
use Rattle.esto_text.specs.Grammar.{class_of, step_at, is_term, IsName, IsTerm, IsRow}
use Rattle.esto_text.specs.Machine.{Symbol, AName, ATerm, ANext, AParen, ABracket, ATurnstile, MoreNames, MoreTerms, AnItem, ItemRest, MoreItems, MoreBody}
use Rattle.esto_text.specs.Machine.{AGroup, AnEntry, PathRest, MoreEntries, step, is_done, class_at, first_fault, FaultLeaves, FailsAt, Fails, Takes}
use Rattle.esto_text.proofs.Runs.{after, put, seen, term_seen}

-- ---- failures

-- where nothing may follow, what is left is at fault
pub left_fails : (left : List Token) → ¬ (length left ≡ 0) → FailsAt [] left (Syntax (length left))
left_fails [] some = absurd (some refl)
left_fails (token ∷ rest) some = (token ∷ rest, refl, refl)

pub fails_along : (xs ys : List Symbol) (ts us : List Token) (e : Stop) → first_fault xs ts ≡ first_fault ys us → FailsAt ys us e → FailsAt xs ts e
fails_along xs ys ts us OutOfMemory p h = tt
fails_along xs ys ts us (Syntax left) p h = (h.0, p ∙ h.1, h.2)

-- the next token does not fit the first symbol
pub stops_here : (x : Symbol) (s : List Symbol) (ts : List Token) → is_done (x ∷ s) ≡ false → step x (class_at ts) ≡ None → FaultLeaves (x ∷ s) ts (length ts)
stops_here x s [] d n = ([], ap (λ (b : Bool). cond {A = Option (List Token)} b None (Some [])) d, refl)
stops_here x s (t ∷ ts) d n = (t ∷ ts, ap (λ (o : Option (List Symbol)). after (put o s) t ts) n, refl)

pub fails_here : (x : Symbol) (s : List Symbol) (ts : List Token) (e : Stop) → is_done (x ∷ s) ≡ false → step x (class_at ts) ≡ None → e ≡ Syntax (length ts)
    → FailsAt (x ∷ s) ts e
fails_here x s ts e d n q = subst (FailsAt (x ∷ s) ts) (sym q) (stops_here x s ts d n)

pub not_name : (c : TokenKind) → c ≢ Name → step AName c ≡ None
not_name Name h = absurd (h refl)
not_name _ h = refl

pub not_item : (c : TokenKind) → c ≢ Name → step AnItem c ≡ None
not_item Name h = absurd (h refl)
not_item _ h = refl

pub not_item_rest : (c : TokenKind) → c ≢ LeftParen → c ≢ Dot → c ≢ LeftBrace → step ItemRest c ≡ None
not_item_rest LeftParen h g f = absurd (h refl)
not_item_rest Dot h g f = absurd (g refl)
not_item_rest LeftBrace h g f = absurd (f refl)
not_item_rest _ h g f = refl

pub not_paren : (c : TokenKind) → c ≢ LeftParen → step AParen c ≡ None
not_paren LeftParen h = absurd (h refl)
not_paren _ h = refl

pub not_group : (c : TokenKind) → c ≢ LeftBrace → step AGroup c ≡ None
not_group LeftBrace h = absurd (h refl)
not_group _ h = refl

pub not_turnstile : (c : TokenKind) → c ≢ Turnstile → step ATurnstile c ≡ None
not_turnstile Turnstile h = absurd (h refl)
not_turnstile _ h = refl

pub not_bracket : (c : TokenKind) → c ≢ RightBracket → step ABracket c ≡ None
not_bracket RightBracket h = absurd (h refl)
not_bracket _ h = refl

-- the kind says no step
abbrev pub NoStep : TokenKind → Type 0
NoStep c = (t : Token) → step_at c t ≡ None

any_token : Token
any_token = record { kind = Dot; start = 0; end = 0 }

pub not_next : (c : TokenKind) → NoStep c → step ANext c ≡ None
not_next Name h = let e = h any_token in absurd cc
not_next Quoted h = let e = h any_token in absurd cc
not_next Stars h = let e = h any_token in absurd cc
not_next _ h = refl

pub not_entry : (n : ℕ) (c : TokenKind) → NoStep c → c ≢ LeftBracket → step (AnEntry n) c ≡ None
not_entry n Name h g = let e = h any_token in absurd cc
not_entry n Quoted h g = let e = h any_token in absurd cc
not_entry n Stars h g = let e = h any_token in absurd cc
not_entry n LeftBracket h g = absurd (g refl)
not_entry n _ h g = refl

pub not_path_rest : (n : ℕ) (c : TokenKind) → c ≢ Colon → c ≢ LeftBrace → c ≢ LeftBracket → c ≢ Dot → step (PathRest n) c ≡ None
not_path_rest n Colon h g f e = absurd (h refl)
not_path_rest n LeftBrace h g f e = absurd (g refl)
not_path_rest n LeftBracket h g f e = absurd (f refl)
not_path_rest n Dot h g f e = absurd (e refl)
not_path_rest n _ h g f e = refl

pub too_deep : (n : ℕ) (c : TokenKind) → c ≡ LeftBrace → 32 ≤ n → step (PathRest n) c ≡ None
too_deep n c p le =
    ap (step (PathRest n)) p ∙ ap (λ (b : Bool). cond {A = Option (List Symbol)} b (Some (AnEntry (suc n) ∷ MoreEntries (suc n) ∷ [])) None) (le-ltb n 32 le)

pub not_more_names : (c : TokenKind) → c ≢ Comma → c ≢ RightParen → step MoreNames c ≡ None
not_more_names Comma h g = absurd (h refl)
not_more_names RightParen h g = absurd (g refl)
not_more_names _ h g = refl

pub not_more_terms : (c : TokenKind) → c ≢ Comma → c ≢ RightParen → step MoreTerms c ≡ None
not_more_terms Comma h g = absurd (h refl)
not_more_terms RightParen h g = absurd (g refl)
not_more_terms _ h g = refl

pub not_more_items : (c : TokenKind) → c ≢ Comma → step MoreItems c ≡ None
not_more_items Comma h = absurd (h refl)
not_more_items _ h = refl

pub not_more_body : (c : TokenKind) → c ≢ Comma → c ≢ Arrow → step MoreBody c ≡ None
not_more_body Comma h g = absurd (h refl)
not_more_body Arrow h g = absurd (g refl)
not_more_body _ h g = refl

pub not_more_entries : (n : ℕ) (c : TokenKind) → c ≢ Comma → c ≢ RightBrace → step (MoreEntries n) c ≡ None
not_more_entries n Comma h g = absurd (h refl)
not_more_entries n RightBrace h g = absurd (g refl)
not_more_entries n _ h g = refl

pub not_term : (c : TokenKind) → is_term c ≡ false → step ATerm c ≡ None
not_term c e = ap (λ (b : Bool). cond {A = Option (List Symbol)} b (Some []) None) e

-- ---- rows

-- What the elements so far are: with more to come, whatever completes the row.
abbrev pub Grows : {X : Type 0} → (List X → List Token → Type 0) → List X → List Token → Bool → Type 0
Grows {X} Row so_far front true = (xs : List X) (ts : List Token) → Row xs ts → Row (so_far ++ xs) (front ++ ts)
Grows Row so_far front false = Row so_far front

abbrev pub next : Bool → List Symbol → List Symbol → List Symbol
next true from to = from
next false from to = to

pub record Goes {X : Type 0} (Row : List X → List Token → Type 0) (from to : List Symbol) (tokens : List Token) (so_far : List X) (rest : List Token)
    (more : Bool) : Type 0 where
  pub front : List Token
  pub split : tokens ≡ front ++ rest
  pub grows : Grows Row so_far front more
  pub runs : first_fault from tokens ≡ first_fault (next more from to) rest

module _ {X : Type 0} (Row : List X → List Token → Type 0) (from to : List Symbol) (tokens : List Token) where
  grows_more : (so_far : List X) (front : List Token) (x : X) (b : List Token) (more : Bool) → Grows Row so_far front true → Grows Row (x ∷ []) b more
      → Grows Row (so_far ++ x ∷ []) (front ++ b) more
  grows_more so_far front x b true h g = λ xs ts r.
      subst (λ (l : List X). Row l ((front ++ b) ++ ts)) (sym (append_assoc so_far (x ∷ []) xs))
      (subst (Row (so_far ++ (x ∷ xs))) (sym (append_assoc front b ts)) (h (x ∷ xs) (b ++ ts) (g xs ts r)))
  grows_more so_far front x b false h g = h (x ∷ []) b g

  -- one more element, with the sign behind it
  pub goes_more : (so_far : List X) (rest : List Token) (x : X) (b left : List Token) (more : Bool) → Goes Row from to tokens so_far rest true → rest
      ≡ b ++ left → Grows Row (x ∷ []) b more
      → first_fault from rest ≡ first_fault (next more from to) left → Goes Row from to tokens (so_far ++ x ∷ []) left more
  goes_more so_far rest x b left more h e g runs = record {
    front = h.front ++ b;
    split = h.split ∙ ap (λ (l : List Token). h.front ++ l) e ∙ sym (append_assoc h.front b left);
    grows = grows_more so_far h.front x b more h.grows g;
    runs = h.runs ∙ runs;
  }

  pub goes_begun : Goes Row from to tokens [] tokens true
  goes_begun = record { front = []; split = refl; grows = λ xs ts h. h; runs = refl }

  pub goes_done : (so_far : List X) (rest : List Token) (more : Bool) → more ≡ false → Goes Row from to tokens so_far rest more → Takes (Row so_far) tokens rest
  goes_done so_far rest true f h = absurd cc
  goes_done so_far rest false f h = (h.front, h.split, h.grows)

  pub goes_fails : (so_far : List X) (rest : List Token) (e : Stop) → Goes Row from to tokens so_far rest true → FailsAt from rest e → FailsAt from tokens e
  goes_fails so_far rest e h f = fails_along from from tokens rest e h.runs f

-- ---- rows of tokens

-- what ends an element
abbrev pub Ends : TokenKind → Bool → Token → Type 0
Ends close more t = class_of t ≡ (if more then Comma else close)

row_cons : (P : Token → Type 0) (x c : Token) (xs ts : List Token) → P x → class_of c ≡ Comma → IsRow P xs ts → IsRow P (x ∷ xs) (x ∷ c ∷ ts)
row_cons P x c [] ts p q h = absurd h
row_cons P x c (y ∷ ys) ts p q (more, e, r, h) = (c ∷ ts, refl, p, (c, more, ap (λ (l : List Token). c ∷ l) e, q, r, h))

pub row_grows : (P : Token → Type 0) (x c : Token) (more : Bool) → P x → Ends RightParen more c → Grows (IsRow P) (x ∷ []) (x ∷ c ∷ []) more
row_grows P x c true p q = λ xs ts h. row_cons P x c xs ts p q h
row_grows P x c false p q = (c ∷ [], refl, p, (c, refl, q))

pub names_run : (s : List Symbol) (x c : Token) (left : List Token) (more : Bool) → IsName x → Ends RightParen more c
    → first_fault (AName ∷ MoreNames ∷ s) (x ∷ c ∷ left) ≡ first_fault (next more (AName ∷ MoreNames ∷ s) s) left
names_run s x c left true p q = seen (AName ∷ MoreNames ∷ s) x (c ∷ left) Name p ∙ seen (MoreNames ∷ s) c left Comma q
names_run s x c left false p q = seen (AName ∷ MoreNames ∷ s) x (c ∷ left) Name p ∙ seen (MoreNames ∷ s) c left RightParen q

pub terms_run : (s : List Symbol) (x c : Token) (left : List Token) (more : Bool) → IsTerm x → Ends RightParen more c
    → first_fault (ATerm ∷ MoreTerms ∷ s) (x ∷ c ∷ left) ≡ first_fault (next more (ATerm ∷ MoreTerms ∷ s) s) left
terms_run s x c left true p q = term_seen (MoreTerms ∷ s) x (c ∷ left) p ∙ seen (MoreTerms ∷ s) c left Comma q
terms_run s x c left false p q = term_seen (MoreTerms ∷ s) x (c ∷ left) p ∙ seen (MoreTerms ∷ s) c left RightParen q

-- ---- the loops, whatever is to follow

module _ {X : Type 0} (Row : List X → List Token → Type 0) (part : List Symbol) (tokens : List Token) (so_far : List X) (rest : List Token) (more : Bool)
    (on : more ≡ true)
    (h : (s : List Symbol) → Goes Row (part ++ s) s tokens so_far rest more) where
  so : (s : List Symbol) → Goes Row (part ++ s) s tokens so_far rest true
  so s = subst (Goes Row (part ++ s) s tokens so_far rest) on (h s)

  pub row_fails : (e : Stop) → Fails part rest e → Fails part tokens e
  row_fails e f s = goes_fails Row (part ++ s) s tokens so_far rest e (so s) (f s)

  pub row_more : (x : X) (b left : List Token) (more' : Bool) → rest ≡ b ++ left → Grows Row (x ∷ []) b more'
      → ((s : List Symbol) → first_fault (part ++ s) rest ≡ first_fault (next more' (part ++ s) s) left)
      → (s : List Symbol) → Goes Row (part ++ s) s tokens (so_far ++ x ∷ []) left more'
  row_more x b left more' e g runs s = goes_more Row (part ++ s) s tokens so_far rest x b left more' (so s) e g (runs s)

-- what the sign behind an element was
abbrev pub Ended : TokenKind → Bool → List Token → List Token → Type 0
Ended close more ts left = (t : Token) × (ts ≡ t ∷ left) × Ends close more t

abbrev pub NoEnd : TokenKind → List Token → Stop → Type 0
NoEnd close ts e = (e ≡ Syntax (length ts)) × (class_at ts ≢ Comma) × (class_at ts ≢ close)

pub term_fails : (rest : List Token) (e : Stop) → (e ≡ Syntax (length rest)) × (is_term (class_at rest) ≡ false) → Fails (ATerm ∷ MoreTerms ∷ []) rest e
term_fails rest e (q, n) s = fails_here ATerm (MoreTerms ∷ s) rest e refl (not_term (class_at rest) n) q

pub term_end_fails : (rest after' : List Token) (x : Token) (e : Stop) → (rest ≡ x ∷ after') × IsTerm x → NoEnd RightParen after' e
    → Fails (ATerm ∷ MoreTerms ∷ []) rest e
term_end_fails rest after' x e (r, p) (q, n, m) s =
    fails_along (ATerm ∷ MoreTerms ∷ s) (MoreTerms ∷ s) rest after' e (ap (first_fault (ATerm ∷ MoreTerms ∷ s)) r ∙ term_seen (MoreTerms ∷ s) x after' p)
    (fails_here MoreTerms s after' e refl (not_more_terms (class_at after') n m) q)

pub term_more : (tokens : List Token) (so_far : List Token) (rest : List Token) (more : Bool) → more ≡ true
    → ((s : List Symbol) → Goes (IsRow IsTerm) (ATerm ∷ MoreTerms ∷ s) s tokens so_far rest more)
    → (x : Token) (after' left : List Token) (more' : Bool) → (rest ≡ x ∷ after') × IsTerm x → Ended RightParen more' after' left
    → (s : List Symbol) → Goes (IsRow IsTerm) (ATerm ∷ MoreTerms ∷ s) s tokens (so_far ++ x ∷ []) left more'
term_more tokens so_far rest more on h x after' left more' (r, p) (t, e, q) =
    let whole : rest ≡ (x ∷ t ∷ []) ++ left = r ∙ ap (λ (l : List Token). x ∷ l) e in
    row_more (IsRow IsTerm) (ATerm ∷ MoreTerms ∷ []) tokens so_far rest more on h x (x ∷ t ∷ []) left more' whole (row_grows IsTerm x t more' p q)
    (λ s. ap (first_fault (ATerm ∷ MoreTerms ∷ s)) whole ∙ terms_run s x t left more' p q)
