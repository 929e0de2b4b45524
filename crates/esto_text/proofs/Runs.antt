-- What the grammar has, the machine goes through.
use Rattle.std.proofs.Common.{◌≡◌, ◌≢◌, ◌⊎◌, ℕ, suc, ◌<◌, inl, inr, Bool, cond, List, [], ◌∷◌, ◌++◌, Option, Some, None, refl, sym, ap, ◌∙◌, append_assoc}
use Rattle.std.proofs.lemmas.List.{append-nil}
use Rattle.std.proofs.lemmas.Bool.{lt-ltb}
use Rattle.esto_text.specs.declared.token.Token.{Token}
use Rattle.esto_text.specs.declared.token.TokenKind.{TokenKind}
use Rattle.esto_text.specs.declared.token.TokenKind.TheVariants.{Name, Quoted, LeftParen, RightParen, LeftBrace, RightBrace, LeftBracket, RightBracket, Comma}
use Rattle.esto_text.specs.declared.token.TokenKind.TheVariants.{Dot, Colon, Turnstile, Arrow, Equals, Stars}
use Rattle.esto_text.specs.declared.tree.StepSyntax.{StepSyntax}
use Rattle.esto_text.specs.Trees.{EntryTree, Value, Nested, EntryTrees, NoEntry, AndEntry, ItemTree, Atom, Part, Pattern, QueryTree, HeadTree, Items, Equality}
use Rattle.esto_text.specs.Trees.{Never, ConstraintTree}
use Rattle.esto_text.specs.Grammar.{class_of, step_at, IsName, IsTerm, IsRowEnd, IsRow, IsFirst, IsLater, IsPathEnd, IsPath, IsEntry, IsGroupEnd, IsGroup}
use Rattle.esto_text.specs.Grammar.{IsLayout, IsItem, IsBodyEnd, IsBody, IsQuery, IsRuleBody, IsHead, NoFalse, IsConstraint}
use Rattle.esto_text.specs.Machine.{Symbol, AName, ATerm, ANext, AParen, ABracket, MoreNames, MoreTerms, AnItem, ItemRest, MoreItems, MoreBody, AHead, HeadRest}
use Rattle.esto_text.specs.Machine.{AnEntry, PathRest, MoreEntries, after_head, start, constraint_start, layout_start, step, class_at, advance, first_fault}

-- ---- one token

abbrev pub after : Option (List Symbol) → Token → List Token → Option (List Token)
after o t ts = elim o [ Some new ↦ first_fault new ts | None ↦ Some (t ∷ ts) ]

-- what a step puts in the first symbol's place
abbrev pub put : Option (List Symbol) → List Symbol → Option (List Symbol)
put o xs = elim o [ Some new ↦ Some (new ++ xs) | None ↦ None ]

pub seen : (xs : List Symbol) (t : Token) (ts : List Token) (kind : TokenKind) → class_of t ≡ kind → first_fault xs (t ∷ ts) ≡ after (advance xs kind) t ts
seen xs t ts kind p = ap (λ (k : TokenKind). after (advance xs k) t ts) p

pub term_seen : (xs : List Symbol) (t : Token) (ts : List Token) → IsTerm t → first_fault (ATerm ∷ xs) (t ∷ ts) ≡ first_fault xs ts
term_seen xs t ts p = ap (λ (b : Bool). after (put (cond {A = Option (List Symbol)} b (Some []) None) xs) t ts) p

pub brace_seen : (n : ℕ) (xs : List Symbol) (t : Token) (ts : List Token) → class_of t ≡ LeftBrace → n < 32 → first_fault (PathRest n ∷ xs) (t ∷ ts)
    ≡ first_fault (AnEntry (suc n) ∷ MoreEntries (suc n) ∷ xs) ts
brace_seen n xs t ts p lt =
    seen (PathRest n ∷ xs) t ts LeftBrace p ∙ ap (λ (b : Bool). after (put
    (cond {A = Option (List Symbol)} b (Some (AnEntry (suc n) ∷ MoreEntries (suc n) ∷ [])) None) xs) t ts) (lt-ltb n 32 lt)

-- ---- whole parts

pub names_end_runs : (ns ts : List Token) (s : List Symbol) (ws : List Token) → IsRowEnd IsName ns ts → first_fault (MoreNames ∷ s) (ts ++ ws)
    ≡ first_fault s ws
names_end_runs [] ts s ws (close, e, h) = rw e (seen (MoreNames ∷ s) close ws RightParen h)
names_end_runs (n ∷ ns) ts s ws (comma, more, e, c, p, rest) =
    rw e (seen (MoreNames ∷ s) comma (n ∷ (more ++ ws)) Comma c ∙ seen (AName ∷ MoreNames ∷ s) n (more ++ ws) Name p ∙ names_end_runs ns more s ws rest)

pub terms_end_runs : (ns ts : List Token) (s : List Symbol) (ws : List Token) → IsRowEnd IsTerm ns ts → first_fault (MoreTerms ∷ s) (ts ++ ws)
    ≡ first_fault s ws
terms_end_runs [] ts s ws (close, e, h) = rw e (seen (MoreTerms ∷ s) close ws RightParen h)
terms_end_runs (n ∷ ns) ts s ws (comma, more, e, c, p, rest) =
    rw e (seen (MoreTerms ∷ s) comma (n ∷ (more ++ ws)) Comma c ∙ term_seen (MoreTerms ∷ s) n (more ++ ws) p ∙ terms_end_runs ns more s ws rest)

pub names_runs : (ns ts : List Token) (s : List Symbol) (ws : List Token) → IsRow IsName ns ts → first_fault (AName ∷ MoreNames ∷ s) (ts ++ ws)
    ≡ first_fault s ws
names_runs [] ts s ws h = absurd h
names_runs (n ∷ ns) ts s ws (more, e, p, rest) = rw e (seen (AName ∷ MoreNames ∷ s) n (more ++ ws) Name p ∙ names_end_runs ns more s ws rest)

pub terms_runs : (ns ts : List Token) (s : List Symbol) (ws : List Token) → IsRow IsTerm ns ts → first_fault (ATerm ∷ MoreTerms ∷ s) (ts ++ ws)
    ≡ first_fault s ws
terms_runs [] ts s ws h = absurd h
terms_runs (n ∷ ns) ts s ws (more, e, p, rest) = rw e (term_seen (MoreTerms ∷ s) n (more ++ ws) p ∙ terms_end_runs ns more s ws rest)

-- ---- paths

next_seen : (k : TokenKind) (xs : List Symbol) (t : Token) (ts : List Token) (s : StepSyntax) → class_of t ≡ k → step_at k t ≡ Some s
    → first_fault (ANext ∷ xs) (t ∷ ts) ≡ first_fault xs ts
next_seen Name xs t ts s p e = seen (ANext ∷ xs) t ts Name p
next_seen Quoted xs t ts s p e = seen (ANext ∷ xs) t ts Quoted p
next_seen Stars xs t ts s p e = seen (ANext ∷ xs) t ts Stars p
next_seen _ xs t ts s p e = absurd cc

first_seen : (k : TokenKind) (n : ℕ) (xs : List Symbol) (t : Token) (ts : List Token) (s : StepSyntax) → class_of t ≡ k → step_at k t ≡ Some s
    → first_fault (AnEntry n ∷ xs) (t ∷ ts) ≡ first_fault (PathRest n ∷ xs) ts
first_seen Name n xs t ts s p e = seen (AnEntry n ∷ xs) t ts Name p
first_seen Quoted n xs t ts s p e = seen (AnEntry n ∷ xs) t ts Quoted p
first_seen Stars n xs t ts s p e = seen (AnEntry n ∷ xs) t ts Stars p
first_seen _ n xs t ts s p e = absurd cc

first_runs : (n : ℕ) (s : StepSyntax) (ts : List Token) (xs : List Symbol) (ws : List Token) → IsFirst s ts → first_fault (AnEntry n ∷ xs) (ts ++ ws)
    ≡ first_fault (PathRest n ∷ xs) ws
first_runs n s ts xs ws (inl (t, e, h)) = rw e (first_seen (class_of t) n xs t ws s refl h)
first_runs n s ts xs ws (inr (i, l, r, e, p, q)) = rw e (seen (AnEntry n ∷ xs) l (r ∷ ws) LeftBracket p ∙ seen (ABracket ∷ PathRest n ∷ xs) r ws RightBracket q)

pub later_runs : (n : ℕ) (s : StepSyntax) (ts : List Token) (xs : List Symbol) (ws : List Token) → IsLater s ts → first_fault (PathRest n ∷ xs) (ts ++ ws)
    ≡ first_fault (PathRest n ∷ xs) ws
later_runs n s ts xs ws (inl (d, t, e, p, h)) = rw e (seen (PathRest n ∷ xs) d (t ∷ ws) Dot p ∙ next_seen (class_of t) (PathRest n ∷ xs) t ws s refl h)
later_runs n s ts xs ws (inr (i, l, r, e, p, q)) = rw e (seen (PathRest n ∷ xs) l (r ∷ ws) LeftBracket p
    ∙ seen (ABracket ∷ PathRest n ∷ xs) r ws RightBracket q)

path_end_runs : (n : ℕ) (path : List StepSyntax) (ts : List Token) (xs : List Symbol) (ws : List Token) → IsPathEnd path ts
    → first_fault (PathRest n ∷ xs) (ts ++ ws) ≡ first_fault (PathRest n ∷ xs) ws
path_end_runs n [] ts xs ws e = rw e refl
path_end_runs n (s ∷ path) ts xs ws (a, b, e, h, g) = rw (e, append_assoc a b ws) (later_runs n s a xs (b ++ ws) h ∙ path_end_runs n path b xs ws g)

pub path_runs : (n : ℕ) (path : List StepSyntax) (ts : List Token) (xs : List Symbol) (ws : List Token) → IsPath path ts
    → first_fault (AnEntry n ∷ xs) (ts ++ ws) ≡ first_fault (PathRest n ∷ xs) ws
path_runs n [] ts xs ws h = absurd h
path_runs n (s ∷ path) ts xs ws (a, b, e, h, g) = rw (e, append_assoc a b ws) (first_runs n s a xs (b ++ ws) h ∙ path_end_runs n path b xs ws g)

-- ---- entries and what has them

mutual
  pub entry_runs : (f : EntryTree) (n : ℕ) (ts : List Token) (s : List Symbol) (ws : List Token) → IsEntry n f ts → first_fault (AnEntry n ∷ s) (ts ++ ws)
      ≡ first_fault s ws
  entry_runs (Value path term) n ts s ws (front, colon, e, p, q, r) =
      rw (e, append_assoc front (colon ∷ term ∷ []) ws) (path_runs n path front s (colon ∷ term ∷ ws) p ∙ seen (PathRest n ∷ s) colon (term ∷ ws) Colon q
      ∙ term_seen s term ws r)
  entry_runs (Nested path NoEntry) n ts s ws h = absurd h
  entry_runs (Nested path (AndEntry first others)) n ts s ws (front, brace, a, b, e, p, q, lt, ha, hb) =
      rw (e, append_assoc front (brace ∷ (a ++ b)) ws, append_assoc a b ws) (path_runs n path front s (brace ∷ (a ++ (b ++ ws))) p
      ∙ brace_seen n s brace (a ++ (b ++ ws)) q lt
      ∙ entry_runs first (suc n) a (MoreEntries (suc n) ∷ s) (b ++ ws) ha ∙ group_end_runs others (suc n) b s ws hb)

  pub group_end_runs : (fs : EntryTrees) (n : ℕ) (ts : List Token) (s : List Symbol) (ws : List Token) → IsGroupEnd n fs ts
      → first_fault (MoreEntries n ∷ s) (ts ++ ws) ≡ first_fault s ws
  group_end_runs NoEntry n ts s ws (close, e, h) = rw e (seen (MoreEntries n ∷ s) close ws RightBrace h)
  group_end_runs (AndEntry first others) n ts s ws (comma, a, b, e, c, ha, hb) =
      rw (e, append_assoc a b ws) (seen (MoreEntries n ∷ s) comma (a ++ (b ++ ws)) Comma c ∙ entry_runs first n a (MoreEntries n ∷ s) (b ++ ws) ha
      ∙ group_end_runs others n b s ws hb)

pub group_runs : (fs : EntryTrees) (n : ℕ) (ts : List Token) (s : List Symbol) (ws : List Token) → IsGroup n fs ts
    → first_fault (AnEntry n ∷ MoreEntries n ∷ s) (ts ++ ws) ≡ first_fault s ws
group_runs NoEntry n ts s ws h = absurd h
group_runs (AndEntry first others) n ts s ws (a, b, e, ha, hb) =
    rw (e, append_assoc a b ws) (entry_runs first n a (MoreEntries n ∷ s) (b ++ ws) ha ∙ group_end_runs others n b s ws hb)

pub item_runs : (i : ItemTree) (ts : List Token) (s : List Symbol) (ws : List Token) → IsItem i ts → first_fault (AnItem ∷ s) (ts ++ ws) ≡ first_fault s ws
item_runs (Atom name terms) ts s ws (paren, more, e, p, q, r) =
    rw e (seen (AnItem ∷ s) name (paren ∷ (more ++ ws)) Name p ∙ seen (ItemRest ∷ s) paren (more ++ ws) LeftParen q ∙ terms_runs terms more s ws r)
item_runs (Part name part terms) ts s ws (dot, paren, more, e, p, q, r, t, h) =
    rw e (seen (AnItem ∷ s) name (dot ∷ part ∷ paren ∷ (more ++ ws)) Name p ∙ seen (ItemRest ∷ s) dot (part ∷ paren ∷ (more ++ ws)) Dot q
    ∙ seen (AName ∷ AParen ∷ ATerm ∷ MoreTerms ∷ s) part (paren ∷ (more ++ ws)) Name r ∙ seen (AParen ∷ ATerm ∷ MoreTerms ∷ s) paren (more ++ ws) LeftParen t
    ∙ terms_runs terms more s ws h)
item_runs (Pattern name entries) ts s ws (brace, more, e, p, q, r) =
    rw e (seen (AnItem ∷ s) name (brace ∷ (more ++ ws)) Name p ∙ seen (ItemRest ∷ s) brace (more ++ ws) LeftBrace q ∙ group_runs entries 1 more s ws r)

-- items, and then whatever the symbol that takes a comma and one more item takes beside it
module _ (x : Symbol) (goes : step x Comma ≡ Some (AnItem ∷ x ∷ [])) where
  items_end_runs : (is : List ItemTree) (ts : List Token) (s : List Symbol) (ws : List Token) → IsBodyEnd is ts → first_fault (x ∷ s) (ts ++ ws)
      ≡ first_fault (x ∷ s) ws
  items_end_runs [] ts s ws e = rw e refl
  items_end_runs (i ∷ is) ts s ws (comma, a, b, e, c, ha, hb) =
      rw (e, append_assoc a b ws) (seen (x ∷ s) comma (a ++ (b ++ ws)) Comma c ∙ ap (λ (o : Option (List Symbol)). after (put o s) comma (a ++ (b ++ ws))) goes
      ∙ item_runs i a (x ∷ s) (b ++ ws) ha ∙ items_end_runs is b s ws hb)

  pub items_runs : (is : List ItemTree) (ts : List Token) (s : List Symbol) (ws : List Token) → IsBody is ts → first_fault (AnItem ∷ x ∷ s) (ts ++ ws)
      ≡ first_fault (x ∷ s) ws
  items_runs [] ts s ws h = absurd h
  items_runs (i ∷ is) ts s ws (a, b, e, ha, hb) = rw (e, append_assoc a b ws) (item_runs i a (x ∷ s) (b ++ ws) ha ∙ items_end_runs is b s ws hb)

pub body_runs : (is : List ItemTree) (ts : List Token) → IsBody is ts → first_fault (AnItem ∷ MoreItems ∷ []) ts ≡ None
body_runs is ts h = ap (first_fault (AnItem ∷ MoreItems ∷ [])) (sym (append-nil ts)) ∙ items_runs MoreItems refl is ts [] [] h

pub query_runs : (q : QueryTree) (ts : List Token) → IsQuery q ts → first_fault start ts ≡ None
query_runs q ts (paren, head, turnstile, body, e, n, p, h, t, b) =
    rw e (seen start q.name (paren ∷ (head ++ turnstile ∷ body)) Name n ∙ seen (AParen ∷ AName ∷ MoreNames ∷ after_head) paren (head ++ turnstile ∷ body)
    LeftParen p
    ∙ names_runs q.variables head after_head (turnstile ∷ body) h ∙ seen after_head turnstile body Turnstile t ∙ body_runs q.items body b)

pub query_fits : (q : QueryTree) (ts rest : List Token) → IsQuery q ts → first_fault start ts ≡ Some rest → ⊥
query_fits q ts rest h e = let none : first_fault start ts ≡ None = query_runs q ts h in cc

-- ---- layouts

pub layout_runs : (fs : EntryTrees) (ts : List Token) → IsLayout fs ts → first_fault layout_start ts ≡ None
layout_runs fs ts (brace, more, e, p, h) =
    rw e (seen layout_start brace more LeftBrace p ∙ ap (first_fault (AnEntry 1 ∷ MoreEntries 1 ∷ [])) (sym (append-nil more)) ∙ group_runs fs 1 more [] [] h)

pub layout_fits : (fs : EntryTrees) (ts rest : List Token) → IsLayout fs ts → first_fault layout_start ts ≡ Some rest → ⊥
layout_fits fs ts rest h e = let none : first_fault layout_start ts ≡ None = layout_runs fs ts h in cc

-- ---- constraints

pub rule_body_runs : (is : List ItemTree) (ts : List Token) (s : List Symbol) (ws : List Token) → IsRuleBody is ts
    → first_fault (AnItem ∷ MoreBody ∷ s) (ts ++ ws) ≡ first_fault s ws
rule_body_runs is ts s ws (front, arrow, e, h, c) =
    rw (e, append_assoc front (arrow ∷ []) ws) (items_runs MoreBody refl is front s (arrow ∷ ws) h ∙ seen (MoreBody ∷ s) arrow ws Arrow c)

-- a head whose name has no `=` behind it is read as items
rest_same : (c : TokenKind) → c ≢ Equals → advance (HeadRest ∷ []) c ≡ advance (ItemRest ∷ MoreItems ∷ []) c
rest_same Equals h = absurd (h refl)
rest_same LeftParen h = refl
rest_same Dot h = refl
rest_same LeftBrace h = refl
rest_same _ h = refl

side_rest_runs : (rest : List Token) → class_at rest ≢ Equals → first_fault (HeadRest ∷ []) rest ≡ first_fault (ItemRest ∷ MoreItems ∷ []) rest
side_rest_runs [] h = refl
side_rest_runs (t ∷ ts) h = ap (λ (o : Option (List Symbol)). after o t ts) (rest_same (class_of t) h)

pub side_runs : (name : Token) (rest : List Token) → IsName name → class_at rest ≢ Equals → first_fault (AHead ∷ []) (name ∷ rest)
    ≡ first_fault (AnItem ∷ MoreItems ∷ []) (name ∷ rest)
side_runs name rest n h = seen (AHead ∷ []) name rest Name n ∙ side_rest_runs rest h ∙ sym (seen (AnItem ∷ MoreItems ∷ []) name rest Name n)

-- an item begins with a name that has no `=` behind it
pub item_begins : (i : ItemTree) (a b : List Token) → IsItem i a → (name : Token) × (rest : List Token) × (a ++ b ≡ name ∷ rest) × IsName name
    × (class_at rest ≢ Equals)
item_begins (Atom name terms) a b (paren, more, e, p, q, r) = (name, paren ∷ (more ++ b), ap (λ (l : List Token). l ++ b) e, p, λ z. cc)
item_begins (Part name part terms) a b (dot, paren, more, e, p, q, r, t, h) =
    (name, dot ∷ part ∷ paren ∷ (more ++ b), ap (λ (l : List Token). l ++ b) e, p, λ z. cc)
item_begins (Pattern name entries) a b (brace, more, e, p, q, r) = (name, brace ∷ (more ++ b), ap (λ (l : List Token). l ++ b) e, p, λ z. cc)

pub head_runs : (h : HeadTree) (ts : List Token) → IsHead NoFalse h ts → first_fault (AHead ∷ []) ts ≡ None
head_runs (Items []) ts h = absurd h
head_runs (Items (i ∷ is)) ts (a, b, e, ha, hb) =
    let n = item_begins i a b ha in
    let whole : ts ≡ n.0 ∷ n.1 = e ∙ n.2 in
    ap (first_fault (AHead ∷ [])) whole ∙ side_runs n.0 n.1 n.3 n.4 ∙ ap (first_fault (AnItem ∷ MoreItems ∷ [])) (sym whole)
    ∙ body_runs (i ∷ is) ts (a, b, e, ha, hb)
head_runs (Equality left right) ts (sign, e, n, c, t) =
    rw e (seen (AHead ∷ []) left (sign ∷ right ∷ []) Name n ∙ seen (HeadRest ∷ []) sign (right ∷ []) Equals c ∙ term_seen [] right [] t)
head_runs Never ts h = absurd h.3

module _ (IsFalse : Token → Type 0) where
  -- a head is that of a denial, or one without the word `false`
  pub plain_or_denial : (h : HeadTree) (ts : List Token) → IsHead IsFalse h ts → IsHead NoFalse h ts ⊎ IsHead IsFalse Never ts
  plain_or_denial (Items is) ts h = inl h
  plain_or_denial (Equality left right) ts h = inl h
  plain_or_denial Never ts h = inr h

  -- of a head, nothing is left but, behind the word `false`, what is to follow a name
  pub head_fits : (h : HeadTree) (ts rest : List Token) → IsHead IsFalse h ts → first_fault (AHead ∷ []) ts ≡ Some rest → rest ≡ []
  head_fits h ts rest g e = elim (plain_or_denial h ts g) [
    | inl plain ↦ let none : first_fault (AHead ∷ []) ts ≡ None = head_runs h ts plain in absurd cc
    | inr (word, is, n, f) ↦
        let end : first_fault (AHead ∷ []) ts ≡ Some [] = ap (first_fault (AHead ∷ [])) is ∙ seen (AHead ∷ []) word [] Name n in
        let same : Some rest ≡ Some [] = sym e ∙ end in cc
  ]

  -- some symbols go through a head to its end
  pub head_through : (h : HeadTree) (ts : List Token) → IsHead IsFalse h ts → (s : List Symbol) × (first_fault s ts ≡ None)
  head_through h ts g = elim (plain_or_denial h ts g) [
    | inl plain ↦ (AHead ∷ [], head_runs h ts plain)
    | inr (word, is, n, f) ↦ (AName ∷ [], ap (first_fault (AName ∷ [])) is ∙ seen (AName ∷ []) word [] Name n)
  ]

  pub constraint_fits : (c : ConstraintTree) (ts rest : List Token) → IsConstraint IsFalse c ts → first_fault constraint_start ts ≡ Some rest → rest ≡ []
  constraint_fits c ts rest (body, head, e, b, h) f =
      head_fits c.head head rest h (sym (ap (first_fault constraint_start) e ∙ rule_body_runs c.body body (AHead ∷ []) head b) ∙ f)
