-- Items, and the whole text.
use Rattle.std.proofs.Common.{◌≡◌, ◌≢◌, suc, ◌+◌, ◌<◌, true, arith, List, [], ◌∷◌, ◌++◌, length, drop, Option, refl, sym, ap, subst, ◌∙◌, append_assoc}
use Rattle.std.specs.Prelude.{map}
use Rattle.std.proofs.lemmas.List.{append-nil, length-append, length-drop}
use Rattle.esto_text.specs.declared.stop.Stop.{Stop}
use Rattle.esto_text.specs.declared.stop.Stop.TheVariants.{Syntax}
use Rattle.esto_text.specs.declared.token.Token.{Token}
use Rattle.esto_text.specs.declared.token.TokenKind.TheVariants.{Name, LeftBrace, LeftParen, Comma, Dot, Turnstile}
use Rattle.esto_text.specs.declared.tree.ItemSyntax.{ItemSyntax}
use Rattle.esto_text.specs.Trees.{EntryTrees, ItemTree, Atom, Part, Pattern}
use Rattle.esto_text.specs.Grammar.{class_of, IsName, IsTerm, IsRow, IsGroup, IsItem, IsBody, IsQuery}
use Rattle.esto_text.specs.Machine.{Symbol, AName, ATerm, AParen, ATurnstile, MoreNames, MoreTerms, AnItem, ItemRest, MoreItems, AnEntry, MoreEntries, start}
use Rattle.esto_text.specs.Machine.{after_head, class_at, first_fault, FaultLeaves, FailsAt, Fails, Takes}
use Rattle.esto_text.specs.View.{item_of}
use Rattle.esto_text.proofs.Runs.{after, put, seen, names_runs, item_runs}
use Rattle.esto_text.proofs.RowLemmas.{fails_along, fails_here, stops_here, not_name, not_item, not_item_rest, not_paren, not_turnstile, not_more_items, Goes}
use Rattle.esto_text.proofs.RowLemmas.{goes_more, goes_fails}
use Rattle.esto_text.proofs.PathLemmas.{next_is}

-- ---- one item

abbrev pub Named : List Token → Token → List Token → Type 0
Named tokens name rest = (tokens ≡ name ∷ rest) × IsName name

module _ (tokens rest : List Token) (name : Token) (h : Named tokens name rest) where
  named_runs : (s : List Symbol) → first_fault (AnItem ∷ s) tokens ≡ first_fault (ItemRest ∷ s) rest
  named_runs s = ap (first_fault (AnItem ∷ s)) h.0 ∙ seen (AnItem ∷ s) name rest Name h.1

  pub item_terms_fails : (e : Stop) → class_at rest ≡ LeftParen → Fails (ATerm ∷ MoreTerms ∷ []) (drop 1 rest) e → Fails (AnItem ∷ []) tokens e
  item_terms_fails e p f s =
      let t = next_is rest LeftParen p (λ q. cc) in
      fails_along (AnItem ∷ s) (ATerm ∷ MoreTerms ∷ s) tokens (drop 1 rest) e (named_runs s ∙ ap (first_fault (ItemRest ∷ s)) t.1
      ∙ seen (ItemRest ∷ s) t.0 (drop 1 rest) LeftParen t.2) (f s)

  pub item_group_fails : (e : Stop) → class_at rest ≡ LeftBrace → Fails (AnEntry 1 ∷ MoreEntries 1 ∷ []) (drop 1 rest) e → Fails (AnItem ∷ []) tokens e
  item_group_fails e p f s =
      let t = next_is rest LeftBrace p (λ q. cc) in
      fails_along (AnItem ∷ s) (AnEntry 1 ∷ MoreEntries 1 ∷ s) tokens (drop 1 rest) e (named_runs s ∙ ap (first_fault (ItemRest ∷ s)) t.1
      ∙ seen (ItemRest ∷ s) t.0 (drop 1 rest) LeftBrace t.2) (f s)

  pub item_terms : (terms left : List Token) → class_at rest ≡ LeftParen → Takes (IsRow IsTerm terms) (drop 1 rest) left
      → Takes (IsItem (Atom name terms)) tokens left
  item_terms terms left p (front, e, q) =
      let t = next_is rest LeftParen p (λ q. cc) in
      (name ∷ t.0 ∷ front, h.0 ∙ ap (λ (l : List Token). name ∷ l) (t.1 ∙ ap (λ (l : List Token). t.0 ∷ l) e), (t.0, front, refl, h.1, t.2, q))

  pub item_group : (fs : EntryTrees) (left : List Token) → class_at rest ≡ LeftBrace → Takes (IsGroup 1 fs) (drop 1 rest) left
      → Takes (IsItem (Pattern name fs)) tokens left
  item_group fs left p (front, e, q) =
      let t = next_is rest LeftBrace p (λ q. cc) in
      (name ∷ t.0 ∷ front, h.0 ∙ ap (λ (l : List Token). name ∷ l) (t.1 ∙ ap (λ (l : List Token). t.0 ∷ l) e), (t.0, front, refl, h.1, t.2, q))

  pub item_rest_stops : class_at rest ≢ LeftParen → class_at rest ≢ Dot → class_at rest ≢ LeftBrace → Fails (AnItem ∷ []) tokens (Syntax (length rest))
  item_rest_stops paren dot brace s =
      fails_along (AnItem ∷ s) (ItemRest ∷ s) tokens rest (Syntax (length rest)) (named_runs s)
      (stops_here ItemRest s rest refl (not_item_rest (class_at rest) paren dot brace))

  pub item_shorter : {P : List Token → Type 0} (left : List Token) → Takes P (drop 1 rest) left → length left < length tokens
  item_shorter left (front, e, p) =
      let all : length tokens ≡ suc (length rest) = ap length h.0 in
      let some : length (drop 1 rest) ≡ length front + length left = ap length e ∙ length-append front left in
      omega (arith, all, some, length-drop 1 rest)

-- no item begins there
pub item_name_fails : (tokens : List Token) (e : Stop) → (e ≡ Syntax (length tokens)) × (class_at tokens ≢ Name) → Fails (AnItem ∷ []) tokens e
item_name_fails tokens e (is, other) s = fails_here AnItem s tokens e refl (not_item (class_at tokens) other) is

-- an item of a dataset with parts
module _ (tokens rest : List Token) (name : Token) (h : Named tokens name rest) (d : class_at rest ≡ Dot) where
  to_part : (s : List Symbol) → first_fault (AnItem ∷ s) tokens ≡ first_fault (AName ∷ AParen ∷ ATerm ∷ MoreTerms ∷ s) (drop 1 rest)
  to_part s = let t = next_is rest Dot d (λ q. cc) in ap (first_fault (AnItem ∷ s)) h.0 ∙ seen (AnItem ∷ s) name rest Name h.1
      ∙ ap (first_fault (ItemRest ∷ s)) t.1 ∙ seen (ItemRest ∷ s) t.0 (drop 1 rest) Dot t.2

  pub part_name_fails : (e : Stop) → (e ≡ Syntax (length (drop 1 rest))) × (class_at (drop 1 rest) ≢ Name) → Fails (AnItem ∷ []) tokens e
  part_name_fails e (is, other) s =
      fails_along (AnItem ∷ s) (AName ∷ AParen ∷ ATerm ∷ MoreTerms ∷ s) tokens (drop 1 rest) e (to_part s)
      (fails_here AName (AParen ∷ ATerm ∷ MoreTerms ∷ s) (drop 1 rest) e refl (not_name (class_at (drop 1 rest)) other) is)

  module _ (part : Token) (t2 : List Token) (g : Named (drop 1 rest) part t2) where
    to_terms : (s : List Symbol) → first_fault (AnItem ∷ s) tokens ≡ first_fault (AParen ∷ ATerm ∷ MoreTerms ∷ s) t2
    to_terms s = to_part s ∙ ap (first_fault (AName ∷ AParen ∷ ATerm ∷ MoreTerms ∷ s)) g.0 ∙ seen (AName ∷ AParen ∷ ATerm ∷ MoreTerms ∷ s) part t2 Name g.1

    pub part_paren_fails : (e : Stop) → (e ≡ Syntax (length t2)) × (class_at t2 ≢ LeftParen) → Fails (AnItem ∷ []) tokens e
    part_paren_fails e (is, other) s =
        fails_along (AnItem ∷ s) (AParen ∷ ATerm ∷ MoreTerms ∷ s) tokens t2 e (to_terms s)
        (fails_here AParen (ATerm ∷ MoreTerms ∷ s) t2 e refl (not_paren (class_at t2) other) is)

    module _ (paren : Token) (t3 : List Token) (k : (t2 ≡ paren ∷ t3) × (class_of paren ≡ LeftParen)) where
      pub part_shorter : {P : List Token → Type 0} (left : List Token) → Takes P t3 left → length left < length tokens
      part_shorter left (front, e, p) =
          let all : length tokens ≡ suc (length rest) = ap length h.0 in
          let more : length (drop 1 rest) ≡ suc (length t2) = ap length g.0 in
          let some : length t2 ≡ suc (length front + length left) = ap length k.0 ∙ ap suc (ap length e ∙ length-append front left) in
          omega (arith, all, more, some, length-drop 1 rest)

      pub part_terms_fail : (e : Stop) → Fails (ATerm ∷ MoreTerms ∷ []) t3 e → Fails (AnItem ∷ []) tokens e
      part_terms_fail e f s = fails_along (AnItem ∷ s) (ATerm ∷ MoreTerms ∷ s) tokens t3 e (to_terms s ∙ ap (first_fault (AParen ∷ ATerm ∷ MoreTerms ∷ s)) k.0
          ∙ seen (AParen ∷ ATerm ∷ MoreTerms ∷ s) paren t3 LeftParen k.1) (f s)

      pub part_is : (terms left : List Token) → Takes (IsRow IsTerm terms) t3 left → Takes (IsItem (Part name part terms)) tokens left
      part_is terms left (front, e, q) =
          let t = next_is rest Dot d (λ q. cc) in (
            name ∷ t.0 ∷ part ∷ paren ∷ front,
            h.0 ∙ ap (λ (l : List Token). name ∷ l) (t.1 ∙ ap (λ (l : List Token). t.0 ∷ l)
                (g.0 ∙ ap (λ (l : List Token). part ∷ l) (k.0 ∙ ap (λ (l : List Token). paren ∷ l) e))),
            (t.0, paren, front, refl, h.1, t.2, g.1, k.1, q),
          )

-- ---- the items

abbrev pub IsItemsOf : List ItemSyntax → List Token → Type 0
IsItemsOf is ts = IsBody (map item_of is) ts

pub body_cons : (i : ItemTree) (is : List ItemTree) (a : List Token) (c : Token) (ts : List Token) → IsItem i a → class_of c ≡ Comma → IsBody is ts
    → IsBody (i ∷ is) (a ++ c ∷ ts)
body_cons i [] a c ts p q h = absurd h
body_cons i (j ∷ js) a c ts p q (a', b', e, hg, hgs) = (a, c ∷ ts, refl, p, (c, a', b', ap (λ (l : List Token). c ∷ l) e, q, hg, hgs))

abbrev pub item_part : List Symbol
item_part = AnItem ∷ MoreItems ∷ []

abbrev pub ItemsSoFar : List Token → List ItemSyntax → List Token → Type 0
ItemsSoFar tokens so_far rest = Goes IsItemsOf item_part [] tokens so_far rest true

module _ (tokens : List Token) (so_far : List ItemSyntax) (rest : List Token) (h : ItemsSoFar tokens so_far rest) where
  pub items_fail : (e : Stop) → Fails (AnItem ∷ []) rest e → FailsAt item_part tokens e
  items_fail e f = goes_fails IsItemsOf item_part [] tokens so_far rest e h (f (MoreItems ∷ []))

  pub items_comma_fail : (e : Stop) (x : ItemSyntax) (left : List Token) → Takes (IsItem (item_of x)) rest left → (length left ≡ 0 → ⊥)
      → (e ≡ Syntax (length left)) × (class_at left ≢ Comma) → FailsAt item_part tokens e
  items_comma_fail e x left (a, r, p) ne (q, m) =
      goes_fails IsItemsOf item_part [] tokens so_far rest e h
      (fails_along item_part (MoreItems ∷ []) rest left e (ap (first_fault item_part) r ∙ item_runs (item_of x) a (MoreItems ∷ []) left p)
      (subst (FailsAt (MoreItems ∷ []) left) (sym q) (here left ne m)))
    where
      here : (l : List Token) → (length l ≡ 0 → ⊥) → class_at l ≢ Comma → FaultLeaves (MoreItems ∷ []) l (length l)
      here [] ne m = absurd (ne refl)
      here (t ∷ ts) ne m = (t ∷ ts, ap (λ (o : Option (List Symbol)). after (put o []) t ts) (not_more_items (class_of t) m), refl)

  pub items_done : (x : ItemSyntax) (left : List Token) → Takes (IsItem (item_of x)) rest left → length left ≡ 0 → IsItemsOf (so_far ++ x ∷ []) tokens
  items_done x [] (a, r, p) none =
      subst (IsItemsOf (so_far ++ x ∷ [])) (sym (h.split ∙ ap (λ (l : List Token). h.front ++ l) (r ∙ append-nil a)))
      (h.grows (x ∷ []) a (a, [], sym (append-nil a), p, refl))
  items_done x (t ∷ left) (a, r, p) none = absurd cc

  pub items_more : (x : ItemSyntax) (left left' : List Token) (t : Token) → Takes (IsItem (item_of x)) rest left → (left ≡ t ∷ left') × (class_of t ≡ Comma)
      → ItemsSoFar tokens (so_far ++ x ∷ []) left'
  items_more x left left' t (a, r, p) (e, q) =
      let parts : rest ≡ a ++ (t ∷ left') = r ∙ ap (λ (l : List Token). a ++ l) e in
      goes_more IsItemsOf item_part [] tokens so_far rest x (a ++ t ∷ []) left' true h (parts ∙ sym (append_assoc a (t ∷ []) left'))
      (λ xs ts g. subst (IsBody (item_of x ∷ map item_of xs)) (sym (append_assoc a (t ∷ []) ts)) (body_cons (item_of x) (map item_of xs) a t ts p q g))
      (ap (first_fault item_part) parts ∙ item_runs (item_of x) a (MoreItems ∷ []) (t ∷ left') p ∙ seen (MoreItems ∷ []) t left' Comma q)

-- ---- the whole text

pub name_fails_at : (s : List Symbol) (tokens : List Token) (e : Stop) → (e ≡ Syntax (length tokens)) × (class_at tokens ≢ Name) → FailsAt (AName ∷ s) tokens e
name_fails_at s tokens e (q, n) = fails_here AName s tokens e refl (not_name (class_at tokens) n) q

module _ (tokens t1 : List Token) (name : Token) (h : Named tokens name t1) where
  to_paren : first_fault start tokens ≡ first_fault (AParen ∷ AName ∷ MoreNames ∷ after_head) t1
  to_paren = ap (first_fault start) h.0 ∙ seen start name t1 Name h.1

  pub paren_fails : (e : Stop) → (e ≡ Syntax (length t1)) × (class_at t1 ≢ LeftParen) → FailsAt start tokens e
  paren_fails e (q, n) = fails_along start (AParen ∷ AName ∷ MoreNames ∷ after_head) tokens t1 e to_paren
      (fails_here AParen (AName ∷ MoreNames ∷ after_head) t1 e refl (not_paren (class_at t1) n) q)

  module _ (paren : Token) (t2 : List Token) (g : (t1 ≡ paren ∷ t2) × (class_of paren ≡ LeftParen)) where
    to_names : first_fault start tokens ≡ first_fault (AName ∷ MoreNames ∷ after_head) t2
    to_names = to_paren ∙ ap (first_fault (AParen ∷ AName ∷ MoreNames ∷ after_head)) g.0 ∙ seen (AParen ∷ AName ∷ MoreNames ∷ after_head) paren t2 LeftParen g.1

    pub variables_fail : (e : Stop) → Fails (AName ∷ MoreNames ∷ []) t2 e → FailsAt start tokens e
    variables_fail e f = fails_along start (AName ∷ MoreNames ∷ after_head) tokens t2 e to_names (f after_head)

    module _ (variables t3 : List Token) (v : Takes (IsRow IsName variables) t2 t3) where
      to_turnstile : first_fault start tokens ≡ first_fault after_head t3
      to_turnstile = to_names ∙ ap (first_fault (AName ∷ MoreNames ∷ after_head)) v.1 ∙ names_runs variables v.0 after_head t3 v.2

      pub turnstile_fails : (e : Stop) → (e ≡ Syntax (length t3)) × (class_at t3 ≢ Turnstile) → FailsAt start tokens e
      turnstile_fails e (q, n) = fails_along start after_head tokens t3 e to_turnstile
          (fails_here ATurnstile (AnItem ∷ MoreItems ∷ []) t3 e refl (not_turnstile (class_at t3) n) q)

      pub body_fails : (turnstile : Token) (t4 : List Token) → (t3 ≡ turnstile ∷ t4) × (class_of turnstile ≡ Turnstile) → (e : Stop) → FailsAt item_part t4 e
          → FailsAt start tokens e
      body_fails turnstile t4 (p, q) e f = fails_along start item_part tokens t4 e (to_turnstile ∙ ap (first_fault after_head) p
          ∙ seen after_head turnstile t4 Turnstile q) f

      pub query_is : (turnstile : Token) (t4 : List Token) → (t3 ≡ turnstile ∷ t4) × (class_of turnstile ≡ Turnstile) → (items : List ItemTree)
          → IsBody items t4
          → IsQuery (record { name = name; variables = variables; items = items }) tokens
      query_is turnstile t4 (p, q) items b = (
        paren,
        v.0,
        turnstile,
        t4,
        h.0 ∙ ap (λ (l : List Token). name ∷ l)
            (g.0 ∙ ap (λ (l : List Token). paren ∷ l) (v.1 ∙ ap (λ (l : List Token). v.0 ++ l) p)),
        h.1,
        g.1,
        v.2,
        q,
        b,
      )
