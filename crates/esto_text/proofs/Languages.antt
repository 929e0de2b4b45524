-- The machine's symbols as languages: what may come after a token, with the token before it, may come before. So each prefix
-- that the machine goes through begins a text of the grammar.
use Rattle.std.proofs.Common.{◌≡◌, ℕ, suc, inl, inr, Bool, true, false, cond, ltb, List, [], ◌∷◌, ◌++◌, Option, Some, None, refl, sym, ap, subst, ◌∙◌}
use Rattle.std.proofs.Common.{append_assoc}
use Rattle.std.proofs.lemmas.List.{append-nil}
use Rattle.std.proofs.lemmas.Bool.{ltb-true}
use Rattle.std.proofs.lemmas.Option.{none-some, same_Some}
use Rattle.esto_text.specs.declared.token.Token.{Token}
use Rattle.esto_text.specs.declared.token.TokenKind.{TokenKind}
use Rattle.esto_text.specs.declared.token.TokenKind.TheVariants.{Name, Wildcard, Quoted, LeftParen, RightParen, LeftBrace, RightBrace, LeftBracket}
use Rattle.esto_text.specs.declared.token.TokenKind.TheVariants.{RightBracket, Comma, Dot, Colon, Turnstile, Arrow, Equals, Stars}
use Rattle.esto_text.specs.declared.tree.StepSyntax.{StepSyntax}
use Rattle.esto_text.specs.declared.tree.StepSyntax.TheVariants.{Field, Item, Below}
use Rattle.esto_text.specs.Trees.{EntryTree, Value, Nested, EntryTrees, NoEntry, AndEntry, ItemTree, Atom, Part, Pattern, QueryTree, HeadTree, Items, Equality}
use Rattle.esto_text.specs.Trees.{Never, ConstraintTree}
use Rattle.esto_text.specs.Grammar.{class_of, step_at, is_term, IsName, IsTerm, IsNext, IsRowEnd, IsLater, IsPathEnd, IsPath, IsEntry, IsGroupEnd, IsGroup}
use Rattle.esto_text.specs.Grammar.{IsLayout, IsItem, IsBodyEnd, IsQuery, IsRuleBody, IsHead, NoFalse, IsConstraint}
use Rattle.esto_text.specs.Faults.{Leaves, StopsAt}
use Rattle.esto_text.specs.Machine.{Symbol, AName, ATerm, ANext, AParen, ABracket, ATurnstile, MoreNames, MoreTerms, AnItem, ItemRest, MoreItems, MoreBody}
use Rattle.esto_text.specs.Machine.{AHead, HeadRest, AGroup, AnEntry, PathRest, MoreEntries, start, constraint_start, layout_start, step, is_done, advance}
use Rattle.esto_text.specs.Machine.{first_fault}
use Rattle.esto_text.proofs.Runs.{after, query_fits, constraint_fits, layout_fits}

-- the texts of a symbol
abbrev Lang : Symbol → List Token → Type 0
Lang AName ts = (t : Token) × (ts ≡ t ∷ []) × IsName t
Lang ATerm ts = (t : Token) × (ts ≡ t ∷ []) × IsTerm t
Lang ANext ts = (t : Token) × (s : StepSyntax) × (ts ≡ t ∷ []) × IsNext s t
Lang ABracket ts = (t : Token) × (ts ≡ t ∷ []) × (class_of t ≡ RightBracket)
Lang AParen ts = (t : Token) × (ts ≡ t ∷ []) × (class_of t ≡ LeftParen)
Lang ATurnstile ts = (t : Token) × (ts ≡ t ∷ []) × (class_of t ≡ Turnstile)
Lang MoreNames ts = (ns : List Token) × IsRowEnd IsName ns ts
Lang MoreTerms ts = (ns : List Token) × IsRowEnd IsTerm ns ts
Lang AnItem ts = (i : ItemTree) × IsItem i ts
Lang ItemRest ts = (of : Token → ItemTree) × ((n : Token) → IsName n → IsItem (of n) (n ∷ ts))
Lang MoreItems ts = (is : List ItemTree) × IsBodyEnd is ts
Lang MoreBody ts = (is : List ItemTree) × (front : List Token) × (arrow : Token) × (ts ≡ front ++ arrow ∷ []) × IsBodyEnd is front × (class_of arrow ≡ Arrow)
Lang AHead ts = (h : HeadTree) × IsHead NoFalse h ts
Lang HeadRest ts = (of : Token → HeadTree) × ((n : Token) → IsName n → IsHead NoFalse (of n) (n ∷ ts))
Lang AGroup ts = (fs : EntryTrees) × IsLayout fs ts
Lang (AnEntry n) ts = (f : EntryTree) × IsEntry n f ts
Lang (PathRest n) ts = (of : List StepSyntax → EntryTree) × ((path : List StepSyntax) (front : List Token) → IsPath path front
    → IsEntry n (of path) (front ++ ts))
Lang (MoreEntries n) ts = (fs : EntryTrees) × IsGroupEnd n fs ts

abbrev Langs : List Symbol → List Token → Type 0
Langs [] ts = ts ≡ []
Langs (x ∷ xs) ts = (a : List Token) × (b : List Token) × (ts ≡ a ++ b) × Lang x a × Langs xs b

one : (x : Symbol) (ts : List Token) → Langs (x ∷ []) ts → Lang x ts
one x ts (a, b, e, l, n) = subst (Lang x) (sym (e ∙ ap (λ (r : List Token). a ++ r) n ∙ append-nil a)) l

two : (x y : Symbol) (ts : List Token) → Langs (x ∷ y ∷ []) ts → (a : List Token) × (b : List Token) × (ts ≡ a ++ b) × Lang x a × Lang y b
two x y ts (a, b, e, l, m) = (a, b, e, l, one y b m)

langs_split : (xs ys : List Symbol) (ts : List Token) → Langs (xs ++ ys) ts → (a : List Token) × (b : List Token) × (ts ≡ a ++ b) × Langs xs a × Langs ys b
langs_split [] ys ts h = ([], ts, refl, refl, h)
langs_split (x ∷ xs) ys ts (a, b, e, l, m) =
    let r = langs_split xs ys b m in
    (a ++ r.0, r.1, e ∙ ap (λ (w : List Token). a ++ w) r.2 ∙ sym (append_assoc a r.0 r.1), (a, r.0, refl, l, r.3), r.4)

-- ---- one token

tail_back : (P : Token → Type 0) (t n : Token) (ws a b : List Token) (ns : List Token) → class_of t ≡ Comma → ws ≡ a ++ b → a ≡ n ∷ [] → P n → IsRowEnd P ns b
    → IsRowEnd P (n ∷ ns) (t ∷ ws)
tail_back P t n ws a b ns c e f p h = (t, b, ap (λ (w : List Token). t ∷ w) (e ∙ ap (λ (w : List Token). w ++ b) f), c, p, h)

term_back : (t : Token) (c : TokenKind) (new : List Symbol) (ws : List Token) → class_of t ≡ c → cond (is_term c) (Some []) None ≡ Some new → Langs new ws
    → Lang ATerm (t ∷ ws)
term_back t c new ws p e h = go (is_term c) (ap is_term p) e
  where
    go : (b : Bool) → is_term (class_of t) ≡ b → cond b (Some []) None ≡ Some new → Lang ATerm (t ∷ ws)
    go true f g = let q : [] ≡ new = cc in (t, ap (λ (l : List Token). t ∷ l) (subst (λ (l : List Symbol). Langs l ws) (sym q) h), f)
    go false f g = absurd cc

-- the entries of a group, from the first on
group_parts : (n : ℕ) (ws : List Token) → Langs (AnEntry n ∷ MoreEntries n ∷ []) ws → (fs : EntryTrees) × IsGroup n fs ws
group_parts n ws h = let r = two (AnEntry n) (MoreEntries n) ws h in (AndEntry r.3.0 r.4.0, (r.0, r.1, r.2, r.3.1, r.4.1))

brace_back : (n : ℕ) (t : Token) (new : List Symbol) (ws : List Token) → class_of t ≡ LeftBrace
    → cond (ltb n 32) (Some (AnEntry (suc n) ∷ MoreEntries (suc n) ∷ [])) None ≡ Some new → Langs new ws → Lang (PathRest n) (t ∷ ws)
brace_back n t new ws p e h = go (ltb n 32) refl e
  where
    go : (b : Bool) → ltb n 32 ≡ b → cond b (Some (AnEntry (suc n) ∷ MoreEntries (suc n) ∷ [])) None ≡ Some new → Lang (PathRest n) (t ∷ ws)
    go false f g = absurd cc
    go true f g =
        let q : AnEntry (suc n) ∷ MoreEntries (suc n) ∷ [] ≡ new = cc in
        let r = two (AnEntry (suc n)) (MoreEntries (suc n)) ws (subst (λ (l : List Symbol). Langs l ws) (sym q) h) in (
          λ path. Nested path (AndEntry r.3.0 r.4.0),
          λ path front h. (
            front,
            t,
            r.0,
            r.1,
            ap (λ (w : List Token). front ++ t ∷ w) r.2,
            h,
            p,
            ltb-true n 32 f,
            r.3.1,
            r.4.1,
          ),
        )

-- ---- paths

end_more : (path : List StepSyntax) (front : List Token) (s : StepSyntax) (l : List Token) → IsPathEnd path front → IsLater s l
    → IsPathEnd (path ++ s ∷ []) (front ++ l)
end_more [] front s l e h = (l, [], ap (λ (w : List Token). w ++ l) e ∙ sym (append-nil l), h, refl)
end_more (x ∷ path) front s l (a, b, e, f, g) h = (a, b ++ l, ap (λ (w : List Token). w ++ l) e ∙ append_assoc a b l, f, end_more path b s l g h)

pub path_more : (path : List StepSyntax) (front : List Token) (s : StepSyntax) (l : List Token) → IsPath path front → IsLater s l
    → IsPath (path ++ s ∷ []) (front ++ l)
path_more [] front s l h g = absurd h
path_more (x ∷ path) front s l (a, b, e, f, g) h = (a, b ++ l, ap (λ (w : List Token). w ++ l) e ∙ append_assoc a b l, f, end_more path b s l g h)

-- a later step before the rest of an entry
later_back : (n : ℕ) (s : StepSyntax) (l ts b : List Token) → ts ≡ l ++ b → IsLater s l → Lang (PathRest n) b → Lang (PathRest n) ts
later_back n s l ts b e h (of, g) = (
  λ path. of (path ++ s ∷ []),
  λ path front p. subst (IsEntry n (of (path ++ s ∷ []))) (append_assoc front l b ∙ ap (λ (w : List Token). front ++ w) (sym e))
      (g (path ++ s ∷ []) (front ++ l) (path_more path front s l p h)),
)

-- a first step that is one token
first_back : (n : ℕ) (s : StepSyntax) (t : Token) (ws : List Token) → IsNext s t → Lang (PathRest n) ws → Lang (AnEntry n) (t ∷ ws)
first_back n s t ws h (of, g) = (of (s ∷ []), g (s ∷ []) (t ∷ []) (t ∷ [], [], refl, inl (t, refl, h), refl))

next_back : (t : Token) (s : StepSyntax) (new : List Symbol) (ws : List Token) → [] ≡ new → Langs new ws → IsNext s t → Lang ANext (t ∷ ws)
next_back t s new ws q h n = (t, s, ap (λ (l : List Token). t ∷ l) (subst (λ (l : List Symbol). Langs l ws) (sym q) h), n)

-- `]` and the rest of an entry
bracket_rest : (n : ℕ) (ws : List Token) → Langs (ABracket ∷ PathRest n ∷ []) ws → (r : Token) × (b : List Token) × (ws ≡ r ∷ b) × (class_of r ≡ RightBracket)
    × Lang (PathRest n) b
bracket_rest n ws h =
    let k = two ABracket (PathRest n) ws h in
    (k.3.0, k.1, k.2 ∙ ap (λ (w : List Token). w ++ k.1) k.3.1, k.3.2, k.4)

first_bracket_back : (n : ℕ) (t : Token) (ws : List Token) → class_of t ≡ LeftBracket → Langs (ABracket ∷ PathRest n ∷ []) ws → Lang (AnEntry n) (t ∷ ws)
first_bracket_back n t ws p h =
    let k = bracket_rest n ws h in
    let first : IsPath (Item ∷ []) (t ∷ k.0 ∷ []) = (t ∷ k.0 ∷ [], [], refl, inr (refl, t, k.0, refl, p, k.3), refl) in
    (k.4.0 (Item ∷ []), subst (IsEntry n (k.4.0 (Item ∷ []))) (ap (λ (w : List Token). t ∷ w) (sym k.2)) (k.4.1 (Item ∷ []) (t ∷ k.0 ∷ []) first))

later_bracket_back : (n : ℕ) (t : Token) (ws : List Token) → class_of t ≡ LeftBracket → Langs (ABracket ∷ PathRest n ∷ []) ws → Lang (PathRest n) (t ∷ ws)
later_bracket_back n t ws p h =
    let k = bracket_rest n ws h in
    later_back n Item (t ∷ k.0 ∷ []) (t ∷ ws) k.1 (ap (λ (w : List Token). t ∷ w) k.2) (inr (refl, t, k.0, refl, p, k.3)) k.4

dot_back : (n : ℕ) (t : Token) (ws : List Token) → class_of t ≡ Dot → Langs (ANext ∷ PathRest n ∷ []) ws → Lang (PathRest n) (t ∷ ws)
dot_back n t ws p h =
    let k = two ANext (PathRest n) ws h in
    later_back n k.3.1 (t ∷ k.3.0 ∷ []) (t ∷ ws) k.1 (ap (λ (w : List Token). t ∷ w) (k.2 ∙ ap (λ (w : List Token). w ++ k.1) k.3.2))
    (inl (t, k.3.0, refl, p, k.3.3)) k.4

part_back : (t : Token) (ws : List Token) → class_of t ≡ Dot → Langs (AName ∷ AParen ∷ ATerm ∷ MoreTerms ∷ []) ws → Lang ItemRest (t ∷ ws)
part_back t ws p (a0, b0, e0, (r, f0, p0), (a1, b1, e1, (c, f1, p1), last)) =
    let k = two ATerm MoreTerms b1 last in
    let whole : ws ≡ r ∷ c ∷ b1 = e0 ∙ ap (λ (w : List Token). w ++ b0) f0 ∙ ap (λ (w : List Token). r ∷ w) (e1 ∙ ap (λ (w : List Token). w ++ b1) f1) in (
      λ n. Part n r (k.3.0 ∷ k.4.0),
      λ n name. (
        t,
        c,
        b1,
        ap (λ (w : List Token). n ∷ t ∷ w) whole,
        name,
        p,
        p0,
        p1,
        (k.1, k.2 ∙ ap (λ (w : List Token). w ++ k.1) k.3.1, k.3.2, k.4.1),
      ),
    )

rest_back : (c : TokenKind) (t : Token) (new : List Symbol) (ws : List Token) → class_of t ≡ c → step ItemRest c ≡ Some new → Langs new ws
    → Lang ItemRest (t ∷ ws)
rest_back LeftParen t new ws p e h =
    let q : ATerm ∷ MoreTerms ∷ [] ≡ new = same_Some _ _ e in
    let r = two ATerm MoreTerms ws (subst (λ (l : List Symbol). Langs l ws) (sym q) h) in
    (λ n. Atom n (r.3.0 ∷ r.4.0), λ n name. (t, ws, refl, name, p, (r.1, r.2 ∙ ap (λ (w : List Token). w ++ r.1) r.3.1, r.3.2, r.4.1)))
rest_back Dot t new ws p e h =
    let q : AName ∷ AParen ∷ ATerm ∷ MoreTerms ∷ [] ≡ new = same_Some _ _ e in part_back t ws p (subst (λ (l : List Symbol). Langs l ws) (sym q) h)
rest_back LeftBrace t new ws p e h =
    let q : AnEntry 1 ∷ MoreEntries 1 ∷ [] ≡ new = same_Some _ _ e in
    let r = group_parts 1 ws (subst (λ (l : List Symbol). Langs l ws) (sym q) h) in
    (λ n. Pattern n r.0, λ n name. (t, ws, refl, name, p, r.1))
rest_back _ t new ws p e h = absurd (none-some _ e)

-- ---- the rest of a constraint

body_comma_back : (t : Token) (ws : List Token) → class_of t ≡ Comma → Langs (AnItem ∷ MoreBody ∷ []) ws → Lang MoreBody (t ∷ ws)
body_comma_back t ws p h =
    let k = two AnItem MoreBody ws h in
    let (is, front, arrow, e, g, c) = k.4 in (
      k.3.0 ∷ is,
      t ∷ (k.0 ++ front),
      arrow,
      ap (λ (w : List Token). t ∷ w) (k.2 ∙ ap (λ (w : List Token). k.0 ++ w) e ∙ sym (append_assoc k.0 front (arrow ∷ []))),
      (t, k.0, front, refl, p, k.3.1, g),
      c,
    )

-- the rest of an item, and more items
items_back : (c : TokenKind) (t : Token) (new : List Symbol) (ws : List Token) → class_of t ≡ c → step ItemRest c ≡ Some new → Langs (new ++ MoreItems ∷ []) ws
    → Lang HeadRest (t ∷ ws)
items_back c t new ws p e h =
    let k = langs_split new (MoreItems ∷ []) ws h in
    let first = rest_back c t new k.0 p e k.3 in
    let others = one MoreItems k.1 k.4 in
    (λ n. Items (first.0 n ∷ others.0), λ n name. (n ∷ t ∷ k.0, k.1, ap (λ (w : List Token). n ∷ t ∷ w) k.2, first.1 n name, others.1))

step_back : (x : Symbol) (c : TokenKind) (t : Token) (new : List Symbol) (ws : List Token) → class_of t ≡ c → step x c ≡ Some new → Langs new ws
    → Lang x (t ∷ ws)
step_back AName Name t new ws p e h = let q : [] ≡ new = same_Some _ _ e in
    (t, ap (λ (l : List Token). t ∷ l) (subst (λ (l : List Symbol). Langs l ws) (sym q) h), p)
step_back AParen LeftParen t new ws p e h = let q : [] ≡ new = same_Some _ _ e in
    (t, ap (λ (l : List Token). t ∷ l) (subst (λ (l : List Symbol). Langs l ws) (sym q) h), p)
step_back ATurnstile Turnstile t new ws p e h = let q : [] ≡ new = same_Some _ _ e in
    (t, ap (λ (l : List Token). t ∷ l) (subst (λ (l : List Symbol). Langs l ws) (sym q) h), p)
step_back ATerm c t new ws p e h = term_back t c new ws p e h
step_back MoreNames Comma t new ws p e h =
    let q : AName ∷ MoreNames ∷ [] ≡ new = same_Some _ _ e in
    let r = two AName MoreNames ws (subst (λ (l : List Symbol). Langs l ws) (sym q) h) in
    (r.3.0 ∷ r.4.0, tail_back IsName t r.3.0 ws r.0 r.1 r.4.0 p r.2 r.3.1 r.3.2 r.4.1)
step_back MoreNames RightParen t new ws p e h = let q : [] ≡ new = same_Some _ _ e in
    ([], (t, ap (λ (l : List Token). t ∷ l) (subst (λ (l : List Symbol). Langs l ws) (sym q) h), p))
step_back MoreTerms Comma t new ws p e h =
    let q : ATerm ∷ MoreTerms ∷ [] ≡ new = same_Some _ _ e in
    let r = two ATerm MoreTerms ws (subst (λ (l : List Symbol). Langs l ws) (sym q) h) in
    (r.3.0 ∷ r.4.0, tail_back IsTerm t r.3.0 ws r.0 r.1 r.4.0 p r.2 r.3.1 r.3.2 r.4.1)
step_back MoreTerms RightParen t new ws p e h = let q : [] ≡ new = same_Some _ _ e in
    ([], (t, ap (λ (l : List Token). t ∷ l) (subst (λ (l : List Symbol). Langs l ws) (sym q) h), p))
step_back AnItem Name t new ws p e h =
    let q : ItemRest ∷ [] ≡ new = same_Some _ _ e in
    let r = one ItemRest ws (subst (λ (l : List Symbol). Langs l ws) (sym q) h) in (r.0 t, r.1 t p)
step_back ItemRest c t new ws p e h = rest_back c t new ws p e h
step_back MoreItems Comma t new ws p e h =
    let q : AnItem ∷ MoreItems ∷ [] ≡ new = same_Some _ _ e in
    let r = two AnItem MoreItems ws (subst (λ (l : List Symbol). Langs l ws) (sym q) h) in
    (r.3.0 ∷ r.4.0, (t, r.0, r.1, ap (λ (w : List Token). t ∷ w) r.2, p, r.3.1, r.4.1))
step_back MoreBody Comma t new ws p e h =
    let q : AnItem ∷ MoreBody ∷ [] ≡ new = same_Some _ _ e in body_comma_back t ws p (subst (λ (l : List Symbol). Langs l ws) (sym q) h)
step_back MoreBody Arrow t new ws p e h = let q : [] ≡ new = same_Some _ _ e in (
  [],
  [],
  t,
  ap (λ (l : List Token). t ∷ l)
      (subst (λ (l : List Symbol). Langs l ws) (sym q) h),
  refl,
  p,
)
step_back AHead Name t new ws p e h =
    let q : HeadRest ∷ [] ≡ new = same_Some _ _ e in
    let r = one HeadRest ws (subst (λ (l : List Symbol). Langs l ws) (sym q) h) in (r.0 t, r.1 t p)
step_back HeadRest Equals t new ws p e h =
    let q : ATerm ∷ [] ≡ new = same_Some _ _ e in
    let r = one ATerm ws (subst (λ (l : List Symbol). Langs l ws) (sym q) h) in
    (λ n. Equality n r.0, λ n name. (t, ap (λ (w : List Token). n ∷ t ∷ w) r.1, name, p, r.2))
step_back HeadRest LeftParen t new ws p e h =
    let q : ATerm ∷ MoreTerms ∷ MoreItems ∷ [] ≡ new = same_Some _ _ e in items_back LeftParen t (ATerm ∷ MoreTerms ∷ []) ws p refl
    (subst (λ (l : List Symbol). Langs l ws) (sym q) h)
step_back HeadRest Dot t new ws p e h =
    let q : AName ∷ AParen ∷ ATerm ∷ MoreTerms ∷ MoreItems ∷ [] ≡ new = same_Some _ _ e in
    items_back Dot t (AName ∷ AParen ∷ ATerm ∷ MoreTerms ∷ []) ws p refl (subst (λ (l : List Symbol). Langs l ws) (sym q) h)
step_back HeadRest LeftBrace t new ws p e h =
    let q : AnEntry 1 ∷ MoreEntries 1 ∷ MoreItems ∷ [] ≡ new = same_Some _ _ e in items_back LeftBrace t (AnEntry 1 ∷ MoreEntries 1 ∷ []) ws p refl
    (subst (λ (l : List Symbol). Langs l ws) (sym q) h)
step_back AGroup LeftBrace t new ws p e h =
    let q : AnEntry 1 ∷ MoreEntries 1 ∷ [] ≡ new = same_Some _ _ e in
    let r = group_parts 1 ws (subst (λ (l : List Symbol). Langs l ws) (sym q) h) in (r.0, (t, ws, refl, p, r.1))
step_back (AnEntry n) Name t new ws p e h =
    let q : PathRest n ∷ [] ≡ new = same_Some _ _ e in first_back n (Field t) t ws (ap (λ (k : TokenKind). step_at k t) p)
    (one (PathRest n) ws (subst (λ (l : List Symbol). Langs l ws) (sym q) h))
step_back (AnEntry n) Quoted t new ws p e h =
    let q : PathRest n ∷ [] ≡ new = same_Some _ _ e in first_back n (Field t) t ws (ap (λ (k : TokenKind). step_at k t) p)
    (one (PathRest n) ws (subst (λ (l : List Symbol). Langs l ws) (sym q) h))
step_back (AnEntry n) Stars t new ws p e h =
    let q : PathRest n ∷ [] ≡ new = same_Some _ _ e in first_back n Below t ws (ap (λ (k : TokenKind). step_at k t) p)
    (one (PathRest n) ws (subst (λ (l : List Symbol). Langs l ws) (sym q) h))
step_back (AnEntry n) LeftBracket t new ws p e h =
    let q : ABracket ∷ PathRest n ∷ [] ≡ new = same_Some _ _ e in first_bracket_back n t ws p (subst (λ (l : List Symbol). Langs l ws) (sym q) h)
step_back (PathRest n) LeftBracket t new ws p e h =
    let q : ABracket ∷ PathRest n ∷ [] ≡ new = same_Some _ _ e in later_bracket_back n t ws p (subst (λ (l : List Symbol). Langs l ws) (sym q) h)
step_back (PathRest n) Dot t new ws p e h =
    let q : ANext ∷ PathRest n ∷ [] ≡ new = same_Some _ _ e in dot_back n t ws p (subst (λ (l : List Symbol). Langs l ws) (sym q) h)
step_back (PathRest n) Colon t new ws p e h =
    let q : ATerm ∷ [] ≡ new = same_Some _ _ e in
    let r = one ATerm ws (subst (λ (l : List Symbol). Langs l ws) (sym q) h) in
    (λ path. Value path r.0, λ path front h. (front, t, ap (λ (w : List Token). front ++ t ∷ w) r.1, h, p, r.2))
step_back ANext Name t new ws p e h = let q : [] ≡ new = same_Some _ _ e in next_back t (Field t) new ws q h (ap (λ (k : TokenKind). step_at k t) p)
step_back ANext Quoted t new ws p e h = let q : [] ≡ new = same_Some _ _ e in next_back t (Field t) new ws q h (ap (λ (k : TokenKind). step_at k t) p)
step_back ANext Stars t new ws p e h = let q : [] ≡ new = same_Some _ _ e in next_back t Below new ws q h (ap (λ (k : TokenKind). step_at k t) p)
step_back ABracket RightBracket t new ws p e h = let q : [] ≡ new = same_Some _ _ e in
    (t, ap (λ (l : List Token). t ∷ l) (subst (λ (l : List Symbol). Langs l ws) (sym q) h), p)
step_back (PathRest n) LeftBrace t new ws p e h = brace_back n t new ws p e h
step_back (MoreEntries n) Comma t new ws p e h =
    let q : AnEntry n ∷ MoreEntries n ∷ [] ≡ new = same_Some _ _ e in
    let r = two (AnEntry n) (MoreEntries n) ws (subst (λ (l : List Symbol). Langs l ws) (sym q) h) in
    (AndEntry r.3.0 r.4.0, (t, r.0, r.1, ap (λ (w : List Token). t ∷ w) r.2, p, r.3.1, r.4.1))
step_back (MoreEntries n) RightBrace t new ws p e h = let q : [] ≡ new = same_Some _ _ e in
    (NoEntry, (t, ap (λ (l : List Token). t ∷ l) (subst (λ (l : List Symbol). Langs l ws) (sym q) h), p))
step_back _ _ t new ws p e h = absurd (none-some _ e)

advance_back : (xs : List Symbol) (t : Token) (new : List Symbol) (ws : List Token) → advance xs (class_of t) ≡ Some new → Langs new ws → Langs xs (t ∷ ws)
advance_back [] t new ws e h = absurd cc
advance_back (x ∷ xs) t new ws e h = go (step x (class_of t)) refl e
  where
    go : (o : Option (List Symbol)) → step x (class_of t) ≡ o → elim o as (λ _. Option (List Symbol)) [ Some put ↦ Some (put ++ xs) | None ↦ None ] ≡ Some new
        → Langs (x ∷ xs) (t ∷ ws)
    go None f g = absurd cc
    go (Some put) f g =
        let q : put ++ xs ≡ new = cc in
        let r = langs_split put xs ws (subst (λ (l : List Symbol). Langs l ws) (sym q) h) in
        (t ∷ r.0, r.1, ap (λ (w : List Token). t ∷ w) r.2, step_back x (class_of t) t put r.0 refl f r.3, r.4)

-- ---- each symbol has a text

abbrev a_token : TokenKind → Token
a_token k = record { kind = k; start = 0; end = 0 }

least_rest : (ts : List Token) × Lang ItemRest ts
least_rest = (
  a_token LeftParen ∷ a_token Wildcard ∷ a_token RightParen ∷ [],
  (
    λ n. Atom n (a_token Wildcard ∷ []),
    λ n name. (
      a_token LeftParen,
      a_token Wildcard ∷ a_token RightParen ∷ [],
      refl,
      name,
      refl,
      (a_token RightParen ∷ [], refl, refl, (a_token RightParen, refl, refl)),
    ),
  ),
)

least_end : (n : ℕ) → (ts : List Token) × Lang (PathRest n) ts
least_end n = (a_token Colon ∷ a_token Wildcard ∷ [], (λ path. Value path (a_token Wildcard), λ path front h. (front, a_token Colon, refl, h, refl, refl)))

least_side : (ts : List Token) × Lang HeadRest ts
least_side = (a_token Equals ∷ a_token Wildcard ∷ [], (λ n. Equality n (a_token Wildcard), λ n name. (a_token Equals, refl, name, refl, refl)))

least_layout : (ts : List Token) × Lang AGroup ts
least_layout =
    let r = least_end 1 in
    let first = first_back 1 (Field (a_token Name)) (a_token Name) r.0 refl r.1 in
    let close : List Token = a_token RightBrace ∷ [] in
    let entry : List Token = a_token Name ∷ r.0 in (
      a_token LeftBrace ∷ (entry ++ close),
      (AndEntry first.0 NoEntry, (a_token LeftBrace, entry ++ close, refl, refl, (entry, close, refl, first.1, (a_token RightBrace, refl, refl)))),
    )

least : (x : Symbol) → (ts : List Token) × Lang x ts
least AName = (a_token Name ∷ [], (a_token Name, refl, refl))
least ATerm = (a_token Wildcard ∷ [], (a_token Wildcard, refl, refl))
least AParen = (a_token LeftParen ∷ [], (a_token LeftParen, refl, refl))
least ATurnstile = (a_token Turnstile ∷ [], (a_token Turnstile, refl, refl))
least MoreNames = (a_token RightParen ∷ [], ([], (a_token RightParen, refl, refl)))
least MoreTerms = (a_token RightParen ∷ [], ([], (a_token RightParen, refl, refl)))
least ANext = (a_token Name ∷ [], (a_token Name, Field (a_token Name), refl, refl))
least ABracket = (a_token RightBracket ∷ [], (a_token RightBracket, refl, refl))
least ItemRest = least_rest
least AnItem = (a_token Name ∷ least_rest.0, (least_rest.1.0 (a_token Name), least_rest.1.1 (a_token Name) refl))
least MoreItems = ([], ([], refl))
least MoreBody = (a_token Arrow ∷ [], ([], [], a_token Arrow, refl, refl, refl))
least HeadRest = least_side
least AHead = (a_token Name ∷ least_side.0, (least_side.1.0 (a_token Name), least_side.1.1 (a_token Name) refl))
least AGroup = least_layout
least (AnEntry n) = let r = least_end n in (a_token Name ∷ r.0, first_back n (Field (a_token Name)) (a_token Name) r.0 refl r.1)
least (PathRest n) = least_end n
least (MoreEntries n) = (a_token RightBrace ∷ [], (NoEntry, (a_token RightBrace, refl, refl)))

least_all : (xs : List Symbol) → (ts : List Token) × Langs xs ts
least_all [] = ([], refl)
least_all (x ∷ xs) = let r = least x in let s = least_all xs in (r.0 ++ s.0, (r.0, s.0, refl, r.1, s.1))

-- ---- whole runs

abbrev IsStuck : List Symbol → List Token → Type 0
IsStuck xs [] = is_done xs ≡ false
IsStuck xs (t ∷ ts) = advance xs (class_of t) ≡ None

advanced : (xs : List Symbol) (t : Token) (ts : List Token) (o : Option (List Symbol)) → advance xs (class_of t) ≡ o → first_fault xs (t ∷ ts) ≡ after o t ts
advanced xs t ts o f = ap (λ (x : Option (List Symbol)). after x t ts) f

ended : (xs : List Symbol) → is_done xs ≡ false → first_fault xs [] ≡ Some []
ended xs f = ap (λ (b : Bool). let r : Option (List Token) = cond b None (Some []) in r) f

record Run (xs : List Symbol) (ts rest : List Token) : Type 0 where
  front : List Token
  then : List Symbol
  split : ts ≡ front ++ rest
  forward : (ws : List Token) → first_fault xs (front ++ ws) ≡ first_fault then ws
  backward : (ws : List Token) → Langs then ws → Langs xs (front ++ ws)
  stuck : IsStuck then rest

stops_here : (xs : List Symbol) (ts rest : List Token) → ts ≡ rest → IsStuck xs ts → Run xs ts rest
stops_here xs ts rest e h = subst (Run xs ts) e (record { front = []; then = xs; split = refl; forward = λ ws. refl; backward = λ ws g. g; stuck = h })

goes_on : (xs : List Symbol) (t : Token) (ts rest : List Token) (new : List Symbol) → advance xs (class_of t) ≡ Some new → Run new ts rest
    → Run xs (t ∷ ts) rest
goes_on xs t ts rest new f r = record {
  front = t ∷ r.front;
  then = r.then;
  split = ap (λ (w : List Token). t ∷ w) r.split;
  forward = λ ws. advanced xs t (r.front ++ ws) (Some new) f ∙ r.forward ws;
  backward = λ ws h. advance_back xs t new (r.front ++ ws) f (r.backward ws h);
  stuck = r.stuck;
}

run_end : (rest : List Token) (xs : List Symbol) (b : Bool) → is_done xs ≡ b → cond b None (Some []) ≡ Some rest → Run xs [] rest
run_end rest xs true f e = absurd cc
run_end rest xs false f e = let q : [] ≡ rest = cc in stops_here xs [] rest q f

run_is : (ts rest : List Token) (xs : List Symbol) → first_fault xs ts ≡ Some rest → Run xs ts rest
run_is [] rest xs e = run_end rest xs (is_done xs) refl e
run_is (t ∷ ts) rest xs e = go (advance xs (class_of t)) refl e (run_is ts rest)
  where
    go : (o : Option (List Symbol)) → advance xs (class_of t) ≡ o → after o t ts ≡ Some rest
        → ((new : List Symbol) → first_fault new ts ≡ Some rest → Run new ts rest) → Run xs (t ∷ ts) rest
    go None f g later = let q : t ∷ ts ≡ rest = cc in stops_here xs (t ∷ ts) rest q f
    go (Some new) f g later = goes_on xs t ts rest new f (later new g)

query_of : (ts : List Token) → Langs start ts → (q : QueryTree) × IsQuery q ts
query_of ts (a0, b0, e0, (n, f0, p0), (a1, b1, e1, (paren, f1, p1), (a2, b2, e2, (v, f2, p2), (a3, b3, e3, (vs, p3), (a4, b4, e4, (turn, f4, p4), last))))) =
    let r = two AnItem MoreItems b4 last in
    let head : List Token = v ∷ a3 in (
      record { name = n; variables = v ∷ vs; items = r.3.0 ∷ r.4.0 },
      (
        paren,
        head,
        turn,
        b4,
        e0 ∙ ap (λ (w : List Token). w ++ b0) f0 ∙ ap (λ (w : List Token). n ∷ w) (e1 ∙ ap (λ (w : List Token). w ++ b1) f1
            ∙ ap (λ (w : List Token). paren ∷ w) (e2 ∙ ap (λ (w : List Token). w ++ b2) f2
            ∙ ap (λ (w : List Token). v ∷ w) (e3 ∙ ap (λ (w : List Token). a3 ++ w) (e4 ∙ ap (λ (w : List Token). w ++ b4) f4)))),
        p0,
        p1,
        (a3, refl, p2, p3),
        p4,
        (r.0, r.1, r.2, r.3.1, r.4.1),
      ),
    )

-- what is a head without the word `false` is one with it
pub head_any : (IsFalse : Token → Type 0) (h : HeadTree) (ts : List Token) → IsHead NoFalse h ts → IsHead IsFalse h ts
head_any IsFalse (Items is) ts h = h
head_any IsFalse (Equality left right) ts h = h
head_any IsFalse Never ts h = absurd h.3

constraint_of : (IsFalse : Token → Type 0) (ts : List Token) → Langs constraint_start ts → (c : ConstraintTree) × IsConstraint IsFalse c ts
constraint_of IsFalse ts (a0, b0, e0, (i, hi), (a1, b1, e1, (is, front, arrow, f, g, c), last)) =
    let h = one AHead b1 last in (
      record { body = i ∷ is; head = h.0 },
      (
        a0 ++ a1,
        b1,
        e0 ∙ ap (λ (w : List Token). a0 ++ w) e1 ∙ sym (append_assoc a0 a1 b1),
        (a0 ++ front, arrow, ap (λ (w : List Token). a0 ++ w) f ∙ sym (append_assoc a0 front (arrow ∷ [])), (a0, front, refl, hi, g), c),
        head_any IsFalse h.0 b1 h.1,
      ),
    )

-- the machine stops where the texts of its symbols do
module _ {T : Type 0} (IsTree : T → List Token → Type 0) (whole : List Symbol) (tree : (ts : List Token) → Langs whole ts → (x : T) × IsTree x ts)
    (fits : (x : T) (ts rest : List Token) → IsTree x ts → first_fault whole ts ≡ Some rest → rest ≡ []) where
  leaves : (rest : List Token) (then : List Symbol) (front : List Token) → ((ws : List Token) → first_fault whole (front ++ ws) ≡ first_fault then ws)
      → IsStuck then rest → (rest ≡ [] → (x : T) → ¬ IsTree x front) → Leaves IsTree front rest
  leaves [] then front forward stuck none = none refl
  leaves (t ∷ ts) then front forward stuck none = λ (x, more, h).
      let here : first_fault whole ((front ++ t ∷ []) ++ more) ≡ Some (t ∷ more) =
      ap (first_fault whole) (append_assoc front (t ∷ []) more) ∙ forward (t ∷ more) ∙ advanced then t more None stuck in
      let nil : t ∷ more ≡ [] = fits x ((front ++ t ∷ []) ++ more) (t ∷ more) h here in
      absurd cc

  stops_at : (ts rest : List Token) → ((x : T) → ¬ IsTree x ts) → first_fault whole ts ≡ Some rest → StopsAt IsTree ts rest
  stops_at ts rest none e =
      let r = run_is ts rest whole e in
      let w = least_all r.then in
      let x = tree (r.front ++ w.0) (r.backward w.0 w.1) in
      let at_end : rest ≡ [] → (x : T) → ¬ IsTree x r.front = λ nil x h.
      none x (subst (IsTree x) (sym (r.split ∙ ap (λ (l : List Token). r.front ++ l) nil ∙ append-nil r.front)) h) in
      (r.front, r.split, (x.0, w.0, x.1), leaves rest r.then r.front r.forward r.stuck at_end)

pub fault_is : (ts rest : List Token) → first_fault start ts ≡ Some rest → StopsAt IsQuery ts rest
fault_is ts rest e =
    stops_at IsQuery start query_of (λ x ts rest h f. absurd (query_fits x ts rest h f)) ts rest (λ x h. query_fits x ts rest h e) e

pub constraint_fault_is : (IsFalse : Token → Type 0) (ts rest : List Token) → ((c : ConstraintTree) → ¬ IsConstraint IsFalse c ts)
    → first_fault constraint_start ts ≡ Some rest → StopsAt (IsConstraint IsFalse) ts rest
constraint_fault_is IsFalse = stops_at (IsConstraint IsFalse) constraint_start (constraint_of IsFalse) (constraint_fits IsFalse)

layout_of : (ts : List Token) → Langs layout_start ts → (fs : EntryTrees) × IsLayout fs ts
layout_of ts h = one AGroup ts h

pub layout_fault_is : (ts rest : List Token) → first_fault layout_start ts ≡ Some rest → StopsAt IsLayout ts rest
layout_fault_is ts rest e =
    stops_at IsLayout layout_start layout_of (λ fs ts rest h f. absurd (layout_fits fs ts rest h f)) ts rest (λ fs h. layout_fits fs ts rest h e) e

-- ---- what the machine goes through to its end is a text

ended_back : (xs : List Symbol) → is_done xs ≡ true → Langs xs []
ended_back [] e = refl
ended_back (MoreItems ∷ []) e = ([], [], refl, ([], refl), refl)
ended_back _ e = absurd cc

through : (ts : List Token) (xs : List Symbol) → first_fault xs ts ≡ None → Langs xs ts
through [] xs e = go (is_done xs) refl e
  where
    go : (b : Bool) → is_done xs ≡ b → (let r : Option (List Token) = cond b None (Some []) in r) ≡ None → Langs xs []
    go true f g = ended_back xs f
    go false f g = absurd cc
through (t ∷ ts) xs e = go (advance xs (class_of t)) refl e (through ts)
  where
    go : (o : Option (List Symbol)) → advance xs (class_of t) ≡ o → after o t ts ≡ None → ((new : List Symbol) → first_fault new ts ≡ None → Langs new ts)
        → Langs xs (t ∷ ts)
    go None f g later = absurd cc
    go (Some new) f g later = advance_back xs t new ts f (later new g)

pub query_there : (ts : List Token) → first_fault start ts ≡ None → (q : QueryTree) × IsQuery q ts
query_there ts e = query_of ts (through ts start e)

pub constraint_there : (IsFalse : Token → Type 0) (ts : List Token) → first_fault constraint_start ts ≡ None
    → (c : ConstraintTree) × IsConstraint IsFalse c ts
constraint_there IsFalse ts e = constraint_of IsFalse ts (through ts constraint_start e)

pub layout_there : (ts : List Token) → first_fault layout_start ts ≡ None → (fs : EntryTrees) × IsLayout fs ts
layout_there ts e = layout_of ts (through ts layout_start e)

pub rule_body_there : (ts : List Token) → first_fault (AnItem ∷ MoreBody ∷ []) ts ≡ None → (is : List ItemTree) × IsRuleBody is ts
rule_body_there ts e =
    let k = two AnItem MoreBody ts (through ts (AnItem ∷ MoreBody ∷ []) e) in
    let (is, front, arrow, f, g, c) = k.4 in (
      k.3.0 ∷ is,
      (
        k.0 ++ front,
        arrow,
        k.2 ∙ ap (λ (w : List Token). k.0 ++ w) f ∙ sym (append_assoc k.0 front (arrow ∷ [])),
        (k.0, front, refl, k.3.1, g),
        c,
      ),
    )
