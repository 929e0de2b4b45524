-- Each token of a tree is one of the text's tokens, and stands in the text.
use Rattle.std.proofs.Common.{None, ◌≡◌, ◌≢◌, ℕ, zero, suc, ◌-◌, ◌≤◌, ◌⊎◌, Bool, true, false, cond, inl, inr, List, [], ◌∷◌, ◌++◌, length, drop, take, Some}
use Rattle.std.proofs.Common.{refl, sym, ap, subst, ◌∙◌, arith}
use Rattle.std.specs.List.{AllByRecursion}
use Rattle.std.proofs.lemmas.List.{length-append, length-drop, take_at, drop-drop}
use Rattle.std.proofs.Math.Seq.{drop-append_seam}
use Rattle.esto_text.specs.declared.token.Token.{Token}
use Rattle.esto_text.specs.declared.token.TokenKind.{TokenKind}
use Rattle.esto_text.specs.declared.token.TokenKind.TheVariants.{Name, Quoted, Stars, Stray}
use Rattle.esto_text.specs.declared.tree.StepSyntax.{StepSyntax}
use Rattle.esto_text.specs.declared.tree.StepSyntax.TheVariants.{Field, Item, Below}
use Rattle.esto_text.specs.Grammar.{fitting, class_of, is_term, step_at, IsName, IsTerm, IsRowEnd, IsRow, IsFirst, IsLater, IsPathEnd, IsPath, IsEntry}
use Rattle.esto_text.specs.Grammar.{IsGroupEnd, IsGroup, IsLayout, IsItem, IsBodyEnd, IsBody, IsQuery, IsHead, IsConstraint, IsUnionEnd, IsUnionFrom, IsUnion}
use Rattle.esto_text.specs.Faults.{IsNameIn, IsFieldIn, IsTermIn, StandsAt, ConstraintStandsAt, LayoutStandsAt, UnionStandsAt}
use Rattle.esto_text.specs.Limits.{is_close, is_name, in_room, limited_row, limited, Reached, Nothing, Part, Head, reached_then, limited_token, limited_after}
use Rattle.esto_text.specs.Limits.{limited_union}
use Rattle.esto_text.specs.Tokens.{IsToken, Places, Covers, text_of, StandsIn}
use Rattle.esto_text.specs.Trees.{EntryTree, Value, Nested, EntryTrees, NoEntry, AndEntry, ItemTree, Atom, Part, Pattern, QueryTree, HeadTree, Items, Equality}
use Rattle.esto_text.specs.Trees.{Never, ConstraintTree, EachOfPath, EachOfEntry, EachOfEntries, EachOfItem, EachOfQuery, EachOfHead, EachOfConstraint}

-- ---- from the tokens to the tree

module _ (P N F T : Token → Type 0) (name_leaf : (t : Token) → P t → IsName t → N t) (field_leaf : (t : Token) → P t → step_at (class_of t) t ≡ Some (Field t)
    → F t)
    (term_leaf : (t : Token) → P t → IsTerm t → T t) where
  abbrev Every : List Token → Type 0
  Every = AllByRecursion P

  front_of : (a b : List Token) → Every (a ++ b) → Every a
  front_of [] b h = tt
  front_of (t ∷ a) b h = (h.0, front_of a b h.1)

  back_of : (a b : List Token) → Every (a ++ b) → Every b
  back_of [] b h = h
  back_of (t ∷ a) b h = back_of a b h.1

  row_end_each : (R Q : Token → Type 0) → ((t : Token) → P t → R t → Q t) → (xs ts : List Token) → IsRowEnd R xs ts → Every ts → AllByRecursion Q xs
  row_end_each R Q leaf [] ts h all = tt
  row_end_each R Q leaf (x ∷ xs) ts (comma, more, e, c, r, h) all =
      let here = subst Every e all in (leaf x here.1.0 r, row_end_each R Q leaf xs more h here.1.1)

  row_each : (R Q : Token → Type 0) → ((t : Token) → P t → R t → Q t) → (xs ts : List Token) → IsRow R xs ts → Every ts → AllByRecursion Q xs
  row_each R Q leaf [] ts h all = absurd h
  row_each R Q leaf (x ∷ xs) ts (more, e, r, h) all = let here = subst Every e all in (leaf x here.0 r, row_end_each R Q leaf xs more h here.1)

  -- a field's name has the property
  abbrev StepLeaf : StepSyntax → Type 0
  StepLeaf (Field name) = F name
  StepLeaf _ = Unit {0}

  next_leaf : (k : TokenKind) (t : Token) (s : StepSyntax) → class_of t ≡ k → P t → step_at k t ≡ Some s → StepLeaf s
  next_leaf Name t s p h e = let f : Field t ≡ s = cc in subst StepLeaf f (field_leaf t h (ap (λ (k : TokenKind). step_at k t) p))
  next_leaf Quoted t s p h e = let f : Field t ≡ s = cc in subst StepLeaf f (field_leaf t h (ap (λ (k : TokenKind). step_at k t) p))
  next_leaf Stars t s p h e = let f : Below ≡ s = cc in subst StepLeaf f tt
  next_leaf _ t s p h e = absurd cc

  item_leaf : (s : StepSyntax) → s ≡ Item → StepLeaf s
  item_leaf s e = subst StepLeaf (sym e) tt

  first_each : (s : StepSyntax) (ts : List Token) → IsFirst s ts → Every ts → StepLeaf s
  first_each s ts (inl (t, e, h)) all = let here = subst Every e all in next_leaf (class_of t) t s refl here.0 h
  first_each s ts (inr h) all = item_leaf s h.0

  later_each : (s : StepSyntax) (ts : List Token) → IsLater s ts → Every ts → StepLeaf s
  later_each s ts (inl (d, t, e, c, h)) all = let here = subst Every e all in next_leaf (class_of t) t s refl here.1.0 h
  later_each s ts (inr h) all = item_leaf s h.0

  step_each : (s : StepSyntax) (path : List StepSyntax) → StepLeaf s → EachOfPath F path → EachOfPath F (s ∷ path)
  step_each (Field name) path h g = (h, g)
  step_each Item path h g = g
  step_each Below path h g = g

  path_end_each : (path : List StepSyntax) (ts : List Token) → IsPathEnd path ts → Every ts → EachOfPath F path
  path_end_each [] ts h all = tt
  path_end_each (s ∷ path) ts (a, b, e, h, g) all =
      let here = subst Every e all in step_each s path (later_each s a h (front_of a b here)) (path_end_each path b g (back_of a b here))

  path_each : (path : List StepSyntax) (ts : List Token) → IsPath path ts → Every ts → EachOfPath F path
  path_each [] ts h all = absurd h
  path_each (s ∷ path) ts (a, b, e, h, g) all =
      let here = subst Every e all in step_each s path (first_each s a h (front_of a b here)) (path_end_each path b g (back_of a b here))

  mutual
    entry_each : (f : EntryTree) (n : ℕ) (ts : List Token) → IsEntry n f ts → Every ts → EachOfEntry F T f
    entry_each (Value path term) n ts (front, colon, e, p, c, r) all =
        let here = subst Every e all in
        (path_each path front p (front_of front (colon ∷ term ∷ []) here), term_leaf term (back_of front (colon ∷ term ∷ []) here).1.0 r)
    entry_each (Nested path NoEntry) n ts h all = absurd h
    entry_each (Nested path (AndEntry first others)) n ts (front, brace, a, b, e, p, c, lt, ha, hb) all =
        let here = subst Every e all in
        let inside = (back_of front (brace ∷ (a ++ b)) here).1 in (
          path_each path front p (front_of front (brace ∷ (a ++ b)) here),
          (entry_each first (suc n) a ha (front_of a b inside), entries_each others (suc n) b hb (back_of a b inside)),
        )

    entries_each : (fs : EntryTrees) (n : ℕ) (ts : List Token) → IsGroupEnd n fs ts → Every ts → EachOfEntries F T fs
    entries_each NoEntry n ts h all = tt
    entries_each (AndEntry first others) n ts (comma, a, b, e, c, ha, hb) all =
        let inside = (subst Every e all).1 in (entry_each first n a ha (front_of a b inside), entries_each others n b hb (back_of a b inside))

  group_each : (fs : EntryTrees) (n : ℕ) (ts : List Token) → IsGroup n fs ts → Every ts → EachOfEntries F T fs
  group_each NoEntry n ts h all = absurd h
  group_each (AndEntry first others) n ts (a, b, e, ha, hb) all =
      let here = subst Every e all in (entry_each first n a ha (front_of a b here), entries_each others n b hb (back_of a b here))

  pub layout_each : (fs : EntryTrees) (ts : List Token) → IsLayout fs ts → Every ts → EachOfEntries F T fs
  layout_each fs ts (brace, more, e, p, h) all = group_each fs 1 more h (subst Every e all).1

  item_each : (i : ItemTree) (ts : List Token) → IsItem i ts → Every ts → EachOfItem N F T i
  item_each (Atom name terms) ts (paren, more, e, p, q, r) all =
      let here = subst Every e all in (name_leaf name here.0 p, row_each IsTerm T term_leaf terms more r here.1.1)
  item_each (Part name part terms) ts (dot, paren, more, e, p, q, r, t, h) all =
      let here = subst Every e all in (name_leaf name here.0 p, name_leaf part here.1.1.0 r, row_each IsTerm T term_leaf terms more h here.1.1.1.1)
  item_each (Pattern name entries) ts (brace, more, e, p, q, r) all =
      let here = subst Every e all in (name_leaf name here.0 p, group_each entries 1 more r here.1.1)

  body_end_each : (is : List ItemTree) (ts : List Token) → IsBodyEnd is ts → Every ts → AllByRecursion (EachOfItem N F T) is
  body_end_each [] ts h all = tt
  body_end_each (i ∷ is) ts (comma, a, b, e, c, ha, hb) all =
      let inside = (subst Every e all).1 in (item_each i a ha (front_of a b inside), body_end_each is b hb (back_of a b inside))

  body_each : (is : List ItemTree) (ts : List Token) → IsBody is ts → Every ts → AllByRecursion (EachOfItem N F T) is
  body_each [] ts h all = absurd h
  body_each (i ∷ is) ts (a, b, e, ha, hb) all =
      let here = subst Every e all in (item_each i a ha (front_of a b here), body_end_each is b hb (back_of a b here))

  pub query_each : (q : QueryTree) (ts : List Token) → IsQuery q ts → Every ts → EachOfQuery N F T q
  query_each q ts (paren, head, turnstile, body, e, n, p, h, t, b) all =
      let here = subst Every e all in
      let behind = here.1.1 in (
        name_leaf q.name here.0 n,
        row_each IsName N name_leaf q.variables head h (front_of head (turnstile ∷ body) behind),
        body_each q.items body b
            (back_of head (turnstile ∷ body) behind).1,
      )

  union_end_each : (qs : List QueryTree) (count : ℕ) (ts : List Token) → IsUnionEnd count qs ts → Every ts → AllByRecursion (EachOfQuery N F T) qs
  union_end_each [] count ts h all = tt
  union_end_each (q ∷ qs) count ts (semicolon, a, b, e, is, less, query, end) all =
      let inside = (subst Every e all).1 in (query_each q a query (front_of a b inside), union_end_each qs (suc count) b end (back_of a b inside))

  pub union_each : (qs : List QueryTree) (count : ℕ) (ts : List Token) → IsUnionFrom count qs ts → Every ts → AllByRecursion (EachOfQuery N F T) qs
  union_each [] count ts h all = absurd h
  union_each (q ∷ qs) count ts (a, b, e, query, end) all =
      let here = subst Every e all in (query_each q a query (front_of a b here), union_end_each qs (suc count) b end (back_of a b here))

  head_each : (W : Token → Type 0) (h : HeadTree) (ts : List Token) → IsHead W h ts → Every ts → EachOfHead N F T h
  head_each W (Items items) ts h all = body_each items ts h all
  head_each W (Equality left right) ts (sign, e, n, c, t) all = let here = subst Every e all in (name_leaf left here.0 n, term_leaf right here.1.1.0 t)
  head_each W Never ts h all = tt

  pub constraint_each : (W : Token → Type 0) (c : ConstraintTree) (ts : List Token) → IsConstraint W c ts → Every ts → EachOfConstraint N F T c
  constraint_each W c ts (body, head, e, (front, arrow, f, b, q), h) all =
      let here = subst Every e all in
      let before = subst Every f (front_of body head here) in
      (body_each c.body front b (front_of front (arrow ∷ []) before), head_each W c.head head h (back_of body head here))

-- ---- tokens stand in the text

module _ (bytes : List ℕ) where
  stands_here : (at : ℕ) (t : Token) (gap text after : List ℕ) → at ≤ length bytes → Places at (drop at bytes) t gap text after → StandsIn bytes t
      × (drop t.end bytes ≡ after)
  stands_here at t gap text after le p =
      let n = length-append gap (text ++ after) in
      let m = length-append text after in
      let whole : drop t.start bytes ≡ text ++ after =
      ap (λ (i : ℕ). drop i bytes) (p.starts ∙ omega arith) ∙ sym (drop-drop (length gap) at bytes) ∙ ap (drop (length gap)) p.parts
      ∙ drop-append_seam gap (text ++ after) in
      let end : drop t.end bytes ≡ after =
      ap (λ (i : ℕ). drop i bytes) (p.ends ∙ omega arith) ∙ sym (drop-drop (length text) t.start bytes) ∙ ap (drop (length text)) whole
      ∙ drop-append_seam text after in
      let said : text_of bytes t ≡ text = ap (take (t.end - t.start)) whole ∙ take_at text after (t.end - t.start) (omega (arith, p.ends)) in (
        record {
          in_order = omega (arith, p.ends);
          in_range = omega (arith, p.starts, p.ends, ap length p.parts, length-drop at bytes);
          is_token = subst (λ (l : List ℕ). IsToken t.kind (text_of bytes t) l) (sym end)
              (subst (λ (l : List ℕ). IsToken t.kind l after) (sym said) p.is_token);
        },
        end,
      )

  stand_all : (at : ℕ) (ts : List Token) → at ≤ length bytes → Covers at (drop at bytes) ts → AllByRecursion (StandsIn bytes) ts
  stand_all at [] le h = tt
  stand_all at (t ∷ ts) le (gap, text, after, p, more) =
      let h = stands_here at t gap text after le p in
      (h.0, stand_all t.end ts h.0.in_range (subst (λ (l : List ℕ). Covers t.end l ts) (sym h.1) more))

  -- the token stands in the text, or fits nowhere
  abbrev StandsOrNot : Token → Type 0
  StandsOrNot t = (class_of t ≡ Stray) ⊎ StandsIn bytes t

  all_stand : (ts : List Token) → AllByRecursion (StandsIn bytes) ts → AllByRecursion StandsOrNot ts
  all_stand [] h = tt
  all_stand (t ∷ ts) h = (inr h.0, all_stand ts h.1)

  row_stands : (room : ℕ) (ts : List Token) → AllByRecursion (StandsIn bytes) ts → AllByRecursion StandsOrNot (limited_row room ts)
  row_stands room [] h = tt
  row_stands room (t ∷ ts) h = go (is_close (class_of t)) (is_name (class_of t)) (row_stands room ts h.1) (row_stands (room - 1) ts h.1)
    where
      here : (r : ℕ) → StandsOrNot (in_room r t)
      here zero = inl refl
      here (suc r) = inr h.0

      go : (b c : Bool) → AllByRecursion StandsOrNot (limited_row room ts) → AllByRecursion StandsOrNot (limited_row (room - 1) ts)
          → AllByRecursion StandsOrNot (cond b (t ∷ ts) (cond c (in_room room t ∷ limited_row (room - 1) ts) (t ∷ limited_row room ts)))
      go true c p q = (inr h.0, all_stand ts h.1)
      go false true p q = (here room, q)
      go false false p q = (inr h.0, p)

  limited_stands : (ts : List Token) → AllByRecursion (StandsIn bytes) ts → AllByRecursion StandsOrNot (limited ts)
  limited_stands [] h = tt
  limited_stands (t ∷ ts) h = (inr h.0, row_stands 32 ts h.1)

  room_stands : (room : ℕ) (t : Token) → StandsIn bytes t → StandsOrNot (in_room room t)
  room_stands zero t h = inl refl
  room_stands (suc room) t h = inr h

  token_stands : (reached : Reached) (t : Token) → StandsIn bytes t → StandsOrNot (limited_token reached t)
  token_stands Nothing t h = inr h
  token_stands Head t h = inr h
  token_stands (Part room) t h = go (is_close (class_of t)) (is_name (class_of t))
    where
      go : (close name : Bool) → StandsOrNot (cond close t (cond name (in_room room t) t))
      go true name = inr h
      go false true = room_stands room t h
      go false false = inr h

  after_stands : (reached : Reached) (ts : List Token) → AllByRecursion (StandsIn bytes) ts → AllByRecursion StandsOrNot (limited_after reached ts)
  after_stands reached [] h = tt
  after_stands reached (t ∷ ts) h = (token_stands reached t h.0, after_stands (reached_then reached (class_of t)) ts h.1)

  fits_stands : (t : Token) → StandsOrNot t → class_of t ≢ Stray → StandsIn bytes t
  fits_stands t (inl e) n = absurd (n e)
  fits_stands t (inr h) n = h

  fitting_name : (k : TokenKind) (n : ℕ) → fitting k n ≡ Name → k ≡ Name
  fitting_name Name n e = refl
  fitting_name Quoted n e = absurd cc
  fitting_name k n e = e

  fitting_term : (k : TokenKind) (n : ℕ) → is_term (fitting k n) ≡ true → is_term k ≡ true
  fitting_term Name n e = refl
  fitting_term k n e = e

  fitting_field : (k : TokenKind) (n : ℕ) (t : Token) → step_at (fitting k n) t ≡ Some (Field t) → (k ≡ Name) ⊎ (k ≡ Quoted)
  fitting_field Name n t e = inl refl
  fitting_field Quoted n t e = inr refl
  fitting_field _ n t e = absurd cc

  name_in : (t : Token) → StandsOrNot t → IsName t → IsNameIn bytes t
  name_in t p h = (fits_stands t p (λ e. cc), fitting_name t.kind (t.end - t.start) h)

  field_in : (t : Token) → StandsOrNot t → step_at (class_of t) t ≡ Some (Field t) → IsFieldIn bytes t
  field_in t p h = (
    fits_stands t p (λ e. let f : None ≡ Some (Field t) = sym (ap (λ (k : TokenKind). step_at k t) e) ∙ h in
        cc),
    fitting_field t.kind (t.end - t.start) t h,
  )

  term_in : (t : Token) → StandsOrNot t → IsTerm t → IsTermIn bytes t
  term_in t p h = (fits_stands t p (λ e. let f : false ≡ true = sym (ap is_term e) ∙ h in cc), fitting_term t.kind (t.end - t.start) h)

  pub tree_stands : (ts : List Token) (q : QueryTree) → Covers 0 bytes ts → IsQuery q (limited ts) → StandsAt bytes q
  tree_stands ts q h g =
      query_each StandsOrNot (IsNameIn bytes) (IsFieldIn bytes) (IsTermIn bytes) name_in field_in term_in q (limited ts) g
      (limited_stands ts (stand_all 0 ts (omega arith) h))

  pub union_stands : (ts : List Token) (qs : List QueryTree) → Covers 0 bytes ts → IsUnion qs (limited_union ts) → UnionStandsAt bytes qs
  union_stands ts qs h g =
      union_each StandsOrNot (IsNameIn bytes) (IsFieldIn bytes) (IsTermIn bytes) name_in field_in term_in qs 0 (limited_union ts) g
      (after_stands Nothing ts (stand_all 0 ts (omega arith) h))

  pub tokens_stand : (ts : List Token) → Covers 0 bytes ts → AllByRecursion (StandsIn bytes) ts
  tokens_stand ts h = stand_all 0 ts (omega arith) h

  pub constraint_stands : (W : Token → Type 0) (ts : List Token) (c : ConstraintTree) → Covers 0 bytes ts → IsConstraint W c ts → ConstraintStandsAt bytes c
  constraint_stands W ts c h g =
      constraint_each StandsOrNot (IsNameIn bytes) (IsFieldIn bytes) (IsTermIn bytes) name_in field_in term_in W c ts g (all_stand ts (tokens_stand ts h))

  pub layout_stands : (ts : List Token) (fs : EntryTrees) → Covers 0 bytes ts → IsLayout fs ts → LayoutStandsAt bytes fs
  layout_stands ts fs h g =
      layout_each StandsOrNot (IsNameIn bytes) (IsFieldIn bytes) (IsTermIn bytes) name_in field_in term_in fs ts g (all_stand ts (tokens_stand ts h))
