-- A text is one tree.
use Rattle.std.proofs.Common.{◌≡◌, ◌≢◌, ℕ, suc, ◌⊎◌, inl, inr, false, Some, List, [], ◌∷◌, ◌++◌, get_or, drop, refl, sym, ap, ap₂, ◌∙◌, append_assoc}
use denote.Enum.Bare.{sameb, same_false}
use Rattle.esto_text.specs.contracts.token.TokenKind.{the_type}
use Rattle.esto_text.specs.declared.token.Token.{Token}
use Rattle.esto_text.specs.declared.token.TokenKind.{TokenKind}
use Rattle.esto_text.specs.declared.token.TokenKind.TheVariants.{Dot, Colon, LeftBrace, LeftBracket, Comma, Equals}
use Rattle.esto_text.specs.declared.tree.StepSyntax.{StepSyntax}
use Rattle.esto_text.specs.Trees.{EntryTree, Value, Nested, EntryTrees, NoEntry, AndEntry, ItemTree, Atom, Part, Pattern, QueryTree, HeadTree, Items, Equality}
use Rattle.esto_text.specs.Trees.{Never, ConstraintTree}
use Rattle.esto_text.specs.Grammar.{class_of, step_at, IsName, IsTerm, IsNext, IsRowEnd, IsRow, IsFirst, IsLater, IsPathEnd, IsPath, IsEntry, IsGroupEnd}
use Rattle.esto_text.specs.Grammar.{IsGroup, IsLayout, IsItem, IsBodyEnd, IsBody, IsQuery, IsRuleBody, IsHead, IsConstraint}
use Rattle.esto_text.specs.Machine.{class_at}
use Rattle.esto_text.proofs.Runs.{item_begins}

-- the same of fronts that are known
along : (a x a' y b b' : List Token) → a ++ x ≡ a' ++ y → a ≡ b → a' ≡ b' → b ++ x ≡ b' ++ y
along a x a' y b b' e p q = sym (ap (λ (l : List Token). l ++ x) p) ∙ e ∙ ap (λ (l : List Token). l ++ y) q

-- two lists with a first token have the same one, and the same rest
first_same : {c c' : Token} {u v : List Token} → c ∷ u ≡ c' ∷ v → c ≡ c'
first_same {c} e = ap (λ (l : List Token). get_or l 0 c) e

rest_same : {c c' : Token} {u v : List Token} → c ∷ u ≡ c' ∷ v → u ≡ v
rest_same e = ap (drop 1) e

apart_nil : {c : Token} {u : List Token} → c ∷ u ≡ [] → ⊥
apart_nil e = cc

-- they don't begin with tokens of two kinds
apart : {c c' : Token} {u v : List Token} {k k' : TokenKind} → c ∷ u ≡ c' ∷ v → class_of c ≡ k → class_of c' ≡ k' → sameb the_type k k' ≡ false → ⊥
apart e p q other = same_false the_type _ _ other (sym p ∙ ap class_of (first_same e) ∙ q)

row_end_one : (P : Token → Type 0) (ns ts ns' ts' x y : List Token) → ts ++ x ≡ ts' ++ y → IsRowEnd P ns ts → IsRowEnd P ns' ts' → (ns ≡ ns') × (x ≡ y)
row_end_one P [] ts [] ts' x y e (c, p, q) (c', p', q') = let f = along ts x ts' y (c ∷ []) (c' ∷ []) e p p' in (refl, rest_same f)
row_end_one P [] ts (n ∷ ns') ts' x y e (c, p, q) (c', more, p', q', h, r) = let f = along ts x ts' y (c ∷ []) (c' ∷ n ∷ more) e p p' in
    absurd (apart f q q' refl)
row_end_one P (n ∷ ns) ts [] ts' x y e (c, more, p, q, h, r) (c', p', q') = let f = along ts x ts' y (c ∷ n ∷ more) (c' ∷ []) e p p' in
    absurd (apart f q q' refl)
row_end_one P (n ∷ ns) ts (n' ∷ ns') ts' x y e (c, more, p, q, h, r) (c', more', p', q', h', r') =
    let f = along ts x ts' y (c ∷ n ∷ more) (c' ∷ n' ∷ more') e p p' in
    let g = rest_same f in
    let s = row_end_one P ns more ns' more' x y (rest_same g) r r' in
    (ap₂ ◌∷◌ (first_same g) s.0, s.1)

row_one : (P : Token → Type 0) (ns ts ns' ts' x y : List Token) → ts ++ x ≡ ts' ++ y → IsRow P ns ts → IsRow P ns' ts' → (ns ≡ ns') × (x ≡ y)
row_one P [] ts ns' ts' x y e h h' = absurd h
row_one P (n ∷ ns) ts [] ts' x y e h h' = absurd h'
row_one P (n ∷ ns) ts (n' ∷ ns') ts' x y e (more, p, h, r) (more', p', h', r') =
    let f = along ts x ts' y (n ∷ more) (n' ∷ more') e p p' in
    let s = row_end_one P ns more ns' more' x y (rest_same f) r r' in (ap₂ ◌∷◌ (first_same f) s.0, s.1)

-- two parts, one after the other
parts : (a b a' b' x y : List Token) → (a ++ b) ++ x ≡ (a' ++ b') ++ y → a ++ (b ++ x) ≡ a' ++ (b' ++ y)
parts a b a' b' x y e = sym (append_assoc a b x) ∙ e ∙ append_assoc a' b' y

-- ---- paths, which end at a colon or a brace

abbrev EndsPath : List Token → Type 0
EndsPath x = (class_at x ≡ Colon) ⊎ (class_at x ≡ LeftBrace)

next_one : (s s' : StepSyntax) (t : Token) → IsNext s t → IsNext s' t → s ≡ s'
next_one s s' t h h' = let e : Some s ≡ Some s' = sym h ∙ h' in cc

next_no_bracket : (k : TokenKind) (t : Token) (s : StepSyntax) → class_of t ≡ k → step_at k t ≡ Some s → ¬ (class_of t ≡ LeftBracket)
next_no_bracket LeftBracket t s p e q = absurd cc
next_no_bracket _ t s p e q = absurd cc

first_one : (s : StepSyntax) (ts : List Token) (s' : StepSyntax) (ts' x y : List Token) → ts ++ x ≡ ts' ++ y → IsFirst s ts → IsFirst s' ts' → (s ≡ s')
    × (x ≡ y)
first_one s ts s' ts' x y e (inl (t, p, h)) (inl (t', p', h')) =
    let f = along ts x ts' y (t ∷ []) (t' ∷ []) e p p' in let g = first_same f in (next_one s s' t h (rw g h'), rest_same f)
first_one s ts s' ts' x y e (inl (t, p, h)) (inr (i, l, r, p', q, q')) =
    let f = along ts x ts' y (t ∷ []) (l ∷ r ∷ []) e p p' in let g = first_same f in absurd (next_no_bracket (class_of t) t s refl h (ap class_of g ∙ q))
first_one s ts s' ts' x y e (inr (i, l, r, p, q, q')) (inl (t, p', h)) =
    let f = along ts x ts' y (l ∷ r ∷ []) (t ∷ []) e p p' in let g = sym (first_same f) in absurd (next_no_bracket (class_of t) t s' refl h (ap class_of g ∙ q))
first_one s ts s' ts' x y e (inr (i, l, r, p, q, q')) (inr (i', l', r', p', o, o')) =
    let f = along ts x ts' y (l ∷ r ∷ []) (l' ∷ r' ∷ []) e p p' in (i ∙ sym i', rest_same (rest_same f))

later_one : (s : StepSyntax) (ts : List Token) (s' : StepSyntax) (ts' x y : List Token) → ts ++ x ≡ ts' ++ y → IsLater s ts → IsLater s' ts' → (s ≡ s')
    × (x ≡ y)
later_one s ts s' ts' x y e (inl (d, t, p, c, h)) (inl (d', t', p', c', h')) =
    let f = along ts x ts' y (d ∷ t ∷ []) (d' ∷ t' ∷ []) e p p' in let g = rest_same f in (next_one s s' t h (rw (first_same g) h'), rest_same g)
later_one s ts s' ts' x y e (inl (d, t, p, c, h)) (inr (i, l, r, p', q, q')) =
    let f = along ts x ts' y (d ∷ t ∷ []) (l ∷ r ∷ []) e p p' in absurd (apart f c q refl)
later_one s ts s' ts' x y e (inr (i, l, r, p, q, q')) (inl (d, t, p', c, h)) =
    let f = along ts x ts' y (l ∷ r ∷ []) (d ∷ t ∷ []) e p p' in absurd (apart f q c refl)
later_one s ts s' ts' x y e (inr (i, l, r, p, q, q')) (inr (i', l', r', p', o, o')) =
    let f = along ts x ts' y (l ∷ r ∷ []) (l' ∷ r' ∷ []) e p p' in (i ∙ sym i', rest_same (rest_same f))

-- no later step begins where a path ends
no_later : (s : StepSyntax) (ts b x : List Token) → x ≡ ts ++ b → IsLater s ts → ¬ EndsPath x
no_later s ts b x e (inl (d, t, p, c, h)) (inl q) = let f : class_at x ≡ class_of d = ap class_at (e ∙ ap (λ (l : List Token). l ++ b) p) in
    same_false the_type Colon Dot refl (sym q ∙ f ∙ c)
no_later s ts b x e (inl (d, t, p, c, h)) (inr q) = let f : class_at x ≡ class_of d = ap class_at (e ∙ ap (λ (l : List Token). l ++ b) p) in
    same_false the_type LeftBrace Dot refl (sym q ∙ f ∙ c)
no_later s ts b x e (inr (i, l, r, p, c, c')) (inl q) = let f : class_at x ≡ class_of l = ap class_at (e ∙ ap (λ (w : List Token). w ++ b) p) in
    same_false the_type Colon LeftBracket refl (sym q ∙ f ∙ c)
no_later s ts b x e (inr (i, l, r, p, c, c')) (inr q) = let f : class_at x ≡ class_of l = ap class_at (e ∙ ap (λ (w : List Token). w ++ b) p) in
    same_false the_type LeftBrace LeftBracket refl (sym q ∙ f ∙ c)

path_end_one : (path : List StepSyntax) (ts : List Token) (path' : List StepSyntax) (ts' x y : List Token) → ts ++ x ≡ ts' ++ y → EndsPath x → EndsPath y
    → IsPathEnd path ts → IsPathEnd path' ts'
    → (path ≡ path') × (x ≡ y)
path_end_one [] ts [] ts' x y e n n' p p' = (refl, along ts x ts' y [] [] e p p')
path_end_one [] ts (s' ∷ path') ts' x y e n n' p (a', b', p', h', g') =
    absurd (no_later s' a' (b' ++ y) x (along ts x ts' y [] (a' ++ b') e p p' ∙ append_assoc a' b' y) h' n)
path_end_one (s ∷ path) ts [] ts' x y e n n' (a, b, p, h, g) p' =
    absurd (no_later s a (b ++ x) y (sym (along ts x ts' y (a ++ b) [] e p p') ∙ append_assoc a b x) h n')
path_end_one (s ∷ path) ts (s' ∷ path') ts' x y e n n' (a, b, p, h, g) (a', b', p', h', g') =
    let k = later_one s a s' a' (b ++ x) (b' ++ y) (parts a b a' b' x y (along ts x ts' y (a ++ b) (a' ++ b') e p p')) h h' in
    let m = path_end_one path b path' b' x y k.1 n n' g g' in (ap₂ ◌∷◌ k.0 m.0, m.1)

path_one : (path : List StepSyntax) (ts : List Token) (path' : List StepSyntax) (ts' x y : List Token) → ts ++ x ≡ ts' ++ y → EndsPath x → EndsPath y
    → IsPath path ts → IsPath path' ts'
    → (path ≡ path') × (x ≡ y)
path_one [] ts path' ts' x y e n n' h h' = absurd h
path_one (s ∷ path) ts [] ts' x y e n n' h h' = absurd h'
path_one (s ∷ path) ts (s' ∷ path') ts' x y e n n' (a, b, p, h, g) (a', b', p', h', g') =
    let k = first_one s a s' a' (b ++ x) (b' ++ y) (parts a b a' b' x y (along ts x ts' y (a ++ b) (a' ++ b') e p p')) h h' in
    let m = path_end_one path b path' b' x y k.1 n n' g g' in (ap₂ ◌∷◌ k.0 m.0, m.1)

-- a path and what comes after it
entry_path : (path : List StepSyntax) (ts u x : List Token) (path' : List StepSyntax) (ts' u' y : List Token) (whole whole' : List Token) → whole ++ x
    ≡ whole' ++ y → whole ≡ ts ++ u → whole' ≡ ts' ++ u'
    → EndsPath (u ++ x) → EndsPath (u' ++ y) → IsPath path ts → IsPath path' ts' → (path ≡ path') × (u ++ x ≡ u' ++ y)
entry_path path ts u x path' ts' u' y whole whole' e p p' n n' h h' =
    path_one path ts path' ts' (u ++ x) (u' ++ y) (parts ts u ts' u' x y (along whole x whole' y (ts ++ u) (ts' ++ u') e p p')) n n' h h'

-- ---- entries

mutual
  entry_one : (f : EntryTree) (n : ℕ) (ts : List Token) (f' : EntryTree) (ts' x y : List Token) → ts ++ x ≡ ts' ++ y → IsEntry n f ts → IsEntry n f' ts'
      → (f ≡ f') × (x ≡ y)
  entry_one (Value m t) n ts (Value m' t') ts' x y e (w, c, p, q, r, s) (w', c', p', q', r', s') =
      let k = entry_path m w (c ∷ t ∷ []) x m' w' (c' ∷ t' ∷ []) y ts ts' e p p' (inl r) (inl r') q q' in
      let g = rest_same k.1 in (ap₂ Value k.0 (first_same g), rest_same g)
  entry_one (Value m t) n ts (Nested m' NoEntry) ts' x y e h h' = absurd h'
  entry_one (Value m t) n ts (Nested m' (AndEntry f' fs')) ts' x y e (w, c, p, q, r, s) (w', c', a', b', p', q', r', l', ha', hb') =
      let k = entry_path m w (c ∷ t ∷ []) x m' w' (c' ∷ (a' ++ b')) y ts ts' e p p' (inl r) (inr r') q q' in absurd (apart k.1 r r' refl)
  entry_one (Nested m NoEntry) n ts f' ts' x y e h h' = absurd h
  entry_one (Nested m (AndEntry f fs)) n ts (Value m' t') ts' x y e (w, c, a, b, p, q, r, l, ha, hb) (w', c', p', q', r', s') =
      let k = entry_path m w (c ∷ (a ++ b)) x m' w' (c' ∷ t' ∷ []) y ts ts' e p p' (inr r) (inl r') q q' in absurd (apart k.1 r r' refl)
  entry_one (Nested m (AndEntry f fs)) n ts (Nested m' NoEntry) ts' x y e h h' = absurd h'
  entry_one (Nested m (AndEntry f fs)) n ts (Nested m' (AndEntry f' fs')) ts' x y e (w, c, a, b, p, q, r, l, ha, hb)
      (w', c', a', b', p', q', r', l', ha', hb') =
      let k = entry_path m w (c ∷ (a ++ b)) x m' w' (c' ∷ (a' ++ b')) y ts ts' e p p' (inr r) (inr r') q q' in
      let g : (a ++ b) ++ x ≡ (a' ++ b') ++ y = rest_same k.1 in
      let s = entry_one f (suc n) a f' a' (b ++ x) (b' ++ y) (parts a b a' b' x y g) ha ha' in
      let t = group_end_one fs (suc n) b fs' b' x y s.1 hb hb' in
      (ap₂ Nested k.0 (ap₂ AndEntry s.0 t.0), t.1)

  group_end_one : (fs : EntryTrees) (n : ℕ) (ts : List Token) (fs' : EntryTrees) (ts' x y : List Token) → ts ++ x ≡ ts' ++ y → IsGroupEnd n fs ts
      → IsGroupEnd n fs' ts' → (fs ≡ fs') × (x ≡ y)
  group_end_one NoEntry n ts NoEntry ts' x y e (c, p, q) (c', p', q') = let f = along ts x ts' y (c ∷ []) (c' ∷ []) e p p' in (refl, rest_same f)
  group_end_one NoEntry n ts (AndEntry f' fs') ts' x y e (c, p, q) (c', a', b', p', q', ha', hb') =
      let f = along ts x ts' y (c ∷ []) (c' ∷ (a' ++ b')) e p p' in absurd (apart f q q' refl)
  group_end_one (AndEntry f fs) n ts NoEntry ts' x y e (c, a, b, p, q, ha, hb) (c', p', q') =
      let k = along ts x ts' y (c ∷ (a ++ b)) (c' ∷ []) e p p' in absurd (apart k q q' refl)
  group_end_one (AndEntry f fs) n ts (AndEntry f' fs') ts' x y e (c, a, b, p, q, ha, hb) (c', a', b', p', q', ha', hb') =
      let k = along ts x ts' y (c ∷ (a ++ b)) (c' ∷ (a' ++ b')) e p p' in
      let g : (a ++ b) ++ x ≡ (a' ++ b') ++ y = rest_same k in
      let s = entry_one f n a f' a' (b ++ x) (b' ++ y) (parts a b a' b' x y g) ha ha' in
      let t = group_end_one fs n b fs' b' x y s.1 hb hb' in (ap₂ AndEntry s.0 t.0, t.1)

group_one : (fs : EntryTrees) (n : ℕ) (ts : List Token) (fs' : EntryTrees) (ts' x y : List Token) → ts ++ x ≡ ts' ++ y → IsGroup n fs ts → IsGroup n fs' ts'
    → (fs ≡ fs') × (x ≡ y)
group_one NoEntry n ts fs' ts' x y e h h' = absurd h
group_one (AndEntry f fs) n ts NoEntry ts' x y e h h' = absurd h'
group_one (AndEntry f fs) n ts (AndEntry f' fs') ts' x y e (a, b, p, ha, hb) (a', b', p', ha', hb') =
    let s = entry_one f n a f' a' (b ++ x) (b' ++ y) (parts a b a' b' x y (along ts x ts' y (a ++ b) (a' ++ b') e p p')) ha ha' in
    let t = group_end_one fs n b fs' b' x y s.1 hb hb' in (ap₂ AndEntry s.0 t.0, t.1)

pub layout_one : (fs fs' : EntryTrees) (ts : List Token) → IsLayout fs ts → IsLayout fs' ts → fs ≡ fs'
layout_one fs fs' ts (brace, more, e, p, h) (brace', more', e', p', h') =
    let both : brace ∷ more ≡ brace' ∷ more' = sym e ∙ e' in
    let rest : more ≡ more' = rest_same both in
    (group_one fs 1 more fs' more' [] [] (ap (λ (l : List Token). l ++ []) rest) h h').0

item_one : (i : ItemTree) (ts : List Token) (i' : ItemTree) (ts' x y : List Token) → ts ++ x ≡ ts' ++ y → IsItem i ts → IsItem i' ts' → (i ≡ i') × (x ≡ y)
item_one (Atom m t) ts (Atom m' t') ts' x y e (c, more, p, q, r, h) (c', more', p', q', r', h') =
    let k = along ts x ts' y (m ∷ c ∷ more) (m' ∷ c' ∷ more') e p p' in
    let s = row_one IsTerm t more t' more' x y (ap (drop 2) k) h h' in (ap₂ Atom (first_same k) s.0, s.1)
item_one (Atom m t) ts (Pattern m' fs') ts' x y e (c, more, p, q, r, h) (c', more', p', q', r', h') =
    let k = along ts x ts' y (m ∷ c ∷ more) (m' ∷ c' ∷ more') e p p' in absurd (apart (rest_same k) r r' refl)
item_one (Atom m t) ts (Part m' s' t') ts' x y e (c, more, p, q, r, h) (c', d', more', p', q', r', i', j', h') =
    let k = along ts x ts' y (m ∷ c ∷ more) (m' ∷ c' ∷ s' ∷ d' ∷ more') e p p' in absurd (apart (rest_same k) r r' refl)
item_one (Part m s t) ts (Atom m' t') ts' x y e (c, d, more, p, q, r, i, j, h) (c', more', p', q', r', h') =
    let k = along ts x ts' y (m ∷ c ∷ s ∷ d ∷ more) (m' ∷ c' ∷ more') e p p' in absurd (apart (rest_same k) r r' refl)
item_one (Part m s t) ts (Pattern m' fs') ts' x y e (c, d, more, p, q, r, i, j, h) (c', more', p', q', r', h') =
    let k = along ts x ts' y (m ∷ c ∷ s ∷ d ∷ more) (m' ∷ c' ∷ more') e p p' in absurd (apart (rest_same k) r r' refl)
item_one (Pattern m fs) ts (Part m' s' t') ts' x y e (c, more, p, q, r, h) (c', d', more', p', q', r', i', j', h') =
    let k = along ts x ts' y (m ∷ c ∷ more) (m' ∷ c' ∷ s' ∷ d' ∷ more') e p p' in absurd (apart (rest_same k) r r' refl)
item_one (Part m s t) ts (Part m' s' t') ts' x y e (c, d, more, p, q, r, i, j, h) (c', d', more', p', q', r', i', j', h') =
    let k = along ts x ts' y (m ∷ c ∷ s ∷ d ∷ more) (m' ∷ c' ∷ s' ∷ d' ∷ more') e p p' in
    let named = first_same k in
    let part = first_same (ap (drop 2) k) in
    let o = row_one IsTerm t more t' more' x y (ap (drop 4) k) h h' in (λ n. Part (named n) (part n) (o.0 n), o.1)
item_one (Pattern m fs) ts (Atom m' t') ts' x y e (c, more, p, q, r, h) (c', more', p', q', r', h') =
    let k = along ts x ts' y (m ∷ c ∷ more) (m' ∷ c' ∷ more') e p p' in absurd (apart (rest_same k) r r' refl)
item_one (Pattern m fs) ts (Pattern m' fs') ts' x y e (c, more, p, q, r, h) (c', more', p', q', r', h') =
    let k = along ts x ts' y (m ∷ c ∷ more) (m' ∷ c' ∷ more') e p p' in
    let s = group_one fs 1 more fs' more' x y (ap (drop 2) k) h h' in (ap₂ Pattern (first_same k) s.0, s.1)

-- items, and what comes after them, which is no comma
body_end_one : (is : List ItemTree) (ts : List Token) (is' : List ItemTree) (ts' x y : List Token) → ts ++ x ≡ ts' ++ y → class_at x ≢ Comma
    → class_at y ≢ Comma → IsBodyEnd is ts → IsBodyEnd is' ts'
    → (is ≡ is') × (x ≡ y)
body_end_one [] ts [] ts' x y e n n' h h' = (refl, along ts x ts' y [] [] e h h')
body_end_one [] ts (i' ∷ is') ts' x y e n n' h (c', a', b', p', q', ha', hb') =
    let f : x ≡ c' ∷ ((a' ++ b') ++ y) = along ts x ts' y [] (c' ∷ (a' ++ b')) e h p' in absurd (n (ap class_at f ∙ q'))
body_end_one (i ∷ is) ts [] ts' x y e n n' (c, a, b, p, q, ha, hb) h' =
    let f : c ∷ ((a ++ b) ++ x) ≡ y = along ts x ts' y (c ∷ (a ++ b)) [] e p h' in absurd (n' (ap class_at (sym f) ∙ q))
body_end_one (i ∷ is) ts (i' ∷ is') ts' x y e n n' (c, a, b, p, q, ha, hb) (c', a', b', p', q', ha', hb') =
    let k = along ts x ts' y (c ∷ (a ++ b)) (c' ∷ (a' ++ b')) e p p' in
    let g : (a ++ b) ++ x ≡ (a' ++ b') ++ y = rest_same k in
    let s = item_one i a i' a' (b ++ x) (b' ++ y) (parts a b a' b' x y g) ha ha' in
    let t = body_end_one is b is' b' x y s.1 n n' hb hb' in (ap₂ ◌∷◌ s.0 t.0, t.1)

body_one : (is : List ItemTree) (ts : List Token) (is' : List ItemTree) (ts' x y : List Token) → ts ++ x ≡ ts' ++ y → class_at x ≢ Comma → class_at y ≢ Comma
    → IsBody is ts → IsBody is' ts'
    → (is ≡ is') × (x ≡ y)
body_one [] ts is' ts' x y e n n' h h' = absurd h
body_one (i ∷ is) ts [] ts' x y e n n' h h' = absurd h'
body_one (i ∷ is) ts (i' ∷ is') ts' x y e n n' (a, b, p, ha, hb) (a', b', p', ha', hb') =
    let s = item_one i a i' a' (b ++ x) (b' ++ y) (parts a b a' b' x y (along ts x ts' y (a ++ b) (a' ++ b') e p p')) ha ha' in
    let t = body_end_one is b is' b' x y s.1 n n' hb hb' in (ap₂ ◌∷◌ s.0 t.0, t.1)

last_body_one : (is : List ItemTree) (ts : List Token) (is' : List ItemTree) (ts' : List Token) → ts ≡ ts' → IsBody is ts → IsBody is' ts' → is ≡ is'
last_body_one is ts is' ts' e h h' = (body_one is ts is' ts' [] [] (ap (λ (l : List Token). l ++ []) e) (λ z. cc) (λ z. cc) h h').0

tree_same : (q q' : QueryTree) → q.name ≡ q'.name → q.variables ≡ q'.variables → q.items ≡ q'.items → q ≡ q'
tree_same q q' a b c = λ i. record { name = a i; variables = b i; items = c i }

pub query_one : (q q' : QueryTree) (ts : List Token) → IsQuery q ts → IsQuery q' ts → q ≡ q'
query_one q q' ts (c, head, t, body, e, n, p, h, r, b) (c', head', t', body', e', n', p', h', r', b') =
    let k : q.name ∷ c ∷ (head ++ t ∷ body) ≡ q'.name ∷ c' ∷ (head' ++ t' ∷ body') = sym e ∙ e' in
    let g : head ++ t ∷ body ≡ head' ++ t' ∷ body' = ap (drop 2) k in
    let s = row_one IsName q.variables head q'.variables head' (t ∷ body) (t' ∷ body') g h h' in
    let u : body ≡ body' = rest_same s.1 in
    let v : q.name ≡ q'.name = first_same k in
    tree_same q q' v s.0 (last_body_one q.items body q'.items body' u b b')

-- ---- constraints

no_equality : (i : ItemTree) (a b : List Token) (left sign : Token) (rest : List Token) → a ++ b ≡ left ∷ sign ∷ rest → IsItem i a → ¬ (class_of sign ≡ Equals)
no_equality i a b left sign rest e h q =
    let n = item_begins i a b h in
    let k : n.0 ∷ n.1 ≡ left ∷ sign ∷ rest = sym n.2 ∙ e in
    n.4 (ap class_at (rest_same k) ∙ q)

-- an item is no name alone
no_lone : (i : ItemTree) (a b : List Token) (word : Token) → a ++ b ≡ word ∷ [] → ¬ IsItem i a
no_lone (Atom name terms) a b word e (paren, more, p, n, q, r) =
    let f : name ∷ paren ∷ (more ++ b) ≡ word ∷ [] = sym (ap (λ (l : List Token). l ++ b) p) ∙ e in
    absurd (apart_nil (rest_same f))
no_lone (Part name part terms) a b word e (dot, paren, more, p, n, q, m, r, h) =
    let f : name ∷ dot ∷ part ∷ paren ∷ (more ++ b) ≡ word ∷ [] = sym (ap (λ (l : List Token). l ++ b) p) ∙ e in
    absurd (apart_nil (rest_same f))
no_lone (Pattern name entries) a b word e (brace, more, p, n, q, r) =
    let f : name ∷ brace ∷ (more ++ b) ≡ word ∷ [] = sym (ap (λ (l : List Token). l ++ b) p) ∙ e in
    absurd (apart_nil (rest_same f))

module _ (IsFalse : Token → Type 0) where
  -- a head of items or of an equality is no name alone
  not_denial : (h : HeadTree) (ts : List Token) (word : Token) → ts ≡ word ∷ [] → IsHead IsFalse h ts → h ≡ Never
  not_denial (Items []) ts word e h = absurd h
  not_denial (Items (i ∷ is)) ts word e (a, b, p, ha, hb) = absurd (no_lone i a b word (sym p ∙ e) ha)
  not_denial (Equality l r) ts word e (s, p, n, c, t) =
      let f : l ∷ s ∷ r ∷ [] ≡ word ∷ [] = sym p ∙ e in
      absurd (apart_nil (rest_same f))
  not_denial Never ts word e h = refl

  head_one : (h : HeadTree) (ts : List Token) (h' : HeadTree) (ts' : List Token) → ts ≡ ts' → IsHead IsFalse h ts → IsHead IsFalse h' ts' → h ≡ h'
  head_one Never ts h' ts' e (word, p, n, f) g = sym (not_denial h' ts' word (sym e ∙ p) g)
  head_one (Items is) ts Never ts' e h (word, p, n, f) = not_denial (Items is) ts word (e ∙ p) h
  head_one (Equality l r) ts Never ts' e h (word, p, n, f) = not_denial (Equality l r) ts word (e ∙ p) h
  head_one (Items is) ts (Items is') ts' e h h' = ap Items (last_body_one is ts is' ts' e h h')
  head_one (Items []) ts (Equality l' r') ts' e h h' = absurd h
  head_one (Items (i ∷ is)) ts (Equality l' r') ts' e (a, b, p, ha, hb) (s', p', n', c', t') =
      absurd (no_equality i a b l' s' (r' ∷ []) (sym p ∙ e ∙ p') ha c')
  head_one (Equality l r) ts (Items []) ts' e h h' = absurd h'
  head_one (Equality l r) ts (Items (i' ∷ is')) ts' e (s, p, n, c, t) (a', b', p', ha', hb') =
      absurd (no_equality i' a' b' l s (r ∷ []) (sym p' ∙ sym e ∙ p) ha' c)
  head_one (Equality l r) ts (Equality l' r') ts' e (s, p, n, c, t) (s', p', n', c', t') =
      let k : l ∷ s ∷ r ∷ [] ≡ l' ∷ s' ∷ r' ∷ [] = sym p ∙ e ∙ p' in
      ap₂ Equality (first_same k) (first_same (ap (drop 2) k))

-- a body with its arrow, and what comes after it
pub rule_body_one : (is : List ItemTree) (ts : List Token) (is' : List ItemTree) (ts' x y : List Token) → ts ++ x ≡ ts' ++ y → IsRuleBody is ts
    → IsRuleBody is' ts' → (is ≡ is') × (x ≡ y)
rule_body_one is ts is' ts' x y e (front, arrow, f, b, q) (front', arrow', f', b', q') =
    let k = along ts x ts' y (front ++ arrow ∷ []) (front' ++ arrow' ∷ []) e f f' in
    let g : front ++ (arrow ∷ x) ≡ front' ++ (arrow' ∷ y) = parts front (arrow ∷ []) front' (arrow' ∷ []) x y k in
    let s = body_one is front is' front' (arrow ∷ x) (arrow' ∷ y) g (λ z. cc) (λ z. cc) b b' in
    (s.0, rest_same s.1)

constraint_same : (c c' : ConstraintTree) → c.body ≡ c'.body → c.head ≡ c'.head → c ≡ c'
constraint_same c c' a b = λ i. record { body = a i; head = b i }

pub constraint_one : (IsFalse : Token → Type 0) (c c' : ConstraintTree) (ts : List Token) → IsConstraint IsFalse c ts → IsConstraint IsFalse c' ts → c ≡ c'
constraint_one IsFalse c c' ts (body, head, e, b, h) (body', head', e', b', h') =
    let s = rule_body_one c.body body c'.body body' head head' (sym e ∙ e') b b' in
    constraint_same c c' s.0 (head_one IsFalse c.head head c'.head head' s.1 h h')
