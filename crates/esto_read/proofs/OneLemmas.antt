-- A text has one reading, or one first fault.
use Rattle.std.proofs.Common.{◌≡◌, ◌≢◌, ℕ, zero, suc, append_assoc, inl, inr, true, false, eqb, List, [], ◌∷◌, ◌++◌, length, Some, refl, sym, ap, subst, ◌∙◌}
use Rattle.std.proofs.Common.{arith}
use Rattle.std.specs.Prelude.{Contains, AllPairs, map, slice_get, replicate}
use Rattle.std.specs.List.{flat_map, AllZip}
use Rattle.std.proofs.lemmas.List.{append-nil, append_cancel_right}
use Rattle.std.proofs.lemmas.Option.{slice_get_within}
use Rattle.esto_docmodel.specs.Encodings.{atoms_of, used}
use Rattle.esto_docmodel.specs.Patterns.{Entries, done, holds, group}
use Rattle.esto_docmodel.specs.declared.pattern.Step.{Step}
use Rattle.esto_docmodel.specs.declared.pattern.Step.TheVariants as step
use Rattle.esto_query.specs.declared.query.Name.{Name}
use Rattle.esto_query.specs.declared.query.Name.TheVariants.{Given, Hidden}
use Rattle.esto_semantics.specs.declared.fact.Fact.{Fact}
use Rattle.esto_term.specs.declared.term.Term.{Term}
use Rattle.esto_term.specs.declared.term.Term.TheVariants.{Const, Plain}
use Rattle.esto_term.proofs.ListLemmas.{Contains-at, at_pushed}
use Rattle.esto_text.specs.Quotes.{written, closed}
use Rattle.esto_text.specs.Tokens.{text_of}
use Rattle.esto_text.specs.Trees.{EntryTrees, Value, Nested, NoEntry, AndEntry, ItemTree, Atom, Part, Pattern}
use Rattle.esto_text.specs.declared.token.Token.{Token}
use Rattle.esto_text.specs.declared.token.TokenKind.{TokenKind}
use Rattle.esto_text.specs.declared.token.TokenKind.TheVariants as kind
use Rattle.esto_text.specs.declared.tree.StepSyntax.{StepSyntax}
use Rattle.esto_text.specs.declared.tree.StepSyntax.TheVariants.{Field, Item, Below}
use Rattle.esto_read.specs.Items.{IsAtomOf, AreAtomsOf, IsItemOf, AreItems}
use Rattle.esto_read.specs.Patterns.{IsFieldOf, IsStepOf, AreEntries, IsPatternOf}
use Rattle.esto_read.specs.Terms.{IsVariableOf, IsTermOf, AreTerms}
use Rattle.esto_docmodel.specs.declared.words.Word.{Word}
use Rattle.esto_read.proofs.WordLemmas.{relation_one}
use Rattle.esto_read.proofs.QuoteLemmas.{written_cases}

-- ---- constants

said_one : (s t : List ℕ) → flat_map written s ≡ flat_map written t → s ≡ t
said_one [] [] e = refl
said_one [] (y ∷ t) e =
    elim (written_cases y) [
      | inl w ↦ let f : [] ≡ 39 ∷ 39 ∷ flat_map written t = e ∙ ap (λ (l : List ℕ). l ++ flat_map written t) w.2 in absurd cc
      | inr w ↦ let f : [] ≡ y ∷ flat_map written t = e ∙ ap (λ (l : List ℕ). l ++ flat_map written t) w.1 in absurd cc
    ]
said_one (x ∷ s) [] e =
    elim (written_cases x) [
      | inl w ↦ let f : 39 ∷ 39 ∷ flat_map written s ≡ [] = sym (ap (λ (l : List ℕ). l ++ flat_map written s) w.2) ∙ e in absurd cc
      | inr w ↦ let f : x ∷ flat_map written s ≡ [] = sym (ap (λ (l : List ℕ). l ++ flat_map written s) w.1) ∙ e in absurd cc
    ]
said_one (x ∷ s) (y ∷ t) e =
    elim (written_cases x) [
      | inl w ↦ elim (written_cases y) [
        | inl v ↦
            let f : 39 ∷ 39 ∷ flat_map written s ≡ 39 ∷ 39 ∷ flat_map written t = sym (ap (λ (l : List ℕ). l ++ flat_map written s) w.2) ∙ e
            ∙ ap (λ (l : List ℕ). l ++ flat_map written t) v.2 in
            let g : flat_map written s ≡ flat_map written t = cc in
            let r = said_one s t g in
            let h : x ≡ y = w.0 ∙ sym v.0 in cc
        | inr v ↦
            let f : 39 ∷ 39 ∷ flat_map written s ≡ y ∷ flat_map written t = sym (ap (λ (l : List ℕ). l ++ flat_map written s) w.2) ∙ e
            ∙ ap (λ (l : List ℕ). l ++ flat_map written t) v.1 in
            let g : 39 ≡ y = cc in
            let r : true ≡ false = ap (λ (n : ℕ). eqb n 39) g ∙ v.0 in absurd cc
      ]
      | inr w ↦ elim (written_cases y) [
        | inl v ↦
            let f : x ∷ flat_map written s ≡ 39 ∷ 39 ∷ flat_map written t = sym (ap (λ (l : List ℕ). l ++ flat_map written s) w.1) ∙ e
            ∙ ap (λ (l : List ℕ). l ++ flat_map written t) v.2 in
            let g : x ≡ 39 = cc in
            let r : false ≡ true = sym w.0 ∙ ap (λ (n : ℕ). eqb n 39) g in absurd cc
        | inr v ↦
            let f : x ∷ flat_map written s ≡ y ∷ flat_map written t = sym (ap (λ (l : List ℕ). l ++ flat_map written s) w.1) ∙ e
            ∙ ap (λ (l : List ℕ). l ++ flat_map written t) v.1 in
            let g : flat_map written s ≡ flat_map written t = cc in
            let h : x ≡ y = cc in
            let r = said_one s t g in cc
      ]
    ]

content_one : (text s t : List ℕ) → text ≡ 39 ∷ closed s → text ≡ 39 ∷ closed t → s ≡ t
content_one text s t e f =
    let g : 39 ∷ closed s ≡ 39 ∷ closed t = sym e ∙ f in
    let h : closed s ≡ closed t = cc in
    said_one s t (append_cancel_right (flat_map written s) (flat_map written t) (39 ∷ []) h)

-- ---- names

-- no two numbers have one name
abbrev pub Apart : List Name → Type 0
Apart names = (i j : ℕ) (name : List ℕ) → slice_get names i ≡ Some (Given name) → slice_get names j ≡ Some (Given name) → i ≡ j

apart_hidden : (names : List Name) → Apart names → Apart (names ++ Hidden ∷ [])
apart_hidden names h i j name e f =
    elim (at_pushed names Hidden i (Given name) e) [
      | inl a ↦ elim (at_pushed names Hidden j (Given name) f) [ inl b ↦ h i j name a b | inr b ↦ let c : Hidden ≡ Given name = b.1 in absurd cc ]
      | inr a ↦ let c : Hidden ≡ Given name = a.1 in absurd cc
    ]

apart_given : (names : List Name) (new : List ℕ) → ¬ Contains names (Given new) → Apart names → Apart (names ++ Given new ∷ [])
apart_given names new none h i j name e f =
    elim (at_pushed names (Given new) i (Given name) e) [
      | inl a ↦ elim (at_pushed names (Given new) j (Given name) f) [
        | inl b ↦ h i j name a b
        | inr b ↦ absurd (none (subst (Contains names) (sym b.1) (Contains-at names i (Given name) a)))
      ]
      | inr a ↦ elim (at_pushed names (Given new) j (Given name) f) [
        | inl b ↦ absurd (none (subst (Contains names) (sym a.1) (Contains-at names j (Given name) b)))
        | inr b ↦ a.0 ∙ sym b.0
      ]
    ]

apart_same : (before after : List Name) → after ≡ before → Apart before → Apart after
apart_same before after e h = subst Apart (sym e) h

-- ---- terms

abbrev Same : List Name → List Name → Term → Term → Type 0
Same after after' x x' = (x ≡ x') × (after ≡ after') × Apart after

variable_one : (name : List ℕ) (before after after' : List Name) (x x' : Term) → Apart before → IsVariableOf name before x after
    → IsVariableOf name before x' after' → Same after after' x x'
variable_one name before after after' x x' h (inl (n, at, e, p)) (inl (m, at', e', p')) =
    (e ∙ ap Plain (h n m name at at') ∙ sym e', p ∙ sym p', apart_same before after p h)
variable_one name before after after' x x' h (inl (n, at, e, p)) (inr (none, e', p')) = absurd (none (Contains-at before n (Given name) at))
variable_one name before after after' x x' h (inr (none, e, p)) (inl (m, at', e', p')) = absurd (none (Contains-at before m (Given name) at'))
variable_one name before after after' x x' h (inr (none, e, p)) (inr (none', e', p')) =
    (e ∙ sym e', p ∙ sym p', subst Apart (sym p) (apart_given before name none h))

term_one : (k : TokenKind) (text : List ℕ) (before after after' : List Name) (x x' : Term) → Apart before → IsTermOf k text before x after
    → IsTermOf k text before x' after' → Same after after' x x'
term_one kind.Name text before after after' x x' h g g' = variable_one text before after after' x x' h g g'
term_one kind.Wildcard text before after after' x x' h (e, p) (e', p') = (e ∙ sym e', p ∙ sym p', subst Apart (sym p) (apart_hidden before h))
term_one kind.Quoted text before after after' x x' h (s, w, e, p) (t, w', e', p') =
    (e ∙ ap Const (content_one text s t w w') ∙ sym e', p ∙ sym p', apart_same before after p h)
term_one kind.Number text before after after' x x' h (e, p) (e', p') = (e ∙ sym e', p ∙ sym p', apart_same before after p h)
term_one _ text before after after' x x' h g g' = absurd g

module _ (bytes : List ℕ) where
  pub terms_one : (before : List Name) (ts : List Token) (xs xs' : List Term) (after after' : List Name) → Apart before → AreTerms bytes before ts xs after
      → AreTerms bytes before ts xs' after'
      → (xs ≡ xs') × (after ≡ after') × Apart after
  terms_one before [] [] [] after after' h g g' = (refl, g ∙ sym g', apart_same before after g h)
  terms_one before [] [] (y ∷ ys) after after' h g g' = absurd g'
  terms_one before [] (x ∷ xs) ys after after' h g g' = absurd g
  terms_one before (t ∷ ts) [] ys after after' h g g' = absurd g
  terms_one before (t ∷ ts) (x ∷ xs) [] after after' h g g' = absurd g'
  terms_one before (t ∷ ts) (x ∷ xs) (y ∷ ys) after after' h (between, g, more) (between', g', more') =
      let first = term_one t.kind (text_of bytes t) before between between' x y h g g' in
      let rest = terms_one between ts xs ys after after' first.2 more (subst (λ (l : List Name). AreTerms bytes l ts ys after') (sym first.1) more') in
      (cc (first.0, rest.0), rest.1, rest.2)

-- ---- patterns

field_one : (k : TokenKind) (text one other : List ℕ) → IsFieldOf k text one → IsFieldOf k text other → one ≡ other
field_one kind.Name text one other h g = h ∙ sym g
field_one kind.Quoted text one other h g = content_one text one other h g
field_one _ text one other h g = absurd h

-- no two of the names have one name, and so with more that have none
apart_more : (count : ℕ) (names : List Name) → Apart names → Apart (names ++ replicate count Hidden)
apart_more zero names h = subst Apart (sym (append-nil names)) h
apart_more (suc count) names h =
    subst Apart (append_assoc names (Hidden ∷ []) (replicate count Hidden)) (apart_more count (names ++ Hidden ∷ []) (apart_hidden names h))

module _ (bytes : List ℕ) where
  step_one : (s : StepSyntax) (one other : Step) → IsStepOf bytes s one → IsStepOf bytes s other → one ≡ other
  step_one (Field t) (step.Name one) (step.Name other) h g = ap step.Name (field_one t.kind (text_of bytes t) one other h g)
  step_one (Field t) (step.Name one) _ h g = absurd g
  step_one (Field t) _ other h g = absurd h
  step_one Item step.Item step.Item h g = refl
  step_one Item step.Item _ h g = absurd g
  step_one Item _ other h g = absurd h
  step_one Below step.Below step.Below h g = refl
  step_one Below step.Below _ h g = absurd g
  step_one Below _ other h g = absurd h

  path_one : (path : List StepSyntax) (one other : List Step) → AllZip (IsStepOf bytes) path one → AllZip (IsStepOf bytes) path other → one ≡ other
  path_one [] [] [] h g = refl
  path_one [] [] (y ∷ other) h g = absurd g
  path_one [] (x ∷ one) other h g = absurd h
  path_one (s ∷ path) [] other h g = absurd h
  path_one (s ∷ path) (x ∷ one) [] h g = absurd g
  path_one (s ∷ path) (x ∷ one) (y ∷ other) h g = cc (step_one s x y h.0 g.0, path_one path one other h.1 g.1)

  abbrev OneReading : Entries → Entries → List Name → List Name → Type 0
  OneReading p q after after' = (p ≡ q) × (after ≡ after') × Apart after

  pub entries_one : (before : List Name) (es : EntryTrees) (p q : Entries) (after after' : List Name) → Apart before → AreEntries bytes before es p after
      → AreEntries bytes before es q after' → OneReading p q after after'
  entries_one before NoEntry done done after after' h g g' = (refl, g ∙ sym g', apart_same before after g h)
  entries_one before NoEntry done _ after after' h g g' = absurd g'
  entries_one before NoEntry _ q after after' h g g' = absurd g
  entries_one before (AndEntry (Value path t) others) (holds s x rest) (holds s' x' rest') after after' h (between, z, g, more) (between', z', g', more') =
      let first = term_one t.kind (text_of bytes t) before between between' x x' h g g' in
      let later = entries_one between others rest rest' after after' first.2 more
      (subst (λ (l : List Name). AreEntries bytes l others rest' after') (sym first.1) more') in
      (cc (path_one path s s' z z', first.0, later.0), later.1, later.2)
  entries_one before (AndEntry (Value path t) others) (holds s x rest) _ after after' h g g' = absurd g'
  entries_one before (AndEntry (Value path t) others) _ q after after' h g g' = absurd g
  entries_one before (AndEntry (Nested path es) others) (group s p rest) (group s' p' rest') after after' h (between, z, g, more) (between', z', g', more') =
      let first = entries_one before es p p' between between' h g g' in
      let later = entries_one between others rest rest' after after' first.2 more
      (subst (λ (l : List Name). AreEntries bytes l others rest' after') (sym first.1) more') in
      (cc (path_one path s s' z z', first.0, later.0), later.1, later.2)
  entries_one before (AndEntry (Nested path es) others) (group s p rest) _ after after' h g g' = absurd g'
  entries_one before (AndEntry (Nested path es) others) _ q after after' h g g' = absurd g

  pattern_one : (before : List Name) (base : ℕ) (es : EntryTrees) (own own' : List (Fact Term)) (after after' : List Name) → Apart before
      → IsPatternOf bytes before base es own after → IsPatternOf bytes before base es own' after' → (own ≡ own') × (after ≡ after') × Apart after
  pattern_one before base es own own' after after' h (p, between, are, is, names) (p', between', are', is', names') =
      let same = entries_one (before ++ Hidden ∷ []) es p p' between between' (apart_hidden before h) are are' in (
        is ∙ ap (λ (q : Entries). atoms_of base q (length before) (length between)) same.0
            ∙ ap (λ (l : List Name). atoms_of base p' (length before) (length l)) same.1 ∙ sym is',
        names ∙ ap (λ (q : Entries). between ++ replicate (used q) Hidden) same.0
            ∙ ap (λ (l : List Name). l ++ replicate (used p') Hidden) same.1 ∙ sym names',
        subst Apart (sym names) (apart_more (used p) between same.2),
      )

-- ---- items

module _ (words : List Word) (apart : AllPairs ◌≢◌ (map (λ word. word.name) words)) (schema bytes : List ℕ) where
  abbrev fact : ℕ → List Term → Fact Term
  fact relation row = record { relation = relation; terms = row }

  atom_one : (before after after' : List Name) (relation : ℕ) (ts : List Token) (own own' : List (Fact Term)) → Apart before
      → IsAtomOf bytes before relation ts own after → IsAtomOf bytes before relation ts own' after' → (own ≡ own') × (after ≡ after') × Apart after
  atom_one before after after' relation ts own own' h (row, g, e) (row', g', e') =
      let s = terms_one bytes before ts row row' after after' h g g' in
      (e ∙ ap (λ (l : List Term). fact relation l ∷ []) s.0 ∙ sym e', s.1, s.2)

  atoms_one : (item : ItemTree) (before after after' : List Name) (relation : ℕ) (own own' : List (Fact Term)) → Apart before
      → AreAtomsOf bytes before item relation own after → AreAtomsOf bytes before item relation own' after' → (own ≡ own') × (after ≡ after') × Apart after
  atoms_one (Atom name ts) before after after' relation own own' h g g' = atom_one before after after' relation ts own own' h g g'
  atoms_one (Part name part ts) before after after' relation own own' h g g' = atom_one before after after' relation ts own own' h g g'
  atoms_one (Pattern name es) before after after' base own own' h g g' = pattern_one bytes before base es own own' after after' h g g'

  item_one : (item : ItemTree) (before after after' : List Name) (own own' : List (Fact Term)) → Apart before
      → IsItemOf words schema bytes before item own after → IsItemOf words schema bytes before item own' after'
      → (own ≡ own') × (after ≡ after') × Apart after
  item_one item before after after' own own' h (relation, named, columns, g) (relation', named', columns', g') =
      let same = relation_one words apart bytes item relation relation' named named' in
      atoms_one item before after after' relation own own' h g (subst (λ (r : ℕ). AreAtomsOf bytes before item r own' after') (sym same) g')

  pub items_one : (before : List Name) (items : List ItemTree) (atoms atoms' : List (Fact Term)) (after after' : List Name) → Apart before
      → AreItems words schema bytes before items atoms after
      → AreItems words schema bytes before items atoms' after' → (atoms ≡ atoms') × (after ≡ after') × Apart after
  items_one before [] atoms atoms' after after' h (e, p) (e', p') = (e ∙ sym e', p ∙ sym p', apart_same before after p h)
  items_one before (item ∷ items) atoms atoms' after after' h (own, rest, between, e, g, more) (own', rest', between', e', g', more') =
      let first = item_one item before between between' own own' h g g' in
      let later = items_one between items rest rest' after after' first.2 more
      (subst (λ (l : List Name). AreItems words schema bytes l items rest' after') (sym first.1) more') in
      (e ∙ ap (λ (l : List (Fact Term)). l ++ rest) first.0 ∙ ap (λ (l : List (Fact Term)). own' ++ l) later.0 ∙ sym e', later.1, later.2)

pub apart_none : Apart []
apart_none i j name e f = absurd (omega (arith, slice_get_within [] i (Given name) e))
