-- The entries of a pattern, and its atoms: how many there are, and that their terms are among the variables.
use Rattle.std.proofs.Common.{◌≡◌, ℕ, suc, ◌+◌, ◌<◌, ◌≤◌, inl, inr, List, [], ◌∷◌, ◌++◌, length, Some, refl, sym, ap, subst, ◌∙◌, arith}
use Rattle.std.specs.Prelude.{IsUtf8, Contains, slice_get, replicate}
use Rattle.std.specs.List.{AllByRecursion, AllZip}
use Rattle.std.proofs.lemmas.List.{length-append, length-map, length-replicate}
use Rattle.std.proofs.lemmas.Slice.Zip.{AllZip-long}
use Rattle.esto_term.proofs.ListLemmas.{Contains-cases, Contains-map_from, Contains-nil}
use Rattle.esto_docmodel.specs.DocumentFacts.{DocFact, root, field, item, value, below, kind, row_of, flat}
use Rattle.esto_docmodel.specs.Encodings.{end, step_atoms, used, atoms, pattern_atoms}
use Rattle.esto_docmodel.specs.Patterns.{Entries, done, holds, group}
use Rattle.esto_docmodel.specs.declared.pattern.Step.{Step}
use Rattle.esto_docmodel.specs.declared.pattern.Step.TheVariants as step
use Rattle.esto_query.specs.declared.query.Name.{Name}
use Rattle.esto_query.specs.declared.query.Name.TheVariants.{Hidden}
use Rattle.esto_semantics.specs.declared.fact.Fact.{Fact}
use Rattle.esto_term.specs.declared.term.Term.{Term}
use Rattle.esto_term.specs.declared.term.Term.TheVariants.{Const, Plain}
use Rattle.esto_text.specs.Faults.{IsFieldIn, IsTermIn}
use Rattle.esto_text.specs.Tokens.{text_of}
use Rattle.esto_text.specs.Trees.{EntryTrees, Value, Nested, NoEntry, AndEntry, EachOfPath, EachOfEntries}
use Rattle.esto_text.specs.declared.token.Token.{Token}
use Rattle.esto_text.specs.declared.token.TokenKind.{TokenKind}
use Rattle.esto_text.specs.declared.token.TokenKind.TheVariants as which
use Rattle.esto_text.specs.declared.tree.StepSyntax.{StepSyntax}
use Rattle.esto_text.specs.declared.tree.StepSyntax.TheVariants.{Field, Item, Below}
use Rattle.esto_read.specs.Items.{entries_size}
use Rattle.esto_read.specs.Patterns.{IsFieldOf, IsStepOf, AreEntries, IsPatternOf}
use Rattle.esto_docmodel.specs.Words.{HasRelations}
use Rattle.esto_docmodel.specs.declared.words.DataModel.TheVariants.{Documents}
use Rattle.esto_read.proofs.BelowLemmas as terms
use Rattle.esto_read.proofs.BelowLemmas.{below_more, plain_below, const_below, term_grows}
use Rattle.esto_read.proofs.Utf8Lemmas.{said_utf8, text_inside_utf8, name_token, quoted_token}

-- ---- so many atoms

step_count : (steps : List Step) (v next : ℕ) → length (step_atoms steps v next) ≡ length steps
step_count [] v next = refl
step_count (s ∷ steps) v next = ap suc (step_count steps next (suc next))

module _ (bytes : List ℕ) where
  atoms_count : (before : List Name) (es : EntryTrees) (p : Entries) (after : List Name) → AreEntries bytes before es p after → (v next : ℕ)
      → length (atoms p v next) ≡ entries_size es
  atoms_count before NoEntry done after h v next = refl
  atoms_count before (AndEntry (Value path token) others) (holds steps term rest) after (between, z, t, more) v next =
      let later = atoms_count between others rest after more v (next + length steps) in
      let whole = length-append (step_atoms steps v next) (value (Plain (end steps v next)) term ∷ atoms rest v (next + length steps)) in
      omega (arith, whole, later, step_count steps v next, AllZip-long (IsStepOf bytes) path steps z)
  atoms_count before (AndEntry (Nested path entries) others) (group steps inner rest) after (between, z, g, more) v next =
      let inside = atoms_count before entries inner between g (end steps v next) (next + length steps) in
      let later = atoms_count between others rest after more v ((next + length steps) + used inner) in
      let whole = length-append (step_atoms steps v next)
      (atoms inner (end steps v next) (next + length steps) ++ atoms rest v ((next + length steps) + used inner)) in
      let behind = length-append (atoms inner (end steps v next) (next + length steps)) (atoms rest v ((next + length steps) + used inner)) in
      omega (arith, whole, behind, inside, later, step_count steps v next, AllZip-long (IsStepOf bytes) path steps z)
  atoms_count before _ _ after h v next = absurd h

  pub pattern_count : (before : List Name) (base : ℕ) (es : EntryTrees) (own : List (Fact Term)) (after : List Name)
      → IsPatternOf bytes before base es own after → length own ≡ suc (entries_size es)
  pattern_count before base es own after (p, between, are, is, names) =
      ap length is ∙ length-map (pattern_atoms p (length before) (length between)) (flat base)
      ∙ ap suc (atoms_count (before ++ Hidden ∷ []) es p between are (length before) (length between))

-- ---- terms among so many variables

abbrev Utf8Step : Step → Type 0
Utf8Step (step.Name text) = IsUtf8 text
Utf8Step step.Item = Unit {0}
Utf8Step step.Below = Unit {0}

-- the entries' constants are UTF-8, and their variables are among so many
abbrev GoodEntries : ℕ → Entries → Type 0
GoodEntries n done = Unit {0}
GoodEntries n (holds steps term rest) = AllByRecursion Utf8Step steps × terms.Below n term × GoodEntries n rest
GoodEntries n (group steps inner rest) = AllByRecursion Utf8Step steps × GoodEntries n inner × GoodEntries n rest

good_more : (m n : ℕ) (p : Entries) → m ≤ n → GoodEntries m p → GoodEntries n p
good_more m n done le h = tt
good_more m n (holds steps term rest) le h = (h.0, below_more m n term le h.1, good_more m n rest le h.2)
good_more m n (group steps inner rest) le h = (h.0, good_more m n inner le h.1, good_more m n rest le h.2)

abbrev GoodFact : ℕ → DocFact Term → Type 0
GoodFact n fact = AllByRecursion (terms.Below n) (row_of fact)

abbrev AreGood : ℕ → List (DocFact Term) → Type 0
AreGood n = AllByRecursion (GoodFact n)

both : (n : ℕ) (xs ys : List (DocFact Term)) → AreGood n xs → AreGood n ys → AreGood n (xs ++ ys)
both n [] ys h g = g
both n (x ∷ xs) ys h g = (h.0, both n xs ys h.1 g)

variable : (n v : ℕ) → v < n → terms.Below n (Plain v)
variable n v lt = plain_below v n (Plain v) refl lt

steps_good : (n : ℕ) (steps : List Step) (v next : ℕ) → AllByRecursion Utf8Step steps → v < n → next + length steps ≤ n → AreGood n (step_atoms steps v next)
steps_good n [] v next us lt le = tt
steps_good n (step.Name text ∷ steps) v next us lt le =
    let here : next < n = omega arith in
    ((variable n v lt, (const_below text n (Const text) refl us.0, (variable n next here, tt))), steps_good n steps next (suc next) us.1 here (omega arith))
steps_good n (step.Item ∷ steps) v next us lt le =
    let here : next < n = omega arith in
    ((variable n v lt, (variable n next here, tt)), steps_good n steps next (suc next) us.1 here (omega arith))
steps_good n (step.Below ∷ steps) v next us lt le =
    let here : next < n = omega arith in
    ((variable n v lt, (variable n next here, tt)), steps_good n steps next (suc next) us.1 here (omega arith))

end_below : (n : ℕ) (steps : List Step) (v next : ℕ) → v < n → next + length steps ≤ n → end steps v next < n
end_below n [] v next lt le = lt
end_below n (s ∷ steps) v next lt le = end_below n steps next (suc next) (omega arith) (omega arith)

atoms_good : (n : ℕ) (p : Entries) (v next : ℕ) → GoodEntries n p → v < n → next + used p ≤ n → AreGood n (atoms p v next)
atoms_good n done v next h lt le = tt
atoms_good n (holds steps term rest) v next h lt le =
    both n (step_atoms steps v next) (value (Plain (end steps v next)) term ∷ atoms rest v (next + length steps))
    (steps_good n steps v next h.0 lt (omega arith))
    ((variable n (end steps v next) (end_below n steps v next lt (omega arith)), (h.1, tt)), atoms_good n rest v (next + length steps) h.2 lt (omega arith))
atoms_good n (group steps inner rest) v next h lt le =
    both n (step_atoms steps v next) (atoms inner (end steps v next) (next + length steps) ++ atoms rest v ((next + length steps) + used inner))
    (steps_good n steps v next h.0 lt (omega arith))
    (both n (atoms inner (end steps v next) (next + length steps)) (atoms rest v ((next + length steps) + used inner))
    (atoms_good n inner (end steps v next) (next + length steps) h.1 (end_below n steps v next lt (omega arith)) (omega arith))
    (atoms_good n rest v ((next + length steps) + used inner) h.2 lt (omega arith)))

module _ (bytes : List ℕ) (u : IsUtf8 bytes) where
  field_utf8 : (t : Token) → IsFieldIn bytes t → (k : TokenKind) → t.kind ≡ k → (text : List ℕ) → IsFieldOf k (text_of bytes t) text → IsUtf8 text
  field_utf8 t h which.Name q text e = subst IsUtf8 (sym e) (name_token bytes u t h.0 q)
  field_utf8 t h which.Quoted q text w = said_utf8 text (text_inside_utf8 (text_of bytes t) text w (quoted_token bytes u t h.0 q))
  field_utf8 t h _ q text g = absurd g

  steps_utf8 : (path : List StepSyntax) (steps : List Step) → EachOfPath (IsFieldIn bytes) path → AllZip (IsStepOf bytes) path steps
      → AllByRecursion Utf8Step steps
  steps_utf8 [] [] h z = tt
  steps_utf8 [] (s ∷ steps) h z = absurd z
  steps_utf8 (x ∷ path) [] h z = absurd z
  steps_utf8 (Field t ∷ path) (step.Name text ∷ steps) h z = (field_utf8 t h.0 t.kind refl text z.0, steps_utf8 path steps h.1 z.1)
  steps_utf8 (Item ∷ path) (step.Item ∷ steps) h z = (tt, steps_utf8 path steps h z.1)
  steps_utf8 (Below ∷ path) (step.Below ∷ steps) h z = (tt, steps_utf8 path steps h z.1)
  steps_utf8 (_ ∷ path) (_ ∷ steps) h z = absurd z.0

  entries_good : (before : List Name) (es : EntryTrees) (p : Entries) (after : List Name) → EachOfEntries (IsFieldIn bytes) (IsTermIn bytes) es
      → AreEntries bytes before es p after → (length before ≤ length after) × GoodEntries (length after) p
  entries_good before NoEntry done after all h = (omega (arith, ap length h), tt)
  entries_good before (AndEntry (Value path token) others) (holds steps term rest) after all (between, z, t, more) =
      let first = term_grows bytes u token all.0.1.0 token.kind refl before between term t in
      let later = entries_good between others rest after all.1 more in (
        omega (arith, first.0, later.0),
        (steps_utf8 path steps all.0.0 z, below_more (length between) (length after) term later.0 first.1, later.1),
      )
  entries_good before (AndEntry (Nested path entries) others) (group steps inner rest) after all (between, z, g, more) =
      let first = entries_good before entries inner between all.0.1 g in
      let later = entries_good between others rest after all.1 more in (
        omega (arith, first.0, later.0),
        (steps_utf8 path steps all.0.0 z, good_more (length between) (length after) inner later.0 first.1, later.1),
      )
  entries_good before _ _ after all h = absurd h

-- ---- atoms over a schema

each_below : (n : ℕ) (xs : List Term) → AllByRecursion (terms.Below n) xs → (x : Term) → Contains xs x → terms.Below n x
each_below n [] h x k = absurd (Contains-nil x k)
each_below n (y ∷ ys) h x k = elim (Contains-cases y ys x k) [ inl e ↦ subst (terms.Below n) e h.0 | inr l ↦ each_below n ys h.1 x l ]

each_good : (n : ℕ) (facts : List (DocFact Term)) → AreGood n facts → (fact : DocFact Term) → Contains facts fact → GoodFact n fact
each_good n [] h fact k = absurd (Contains-nil fact k)
each_good n (first ∷ facts) h fact k =
    elim (Contains-cases first facts fact k) [ inl e ↦ subst (GoodFact n) e h.0 | inr l ↦ each_good n facts h.1 fact l ]

columns : (schema : List ℕ) (base : ℕ) → HasRelations schema Documents base → (fact : DocFact Term)
    → slice_get schema (base + kind fact) ≡ Some (length (row_of fact))
columns schema base has (root n) = let here : base + 0 ≡ base = omega arith in rw here has.0
columns schema base has (field p k n) = has.1
columns schema base has (item p n) = has.2
columns schema base has (value n t) = has.3
columns schema base has (below a n) = has.4

module _ (bytes : List ℕ) (u : IsUtf8 bytes) (schema : List ℕ) where
  -- the atoms of a pattern are over the schema, and their terms are among the variables
  pub pattern_good : (before : List Name) (base : ℕ) (es : EntryTrees) (own : List (Fact Term)) (after : List Name) → HasRelations schema Documents base
      → EachOfEntries (IsFieldIn bytes) (IsTermIn bytes) es → IsPatternOf bytes before base es own after
      → (length before ≤ length after)
      × ((atom : Fact Term) → Contains own atom → (slice_get schema atom.relation ≡ Some (length atom.terms))
      × ((x : Term) → Contains atom.terms x → terms.Below (length after) x))
  pattern_good before base es own after has all (p, between, are, is, names) =
      let read = entries_good bytes u (before ++ Hidden ∷ []) es p between all are in
      let root_in : length (before ++ Hidden ∷ []) ≡ length before + 1 = length-append before (Hidden ∷ []) in
      let count : length after ≡ length between + used p = ap length names ∙ length-append between (replicate (used p) Hidden)
      ∙ ap (λ (n : ℕ). length between + n) (length-replicate (used p) Hidden) in
      let inside : length before < length after = omega (arith, read.0, root_in, count) in
      let good : AreGood (length after) (pattern_atoms p (length before) (length between)) = (
        (variable (length after) (length before) inside, tt),
        atoms_good (length after) p (length before) (length between) (good_more (length between) (length after) p (omega (arith, count)) read.1) inside
            (omega (arith, count)),
      ) in (
        omega arith,
        λ atom k.
            let found = Contains-map_from (flat base) (pattern_atoms p (length before) (length between)) atom
            (subst (λ (l : List (Fact Term)). Contains l atom) is k) in
            let row = each_good (length after) (pattern_atoms p (length before) (length between)) good found.0 found.1 in
            subst (λ (atom : Fact Term). (slice_get schema atom.relation ≡ Some (length atom.terms))
            × ((x : Term) → Contains atom.terms x → terms.Below (length after) x)) found.2
            (columns schema base has found.0, each_below (length after) (row_of found.0) row),
      )
