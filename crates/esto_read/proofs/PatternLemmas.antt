-- Groups as patterns, an entry at a time.
use Rattle.std.proofs.Common.{◌≡◌, ◌≢◌, ◌⊎◌, inl, inr, ℕ, zero, suc, ◌+◌, ◌-◌, ◌<◌, ◌≤◌, List, [], ◌∷◌, ◌++◌, map, length, take, drop, get_or, Some, None, refl}
use Rattle.std.proofs.Common.{sym, ap, subst, ◌∙◌, arith, append_assoc}
use Rattle.std.specs.Prelude.{Option, SomeIff, MatchOption, replicate}
use Rattle.std.specs.List.{AllZip}
use Rattle.std.proofs.lemmas.List.{take_more, map-append, drop_all, append-nil, length-append, length-replicate, replicate_more}
use Rattle.std.proofs.lemmas.Slice.Zip.{all_zipped_more}
use Rattle.esto_term.proofs.PlaceLemmas.{drop-item}
use Rattle.esto_docmodel.specs.Patterns.{Entries, done}
use Rattle.esto_docmodel.specs.Shapes.{More, chain, entry_shape, entries_of as pattern_of}
use Rattle.esto_docmodel.specs.declared.pattern.Entry.{Entry}
use Rattle.esto_docmodel.specs.declared.pattern.Entry.TheVariants as pattern
use Rattle.esto_docmodel.specs.declared.pattern.Step.{Step}
use Rattle.esto_docmodel.proofs.ShapeLemmas.{entry-Value, entry-Group}
use Rattle.esto_query.specs.declared.query.Name.{Name}
use Rattle.esto_query.specs.declared.query.Name.TheVariants.{Hidden}
use Rattle.esto_term.specs.declared.term.Term.{Term}
use Rattle.esto_text.specs.Tokens.{text_of}
use Rattle.esto_text.specs.Trees.{EntryTree, Value, Nested, EntryTrees, NoEntry, AndEntry, EachOfPath, EachOfEntry, EachOfEntries}
use Rattle.esto_text.specs.View.{entry_of, entries_of}
use Rattle.esto_text.specs.declared.token.Token.{Token}
use Rattle.esto_text.specs.declared.token.TokenKind.{TokenKind}
use Rattle.esto_text.specs.declared.token.TokenKind.TheVariants as kind
use Rattle.esto_text.specs.declared.tree.EntrySyntax.{EntrySyntax}
use Rattle.esto_text.specs.declared.tree.EntrySyntax.TheVariants as variants
use Rattle.esto_text.specs.declared.tree.StepSyntax.{StepSyntax}
use Rattle.esto_text.specs.declared.tree.StepSyntax.TheVariants.{Field, Item, Below}
use Rattle.esto_text.proofs.GroupLemmas.{value_entry, group_entry}
use Rattle.esto_read.specs.Items.{entry_size, entries_size}
use Rattle.esto_read.specs.Patterns.{IsStepOf, AreEntries, Puts}
use Rattle.esto_read.specs.Terms.{IsTermOf}

-- ---- what is left of a group

pub rest_at : (es : List EntrySyntax) (n : ℕ) (x : EntrySyntax) → n < length es → x ≡ get_or es n x
    → entries_of (drop n es) ≡ AndEntry (entry_of x) (entries_of (drop (n + 1) es))
rest_at es n x lt e = ap entries_of (drop-item es n x lt e)

pub rest_done : (es : List EntrySyntax) (n : ℕ) → length es ≤ n → entries_of (drop n es) ≡ NoEntry
rest_done es n le = ap entries_of (drop_all n es le)

-- what stands in each token of the group stands in what is left
pub stand_from : (F T : Token → Type 0) (es : List EntrySyntax) (n : ℕ) → EachOfEntries F T (entries_of es) → EachOfEntries F T (entries_of (drop n es))
stand_from F T es zero h = h
stand_from F T [] (suc n) h = h
stand_from F T (x ∷ es) (suc n) h = stand_from F T es n h.1

pub entry_stands : (F T : Token → Type 0) (es : List EntrySyntax) (n : ℕ) (x : EntrySyntax) → n < length es → x ≡ get_or es n x
    → EachOfEntries F T (entries_of es) → EachOfEntry F T (entry_of x)
entry_stands F T es n x lt e h = (subst (EachOfEntries F T) (rest_at es n x lt e) (stand_from F T es n h)).0

-- ---- the measure of a walk over a group

abbrev mutual
  pub entry_weight : EntryTree → ℕ
  entry_weight (Value path term) = 0
  entry_weight (Nested path entries) = suc (entries_weight entries)

  pub entries_weight : EntryTrees → ℕ
  entries_weight NoEntry = 0
  entries_weight (AndEntry first others) = suc (entry_weight first + entries_weight others)

-- an entry is lighter than its group
pub lighter : (es : List EntrySyntax) (n : ℕ) (x : EntrySyntax) → n < length es → x ≡ get_or es n x → entry_weight (entry_of x) < entries_weight (entries_of es)
lighter [] n x lt e = absurd (omega arith)
lighter (y ∷ es) zero x lt e = omega (arith, ap (λ (z : EntrySyntax). entry_weight (entry_of z)) e)
lighter (y ∷ es) (suc n) x lt e = let later = lighter es n x (omega arith) e in omega (arith, later)

-- a group is lighter than an entry that has it
pub nested_weight : (entry : EntrySyntax) (path : List StepSyntax) (es read : List EntrySyntax) → entry ≡ variants.Group path es → read ≡ es
    → entry_weight (entry_of entry) ≡ suc (entries_weight (entries_of read))
nested_weight entry path es read is same =
    ap (λ (z : EntrySyntax). entry_weight (entry_of z)) is ∙ ap entry_weight (group_entry path es)
    ∙ ap (λ (l : List EntrySyntax). suc (entries_weight (entries_of l))) (sym same)

-- what stands in a value stands in its path and its term
pub value_stands : (F T : Token → Type 0) (entry : EntrySyntax) (path : List StepSyntax) (term : Token) → entry ≡ variants.Value path term
    → EachOfEntry F T (entry_of entry) → EachOfPath F path × T term
value_stands F T entry path term is h =
    subst (EachOfEntry F T) (value_entry path term) (subst (λ (z : EntrySyntax). EachOfEntry F T (entry_of z)) is h)

-- what stands in an entry stands in its path and its group
pub group_stands : (F T : Token → Type 0) (entry : EntrySyntax) (path : List StepSyntax) (es : List EntrySyntax) → entry ≡ variants.Group path es
    → EachOfEntry F T (entry_of entry) → EachOfPath F path × EachOfEntries F T (entries_of es)
group_stands F T entry path es is h =
    subst (EachOfEntry F T) (group_entry path es) (subst (λ (z : EntrySyntax). EachOfEntry F T (entry_of z)) is h)

pub nested_stands : (F T : Token → Type 0) (entry : EntrySyntax) (path : List StepSyntax) (es read : List EntrySyntax) → entry ≡ variants.Group path es
    → read ≡ es
    → EachOfEntry F T (entry_of entry) → EachOfEntries F T (entries_of read)
nested_stands F T entry path es read is same h =
    subst (λ (l : List EntrySyntax). EachOfEntries F T (entries_of l)) (sym same) (group_stands F T entry path es is h).1

-- ---- entries in a row

abbrev pub before_rest : List More → Entries → Entries
before_rest [] rest = rest
before_rest (first ∷ more) rest = first (before_rest more rest)

before_none : (all : List More) → before_rest all done ≡ chain all
before_none [] = refl
before_none (first ∷ more) = ap first (before_none more)

before_last : (all : List More) (last : More) (rest : Entries) → before_rest (all ++ last ∷ []) rest ≡ before_rest all (last rest)
before_last [] last rest = refl
before_last (first ∷ more) last rest = ap first (before_last more last rest)

module _ (bytes : List ℕ) (before : List Name) (es : List EntrySyntax) where
  -- what is left of the group, read from here on, is the rest of the pattern
  abbrev pub EntriesSoFar : ℕ → List Entry → List Name → Type 0
  EntriesSoFar n it names =
      (rest : Entries) (end : List Name) → AreEntries bytes names (entries_of (drop n es)) rest end
      → AreEntries bytes before (entries_of es) (before_rest (map entry_shape it) rest) end

  pub entries_begin : EntriesSoFar 0 [] before
  entries_begin rest end h = h

  pub entries_more : (n : ℕ) (it : List Entry) (names : List Name) → EntriesSoFar n it names → (x : EntrySyntax) → n < length es → x ≡ get_or es n x
      → (entry : Entry) (after : List Name) → Puts bytes names (entry_of x) (entry_shape entry) after → EntriesSoFar (n + 1) (it ++ entry ∷ []) after
  entries_more n it names so_far x lt e entry after puts rest end h =
      let here = puts (entries_of (drop (n + 1) es)) rest end h in
      let whole = so_far (entry_shape entry rest) end
      (subst (λ (l : EntryTrees). AreEntries bytes names l (entry_shape entry rest) end) (sym (rest_at es n x lt e)) here) in
      let same : before_rest (map entry_shape (it ++ entry ∷ [])) rest ≡ before_rest (map entry_shape it) (entry_shape entry rest) =
      ap (λ (l : List More). before_rest l rest) (map-append entry_shape it (entry ∷ [])) ∙ before_last (map entry_shape it) (entry_shape entry) rest in
      subst (λ (p : Entries). AreEntries bytes before (entries_of es) p end) (sym same) whole

  pub entries_end : (n : ℕ) (it : List Entry) (names : List Name) → EntriesSoFar n it names → length es ≤ n
      → AreEntries bytes before (entries_of es) (pattern_of it) names
  entries_end n it names so_far le =
      let whole = so_far done names (subst (λ (l : EntryTrees). AreEntries bytes names l done names) (sym (rest_done es n le)) refl) in
      subst (λ (p : Entries). AreEntries bytes before (entries_of es) p names) (before_none (map entry_shape it)) whole

-- ---- what an entry puts

pub value_is : (entry : EntrySyntax) (path : List StepSyntax) (token : Token) → entry ≡ variants.Value path token → entry_of entry ≡ Value path token
value_is entry path token is = ap entry_of is ∙ value_entry path token

module _ (bytes : List ℕ) (before after : List Name) (path : List StepSyntax) (steps : List Step) (are : AllZip (IsStepOf bytes) path steps) where
  pub value_puts : (token : Token) (term : Term) → IsTermOf token.kind (text_of bytes token) before term after
      → Puts bytes before (Value path token) (entry_shape (pattern.Value steps term)) after
  value_puts token term put others rest end h = rw entry-Value (after, are, put, h)

  pub group_puts : (entry : EntrySyntax) (es : List EntrySyntax) (inner : List Entry) → entry ≡ variants.Group path es
      → AreEntries bytes before (entries_of es) (pattern_of inner) after
      → Puts bytes before (entry_of entry) (entry_shape (pattern.Group steps inner)) after
  group_puts entry es inner is put others rest end h = rw (is, group_entry, entry-Group) (after, are, put, h)

-- ---- paths

pub step_stands : (F : Token → Type 0) (steps : List StepSyntax) (n : ℕ) (d : StepSyntax) → n < length steps → EachOfPath F steps
    → EachOfPath F (get_or steps n d ∷ [])
step_stands F [] n d lt h = absurd (omega arith)
step_stands F (Field token ∷ steps) zero d lt h = (h.0, tt)
step_stands F (Item ∷ steps) zero d lt h = tt
step_stands F (Below ∷ steps) zero d lt h = tt
step_stands F (Field token ∷ steps) (suc n) d lt h = step_stands F steps n d (omega arith) h.1
step_stands F (Item ∷ steps) (suc n) d lt h = step_stands F steps n d (omega arith) h
step_stands F (Below ∷ steps) (suc n) d lt h = step_stands F steps n d (omega arith) h

pub path_more : {A B : Type 0} → (R : A → B → Type 0) (steps : List A) (n : ℕ) (path : List B) (d : A) (y : B) → n < length steps
    → AllZip R (take n steps) path → R (get_or steps n d) y → AllZip R (take (n + 1) steps) (path ++ y ∷ [])
path_more {A} {B} R steps n path d y lt h r =
    subst (λ (l : List A). AllZip R l (path ++ y ∷ [])) (sym (take_more steps n d lt)) (all_zipped_more R (take n steps) path (get_or steps n d) y h r)

-- ---- variables without a name

-- so many were put behind these names, and not yet more than are wanted
pub record HiddenSoFar (before : List Name) (count : ℕ) (names : List Name) : Type 0 where
  pub put : ℕ
  pub names_are : names ≡ before ++ replicate put Hidden
  pub few : put ≤ count - length before

pub hidden_begin : (before : List Name) (count : ℕ) → HiddenSoFar before count before
hidden_begin before count = record { put = 0; names_are = sym (append-nil before); few = omega arith }

module _ (before : List Name) (count : ℕ) (names : List Name) (h : HiddenSoFar before count names) where
  hidden_length : length names ≡ length before + h.put
  hidden_length = ap length h.names_are ∙ length-append before (replicate h.put Hidden) ∙ ap (λ (n : ℕ). length before + n) (length-replicate h.put Hidden)

  pub hidden_more : length names < count → HiddenSoFar before count (names ++ Hidden ∷ [])
  hidden_more lt = record {
    put = h.put + 1;
    names_are = ap (λ (l : List Name). l ++ Hidden ∷ []) h.names_are ∙ append_assoc before (replicate h.put Hidden) (Hidden ∷ [])
        ∙ ap (λ (l : List Name). before ++ l) (replicate_more h.put Hidden);
    few = omega (arith, lt, hidden_length, h.few);
  }

  pub hidden_end : count ≤ length names → names ≡ before ++ replicate (count - length before) Hidden
  hidden_end le =
      let all : h.put ≡ count - length before = omega (arith, le, hidden_length, h.few) in
      h.names_are ∙ ap (λ (n : ℕ). before ++ replicate n Hidden) all

-- ---- room

-- what the entries that are left need, of what is left of the room, is what all need of all of it
abbrev pub RoomSoFar : List EntrySyntax → ℕ → ℕ → ℕ → Type 0
RoomSoFar es room n left = room + entries_size (entries_of (drop n es)) ≡ left + entries_size (entries_of es)

module _ (es : List EntrySyntax) (room n left : ℕ) (h : RoomSoFar es room n left) where
  pub room_end : length es ≤ n → room ≡ left + entries_size (entries_of es)
  room_end le = let none = ap entries_size (rest_done es n le) in omega (arith, h, none)

  module _ (x : EntrySyntax) (lt : n < length es) (e : x ≡ get_or es n x) where
    here : entries_size (entries_of (drop n es)) ≡ entry_size (entry_of x) + entries_size (entries_of (drop (n + 1) es))
    here = ap entries_size (rest_at es n x lt e)

    pub room_more : (next : ℕ) → left ≡ next + entry_size (entry_of x) → RoomSoFar es room (n + 1) next
    room_more next is = omega (arith, h, here, is)

    pub room_none : left < entry_size (entry_of x) → room < entries_size (entries_of es)
    room_none less = omega (arith, h, here, less)

-- what is left of the room behind a path, for a term
pub room_for_term : (room steps left : ℕ) (result : Option ℕ) → room ≡ left + steps → SomeIff result (1 ≤ left) (left - 1)
    → MatchOption result (room < suc steps) (λ last. room ≡ last + suc steps)
room_for_term room steps left None is h = omega (arith, is, h)
room_for_term room steps left (Some last) is h = omega (arith, is, h)

-- and for a group
pub room_for_group : (room steps left size : ℕ) (result : Option ℕ) → room ≡ left + steps → MatchOption result (left < size) (λ last. left ≡ last + size)
    → MatchOption result (room < steps + size) (λ last. room ≡ last + (steps + size))
room_for_group room steps left size None is h = omega (arith, is, h)
room_for_group room steps left size (Some last) is h = omega (arith, is, h)

-- ---- fields

pub only_name : (k : TokenKind) → (k ≡ kind.Name) ⊎ (k ≡ kind.Quoted) → k ≢ kind.Quoted → k ≡ kind.Name
only_name k (inl name) other = name
only_name k (inr quoted) other = absurd (other quoted)
