-- The loops of the encodings, a turn at a time.
use Rattle.std.proofs.Common.{◌≡◌, true, false, filter, ℕ, suc, ◌+◌, ◌<◌, ◌≤◌, List, [], ◌∷◌, ◌++◌, map, drop, length, get_or, Option, Some, None, refl, sym}
use Rattle.std.proofs.Common.{ap, ◌∙◌, subst, arith, append_assoc}
use Rattle.std.proofs.lemmas.List.{append-nil, drop_all, map-append}
use Rattle.std.proofs.lemmas.List.Elements.{filter-append}
use Rattle.std.proofs.lemmas.Option.{slice_get-get_or}
use Rattle.std.proofs.lemmas.Result.{IfOk-weaker, on_ok_weaker}
use Rattle.std.specs.Prelude.{Result, IfOk, OnOk}
use Rattle.esto_term.specs.declared.term.Term.{Term}
use Rattle.esto_term.specs.declared.term.Term.TheVariants.{Const, Plain, outs-Const}
use Rattle.esto_term.proofs.PlaceLemmas.{drop-item, drop-there}
use Rattle.esto_semantics.specs.declared.fact.Fact.{Fact}
use Rattle.esto_docmodel.specs.DocumentFacts.{DocFact, root, field, item, value, below, flat}
use Rattle.esto_docmodel.specs.Encodings.{size, entering, belows, holding, facts_from, every, has_any, has_term, has_text, is_among_kind, is_kept, kept}
use Rattle.esto_docmodel.specs.Encodings.{kept_of, end, step_atoms, atoms, used}
use Rattle.esto_docmodel.specs.Patterns.{done, group}
use Rattle.esto_docmodel.specs.Forests.{Label, name, place, Forest, none, kid, Node, node}
use Rattle.esto_docmodel.specs.Gaining.{fact_over}
use Rattle.esto_docmodel.specs.Putting.{turned, node_facts}
use Rattle.esto_docmodel.specs.Rising.{IsRising, AreRising, AreInside}
use Rattle.esto_docmodel.specs.Shapes.{shape, row, named_row, shaped_field, documents, entry_shape, entries_of}
use Rattle.esto_docmodel.specs.declared.field.FieldOf.{FieldOf}
use Rattle.esto_docmodel.specs.declared.tree.Tree.{Tree}
use Rattle.esto_docmodel.specs.declared.tree.Tree.TheVariants.{Value, Nothing, Fields, Items}
use Rattle.esto_docmodel.proofs.ShapeLemmas.{shape-Value, shape-Nothing, shape-Fields, shape-Items, entry-Value, entry-Group}
use Rattle.esto_docmodel.specs.declared.kept.Kept.{Kept}
use Rattle.esto_docmodel.specs.declared.kept.KeptTexts.{KeptTexts}
use Rattle.esto_docmodel.specs.declared.kept.KeptTexts.TheVariants.{Every, These}
use Rattle.esto_docmodel.specs.declared.pattern.Step.{Step}
use Rattle.esto_docmodel.specs.declared.pattern.Entry.{Entry}
use Rattle.esto_docmodel.specs.declared.pattern.Entry.TheVariants as entry

-- ---- the nodes above

pub turned_last : (xs : List ℕ) (n : ℕ) → turned (xs ++ n ∷ []) ≡ n ∷ turned xs
turned_last [] n = refl
turned_last (x ∷ xs) n = ap (λ (w : List ℕ). w ++ x ∷ []) (turned_last xs n)

belows_last : (ys : List ℕ) (x n : ℕ) → belows (ys ++ x ∷ []) n ≡ below (Plain x) (Plain n) ∷ belows ys n
belows_last [] x n = refl
belows_last (y ∷ ys) x n = ap (λ (w : List (DocFact Term)). w ++ below (Plain y) (Plain n) ∷ []) (belows_last ys x n)

-- the fact of the first of the nodes above that are left, and those of the others
pub below_rest : (base n : ℕ) (xs : List ℕ) (i : ℕ) → i < length xs
    → map (flat base) (belows (turned (drop i xs)) n)
    ≡ (fact_over (base + 4) (Plain (get_or xs i 0) ∷ Plain n ∷ []) ∷ []) ++ map (flat base) (belows (turned (drop (i + 1) xs)) n)
below_rest base n xs i within =
    ap (λ (w : List ℕ). map (flat base) (belows (turned w) n)) (drop-there xs i (get_or xs i 0) (slice_get-get_or xs i 0 within))
    ∙ ap (λ (w : List (DocFact Term)). map (flat base) w) (belows_last (turned (drop (i + 1) xs)) (get_or xs i 0) n)

-- ---- the facts that are kept

pub kept-append : (relations : Kept) (one two : List (DocFact Term)) → kept relations (one ++ two) ≡ kept relations one ++ kept relations two
kept-append relations one two = ap (map (flat relations.base)) (filter-append (is_kept relations) one two)
    ∙ map-append (flat relations.base) (filter (is_kept relations) one) (filter (is_kept relations) two)

pub kept_one : (relations : Kept) (fact : DocFact Term) → is_kept relations fact ≡ true → kept relations (fact ∷ []) ≡ flat relations.base fact ∷ []
kept_one relations fact is = rw is refl

pub kept_none : (relations : Kept) (fact : DocFact Term) → is_kept relations fact ≡ false → kept relations (fact ∷ []) ≡ []
kept_none relations fact is = rw is refl

-- a constant's text tells whether facts of it are kept
pub has_constant : (texts : KeptTexts) (text : List ℕ) → has_term texts (Const text) ≡ has_text texts text
has_constant Every text = refl
has_constant (These texts) text = ap (is_among_kind texts) (outs-Const text)

-- where facts of no text are kept, none is kept of what a node holds
pub none_held : (relations : Kept) (text : Option (List ℕ)) (n : ℕ) → has_any relations.value ≡ false → kept relations (holding text n) ≡ []
none_held relations None n lacks = refl
none_held relations (Some text) n lacks =
    kept_none relations (value (Plain n) (Const text)) (has_constant relations.value text ∙ has_none relations.value lacks) where
      has_none : (texts : KeptTexts) → has_any texts ≡ false → has_text texts text ≡ false
      has_none Every e = cc e
      has_none (These []) e = refl
      has_none (These (own ∷ more)) e = cc e

pub belows_all : (relations : Kept) (above : List ℕ) (n : ℕ) → relations.below ≡ true
    → kept relations (belows above n) ≡ map (flat relations.base) (belows above n)
belows_all relations [] n is = refl
belows_all relations (parent ∷ above) n is =
    kept-append relations (belows above n) (below (Plain parent) (Plain n) ∷ [])
    ∙ ap (λ (w : List (Fact Term)). w ++ kept relations (below (Plain parent) (Plain n) ∷ [])) (belows_all relations above n is)
    ∙ ap (λ (w : List (Fact Term)). map (flat relations.base) (belows above n) ++ w) (kept_one relations (below (Plain parent) (Plain n)) is)
    ∙ sym (map-append (flat relations.base) (belows above n) (below (Plain parent) (Plain n) ∷ []))

pub belows_none : (relations : Kept) (above : List ℕ) (n : ℕ) → relations.below ≡ false → kept relations (belows above n) ≡ []
belows_none relations [] n is = refl
belows_none relations (parent ∷ above) n is =
    kept-append relations (belows above n) (below (Plain parent) (Plain n) ∷ [])
    ∙ ap (λ (w : List (Fact Term)). w ++ kept relations (below (Plain parent) (Plain n) ∷ [])) (belows_none relations above n is)
    ∙ kept_none relations (below (Plain parent) (Plain n)) is

-- where all five relations are kept, each fact is
abbrev pub AreAllKept : Kept → Type 0
AreAllKept relations = (fact : DocFact Term) → is_kept relations fact ≡ true

pub all_kept : (relations : Kept) → AreAllKept relations → (facts : List (DocFact Term)) → kept relations facts ≡ map (flat relations.base) facts
all_kept relations each [] = refl
all_kept relations each (fact ∷ facts) = rw (each fact) (ap (λ (w : List (Fact Term)). flat relations.base fact ∷ w) (all_kept relations each facts))

pub every_kept : (base : ℕ) → AreAllKept (every base)
every_kept base (root n) = refl
every_kept base (field p k n) = refl
every_kept base (item p n) = refl
every_kept base (value n t) = refl
every_kept base (below a n) = refl

-- ---- a node

-- a node's facts and those of the nodes after it
pub kid_facts : (relations : Kept) (a : List ℕ) (n : ℕ) (l : Label) (t : Node) (rest : Forest)
    → kept relations (entering a l n ∷ []) ++ (kept relations (node_facts a n t) ++ kept relations (facts_from a (suc n + size t.inside) rest))
    ≡ kept relations (facts_from a n (kid l t.content t.inside rest))
kid_facts relations a n l t rest =
    ap (λ (w : List (Fact Term)). kept relations (entering a l n ∷ []) ++ w)
    (sym (kept-append relations (node_facts a n t) (facts_from a (suc n + size t.inside) rest))
    ∙ ap (kept relations) (append_assoc (belows a n) _ _ ∙ ap (λ (w : List (DocFact Term)). belows a n ++ w) (append_assoc (holding t.content n) _ _)))
    ∙ sym (kept-append relations (entering a l n ∷ []) _)

pub kid_count : (n all : ℕ) (t : Node) (rest : Forest) (l : Label) → n + size (kid l t.content t.inside rest) ≡ all → (suc n + size t.inside) + size rest ≡ all
kid_count n all t rest l known = omega (arith, known)

-- the facts of a node, kind by kind, after those of the nodes above
module _ (relations : Kept) (n : ℕ) (above : List ℕ) where
  pub node_rest : (t : Node)
      → kept relations (belows (turned above) n) ++ kept relations (holding t.content n ++ facts_from (n ∷ turned above) (suc n) t.inside)
      ≡ kept relations (node_facts (turned above) n t)
  node_rest t = sym (kept-append relations (belows (turned above) n) (holding t.content n ++ facts_from (n ∷ turned above) (suc n) t.inside))

  pub value_facts : (tree : Tree) (text said : List ℕ) → tree ≡ Value text → said ≡ text
      → kept relations (belows (turned above) n) ++ kept relations (value (Plain n) (Const said) ∷ [])
      ≡ kept relations (node_facts (turned above) n (shape tree))
  value_facts tree text said is copied = rw (is, shape-Value text)
      (ap (λ (w : List ℕ). kept relations (belows (turned above) n) ++ kept relations (value (Plain n) (Const w) ∷ [])) copied
      ∙ node_rest (node (Some text) none))

  pub nothing_facts : (tree : Tree) → tree ≡ Nothing → kept relations (belows (turned above) n) ≡ kept relations (node_facts (turned above) n (shape tree))
  nothing_facts tree is = rw (is, shape-Nothing) (sym (append-nil (kept relations (belows (turned above) n))) ∙ node_rest (node None none))

  pub fields_facts : (tree : Tree) (fields : List (FieldOf Tree)) (first : ℕ) → tree ≡ Fields fields → first ≡ suc n
      → kept relations (belows (turned above) n) ++ kept relations (facts_from (n ∷ turned above) first (named_row (map shaped_field fields)))
      ≡ kept relations (node_facts (turned above) n (shape tree))
  fields_facts tree fields first is numbered = rw (is, shape-Fields fields)
      (ap (λ (k : ℕ). kept relations (belows (turned above) n) ++ kept relations (facts_from (n ∷ turned above) k (named_row (map shaped_field fields))))
      numbered ∙ node_rest (node None (named_row (map shaped_field fields))))

  pub items_facts : (tree : Tree) (items : List Tree) (first : ℕ) → tree ≡ Items items → first ≡ suc n
      → kept relations (belows (turned above) n) ++ kept relations (facts_from (n ∷ turned above) first (row (map shape items)))
      ≡ kept relations (node_facts (turned above) n (shape tree))
  items_facts tree items first is numbered = rw (is, shape-Items items)
      (ap (λ (k : ℕ). kept relations (belows (turned above) n) ++ kept relations (facts_from (n ∷ turned above) k (row (map shape items)))) numbered
      ∙ node_rest (node None (row (map shape items))))

-- the facts of a document
pub document_facts : (relations : Kept) (n : ℕ) (tree : Tree)
    → kept relations (root (Plain n) ∷ []) ++ kept relations (node_facts [] n (shape tree)) ≡ kept_of relations n (documents (tree ∷ []))
document_facts relations n tree =
    ap (λ (w : List (Fact Term)). kept relations (root (Plain n) ∷ []) ++ w) (sym (append-nil (kept relations (node_facts [] n (shape tree)))))
    ∙ kid_facts relations [] n place (shape tree) none

-- ---- documents one after another

pub row_append : (trees more : List Tree) (n : ℕ) → facts_from [] n (documents (trees ++ more))
    ≡ facts_from [] n (documents trees) ++ facts_from [] (n + size (documents trees)) (documents more)
row_append [] more n = ap (λ (k : ℕ). facts_from [] k (documents more)) (omega arith)
row_append (tree ∷ trees) more n =
    let own = shape tree in
    let far : suc n + size own.inside + size (documents trees) ≡ n + size (documents (tree ∷ trees)) = omega arith in
    ap (λ (w : List (DocFact Term)). root (Plain n) ∷ (holding own.content n ++ (facts_from (n ∷ []) (suc n) own.inside ++ w)))
    (row_append trees more (suc n + size own.inside)
    ∙ ap (λ (k : ℕ). facts_from [] (suc n + size own.inside) (documents trees) ++ facts_from [] k (documents more)) far)
    ∙ sym (ap (λ (w : List (DocFact Term)). root (Plain n) ∷ w) (append_assoc (holding own.content n) _ _
    ∙ ap (λ (w : List (DocFact Term)). holding own.content n ++ w) (append_assoc (facts_from (n ∷ []) (suc n) own.inside) _ _)))

pub size_append : (trees more : List Tree) → size (documents (trees ++ more)) ≡ size (documents trees) + size (documents more)
size_append [] more = omega arith
size_append (tree ∷ trees) more = let rest = size_append trees more in omega (arith, rest)

pub rising_append : (trees more : List Tree) → AreRising trees → AreRising more → AreRising (trees ++ more)
rising_append [] more one other = other
rising_append (tree ∷ []) [] one other = one
rising_append (tree ∷ []) (next ∷ more) one other = (tt, (one.1.0, other))
rising_append (tree ∷ next ∷ trees) more one other = (tt, (one.1.0, rising_append (next ∷ trees) more one.1.1 other))

-- what stands inside a tree, kind by kind
inside_of : (tree other : Tree) (it : Node) → tree ≡ other → shape other ≡ it → (shape tree).inside ≡ it.inside
inside_of tree other it is shaped = ap (λ (t : Tree). (shape t).inside) is ∙ ap (λ (m : Node). m.inside) shaped

pub value_inside : (tree : Tree) (text : List ℕ) → tree ≡ Value text → (shape tree).inside ≡ none
value_inside tree text is = inside_of tree (Value text) (node (Some text) none) is (shape-Value text)

pub nothing_inside : (tree : Tree) → tree ≡ Nothing → (shape tree).inside ≡ none
nothing_inside tree is = inside_of tree Nothing (node None none) is shape-Nothing

pub fields_inside : (tree : Tree) (fields : List (FieldOf Tree)) → tree ≡ Fields fields → (shape tree).inside ≡ named_row (map shaped_field fields)
fields_inside tree fields is = inside_of tree (Fields fields) (node None (named_row (map shaped_field fields))) is (shape-Fields fields)

pub items_inside : (tree : Tree) (items : List Tree) → tree ≡ Items items → (shape tree).inside ≡ row (map shape items)
items_inside tree items is = inside_of tree (Items items) (node None (row (map shape items))) is (shape-Items items)

module _ (inside : Forest) where
  pub leaf_next : (n next : ℕ) → inside ≡ none → next ≡ suc n → next ≡ suc n + size inside
  leaf_next n next none_inside numbered = omega (arith, numbered, ap size none_inside)

  pub leaf_rising : inside ≡ none → IsRising inside
  leaf_rising none_inside = subst IsRising (sym none_inside) tt

  module _ {E : Type 0} (answer : Result ℕ E) (forest : Forest) (same : inside ≡ forest) where
    pub row_next : (n first : ℕ) → first ≡ suc n → IfOk answer (λ next. next ≡ first + size forest) → IfOk answer (λ next. next ≡ suc n + size inside)
    row_next n first numbered =
        IfOk-weaker answer (λ next. next ≡ first + size forest) (λ next. next ≡ suc n + size inside)
        (λ next told. omega (arith, told, numbered, ap size same))

    pub row_rising : OnOk answer (IsRising forest) → OnOk answer (IsRising inside)
    row_rising = on_ok_weaker answer (λ rising. subst IsRising (sym same) rising)

-- what is put for an entry, kind by kind, when its path is put
module _ (base v next : ℕ) (path : List Step) (start put : List (Fact Term)) (last later : ℕ)
    (stepped : put ≡ start ++ map (flat base) (step_atoms path v next)) (numbers : ◌≡◌ {A = ℕ × ℕ} (last, later) (end path v next, next + length path)) where
  path_then : (more : List (DocFact Term)) → put ++ map (flat base) more ≡ start ++ map (flat base) (step_atoms path v next ++ more)
  path_then more = rw stepped (append_assoc start _ _
      ∙ ap (λ (w : List (Fact Term)). start ++ w) (sym (map-append (flat base) (step_atoms path v next) more)))

  pub value_entry_put : (it : Entry) (term said : Term) (now : List (Fact Term)) → it ≡ entry.Value path term → said ≡ term
      → now ≡ put ++ fact_over (base + 3) (Plain last ∷ said ∷ []) ∷ [] → now ≡ start ++ map (flat base) (atoms (entry_shape it done) v next)
  value_entry_put it term said now is copied more = rw (is, entry-Value path term done) (more
      ∙ ap (λ (w : Term). put ++ fact_over (base + 3) (Plain last ∷ w ∷ []) ∷ []) copied
      ∙ ap (λ (w : ℕ × ℕ). put ++ fact_over (base + 3) (Plain w.0 ∷ term ∷ []) ∷ []) numbers
      ∙ path_then (value (Plain (end path v next)) term ∷ []))

  pub group_entry_put : (it : Entry) (inner : List Entry) (now : List (Fact Term)) → it ≡ entry.Group path inner
      → now ≡ put ++ map (flat base) (atoms (entries_of inner) last later) → now ≡ start ++ map (flat base) (atoms (entry_shape it done) v next)
  group_entry_put it inner now is more = rw (is, entry-Group path inner done) (more
      ∙ ap (λ (w : ℕ × ℕ). put ++ map (flat base) (atoms (entries_of inner) w.0 w.1)) numbers
      ∙ ap (λ (w : List (DocFact Term)). put ++ map (flat base) w) (sym (append-nil (atoms (entries_of inner) (end path v next) (next + length path))))
      ∙ path_then (atoms (entries_of inner) (end path v next) (next + length path) ++ []))

-- the next variable after an entry, kind by kind, when its path is put
module _ (v next : ℕ) (path : List Step) (last later : ℕ) (numbers : ◌≡◌ {A = ℕ × ℕ} (last, later) (end path v next, next + length path)) where
  pub value_entry_next : (it : Entry) (term : Term) → it ≡ entry.Value path term → later ≡ next + used (entry_shape it done)
  value_entry_next it term is = rw (is, entry-Value path term done) (omega (arith, ap (λ (w : ℕ × ℕ). w.1) numbers))

  pub group_entry_next : {E : Type 0} (answer : Result ℕ E) (it : Entry) (inner : List Entry) → it ≡ entry.Group path inner
      → IfOk answer (λ n. n ≡ later + used (entries_of inner)) → IfOk answer (λ n. n ≡ next + used (entry_shape it done))
  group_entry_next answer it inner is = rw (is, entry-Group path inner done) (IfOk-weaker answer (λ n. n ≡ later + used (entries_of inner))
      (λ n. n ≡ next + used (group path (entries_of inner) done)) (λ n told. omega (arith, told, ap (λ (w : ℕ × ℕ). w.1) numbers)))

-- the facts of the first of the fields or items that are left, and those of the others
module _ (relations : Kept) (number next later : ℕ) (above inner : List ℕ) (is_inner : inner ≡ above ++ number ∷ []) where
  inside_turned : number ∷ turned above ≡ turned inner
  inside_turned = sym (ap turned is_inner ∙ turned_last above number)

  pub first_facts : (l : Label) (t : Node) (rest : Forest) → later ≡ suc next + size t.inside
      → kept relations (facts_from (number ∷ turned above) next (kid l t.content t.inside rest))
      ≡ (kept relations (entering (number ∷ turned above) l next ∷ []) ++ kept relations (node_facts (turned inner) next t))
      ++ kept relations (facts_from (number ∷ turned above) later rest)
  first_facts l t rest numbered =
      sym (kid_facts relations (number ∷ turned above) next l t rest)
      ∙ sym (append_assoc (kept relations (entering (number ∷ turned above) l next ∷ [])) _ _)
      ∙ ap (λ (a : List ℕ). (kept relations (entering (number ∷ turned above) l next ∷ []) ++ kept relations (node_facts a next t))
      ++ kept relations (facts_from (number ∷ turned above) (suc next + size t.inside) rest)) inside_turned
      ∙ ap (λ (k : ℕ). (kept relations (entering (number ∷ turned above) l next ∷ []) ++ kept relations (node_facts (turned inner) next t))
      ++ kept relations (facts_from (number ∷ turned above) k rest)) (sym numbered)

  pub field_rest : (fields : List (FieldOf Tree)) (i : ℕ) (f : FieldOf Tree) → i < length fields → f ≡ get_or fields i f
      → later ≡ suc next + size (shape f.tree).inside
      → kept relations (facts_from (number ∷ turned above) next (named_row (map shaped_field (drop i fields))))
      ≡ (kept relations (field (Plain number) (Const f.name) (Plain next) ∷ []) ++ kept relations (node_facts (turned inner) next (shape f.tree)))
      ++ kept relations (facts_from (number ∷ turned above) later (named_row (map shaped_field (drop (i + 1) fields))))
  field_rest fields i f within is numbered =
      ap (λ (w : List (FieldOf Tree)). kept relations (facts_from (number ∷ turned above) next (named_row (map shaped_field w))))
      (drop-item fields i f within is) ∙ first_facts (name f.name) (shape f.tree) (named_row (map shaped_field (drop (i + 1) fields))) numbered

  pub item_rest : (items : List Tree) (i : ℕ) (t : Tree) → i < length items → t ≡ get_or items i t → later ≡ suc next + size (shape t).inside
      → kept relations (facts_from (number ∷ turned above) next (row (map shape (drop i items))))
      ≡ (kept relations (item (Plain number) (Plain next) ∷ []) ++ kept relations (node_facts (turned inner) next (shape t)))
      ++ kept relations (facts_from (number ∷ turned above) later (row (map shape (drop (i + 1) items))))
  item_rest items i t within is numbered =
      ap (λ (w : List Tree). kept relations (facts_from (number ∷ turned above) next (row (map shape w)))) (drop-item items i t within is)
      ∙ first_facts place (shape t) (row (map shape (drop (i + 1) items))) numbered

pub field_count : (next later all : ℕ) (fields : List (FieldOf Tree)) (i : ℕ) (f : FieldOf Tree) → i < length fields → f ≡ get_or fields i f
    → later ≡ suc next + size (shape f.tree).inside → next + size (named_row (map shaped_field (drop i fields))) ≡ all
    → later + size (named_row (map shaped_field (drop (i + 1) fields))) ≡ all
field_count next later all fields i f within is numbered known =
    rw numbered (kid_count next all (shape f.tree) (named_row (map shaped_field (drop (i + 1) fields))) (name f.name)
    (ap (λ (w : List (FieldOf Tree)). next + size (named_row (map shaped_field w))) (sym (drop-item fields i f within is)) ∙ known))

pub item_count : (next later all : ℕ) (items : List Tree) (i : ℕ) (t : Tree) → i < length items → t ≡ get_or items i t
    → later ≡ suc next + size (shape t).inside → next + size (row (map shape (drop i items))) ≡ all
    → later + size (row (map shape (drop (i + 1) items))) ≡ all
item_count next later all items i t within is numbered known =
    rw numbered (kid_count next all (shape t) (row (map shape (drop (i + 1) items))) place
    (ap (λ (w : List Tree). next + size (row (map shape w))) (sym (drop-item items i t within is)) ∙ known))

-- the fields, or the items, are all counted
pub fields_counted : (next first : ℕ) (items fields : List (FieldOf Tree)) (i : ℕ) → length items ≤ i → items ≡ fields
    → next + size (named_row (map shaped_field (drop i items))) ≡ first + size (named_row (map shaped_field items))
    → next ≡ first + size (named_row (map shaped_field fields))
fields_counted next first items fields i past is known =
    let none : size (named_row (map shaped_field (drop i items))) ≡ 0 =
    ap (λ (w : List (FieldOf Tree)). size (named_row (map shaped_field w))) (drop_all i items past) in
    subst (λ (w : List (FieldOf Tree)). next ≡ first + size (named_row (map shaped_field w))) is (omega (arith, known, none))

pub items_counted : (next first : ℕ) (items : List Tree) (i : ℕ) → length items ≤ i
    → next + size (row (map shape (drop i items))) ≡ first + size (row (map shape items)) → next ≡ first + size (row (map shape items))
items_counted next first items i past known =
    let none : size (row (map shape (drop i items))) ≡ 0 = ap (λ (w : List Tree). size (row (map shape w))) (drop_all i items past) in
    omega (arith, known, none)

-- ---- names that rise

pub field_inside : (fields : List (FieldOf Tree)) (i : ℕ) (f : FieldOf Tree) (W : Type 0) → i < length fields → f ≡ get_or fields i f
    → IsRising (shape f.tree).inside
    → (AreInside (named_row (map shaped_field (drop i fields))) → W) → AreInside (named_row (map shaped_field (drop (i + 1) fields))) → W
field_inside fields i f W within is rising known rest =
    known (subst (λ (w : List (FieldOf Tree)). AreInside (named_row (map shaped_field w))) (sym (drop-item fields i f within is)) (rising, rest))

pub item_inside : (items : List Tree) (i : ℕ) (t : Tree) (W : Type 0) → i < length items → t ≡ get_or items i t → IsRising (shape t).inside
    → (AreInside (row (map shape (drop i items))) → W) → AreInside (row (map shape (drop (i + 1) items))) → W
item_inside items i t W within is rising known rest =
    known (subst (λ (w : List Tree). AreInside (row (map shape w))) (sym (drop-item items i t within is)) (rising, rest))
