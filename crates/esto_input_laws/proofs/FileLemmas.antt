-- The rows of a JSON file stand in one finite list.
use Rattle.std.proofs.Common.{◌≡◌, ℕ, ◌<◌, ◌⊎◌, inl, inr, List, [], ◌∷◌, ◌++◌, length, Option, Some, None, Ok, Err, refl, sym, ap, subst, ◌∙◌, arith}
use Rattle.std.specs.Prelude.{◌↔◌, Contains, flat_map}
use Rattle.std.proofs.lemmas.Bool.{cases_eq}
use Rattle.std.proofs.lemmas.List.Elements.{Contains-append_left, Contains-append_right}
use Rattle.std.proofs.lemmas.Option.{get_or_from_slice_get, slice_get_within}
use Rattle.esto_term.proofs.ChoiceLemmas.{Decided, decided_as, decided_both, decided_either, decided_in, kept}
use Rattle.esto_term.proofs.FiniteLemmas.{Contains-lists_within}
use Rattle.esto_term.proofs.ListLemmas.{Contains-head, Contains-flat, place-from_Contains}
use Rattle.esto_term.specs.Finite.{lists_within}
use Rattle.esto_term.specs.declared.term.Term.{Term}
use Rattle.esto_term.specs.declared.term.Term.TheVariants.{Const, Plain}
use Rattle.esto_semantics.proofs.TermLemmas.{Const-same, decided_term}
use Rattle.esto_docmodel.specs.Forests.{Label, name, place, Forest, none, kid, Node, node, HasKid, HasInside}
use Rattle.esto_docmodel.specs.Layouts.{IsLayout}
use Rattle.esto_docmodel.specs.Patterns.{Entries, done, holds, group, Takes, Leads, HoldsTerm, Matches, Mentions}
use Rattle.esto_docmodel.specs.Shapes.{shape}
use Rattle.esto_docmodel.specs.declared.pattern.Step.{Step}
use Rattle.esto_docmodel.specs.declared.pattern.Step.TheVariants as step
use Rattle.esto_docmodel.specs.declared.tree.Tree.{Tree}
use Rattle.esto_docmodel.specs.Stores.{IsShapeFor}
use Rattle.esto_docmodel.specs.declared.file.Shape.{Shape}
use Rattle.esto_docmodel.specs.declared.file.Shape.TheVariants.{Table, Documents, Keys}
use Rattle.esto_docmodel.specs.Shapes.{entries_of}
use Rattle.esto_docs.specs.Files.{file_trees, trees_fault}
use Rattle.esto_query.specs.declared.query.Query.{Query}
use Rattle.esto_docs.proofs.StoreLemmas.{documents_give}
use Rattle.esto_docs.specs.Stores.{IsRowIn, first_fault_in}
use Rattle.esto_stores.specs.Keys.{key_rows, key_fault}
use Rattle.esto_stores.specs.Table.{table_rows, table_fault}
use Rattle.esto_docs.proofs.RowLemmas.{text_column, once_mentioned}
use Rattle.esto_docs.specs.Rows.{Row, text_in, row_map, IsRowOf, GivesRows}
use Rattle.esto_ports.specs.FileFaults.{Gives}
use Rattle.esto_ports.specs.declared.file_fault.FileError.TheVariants.{Fault}
use Rattle.esto_ports.specs.declared.file_fault.FileFault.{FileFault}
use Rattle.esto_input_laws.specs.Totality.{HasOneOf}
use Rattle.esto_term.proofs.DecisionLemmas.{same_bytes}

-- ---- a value that is there whatever the fault

pub value_or_fault : {A : Type 0} (value : A) (fault : Option FileFault)
    → HasOneOf (λ (answer : A). Gives value fault (Ok answer)) (λ found. Gives value fault (Err (Fault found)))
value_or_fault value None = inl (value, (refl, refl))
value_or_fault value (Some found) = inr (found, refl)

-- exactly the rows of a list
given : (rows : List Row) (fault : Option FileFault)
    → HasOneOf (λ (answer : List Row). GivesRows (Contains rows) fault (Ok answer)) (λ found. GivesRows (Contains rows) fault (Err (Fault found)))
given rows None = inl (rows, (refl, λ row. (λ inside. inside, λ inside. inside)))
given rows (Some found) = inr (found, refl)

-- ---- whether entries are matched

same_label : (label other : Label) → Decided (label ≡ other)
same_label (name k) (name j) = decided_as (λ e. ap name e, λ e. cc) (same_bytes k j)
same_label (name k) place = inr (λ e. cc)
same_label place (name k) = inr (λ e. cc)
same_label place place = inl refl

module _ (Q : Node → Type 0) (decide : (found : Node) → Decided (Q found)) where
  kid_decided : (label : Label) (forest : Forest) → Decided ((next : Node) × HasKid forest label next × Q next)
  kid_decided label none = inr (λ (next, has, q). has)
  kid_decided label (kid first content inside rest) =
      decided_as (to, from) (decided_either (decided_both (same_label first label) (decide (node content inside))) (kid_decided label rest))
    where
      to : (((first ≡ label) × Q (node content inside)) ⊎ ((next : Node) × HasKid rest label next × Q next))
          → (next : Node) × HasKid (kid first content inside rest) label next × Q next
      to (inl (is, q)) = (node content inside, inl (is, refl), q)
      to (inr (next, has, q)) = (next, inr has, q)

      from : ((next : Node) × HasKid (kid first content inside rest) label next × Q next)
          → ((first ≡ label) × Q (node content inside)) ⊎ ((next : Node) × HasKid rest label next × Q next)
      from (next, inl (is, same), q) = inl (is, subst Q (sym same) q)
      from (next, inr has, q) = inr (next, has, q)

  inside_decided : (forest : Forest) → Decided ((next : Node) × HasInside forest next × Q next)
  inside_decided none = inr (λ (next, has, q). has)
  inside_decided (kid first content inside rest) =
      decided_as (to, from) (decided_either (decide (node content inside)) (decided_either (inside_decided inside) (inside_decided rest)))
    where
      to : (Q (node content inside) ⊎ (((next : Node) × HasInside inside next × Q next) ⊎ ((next : Node) × HasInside rest next × Q next)))
          → (next : Node) × HasInside (kid first content inside rest) next × Q next
      to (inl q) = (node content inside, inl refl, q)
      to (inr (inl (next, has, q))) = (next, inr (inl has), q)
      to (inr (inr (next, has, q))) = (next, inr (inr has), q)

      from : ((next : Node) × HasInside (kid first content inside rest) next × Q next)
          → Q (node content inside) ⊎ (((next : Node) × HasInside inside next × Q next) ⊎ ((next : Node) × HasInside rest next × Q next))
      from (next, inl same, q) = inl (subst Q (sym same) q)
      from (next, inr (inl has), q) = inr (inl (next, has, q))
      from (next, inr (inr has), q) = inr (inr (next, has, q))

  taken : (s : Step) (start : Node) → Decided ((next : Node) × Takes s start next × Q next)
  taken (step.Name k) start = kid_decided (name k) start.inside
  taken step.Item start = kid_decided place start.inside
  taken step.Below start = inside_decided start.inside

reached : (Q : Node → Type 0) → ((found : Node) → Decided (Q found)) → (path : List Step) (start : Node)
    → Decided ((found : Node) × Leads path start found × Q found)
reached Q decide [] start = decided_as (λ q. (start, refl, q), λ (found, is, q). subst Q (sym is) q) (decide start)
reached Q decide (s ∷ path) start = decided_as
    (λ (next, takes, (found, leads, q)). (found, (next, takes, leads), q), λ (found, (next, takes, leads), q). (next, takes, (found, leads, q)))
    (taken (λ next. (found : Node) × Leads path next found × Q found) (λ next. reached Q decide path next) s start)

held : (content : Option (List ℕ)) (term : Term) → Decided ((text : List ℕ) × (content ≡ Some text) × (term ≡ Const text))
held None term = inr (λ (text, some, is). cc)
held (Some text) term = decided_as
    (λ is. (text, refl, is), λ (other, some, is). let same : other ≡ text = cc in subst (λ (t : List ℕ). term ≡ Const t) same is)
    (decided_term term (Const text))

matched : (m : Term → Term) (entries : Entries) (start : Node) → Decided (Matches m entries start)
matched m done start = inl tt
matched m (holds path term rest) start =
    decided_both (reached (λ found. HoldsTerm found (m term)) (λ found. held found.content (m term)) path start) (matched m rest start)
matched m (group path inner rest) start =
    decided_both (reached (λ found. Matches m inner found) (λ found. matched m inner found) path start) (matched m rest start)

-- ---- the texts that stand in a node

abbrev texts_of : Option (List ℕ) → List (List ℕ)
texts_of None = []
texts_of (Some text) = text ∷ []

abbrev forest_texts : Forest → List (List ℕ)
forest_texts none = []
forest_texts (kid label content inside rest) = (texts_of content ++ forest_texts inside) ++ forest_texts rest

abbrev node_texts : Node → List (List ℕ)
node_texts it = texts_of it.content ++ forest_texts it.inside

module _ (text : List ℕ) where
  kid_texts : (forest : Forest) (label : Label) (found : Node) → HasKid forest label found → Contains (node_texts found) text
      → Contains (forest_texts forest) text
  kid_texts none label found has inside = absurd has
  kid_texts (kid first content below rest) label found (inl (is, same)) inside =
      Contains-append_left (texts_of content ++ forest_texts below) (forest_texts rest) text
      (subst (λ (it : Node). Contains (texts_of it.content ++ forest_texts it.inside) text) (sym same) inside)
  kid_texts (kid first content below rest) label found (inr has) inside =
      Contains-append_right (texts_of content ++ forest_texts below) (forest_texts rest) text (kid_texts rest label found has inside)

  inside_texts : (forest : Forest) (found : Node) → HasInside forest found → Contains (node_texts found) text → Contains (forest_texts forest) text
  inside_texts none found has inside = absurd has
  inside_texts (kid first content below rest) found (inl same) inside =
      Contains-append_left (texts_of content ++ forest_texts below) (forest_texts rest) text
      (subst (λ (it : Node). Contains (texts_of it.content ++ forest_texts it.inside) text) (sym same) inside)
  inside_texts (kid first content below rest) found (inr (inl has)) inside =
      Contains-append_left (texts_of content ++ forest_texts below) (forest_texts rest) text
      (Contains-append_right (texts_of content) (forest_texts below) text (inside_texts below found has inside))
  inside_texts (kid first content below rest) found (inr (inr has)) inside =
      Contains-append_right (texts_of content ++ forest_texts below) (forest_texts rest) text (inside_texts rest found has inside)

  step_texts : (s : Step) (start found : Node) → Takes s start found → Contains (node_texts found) text → Contains (node_texts start) text
  step_texts (step.Name k) start found takes inside =
      Contains-append_right (texts_of start.content) (forest_texts start.inside) text (kid_texts start.inside (name k) found takes inside)
  step_texts step.Item start found takes inside =
      Contains-append_right (texts_of start.content) (forest_texts start.inside) text (kid_texts start.inside place found takes inside)
  step_texts step.Below start found takes inside =
      Contains-append_right (texts_of start.content) (forest_texts start.inside) text (inside_texts start.inside found takes inside)

  path_texts : (path : List Step) (start found : Node) → Leads path start found → Contains (node_texts found) text → Contains (node_texts start) text
  path_texts [] start found is inside = subst (λ (it : Node). Contains (node_texts it) text) (sym is) inside
  path_texts (s ∷ path) start found (next, takes, leads) inside = step_texts s start next takes (path_texts path next found leads inside)

  own_text : (it : Node) → it.content ≡ Some text → Contains (node_texts it) text
  own_text it is =
      Contains-append_left (texts_of it.content) (forest_texts it.inside) text
      (subst (λ (content : Option (List ℕ)). Contains (texts_of content) text) (sym is) (Contains-head text []))

-- what stands after `:` in entries that are matched is a text in the node
mentioned_text : (m : Term → Term) (entries : Entries) (start : Node) (term : Term) → Matches m entries start → Mentions entries term
    → (text : List ℕ) × (m term ≡ Const text) × Contains (node_texts start) text
mentioned_text m done start term matches mentioned = absurd mentioned
mentioned_text m (holds path first rest) start term ((found, leads, (text, content, is)), more) (inl same) =
    (text, subst (λ (t : Term). m t ≡ Const text) same is, path_texts text path start found leads (own_text text found content))
mentioned_text m (holds path first rest) start term (here, more) (inr later) = mentioned_text m rest start term more later
mentioned_text m (group path inner rest) start term ((found, leads, inside), more) (inl within) =
    let (text, is, has) = mentioned_text m inner found term inside within in (text, is, path_texts text path start found leads has)
mentioned_text m (group path inner rest) start term (here, more) (inr later) = mentioned_text m rest start term more later

-- ---- rows

module _ (columns : ℕ) (entries : Entries) (trees : List Tree) where
  is_row : (row : Row) → Decided (IsRowOf columns entries trees row)
  is_row row = decided_both (cases_eq (length row) columns)
      (decided_in (λ tree. Matches (row_map row) entries (shape tree)) (λ tree. matched (row_map row) entries (shape tree)) trees)

  abbrev all_texts : List (List ℕ)
  all_texts = flat_map (λ tree. node_texts (shape tree)) trees

  module _ (layout : IsLayout columns entries) where
    cell_is_text : (row : Row) → IsRowOf columns entries trees row → (cell : List ℕ) → Contains row cell → Contains all_texts cell
    cell_is_text row (size, (tree, among, matches)) cell inside =
        let (column, at) = place-from_Contains row cell inside in
        let below : column < columns = omega (arith, slice_get_within row column cell at, size) in
        let (text, is, has) = mentioned_text (row_map row) entries (shape tree) (Plain column) matches
        (once_mentioned entries (Plain column) (layout.once column below)) in
        let same : text ≡ cell = sym (Const-same (text_in row (Plain column)) text is) ∙ text_column row column
        ∙ get_or_from_slice_get row column cell [] at in
        subst (Contains (flat_map (λ tree. node_texts (shape tree)) trees)) same
        (Contains-flat (λ tree. node_texts (shape tree)) trees tree text among has)

    pub all_rows : (rows : List Row) × ((row : Row) → Contains rows row ↔ IsRowOf columns entries trees row)
    all_rows =
        let (rows, are) = kept (IsRowOf columns entries trees) (lists_within all_texts columns) (λ row inside. is_row row) in (
          rows,
          λ row. (
            λ inside. ((are row).0 inside).1,
            λ is. (are row).1
                (Contains-lists_within all_texts row columns (omega (arith, is.0)) (λ cell inside. cell_is_text row is cell inside), is),
          ),
        )

pub rows_or_fault : (columns : ℕ) (entries : Entries) (trees : List Tree) (fault : Option FileFault) → IsLayout columns entries
    → HasOneOf (λ (rows : List Row). GivesRows (IsRowOf columns entries trees) fault (Ok rows))
    (λ found. GivesRows (IsRowOf columns entries trees) fault (Err (Fault found)))
rows_or_fault columns entries trees None layout = let (rows, are) = all_rows columns entries trees layout in inl (rows, (refl, are))
rows_or_fault columns entries trees (Some found) layout = inr (found, refl)

-- ---- the files of fragments

pub stored_or_fault : (shape : Shape) (view : Query) (bytes : List ℕ) → IsShapeFor shape view
    → HasOneOf (λ (rows : List Row). GivesRows (IsRowIn shape bytes) (first_fault_in shape (length view.head) bytes) (Ok rows))
    (λ found. GivesRows (IsRowIn shape bytes) (first_fault_in shape (length view.head) bytes) (Err (Fault found)))
stored_or_fault (Table columns) view bytes fit = given (table_rows columns bytes) (table_fault columns bytes)
stored_or_fault Keys view bytes fit = given (key_rows bytes) (key_fault (length view.head) bytes)
stored_or_fault (Documents layout pattern) view bytes fit =
    elim (rows_or_fault (length view.head) (entries_of pattern.entries) (file_trees layout bytes) (trees_fault layout bytes) fit) [
      | inl (rows, are) ↦ inl (rows, documents_give (length view.head) layout pattern bytes (Ok rows) fit are)
      | inr (fault, is) ↦ inr (fault, is)
    ]
