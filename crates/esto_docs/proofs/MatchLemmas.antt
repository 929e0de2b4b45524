-- A layout is matched in the document of a row under the maps that agree with the row alone.
use Rattle.std.proofs.Common.{◌≡◌, ◌≢◌, ◌⊎◌, ◌∙◌, ◌∷◌, [], ℕ, List, true, inl, inr, refl, sym, subst}
use Rattle.std.specs.Prelude.{⊤}
use Rattle.esto_term.specs.declared.term.Term.{Term}
use Rattle.esto_term.specs.declared.term.Term.TheVariants.{Const}
use Rattle.serde_json.specs.Data.{Data, string, array, object, no_items, item, Members, put}
use Rattle.esto_docmodel.specs.Forests.{Node}
use Rattle.esto_docmodel.specs.Patterns.{Entries, done, holds, group, Leads, HoldsTerm, Matches}
use Rattle.esto_docmodel.specs.Layouts.{paths, Begins, SomeBegins, AreFields, FitTogether, AreLaidOut}
use Rattle.esto_docmodel.specs.declared.pattern.Step.{Step}
use Rattle.esto_docmodel.specs.declared.pattern.Step.TheVariants.{Name, Item, Below}
use Rattle.esto_docs.specs.Rows.{Row, text_in, row_map}
use Rattle.esto_docs.specs.Documents.{path_data, begins_with_field, first_name, later_steps, begun, document, members}
use Rattle.esto_docs.proofs.FieldLemmas.{node_of, HasField, NoField, put_other_into, put_other_from, put_same_into, put_same_from}
use Rattle.esto_docs.proofs.PathLemmas.{NoneBelow, LeadsTo, object_kid, object_kid_from, array_kid, array_kid_from, led_one, led_only, begins_name, begins_item}
use Rattle.esto_docs.proofs.PathLemmas.{held, holds_string}

-- The field with which the path begins leads to that node alone.
abbrev LeadsOnce : Members → List Step → Node → Type 0
LeadsOnce ms path target = HasField (first_name path) ms target × ((u : Node) → HasField (first_name path) ms u → u ≡ target)

-- Each entry's field leads to what the entry writes.
abbrev AllLead : Row → Members → Entries → Type 0
AllLead row ms done = ⊤
AllLead row ms (holds path term rest) = LeadsOnce ms path (node_of (path_data (later_steps path) (string (text_in row term)))) × AllLead row ms rest
AllLead row ms (group path inner rest) = LeadsOnce ms path (node_of (path_data (later_steps path) (document inner row))) × AllLead row ms rest

-- A path that begins with a field begins with no other.
apart : (path : List Step) (rest : List (List Step)) (k : List ℕ) → AreFields (path ∷ rest) → ¬ (Begins (Name k) path) → first_name path ≢ k
apart path rest k fields n e = n (subst (λ (x : List ℕ). Begins (Name x) path) (sym (begins_name path fields.0.0 fields.0.1).0 ∙ e) fields.0.1)

fresh : (path : List Step) (rest : List (List Step)) → AreFields (path ∷ rest) → ¬ (SomeBegins (Name (first_name path)) rest)
fresh path rest fields = subst (λ (k : List ℕ). ¬ (SomeBegins (Name k) rest)) (sym (begins_name path fields.0.0 fields.0.1).0) fields.0.2

once_put : (k : List ℕ) (d : Data) (ms : Members) (path : List Step) (target : Node) → first_name path ≢ k → LeadsOnce ms path target
    → LeadsOnce (put k d ms) path target
once_put k d ms path target n h = (
  put_other_from (first_name path) k d ms target n h.0,
  λ u there. h.1 u (put_other_into (first_name path) k d ms u n there),
)

once_here : (d : Data) (ms : Members) (path : List Step) → NoField (first_name path) ms → LeadsOnce (put (first_name path) d ms) path (node_of d)
once_here d ms path none = (put_same_from (first_name path) d ms, λ u there. put_same_into (first_name path) d ms u none there)

lead_put : (row : Row) (k : List ℕ) (d : Data) (ms : Members) (es : Entries) → ¬ (SomeBegins (Name k) (paths es)) → AreFields (paths es) → AllLead row ms es
    → AllLead row (put k d ms) es
lead_put row k d ms done free fields h = tt
lead_put row k d ms (holds path term rest) free fields h = (
  once_put k d ms path _ (apart path (paths rest) k fields (λ b. free (inl b))) h.0,
  lead_put row k d ms rest (λ b. free (inr b)) fields.1 h.1,
)
lead_put row k d ms (group path inner rest) free fields h = (
  once_put k d ms path _ (apart path (paths rest) k fields (λ b. free (inl b))) h.0,
  lead_put row k d ms rest (λ b. free (inr b)) fields.1 h.1,
)

no_field : (row : Row) (k : List ℕ) (es : Entries) → ¬ (SomeBegins (Name k) (paths es)) → AreFields (paths es) → NoField k (members es row)
no_field row k done free fields u h = h
no_field row k (holds path term rest) free fields u h =
    no_field row k rest (λ b. free (inr b)) fields.1 u
    (put_other_into k (first_name path) (path_data (later_steps path) (string (text_in row term))) (members rest row) u
    (λ same. apart path (paths rest) k fields (λ b. free (inl b)) (sym same)) h)
no_field row k (group path inner rest) free fields u h =
    no_field row k rest (λ b. free (inr b)) fields.1 u
    (put_other_into k (first_name path) (path_data (later_steps path) (document inner row)) (members rest row) u
    (λ same. apart path (paths rest) k fields (λ b. free (inl b)) (sym same)) h)

all_lead : (row : Row) (es : Entries) → AreFields (paths es) → AllLead row (members es row) es
all_lead row done fields = tt
all_lead row (holds path term rest) fields =
    let free = fresh path (paths rest) fields in
    let d = path_data (later_steps path) (string (text_in row term)) in (
      once_here d (members rest row) path (no_field row (first_name path) rest free fields.1),
      lead_put row (first_name path) d (members rest row) rest free fields.1 (all_lead row rest fields.1),
    )
all_lead row (group path inner rest) fields =
    let free = fresh path (paths rest) fields in
    let d = path_data (later_steps path) (document inner row) in (
      once_here d (members rest row) path (no_field row (first_name path) rest free fields.1),
      lead_put row (first_name path) d (members rest row) rest free fields.1 (all_lead row rest fields.1),
    )

-- The first step of an entry, in an object and in an array.
lead_field : (path : List Step) (ms : Members) (target : Node) → begins_with_field path ≡ true → LeadsOnce ms path target
    → LeadsTo path (node_of (object ms)) target
lead_field [] ms target e h = cc e
lead_field (Name k ∷ path) ms target e h = (object_kid ms k target h.0, λ u kid. h.1 u (object_kid_from ms k u kid))
lead_field (Item ∷ path) ms target e h = cc e
lead_field (Below ∷ path) ms target e h = cc e

lead_item : (path : List Step) (d : Data) → Begins Item path → LeadsTo path (node_of (array (item d no_items))) (node_of d)
lead_item [] d h = absurd h
lead_item (Name k ∷ path) d h = cc h
lead_item (Item ∷ path) d h = (array_kid d, array_kid_from d)
lead_item (Below ∷ path) d h = cc h

-- What stands together in a group is one item, or fields.
pub fit_cases : (path : List Step) (rest : List (List Step)) → FitTogether (path ∷ rest) → (Begins Item path × (rest ≡ [])) ⊎ AreFields (path ∷ rest)
fit_cases path [] (inl h) = inl (h, refl)
fit_cases path (other ∷ rest) (inl h) = absurd h
fit_cases path rest (inr h) = inr h.1

pub as_object : (path : List Step) (first : Data) (rest : Members) → begins_with_field path ≡ true
    → begun path first rest ≡ object (put (first_name path) first rest)
as_object path first rest h = rw h refl

pub as_array : (path : List Step) (first : Data) (rest : Members) → Begins Item path → begun path first rest ≡ array (item first no_items)
as_array path first rest h = rw (begins_item path h) refl

pub no_more : (rest : Entries) → paths rest ≡ [] → rest ≡ done
no_more done e = refl
no_more (holds path term rest) e = cc e
no_more (group path inner rest) e = cc e

-- The map gives each term of the entries its text in the row.
abbrev pub Agrees : (Term → Term) → Row → Entries → Type 0
Agrees m row done = ⊤
Agrees m row (holds path term rest) = (m term ≡ Const (text_in row term)) × Agrees m row rest
Agrees m row (group path inner rest) = Agrees m row inner × Agrees m row rest

-- ---- what a match says

-- Some node at the end of the path holds the term.
abbrev SomeHolds : (Term → Term) → List Step → Term → Node → Type 0
SomeHolds m path term t = (found : Node) × Leads path t found × HoldsTerm found (m term)

-- In some node at the end of the path the entries are matched.
abbrev SomeMatches : (Term → Term) → List Step → Entries → Node → Type 0
SomeMatches m path inner t = (found : Node) × Leads path t found × Matches m inner found

value_into : (m : Term → Term) (row : Row) (path : List Step) (term : Term) (t : Node) → NoneBelow path
    → LeadsTo path t (node_of (path_data (later_steps path) (string (text_in row term)))) → SomeHolds m path term t → m term ≡ Const (text_in row term)
value_into m row path term t none lead (found, leads, here) =
    held (text_in row term) (m term) (subst (λ (n : Node). HoldsTerm n (m term)) (led_only path t (string (text_in row term)) found none lead leads) here)

group_into : (m : Term → Term) (path : List Step) (inner : Entries) (d : Data) (t : Node) → NoneBelow path
    → LeadsTo path t (node_of (path_data (later_steps path) d))
    → SomeMatches m path inner t → Matches m inner (node_of d)
group_into m path inner d t none lead (found, leads, here) = subst (λ (n : Node). Matches m inner n) (led_only path t d found none lead leads) here

mutual
  all_into : (m : Term → Term) (row : Row) (columns : ℕ) (es : Entries) (ms : Members) → AreLaidOut columns es → AreFields (paths es) → AllLead row ms es
      → Matches m es (node_of (object ms)) → Agrees m row es
  all_into m row columns done ms laid fields lead h = tt
  all_into m row columns (holds path term rest) ms laid fields lead h =
      let named = (begins_name path fields.0.0 fields.0.1).1 in (
        value_into m row path term (node_of (object ms)) laid.0 (lead_field path ms _ named lead.0) h.0,
        all_into m row columns rest ms laid.2 fields.1 lead.1 h.1,
      )
  all_into m row columns (group path inner rest) ms laid fields lead h =
      let named = (begins_name path fields.0.0 fields.0.1).1 in (
        document_into m row columns inner laid.2 laid.1
            (group_into m path inner (document inner row) (node_of (object ms)) laid.0 (lead_field path ms _ named lead.0) h.0),
        all_into m row columns rest ms laid.3 fields.1 lead.1 h.1,
      )

  pub document_into : (m : Term → Term) (row : Row) (columns : ℕ) (es : Entries) → AreLaidOut columns es → FitTogether (paths es)
      → Matches m es (node_of (document es row)) → Agrees m row es
  document_into m row columns done laid fit h = tt
  document_into m row columns (holds path term rest) laid fit h =
      let d = path_data (later_steps path) (string (text_in row term)) in
      elim (fit_cases path (paths rest) fit) [
        | inl one ↦
            let g = subst (λ (x : Data). Matches m (holds path term rest) (node_of x)) (as_array path d (members rest row) one.0) h in (
              value_into m row path term (node_of (array (item d no_items))) laid.0 (lead_item path d one.0) g.0,
              subst (λ (x : Entries). Agrees m row x) (sym (no_more rest one.1)) tt,
            )
        | inr fields ↦
            let ms = put (first_name path) d (members rest row) in
            let named = (begins_name path fields.0.0 fields.0.1).1 in
            let lead = all_lead row (holds path term rest) fields in
            let g = subst (λ (x : Data). Matches m (holds path term rest) (node_of x)) (as_object path d (members rest row) named) h in (
              value_into m row path term (node_of (object ms)) laid.0 (lead_field path ms _ named lead.0) g.0,
              all_into m row columns rest ms laid.2 fields.1 lead.1 g.1,
            )
      ]
  document_into m row columns (group path inner rest) laid fit h =
      let d = path_data (later_steps path) (document inner row) in
      elim (fit_cases path (paths rest) fit) [
        | inl one ↦
            let g = subst (λ (x : Data). Matches m (group path inner rest) (node_of x)) (as_array path d (members rest row) one.0) h in (
              document_into m row columns inner laid.2 laid.1
                  (group_into m path inner (document inner row) (node_of (array (item d no_items))) laid.0 (lead_item path d one.0) g.0),
              subst (λ (x : Entries). Agrees m row x) (sym (no_more rest one.1)) tt,
            )
        | inr fields ↦
            let ms = put (first_name path) d (members rest row) in
            let named = (begins_name path fields.0.0 fields.0.1).1 in
            let lead = all_lead row (group path inner rest) fields in
            let g = subst (λ (x : Data). Matches m (group path inner rest) (node_of x)) (as_object path d (members rest row) named) h in (
              document_into m row columns inner laid.2 laid.1
                  (group_into m path inner (document inner row) (node_of (object ms)) laid.0 (lead_field path ms _ named lead.0) g.0),
              all_into m row columns rest ms laid.3 fields.1 lead.1 g.1,
            )
      ]

-- ---- and that there is one

value_from : (row : Row) (path : List Step) (term : Term) (t : Node) → NoneBelow path
    → LeadsTo path t (node_of (path_data (later_steps path) (string (text_in row term)))) → SomeHolds (row_map row) path term t
value_from row path term t none lead =
    (node_of (string (text_in row term)), led_one path t (string (text_in row term)) none lead, holds_string (text_in row term))

group_from : (row : Row) (path : List Step) (inner : Entries) (t : Node) → NoneBelow path
    → LeadsTo path t (node_of (path_data (later_steps path) (document inner row)))
    → Matches (row_map row) inner (node_of (document inner row)) → SomeMatches (row_map row) path inner t
group_from row path inner t none lead h = (node_of (document inner row), led_one path t (document inner row) none lead, h)

mutual
  all_from : (row : Row) (columns : ℕ) (es : Entries) (ms : Members) → AreLaidOut columns es → AreFields (paths es) → AllLead row ms es
      → Matches (row_map row) es (node_of (object ms))
  all_from row columns done ms laid fields lead = tt
  all_from row columns (holds path term rest) ms laid fields lead =
      let named = (begins_name path fields.0.0 fields.0.1).1 in (
        value_from row path term (node_of (object ms)) laid.0 (lead_field path ms _ named lead.0),
        all_from row columns rest ms laid.2 fields.1 lead.1,
      )
  all_from row columns (group path inner rest) ms laid fields lead =
      let named = (begins_name path fields.0.0 fields.0.1).1 in (
        group_from row path inner (node_of (object ms)) laid.0 (lead_field path ms _ named lead.0) (document_from row columns inner laid.2 laid.1),
        all_from row columns rest ms laid.3 fields.1 lead.1,
      )

  pub document_from : (row : Row) (columns : ℕ) (es : Entries) → AreLaidOut columns es → FitTogether (paths es)
      → Matches (row_map row) es (node_of (document es row))
  document_from row columns done laid fit = tt
  document_from row columns (holds path term rest) laid fit =
      let d = path_data (later_steps path) (string (text_in row term)) in
      elim (fit_cases path (paths rest) fit) [
        | inl one ↦
            subst (λ (x : Data). Matches (row_map row) (holds path term rest) (node_of x)) (sym (as_array path d (members rest row) one.0)) (
              value_from row path term (node_of (array (item d no_items))) laid.0 (lead_item path d one.0),
              subst (λ (x : Entries). Matches (row_map row) x (node_of (array (item d no_items)))) (sym (no_more rest one.1)) tt,
            )
        | inr fields ↦
            let ms = put (first_name path) d (members rest row) in
            let named = (begins_name path fields.0.0 fields.0.1).1 in
            let lead = all_lead row (holds path term rest) fields in
            subst (λ (x : Data). Matches (row_map row) (holds path term rest) (node_of x)) (sym (as_object path d (members rest row) named)) (
              value_from row path term (node_of (object ms)) laid.0 (lead_field path ms _ named lead.0),
              all_from row columns rest ms laid.2 fields.1 lead.1,
            )
      ]
  document_from row columns (group path inner rest) laid fit =
      let d = path_data (later_steps path) (document inner row) in
      elim (fit_cases path (paths rest) fit) [
        | inl one ↦
            subst (λ (x : Data). Matches (row_map row) (group path inner rest) (node_of x)) (sym (as_array path d (members rest row) one.0)) (
              group_from row path inner (node_of (array (item d no_items))) laid.0 (lead_item path d one.0) (document_from row columns inner laid.2 laid.1),
              subst (λ (x : Entries). Matches (row_map row) x (node_of (array (item d no_items)))) (sym (no_more rest one.1)) tt,
            )
        | inr fields ↦
            let ms = put (first_name path) d (members rest row) in
            let named = (begins_name path fields.0.0 fields.0.1).1 in
            let lead = all_lead row (group path inner rest) fields in
            subst (λ (x : Data). Matches (row_map row) (group path inner rest) (node_of x)) (sym (as_object path d (members rest row) named)) (
              group_from row path inner (node_of (object ms)) laid.0 (lead_field path ms _ named lead.0) (document_from row columns inner laid.2 laid.1),
              all_from row columns rest ms laid.3 fields.1 lead.1,
            )
      ]
