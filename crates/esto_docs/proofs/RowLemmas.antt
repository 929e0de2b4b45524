-- The rows of documents, and those of written ones.
use Rattle.std.proofs.Common.{◌≡◌, ◌<◌, ◌⊎◌, ◌↔◌, ◌∙◌, ◌++◌, ◌∷◌, [], ℕ, List, Some, length, map, get_or, true, false, inl, inr, refl, sym, ap, subst, arith}
use Rattle.std.specs.Prelude.{Contains, All, Result, Ok, Err, IfOk, MatchResult}
use Rattle.std.proofs.lemmas.List.{same_lists, get_or_default}
use Rattle.std.proofs.lemmas.List.Elements.{All-contains, Contains-append_cases, Contains-append_left, Contains-append_right}
use Rattle.esto_term.proofs.ListLemmas.{Contains-rest, Contains-cases, Contains-map, Contains-map_from}
use Rattle.serde_json.specs.Data.{Data}
use Rattle.esto_term.specs.declared.term.Term.{Term}
use Rattle.esto_term.specs.declared.term.Term.TheVariants.{Const, Plain, outs-Const, outs-Plain}
use Rattle.esto_docmodel.specs.Layouts.{StandsOnce, IsLayout}
use Rattle.esto_docmodel.specs.Patterns.{Entries, done, holds, group, Matches, Mentions}
use Rattle.esto_docmodel.specs.Shapes.{shape}
use Rattle.esto_docmodel.specs.declared.tree.Tree.{Tree}
use Rattle.esto_docs.specs.Trees.{tree_of}
use Rattle.esto_docs.specs.Rows.{Row, text_by_kind, text_in, row_map, IsRowOf, Gains}
use Rattle.esto_docs.specs.Documents.{document}
use Rattle.esto_docs.specs.Files.{file_trees, is_bad, is_blank, json_of, trees_of_line}
use Rattle.esto_docs.specs.Laws.{TreesJoin, RowsJoin}
use Rattle.esto_docmodel.specs.declared.file.Layout.TheVariants.{Lines}
use Rattle.esto_ports.specs.Lines.{with_feed}
use Rattle.esto_docs.proofs.MatchLemmas.{Agrees, document_into, document_from}

pub text_constant : (row : Row) (text : List ℕ) → text_in row (Const text) ≡ text
text_constant row text = ap (text_by_kind row) (outs-Const text)

pub text_column : (row : Row) (column : ℕ) → text_in row (Plain column) ≡ get_or row column []
text_column row column = ap (text_by_kind row) (outs-Plain column)

pub once_mentioned : (es : Entries) (term : Term) → StandsOnce term es → Mentions es term
once_mentioned done term h = h
once_mentioned (holds path first rest) term (inl h) = inl h.0
once_mentioned (holds path first rest) term (inr h) = inr (once_mentioned rest term h.1)
once_mentioned (group path inner rest) term (inl h) = inl (once_mentioned inner term h.0)
once_mentioned (group path inner rest) term (inr h) = inr (once_mentioned rest term h.1)

pub same_number : (a b : ℕ) → Plain a ≡ Plain b → a ≡ b
same_number a b e = cc e

pub same_constant : (a b : List ℕ) → Const a ≡ Const b → a ≡ b
same_constant a b e = cc e

mentioned : (columns : ℕ) (es : Entries) (column : ℕ) → IsLayout columns es → column < columns → Mentions es (Plain column)
mentioned columns es column layout within = once_mentioned es (Plain column) (layout.once column within)

-- Rows of one length with the same cells.
pub same_rows : (columns : ℕ) (row other : Row) → length row ≡ columns → length other ≡ columns → ((k : ℕ) → k < columns → get_or row k [] ≡ get_or other k [])
    → row ≡ other
same_rows columns row other size other_size cells =
    same_lists row other (size ∙ sym other_size) (λ k d within.
    get_or_default row k d [] within ∙ cells k (omega (arith, size, within)) ∙ get_or_default other k [] d (omega (arith, size, other_size, within)))

-- ---- rows of several documents

pub rows_append : (columns : ℕ) (es : Entries) (trees more : List Tree) (row : Row)
    → IsRowOf columns es (trees ++ more) row ↔ (IsRowOf columns es trees row ⊎ IsRowOf columns es more row)
rows_append columns es trees more row = (into trees, from) where
  into : (ts : List Tree) → IsRowOf columns es (ts ++ more) row → IsRowOf columns es ts row ⊎ IsRowOf columns es more row
  into [] h = inr h
  into (t ∷ ts) (size, (tree, among, matches)) = elim (Contains-cases t (ts ++ more) tree among) [
    | inl is ↦ inl (size, (tree, (0, omega arith, is), matches))
    | inr later ↦ elim (into ts (size, (tree, later, matches))) [
      | inl h ↦ inl (h.0, (h.1.0, Contains-rest t ts h.1.0 h.1.1, h.1.2))
      | inr h ↦ inr h
    ]
  ]

  from : IsRowOf columns es trees row ⊎ IsRowOf columns es more row → IsRowOf columns es (trees ++ more) row
  from (inl (size, (tree, among, matches))) = (size, (tree, Contains-append_left trees more tree among, matches))
  from (inr (size, (tree, among, matches))) = (size, (tree, Contains-append_right trees more tree among, matches))

pub rows_join : TreesJoin → RowsJoin
rows_join join columns es bytes after row =
    let one = file_trees Lines (with_feed bytes) in
    let other = file_trees Lines after in
    subst (λ (ts : List Tree). IsRowOf columns es ts row ↔ (IsRowOf columns es one row ⊎ IsRowOf columns es other row)) (sym (join bytes after))
    (rows_append columns es one other row)

-- The rows are exactly those of the documents.
abbrev pub HasRows : ℕ → Entries → List Tree → List Row → Type 0
HasRows columns es trees rows = (row : Row) → Contains rows row ↔ IsRowOf columns es trees row

pub rows_go : (columns : ℕ) (es : Entries) (trees more : List Tree) (old new : List Row) → HasRows columns es trees old
    → Gains (IsRowOf columns es more) old new
    → HasRows columns es (trees ++ more) new
rows_go columns es trees more old new has gains row = (
  (λ there. (rows_append columns es trees more row).1 (elim ((gains row).0 there) [ inl h ↦ inl ((has row).0 h) | inr h ↦ inr h ])),
  (λ is. (gains row).1 (elim ((rows_append columns es trees more row).0 is) [ inl h ↦ inl ((has row).1 h) | inr h ↦ inr h ])),
)

pub gains_append : (P : Row → Type 0) (old more : List Row) → ((row : Row) → Contains more row ↔ P row) → Gains P old (old ++ more)
gains_append P old more are row = (
  (λ there. elim (Contains-append_cases old more row there) [ inl h ↦ inl h | inr h ↦ inr ((are row).0 h) ]),
  (λ h. elim h [ inl there ↦ Contains-append_left old more row there | inr is ↦ Contains-append_right old more row ((are row).1 is) ]),
)

-- A line that is a value has its tree alone.
pub line_value : (line : List ℕ) (d : Data) → is_blank line ≡ false → json_of line ≡ Some d → (is_bad line ≡ false) × (trees_of_line line ≡ tree_of d ∷ [])
line_value line d blank json = rw (blank, json) (refl, refl)

pub blank_line : (line : List ℕ) → is_blank line ≡ true → (is_bad line ≡ false) × (trees_of_line line ≡ [])
blank_line line blank = rw blank (refl, refl)

-- What holds of what was made, and where memory is wanting, holds of the result that says the same.
pub wanted : {T E F : Type 0} (made : Result T E) (result : Result T F) (want : F) (P : T → Type 0) (Q : Result T F → Type 0)
    → MatchResult made (λ it. result ≡ Ok it) (λ _. result ≡ Err want) → IfOk made P → ((it : T) → P it → Q (Ok it)) → Q (Err want) → Q result
wanted (Ok it) result want P Q is held good bad = subst Q (sym is) (good it held)
wanted (Err error) result want P Q is held good bad = subst Q (sym is) bad

-- ---- the rows of written documents

agree_at : (m : Term → Term) (row : Row) (es : Entries) (term : Term) → Agrees m row es → Mentions es term → m term ≡ Const (text_in row term)
agree_at m row done term a h = absurd h
agree_at m row (holds path first rest) term a (inl is) = subst (λ (x : Term). m x ≡ Const (text_in row x)) is a.0
agree_at m row (holds path first rest) term a (inr h) = agree_at m row rest term a.1 h
agree_at m row (group path inner rest) term a (inl h) = agree_at m row inner term a.0 h
agree_at m row (group path inner rest) term a (inr h) = agree_at m row rest term a.1 h

pub written_rows : (columns : ℕ) (es : Entries) (rows : List Row) → IsLayout columns es → All (λ row. length row ≡ columns) rows
    → HasRows columns es (map (λ row. tree_of (document es row)) rows) rows
written_rows columns es rows layout sizes row = (into, from) where
  into : Contains rows row → IsRowOf columns es (map (λ row. tree_of (document es row)) rows) row
  into there = (
    All-contains (λ (r : Row). length r ≡ columns) rows row sizes there,
    (
      tree_of (document es row),
      Contains-map (λ (r : Row). tree_of (document es r)) rows row there,
      document_from row columns es layout.laid_out layout.together,
    ),
  )

  from : IsRowOf columns es (map (λ row. tree_of (document es row)) rows) row → Contains rows row
  from (size, (tree, among, matches)) =
      let (other, there, is) = Contains-map_from (λ (r : Row). tree_of (document es r)) rows tree among in
      let here = subst (λ (t : Tree). Matches (row_map row) es (shape t)) (sym is) matches in
      let agrees = document_into (row_map row) other columns es layout.laid_out layout.together here in
      let same = same_rows columns other row (All-contains (λ (r : Row). length r ≡ columns) rows other sizes there) size (λ k within.
      sym (text_column other k) ∙ sym (same_constant _ _ (agree_at (row_map row) other es (Plain k) agrees (mentioned columns es k layout within))) ∙
      text_column row k) in
      subst (Contains rows) same there
