-- What is written is read as the same documents.
use Rattle.std.proofs.Common.{◌≡◌, ◌<◌, ◌≤◌, ◌+◌, ◌∙◌, ◌++◌, ◌∷◌, [], ℕ, List, false, Some, None, get_or, length, map, take, flat_map, refl, ap, sym, subst}
use Rattle.std.proofs.Common.{append_assoc, arith}
use Rattle.std.specs.Prelude.{IsUtf8, Contains, All, ◌↔◌}
use Rattle.std.proofs.lemmas.List.{take_all, take_more, map_more, map_push, flat_map_more}
use Rattle.esto_term.proofs.ListLemmas.{Contains-head, Contains-rest, map_then, each_more, each_seen}
use Rattle.serde_json.specs.Data.{Data, array, depth, items_depth}
use Rattle.serde_json.specs.Read.{read}
use Rattle.serde_json.specs.View.{view, items_of}
use Rattle.serde_json.specs.Written.{compact_text}
use Rattle.serde_json.specs.declared.value.Value.{Value}
use Rattle.esto_ports.specs.Lines.{line_feed, lines_of, with_feed, LinesBeginAnew}
use Rattle.esto_docmodel.specs.Layouts.{IsLayout}
use Rattle.esto_docmodel.specs.Patterns.{Entries}
use Rattle.esto_docmodel.specs.declared.tree.Tree.{Tree}
use Rattle.esto_docs.specs.Trees.{tree_of, trees_of}
use Rattle.esto_docs.specs.Files.{json_of, is_bad, trees_of_line, trees_of_lines, lines_fault, trees_of_array, array_fault, file_trees}
use Rattle.esto_docs.specs.Rows.{Row, IsRowOf}
use Rattle.esto_docs.specs.Documents.{document, document_line}
use Rattle.esto_docs.specs.Plain.{HasTextsOnly, ItemsHaveTextsOnly, IsPlain, IsReadBack}
use Rattle.esto_docs.specs.Written.{HasWritten}
use Rattle.esto_docmodel.specs.declared.file.Layout.{Layout}
use Rattle.esto_docmodel.specs.declared.file.Layout.TheVariants.{Array, Lines}
use Rattle.esto_docs.proofs.FeedLemmas.{array_json}
use Rattle.esto_docs.proofs.JsonLemmas.{json_some}
use Rattle.esto_docs.proofs.RowLemmas.{HasRows, written_rows}
use Rattle.esto_docs.proofs.TextLemmas.{text_plain, text_not_blank}

pub read_back : (d : Data) (text : List ℕ) → text ≡ compact_text d → read text ≡ Some d → IsUtf8 text → IsReadBack d
read_back d text e r u = subst (λ (t : List ℕ). json_of t ≡ Some d) e (json_some text d u r)

-- ---- lines

-- The lines of the rows so far are written, and read back.
pub record HasLines (es : Entries) (rows : List Row) (count : ℕ) (text : List ℕ) : Type 0 where
  pub lines_are : text ≡ flat_map (λ row. document_line (document es row)) (take count rows)
  pub read_are : (row : Row) → Contains (take count rows) row → IsReadBack (document es row)

pub lines_start : (es : Entries) (rows : List Row) → HasLines es rows 0 []
lines_start es rows = record { lines_are = refl; read_are = λ row h. absurd (omega (arith, h.1)) }

pub lines_go : (es : Entries) (rows : List Row) (count : ℕ) (row : Row) (text new : List ℕ) → HasLines es rows count text → count < length rows
    → row ≡ get_or rows count row
    → new ≡ text ++ document_line (document es row) → IsReadBack (document es row) → HasLines es rows (count + 1) new
lines_go es rows count row text new so_far within at more back =
    record {
      lines_are = more ∙ ap (λ (t : List ℕ). t ++ document_line (document es row)) so_far.lines_are
          ∙ flat_map_more (λ row. document_line (document es row)) [] (take count rows) row
          ∙ ap (λ (r : Row). flat_map (λ row. document_line (document es row)) (take count rows ++ r ∷ [])) at
          ∙ ap (flat_map (λ row. document_line (document es row))) (sym (take_more rows count row within));
      read_are = each_more (λ r. IsReadBack (document es r)) rows count row within at back so_far.read_are;
    }

good_line : (d : Data) → IsPlain d → IsReadBack d → (is_bad (compact_text d) ≡ false) × (trees_of_line (compact_text d) ≡ tree_of d ∷ [])
good_line d plain back = rw (text_not_blank d plain.container, back) (refl, refl)

module _ (begins : LinesBeginAnew) (es : Entries) (plain : (row : Row) → IsPlain (document es row)) where
  lines_are : (rows : List Row) → lines_of (flat_map (λ row. document_line (document es row)) rows) ≡ map (λ row. compact_text (document es row)) rows
  unfolding lines_of
  lines_are [] = refl
  lines_are (row ∷ rows) =
      let line = compact_text (document es row) in
      let rest = flat_map (λ row. document_line (document es row)) rows in
      ap lines_of (append_assoc line (line_feed ∷ []) rest) ∙ begins line rest (text_plain (document es row) (plain row).texts)
      ∙ ap (λ (ls : List (List ℕ)). line ∷ ls) (lines_are rows)

  trees_are : (rows : List Row) → ((row : Row) → Contains rows row → IsReadBack (document es row))
      → trees_of_lines (map (λ row. compact_text (document es row)) rows) ≡ map (λ row. tree_of (document es row)) rows
  trees_are [] back = refl
  trees_are (row ∷ rows) back =
      let here = (good_line (document es row) (plain row) (back row (Contains-head row rows))).1 in
      let later = trees_are rows (λ other there. back other (Contains-rest row rows other there)) in
      ap (λ (ts : List Tree). ts ++ trees_of_lines (map (λ row. compact_text (document es row)) rows)) here
      ∙ ap (λ (ts : List Tree). tree_of (document es row) ∷ ts) later

  no_fault : (rows : List Row) (number : ℕ) → ((row : Row) → Contains rows row → IsReadBack (document es row))
      → lines_fault number (map (λ row. compact_text (document es row)) rows) ≡ None
  unfolding lines_fault
  no_fault [] number back = refl
  no_fault (row ∷ rows) number back =
      rw ((good_line (document es row) (plain row) (back row (Contains-head row rows))).0)
      (no_fault rows (number + 1) (λ other there. back other (Contains-rest row rows other there)))

  pub lines_written : (rows : List Row) (count : ℕ) (text : List ℕ) → length rows ≤ count → HasLines es rows count text
      → HasWritten Lines (map (document es) rows) text
  lines_written rows count text past so_far =
      let back = each_seen (λ r. IsReadBack (document es r)) rows count past so_far.read_are in
      let is = so_far.lines_are ∙ ap (flat_map (λ row. document_line (document es row))) (take_all count rows past) in
      let lines = ap lines_of is ∙ lines_are rows in
      record {
        written = is ∙ sym (flat_then rows);
        read = ap trees_of_lines lines ∙ trees_are rows back ∙ sym (map_then (document es) tree_of rows);
        no_fault = ap (lines_fault 1) lines ∙ no_fault rows 1 back;
      } where
        flat_then : (rows : List Row) → flat_map document_line (map (document es) rows) ≡ flat_map (λ row. document_line (document es row)) rows
        flat_then [] = refl
        flat_then (row ∷ rest) = ap (λ (t : List ℕ). document_line (document es row) ++ t) (flat_then rest)

-- ---- one array

pub built_more : (es : Entries) (rows : List Row) (count : ℕ) (values new : List Value) (value : Value) (row : Row)
    → map view values ≡ map (document es) (take count rows)
    → count < length rows → row ≡ get_or rows count row → view value ≡ document es row → new ≡ values ++ value ∷ [] → map view new ≡ map (document es)
    (take (count + 1) rows)
built_more es rows count values new value row so_far within at is more =
    ap (map view) more ∙ map_push view values value ∙ ap (λ (ds : List Data). ds ++ view value ∷ []) so_far
    ∙ ap (λ (d : Data). map (document es) (take count rows) ++ d ∷ []) (is ∙ ap (document es) at)
    ∙ sym (map_more (document es) rows count row within)

items_texts : (es : Entries) → ((row : Row) → IsPlain (document es row)) → (rows : List Row) → ItemsHaveTextsOnly (items_of (map (document es) rows))
items_texts es plain [] = tt
items_texts es plain (row ∷ rows) = ((plain row).texts, items_texts es plain rows)

items_shallow : (es : Entries) → ((row : Row) → IsPlain (document es row)) → (rows : List Row) → items_depth (items_of (map (document es) rows)) ≤ 126
items_shallow es plain [] = omega arith
items_shallow es plain (row ∷ rows) = let first = (plain row).shallow in let rest = items_shallow es plain rows in omega (arith, first, rest)

items_trees : (ds : List Data) → trees_of (items_of ds) ≡ map tree_of ds
items_trees [] = refl
items_trees (d ∷ ds) = ap (λ (ts : List Tree). tree_of d ∷ ts) (items_trees ds)

pub array_texts : (es : Entries) → ((row : Row) → IsPlain (document es row)) → (rows : List Row) (d : Data) → d ≡ array (items_of (map (document es) rows))
    → HasTextsOnly d × (depth d ≤ 127)
array_texts es plain rows d is =
    let shallow = items_shallow es plain rows in
    rw is (items_texts es plain rows, omega (arith, shallow))

pub array_written : (es : Entries) → ((row : Row) → IsPlain (document es row)) → (rows : List Row) (d : Data) (line text : List ℕ)
    → d ≡ array (items_of (map (document es) rows)) → line ≡ compact_text d → read line ≡ Some d → IsUtf8 line → text ≡ line ++ 10 ∷ []
    → HasWritten Array (map (document es) rows) text
array_written es plain rows d line text is e r u more =
    let json : json_of text ≡ Some (array (items_of (map (document es) rows))) = array_json d line text (array_texts es plain rows d is).0 e r u more ∙ ap
    Some is in
    record {
      written = more ∙ ap with_feed (e ∙ ap compact_text is);
      read = ap trees_of_array json ∙ items_trees (map (document es) rows);
      no_fault = ap array_fault json;
    }

-- ---- both

pub opened_again : (columns : ℕ) (es : Entries) (rows : List Row) (layout other : Layout) (text : List ℕ) → IsLayout columns es
    → All (λ row. length row ≡ columns) rows
    → layout ≡ other → HasWritten other (map (document es) rows) text → (row : Row) → IsRowOf columns es (file_trees layout text) row ↔ Contains rows row
opened_again columns es rows layout other text is sizes same written row =
    let trees : file_trees layout text ≡ map (λ row. tree_of (document es row)) rows =
    ap (λ (l : Layout). file_trees l text) same ∙ written.read ∙ map_then (document es) tree_of rows in
    let both = subst (λ (ts : List Tree). HasRows columns es ts rows) (sym trees) (written_rows columns es rows is sizes) row in
    (both.1, both.0)
