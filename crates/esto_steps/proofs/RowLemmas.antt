-- The rows that a head gives.
use Rattle.std.proofs.Common.{◌≡◌, ◌↔◌, ℕ, ◌+◌, List, [], map, length, get_or, Some, Contains, sym}
use Rattle.std.proofs.Common.{◌∙◌, ap, subst, arith}
use Rattle.esto_columns.specs.CodedRows.{CodedRows, rows_of}
use Rattle.esto_columns.specs.Columns.{HaveLength}
use Rattle.esto_term.proofs.ListLemmas.{Contains-map, Contains-map_from, Contains-nil, map_agree, map_itself, map_then}
use Rattle.esto_steps.specs.declared.steps.Source.{Source}
use Rattle.esto_steps.specs.declared.steps.Source.TheVariants.{Cell}
use Rattle.esto_steps.specs.Meaning.{code_at}
use Rattle.esto_steps.specs.Named.{NamesCodes, IsEarly}
use Rattle.esto_steps.specs.Paired.{code_or_zero}
use Rattle.esto_steps.proofs.GatherLemmas.{code_read, codes_early, early_codes, rows_are}

-- ---- the head

-- a column has the codes that its cell names
pub cell_codes : (rows : List (List ℕ)) (place : ℕ) → map (λ row. get_or row place 0) rows ≡ map (λ row. code_or_zero (code_at row (Cell place))) rows
cell_codes rows place = map_agree (λ row. get_or row place 0) (λ row. code_or_zero (code_at row (Cell place))) rows (λ row inside. code_read row place)

-- codes that are named are read without a 0 in place of one
codes_read : (cells : List ℕ) (sources : List Source) (codes : List ℕ) → NamesCodes cells sources codes
    → map (λ source. code_or_zero (code_at cells source)) sources ≡ codes
codes_read cells sources codes named =
    sym (map_then (code_at cells) code_or_zero sources) ∙ ap (map code_or_zero) named ∙ map_then Some code_or_zero codes ∙ map_itself codes

module _ (head : List Source) (rows : CodedRows) (width : ℕ) (width_is : width ≡ rows.arity) (fit : HaveLength rows.arity rows.rows) where
  -- each source is a code, or a cell of the rows with no more after them
  abbrev AreWithin : Type 0
  AreWithin = (source : Source) → Contains head source → IsEarly (width + 0) source

  wide : width + 0 ≡ rows.arity
  wide = omega (arith, width_is)

  pub head_early : AreWithin → (source : Source) → Contains head source → IsEarly rows.arity source
  head_early within source among = subst (λ n. IsEarly n source) wide (within source among)

  -- the columns give the rows of the head's codes
  pub head_rows : AreWithin → (columns made : List (List ℕ)) (count : ℕ) → columns ≡ map (λ source. map (λ row. code_or_zero (code_at row source)) rows.rows) head
      → count ≡ length rows.rows → made ≡ rows_of columns count → (row : List ℕ)
      → Contains made row ↔ ((end : List ℕ) × Contains rows.rows end × NamesCodes end head row)
  head_rows within columns made count columns_are count_is made_is row =
      let codes_of : List ℕ → List ℕ = λ end. map (λ source. code_or_zero (code_at end source)) head in
      let is : made ≡ map codes_of rows.rows =
      made_is ∙ rows_are (λ source row. code_or_zero (code_at row source)) head rows.rows columns count columns_are count_is in (
        λ has.
            let (end, inside, read) = Contains-map_from codes_of rows.rows row (subst (λ them. Contains them row) is has) in
            let (codes, named) = early_codes end head (λ source among. subst (λ n. IsEarly n source) (sym (fit end inside)) (head_early within source among)) in
            (end, inside, subst (NamesCodes end head) (sym (codes_read end head codes named) ∙ read) named),
        λ has.
            let (end, inside, named) = has in
            subst (λ them. Contains them row) (sym is) (subst (Contains (map codes_of rows.rows)) (codes_read end head row named)
            (Contains-map codes_of rows.rows end inside)),
      )

  -- where a source is neither, no row has the head's codes
  pub head_none : (AreWithin → ⊥) → (made : List (List ℕ)) → made ≡ [] → (row : List ℕ)
      → Contains made row ↔ ((end : List ℕ) × Contains rows.rows end × NamesCodes end head row)
  head_none beyond made none row = (
    λ has. absurd (Contains-nil row (subst (λ them. Contains them row) none has)),
    λ has. let (end, inside, named) = has in absurd (beyond (λ source among.
        subst (λ n. IsEarly n source) (fit end inside ∙ sym wide) (codes_early end head row named source among))),
  )
