-- The run of several sets together.
use Rattle.std.proofs.Common.{◌≡◌, ◌≤◌, ◌∙◌, ◌++◌, ◌+◌, ℕ, List, [], ◌∷◌, map, take, length, slice_get, Some, Contains, refl, sym, subst, ap}
use Rattle.std.proofs.lemmas.List.{append-nil, append_assoc, take_all, take_more}
use Rattle.std.proofs.lemmas.Option.{get_or_from_slice_get, slice_get_within}
use Rattle.esto_columns.specs.CodedRows.{CodedRows}
use Rattle.esto_columns.specs.Interned.{Grows}
use Rattle.esto_columns.specs.declared.stored.StoredRows.{StoredRows}
use Rattle.esto_columns.proofs.CodingLemmas.{grows_on}
use Rattle.esto_steps.specs.Rows.{IsRowOf, held_by}
use Rattle.esto_semantics.specs.Queries.{ConjunctiveQuery}
use Rattle.esto_semantics.specs.declared.fact.Fact.{Fact}
use Rattle.esto_stores.specs.Rows.{Row}
use Rattle.esto_term.proofs.ListLemmas.{Contains-map_from}
use Rattle.esto_views.specs.declared.fragments.FragmentDef.{FragmentDef}
use Rattle.esto_run.specs.Coded.{AreCodesOfAll, IsStoredRow}
use Rattle.esto_run.specs.Laws.{IsAnswerOfOne, IsAnswerOver}
use Rattle.esto_run.specs.Opened.{AreRowsFor, Held, HaveTexts, held_of, rows_held}
use Rattle.esto_run.proofs.HeldLemmas.{held_kept, texts_kept}
use Rattle.esto_run.specs.Picks.{candidate_of}
use Rattle.esto_run.specs.declared.picks.Pick.{Pick}
use Rattle.esto_run.proofs.RunLemmas.{answers_long, joined_codes, no_codes, one_answers_more, same_codes}

-- one row more is put at the end
pub rows_more : (first into new : CodedRows) (all : List (List ℕ)) (at : ℕ) (row : List ℕ) → slice_get all at ≡ Some row
    → into ≡ record { arity = first.arity; rows = first.rows ++ take at all } → new ≡ record { arity = into.arity; rows = into.rows ++ row ∷ [] }
    → new ≡ record { arity = first.arity; rows = first.rows ++ take (at + 1) all }
rows_more first into new all at row there is more =
    let one_more : take (at + 1) all ≡ take at all ++ row ∷ [] = take_more all at row (slice_get_within all at row there)
    ∙ ap (λ it. take at all ++ it ∷ []) (get_or_from_slice_get all at row row there) in
    more ∙ (λ i. record { arity = (is i).arity; rows = (is i).rows ++ row ∷ [] })
    ∙ ap (λ (them : List (List ℕ)). record { arity = first.arity; rows = them })
    (append_assoc first.rows (take at all) (row ∷ []) ∙ ap (λ them. first.rows ++ them) (sym one_more))

pub rows_none : (first : CodedRows) → first ≡ record { arity = first.arity; rows = first.rows ++ [] }
rows_none first = λ i. record { arity = first.arity; rows = (sym (append-nil first.rows)) i }

pub rows_all : (first into : CodedRows) (all : List (List ℕ)) (at : ℕ) → length all ≤ at
    → into ≡ record { arity = first.arity; rows = first.rows ++ take at all } → into ≡ record { arity = first.arity; rows = first.rows ++ all }
rows_all first into all at past is =
    subst (λ (those : List (List ℕ)). into ≡ record { arity = first.arity; rows = first.rows ++ those }) (take_all at all past) is

-- the answers of one query more come to the rows
pub answers_more : (old new : List (List ℕ)) → Grows old new → (Holds : Fact (List ℕ) → Type 0) (rows own : List (List ℕ)) (queries : List ConjunctiveQuery)
    (query : ConjunctiveQuery) → AreCodesOfAll old rows (IsAnswerOfOne Holds queries) → AreCodesOfAll new own (IsAnswerOver Holds query)
    → AreCodesOfAll new (rows ++ own) (IsAnswerOfOne Holds (queries ++ query ∷ []))
answers_more old new grown Holds rows own queries query are too =
    same_codes new (rows ++ own) _ (IsAnswerOfOne Holds (queries ++ query ∷ [])) (one_answers_more Holds queries query)
    (joined_codes old new grown rows own (IsAnswerOfOne Holds queries) (IsAnswerOver Holds query) are too)

-- The rows are the answers of the queries so far, and texts have come after the first ones.
pub record AreAnswersSoFar (first now : List (List ℕ)) (stored : List StoredRows) (arity : ℕ) (rows : CodedRows) (queries : List ConjunctiveQuery) : Type 0
  where
    pub grown : Grows first now
    pub wide : rows.arity ≡ arity
    pub codes : AreCodesOfAll now rows.rows (IsAnswerOfOne (IsStoredRow first stored) queries)

pub none_so_far : (first : List (List ℕ)) (stored : List StoredRows) (arity : ℕ) → AreAnswersSoFar first first stored arity
    (record { arity = arity; rows = [] }) []
none_so_far first stored arity = record { grown = ([], sym (append-nil first)); wide = refl; codes = no_codes first (IsStoredRow first stored) }

module _ (first now : List (List ℕ)) (stored : List StoredRows) (arity : ℕ) (rows : CodedRows) (queries : List ConjunctiveQuery)
    (have : HaveTexts first stored) (are : AreAnswersSoFar first now stored arity rows queries) where
  pub have_so_far : HaveTexts now stored
  have_so_far = texts_kept first now are.grown stored have

  same_held : map (held_of now) stored ≡ map (held_of first) stored
  same_held = held_kept first now are.grown stored have

  pub rows_so_far : (fragments : List FragmentDef) → AreRowsFor fragments (map (held_of first) stored) → AreRowsFor fragments (map (held_of now) stored)
  rows_so_far fragments are_rows = subst (AreRowsFor fragments) (sym same_held) are_rows

  pub more_so_far : (later : List (List ℕ)) (new : CodedRows) (query : ConjunctiveQuery) → Grows now later → new.arity ≡ rows.arity
      → ((others : List ConjunctiveQuery) → AreCodesOfAll now rows.rows (IsAnswerOfOne (IsStoredRow now stored) others)
      → AreCodesOfAll later new.rows (IsAnswerOfOne (IsStoredRow now stored) (others ++ query ∷ [])))
      → AreAnswersSoFar first later stored arity new (queries ++ query ∷ [])
  more_so_far later new query more wide adds = record {
    grown = grows_on first now later are.grown more;
    wide = wide ∙ are.wide;
    codes = subst (λ (them : List Held). AreCodesOfAll later new.rows (IsAnswerOfOne (IsRowOf (held_by (rows_held them))) (queries ++ query ∷ []))) same_held
        (adds queries (subst (λ (them : List Held). AreCodesOfAll now rows.rows (IsAnswerOfOne (IsRowOf (held_by (rows_held them))) queries)) (sym same_held)
        are.codes));
  }

-- an answer of one of the picks is as long as the heads of all
pub one_long : (Holds : Fact (List ℕ) → Type 0) (picks : List Pick) (width : ℕ) → ((pick : Pick) → Contains picks pick → length pick.plan.now.head ≡ width)
    → (row : Row) → IsAnswerOfOne Holds (map candidate_of picks) row → length row ≡ width
one_long Holds picks width long row (query, inside, answer) =
    let found = Contains-map_from candidate_of picks query inside in
    answers_long Holds query row answer ∙ ap (λ (it : ConjunctiveQuery). length it.head) (sym found.2) ∙ long found.0 found.1
