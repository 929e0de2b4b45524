-- The rows of all views, one view after the other.
use Rattle.std.proofs.Common.{◌≡◌, ◌↔◌, ◌⊎◌, inl, inr, ℕ, ◌<◌, ◌≤◌, ◌+◌, List, [], ◌++◌}
use Rattle.std.proofs.Common.{map, length, get_or, slice_get, Contains, Some, refl, sym, ap, ◌∙◌, subst, arith}
use Rattle.std.specs.List.{AllPairs}
use Rattle.std.proofs.lemmas.Bool.{cases_order}
use Rattle.std.proofs.lemmas.List.{length-map, get_or-map}
use Rattle.std.proofs.lemmas.List.Elements.{Contains-append_cases, Contains-append_left, Contains-append_right}
use Rattle.std.proofs.lemmas.Option.{slice_get_within, same_Some}
use Rattle.esto_term.specs.declared.term.Term.{Term}
use Rattle.esto_term.specs.declared.term.Term.TheVariants.{Const}
use Rattle.esto_semantics.specs.PlanOf.{IsTermRow}
use Rattle.esto_semantics.specs.Queries.{ConjunctiveQuery, IsAnswerInto}
use Rattle.esto_semantics.specs.declared.fact.Fact.{Fact}
use Rattle.esto_query.specs.Rows.{IsAscending}
use Rattle.esto_universal.specs.Rows.{over, IsRowBefore, AreRows, AreRowsOf}
use Rattle.esto_term.proofs.ChoiceLemmas.{pairs_append}
use Rattle.esto_term.proofs.ListLemmas.{Contains-map, Contains-map_from, Contains-nil}

-- the rows of the views before a number
pub record AreRowsBelow (views : List ConjunctiveQuery) (facts : List (Fact Term)) (number : ℕ) (rows : List (Fact Term)) : Type 0 where
  pub exact : (row : Fact Term) → Contains rows row ↔ ((row.relation < number) × IsTermRow views facts row)
  pub ordered : AllPairs IsRowBefore rows

pub rows_none : (views : List ConjunctiveQuery) (facts : List (Fact Term)) → AreRowsBelow views facts 0 []
rows_none views facts = record {
  exact = λ row. ((λ inside. absurd (Contains-nil row inside)), (λ both. absurd (omega (arith, both.0))));
  ordered = λ i j d less within. absurd (omega arith);
}

before_moved : (row other row_now other_now : Fact Term) → row_now ≡ row → other_now ≡ other → IsRowBefore row other → IsRowBefore row_now other_now
before_moved row other row_now other_now row_is other_is before = subst (λ it. IsRowBefore it other_now) (sym row_is)
    (subst (IsRowBefore row) (sym other_is) before)

over-ordered : (number : ℕ) (rows : List (List Term)) → IsAscending rows → AllPairs IsRowBefore (map (over number) rows)
over-ordered number rows ascending i j d less within =
    let short : j < length rows = rw (length-map rows (over number)) at within in
    before_moved (over number (get_or rows i [])) (over number (get_or rows j [])) _ _ (get_or-map (over number) rows i [] d (omega arith))
    (get_or-map (over number) rows j [] d short)
    (inr (refl, ascending i j [] less short))

module _ (views : List ConjunctiveQuery) (facts : List (Fact Term)) (number : ℕ) (view : ConjunctiveQuery) (rows : List (Fact Term)) (own : List (List Term))
    (at : slice_get views number ≡ Some view) (are_own : AreRowsOf view facts own) (so_far : AreRowsBelow views facts number rows) where
  rows-from : (row : Fact Term) → Contains (rows ++ map (over number) own) row → (row.relation < number + 1) × IsTermRow views facts row
  rows-from row inside = elim (Contains-append_cases rows (map (over number) own) row inside) [
    | inl earlier ↦ let found = (so_far.exact row).0 earlier in (omega (arith, found.0), found.1)
    | inr here ↦
        let found = Contains-map_from (over number) own row here in
        subst (λ (it : Fact Term). (it.relation < number + 1) × IsTermRow views facts it) found.2 (omega arith, (view, at, (are_own.exact found.0).0 found.1))
  ]

  rows-have : (row : Fact Term) → row.relation < number + 1 → IsTermRow views facts row → Contains (rows ++ map (over number) own) row
  rows-have row below (other, there, answer) = by (cases_order row.relation number)
    where
      by : (row.relation ≡ number) ⊎ ((row.relation < number) ⊎ (number < row.relation)) → Contains (rows ++ map (over number) own) row
      by (inl same) =
          let one : other ≡ view = same_Some other view (sym there ∙ ap (slice_get views) same ∙ at) in
          Contains-append_right rows (map (over number) own) row
          (subst (Contains (map (over number) own)) (λ i. record { relation = sym same i; terms = row.terms })
          (Contains-map (over number) own row.terms ((are_own.exact row.terms).1 (subst (λ it. IsAnswerInto Const it (Contains facts) row.terms) one answer))))
      by (inr (inl earlier)) = Contains-append_left rows (map (over number) own) row ((so_far.exact row).1 (earlier, (other, there, answer)))
      by (inr (inr later)) = absurd (omega arith)

  rows_more : AreRowsBelow views facts (number + 1) (rows ++ map (over number) own)
  rows_more = record {
    exact = λ row. (rows-from row, (λ both. rows-have row both.0 both.1));
    ordered = pairs_append IsRowBefore rows (map (over number) own) so_far.ordered (over-ordered number own are_own.ordered)
        (λ row other inside other_inside.
        let found = (so_far.exact row).0 inside in
        let source = Contains-map_from (over number) own other other_inside in
        let is : number ≡ other.relation = ap (λ (it : Fact Term). it.relation) source.2 in
        inl (omega (arith, found.0)));
  }

-- one view more, where the rows so far are joined with its own
pub rows_joined : (views : List ConjunctiveQuery) (facts : List (Fact Term)) (number : ℕ) (view : ConjunctiveQuery) (rows more : List (Fact Term))
    (own : List (List Term))
    → slice_get views number ≡ Some view → AreRowsOf view facts own → more ≡ rows ++ map (over number) own
    → AreRowsBelow views facts number rows → AreRowsBelow views facts (number + 1) more
rows_joined views facts number view rows more own at are_own is so_far =
    subst (AreRowsBelow views facts (number + 1)) (sym is) (rows_more views facts number view rows own at are_own so_far)

pub rows_all : (views : List ConjunctiveQuery) (facts : List (Fact Term)) (number : ℕ) (rows : List (Fact Term)) → length views ≤ number
    → AreRowsBelow views facts number rows → AreRows views facts rows
rows_all views facts number rows past below = record {
  exact = λ row. (
    (λ inside. ((below.exact row).0 inside).1),
    (λ is_row. let within = slice_get_within views row.relation is_row.0 is_row.1 in (below.exact row).1 (omega arith, is_row)),
  );
  ordered = below.ordered;
}
