-- The queries of a union that were read so far.
use Rattle.std.proofs.Common.{◌≡◌, ◌≢◌, ◌<◌, ◌≤◌, ◌+◌, ℕ, suc, true, false, List, [], ◌∷◌, ◌++◌, length, map, take, drop, get_or, refl, sym, ap, subst, ◌∙◌}
use Rattle.std.proofs.Common.{append_assoc, arith}
use Rattle.std.proofs.lemmas.List.{append-nil, length-append, map-append, take_more}
use Rattle.esto_text.specs.declared.stop.Stop.{Stop}
use Rattle.esto_text.specs.declared.stop.Stop.TheVariants.{Syntax, OutOfMemory}
use Rattle.esto_text.specs.declared.token.Token.{Token}
use Rattle.esto_text.specs.declared.token.TokenKind.TheVariants.{Semicolon}
use Rattle.esto_text.specs.declared.tree.QuerySyntax.{QuerySyntax}
use Rattle.esto_text.specs.declared.unions.TheConstants.{MAX_QUERIES}
use Rattle.esto_text.specs.Faults.{StopsAt}
use Rattle.esto_text.specs.Grammar.{class_of, IsUnionFrom, IsUnion}
use Rattle.esto_text.specs.Limits.{is_semicolon, limited, limited_union}
use Rattle.esto_text.specs.Machine.{HasNoSemicolon, EndsQuery, TakesQuery, StopsQuery, QueryFails, UnionFails}
use Rattle.esto_text.specs.Trees.{QueryTree}
use Rattle.esto_text.specs.View.{tree_of}
use Rattle.esto_text.proofs.UnionLemmas.{one_query, more_queries, more_stop, full_stop, part_stop, later, limited_cut, limited_none, later_ends, length_after}
use Rattle.esto_text.proofs.UnionLemmas.{length_later}

-- ---- the cut

none_more : (front : List Token) (t : Token) → HasNoSemicolon front → class_of t ≢ Semicolon → HasNoSemicolon (front ++ t ∷ [])
none_more [] t none not = (not, tt)
none_more (x ∷ front) t none not = (none.0, none_more front t none.1 not)

not_semicolon : (t : Token) → is_semicolon (class_of t) ≡ false → class_of t ≢ Semicolon
not_semicolon t test is = let wrong : true ≡ false = ap is_semicolon (sym is) ∙ test in cc

-- one token more
pub cut_more : (tokens : List Token) (place : ℕ) (d : Token) → place < length tokens → is_semicolon (class_of (get_or tokens place d)) ≡ false
    → HasNoSemicolon (take place tokens) → HasNoSemicolon (take (place + 1) tokens)
cut_more tokens place d below test none =
    subst HasNoSemicolon (sym (take_more tokens place d below))
    (none_more (take place tokens) (get_or tokens place d) none (not_semicolon (get_or tokens place d) test))

-- ---- the queries

pub record UnionSoFar (all : List Token) (done : List QuerySyntax) (rest : List Token) : Type 0 where
  pub goes : (queries : List QueryTree) → IsUnionFrom (length done) queries (limited_union rest) → IsUnion (map tree_of done ++ queries) (limited_union all)
  pub stops : (stop : List Token) → StopsAt (IsUnionFrom (length done)) (limited_union rest) stop → StopsAt IsUnion (limited_union all) stop
  pub few : length done < MAX_QUERIES

pub union_start : (all : List Token) → UnionSoFar all [] all
union_start all = record { goes = λ queries h. h; stops = λ stop h. h; few = omega arith }

module _ (all : List Token) (done : List QuerySyntax) (rest : List Token) (so_far : UnionSoFar all done rest) where
  trees_more : (query : QuerySyntax) (queries : List QueryTree) → map tree_of done ++ tree_of query ∷ queries ≡ map tree_of (done ++ query ∷ []) ++ queries
  trees_more query queries =
      sym (append_assoc (map tree_of done) (tree_of query ∷ []) queries)
      ∙ ap (λ (l : List QueryTree). l ++ queries) (sym (map-append tree_of done (query ∷ [])))

  -- no query stands there
  union_fails : (left : ℕ) → StopsQuery rest left → UnionFails all (Syntax left)
  union_fails left at =
      let stopped = so_far.stops (at.stop ++ later at.rest)
      (subst (λ (l : List Token). StopsAt (IsUnionFrom (length done)) l (at.stop ++ later at.rest)) (sym (limited_cut rest at.part at.rest at.cut))
      (part_stop (length done) (limited at.part) (later at.rest) (limited_none at.part at.cut.none) (later_ends at.rest at.cut.ends) at.stop at.stops)) in (
        at.stop ++ later at.rest,
        stopped,
        at.leaves ∙ ap (λ (n : ℕ). length at.stop + n) (sym (length_later at.rest)) ∙ sym (length-append at.stop (later at.rest)),
      )

  pub union_error : (error : Stop) → QueryFails rest error → UnionFails all error
  union_error OutOfMemory fails = tt
  union_error (Syntax left) fails = union_fails left fails

  module _ (query : QuerySyntax) (after : List Token) (taken : TakesQuery (tree_of query) rest after) where
    -- it is the last
    pub union_ends : length after ≡ 0 → IsUnion (map tree_of (done ++ query ∷ [])) (limited_union all)
    union_ends none =
        subst (λ (l : List QueryTree). IsUnion l (limited_union all)) (trees_more query [] ∙ append-nil (map tree_of (done ++ query ∷ [])))
        (so_far.goes (tree_of query ∷ [])
        (subst (IsUnionFrom (length done) (tree_of query ∷ [])) (sym (limited_cut rest taken.part after taken.cut ∙ nothing after none))
        (one_query (length done) (tree_of query) (limited taken.part) taken.is_query)))
      where
        nothing : (after : List Token) → length after ≡ 0 → limited taken.part ++ later after ≡ limited taken.part
        nothing [] none = append-nil (limited taken.part)
        nothing (t ∷ after) none = absurd (omega (arith, none))

    -- as many stand as may
    pub union_full : length after ≢ 0 → length (done ++ query ∷ []) ≡ MAX_QUERIES → UnionFails all (Syntax (length after))
    union_full some full = by after some taken.cut.ends (limited_cut rest taken.part after taken.cut)
      where
        by : (after : List Token) → length after ≢ 0 → EndsQuery after → limited_union rest ≡ limited taken.part ++ later after
            → UnionFails all (Syntax (length after))
        by [] some ends is = absurd (some refl)
        by (semicolon ∷ more) some ends is =
            let enough : MAX_QUERIES ≤ suc (length done) = omega (arith, full, length-append done (query ∷ [])) in
            let stopped = so_far.stops (semicolon ∷ limited_union more)
            (subst (λ (l : List Token). StopsAt (IsUnionFrom (length done)) l (semicolon ∷ limited_union more)) (sym is)
            (full_stop (length done) (limited taken.part) semicolon (limited_none taken.part taken.cut.none) ends (tree_of query) (limited_union more)
            taken.is_query enough)) in
            (semicolon ∷ limited_union more, stopped, ap suc (sym (length_after _ more)))

    -- and more follow
    pub union_more : length after ≢ 0 → length (done ++ query ∷ []) ≢ MAX_QUERIES → UnionSoFar all (done ++ query ∷ []) (drop 1 after)
    union_more some room = by after some taken.cut.ends (limited_cut rest taken.part after taken.cut)
      where
        by : (after : List Token) → length after ≢ 0 → EndsQuery after → limited_union rest ≡ limited taken.part ++ later after
            → UnionSoFar all (done ++ query ∷ []) (drop 1 after)
        by [] some ends is = absurd (some refl)
        by (semicolon ∷ more) some ends is =
            let count : length (done ++ query ∷ []) ≡ suc (length done) = omega (arith, length-append done (query ∷ [])) in
            let less : suc (length done) < MAX_QUERIES = omega (arith, so_far.few, count, room) in
            record {
              goes = λ queries h.
                  subst (λ (l : List QueryTree). IsUnion l (limited_union all)) (trees_more query queries)
                  (so_far.goes (tree_of query ∷ queries)
                  (subst (IsUnionFrom (length done) (tree_of query ∷ queries)) (sym is)
                  (more_queries (length done) (tree_of query) queries (limited taken.part) semicolon (limited_union more) taken.is_query ends less
                  (subst (λ (n : ℕ). IsUnionFrom n queries (limited_union more)) count h))));
              stops = λ stop h.
                  so_far.stops stop
                  (subst (λ (l : List Token). StopsAt (IsUnionFrom (length done)) l stop) (sym is)
                  (more_stop (length done) (limited taken.part) semicolon (limited_none taken.part taken.cut.none) ends (tree_of query) (limited_union more)
                  stop taken.is_query less (subst (λ (n : ℕ). StopsAt (IsUnionFrom n) (limited_union more) stop) count h)));
              few = omega (arith, less, count);
            }
