-- The rows of the made views over a database, and the rewriting of the made query by the fragments A.
use Rattle.std.proofs.Common.{◌≡◌, ◌↔◌, ◌<◌, ◌+◌, ◌*◌, ◌/◌, ℕ, zero, suc, true, false, List, [], ◌∷◌, map, length, get_or, replicate, slice_get, Some, Contains}
use Rattle.std.proofs.Common.{refl, sym, ap, subst, ◌∙◌, arith}
use Rattle.std.proofs.lemmas.List.{length-replicate}
use Rattle.std.proofs.lemmas.Option.{get_or_from_slice_get}
use Rattle.esto_semantics.specs.Access.{AreOpen}
use Rattle.esto_semantics.specs.AccessLaws.{NumbersAreStated}
use Rattle.esto_semantics.specs.Containment.{IsSatisfiable}
use Rattle.esto_semantics.specs.Facts.{Database, image}
use Rattle.esto_semantics.specs.Listed.{IsExecutableRewriting}
use Rattle.esto_semantics.specs.Maps.{Keeps, SendsInto}
use Rattle.esto_semantics.specs.Queries.{ConjunctiveQuery, IsAnswer}
use Rattle.esto_term.specs.Sets.{numbers}
use Rattle.esto_semantics.specs.Views.{IsViewRow, IsFragmentAnswer}
use Rattle.esto_semantics.specs.declared.fact.Fact.{Fact}
use Rattle.esto_semantics.specs.declared.fact.Value.{Value}
use Rattle.esto_semantics.specs.declared.fact.Value.TheVariants.{Text}
use Rattle.esto_stores.specs.Rows.{Row}
use Rattle.esto_term.specs.declared.term.Term.{Term, out-Term}
use Rattle.esto_term.specs.declared.term.Term.TheOpen.{Term-F}
use Rattle.esto_term.specs.declared.term.Term.TheVariants.{Plain, outs-Const, outs-Plain}
use Rattle.esto_term.proofs.ListLemmas.{Contains-flat, Contains-flat_from, Contains-head, Contains-map, Contains-map_from, Contains-nil, Contains-one}
use Rattle.esto_bench.specs.Case.{below, made_atom, made_database, made_fact, made_query, made_patterns, made_rows, made_row, made_view, made_views}
use Rattle.esto_bench.specs.Case.{without_inputs}
use Rattle.esto_bench.proofs.BothLemmas.{below_bound, below_there, both_at, mapped_from}
use Rattle.esto_bench.proofs.CaseLemmas.{chain, chain_atom, chain_is}

-- ---- a map of terms from values of variables

abbrev value_by_kind : (ℕ → Value) → Term-F Term → Value
value_by_kind values (Term-F.Const text) = Text text
value_by_kind values (Term-F.Plain variable) = values variable
value_by_kind values (Term-F.Made rule _ _) = values rule

abbrev valued : (ℕ → Value) → Term → Value
valued values term = value_by_kind values (out-Term term)

valued-keeps : (values : ℕ → Value) → Keeps Text (valued values)
valued-keeps values text = ap (value_by_kind values) (outs-Const text)

valued-plain : (values : ℕ → Value) (variable : ℕ) → valued values (Plain variable) ≡ values variable
valued-plain values variable = ap (value_by_kind values) (outs-Plain variable)

abbrev first_or : Value → Value → ℕ → Value
first_or first second zero = first
first_or first second (suc more) = second

-- ---- the rows of one view

abbrev pub pair_fact : ℕ → Value → Value → Fact Value
pair_fact relation first second = record { relation = relation; terms = first ∷ second ∷ [] }

module _ (database : Database) (relation : ℕ) where
  -- a row of the view has two values, and is a fact of the relation
  pub answer_pair : (values : List Value) → IsAnswer (made_view relation) database values
      → (first second : Value) × (values ≡ first ∷ second ∷ []) × Contains database (pair_fact relation first second)
  answer_pair values (m, keeps, sends, is) =
      let atom : Fact Term = record { relation = relation; terms = Plain 0 ∷ Plain 1 ∷ [] } in
      (m (Plain 0), m (Plain 1), is, sends atom (Contains-head atom []))

  pub pair_answer : (first second : Value) → Contains database (pair_fact relation first second) → IsAnswer (made_view relation) database (first ∷ second ∷ [])
  pair_answer first second there =
      let values = first_or first second in
      let at_first : valued values (Plain 0) ≡ first = valued-plain values 0 in
      let at_second : valued values (Plain 1) ≡ second = valued-plain values 1 in (
        valued values,
        valued-keeps values,
        (λ fact inside. subst (λ (it : Fact Term). Contains database (image (valued values) it)) (Contains-one _ fact inside)
            (subst (Contains database) (λ i. pair_fact relation (sym at_first i) (sym at_second i)) there)),
        (λ i. sym at_first i ∷ sym at_second i ∷ []),
      )

-- ---- the rows of all views

module _ (size : ℕ) (database : Database) where
  same_view : (one other : ConjunctiveQuery) → Some one ≡ Some other → one ≡ other
  same_view one other same = cc

  module _ (number : ℕ) (within : number < 2 * size) where
    pub row_pair : (values : List Value) → IsViewRow (made_views size) database (record { relation = number; terms = values })
        → (first second : Value) × (values ≡ first ∷ second ∷ []) × Contains database (pair_fact (number / 2) first second)
    row_pair values (view, there, answer) =
        let is : view ≡ made_view (number / 2) = same_view view (made_view (number / 2)) (sym there ∙ both_at made_view size number within) in
        answer_pair database (number / 2) values (subst (λ it. IsAnswer it database values) is answer)

    pub pair_row : (first second : Value) → Contains database (pair_fact (number / 2) first second)
        → IsViewRow (made_views size) database (pair_fact number first second)
    pair_row first second there = (made_view (number / 2), both_at made_view size number within, pair_answer database (number / 2) first second there)

-- ---- the made rows

module _ (size : ℕ) where
  -- a fact of the made database is of a row of its relation
  pub made_from : (fact : Fact Value) → Contains (made_database size) fact
      → (fact.relation < size) × ((row : Row) × Contains (made_rows fact.relation) row × (fact.terms ≡ map Text row))
  made_from fact inside =
      let of_relation = Contains-flat_from (λ relation. map (made_fact relation) (made_rows relation)) (below size) fact inside in
      let of_row = Contains-map_from (made_fact of_relation.0) (made_rows of_relation.0) fact of_relation.2 in
      let same : of_relation.0 ≡ fact.relation = ap (λ (it : Fact Value). it.relation) of_row.2 in (
        subst (λ (it : ℕ). it < size) same (below_bound size of_relation.0 of_relation.1),
        (of_row.0, subst (λ it. Contains (made_rows it) of_row.0) same of_row.1, sym (ap (λ (it : Fact Value). it.terms) of_row.2)),
      )

  pub made_there : (relation : ℕ) → relation < size → (row : Row) → Contains (made_rows relation) row → Contains (made_database size) (made_fact relation row)
  made_there relation less row inside =
      Contains-flat (λ it. map (made_fact it) (made_rows it)) (below size) relation (made_fact relation row) (below_there size relation less)
      (Contains-map (made_fact relation) (made_rows relation) row inside)

  -- the rows of a fragment's view over the made database are the made ones of the relation
  pub view_rows : (fact : Fact Value) → fact.relation < 2 * size
      → IsViewRow (made_views size) (made_database size) fact
      ↔ ((row : Row) × Contains (made_rows (fact.relation / 2)) row × (fact.terms ≡ map Text row))
  view_rows fact within = (
    (λ is_row. let pair = row_pair size (made_database size) fact.relation within fact.terms is_row in
        let found = (made_from (pair_fact (fact.relation / 2) pair.0 pair.1) pair.3).1 in
        (found.0, found.1, pair.2 ∙ found.2)),
    (λ (row, inside, is). from_row row inside is),
  )
    where
      from_row : (row : Row) → Contains (made_rows (fact.relation / 2)) row → fact.terms ≡ map Text row
          → IsViewRow (made_views size) (made_database size) fact
      from_row row inside is =
          let half : fact.relation / 2 < size = omega (arith, within) in
          let there = made_there (fact.relation / 2) half row inside in
          let made = mapped_from (made_row (fact.relation / 2)) 97 row inside in
          subst (λ it. IsViewRow (made_views size) (made_database size) (record { relation = fact.relation; terms = it }))
          (sym (is ∙ ap (map Text) made.2))
          (pair_row size (made_database size) fact.relation within _ _
          (subst (λ it. Contains (made_database size) (made_fact (fact.relation / 2) it)) made.2 there))

-- ---- the query by the fragments A

-- the query over fragments whose atoms are over the fragments A
abbrev pub fragment_a : ℕ → ℕ
fragment_a relation = 2 * relation

half_double : (relation : ℕ) → 2 * relation / 2 ≡ relation
half_double relation = omega arith

module _ (size : ℕ) (database : Database) where
  atom_same : (m : Term → Value) (relation : ℕ) → relation < size
      → IsViewRow (made_views size) database (image m (chain_atom fragment_a relation)) ↔ Contains database (image m (made_atom relation))
  atom_same m relation less =
      let within : 2 * relation < 2 * size = omega (arith, less) in
      let half = half_double relation in (
        (λ is_row. let pair = row_pair size database (2 * relation) within (m (Plain relation) ∷ m (Plain (relation + 1)) ∷ []) is_row in
            subst (Contains database) (pair_same pair.0 pair.1 (sym pair.2) half) pair.3),
        (λ there. pair_row size database (2 * relation) within (m (Plain relation)) (m (Plain (relation + 1)))
            (subst (λ it. Contains database (pair_fact it (m (Plain relation)) (m (Plain (relation + 1))))) (sym half) there)),
      )
    where
      pair_same : (first second : Value) → first ∷ second ∷ [] ≡ m (Plain relation) ∷ m (Plain (relation + 1)) ∷ [] → 2 * relation / 2 ≡ relation
          → pair_fact (2 * relation / 2) first second ≡ image m (made_atom relation)
      pair_same first second same half = λ i. record { relation = half i; terms = same i }

  sends_same : (m : Term → Value)
      → SendsInto m (chain fragment_a size).body (IsViewRow (made_views size) database) ↔ SendsInto m (made_query size).body (Contains database)
  sends_same m = (
    (λ sends fact there. let found = mapped_from made_atom size fact there in
        subst (λ it. Contains database (image m it)) (sym found.2)
        ((atom_same m found.0 found.1).0 (sends (chain_atom fragment_a found.0) (there_at (chain_atom fragment_a) found.0 found.1)))),
    (λ sends fact there. let found = mapped_from (chain_atom fragment_a) size fact there in
        subst (λ it. IsViewRow (made_views size) database (image m it)) (sym found.2)
        ((atom_same m found.0 found.1).1 (sends (made_atom found.0) (there_at made_atom found.0 found.1)))),
  )
    where
      there_at : (f : ℕ → Fact Term) (relation : ℕ) → relation < size → Contains (map f (below size)) (f relation)
      there_at f relation less = Contains-map f (below size) relation (below_there size relation less)

  -- its answers are those of the made query
  pub answers_same : (values : List Value) → IsFragmentAnswer (made_views size) (chain fragment_a size) database values
      ↔ IsAnswer (made_query size) database values
  answers_same values = (
    (λ (m, keeps, sends, is). (m, keeps, (sends_same m).0 sends, is)),
    (λ (m, keeps, sends, is). (m, keeps, (sends_same m).1 sends, is)),
  )

-- ---- what follows for the made query

-- a query is satisfiable where there are no rules
pub satisfied : (query : ConjunctiveQuery) → IsSatisfiable [] query
satisfied query =
    let m = valued (λ (variable : ℕ). Text []) in (
      map (image m) query.body,
      (λ rule inside. absurd (Contains-nil rule inside)),
      (map m query.head, (m, valued-keeps (λ (variable : ℕ). Text []), (λ fact inside. Contains-map (image m) query.body fact inside), refl)),
    )

no_input : (column : ℕ) → slice_get (false ∷ false ∷ []) column ≡ Some true → ⊥
no_input zero is = let clash : Some false ≡ Some true = is in cc
no_input (suc zero) is = let clash : Some false ≡ Some true = is in cc
no_input (suc (suc column)) is = cc

module _ (size : ℕ) where
  atoms_open : AreOpen (made_patterns size) (chain fragment_a size).body
  atoms_open atom inside =
      let found = mapped_from (chain_atom fragment_a) size atom inside in
      let at : slice_get (made_patterns size) (2 * found.0) ≡ Some (without_inputs (2 * found.0 / 2)) =
      both_at without_inputs size (2 * found.0) (omega (arith, found.1)) in
      let relation : 2 * found.0 ≡ atom.relation = sym (ap (λ (it : Fact Term). it.relation) found.2) in
      let own : get_or (made_patterns size) atom.relation [] ≡ without_inputs (2 * found.0 / 2) =
      ap (λ (it : ℕ). get_or (made_patterns size) it []) (sym relation) ∙ get_or_from_slice_get (made_patterns size) (2 * found.0) _ [] at in (
        false ∷ false ∷ [],
        subst (λ it. Contains it (false ∷ false ∷ [])) (sym own) (Contains-head (false ∷ false ∷ []) []),
        no_input,
      )

  -- it is an executable rewriting of the made query
  pub rewrites : 0 < size → NumbersAreStated → IsExecutableRewriting [] (made_views size) (made_patterns size) (made_query size) (chain fragment_a size)
  rewrites some stated =
      let all = replicate (length (chain fragment_a size).body) true in record {
        is_query = chain_is fragment_a size some;
        executable = (
          numbers all,
          (stated (made_patterns size) (chain fragment_a size).body atoms_open all (length-replicate (length (chain fragment_a size).body) true)).is_order,
        );
        equivalent = (
          (λ database meets row answer. (answers_same size database row).0 answer),
          (λ database meets row answer. (answers_same size database row).1 answer),
        );
      }
