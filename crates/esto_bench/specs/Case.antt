-- The made case of a size: a chain of so many relations, each stored in two fragments that hold all of its rows. Relations, fragments and places of rows count
-- from 0 here, and from 1 in names.
use Rattle.std.specs.Prelude.{◌≡◌, ℕ, ◌+◌, ◌*◌, ◌%◌, Bool, false, List, [], ◌∷◌, ◌++◌, map, None, codes}
use Rattle.std.specs.Fmt.{decimal}
use Rattle.std.specs.List.{flat_map, range_with_len}
use Rattle.esto_term.specs.declared.term.Term.{Term}
use Rattle.esto_term.specs.declared.term.Term.TheVariants.{Plain}
use Rattle.esto_mapping.specs.declared.catalogue.Catalogue.{Catalogue}
use Rattle.esto_docmodel.specs.declared.file.Shape.TheVariants.{Table}
use Rattle.esto_docmodel.specs.declared.file.Store.{Store}
use Rattle.esto_mapping.specs.declared.dataset.Dataset.{Dataset}
use Rattle.esto_constraint.specs.Constraints.{rules_of}
use Rattle.esto_docmodel.specs.declared.file.Layout.TheVariants.{Lines}
use Rattle.esto_query.specs.Making.{query_of}
use Rattle.esto_query.specs.declared.query.Name.{Name}
use Rattle.esto_query.specs.declared.query.Name.TheVariants.{Given}
use Rattle.esto_query.specs.declared.query.Query.{Query}
use Rattle.esto_query.specs.declared.schema.Relation.{Relation}
use Rattle.esto_docmodel.specs.declared.words.DataModel.TheVariants as model
use Rattle.esto_semantics.specs.Access.{Patterns}
use Rattle.esto_semantics.specs.Facts.{Database}
use Rattle.esto_semantics.specs.Queries.{ConjunctiveQuery}
use Rattle.esto_semantics.specs.declared.fact.Fact.{Fact}
use Rattle.esto_semantics.specs.declared.fact.Value.{Value}
use Rattle.esto_semantics.specs.declared.fact.Value.TheVariants.{Text}
use Rattle.esto_views.specs.Fragments.{views_of, patterns_of, weights_of}
use Rattle.esto_bench.specs.declared.rows.TheConstants.{ROWS}

-- The numbers below a count, in order.
abbrev pub below : ℕ → List ℕ
below count = range_with_len 0 count

-- A name that is a letter and a number, which counts from 1.
abbrev pub numbered : List ℕ → ℕ → List ℕ
numbered letter number = letter ++ decimal (number + 1)

-- ---- relations and fragments

-- The relations are R1, R2 and so on, of two columns.
abbrev pub made_relation : ℕ → Relation
made_relation relation = record { name = numbered (codes "R") relation; arity = 2 }

-- The relations of the case of a size.
abbrev pub made_schema : ℕ → List Relation
made_schema size = map made_relation (below size)

-- For each relation in order there is one thing for its fragment A and one for its fragment B.
abbrev pub of_both : {X : Type 0} → (ℕ → X) → (ℕ → X) → ℕ → List X
of_both of_a of_b size = flat_map (λ relation. of_a relation ∷ of_b relation ∷ []) (below size)

-- The fragments are A1, B1, A2, B2 and so on.
abbrev pub made_fragment_names : ℕ → List (List ℕ)
made_fragment_names size = of_both (numbered (codes "A")) (numbered (codes "B")) size

-- The view of both fragments of a relation R is (x, y) :- R(x, y).
abbrev pub made_view : ℕ → ConjunctiveQuery
made_view relation = record {
  head = Plain 0 ∷ Plain 1 ∷ [];
  body = record { relation = relation; terms = Plain 0 ∷ Plain 1 ∷ [] } ∷ [];
}

-- The views of all fragments.
abbrev pub made_views : ℕ → List ConjunctiveQuery
made_views size = of_both made_view made_view size

-- Each fragment has one binding pattern, without inputs.
abbrev pub without_inputs : ℕ → List (List Bool)
without_inputs relation = (false ∷ false ∷ []) ∷ []

-- The binding patterns of all fragments.
abbrev pub made_patterns : ℕ → Patterns
made_patterns size = of_both without_inputs without_inputs size

-- A weighs 1 and B weighs 2.
abbrev pub made_weights : ℕ → List ℕ
made_weights size = of_both (λ _. 1) (λ _. 2) size

-- ---- the query

-- The atom of the relation Ri is Ri(x(i-1), xi).
abbrev pub made_atom : ℕ → Fact Term
made_atom relation = record { relation = relation; terms = Plain relation ∷ Plain (relation + 1) ∷ [] }

-- The query chains the relations: (x0, xN) :- R1(x0, x1), R2(x1, x2) and so on to RN(x(N-1), xN).
abbrev pub made_query : ℕ → ConjunctiveQuery
made_query size = record { head = Plain 0 ∷ Plain size ∷ []; body = map made_atom (below size) }

-- A variable has its number in its name.
abbrev pub made_name : ℕ → Name
made_name variable = Given (codes "x" ++ decimal variable)

-- The names of all variables of the query.
abbrev pub made_names : ℕ → List Name
made_names size = map made_name (below (size + 1))

-- ---- the rows

-- Row j of relation Ri has the cells j and (3j + i) mod 97, in decimal.
abbrev pub made_row : ℕ → ℕ → List (List ℕ)
made_row relation place = decimal place ∷ decimal ((3 * place + (relation + 1)) % ROWS) ∷ []

-- Each relation has 97 rows.
abbrev pub made_rows : ℕ → List (List (List ℕ))
made_rows relation = map (made_row relation) (below ROWS)

-- The row as a fact of the relation.
abbrev pub made_fact : ℕ → List (List ℕ) → Fact Value
made_fact relation row = record { relation = relation; terms = map Text row }

-- The facts of all relations.
abbrev pub made_database : ℕ → Database
made_database size = flat_map (λ relation. map (made_fact relation) (made_rows relation)) (below size)

-- ---- as a catalogue and a query

-- The columns of each table are x and y.
abbrev pub made_columns : List (List ℕ)
made_columns = codes "x" ∷ codes "y" ∷ []

-- Each relation is that of a table of its name, which has no file of its own.
abbrev pub made_dataset : ℕ → Dataset
made_dataset relation =
    record { name = numbered (codes "R") relation; model = model.Table; base = relation; columns = made_columns; layout = Lines; file = None }

-- The datasets of all relations.
abbrev pub made_datasets : ℕ → List Dataset
made_datasets size = map made_dataset (below size)

-- Each fragment is stored as a table, in a file of the fragment's name.
abbrev pub made_store : List ℕ → ℕ → Store
made_store letter relation = record { shape = Table made_columns; file = numbered letter relation }

-- The stores of all fragments.
abbrev pub made_stores : ℕ → List Store
made_stores size = of_both (made_store (codes "A")) (made_store (codes "B")) size

-- The catalogue has the made relations and datasets, fragments, binding patterns, weights and stores, and no rules; it doesn't ask for the core of a plan.
pub record IsMadeCatalogue (size : ℕ) (catalogue : Catalogue) : Type 0 where
  pub schema : catalogue.schema ≡ made_schema size
  pub names : map (λ fragment. fragment.name) catalogue.fragments ≡ made_fragment_names size
  pub views : views_of catalogue.fragments ≡ made_views size
  pub patterns : patterns_of catalogue.fragments ≡ made_patterns size
  pub weights : weights_of catalogue.fragments ≡ made_weights size
  pub datasets : catalogue.datasets ≡ made_datasets size
  pub stores : catalogue.stores ≡ made_stores size
  pub rules : rules_of catalogue.rules ≡ []
  pub core : catalogue.core ≡ false

-- The query is the made one, with its names.
pub record IsMadeQuery (size : ℕ) (query : Query) : Type 0 where
  pub query_is : query_of query ≡ made_query size
  pub names : query.names ≡ made_names size
