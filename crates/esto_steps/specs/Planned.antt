-- The steps of a query over fragments whose atoms stand in an order.
use Rattle.std.specs.Prelude.{◌≡◌, ◌⊎◌, ℕ, ◌<◌, ◌+◌, Bool, true, cond, List, [], ◌∷◌, ◌++◌, Some, length, map, take, slice_get, slice_index_or, Contains}
use Rattle.std.specs.Prelude.{option_to_list}
use Rattle.std.specs.List.{AllZip}
use Rattle.esto_term.specs.declared.term.Term.{Term}
use Rattle.esto_term.specs.declared.term.Term.TheVariants.{Const}
use Rattle.esto_semantics.specs.Access.{Patterns, IsOrder}
use Rattle.esto_semantics.specs.Listed.{IsSafe}
use Rattle.esto_semantics.specs.Maps.{IsConstant}
use Rattle.esto_semantics.specs.Queries.{ConjunctiveQuery}
use Rattle.esto_semantics.specs.declared.fact.Fact.{Fact}
use Rattle.esto_steps.specs.declared.steps.Get.{Get}
use Rattle.esto_steps.specs.declared.steps.Link.{Link}
use Rattle.esto_steps.specs.declared.steps.Source.{Source}
use Rattle.esto_steps.specs.declared.steps.Source.TheVariants.{Code, Cell}
use Rattle.esto_steps.specs.declared.steps.Steps.{Steps}

-- The source gives the term where the cells of a row stand for the bound terms: for a constant it is the code of its text, the text's place among the texts,
-- and for another term a place of the term among the bound ones.
abbrev pub IsSource : List (List ℕ) → List Term → Term → Source → Type 0
IsSource texts bound term source =
    ((text : List ℕ) × (code : ℕ) × (term ≡ Const text) × (slice_get texts code ≡ Some text) × (source ≡ Code code))
    ⊎ ((place : ℕ) × (slice_get bound place ≡ Some term) × (source ≡ Cell place) × ¬ (IsConstant term))

-- The link joins its column to a source of the term that the atom has there.
abbrev pub IsLink : List (List ℕ) → List Term → List Term → Link → Type 0
IsLink texts bound terms link = (term : Term) × (slice_get terms link.column ≡ Some term) × IsSource texts bound term link.source

-- The term is new after the bound ones: a variable that is none of them.
pub record IsNew (bound : List Term) (term : Term) : Type 0 where
  pub variable : ¬ (IsConstant term)
  pub absent : ¬ (Contains bound term)

-- The term is known after the bound ones: it is a constant, or one of them.
abbrev pub IsKnown : List Term → Term → Type 0
IsKnown bound term = IsConstant term ⊎ Contains bound term

-- The columns of a pattern's inputs, in rising order, where the first of its truth values is that of this column.
abbrev pub inputs_from : ℕ → List Bool → List ℕ
inputs_from column [] = []
inputs_from column (input ∷ rest) = cond input (column ∷ inputs_from (column + 1) rest) (inputs_from (column + 1) rest)

-- The columns of a pattern's inputs, in rising order.
abbrev pub inputs_of : List Bool → List ℕ
inputs_of pattern = inputs_from 0 pattern

-- The pattern can be met at the place after the bound terms: each of its inputs has a known term.
abbrev pub CanMeet : List Term → List Term → List Bool → Type 0
CanMeet bound terms pattern =
    (column : ℕ) (term : Term) → slice_get pattern column ≡ Some true → slice_get terms column ≡ Some term → IsKnown bound term

-- The pattern is the first of the fragment's that can be met.
abbrev pub IsFirstMet : List (List Bool) → List Term → List Term → List Bool → Type 0
IsFirstMet patterns bound terms pattern =
    (number : ℕ) × (slice_get patterns number ≡ Some pattern) × CanMeet bound terms pattern
    × ((lesser : ℕ) (other : List Bool) → lesser < number → slice_get patterns lesser ≡ Some other → ¬ (CanMeet bound terms other))

-- The get is that of the atom after the bound terms: it names the input columns of the first pattern that can be met, and every other column that holds a known
-- term, or one that the atom has at an earlier column, is filtered.
pub record IsGetOf (texts : List (List ℕ)) (patterns : List (List Bool)) (bound : List Term) (atom : Fact Term) (get : Get) : Type 0 where
  pub fragment : get.fragment ≡ atom.relation
  pub columns : (pattern : List Bool) × IsFirstMet patterns bound atom.terms pattern × (map (λ link. link.column) get.inputs ≡ inputs_of pattern)
  pub inputs : (link : Link) → Contains get.inputs link → IsLink texts bound atom.terms link
  pub filters : (link : Link) → Contains get.filters link → IsLink texts (bound ++ take link.column atom.terms) atom.terms link
  pub complete : (column : ℕ) (term : Term) → slice_get atom.terms column ≡ Some term
      → IsNew (bound ++ take column atom.terms) term ⊎ ((link : Link) × (link.column ≡ column) × (Contains get.inputs link ⊎ Contains get.filters link))

-- The gets are those of the atoms, one each, after the bound terms, and the sources give the head at the end.
abbrev pub AreStepsAfter : List (List ℕ) → Patterns → List Term → List Source → List Term → List (Fact Term) → List Get → Type 0
AreStepsAfter texts patterns head sources bound [] [] = AllZip (IsSource texts bound) head sources
AreStepsAfter texts patterns head sources bound [] (get ∷ gets) = ⊥
AreStepsAfter texts patterns head sources bound (atom ∷ atoms) [] = ⊥
AreStepsAfter texts patterns head sources bound (atom ∷ atoms) (get ∷ gets) =
    IsGetOf texts (slice_index_or patterns atom.relation []) bound atom get × AreStepsAfter texts patterns head sources (bound ++ atom.terms) atoms gets

-- The steps are those of the query over fragments, whose atoms are taken in order.
abbrev pub AreStepsOf : List (List ℕ) → Patterns → ConjunctiveQuery → Steps → Type 0
AreStepsOf texts patterns query steps = AreStepsAfter texts patterns query.head steps.head [] query.body steps.gets

-- A fact that holds has as many values as an atom of its relation has terms.
abbrev pub Fits : List (Fact Term) → (Fact ℕ → Type 0) → Type 0
Fits atoms Holds = (atom : Fact Term) (fact : Fact ℕ) → Contains atoms atom → Holds fact → fact.relation ≡ atom.relation → length atom.terms ≡ length fact.terms

-- The atoms that the numbers name, in order.
abbrev pub atoms_of : List (Fact Term) → List ℕ → List (Fact Term)
atoms_of atoms [] = []
atoms_of atoms (number ∷ numbers) = option_to_list (slice_get atoms number) ++ atoms_of atoms numbers

-- The query with its atoms in the order.
abbrev pub ordered : ConjunctiveQuery → List ℕ → ConjunctiveQuery
ordered query order = record { head = query.head; body = atoms_of query.body order }

-- The atoms can be planned after the bound terms: each has a pattern that can be met at its place, and its patterns have as many columns as it has terms.
abbrev pub CanPlan : Patterns → List Term → List (Fact Term) → Type 0
CanPlan patterns bound [] = Unit {0}
CanPlan patterns bound (atom ∷ atoms) =
    ((pattern : List Bool) × Contains (slice_index_or patterns atom.relation []) pattern × CanMeet bound atom.terms pattern)
    × ((pattern : List Bool) → Contains (slice_index_or patterns atom.relation []) pattern → length pattern ≡ length atom.terms)
    × CanPlan patterns (bound ++ atom.terms) atoms

-- The order is one of a safe set of the plan's atoms.
abbrev pub IsSafeOrder : Patterns → ConjunctiveQuery → List ℕ → Type 0
IsSafeOrder patterns plan order = (set : List Bool) × IsOrder patterns plan.body set order × IsSafe plan set
