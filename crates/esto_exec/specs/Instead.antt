-- What one get and the rows that it reads are, where they stand for a get that may have inputs.
use Rattle.std.specs.Prelude.{◌≡◌, ◌⊎◌, ℕ, List, Some, map, length, slice_get, Contains}
use Rattle.esto_columns.specs.Asked.{Shape, IsAllowed}
use Rattle.esto_semantics.specs.declared.fact.Fact.{Fact}
use Rattle.esto_steps.specs.declared.steps.Get.{Get}
use Rattle.esto_exec.specs.Given.{IsFreed, IsLike, IsWhole}
use Rattle.esto_exec.specs.declared.given.Given.{Given}
use Rattle.esto_exec.specs.declared.given.Given.TheVariants.{Own, Asked}
use Rattle.esto_exec.specs.declared.slots.Equation.{Equation}

-- How what a get reads can be asked: as its fragment, or in the ways of the rows.
abbrev pub given_shape : {F : Type 0} → (F → Shape) → Given F → Shape
given_shape shape (Own fragment) = shape fragment.now
given_shape shape (Asked stored) = record { arity = stored.rows.arity; ways = stored.ways }

-- The rows of what a get reads.
abbrev pub given_rows : {F : Type 0} → (F → List (List ℕ)) → Given F → List (List ℕ)
given_rows rows (Own fragment) = rows fragment.now
given_rows rows (Asked stored) = stored.rows.rows

-- The rows are among those of the get of the number, and have each that it has in a choice for all gets.
pub record AreEnough (Holds : Fact ℕ → Type 0) (arities : List ℕ) (gets : List Get) (equations : List Equation) (number : ℕ)
    (rows : List (List ℕ)) : Type 0 where
  pub sound : (get : Get) (row : List ℕ) → slice_get gets number ≡ Some get → Contains rows row → Holds (record { relation = get.fragment; terms = row })
  pub complete : (get : Get) (choice : ℕ → List ℕ) → slice_get gets number ≡ Some get → IsWhole Holds arities gets equations choice
      → Contains rows (choice number)

-- The own get stands for that of the number: it has its links or is freed of its inputs, and reads the rows of the
-- number, of this shape, by which its inputs may be asked.
pub record IsInstead (arities : List ℕ) (gets : List Get) (number : ℕ) (own : Get) (shape : Shape) : Type 0 where
  pub fragment : own.fragment ≡ number
  pub links : (get : Get) → slice_get gets number ≡ Some get → IsFreed arities number get own ⊎ IsLike get own
  pub allowed : IsAllowed shape (map (λ link. link.column) own.inputs)

-- Own gets, and what they read, stand for the first gets, one by one.
pub record AreInstead (Holds : Fact ℕ → Type 0) (arities : List ℕ) (gets : List Get) (equations : List Equation) (owns : List Get) (shapes : List Shape)
    (rows : List (List (List ℕ))) : Type 0 where
  pub shapes_long : length shapes ≡ length owns
  pub rows_long : length rows ≡ length owns
  pub instead : (number : ℕ) (own : Get) (shape : Shape) → slice_get owns number ≡ Some own → slice_get shapes number ≡ Some shape
      → IsInstead arities gets number own shape
  pub enough : (number : ℕ) (own : List (List ℕ)) → slice_get rows number ≡ Some own → AreEnough Holds arities gets equations number own
