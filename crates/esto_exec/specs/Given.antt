-- Gets that read rows which were asked for beforehand, in place of their fragments.
use Rattle.std.specs.Prelude.{◌≡◌, ◌≢◌, ◌⊎◌, ℕ, ◌<◌, List, [], ◌++◌, Some, length, slice_get, take, Contains}
use Rattle.esto_semantics.specs.declared.fact.Fact.{Fact}
use Rattle.esto_steps.specs.declared.steps.Get.{Get}
use Rattle.esto_steps.specs.declared.steps.Link.{Link}
use Rattle.esto_exec.specs.Slots.{side_of, IsChoice}
use Rattle.esto_exec.specs.declared.slots.Equation.{Equation}
use Rattle.esto_exec.specs.declared.slots.Side.TheVariants.{Nothing}

-- The second get has no inputs; its filters are the inputs and the filters of the first, and each of these inputs names
-- a code or a cell before its row.
pub record IsFreed (arities : List ℕ) (number : ℕ) (get own : Get) : Type 0 where
  pub inputs : own.inputs ≡ []
  pub filters : own.filters ≡ get.inputs ++ get.filters
  pub sides : (link : Link) → Contains get.inputs link → side_of (take number arities) link.source ≢ Nothing

-- The two gets have the same links.
pub record IsLike (get own : Get) : Type 0 where
  pub inputs : own.inputs ≡ get.inputs
  pub filters : own.filters ≡ get.filters

-- In the choice each get has a row of its fragment, and all that the links say is met.
abbrev pub IsWhole : (Fact ℕ → Type 0) → List ℕ → List Get → List Equation → (ℕ → List ℕ) → Type 0
IsWhole Holds arities gets equations choice =
    (done : List ℕ) → ((number : ℕ) → Contains done number → number < length gets) → IsChoice Holds arities gets equations done choice

-- For each get there is another, which has its links, or is freed of its inputs. What the other one reads are rows that
-- the get reads too, and among them are all that the get has in a choice for all gets.
pub record AreGiven (Holds Given : Fact ℕ → Type 0) (arities : List ℕ) (gets owns : List Get) (equations : List Equation) : Type 0 where
  pub many : length owns ≡ length gets
  pub links : (number : ℕ) (get own : Get) → slice_get gets number ≡ Some get → slice_get owns number ≡ Some own
      → IsFreed arities number get own ⊎ IsLike get own
  pub sound : (number : ℕ) (get own : Get) (row : List ℕ) → slice_get gets number ≡ Some get → slice_get owns number ≡ Some own
      → Given (record { relation = own.fragment; terms = row }) → Holds (record { relation = get.fragment; terms = row })
  pub complete : (number : ℕ) (get own : Get) (choice : ℕ → List ℕ) → slice_get gets number ≡ Some get → slice_get owns number ≡ Some own
      → IsWhole Holds arities gets equations choice → Given (record { relation = own.fragment; terms = choice number })
