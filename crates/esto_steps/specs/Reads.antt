-- What a join reads of a fragment's row.
use Rattle.std.specs.Prelude.{◌≡◌, ℕ, ◌-◌, nat_lt, cond, List, [], ◌∷◌, ◌++◌, map, flat_map, Contains}
use Rattle.esto_steps.specs.declared.steps.Get.{Get}
use Rattle.esto_steps.specs.declared.steps.Link.{Link}
use Rattle.esto_steps.specs.declared.steps.Source.{Source}
use Rattle.esto_steps.specs.declared.steps.Source.TheVariants.{Code, Cell}
use Rattle.esto_steps.specs.Meaning.{code_at}
use Rattle.esto_steps.specs.Named.{NamesCodes}

-- What the source names past so many cells, as a cell of the row that stands there.
abbrev pub own_cells : ℕ → Source → List Source
own_cells width (Code code) = []
own_cells width (Cell place) = cond (nat_lt place width) [] (Cell (place - width) ∷ [])

-- What the filter reads of the row that stands past so many cells.
abbrev pub filter_cells : ℕ → Link → List Source
filter_cells width link = Cell link.column ∷ own_cells width link.source

-- The cells of the fragment's row, past so many, that the links of the get and what is kept read.
abbrev pub read_cells : ℕ → Get → List Source → List Source
read_cells width get kept =
    (map (λ (link : Link). Cell link.column) get.inputs ++ flat_map (filter_cells width) get.filters) ++ flat_map (own_cells width) kept

-- The rows have the same codes there.
abbrev pub AgreeOn : List Source → List ℕ → List ℕ → Type 0
AgreeOn cells row other = (cell : Source) → Contains cells cell → code_at row cell ≡ code_at other cell

-- The few are some of the rows, and for each of the rows one of them has the same codes there.
pub record StandFor (cells : List Source) (rows few : List (List ℕ)) : Type 0 where
  pub among : (row : List ℕ) → Contains few row → Contains rows row
  pub one : (row : List ℕ) → Contains rows row → (other : List ℕ) × Contains few other × AgreeOn cells row other

-- The few stand for the rows, and each key that was seen is that of the cells of one of them.
pub record AreStood (cells : List Source) (rows seen few : List (List ℕ)) : Type 0 where
  pub stand : StandFor cells rows few
  pub known : (key : List ℕ) → Contains seen key → (row : List ℕ) × Contains few row × NamesCodes row cells key
