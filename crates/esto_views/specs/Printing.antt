-- Numbers, constants and terms in print.
use Rattle.std.specs.Prelude.{◌==◌, ℕ, zero, suc, ◌+◌, cond, Option, Some, None, List, [], ◌∷◌, ◌++◌, slice_get, codes}
use Rattle.std.specs.Fmt.{decimal}
use Rattle.esto_term.specs.declared.term.Term.{Term, out-Term}
use Rattle.esto_term.specs.declared.term.Term.TheOpen.{Term-F}
use Rattle.esto_query.specs.declared.query.Name.{Name}
use Rattle.esto_query.specs.declared.query.Name.TheVariants.{Given, Hidden}
use Rattle.esto_views.specs.Names.{number_from}

-- The texts of the things, each with its place, one after the other; the first has the place `from`.
abbrev pub each_from : {A : Type 0} → (ℕ → A → List ℕ) → ℕ → List A → List ℕ
each_from text from [] = []
each_from text from (thing ∷ rest) = text from thing ++ each_from text (from + 1) rest

-- A comma before each thing but the first.
abbrev pub comma_before : ℕ → List ℕ
comma_before zero = []
comma_before (suc place) = codes ","

-- A byte of a constant: a quote is doubled.
abbrev pub byte_text : ℕ → List ℕ
byte_text byte = cond (byte == 39) (codes "''") (byte ∷ [])

-- A constant: its text between quotes, with each quote doubled.
abbrev pub constant_text : List ℕ → List ℕ
constant_text constant = codes "'" ++ each_from (λ _ byte. byte_text byte) 0 constant ++ codes "'"

-- A variable, by what stands at its number in the names: its name where one is given, and else `_` and its number among those without a name.
abbrev pub variable_text : List ℕ → ℕ → Option Name → List ℕ
variable_text nameless variable None = codes "_" ++ decimal (number_from 1 nameless variable)
variable_text nameless variable (Some (Given name)) = name
variable_text nameless variable (Some Hidden) = codes "_" ++ decimal (number_from 1 nameless variable)

-- One level of a term. A plan has no made term; one would be `_`.
abbrev pub level_text : List Name → List ℕ → Term-F Term → List ℕ
level_text names nameless (Term-F.Const constant) = constant_text constant
level_text names nameless (Term-F.Plain variable) = variable_text nameless variable (slice_get names variable)
level_text names nameless (Term-F.Made _ _ _) = codes "_"

-- A term.
abbrev pub term_text : List Name → List ℕ → Term → List ℕ
term_text names nameless term = level_text names nameless (out-Term term)

-- Terms between parentheses, with commas and no spaces.
abbrev pub terms_text : List Name → List ℕ → List Term → List ℕ
terms_text names nameless terms = codes "(" ++ each_from (λ place term. comma_before place ++ term_text names nameless term) 0 terms ++ codes ")"

-- Numbers of atoms, counted from 1, with commas and no spaces.
abbrev pub numbers_text : List ℕ → List ℕ
numbers_text atoms = each_from (λ place atom. comma_before place ++ decimal (atom + 1)) 0 atoms

-- A line of a word and a number.
abbrev pub count_line : List ℕ → ℕ → List ℕ
count_line word count = word ++ decimal count ++ codes "\n"
