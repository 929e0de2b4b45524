-- Lines of a certificate in print.
use Rattle.std.specs.Prelude.{◌≡◌, ◌≢◌, ℕ, ◌≤◌, List, [], ◌∷◌, ◌++◌, Some, codes, Contains}
use Rattle.std.specs.Fmt.{decimal}
use Rattle.esto_term.specs.Nesting.{greatest_u64}
use Rattle.esto_cert.specs.Lines.{line_of}
use Rattle.esto_cert.specs.declared.line.Line.{Line}
use Rattle.esto_cert.specs.declared.line.Line.TheVariants.{Expanded, Step, Match}

-- Each of the numbers, with a comma before it.
abbrev pub after_commas : List ℕ → List ℕ
after_commas [] = []
after_commas (number ∷ numbers) = codes "," ++ (decimal number ++ after_commas numbers)

-- The numbers of a list between commas, or a minus for none.
abbrev pub list_text : List ℕ → List ℕ
list_text [] = codes "-"
list_text (number ∷ numbers) = decimal number ++ after_commas numbers

-- A line in print, without the line feed that ends it.
abbrev pub line_text : Line → List ℕ
line_text (Expanded atom place) = codes "fact " ++ (decimal atom ++ (codes " " ++ decimal place))
line_text (Step number place facts links) =
    codes "step " ++ (decimal number ++ (codes " " ++ (decimal place ++ (codes " " ++ (list_text facts ++ (codes " " ++ list_text links))))))
line_text (Match facts links) = codes "match " ++ (list_text facts ++ (codes " " ++ list_text links))

-- Each of the numbers is at most the greatest of 64 bits.
abbrev pub Fit : List ℕ → Type 0
Fit numbers = (number : ℕ) → Contains numbers number → number ≤ greatest_u64

-- The line's numbers are at most the greatest of 64 bits, and it names a fact unless it is an expanded one.
abbrev pub IsReadable : Line → Type 0
IsReadable (Expanded atom place) = (atom ≤ greatest_u64) × (place ≤ greatest_u64)
IsReadable (Step number place facts links) = (number ≤ greatest_u64) × (place ≤ greatest_u64) × (facts ≢ []) × Fit facts × Fit links
IsReadable (Match facts links) = (facts ≢ []) × Fit facts × Fit links

-- A line in print says what the line says.
abbrev pub LinesAreReadBack : Type 0
LinesAreReadBack = (line : Line) → IsReadable line → line_of (line_text line) ≡ Some line
