-- A pattern as a query over the facts of a tree, and the query's rows as valuations.
use Rattle.std.specs.Prelude.{◌≡◌, ◌↔◌, ℕ, List, [], ◌∷◌, map, drop, Contains}
use Rattle.std.specs.FinMap.{empty, insert}
use Rattle.esto_term.specs.declared.term.Term.{Term}
use Rattle.esto_term.specs.declared.term.Term.TheVariants.{Const, Plain}
use Rattle.esto_semantics.specs.Maps.{Keeps}
use Rattle.esto_semantics.specs.declared.fact.Fact.{Fact}
use Rattle.esto_semantics.specs.Valuations.{Assignment}
use Rattle.esto_docmodel.specs.Encodings.{atoms_of}
use Rattle.esto_docmodel.specs.Meanings.{AreFresh}
use Rattle.esto_docmodel.specs.Forests.{Node}
use Rattle.esto_docmodel.specs.Patterns.{Entries, Matches, Mentions}

-- The list has exactly the variables that stand after `:`.
abbrev pub AreVariables : Entries → List ℕ → Type 0
AreVariables entries variables = (variable : ℕ) → Contains variables variable ↔ Mentions entries (Plain variable)

-- The head that asks for the variables' terms. It begins with a constant, so it is not empty.
abbrev pub head_of : List ℕ → List Term
head_of variables = Const [] ∷ map Plain variables

-- The atoms encode the entries, with numbers that are free.
abbrev pub IsEncoding : Entries → List (Fact Term) → Type 0
IsEncoding entries body = (root : ℕ) × (next : ℕ) × AreFresh entries root next × (body ≡ atoms_of 0 entries root next)

-- The rows are the images of that head under the maps that keep constants and match the entries in the node.
abbrev pub AreRows : Entries → Node → List ℕ → List (List Term) → Type 0
AreRows entries start variables rows = (row : List Term) → Contains rows row
    ↔ ((m : Term → Term) × Keeps Const m × Matches m entries start × (row ≡ map m (head_of variables)))

-- The valuation with these terms for the variables, in order.
abbrev pub given : Assignment → List ℕ → List Term → Assignment
given known [] terms = known
given known (variable ∷ rest) [] = known
given known (variable ∷ rest) (term ∷ terms) = given (insert known variable term) rest terms

-- The valuation of a row of that head.
abbrev pub valuation_of : List ℕ → List Term → Assignment
valuation_of variables row = given empty variables (drop 1 row)
