-- Syntax trees.
use Rattle.std.specs.Prelude.{List, [], ◌∷◌}
use Rattle.esto_text.specs.declared.token.Token.{Token}
use Rattle.std.specs.List.{AllByRecursion}
use Rattle.esto_text.specs.declared.tree.StepSyntax.{StepSyntax}
use Rattle.esto_text.specs.declared.tree.StepSyntax.TheVariants.{Field}

mutual
  -- An entry is a path with a term or a group at its end.
  pub data EntryTree : Type 0 where
    Value : (path : List StepSyntax) → (term : Token) → EntryTree
    Nested : (path : List StepSyntax) → (entries : EntryTrees) → EntryTree

  -- A list of entries.
  pub data EntryTrees : Type 0 where
    NoEntry : EntryTrees
    AndEntry : (first : EntryTree) → (others : EntryTrees) → EntryTrees

-- An item is an atom of a table, an atom of a part of a dataset, or a pattern.
pub data ItemTree : Type 0 where
  Atom : (name : Token) → (terms : List Token) → ItemTree
  Part : (name part : Token) → (terms : List Token) → ItemTree
  Pattern : (name : Token) → (entries : EntryTrees) → ItemTree

-- A query or a view is a name, the variables of its head, and the items of its body.
pub record QueryTree : Type 0 where
  pub name : Token
  pub variables : List Token
  pub items : List ItemTree

-- The head of a constraint is the items of a tuple rule, the name and the term of an equality, or what makes it a denial.
pub data HeadTree : Type 0 where
  Items : (items : List ItemTree) → HeadTree
  Equality : (left right : Token) → HeadTree
  Never : HeadTree

-- A constraint is the items of its body, and its head.
pub record ConstraintTree : Type 0 where
  pub body : List ItemTree
  pub head : HeadTree

-- Each field name of a path has the property.
abbrev pub EachOfPath : (Token → Type 0) → List StepSyntax → Type 0
EachOfPath F [] = Unit {0}
EachOfPath F (Field name ∷ path) = F name × EachOfPath F path
EachOfPath F (_ ∷ path) = EachOfPath F path

abbrev mutual
  -- Each field name of an entry has the first property, and each term the second.
  pub EachOfEntry : (Token → Type 0) → (Token → Type 0) → EntryTree → Type 0
  EachOfEntry F T (Value path term) = EachOfPath F path × T term
  EachOfEntry F T (Nested path entries) = EachOfPath F path × EachOfEntries F T entries

  -- The same of a list of entries.
  pub EachOfEntries : (Token → Type 0) → (Token → Type 0) → EntryTrees → Type 0
  EachOfEntries F T NoEntry = Unit {0}
  EachOfEntries F T (AndEntry first others) = EachOfEntry F T first × EachOfEntries F T others

-- Each name of an item has the first property, each field name the second, and each term the third.
abbrev pub EachOfItem : (Token → Type 0) → (Token → Type 0) → (Token → Type 0) → ItemTree → Type 0
EachOfItem N F T (Atom name terms) = N name × AllByRecursion T terms
EachOfItem N F T (Part name part terms) = N name × N part × AllByRecursion T terms
EachOfItem N F T (Pattern name entries) = N name × EachOfEntries F T entries

-- Each name of a query or a view, its variables included, has the first property, each field name the second, and each term the third.
abbrev pub EachOfQuery : (Token → Type 0) → (Token → Type 0) → (Token → Type 0) → QueryTree → Type 0
EachOfQuery N F T query = N query.name × AllByRecursion N query.variables × AllByRecursion (EachOfItem N F T) query.items

-- Each name of a constraint's head has the first property, each field name the second, and each term the third. The left side of an equality is a name.
abbrev pub EachOfHead : (Token → Type 0) → (Token → Type 0) → (Token → Type 0) → HeadTree → Type 0
EachOfHead N F T (Items items) = AllByRecursion (EachOfItem N F T) items
EachOfHead N F T (Equality left right) = N left × T right
EachOfHead N F T Never = Unit {0}

-- Each name of a constraint has the first property, each field name the second, and each term the third.
abbrev pub EachOfConstraint : (Token → Type 0) → (Token → Type 0) → (Token → Type 0) → ConstraintTree → Type 0
EachOfConstraint N F T constraint = AllByRecursion (EachOfItem N F T) constraint.body × EachOfHead N F T constraint.head
