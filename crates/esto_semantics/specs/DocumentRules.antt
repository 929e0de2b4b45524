-- The rules that the facts of documents and of keys meet.
use Rattle.std.specs.Prelude.{ℕ, ◌+◌, List, [], ◌∷◌, ◌++◌, map}
use Rattle.esto_term.specs.declared.term.Term.{Term}
use Rattle.esto_term.specs.declared.term.Term.TheVariants.{Plain}
use Rattle.esto_semantics.specs.Rules.{Rule, tuple, equality, denial}
use Rattle.esto_semantics.specs.declared.fact.Fact.{Fact}

-- An atom over variables.
abbrev pub atom : ℕ → List ℕ → Fact Term
atom relation variables = record { relation = relation; terms = map Plain variables }

-- The five relations of documents stand one after another from the base on. The first is root(n): node n is a document.
abbrev pub root : ℕ → List ℕ → Fact Term
root base = atom (base + 0)

-- The second is field(n,k,m): node m is the field of node n by the name k.
abbrev pub field : ℕ → List ℕ → Fact Term
field base = atom (base + 1)

-- The third is item(n,m): node m is an item of node n.
abbrev pub item : ℕ → List ℕ → Fact Term
item base = atom (base + 2)

-- The fourth is value(n,v): node n holds the text v.
abbrev pub value : ℕ → List ℕ → Fact Term
value base = atom (base + 3)

-- The fifth is below(n,m): node m stands below node n.
abbrev pub below : ℕ → List ℕ → Fact Term
below base = atom (base + 4)

-- The rules of documents, with variables numbered by first occurrence, the body first:
--   field(n,k,m), field(n,k,p) -> m = p
--   field(n,k,m), field(p,l,m) -> n = p
--   field(n,k,m), field(p,l,m) -> k = l
--   item(n,m), item(p,m) -> n = p
--   value(n,v), value(n,w) -> v = w
--   field(n,k,m) -> below(n,m)
--   item(n,m) -> below(n,m)
abbrev pub document_rules : ℕ → List Rule
document_rules base =
    equality (field base (0 ∷ 1 ∷ 2 ∷ []) ∷ field base (0 ∷ 1 ∷ 3 ∷ []) ∷ []) (Plain 2) (Plain 3)
    ∷ equality (field base (0 ∷ 1 ∷ 2 ∷ []) ∷ field base (3 ∷ 4 ∷ 2 ∷ []) ∷ []) (Plain 0) (Plain 3)
    ∷ equality (field base (0 ∷ 1 ∷ 2 ∷ []) ∷ field base (3 ∷ 4 ∷ 2 ∷ []) ∷ []) (Plain 1) (Plain 4)
    ∷ equality (item base (0 ∷ 1 ∷ []) ∷ item base (2 ∷ 1 ∷ []) ∷ []) (Plain 0) (Plain 2)
    ∷ equality (value base (0 ∷ 1 ∷ []) ∷ value base (0 ∷ 2 ∷ []) ∷ []) (Plain 1) (Plain 2)
    ∷ tuple (field base (0 ∷ 1 ∷ 2 ∷ []) ∷ []) (below base (0 ∷ 2 ∷ []) ∷ [])
    ∷ tuple (item base (0 ∷ 1 ∷ []) ∷ []) (below base (0 ∷ 1 ∷ []) ∷ [])
    ∷ []

-- The rules of documents, and one more that no node below another is a document: root(n), below(m,n) -> false.
abbrev pub document_rules_2 : ℕ → List Rule
document_rules_2 base = document_rules base ++ denial (root base (0 ∷ []) ∷ below base (1 ∷ 0 ∷ []) ∷ []) ∷ []

-- The rule of keys: pair(k,f,v), pair(k,f,w) -> v = w.
abbrev pub key_rules : ℕ → List Rule
key_rules relation = equality (atom relation (0 ∷ 1 ∷ 2 ∷ []) ∷ atom relation (0 ∷ 1 ∷ 3 ∷ []) ∷ []) (Plain 2) (Plain 3) ∷ []
