-- The facts of documents, and the atoms of a pattern.
use Rattle.std.specs.Prelude.{ℕ, Bool, true, false, bytes_eq, suc, ◌+◌, List, [], ◌∷◌, ◌++◌, filter, length, map, Option, Some, None}
use Rattle.std.specs.List.{list_any}
use Rattle.esto_term.specs.declared.term.Term.{Term, out-Term}
use Rattle.esto_term.specs.declared.term.Term.TheOpen.{Term-F}
use Rattle.esto_term.specs.declared.term.Term.TheVariants.{Const, Plain}
use Rattle.esto_semantics.specs.declared.fact.Fact.{Fact}
use Rattle.esto_docmodel.specs.DocumentFacts.{DocFact, root, field, item, value, below, flat}
use Rattle.esto_docmodel.specs.Forests.{Label, name, place, Forest, none, kid}
use Rattle.esto_docmodel.specs.Patterns.{Entries, done, holds, group}
use Rattle.esto_docmodel.specs.declared.kept.Kept.{Kept}
use Rattle.esto_docmodel.specs.declared.kept.KeptTexts.{KeptTexts}
use Rattle.esto_docmodel.specs.declared.kept.KeptTexts.TheVariants.{Every, These}
use Rattle.esto_docmodel.specs.declared.pattern.Step.{Step}
use Rattle.esto_docmodel.specs.declared.pattern.Step.TheVariants.{Name, Item, Below}

-- ---- documents

-- How many nodes stand in the row and inside it.
abbrev pub size : Forest → ℕ
size none = 0
size (kid label content inside rest) = suc (size inside + size rest)

-- The fact by which node n is entered below these nodes, the innermost first: a document is a root, and any other is a field or an item of the innermost.
abbrev pub entering : List ℕ → Label → ℕ → DocFact Term
entering [] label n = root (Plain n)
entering (parent ∷ above) (name k) n = field (Plain parent) (Const k) (Plain n)
entering (parent ∷ above) place n = item (Plain parent) (Plain n)

-- That node n stands below each of these, the outermost first.
abbrev pub belows : List ℕ → ℕ → List (DocFact Term)
belows [] n = []
belows (parent ∷ above) n = belows above n ++ below (Plain parent) (Plain n) ∷ []

-- What node n holds.
abbrev pub holding : Option (List ℕ) → ℕ → List (DocFact Term)
holding None n = []
holding (Some text) n = value (Plain n) (Const text) ∷ []

-- The facts of a row below these nodes, the innermost first, where nodes are numbered in preorder from n: for each node how it is entered, what it stands
-- below and what it holds, and then those of the nodes inside it.
abbrev pub facts_from : List ℕ → ℕ → Forest → List (DocFact Term)
facts_from above n none = []
facts_from above n (kid label content inside rest) =
    entering above label n ∷ (belows above n ++ (holding content n ++ (facts_from (n ∷ above) (suc n) inside ++ facts_from above (suc n + size inside) rest)))

-- The facts of documents, numbered from `first`, in the five relations from the base on.
abbrev pub facts_of : ℕ → ℕ → Forest → List (Fact Term)
facts_of base first forest = map (flat base) (facts_from [] first forest)

-- All five relations are kept, from the base on.
abbrev pub every : ℕ → Kept
every base = record { base = base; root = true; field = Every; item = true; value = Every; below = true }

-- Whether facts of some text are kept.
abbrev pub has_any : KeptTexts → Bool
has_any Every = true
has_any (These []) = false
has_any (These (text ∷ more)) = true

-- Whether facts of the text are kept.
abbrev pub has_text : KeptTexts → List ℕ → Bool
has_text Every text = true
has_text (These texts) text = list_any (λ own. bytes_eq own text) texts

-- Whether a term by its kind is a constant that is one of the texts.
abbrev pub is_among_kind : List (List ℕ) → Term-F Term → Bool
is_among_kind texts (Term-F.Const text) = list_any (λ own. bytes_eq own text) texts
is_among_kind texts (Term-F.Plain _) = false
is_among_kind texts (Term-F.Made _ _ _) = false

-- Whether facts of the term are kept: each, or those of constants that are among the texts.
abbrev pub has_term : KeptTexts → Term → Bool
has_term Every term = true
has_term (These texts) term = is_among_kind texts (out-Term term)

-- Whether the fact is kept, by its relation, and by its name or text.
abbrev pub is_kept : Kept → DocFact Term → Bool
is_kept relations (root n) = relations.root
is_kept relations (field p k n) = has_term relations.field k
is_kept relations (item p n) = relations.item
is_kept relations (value n t) = has_term relations.value t
is_kept relations (below a n) = relations.below

-- Of these facts those that are kept, in order.
abbrev pub kept : Kept → List (DocFact Term) → List (Fact Term)
kept relations facts = map (flat relations.base) (filter (is_kept relations) facts)

-- Of the facts of documents, numbered from `first`, those that are kept.
abbrev pub kept_of : Kept → ℕ → Forest → List (Fact Term)
kept_of relations first forest = kept relations (facts_from [] first forest)

-- ---- patterns

-- The atom of a step from one node to another.
abbrev pub linked : {V : Type 0} → (List ℕ → V) → Step → V → V → DocFact V
linked constant (Name k) from to = field from (constant k) to
linked constant Item from to = item from to
linked constant Below from to = below from to

-- The variable of the node at the end of a path from v, where the steps' nodes are numbered from `next`.
abbrev pub end : List Step → ℕ → ℕ → ℕ
end [] v next = v
end (step ∷ path) v next = end path next (suc next)

-- The atoms of such a path, one for each step.
abbrev pub step_atoms : List Step → ℕ → ℕ → List (DocFact Term)
step_atoms [] v next = []
step_atoms (step ∷ path) v next = linked Const step (Plain v) (Plain next) ∷ step_atoms path next (suc next)

-- How many nodes of steps the entries have.
abbrev pub used : Entries → ℕ
used done = 0
used (holds path term rest) = length path + used rest
used (group path inner rest) = length path + (used inner + used rest)

-- The atoms of entries from node v, in the order of the text: those of the path, and then the value at its end or the atoms of the group from there.
abbrev pub atoms : Entries → ℕ → ℕ → List (DocFact Term)
atoms done v next = []
atoms (holds path term rest) v next = step_atoms path v next ++ (value (Plain (end path v next)) term ∷ atoms rest v (next + length path))
atoms (group path inner rest) v next =
    step_atoms path v next ++ (atoms inner (end path v next) (next + length path) ++ atoms rest v ((next + length path) + used inner))

-- The atoms of a pattern: its root variable is a document, and the entries go from there.
abbrev pub pattern_atoms : Entries → ℕ → ℕ → List (DocFact Term)
pattern_atoms entries r next = root (Plain r) ∷ atoms entries r next

-- Those atoms over the five relations from the base on.
abbrev pub atoms_of : ℕ → Entries → ℕ → ℕ → List (Fact Term)
atoms_of base entries r next = map (flat base) (pattern_atoms entries r next)
