-- Unions of queries, tree by tree.
use Rattle.std.proofs.Common.{◌≡◌, ◌≢◌, ◌<◌, ◌≤◌, ◌+◌, ℕ, zero, suc, List, [], ◌∷◌, ◌++◌, length, map, drop, get_or, drop-cons, add-one, Some, inl, inr, refl}
use Rattle.std.proofs.Common.{sym, ap, subst, ◌∙◌, append_assoc, arith}
use Rattle.std.specs.Prelude.{Contains, AllPairs, slice_get}
use Rattle.std.specs.List.{AllByRecursion}
use Rattle.std.proofs.lemmas.List.{append-nil, drop_all, length-map, get_or-map}
use Rattle.std.proofs.lemmas.List.Elements.{Contains-push_cases}
use Rattle.esto_term.proofs.ListLemmas.{Contains-cases, Contains-nil}
use Rattle.esto_semantics.specs.WellFormed.{IsQueryOver}
use Rattle.esto_query.specs.Making.{query_of}
use Rattle.esto_text.specs.Faults.{IsUnionText, UnionOfOneIsQueryText, IsUnionGrammarFault, HaveOneTree, HaveNoFault as HaveNoGrammarFault}
use Rattle.esto_text.specs.Faults.{HaveOneFault as HaveOneGrammarFault}
use Rattle.esto_text.specs.Grammar.{IsUnionEnd, IsUnionFrom}
use Rattle.esto_text.specs.Trees.{QueryTree}
use Rattle.esto_text.specs.View.{tree_of}
use Rattle.esto_text.specs.declared.fault.ReadError.{ReadError}
use Rattle.esto_text.specs.declared.fault.ReadError.TheVariants.{Fault, OutOfMemory}
use Rattle.esto_text.specs.declared.fault.TextFault.{TextFault}
use Rattle.esto_text.specs.declared.token.Token.{Token}
use Rattle.esto_text.specs.declared.tree.QuerySyntax.{QuerySyntax}
use Rattle.esto_read.specs.Readings.{HasParts, IsReading}
use Rattle.esto_read.specs.Unions.{head_length, IsSaidWith, AreSaid, IsFaultWith, IsErrorWith, IsFirstFaultWith, IsUnionReading, IsFirstUnionFault}
use Rattle.esto_read.specs.Unions.{IsUnionError, HaveOneLength, AreAllSame}
use Rattle.esto_read.specs.declared.read.Form.TheVariants.{Query}
use Rattle.esto_read.specs.declared.read.NamedQuery.{NamedQuery}
use Rattle.esto_docmodel.specs.declared.words.Word.{Word}
use Rattle.esto_read.proofs.BelowLemmas.{terms_length}
use Rattle.esto_read.proofs.ExactLemmas.{read_one, tree_fault_one, read_or_fault}
use Rattle.esto_read.proofs.ReadLemmas.{query_parts}

-- ---- the trees

pub end_parts : (count : ℕ) (trees : List QueryTree) (tokens : List Token) → IsUnionEnd count trees tokens → AllByRecursion HasParts trees
end_parts count [] tokens h = tt
end_parts count (tree ∷ trees) tokens (semicolon, a, b, e, is, less, query, end) = (query_parts tree a query, end_parts (suc count) trees b end)

from_parts : (count : ℕ) (trees : List QueryTree) (tokens : List Token) → IsUnionFrom count trees tokens → AllByRecursion HasParts trees
from_parts count [] tokens h = absurd h
from_parts count (tree ∷ trees) tokens (a, b, e, query, end) = (query_parts tree a query, end_parts (suc count) trees b end)

-- each tree has its parts
pub union_parts : (bytes : List ℕ) (trees : List QueryTree) → IsUnionText bytes trees → AllByRecursion HasParts trees
union_parts bytes trees (tokens, are, h) = from_parts 0 trees _ h

-- there is a tree
pub some_tree : (bytes : List ℕ) (trees : List QuerySyntax) → IsUnionText bytes (map tree_of trees) → 0 < length trees
some_tree bytes [] (tokens, are, h) = absurd h
some_tree bytes (tree ∷ trees) h = omega arith

pub first_length : (trees : List QuerySyntax) (tree : QuerySyntax) → Some tree ≡ slice_get trees 0 → head_length (map tree_of trees) ≡ length tree.variables
first_length [] tree is = cc
first_length (first ∷ trees) tree is = let same : tree ≡ first = cc in ap (λ (it : QuerySyntax). length it.variables) (sym same)

-- what holds of each tree holds of the one at a place
pub all_at : (P : QueryTree → Type 0) (trees : List QuerySyntax) (place : ℕ) (tree : QuerySyntax) → place < length trees → tree ≡ get_or trees place tree
    → AllByRecursion P (map tree_of trees) → P (tree_of tree)
all_at P [] place tree below is all = absurd (omega arith)
all_at P (first ∷ trees) zero tree below is all = subst (λ (it : QuerySyntax). P (tree_of it)) (sym is) all.0
all_at P (first ∷ trees) (suc place) tree below is all = all_at P trees place tree (omega arith) is all.1

-- ---- the queries so far

module _ (count : ℕ) (words : List Word) (schema bytes : List ℕ) where
  -- the query's head has so many terms
  pub said_length : (tree : QueryTree) (query : NamedQuery) → IsSaidWith count words schema bytes tree query → length query.query.head ≡ count
  said_length tree query (many, said) =
      terms_length bytes [] tree.variables query.query.head said.read.between said.read.head_terms ∙ many

  said_lengths : (trees : List QueryTree) (queries : List NamedQuery) → AreSaid count words schema bytes trees queries → (query : NamedQuery)
      → Contains queries query → length query.query.head ≡ count
  said_lengths [] [] said query inside = absurd (Contains-nil query inside)
  said_lengths [] (first ∷ queries) said query inside = absurd said
  said_lengths (tree ∷ trees) [] said query inside = absurd said
  said_lengths (tree ∷ trees) (first ∷ queries) (said, more) query inside = elim (Contains-cases first queries query inside) [
    | inl is ↦ ap (λ (it : NamedQuery). length it.query.head) (sym is) ∙ said_length tree first said
    | inr later ↦ said_lengths trees queries more query later
  ]

  pub one_length : (trees : List QueryTree) (queries : List NamedQuery) → AreSaid count words schema bytes trees queries → HaveOneLength queries
  one_length trees queries said query other inside inside' =
      said_lengths trees queries said query inside ∙ sym (said_lengths trees queries said other inside')

  pub record SaidSoFar (all left : List QueryTree) (queries : List NamedQuery) : Type 0 where
    pub said : (more : List NamedQuery) → AreSaid count words schema bytes left more → AreSaid count words schema bytes all (queries ++ more)
    pub faults : (fault : TextFault) → IsFirstFaultWith count words schema bytes left fault → IsFirstFaultWith count words schema bytes all fault
    pub over : (query : NamedQuery) → Contains queries query → IsQueryOver schema (query_of query.query)

  pub said_start : (all : List QueryTree) → SaidSoFar all all []
  said_start all = record { said = λ more h. h; faults = λ fault h. h; over = λ query inside. absurd (Contains-nil query inside) }

  module _ (all : List QueryTree) (trees : List QuerySyntax) (place : ℕ) (queries : List NamedQuery)
      (so_far : SaidSoFar all (drop place (map tree_of trees)) queries) where
    pub said_end : length trees ≤ place → AreSaid count words schema bytes all queries
    said_end le =
        let nothing : drop place (map tree_of trees) ≡ [] = drop_all place (map tree_of trees) (omega (arith, le, length-map trees tree_of)) in
        subst (AreSaid count words schema bytes all) (append-nil queries)
        (so_far.said [] (subst (λ (l : List QueryTree). AreSaid count words schema bytes l []) (sym nothing) tt))

    module _ (tree : QuerySyntax) (below : place < length trees) (is : tree ≡ get_or trees place tree) where
      next : drop place (map tree_of trees) ≡ tree_of tree ∷ drop (place + 1) (map tree_of trees)
      next =
          let short : place < length (map tree_of trees) = omega (arith, below, length-map trees tree_of) in
          let here : tree_of tree ≡ get_or (map tree_of trees) place (tree_of tree) =
          ap tree_of is ∙ sym (get_or-map tree_of trees place tree (tree_of tree) below) in
          rw (drop-cons (map tree_of trees) place (tree_of tree) short, add-one) (ap (λ (first : QueryTree). first ∷ drop (suc place) (map tree_of trees))
          (sym here))

      pub said_next : (query : NamedQuery) → IsSaidWith count words schema bytes (tree_of tree) query → IsQueryOver schema (query_of query.query)
          → SaidSoFar all (drop (place + 1) (map tree_of trees)) (queries ++ query ∷ [])
      said_next query said over = record {
        said = λ more h.
            subst (AreSaid count words schema bytes all) (sym (append_assoc queries (query ∷ []) more))
            (so_far.said (query ∷ more) (subst (λ (l : List QueryTree). AreSaid count words schema bytes l (query ∷ more)) (sym next) (said, h)));
        faults = λ fault h.
            so_far.faults fault (subst (λ (l : List QueryTree). IsFirstFaultWith count words schema bytes l fault) (sym next) (inr ((query, said), h)));
        over = λ other inside. elim (Contains-push_cases queries query other inside) [
          | inl before ↦ so_far.over other before
          | inr last ↦ subst (λ (it : NamedQuery). IsQueryOver schema (query_of it.query)) last over
        ];
      }

      pub said_fault : (fault : TextFault) → IsFaultWith count words schema bytes (tree_of tree) fault → IsFirstFaultWith count words schema bytes all fault
      said_fault fault h = so_far.faults fault (subst (λ (l : List QueryTree). IsFirstFaultWith count words schema bytes l fault) (sym next) (inl h))

-- an error at a tree is one of the text
pub union_error : (count : ℕ) (words : List Word) (schema bytes : List ℕ) (trees : List QueryTree) (tree : QueryTree) (e : ReadError) → IsUnionText bytes trees
    → count ≡ head_length trees
    → ((fault : TextFault) → IsFaultWith count words schema bytes tree fault → IsFirstFaultWith count words schema bytes trees fault)
    → IsErrorWith count words schema bytes tree e → IsUnionError words schema bytes e
union_error count words schema bytes trees tree OutOfMemory text same first h = text.1.0
union_error count words schema bytes trees tree (Fault fault) text same first h =
    inr (trees, text, subst (λ (n : ℕ). IsFirstFaultWith n words schema bytes trees fault) same (first fault h))

-- the queries of all trees are what the text means
pub union_read : (count : ℕ) (words : List Word) (schema bytes : List ℕ) (trees : List QueryTree) (queries : List NamedQuery) → IsUnionText bytes trees
    → count ≡ head_length trees → AreSaid count words schema bytes trees queries → IsUnionReading words schema bytes queries
union_read count words schema bytes trees queries text same said =
    (trees, text, subst (λ (n : ℕ). AreSaid n words schema bytes trees queries) same said)

-- ---- one reading, or one fault

module _ (words : List Word) (apart : AllPairs ◌≢◌ (map (λ word. word.name) words)) (schema bytes : List ℕ) where
  said_same : (count : ℕ) (trees : List QueryTree) (queries others : List NamedQuery) → AreSaid count words schema bytes trees queries
      → AreSaid count words schema bytes trees others → AreAllSame queries others
  said_same count [] [] [] h g = tt
  said_same count [] [] (other ∷ others) h g = absurd g
  said_same count [] (query ∷ queries) others h g = absurd h
  said_same count (tree ∷ trees) [] others h g = absurd h
  said_same count (tree ∷ trees) (query ∷ queries) [] h g = absurd g
  said_same count (tree ∷ trees) (query ∷ queries) (other ∷ others) ((many, h), more) ((many', g), more') =
      let s = read_one words apart schema bytes tree query.query.head other.query.head query.query.body other.query.body query.query.names other.query.names
      h.read g.read in
      ((h.name ∙ sym g.name, s.0, s.1, s.2), said_same count trees queries others more more')

  said_clean : (count : ℕ) (tree : QueryTree) (query : NamedQuery) (fault : TextFault) → IsSaidWith count words schema bytes tree query
      → ¬ IsFaultWith count words schema bytes tree fault
  said_clean count tree query fault (many, h) (inl (not, is)) = not many
  said_clean count tree query fault (many, h) (inr (many', g)) =
      read_or_fault words apart schema bytes Query tree query.query.head query.query.body query.query.names fault h.read h.fit g

  all_clean : (count : ℕ) (trees : List QueryTree) (queries : List NamedQuery) (fault : TextFault) → AreSaid count words schema bytes trees queries
      → ¬ IsFirstFaultWith count words schema bytes trees fault
  all_clean count [] queries fault h g = g
  all_clean count (tree ∷ trees) [] fault h g = h
  all_clean count (tree ∷ trees) (query ∷ queries) fault (h, more) (inl g) = said_clean count tree query fault h g
  all_clean count (tree ∷ trees) (query ∷ queries) fault (h, more) (inr (said, g)) = all_clean count trees queries fault more g

  fault_same : (count : ℕ) (tree : QueryTree) (fault other : TextFault) → IsFaultWith count words schema bytes tree fault
      → IsFaultWith count words schema bytes tree other → fault ≡ other
  fault_same count tree fault other (inl (not, is)) (inl (not', is')) = is ∙ sym is'
  fault_same count tree fault other (inl (not, is)) (inr (many, g)) = absurd (not many)
  fault_same count tree fault other (inr (many, h)) (inl (not, is)) = absurd (not many)
  fault_same count tree fault other (inr (many, h)) (inr (many', g)) = tree_fault_one words apart schema bytes Query tree fault other h g

  first_same : (count : ℕ) (trees : List QueryTree) (fault other : TextFault) → IsFirstFaultWith count words schema bytes trees fault
      → IsFirstFaultWith count words schema bytes trees other → fault ≡ other
  first_same count [] fault other h g = absurd h
  first_same count (tree ∷ trees) fault other (inl h) (inl g) = fault_same count tree fault other h g
  first_same count (tree ∷ trees) fault other (inl h) (inr ((query, said), g)) = absurd (said_clean count tree query fault said h)
  first_same count (tree ∷ trees) fault other (inr ((query, said), h)) (inl g) = absurd (said_clean count tree query other said g)
  first_same count (tree ∷ trees) fault other (inr (said, h)) (inr (said', g)) = first_same count trees fault other h g

  module _ (one : HaveOneTree IsUnionText) where
    pub union_one : (queries others : List NamedQuery) → IsUnionReading words schema bytes queries → IsUnionReading words schema bytes others
        → AreAllSame queries others
    union_one queries others (trees, text, h) (trees', text', g) =
        let same : trees' ≡ trees = one bytes trees' text' trees text in
        said_same (head_length trees) trees queries others h
        (subst (λ (l : List QueryTree). AreSaid (head_length l) words schema bytes l others) same g)

    module _ (clean : HaveNoGrammarFault IsUnionText IsUnionGrammarFault) where
      pub union_clean : (queries : List NamedQuery) (fault : TextFault) → IsUnionReading words schema bytes queries
          → ¬ IsFirstUnionFault words schema bytes fault
      union_clean queries fault (trees, text, h) (inl g) = clean bytes trees fault text g
      union_clean queries fault (trees, text, h) (inr (trees', text', g)) =
          let same : trees' ≡ trees = one bytes trees' text' trees text in
          all_clean (head_length trees) trees queries fault h
          (subst (λ (l : List QueryTree). IsFirstFaultWith (head_length l) words schema bytes l fault) same g)

      pub union_fault_one : HaveOneGrammarFault IsUnionGrammarFault → (fault other : TextFault) → IsFirstUnionFault words schema bytes fault
          → IsFirstUnionFault words schema bytes other → fault ≡ other
      union_fault_one grammar fault other (inl h) (inl g) = grammar bytes fault other h g
      union_fault_one grammar fault other (inl h) (inr (trees, text, g)) = absurd (clean bytes trees fault text h)
      union_fault_one grammar fault other (inr (trees, text, h)) (inl g) = absurd (clean bytes trees other text g)
      union_fault_one grammar fault other (inr (trees, text, h)) (inr (trees', text', g)) =
          let same : trees' ≡ trees = one bytes trees' text' trees text in
          first_same (head_length trees) trees fault other h
          (subst (λ (l : List QueryTree). IsFirstFaultWith (head_length l) words schema bytes l other) same g)

-- ---- a union of one query

module _ (one : UnionOfOneIsQueryText) (words : List Word) (schema bytes : List ℕ) (query : NamedQuery) where
  pub one_there : IsUnionReading words schema bytes (query ∷ []) → IsReading Query words schema bytes query
  one_there (trees, text, h) = go trees text h
    where
      go : (trees : List QueryTree) → IsUnionText bytes trees → AreSaid (head_length trees) words schema bytes trees (query ∷ [])
          → IsReading Query words schema bytes query
      go [] text h = absurd h
      go (tree ∷ []) text ((many, said), rest) = (tree, record { text = (one bytes tree).0 text; said = said })
      go (tree ∷ other ∷ trees) text (said, rest) = absurd rest

  pub one_back : IsReading Query words schema bytes query → IsUnionReading words schema bytes (query ∷ [])
  one_back (tree, meaning) = (tree ∷ [], (one bytes tree).1 meaning.text, ((refl, meaning.said), tt))
