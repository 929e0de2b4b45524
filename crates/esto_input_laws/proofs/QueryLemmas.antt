-- A tree of a query or a view says a query or has a fault, and so do the trees of a union.
use Rattle.std.proofs.Common.{ℕ, inl, inr, List, [], ◌∷◌, length, refl}
use Rattle.std.specs.Prelude.{IsUtf8, All}
use Rattle.std.specs.List.{AllByRecursion}
use Rattle.std.proofs.lemmas.Bool.{cases_eq}
use Rattle.esto_query.specs.declared.query.Query.{Query}
use Rattle.esto_text.proofs.LeafLemmas.{tree_stands, union_stands}
use Rattle.esto_text.specs.Faults.{StandsAt}
use Rattle.esto_text.specs.Grammar.{IsQuery, IsUnion}
use Rattle.esto_text.specs.Limits.{limited, limited_union}
use Rattle.esto_text.specs.Tokens.{text_of}
use Rattle.esto_text.specs.Trees.{QueryTree}
use Rattle.esto_text.specs.declared.fault.TextKind.TheVariants.{HeadLength}
use Rattle.esto_text.specs.declared.token.Token.{Token}
use Rattle.esto_read.proofs.BelowLemmas.{names_are_terms, terms_length}
use Rattle.esto_read.proofs.ReadLemmas.{query_parts, sound}
use Rattle.esto_read.proofs.UnionLemmas.{end_parts}
use Rattle.esto_read.specs.Readings.{IsRead, HasParts, IsSaid, IsTreeFault, IsReading, IsFirstFault}
use Rattle.esto_read.specs.Unions.{head_length, IsSaidWith, AreSaid, IsFaultWith, IsFirstFaultWith, IsUnionReading, IsFirstUnionFault}
use Rattle.esto_docmodel.specs.Words.{HasRelations, IsVocabulary}
use Rattle.esto_read.specs.declared.read.Form.{Form}
use Rattle.esto_read.specs.declared.read.Form.TheVariants as form
use Rattle.esto_docmodel.specs.declared.words.Word.{Word}
use Rattle.esto_input_laws.specs.Totality.{HasOneOf}
use Rattle.esto_input_laws.proofs.HeadLemmas.{head_fits}
use Rattle.esto_input_laws.proofs.ItemLemmas.{items_fit, items_of}
use Rattle.esto_input_laws.proofs.PartReadingLemmas.{terms_of}
use Rattle.esto_input_laws.proofs.TreeLemmas.{query_or_stop, union_or_stop, text_or_fault}

module _ (words : List Word) (schema bytes : List ℕ) (u : IsUtf8 bytes) (relations : All (λ word. HasRelations schema word.model word.base) words) where
  pub tree_said : (which : Form) (tree : QueryTree) → HasParts tree → StandsAt bytes tree
      → HasOneOf (IsSaid which words schema bytes tree) (IsTreeFault which words schema bytes tree)
  tree_said which tree parts stands = elim (items_fit words schema bytes 0 tree.items) [
    | inr (fault, is) ↦ inr (fault, inl is)
    | inl fit ↦
        let (head, between, head_terms) = terms_of bytes [] tree.variables (names_are_terms bytes tree.variables stands.1) in
        let (body, names, body_atoms) = items_of words schema bytes 0 between tree.items stands.2 fit in
        let read : IsRead words schema bytes tree head body names =
        record { between = between; head_terms = head_terms; body_atoms = body_atoms; fits = fit } in
        elim (head_fits which bytes tree.variables head body (terms_length bytes [] tree.variables head between head_terms)) [
          | inr (fault, is) ↦ inr (fault, inr (head, body, names, read, is))
          | inl fits ↦
              let query : Query = record {
                head = head;
                body = body;
                names = names;
                sound = ∣ sound words schema bytes u tree head body names parts stands read relations fits.1 ∣₁;
              } in
              inl (record { name = text_of bytes tree.name; query = query }, record { name = refl; read = read; fit = fits })
        ]
  ]

  -- ---- unions

  tree_said_with : (count : ℕ) (tree : QueryTree) → HasParts tree → StandsAt bytes tree
      → HasOneOf (IsSaidWith count words schema bytes tree) (IsFaultWith count words schema bytes tree)
  tree_said_with count tree parts stands = elim (cases_eq (length tree.variables) count) [
    | inl many ↦ elim (tree_said form.Query tree parts stands) [
      | inl (query, said) ↦ inl (query, (many, said))
      | inr (fault, is) ↦ inr (fault, inr (many, is))
    ]
    | inr other ↦ inr (record { offset = tree.name.start; kind = HeadLength }, inl (other, refl))
  ]

  pub trees_said : (count : ℕ) (trees : List QueryTree) → AllByRecursion HasParts trees → AllByRecursion (StandsAt bytes) trees
      → HasOneOf (AreSaid count words schema bytes trees) (IsFirstFaultWith count words schema bytes trees)
  trees_said count [] parts stand = inl ([], tt)
  trees_said count (tree ∷ trees) parts stand =
      by (tree_said_with count tree parts.0 stand.0) (trees_said count trees parts.1 stand.1)
    where
      by : HasOneOf (IsSaidWith count words schema bytes tree) (IsFaultWith count words schema bytes tree)
          → HasOneOf (AreSaid count words schema bytes trees) (IsFirstFaultWith count words schema bytes trees)
          → HasOneOf (AreSaid count words schema bytes (tree ∷ trees)) (IsFirstFaultWith count words schema bytes (tree ∷ trees))
      by (inr (fault, is)) later = inr (fault, inl is)
      by (inl (query, said)) (inl (queries, are)) = inl (query ∷ queries, (said, are))
      by (inl (query, said)) (inr (fault, is)) = inr (fault, inr ((query, said), is))

-- ---- texts

module _ (words : List Word) (schema : List ℕ) (vocabulary : IsVocabulary schema words) (bytes : List ℕ) where
  pub query_reading : (which : Form) → HasOneOf (IsReading which words schema bytes) (IsFirstFault which words schema bytes)
  query_reading which = elim (text_or_fault IsQuery limited query_or_stop bytes) [
    | inr (fault, is) ↦ inr (fault, inl is)
    | inl (tree, (tokens, are, is)) ↦
        elim (tree_said words schema bytes are.0 vocabulary.relations which tree (query_parts tree (limited tokens) is)
        (tree_stands bytes tokens tree are.1 is)) [
          | inl (query, said) ↦ inl (query, (tree, record { text = (tokens, are, is); said = said }))
          | inr (fault, faulty) ↦ inr (fault, inr (tree, (tokens, are, is), faulty))
        ]
  ]

  union_parts : (trees : List QueryTree) (tokens : List Token) → IsUnion trees tokens → AllByRecursion HasParts trees
  union_parts [] tokens h = absurd h
  union_parts (tree ∷ trees) tokens (a, b, e, is, more) = (query_parts tree a is, end_parts 1 trees b more)

  pub union_reading : HasOneOf (IsUnionReading words schema bytes) (IsFirstUnionFault words schema bytes)
  union_reading = elim (text_or_fault IsUnion limited_union union_or_stop bytes) [
    | inr (fault, is) ↦ inr (fault, inl is)
    | inl (trees, (tokens, are, is)) ↦
        elim (trees_said words schema bytes are.0 vocabulary.relations (head_length trees) trees (union_parts trees (limited_union tokens) is)
        (union_stands bytes tokens trees are.1 is)) [
          | inl (queries, said) ↦ inl (queries, (trees, (tokens, are, is), said))
          | inr (fault, faulty) ↦ inr (fault, inr (trees, (tokens, are, is), faulty))
        ]
  ]
