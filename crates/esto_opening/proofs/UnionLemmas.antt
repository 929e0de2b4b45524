-- Unions of queries that are opened.
use Rattle.std.proofs.Common.{◌≡◌, ◌↔◌, ◌<◌, ℕ, List, [], ◌∷◌, length, Option, Some, refl, sym, ap, subst, ◌∙◌, arith}
use Rattle.esto_mapping.specs.Catalogues.{AreSame, CataloguesAreSound}
use Rattle.esto_mapping.specs.declared.catalogue.Catalogue.{Catalogue}
use Rattle.esto_course.specs.Course.{and_then, judges}
use Rattle.esto_course.proofs.Determined.{then_agree, judges_agree}
use Rattle.esto_course.proofs.Steps.{then_goes}
use Rattle.esto_ports.specs.Files.{Files}
use Rattle.esto_query.specs.Schemas.{arities_of}
use Rattle.esto_query.specs.declared.query.Query.{Query}
use Rattle.esto_read.specs.Readings.{AreSame as IsSameNamed}
use Rattle.esto_read.specs.Unions.{AreAllSame, AreSaid, HaveNoUnionFault, HaveOneUnion, HaveOneUnionFault, IsFirstUnionFault, IsUnionReading, UnionOfOneIsQuery}
use Rattle.esto_read.specs.Unions.{head_length}
use Rattle.esto_read.specs.declared.read.NamedQuery.{NamedQuery}
use Rattle.esto_docmodel.specs.declared.words.Word.{Word}
use Rattle.esto_read.proofs.UnionLemmas.{one_length}
use Rattle.esto_term.proofs.ListLemmas.{Contains-map_from}
use Rattle.esto_text.specs.Faults.{IsUnionText}
use Rattle.esto_text.specs.Trees.{QueryTree}
use Rattle.esto_text.specs.declared.fault.TextFault.{TextFault}
use Rattle.esto_query.specs.Same.{AreSameQueries, IsSameQuery}
use Rattle.esto_status.specs.Calm.{AgreeCalmly, Leads}
use Rattle.esto_status.specs.Fetch.{fetches}
use Rattle.esto_opening.specs.Opening.{FilesSayUnion, opens_query, opens_union, reads_query, reads_union, unnamed}
use Rattle.esto_query.specs.Unions.{FormUnion, HaveOneHeadLength}
use Rattle.esto_status.specs.declared.limits.TheConstants.{QUERY_LIMIT}
use Rattle.esto_status.specs.declared.status.Status.TheVariants as status
use Rattle.esto_status.proofs.AgreeLemmas.{fetches-agree}

-- ---- at least one query, and heads of one length

-- there is a query
some_query : (words : List Word) (schema bytes : List ℕ) (named : List NamedQuery) → IsUnionReading words schema bytes named → 0 < length (unnamed named)
some_query words schema bytes (first ∷ rest) reading = omega arith
some_query words schema bytes [] (trees, text, said) = none trees text said
  where
    none : (trees : List QueryTree) → IsUnionText bytes trees → AreSaid (head_length trees) words schema bytes trees [] → 0 < 0
    none [] (tokens, are, h) said = absurd h
    none (tree ∷ trees) text said = absurd said

one_head_length : (words : List Word) (schema bytes : List ℕ) (named : List NamedQuery) → IsUnionReading words schema bytes named
    → HaveOneHeadLength (unnamed named)
one_head_length words schema bytes named (trees, text, said) query other inside inside' =
    let from = Contains-map_from (λ (it : NamedQuery). it.query) named query inside in
    let from' = Contains-map_from (λ (it : NamedQuery). it.query) named other inside' in
    ap (λ (it : Query). length it.head) (sym from.2)
    ∙ one_length (head_length trees) words schema bytes trees named said from.0 from'.0 from.1 from'.1
    ∙ ap (λ (it : Query). length it.head) from'.2

-- the queries of a reading form a union
pub form_union : (words : List Word) (schema bytes : List ℕ) (named : List NamedQuery) (queries : List Query) → IsUnionReading words schema bytes named
    → queries ≡ unnamed named → FormUnion queries
form_union words schema bytes named queries reading are = subst FormUnion (sym are) (record {
  some = some_query words schema bytes named reading;
  lengths = one_head_length words schema bytes named reading;
})

pub opened_form : (files : Option Files) (name : List ℕ) (catalogue : Catalogue) (queries : List Query) → (opens_union files name catalogue).goes queries
    → FormUnion queries
unfolding and_then judges
opened_form files name catalogue queries (bytes, fetched, (named, reading, are)) =
    form_union catalogue.words (arities_of catalogue.schema) bytes named queries reading are

pub said_open : (files : Files) (name : List ℕ) (catalogue : Catalogue) (queries : List Query) → FilesSayUnion files name catalogue queries
    → (opens_union (Some files) name catalogue).goes queries
unfolding fetches judges
said_open files name catalogue queries say = then_goes (fetches (Some files) name QUERY_LIMIT) (reads_union catalogue) say.bytes queries say.has
    (say.named, say.is_union, say.queries_are)

-- ---- the same queries

same_named : (query other : NamedQuery) → IsSameNamed query other → IsSameQuery query.query other.query
same_named query other same = record { head = same.1; body = same.2; names = same.3 }

same_unnamed : (queries others : List NamedQuery) → AreAllSame queries others → AreSameQueries (unnamed queries) (unnamed others)
same_unnamed [] [] same = tt
same_unnamed [] (other ∷ others) same = absurd same
same_unnamed (query ∷ queries) [] same = absurd same
same_unnamed (query ∷ queries) (other ∷ others) (same, rest) = (same_named query other same, same_unnamed queries others rest)

module _ (sound : CataloguesAreSound) (one : HaveOneUnion) (apart : HaveNoUnionFault) (one_fault : HaveOneUnionFault) (files : Files)
    (catalogue other : Catalogue) (alike : AreSame catalogue other) where
  -- a reading and a fault over the other catalogue are ones over this
  reading_back : (bytes : List ℕ) (named : List NamedQuery) → IsUnionReading other.words (arities_of other.schema) bytes named
      → IsUnionReading catalogue.words (arities_of catalogue.schema) bytes named
  reading_back bytes named reading =
      subst (λ it. IsUnionReading it (arities_of catalogue.schema) bytes named) (sym alike.words)
      (subst (λ it. IsUnionReading other.words (arities_of it) bytes named) (sym alike.schema) reading)

  fault_back : (bytes : List ℕ) (fault : TextFault) → IsFirstUnionFault other.words (arities_of other.schema) bytes fault
      → IsFirstUnionFault catalogue.words (arities_of catalogue.schema) bytes fault
  fault_back bytes fault first =
      subst (λ it. IsFirstUnionFault it (arities_of catalogue.schema) bytes fault) (sym alike.words)
      (subst (λ it. IsFirstUnionFault other.words (arities_of it) bytes fault) (sym alike.schema) first)

  union_agree : (bytes : List ℕ) → AgreeCalmly AreSameQueries (reads_union catalogue bytes) (reads_union other bytes)
  union_agree bytes =
      let words = catalogue.words in
      let schema = arities_of catalogue.schema in
      let vocabulary = (sound catalogue).vocabulary in
      judges_agree _ _ _ _ _ _
      (λ queries others here there.
      subst (λ it. AreSameQueries it others) (sym here.2) (subst (AreSameQueries (unnamed here.0)) (sym there.2)
      (same_unnamed here.0 there.0 (one words schema bytes here.0 there.0 vocabulary here.1 (reading_back bytes there.0 there.1)))))
      (λ said other_said caused other_caused here there. here.2
      ∙ ap status.BadQuery (one_fault words schema bytes here.0 there.0 vocabulary here.1 (fault_back bytes there.0 there.1)) ∙ sym there.2)
      (λ queries said caused here there. apart words schema bytes here.0 there.0 vocabulary here.1 (fault_back bytes there.0 there.1))
      (λ queries said caused here there. apart words schema bytes here.0 there.0 vocabulary (reading_back bytes here.0 here.1) there.1)

  pub unions_open : (name : List ℕ) → AgreeCalmly AreSameQueries (opens_union (Some files) name catalogue) (opens_union (Some files) name other)
  unions_open name =
      then_agree _ ◌≡◌ AreSameQueries _ _ _ _ (fetches-agree files name QUERY_LIMIT)
      (λ bytes other_bytes goes same. subst (λ it. AgreeCalmly AreSameQueries (reads_union catalogue bytes) (reads_union other it)) same (union_agree bytes))

-- ---- one query

-- the list of one query without its name
alone : (named : List NamedQuery) (query : Query) → query ∷ [] ≡ unnamed named → (one : NamedQuery) × (named ≡ one ∷ []) × (query ≡ one.query)
alone [] query are = absurd (cc)
alone (one ∷ []) query are = (one, refl, (let same : query ≡ one.query = cc in same))
alone (one ∷ other ∷ rest) query are = absurd (cc)

module _ (one : UnionOfOneIsQuery) (catalogue : Catalogue) where
  one_read : (bytes : List ℕ) (query : Query) → (reads_union catalogue bytes).goes (query ∷ []) ↔ (reads_query catalogue bytes).goes query
  unfolding judges
  one_read bytes query = (
    (λ (named, reading, are).
        let (first, only, is) = alone named query are in (
          first,
          (one catalogue.words (arities_of catalogue.schema) bytes first).0
              (subst (IsUnionReading catalogue.words (arities_of catalogue.schema) bytes) only reading),
          is,
        )),
    (λ (named, reading, is). (
      named ∷ [],
      (one catalogue.words (arities_of catalogue.schema) bytes named).1 reading,
      ap (λ (it : Query). it ∷ []) is,
    )),
  )

  pub one_opens : (files : Option Files) (name : List ℕ) (query : Query)
      → (opens_union files name catalogue).goes (query ∷ []) ↔ (opens_query files name catalogue).goes query
  unfolding and_then
  one_opens files name query = (
    (λ (bytes, fetched, reads). (bytes, fetched, (one_read bytes query).0 reads)),
    (λ (bytes, fetched, reads). (bytes, fetched, (one_read bytes query).1 reads)),
  )

-- a course that agrees with itself leads to what is the same as a value with which it goes on
pub opens_alone : (files : Files) (name : List ℕ) (catalogue : Catalogue) (query : Query)
    → AgreeCalmly AreSameQueries (opens_union (Some files) name catalogue) (opens_union (Some files) name catalogue)
    → (opens_union (Some files) name catalogue).goes (query ∷ []) → Leads (opens_union (Some files) name catalogue) (AreSameQueries (query ∷ [])) (λ _. ⊥)
opens_alone files name catalogue query agree goes = record {
  goes = λ queries there. agree.one (query ∷ []) queries goes there;
  stops = λ said caused stop. agree.apart (query ∷ []) said caused goes stop;
}
