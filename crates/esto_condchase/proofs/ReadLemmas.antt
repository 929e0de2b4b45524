-- Where a database is read of what holds, a query's answer over it is a match in what holds.
use Rattle.std.proofs.Common.{◌≡◌, ◌⊎◌, inl, inr, ℕ, List, [], ◌∷◌, map, Contains, refl, sym, ap, subst, ◌∙◌}
use Rattle.std.specs.List.{AllZip}
use Rattle.esto_term.specs.declared.term.Term.{Term}
use Rattle.esto_term.specs.declared.term.Term.TheVariants.{Const}
use Rattle.esto_term.proofs.ListLemmas.{Contains-head, Contains-map, Contains-map_from, Contains-rest}
use Rattle.esto_semantics.specs.Facts.{Database, Mentions, image}
use Rattle.esto_semantics.specs.Maps.{IsConstant, IsFixedBy, Keeps, SendsInto}
use Rattle.esto_semantics.specs.Queries.{ConjunctiveQuery}
use Rattle.esto_semantics.specs.declared.fact.Fact.{Fact}
use Rattle.esto_semantics.specs.declared.fact.Value.{Value}
use Rattle.esto_semantics.specs.declared.fact.Value.TheVariants.{Text, Node}
use Rattle.esto_semantics.proofs.ValueLemmas.{Text-same, Text-apart-Node}
use Rattle.esto_chase_laws.specs.WorldLaws.{HasMatch, IsReadAs}
use Rattle.esto_chase_laws.specs.Worlds.{Linked, Reaches, here}
use Rattle.esto_chase_laws.specs.declared.entry.Claim.{Claim}
use Rattle.esto_chase_laws.specs.declared.entry.Claim.TheVariants.{Fact as Stated}
use Rattle.esto_query.proofs.SoundLemmas.{mentions_decided}

-- ---- values, and what facts mention

value_cases : (value : Value) → ((text : List ℕ) × (value ≡ Text text)) ⊎ ((node : ℕ) × (value ≡ Node node))
value_cases (Text text) = inl (text, refl)
value_cases (Node node) = inr (node, refl)

module _ (Holds : Claim → Type 0) (database : Database) (value : Term → Value) (read : IsReadAs Holds database value) (query : ConjunctiveQuery)
    (m : Term → Value) (keeps : Keeps Text m) (sends : SendsInto m query.body (Contains database)) where
  -- the term stands in a fact that holds
  abbrev IsHeld : Term → Type 0
  IsHeld term = (fact : Fact Term) × Holds (Stated fact) × Contains fact.terms term

  of_atom : (atom : Fact Term) → Contains query.body atom → (fact : Fact Term) × Holds (Stated fact) × (image value fact ≡ image m atom)
  of_atom atom inside = read.from (image m atom) (sends atom inside)

  -- each term of the body has the value of a term that stands in a fact that holds
  held : (term : Term) → Mentions query.body term → (name : Term) × IsHeld name × (value name ≡ m term)
  held term (atom, inside, in_atom) =
      let from = of_atom atom inside in
      let rows : map value from.0.terms ≡ map m atom.terms = ap (λ (it : Fact Value). it.terms) from.2 in
      let found = Contains-map_from value from.0.terms (m term)
      (subst (λ row. Contains row (m term)) (sym rows) (Contains-map m atom.terms term in_atom)) in
      (found.0, (from.0, from.1, found.1), found.2)

  -- the name of a term: the constant where its value is a text, and else a term of its value in a fact that holds
  abbrev IsName : Term → Term → Type 0
  IsName term name =
      ((text : List ℕ) → m term ≡ Text text → name ≡ Const text)
      × (Mentions query.body term → ((text : List ℕ) × (m term ≡ Text text)) ⊎ (IsHeld name × (value name ≡ m term)))

  choice : (term : Term) → (name : Term) × IsName term name
  choice term = elim (value_cases (m term)) [
    | inl (text, is) ↦ (Const text, ((λ other other_is. ap Const (Text-same text other (sym is ∙ other_is))), (λ mentioned. inl (text, is))))
    | inr (node, is) ↦ elim (mentions_decided query.body term) [
      | inl mentioned ↦ (let found = held term mentioned in
          (found.0, ((λ other other_is. absurd (Text-apart-Node other node (sym other_is ∙ is))), (λ again. inr (found.1, found.2)))))
      | inr none ↦ (term, ((λ other other_is. absurd (Text-apart-Node other node (sym other_is ∙ is))), (λ mentioned. absurd (none mentioned))))
    ]
  ]

  abbrev name_of : Term → Term
  name_of term = (choice term).0

  -- a term with the value of a text is linked with the constant
  linked_text : (text : List ℕ) (term : Term) → IsConstant term ⊎ IsHeld term → value term ≡ Text text → Linked Holds term (Const text)
  linked_text text term (inl (own, constant)) is =
      let same : own ≡ text = Text-same own text (sym (read.keeps own) ∙ sym (ap value constant) ∙ is) in
      subst (λ it. Linked Holds it (Const text)) (sym (constant ∙ ap Const same)) here
  linked_text text term (inr (fact, holds, inside)) is = elim (read.unnamed fact term holds inside) [
    | inl (other, linked) ↦ subst (λ it. Linked Holds term (Const it))
        (Text-same other text (sym (read.keeps other) ∙ sym (read.one term (Const other) linked) ∙ is)) linked
    | inr (node, unnamed) ↦ absurd (Text-apart-Node text node (sym is ∙ unnamed))
  ]

  -- a term is linked with the name of a term of the query that has its value
  linked_name : (left term : Term) → IsConstant left ⊎ IsHeld left → IsFixedBy query.body term → value left ≡ m term → Linked Holds left (name_of term)
  linked_name left term placed fixed is = elim (value_cases (m term)) [
    | inl (text, textual) ↦ subst (Linked Holds left) (sym ((choice term).1.0 text textual)) (linked_text text left placed (is ∙ textual))
    | inr (node, unnamed) ↦ by node unnamed placed fixed
  ]
    where
      unlike : (node : ℕ) → m term ≡ Node node → (text : List ℕ) → m term ≡ Text text → ⊥
      unlike node unnamed text textual = Text-apart-Node text node (sym textual ∙ unnamed)

      by : (node : ℕ) → m term ≡ Node node → IsConstant left ⊎ IsHeld left → IsFixedBy query.body term → Linked Holds left (name_of term)
      by node unnamed (inl (text, constant)) fixed = absurd (unlike node unnamed text (sym is ∙ ap value constant ∙ read.keeps text))
      by node unnamed (inr own) (inl (text, constant)) = absurd (unlike node unnamed text (ap m constant ∙ keeps text))
      by node unnamed (inr (fact, holds, inside)) (inr mentioned) = elim ((choice term).1.1 mentioned) [
        | inl (text, textual) ↦ absurd (unlike node unnamed text textual)
        | inr ((other, other_holds, other_inside), same) ↦
            read.apart fact other left (name_of term) holds other_holds inside other_inside (is ∙ sym same)
      ]

  linked_rows : (lefts terms : List Term) → ((left : Term) → Contains lefts left → IsConstant left ⊎ IsHeld left)
      → ((term : Term) → Contains terms term → IsFixedBy query.body term) → map value lefts ≡ map m terms
      → AllZip (Linked Holds) lefts (map name_of terms)
  linked_rows [] [] placed fixed is = tt
  linked_rows [] (term ∷ terms) placed fixed is = absurd (cc)
  linked_rows (left ∷ lefts) [] placed fixed is = absurd (cc)
  linked_rows (left ∷ lefts) (term ∷ terms) placed fixed is =
      let first : value left ≡ m term = cc in
      let rest : map value lefts ≡ map m terms = cc in (
        linked_name left term (placed left (Contains-head left lefts)) (fixed term (Contains-head term terms)) first,
        linked_rows lefts terms (λ it inside. placed it (Contains-rest left lefts it inside)) (λ it inside. fixed it (Contains-rest term terms it inside)) rest,
      )

  reached : (atom : Fact Term) → Contains query.body atom → Reaches Holds (image name_of atom)
  reached atom inside =
      let from = of_atom atom inside in (
        from.0,
        from.1,
        (
          ap (λ (it : Fact Value). it.relation) from.2,
          linked_rows from.0.terms atom.terms (λ left in_fact. inr (from.0, from.1, in_fact)) (λ term in_atom. inr (atom, inside, in_atom))
              (ap (λ (it : Fact Value). it.terms) from.2),
        ),
      )

  -- an answer whose row has the targets' values is a match whose head is one with the targets
  pub answer_matches : (targets : List Term) → ((left : Term) → Contains targets left → IsConstant left ⊎ IsHeld left)
      → ((term : Term) → Contains query.head term → IsFixedBy query.body term) → map value targets ≡ map m query.head
      → HasMatch Holds query.head query.body targets
  answer_matches targets placed safe is =
      (name_of, (λ text. (choice (Const text)).1.0 text (keeps text)), reached, linked_rows targets query.head placed safe is)
