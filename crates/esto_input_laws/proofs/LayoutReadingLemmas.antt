-- The entries of a layout say a pattern, or one of their names is no column's.
use Rattle.std.proofs.Common.{◌≡◌, ◌⊎◌, ℕ, inl, inr, List, [], ◌∷◌, refl, sym, ap, subst, ◌∙◌}
use Rattle.esto_docmodel.proofs.ShapeLemmas.{entry-Value, entry-Group}
use Rattle.esto_docmodel.specs.Patterns.{Entries, done, holds, group}
use Rattle.esto_docmodel.specs.Shapes.{entries_of as pattern_of}
use Rattle.esto_docmodel.specs.declared.pattern.Entry.{Entry}
use Rattle.esto_docmodel.specs.declared.pattern.Entry.TheVariants as entry
use Rattle.esto_query.specs.declared.query.Name.{Name}
use Rattle.esto_term.proofs.ChoiceLemmas.{Decided, decided_both, decided_not}
use Rattle.esto_term.proofs.ListLemmas.{Contains-nil, Contains-cases}
use Rattle.esto_text.proofs.LeafLemmas.{layout_stands}
use Rattle.esto_text.specs.Grammar.{IsLayout}
use Rattle.esto_text.specs.Tokens.{text_of}
use Rattle.esto_text.specs.declared.fault.TextFault.{TextFault}
use Rattle.esto_text.specs.declared.fault.TextKind.TheVariants.{Unknown}
use Rattle.esto_text.specs.declared.token.Token.{Token}
use Rattle.esto_read.specs.Layouts.{terms_of, IsStranger, AreKnown, IsFirstStranger, IsLayoutReading, IsLayoutFault}
use Rattle.esto_read.specs.Patterns.{AreEntries}
use Rattle.esto_input_laws.specs.Totality.{HasOneOf}
use Rattle.esto_input_laws.proofs.PartReadingLemmas.{given_in, entries_of}
use Rattle.esto_input_laws.proofs.TreeLemmas.{is_name, layout_or_stop, text_or_fault}

module _ (bytes : List ℕ) (columns : List Name) where
  stranger : (token : Token) → Decided (IsStranger bytes columns token)
  stranger token = decided_both (is_name token.kind) (decided_not (given_in columns (text_of bytes token)))

  known_more : (token : Token) (tokens : List Token) → ¬ IsStranger bytes columns token → AreKnown bytes columns tokens
      → AreKnown bytes columns (token ∷ tokens)
  known_more token tokens known rest other inside = elim (Contains-cases token tokens other inside) [
    | inl is ↦ subst (λ (t : Token). ¬ IsStranger bytes columns t) is known
    | inr later ↦ rest other later
  ]

  known_or_strange : (tokens : List Token) → AreKnown bytes columns tokens ⊎ ((fault : TextFault) × IsFirstStranger bytes columns tokens fault)
  known_or_strange [] = inl (λ token inside. absurd (Contains-nil token inside))
  known_or_strange (token ∷ tokens) = by (stranger token) (known_or_strange tokens)
    where
      by : Decided (IsStranger bytes columns token)
          → (AreKnown bytes columns tokens ⊎ ((fault : TextFault) × IsFirstStranger bytes columns tokens fault))
          → AreKnown bytes columns (token ∷ tokens) ⊎ ((fault : TextFault) × IsFirstStranger bytes columns (token ∷ tokens) fault)
      by (inl strange) later =
          inr (record { offset = token.start; kind = Unknown }, ([], tokens, token, refl, λ other inside. absurd (Contains-nil other inside), strange, refl))
      by (inr known) (inl rest) = inl (known_more token tokens known rest)
      by (inr known) (inr (fault, (front, rest, other, is, front_known, strange, at))) =
          inr (fault, (token ∷ front, rest, other, ap (λ (l : List Token). token ∷ l) is, known_more token front known front_known, strange, at))

-- the program's entries for those of a pattern
written : (pattern : Entries) → (entries : List Entry) × (pattern_of entries ≡ pattern)
written done = ([], refl)
written (holds steps term rest) =
    let (later, is) = written rest in
    (entry.Value steps term ∷ later, entry-Value steps term (pattern_of later) ∙ ap (holds steps term) is)
written (group steps inner rest) =
    let (inside, same) = written inner in
    let (later, is) = written rest in (
      entry.Group steps inside ∷ later,
      entry-Group steps inside (pattern_of later) ∙ ap (λ (p : Entries). group steps p (pattern_of later)) same ∙ ap (group steps inner) is,
    )

pub layout_reading : (columns : List Name) (bytes : List ℕ) → HasOneOf (IsLayoutReading columns bytes) (IsLayoutFault columns bytes)
layout_reading columns bytes = elim (text_or_fault IsLayout (λ tokens. tokens) layout_or_stop bytes) [
  | inr (fault, is) ↦ inr (fault, inl is)
  | inl (es, (tokens, are, is)) ↦ elim (known_or_strange bytes columns (terms_of es)) [
    | inr (fault, strange) ↦ inr (fault, inr (es, (tokens, are, is), strange))
    | inl known ↦
        let (pattern, after, read) = entries_of bytes columns es (layout_stands bytes tokens es are.1 is) in
        let (entries, same) = written pattern in
        inl (record { entries = entries }, (es, after, (tokens, are, is), known, subst (λ (p : Entries). AreEntries bytes columns es p after) (sym same) read))
  ]
]
