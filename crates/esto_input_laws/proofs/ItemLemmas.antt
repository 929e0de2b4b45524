-- An item fits or has a fault, and an item that fits gives atoms.
use Rattle.std.proofs.Common.{◌≡◌, ◌⊎◌, ℕ, ◌+◌, inl, inr, List, [], ◌∷◌, ◌++◌, length, Option, Some, None, refl, ap, subst}
use Rattle.std.specs.Prelude.{Contains, slice_get, codes}
use Rattle.std.specs.List.{AllByRecursion}
use Rattle.std.proofs.lemmas.Bool.{cases_lt, cases_eq}
use Rattle.esto_query.specs.declared.make.TheConstants.{MAX_ATOMS}
use Rattle.esto_query.specs.declared.query.Name.{Name}
use Rattle.esto_semantics.specs.declared.fact.Fact.{Fact}
use Rattle.esto_term.proofs.ChoiceLemmas.{Decided, decided_in, decided_as, decided_both, decided_either}
use Rattle.esto_term.proofs.ListLemmas.{place-from_Contains, Contains-at}
use Rattle.esto_term.specs.declared.term.Term.{Term}
use Rattle.esto_text.specs.Faults.{IsNameIn, IsFieldIn, IsTermIn}
use Rattle.esto_text.specs.Tokens.{text_of}
use Rattle.esto_text.specs.Trees.{ItemTree, Atom, Part, Pattern, EachOfItem}
use Rattle.esto_text.specs.declared.fault.TextFault.{TextFault}
use Rattle.esto_text.specs.declared.fault.TextKind.{TextKind}
use Rattle.esto_text.specs.declared.fault.TextKind.TheVariants.{Unknown, Arity, TooLarge}
use Rattle.esto_read.specs.Items.{name_of, IsRelationOf, HasArity, item_size, IsFitting, IsMisfit, AreFitting, IsFirstItemFault, AreAtomsOf, AreItems}
use Rattle.esto_docmodel.specs.Words.{IsBaseOf, IsPart, IsPartOf}
use Rattle.esto_docmodel.specs.declared.words.DataModel.{DataModel}
use Rattle.esto_docmodel.specs.declared.words.DataModel.TheVariants.{Table, Documents, Keys}
use Rattle.esto_docmodel.specs.declared.words.Word.{Word}
use Rattle.esto_input_laws.proofs.PartReadingLemmas.{atom_of, pattern_of}
use Rattle.esto_term.proofs.DecisionLemmas.{same_bytes}

-- ---- words

same_model : (model other : DataModel) → Decided (model ≡ other)
same_model Table Table = inl refl
same_model Documents Documents = inl refl
same_model Keys Keys = inl refl
same_model Table Documents = inr (λ e. cc)
same_model Table Keys = inr (λ e. cc)
same_model Documents Table = inr (λ e. cc)
same_model Documents Keys = inr (λ e. cc)
same_model Keys Table = inr (λ e. cc)
same_model Keys Documents = inr (λ e. cc)

base_of : (words : List Word) (name : List ℕ) (model : DataModel) → Decided ((base : ℕ) × IsBaseOf words name model base)
base_of words name model = decided_as
    (λ (word, inside, (is, of)). (word.base, (word, inside, is, of, refl)), λ (base, (word, inside, is, of, at)). (word, inside, (is, of)))
    (decided_in (λ word. (word.name ≡ name) × (word.model ≡ model)) (λ word. decided_both (same_bytes word.name name) (same_model word.model model)) words)

place_of : (texts : List (List ℕ)) (text : List ℕ) → Decided ((place : ℕ) × (slice_get texts place ≡ Some text))
place_of texts text = decided_as
    (λ (found, inside, is). place-from_Contains texts text (subst (Contains texts) is inside), λ (place, at). (text, Contains-at texts place text at, refl))
    (decided_in (λ found. found ≡ text) (λ found. same_bytes found text) texts)

part_place : (model : DataModel) (part : List ℕ) → Decided ((place : ℕ) × IsPart model part place)
part_place Table part = inr (λ (place, is). is)
part_place Documents part = place_of (codes "root" ∷ codes "field" ∷ codes "item" ∷ codes "value" ∷ codes "below" ∷ []) part
part_place Keys part = place_of (codes "pair" ∷ []) part

module _ (words : List Word) (name part : List ℕ) where
  abbrev IsPartIn : DataModel → Type 0
  IsPartIn model = ((base : ℕ) × IsBaseOf words name model base) × ((place : ℕ) × IsPart model part place)

  part_in : (model : DataModel) → Decided (IsPartIn model)
  part_in model = decided_both (base_of words name model) (part_place model part)

  part_of : Decided ((relation : ℕ) × IsPartOf words name part relation)
  part_of = decided_as (to, from) (decided_either (part_in Documents) (part_in Keys))
    where
      at : (model : DataModel) → IsPartIn model → (relation : ℕ) × IsPartOf words name part relation
      at model ((base, is), (place, there)) = (base + place, (model, base, place, is, there, refl))

      to : IsPartIn Documents ⊎ IsPartIn Keys → (relation : ℕ) × IsPartOf words name part relation
      to (inl here) = at Documents here
      to (inr here) = at Keys here

      by : (model : DataModel) (base place : ℕ) → IsBaseOf words name model base → IsPart model part place → IsPartIn Documents ⊎ IsPartIn Keys
      by Table base place is there = absurd there
      by Documents base place is there = inl ((base, is), (place, there))
      by Keys base place is there = inr ((base, is), (place, there))

      from : ((relation : ℕ) × IsPartOf words name part relation) → IsPartIn Documents ⊎ IsPartIn Keys
      from (relation, (model, base, place, is, there, sum)) = by model base place is there

-- ---- items

relation_of : (words : List Word) (bytes : List ℕ) (item : ItemTree) → Decided ((relation : ℕ) × IsRelationOf words bytes item relation)
relation_of words bytes (Atom name terms) = base_of words (text_of bytes name) Table
relation_of words bytes (Part name part terms) = part_of words (text_of bytes name) (text_of bytes part)
relation_of words bytes (Pattern name entries) = base_of words (text_of bytes name) Documents

is_number : (found : Option ℕ) (number : ℕ) → Decided (found ≡ Some number)
is_number None number = inr (λ e. cc)
is_number (Some other) number = decided_as (λ e. ap Some e, λ e. cc) (cases_eq other number)

has_arity : (schema : List ℕ) (item : ItemTree) (relation : ℕ) → Decided (HasArity schema item relation)
has_arity schema (Atom name terms) relation = is_number (slice_get schema relation) (length terms)
has_arity schema (Part name part terms) relation = is_number (slice_get schema relation) (length terms)
has_arity schema (Pattern name entries) relation = inl tt

module _ (words : List Word) (schema bytes : List ℕ) where
  fits : (atoms : ℕ) (item : ItemTree) → IsFitting words schema bytes atoms item ⊎ ((kind : TextKind) × IsMisfit words schema bytes atoms item kind)
  fits atoms item = elim (relation_of words bytes item) [
    | inl (relation, is) ↦ elim (has_arity schema item relation) [
      | inl long ↦ elim (cases_lt MAX_ATOMS (atoms + item_size item)) [
        | inl more ↦ inr (TooLarge, (relation, is, long, more))
        | inr room ↦ inl (relation, is, long, room)
      ]
      | inr other ↦ inr (Arity, (relation, is, other))
    ]
    | inr none ↦ inr (Unknown, λ relation is. none (relation, is))
  ]

  pub items_fit : (atoms : ℕ) (items : List ItemTree) → AreFitting words schema bytes atoms items
      ⊎ ((fault : TextFault) × IsFirstItemFault words schema bytes atoms items fault)
  items_fit atoms [] = inl tt
  items_fit atoms (item ∷ items) = by (fits atoms item) (items_fit (atoms + item_size item) items)
    where
      by : (IsFitting words schema bytes atoms item ⊎ ((kind : TextKind) × IsMisfit words schema bytes atoms item kind))
          → (AreFitting words schema bytes (atoms + item_size item) items
          ⊎ ((fault : TextFault) × IsFirstItemFault words schema bytes (atoms + item_size item) items fault))
          → AreFitting words schema bytes atoms (item ∷ items) ⊎ ((fault : TextFault) × IsFirstItemFault words schema bytes atoms (item ∷ items) fault)
      by (inr (kind, is)) later = inr (record { offset = (name_of item).start; kind = kind }, inl (refl, is))
      by (inl fit) (inl rest) = inl (fit, rest)
      by (inl fit) (inr (fault, is)) = inr (fault, inr (fit, is))

  abbrev pub ItemIn : ItemTree → Type 0
  ItemIn item = EachOfItem (IsNameIn bytes) (IsFieldIn bytes) (IsTermIn bytes) item

  item_atoms : (before : List Name) (item : ItemTree) (relation : ℕ) → ItemIn item
      → (atoms : List (Fact Term)) × (after : List Name) × AreAtomsOf bytes before item relation atoms after
  item_atoms before (Atom name terms) relation h = atom_of bytes before relation terms h.1
  item_atoms before (Part name part terms) relation h = atom_of bytes before relation terms h.2
  item_atoms before (Pattern name entries) base h = pattern_of bytes before base entries h.1

  pub items_of : (count : ℕ) (before : List Name) (items : List ItemTree) → AllByRecursion ItemIn items → AreFitting words schema bytes count items
      → (atoms : List (Fact Term)) × (after : List Name) × AreItems words schema bytes before items atoms after
  items_of count before [] h fit = ([], before, (refl, refl))
  items_of count before (item ∷ items) h ((relation, is, long, room), fit) =
      let (own, between, are) = item_atoms before item relation h.0 in
      let (rest, after, more) = items_of (count + item_size item) between items h.1 fit in
      (own ++ rest, after, (own, rest, between, refl, (relation, is, long, are), more))
