-- A head is fit, or has a fault.
use Rattle.std.proofs.Common.{◌≡◌, ◌⊎◌, ◌∙◌, ℕ, ◌<◌, inl, inr, List, length, take, Some, refl, sym, subst}
use Rattle.std.specs.Prelude.{slice_get}
use Rattle.std.proofs.lemmas.Option.{slice_get_within}
use Rattle.esto_query.proofs.SoundLemmas.{mentions_decided}
use Rattle.esto_semantics.specs.Facts.{Mentions}
use Rattle.esto_semantics.specs.declared.fact.Fact.{Fact}
use Rattle.esto_term.proofs.ChoiceLemmas.{Decided, decided_in, decided_as, least_below}
use Rattle.esto_term.proofs.ListLemmas.{place-from_Contains, thing_at}
use Rattle.esto_term.proofs.PlaceLemmas.{Contains-take_from}
use Rattle.esto_term.specs.declared.term.Term.{Term}
use Rattle.esto_text.specs.Tokens.{text_of}
use Rattle.esto_text.specs.declared.fault.TextFault.{TextFault}
use Rattle.esto_text.specs.declared.fault.TextKind.TheVariants.{SameVariable}
use Rattle.esto_text.specs.declared.token.Token.{Token}
use Rattle.esto_text.specs.declared.token.TokenKind.TheVariants as kind
use Rattle.esto_read.proofs.HeadLemmas.{missing_fault}
use Rattle.esto_read.specs.Heads.{HasText, AreDifferent, IsFirstRepeat, AreMentioned, IsFirstMissing}
use Rattle.esto_read.specs.Readings.{IsAllowed, IsRefused, IsHeadFit, IsHeadFault}
use Rattle.esto_read.specs.declared.read.Form.{Form}
use Rattle.esto_read.specs.declared.read.Form.TheVariants.{Query, View}
use Rattle.esto_term.proofs.DecisionLemmas.{same_bytes}

-- of a property that is decided at each thing of a list: the first place at which it holds, or it holds nowhere
pub first_at : {A : Type 0} (P : ℕ → A → Type 0) → ((place : ℕ) (thing : A) → Decided (P place thing)) → (things : List A)
    → ((place : ℕ) × (thing : A) × (slice_get things place ≡ Some thing) × P place thing
    × ((before : ℕ) (other : A) → before < place → slice_get things before ≡ Some other → ¬ P before other))
    ⊎ ((place : ℕ) (thing : A) → slice_get things place ≡ Some thing → ¬ P place thing)
first_at {A} P decide things = elim (least_below Holds (length things) holds) [
  | inl (place, within, (thing, at, has), none) ↦
      inl (place, thing, at, has, λ before other less there has'. none before less (other, there, has'))
  | inr none ↦ inr (λ place thing at has. none place (slice_get_within things place thing at) (thing, at, has))
]
  where
    Holds : ℕ → Type 0
    Holds place = (thing : A) × (slice_get things place ≡ Some thing) × P place thing

    holds : (place : ℕ) → place < length things → Decided (Holds place)
    holds place within =
        let (thing, at) = thing_at things place within in
        decided_as (
          λ has. (thing, at, has),
          λ (other, there, has). let both : Some other ≡ Some thing = sym there ∙ at in let same : other ≡ thing = cc in subst (P place) same has,
        )
        (decide place thing)

-- ---- names that stand twice

has_text : (bytes : List ℕ) (tokens : List Token) (text : List ℕ) → Decided (HasText bytes tokens text)
has_text bytes tokens text = decided_in (λ token. text_of bytes token ≡ text) (λ token. same_bytes (text_of bytes token) text) tokens

first_repeat : (bytes : List ℕ) (variables : List Token) → AreDifferent bytes variables ⊎ ((offset : ℕ) × IsFirstRepeat bytes variables offset)
first_repeat bytes variables = elim (first_at (λ place token. HasText bytes (take place variables) (text_of bytes token))
    (λ place token. has_text bytes (take place variables) (text_of bytes token)) variables) [
      | inl (place, token, at, has, none) ↦
          inr (token.start, (place, token, (at, has), refl, λ before other less repeat. none before other less repeat.0 repeat.1))
      | inr none ↦ inl (λ place token repeat. none place token repeat.0 repeat.1)
    ]

allowed : (form : Form) (bytes : List ℕ) (variables : List Token) → IsAllowed form bytes variables ⊎ ((offset : ℕ) × IsRefused form bytes variables offset)
allowed Query bytes variables = inl tt
allowed View bytes variables = first_repeat bytes variables

-- ---- terms that the body lacks

first_missing : (head : List Term) (body : List (Fact Term)) → AreMentioned body head ⊎ ((place : ℕ) × IsFirstMissing body head place)
first_missing head body = elim (first_at (λ place term. ¬ Mentions body term) (λ place term. missing term) head) [
  | inl (place, term, at, lacks, none) ↦ inr (
    place,
    (
      term,
      at,
      lacks,
      λ other inside.
          let (before, less, there) = Contains-take_from head place other inside in
          known other (none before other less there),
    ),
  )
  | inr none ↦ inl (λ term inside. let (place, at) = place-from_Contains head term inside in known term (none place term at))
]
  where
    missing : (term : Term) → Decided (¬ Mentions body term)
    missing term = elim (mentions_decided body term) [ inl has ↦ inr (λ lacks. lacks has) | inr lacks ↦ inl lacks ]

    known : (term : Term) → ¬ (¬ Mentions body term) → Mentions body term
    known term refuted = elim (mentions_decided body term) [ inl has ↦ has | inr lacks ↦ absurd (refuted lacks) ]

-- ---- both

pub head_fits : (form : Form) (bytes : List ℕ) (variables : List Token) (head : List Term) (body : List (Fact Term)) → length head ≡ length variables
    → IsHeadFit form bytes variables head body ⊎ ((fault : TextFault) × IsHeadFault form bytes variables head body fault)
head_fits form bytes variables head body long = elim (allowed form bytes variables) [
  | inl may ↦ elim (first_missing head body) [
    | inl all ↦ inl (may, all)
    | inr (place, missing) ↦ inr (_, missing_fault form bytes variables head body place (record { kind = kind.Name; start = 0; end = 0 }) may long missing)
  ]
  | inr (offset, refused) ↦ inr (record { offset = offset; kind = SameVariable }, inl (refl, refused))
]
