-- Names that stand in a head twice.
use Rattle.std.proofs.Common.{◌≡◌, ℕ, ◌+◌, ◌<◌, ◌≤◌, inl, inr, List, length, take, get_or, Some, refl, sym, subst, ◌∙◌, arith}
use Rattle.std.specs.Prelude.{slice_get}
use Rattle.std.proofs.lemmas.Option.{slice_get-get_or, slice_get_within}
use Rattle.std.proofs.lemmas.Bool.{cases_lt}
use Rattle.esto_text.specs.Tokens.{text_of}
use Rattle.esto_text.specs.declared.token.Token.{Token}
use Rattle.esto_text.specs.declared.fault.TextKind.TheVariants.{Unsafe}
use Rattle.esto_term.specs.declared.term.Term.{Term}
use Rattle.esto_semantics.specs.declared.fact.Fact.{Fact}
use Rattle.esto_read.specs.Heads.{HasText, IsRepeat, AreDifferent, IsFirstRepeat, IsFirstMissing}
use Rattle.esto_read.specs.Readings.{IsAllowed, IsHeadFault}
use Rattle.esto_read.specs.declared.read.Form.{Form}

module _ (bytes : List ℕ) (variables : List Token) where
  abbrev pub NoneBefore : ℕ → Type 0
  NoneBefore place = (before : ℕ) (other : Token) → before < place → ¬ IsRepeat bytes variables before other

  module _ (place : ℕ) (d : Token) (lt : place < length variables) (none : NoneBefore place) where
    pub repeat_found : HasText bytes (take place variables) (text_of bytes (get_or variables place d))
        → IsFirstRepeat bytes variables (get_or variables place d).start
    repeat_found h = (place, get_or variables place d, (slice_get-get_or variables place d lt, h), refl, none)

    pub none_more : ¬ HasText bytes (take place variables) (text_of bytes (get_or variables place d)) → NoneBefore (place + 1)
    none_more n before other below repeat =
        elim (cases_lt before place) [
          | inl less ↦ none before other less repeat
          | inr more ↦
              let at : before ≡ place = omega arith in
              let here : slice_get variables place ≡ Some other = subst (λ (k : ℕ). slice_get variables k ≡ Some other) at repeat.0 in
              let found : Some (get_or variables place d) ≡ Some other = sym (slice_get-get_or variables place d lt) ∙ here in
              let same : get_or variables place d ≡ other = cc in
              n (subst (λ (t : Token). HasText bytes (take place variables) (text_of bytes t)) (sym same)
              (subst (λ (k : ℕ). HasText bytes (take k variables) (text_of bytes other)) at repeat.1))
        ]

  pub none_at_all : (place : ℕ) → length variables ≤ place → NoneBefore place → AreDifferent bytes variables
  none_at_all place le none before other repeat = none before other (omega (arith, slice_get_within variables before other repeat.0)) repeat

-- ---- the first fault of a head

pub missing_fault : (form : Form) (bytes : List ℕ) (variables : List Token) (head : List Term) (body : List (Fact Term)) (place : ℕ) (other : Token)
    → IsAllowed form bytes variables → length head ≡ length variables → IsFirstMissing body head place
    → IsHeadFault form bytes variables head body (record { offset = (get_or variables place other).start; kind = Unsafe })
missing_fault form bytes variables head body place other allowed lengths (term, there, unsaid, before) =
    let within : place < length variables = omega (arith, slice_get_within head place term there, lengths) in
    inr (refl, allowed, place, get_or variables place other, (term, there, unsaid, before), slice_get-get_or variables place other within, refl)
