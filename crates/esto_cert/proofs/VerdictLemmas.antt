-- The walk over the lines of a certificate.
use Rattle.std.proofs.Common.{Bool, ◌≡◌, ◌⊎◌, inl, inr, ℕ, ◌+◌, ◌<◌, List, [], ◌∷◌, ◌++◌, drop, map, length, get_or, Option, Some, None, Result, Ok, Err, IfOk}
use Rattle.std.proofs.Common.{subst, refl, sym, arith, zero, suc}
use Rattle.std.proofs.lemmas.List.{drop_more}
use Rattle.esto_term.specs.declared.term.Term.{Term}
use Rattle.esto_constraint.specs.Constraints.{rules_of}
use Rattle.esto_constraint.specs.declared.rule.Constraint.{Constraint}
use Rattle.esto_semantics.specs.Queries.{ConjunctiveQuery}
use Rattle.esto_semantics.specs.declared.expanded.ExpandedFact.{ExpandedFact}
use Rattle.esto_chase_laws.specs.declared.entry.Claim.{Claim}
use Rattle.esto_cert.specs.Certificates.{Case}
use Rattle.esto_cert.specs.Judging.{Answers, Decides, IsJudgedText, Verdict, after_end}
use Rattle.esto_cert.specs.Lines.{line_of}
use Rattle.esto_cert.specs.declared.check.CertError.{CertError}
use Rattle.esto_cert.specs.declared.judging.Judged.{Judged}
use Rattle.esto_cert.specs.declared.judging.Judged.TheVariants.{Claims, Ends, Refused}

module _ {X : Type 0} (f : X → List ℕ) (case : Case) (claims : List Claim) (parts : List X) (place : ℕ)
    (so_far : (verdict : Option ℕ) → Verdict case claims (place + 1) (map f (drop place parts)) verdict → Verdict case [] 1 (map f parts) verdict)
    (default : X) (within : place < length parts) where
  abbrev pub part : X
  part = get_or parts place default

  dropped : drop place parts ≡ part ∷ drop (place + 1) parts
  dropped = drop_more parts place default within

  from_part : (verdict : Option ℕ) → Verdict case claims (place + 1) (f part ∷ map f (drop (place + 1) parts)) verdict → Verdict case [] 1 (map f parts) verdict
  from_part verdict is = so_far verdict (subst (λ (it : List X). Verdict case claims (place + 1) (map f it) verdict) (sym dropped) is)

  goes : (rest : List (List ℕ)) (verdict : Option ℕ) → 0 < length rest
      → (((claim : Claim) × IsJudgedText case claims (line_of (f part)) (Claims claim)
      × Verdict case (claims ++ claim ∷ []) (place + 1 + 1) rest verdict)
      ⊎ (IsJudgedText case claims (line_of (f part)) Ends × (verdict ≡ after_end (place + 1) rest)))
      ⊎ (IsJudgedText case claims (line_of (f part)) Refused × (verdict ≡ Some (place + 1)))
      → Verdict case claims (place + 1) (f part ∷ rest) verdict
  goes [] verdict more it = absurd (omega (arith, more))
  goes (next ∷ rest) verdict more it = it

  long : {Y : Type 0} (count : ℕ) (items : List Y) → count < length items → 0 < length (drop count items)
  long zero items more = more
  long (suc count) [] more = absurd (omega (arith, more))
  long (suc count) (first ∷ rest) more = long count rest (omega (arith, more))

  mapped : (items : List X) → 0 < length items → 0 < length (map f items)
  mapped [] more = more
  mapped (first ∷ rest) more = omega arith

  after : place + 1 < length parts → 0 < length (map f (drop (place + 1) parts))
  after more = mapped (drop (place + 1) parts) (long (place + 1) parts more)

  module _ (shown : List Claim) (judged : Judged) (shown_is : shown ≡ claims) (text : IsJudgedText case shown (line_of (f part)) judged)
      (more : place + 1 < length parts) where
    said : (it : Judged) → judged ≡ it → IsJudgedText case claims (line_of (f part)) it
    said it is = subst (λ (its : List Claim). IsJudgedText case its (line_of (f part)) it) shown_is
        (subst (λ (its : Judged). IsJudgedText case shown (line_of (f part)) its) is text)

    pub claims_on : (claim : Claim) → judged ≡ Claims claim → (later : List Claim) → later ≡ claims ++ claim ∷ [] → (verdict : Option ℕ)
        → Verdict case later (place + 1 + 1) (map f (drop (place + 1) parts)) verdict → Verdict case [] 1 (map f parts) verdict
    claims_on claim is later pushed verdict rest =
        from_part verdict (goes (map f (drop (place + 1) parts)) verdict (after more)
        (inl (inl (
          claim,
          said (Claims claim) is,
          subst (λ (its : List Claim). Verdict case its (place + 1 + 1) (map f (drop (place + 1) parts)) verdict) pushed rest,
        ))))

    pub ends_at : judged ≡ Ends → (found : Option ℕ) → found ≡ after_end (place + 1) (map f (drop (place + 1) parts)) → Verdict case [] 1 (map f parts) found
    ends_at is found at = from_part found (goes (map f (drop (place + 1) parts)) found (after more) (inl (inr (said Ends is, at))))

    pub refused_at : judged ≡ Refused → Verdict case [] 1 (map f parts) (Some (place + 1))
    refused_at is = from_part _ (goes (map f (drop (place + 1) parts)) _ (after more) (inr (said Refused is, refl)))

-- the last part is no line
module _ {X : Type 0} (f : X → List ℕ) (case : Case) (claims : List Claim) (parts : List X) (place : ℕ)
    (so_far : (verdict : Option ℕ) → Verdict case claims (place + 1) (map f (drop place parts)) verdict → Verdict case [] 1 (map f parts) verdict) where
  single : (items : List X) → length items ≡ 1 → Verdict case claims (place + 1) (map f items) (Some (place + 1))
  single [] one = refl
  single (part ∷ []) one = refl
  single (part ∷ next ∷ rest) one = absurd (omega (arith, one))

  left : (count : ℕ) (items : List X) → count + 1 ≡ length items → length (drop count items) ≡ 1
  left zero items is = sym is
  left (suc count) [] is = absurd (omega (arith, is))
  left (suc count) (first ∷ rest) is = left count rest (omega (arith, is))

  pub last_at : place + 1 ≡ length parts → Verdict case [] 1 (map f parts) (Some (place + 1))
  last_at is = so_far _ (single (drop place parts) (left place parts is))

pub no_parts : {X : Type 0} (f : X → List ℕ) (case : Case) (parts : List X) → length parts ≡ 0 → Verdict case [] 1 (map f parts) (Some 1)
no_parts f case [] none = refl
no_parts f case (part ∷ parts) none = absurd (omega (arith, none))

-- ---- the whole

pub same_case : (set : List Bool) (query : ConjunctiveQuery) (expanded other : List ExpandedFact) (rules others : List Constraint)
    (targets others_too : List Term) → expanded ≡ other → rules ≡ others → targets ≡ others_too
    → ◌≡◌ {A = Case} (record { expanded = expanded; set = set; rules = rules_of rules; query = query; targets = targets })
    (record { expanded = other; set = set; rules = rules_of others; query = query; targets = others_too })
same_case set query expanded other rules others targets others_too a b c = λ i.
    record { expanded = a i; set = set; rules = rules_of (b i); query = query; targets = c i }

pub decided : (case other : Case) (bytes : List ℕ) (found verdict : Option ℕ) → case ≡ other → found ≡ verdict → Decides case bytes found
    → Decides other bytes verdict
decided case other bytes found verdict cases is it =
    subst (λ (its : Case). Decides its bytes verdict) cases (subst (Decides case bytes) is it)

pub accepted_only : {A : Type 0} (Verdicts : Option ℕ → Type 0) (Shown : Type 0) (result : Result A CertError) → Answers Verdicts result
    → (Verdicts None → Shown) → IfOk result (λ _. Shown)
accepted_only Verdicts Shown (Ok done) answer show = show answer
accepted_only Verdicts Shown (Err refusal) answer show = tt
