-- Lines that make claims, one after the other.
use Rattle.std.proofs.Common.{◌≡◌, ◌⊎◌, inl, inr, ℕ, ◌+◌, ◌<◌, zero, suc, List, [], ◌∷◌, ◌++◌, length, map, take, slice_get, Option, Some, None, subst, refl}
use Rattle.std.proofs.Common.{sym, ◌∙◌, arith}
use Rattle.std.proofs.lemmas.List.{append_assoc, append-nil, length-append, take-append-le, take_all}
use Rattle.std.proofs.lemmas.Option.{slice_get_within}
use Rattle.esto_term.proofs.ListLemmas.{at_pushed}
use Rattle.esto_chase_laws.specs.declared.entry.Claim.{Claim}
use Rattle.esto_cert.specs.Certificates.{Case, MayClaim, MayEnd}
use Rattle.esto_cert.specs.Judging.{IsJudgedText, Verdict}
use Rattle.esto_cert.specs.Lines.{line_of}
use Rattle.esto_cert.specs.Showing.{AreClaimsOf}
use Rattle.esto_cert.specs.declared.judging.Judged.TheVariants.{Claims, Ends}
use Rattle.esto_cert.specs.declared.line.Line.{Line}

module _ (case : Case) (lines : List Line) (claims : List Claim) (line : Line) (claim : Claim) (may : MayClaim case claims line claim)
    (are : AreClaimsOf case lines claims) where
  pub claims_more : AreClaimsOf case (lines ++ line ∷ []) (claims ++ claim ∷ [])
  claims_more = record {
    as_many = omega (arith, length-append claims (claim ∷ []), length-append lines (line ∷ []), are.as_many);
    each = λ place its its_claim at claimed. elim (at_pushed lines line place its at) [
      | inl earlier ↦ old place its its_claim earlier (slice_get_within lines place its earlier) (at_pushed claims claim place its_claim claimed)
      | inr (last, is) ↦ own place its its_claim last is (at_pushed claims claim place its_claim claimed)
    ];
  }
    where
      old : (place : ℕ) (its : Line) (its_claim : Claim) → slice_get lines place ≡ Some its → place < length lines
          → (slice_get claims place ≡ Some its_claim) ⊎ ((place ≡ length claims) × (claim ≡ its_claim))
          → MayClaim case (take place (claims ++ claim ∷ [])) its its_claim
      old place its its_claim at within (inl claimed) =
          subst (λ (it : List Claim). MayClaim case it its its_claim)
          (sym (take-append-le place claims (claim ∷ []) (omega (arith, slice_get_within claims place its_claim claimed))))
          (are.each place its its_claim at claimed)
      old place its its_claim at within (inr (last, is)) = absurd (omega (arith, within, last, are.as_many))

      own : (place : ℕ) (its : Line) (its_claim : Claim) → place ≡ length lines → line ≡ its
          → (slice_get claims place ≡ Some its_claim) ⊎ ((place ≡ length claims) × (claim ≡ its_claim))
          → MayClaim case (take place (claims ++ claim ∷ [])) its its_claim
      own place its its_claim last is (inl claimed) = absurd (omega (arith, last, slice_get_within claims place its_claim claimed, are.as_many))
      own place its its_claim last is (inr (end, claim_is)) =
          subst (λ (it : List Claim). MayClaim case it its its_claim)
          (sym (take-append-le place claims (claim ∷ []) (omega (arith, end)) ∙ take_all place claims (omega (arith, end))))
          (subst (λ (it : Line). MayClaim case claims it its_claim) is (subst (MayClaim case claims line) claim_is may))

-- ---- their verdict

module _ (case : Case) where
  goes_on : (claims : List Claim) (number : ℕ) (part : List ℕ) (parts : List (List ℕ)) (claim : Claim)
      → IsJudgedText case claims (line_of part) (Claims claim) → Verdict case (claims ++ claim ∷ []) (number + 1) (parts ++ [] ∷ []) None
      → Verdict case claims number (part ∷ parts ++ [] ∷ []) None
  goes_on claims number part [] claim judged rest = inl (inl (claim, judged, rest))
  goes_on claims number part (next ∷ parts) claim judged rest = inl (inl (claim, judged, rest))

  pub no_verdict : (last : Line) (lines : List Line) (parts : List (List ℕ)) (claims more : List Claim) (number : ℕ)
      → map line_of parts ≡ map Some (lines ++ last ∷ []) → length more ≡ length lines
      → ((place : ℕ) (line : Line) (claim : Claim) → slice_get lines place ≡ Some line → slice_get more place ≡ Some claim
      → MayClaim case (claims ++ take place more) line claim) → MayEnd case (claims ++ more) last → Verdict case claims number (parts ++ [] ∷ []) None
  no_verdict last [] [] claims more number read as_many each ends = absurd (cc)
  no_verdict last [] (part ∷ next ∷ parts) claims more number read as_many each ends = absurd (cc)
  no_verdict last [] (part ∷ []) claims (claim ∷ more) number read as_many each ends = absurd (omega (arith, as_many))
  no_verdict last [] (part ∷ []) claims [] number read as_many each ends =
      let is : line_of part ≡ Some last = cc in
      inl (inr (
        subst (λ (it : Option Line). IsJudgedText case claims it Ends) (sym is)
            (subst (λ (it : List Claim). MayEnd case it last) (append-nil claims) ends),
        refl,
      ))
  no_verdict last (line ∷ lines) [] claims more number read as_many each ends = absurd (cc)
  no_verdict last (line ∷ lines) (part ∷ parts) claims [] number read as_many each ends = absurd (omega (arith, as_many))
  no_verdict last (line ∷ lines) (part ∷ parts) claims (claim ∷ more) number read as_many each ends =
      let is : line_of part ≡ Some line = cc in
      let rest : map line_of parts ≡ map Some (lines ++ last ∷ []) = cc in
      let few : length more ≡ length lines = omega (arith, as_many) in
      goes_on claims number part parts claim
      (subst (λ (it : Option Line). IsJudgedText case claims it (Claims claim)) (sym is)
      (subst (λ (it : List Claim). MayClaim case it line claim) (append-nil claims) (each zero line claim refl refl)))
      (no_verdict last lines parts (claims ++ claim ∷ []) more (number + 1) rest few
      (λ place its its_claim at claimed. subst (λ (it : List Claim). MayClaim case it its its_claim) (sym (append_assoc claims (claim ∷ []) (take place more)))
      (each (suc place) its its_claim at claimed))
      (subst (λ (it : List Claim). MayEnd case it last) (sym (append_assoc claims (claim ∷ []) more)) ends))
