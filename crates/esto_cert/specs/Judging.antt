-- Which line of a certificate is the first that is not so.
use Rattle.std.specs.Prelude.{◌≡◌, ◌⊎◌, ⊤, ◌==◌, ◌<◌, ◌≤◌, ℕ, ◌+◌, Bool, List, [], ◌∷◌, ◌++◌, Option, Some, None, length, Contains, Result, Ok, Err}
use Rattle.std.specs.List.{slice_split}
use Rattle.esto_term.specs.Nesting.{greatest_u64}
use Rattle.esto_constraint.specs.Constraints.{rules_of}
use Rattle.esto_constraint.specs.declared.rule.Constraint.{Constraint}
use Rattle.esto_semantics.specs.Maps.{AreFlat}
use Rattle.esto_query.specs.Making.{query_of}
use Rattle.esto_query.specs.declared.query.Query.{Query}
use Rattle.esto_views.specs.Expanded.{AreExpanded, Expands}
use Rattle.esto_semantics.specs.Expanded.{facts_of}
use Rattle.esto_semantics.specs.declared.expanded.ExpandedFact.{ExpandedFact}
use Rattle.esto_views.specs.declared.fragments.FragmentDef.{FragmentDef}
use Rattle.esto_views.specs.declared.plan.Plan.{Plan}
use Rattle.esto_chase_laws.specs.declared.entry.Claim.{Claim}
use Rattle.esto_cert.specs.Certificates.{Case, MayClaim, MayEnd}
use Rattle.esto_cert.specs.Lines.{line_of}
use Rattle.esto_cert.specs.declared.line.Line.{Line}
use Rattle.esto_cert.specs.declared.judging.Case.{Case as Given}
use Rattle.esto_cert.specs.declared.judging.Judged.{Judged}
use Rattle.esto_cert.specs.declared.judging.Judged.TheVariants.{Claims, Ends, Refused}
use Rattle.esto_cert.specs.declared.check.CertError.{CertError}
use Rattle.esto_cert.specs.declared.check.CertError.TheVariants.{Rejected, OutOfMemory}

-- The case without references and names.
abbrev pub case_of : Given → Case
case_of given =
    record {
      expanded = given.expanded.now;
      set = given.set.now;
      rules = rules_of given.rules.now;
      query = query_of given.query.now;
      targets = given.targets.now;
    }

-- Each expanded fact is of an atom that has a place in the set, and its place in the view's body is below the number of expanded facts.
abbrev pub AreNumbersOf : List Bool → List ExpandedFact → Type 0
AreNumbersOf set expanded = (fact : ExpandedFact) → Contains expanded fact → (fact.atom < length set) × (fact.place < length expanded)

-- 64 bits hold how many claims and rules there are, and the numbers of the expanded facts' atoms and places, counted from 1.
pub record AreFew (case : Case) (claims : List Claim) : Type 0 where
  pub claims_few : length claims ≤ greatest_u64
  pub rules_few : length case.rules ≤ greatest_u64
  pub atoms_few : (fact : ExpandedFact) → Contains case.expanded fact → fact.atom + 1 ≤ greatest_u64
  pub places_few : (fact : ExpandedFact) → Contains case.expanded fact → fact.place + 1 ≤ greatest_u64

-- A line's judgement is right: it says the claim that the line may make, or that the line may be the last, or that it may do neither.
abbrev pub IsJudged : Case → List Claim → Line → Judged → Type 0
IsJudged case claims line (Claims claim) = MayClaim case claims line claim
IsJudged case claims line Ends = MayEnd case claims line
IsJudged case claims line Refused = ((claim : Claim) → ¬ (MayClaim case claims line claim)) × ¬ (MayEnd case claims line)

-- The judgement of a line that may make this claim alone, or that may do nothing where there is none.
abbrev pub judged_of : Option Claim → Judged
judged_of None = Refused
judged_of (Some claim) = Claims claim

-- The judgement of what a line's bytes say is right, where bytes that say nothing are refused.
abbrev pub IsJudgedText : Case → List Claim → Option Line → Judged → Type 0
IsJudgedText case claims None judged = judged ≡ Refused
IsJudgedText case claims (Some line) judged = IsJudged case claims line judged

-- The number of the first line that is not so where the line of that number may be the last: none where nothing follows it, and else the next one.
abbrev pub after_end : ℕ → List (List ℕ) → Option ℕ
after_end number ([] ∷ []) = None
after_end number rest = Some (number + 1)

-- The first line that is not so among parts between line feeds, after lines with these claims, where the first part has that number: the last part is no line.
abbrev pub Verdict : Case → List Claim → ℕ → List (List ℕ) → Option ℕ → Type 0
Verdict case claims number [] verdict = verdict ≡ Some number
Verdict case claims number (part ∷ []) verdict = verdict ≡ Some number
Verdict case claims number (part ∷ next ∷ rest) verdict =
    (((claim : Claim) × IsJudgedText case claims (line_of part) (Claims claim) × Verdict case (claims ++ claim ∷ []) (number + 1) (next ∷ rest) verdict)
    ⊎ (IsJudgedText case claims (line_of part) Ends × (verdict ≡ after_end number (next ∷ rest))))
    ⊎ (IsJudgedText case claims (line_of part) Refused × (verdict ≡ Some number))

-- The bytes are accepted where the verdict is none, and else rejected at that line.
abbrev pub Decides : Case → List ℕ → Option ℕ → Type 0
Decides case bytes verdict = Verdict case [] 1 (slice_split (λ byte. byte == 10) bytes) verdict

-- What a certificate for a set of a plan's atoms is for, where these are the plan's expanded facts.
abbrev pub case_for : Plan → List Bool → List Constraint → Query → List ExpandedFact → Case
case_for plan set rules query expanded =
    record { expanded = expanded; set = set; rules = rules_of rules; query = query_of query; targets = plan.head }

-- The bytes have this verdict as a certificate for a set of a plan's atoms, by the plan's expansion over the fragments.
abbrev pub DecidesFor : Plan → List FragmentDef → List Bool → List Constraint → Query → List ℕ → Option ℕ → Type 0
DecidesFor plan fragments set rules query bytes verdict =
    (expanded : List ExpandedFact) × AreExpanded fragments 0 (length plan.names) plan.atoms expanded × Expands plan fragments expanded
    × AreFlat (facts_of expanded) × Decides (case_for plan set rules query expanded) bytes verdict

-- The answer is the verdict, or memory is wanting.
abbrev pub Answers : {A : Type 0} → (Option ℕ → Type 0) → Result A CertError → Type 0
Answers Verdicts (Ok _) = Verdicts None
Answers Verdicts (Err (Rejected line)) = Verdicts (Some line)
Answers Verdicts (Err OutOfMemory) = ⊤
