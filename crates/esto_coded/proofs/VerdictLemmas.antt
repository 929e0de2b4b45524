-- Verdicts on rules.
use Rattle.std.proofs.Common.{◌≡◌, ◌↔◌, ℕ, Bool, true, false, List, [], ◌∷◌, ◌++◌, length, get_or, Contains, Option, None, Some, sym, ◌∙◌}
use Rattle.std.proofs.Common.{subst, IsTrue, Result, Ok, Err}
use Rattle.std.specs.Prelude.{IfSome}
use Rattle.std.specs.Result.{IfOk, result_ok}
use Rattle.std.proofs.lemmas.Bool.{false≢true}
use Rattle.esto_relmodel.specs.Parts.{IsPartFor}
use Rattle.esto_semantics.specs.Maps.{IsFixedBy}
use Rattle.esto_semantics.specs.Rules.{Rule, equality}
use Rattle.esto_semantics.specs.declared.fact.Fact.{Fact}
use Rattle.esto_term.specs.declared.list.OutOfMemory.{OutOfMemory}
use Rattle.esto_term.specs.declared.term.Term.{Term}
use Rattle.esto_rows.specs.Told.{AreTold}
use Rattle.esto_rows.specs.Wanted.{HaveApart, HaveWanted}
use Rattle.esto_rows.specs.declared.wanted.Wanted.TheVariants.{Unequal}
use Rattle.esto_coded.specs.Active.{HaveActive}
use Rattle.esto_coded.specs.Answered.{AreCodedAnswers}
use Rattle.esto_coded.specs.Coded.{Coded, AreTelling}
use Rattle.esto_coded.specs.Met.{StaysFor, AnswersWhether, Judges}
use Rattle.esto_coded.specs.Mirrored.{IsMirrored}
use Rattle.esto_coded.specs.Parted.{ArePart, GivesPart, IsSpreadPart}
use Rattle.esto_coded.specs.Spread.{Spreads}
use Rattle.esto_coded.specs.Verdict.{given_part}
use Rattle.esto_coded.specs.declared.verdict.Verdict.{Verdict}
use Rattle.esto_coded.specs.declared.verdict.Verdict.TheVariants.{Met, Broken}
use Rattle.esto_coded.proofs.ActiveLemmas.{mirrored_active, sides_active}
use Rattle.esto_coded.proofs.MeetLemmas.{HaveTexts, equality_answered}
use Rattle.esto_coded.proofs.MirrorLemmas.{head_fixed, mirrored_answered}
use Rattle.esto_coded.proofs.PartLemmas.{equality_gives, gives_before}

-- ---- parts by codes that spread

pub spread_gives : (coded : Coded) (lead : List Term) (over body : List (Fact Term)) (seed codes : List ℕ) → Spreads coded lead over seed codes
    → (made : Result (List (Fact Term)) OutOfMemory) → IfOk made (ArePart coded body codes) → (part : Option (List (Fact Term))) → part ≡ result_ok made
    → IfSome part (IsSpreadPart coded lead over body seed)
spread_gives coded lead over body seed codes spreads (Ok facts) are part is =
    subst (λ (it : Option (List (Fact Term))). IfSome it (IsSpreadPart coded lead over body seed)) (sym is) (codes, spreads, are)
spread_gives coded lead over body seed codes spreads (Err error) are part is =
    subst (λ (it : Option (List (Fact Term))). IfSome it (IsSpreadPart coded lead over body seed)) (sym is) tt

-- ---- from answers

module _ (coded : Coded) (rule : Rule) (answer : Bool) (whether : AnswersWhether coded rule answer) where
  pub judged_met : answer ≡ true → Judges coded rule Met
  judged_met so = record { met = λ facts stand. (whether facts stand).0 so; part = tt }

  pub judged_broken : answer ≡ false → (part : Option (List (Fact Term))) → GivesPart coded rule part → Judges coded rule (Broken part)
  judged_broken apart part gives = record {
    met = λ facts stand met. false≢true (sym apart ∙ (whether facts stand).1 met);
    part = gives;
  }

-- what is judged of the rows now is so of the rows before
judged_before : (old new : Coded) (rule : Rule) (verdict : Verdict) → StaysFor old new → Judges new rule verdict → Judges old rule verdict
judged_before old new rule verdict stays judged = record {
  met = λ facts stand. judged.met facts (stays.facts facts stand);
  part = gives_before old new rule (given_part verdict) stays judged.part;
}

-- ---- the sides turned

turned_part : (body : List (Fact Term)) (left right : Term) (all part : List (Fact Term)) → IsPartFor (equality body left right) all part
    → IsPartFor (equality body right left) all part
turned_part body left right all part is = record {
  among = is.among;
  in_order = is.in_order;
  active = λ m places active. is.active m places (record {
    keeps = active.keeps;
    matches = active.matches;
    active = λ same. active.active (sym same);
  });
  concluded = λ m keeps sends concluded. concluded;
}

turned_gives : (coded : Coded) (body : List (Fact Term)) (left right : Term) (answer : Option (List (Fact Term)))
    → GivesPart coded (equality body left right) answer → GivesPart coded (equality body right left) answer
turned_gives coded body left right None gives = tt
turned_gives coded body left right (Some part) gives = λ all order. turned_part body left right all part (gives all order)

pub turned_judged : (coded : Coded) (body : List (Fact Term)) (left right : Term) (verdict : Verdict) → Judges coded (equality body left right) verdict
    → Judges coded (equality body right left) verdict
turned_judged coded body left right Met judged = record { met = λ facts stand m keeps sends. sym (judged.met facts stand m keeps sends); part = tt }
turned_judged coded body left right (Broken part) judged = record {
  met = λ facts stand met. judged.met facts stand (λ m keeps sends. sym (met m keeps sends));
  part = turned_gives coded body left right part judged.part;
}

-- ---- by all pairs of what the sides stand for

module _ (old coded : Coded) (stays : StaysFor old coded) (tell : AreTelling coded.texts) (body : List (Fact Term)) (left right : Term)
    (sides : List Term) (fixed : (term : Term) → Contains sides term → IsFixedBy body term) (are : sides ≡ left ∷ right ∷ [])
    (known : HaveTexts coded.texts sides) (rows : List (List ℕ)) (answers : AreCodedAnswers coded (record { head = sides; body = body }) rows)
    (answer : Bool) (told : IsTrue answer ↔ ((row : List ℕ) → Contains rows row → get_or row 0 0 ≡ get_or row 1 0)) where
  sides_whether : AnswersWhether coded (equality body left right) answer
  sides_whether = equality_answered coded body left right rows answer tell (subst (HaveTexts coded.texts) are known)
      (subst (λ (terms : List Term). (term : Term) → Contains terms term → IsFixedBy body term) are fixed)
      (subst (λ (terms : List Term). AreCodedAnswers coded (record { head = terms; body = body }) rows) are answers) told

  pub sides_met : answer ≡ true → Judges old (equality body left right) Met
  sides_met so = judged_before old coded (equality body left right) Met stays (judged_met coded (equality body left right) answer sides_whether so)

  sides_give : (part : Option (List (Fact Term)))
      → IfSome part (λ it. (seed : List ℕ) × HaveWanted Unequal rows seed × IsSpreadPart coded sides body body seed it)
      → GivesPart coded (equality body left right) part
  sides_give None spread = tt
  sides_give (Some part) (seed, have, (codes, spreads, is)) = equality_gives coded body left right codes (Some part) tell
      (sides_active coded body left right sides rows seed codes are tell known fixed answers have spreads) is

  pub sides_broken : answer ≡ false → (part : Option (List (Fact Term)))
      → IfSome part (λ it. (seed : List ℕ) × HaveWanted Unequal rows seed × IsSpreadPart coded sides body body seed it)
      → Judges old (equality body left right) (Broken part)
  sides_broken apart part spread = judged_before old coded (equality body left right) (Broken part) stays
      (judged_broken coded (equality body left right) answer sides_whether apart part (sides_give part spread))

-- ---- by one half of a mirrored body

module _ (old coded : Coded) (stays : StaysFor old coded) (tell : AreTelling coded.texts) (body first : List (Fact Term)) (left : Term)
    (shared head : List Term) (are : head ≡ left ∷ shared) (known : HaveTexts coded.texts head) (rows : List (List ℕ))
    (answers : AreCodedAnswers coded (record { head = head; body = first }) rows) (answer : Bool) (told : IsTrue answer ↔ AreTold rows) where
  halves_whether : (second : List (Fact Term)) (right : Term) → first ++ second ≡ body → IsMirrored first second left right shared
      → AnswersWhether coded (equality body left right) answer
  halves_whether second right same is = subst (λ (them : List (Fact Term)). AnswersWhether coded (equality them left right) answer) same
      (mirrored_answered coded first second left right shared is rows answer tell (subst (HaveTexts coded.texts) are known)
      (head_fixed first second left right shared is)
      (subst (λ (terms : List Term). AreCodedAnswers coded (record { head = terms; body = first }) rows) are answers) told)

  pub mirrored_met : answer ≡ true → (second : List (Fact Term)) (right : Term) → first ++ second ≡ body → IsMirrored first second left right shared
      → Judges old (equality body left right) Met
  mirrored_met so second right same is = judged_before old coded (equality body left right) Met stays
      (judged_met coded (equality body left right) answer (halves_whether second right same is) so)

  halves_give : (part : Option (List (Fact Term)))
      → IfSome part (λ it. (seed : List ℕ) × HaveApart (length head) rows seed × IsSpreadPart coded head first body seed it)
      → (second : List (Fact Term)) (right : Term) → first ++ second ≡ body → IsMirrored first second left right shared
      → GivesPart coded (equality body left right) part
  halves_give None spread second right same is = tt
  halves_give (Some part) (seed, have, (codes, spreads, has)) second right same is = equality_gives coded body left right codes (Some part) tell
      (subst (λ (them : List (Fact Term)). HaveActive coded (equality them left right) codes) same
      (mirrored_active coded first left shared head rows seed codes are tell known answers have spreads second right is)) has

  pub mirrored_broken : answer ≡ false → (part : Option (List (Fact Term)))
      → IfSome part (λ it. (seed : List ℕ) × HaveApart (length head) rows seed × IsSpreadPart coded head first body seed it)
      → (second : List (Fact Term)) (right : Term) → first ++ second ≡ body → IsMirrored first second left right shared
      → Judges old (equality body left right) (Broken part)
  mirrored_broken apart part spread second right same is = judged_before old coded (equality body left right) (Broken part) stays
      (judged_broken coded (equality body left right) answer (halves_whether second right same is) apart part
      (halves_give part spread second right same is))
