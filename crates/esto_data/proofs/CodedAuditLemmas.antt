-- Rules and rows of fragments over rows of codes.
use Rattle.std.proofs.Common.{◌≡◌, ◌↔◌, ◌<◌, ◌≤◌, ◌+◌, inl, inr, ℕ, Bool, true, false, List, [], length, get_or, take, Option, Some, slice_get, Contains}
use Rattle.std.proofs.Common.{sym, ◌∙◌, subst, IsTrue, None, Result, Ok, Err, arith}
use Rattle.std.proofs.lemmas.Bool.{false≢true}
use Rattle.std.proofs.lemmas.List.{length-map}
use Rattle.std.proofs.lemmas.Option.{get_or_from_slice_get, slice_get_within}
use Rattle.std.specs.Prelude.{IfSome}
use Rattle.std.specs.Result.{IfOk}
use Rattle.esto_coded.specs.Coded.{StandFor, StandInOrder}
use Rattle.esto_coded.specs.Verdict.{Tells, given_part}
use Rattle.esto_coded.specs.declared.verdict.Verdict.{Verdict}
use Rattle.esto_coded.specs.declared.verdict.Verdict.TheVariants.{Met, Broken}
use Rattle.esto_columns.specs.CodedRows.{CodedRows}
use Rattle.esto_columns.specs.Interned.{AreCodedRows}
use Rattle.esto_constraint.specs.Constraints.{rule_of, rules_of}
use Rattle.esto_constraint.specs.declared.rule.Constraint.{Constraint}
use Rattle.esto_query.specs.Making.{query_of}
use Rattle.esto_relmodel.specs.Parts.{IsPartFor}
use Rattle.esto_semantics.specs.Queries.{ConjunctiveQuery, IsAnswer}
use Rattle.esto_semantics.specs.Rules.{AreRules, IsMet, Rule}
use Rattle.esto_semantics.specs.Standing.{RulesStand}
use Rattle.esto_semantics.specs.declared.fact.Fact.{Fact}
use Rattle.esto_steps.specs.Rows.{IsRowOf, held_by}
use Rattle.esto_stores.specs.Rows.{Row}
use Rattle.esto_term.specs.declared.list.OutOfMemory.{OutOfMemory}
use Rattle.esto_term.proofs.ListLemmas.{each_more, each_seen, holds_more, map_at, thing_at}
use Rattle.esto_term.proofs.PlaceLemmas.{item_at}
use Rattle.esto_term.specs.declared.term.Term.{Term}
use Rattle.esto_views.specs.Fragments.{views_of}
use Rattle.esto_views.specs.declared.fragments.FragmentDef.{FragmentDef}
use Rattle.esto_data.specs.CodedParts.{Stays}
use Rattle.esto_data.specs.Coding.{AreCodedLists, IsCodedOf}
use Rattle.esto_data.specs.Disagreeing.{FindsDisagreement, FindsUnlike, FindsUnpassed, IsFirstUnlike, IsFirstUnpassed, JudgesTried}
use Rattle.esto_fill.specs.Databases.{database_of}
use Rattle.esto_fill.specs.Differences.{Agree, HoldViewRows}
use Rattle.esto_fill.specs.Judging.{ArePassed, IsPassed}
use Rattle.esto_fill.specs.Texts.{AreExactly}
use Rattle.esto_fill.specs.Trials.{IsEnough}
use Rattle.esto_data.specs.declared.coded_audit.Disagreement.{Disagreement}
use Rattle.esto_data.specs.declared.coded_audit.Disagreement.TheVariants as disagreement
use Rattle.esto_data.specs.declared.coded_data.CodedData.{CodedData}
use Rattle.esto_fill.specs.declared.loaded.Loaded.{Loaded}
use Rattle.esto_data.proofs.CodedRowLemmas.{stays_itself, stays_on}
use Rattle.esto_data.proofs.CodedViewLemmas.{HoldBelow, each_below, exact_from, hold_all, list_at, lists_long}
use Rattle.esto_data.proofs.PartLemmas.{part_moves}
use Rattle.esto_fill.proofs.TrialLemmas.{fragments_all, rules_met}

-- ---- rules

module _ (laws : List Rule) (facts : List (Fact Term)) (rule : Rule) where
  -- a law is passed
  pub law_judged : Contains laws rule → JudgesTried laws facts rule Met
  law_judged law = record { passed = inl law; part = tt }

  -- another rule where it is met
  pub rule_judged : ¬ (Contains laws rule) → (verdict : Verdict) → Tells verdict (IsMet facts rule) → IfSome (given_part verdict) (IsPartFor rule facts)
      → JudgesTried laws facts rule verdict
  rule_judged tried Met met part = record { passed = inr (tried, met); part = tt }
  rule_judged tried (Broken given) unmet part = record {
    passed = λ passed. elim passed [
      | inl law ↦ tried law
      | inr its ↦ unmet its.1
    ];
    part = part;
  }

-- a part for the rule of all facts that were put is one of those that are loaded
pub part_loaded : (coded : CodedData) (rule : Rule) (given : Option (List (Fact Term)))
    → IfSome given (λ part. (all : List (Fact Term)) → StandInOrder coded.facts all → IsPartFor rule all part) → (loaded : Loaded) → IsCodedOf loaded coded
    → IfSome given (IsPartFor rule loaded.facts)
part_loaded coded rule None told loaded its = tt
part_loaded coded rule (Some part) told loaded its =
    let (all, ordered, keep) = its.ordered in part_moves rule all loaded.facts part keep (told all ordered)

-- so the verdict on a rule that is tried is that on what is loaded
pub tried_judged : (laws : List Rule) (rule : Rule) (coded : CodedData) → ¬ (Contains laws rule) → (result : Result Verdict OutOfMemory)
    → IfOk result (λ it. (facts : List (Fact Term)) → StandFor coded.facts facts → Tells it (IsMet facts rule))
    → IfOk result (λ it. IfSome (given_part it) (λ part. (all : List (Fact Term)) → StandInOrder coded.facts all → IsPartFor rule all part))
    → IfOk result (λ it. (loaded : Loaded) → IsCodedOf loaded coded → JudgesTried laws loaded.facts rule it)
tried_judged laws rule coded tried (Ok verdict) met part = λ loaded its.
    rule_judged laws loaded.facts rule tried verdict (met loaded.facts its.stand) (part_loaded coded rule (given_part verdict) part loaded its)
tried_judged laws rule coded tried (Err error) met part = tt

-- rules that are passed, one more and all
module _ (laws : List Rule) (facts : List (Fact Term)) (rules : List Constraint) (count : ℕ) where
  passed_more : (rule : Constraint) → slice_get rules count ≡ Some rule → IsPassed laws facts (rule_of rule)
      → ArePassed laws facts (take count (rules_of rules)) → ArePassed laws facts (take (count + 1) (rules_of rules))
  passed_more rule at here before =
      each_more (IsPassed laws facts) (rules_of rules) count (rule_of rule)
      (slice_get_within (rules_of rules) count (rule_of rule) (map_at rule_of rules count rule at))
      (sym (get_or_from_slice_get (rules_of rules) count (rule_of rule) (rule_of rule) (map_at rule_of rules count rule at)))
      here before

  passed_all : length rules ≤ count → ArePassed laws facts (take count (rules_of rules)) → ArePassed laws facts (rules_of rules)
  passed_all all before =
      each_seen (IsPassed laws facts) (rules_of rules) count (subst (λ long. long ≤ count) (sym (length-map rules rule_of)) all) before

-- where the loop over the rules stands: those so far are passed
pub record RulesSoFar (old new : CodedData) (laws : List Rule) (rules : List Constraint) (count : ℕ) : Type 0 where
  pub stays : Stays old new
  pub passed : (loaded : Loaded) → IsCodedOf loaded old → ArePassed laws loaded.facts (take count (rules_of rules))

pub rules_start : (coded : CodedData) (laws : List Rule) (rules : List Constraint) → RulesSoFar coded coded laws rules 0
rules_start coded laws rules = record {
  stays = stays_itself coded;
  passed = λ loaded its rule inside. absurd (none rule inside);
}
  where
    none : (rule : Rule) → Contains (take 0 (rules_of rules)) rule → ⊥
    none rule (place, below, at) = omega (arith, below)

module _ (old middle new : CodedData) (laws : List Rule) (rules : List Constraint) (count : ℕ) (rule : Constraint) (within : count < length rules)
    (read : rule ≡ get_or rules count rule) (before : RulesSoFar old middle laws rules count) (step : Stays middle new) (verdict : Verdict)
    (told : (loaded : Loaded) → IsCodedOf loaded middle → JudgesTried laws loaded.facts (rule_of rule) verdict) where
  pub rules_goes : verdict ≡ Met → RulesSoFar old new laws rules (count + 1)
  rules_goes is = record {
    stays = stays_on old middle new before.stays step;
    passed = λ loaded its.
        passed_more laws loaded.facts rules count rule (item_at rules count rule within read)
        (subst (JudgesTried laws loaded.facts (rule_of rule)) is (told loaded (before.stays.kept loaded its))).passed
        (before.passed loaded its);
  }

  pub rules_stop : (given : Option (List (Fact Term))) → verdict ≡ Broken given → (loaded : Loaded) → IsCodedOf loaded old
      → IsFirstUnpassed laws (rules_of rules) loaded.facts count given
  rules_stop given is loaded its =
      let judged : JudgesTried laws loaded.facts (rule_of rule) (Broken given) =
      subst (JudgesTried laws loaded.facts (rule_of rule)) is (told loaded (before.stays.kept loaded its)) in
      let tried : ¬ (Contains laws (rule_of rule)) = λ law. judged.passed (inl law) in
      record {
        rule = rule_of rule;
        there = map_at rule_of rules count rule (item_at rules count rule within read);
        tried = tried;
        unmet = λ met. judged.passed (inr (tried, met));
        before = before.passed loaded its;
        part = judged.part;
      }

pub rules_end : (old new : CodedData) (laws : List Rule) (rules : List Constraint) (count : ℕ) → length rules ≤ count → RulesSoFar old new laws rules count
    → (loaded : Loaded) → IsCodedOf loaded old → ArePassed laws loaded.facts (rules_of rules)
rules_end old new laws rules count past before loaded its = passed_all laws loaded.facts rules count past (before.passed loaded its)

-- ---- fragments

-- where the loop over the fragments stands: those so far hold the rows of their views
pub record FragmentsSoFar (old new : CodedData) (rows : List CodedRows) (fragments : List FragmentDef) (count : ℕ) : Type 0 where
  pub stays : Stays old new
  pub hold : (loaded : Loaded) → IsCodedOf loaded old → (lists : List (List Row)) → AreCodedLists old.facts.texts rows lists
      → HoldBelow fragments lists (database_of loaded.facts) count

pub fragments_start : (coded : CodedData) (rows : List CodedRows) (fragments : List FragmentDef) → FragmentsSoFar coded coded rows fragments 0
fragments_start coded rows fragments = record {
  stays = stays_itself coded;
  hold = λ loaded its lists are place fragment below at. absurd (omega (arith, below));
}

module _ (old middle new : CodedData) (rows : List CodedRows) (fragments : List FragmentDef) (count : ℕ) (fragment : FragmentDef) (own : CodedRows)
    (within : count < length fragments) (read : fragment ≡ get_or fragments count fragment) (at : slice_get rows count ≡ Some own)
    (before : FragmentsSoFar old middle rows fragments count) (step : Stays middle new) (answer : Bool)
    (told : (loaded : Loaded) → IsCodedOf loaded middle → (list : List Row) → AreCodedRows middle.facts.texts own.rows list
    → IsTrue answer ↔ AreExactly (IsAnswer (query_of fragment.view) (database_of loaded.facts)) list) where
  told_at : (loaded : Loaded) → IsCodedOf loaded old → (lists : List (List Row)) → AreCodedLists old.facts.texts rows lists → (list : List Row)
      → slice_get lists count ≡ Some list → IsTrue answer ↔ AreExactly (IsAnswer (query_of fragment.view) (database_of loaded.facts)) list
  told_at loaded its lists are list there =
      told loaded (before.stays.kept loaded its) list (list_at old.facts.texts middle.facts.texts rows lists before.stays.grown are count own list at there)

  pub fragments_goes : answer ≡ true → FragmentsSoFar old new rows fragments (count + 1)
  fragments_goes so = record {
    stays = stays_on old middle new before.stays step;
    hold = λ loaded its lists are.
        holds_more (λ number (it : FragmentDef). (list : List Row) → slice_get lists number ≡ Some list
        → AreExactly (IsAnswer (query_of it.view) (database_of loaded.facts)) list) fragments count fragment within read (before.hold loaded its lists are)
        (λ list there. (told_at loaded its lists are list there).0 so);
  }

  pub fragments_stop : length rows ≡ length fragments → answer ≡ false → (loaded : Loaded) → IsCodedOf loaded old → (lists : List (List Row))
      → AreCodedLists old.facts.texts rows lists → IsFirstUnlike (views_of fragments) loaded.facts lists count
  fragments_stop many apart loaded its lists are =
      let database = database_of loaded.facts in
      let long : length lists ≡ length fragments = sym (lists_long old.facts.texts rows lists are) ∙ many in
      let list = thing_at lists count (omega (arith, within, long)) in
      record {
        within = subst (λ n. count < n) (sym (length-map fragments (λ (it : FragmentDef). query_of it.view))) within;
        unlike = λ holds. false≢true (sym apart ∙ (told_at loaded its lists are list.0 list.1).1
            (exact_from fragments lists database count fragment list.0 (item_at fragments count fragment within read) list.1 holds));
        before = each_below fragments lists database long count (before.hold loaded its lists are);
      }

pub fragments_end : (old new : CodedData) (rows : List CodedRows) (fragments : List FragmentDef) (count : ℕ) → length rows ≡ length fragments
    → length fragments ≤ count → FragmentsSoFar old new rows fragments count → (loaded : Loaded) → IsCodedOf loaded old → (lists : List (List Row))
    → AreCodedLists old.facts.texts rows lists → HoldViewRows (views_of fragments) (database_of loaded.facts) (IsRowOf (held_by lists))
fragments_end old new rows fragments count many past before loaded its lists are =
    let long = lists_long old.facts.texts rows lists are in
    hold_all fragments lists (database_of loaded.facts) (omega (arith, long, many)) count past (before.hold loaded its lists are)

-- ---- both

module _ (laws rules : List Rule) (views : List ConjunctiveQuery) (facts : List (Fact Term)) (lists : List (List Row)) where
  -- what is found of the rules is found of all
  pub rule_found : (found : Disagreement) → FindsUnpassed laws rules facts (Some found) → FindsDisagreement laws rules views facts lists (Some found)
  rule_found (disagreement.Rule number given) first = first
  rule_found (disagreement.Rows number) never = absurd never

  -- where each rule is passed, what is found of the fragments is found of all
  pub all_found : (outcome : Option Disagreement) → ArePassed laws facts rules → FindsUnlike views facts lists outcome
      → FindsDisagreement laws rules views facts lists outcome
  all_found None passed hold = (passed, hold)
  all_found (Some (disagreement.Rule number given)) passed never = absurd never
  all_found (Some (disagreement.Rows number)) passed unlike = (passed, unlike)

-- so facts of which these are enough agree with the rows
pub agrees : (stand : RulesStand) (rules : List Constraint) (laws : List Rule) (fragments : List FragmentDef) (facts some : List (Fact Term))
    (lists : List (List Row)) → AreRules (rules_of rules) → IsEnough (rules_of rules) laws (views_of fragments) facts some
    → ArePassed laws some (rules_of rules) × HoldViewRows (views_of fragments) (database_of some) (IsRowOf (held_by lists))
    → Agree (rules_of rules) (views_of fragments) (database_of facts) (IsRowOf (held_by lists))
agrees stand rules laws fragments facts some lists are enough (passed, hold) = record {
  meets = rules_met stand rules laws (views_of fragments) facts some enough are passed;
  rows = fragments_all (rules_of rules) laws (views_of fragments) facts some enough [] lists None hold;
}
