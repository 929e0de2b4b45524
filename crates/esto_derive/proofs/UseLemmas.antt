-- What a step's and a chain's entry names, where the rule and the places are read.
use Rattle.std.proofs.Common.{◌≡◌, ℕ, ◌<◌, ◌≤◌, List, length, take, drop, slice_get, Some, Contains, subst, sym, ap, ◌∙◌, arith, zero, suc, [], ◌∷◌}
use Rattle.std.specs.List.{AllZip}
use Rattle.std.proofs.lemmas.List.{length-map, length-take}
use Rattle.std.proofs.lemmas.Option.{same_Some, slice_get_within}
use Rattle.esto_term.proofs.ListLemmas.{Contains-rest, map_at}
use Rattle.esto_term.proofs.PlaceLemmas.{Contains-take_in}
use Rattle.esto_term.specs.declared.term.Term.{Term}
use Rattle.esto_constraint.specs.Constraints.{rule_of, rules_of}
use Rattle.esto_constraint.specs.declared.rule.Constraint.{Constraint}
use Rattle.esto_semantics.specs.Facts.{terms_of}
use Rattle.esto_semantics.specs.Rules.{Rule, body_of}
use Rattle.esto_semantics.specs.declared.fact.Fact.{Fact}
use Rattle.esto_semantics.specs.declared.expanded.ExpandedFact.{ExpandedFact}
use Rattle.esto_chase_laws.specs.Derived.{AreDerived, Claims, Follows}
use Rattle.esto_chase_laws.specs.WorldMatches.{taken, match_map}
use Rattle.esto_chase_laws.specs.WorldSteps.{IsAsked}
use Rattle.esto_chase_laws.specs.declared.entry.Claim.TheVariants.{Fact as Stated}
use Rattle.esto_chase_laws.specs.declared.entry.Entry.{Entry}
use Rattle.esto_chase_laws.specs.declared.entry.Reason.{Reason}
use Rattle.esto_chase_laws.specs.declared.entry.Reason.TheVariants.{Step, Equal}
use Rattle.esto_cert.specs.Certificates.{made_at}
use Rattle.esto_derive.specs.Writing.{terms_at}
use Rattle.esto_derive.proofs.LoopLemmas.{terms_stated}
use Rattle.esto_derive.proofs.WriteLemmas.{IsStep, step_of, long_enough, facts_are, named_before, stated_in_all, AreThere}

in_drop : (count : ℕ) (xs : List ℕ) (x : ℕ) → Contains (drop count xs) x → Contains xs x
in_drop zero xs x inside = inside
in_drop (suc count) [] x inside = inside
in_drop (suc count) (first ∷ xs) x inside = Contains-rest first xs x (in_drop count xs x inside)

module _ (entries : List Entry) (rules : List Constraint) (lines : List (List ℕ)) (entry : Entry) (at : slice_get entries (length lines) ≡ Some entry)
    (given : (expanded : List ExpandedFact) × AreDerived expanded (rules_of rules) entries) where
  pub lines_fewer : length lines < length entries
  lines_fewer = slice_get_within entries (length lines) entry at

  module _ (number : ℕ) (places : List ℕ) (is : entry.reason ≡ Step number places) where
    step : IsStep entries (rules_of rules) (length lines) number places entry.claim entry.product
    step = step_of given.0 (rules_of rules) entries (length lines) entry given.1 at number places is

    pub number_within : number < length rules
    number_within = omega (arith, slice_get_within (rules_of rules) number step.0 step.1, length-map rules rule_of)

    pub place_below : (place : ℕ) → Contains places place → place < length lines
    place_below = named_before entries (rules_of rules) (length lines) number places entry.claim entry.product step

    module _ (rule : Constraint) (rule_at : slice_get rules number ≡ Some rule) (body : List (Fact Term)) (body_is : body ≡ body_of (rule_of rule)) where
      pub rule_there : slice_get (rules_of rules) number ≡ Some (rule_of rule)
      rule_there = map_at rule_of rules number rule rule_at

      same : step.0 ≡ rule_of rule
      same = same_Some step.0 (rule_of rule) (sym step.1 ∙ rule_there)

      same_body : body_of step.0 ≡ body
      same_body = ap body_of same ∙ sym body_is

      pub splits : length body ≤ length places
      splits = subst (λ (it : List (Fact Term)). length it ≤ length places) same_body
          (long_enough entries (rules_of rules) (length lines) number places entry.claim entry.product step)

      module _ (facts : List ℕ) (facts_is : facts ≡ take (length body) places) where
        pub facts_below : (place : ℕ) → Contains facts place → place < length lines
        facts_below place inside = place_below place (Contains-take_in places (length body) place (subst (λ (it : List ℕ). Contains it place) facts_is inside))

        pub facts_there : AreThere entries facts
        facts_there place inside = omega (arith, facts_below place inside, lines_fewer)

        stated : AllZip (λ (place : ℕ) (fact : Fact Term). Claims entries place (Stated fact)) facts step.2.chosen
        stated = subst (λ (it : List ℕ). AllZip (λ (place : ℕ) (fact : Fact Term). Claims entries place (Stated fact)) it step.2.chosen)
            (sym (facts_is ∙ ap (λ (it : List (Fact Term)). take (length it) places) (sym same_body)
            ∙ facts_are entries (rules_of rules) (length lines) number places entry.claim entry.product step))
            (stated_in_all entries (rules_of rules) (length lines) number places entry.claim entry.product step)

        pub asked : (from to : List Term) → from ≡ terms_of body → to ≡ terms_at entries facts → IsAsked number (rule_of rule) (taken from to) entry.claim
        asked from to from_is to_is =
            subst (λ (it : List Term). IsAsked number (rule_of rule) (taken it to) entry.claim) (sym from_is)
            (subst (λ (it : List Term). IsAsked number (rule_of rule) (taken (terms_of body) it) entry.claim)
            (sym (to_is ∙ terms_stated entries facts step.2.chosen stated))
            (subst (λ (it : List (Fact Term)). IsAsked number (rule_of rule) (taken (terms_of it) (terms_of step.2.chosen)) entry.claim) same_body
            (subst (λ (it : Rule). IsAsked number it (match_map (body_of step.0) step.2.chosen) entry.claim) same step.2.asked)))

        pub made_by : (from to : List Term) → from ≡ terms_of body → to ≡ terms_at entries facts → (at_place : ℕ)
            → made_at at_place number (rule_of rule) (taken from to) ≡ Some entry.claim → (chosen : List (Fact Term))
            → AllZip (λ (place : ℕ) (fact : Fact Term). Claims entries place (Stated fact)) facts chosen
            → made_at at_place number (rule_of rule) (match_map (body_of (rule_of rule)) chosen) ≡ Some entry.claim
        made_by from to from_is to_is at_place makes chosen its =
            subst (λ (it : List (Fact Term)). made_at at_place number (rule_of rule) (taken (terms_of it) (terms_of chosen)) ≡ Some entry.claim) body_is
            (subst (λ (it : List Term). made_at at_place number (rule_of rule) (taken (terms_of body) it) ≡ Some entry.claim)
            (to_is ∙ terms_stated entries facts chosen its)
            (subst (λ (it : List Term). made_at at_place number (rule_of rule) (taken it to) ≡ Some entry.claim) from_is makes))

      pub links_below : (links : List ℕ) → links ≡ drop (length body) places → (place : ℕ) → Contains links place → place < length lines
      links_below links links_is place inside =
          place_below place (in_drop (length body) places place (subst (λ (it : List ℕ). Contains it place) links_is inside))

  -- the entries of a chain stand before it
  pub chain_below : (places : List ℕ) → entry.reason ≡ Equal places → (place : ℕ) → Contains places place → place < length lines
  chain_below places is place inside =
      let follows = subst (λ (it : Reason). Follows given.0 (rules_of rules) (take (length lines) entries) entry.claim entry.product it) is
      (given.1 (length lines) entry at) in
      omega (arith, follows.5.there place inside, length-take (length lines) entries)
