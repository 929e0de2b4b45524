-- What an accepted certificate shows.
use Rattle.std.specs.Prelude.{◌≡◌, ◌⊎◌, ◌==◌, ℕ, Bool, List, [], ◌∷◌, ◌++◌, Option, Some, None, length, map, take, slice_get, Contains}
use Rattle.std.specs.List.{AllZip, slice_split}
use Rattle.esto_term.specs.declared.term.Term.{Term}
use Rattle.esto_constraint.specs.Constraints.{rules_of}
use Rattle.esto_constraint.specs.declared.rule.Constraint.{Constraint}
use Rattle.esto_query.specs.Making.{query_of}
use Rattle.esto_query.specs.declared.query.Query.{Query}
use Rattle.esto_semantics.specs.Rules.{Rule}
use Rattle.esto_term.specs.Sets.{Has}
use Rattle.esto_semantics.specs.declared.fact.Fact.{Fact}
use Rattle.esto_prov.specs.Derivations.{Derives, leaves_of}
use Rattle.esto_prov.specs.declared.why.Why.{Why}
use Rattle.esto_views.specs.Expanded.{AreExpanded}
use Rattle.esto_views.specs.Fragments.{views_of}
use Rattle.esto_views.specs.Plans.{plan_query}
use Rattle.esto_semantics.specs.declared.expanded.ExpandedFact.{ExpandedFact}
use Rattle.esto_views.specs.declared.fragments.FragmentDef.{FragmentDef}
use Rattle.esto_views.specs.declared.plan.Plan.{Plan}
use Rattle.esto_views.specs.Contained.{IsSafelyContained}
use Rattle.esto_chase_laws.specs.WorldMatches.{match_map}
use Rattle.esto_chase_laws.specs.Worlds.{Linked}
use Rattle.esto_chase_laws.specs.declared.entry.Claim.{Claim}
use Rattle.esto_chase_laws.specs.declared.entry.Claim.TheVariants.{Same}
use Rattle.esto_cert.specs.Certificates.{Case, Matches, MayClaim}
use Rattle.esto_cert.specs.Judging.{case_for, DecidesFor}
use Rattle.esto_cert.specs.Lines.{line_of}
use Rattle.esto_cert.specs.Linking.{IsAmong}
use Rattle.esto_cert.specs.declared.line.Line.{Line}
use Rattle.esto_cert.specs.declared.line.Line.TheVariants.{Match}
use Rattle.esto_cert.specs.declared.linking.Equality.{Equality}

-- An accepted certificate shows that its set has a candidate, which is safe and contained in the query under the rules.
abbrev pub AcceptedCertificatesShow : Type 0
AcceptedCertificatesShow =
    (plan : Plan) (fragments : List FragmentDef) (set : List Bool) (rules : List Constraint) (query : Query) (bytes : List ℕ)
    → length set ≡ length plan.atoms → DecidesFor plan fragments set rules query bytes None
    → IsSafelyContained (rules_of rules) (views_of fragments) (query_of query) (plan_query plan) set

-- The claim has a derivation by the rules from expanded facts, whose leaves are atoms of the set alone.
abbrev pub IsDerivedFrom : List ExpandedFact → List Rule → List Bool → Claim → Type 0
IsDerivedFrom expanded rules set claim =
    (why : Why) × Derives expanded rules why claim × ((atom : ℕ) → Contains (leaves_of why) atom → Has set atom)

-- The terms are equal, or that they are one is derived so.
abbrev pub AreDerivedAsOne : List ExpandedFact → List Rule → List Bool → Term → Term → Type 0
AreDerivedAsOne expanded rules set term other = (term ≡ other) ⊎ IsDerivedFrom expanded rules set (Same term other)

-- The bytes are these lines, each ended by a line feed.
abbrev pub AreLinesOf : List ℕ → List Line → Type 0
AreLinesOf bytes lines =
    (parts : List (List ℕ)) × (slice_split (λ byte. byte == 10) bytes ≡ parts ++ [] ∷ []) × (map line_of parts ≡ map Some lines)

-- The lines make the claims, one each: a line makes its own after the claims of the lines before it.
pub record AreClaimsOf (case : Case) (lines : List Line) (claims : List Claim) : Type 0 where
  pub as_many : length claims ≡ length lines
  pub each : (place : ℕ) (line : Line) (claim : Claim) → slice_get lines place ≡ Some line → slice_get claims place ≡ Some claim
      → MayClaim case (take place claims) line claim

-- The file is lines that make claims, and a last line, whose facts and equalities are among these claims and match the query. Each of the claims is derived by
-- the rules from the expanded facts of the set's atoms alone, and so it is of each head place that the target there and the match's value are one.
pub record HoldsDerivations (case : Case) (bytes : List ℕ) : Type 0 where
  pub lines : List Line
  pub claims : List Claim
  pub facts : List ℕ
  pub links : List ℕ
  pub chosen : List (Fact Term)
  pub equalities : List Equality
  pub are_lines : AreLinesOf bytes (lines ++ Match facts links ∷ [])
  pub are_claims : AreClaimsOf case lines claims
  pub derived : (claim : Claim) → Contains claims claim → IsDerivedFrom case.expanded case.rules case.set claim
  pub matches : Matches claims case.query.body facts links chosen equalities
  pub linked : AllZip (Linked (IsAmong chosen equalities)) case.targets (map (match_map case.query.body chosen) case.query.head)
  pub heads : AllZip (AreDerivedAsOne case.expanded case.rules case.set) case.targets (map (match_map case.query.body chosen) case.query.head)

-- The file holds such derivations as a certificate for a set of a plan's atoms, by the plan's expansion over the fragments.
abbrev pub HoldsDerivationsFor : Plan → List FragmentDef → List Bool → List Constraint → Query → List ℕ → Type 0
HoldsDerivationsFor plan fragments set rules query bytes =
    (expanded : List ExpandedFact) × AreExpanded fragments 0 (length plan.names) plan.atoms expanded
    × HoldsDerivations (case_for plan set rules query expanded) bytes

-- An accepted certificate holds the derivations of a match of the query, with leaves in its set alone.
abbrev pub AcceptedCertificatesDerive : Type 0
AcceptedCertificatesDerive =
    (plan : Plan) (fragments : List FragmentDef) (set : List Bool) (rules : List Constraint) (query : Query) (bytes : List ℕ)
    → DecidesFor plan fragments set rules query bytes None → HoldsDerivationsFor plan fragments set rules query bytes

-- For plans, views, rules and queries that say the same, a file has one verdict: it is accepted, or rejected at one line.
abbrev pub VerdictsAreOne : Type 0
VerdictsAreOne =
    (plan other : Plan) (fragments others : List FragmentDef) (set : List Bool) (rules more : List Constraint) (query again : Query) (bytes : List ℕ)
    (verdict found : Option ℕ) → plan_query plan ≡ plan_query other → length plan.names ≡ length other.names → views_of fragments ≡ views_of others
    → rules_of rules ≡ rules_of more → query_of query ≡ query_of again
    → DecidesFor plan fragments set rules query bytes verdict → DecidesFor other others set more again bytes found → verdict ≡ found

-- For plans, views, rules and queries that say the same, a verdict of the one is a verdict of the other.
abbrev pub VerdictsAreMoved : Type 0
VerdictsAreMoved =
    (plan other : Plan) (fragments others : List FragmentDef) (set : List Bool) (rules more : List Constraint) (query again : Query) (bytes : List ℕ)
    (verdict : Option ℕ) → plan_query plan ≡ plan_query other → length plan.names ≡ length other.names → views_of fragments ≡ views_of others
    → rules_of rules ≡ rules_of more → query_of query ≡ query_of again
    → DecidesFor plan fragments set rules query bytes verdict → DecidesFor other others set more again bytes verdict
