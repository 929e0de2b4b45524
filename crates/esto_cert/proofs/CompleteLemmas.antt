-- Each set that is safe, and whose candidate has an answer and is contained in the query, has a certificate.
use Rattle.std.proofs.Common.{◌≡◌, inl, inr, ℕ, ◌+◌, ◌<◌, Bool, false, List, [], ◌∷◌, ◌++◌, map, length, filter, slice_index_or, Contains, None, Some}
use Rattle.std.proofs.Common.{refl, sym, subst, ◌∙◌, arith}
use Rattle.std.specs.List.{AllZip}
use Rattle.std.proofs.lemmas.List.{length-map}
use Rattle.std.proofs.lemmas.List.Elements.{Contains-append_cases, Contains-append_left, Contains-push}
use Rattle.esto_term.specs.declared.term.Term.{Term}
use Rattle.esto_term.proofs.ListLemmas.{Contains-at, Contains-cases, Contains-filter, Contains-filter_from, Contains-head, Contains-map, Contains-map_from}
use Rattle.esto_term.proofs.ListLemmas.{Contains-nil, Contains-rest, map_itself, place-from_Contains}
use Rattle.esto_constraint.specs.Constraints.{rule_of, rules_of}
use Rattle.esto_constraint.specs.declared.rule.Constraint.{Constraint}
use Rattle.esto_query.specs.Making.{query_of}
use Rattle.esto_query.specs.Soundness.{IsSound}
use Rattle.esto_query.specs.declared.query.Query.{Query}
use Rattle.esto_semantics.specs.ExpansionLaws.{ExpansionAnswers, ExpansionIsContained, PartExpandsCandidate}
use Rattle.esto_semantics.specs.Expansions.{IsExpansion, IsPartOf}
use Rattle.esto_semantics.specs.Listed.{candidate}
use Rattle.esto_semantics.specs.Maps.{AreFlat}
use Rattle.esto_semantics.specs.Queries.{ConjunctiveQuery, IsQuery}
use Rattle.esto_semantics.specs.Rules.{AreRules, IsRule}
use Rattle.esto_term.specs.Sets.{Has}
use Rattle.esto_semantics.specs.Views.{IsFragmentAnswer}
use Rattle.esto_semantics.specs.declared.fact.Fact.{Fact}
use Rattle.esto_semantics.proofs.FactLemmas.{image_itself, Mentions-among}
use Rattle.esto_term.proofs.SetLemmas.{decided_has, Has-within}
use Rattle.esto_constraint.proofs.RankLemmas.{rules-AreRules}
use Rattle.esto_chase_laws.specs.ReceivedLaws.{ClashesReceiveNothing, StatesAreUniversal}
use Rattle.esto_chase_laws.specs.RunLaws.{RunsReachAnEnd}
use Rattle.esto_chase_laws.specs.Runs.{IsEnd, IsRun, IsStart, Step as Move}
use Rattle.esto_views.specs.Expanded.{Expands}
use Rattle.esto_semantics.specs.Expanded.{facts_of}
use Rattle.esto_views.specs.Fragments.{views_of}
use Rattle.esto_views.specs.Plans.{fact_of as atom_of, plan_query}
use Rattle.esto_views.specs.Soundness.{IsSoundPlan}
use Rattle.esto_semantics.specs.declared.expanded.ExpandedFact.{ExpandedFact}
use Rattle.esto_views.specs.declared.fragments.FragmentDef.{FragmentDef}
use Rattle.esto_views.specs.declared.plan.Plan.{Plan}
use Rattle.esto_views.proofs.ExpandedLemmas.{plan_expands}
use Rattle.esto_views.proofs.FlatLemmas.{expanded-flat, named-flat}
use Rattle.esto_views.specs.Contained.{IsSafelyContained}
use Rattle.esto_chase_laws.specs.WorldLaws.{AreFactsOf}
use Rattle.esto_chase_laws.specs.Worlds.{Linked, Reaches}
use Rattle.esto_chase_laws.specs.declared.entry.Claim.TheVariants.{Fact as Stated}
use Rattle.esto_chase_laws.proofs.LinkLemmas.{rows_themselves}
use Rattle.esto_cert.specs.Certificates.{Case}
use Rattle.esto_cert.specs.Complete.{ContainedSetsHaveCertificates, HasAnswer}
use Rattle.esto_cert.specs.Judging.{Decides, Verdict, case_for}
use Rattle.esto_cert.specs.declared.line.Line.{Line}
use Rattle.esto_cert.specs.declared.line.Line.TheVariants.{Expanded, Match}
use Rattle.esto_cert.proofs.ClaimLemmas.{no_verdict}
use Rattle.esto_cert.proofs.CourseLemmas.{Begun, Ended, Told, ended, one_line, reached}
use Rattle.esto_cert.proofs.ExpansionLemmas.{expanded_exists}
use Rattle.esto_cert.proofs.NumeralLemmas.{NamesFacts, lines_have_bytes}

-- ---- the first lines

module _ (case : Case) where
  none_begun : Begun case
  none_begun = record {
    lines = [];
    claims = [];
    are = record { as_many = refl; each = λ place line claim at claimed. absurd (let wrong : None ≡ Some line = at in cc) };
    named = λ line none. absurd (Contains-nil line none);
  }

  -- a line for each expanded fact of the set's atoms
  given : (facts : List ExpandedFact) → ((fact : ExpandedFact) → Contains facts fact → Contains case.expanded fact)
      → (lines : Begun case) × ((fact : ExpandedFact) → Contains facts fact → Has case.set fact.atom → Contains lines.claims (Stated fact.fact))
  given [] among = (none_begun, (λ fact none. absurd (Contains-nil fact none)))
  given (first ∷ facts) among =
      let rest = given facts (λ fact inside. among fact (Contains-rest first facts fact inside)) in elim (decided_has case.set first.atom) [
        | inl has ↦ (
          one_line case rest.0 (Expanded (first.atom + 1) (first.place + 1)) (Stated first.fact)
              (first, among first (Contains-head first facts), (refl, refl, has), refl) tt,
          λ fact inside has_fact. elim (Contains-cases first facts fact inside) [
            | inl is ↦ subst (λ (it : ExpandedFact). Contains (rest.0.claims ++ Stated first.fact ∷ []) (Stated it.fact)) is
                (Contains-push rest.0.claims (Stated first.fact))
            | inr later ↦ Contains-append_left rest.0.claims (Stated first.fact ∷ []) (Stated fact.fact) (rest.1 fact later has_fact)
          ],
        )
        | inr not ↦ (
          rest.0,
          λ fact inside has_fact. elim (Contains-cases first facts fact inside) [
            | inl is ↦ absurd (not (subst (λ (it : ExpandedFact). Has case.set it.atom) (sym is) has_fact))
            | inr later ↦ rest.1 fact later has_fact
          ],
        )
      ]

  -- the lines and a last one are a certificate that is accepted
  accepted : (lines : Begun case) (end : ConjunctiveQuery) (told : Told case.targets lines.claims end) (is_query : IsQuery case.query)
      → Ended case lines end told is_query → (bytes : List ℕ) × Decides case bytes None
  accepted lines end told is_query last =
      let all = lines.lines ++ Match last.facts last.links ∷ [] in
      let (bytes, (parts, split, read)) = lines_have_bytes all named in (
        bytes,
        subst (λ (it : List (List ℕ)). Verdict case [] 1 it None) (sym split)
            (no_verdict case (Match last.facts last.links) lines.lines parts [] lines.claims 1 read lines.are.as_many lines.are.each last.ends),
      )
    where
      named : (line : Line) → Contains (lines.lines ++ Match last.facts last.links ∷ []) line → NamesFacts line
      named line inside = elim (Contains-append_cases lines.lines (Match last.facts last.links ∷ []) line inside) [
        | inl earlier ↦ lines.named line earlier
        | inr later ↦ elim (Contains-cases (Match last.facts last.links) [] line later) [
          | inl is ↦ subst NamesFacts is last.some
          | inr none ↦ absurd (Contains-nil line none)
        ]
      ]

-- ---- the set's facts

module _ (plan : Plan) (fragments : List FragmentDef) (expanded : List ExpandedFact) (expands : Expands plan fragments expanded) (set : List Bool)
    (over : length set ≡ length plan.atoms) where
  abbrev is_in : ExpandedFact → Bool
  is_in fact = slice_index_or set fact.atom false

  abbrev pub start : ConjunctiveQuery
  start = record { head = plan.head; body = map (λ (it : ExpandedFact). it.fact) (filter is_in expanded) }

  are_facts : AreFactsOf expanded set start.body
  are_facts fact = (
    λ inside.
        let from = Contains-map_from (λ (it : ExpandedFact). it.fact) (filter is_in expanded) fact inside in
        let kept = Contains-filter_from is_in expanded from.0 from.1 in
        (from.0, kept.0, kept.1, from.2),
    λ (part, there, has, is).
        subst (Contains start.body) is
        (Contains-map (λ (it : ExpandedFact). it.fact) (filter is_in expanded) part (Contains-filter is_in expanded part there has)),
  )

  is_part : IsPartOf expands.of set start.body
  is_part fact = (
    λ inside.
        let (part, there, has, is) = (are_facts fact).0 inside in
        let told = (expands.exact part).0 there in
        (part.atom, has, (told.1.0, Contains-at (expands.of.view part.atom).body part.place told.1.0 told.1.1, told.1.2 ∙ is)),
    λ (number, has, (part, inside, is)).
        let at = place-from_Contains (expands.of.view number).body part inside in
        let whole : ExpandedFact = record { atom = number; place = at.0; fact = fact } in
        let small : number < length plan.atoms = omega (arith, Has-within set number has, over) in
        (are_facts fact).1 (whole, (expands.exact whole).1 (small, (part, at.1, is)), has, refl),
  )

  is_start : IsSoundPlan plan.atoms plan.head plan.names → AreFlat (facts_of expanded) → IsStart start
  is_start sound flat = record {
    flat_body = λ term mentioned. flat term (Mentions-among start.body (facts_of expanded) term (λ fact inside.
        let (part, there, has, is) = (are_facts fact).0 inside in
        subst (Contains (facts_of expanded)) is (Contains-map (λ (it : ExpandedFact). it.fact) expanded part there)) mentioned);
    flat_head = λ term inside. named-flat plan term (sound.named_head term inside);
  }

  -- the start's facts are claimed by the first lines
  begin : (rules : List Constraint) (query : Query) → (lines : Begun (case_for plan set rules query expanded)) × Told plan.head lines.claims start
  begin rules query =
      let (lines, claimed) = given (case_for plan set rules query expanded) expanded (λ fact inside. inside) in (
        lines,
        record {
          value = λ term. term;
          keeps = λ text. refl;
          sends = λ fact inside.
              let (part, there, has, is) = (are_facts fact).0 inside in
              subst (Reaches (Contains lines.claims)) (sym (image_itself fact)) (
                fact,
                subst (λ (it : Fact Term). Contains lines.claims (Stated it)) is (claimed part there has),
                (refl, rows_themselves (Contains lines.claims) fact.terms),
              );
          heads = subst (AllZip (Linked (Contains lines.claims)) plan.head) (sym (map_itself plan.head))
              (rows_themselves (Contains lines.claims) plan.head);
        },
      )

-- ---- the law

module _ (rules_are : (constraint : Constraint) → IsRule (rule_of constraint)) (queries_are : (query : Query) → IsSound query.head query.body query.names)
    (plans_are : (plan : Plan) → IsSoundPlan plan.atoms plan.head plan.names) (ends : RunsReachAnEnd) (universal : StatesAreUniversal)
    (nothing : ClashesReceiveNothing) (answers : ExpansionAnswers) (decides : ExpansionIsContained) (candidates : PartExpandsCandidate) where
  module _ (plan : Plan) (fragments : List FragmentDef) (set : List Bool) (rules : List Constraint) (query : Query) (expanded : List ExpandedFact)
      (expands : Expands plan fragments expanded) (flat : AreFlat (facts_of expanded))
      (satisfiable : HasAnswer (rules_of rules) (IsFragmentAnswer (views_of fragments) (candidate (plan_query plan) set)))
      (contained : IsSafelyContained (rules_of rules) (views_of fragments) (query_of query) (plan_query plan) set) where
    over : length set ≡ length plan.atoms
    over = contained.has_candidate.over ∙ length-map plan.atoms atom_of

    abbrev begins : ConjunctiveQuery
    begins = start plan fragments expanded expands set over

    are_rules : AreRules (rules_of rules)
    are_rules = rules-AreRules rules rules_are

    starts : IsStart begins
    starts = is_start plan fragments expanded expands set over (plans_are plan) flat

    expansion : IsExpansion (views_of fragments) (candidate (plan_query plan) set) begins.body
    expansion = candidates (views_of fragments) (plan_query plan) (facts_of expanded) expands.of set contained.has_candidate.over begins.body
        (is_part plan fragments expanded expands set over)

    at_end : (trace : List Move) (end : ConjunctiveQuery) → IsRun (rules_of rules) begins trace end → IsEnd (rules_of rules) end
        → (bytes : List ℕ) × Decides (case_for plan set rules query expanded) bytes None
    at_end trace end run (inl finished) =
        let maps = (decides (rules_of rules) (views_of fragments) (candidate (plan_query plan) set) begins.body end (query_of query) are_rules expansion
        (universal (rules_of rules) begins are_rules starts trace end run) finished).0 contained.contained in
        let (first, told) = begin plan fragments expanded expands set over rules query in
        let (lines, tells) = reached (case_for plan set rules query expanded) are_rules begins starts first told trace end run in
        accepted (case_for plan set rules query expanded) lines end tells (queries_are query).query
        (ended (case_for plan set rules query expanded) lines end tells (queries_are query).query maps)
    at_end trace end run (inr (clash, clashed)) =
        let (database, meets, (row, answer)) = satisfiable in
        let (m, keeps, sends, _) = (answers (views_of fragments) (candidate (plan_query plan) set) begins.body expansion database row).0 answer in
        absurd (nothing (rules_of rules) begins are_rules starts trace end run clash clashed database meets m keeps sends)

  pub complete : ContainedSetsHaveCertificates
  complete plan fragments set rules query rank depth over rise most small satisfiable contained =
      let (expanded, exact) = expanded_exists queries_are fragments plan.atoms 0 (length plan.names) over in
      let expands = plan_expands plan fragments expanded (plans_are plan) queries_are exact in
      let flat = expanded-flat plan fragments expanded (plans_are plan) queries_are expands in
      let (trace, end, run, ends_there) = ends (rules_of rules) (begins plan fragments set rules query expanded expands flat satisfiable contained) rank depth
      (are_rules plan fragments set rules query expanded expands flat satisfiable contained)
      (starts plan fragments set rules query expanded expands flat satisfiable contained) rise most small in
      let (bytes, accepts) = at_end plan fragments set rules query expanded expands flat satisfiable contained trace end run ends_there in
      (bytes, (expanded, exact, expands, flat, accepts))
