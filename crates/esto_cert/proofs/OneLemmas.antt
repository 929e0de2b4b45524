-- A file has one verdict.
use Rattle.std.proofs.Common.{◌≡◌, inl, inr, ℕ, ◌+◌, ◌-◌, ◌<◌, List, [], ◌∷◌, ◌++◌, length, map, slice_get, Option, Some, None, AllPairs, Contains, sym, ap}
use Rattle.std.proofs.Common.{◌∙◌, subst, arith}
use Rattle.std.specs.Cmp.{nat_cmp_is}
use Rattle.std.specs.Ordering.{nat_cmp}
use Rattle.std.specs.declared.cmp.Ordering.TheVariants.{Less}
use Rattle.std.proofs.lemmas.Cmp.{nat_cmp_total}
use Rattle.std.proofs.lemmas.Option.{same_Some}
use Rattle.esto_term.specs.declared.term.Term.{Term}
use Rattle.esto_term.specs.declared.term.Term.TheVariants.{Plain}
use Rattle.esto_term.proofs.ChoiceLemmas.{one_list}
use Rattle.esto_term.proofs.DistinctLemmas.{decided_contains}
use Rattle.esto_term.proofs.ListLemmas.{agree-from_map, map_agree, map_at, place-from_Contains, first_same, rest_same}
use Rattle.esto_constraint.specs.Constraints.{rules_of}
use Rattle.esto_query.specs.Making.{query_of}
use Rattle.esto_query.specs.declared.query.Query.{Query}
use Rattle.esto_semantics.specs.Facts.{image}
use Rattle.esto_semantics.specs.Queries.{ConjunctiveQuery, IsQuery}
use Rattle.esto_semantics.specs.Rules.{body_of}
use Rattle.esto_semantics.specs.declared.fact.Fact.{Fact}
use Rattle.esto_semantics.proofs.FactLemmas.{image_agree}
use Rattle.esto_semantics.proofs.TermLemmas.{Const-apart-Plain, decided_term}
use Rattle.esto_views.specs.Expanded.{placed, AreExpanded, Expands}
use Rattle.esto_views.specs.Fragments.{views_of}
use Rattle.esto_views.specs.Plans.{fact_of as atom_of}
use Rattle.esto_semantics.specs.Spreads.{IsSpread}
use Rattle.esto_semantics.specs.declared.expanded.ExpandedFact.{ExpandedFact}
use Rattle.esto_views.specs.declared.fragments.FragmentDef.{FragmentDef}
use Rattle.esto_views.specs.declared.plan.Plan.{Plan}
use Rattle.esto_views.specs.declared.plan.PlanAtom.{PlanAtom}
use Rattle.esto_chase_laws.specs.WorldMatches.{match_map}
use Rattle.esto_chase_laws.specs.declared.entry.Claim.{Claim}
use Rattle.esto_chase_laws.specs.declared.entry.Claim.TheVariants.{Fact as Stated}
use Rattle.esto_cert.specs.Certificates.{Case, made_at, MayClaim, MayEnd}
use Rattle.esto_cert.specs.Judging.{Decides, IsJudgedText, Verdict}
use Rattle.esto_cert.specs.Lines.{line_of}
use Rattle.esto_cert.specs.Showing.{VerdictsAreOne}
use Rattle.esto_cert.specs.declared.judging.Judged.TheVariants.{Claims, Ends, Refused}
use Rattle.esto_cert.specs.declared.line.Line.{Line}
use Rattle.esto_cert.specs.declared.line.Line.TheVariants.{Expanded, Step, Match}

-- ---- what a view's terms stand for in an atom is one

module _ (view : ConjunctiveQuery) (is_query : IsQuery view) (terms : List Term) (first next after : ℕ) (m n : Term → Term)
    (spread : IsSpread view terms first next m) (again : IsSpread view terms first after n) where
  rising : (numbers : List ℕ) → AllPairs ◌<◌ numbers → AllPairs (λ one other. nat_cmp one other ≡ Less) numbers
  rising numbers pairs = λ place other default less within. sym (nat_cmp_is _ _ Less (pairs place other default less within))

  same_inner : spread.inner ≡ again.inner
  same_inner =
      one_list nat_cmp nat_cmp_total spread.inner again.inner (rising spread.inner spread.are_inner.rising) (rising again.inner again.are_inner.rising)
      (λ number. (
        (λ inside. (again.are_inner.exact number).1 ((spread.are_inner.exact number).0 inside)),
        (λ inside. (spread.are_inner.exact number).1 ((again.are_inner.exact number).0 inside)),
      ))

  same_next : next ≡ after
  same_next = spread.after ∙ ap (λ (it : List ℕ). first + length it) same_inner ∙ sym again.after

  same_plain : (number : ℕ) → (fact : Fact Term) → Contains view.body fact → Contains fact.terms (Plain number) → m (Plain number) ≡ n (Plain number)
  same_plain number fact inside in_fact = elim (decided_contains decided_term view.head (Plain number)) [
    | inl in_head ↦ agree-from_map m n view.head (Plain number) (spread.head ∙ sym again.head) in_head
    | inr outside ↦ (let own : Contains spread.inner number = (spread.are_inner.exact number).1 (record {
      in_body = (fact, inside, in_fact);
      no_constant = λ constant. Const-apart-Plain constant.0 number (sym constant.1);
      not_in_head = outside;
    }) in
        let at = place-from_Contains spread.inner number own in
        spread.new at.0 number at.1 ∙ sym (again.new at.0 number (subst (λ (it : List ℕ). slice_get it at.0 ≡ Some number) same_inner at.1)))
  ]

  same_image : map (image m) view.body ≡ map (image n) view.body
  same_image = map_agree (image m) (image n) view.body (λ fact inside. image_agree m n fact (λ term in_fact.
      elim (is_query.flat_body term (fact, inside, in_fact)) [
        | inl constant ↦ subst (λ (it : Term). m it ≡ n it) (sym constant.1) (spread.keeps constant.0 ∙ sym (again.keeps constant.0))
        | inr plain ↦ subst (λ (it : Term). m it ≡ n it) (sym plain.1) (same_plain plain.0 fact inside (subst (Contains fact.terms) plain.1 in_fact))
      ]))

-- ---- a plan's expansion is one

module _ (are_queries : (query : Query) → IsQuery (query_of query)) (fragments others : List FragmentDef) (views : views_of fragments ≡ views_of others) where
  same_view : (number : ℕ) (fragment other : FragmentDef) → slice_get fragments number ≡ Some fragment → slice_get others number ≡ Some other
      → query_of fragment.view ≡ query_of other.view
  same_view number fragment other at at_other =
      let viewed : FragmentDef → ConjunctiveQuery = (λ it. query_of it.view) in
      same_Some _ _ (sym (map_at viewed fragments number fragment at) ∙ ap (λ (it : List ConjunctiveQuery). slice_get it number) views
      ∙ map_at viewed others number other at_other)

  pub expanded_one : (number first : ℕ) (atoms again : List PlanAtom) (expanded other : List ExpandedFact) → map atom_of atoms ≡ map atom_of again
      → AreExpanded fragments number first atoms expanded → AreExpanded others number first again other → expanded ≡ other
  expanded_one number first [] [] expanded other same is is_other = is ∙ sym is_other
  expanded_one number first [] (atom ∷ again) expanded other same is is_other = absurd (cc)
  expanded_one number first (atom ∷ atoms) [] expanded other same is is_other = absurd (cc)
  expanded_one number first (atom ∷ atoms) (own ∷ again) expanded other same (fragment, at, (next, (m, spread, (rest, is, later))))
      (fragment_too, at_too, (after, (n, spread_too, (more, is_too, later_too)))) =
      let atom_is : atom_of atom ≡ atom_of own = first_same (atom_of atom) (atom_of own) (map atom_of atoms) (map atom_of again) same in
      let view_is : query_of fragment.view ≡ query_of fragment_too.view =
      same_view atom.fragment fragment fragment_too at
      (subst (λ (it : ℕ). slice_get others it ≡ Some fragment_too) (sym (ap (λ (it : Fact Term). it.relation) atom_is)) at_too) in
      let again_spread : IsSpread (query_of fragment.view) atom.terms first after n =
      subst (λ (it : ConjunctiveQuery). IsSpread it atom.terms first after n) (sym view_is)
      (subst (λ (it : List Term). IsSpread (query_of fragment_too.view) it first after n) (sym (ap (λ (it : Fact Term). it.terms) atom_is)) spread_too) in
      let images : map (image m) fragment.view.body ≡ map (image n) fragment_too.view.body =
      same_image (query_of fragment.view) (are_queries fragment.view) atom.terms first next after m n spread again_spread
      ∙ ap (λ (it : ConjunctiveQuery). map (image n) it.body) view_is in
      let nexts : next ≡ after =
      same_next (query_of fragment.view) (are_queries fragment.view) atom.terms first next after m n spread again_spread in
      let rests : rest ≡ more =
      expanded_one (number + 1) next atoms again rest more (rest_same (atom_of atom) (atom_of own) (map atom_of atoms) (map atom_of again) same) later
      (subst (λ (it : ℕ). AreExpanded others (number + 1) it again more) (sym nexts) later_too) in
      is ∙ (λ i. placed number 0 (images i) ++ rests i) ∙ sym is_too

-- ---- what may be said at a line is one

module _ (case : Case)
    (placed_once : (fact other : ExpandedFact) → Contains case.expanded fact → Contains case.expanded other → fact.atom ≡ other.atom
    → fact.place ≡ other.place → fact.fact ≡ other.fact) (claims : List Claim) where
  claim_one : (line : Line) (claim other : Claim) → MayClaim case claims line claim → MayClaim case claims line other → claim ≡ other
  claim_one (Expanded atom place) claim other (fact, inside, named, is) (again, there, named_too, is_too) =
      is ∙ ap Stated (placed_once fact again inside there (omega (arith, named.0, named_too.0)) (omega (arith, named.1, named_too.1))) ∙ sym is_too
  claim_one (Step number place facts links) claim other (rule, at, (chosen, equalities, matches, made))
      (again, at_too, (chosen_too, equalities_too, matches_too, made_too)) =
      let rules : rule ≡ again = same_Some rule again (sym at ∙ at_too) in
      let same : chosen ≡ chosen_too = same_Some chosen chosen_too (sym matches.stated ∙ matches_too.stated) in
      same_Some claim other (sym made ∙ (λ i. made_at place (number - 1) (rules i) (match_map (body_of (rules i)) (same i))) ∙ made_too)
  claim_one (Match facts links) claim other wrong wrong_too = absurd wrong

  claim_no_end : (line : Line) (claim : Claim) → MayClaim case claims line claim → MayEnd case claims line → ⊥
  claim_no_end (Expanded atom place) claim may wrong = wrong
  claim_no_end (Step number place facts links) claim may wrong = wrong
  claim_no_end (Match facts links) claim wrong may = wrong

  text_one : (found : Option Line) (claim other : Claim) → IsJudgedText case claims found (Claims claim) → IsJudgedText case claims found (Claims other)
      → claim ≡ other
  text_one None claim other wrong wrong_too = absurd (cc)
  text_one (Some line) claim other may may_too = claim_one line claim other may may_too

  text_no_end : (found : Option Line) (claim : Claim) → IsJudgedText case claims found (Claims claim) → IsJudgedText case claims found Ends → ⊥
  text_no_end None claim wrong wrong_too = cc
  text_no_end (Some line) claim may may_too = claim_no_end line claim may may_too

  text_no_claim : (found : Option Line) (claim : Claim) → IsJudgedText case claims found (Claims claim) → IsJudgedText case claims found Refused → ⊥
  text_no_claim None claim wrong refused = cc
  text_no_claim (Some line) claim may refused = refused.0 claim may

  text_ends : (found : Option Line) → IsJudgedText case claims found Ends → IsJudgedText case claims found Refused → ⊥
  text_ends None wrong refused = cc
  text_ends (Some line) may refused = refused.1 may

module _ (case : Case)
    (placed_once : (fact other : ExpandedFact) → Contains case.expanded fact → Contains case.expanded other → fact.atom ≡ other.atom
    → fact.place ≡ other.place → fact.fact ≡ other.fact) where
  pub verdict_one : (parts : List (List ℕ)) (number : ℕ) (claims : List Claim) (verdict found : Option ℕ) → Verdict case claims number parts verdict
      → Verdict case claims number parts found → verdict ≡ found
  verdict_one [] number claims verdict found is is_too = is ∙ sym is_too
  verdict_one (part ∷ []) number claims verdict found is is_too = is ∙ sym is_too
  verdict_one (part ∷ next ∷ rest) number claims verdict found (inl (inl (claim, judged, later))) (inl (inl (other, judged_too, later_too))) =
      let same : claim ≡ other = text_one case placed_once claims (line_of part) claim other judged judged_too in
      verdict_one (next ∷ rest) (number + 1) (claims ++ claim ∷ []) verdict found later
      (subst (λ (it : Claim). Verdict case (claims ++ it ∷ []) (number + 1) (next ∷ rest) found) (sym same) later_too)
  verdict_one (part ∷ next ∷ rest) number claims verdict found (inl (inl (claim, judged, later))) (inl (inr (ends, is))) =
      absurd (text_no_end case placed_once claims (line_of part) claim judged ends)
  verdict_one (part ∷ next ∷ rest) number claims verdict found (inl (inl (claim, judged, later))) (inr (refused, is)) =
      absurd (text_no_claim case placed_once claims (line_of part) claim judged refused)
  verdict_one (part ∷ next ∷ rest) number claims verdict found (inl (inr (ends, is))) (inl (inl (claim, judged, later))) =
      absurd (text_no_end case placed_once claims (line_of part) claim judged ends)
  verdict_one (part ∷ next ∷ rest) number claims verdict found (inl (inr (ends, is))) (inl (inr (ends_too, is_too))) = is ∙ sym is_too
  verdict_one (part ∷ next ∷ rest) number claims verdict found (inl (inr (ends, is))) (inr (refused, is_too)) =
      absurd (text_ends case placed_once claims (line_of part) ends refused)
  verdict_one (part ∷ next ∷ rest) number claims verdict found (inr (refused, is)) (inl (inl (claim, judged, later))) =
      absurd (text_no_claim case placed_once claims (line_of part) claim judged refused)
  verdict_one (part ∷ next ∷ rest) number claims verdict found (inr (refused, is)) (inl (inr (ends, is_too))) =
      absurd (text_ends case placed_once claims (line_of part) ends refused)
  verdict_one (part ∷ next ∷ rest) number claims verdict found (inr (refused, is)) (inr (refused_too, is_too)) = is ∙ sym is_too

-- ---- the whole

-- the fact at a place of an atom is one
expands_once : (plan : Plan) (fragments : List FragmentDef) (expanded : List ExpandedFact) → Expands plan fragments expanded → (fact other : ExpandedFact)
    → Contains expanded fact → Contains expanded other → fact.atom ≡ other.atom → fact.place ≡ other.place → fact.fact ≡ other.fact
expands_once plan fragments expanded expands fact other inside there atoms places =
    let told = (expands.exact fact).0 inside in
    let told_too = (expands.exact other).0 there in
    let parts : told.1.0 ≡ told_too.1.0 =
    same_Some told.1.0 told_too.1.0 (sym told.1.1 ∙ (λ i. slice_get (expands.of.view (atoms i)).body (places i)) ∙ told_too.1.1) in
    sym told.1.2 ∙ (λ i. image (expands.of.spread (atoms i)) (parts i)) ∙ told_too.1.2

pub verdicts_one : ((query : Query) → IsQuery (query_of query)) → VerdictsAreOne
verdicts_one are_queries plan other fragments others set rules more query again bytes verdict found plans names views same_rules queries
    (expanded, exact, expands, flat, decides) (expanded_too, exact_too, expands_too, flat_too, decides_too) =
    let same : expanded ≡ expanded_too =
    expanded_one are_queries fragments others views 0 (length plan.names) plan.atoms other.atoms expanded expanded_too
    (ap (λ (it : ConjunctiveQuery). it.body) plans) exact
    (subst (λ (it : ℕ). AreExpanded others 0 it other.atoms expanded_too) (sym names) exact_too) in
    let case : Case = record { expanded = expanded; set = set; rules = rules_of rules; query = query_of query; targets = plan.head } in
    let case_too : Case = record { expanded = expanded_too; set = set; rules = rules_of more; query = query_of again; targets = other.head } in
    let cases : case ≡ case_too = (λ i. record {
      expanded = same i;
      set = set;
      rules = same_rules i;
      query = queries i;
      targets = (plans i).head;
    }) in
    verdict_one case (expands_once plan fragments expanded expands) _ 1 [] verdict found decides
    (subst (λ (it : Case). Decides it bytes found) (sym cases) decides_too)
