-- The facts of an expansion are over constants and variables.
use Rattle.std.proofs.Common.{◌≡◌, inl, inr, ℕ, ◌<◌, List, length, slice_get, Some, ap, Contains, sym, ◌∙◌, subst}
use Rattle.esto_term.specs.declared.term.Term.{Term}
use Rattle.esto_term.proofs.ChoiceLemmas.{Decided}
use Rattle.esto_term.proofs.DistinctLemmas.{decided_contains}
use Rattle.esto_term.proofs.ListLemmas.{Contains-at, Contains-map, Contains-map_from, map_at-from, thing_at}
use Rattle.esto_semantics.specs.Facts.{Mentions}
use Rattle.esto_semantics.specs.Maps.{AreFlat, IsFlat}
use Rattle.esto_semantics.specs.declared.fact.Fact.{Fact}
use Rattle.esto_semantics.proofs.TermLemmas.{Const-apart-Plain, decided_term}
use Rattle.esto_query.specs.Making.{query_of}
use Rattle.esto_query.specs.Soundness.{IsSound}
use Rattle.esto_query.specs.declared.query.Query.{Query}
use Rattle.esto_views.specs.Expanded.{Expands}
use Rattle.esto_semantics.specs.Expanded.{facts_of}
use Rattle.esto_views.specs.Plans.{fact_of, plan_query}
use Rattle.esto_views.specs.Soundness.{IsNamed, IsSoundPlan}
use Rattle.esto_semantics.specs.declared.expanded.ExpandedFact.{ExpandedFact}
use Rattle.esto_views.specs.declared.fragments.FragmentDef.{FragmentDef}
use Rattle.esto_views.specs.declared.plan.Plan.{Plan}

pub named-flat : (plan : Plan) (term : Term) → IsNamed plan.names term → IsFlat term
named-flat plan term (inl constant) = inl constant
named-flat plan term (inr (number, is, _)) = inr (number, is)

pub plan_atoms-flat : (plan : Plan) → IsSoundPlan plan.atoms plan.head plan.names → AreFlat (plan_query plan).body
plan_atoms-flat plan sound term (fact, there, inside) =
    let atom = Contains-map_from fact_of plan.atoms fact there in
    named-flat plan term (sound.named_atoms atom.0 atom.1 term (subst (λ (it : Fact Term). Contains it.terms term) (sym atom.2) inside))

module _ (plan : Plan) (fragments : List FragmentDef) (expanded : List ExpandedFact) (sound : IsSoundPlan plan.atoms plan.head plan.names)
    (queries : (query : Query) → IsSound query.head query.body query.names) (expands : Expands plan fragments expanded) where
  -- what an atom has for a term of its view is a constant or a variable
  spread-flat : (number : ℕ) (atom : Fact Term) → number < length (plan_query plan).body → slice_get (plan_query plan).body number ≡ Some atom
      → (term : Term) → Mentions (expands.of.view number).body term → IsFlat (expands.of.spread number term)
  spread-flat number atom below at term mentioned =
      let source = map_at-from (λ (fragment : FragmentDef). query_of fragment.view) fragments atom.relation (expands.of.view number)
      (expands.of.has_view number atom at) in
      let own : IsFlat term = (queries source.0.view).query.flat_body term (subst (λ view. Mentions view.body term) (sym source.2) mentioned) in
      by own (decided_contains decided_term (expands.of.view number).head term)
    where
      by : IsFlat term → Decided (Contains (expands.of.view number).head term) → IsFlat (expands.of.spread number term)
      by (inl (text, is)) _ = inl (text, ap (expands.of.spread number) is ∙ expands.of.keeps number text)
      by (inr variable) (inl in_head) =
          plan_atoms-flat plan sound (expands.of.spread number term) (
            atom,
            Contains-at (plan_query plan).body number atom at,
            subst (λ terms. Contains terms (expands.of.spread number term)) (expands.of.head number atom at)
                (Contains-map (expands.of.spread number) (expands.of.view number).head term in_head),
          )
      by (inr (plain, is)) (inr outside) = inr (expands.of.variable number term below (record {
        in_body = mentioned;
        no_constant = λ (text, constant). Const-apart-Plain text plain (sym constant ∙ is);
        not_in_head = outside;
      }))

  pub expanded-flat : AreFlat (facts_of expanded)
  expanded-flat term (fact, there, inside) =
      let from = (expands.of.facts fact).0 there in
      let source = Contains-map_from (expands.of.spread from.0) from.2.0.terms term
      (subst (λ (it : Fact Term). Contains it.terms term) (sym from.2.2) inside) in
      let at = thing_at (plan_query plan).body from.0 from.1 in
      subst IsFlat source.2 (spread-flat from.0 at.0 from.1 at.1 source.0 (from.2.0, from.2.1, source.1))
