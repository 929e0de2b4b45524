-- Each set of a printed plan's atoms that is safe, and whose candidate is contained in the query, has a certificate.
use Rattle.std.proofs.Common.{ℕ, ◌<◌, Bool, List, length, slice_index, refl, arith, sym, subst}
use Rattle.esto_constraint.specs.Graphs.{IsWithin, AreRanks}
use Rattle.esto_constraint.specs.Relations.{IsEdge}
use Rattle.esto_mapping.specs.Catalogues.{CataloguesAreSound}
use Rattle.esto_mapping.specs.declared.catalogue.Catalogue.{Catalogue}
use Rattle.esto_cert.specs.Complete.{ContainedSetsHaveCertificates, HasAnswer}
use Rattle.esto_constraint.proofs.RankLemmas.{depth_of, depth-small, ranks-RanksRise, ranks-small}
use Rattle.esto_constraint.specs.Constraints.{rules_of}
use Rattle.esto_rewriting.specs.PlannedLaws.{ItemIsListed, PlanHasForm, PlanIsOver, PlanIsUniversal, PlanTellsAnswers}
use Rattle.esto_rewriting.specs.Listing.{IsPlanned}
use Rattle.esto_query.specs.Making.{query_of}
use Rattle.esto_query.specs.declared.query.Query.{Query}
use Rattle.esto_semantics.specs.Listed.{candidate}
use Rattle.esto_semantics.specs.PlanLaws.{ContainedCandidateIsEquivalent}
use Rattle.esto_semantics.specs.Rules.{Rule}
use Rattle.esto_semantics.specs.Views.{IsFragmentAnswer}
use Rattle.esto_views.specs.Fragments.{views_of}
use Rattle.esto_views.specs.Plans.{plan_query}
use Rattle.esto_views.specs.declared.plan.Plan.{Plan}
use Rattle.esto_views.specs.Contained.{IsSafelyContained}
use Rattle.esto_rewriting.specs.CertificateLaws.{ContainedSetsHaveOne, ListedSetsHaveOne}

-- what is known of ranks
abbrev pub RanksRiseAlong : Type 0
RanksRiseAlong =
    (rules : List Rule) (count : ℕ) (ranks : List ℕ) → IsWithin count (IsEdge rules) → AreRanks (IsEdge rules) count ranks
    → (from to : ℕ) → IsEdge rules from to → slice_index ranks from < slice_index ranks to

abbrev pub RanksAreSmall : Type 0
RanksAreSmall =
    (rules : List Rule) (count : ℕ) (ranks : List ℕ) → IsWithin count (IsEdge rules) → AreRanks (IsEdge rules) count ranks
    → (relation : ℕ) → relation < count → slice_index ranks relation < count

-- a catalogue's rules are over relations that its ranks are of
module _ (catalogues : CataloguesAreSound) (catalogue : Catalogue) where
  pub rules_within : IsWithin (length catalogue.ranks) (IsEdge (rules_of catalogue.rules))
  rules_within = subst (λ it. IsWithin it (IsEdge (rules_of catalogue.rules))) (sym (catalogues catalogue).ranks_are.for_each) (catalogues catalogue).within

  pub rules_ranked : AreRanks (IsEdge (rules_of catalogue.rules)) (length catalogue.ranks) catalogue.ranks
  rules_ranked = subst (λ it. AreRanks (IsEdge (rules_of catalogue.rules)) it catalogue.ranks) (sym (catalogues catalogue).ranks_are.for_each)
      (catalogues catalogue).ranks_are

module _ (have : ContainedSetsHaveCertificates) (catalogues : CataloguesAreSound) (rise : RanksRiseAlong) (small : RanksAreSmall) (form : PlanHasForm)
    (over : PlanIsOver) (universal : PlanIsUniversal) (satisfiable : PlanTellsAnswers) (equivalent : ContainedCandidateIsEquivalent) where
  -- the candidate of a set that is contained in a satisfiable query has an answer, since it contains the query
  has_answer : (catalogue : Catalogue) (query : Query) (plan : Plan) → IsPlanned catalogue query plan → (set : List Bool)
      → IsSafelyContained (rules_of catalogue.rules) (views_of catalogue.fragments) (query_of query) (plan_query plan) set
      → HasAnswer (rules_of catalogue.rules) (IsFragmentAnswer (views_of catalogue.fragments) (candidate (plan_query plan) set))
  has_answer catalogue query plan planned set is =
      let (database, meets, (row, answer)) = satisfiable catalogue query plan planned in
      let same = (equivalent (rules_of catalogue.rules) (views_of catalogue.fragments) (query_of query) (plan_query plan) set
      (form catalogue query plan planned) (universal catalogue query plan planned) is.has_candidate is.safe).1 is.contained in
      (database, meets, (row, same.1 database meets row answer))

  pub contained_have_one : ContainedSetsHaveOne
  contained_have_one catalogue query plan planned set is =
      have plan catalogue.fragments set catalogue.rules query (slice_index catalogue.ranks) (depth_of catalogue.ranks) (over catalogue query plan planned)
      (ranks-RanksRise (rules_of catalogue.rules) catalogue.ranks
      (rise (rules_of catalogue.rules) (length catalogue.ranks) catalogue.ranks (rules_within catalogues catalogue) (rules_ranked catalogues catalogue)))
      (ranks-small catalogue.ranks
      (small (rules_of catalogue.rules) (length catalogue.ranks) catalogue.ranks (rules_within catalogues catalogue) (rules_ranked catalogues catalogue)))
      (depth-small catalogue.ranks (length catalogue.ranks) refl
      (omega (arith, (catalogues catalogue).schema_is.room, (catalogues catalogue).ranks_are.for_each)))
      (has_answer catalogue query plan planned set is) is

  pub listed_have_one : ItemIsListed → ListedSetsHaveOne
  listed_have_one items_are catalogue query plan planned items place item list at =
      let listed = (items_are catalogue query plan items place item list at).set in
      contained_have_one catalogue query plan planned item.set (record {
        has_candidate = listed.0.has_candidate;
        safe = listed.0.safe;
        contained = listed.0.equivalent.0;
      })
