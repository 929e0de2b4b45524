-- A universal instance shows what its query is not contained in, and its parts contain the query.
use Rattle.esto_semantics.specs.Listed.{candidate}
use Rattle.esto_semantics.specs.ContainmentLaws.{InstanceShows, PartContains, PartIsEquivalent}
use Rattle.esto_semantics.proofs.CandidateLemmas.{candidate-MapsTo}
use Rattle.esto_semantics.proofs.CanonicalLemmas.{canonical_value, canonical_database-Meets, canonical-AreValuesOf, answer-from_map, map-from_answer}
use Rattle.esto_semantics.proofs.ContainmentLemmas.{contained-from_map, universal_instances_decide}

pub instance_shows : InstanceShows
instance_shows rules start end are_rules universal finished = (
  canonical_value end,
  record {
    values = canonical-AreValuesOf end;
    meets = canonical_database-Meets end rules are_rules finished;
    row = answer-from_map end start universal.maps;
    only = λ right answer. map-from_answer end right answer;
  },
)

pub part_contains : PartContains
part_contains rules start end set universal = contained-from_map rules start end (candidate end set) universal.followed (candidate-MapsTo end set)

pub part_is_equivalent : PartIsEquivalent
part_is_equivalent rules start end inner set are_rules universal inner_universal finished =
    let same = universal_instances_decide rules (candidate end set) inner start are_rules inner_universal finished in (
      (λ both. same.0 both.0),
      (λ maps. (same.1 maps, part_contains rules start end set universal)),
    )
