-- Containment through universal instances, and the laws of containment and of answers.
use Rattle.std.proofs.Common.{◌↔◌, ℕ, List, [], map, Contains, refl, sym, ap, ◌∙◌}
use Rattle.esto_semantics.specs.Containment.{IsContained, IsSatisfiable}
use Rattle.esto_semantics.specs.Facts.{Database}
use Rattle.esto_semantics.specs.Instances.{MapsTo, IsFollowed, IsUniversalFor, IsFinished}
use Rattle.esto_semantics.specs.Queries.{ConjunctiveQuery, IsAnswer, IsAnswerInto}
use Rattle.esto_semantics.specs.Rules.{Rule, AreRules}
use Rattle.esto_semantics.specs.ContainmentLaws.{UnionsAreDecided, AnswersGrow}
use Rattle.esto_semantics.specs.Sides.{over_datasets, over_fragments, union_over_datasets, union_over_fragments}
use Rattle.esto_semantics.specs.Views.{IsViewRow, IsFragmentAnswer}
use Rattle.esto_semantics.specs.declared.fact.Fact.{Fact}
use Rattle.esto_semantics.specs.declared.fact.Value.{Value}
use Rattle.esto_semantics.specs.declared.fact.Value.TheVariants.{Text}
use Rattle.esto_semantics.proofs.FactLemmas.{Sends-then, Sends-itself}
use Rattle.esto_semantics.proofs.CanonicalLemmas.{canonical_value, canonical_database, canonical_database-Meets, answer-from_map, map-from_answer}
use Rattle.esto_term.proofs.ListLemmas.{Contains-nil, map_itself, map_then}

-- ---- universal instances

pub contained-from_map : (rules : List Rule) (start end right : ConjunctiveQuery) → IsFollowed rules start end → MapsTo right end
    → IsContained rules (IsAnswer start) (IsAnswer right)
contained-from_map rules start end right followed (m, keeps, sends, heads) database meets row (valuation, valued, into, is) =
    let after = followed database meets valuation valued into in (
      (λ term. after.0 (m term)),
      (λ text. ap after.0 (keeps text) ∙ after.1 text),
      Sends-then m after.0 right.body end.body database sends after.2,
      is ∙ sym after.3 ∙ ap (map after.0) (sym heads) ∙ map_then m after.0 right.head,
    )

pub map-from_contained : (rules : List Rule) (start end right : ConjunctiveQuery) → AreRules rules → MapsTo start end → IsFinished rules end
    → IsContained rules (IsAnswer start) (IsAnswer right) → MapsTo right end
map-from_contained rules start end right are_rules maps finished contained =
    map-from_answer end right
    (contained (canonical_database end) (canonical_database-Meets end rules are_rules finished) (map (canonical_value end) end.head)
    (answer-from_map end start maps))

pub universal_instances_decide : (rules : List Rule) (start end right : ConjunctiveQuery) → AreRules rules → IsUniversalFor rules start end
    → IsFinished rules end
    → IsContained rules (IsAnswer start) (IsAnswer right) ↔ MapsTo right end
universal_instances_decide rules start end right are_rules universal finished =
    (map-from_contained rules start end right are_rules universal.maps finished, contained-from_map rules start end right universal.followed)

pub unions_are_decided : UnionsAreDecided
unions_are_decided rules start end queries are_rules universal finished = (
  (λ contained.
      let meets = canonical_database-Meets end rules are_rules finished in
      let answer = contained (canonical_database end) meets (map (canonical_value end) end.head) (answer-from_map end start universal.maps) in
      (answer.0, answer.1, map-from_answer end answer.0 answer.2)),
  (λ one database meets row answer. (one.0, one.1, contained-from_map rules start end one.0 universal.followed one.2 database meets row answer)),
)

pub universal_instances_satisfy : (rules : List Rule) (start end : ConjunctiveQuery) → AreRules rules → IsUniversalFor rules start end → IsFinished rules end
    → IsSatisfiable rules start
universal_instances_satisfy rules start end are_rules universal finished = (
  canonical_database end,
  canonical_database-Meets end rules are_rules finished,
  (map (canonical_value end) end.head, answer-from_map end start universal.maps),
)

-- ---- without rules

pub no_rules-AreRules : AreRules []
no_rules-AreRules rule inside = absurd (Contains-nil rule inside)

pub own_instance-IsUniversalFor : (rules : List Rule) (query : ConjunctiveQuery) → IsUniversalFor rules query query
own_instance-IsUniversalFor rules query = record {
  maps = ((λ term. term), (λ text. refl), Sends-itself query.body, map_itself query.head);
  followed = λ database meets m keeps sends. (m, keeps, sends, refl);
}

pub own_instance-IsFinished : (query : ConjunctiveQuery) → IsFinished [] query
own_instance-IsFinished query rule inside = absurd (Contains-nil rule inside)

-- ---- answers grow

-- with what holds, the answers grow
pub IsAnswerInto-grows : {V : Type 0} (constant : List ℕ → V) (query : ConjunctiveQuery) (Holds More : Fact V → Type 0) (row : List V)
    → ((fact : Fact V) → Holds fact → More fact) → IsAnswerInto constant query Holds row → IsAnswerInto constant query More row
IsAnswerInto-grows constant query Holds More row grows (m, keeps, sends, is) = (m, keeps, (λ fact inside. grows _ (sends fact inside)), is)

pub IsViewRow-grows : (views : List ConjunctiveQuery) (database larger : Database) → ((fact : Fact Value) → Contains database fact → Contains larger fact)
    → (fact : Fact Value) → IsViewRow views database fact → IsViewRow views larger fact
IsViewRow-grows views database larger grows fact (view, found, answer) =
    (view, found, IsAnswerInto-grows Text view (Contains database) (Contains larger) fact.terms grows answer)

IsFragmentAnswer-grows : (views : List ConjunctiveQuery) (query : ConjunctiveQuery) (database larger : Database)
    → ((fact : Fact Value) → Contains database fact → Contains larger fact)
    → (row : List Value) → IsFragmentAnswer views query database row → IsFragmentAnswer views query larger row
IsFragmentAnswer-grows views query database larger grows row answer =
    IsAnswerInto-grows Text query (IsViewRow views database) (IsViewRow views larger) row (IsViewRow-grows views database larger grows) answer

pub IsAnswerOf-grows : AnswersGrow
IsAnswerOf-grows (over_datasets query) database larger grows row answer = IsAnswerInto-grows Text query (Contains database) (Contains larger) row grows answer
IsAnswerOf-grows (over_fragments views query) database larger grows row answer = IsFragmentAnswer-grows views query database larger grows row answer
IsAnswerOf-grows (union_over_datasets queries) database larger grows row (query, inside, answer) =
    (query, inside, IsAnswerInto-grows Text query (Contains database) (Contains larger) row grows answer)
IsAnswerOf-grows (union_over_fragments views queries) database larger grows row (query, inside, answer) =
    (query, inside, IsFragmentAnswer-grows views query database larger grows row answer)
