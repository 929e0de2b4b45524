-- Maps between plans, one after another, and to those with more atoms.
use Rattle.std.proofs.Common.{List, map, Contains, refl, sym, ap, ◌∙◌, subst}
use Rattle.esto_term.specs.declared.term.Term.{Term}
use Rattle.esto_term.proofs.ListLemmas.{map_itself, map_then}
use Rattle.esto_semantics.specs.Instances.{MapsTo}
use Rattle.esto_semantics.specs.Plans.{IsUniversalPlan}
use Rattle.esto_semantics.specs.Queries.{ConjunctiveQuery}
use Rattle.esto_semantics.specs.Rules.{Rule}
use Rattle.esto_semantics.specs.declared.fact.Fact.{Fact}
use Rattle.esto_semantics.proofs.FactLemmas.{image_itself, Sends-then}
use Rattle.esto_semantics.specs.Cores.{Retracts}

abbrev pub MapsTo-then : (first second third : ConjunctiveQuery) → MapsTo first second → MapsTo second third → MapsTo first third
MapsTo-then first second third maps further = (
  (λ term. further.0 (maps.0 term)),
  (λ text. ap further.0 (maps.1 text) ∙ further.1 text),
  Sends-then maps.0 further.0 first.body second.body third.body maps.2 further.2,
  sym (map_then maps.0 further.0 first.head) ∙ ap (map further.0) maps.3 ∙ further.3,
)

pub universal_alike : (rules : List Rule) (views : List ConjunctiveQuery) (query plan other : ConjunctiveQuery) → MapsTo plan other → MapsTo other plan
    → IsUniversalPlan rules views query plan → IsUniversalPlan rules views query other
universal_alike rules views query plan other there back universal rewriting shape lengths =
    let same = universal rewriting shape lengths in (
      (λ contained. MapsTo-then rewriting plan other (same.0 contained) there),
      (λ maps. same.1 (MapsTo-then rewriting other plan maps back)),
    )

pub retracts-among : (head : List Term) (atoms others : List (Fact Term)) → ((atom : Fact Term) → Contains atoms atom → Contains others atom)
    → Retracts head atoms others
retracts-among head atoms others among =
    ((λ term. term), (λ text. refl), (λ atom inside. subst (Contains others) (sym (image_itself atom)) (among atom inside)), map_itself head)
