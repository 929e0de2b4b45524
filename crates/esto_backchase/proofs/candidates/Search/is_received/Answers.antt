use Rattle.std.proofs.Common.{◌↔◌, IsTrue, IfOk, sym, subst}
use Rattle.std.specs.Bool.{⊤}
use Rattle.either.specs.Either.{MatchEither}
use Rattle.esto_chase.specs.declared.chasing.Chased.{Chased}
use Rattle.esto_semantics.specs.Instances.{MapsTo}
use Rattle.esto_query.specs.Making.{query_of}
use Rattle.esto_instance.specs.Instances.{state_of}
use Rattle.esto_backchase.proofs.candidates.Search.is_received.Goals as goal

pub returns-in-Left : goal.returns-in-Left
returns-in-Left c =
    subst (λ outcome. IfOk c.receives.result (λ answer. IsTrue answer ↔ MatchEither outcome
    (λ (chased : Chased). MapsTo (query_of c.args.self.now.query.now) (state_of chased.instance)) (λ _. ⊤)))
    (sym c.in-Left.is) c.receives.ensures
