use Rattle.std.proofs.Common.{◌≡◌, Contains, subst}
use Rattle.std.specs.List.{AllZip}
use Rattle.esto_semantics.proofs.FollowedLemmas.{followed-from_strong, mapped_zip}
use Rattle.esto_semantics.proofs.followed.what_follows_the_facts_follows_the_query.Goals as goal

pub returns : goal.returns
returns c rules start end went followed given heads =
    followed-from_strong rules start end (Contains end.body) (λ term other. went term ≡ other) followed given (λ fact inside. inside)
    (subst (AllZip (λ term other. went term ≡ other) start.head) heads (mapped_zip went start.head))
