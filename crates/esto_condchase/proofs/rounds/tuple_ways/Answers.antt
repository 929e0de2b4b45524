use Rattle.std.proofs.Common.{[], ap, refl, ◌∙◌}
use Rattle.std.proofs.lemmas.Result.{IfOk-weaker}
use Rattle.esto_semantics.specs.Facts.{terms_of}
use Rattle.esto_term.proofs.ListLemmas.{Contains-nil}
use Rattle.esto_condchase.proofs.RoundLemmas.{found_of}
use Rattle.esto_condchase.proofs.rounds.tuple_ways.Goals as goal

pub matches_since-requires-clause-among : goal.matches_since-requires-clause-among
matches_since-requires-clause-among c term inside = absurd (Contains-nil term inside)

pub returns-clause-found : goal.returns-clause-found
returns-clause-found c = IfOk-weaker c.matches_since.result _ _ (λ ways found. found_of c.args.entries.now _ c.args.since c.args.rule.now.body _
    (terms_of c.args.rule.now.head) _ [] _ ways refl c.items-2.ensures (c.items-3.ensures ∙ c.in_ok-asked.ensures ∙ ap terms_of c.items.ensures) refl found)
    c.matches_since.ensures.found
