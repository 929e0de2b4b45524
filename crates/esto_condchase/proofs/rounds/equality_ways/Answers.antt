use Rattle.std.proofs.Common.{[], ◌∷◌, Contains, refl, sym, subst, ◌∙◌}
use Rattle.std.proofs.lemmas.Result.{IfOk-weaker}
use Rattle.esto_condchase.proofs.RoundLemmas.{found_of}
use Rattle.esto_condchase.proofs.rounds.equality_ways.Goals as goal

pub matches_since-requires-clause-among : goal.matches_since-requires-clause-among
matches_since-requires-clause-among c term inside = subst (λ it. Contains it term) (c.items-3.ensures ∙ sym c.items-2.ensures) inside

pub returns-clause-found : goal.returns-clause-found
returns-clause-found c = IfOk-weaker c.matches_since.result _ _ (λ ways found. found_of c.args.entries.now _ c.args.since c.args.rule.now.body _
    (c.args.rule.now.left ∷ c.args.rule.now.right ∷ []) _ (c.args.rule.now.left ∷ c.args.rule.now.right ∷ []) _ ways refl c.items.ensures
    (c.items-2.ensures ∙ c.in_ok-sides.ensures) (c.items-3.ensures ∙ c.in_ok-sides.ensures) found) c.matches_since.ensures.found
