use Rattle.std.proofs.Common.{◌≡◌, inl, inr, ℕ, List, [], ◌∷◌, ◌++◌, Some, slice_get, Contains, subst}
use Rattle.std.proofs.lemmas.List.Elements.{Contains-push_cases}
use Rattle.esto_term.proofs.ListLemmas.{Contains-at, Contains-nil}
use Rattle.esto_steps.specs.declared.steps.Link.{Link}
use Rattle.esto_steps.proofs.cost.link_alone.Goals as goal

one_of : (links alone new : List Link) (number : ℕ) (item : Link) → alone ≡ [] → new ≡ alone ++ item ∷ [] → slice_get links number ≡ Some item
    → (link : Link) → Contains new link → Contains links link
one_of links alone new number item none pushed there link inside =
    elim (Contains-push_cases alone item link (subst (λ (them : List Link). Contains them link) pushed inside)) [
      | inl old ↦ absurd (Contains-nil link (subst (λ (them : List Link). Contains them link) none old))
      | inr same ↦ subst (Contains links) same (Contains-at links number item there)
    ]

pub returns-then-number-len : goal.returns-then-number-len
returns-then-number-len c = λ link inside. absurd (Contains-nil link (subst (λ (them : List Link). Contains them link) c.new-alone.ensures inside))

pub returns : goal.returns
returns c = one_of c.args.links.now c.new-alone.result c.push.new.self c.args.number c.item.result.now c.new-alone.ensures
    c.in_ok-push.ensures.ok c.item.ensures
