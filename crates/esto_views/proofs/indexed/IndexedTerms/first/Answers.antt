use Rattle.std.proofs.Common.{Contains, subst}
use Rattle.std.specs.Prelude.{MatchOption}
use Rattle.esto_views.specs.Indexes.{IsFirstPlace}
use Rattle.esto_views.proofs.IndexLemmas.{first_of_index}
use Rattle.esto_views.proofs.indexed.IndexedTerms.first.Goals as goal

pub returns : goal.returns
returns c =
    subst (λ terms. MatchOption c.first_place.result (Contains terms c.args.term.now → ⊥) (IsFirstPlace terms c.args.term.now)) c.self.view_is
    (first_of_index c.self.inside.terms.now c.self.inside.index.items c.args.term.now c.first_place.result c.self.invariant
    (rw c.deref.ensures.value at c.first_place.ensures))
