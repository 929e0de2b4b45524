-- From followed in the strong form to followed.
use Rattle.std.proofs.Common.{◌≡◌, List, [], ◌∷◌, map, Contains, refl, sym, ◌∙◌}
use Rattle.std.specs.List.{AllZip}
use Rattle.esto_term.specs.declared.term.Term.{Term}
use Rattle.esto_term.proofs.ListLemmas.{map_agree}
use Rattle.esto_semantics.specs.Followed.{IsGiven, IsFollowedBy}
use Rattle.esto_semantics.specs.Instances.{IsFollowed}
use Rattle.esto_semantics.specs.Queries.{ConjunctiveQuery}
use Rattle.esto_semantics.specs.Rules.{Rule}
use Rattle.esto_semantics.specs.declared.fact.Fact.{Fact}
use Rattle.esto_semantics.specs.declared.fact.Value.{Value}

-- a map that gives terms that are one a single value makes one row of two rows that are one, place by place
one_row : (One : Term → Term → Type 0) (m : Term → Value) → ((term other : Term) → One term other → m term ≡ m other)
    → (row others : List Term) → AllZip One row others → map m others ≡ map m row
one_row One m one [] [] all = refl
one_row One m one [] (other ∷ others) all = absurd all
one_row One m one (term ∷ row) [] all = absurd all
one_row One m one (term ∷ row) (other ∷ others) all =
    let first = one term other all.0 in
    let rest = one_row One m one row others all.1 in
    λ i. sym first i ∷ rest i

-- a term of the mapped row is one with what it was mapped from
pub mapped_zip : (went : Term → Term) (row : List Term) → AllZip (λ term other. went term ≡ other) row (map went row)
mapped_zip went [] = tt
mapped_zip went (term ∷ row) = (refl, mapped_zip went row)

module _ (rules : List Rule) (start end : ConjunctiveQuery) (Holds : Fact Term → Type 0) (One : Term → Term → Type 0)
    (followed : IsFollowedBy rules start.body Holds One) (given : (term : Term) → Contains start.head term → IsGiven start.body term) where
  pub followed-from_strong : ((fact : Fact Term) → Contains end.body fact → Holds fact) → AllZip One start.head end.head → IsFollowed rules start end
  followed-from_strong holds heads database meets m keeps sends =
      let into = followed database meets m keeps sends in (
        into.after,
        into.keeps,
        (λ fact inside. into.sends fact (holds fact inside)),
        one_row One into.after into.one_value start.head end.head heads
            ∙ map_agree into.after m start.head (λ term inside. into.agrees term (given term inside)),
      )
