-- What shows a no.
use Rattle.std.proofs.Common.{◌≡◌, ◌≢◌, List, [], ◌∷◌, map, refl}
use Rattle.esto_contain.specs.Contained.{IfNo, IsCounterexample}
use Rattle.esto_contain.specs.declared.containing.Contain.{Contain}
use Rattle.esto_contain.specs.declared.containing.Contain.TheVariants.{Yes, No}
use Rattle.esto_semantics.specs.Queries.{ConjunctiveQuery}
use Rattle.esto_semantics.specs.Rules.{Rule}
use Rattle.esto_semantics.specs.declared.fact.Value.{Value}
use Rattle.esto_term.specs.declared.term.Term.{Term}

-- a row with the values of a head that has terms has terms
full_row : (value m : Term → Value) (row head : List Term) → map value row ≡ map m head → head ≢ [] → row ≢ []
full_row value m row [] same full = absurd (full refl)
full_row value m [] (first ∷ rest) same full = absurd (cc)
full_row value m (one ∷ others) (first ∷ rest) same full = λ none. cc

-- the row of a no has terms, since it is an answer
pub row_is_full : (rules : List Rule) (left right : ConjunctiveQuery) (told : Contain) → left.head ≢ [] → IfNo (IsCounterexample rules left right) told
    → IfNo (λ _ row. row ≢ []) told
row_is_full rules left right Yes full shown = tt
row_is_full rules left right (No facts row) full shown =
    full_row shown.value shown.answer.0 row left.head shown.answer.3 full
