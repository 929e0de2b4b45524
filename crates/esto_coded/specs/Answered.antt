-- Rows of codes that answer queries over facts which rows of codes stand for.
use Rattle.std.specs.Prelude.{◌↔◌, ℕ, List, Contains}
use Rattle.esto_term.specs.declared.term.Term.{Term}
use Rattle.esto_term.specs.declared.term.Term.TheVariants.{Const}
use Rattle.esto_semantics.specs.Queries.{ConjunctiveQuery, IsAnswerInto}
use Rattle.esto_semantics.specs.declared.fact.Fact.{Fact}
use Rattle.esto_coded.specs.Coded.{Coded, AreCodesOf, StandFor}

-- The row of codes stands for an answer of the query over the facts.
abbrev pub IsCodedAnswer : Coded → ConjunctiveQuery → List (Fact Term) → List ℕ → Type 0
IsCodedAnswer coded query facts row = (terms : List Term) × AreCodesOf coded.texts terms row × IsAnswerInto Const query (Contains facts) terms

-- The rows of codes are exactly those that stand for answers of the query over the facts, whichever these are.
abbrev pub AreCodedAnswers : Coded → ConjunctiveQuery → List (List ℕ) → Type 0
AreCodedAnswers coded query rows =
    (facts : List (Fact Term)) → StandFor coded facts → (row : List ℕ) → Contains rows row ↔ IsCodedAnswer coded query facts row
