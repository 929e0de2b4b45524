-- For private clauses: whether facts meet a rule, and what stays meanwhile.
use Rattle.std.specs.Prelude.{◌≡◌, ◌↔◌, Bool, List, IsTrue}
use Rattle.esto_term.specs.declared.term.Term.{Term}
use Rattle.esto_columns.specs.Interned.{Grows}
use Rattle.esto_semantics.specs.Rules.{Rule, IsMet}
use Rattle.esto_semantics.specs.declared.fact.Fact.{Fact}
use Rattle.esto_coded.specs.Coded.{Coded, StandFor, StandInOrder, arities_of}
use Rattle.esto_coded.specs.Parted.{GivesPart}
use Rattle.esto_coded.specs.Verdict.{Tells, given_part}
use Rattle.esto_coded.specs.declared.verdict.Verdict.{Verdict}

-- The new one has as many columns in each relation as the old one, it stands for all facts for which that does, in order where that does so, and perhaps
-- more texts have codes.
pub record StaysFor (old new : Coded) : Type 0 where
  pub arities : arities_of new ≡ arities_of old
  pub facts : (facts : List (Fact Term)) → StandFor old facts → StandFor new facts
  pub ordered : (facts : List (Fact Term)) → StandInOrder old facts → StandInOrder new facts
  pub grown : Grows old.texts new.texts

-- The answer is whether the facts for which the rows stand meet the rule, whichever these are.
abbrev pub AnswersWhether : Coded → Rule → Bool → Type 0
AnswersWhether coded rule answer = (facts : List (Fact Term)) → StandFor coded facts → IsTrue answer ↔ IsMet facts rule

-- The verdict tells whether the facts for which the rows stand meet the rule, whichever these are, and the part that comes with it, if one does, is a part
-- of them for the rule.
pub record Judges (coded : Coded) (rule : Rule) (verdict : Verdict) : Type 0 where
  pub met : (facts : List (Fact Term)) → StandFor coded facts → Tells verdict (IsMet facts rule)
  pub part : GivesPart coded rule (given_part verdict)
