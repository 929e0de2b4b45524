-- For private clauses: codes of a rule's active matches.
use Rattle.std.specs.Prelude.{◌≡◌, ℕ, List, nat_eq, Contains, IsTrue}
use Rattle.std.specs.Set.{is_member}
use Rattle.esto_term.specs.declared.term.Term.{Term}
use Rattle.esto_term.specs.declared.term.Term.TheVariants.{Const}
use Rattle.esto_semantics.specs.Facts.{Mentions}
use Rattle.esto_semantics.specs.Maps.{Keeps, Sends}
use Rattle.esto_semantics.specs.Rules.{Rule, Concludes, body_of}
use Rattle.esto_semantics.specs.declared.fact.Fact.{Fact}
use Rattle.esto_coded.specs.Coded.{Coded, IsCodeOf, StandFor}

-- The codes have those of all that an active match of the rule makes of terms of its body, whichever facts the rows stand for.
abbrev pub HaveActive : Coded → Rule → List ℕ → Type 0
HaveActive coded rule codes =
    (facts : List (Fact Term)) → StandFor coded facts → (m : Term → Term) → Keeps Const m → Sends m (body_of rule) facts
    → ¬ (Concludes Const ◌≡◌ (Contains facts) rule m) → (term : Term) → Mentions (body_of rule) term → (code : ℕ) → IsCodeOf coded.texts (m term) code
    → IsTrue (is_member nat_eq codes code)
