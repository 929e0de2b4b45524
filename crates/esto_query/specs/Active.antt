-- Rules as a search sees them, and whether an active match is there.
use Rattle.std.specs.Prelude.{◌≡◌, ◌⊎◌, ◌↔◌, ℕ, Bool, true, false, List, [], ◌∷◌, ◌++◌, IsSome, Contains, ⊤}
use Rattle.std.specs.FinMap.{get}
use Rattle.esto_term.specs.declared.term.Term.{Term}
use Rattle.esto_term.specs.declared.term.Term.TheVariants.{Const, Plain}
use Rattle.esto_semantics.specs.Facts.{Mentions}
use Rattle.esto_semantics.specs.Maps.{AreFlat, Keeps, Sends}
use Rattle.esto_semantics.specs.Rules.{Rule, tuple, equality, denial, Concludes}
use Rattle.esto_semantics.specs.declared.fact.Fact.{Fact}
use Rattle.esto_semantics.specs.Matches.{IsMatch, IsAtMost}
use Rattle.esto_query.specs.Rows.{AreKnown}
use Rattle.esto_query.specs.Trails.{with_trail}
use Rattle.esto_semantics.specs.Valuations.{Assignment, Extends}
use Rattle.esto_query.specs.declared.active.Conclusion.{Conclusion}
use Rattle.esto_query.specs.declared.active.Conclusion.TheVariants.{Extends as ExtendsTo, Equals, Never}
use Rattle.esto_query.specs.declared.active.LentRule.{LentRule}
use Rattle.esto_query.specs.declared.trail.Binding.{Binding}

-- The rule of this body and conclusion.
abbrev pub concluding : List (Fact Term) → Conclusion → Rule
concluding body (ExtendsTo head) = tuple body head.now
concluding body (Equals left right) = equality body left.now right.now
concluding body Never = denial body

-- The rule that is lent.
abbrev pub rule_of : LentRule → Rule
rule_of rule = concluding rule.body.now rule.conclusion

-- Under a map that sends the rule's body to facts, read over terms, the rule's conclusion is so.
abbrev pub Holds : List (Fact Term) → Rule → (Term → Term) → Type 0
Holds facts rule m = Concludes Const ◌≡◌ (Contains facts) rule m

-- The valuation has a term for each variable of the body, and for no other variable.
abbrev pub IsOver : List (Fact Term) → Assignment → Type 0
IsOver body valuation = (variable : ℕ) → IsSome (get valuation variable) ↔ Mentions body (Plain variable)

-- The variables that have a term at the start, and those of the atoms, are together the variables of the whole body.
abbrev pub Completes : Assignment → List (Fact Term) → List (Fact Term) → Type 0
Completes start atoms whole = (variable : ℕ) → (IsSome (get start variable) ⊎ Mentions atoms (Plain variable)) ↔ Mentions whole (Plain variable)

-- The answer tells that no map which extends the valuation has the property, or that each has it.
abbrev pub Tells : Assignment → ((Term → Term) → Type 0) → Bool → Type 0
Tells valuation Property true = (m : Term → Term) → Keeps Const m → Extends m valuation → ¬ (Property m)
Tells valuation Property false = (m : Term → Term) → Keeps Const m → Extends m valuation → Property m

-- Once the atoms have their facts, the known valuation has a term for each variable that the conclusion hangs on: where it is that the match extends to a
-- head, for exactly those of the body.
abbrev pub IsConcluded : List (Fact Term) → Conclusion → List (Fact Term) → Assignment → Type 0
IsConcluded body (ExtendsTo head) atoms known = AreFlat body × AreFlat head.now × Completes known atoms body
IsConcluded body (Equals left right) atoms known = AreKnown (left.now ∷ right.now ∷ []) atoms known
IsConcluded body Never atoms known = ⊤

-- The same of the rule that is lent.
abbrev pub IsAimed : LentRule → List (Fact Term) → Assignment → Type 0
IsAimed rule atoms known = IsConcluded rule.body.now rule.conclusion atoms known

-- Under each map that extends the start and sends the atoms to facts the rule holds.
abbrev pub NoneIsActive : List (Fact Term) → Rule → Assignment → List (Fact Term) → Type 0
NoneIsActive facts rule start atoms = (m : Term → Term) → Keeps Const m → Extends m start → Sends m atoms facts → Holds facts rule m

-- Whether there is a map that extends the start and sends the atoms to facts, under which the rule does not hold.
abbrev pub DecidesActive : List (Fact Term) → Rule → Assignment → List (Fact Term) → Bool → Type 0
DecidesActive facts rule start atoms true = (m : Term → Term) × Keeps Const m × Extends m start × Sends m atoms facts × ¬ (Holds facts rule m)
DecidesActive facts rule start atoms false = NoneIsActive facts rule start atoms

-- The valuation and the places are those of a match of the atoms that extends the start, under which the rule does not hold, and no such match comes before it.
pub record IsLeastActiveFrom (facts : List (Fact Term)) (rule : Rule) (start : Assignment) (atoms : List (Fact Term)) (valuation : Assignment)
    (places : List ℕ) : Type 0 where
  pub exact : (m : Term → Term) → Keeps Const m → Extends m valuation ↔ (Extends m start × IsMatch m atoms facts places)
  pub active : (m : Term → Term) → Keeps Const m → Extends m valuation → ¬ (Holds facts rule m)
  pub least : (m : Term → Term) (others : List ℕ) → Keeps Const m → Extends m start → IsMatch m atoms facts others → ¬ (Holds facts rule m)
      → IsAtMost places others

-- The search found the least active match of the atoms, and trail and places grew by it; or none is active, and they are as before.
abbrev pub FindsLeast : List (Fact Term) → Rule → Assignment → List (Fact Term) → List Binding → List Binding → List ℕ → List ℕ → Bool → Type 0
FindsLeast facts rule start atoms old new places_old places_new true =
    (places : List ℕ) × (places_new ≡ places_old ++ places)
    × IsLeastActiveFrom facts rule (with_trail start old) atoms (with_trail start new) places
FindsLeast facts rule start atoms old new places_old places_new false =
    (new ≡ old) × (places_new ≡ places_old) × NoneIsActive facts rule (with_trail start old) atoms
