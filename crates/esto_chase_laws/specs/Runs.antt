-- Runs of the standard chase. A state is a query: the facts are its body, and its head goes along. Source: the chase of Fagin, Kolaitis, Miller and Popa
-- (2005), with a stated order of rules and matches.
use Rattle.std.specs.Prelude.{◌≡◌, ◌⊎◌, ℕ, ◌<◌, List, [], ◌∷◌, ◌++◌, map, Option, None, Some, slice_get, Contains}
use Rattle.std.specs.declared.cmp.Ordering.TheVariants.{Less}
use Rattle.esto_term.specs.Order.{term_cmp, replaced}
use Rattle.esto_term.specs.declared.term.Term.{Term}
use Rattle.esto_term.specs.declared.term.Term.TheVariants.{Const}
use Rattle.esto_semantics.specs.Facts.{image}
use Rattle.esto_semantics.specs.Instances.{IsFinished}
use Rattle.esto_semantics.specs.Maps.{AreFlat, IsConstant, IsFlat}
use Rattle.esto_semantics.specs.Matches.{IsActive, IsAtMost}
use Rattle.esto_semantics.specs.Queries.{ConjunctiveQuery}
use Rattle.esto_semantics.specs.Rules.{Rule, tuple, equality, denial}
use Rattle.esto_semantics.specs.declared.fact.Fact.{Fact}
use Rattle.esto_chase_laws.specs.Joined.{joined}
use Rattle.esto_chase_laws.specs.Making.{made_facts}
use Rattle.esto_chase_laws.specs.declared.clash.Clash.{Clash}
use Rattle.esto_chase_laws.specs.declared.clash.Clash.TheVariants.{Equal, Denied}

-- ---- the start

-- The start of a query's run: each atom of its body once, where it stands first, and its head.
abbrev pub start_of : ConjunctiveQuery → ConjunctiveQuery
start_of query = record { head = query.head; body = joined [] query.body }

-- A start has no made term.
pub record IsStart (start : ConjunctiveQuery) : Type 0 where
  pub flat_body : AreFlat start.body
  pub flat_head : (term : Term) → Contains start.head term → IsFlat term

-- ---- the match that is next

-- Equality rules come first, then denials, then tuple rules.
abbrev pub kind_of : Rule → ℕ
kind_of (equality _ _ _) = 0
kind_of (denial _) = 1
kind_of (tuple _ _) = 2

-- The one rule, of that number, is tried before the other: by kind, and then by number.
abbrev pub IsTriedBefore : Rule → ℕ → Rule → ℕ → Type 0
IsTriedBefore one number other other_number =
    (kind_of one < kind_of other) ⊎ ((kind_of one ≡ kind_of other) × (number < other_number))

-- The match that is next: no rule that is tried before this one has an active match, and no active match of this rule comes before it.
pub record IsNext (rules : List Rule) (facts : List (Fact Term)) (number : ℕ) (rule : Rule) (m : Term → Term) (places : List ℕ) : Type 0 where
  pub there : slice_get rules number ≡ Some rule
  pub active : IsActive rule facts m places
  pub first : (other_number : ℕ) (other : Rule) → slice_get rules other_number ≡ Some other → IsTriedBefore other other_number rule number
      → (other_map : Term → Term) (others : List ℕ) → ¬ (IsActive other facts other_map others)
  pub least : (other_map : Term → Term) (others : List ℕ) → IsActive rule facts other_map others → IsAtMost places others

-- ---- the steps

-- The facts with the one term in place of the other, each fact once, where it stands first.
abbrev pub replaced_facts : Term → Term → List (Fact Term) → List (Fact Term)
replaced_facts from to facts = joined [] (map (image (replaced from to)) facts)

-- A tuple rule's step, at the match that is next, appends those of the facts that the rule makes that are not there.
pub record IsAdded (rules : List Rule) (now next : ConjunctiveQuery) (number : ℕ) (m : Term → Term) (places : List ℕ) : Type 0 where
  pub body : List (Fact Term)
  pub head : List (Fact Term)
  pub is_next : IsNext rules now.body number (tuple body head) m places
  pub facts : next.body ≡ joined now.body (made_facts number body head m)
  pub kept_head : next.head ≡ now.head

-- The map gives the two sides these two terms, in the one order or in the other.
abbrev pub AreSides : (Term → Term) → Term → Term → Term → Term → Type 0
AreSides m left right one other = ((m left ≡ one) × (m right ≡ other)) ⊎ ((m left ≡ other) × (m right ≡ one))

-- An equality rule's step, at the match that is next, puts the lesser of the two terms in place of the greater, which is no constant, in the facts and in the
-- head.
pub record IsMerged (rules : List Rule) (now next : ConjunctiveQuery) (number : ℕ) (m : Term → Term) (places : List ℕ) (from to : Term) : Type 0 where
  pub body : List (Fact Term)
  pub left : Term
  pub right : Term
  pub is_next : IsNext rules now.body number (equality body left right) m places
  pub sides : AreSides m left right to from
  pub lesser : term_cmp to from ≡ Less
  pub no_constant : ¬ (IsConstant from)
  pub facts : next.body ≡ replaced_facts from to now.body
  pub replaced_head : next.head ≡ map (replaced from to) now.head

-- A step has the rule's number, the map and the places of its match; a merge says also which term went, and to which.
pub data Step : Type 0 where
  added : (number : ℕ) → (m : Term → Term) → (places : List ℕ) → Step
  merged : (number : ℕ) → (m : Term → Term) → (places : List ℕ) → (from to : Term) → Step

-- The step leads from the one state to the next.
abbrev pub IsStep : List Rule → ConjunctiveQuery → Step → ConjunctiveQuery → Type 0
IsStep rules now (added number m places) next = IsAdded rules now next number m places
IsStep rules now (merged number m places from to) next = IsMerged rules now next number m places from to

-- The steps lead from the start to the state.
pub data IsRun (rules : List Rule) (start : ConjunctiveQuery) : List Step → ConjunctiveQuery → Type 0 where
  begun : IsRun rules start [] start
  went : (trace : List Step) (now : ConjunctiveQuery) (step : Step) (next : ConjunctiveQuery)
      → IsRun rules start trace now → IsStep rules now step next → IsRun rules start (trace ++ step ∷ []) next

-- ---- the end

-- The match that is next wants two different constants to be one; they are given in rising order.
pub record IsClashed (rules : List Rule) (now : ConjunctiveQuery) (one other : List ℕ) : Type 0 where
  pub number : ℕ
  pub body : List (Fact Term)
  pub left : Term
  pub right : Term
  pub m : Term → Term
  pub places : List ℕ
  pub is_next : IsNext rules now.body number (equality body left right) m places
  pub sides : AreSides m left right (Const one) (Const other)
  pub lesser : term_cmp (Const one) (Const other) ≡ Less

-- The match that is next is that of a denial, which has this number.
pub record IsDenied (rules : List Rule) (now : ConjunctiveQuery) (number : ℕ) : Type 0 where
  pub body : List (Fact Term)
  pub m : Term → Term
  pub places : List ℕ
  pub is_next : IsNext rules now.body number (denial body) m places

-- The state has clashed, at two constants or at a denial.
abbrev pub HasClashed : List Rule → ConjunctiveQuery → Clash → Type 0
HasClashed rules now (Equal one other) = IsClashed rules now one other
HasClashed rules now (Denied number) = IsDenied rules now number

-- The run goes no further: the state's facts, read over terms, meet the rules, or the state has clashed.
abbrev pub IsEnd : List Rule → ConjunctiveQuery → Type 0
IsEnd rules now = IsFinished rules now ⊎ ((clash : Clash) × HasClashed rules now clash)

-- ---- what a trace says

-- Where the merges of the steps take a term.
abbrev pub moved_by : List Step → Term → Term
moved_by [] term = term
moved_by (added _ _ _ ∷ steps) term = moved_by steps term
moved_by (merged _ _ _ from to ∷ steps) term = moved_by steps (replaced from to term)

-- The rule's number and the places of a step.
abbrev pub move_of : Step → ℕ × List ℕ
move_of (added number _ places) = (number, places)
move_of (merged number _ places _ _) = (number, places)

-- The rules' numbers and the places of the steps, in order.
abbrev pub moves_of : List Step → List (ℕ × List ℕ)
moves_of steps = map move_of steps

-- The term that went in a step, and the one that it went to; a tuple rule's step has none.
abbrev pub merge_of : Step → Option (Term × Term)
merge_of (added _ _ _) = None
merge_of (merged _ _ _ from to) = Some (from, to)

-- The terms of the merges, step by step, in order.
abbrev pub merges_of : List Step → List (Option (Term × Term))
merges_of steps = map merge_of steps
