-- Homomorphisms, and universal instances under rules. Source: universal solutions (Fagin, Kolaitis, Miller and Popa 2005).
use Rattle.std.specs.Prelude.{◌≡◌, List, map, Contains}
use Rattle.esto_term.specs.declared.term.Term.{Term}
use Rattle.esto_term.specs.declared.term.Term.TheVariants.{Const}
use Rattle.esto_semantics.specs.Facts.{Database}
use Rattle.esto_semantics.specs.Maps.{Keeps, Sends}
use Rattle.esto_semantics.specs.Queries.{ConjunctiveQuery}
use Rattle.esto_semantics.specs.Rules.{Rule, Meets, MeetsInto}
use Rattle.esto_semantics.specs.declared.fact.Value.{Value}
use Rattle.esto_semantics.specs.declared.fact.Value.TheVariants.{Text}

-- Some map of terms that keeps constants sends the one body into the other, and the one head, term by term, to the other.
abbrev pub MapsTo : ConjunctiveQuery → ConjunctiveQuery → Type 0
MapsTo query other = (m : Term → Term) × Keeps Const m × Sends m query.body other.body × (map m query.head ≡ other.head)

-- Each valuation that sends the start's body into a database which meets the rules is matched by one that sends the end's body into it and gives the end's head
-- what the first gave the start's head.
abbrev pub IsFollowed : List Rule → ConjunctiveQuery → ConjunctiveQuery → Type 0
IsFollowed rules start end =
    (database : Database) → Meets rules database → (m : Term → Value) → Keeps Text m → Sends m start.body database
    → (after : Term → Value) × Keeps Text after × Sends after end.body database × (map after end.head ≡ map m start.head)

-- The end is universal for the start under the rules: the start maps to it, and it is followed into every database that meets the rules. It is a universal
-- instance where it is finished too.
pub record IsUniversalFor (rules : List Rule) (start end : ConjunctiveQuery) : Type 0 where
  pub maps : MapsTo start end
  pub followed : IsFollowed rules start end

-- The end meets the rules itself, read over terms.
abbrev pub IsFinished : List Rule → ConjunctiveQuery → Type 0
IsFinished rules end = (rule : Rule) → Contains rules rule → MeetsInto Const ◌≡◌ (Contains end.body) rule
