-- What a run says of the databases that meet the rules.
use Rattle.std.specs.Prelude.{◌≡◌, List, map, Contains}
use Rattle.esto_term.specs.declared.term.Term.{Term}
use Rattle.esto_semantics.specs.Facts.{Database}
use Rattle.esto_semantics.specs.Followed.{IsFollowedInto}
use Rattle.esto_semantics.specs.Maps.{Sends, Keeps}
use Rattle.esto_semantics.specs.Queries.{ConjunctiveQuery}
use Rattle.esto_semantics.specs.Rules.{Rule, Meets}
use Rattle.esto_semantics.specs.declared.fact.Value.{Value}
use Rattle.esto_semantics.specs.declared.fact.Value.TheVariants.{Text}

-- The given valuation of the start's facts is followed into the database by the later facts, where each term is one with what it went to; and what follows
-- gives the later head what the given one gives the start's head.
pub record IsReceived (start now : ConjunctiveQuery) (went : Term → Term) (given : Term → Value) (database : Database) : Type 0 where
  pub into : IsFollowedInto start.body (Contains now.body) (λ term other. went term ≡ other) given database
  pub heads : map into.after now.head ≡ map given start.head

-- Each database that meets the rules receives the later state so, from every valuation that sends the start's facts into it.
abbrev pub IsReceivedBy : List Rule → ConjunctiveQuery → ConjunctiveQuery → (Term → Term) → Type 0
IsReceivedBy rules start now went =
    (database : Database) → Meets rules database → (m : Term → Value) → Keeps Text m → Sends m start.body database
    → IsReceived start now went m database
