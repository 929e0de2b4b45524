use Rattle.std.proofs.Common.{take, List, Contains}
use Rattle.esto_semantics.specs.Rules.{Rule}
use Rattle.esto_chase_laws.specs.Worlds.{AreOfCount}
use Rattle.esto_chase_laws.specs.declared.entry.Entry.{Entry}
use Rattle.esto_known.specs.Added.{IsFollowing, IsGrownIn}
use Rattle.esto_known.proofs.covering.add_in.Given as goal

abbrev pub invariant-turns : goal.invariant-turns
invariant-turns l = record {
  counted : AreOfCount l.count l.entries;
  grown : (rules : List Rule) → ((entry : Entry) → Contains l.asked entry → IsFollowing rules l.count l.initial.entries entry)
      → IsGrownIn rules l.initial.entries l.asked (take l.turn-index l.turns) l.entries;
}
