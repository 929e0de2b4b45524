use Rattle.std.proofs.Common.{◌++◌, take, length, Contains}
use Rattle.esto_term.specs.declared.term.Term.{Term}
use Rattle.esto_semantics.specs.Facts.{image, terms_of}
use Rattle.esto_semantics.specs.declared.fact.Fact.{Fact}
use Rattle.esto_constraint.specs.Constraints.{rules_of}
use Rattle.esto_chase_laws.specs.WorldMatches.{taken}
use Rattle.esto_chase_laws.specs.Making.{extended}
use Rattle.esto_chase_laws.specs.declared.entry.Claim.TheVariants.{Fact as Stated}
use Rattle.esto_condchase.specs.Rounds.{AsksMore}
use Rattle.esto_known.specs.Added.{IsThere}
use Rattle.esto_condchase.proofs.rounds.answer_head.Given as goal

abbrev pub invariant-head : goal.invariant-head
invariant-head l = record {
  grows : AsksMore (rules_of l.rules) (length l.way.product) l.entries l.fn.more l.more;
  there : (atom : Fact Term) → Contains (take l.atom-index l.atom-items) atom
      → IsThere (l.entries ++ l.more) (Stated (image (extended l.number l.rule.body l.rule.head (taken (terms_of l.rule.body) l.way.to)) atom)) l.way.product;
}
