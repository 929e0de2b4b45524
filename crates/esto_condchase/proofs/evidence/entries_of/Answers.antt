use Rattle.std.proofs.Common.{◌<◌, sym, subst}
use Rattle.esto_chase_laws.specs.Worlds.{AreOfCount}
use Rattle.esto_condchase.proofs.evidence.entries_of.Goals as goal

pub chase_with_products-requires-clause-atoms : goal.chase_with_products-requires-clause-atoms
chase_with_products-requires-clause-atoms c = λ fact inside.
    subst (λ count. fact.atom < count) (sym c.len.ensures) ((c.in_ok-expanded.ensures.expands.exact fact).0 inside).0

pub returns-clause-entries : goal.returns-clause-entries
returns-clause-entries c = (
  c.in_ok-expanded.expanded,
  c.in_ok-expanded.ensures.exact,
  c.in_ok-expanded.ensures.expands,
  record {
    counted = subst (λ count. AreOfCount count c.in_ok-entries.entries) c.len.ensures c.in_ok-entries.ensures.counted;
    given = c.in_ok-entries.ensures.given;
    closed = c.in_ok-entries.ensures.closed;
    sound = c.in_ok-entries.ensures.sound;
    database = c.in_ok-entries.ensures.database;
    nowhere = c.in_ok-entries.ensures.nowhere;
    bounded = c.in_ok-entries.ensures.bounded;
    derived = c.in_ok-entries.ensures.derived;
  },
)
