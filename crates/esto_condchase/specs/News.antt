-- What is new since a round: the entries from a place on.
use Rattle.std.specs.Prelude.{◌⊎◌, ℕ, Bool, List, take, Contains}
use Rattle.esto_constraint.specs.Relations.{HasRelation}
use Rattle.esto_term.specs.declared.term.Term.{Term}
use Rattle.esto_semantics.specs.Facts.{terms_of}
use Rattle.esto_term.specs.Sets.{Within}
use Rattle.esto_semantics.specs.declared.fact.Fact.{Fact}
use Rattle.esto_chase_laws.specs.WorldMatches.{IsDirectMatch}
use Rattle.esto_chase_laws.specs.Worlds.{InWorld}
use Rattle.esto_chase_laws.specs.declared.entry.Claim.{Claim}
use Rattle.esto_chase_laws.specs.declared.entry.Claim.TheVariants.{Fact as Stated, Same}
use Rattle.esto_chase_laws.specs.declared.entry.Entry.{Entry}
use Rattle.esto_condchase.specs.Ways.{AgreeOn, IsFound, MeetOne}
use Rattle.esto_known.specs.declared.way.Way.{Way}

-- No match of the body uses the claim: it is a fact of a relation that no atom of the body has.
abbrev pub IsApart : Claim → List (Fact Term) → Type 0
IsApart (Stated fact) body = ¬ (HasRelation body fact.relation)
IsApart (Same left right) body = ⊥

-- In each world each direct match of the body among the entries is one among the first few of them.
abbrev pub IsSettled : List Entry → ℕ → List (Fact Term) → Type 0
IsSettled entries since body =
    (atoms : List Bool) (chosen : List (Fact Term)) → IsDirectMatch (InWorld entries atoms) body chosen
    → IsDirectMatch (InWorld (take since entries) atoms) body chosen

-- Some match of the body among the first few entries meets what these terms tell of the live ones.
abbrev pub IsOlder : List Entry → ℕ → List (Fact Term) → List Term → List Bool → List Term → Type 0
IsOlder entries since body live atoms terms =
    (chosen : List (Fact Term)) × AgreeOn live (terms_of body) (terms_of chosen) terms × IsDirectMatch (InWorld (take since entries) atoms) body chosen

-- The ways are direct matches of the body, and in each world each direct match agrees on the live terms with one of them, or with a direct match among the
-- first few entries, or the two sides meet terms that are one already.
pub record AreFoundAnew (entries : List Entry) (since : ℕ) (body : List (Fact Term)) (live sides : List Term) (ways : List Way) : Type 0 where
  pub sound : (way : Way) → Contains ways way → IsFound entries body way
  pub complete : (atoms : List Bool) (chosen : List (Fact Term)) → IsDirectMatch (InWorld entries atoms) body chosen
      → IsOlder entries since body live atoms (terms_of chosen)
      ⊎ (((way : Way) × Contains ways way × AgreeOn live (terms_of body) way.to (terms_of chosen) × Within way.product atoms)
      ⊎ MeetOne entries sides (terms_of body) (terms_of chosen) atoms)
