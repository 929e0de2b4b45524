-- Views, and queries over fragments. Source: answering queries using views (Levy, Mendelzon, Sagiv and Srivastava 1995). A fragment holds the rows of the view
-- of its number, and an atom over fragments has that number as its relation.
use Rattle.std.specs.Prelude.{◌≡◌, List, Some, slice_get}
use Rattle.esto_semantics.specs.Facts.{Database}
use Rattle.esto_semantics.specs.Queries.{ConjunctiveQuery, IsAnswerInto, IsAnswer}
use Rattle.esto_semantics.specs.declared.fact.Fact.{Fact}
use Rattle.esto_semantics.specs.declared.fact.Value.{Value}
use Rattle.esto_semantics.specs.declared.fact.Value.TheVariants.{Text}

-- The fact is a row of a fragment: an answer of the fragment's view over the database.
abbrev pub IsViewRow : List ConjunctiveQuery → Database → Fact Value → Type 0
IsViewRow views database fact =
    (view : ConjunctiveQuery) × (slice_get views fact.relation ≡ Some view) × IsAnswer view database fact.terms

-- The row is an answer of a query over fragments at the database: its answer over the rows of the fragments.
abbrev pub IsFragmentAnswer : List ConjunctiveQuery → ConjunctiveQuery → Database → List Value → Type 0
IsFragmentAnswer views query database row = IsAnswerInto Text query (IsViewRow views database) row
