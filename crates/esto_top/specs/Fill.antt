-- The command `fill`.
use Rattle.std.specs.Prelude.{ℕ, List, Option}
use Rattle.esto_run.specs.Fragments.{Stored}
use Rattle.esto_course.specs.Course.{Course}
use Rattle.esto_ports.specs.Files.{Files}
use Rattle.esto_semantics.specs.declared.fact.Fact.{Fact}
use Rattle.esto_term.specs.declared.term.Term.{Term}
use Rattle.esto_status.specs.declared.reply.Reply.{Reply}
use Rattle.esto_status.specs.declared.status.Status.{Status}
use Rattle.esto_data.specs.Fill.{IsFilled, IsMade, gives_named}
use Rattle.esto_top.specs.Over.{over_catalogue}

-- The catalogue is fetched and read, and the text of the fragment's file is the reply.
abbrev pub gives_course : (Stored → List (Fact Term) → List ℕ → Type 0) → Option Files → List ℕ → List ℕ → Course Status Reply
gives_course Is files catalogue_name name = over_catalogue files catalogue_name (gives_named Is files name)

-- The catalogue is fetched and read, and a text that is made of the rows of the fragment's view is the reply. That such a text says these rows when it is read
-- is no step of the course, but follows of what is put.
abbrev pub make_course : Option Files → List ℕ → List ℕ → Course Status Reply
make_course files catalogue_name name = gives_course IsMade files catalogue_name name

-- The catalogue is fetched and read, and the fragment's file is filled.
abbrev pub fill_course : Option Files → List ℕ → List ℕ → Course Status Reply
fill_course files catalogue_name name = gives_course IsFilled files catalogue_name name
