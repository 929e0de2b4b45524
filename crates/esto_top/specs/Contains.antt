-- The command `contains`.
use Rattle.std.specs.Prelude.{ℕ, List, Option}
use Rattle.esto_course.specs.Course.{Course, and_then}
use Rattle.esto_mapping.specs.declared.catalogue.Catalogue.{Catalogue}
use Rattle.esto_opening.specs.Opening.{opens_query}
use Rattle.esto_ports.specs.Files.{Files}
use Rattle.esto_reasoning.specs.Contains.{compares}
use Rattle.esto_status.specs.declared.reply.Reply.{Reply}
use Rattle.esto_status.specs.declared.status.Status.{Status}
use Rattle.esto_top.specs.Over.{over_catalogue, over_query}

-- The left query is fetched and read, then the right one, and the text of what is told of them is the reply.
abbrev pub compares_both : Option Files → List ℕ → List ℕ → Catalogue → Course Status Reply
compares_both files left_name right_name catalogue =
    and_then (opens_query files left_name catalogue) (λ left. over_query files right_name catalogue (compares catalogue left))

-- The catalogue is fetched and read, then the left query, then the right one, and the text of what is told of them is the reply.
abbrev pub contains_course : Option Files → List ℕ → List ℕ → List ℕ → Course Status Reply
contains_course files catalogue_name left_name right_name = over_catalogue files catalogue_name (compares_both files left_name right_name)
