-- The command `check`.
use Rattle.std.specs.Prelude.{ℕ, List, [], ◌∷◌, ◌++◌, length, Option, codes}
use Rattle.std.specs.Fmt.{decimal}
use Rattle.esto_mapping.specs.declared.catalogue.Catalogue.{Catalogue}
use Rattle.esto_ports.specs.Files.{Files}
use Rattle.esto_query.specs.Schemas.{names_of}
use Rattle.esto_course.specs.Course.{Course, gives}
use Rattle.esto_status.specs.declared.reply.Reply.{Reply}
use Rattle.esto_status.specs.declared.reply.Reply.TheVariants.{Done}
use Rattle.esto_status.specs.declared.status.Status.{Status}
use Rattle.esto_top.specs.Over.{over_catalogue}

-- The line of a relation and its rank.
abbrev pub rank_line : List ℕ → ℕ → List ℕ
rank_line name rank = name ++ (codes " " ++ (decimal rank ++ codes "\n"))

-- The lines of relations and their ranks, in order.
abbrev pub rank_lines : List (List ℕ) → List ℕ → List ℕ
rank_lines [] ranks = []
rank_lines (name ∷ names) [] = []
rank_lines (name ∷ names) (rank ∷ ranks) = rank_line name rank ++ rank_lines names ranks

-- The lines that count datasets, fragments and constraints.
abbrev pub count_lines : ℕ → ℕ → ℕ → List ℕ
count_lines datasets fragments constraints =
    codes "datasets " ++ (decimal datasets ++ (codes "\nfragments " ++ (decimal fragments ++ (codes "\nconstraints " ++ (decimal constraints ++ codes "\n")))))

-- The text of `check`: how many datasets, fragments and constraints of its own the catalogue has, and the rank of each relation.
abbrev pub check_text : Catalogue → List ℕ
check_text catalogue =
    count_lines (length catalogue.datasets) (length catalogue.fragments) catalogue.given ++ rank_lines (names_of catalogue.schema) catalogue.ranks

-- The text of the catalogue is the reply.
abbrev pub prints_check : Catalogue → Course Status Reply
prints_check catalogue = gives (Done (check_text catalogue))

-- The catalogue is fetched and read, and its text is the reply.
abbrev pub check_course : Option Files → List ℕ → Course Status Reply
check_course files name = over_catalogue files name prints_check
