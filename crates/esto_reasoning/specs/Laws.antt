-- What laws on the texts of the commands on queries say.
use Rattle.std.specs.Prelude.{◌≡◌}
use Rattle.esto_mapping.specs.Catalogues.{AreSame}
use Rattle.esto_mapping.specs.declared.catalogue.Catalogue.{Catalogue}
use Rattle.esto_status.specs.Calm.{AgreeCalmly}
use Rattle.esto_query.specs.Making.{query_of}
use Rattle.esto_query.specs.declared.query.Query.{Query}
use Rattle.esto_reasoning.specs.Contains.{compares}
use Rattle.esto_reasoning.specs.Minimise.{minimises}

-- ---- one text

-- Over catalogues that say the same, what is told of the same two queries has one text, or one refusal.
abbrev pub ComparedAlike : Type 0
ComparedAlike =
    (catalogue other : Catalogue) (left same_left right same_right : Query) → AreSame catalogue other
    → query_of left ≡ query_of same_left → left.names ≡ same_left.names → query_of right ≡ query_of same_right
    → AgreeCalmly ◌≡◌ (compares catalogue left right) (compares other same_left same_right)

-- And what the same query is minimised to has one text, or one refusal.
abbrev pub MinimisedAlike : Type 0
MinimisedAlike =
    (catalogue other : Catalogue) (query same : Query) → AreSame catalogue other
    → query_of query ≡ query_of same → query.names ≡ same.names
    → AgreeCalmly ◌≡◌ (minimises catalogue query) (minimises other same)
