-- What `contains` says of two queries.
use Rattle.std.specs.Prelude.{◌≡◌, ℕ, List, length, codes}
use Rattle.esto_mapping.specs.declared.catalogue.Catalogue.{Catalogue}
use Rattle.esto_constraint.specs.Constraints.{rules_of}
use Rattle.esto_contain.specs.Contained.{TellsContained}
use Rattle.esto_contain.specs.declared.containing.Contain.{Contain}
use Rattle.esto_contain.specs.declared.containing.Contain.TheVariants.{Yes, No}
use Rattle.esto_course.specs.Course.{Course, judges, demands, and_then}
use Rattle.esto_status.specs.declared.status.Status.{Status}
use Rattle.esto_status.specs.declared.status.Status.TheVariants.{HeadLengths}
use Rattle.esto_query.specs.Making.{query_of}
use Rattle.esto_query.specs.Schemas.{names_of}
use Rattle.esto_query.specs.declared.query.Name.{Name}
use Rattle.esto_query.specs.declared.query.Query.{Query}
use Rattle.esto_semantics.specs.declared.fact.Fact.{Fact}
use Rattle.esto_term.specs.declared.term.Term.{Term}
use Rattle.esto_views.specs.Renamed.{IsRenamedPlan}
use Rattle.esto_views.specs.Plans.{plan_query}
use Rattle.esto_views.specs.declared.plan.Plan.{Plan}
use Rattle.esto_reasoning.specs.Texts.{no_text}

-- The text is that of the facts and the row of a no, under new names.
abbrev pub IsNoText : List (List ℕ) → List Name → List (Fact Term) → List Term → List ℕ → Type 0
IsNoText relations names facts row text =
    (plan : Plan) × IsRenamedPlan names facts row plan × (text ≡ no_text relations plan.names plan.head (plan_query plan).body)

-- The text says what is told of the left query, whose names these are.
abbrev pub SaysTold : List (List ℕ) → List Name → Contain → List ℕ → Type 0
SaysTold relations names Yes text = text ≡ codes "yes\n"
SaysTold relations names (No facts row) text = IsNoText relations names facts row text

-- The heads of the two queries have one length; else HeadLengths.
abbrev pub have_one_length : Query → Query → Course Status (Unit {0})
have_one_length left right = demands (length left.head ≡ length right.head) (HeadLengths (length left.head) (length right.head))

-- It is told whether the left query is contained in the right one.
abbrev pub tells_contained : Catalogue → Query → Query → Course Status Contain
tells_contained catalogue left right = judges (TellsContained (rules_of catalogue.rules) (query_of left) (query_of right)) (λ _. ⊥)

-- The text of what is told is made.
abbrev pub prints_told : Catalogue → Query → Contain → Course Status (List ℕ)
prints_told catalogue left told = judges (SaysTold (names_of catalogue.schema) left.names told) (λ _. ⊥)

-- The heads have one length, and the text of what is told of the two queries is made.
abbrev pub compares : Catalogue → Query → Query → Course Status (List ℕ)
compares catalogue left right =
    and_then (have_one_length left right) (λ _.
    and_then (tells_contained catalogue left right) (prints_told catalogue left))
