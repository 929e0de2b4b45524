-- Queries and plans under new names.
use Rattle.std.specs.Prelude.{◌≡◌, List, map}
use Rattle.esto_term.specs.declared.term.Term.{Term}
use Rattle.esto_semantics.specs.Facts.{image}
use Rattle.esto_semantics.specs.Queries.{ConjunctiveQuery}
use Rattle.esto_semantics.specs.declared.fact.Fact.{Fact}
use Rattle.esto_semantics.specs.Cores.{with_head}
use Rattle.esto_query.specs.declared.query.Name.{Name}
use Rattle.esto_views.specs.Plans.{plan_query}
use Rattle.esto_views.specs.declared.plan.Plan.{Plan}
use Rattle.esto_views.specs.Reading.{terms_read, AreFirstOccurrences}
use Rattle.esto_views.specs.Renamings.{IsRenaming, name_of}

-- The new query is the old one under new names: each term that is no constant is renamed to a variable by its first occurrence, reading the body and then the
-- head, and has its name.
pub record IsRenamed (names : List Name) (old new : ConjunctiveQuery) (new_names : List Name) : Type 0 where
  pub seen : List Term
  pub are_seen : AreFirstOccurrences (terms_read old.body old.head) seen
  pub renaming : Term → Term
  pub is_renaming : IsRenaming seen renaming
  pub atoms : new.body ≡ map (image renaming) old.body
  pub head : new.head ≡ map renaming old.head
  pub names_are : new_names ≡ map (name_of names) seen

-- The plan is that of the rows and the head under new names.
abbrev pub IsRenamedPlan : List Name → List (Fact Term) → List Term → Plan → Type 0
IsRenamedPlan names rows head plan = IsRenamed names (with_head head rows) (plan_query plan) plan.names
