-- The course of `list` asks for nothing, and of more queries than one it is that of their union.
use Rattle.std.proofs.Common.{◌≡◌, ℕ, List, [], ◌∷◌, length, Result, refl}
use Rattle.esto_mapping.specs.declared.catalogue.Catalogue.{Catalogue}
use Rattle.esto_course.specs.Course.{IsQuiet, gives}
use Rattle.esto_course.proofs.Asking.{quiet_gives, quiet_judges, quiet_then}
use Rattle.esto_query.specs.declared.query.Query.{Query}
use Rattle.esto_status.specs.Answers.{Answers}
use Rattle.esto_rewriting.specs.Planning.{plans_query}
use Rattle.esto_rewriting.specs.List.{lists_union, makes_members, prints_members}
use Rattle.esto_top.specs.List.{lists_queries, prints_list, prints_queries}
use Rattle.esto_status.specs.declared.reply.Reply.TheVariants.{Done}
use Rattle.esto_status.specs.declared.status.Status.{Status}

-- the list of queries asks for nothing
lists_quiet : (catalogue : Catalogue) (queries : List Query) → IsQuiet (lists_queries catalogue queries)
lists_quiet catalogue [] = quiet_then (makes_members catalogue []) (prints_members catalogue) (quiet_judges _ _) (λ members. quiet_judges _ _)
lists_quiet catalogue (query ∷ []) =
    quiet_then (plans_query catalogue query) (prints_list catalogue query) (quiet_judges _ _) (λ plan. quiet_judges _ _)
lists_quiet catalogue (query ∷ next ∷ queries) =
    quiet_then (makes_members catalogue (query ∷ next ∷ queries)) (prints_members catalogue) (quiet_judges _ _) (λ members. quiet_judges _ _)

-- nor does its text
pub prints_quiet : (catalogue : Catalogue) (queries : List Query) → IsQuiet (prints_queries catalogue queries)
prints_quiet catalogue queries =
    quiet_then (lists_queries catalogue queries) (λ text. gives (Done text)) (lists_quiet catalogue queries) (λ text. quiet_gives _ _)

-- two or more queries are listed as a union
pub more_listed : (catalogue : Catalogue) (queries : List Query) (result : Result (List ℕ) Status) → (length queries ≡ 1 → ⊥)
    → Answers (lists_union catalogue queries) ⊥ result → Answers (lists_queries catalogue queries) ⊥ result
more_listed catalogue [] result several answers = answers
more_listed catalogue (query ∷ []) result several answers = absurd (several refl)
more_listed catalogue (query ∷ next ∷ queries) result several answers = answers
