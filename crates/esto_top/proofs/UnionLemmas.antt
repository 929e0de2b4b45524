-- What `list` answers to a union of two or more queries where nothing is wrong with the files.
use Rattle.std.proofs.Common.{◌<◌, ℕ, List, [], ◌∷◌, length, Some, subst, arith}
use Rattle.esto_mapping.specs.Catalogues.{AreSame}
use Rattle.esto_mapping.specs.declared.catalogue.Catalogue.{Catalogue}
use Rattle.esto_rewriting.specs.Exact.{ListsUnionExactly}
use Rattle.esto_rewriting.specs.UnionLaws.{UnionListsAreExact, UnionListsAreMoved}
use Rattle.esto_query.specs.Same.{AreSameQueries}
use Rattle.esto_status.specs.Calm.{Leads}
use Rattle.esto_status.specs.Line.{line_of}
use Rattle.esto_status.specs.declared.status.Status.TheVariants.{Done}
use Rattle.esto_query.specs.declared.query.Query.{Query}
use Rattle.esto_top.specs.Grammar.{course_of}
use Rattle.esto_top.specs.List.{list_course, lists_queries}
use Rattle.esto_top.specs.Outcome.{Says}
use Rattle.esto_top.specs.Unions.{OutcomesAreUnionLists}
use Rattle.esto_top.proofs.DataLemmas.{says_fact}
use Rattle.esto_top.proofs.HeadlineLemmas.{list_says}
use Rattle.esto_top.specs.Laws.{OpeningLaws}
use Rattle.esto_top.proofs.SayLemmas.{catalogue_opens, union_opens}

-- two or more queries are listed as a union, over each catalogue that says the same
union_told : UnionListsAreExact → UnionListsAreMoved → (catalogue : Catalogue) (queries : List Query) → 1 < length queries → (other : Catalogue)
    → AreSame catalogue other → (read : List Query) → AreSameQueries queries read
    → Leads (lists_queries other read) (ListsUnionExactly catalogue queries Done) (λ said. ListsUnionExactly catalogue queries said (line_of said))
union_told exact moved catalogue [] more other alike read same = absurd (omega (arith, more))
union_told exact moved catalogue (query ∷ []) more other alike read same = absurd (omega (arith, more))
union_told exact moved catalogue (query ∷ next ∷ queries) more other alike [] same = absurd same
union_told exact moved catalogue (query ∷ next ∷ queries) more other alike (one ∷ []) (first, never) = absurd never
union_told exact moved catalogue (query ∷ next ∷ queries) more other alike (one ∷ two ∷ read) same =
    let leads = exact catalogue (query ∷ next ∷ queries) in
    let here = moved catalogue other (query ∷ next ∷ queries) (one ∷ two ∷ read) alike same in record {
      goes = λ text goes. leads.goes text (here.goes text goes);
      stops = λ said caused stops. leads.stops said caused (here.stops said caused stops);
    }

pub outcomes_are_union_lists : OpeningLaws → UnionListsAreExact → UnionListsAreMoved → OutcomesAreUnionLists
outcomes_are_union_lists opening exact moved words files catalogue_name query_name catalogue queries said text asks say outcome =
    says_fact (list_course (Some files) catalogue_name query_name) (ListsUnionExactly catalogue queries) said text
    (list_says opening files catalogue_name query_name catalogue queries (ListsUnionExactly catalogue queries)
    (union_told exact moved catalogue queries say.more)
    (catalogue_opens files catalogue_name catalogue say.says_catalogue) (union_opens files query_name catalogue queries say.says_union))
    (subst (λ (it : List (List ℕ)). Says (course_of it (Some files)) ⊥ said text) asks outcome)
