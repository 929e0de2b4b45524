-- What `contains` and `minimise` answer where nothing is wrong with the files.
use Rattle.std.proofs.Common.{ℕ, List, Some, subst}
use Rattle.esto_top.specs.Contains.{contains_course}
use Rattle.esto_reasoning.specs.Exact.{IsExactContains, IsExactMinimise}
use Rattle.esto_top.specs.ReasoningLaws.{ContainsIsExact, MinimiseIsExact}
use Rattle.esto_top.specs.Minimise.{minimise_course}
use Rattle.esto_top.specs.Grammar.{course_of}
use Rattle.esto_top.specs.Outcome.{Says}
use Rattle.esto_top.specs.ReasoningOutcomes.{OutcomesAreContainments, OutcomesAreMinimised}
use Rattle.esto_top.proofs.DataLemmas.{says_fact}
use Rattle.esto_top.proofs.SayLemmas.{catalogue_opens, query_opens}

pub outcomes_are_containments : ContainsIsExact → OutcomesAreContainments
outcomes_are_containments exact words files catalogue_name left_name right_name catalogue left right said text is say say_right outcome =
    says_fact (contains_course (Some files) catalogue_name left_name right_name) (IsExactContains catalogue left right) said text
    (exact files catalogue_name left_name right_name catalogue left right (catalogue_opens files catalogue_name catalogue say.says_catalogue)
    (query_opens files left_name catalogue left say.says_query)
    (query_opens files right_name catalogue right say_right))
    (subst (λ (it : List (List ℕ)). Says (course_of it (Some files)) ⊥ said text) is outcome)

pub outcomes_are_minimised : MinimiseIsExact → OutcomesAreMinimised
outcomes_are_minimised exact words files catalogue_name query_name catalogue query said text is say outcome =
    says_fact (minimise_course (Some files) catalogue_name query_name) (IsExactMinimise catalogue query) said text
    (exact files catalogue_name query_name catalogue query (catalogue_opens files catalogue_name catalogue say.says_catalogue)
    (query_opens files query_name catalogue query say.says_query))
    (subst (λ (it : List (List ℕ)). Says (course_of it (Some files)) ⊥ said text) is outcome)
