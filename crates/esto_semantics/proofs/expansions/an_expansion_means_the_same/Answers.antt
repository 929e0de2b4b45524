use Rattle.std.proofs.Common.{[]}
use Rattle.esto_semantics.proofs.ContainmentLemmas.{no_rules-AreRules, own_instance-IsUniversalFor, own_instance-IsFinished}
use Rattle.esto_semantics.proofs.ExpansionLemmas.{expanded, answer-to_expansion, answer-from_expansion, expansion_decides, expansion_decides_union}
use Rattle.esto_semantics.proofs.expansions.an_expansion_means_the_same.Goals as goal

pub returns-clause-answers : goal.returns-clause-answers
returns-clause-answers c views query expansion is_expansion database row =
    (answer-to_expansion views query expansion is_expansion database row, answer-from_expansion views query expansion is_expansion database row)

pub returns-clause-contained : goal.returns-clause-contained
returns-clause-contained c = expansion_decides

pub returns-clause-contained_in_union : goal.returns-clause-contained_in_union
returns-clause-contained_in_union c = expansion_decides_union

pub returns-clause-without_rules : goal.returns-clause-without_rules
returns-clause-without_rules c views query expansion right is_expansion =
    expansion_decides [] views query expansion (expanded views query expansion is_expansion) right no_rules-AreRules is_expansion
    (own_instance-IsUniversalFor [] (expanded views query expansion is_expansion)) (own_instance-IsFinished (expanded views query expansion is_expansion))
