use Rattle.std.proofs.Common.{◌≡◌}
use Rattle.esto_text.specs.Faults.{IsFalse, IsQueryText, IsGrammarFault, IsUnionText, IsUnionGrammarFault, IsConstraintText, IsConstraintGrammarFault}
use Rattle.esto_text.specs.Faults.{IsLayoutText, IsLayoutGrammarFault}
use Rattle.esto_text.specs.Grammar.{IsQuery, IsUnion, IsConstraint, IsLayout}
use Rattle.esto_text.specs.Limits.{limited, limited_union}
use Rattle.esto_input_laws.proofs.FunctionLemmas.{is_function}
use Rattle.esto_input_laws.proofs.TreeLemmas.{query_or_stop, union_or_stop, constraints_or_stops, layout_or_stop, text_or_fault}
use Rattle.esto_input_laws.proofs.grammar.texts_have_one_tree_or_fault.Goals as goal

pub returns-clause-query : goal.returns-clause-query
returns-clause-query c =
    let one = c.trees_are_determined.ensures in
    is_function ◌≡◌ IsQueryText IsGrammarFault (text_or_fault IsQuery limited query_or_stop) (λ bytes tree other is is'. one.tree bytes tree is other is')
    one.apart one.fault

pub returns-clause-union : goal.returns-clause-union
returns-clause-union c =
    let one = c.unions_are_determined.ensures in
    is_function ◌≡◌ IsUnionText IsUnionGrammarFault (text_or_fault IsUnion limited_union union_or_stop)
    (λ bytes tree other is is'. one.trees bytes tree is other is') one.apart one.fault

pub returns-clause-constraint : goal.returns-clause-constraint
returns-clause-constraint c = λ version.
    let one = c.trees_are_determined.ensures in
    is_function ◌≡◌ (IsConstraintText version) (IsConstraintGrammarFault version)
    (λ bytes. text_or_fault (IsConstraint (IsFalse version bytes)) (λ tokens. tokens) (constraints_or_stops version bytes) bytes)
    (λ bytes tree other is is'. one.constraint_tree version bytes tree is other is') (one.constraint_apart version) (one.constraint_fault version)

pub returns-clause-layout : goal.returns-clause-layout
returns-clause-layout c =
    let one = c.trees_are_determined.ensures in
    is_function ◌≡◌ IsLayoutText IsLayoutGrammarFault (text_or_fault IsLayout (λ tokens. tokens) layout_or_stop)
    (λ bytes tree other is is'. one.layout_tree bytes tree is other is') one.layout_apart one.layout_fault
