use Rattle.std.proofs.Common.{◌∙◌, ◌∷◌, [], List, Bool, false, map, ap, sym, subst}
use Rattle.std.specs.Prelude.{Contains}
use Rattle.std.proofs.lemmas.List.{nil_from_length, take_all}
use Rattle.serde_json.specs.View.{view}
use Rattle.serde_json.specs.declared.value.Value.{Value}
use Rattle.esto_docmodel.specs.Forests.{Node}
use Rattle.esto_term.proofs.ListLemmas.{Contains-nil}
use Rattle.esto_docmodel.specs.Shapes.{entries_of}
use Rattle.esto_docmodel.specs.declared.pattern.Entry.{Entry}
use Rattle.esto_docmodel.specs.declared.pattern.Step.{Step}
use Rattle.esto_docmodel.specs.declared.pattern.Step.TheVariants.{Name}
use Rattle.esto_docs.specs.Filling.{value_node, with_path, RulesOut}
use Rattle.esto_docs.proofs.FillingLemmas.{entry_some, value_end, group_end}
use Rattle.esto_docs.proofs.PlaceLemmas.{ruled_first, ruled_member, ruled_memberless, ruled_items, ruled_more, ruled_rest, ruled_value, ruled_group}
use Rattle.esto_docs.proofs.FillingTurns.{items_more}
use Rattle.esto_docs.proofs.matching.+can_match.Goals as goal

pub can_match-returns-then-not-can_follow : goal.can_match-returns-then-not-can_follow
can_match-returns-then-not-can_follow t c =
    ruled_first c.can_follow.result (value_node (view c.args.value.now)) c.in-Some.entry.now c.args.entries.now c.in-Some.rest.now c.in-Some.ensures.cases.0
    c.path_of.result.now c.path_of.ensures.first c.can_follow.ensures c.if-not-can_follow.true

pub can_follow-returns-in-Some-member_of : goal.can_follow-returns-in-Some-member_of
can_follow-returns-in-Some-member_of t c =
    let whole = c.in-Some.ensures.cases.0 ∙ ap (λ (s : Step). s ∷ c.in-Some.rest.now) (c.in-Name.is ∙ ap Name (sym c.as_str.ensures)) in
    ruled_member (value_node (view c.args.value.now)) c.args.path.now c.in-Some.rest.now (entries_of (c.args.entry.now ∷ [])) (entry_some c.args.entry.now)
    c.can_follow.result c.as_str.result.now (value_node (view c.in-Some-member_of.member.now)) whole c.in-Some-member_of.ensures c.can_follow.ensures

pub can_follow-returns-in-Item : goal.can_follow-returns-in-Item
can_follow-returns-in-Item t c =
    let whole = c.in-Some.ensures.cases.0 ∙ ap (λ (s : Step). s ∷ c.in-Some.rest.now) c.in-Item.is in
    ruled_items (value_node (view c.args.value.now)) c.args.path.now c.in-Some.rest.now (entries_of (c.args.entry.now ∷ [])) (entry_some c.args.entry.now)
    c.can_follow_items.result (map (λ v. value_node (view v)) c.items_of.result.now) whole c.items_of.ensures c.can_follow_items.ensures

pub can_reach-returns-in-Value : goal.can_reach-returns-in-Value
can_reach-returns-in-Value t c =
    let here = with_path [] (entries_of (c.args.entry.now ∷ [])) in
    subst (λ (b : Bool). RulesOut b here (value_node (view c.args.value.now))) (sym c.holds_text.ensures)
    (ruled_value (view c.args.value.now) here c.in-Value.field-1 (value_end c.args.entry.now c.in-Value.field-0 c.in-Value.field-1 c.in-Value.is))

pub can_reach-returns-in-Group : goal.can_reach-returns-in-Group
can_reach-returns-in-Group t c =
    ruled_group c.can_match.result (value_node (view c.args.value.now)) (with_path [] (entries_of (c.args.entry.now ∷ []))) (entries_of c.in-Group.inner)
    (group_end c.args.entry.now c.in-Group.field-0 c.in-Group.inner c.in-Group.is)
    (subst (λ (es : List Entry). RulesOut c.can_match.result (entries_of es) (value_node (view c.args.value.now))) c.items.ensures c.can_match.ensures)

pub can_match-returns : goal.can_match-returns
can_match-returns t c =
    ruled_rest c.can_match.result (value_node (view c.args.value.now)) c.in-Some.entry.now c.args.entries.now c.in-Some.rest.now c.in-Some.ensures.cases.0
    c.can_match.ensures

pub can_follow-returns-in_default : goal.can_follow-returns-in_default
can_follow-returns-in_default t c =
    subst (λ (p : List Step). RulesOut c.can_reach.result (with_path p (entries_of (c.args.entry.now ∷ []))) (value_node (view c.args.value.now)))
    (sym (nil_from_length c.args.path.now c.in_default.ensures.cases)) c.can_reach.ensures

pub can_follow-returns-in-None : goal.can_follow-returns-in-None
can_follow-returns-in-None t c =
    let whole = c.in-Some.ensures.cases.0 ∙ ap (λ (s : Step). s ∷ c.in-Some.rest.now) (c.in-Name.is ∙ ap Name (sym c.as_str.ensures)) in
    ruled_memberless (value_node (view c.args.value.now)) c.args.path.now c.in-Some.rest.now (entries_of (c.args.entry.now ∷ []))
    (entry_some c.args.entry.now) c.as_str.result.now whole c.in-None.ensures

pub can_follow_items-items-init : goal.can_follow_items-items-init
can_follow_items-items-init t c = λ node there. absurd (Contains-nil node there)

pub can_follow_items-items-preserved : goal.can_follow_items-items-preserved
can_follow_items-items-preserved t c =
    ruled_more (with_path c.args.path.now (entries_of (c.args.entry.now ∷ []))) _ _ (value_node (view c.item-item.result)) c.can_follow.result
    (items_more c.args.items.now c.items.item-index c.item-item.result _ c.items-test.true c.item-item.is) c.items.invariant c.can_follow.ensures
    c.if-can_follow.false

pub can_follow_items-returns : goal.can_follow_items-returns
can_follow_items-returns t c =
    subst (λ (vs : List Value). (node : Node) → Contains (map (λ v. value_node (view v)) vs) node
    → RulesOut false (with_path c.args.path.now (entries_of (c.args.entry.now ∷ []))) node)
    (take_all c.items.item-index c.args.items.now c.items-test.false) c.items.invariant
