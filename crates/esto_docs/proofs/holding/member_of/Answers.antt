use Rattle.std.proofs.Common.{◌∙◌, ap, subst, sym}
use Rattle.std.specs.Prelude.{option_map}
use Rattle.serde_json.specs.Data.{Data}
use Rattle.serde_json.specs.View.{view, members_view}
use Rattle.esto_docs.proofs.HoldingLemmas.{IsMember, as_object_is, member_is, no_member}
use Rattle.esto_docs.proofs.holding.member_of.Goals as goal

pub returns-in-Some : goal.returns-in-Some
returns-in-Some c =
    let is = as_object_is (view c.args.value.now) _ (sym c.as_object.ensures ∙ ap (option_map (λ m. members_view m.now.entries)) c.in-Some.is) in
    subst (λ (d : Data). IsMember d c.args.name.now c.member_in.result) (sym is)
    (member_is c.args.name.now _ c.member_in.result c.member_in.ensures.ordered c.member_in.ensures.value)

pub returns-in-None : goal.returns-in-None
returns-in-None c found h =
    no_member (view c.args.value.now) c.args.name.now found
    (sym c.as_object.ensures ∙ ap (option_map (λ m. members_view m.now.entries)) c.in-None.is) h
