use Rattle.std.proofs.Common.{Contains, sym, subst, ◌∙◌}
use Rattle.esto_chase_laws.specs.Worlds.{SaysOne}
use Rattle.esto_known.proofs.IndexLemmas.{found_group}
use Rattle.esto_known.proofs.groups.Groups.linking.Goals as goal

pub returns-in-None : goal.returns-in-None
returns-in-None c group inside =
    c.in-None.ensures group (subst (λ its. Contains its group) (sym (c.as_slice.ensures.value ∙ c.self.view_is)) inside)

pub returns-in-Some : goal.returns-in-Some
returns-in-Some c = found_group c.args.self.now c.self.inside.groups.items c.as_slice.result.now c.in-Some.place c.index.result.now
    (λ it. SaysOne it.claim c.args.term.now c.args.other.now) c.as_slice.ensures.value c.self.view_is c.index.ensures
    c.in-Some.ensures.0 c.in-Some.ensures.1 c.in-Some.ensures.2
