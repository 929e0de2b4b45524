use Rattle.esto_course.specs.Course.{judges}
use Rattle.esto_status.proofs.Steps.{next_answers}
use Rattle.esto_rewriting.specs.List.{makes_members, prints_members}
use Rattle.esto_rewriting.specs.Members.{IsMemberOf}
use Rattle.esto_rewriting.proofs.ZipLemmas.{zip_some}
use Rattle.esto_rewriting.proofs.list.list_union.Goals as goal

pub text_of-requires : goal.text_of-requires
text_of-requires c =
    zip_some (IsMemberOf c.args.catalogue.now c.args.queries.now) c.args.queries.now c.in_ok-members.members c.in_ok-members.ensures c.requires.some

pub returns : goal.returns
unfolding judges
returns c =
    next_answers (makes_members c.args.catalogue.now c.args.queries.now) (prints_members c.args.catalogue.now) ⊥ c.in_ok-members.members c.text_of.result
    c.in_ok-members.ensures c.text_of.ensures
