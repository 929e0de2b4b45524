use Rattle.esto_union.proofs.MemberLemmas.{no_rewriting}
use Rattle.esto_union.proofs.laws.no_union_rewriting_is_told.Goals as goal

pub returns : goal.returns
returns c = λ catalogue queries each.
    no_rewriting c.plans_are_sound.ensures c.plans_receive_unions.ensures.universal catalogue queries c.choices_are_executable_unions.ensures.exist
    c.choices_are_executable_unions.ensures.executable c.executable_unions_exist.ensures.none each
