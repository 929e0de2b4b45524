use Rattle.esto_union.proofs.MemberLemmas.{picked}
use Rattle.esto_union.proofs.laws.picks_answer_unions.Goals as goal

pub returns : goal.returns
returns c = record {
  rewriting = λ catalogue queries others picks.
      picked c.plans_are_sound.ensures c.plans_receive_unions.ensures.universal catalogue queries others picks
      c.choices_are_executable_unions.ensures.executable;
  answers = λ catalogue queries others picks database meets row.
      let is = (picked c.plans_are_sound.ensures c.plans_receive_unions.ensures.universal catalogue queries others picks
      c.choices_are_executable_unions.ensures.executable).equivalent in
      (is.0 database meets row, is.1 database meets row);
}
