use Rattle.esto_data.proofs.AgreementLemmas.{answers_agree, texts_agree}
use Rattle.esto_data.proofs.laws.agreeing_answers_are_one.Goals as goal

pub returns : goal.returns
returns c = record {
  texts = texts_agree c.rewritings_answer_queries.ensures;
  rows = answers_agree c.rewritings_answer_queries.ensures;
}
