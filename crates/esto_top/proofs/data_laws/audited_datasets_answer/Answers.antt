use Rattle.esto_top.proofs.AuditedLemmas.{replies_audited}
use Rattle.esto_top.proofs.AuditRefusalLemmas.{audit_refuses}
use Rattle.esto_top.proofs.data_laws.audited_datasets_answer.Goals as goal

pub returns-clause-replies : goal.returns-clause-replies
returns-clause-replies c = replies_audited c.data_commands_hold.ensures
    c.opened_unions_are_queries.ensures.one c.answers_rest_on_their_datasets.ensures

pub returns-clause-refusals : goal.returns-clause-refusals
returns-clause-refusals c = λ files name said caused stops. (audit_refuses files name).stops said caused stops
