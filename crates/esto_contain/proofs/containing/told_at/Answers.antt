use Rattle.std.proofs.Common.{◌∙◌, sym}
use Rattle.std.proofs.lemmas.Bool.{false≢true}
use Rattle.esto_query.specs.Making.{query_of}
use Rattle.esto_instance.specs.Instances.{state_of}
use Rattle.esto_contain.proofs.ToldLemmas.{no_at, yes_at}
use Rattle.esto_contain.proofs.containing.told_at.Goals as goal

pub returns-then-maps : goal.returns-then-maps
returns-then-maps c rules left are_rules is_query finishes =
    yes_at c.finished_runs_decide.ensures.contained rules left (query_of c.args.right.now) (state_of c.args.end.now) are_rules is_query finishes
    (c.in_ok-maps.ensures.0 c.if-maps.true)

pub returns : goal.returns
returns c rules left are_rules is_query finishes =
    no_at c.finished_runs_decide.ensures.contained rules left (query_of c.args.right.now) (state_of c.args.end.now) are_rules is_query finishes
    (λ maps. false≢true (sym c.if-maps.false ∙ c.in_ok-maps.ensures.1 maps)) c.in_ok-facts.facts c.in_ok-row.row
    (λ i. record { head = sym (c.in_ok-row.ensures ∙ c.head.ensures) i; body = sym (c.in_ok-facts.ensures ∙ c.facts.ensures) i })
