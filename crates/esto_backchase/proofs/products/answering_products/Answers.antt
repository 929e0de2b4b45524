use Rattle.std.proofs.Common.{length}
use Rattle.std.proofs.lemmas.Result.{IfOk-weaker}
use Rattle.esto_query.specs.declared.query.Query.{Query}
use Rattle.esto_condchase.specs.Evidence.{MatchesIn}
use Rattle.esto_backchase.proofs.FoundLemmas.{of_one, lengths_of_one}
use Rattle.esto_backchase.proofs.products.answering_products.Goals as goal

pub matching_products-requires-clause-same_lengths : goal.matching_products-requires-clause-same_lengths
matching_products-requires-clause-same_lengths c =
    lengths_of_one (length c.args.plan.now.head) c.args.query.now c.from_ref.result.now c.from_ref.ensures.value c.requires.same_length

pub returns-clause-tell : goal.returns-clause-tell
returns-clause-tell c = IfOk-weaker c.matching_products.result _ _
    (λ _ tell set over.
    let plan = c.args.plan.now in
    let query = c.args.query.now in
    let entries = c.args.entries.now in
    let catalogue = c.args.catalogue.now in
    let decided = c.entries_decide_answers.ensures.decide catalogue.fragments catalogue.rules catalogue.ranks query plan entries c.requires.same_length
    c.requires.universal c.requires.satisfiable c.requires.entries set over in
    let one = of_one (λ (it : Query). MatchesIn it plan entries set) query c.from_ref.result.now c.from_ref.ensures.value in
    (λ covers. decided.1 (one.0 ((tell set).0 covers)), λ answers. (tell set).1 (one.1 (decided.0 answers))))
    c.matching_products.ensures.tell
