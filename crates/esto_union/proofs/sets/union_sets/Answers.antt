use Rattle.std.proofs.Common.{◌∙◌, length}
use Rattle.std.proofs.lemmas.List.{length-map}
use Rattle.esto_term.proofs.ListLemmas.{Contains-map}
use Rattle.esto_constraint.specs.Constraints.{rules_of}
use Rattle.esto_query.specs.Making.{query_of}
use Rattle.esto_term.specs.Sets.{TellHolds}
use Rattle.esto_term.proofs.CoverLemmas.{minimal-cover}
use Rattle.esto_views.specs.Fragments.{views_of, patterns_of}
use Rattle.esto_views.specs.Plans.{fact_of, plan_query}
use Rattle.esto_union.specs.Unions.{AnswersPart, IsRewritingIn, queries_of}
use Rattle.esto_union.proofs.sets.union_sets.Goals as goal

pub entries_of-requires-clause-within : goal.entries_of-requires-clause-within
entries_of-requires-clause-within c = c.catalogues_rank_their_rules.ensures.within c.args.catalogue.now

pub entries_of-requires-clause-ranks : goal.entries_of-requires-clause-ranks
entries_of-requires-clause-ranks c = c.catalogues_rank_their_rules.ensures.ranks c.args.catalogue.now

pub returns-clause-listed : goal.returns-clause-listed
returns-clause-listed c set =
    let catalogue = c.args.catalogue.now in
    let queries = c.args.queries.now in
    let plan = c.args.plan.now in
    let entries = c.in_ok-entries.entries in
    let sets = c.in_ok-answering.answering.sets in
    let (query, inside, plan_of) = c.requires.plan_of_one in
    let agree = c.entries_decide_answers.ensures.consistent catalogue.fragments catalogue.rules catalogue.ranks query plan entries plan_of.satisfiable
    c.in_ok-entries.ensures.entries plan_of.receives in
    let told : TellHolds (length (plan_query plan).body) (AnswersPart catalogue queries plan) sets = λ it over.
    let decided = c.entries_decide_answers.ensures.unions catalogue.fragments catalogue.rules catalogue.ranks queries plan entries
    c.in_ok-entries.ensures.entries agree it (over ∙ length-map plan.atoms fact_of) in
    let tell = c.in_ok-answering.ensures.tell it in
    (λ covers. decided.1 (tell.0 covers), λ answers. tell.1 (decided.0 answers)) in
    let listed = c.sets_listed_in_unions_are_executable.ensures.executable (rules_of catalogue.rules) (views_of catalogue.fragments)
    (patterns_of catalogue.fragments) (queries_of queries) (plan_query plan) sets told set in
    let found = c.in_ok-sets.ensures.minimal set in
    (λ there. listed.1 (found.0 there), λ is_listed. found.1 (listed.0 is_listed))

pub returns-clause-complete : goal.returns-clause-complete
returns-clause-complete c others rewriting =
    let catalogue = c.args.catalogue.now in
    let queries = c.args.queries.now in
    let plan = c.args.plan.now in
    let (query, inside, plan_of) = c.requires.plan_of_one in
    let onto = c.executable_unions_map_onto_sets.ensures.onto (rules_of catalogue.rules) (views_of catalogue.fragments) (patterns_of catalogue.fragments)
    (queries_of queries) others (query_of query) (plan_query plan) (Contains-map query_of queries query inside) plan_of.receives rewriting in (
      onto.0,
      onto.1,
      (
        onto.2.0,
        onto.2.1,
        minimal-cover (IsRewritingIn catalogue queries plan) (length (plan_query plan).body) (λ set is. is.has_candidate.over) c.in_ok-sets.sets.sets
            (returns-clause-listed c) onto.2.0 onto.2.2,
      ),
    )
