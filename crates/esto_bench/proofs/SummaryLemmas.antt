-- A query over a catalogue and over a database has one summary.
use Rattle.std.proofs.Common.{◌≡◌, ◌≢◌, ◌↔◌, ℕ, List, [], ◌∷◌, length, get_or, All, AllPairs, Contains, refl, sym, ap, subst, ◌∙◌, arith}
use Rattle.std.proofs.lemmas.List.{length-map}
use Rattle.std.proofs.lemmas.List.Elements.{All-head, All-tail}
use Rattle.esto_list.specs.Items.{sets_of, totals_of}
use Rattle.esto_list.specs.declared.listing.Listed.{Listed}
use Rattle.esto_semantics.specs.Listed.{chosen, AreListed, IsPick, IsWeight}
use Rattle.esto_semantics.specs.ListedLaws.{ListedIsOne, PickIsOne, WeightIsOne}
use Rattle.esto_semantics.specs.Queries.{ConjunctiveQuery}
use Rattle.esto_semantics.specs.declared.fact.Fact.{Fact}
use Rattle.esto_semantics.specs.declared.fact.Value.{Value}
use Rattle.esto_term.proofs.DistinctLemmas.{no_more_than}
use Rattle.esto_term.proofs.ListLemmas.{first_same, rest_same}
use Rattle.esto_term.specs.declared.term.Term.{Term}
use Rattle.esto_universal.specs.PlannedLaws.{PlanOfRunIsOne}
use Rattle.esto_views.specs.Plans.{fact_of, plan_query}
use Rattle.esto_bench.specs.Summary.{SummariesAreOne}

-- the sets of a plan's atoms determine the weights
totals_one : WeightIsOne → (weights : List ℕ) (atoms : List (Fact Term)) (items others : List Listed) → sets_of items ≡ sets_of others
    → All (λ item. IsWeight weights (chosen item.set atoms) item.weight) items → All (λ item. IsWeight weights (chosen item.set atoms) item.weight) others
    → totals_of items ≡ totals_of others
totals_one one weights atoms [] [] same totals other_totals = refl
totals_one one weights atoms [] (other ∷ others) same totals other_totals = absurd (cc)
totals_one one weights atoms (item ∷ items) [] same totals other_totals = absurd (cc)
totals_one one weights atoms (item ∷ items) (other ∷ others) same totals other_totals =
    let HasWeight : Listed → Type 0 = λ it. IsWeight weights (chosen it.set atoms) it.weight in
    let set : item.set ≡ other.set = first_same item.set other.set (sets_of items) (sets_of others) same in
    let weight : item.weight ≡ other.weight =
    one weights (chosen other.set atoms) item.weight other.weight
    (subst (λ it. IsWeight weights (chosen it atoms) item.weight) set (All-head HasWeight item items totals))
    (All-head HasWeight other others other_totals) in
    let rest : totals_of items ≡ totals_of others =
    totals_one one weights atoms items others (rest_same item.set other.set (sets_of items) (sets_of others) same)
    (All-tail HasWeight item items totals) (All-tail HasWeight other others other_totals) in
    λ i. weight i ∷ rest i

-- distinct rows that are the same rows are as many
as_many : (rows others : List (List Value)) → AllPairs ◌≢◌ rows → AllPairs ◌≢◌ others → ((row : List Value) → Contains rows row ↔ Contains others row)
    → length rows ≡ length others
as_many rows others once other_once same =
    let few = no_more_than rows others once (λ row inside. (same row).0 inside) in
    let many = no_more_than others rows other_once (λ row inside. (same row).1 inside) in
    omega (arith, few, many)

module _ (one_plan : PlanOfRunIsOne) (one_list : ListedIsOne) (one_weight : WeightIsOne) (one_pick : PickIsOne) where
  pub summaries_one : SummariesAreOne
  summaries_one rules views patterns weights names query database summary other are_rules one two =
      let plans : plan_query one.plan ≡ plan_query two.plan = (one_plan rules views names query one.plan two.plan are_rules one.planned two.planned).0 in
      let sets : sets_of one.items ≡ sets_of two.items =
      one_list rules views patterns query (plan_query two.plan) (sets_of one.items) (sets_of two.items)
      (subst (λ it. AreListed rules views patterns query it (sets_of one.items)) plans one.listed) two.listed in
      let totals : totals_of one.items ≡ totals_of two.items =
      totals_one one_weight weights (plan_query two.plan).body one.items two.items sets
      (subst (λ it. All (λ item. IsWeight weights (chosen item.set it.body) item.weight) one.items) plans one.weighed) two.weighed in
      let picks : one.pick ≡ two.pick = one_pick (totals_of two.items) one.pick two.pick (subst (λ it. IsPick it one.pick) totals one.picked) two.picked in
      let atoms : length one.plan.atoms ≡ length two.plan.atoms =
      sym (length-map one.plan.atoms fact_of) ∙ ap (λ (it : ConjunctiveQuery). length it.body) plans ∙ length-map two.plan.atoms fact_of in
      let listed : length one.items ≡ length two.items =
      sym (length-map one.items (λ item. item.set)) ∙ ap length sets ∙ length-map two.items (λ item. item.set) in
      let rows : length one.answers ≡ length two.answers =
      as_many one.answers two.answers one.once two.once
      (λ row. ((λ inside. (two.exact row).1 ((one.exact row).0 inside)), (λ inside. (one.exact row).1 ((two.exact row).0 inside)))) in
      let both : get_or (totals_of one.items) one.pick 0 ≡ get_or (totals_of two.items) two.pick 0 = λ i. get_or (totals i) (picks i) 0 in
      one.told ∙ (λ i. record { plan = atoms i; rewritings = listed i; weight = both i; rows = rows i }) ∙ sym two.told
