-- What an expansion of a plan has for a set of its atoms is an expansion of the set's candidate.
use Rattle.std.proofs.Common.{◌≡◌, inl, inr, ℕ, ◌<◌, Bool, List, length, Contains, sym, ap, ◌∙◌, subst, arith}
use Rattle.std.proofs.lemmas.Option.{slice_get_within}
use Rattle.esto_term.specs.declared.term.Term.{Term}
use Rattle.esto_semantics.specs.Expansions.{IsOfQuery, IsExpansion, IsPartOf}
use Rattle.esto_semantics.specs.Facts.{image}
use Rattle.esto_semantics.specs.Listed.{chosen, candidate}
use Rattle.esto_semantics.specs.Queries.{ConjunctiveQuery}
use Rattle.esto_term.specs.Sets.{Has}
use Rattle.esto_semantics.specs.declared.fact.Fact.{Fact}
use Rattle.esto_semantics.proofs.CandidateLemmas.{chosen-among}
use Rattle.esto_semantics.proofs.FactLemmas.{Mentions-among}
use Rattle.esto_semantics.proofs.PlaceLemmas.{rank, chosen_at-rank, number_at, number_at-rank, number_at-chosen}
use Rattle.esto_term.proofs.SetLemmas.{Has-within}
use Rattle.esto_term.proofs.ListLemmas.{thing_at}

module _ (views : List ConjunctiveQuery) (plan : ConjunctiveQuery) (expansion : List (Fact Term)) (is_expansion : IsExpansion views plan expansion)
    (set : List Bool) (over : length set ≡ length plan.body) (facts : List (Fact Term)) (is_part : IsPartOf is_expansion set facts) where
  at_place : (place : ℕ) → place < length (chosen set plan.body)
      → (number_at set place < length plan.body) × Has set (number_at set place) × (rank set (number_at set place) ≡ place)
  at_place place below =
      let at = thing_at (chosen set plan.body) place below in
      let found = number_at-chosen set plan.body place at.0 at.1 in
      (slice_get_within plan.body (number_at set place) at.0 found.1, found.0, found.2)

  IsOfQuery-among : (term : Term) → IsOfQuery (candidate plan set) term → IsOfQuery plan term
  IsOfQuery-among term (inl mentioned) = inl (Mentions-among (chosen set plan.body) plan.body term (chosen-among plan set) mentioned)
  IsOfQuery-among term (inr in_head) = inr in_head

  abbrev IsPartAt : ℕ → Fact Term → Type 0
  IsPartAt number fact = (part : Fact Term) × Contains (is_expansion.view number).body part × (image (is_expansion.spread number) part ≡ fact)

  rank-within : (number : ℕ) → Has set number → rank set number < length (chosen set plan.body)
  rank-within number has =
      let below = Has-within set number has in
      let at = thing_at plan.body number (omega arith) in
      slice_get_within (chosen set plan.body) (rank set number) at.0 (chosen_at-rank set plan.body number at.0 has at.1)

  pub part-IsExpansion : IsExpansion views (candidate plan set) facts
  part-IsExpansion = record {
    view = λ place. is_expansion.view (number_at set place);
    spread = λ place. is_expansion.spread (number_at set place);
    has_view = λ place atom at. is_expansion.has_view (number_at set place) atom (number_at-chosen set plan.body place atom at).1;
    keeps = λ place. is_expansion.keeps (number_at set place);
    head = λ place atom at. is_expansion.head (number_at set place) atom (number_at-chosen set plan.body place atom at).1;
    variable = λ place term below inner. is_expansion.variable (number_at set place) term (at_place place below).0 inner;
    outside = λ place term below inner of_query. is_expansion.outside (number_at set place) term (at_place place below).0 inner (IsOfQuery-among _ of_query);
    apart = λ place other term other_term below other_below inner other_inner same.
        let both = is_expansion.apart (number_at set place) (number_at set other) term other_term (at_place place below).0
        (at_place other other_below).0 inner other_inner same in
        (sym (at_place place below).2 ∙ ap (rank set) both.0 ∙ (at_place other other_below).2, both.1);
    facts = λ fact. (
      (λ inside.
          let found = (is_part fact).0 inside in
          (rank set found.0, rank-within found.0 found.1, subst (λ number. IsPartAt number fact) (sym (number_at-rank set found.0 found.1)) found.2)),
      (λ found. (is_part fact).1 (number_at set found.0, (at_place found.0 found.1).1, found.2)),
    );
  }
