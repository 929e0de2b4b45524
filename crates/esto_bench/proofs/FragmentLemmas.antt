-- The made fragments, one relation after the other.
use Rattle.std.proofs.Common.{◌≡◌, ◌+◌, ℕ, List, [], ◌∷◌, ◌++◌, ap, ◌∙◌}
use Rattle.std.proofs.lemmas.List.{append_assoc}
use Rattle.std.specs.Prelude.{codes}
use Rattle.esto_query.specs.Making.{query_of}
use Rattle.esto_views.specs.declared.fragments.FragmentDef.{FragmentDef}
use Rattle.esto_bench.specs.Case.{made_view, numbered, without_inputs}
use Rattle.esto_bench.specs.Made.{AddsBoth, AreMadeFragments}
use Rattle.esto_bench.proofs.BothLemmas.{both_pushed}

-- the fragments over one relation more
pub fragments_more : (relation : ℕ) (old new : List FragmentDef) → AreMadeFragments relation old → AddsBoth relation old new
    → AreMadeFragments (relation + 1) new
fragments_more relation old new are (between, first, second) =
    let added : new ≡ old ++ first.fragment ∷ second.fragment ∷ [] =
    second.added ∙ ap (λ (it : List FragmentDef). it ++ second.fragment ∷ []) first.added
    ∙ append_assoc old (first.fragment ∷ []) (second.fragment ∷ []) in
    record {
      names = both_pushed (numbered (codes "A")) (numbered (codes "B")) (λ (it : FragmentDef). it.name) relation old new first.fragment second.fragment added
          first.made.name second.made.name are.names;
      views = both_pushed made_view made_view (λ (it : FragmentDef). query_of it.view) relation old new first.fragment second.fragment added
          first.made.view second.made.view are.views;
      patterns = both_pushed without_inputs without_inputs (λ (it : FragmentDef). it.access) relation old new first.fragment second.fragment added
          first.made.access second.made.access are.patterns;
      weights = both_pushed (λ _. 1) (λ _. 2) (λ (it : FragmentDef). it.weight) relation old new first.fragment second.fragment added
          first.made.weight_is second.made.weight_is are.weights;
    }
