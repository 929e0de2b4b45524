-- The two terms of each merge of a run are taken to one term.
use Rattle.std.proofs.Common.{◌≡◌, inl, inr, ℕ, List, [], ◌∷◌, ◌++◌, Contains, refl, sym, ap, ◌∙◌, subst}
use Rattle.std.proofs.lemmas.List.Elements.{Contains-append_cases}
use Rattle.esto_term.specs.Order.{replaced}
use Rattle.esto_term.specs.declared.term.Term.{Term}
use Rattle.esto_term.proofs.ListLemmas.{Contains-at, Contains-nil, Contains-cases}
use Rattle.esto_semantics.specs.Maps.{AreFlat}
use Rattle.esto_semantics.specs.Queries.{ConjunctiveQuery}
use Rattle.esto_semantics.specs.Rules.{Rule, equality, AreRules}
use Rattle.esto_semantics.proofs.FactLemmas.{Sends-match}
use Rattle.esto_chase_laws.specs.Runs.{Step, added, merged, IsStep, IsRun, begun, went, moved_by}
use Rattle.esto_chase_laws.proofs.ReplacementLemmas.{less-apart, replaced-from, replaced-other}
use Rattle.esto_chase_laws.proofs.StateLemmas.{mergeable, to_constant, ran}

-- further steps take a term from where the earlier ones took it
moved_by-append : (trace more : List Step) (term : Term) → moved_by (trace ++ more) term ≡ moved_by more (moved_by trace term)
moved_by-append [] more term = refl
moved_by-append (added _ _ _ ∷ trace) more term = moved_by-append trace more term
moved_by-append (merged _ _ _ from to ∷ trace) more term = moved_by-append trace more (replaced from to term)

module _ (rules : List Rule) (start : ConjunctiveQuery) (are_rules : AreRules rules) (flat : AreFlat start.body) where
  -- at the merge itself: the earlier merges leave both terms as they are
  at_merge : (trace : List Step) (now next : ConjunctiveQuery) → IsRun rules start trace now
      → (number : ℕ) (m : Term → Term) (places : List ℕ) (from to : Term) → IsStep rules now (merged number m places from to) next
      → replaced from to (moved_by trace from) ≡ replaced from to (moved_by trace to)
  at_merge trace now next run number m places from to is =
      let kept = (ran rules start are_rules flat trace now run).kept in
      let shape = are_rules (equality is.body is.left is.right) (Contains-at rules number (equality is.body is.left is.right) is.is_next.there) in
      let are = mergeable is.body now.body m is.left is.right to from is.is_next.active.keeps
      (Sends-match m is.body now.body places is.is_next.active.matches) shape.left_fixed shape.right_fixed is.sides is.no_constant in
      let stays : moved_by trace to ≡ to = elim (to_constant now.body is.left is.right to from are) [
        | inl constant ↦ ap (moved_by trace) constant.1 ∙ kept.constants constant.0 ∙ sym constant.1
        | inr inside ↦ kept.fixed to inside
      ] in
      ap (replaced from to) (kept.fixed from are.from_in) ∙ replaced-from from to ∙ sym (replaced-other from to to (less-apart to from is.lesser))
      ∙ sym (ap (replaced from to) stays)

  pub merged_terms_meet : (trace : List Step) (now : ConjunctiveQuery) → IsRun rules start trace now
      → (number : ℕ) (m : Term → Term) (places : List ℕ) (from to : Term) → Contains trace (merged number m places from to)
      → moved_by trace from ≡ moved_by trace to
  merged_terms_meet trace now begun number m places from to inside = absurd (Contains-nil (merged number m places from to) inside)
  merged_terms_meet trace now (went before old step next run is) number m places from to inside =
      elim (Contains-append_cases before (step ∷ []) (merged number m places from to) inside) [
        | inl earlier ↦
            moved_by-append before (step ∷ []) from
            ∙ ap (moved_by (step ∷ [])) (merged_terms_meet before old run number m places from to earlier)
            ∙ sym (moved_by-append before (step ∷ []) to)
        | inr last ↦ elim (Contains-cases step [] (merged number m places from to) last) [
          | inl here ↦ subst (λ it. moved_by (before ++ it ∷ []) from ≡ moved_by (before ++ it ∷ []) to) (sym here)
              (moved_by-append before (merged number m places from to ∷ []) from
              ∙ at_merge before old next run number m places from to (subst (λ it. IsStep rules old it next) here is)
              ∙ sym (moved_by-append before (merged number m places from to ∷ []) to))
          | inr none ↦ absurd (Contains-nil (merged number m places from to) none)
        ]
      ]
