-- The two meanings are one.
use Rattle.std.proofs.Common.{◌≡◌, ℕ, [], refl, sym, ◌∙◌, subst, inl, inr, Contains}
use Rattle.esto_term.proofs.ListLemmas.{Contains-head, Contains-cases, Contains-rest}
use Rattle.esto_term.specs.declared.term.Term.{Term}
use Rattle.esto_term.specs.declared.term.Term.TheVariants.{Const, Plain}
use Rattle.esto_semantics.specs.Maps as maps
use Rattle.esto_docmodel.proofs.ExtendingLemmas.{set, set_here, set_other, set_const, below_const, below_plain, matches_on, to_atoms}
use Rattle.esto_docmodel.proofs.FlatLemmas.{sends_flat}
use Rattle.esto_docmodel.proofs.PatternLemmas.{from_atoms}
use Rattle.esto_docmodel.proofs.Spots.{Is}
use Rattle.esto_docmodel.proofs.TieLemmas.{encoded}
use Rattle.esto_docmodel.proofs.Worlds.{Sends, IsEncoded}
use Rattle.esto_docmodel.specs.DocumentFacts.{DocFact, root, carried}
use Rattle.esto_docmodel.specs.Encodings.{facts_from, pattern_atoms, facts_of, atoms_of}
use Rattle.esto_docmodel.specs.Forests.{Forest, IsDocument}
use Rattle.esto_docmodel.specs.Meanings.{IsOwnMatch, AgreeAfter, IsEncodedMatch, AreFresh, MeansTheSame}
use Rattle.esto_docmodel.specs.Patterns.{Entries, Mentions}

module _ (relation base : ℕ) (forest : Forest) (entries : Entries) (r next : ℕ) where
  -- the atoms by kind, from their flat form
  by_kind : (m : Term → Term) → maps.Sends m (atoms_of relation entries r next) (facts_of relation base forest)
      → Sends m (pattern_atoms entries r next) (Contains (facts_from [] base forest))
  by_kind m sends = (sends_flat relation m (pattern_atoms entries r next) (facts_from [] base forest)).1 sends

  from_encoded : (m : Term → Term) → IsEncodedMatch relation base forest entries r next m → IsOwnMatch forest entries m
  from_encoded m (other, keeps, flat_sends, agree) =
      let world : IsEncoded (Is base forest) (IsDocument forest) (Contains (facts_from [] base forest)) = encoded base forest in
      let sends = by_kind other flat_sends in
      let q = world.from_root (other (Plain r)) (sends _ (Contains-head _ _)) in
      let found = from_atoms (Is base forest) (IsDocument forest) (Contains (facts_from [] base forest)) world other keeps entries r next q.0 q.1 q.2 q.3
      (λ a c. sends a (Contains-rest _ _ a c)) in
      (q.1, q.4, matches_on other m entries q.1 (λ x h. sym (agree x h)) found)

  -- the number of the root is no variable of the pattern
  started : (m : Term → Term) (x : Term) → (Mentions entries (Plain r) → ⊥) → AgreeAfter entries m (set m r x)
  started m x free y h = sym (set_other m r x y (λ e. free (subst (λ z. Mentions entries z) e h)))

  to_encoded : AreFresh entries r next → (m : Term → Term) → maps.Keeps Const m → IsOwnMatch forest entries m
      → IsEncodedMatch relation base forest entries r next m
  to_encoded fresh m keeps (t, doc, matches) =
      let world : IsEncoded (Is base forest) (IsDocument forest) (Contains (facts_from [] base forest)) = encoded base forest in
      let q = world.to_root t doc in
      let start : Term → Term = set m r (Plain q.0) in
      let kept : maps.Keeps Const start = λ c. set_const m r (Plain q.0) c ∙ keeps c in
      let agree : AgreeAfter entries m start = started m (Plain q.0) fresh.root_apart in
      let more = to_atoms (Is base forest) (IsDocument forest) (Contains (facts_from [] base forest)) world entries start r next q.0 t kept fresh.root_below
      (set_here m r (Plain q.0)) q.1 fresh.below (matches_on m start entries t agree matches) in (
        more.0,
        (λ c. sym (more.1 (Const c) (below_const next c)) ∙ kept c),
        (sends_flat relation more.0 (pattern_atoms entries r next) (facts_from [] base forest)).0 (λ a c. elim (Contains-cases _ _ a c) [
          | inl e ↦
              let z : more.0 (Plain r) ≡ Plain q.0 = sym (more.1 (Plain r) (below_plain next r fresh.root_below)) ∙ set_here m r (Plain q.0) in
              subst (λ (w : DocFact Term). Contains (facts_from [] base forest) (carried more.0 w)) e
              (subst (λ (w : Term). Contains (facts_from [] base forest) (root w)) (sym z) q.2)
          | inr d ↦ more.2 more.0 (λ x b. refl) a d
        ]),
        λ x h. agree x h ∙ more.1 x (fresh.below x h),
      )

  pub means_the_same : AreFresh entries r next → MeansTheSame relation base forest entries r next
  means_the_same fresh m keeps = (from_encoded m, to_encoded fresh m keeps)
