-- What a match of a query in a world rests on.
use Rattle.std.proofs.Common.{◌≡◌, ◌≢◌, ◌⊎◌, inl, inr, ℕ, Bool, List, [], ◌∷◌, map, Contains, refl, sym, ap, subst, ◌∙◌}
use Rattle.esto_term.specs.declared.term.Term.{Term}
use Rattle.esto_term.specs.declared.term.Term.TheVariants.{Const, Plain}
use Rattle.esto_term.proofs.ListLemmas.{Contains-head, Contains-map, Contains-map_from}
use Rattle.esto_term.proofs.ZipLemmas.{zip_left, zip_right}
use Rattle.esto_semantics.specs.Maps.{IsFixedBy, Keeps, SendsInto}
use Rattle.esto_semantics.specs.Rules.{Rule, AreRules}
use Rattle.esto_semantics.specs.declared.fact.Fact.{Fact}
use Rattle.esto_semantics.proofs.TermLemmas.{Const-apart-Plain}
use Rattle.esto_semantics.specs.declared.expanded.ExpandedFact.{ExpandedFact}
use Rattle.esto_chase_laws.specs.Derived.{AreDerived}
use Rattle.esto_chase_laws.specs.WorldLaws.{IsAbout, RestsOn, MatchesRestOnAtoms}
use Rattle.esto_chase_laws.specs.Worlds.{InWorld, Linked, here, along, back, Reaches}
use Rattle.esto_chase_laws.specs.declared.entry.Claim.{Claim}
use Rattle.esto_chase_laws.specs.declared.entry.Claim.TheVariants.{Fact as Stated, Same}
use Rattle.esto_chase_laws.specs.declared.entry.Entry.{Entry}
use Rattle.esto_chase_laws.proofs.LinkLemmas.{Linked-back, Linked-then}
use Rattle.esto_chase_laws.proofs.RestLemmas.{claims_rest}

-- a term that is linked with another is it, or some claim is about it
about : (Holds : Claim → Type 0) (term other : Term) → Linked Holds term other → (term ≡ other) ⊎ ((claim : Claim) × Holds claim × IsAbout claim term)
about Holds term other here = inl refl
about Holds term other (along {next = next} holds linked) = inr (Same term next, holds, inl refl)
about Holds term other (back {next = next} holds linked) = inr (Same next term, holds, inr refl)

some_atom : (body : List (Fact Term)) → body ≢ [] → (atom : Fact Term) × Contains body atom
some_atom [] full = absurd (full refl)
some_atom (atom ∷ body) full = (atom, Contains-head atom body)

-- where a variable is linked with what a match makes of a term that the body fixes, some claim is about the variable
module _ (Holds : Claim → Type 0) (body : List (Fact Term)) (m : Term → Term) (keeps : Keeps Const m) (reaches : SendsInto m body (Reaches Holds))
    (variable : ℕ) where
  abbrev IsClaimed : Type 0
  IsClaimed = (claim : Claim) × Holds claim × IsAbout claim (Plain variable)

  claimed : (term : Term) → IsFixedBy body term → Linked Holds (Plain variable) (m term) → IsClaimed
  claimed term fixed linked = elim (about Holds (Plain variable) (m term) linked) [ inl is ↦ by fixed is | inr found ↦ found ]
    where
      by : IsFixedBy body term → Plain variable ≡ m term → IsClaimed
      by (inl constant) is = absurd (Const-apart-Plain constant.0 variable (sym (is ∙ ap m constant.1 ∙ keeps constant.0)))
      by (inr (atom, inside, in_atom)) is =
          let (fact, holds, one) = reaches atom inside in
          let met = zip_right (Linked Holds) fact.terms (map m atom.terms) one.1 (m term) (Contains-map m atom.terms term in_atom) in
          elim (about Holds (Plain variable) met.0
          (Linked-then (Plain variable) (m term) met.0 linked (Linked-back met.0 (m term) met.2))) [
            | inl same ↦ (Stated fact, holds, subst (Contains fact.terms) (sym same) met.1)
            | inr found ↦ found
          ]

-- a claim of a world rests on the world's atoms
rests : (expanded : List ExpandedFact) (rules : List Rule) (entries : List Entry) (atoms : List Bool) → AreRules rules → AreDerived expanded rules entries
    → (claim : Claim) → InWorld entries atoms claim → RestsOn expanded (IsAbout claim) atoms
rests expanded rules entries atoms are_rules derived claim (entry, inside, within, is) =
    let own = claims_rest expanded rules entries are_rules derived entry inside in
    subst (λ it. RestsOn expanded (IsAbout it) atoms) is record {
      some = (own.some.0, within own.some.0 own.some.1);
      variables = λ variable is_about.
          let at = own.variables variable is_about in
          (at.0, at.1, within at.0.atom at.2, at.3);
    }

pub matches_rest : MatchesRestOnAtoms
matches_rest expanded rules entries atoms query targets are_rules derived is_query (m, keeps, reaches, heads) = record {
  some =
      let atom = some_atom query.body is_query.has_body in
      let (fact, holds, one) = reaches atom.0 atom.1 in
      (rests expanded rules entries atoms are_rules derived (Stated fact) holds).some;
  variables = λ variable in_targets.
      let met = zip_left (Linked (InWorld entries atoms)) targets (map m query.head) heads (Plain variable) in_targets in
      let from = Contains-map_from m query.head met.0 met.1 in
      let (claim, holds, is_about) = claimed (InWorld entries atoms) query.body m keeps reaches variable from.0 (is_query.safe from.0 from.1)
      (subst (Linked (InWorld entries atoms) (Plain variable)) (sym from.2) met.2) in
      (rests expanded rules entries atoms are_rules derived claim holds).variables variable is_about;
}
