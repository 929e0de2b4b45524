-- Matches and direct matches of a query in worlds, and what a list of entries keeps.
use Rattle.std.proofs.Common.{Bool, List, [], ◌∷◌, map, take, sym, ◌∙◌, Contains}
use Rattle.std.specs.List.{AllZip}
use Rattle.esto_term.specs.declared.term.Term.{Term}
use Rattle.esto_semantics.specs.Facts.{terms_of}
use Rattle.esto_semantics.specs.Maps.{IsFixedBy}
use Rattle.esto_semantics.specs.Rules.{Rule}
use Rattle.esto_semantics.specs.declared.fact.Fact.{Fact}
use Rattle.esto_term.proofs.ListLemmas.{Contains-head, Contains-rest}
use Rattle.esto_term.proofs.ZipLemmas.{zip_weaker}
use Rattle.esto_semantics.specs.declared.expanded.ExpandedFact.{ExpandedFact}
use Rattle.esto_chase_laws.specs.Worlds.{InWorld, Linked}
use Rattle.esto_chase_laws.specs.WorldMatches.{Touching, match_map}
use Rattle.esto_chase_laws.specs.Derived.{Follows}
use Rattle.esto_chase_laws.specs.WorldLaws.{HasMatch, HasDirectMatch, IsReasoned, MatchesAreDirect, DerivedEntriesAreReasoned}
use Rattle.esto_chase_laws.specs.declared.entry.Claim.{Claim}
use Rattle.esto_chase_laws.specs.declared.entry.Reason.{Reason}
use Rattle.esto_chase_laws.specs.declared.entry.Reason.TheVariants.{Expanded, Step, Equal}
use Rattle.esto_chase_laws.specs.declared.entry.Entry.{Entry}
use Rattle.esto_chase_laws.proofs.LinkLemmas.{Linked-then, Linked-touching}
use Rattle.esto_chase_laws.proofs.TakenLemmas.{taken-Const}
use Rattle.esto_chase_laws.proofs.GrowLemmas.{match-from_direct}
use Rattle.esto_chase_laws.proofs.ClosedLemmas.{touching, choose, direct, at_body}
use Rattle.esto_chase_laws.proofs.SoundLemmas.{rows_split}

module _ (Holds : Claim → Type 0) (head : List Term) (body : List (Fact Term)) (targets : List Term) where
  from_direct : HasDirectMatch Holds head body targets → HasMatch Holds head body targets
  from_direct (chosen, matches, fits) =
      let linked = match-from_direct Holds body chosen matches in (
        match_map body chosen,
        (λ text. taken-Const (terms_of body) (terms_of chosen) text),
        (λ atom inside. let p = rows_split Holds (Linked Holds) (match_map body chosen) body chosen linked.0 linked.1 atom inside in (p.0, p.1, (p.2, p.3))),
        zip_weaker (Touching Holds) (Linked Holds) targets (map (match_map body chosen) head) (λ s t _ one. Linked-touching s t one) fits,
      )

  module _ (joined : (s t u : Term) → Touching Holds s t → Touching Holds t u → Touching Holds s u)
      (fixed : (term : Term) → Contains head term → IsFixedBy body term) where
    to_direct : HasMatch Holds head body targets → HasDirectMatch Holds head body targets
    to_direct (m, keeps, sends, fits) =
        let c = choose Holds m keeps body sends in
        (c.0, direct Holds m keeps joined body c.0 c.1 c.2, row c.0 c.2 head targets (λ term inside. inside) fits)
      where
        row : (chosen : List (Fact Term)) → AllZip (Linked Holds) (terms_of chosen) (map m (terms_of body)) → (sources rows : List Term)
            → ((term : Term) → Contains sources term → Contains head term) → AllZip (Linked Holds) rows (map m sources)
            → AllZip (Touching Holds) rows (map (match_map body chosen) sources)
        row chosen z [] [] among fits = tt
        row chosen z [] (t ∷ rows) among fits = absurd fits
        row chosen z (s ∷ sources) [] among fits = absurd fits
        row chosen z (s ∷ sources) (t ∷ rows) among fits = (
          touching joined t (match_map body chosen s)
              (Linked-then t (m s) (match_map body chosen s) fits.0
              (at_body Holds m keeps joined body chosen z s (fixed s (among s (Contains-head s sources))))),
          row chosen z sources rows (λ term inside. among term (Contains-rest s sources term inside)) fits.1,
        )

pub matches_direct : MatchesAreDirect
matches_direct entries atoms head body targets joined fixed =
    (from_direct (InWorld entries atoms) head body targets, to_direct (InWorld entries atoms) head body targets (joined atoms) fixed)

reasoned : (expanded : List ExpandedFact) (rules : List Rule) (entries : List Entry) (claim : Claim) (product : List Bool) (reason : Reason)
    → Follows expanded rules entries claim product reason → IsReasoned entries product reason
reasoned expanded rules entries claim product (Expanded atom place) (fact, inside, is_atom, is_place, is, has) = has
reasoned expanded rules entries claim product (Step number places) (rule, at, by, union) = union
reasoned expanded rules entries claim product (Equal places) (some, term, other, is, chain, union) = union

pub are_reasoned : DerivedEntriesAreReasoned
are_reasoned expanded rules entries count derived counted = record {
  reasoned = λ place entry at. reasoned expanded rules (take place entries) entry.claim entry.product entry.reason (derived place entry at);
  counted = λ entry other inside other_inside. counted entry inside ∙ sym (counted other other_inside);
}
