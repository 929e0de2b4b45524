-- What a world's matches say of containment.
use Rattle.std.proofs.Common.{◌≡◌, Bool, List, map, refl, sym, ap, ◌∙◌, Contains, subst}
use Rattle.std.specs.List.{AllZip}
use Rattle.esto_term.specs.declared.term.Term.{Term}
use Rattle.esto_term.proofs.ListLemmas.{Contains-map, Contains-map_from, map_agree, map_then}
use Rattle.esto_semantics.specs.ContainmentLaws.{QueriesAreDecided}
use Rattle.esto_semantics.specs.Facts.{image}
use Rattle.esto_semantics.specs.Followed.{IsFollowedBy, QueryIsFollowed}
use Rattle.esto_semantics.specs.Instances.{IsFinished, IsUniversalFor, MapsTo}
use Rattle.esto_semantics.specs.Queries.{ConjunctiveQuery}
use Rattle.esto_semantics.specs.Rules.{Rule, AreRules}
use Rattle.esto_semantics.specs.declared.fact.Fact.{Fact}
use Rattle.esto_semantics.proofs.FactLemmas.{image_then}
use Rattle.esto_semantics.specs.declared.expanded.ExpandedFact.{ExpandedFact}
use Rattle.esto_chase_laws.specs.WorldLaws.{AreFactsOf, AreGiven, HasGivenHead, HasMatch, IsSound, MatchesShowContainment, ContainmentShowsMatches}
use Rattle.esto_chase_laws.specs.Worlds.{InWorld, IsBroken, IsClosed, IsDenied, Linked}
use Rattle.esto_chase_laws.specs.declared.entry.Claim.{Claim}
use Rattle.esto_chase_laws.specs.declared.entry.Claim.TheVariants.{Fact as Stated}
use Rattle.esto_chase_laws.specs.declared.entry.Entry.{Entry}
use Rattle.esto_chase_laws.proofs.DatabaseLemmas.{reached, finished, met_by, world_facts, listed_fact, fact_in_world, rep_of, rep_linked, rep_one, rep_const}
use Rattle.esto_chase_laws.proofs.DatabaseLemmas.{row_linked}
use Rattle.esto_chase_laws.proofs.LinkLemmas.{facts_one, rows_one}

pub matches_show : MatchesShowContainment
matches_show expanded rules entries atoms start query are_facts given_head sound (m, m_keeps, reaches, heads) database meets row (given, keeps, sends, is) =
    let after = sound start.body are_facts database meets given keeps sends in (
      (λ term. after.after (m term)),
      (λ text. ap after.after (m_keeps text) ∙ after.keeps text),
      (λ atom inside.
          let found = reaches atom inside in
          subst (Contains database) (facts_one after.after after.one_value found.0 (image m atom) found.2 ∙ image_then m after.after atom)
          (after.sends found.0 found.1)),
      is ∙ sym (map_agree after.after given start.head (λ term inside. after.agrees term (given_head term inside)))
          ∙ rows_one after.after after.one_value start.head (map m query.head) heads ∙ map_then m after.after query.head,
    )

module _ (expanded : List ExpandedFact) (rules : List Rule) (entries : List Entry) (atoms : List Bool) (start query : ConjunctiveQuery)
    (are_facts : AreFactsOf expanded atoms start.body) (given_head : HasGivenHead start) (given : AreGiven expanded entries)
    (sound : IsSound expanded rules entries atoms) (whole : ¬ (IsBroken (InWorld entries atoms))) where
  abbrev Holds : Claim → Type 0
  Holds = InWorld entries atoms

  abbrev rep : Term → Term
  rep = rep_of entries atoms

  abbrev facts : List (Fact Term)
  facts = world_facts entries atoms

  -- the world's facts, each term under one name for all that it is linked with
  abbrev end : ConjunctiveQuery
  end = record { head = map rep start.head; body = map (image rep) facts }

  follows : IsFollowedBy rules start.body (Contains end.body) (λ term other. rep term ≡ other)
  follows database meets m keeps sends =
      let after = sound start.body are_facts database meets m keeps sends in record {
        after = after.after;
        keeps = after.keeps;
        agrees = after.agrees;
        sends = λ fact inside.
            let from = Contains-map_from (image rep) facts fact inside in
            subst (Contains database)
            (facts_one after.after after.one_value from.0 (image rep from.0) (refl, row_linked Holds rep (rep_linked entries atoms) from.0.terms)
            ∙ ap (image after.after) from.2) (after.sends from.0 (fact_in_world entries atoms from.0 from.1));
        one_value = λ term other is. after.one_value term (rep term) (rep_linked entries atoms term) ∙ ap after.after is;
      }

  universal : QueryIsFollowed → IsUniversalFor rules start end
  universal query_follows = record {
    maps = (
      rep,
      rep_const entries atoms whole,
      (λ fact inside.
          let from = (are_facts fact).0 inside in
          Contains-map (image rep) facts fact
          (listed_fact entries atoms fact (subst (λ it. InWorld entries atoms (Stated it)) from.3 (given from.0 from.1 atoms from.2)))),
      refl,
    );
    followed = query_follows rules start end rep follows given_head refl;
  }

  ended : AreRules rules → IsClosed rules Holds → ¬ (IsDenied rules Holds) → IsFinished rules end
  ended are_rules closed undenied rule inside =
      finished Holds facts (listed_fact entries atoms) (fact_in_world entries atoms) rep (rep_linked entries atoms) (rep_one entries atoms)
      (rep_const entries atoms whole) rule (are_rules rule inside)
      (met_by Holds facts (listed_fact entries atoms) (fact_in_world entries atoms) rep (rep_linked entries atoms) (rep_one entries atoms)
      (rep_const entries atoms whole) rules closed undenied rule inside)

  to_match : MapsTo query end → HasMatch Holds query.head query.body start.head
  to_match (m, keeps, sends, heads) = (
    m,
    keeps,
    (λ atom inside.
        reached Holds facts (listed_fact entries atoms) (fact_in_world entries atoms) rep (rep_linked entries atoms) (rep_one entries atoms)
        (rep_const entries atoms whole) (image m atom) (sends atom inside)),
    subst (AllZip (Linked Holds) start.head) (sym heads) (row_linked Holds rep (rep_linked entries atoms) start.head),
  )

pub containment_shows : QueriesAreDecided → QueryIsFollowed → ContainmentShowsMatches
containment_shows decide query_follows expanded rules entries atoms start query are_rules are_facts given_head given sound closed whole undenied contained =
    to_match expanded rules entries atoms start query are_facts given_head given sound whole
    ((decide rules start (end expanded rules entries atoms start query are_facts given_head given sound whole) query are_rules
    (universal expanded rules entries atoms start query are_facts given_head given sound whole query_follows)
    (ended expanded rules entries atoms start query are_facts given_head given sound whole are_rules closed undenied)).0 contained)
