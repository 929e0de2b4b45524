-- Matches that use nothing new.
use Rattle.std.proofs.Common.{◌≡◌, ◌≢◌, inl, inr, ℕ, ◌+◌, ◌<◌, ◌≤◌, List, [], ◌∷◌, ◌++◌, length, map, take, get_or, Contains, refl, sym, ap, ◌∙◌, subst, arith}
use Rattle.std.proofs.lemmas.Bool.{cases_lt}
use Rattle.std.proofs.lemmas.List.{get_or-take, get_or_default, length-take, take-append-le, take_all}
use Rattle.std.proofs.lemmas.List.Elements.{Contains-append_left}
use Rattle.esto_term.specs.declared.term.Term.{Term}
use Rattle.esto_term.proofs.ListLemmas.{Contains-at, Contains-nil}
use Rattle.esto_term.proofs.ZipLemmas.{zip_weaker}
use Rattle.esto_semantics.specs.Facts.{terms_of}
use Rattle.esto_semantics.specs.Rules.{Rule, AreRules, body_of}
use Rattle.esto_semantics.specs.declared.fact.Fact.{Fact}
use Rattle.esto_chase_laws.specs.WorldMatches.{AreChosen, Touching, match_map}
use Rattle.esto_chase_laws.specs.Worlds.{InWorld}
use Rattle.esto_chase_laws.specs.WorldSteps.{AreAnswered, AreJoined}
use Rattle.esto_chase_laws.specs.declared.entry.Claim.TheVariants.{Fact as Stated, Same}
use Rattle.esto_chase_laws.specs.declared.entry.Entry.{Entry}
use Rattle.std.proofs.lemmas.List.Elements.{Contains-append_right}
use Rattle.std.proofs.Common.{Bool}
use Rattle.std.specs.List.{AllZip}
use Rattle.esto_term.proofs.ListLemmas.{Contains-head, Contains-rest}
use Rattle.esto_term.proofs.PlaceLemmas.{Contains-take}
use Rattle.esto_term.specs.Sets.{Within}
use Rattle.esto_semantics.proofs.RuleLemmas.{has_body}
use Rattle.esto_chase_laws.specs.Derived.{Claims, IsNamed}
use Rattle.esto_chase_laws.specs.WorldMatches.{IsDirectMatch}
use Rattle.esto_chase_laws.specs.declared.entry.Claim.{Claim}
use Rattle.esto_chase_laws.proofs.LinkLemmas.{Touching-more}
use Rattle.esto_condchase.specs.Ways.{IsFound}
use Rattle.esto_known.specs.KeptWays.{IsOldWay}
use Rattle.esto_known.specs.declared.way.Way.{Way}
use Rattle.esto_condchase.specs.News.{IsApart, IsSettled, AreFoundAnew}

-- each entry from a place on, and before another, is apart from the body
abbrev pub AreApartBelow : List Entry → ℕ → List (Fact Term) → ℕ → Type 0
AreApartBelow entries since body count = (place : ℕ) (d : Entry) → since ≤ place → place < count → place < length entries → IsApart
    (get_or entries place d).claim body

-- one entry more that is apart
pub apart_next : (entries : List Entry) (since : ℕ) (body : List (Fact Term)) (place : ℕ) (entry : Entry) → place < length entries
    → entry ≡ get_or entries place entry → IsApart entry.claim body → AreApartBelow entries since body place → AreApartBelow entries since body (place + 1)
apart_next entries since body place entry within is here before other d from below inside = elim (cases_lt other place) [
  | inl early ↦ before other d from early inside
  | inr late ↦
      let same : place ≡ other = omega (arith, below, late) in
      subst (λ n. IsApart (get_or entries n d).claim body) same
      (subst (λ (it : Entry). IsApart it.claim body) (is ∙ sym (get_or_default entries place d entry within)) here)
]

module _ (entries : List Entry) (since : ℕ) (body : List (Fact Term)) (apart : AreApartBelow entries since body (length entries)) where
  -- an entry whose claim isn't apart is one of the first few
  early : (entry : Entry) → Contains entries entry → ¬ (IsApart entry.claim body) → Contains (take since entries) entry
  early entry inside used = elim (cases_lt inside.0 since) [
    | inl before ↦ (
      inside.0,
      (let some = inside.1 in omega (arith, before, some, length-take since entries)),
      get_or-take since entries inside.0 entry before ∙ inside.2,
    )
    | inr after ↦ absurd (used (subst (λ (it : Entry). IsApart it.claim body) inside.2 (apart inside.0 entry after inside.1 inside.1)))
  ]

  pub settled : IsSettled entries since body
  settled atoms chosen (are_chosen, fits) = (
    zip_weaker
        (λ (atom : Fact Term) (fact : Fact Term). InWorld entries atoms (Stated fact) × (fact.relation ≡ atom.relation)
        × (length fact.terms ≡ length atom.terms))
        (λ (atom : Fact Term) (fact : Fact Term). InWorld (take since entries) atoms (Stated fact) × (fact.relation ≡ atom.relation)
        × (length fact.terms ≡ length atom.terms)) body chosen
        (λ atom fact inside (holds, relation, long). (
          (
            holds.0,
            early holds.0 holds.1 (λ is_apart. subst (λ it. IsApart it body) holds.3 is_apart (atom, inside, sym relation)),
            holds.2,
            holds.3,
          ),
          relation,
          long,
        )) are_chosen,
    zip_weaker (Touching (InWorld entries atoms)) (Touching (InWorld (take since entries) atoms)) (terms_of chosen)
        (map (match_map body chosen) (terms_of body)) (λ term other _ touches. elim touches [
          | inl same ↦ inl same
          | inr linked ↦ inr (elim linked [ inl along ↦ inl (kept term other along) | inr back ↦ inr (kept other term back) ])
        ]) fits,
  )
    where
      kept : (term other : Term) → InWorld entries atoms (Same term other) → InWorld (take since entries) atoms (Same term other)
      kept term other (entry, inside, within, is) = (entry, early entry inside (λ is_apart. subst (λ it. IsApart it body) is is_apart), within, is)

-- where the body's matches are settled there is none anew
pub settled_anew : (entries : List Entry) (since : ℕ) (body : List (Fact Term)) (live sides : List Term) (ways : List Way) → ways ≡ []
    → IsSettled entries since body → AreFoundAnew entries since body live sides ways
settled_anew entries since body live sides ways none is_settled = rw none record {
  sound = λ way inside. absurd (Contains-nil way inside);
  complete = λ atoms chosen matches. inl (chosen, (λ term its. refl), is_settled atoms chosen matches);
}

-- ---- ways that use nothing new

module _ (entries : List Entry) (since : ℕ) (body : List (Fact Term)) (way : Way) (found : IsFound entries body way) (old : IsOldWay since way)
    (atoms : List Bool) (within : Within way.product atoms) where
  held : (place : ℕ) (claim : Claim) → Contains (way.facts ++ way.links) place → Claims entries place claim → InWorld (take since entries) atoms claim
  held place claim inside (entry, at, is) = (
    entry,
    Contains-take entries since place entry (old place inside) at,
    (λ number has. within number ((found.is_way.union.exact number).1 (place, entry, inside, at, has))),
    is,
  )

  all_held : (facts : List ℕ) (atoms_of chosen : List (Fact Term)) → ((place : ℕ) → Contains facts place → Contains (way.facts ++ way.links) place)
      → AllZip (λ (place : ℕ) (fact : Fact Term). Claims entries place (Stated fact)) facts chosen
      → AllZip (λ (atom : Fact Term) (fact : Fact Term). (fact.relation ≡ atom.relation) × (length fact.terms ≡ length atom.terms)) atoms_of chosen
      → AreChosen (InWorld (take since entries) atoms) atoms_of chosen
  all_held facts [] [] among stated alike = tt
  all_held facts [] (fact ∷ chosen) among stated alike = absurd alike
  all_held facts (atom ∷ atoms_of) [] among stated alike = absurd alike
  all_held [] (atom ∷ atoms_of) (fact ∷ chosen) among stated alike = absurd stated
  all_held (place ∷ facts) (atom ∷ atoms_of) (fact ∷ chosen) among stated alike = (
    (held place (Stated fact) (among place (Contains-head place facts)) stated.0, alike.0.0, alike.0.1),
    all_held facts atoms_of chosen (λ other inside. among other (Contains-rest place facts other inside)) stated.1 alike.1,
  )

  link_held : (claim : Claim) → IsNamed entries way.links claim → InWorld (take since entries) atoms claim
  link_held claim (place, inside, claims) = held place claim (Contains-append_right way.facts way.links place inside) claims

  -- such a way is a match among the first few entries
  pub old_match : IsDirectMatch (InWorld (take since entries) atoms) body found.chosen
  old_match = (
    all_held way.facts body found.chosen (λ place inside. Contains-append_left way.facts way.links place inside) found.stated found.alike,
    zip_weaker (Touching (IsNamed entries way.links)) (Touching (InWorld (take since entries) atoms)) (terms_of found.chosen)
        (map (match_map body found.chosen) (terms_of body))
        (λ s t _ one. Touching-more link_held s t one) found.is_way.fits,
  )

-- ---- from round to round

-- before the first round nothing was asked, since no body has a match in no entries
pub none_answered : (rules : List Rule) (entries : List Entry) → AreRules rules → AreAnswered rules (take 0 entries) entries
none_answered rules entries sound atoms number rule at chosen matches claim asked =
    absurd (go (body_of rule) chosen (has_body rule (sound rule (Contains-at rules number rule at))) matches.0)
  where
    go : (body chosen : List (Fact Term)) → body ≢ [] → AreChosen (InWorld [] atoms) body chosen → ⊥
    go [] chosen some are = some refl
    go (atom ∷ body) [] some are = are
    go (atom ∷ body) (fact ∷ chosen) some are = Contains-nil are.0.0.0 are.0.0.1

first_few : (entries more : List Entry) (since : ℕ) → since ≡ length entries → take since (entries ++ more) ≡ entries
first_few entries more since since_is =
    ap (λ n. take n (entries ++ more)) since_is ∙ take-append-le (length entries) entries more (omega arith)
    ∙ take_all (length entries) entries (omega arith)

-- after a round, what it went through is answered
pub turn_answered : (rules : List Rule) (entries more later : List Entry) (since : ℕ) → later ≡ entries ++ more
    → since ≡ length entries → AreAnswered rules entries (entries ++ more) → AreAnswered rules (take since later) later
turn_answered rules entries more later since is since_is answered =
    subst (λ it. AreAnswered rules (take since it) it) (sym is)
    (subst (λ it. AreAnswered rules it (entries ++ more)) (sym (first_few entries more since since_is)) answered)

pub before_same : (rules its : List Rule) (entries : List Entry) (since : ℕ) → its ≡ rules
    → AreAnswered rules (take since entries) entries → AreAnswered its (take since entries) entries
before_same rules its entries since same_rules answered = subst (λ it. AreAnswered it (take since entries) entries) (sym same_rules) answered

-- ---- links from round to round

-- no entries link anything
pub none_joined : (entries : List Entry) → AreJoined (take 0 entries) entries
none_joined entries atoms term next other one two = inl (same term next one ∙ same next other two)
  where
    same : (s t : Term) → Touching (InWorld [] atoms) s t → s ≡ t
    same s t (inl is) = is
    same s t (inr (inl (entry, inside, within, is))) = absurd (Contains-nil entry inside)
    same s t (inr (inr (entry, inside, within, is))) = absurd (Contains-nil entry inside)

-- after a round, what it went through is joined
pub turn_joined : (entries more later : List Entry) (since : ℕ) → later ≡ entries ++ more → since ≡ length entries → AreJoined entries (entries ++ more)
    → AreJoined (take since later) later
turn_joined entries more later since is since_is joined =
    subst (λ it. AreJoined (take since it) it) (sym is) (subst (λ it. AreJoined it (entries ++ more)) (sym (first_few entries more since since_is)) joined)
