-- What derived claims rest on.
use Rattle.std.proofs.Common.{◌≡◌, ◌≢◌, inl, inr, ℕ, Bool, List, [], ◌∷◌, map, slice_get, Some, Contains, refl, sym, ap, subst, ◌∙◌}
use Rattle.std.specs.List.{AllZip}
use Rattle.std.proofs.lemmas.List.Elements.{Contains-append_left}
use Rattle.esto_term.specs.declared.term.Term.{Term}
use Rattle.esto_term.specs.declared.term.Term.TheVariants.{Plain}
use Rattle.esto_term.proofs.ListLemmas.{Contains-at, Contains-head, Contains-map_from, Contains-rest}
use Rattle.esto_term.proofs.ZipLemmas.{zip_right}
use Rattle.esto_semantics.specs.Facts.{Mentions, terms_of}
use Rattle.esto_semantics.specs.Maps.{IsConstant, IsFixedBy}
use Rattle.esto_semantics.specs.Rules.{Rule, tuple, equality, denial, body_of, IsRule, AreRules}
use Rattle.esto_term.specs.Sets.{Has}
use Rattle.esto_semantics.specs.declared.fact.Fact.{Fact}
use Rattle.esto_semantics.proofs.CanonicalLemmas.{Mentions-terms_of}
use Rattle.esto_semantics.proofs.TermLemmas.{Const-apart-Plain, Plain-apart-Made}
use Rattle.esto_semantics.proofs.RuleLemmas.{has_body}
use Rattle.esto_chase_laws.specs.Making.{extended}
use Rattle.esto_chase_laws.proofs.MakingLemmas.{extended-flat, terms_of-Mentions}
use Rattle.esto_semantics.specs.declared.expanded.ExpandedFact.{ExpandedFact}
use Rattle.esto_chase_laws.specs.WorldMatches.{AreChosen, match_map, IsMatch}
use Rattle.esto_chase_laws.specs.WorldSteps.{IsAsked}
use Rattle.esto_chase_laws.specs.Derived.{Claims, FollowsBy, Follows, IsChain, IsNamed, IsUnion}
use Rattle.esto_chase_laws.specs.WorldLaws.{IsAbout, RestsOn, DerivedClaimsRestOnAtoms}
use Rattle.esto_chase_laws.specs.declared.entry.Claim.{Claim}
use Rattle.esto_chase_laws.specs.declared.entry.Claim.TheVariants.{Fact as Stated, Same}
use Rattle.esto_chase_laws.specs.declared.entry.Entry.{Entry}
use Rattle.esto_chase_laws.specs.declared.entry.Reason.{Reason}
use Rattle.esto_chase_laws.specs.declared.entry.Reason.TheVariants.{Expanded, Step, Equal}
use Rattle.esto_chase_laws.proofs.InductionLemmas.{all_derived}
use Rattle.esto_chase_laws.proofs.TakenLemmas.{taken-Const, taken_in}
use Rattle.esto_chase_laws.proofs.WorldBoundLemmas.{chosen_length}

module _ (expanded : List ExpandedFact) (rules : List Rule) (are_rules : AreRules rules) where
  -- ---- what a rule asks for at a match is about terms that the match is about

  module _ (Holds : Claim → Type 0) (rule : Rule) (is_rule : IsRule rule) (chosen : List (Fact Term)) (matches : IsMatch Holds (body_of rule) chosen)
      (variable : ℕ) where
    abbrev m : Term → Term
    m = match_map (body_of rule) chosen

    -- some fact of the match has the variable
    abbrev IsMet : Type 0
    IsMet = (fact : Fact Term) × Contains chosen fact × Contains fact.terms (Plain variable)

    at_constant : (term : Term) → IsConstant term → m term ≡ Plain variable → IsMet
    at_constant term constant is =
        absurd (Const-apart-Plain constant.0 variable
        (sym (ap m constant.1 ∙ taken-Const (terms_of (body_of rule)) (terms_of chosen) constant.0) ∙ is))

    pub at_body : (term : Term) → Mentions (body_of rule) term → m term ≡ Plain variable → IsMet
    at_body term inside is =
        elim (taken_in (terms_of (body_of rule)) (terms_of chosen) (chosen_length Holds (body_of rule) chosen matches.0) term
        (Mentions-terms_of (body_of rule) term inside)) [
          | inl constant ↦ at_constant term constant is
          | inr met ↦ terms_of-Mentions chosen (Plain variable) (subst (Contains (terms_of chosen)) is met)
        ]

    pub at_fixed : (term : Term) → IsFixedBy (body_of rule) term → m term ≡ Plain variable → IsMet
    at_fixed term (inl constant) is = at_constant term constant is
    at_fixed term (inr inside) is = at_body term inside is

  made_is_met : (Holds : Claim → Type 0) (number : ℕ) (body head : List (Fact Term)) (is_rule : IsRule (tuple body head)) (chosen : List (Fact Term))
      → IsMatch Holds body chosen → (variable : ℕ) (atom : Fact Term) → Contains head atom
      → Contains (map (extended number body head (match_map body chosen)) atom.terms) (Plain variable)
      → (fact : Fact Term) × Contains chosen fact × Contains fact.terms (Plain variable)
  made_is_met Holds number body head is_rule chosen matches variable atom in_head inside =
      let from = Contains-map_from (extended number body head (match_map body chosen)) atom.terms (Plain variable) inside in
      elim (extended-flat number body head (match_map body chosen) from.0 (λ text. taken-Const (terms_of body) (terms_of chosen) text)
      (is_rule.flat_head from.0 (atom, in_head, from.1))) [
        | inl constant ↦ absurd (Const-apart-Plain constant.0 variable (sym constant.2 ∙ from.2))
        | inr other ↦ elim other [
          | inl in_body ↦ at_body Holds (tuple body head) is_rule chosen matches variable from.0 in_body.0 (sym in_body.1 ∙ from.2)
          | inr new ↦ absurd (Plain-apart-Made variable number new.0 _ (sym from.2 ∙ new.3))
        ]
      ]

  asked_is_met : (Holds : Claim → Type 0) (number : ℕ) (rule : Rule) → Contains rules rule → (chosen : List (Fact Term)) → IsMatch Holds (body_of rule) chosen
      → (claim : Claim) → IsAsked number rule (match_map (body_of rule) chosen) claim → (variable : ℕ) → IsAbout claim (Plain variable)
      → (fact : Fact Term) × Contains chosen fact × Contains fact.terms (Plain variable)
  asked_is_met Holds number (tuple body head) in_rules chosen matches claim (atom, inside, is) variable about =
      made_is_met Holds number body head (are_rules (tuple body head) in_rules) chosen matches variable atom inside
      (subst (λ it. IsAbout it (Plain variable)) is about)
  asked_is_met Holds number (equality body left right) in_rules chosen matches claim is variable about =
      let rule = are_rules (equality body left right) in_rules in
      elim (subst (λ it. IsAbout it (Plain variable)) is about) [
        | inl here ↦ at_fixed Holds (equality body left right) rule chosen matches variable left rule.left_fixed here
        | inr here ↦ at_fixed Holds (equality body left right) rule chosen matches variable right rule.right_fixed here
      ]
  asked_is_met Holds number (denial body) in_rules chosen matches claim asked variable about = absurd asked

  -- ---- entries

  module _ (entries : List Entry) (all : (entry : Entry) → Contains entries entry → RestsOn expanded (IsAbout entry.claim) entry.product)
      (places : List ℕ) (product : List Bool) (union : IsUnion entries places product) where
    abbrev Found : ℕ → Type 0
    Found variable = (fact : ExpandedFact) × Contains expanded fact × Has product fact.atom × Contains fact.fact.terms (Plain variable)

    in_product : (place : ℕ) (entry : Entry) → Contains places place → slice_get entries place ≡ Some entry → (number : ℕ) → Has entry.product number
        → Has product number
    in_product place entry inside at number has = (union.exact number).1 (place, entry, inside, at, has)

    place_some : (place : ℕ) (claim : Claim) → Contains places place → Claims entries place claim → (number : ℕ) × Has product number
    place_some place claim inside (entry, at, is) =
        let some = (all entry (Contains-at entries place entry at)).some in
        (some.0, in_product place entry inside at some.0 some.1)

    place_found : (place : ℕ) (claim : Claim) → Contains places place → Claims entries place claim → (variable : ℕ) → IsAbout claim (Plain variable)
        → Found variable
    place_found place claim inside (entry, at, is) variable about =
        let found = (all entry (Contains-at entries place entry at)).variables variable (subst (λ it. IsAbout it (Plain variable)) (sym is) about) in
        (found.0, found.1, in_product place entry inside at found.0.atom found.2, found.3)

    -- the ends of a chain stand in its equalities
    chain_end : (variable : ℕ) (some : List ℕ) (term other : Term) → ((place : ℕ) → Contains some place → Contains places place)
        → (term ≡ Plain variable → Found variable) → IsChain entries some term other → other ≡ Plain variable → Found variable
    chain_end variable [] term other among first is end = first (is ∙ end)
    chain_end variable (place ∷ more) term other among first (next, inl claims, rest) end =
        chain_end variable more next other (λ it inside. among it (Contains-rest place more it inside))
        (λ same. place_found place (Same term next) (among place (Contains-head place more)) claims variable (inr same)) rest end
    chain_end variable (place ∷ more) term other among first (next, inr claims, rest) end =
        chain_end variable more next other (λ it inside. among it (Contains-rest place more it inside))
        (λ same. place_found place (Same next term) (among place (Contains-head place more)) claims variable (inl same)) rest end

    chain_start : (variable : ℕ) (some : List ℕ) (term other : Term) → some ≢ [] → ((place : ℕ) → Contains some place → Contains places place)
        → IsChain entries some term other → term ≡ Plain variable → Found variable
    chain_start variable [] term other full among is same = absurd (full refl)
    chain_start variable (place ∷ more) term other full among (next, inl claims, rest) same =
        place_found place (Same term next) (among place (Contains-head place more)) claims variable (inl same)
    chain_start variable (place ∷ more) term other full among (next, inr claims, rest) same =
        place_found place (Same next term) (among place (Contains-head place more)) claims variable (inr same)

    chain_some : (some : List ℕ) (term other : Term) → some ≢ [] → ((place : ℕ) → Contains some place → Contains places place)
        → IsChain entries some term other → (number : ℕ) × Has product number
    chain_some [] term other full among is = absurd (full refl)
    chain_some (place ∷ more) term other full among (next, inl claims, rest) =
        place_some place (Same term next) (among place (Contains-head place more)) claims
    chain_some (place ∷ more) term other full among (next, inr claims, rest) =
        place_some place (Same next term) (among place (Contains-head place more)) claims

    chain_rests : (term other : Term) (claim : Claim) → claim ≡ Same term other → places ≢ [] → IsChain entries places term other
        → RestsOn expanded (IsAbout claim) product
    chain_rests term other claim is full chain = record {
      some = chain_some places term other full (λ place inside. inside) chain;
      variables = λ variable about. elim (subst (λ it. IsAbout it (Plain variable)) is about) [
        | inl first ↦ chain_start variable places term other full (λ place inside. inside) chain first
        | inr last ↦ chain_end variable places term other (λ place inside. inside)
            (λ first. chain_start variable places term other full (λ place inside. inside) chain first) chain last
      ];
    }

    -- a match has a fact, and a variable of its facts stands where they rest
    facts_some : (facts : List ℕ) (body chosen : List (Fact Term)) → body ≢ []
        → AllZip (λ (place : ℕ) (fact : Fact Term). Claims entries place (Stated fact)) facts chosen
        → AreChosen (IsNamed entries places) body chosen → ((place : ℕ) → Contains facts place → Contains places place) → (number : ℕ) × Has product number
    facts_some facts [] chosen full stated are among = absurd (full refl)
    facts_some facts (atom ∷ body) [] full stated are among = absurd are
    facts_some [] (atom ∷ body) (fact ∷ chosen) full stated are among = absurd stated
    facts_some (place ∷ facts) (atom ∷ body) (fact ∷ chosen) full stated are among =
        place_some place (Stated fact) (among place (Contains-head place facts)) stated.0

    step_rests : (number : ℕ) (rule : Rule) → Contains rules rule → (claim : Claim) → FollowsBy entries number rule places claim
        → RestsOn expanded (IsAbout claim) product
    step_rests number rule in_rules claim by =
        let among : (place : ℕ) → Contains by.facts place → Contains places place =
        (λ place inside. subst (λ it. Contains it place) (sym by.in_order) (Contains-append_left by.facts by.links place inside)) in
        record {
          some = facts_some by.facts (body_of rule) by.chosen (has_body rule (are_rules rule in_rules)) by.stated by.matches.0 among;
          variables = λ variable about.
              let met = asked_is_met (IsNamed entries places) number rule in_rules by.chosen by.matches claim by.asked variable about in
              let at = zip_right (λ (place : ℕ) (fact : Fact Term). Claims entries place (Stated fact)) by.facts by.chosen by.stated met.0 met.1 in
              place_found at.0 (Stated met.0) (among at.0 at.1) at.2 variable met.2;
        }

  follows_rests : (entries : List Entry) (claim : Claim) (product : List Bool) (reason : Reason)
      → ((entry : Entry) → Contains entries entry → RestsOn expanded (IsAbout entry.claim) entry.product)
      → Follows expanded rules entries claim product reason → RestsOn expanded (IsAbout claim) product
  follows_rests entries claim product (Expanded atom place) all (fact, inside, is_atom, is_place, is, has) =
      let own : Has product fact.atom = (has fact.atom).1 is_atom in
      record {
        some = (fact.atom, own);
        variables = λ variable about. (fact, inside, own, subst (λ it. IsAbout it (Plain variable)) is about);
      }
  follows_rests entries claim product (Step number places) all (rule, at, by, union) =
      step_rests entries all places product union number rule (Contains-at rules number rule at) claim by
  follows_rests entries claim product (Equal places) all (full, term, other, is, chain, union) =
      chain_rests entries all places product union term other claim is full chain

pub claims_rest : DerivedClaimsRestOnAtoms
claims_rest expanded rules entries are_rules derived entry inside =
    all_derived (λ claim product. RestsOn expanded (IsAbout claim) product) expanded rules entries
    (λ before claim product reason all follows. follows_rests expanded rules are_rules before claim product reason all follows) derived entry inside
