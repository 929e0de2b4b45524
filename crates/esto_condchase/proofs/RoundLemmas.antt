-- What a round adds, step by step.
use Rattle.std.proofs.Common.{◌≡◌, ◌<◌, ◌≤◌, ◌+◌, inl, inr, ℕ, Bool, true, cond, List, [], ◌∷◌, ◌++◌, length, map, take, get_or, slice_get, Contains, Some}
use Rattle.std.proofs.Common.{refl, sym, ap, ◌∙◌, subst, arith}
use Rattle.std.specs.List.{AllZip}
use Rattle.std.proofs.lemmas.Bool.{cases_order, and_parts}
use Rattle.std.proofs.lemmas.List.{take_all}
use Rattle.std.proofs.lemmas.List.Elements.{Contains-append_cases, Contains-append_left, Contains-append_right, Contains-push_cases}
use Rattle.std.proofs.lemmas.Option.{slice_get_within}
use Rattle.esto_term.specs.declared.term.Term.{Term, out-Term}
use Rattle.esto_semantics.specs.Facts.{image, terms_of}
use Rattle.esto_semantics.specs.Rules.{Rule, tuple, equality, denial, body_of}
use Rattle.esto_semantics.specs.declared.fact.Fact.{Fact}
use Rattle.esto_term.proofs.ListLemmas.{Contains-nil, Contains-head, Contains-rest, map_at, map_agree, Contains-flat, Contains-filter_from}
use Rattle.esto_term.proofs.ZipLemmas.{zip_weaker}
use Rattle.esto_constraint.specs.Constraints.{rule_of, rules_of}
use Rattle.esto_constraint.specs.declared.rule.Constraint.{Constraint}
use Rattle.esto_semantics.specs.declared.expanded.ExpandedFact.{ExpandedFact}
use Rattle.esto_chase_laws.specs.Worlds.{InWorld, Linked}
use Rattle.esto_chase_laws.specs.WorldMatches.{taken, Touching, AreChosen, match_map}
use Rattle.esto_chase_laws.specs.Making.{is_variable_level, is_variable_of, frontier, made_for, extended}
use Rattle.esto_chase_laws.proofs.JoinedLemmas.{joined_from}
use Rattle.esto_chase_laws.proofs.MakingLemmas.{in_terms-Decides}
use Rattle.esto_term.specs.Order.{same_term}
use Rattle.esto_semantics.proofs.TermLemmas.{same_term-Decides}
use Rattle.std.specs.List.{filter}
use Rattle.std.specs.Set.{is_member}
use Rattle.esto_chase_laws.specs.WorldSteps.{IsAsked, IsCovered, AreAnswered}
use Rattle.esto_chase_laws.specs.Derived.{Claims, IsNamed, FollowsBy, Follows}
use Rattle.esto_chase_laws.specs.declared.entry.Claim.{Claim}
use Rattle.esto_chase_laws.specs.declared.entry.Claim.TheVariants.{Fact as Stated, Same}
use Rattle.esto_chase_laws.specs.declared.entry.Reason.TheVariants.{Step}
use Rattle.esto_chase_laws.specs.declared.entry.Entry.{Entry}
use Rattle.esto_chase_laws.proofs.LinkLemmas.{Linked-touching, Touching-more}
use Rattle.esto_chase_laws.proofs.GrowLemmas.{InWorld-more, IsCovered-more}
use Rattle.esto_prov.specs.Taking.{made_of}
use Rattle.esto_condchase.specs.Ways.{AgreeOn, IsFound, MeetOne}
use Rattle.esto_condchase.specs.News.{AreFoundAnew}
use Rattle.esto_condchase.specs.Rounds.{IsNoted, AsksMore, IsAnswered, IsRuleAnswered, sides_asked, terms_asked}
use Rattle.esto_known.specs.Added.{IsThere}
use Rattle.esto_known.specs.declared.way.Way.{Way}
use Rattle.esto_term.proofs.PlaceLemmas.{take-item}
use Rattle.esto_condchase.proofs.AskLemmas.{IsThere-grows, AsksMore-then, noted_asks, noted_there}

-- ---- what a rule asks for follows

chosen_named : (entries : List Entry) (all facts : List ℕ) (body chosen : List (Fact Term)) → ((place : ℕ) → Contains facts place → Contains all place)
    → AllZip (λ (place : ℕ) (fact : Fact Term). Claims entries place (Stated fact)) facts chosen
    → AllZip (λ (atom : Fact Term) (fact : Fact Term). (fact.relation ≡ atom.relation) × (length fact.terms ≡ length atom.terms)) body chosen
    → AreChosen (IsNamed entries all) body chosen
chosen_named entries all facts [] [] among stated alike = tt
chosen_named entries all facts [] (fact ∷ chosen) among stated alike = absurd alike
chosen_named entries all facts (atom ∷ body) [] among stated alike = absurd alike
chosen_named entries all [] (atom ∷ body) (fact ∷ chosen) among stated alike = absurd stated
chosen_named entries all (place ∷ facts) (atom ∷ body) (fact ∷ chosen) among stated alike = (
  ((place, among place (Contains-head place facts), stated.0), alike.0.0, alike.0.1),
  chosen_named entries all facts body chosen (λ other inside. among other (Contains-rest place facts other inside)) stated.1 alike.1,
)

module _ (entries : List Entry) (number : ℕ) (rule : Rule) (way : Way) (found : IsFound entries (body_of rule) way) where
  abbrev places : List ℕ
  places = way.facts ++ way.links

  linked_places : (c : Claim) → IsNamed entries way.links c → IsNamed entries places c
  linked_places c (place, inside, claims) = (place, Contains-append_right way.facts way.links place inside, claims)

  follows_found : (claim : Claim) → IsAsked number rule (taken (terms_of (body_of rule)) way.to) claim → FollowsBy entries number rule places claim
  follows_found claim asked = record {
    facts = way.facts;
    links = way.links;
    in_order = refl;
    chosen = found.chosen;
    stated = found.stated;
    equalities = found.is_way.equalities;
    matches = (
      chosen_named entries places way.facts (body_of rule) found.chosen (λ place inside. Contains-append_left way.facts way.links place inside) found.stated
          found.alike,
      zip_weaker (Touching (IsNamed entries way.links)) (Linked (IsNamed entries places)) (terms_of found.chosen)
          (map (match_map (body_of rule) found.chosen) (terms_of (body_of rule)))
          (λ s t _ one. Linked-touching s t (Touching-more linked_places s t one)) found.is_way.fits,
    );
    asked = subst (λ it. IsAsked number rule (taken (terms_of (body_of rule)) it) claim) found.is_way.to_is asked;
  }

  module _ (rules : List Rule) (at : slice_get rules number ≡ Some rule) (more : List Entry) (claim : Claim)
      (asked : IsAsked number rule (taken (terms_of (body_of rule)) way.to) claim) where
    pub asked_follows : (expanded : List ExpandedFact) → Follows expanded rules entries claim way.product (Step number places)
    asked_follows expanded = (rule, at, follows_found claim asked, found.is_way.union)

    pub asked_asks : (later : List Entry) → IsNoted entries more claim way.product (Step number places) later
        → AsksMore rules (length way.product) entries more later
    asked_asks later noted = noted_asks rules (length way.product) entries more later claim way.product (Step number places) noted refl asked_follows

    pub asked_there : (later : List Entry) → IsNoted entries more claim way.product (Step number places) later → IsThere (entries ++ later) claim way.product
    asked_there later noted = noted_there rules (length way.product) entries more later claim way.product (Step number places) noted

pub side_is : (its_from from terms its_to to : List Term) (term it : Term) → its_from ≡ from → from ≡ terms → its_to ≡ to → it ≡ taken its_from its_to term → it
    ≡ taken terms to term
side_is its_from from terms its_to to term it same from_is same_to is = is ∙ (λ i. taken ((same ∙ from_is) i) (same_to i) term)

pub values_are : (body head : List (Fact Term)) (its_from from its_to to values its_shared shared : List Term) → its_from ≡ from → from ≡ terms_of body
    → its_to ≡ to → its_shared ≡ shared → shared ≡ frontier body head → values ≡ map (taken its_from its_to) its_shared
    → values ≡ map (taken (terms_of body) to) (frontier body head)
values_are body head its_from from its_to to values its_shared shared same from_is same_to same_shared shared_is are =
    are ∙ (λ i. map (taken ((same ∙ from_is) i) (same_to i)) ((same_shared ∙ shared_is) i))

pub made_is : (number : ℕ) (body head : List (Fact Term)) (its_from from its_to to values : List Term) (atom fact : Fact Term) → its_from ≡ from
    → from ≡ terms_of body → its_to ≡ to → values ≡ map (taken (terms_of body) to) (frontier body head)
    → fact ≡ image (made_of number its_from its_to values) atom → fact ≡ image (extended number body head (taken (terms_of body) to)) atom
made_is number body head its_from from its_to to values atom fact same from_is same_to values_is is =
    is ∙ (λ i. image (made_of number ((same ∙ from_is) i) (same_to i) (values_is i)) atom)

-- one atom of a head more
module _ (rules : List Rule) (number : ℕ) (body head : List (Fact Term)) (at : slice_get rules number ≡ Some (tuple body head)) (entries : List Entry)
    (way : Way) (found : IsFound entries body way) where
  abbrev m : Term → Term
  m = extended number body head (taken (terms_of body) way.to)

  abbrev AreThere : List Entry → List (Fact Term) → Type 0
  AreThere more atoms = (atom : Fact Term) → Contains atoms atom → IsThere (entries ++ more) (Stated (image m atom)) way.product

  pub head_turn : (items : List (Fact Term)) (place : ℕ) (atom fact : Fact Term) (first more later : List Entry) → items ≡ head → place < length items → atom
      ≡ get_or items place atom → fact ≡ image m atom
      → IsNoted entries more (Stated fact) way.product (Step number (way.facts ++ way.links)) later → AsksMore rules (length way.product) entries first more
      → AreThere more (take place items)
      → AsksMore rules (length way.product) entries first later × AreThere later (take (place + 1) items)
  head_turn items place atom fact first more later items_are within is fact_is added grows there =
      let in_head : Contains head atom = subst (λ it. Contains it atom) items_are (place, within, sym is) in
      let its : IsNoted entries more (Stated (image m atom)) way.product (Step number (way.facts ++ way.links)) later =
      subst (λ it. IsNoted entries more (Stated it) way.product (Step number (way.facts ++ way.links)) later) fact_is added in
      let asked : IsAsked number (tuple body head) (taken (terms_of body) way.to) (Stated (image m atom)) = (atom, in_head, refl) in
      let step = asked_asks entries number (tuple body head) way found rules at more (Stated (image m atom)) asked later its in (
        AsksMore-then rules (length way.product) entries first more later grows step,
        rw (take-item items place atom within is) (λ other inside. elim (Contains-push_cases (take place items) atom other inside) [
          | inl earlier ↦ IsThere-grows entries more later step.kept (Stated (image m other)) way.product (there other earlier)
          | inr same ↦ subst (λ it. IsThere (entries ++ later) (Stated (image m it)) way.product) same
              (asked_there entries number (tuple body head) way found rules at more (Stated (image m atom)) asked later its)
        ]),
      )

  pub head_all : (items : List (Fact Term)) (place : ℕ) (more : List Entry) → items ≡ head → length items ≤ place → AreThere more (take place items)
      → IsAnswered (entries ++ more) number (tuple body head) way
  head_all items place more items_are past there claim (atom, inside, is) =
      subst (λ it. IsThere (entries ++ more) it way.product) (sym is) (there atom
      (rw (take_all place items past) (subst (λ it. Contains it atom) (sym items_are) inside)))

-- ---- all ways of a rule

frontier_head : (body head : List (Fact Term)) (term : Term) → Contains (frontier body head) term → Contains (terms_of head) term
frontier_head body head term inside = elim (joined_from same_term same_term-Decides (filter (is_variable_of head) (terms_of body)) [] term inside) [
  | inl none ↦ absurd (Contains-nil term none)
  | inr passed ↦ (in_terms-Decides head term).0 (both (Contains-filter_from (is_variable_of head) (terms_of body) term passed).1)
]
  where
    both : is_variable_of head term ≡ true → is_member same_term (terms_of head) term ≡ true
    both is = (and_parts (is_variable_level (out-Term term)) (is_member same_term (terms_of head) term) is).1

-- what a rule asks for depends on what the terms meet that tell it
IsAsked-agree : (number : ℕ) (rule : Rule) (m other : Term → Term) → ((term : Term) → Contains (terms_asked rule) term → m term ≡ other term) → (claim : Claim)
    → IsAsked number rule m claim → IsAsked number rule other claim
IsAsked-agree number (tuple body head) m other agree claim (atom, inside, is) = (
  atom,
  inside,
  is ∙ ap Stated (λ i. record {
    relation = atom.relation;
    terms = map_agree (extended number body head m) (extended number body head other) atom.terms
        (λ term its. extended_agree term (Contains-flat (λ (it : Fact Term). it.terms) head atom term inside its)) i;
  }),
)
  where
    values : map m (frontier body head) ≡ map other (frontier body head)
    values = map_agree m other (frontier body head) (λ term its. agree term (frontier_head body head term its))

    extended_agree : (term : Term) → Contains (terms_of head) term → extended number body head m term ≡ extended number body head other term
    extended_agree term its = λ i. cond (is_member same_term (terms_of body) term) (agree term its i) (made_for number (values i) term)
IsAsked-agree number (equality body left right) m other agree claim is =
    is ∙ (λ i. Same (agree left (Contains-head left (right ∷ [])) i) (agree right (Contains-rest left (right ∷ []) right (Contains-head right [])) i))
IsAsked-agree number (denial body) m other agree claim asked = asked

-- where an equality rule's sides meet terms that are one, what it asks for is there
one_covered : (entries : List Entry) (number : ℕ) (rule : Rule) (from to : List Term) (set : List Bool) (claim : Claim)
    → MeetOne entries (sides_asked rule) from to set → IsAsked number rule (taken from to) claim → IsCovered (InWorld entries set) claim
one_covered entries number (tuple body head) from to set claim (one, other, is, in_one, in_other, touches) asked =
    let long : 0 ≡ length (one ∷ other ∷ []) = ap length is in absurd (omega (arith, long))
one_covered entries number (equality body left right) from to set claim (one, other, is, in_one, in_other, touches) asked =
    let left_is : left ≡ one = ap (λ it. get_or it 0 left) is in
    let right_is : right ≡ other = ap (λ it. get_or it 1 right) is in
    subst (IsCovered (InWorld entries set)) (sym asked)
    (subst (λ it. Touching (InWorld entries set) (taken from to it) (taken from to right)) (sym left_is)
    (subst (λ it. Touching (InWorld entries set) (taken from to one) (taken from to it)) (sym right_is) touches))
one_covered entries number (denial body) from to set claim one asked = absurd asked

pub IsAnswered-grows : (entries more later : List Entry) (number : ℕ) (rule : Rule) (way : Way) → ((entry : Entry) → Contains more entry → Contains later entry)
    → IsAnswered (entries ++ more) number rule way → IsAnswered (entries ++ later) number rule way
IsAnswered-grows entries more later number rule way kept answered claim asked = IsThere-grows entries more later kept claim way.product (answered claim asked)

module _ (rules : List Rule) (count : ℕ) (entries : List Entry) (number : ℕ) (rule : Rule) (ways : List Way) where
  pub ways_turn : (place : ℕ) (way : Way) (first more later : List Entry) → place < length ways → way ≡ get_or ways place way → length way.product ≡ count
      → AsksMore rules count entries first more
      → ((its : Way) → Contains (take place ways) its → IsAnswered (entries ++ more) number rule its) → AsksMore rules (length way.product) entries more later
      → IsAnswered (entries ++ later) number rule way
      → AsksMore rules count entries first later × ((its : Way) → Contains (take (place + 1) ways) its → IsAnswered (entries ++ later) number rule its)
  ways_turn place way first more later within is counted grows answered step here =
      let step_count : AsksMore rules count entries more later = subst (λ it. AsksMore rules it entries more later) counted step in (
        AsksMore-then rules count entries first more later grows step_count,
        rw (take-item ways place way within is) (λ its inside. elim (Contains-push_cases (take place ways) way its inside) [
          | inl earlier ↦ IsAnswered-grows entries more later number rule its step.kept (answered its earlier)
          | inr same ↦ subst (IsAnswered (entries ++ later) number rule) same here
        ]),
      )

  pub ways_all : (since : ℕ) (more : List Entry) → AreFoundAnew entries since (body_of rule) (terms_asked rule) (sides_asked rule) ways
      → IsRuleAnswered (take since entries) entries number rule
      → ((its : Way) → Contains ways its → IsAnswered (entries ++ more) number rule its) → IsRuleAnswered entries (entries ++ more) number rule
  ways_all since more found before answered atoms chosen matches claim asked = elim (found.complete atoms chosen matches) [
    | inl older ↦
        IsCovered-more (InWorld-more entries (entries ++ more) atoms (λ entry inside. Contains-append_left entries more entry inside)) claim
        (before atoms older.0 older.2 claim (asked_too (terms_of older.0) older.1))
    | inr (inr one) ↦
        IsCovered-more (InWorld-more entries (entries ++ more) atoms (λ entry inside. Contains-append_left entries more entry inside)) claim
        (one_covered entries number rule (terms_of (body_of rule)) (terms_of chosen) atoms claim one asked)
    | inr (inl way) ↦ answered way.0 way.1 claim (asked_too way.0.to way.2) atoms way.3
  ]
    where
      asked_too : (to : List Term) → AgreeOn (terms_asked rule) (terms_of (body_of rule)) to (terms_of chosen)
          → IsAsked number rule (taken (terms_of (body_of rule)) to) claim
      asked_too to agree = IsAsked-agree number rule (match_map (body_of rule) chosen) (taken (terms_of (body_of rule)) to)
          (λ term its. sym (agree term its)) claim asked

pub found_of : (entries its_entries : List Entry) (since : ℕ) (body its_body : List (Fact Term)) (live its_live sides its_sides : List Term)
    (ways : List Way) → its_entries ≡ entries → its_body ≡ body → its_live ≡ live → its_sides ≡ sides
    → AreFoundAnew its_entries since its_body its_live its_sides ways → AreFoundAnew entries since body live sides ways
found_of entries its_entries since body its_body live its_live sides its_sides ways same_entries same same_live same_sides found =
    subst (λ it. AreFoundAnew it since body live sides ways) same_entries
    (subst (λ it. AreFoundAnew its_entries since it live sides ways) same (subst (λ it. AreFoundAnew its_entries since its_body it sides ways) same_live
    (subst (λ it. AreFoundAnew its_entries since its_body its_live it ways) same_sides found)))

-- ---- all rules

among_more : (entries more later : List Entry) → ((entry : Entry) → Contains more entry → Contains later entry) → (entry : Entry)
    → Contains (entries ++ more) entry → Contains (entries ++ later) entry
among_more entries more later kept entry inside = elim (Contains-append_cases entries more entry inside) [
  | inl here ↦ Contains-append_left entries later entry here
  | inr last ↦ Contains-append_right entries later entry (kept entry last)
]

pub IsRuleAnswered-grows : (old entries more later : List Entry) (number : ℕ) (rule : Rule) → ((entry : Entry) → Contains more entry → Contains later entry)
    → IsRuleAnswered old (entries ++ more) number rule → IsRuleAnswered old (entries ++ later) number rule
IsRuleAnswered-grows old entries more later number rule kept answered atoms chosen matches claim asked =
    IsCovered-more (InWorld-more (entries ++ more) (entries ++ later) atoms (among_more entries more later kept)) claim
    (answered atoms chosen matches claim asked)

pub rule_at : (rules : List Constraint) (place : ℕ) (rule : Constraint) → slice_get rules place ≡ Some rule → slice_get (rules_of rules) place
    ≡ Some (rule_of rule)
rule_at rules place rule at = map_at rule_of rules place rule at

-- a denial asks for nothing
pub IsRuleAnswered-denial : (old new : List Entry) (number : ℕ) (body : List (Fact Term)) → IsRuleAnswered old new number (denial body)
IsRuleAnswered-denial old new number body atoms chosen matches claim asked = absurd asked

pub rules_turn : (rules : List Rule) (count : ℕ) (entries more later : List Entry) (place : ℕ) (rule : Rule) → slice_get rules place ≡ Some rule
    → AsksMore rules count entries [] more
    → ((number : ℕ) (its : Rule) → number < place → slice_get rules number ≡ Some its → IsRuleAnswered entries (entries ++ more) number its)
    → AsksMore rules count entries more later → IsRuleAnswered entries (entries ++ later) place rule
    → AsksMore rules count entries [] later × ((number : ℕ) (its : Rule) → number < place + 1 → slice_get rules number ≡ Some its
    → IsRuleAnswered entries (entries ++ later) number its)
rules_turn rules count entries more later place rule at grows answered step here = (
  AsksMore-then rules count entries [] more later grows step,
  (λ number its below at_its. elim (cases_order number place) [
    | inl is ↦
        let both : Some rule ≡ Some its = sym at ∙ ap (slice_get rules) (sym is) ∙ at_its in
        let same : rule ≡ its = cc in
        subst (λ it. IsRuleAnswered entries (entries ++ later) it its) (sym is) (subst (IsRuleAnswered entries (entries ++ later) place) same here)
    | inr apart ↦ elim apart [
      | inl lower ↦ IsRuleAnswered-grows entries entries more later number its step.kept (answered number its lower at_its)
      | inr above ↦ absurd (omega (arith, below, above))
    ]
  ]),
)

pub rules_all : (rules : List Rule) (entries new : List Entry) (place : ℕ) → length rules ≤ place
    → ((number : ℕ) (its : Rule) → number < place → slice_get rules number ≡ Some its → IsRuleAnswered entries new number its) → AreAnswered rules entries new
rules_all rules entries new place past answered atoms number rule at chosen matches claim asked =
    answered number rule (let below = slice_get_within rules number rule at in omega (arith, below, past)) at atoms chosen matches claim asked

-- ---- the round

pub AreAnswered-grows : (rules : List Rule) (old entries more later : List Entry) → ((entry : Entry) → Contains more entry → Contains later entry)
    → AreAnswered rules old (entries ++ more) → AreAnswered rules old (entries ++ later)
AreAnswered-grows rules old entries more later kept answered atoms number rule at chosen matches claim asked =
    IsCovered-more (InWorld-more (entries ++ more) (entries ++ later) atoms (among_more entries more later kept)) claim
    (answered atoms number rule at chosen matches claim asked)

-- ---- what the loops keep

-- What is asked for more follows by the rules, and so much is answered.
pub record AreAnsweredSoFar (rules : List Rule) (count : ℕ) (entries start more : List Entry) (Answered : Type 0) : Type 0 where
  pub grows : AsksMore rules count entries start more
  pub answered : Answered
