-- What derived entries claim is made of a finite stock, and nests within ranks.
use Rattle.std.proofs.Common.{◌≡◌, ◌⊎◌, ◌<◌, ◌≤◌, inl, inr, ℕ, Bool, List, [], ◌∷◌, length, map, slice_get, Contains, Some, refl, sym, ap, ◌∙◌, subst, arith}
use Rattle.std.proofs.Common.{length-append}
use Rattle.std.specs.List.{flat_map}
use Rattle.std.proofs.lemmas.List.{length-map}
use Rattle.std.proofs.lemmas.List.Elements.{Contains-append_left, Contains-append_right}
use Rattle.esto_term.specs.Finite.{Stock, IsMadeOf}
use Rattle.esto_term.specs.Finite.IsMadeOf.{constant as of_constant, made as of_made}
use Rattle.esto_term.specs.Nesting.{nesting, nesting_above}
use Rattle.esto_term.specs.declared.term.Term.{Term, out-Term}
use Rattle.esto_term.specs.declared.term.Term.TheVariants.{Const, Plain, Made, outs-Const}
use Rattle.esto_term.proofs.ListLemmas.{Contains-head, Contains-rest, Contains-map, Contains-map_from, Contains-flat, Contains-at}
use Rattle.esto_term.proofs.NestingLemmas.{nesting-Const, nesting-Plain, nesting-Made}
use Rattle.esto_term.proofs.ZipLemmas.{zip_right}
use Rattle.esto_semantics.specs.Facts.{Mentions, terms_of}
use Rattle.esto_semantics.specs.Maps.{AreFlat, IsConstant, IsFixedBy}
use Rattle.esto_semantics.specs.Queries.{ConjunctiveQuery}
use Rattle.esto_semantics.specs.Rules.{Rule, tuple, equality, denial, body_of, AreRules}
use Rattle.esto_semantics.specs.declared.fact.Fact.{Fact}
use Rattle.esto_semantics.proofs.CanonicalLemmas.{Mentions-terms_of}
use Rattle.esto_chase_laws.specs.Bounds.{RanksRise, rule_terms, first_terms, stock_of, width_of, texts_of_level}
use Rattle.esto_chase_laws.specs.Making.{frontier, extended}
use Rattle.esto_chase_laws.proofs.LowLemmas.{Serves, IsLow, above_le}
use Rattle.esto_chase_laws.proofs.MakingLemmas.{terms_of-Mentions, frontier_body, extended-flat}
use Rattle.esto_chase_laws.proofs.StockLemmas.{stock-Serves, flat_longer}
use Rattle.esto_semantics.specs.Expanded.{facts_of}
use Rattle.esto_semantics.specs.declared.expanded.ExpandedFact.{ExpandedFact}
use Rattle.esto_chase_laws.specs.WorldBounds.{start_from, relations_of, head_relations, claimed_relations}
use Rattle.esto_chase_laws.specs.WorldMatches.{AreChosen, match_map, IsMatch}
use Rattle.esto_chase_laws.specs.WorldSteps.{IsAsked}
use Rattle.esto_chase_laws.specs.Derived.{IsNamed, IsChain, Follows, AreDerived}
use Rattle.esto_chase_laws.specs.declared.entry.Claim.{Claim}
use Rattle.esto_chase_laws.specs.declared.entry.Claim.TheVariants.{Fact as Stated, Same}
use Rattle.esto_chase_laws.specs.declared.entry.Reason.{Reason}
use Rattle.esto_chase_laws.specs.declared.entry.Reason.TheVariants.{Expanded, Step, Equal}
use Rattle.esto_chase_laws.specs.declared.entry.Entry.{Entry}
use Rattle.esto_chase_laws.proofs.TakenLemmas.{taken-Const, taken_in}
use Rattle.esto_chase_laws.proofs.InductionLemmas.{all_derived}

pub chosen_length : (Holds : Claim → Type 0) (body chosen : List (Fact Term)) → AreChosen Holds body chosen → length (terms_of body) ≡ length (terms_of chosen)
chosen_length Holds [] [] are = refl
chosen_length Holds [] (fact ∷ chosen) are = absurd are
chosen_length Holds (atom ∷ body) [] are = absurd are
chosen_length Holds (atom ∷ body) (fact ∷ chosen) are = let rest = chosen_length Holds body chosen are.1 in
    omega (arith, length-append atom.terms (terms_of body), length-append fact.terms (terms_of chosen), rest, are.0.2)

module _ (rules : List Rule) (facts : List (Fact Term)) (rank : ℕ → ℕ) where
  abbrev pub start : ConjunctiveQuery
  start = start_from facts

  abbrev pub stock : Stock
  stock = stock_of rules start

  abbrev pub width : ℕ
  width = width_of rules start

  -- the term is made of the stock, and nests no deeper than the rank of some relation
  abbrev pub IsSomewhereLow : Term → Type 0
  IsSomewhereLow term = (relation : ℕ) × IsLow stock width (rank relation) term

  -- the claim is made of the stock; a term of a fact nests no deeper than the rank of the fact's relation
  abbrev pub IsClaimWithin : Claim → Type 0
  IsClaimWithin (Stated fact) =
      Contains (claimed_relations rules facts) fact.relation × (length fact.terms ≤ width)
      × ((term : Term) → Contains fact.terms term → IsLow stock width (rank fact.relation) term)
  IsClaimWithin (Same left right) = IsSomewhereLow left × IsSomewhereLow right

  -- ---- the rules' terms and relations

  in_body_terms : (rule : Rule) (term : Term) → Mentions (body_of rule) term → Contains (rule_terms rule) term
  in_body_terms (tuple body head) term inside = Contains-append_left (terms_of body) (terms_of head) term (Mentions-terms_of body term inside)
  in_body_terms (equality body left right) term inside =
      Contains-rest left (right ∷ terms_of body) term (Contains-rest right (terms_of body) term (Mentions-terms_of body term inside))
  in_body_terms (denial body) term inside = Mentions-terms_of body term inside

  body_text : (rule : Rule) → Contains rules rule → (text : List ℕ) → Mentions (body_of rule) (Const text) → Contains stock.texts text
  body_text rule in_rules text inside =
      Contains-flat (λ term. texts_of_level (out-Term term)) (first_terms rules start) (Const text) text
      (Contains-append_right (terms_of facts) (flat_map rule_terms rules) (Const text)
      (Contains-flat rule_terms rules rule (Const text) in_rules (in_body_terms rule (Const text) inside)))
      (rw (outs-Const text) (Contains-head text []))

  head_relation : (body head : List (Fact Term)) → Contains rules (tuple body head) → (atom : Fact Term) → Contains head atom
      → Contains (claimed_relations rules facts) atom.relation
  head_relation body head in_rules atom inside =
      Contains-append_right (relations_of facts) (flat_map head_relations rules) atom.relation
      (Contains-flat head_relations rules (tuple body head) atom.relation in_rules (Contains-map (λ (it : Fact Term). it.relation) head atom inside))

  head_width : (body head : List (Fact Term)) → Contains rules (tuple body head) → (atom : Fact Term) → Contains head atom → length atom.terms ≤ width
  head_width body head in_rules atom inside = omega (
    arith,
    flat_longer (λ (it : Fact Term). it.terms) head atom inside,
    length-append (terms_of body) (terms_of head),
    flat_longer rule_terms rules (tuple body head) in_rules,
    length-append (terms_of facts) (flat_map rule_terms rules),
  )

  -- ---- what a rule asks for at a match

  module _ (sound : AreRules rules) (serves : Serves stock width rules start) (rise : RanksRise rules rank)
      (Holds : Claim → Type 0) (all : (claim : Claim) → Holds claim → IsClaimWithin claim) where
    text_low : (bound : ℕ) (text : List ℕ) → Contains stock.texts text → IsLow stock width bound (Const text)
    text_low bound text inside = (of_constant text inside, omega (arith, nesting-Const text))

    -- what a constant meets is itself
    at_constant : (body chosen : List (Fact Term)) (term : Term) (constant : IsConstant term) → match_map body chosen term ≡ Const constant.0
    at_constant body chosen term constant = ap (match_map body chosen) constant.1 ∙ taken-Const (terms_of body) (terms_of chosen) constant.0

    module _ (rule : Rule) (in_rules : Contains rules rule) (chosen : List (Fact Term)) (matches : IsMatch Holds (body_of rule) chosen) where
      abbrev m : Term → Term
      m = match_map (body_of rule) chosen

      -- what a term of the body meets first nests at most to the rank of a relation of the body
      met_low : (term : Term) → Mentions (body_of rule) term
          → (atom : Fact Term) × Contains (body_of rule) atom × IsLow stock width (rank atom.relation) (m term)
      met_low term inside =
          elim (taken_in (terms_of (body_of rule)) (terms_of chosen) (chosen_length Holds (body_of rule) chosen matches.0) term
          (Mentions-terms_of (body_of rule) term inside)) [
            | inl constant ↦ (
              inside.0,
              inside.1,
              subst (IsLow stock width (rank inside.0.relation)) (sym (at_constant (body_of rule) chosen term constant))
                  (text_low (rank inside.0.relation) constant.0 (body_text rule in_rules constant.0 (subst (Mentions (body_of rule)) constant.1 inside))),
            )
            | inr met ↦
                let fact = terms_of-Mentions chosen (m term) met in
                let atom = zip_right _ (body_of rule) chosen matches.0 fact.0 fact.1 in
                let low = (all (Stated fact.0) atom.2.0).2 (m term) fact.2 in
                (atom.0, atom.1, subst (λ relation. IsLow stock width (rank relation) (m term)) atom.2.1 low)
          ]

      fixed_low : (term : Term) → IsFixedBy (body_of rule) term → ((text : List ℕ) → term ≡ Const text → Contains stock.texts text) → IsSomewhereLow (m term)
      fixed_low term (inl constant) own = (
        0,
        subst (IsLow stock width (rank 0)) (sym (at_constant (body_of rule) chosen term constant))
            (text_low (rank 0) constant.0 (own constant.0 constant.1)),
      )
      fixed_low term (inr inside) own = let met = met_low term inside in (met.0.relation, met.2)

    module _ (number : ℕ) (body head : List (Fact Term)) (at : slice_get rules number ≡ Some (tuple body head))
        (chosen : List (Fact Term)) (matches : IsMatch Holds body chosen) where
      abbrev go : Term → Term
      go = match_map body chosen

      abbrev values : List Term
      values = map go (frontier body head)

      in_rules : Contains rules (tuple body head)
      in_rules = Contains-at rules number (tuple body head) at

      met_below : (atom : Fact Term) → Contains head atom → (term : Term) → Mentions body term
          → IsMadeOf stock width (go term) × (nesting (go term) < rank atom.relation)
      met_below atom in_head term inside =
          let met = met_low (tuple body head) in_rules chosen matches term inside in
          let lower = rise body head in_rules met.0 atom met.1 in_head in
          (met.2.0, omega (arith, met.2.1, lower))

      value_below : (atom : Fact Term) → Contains head atom → (value : Term) → Contains values value
          → IsMadeOf stock width value × (nesting value < rank atom.relation)
      value_below atom in_head value inside =
          let from = Contains-map_from go (frontier body head) value inside in
          subst (λ it. IsMadeOf stock width it × (nesting it < rank atom.relation)) from.2
          (met_below atom in_head from.0 (frontier_body body head from.0 from.1))

      made_low : (atom : Fact Term) → Contains head atom → (term : Term) → Contains atom.terms term
          → IsLow stock width (rank atom.relation) (extended number body head go term)
      made_low atom in_head term inside =
          elim (extended-flat number body head go term (λ text. taken-Const (terms_of body) (terms_of chosen) text)
          ((sound (tuple body head) in_rules).flat_head term (atom, in_head, inside))) [
            | inl constant ↦
                let in_stock = serves.head_texts body head in_rules constant.0 (atom, in_head, subst (Contains atom.terms) constant.1 inside) in
                subst (IsLow stock width (rank atom.relation)) (sym constant.2) (text_low (rank atom.relation) constant.0 in_stock)
            | inr other ↦ elim other [
              | inl in_body ↦
                  let met = met_below atom in_head term in_body.0 in
                  subst (IsLow stock width (rank atom.relation)) (sym in_body.1) (met.0, omega (arith, met.1))
              | inr new ↦
                  let variable_in = serves.head_variables body head in_rules new.0 (atom, in_head, subst (Contains atom.terms) new.1 inside) in
                  let short : length values ≤ width = omega (arith, length-map (frontier body head) go, serves.widths body head in_rules) in
                  let is_made : IsMadeOf stock width (Made number new.0 values) =
                  of_made number new.0 values (serves.numbers number (tuple body head) at) variable_in short
                  (λ value in_values. (value_below atom in_head value in_values).0) in
                  let deep : nesting_above (map nesting values) ≤ rank atom.relation =
                  above_le values (rank atom.relation) (λ value in_values. (value_below atom in_head value in_values).1) in
                  subst (IsLow stock width (rank atom.relation)) (sym new.3)
                  (is_made, subst (λ it. it ≤ rank atom.relation) (sym (nesting-Made number new.0 values)) deep)
            ]
          ]

      tuple_within : (atom : Fact Term) → Contains head atom → (claim : Claim)
          → claim ≡ Stated (record { relation = atom.relation; terms = map (extended number body head go) atom.terms }) → IsClaimWithin claim
      tuple_within atom inside claim is = subst IsClaimWithin (sym is) (
        head_relation body head in_rules atom inside,
        omega (arith, length-map atom.terms (extended number body head go), head_width body head in_rules atom inside),
        (λ term in_image.
            let from = Contains-map_from (extended number body head go) atom.terms term in_image in
            subst (IsLow stock width (rank atom.relation)) from.2 (made_low atom inside from.0 from.1)),
      )

    asked_within : (number : ℕ) (rule : Rule) → slice_get rules number ≡ Some rule → (chosen : List (Fact Term)) → IsMatch Holds (body_of rule) chosen
        → (claim : Claim) → IsAsked number rule (match_map (body_of rule) chosen) claim → IsClaimWithin claim
    asked_within number (tuple body head) at chosen matches claim (atom, inside, is) = tuple_within number body head at chosen matches atom inside claim is
    asked_within number (equality body left right) at chosen matches claim is =
        let rule = Contains-at rules number (equality body left right) at in
        subst IsClaimWithin (sym is) (
          fixed_low (equality body left right) rule chosen matches left (sound (equality body left right) rule).left_fixed
              (λ text same. serves.sides body left right rule text (inl same)),
          fixed_low (equality body left right) rule chosen matches right (sound (equality body left right) rule).right_fixed
              (λ text same. serves.sides body left right rule text (inr same)),
        )
    asked_within number (denial body) at chosen matches claim asked = absurd asked

  -- ---- entries

  module _ (entries : List Entry) (all : (entry : Entry) → Contains entries entry → IsClaimWithin entry.claim) where
    named_within : (places : List ℕ) (claim : Claim) → IsNamed entries places claim → IsClaimWithin claim
    named_within places claim (place, inside, (entry, at, is)) = subst IsClaimWithin is (all entry (Contains-at entries place entry at))

    chain_end : (places : List ℕ) (term other : Term) → IsSomewhereLow term → IsChain entries places term other → IsSomewhereLow other
    chain_end [] term other first is = subst IsSomewhereLow is first
    chain_end (place ∷ places) term other first (next, inl (entry, at, is), rest) =
        chain_end places next other (subst IsClaimWithin is (all entry (Contains-at entries place entry at))).1 rest
    chain_end (place ∷ places) term other first (next, inr (entry, at, is), rest) =
        chain_end places next other (subst IsClaimWithin is (all entry (Contains-at entries place entry at))).0 rest

    chain_start : (places : List ℕ) (term other : Term) → (places ≡ [] → ⊥) → IsChain entries places term other → IsSomewhereLow term
    chain_start [] term other some is = absurd (some refl)
    chain_start (place ∷ places) term other some (next, inl (entry, at, is), rest) =
        (subst IsClaimWithin is (all entry (Contains-at entries place entry at))).0
    chain_start (place ∷ places) term other some (next, inr (entry, at, is), rest) =
        (subst IsClaimWithin is (all entry (Contains-at entries place entry at))).1

module _ (expanded : List ExpandedFact) (rules : List Rule) (rank : ℕ → ℕ) (sound : AreRules rules) (flat : AreFlat (facts_of expanded))
    (rise : RanksRise rules rank) where
  abbrev facts : List (Fact Term)
  facts = facts_of expanded

  serves : Serves (stock rules facts rank) (width rules facts rank) rules (start rules facts rank)
  serves = stock-Serves rules (start_from facts) flat

  fact_within : (fact : ExpandedFact) → Contains expanded fact → IsClaimWithin rules facts rank (Stated fact.fact)
  fact_within fact inside =
      let among : Contains facts fact.fact = Contains-map (λ (it : ExpandedFact). it.fact) expanded fact inside in (
        Contains-append_left (relations_of facts) (flat_map head_relations rules) fact.fact.relation
            (Contains-map (λ (it : Fact Term). it.relation) facts fact.fact among),
        omega (arith, flat_longer (λ (it : Fact Term). it.terms) facts fact.fact among, length-append (terms_of facts) (flat_map rule_terms rules)),
        (λ term in_fact. (serves.start_in term (fact.fact, among, in_fact), nests term (flat term (fact.fact, among, in_fact)))),
      )
    where
      nests : (term : Term) → IsConstant term ⊎ ((number : ℕ) × (term ≡ Plain number)) → nesting term ≤ rank fact.fact.relation
      nests term (inl (text, is)) = omega (arith, ap nesting is, nesting-Const text)
      nests term (inr (number, is)) = omega (arith, ap nesting is, nesting-Plain number)

  follows_within : (entries : List Entry) (claim : Claim) (product : List Bool) (reason : Reason)
      → ((entry : Entry) → Contains entries entry → IsClaimWithin rules facts rank entry.claim)
      → Follows expanded rules entries claim product reason → IsClaimWithin rules facts rank claim
  follows_within entries claim product (Expanded atom place) all (fact, inside, is_atom, is_place, is, has) =
      subst (IsClaimWithin rules facts rank) (sym is) (fact_within fact inside)
  follows_within entries claim product (Step number places) all (rule, at, by, union) =
      asked_within rules facts rank sound serves rise (IsNamed entries places) (named_within rules facts rank entries all places) number rule at
      by.chosen by.matches claim by.asked
  follows_within entries claim product (Equal places) all (some, term, other, is, chain, union) =
      let first = chain_start rules facts rank entries all places term other some chain in
      subst (IsClaimWithin rules facts rank) (sym is) (first, chain_end rules facts rank entries all places term other first chain)

  pub derived_within : (entries : List Entry) → AreDerived expanded rules entries
      → (entry : Entry) → Contains entries entry → IsClaimWithin rules facts rank entry.claim
  derived_within entries derived entry inside =
      all_derived (λ claim product. IsClaimWithin rules facts rank claim) expanded rules entries
      (λ before claim product reason all follows. follows_within before claim product reason all follows) derived entry inside
