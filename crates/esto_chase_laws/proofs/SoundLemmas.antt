-- Derived entries hold in every database that meets the rules.
use Rattle.std.proofs.Common.{◌≡◌, ℕ, Bool, List, [], ◌∷◌, ◌++◌, map, slice_get, Some, refl, sym, ap, ◌∙◌, inl, inr, Contains, subst}
use Rattle.std.specs.List.{AllZip}
use Rattle.std.proofs.lemmas.List.{length-map, map-append}
use Rattle.esto_term.specs.declared.term.Term.{Term}
use Rattle.esto_term.specs.declared.term.Term.TheVariants.{Const, Plain, Made}
use Rattle.esto_term.proofs.ListLemmas.{Contains-nil, Contains-head, Contains-rest, Contains-cases, Contains-map, Contains-at}
use Rattle.esto_term.proofs.ListLemmas.{map_agree, map_then, agree-from_map}
use Rattle.esto_term.proofs.ZipLemmas.{zip_split}
use Rattle.esto_semantics.specs.Facts.{Database, image, Mentions, terms_of}
use Rattle.esto_semantics.specs.Followed.{IsGiven, IsFollowedInto}
use Rattle.esto_semantics.specs.Maps.{AreFlat, IsFlat, Keeps, Sends}
use Rattle.esto_semantics.specs.Rules.{Rule, tuple, equality, denial, body_of, AreRules, Meets}
use Rattle.esto_term.specs.Sets.{Has, Within}
use Rattle.esto_semantics.specs.declared.fact.Fact.{Fact}
use Rattle.esto_semantics.specs.declared.fact.Value.{Value}
use Rattle.esto_semantics.specs.declared.fact.Value.TheVariants.{Text}
use Rattle.esto_semantics.proofs.FactLemmas.{image_then, image_agree}
use Rattle.esto_chase_laws.specs.Making.{frontier, extended}
use Rattle.esto_chase_laws.proofs.MakingLemmas.{frontier_body, frontier_has, extended-flat}
use Rattle.esto_semantics.specs.Expanded.{facts_of}
use Rattle.esto_semantics.specs.declared.expanded.ExpandedFact.{ExpandedFact}
use Rattle.esto_chase_laws.specs.Worlds.{InWorld, Linked, IsBroken, IsDenied}
use Rattle.esto_chase_laws.specs.WorldMatches.{AreChosen, match_map, IsMatch}
use Rattle.esto_chase_laws.specs.WorldSteps.{IsAsked}
use Rattle.esto_chase_laws.specs.Derived.{IsNamed, IsUnion, IsChain, Follows, AreDerived}
use Rattle.esto_chase_laws.specs.WorldLaws.{AreFactsOf, DerivedEntriesAreSound, BrokenWorldsAreReceivedNowhere}
use Rattle.esto_chase_laws.specs.declared.entry.Claim.{Claim}
use Rattle.esto_chase_laws.specs.declared.entry.Claim.TheVariants.{Fact as Stated, Same}
use Rattle.esto_chase_laws.specs.declared.entry.Reason.{Reason}
use Rattle.esto_chase_laws.specs.declared.entry.Reason.TheVariants.{Expanded, Step, Equal}
use Rattle.esto_chase_laws.specs.declared.entry.Entry.{Entry}
use Rattle.esto_chase_laws.proofs.LinkLemmas.{Linked-respects, facts_one}
use Rattle.esto_chase_laws.proofs.TakenLemmas.{taken-Const}
use Rattle.esto_chase_laws.proofs.InductionLemmas.{all_derived}
use Rattle.esto_chase_laws.proofs.ExtensionLemmas.{frontier_head, chosen_extension, chosen_extension-is, choice_of, choice-tuple, assigned, assigned-Const}
use Rattle.esto_chase_laws.proofs.ExtensionLemmas.{assigned-Plain, assigned-Made}

-- each atom's fact and its part of the rows
pub rows_split : (Holds : Claim → Type 0) (R : Term → Term → Type 0) (m : Term → Term) (body chosen : List (Fact Term)) → AreChosen Holds body chosen
    → AllZip R (terms_of chosen) (map m (terms_of body)) → (atom : Fact Term) → Contains body atom
    → (fact : Fact Term) × Holds (Stated fact) × (fact.relation ≡ atom.relation) × AllZip R fact.terms (map m atom.terms)
rows_split Holds R m [] chosen are z atom c = absurd (Contains-nil atom c)
rows_split Holds R m (first ∷ body) [] are z atom c = absurd are
rows_split Holds R m (first ∷ body) (fact ∷ chosen) are z atom c =
    let parts = zip_split R fact.terms (terms_of chosen) (map m first.terms) (map m (terms_of body)) (rw (length-map first.terms m) are.0.2)
    (subst (AllZip R (fact.terms ++ terms_of chosen)) (map-append m first.terms (terms_of body)) z) in
    elim (Contains-cases first body atom c) [
      | inl is ↦ (fact, are.0.0, are.0.1 ∙ ap (λ (it : Fact Term). it.relation) is, subst (λ (it : Fact Term). AllZip R fact.terms (map m it.terms)) is parts.0)
      | inr later ↦ rows_split Holds R m body chosen are.1 parts.1 atom later
    ]

-- ---- entry by entry

module _ (expanded : List ExpandedFact) (rules : List Rule) (are_rules : AreRules rules) (flat : AreFlat (facts_of expanded))
    (database : Database) (meets : Meets rules database) (atoms : List Bool) (facts : List (Fact Term)) (are_facts : AreFactsOf expanded atoms facts)
    (given : Term → Value) (keeps : Keeps Text given) (sends : Sends given facts database) where
  make : ℕ → List Value → Term → Value
  make number xs = choice_of database (slice_get rules number) xs

  h : Term → Value
  h = assigned make given

  h-Const : Keeps Text h
  unfolding h
  h-Const text = assigned-Const make given text

  h-Plain : (number : ℕ) → h (Plain number) ≡ given (Plain number)
  unfolding h
  h-Plain number = assigned-Plain make given number

  h-Made : (rule variable : ℕ) (frontier : List Term) → h (Made rule variable frontier) ≡ make rule (map h frontier) (Plain variable)
  unfolding h
  h-Made rule variable frontier = assigned-Made make given rule variable frontier

  make-tuple : (number : ℕ) (body head : List (Fact Term)) (xs : List Value) (term : Term) → slice_get rules number ≡ Some (tuple body head)
      → make number xs term ≡ chosen_extension database body head xs term
  unfolding make
  make-tuple number body head xs term at = choice-tuple database rules number body head xs term at

  h-flat : (term : Term) → IsFlat term → h term ≡ given term
  h-flat term (inl (text, is)) = ap h is ∙ h-Const text ∙ sym (keeps text) ∙ ap given (sym is)
  h-flat term (inr (number, is)) = ap h is ∙ h-Plain number ∙ ap given (sym is)

  abbrev IsTrueOf : Claim → Type 0
  IsTrueOf (Stated fact) = Contains database (image h fact)
  IsTrueOf (Same term other) = h term ≡ h other

  module _ (Holds : Claim → Type 0) (all : (claim : Claim) → Holds claim → IsTrueOf claim) where
    links : (term other : Term) → Linked Holds term other → h term ≡ h other
    links term other linked = Linked-respects h (λ one next holds. all (Same one next) holds) term other linked

    module _ (body chosen : List (Fact Term)) (matches : IsMatch Holds body chosen) where
      m : Term → Term
      m = match_map body chosen

      m-keeps : (text : List ℕ) → m (Const text) ≡ Const text
      unfolding m
      m-keeps text = taken-Const (terms_of body) (terms_of chosen) text

      hm-keeps : Keeps Text (λ term. h (m term))
      hm-keeps text = ap h (m-keeps text) ∙ h-Const text

      match_sends : Sends (λ term. h (m term)) body database
      unfolding m
      match_sends atom inside =
          let part = rows_split Holds (Linked Holds) (match_map body chosen) body chosen matches.0 matches.1 atom inside in
          let one : image h part.0 ≡ image h (image (match_map body chosen) atom) =
          facts_one h links part.0 (image (match_map body chosen) atom) (part.2, part.3) in
          subst (Contains database) (one ∙ image_then (match_map body chosen) h atom) (all (Stated part.0) part.1)

      -- ---- a tuple rule

      module _ (number : ℕ) (head : List (Fact Term)) (at : slice_get rules number ≡ Some (tuple body head)) where
        xs : List Value
        xs = map h (map m (frontier body head))

        choice : Term → Value
        choice = chosen_extension database body head xs

        in_rules : Contains rules (tuple body head)
        in_rules = Contains-at rules number (tuple body head) at

        fixed : Keeps Text choice × (map choice (frontier body head) ≡ xs) × Sends choice head database
        unfolding choice xs
        fixed =
            let more = meets (tuple body head) in_rules (λ term. h (m term)) hm-keeps match_sends in
            let frontier_is : map more.0 (frontier body head) ≡ xs =
            map_agree more.0 (λ term. h (m term)) (frontier body head) (λ term inside. sym (more.2 term (frontier_body body head term inside)))
            ∙ sym (map_then m h (frontier body head)) in
            let is = chosen_extension-is database body head xs (frontier_head body head) more.0 more.1 (frontier_is, more.3) in
            (is.0, is.1.0, is.1.1)

        on_frontier : (term : Term) → Contains (frontier body head) term → choice term ≡ h (m term)
        unfolding xs
        on_frontier term inside = agree-from_map choice (λ it. h (m it)) (frontier body head) term (fixed.1 ∙ map_then m h (frontier body head)) inside

        in_body : (term : Term) → Mentions head term → Mentions body term → extended number body head m term ≡ m term → IsFlat term
            → h (extended number body head m term) ≡ choice term
        in_body term in_head there is (inl (text, is_text)) =
            ap h (is ∙ ap m is_text ∙ m-keeps text) ∙ h-Const text ∙ sym (fixed.0 text) ∙ ap choice (sym is_text)
        in_body term in_head there is (inr (variable, is_plain)) =
            let shared : Contains (frontier body head) term =
            subst (Contains (frontier body head)) (sym is_plain)
            (frontier_has body head variable (subst (Mentions body) is_plain there) (subst (Mentions head) is_plain in_head)) in
            ap h is ∙ sym (on_frontier term shared)

        made : (variable : ℕ) → h (Made number variable (map m (frontier body head))) ≡ choice (Plain variable)
        unfolding choice xs
        made variable = h-Made number variable (map m (frontier body head)) ∙ make-tuple number body head xs (Plain variable) at

        value_is : (term : Term) → Mentions head term → h (extended number body head m term) ≡ choice term
        value_is term in_head =
            elim (extended-flat number body head m term m-keeps ((are_rules (tuple body head) in_rules).flat_head term in_head)) [
              | inl constant ↦ ap h constant.2 ∙ h-Const constant.0 ∙ sym (fixed.0 constant.0) ∙ ap choice (sym constant.1)
              | inr other ↦ elim other [
                | inl old ↦ in_body term in_head old.0 old.1 ((are_rules (tuple body head) in_rules).flat_head term in_head)
                | inr new ↦ ap h new.3 ∙ made new.0 ∙ ap choice (sym new.1)
              ]
            ]

        tuple_true : (atom : Fact Term) → Contains head atom → Contains database (image h (image (extended number body head m) atom))
        tuple_true atom inside =
            let is : image choice atom ≡ image h (image (extended number body head m) atom) =
            sym (image_agree (λ term. h (extended number body head m term)) choice atom (λ term in_atom. value_is term (atom, inside, in_atom)))
            ∙ sym (image_then (extended number body head m) h atom) in
            subst (Contains database) is (fixed.2 atom inside)

    asked_true : (number : ℕ) (rule : Rule) → slice_get rules number ≡ Some rule → (chosen : List (Fact Term)) → IsMatch Holds (body_of rule) chosen
        → (claim : Claim) → IsAsked number rule (match_map (body_of rule) chosen) claim → IsTrueOf claim
    unfolding m
    asked_true number (tuple body head) at chosen matches claim (atom, inside, is) =
        subst IsTrueOf (sym is) (tuple_true body chosen matches number head at atom inside)
    asked_true number (equality body left right) at chosen matches claim is =
        subst IsTrueOf (sym is) (meets (equality body left right) (Contains-at rules number (equality body left right) at)
        (λ term. h (m body chosen matches term)) (hm-keeps body chosen matches) (match_sends body chosen matches))
    asked_true number (denial body) at chosen matches claim asked = absurd asked

  module _ (entries : List Entry) (all : (entry : Entry) → Contains entries entry → Within entry.product atoms → IsTrueOf entry.claim) where
    named_true : (places : List ℕ) (product : List Bool) → IsUnion entries places product → Within product atoms
        → (claim : Claim) → IsNamed entries places claim → IsTrueOf claim
    named_true places product union within claim (place, inside, (entry, at, is)) =
        subst IsTrueOf is (all entry (Contains-at entries place entry at)
        (λ number has. within number ((union.exact number).1 (place, entry, inside, at, has))))

    chain_true : (places named : List ℕ) (product : List Bool) → ((place : ℕ) → Contains places place → Contains named place)
        → IsUnion entries named product → Within product atoms → (term other : Term) → IsChain entries places term other → h term ≡ h other
    chain_true [] named product among union within term other is = ap h is
    chain_true (place ∷ places) named product among union within term other (next, inl claims, rest) =
        named_true named product union within (Same term next) (place, among place (Contains-head place places), claims)
        ∙ chain_true places named product (λ it inside. among it (Contains-rest place places it inside)) union within next other rest
    chain_true (place ∷ places) named product among union within term other (next, inr claims, rest) =
        sym (named_true named product union within (Same next term) (place, among place (Contains-head place places), claims))
        ∙ chain_true places named product (λ it inside. among it (Contains-rest place places it inside)) union within next other rest

    follows_true : (claim : Claim) (product : List Bool) (reason : Reason) → Follows expanded rules entries claim product reason
        → Within product atoms → IsTrueOf claim
    follows_true claim product (Expanded atom place) (fact, inside, is_atom, is_place, is, has) within =
        let in_atoms : Has atoms fact.atom = subst (Has atoms) (sym is_atom) (within atom ((has atom).1 refl)) in
        let there : Contains facts fact.fact = (are_facts fact.fact).1 (fact, inside, in_atoms, refl) in
        let is_flat : (term : Term) → Contains fact.fact.terms term → IsFlat term =
        λ term in_fact. flat term (fact.fact, Contains-map (λ (it : ExpandedFact). it.fact) expanded fact inside, in_fact) in
        subst IsTrueOf (sym is) (subst (Contains database)
        (sym (image_agree h given fact.fact (λ term in_fact. h-flat term (is_flat term in_fact)))) (sends fact.fact there))
    follows_true claim product (Step number places) (rule, at, by, union) within =
        asked_true (IsNamed entries places) (named_true places product union within) number rule at by.chosen by.matches claim by.asked
    follows_true claim product (Equal places) (some, term, other, is, chain, union) within =
        subst IsTrueOf (sym is) (chain_true places places product (λ place inside. inside) union within term other chain)

  module _ (entries : List Entry) (derived : AreDerived expanded rules entries) where
    in_world : (claim : Claim) → InWorld entries atoms claim → IsTrueOf claim
    in_world claim (entry, inside, within, is) =
        subst IsTrueOf is (all_derived (λ it product. Within product atoms → IsTrueOf it) expanded rules entries
        (λ before it product reason all follows among. follows_true before all it product reason follows among) derived entry inside within)

    given_flat : (term : Term) → IsGiven facts term → IsFlat term
    given_flat term (inl is_flat) = is_flat
    given_flat term (inr (fact, inside, in_fact)) =
        let from = (are_facts fact).0 inside in
        flat term (fact, subst (Contains (facts_of expanded)) from.3 (Contains-map (λ (it : ExpandedFact). it.fact) expanded from.0 from.1), in_fact)

    pub followed : IsFollowedInto facts (λ fact. InWorld entries atoms (Stated fact)) (Linked (InWorld entries atoms)) given database
    followed = record {
      after = h;
      keeps = h-Const;
      agrees = λ term is_given. h-flat term (given_flat term is_given);
      sends = λ fact holds. in_world (Stated fact) holds;
      one_value = links (InWorld entries atoms) in_world;
    }

pub are_sound : DerivedEntriesAreSound
are_sound expanded rules entries are_rules flat derived atoms facts are_facts database meets given keeps sends =
    followed expanded rules are_rules flat database meets atoms facts are_facts given keeps sends entries derived

-- ---- a world that is broken or denied

module _ (Holds : Claim → Type 0) (rules : List Rule) (database : Database) (meets : Meets rules database) (h : Term → Value) (keeps : Keeps Text h)
    (sends : (fact : Fact Term) → Holds (Stated fact) → Contains database (image h fact))
    (one : (term other : Term) → Linked Holds term other → h term ≡ h other) where
  not_broken : IsBroken Holds → ⊥
  not_broken (text, other, linked, apart) =
      let values : Text text ≡ Text other = sym (keeps text) ∙ one (Const text) (Const other) linked ∙ keeps other in
      let is : text ≡ other = cc in
      apart is

  not_denied : IsDenied rules Holds → ⊥
  not_denied (body, in_rules, (m, m_keeps, reaches)) =
      meets (denial body) in_rules (λ term. h (m term)) (λ text. ap h (m_keeps text) ∙ keeps text)
      (λ atom inside.
      let found = reaches atom inside in
      subst (Contains database) (facts_one h one found.0 (image m atom) found.2 ∙ image_then m h atom) (sends found.0 found.1))

pub are_nowhere : BrokenWorldsAreReceivedNowhere
are_nowhere expanded rules entries are_rules flat derived atoms (inl broken) facts are_facts database meets given keeps sends =
    let after = are_sound expanded rules entries are_rules flat derived atoms facts are_facts database meets given keeps sends in
    not_broken (InWorld entries atoms) rules database meets after.after after.keeps after.sends after.one_value broken
are_nowhere expanded rules entries are_rules flat derived atoms (inr denied) facts are_facts database meets given keeps sends =
    let after = are_sound expanded rules entries are_rules flat derived atoms facts are_facts database meets given keeps sends in
    not_denied (InWorld entries atoms) rules database meets after.after after.keeps after.sends after.one_value denied
