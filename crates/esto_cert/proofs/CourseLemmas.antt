-- A run of the standard chase, line by line: whatever a state of it states, lines can claim.
use Rattle.std.proofs.Common.{◌≡◌, ◌≢◌, inl, inr, ℕ, ◌+◌, ◌-◌, suc, Bool, true, false, cond, List, [], ◌∷◌, ◌++◌, map, length, slice_get, Option, Some}
use Rattle.std.proofs.Common.{option_map, Contains, refl, sym, ap, subst, ◌∙◌, arith}
use Rattle.std.specs.List.{AllZip}
use Rattle.std.proofs.lemmas.List.{append_assoc, append-nil}
use Rattle.std.proofs.lemmas.List.Elements.{Contains-append_cases, Contains-append_left, Contains-push}
use Rattle.esto_term.specs.Order.{replaced, same_term}
use Rattle.esto_term.specs.declared.term.Term.{Term, out-Term}
use Rattle.esto_term.specs.declared.term.Term.TheOpen.{Term-F}
use Rattle.esto_term.specs.declared.term.Term.TheVariants.{Const, Plain, Made, outs-Const, outs-Plain, outs-Made}
use Rattle.esto_term.proofs.ListLemmas.{Contains-at, Contains-cases, Contains-head, Contains-map_from, Contains-nil, Contains-rest, at_left, map_agree}
use Rattle.esto_term.proofs.ListLemmas.{map_then, place-from_Contains}
use Rattle.esto_term.proofs.ZipLemmas.{zip_weaker}
use Rattle.esto_semantics.specs.Facts.{image, Mentions, terms_of}
use Rattle.esto_semantics.specs.Instances.{MapsTo}
use Rattle.esto_semantics.specs.Maps.{AreFlat, IsConstant, IsFixedBy, IsFlat, Keeps, Sends, SendsInto}
use Rattle.esto_semantics.specs.Queries.{ConjunctiveQuery, IsQuery}
use Rattle.esto_semantics.specs.Rules.{Rule, tuple, equality, AreRules, body_of}
use Rattle.esto_semantics.specs.declared.fact.Fact.{Fact}
use Rattle.esto_semantics.proofs.CanonicalLemmas.{Mentions-terms_of}
use Rattle.esto_semantics.proofs.FactLemmas.{Mentions-sent, Sends-match, SendsInto-agree, SendsInto-then}
use Rattle.esto_semantics.proofs.TermLemmas.{Const-apart-Made, flat-apart-Made, replaced_cases, same_term-Decides, term_cases}
use Rattle.esto_chase_laws.specs.Bounds.{Key}
use Rattle.esto_chase_laws.specs.Making.{extended, frontier, made_facts}
use Rattle.esto_chase_laws.specs.Runs.{Step as Move, added, merged, IsAdded, IsMerged, IsStart, IsStep, IsRun, begun, went, moved_by}
use Rattle.esto_chase_laws.proofs.JoinedLemmas.{joined-AreTogether, replaced-AreReplaced}
use Rattle.esto_chase_laws.proofs.KeptLemmas.{Kept, Settled, not_fired}
use Rattle.esto_chase_laws.proofs.MakingLemmas.{extended-body, extended-flat, extended-keeps}
use Rattle.esto_chase_laws.proofs.StateLemmas.{ran}
use Rattle.esto_chase_laws.specs.WorldMatches.{AreChosen, IsMatch, match_map}
use Rattle.esto_chase_laws.specs.Worlds.{AreOne, Linked, Reaches}
use Rattle.esto_chase_laws.specs.declared.entry.Claim.{Claim}
use Rattle.esto_chase_laws.specs.declared.entry.Claim.TheVariants.{Fact as Stated, Same}
use Rattle.esto_chase_laws.proofs.ClosedLemmas.{choose, Fits-linked}
use Rattle.esto_chase_laws.proofs.LinkLemmas.{Linked-back, Linked-is, Linked-more, Linked-then, one_link}
use Rattle.esto_chase_laws.proofs.TakenLemmas.{substituted_has, taken-Const, taken_cases}
use Rattle.esto_cert.specs.Certificates.{Case, Matches, MayClaim, MayEnd, equality_of, fact_of, equalities_at, facts_at, made_at}
use Rattle.esto_cert.specs.Lines.{with_item}
use Rattle.esto_cert.specs.Linking.{IsAmong}
use Rattle.esto_cert.specs.Showing.{AreClaimsOf}
use Rattle.esto_cert.specs.declared.line.Line.{Line}
use Rattle.esto_cert.specs.declared.line.Line.TheVariants.{Step, Match}
use Rattle.esto_cert.specs.declared.linking.Equality.{Equality}
use Rattle.esto_cert.proofs.ClaimLemmas.{claims_more}
use Rattle.esto_cert.proofs.LinkLemmas.{Linked-said}
use Rattle.esto_cert.proofs.NumberLemmas.{numbered_next}
use Rattle.esto_cert.proofs.NumeralLemmas.{NamesFacts}

-- ---- rows and facts that are one

module _ (P : Claim → Type 0) where
  zip_then : (xs ys zs : List Term) → AllZip (Linked P) xs ys → AllZip (Linked P) ys zs → AllZip (Linked P) xs zs
  zip_then [] [] [] one two = tt
  zip_then [] [] (z ∷ zs) one two = absurd two
  zip_then [] (y ∷ ys) zs one two = absurd one
  zip_then (x ∷ xs) [] zs one two = absurd one
  zip_then (x ∷ xs) (y ∷ ys) [] one two = absurd two
  zip_then (x ∷ xs) (y ∷ ys) (z ∷ zs) one two = (Linked-then x y z one.0 two.0, zip_then xs ys zs one.1 two.1)

  zip_maps : {X : Type 0} (one other : X → Term) (xs : List X) → ((x : X) → Contains xs x → Linked P (one x) (other x))
      → AllZip (Linked P) (map one xs) (map other xs)
  zip_maps one other [] links = tt
  zip_maps one other (x ∷ xs) links =
      (links x (Contains-head x xs), zip_maps one other xs (λ y inside. links y (Contains-rest x xs y inside)))

  reaches_one : (fact other : Fact Term) → Reaches P fact → AreOne P fact other → Reaches P other
  reaches_one fact other (source, holds, (same, one)) (alike, too) =
      (source, holds, (same ∙ alike, zip_then source.terms fact.terms other.terms one too))

module _ (P Q : Claim → Type 0) (more : (claim : Claim) → P claim → Q claim) where
  zip_more : (xs ys : List Term) → AllZip (Linked P) xs ys → AllZip (Linked Q) xs ys
  zip_more xs ys = zip_weaker (Linked P) (Linked Q) xs ys (λ x y _ linked. Linked-more more x y linked)

  reaches_more : (fact : Fact Term) → Reaches P fact → Reaches Q fact
  reaches_more fact (other, holds, (same, one)) = (other, more (Stated other) holds, (same, zip_more other.terms fact.terms one))

-- ---- places of claims, and the numbers of their lines

-- the claims at the places state the facts
abbrev AreStatedAt : List Claim → List ℕ → List (Fact Term) → Type 0
AreStatedAt claims places facts = AllZip (λ (place : ℕ) (fact : Fact Term). slice_get claims place ≡ Some (Stated fact)) places facts

-- the claims at the places state that these terms are one
abbrev AreSameAt : List Claim → List ℕ → List (Term × Term) → Type 0
AreSameAt claims places pairs = AllZip (λ (place : ℕ) (pair : Term × Term). slice_get claims place ≡ Some (Same pair.0 pair.1)) places pairs

abbrev equality_from : Term × Term → Equality
equality_from pair = record { left = pair.0; right = pair.1 }

facts_by_numbers : (claims : List Claim) (places : List ℕ) (facts : List (Fact Term)) → AreStatedAt claims places facts
    → facts_at claims (map (λ place. place + 1) places) ≡ Some facts
facts_by_numbers claims [] [] stated = refl
facts_by_numbers claims [] (fact ∷ facts) stated = absurd stated
facts_by_numbers claims (place ∷ places) [] stated = absurd stated
facts_by_numbers claims (place ∷ places) (fact ∷ facts) stated =
    ap (λ (it : Option Claim). with_item (fact_of it) (facts_at claims (map (λ place. place + 1) places))) (numbered_next claims place ∙ stated.0)
    ∙ ap (with_item (Some fact)) (facts_by_numbers claims places facts stated.1)

equalities_by_numbers : (claims : List Claim) (places : List ℕ) (pairs : List (Term × Term)) → AreSameAt claims places pairs
    → equalities_at claims (map (λ place. place + 1) places) ≡ Some (map equality_from pairs)
equalities_by_numbers claims [] [] same = refl
equalities_by_numbers claims [] (pair ∷ pairs) same = absurd same
equalities_by_numbers claims (place ∷ places) [] same = absurd same
equalities_by_numbers claims (place ∷ places) (pair ∷ pairs) same =
    ap (λ (it : Option Claim). with_item (equality_of it) (equalities_at claims (map (λ place. place + 1) places))) (numbered_next claims place ∙ same.0)
    ∙ ap (with_item (Some (equality_from pair))) (equalities_by_numbers claims places pairs same.1)

-- the equalities of all claims
record AllSame (claims : List Claim) : Type 0 where
  places : List ℕ
  pairs : List (Term × Term)
  same : AreSameAt claims places pairs
  has : (left right : Term) → Contains claims (Same left right) → Contains (map equality_from pairs) (record { left = left; right = right })

shifted : (first : Claim) (claims : List Claim) (places : List ℕ) (pairs : List (Term × Term)) → AreSameAt claims places pairs
    → AreSameAt (first ∷ claims) (map (λ place. suc place) places) pairs
shifted first claims [] [] same = tt
shifted first claims [] (pair ∷ pairs) same = absurd same
shifted first claims (place ∷ places) [] same = absurd same
shifted first claims (place ∷ places) (pair ∷ pairs) same = (same.0, shifted first claims places pairs same.1)

same_pair : (left right term other : Term) → Same left right ≡ Same term other → equality_from (left, right) ≡ record { left = term; right = other }
same_pair left right term other is = let one : left ≡ term = cc in let two : right ≡ other = cc in λ i. record { left = one i; right = two i }

all_same : (claims : List Claim) → AllSame claims
all_same [] = record { places = []; pairs = []; same = tt; has = λ left right none. absurd (Contains-nil (Same left right) none) }
all_same (Stated fact ∷ claims) =
    let rest = all_same claims in record {
      places = map (λ place. suc place) rest.places;
      pairs = rest.pairs;
      same = shifted (Stated fact) claims rest.places rest.pairs rest.same;
      has = λ left right inside. elim (Contains-cases (Stated fact) claims (Same left right) inside) [
        | inl wrong ↦ absurd (cc)
        | inr later ↦ rest.has left right later
      ];
    }
all_same (Same one other ∷ claims) =
    let rest = all_same claims in record {
      places = 0 ∷ map (λ place. suc place) rest.places;
      pairs = (one, other) ∷ rest.pairs;
      same = (refl, shifted (Same one other) claims rest.places rest.pairs rest.same);
      has = λ left right inside. elim (Contains-cases (Same one other) claims (Same left right) inside) [
        | inl is ↦ subst (Contains (equality_from (one, other) ∷ map equality_from rest.pairs)) (same_pair one other left right is)
            (Contains-head (equality_from (one, other)) (map equality_from rest.pairs))
        | inr later ↦ Contains-rest (equality_from (one, other)) (map equality_from rest.pairs) (record { left = left; right = right })
            (rest.has left right later)
      ];
    }

-- ---- a match of a body in what is claimed

-- facts of claims at these places match the body, by the equalities of claims at these
record Found (claims : List Claim) (body : List (Fact Term)) : Type 0 where
  chosen : List (Fact Term)
  places : List ℕ
  links : List ℕ
  pairs : List (Term × Term)
  stated : AreStatedAt claims places chosen
  same : AreSameAt claims links pairs
  fits : IsMatch (IsAmong chosen (map equality_from pairs)) body chosen

abbrev found_more : (claims more : List Claim) (body : List (Fact Term)) → Found claims body → Found (claims ++ more) body
found_more claims more body found = record {
  chosen = found.chosen;
  places = found.places;
  links = found.links;
  pairs = found.pairs;
  stated = zip_weaker _ _ found.places found.chosen (λ place fact _ at. at_left claims more place (Stated fact) at) found.stated;
  same = zip_weaker _ _ found.links found.pairs (λ place pair _ at. at_left claims more place (Same pair.0 pair.1) at) found.same;
  fits = found.fits;
}

module _ (claims : List Claim) (body : List (Fact Term)) (found : Found claims body) where
  abbrev facts_named : List ℕ
  facts_named = map (λ place. place + 1) found.places

  abbrev links_named : List ℕ
  links_named = map (λ place. place + 1) found.links

  matches : Matches claims body facts_named links_named found.chosen (map equality_from found.pairs)
  matches = record {
    stated = facts_by_numbers claims found.places found.chosen found.stated;
    named = equalities_by_numbers claims found.links found.pairs found.same;
    fits = found.fits;
  }

  -- a body with an atom names a fact
  some_named : body ≢ [] → facts_named ≢ []
  some_named full = by body found.chosen found.places found.fits.0 found.stated full
    where
      by : (atoms chosen : List (Fact Term)) (places : List ℕ) → AreChosen (IsAmong found.chosen (map equality_from found.pairs)) atoms chosen
          → AreStatedAt claims places chosen → atoms ≢ [] → map (λ place. place + 1) places ≢ []
      by [] chosen places are stated full = absurd (full refl)
      by (atom ∷ atoms) [] places are stated full = absurd are
      by (atom ∷ atoms) (fact ∷ chosen) [] are stated full = absurd stated
      by (atom ∷ atoms) (fact ∷ chosen) (place ∷ places) are stated full = λ none. cc

-- what a map that sends the body to facts that are claimed, up to links, gives
module _ (claims : List Claim) (m : Term → Term) (keeps : Keeps Const m) (body : List (Fact Term)) (sends : SendsInto m body (Reaches (Contains claims))) where
  record Sent : Type 0 where
    found : Found claims body
    all : (left right : Term) → Contains claims (Same left right)
        → IsAmong found.chosen (map equality_from found.pairs) (Same left right)
    met : (term : Term) → IsFixedBy body term → Linked (Contains claims) (m term) (match_map body found.chosen term)

  turned : (from to : List Term) → AllZip (Linked (Contains claims)) to (map m from)
      → AllZip (λ (target : Term) (source : Term). Linked (Contains claims) (m source) target) to from
  turned [] [] linked = tt
  turned [] (target ∷ to) linked = absurd linked
  turned (source ∷ from) [] linked = absurd linked
  turned (source ∷ from) (target ∷ to) linked = (Linked-back target (m source) linked.0, turned from to linked.1)

  constant_met : (chosen : List (Fact Term)) (term : Term) → IsConstant term → Linked (Contains claims) (m term) (match_map body chosen term)
  constant_met chosen term (text, is) = Linked-is (m term) (match_map body chosen term)
      (ap m is ∙ keeps text ∙ sym (taken-Const (terms_of body) (terms_of chosen) text) ∙ ap (match_map body chosen) (sym is))

  meets : (chosen : List (Fact Term)) → AllZip (Linked (Contains claims)) (terms_of chosen) (map m (terms_of body)) → (term : Term) → IsFixedBy body term
      → Linked (Contains claims) (m term) (match_map body chosen term)
  meets chosen linked term (inl constant) = constant_met chosen term constant
  meets chosen linked term (inr inside) = elim (taken_cases term) [
    | inl constant ↦ constant_met chosen term constant
    | inr is ↦ subst (Linked (Contains claims) (m term)) (sym (is (terms_of body) (terms_of chosen)))
        (substituted_has (λ source target. Linked (Contains claims) (m source) target) (terms_of body) (terms_of chosen)
        (turned (terms_of body) (terms_of chosen) linked) term (Mentions-terms_of body term inside))
  ]

  places_of : (atoms chosen : List (Fact Term)) → AreChosen (Contains claims) atoms chosen → (places : List ℕ) × AreStatedAt claims places chosen
  places_of [] [] are = ([], tt)
  places_of [] (fact ∷ chosen) are = absurd are
  places_of (atom ∷ atoms) [] are = absurd are
  places_of (atom ∷ atoms) (fact ∷ chosen) are =
      let at = place-from_Contains claims (Stated fact) are.0.0 in
      let rest = places_of atoms chosen are.1 in
      (at.0 ∷ rest.0, (at.1, rest.1))

  chosen_among : (all : List (Fact Term)) (equalities : List Equality) (atoms chosen : List (Fact Term))
      → ((fact : Fact Term) → Contains chosen fact → Contains all fact) → AreChosen (Contains claims) atoms chosen
      → AreChosen (IsAmong all equalities) atoms chosen
  chosen_among all equalities [] [] among are = tt
  chosen_among all equalities [] (fact ∷ chosen) among are = absurd are
  chosen_among all equalities (atom ∷ atoms) [] among are = absurd are
  chosen_among all equalities (atom ∷ atoms) (fact ∷ chosen) among are = (
    (among fact (Contains-head fact chosen), are.0.1, are.0.2),
    chosen_among all equalities atoms chosen (λ other inside. among other (Contains-rest fact chosen other inside)) are.1,
  )

  sent : Sent
  sent =
      let (chosen, are, linked) = choose (Contains claims) m keeps body sends in
      let same = all_same claims in
      let equalities = map equality_from same.pairs in
      let places = places_of body chosen are in record {
        found = record {
          chosen = chosen;
          places = places.0;
          links = same.places;
          pairs = same.pairs;
          stated = places.1;
          same = same.same;
          fits = (
            chosen_among chosen equalities body chosen (λ fact inside. inside) are,
            zip_weaker (Linked (Contains claims)) (Linked (IsAmong chosen equalities)) (terms_of chosen) (map (match_map body chosen) (terms_of body))
                (λ term other _ one. Linked-said same.has term other one)
                (Fits-linked (Contains claims) m keeps (terms_of body) (terms_of chosen) linked),
          );
        };
        all = same.has;
        met = meets chosen linked;
      }

-- ---- a map that is told more

-- for the terms that a rule makes at a key what is told, and for all else what was
abbrev fresh_level : ℕ → List Term → (Term → Term) → (Term → Term) → Term → Term-F Term → Term
fresh_level number values more old term (Term-F.Const _) = old term
fresh_level number values more old term (Term-F.Plain _) = old term
fresh_level number values more old term (Term-F.Made _ variable _) = cond (same_term term (Made number variable values)) (more (Plain variable)) (old term)

abbrev fresh : ℕ → List Term → (Term → Term) → (Term → Term) → Term → Term
fresh number values more old term = fresh_level number values more old term (out-Term term)

module _ (number : ℕ) (values : List Term) (more old : Term → Term) where
  fresh-new : (variable : ℕ) → fresh number values more old (Made number variable values) ≡ more (Plain variable)
  fresh-new variable =
      ap (fresh_level number values more old (Made number variable values)) (outs-Made number variable values)
      ∙ ap (λ (it : Bool). cond it (more (Plain variable)) (old (Made number variable values)))
      ((same_term-Decides (Made number variable values) (Made number variable values)).1 refl)

  fresh-other : (term : Term) → ((variable : ℕ) → term ≢ Made number variable values) → fresh number values more old term ≡ old term
  fresh-other = term_cases (λ term. ((variable : ℕ) → term ≢ Made number variable values) → fresh number values more old term ≡ old term)
      (λ text other. ap (fresh_level number values more old (Const text)) (outs-Const text))
      (λ plain other. ap (fresh_level number values more old (Plain plain)) (outs-Plain plain))
      (λ r v fs other.
      ap (fresh_level number values more old (Made r v fs)) (outs-Made r v fs)
      ∙ by (Made r v fs) v (same_term (Made r v fs) (Made number v values))
      (λ is. other v ((same_term-Decides (Made r v fs) (Made number v values)).0 is)))
    where
      by : (term : Term) (variable : ℕ) (answer : Bool) → (answer ≡ true → ⊥) → cond answer (more (Plain variable)) (old term) ≡ old term
      by term variable true never = absurd (never refl)
      by term variable false never = refl

-- ---- lines that go on

-- the lines so far, and what they claim
pub record Begun (case : Case) : Type 0 where
  pub lines : List Line
  pub claims : List Claim
  pub are : AreClaimsOf case lines claims
  pub named : (line : Line) → Contains lines line → NamesFacts line

abbrev pub one_line : (case : Case) (old : Begun case) (line : Line) (claim : Claim) → MayClaim case old.claims line claim → NamesFacts line → Begun case
one_line case old line claim may names = record {
  lines = old.lines ++ line ∷ [];
  claims = old.claims ++ claim ∷ [];
  are = claims_more case old.lines old.claims line claim may old.are;
  named = λ other inside. elim (Contains-append_cases old.lines (line ∷ []) other inside) [
    | inl earlier ↦ old.named other earlier
    | inr last ↦ elim (Contains-cases line [] other last) [
      | inl is ↦ subst NamesFacts is names
      | inr none ↦ absurd (Contains-nil other none)
    ]
  ];
}

-- what a state states is claimed, up to links, under a map of its terms; and the map makes its head one with the targets
pub record Told (targets : List Term) (claims : List Claim) (now : ConjunctiveQuery) : Type 0 where
  pub value : Term → Term
  pub keeps : Keeps Const value
  pub sends : SendsInto value now.body (Reaches (Contains claims))
  pub heads : AllZip (Linked (Contains claims)) targets (map value now.head)

middle : {X : Type 0} (done : List X) (item : X) (rest : List X) → slice_get (done ++ item ∷ rest) (length done) ≡ Some item
middle [] item rest = refl
middle (first ∷ done) item rest = middle done item rest

module _ (case : Case) where
  -- a step's line at a match, by the rule of the number
  module _ (claims : List Claim) (number : ℕ) (rule : Rule) (at : slice_get case.rules number ≡ Some rule) (found : Found claims (body_of rule)) where
    abbrev step_line : ℕ → Line
    step_line place = Step (number + 1) place (facts_named claims (body_of rule) found) (links_named claims (body_of rule) found)

    step_may : (place : ℕ) (claim : Claim) → made_at place number rule (match_map (body_of rule) found.chosen) ≡ Some claim
        → MayClaim case claims (step_line place) claim
    step_may place claim makes = (
      rule,
      numbered_next case.rules number ∙ at,
      (
        found.chosen,
        map equality_from found.pairs,
        matches claims (body_of rule) found,
        ap (λ (it : ℕ). made_at place it rule (match_map (body_of rule) found.chosen)) minus ∙ makes,
      ),
    )
      where
        minus : number + 1 - 1 ≡ number
        minus = omega arith

  -- ---- what a tuple rule makes

  module _ (number : ℕ) (body head : List (Fact Term)) (at : slice_get case.rules number ≡ Some (tuple body head)) (full : body ≢ []) where
    -- what the rule makes of an atom of its head at the match
    abbrev made_claim : List (Fact Term) → Fact Term → Claim
    made_claim chosen atom = Stated (image (extended number body head (match_map body chosen)) atom)

    -- the lines go on, and claim what the rule makes of these atoms
    record Makes (old : Begun case) (chosen rest : List (Fact Term)) : Type 0 where
      new : Begun case
      more : List Claim
      is : new.claims ≡ old.claims ++ more
      made : (atom : Fact Term) → Contains rest atom → Contains new.claims (made_claim chosen atom)

    make : (old : Begun case) (found : Found old.claims body) (done rest : List (Fact Term)) → head ≡ done ++ rest → Makes old found.chosen rest
    make old found done [] is =
        record { new = old; more = []; is = sym (append-nil old.claims); made = λ atom none. absurd (Contains-nil atom none) }
    make old found done (atom ∷ rest) is =
        let claim = made_claim found.chosen atom in
        let there : made_at (length done + 1) number (tuple body head) (match_map body found.chosen) ≡ Some claim =
        ap (option_map (made_claim found.chosen)) (numbered_next head (length done) ∙ ap (λ (it : List (Fact Term)). slice_get it (length done)) is
        ∙ middle done atom rest) in
        let next = one_line case old (step_line old.claims number (tuple body head) at found (length done + 1)) claim
        (step_may old.claims number (tuple body head) at found (length done + 1) claim there) (some_named old.claims body found full) in
        let later = make next (found_more old.claims (claim ∷ []) body found) (done ++ atom ∷ []) rest (is ∙ sym (append_assoc done (atom ∷ []) rest)) in
        record {
          new = later.new;
          more = claim ∷ later.more;
          is = later.is ∙ append_assoc old.claims (claim ∷ []) later.more;
          made = λ other inside. elim (Contains-cases atom rest other inside) [
            | inl same ↦ subst (λ (it : Fact Term). Contains later.new.claims (made_claim found.chosen it)) same
                (subst (λ (it : List Claim). Contains it claim) (sym later.is)
                (Contains-append_left (old.claims ++ claim ∷ []) later.more claim (Contains-push old.claims claim)))
            | inr further ↦ later.made other further
          ];
        }

  -- ---- a step of the run

  module _ (start now next : ConjunctiveQuery) (old : Begun case) (told : Told case.targets old.claims now) where
    -- a match in the state's facts is one in what is claimed
    module _ (m : Term → Term) (body : List (Fact Term)) (m_keeps : Keeps Const m) (m_sends : Sends m body now.body) where
      through_keeps : Keeps Const (λ term. told.value (m term))
      through_keeps text = ap told.value (m_keeps text) ∙ told.keeps text

      through_sends : SendsInto (λ term. told.value (m term)) body (Reaches (Contains old.claims))
      through_sends = SendsInto-then m told.value body (Contains now.body) (Reaches (Contains old.claims)) told.sends m_sends

      at_match : Sent old.claims (λ term. told.value (m term)) through_keeps body through_sends
      at_match = sent old.claims (λ term. told.value (m term)) through_keeps body through_sends

    -- a merge: the two sides are claimed to be one, and the map stays
    module _ (number : ℕ) (m : Term → Term) (places : List ℕ) (from to : Term) (is : IsMerged case.rules now next number m places from to)
        (left_fixed : IsFixedBy is.body is.left) (right_fixed : IsFixedBy is.body is.right) (full : is.body ≢ []) where
      merge_match : Sent old.claims (λ term. told.value (m term))
          (through_keeps m is.body is.is_next.active.keeps (Sends-match m is.body now.body places is.is_next.active.matches)) is.body
          (through_sends m is.body is.is_next.active.keeps (Sends-match m is.body now.body places is.is_next.active.matches))
      merge_match = at_match m is.body is.is_next.active.keeps (Sends-match m is.body now.body places is.is_next.active.matches)

      abbrev meets_at : Term → Term
      meets_at = match_map is.body merge_match.found.chosen

      abbrev merge_claim : Claim
      merge_claim = Same (meets_at is.left) (meets_at is.right)

      abbrev merge_begun : Begun case
      merge_begun = one_line case old (step_line old.claims number (equality is.body is.left is.right) is.is_next.there merge_match.found 0) merge_claim
          (step_may old.claims number (equality is.body is.left is.right) is.is_next.there merge_match.found 0 merge_claim refl)
          (some_named old.claims is.body merge_match.found full)

      abbrev Claimed : Claim → Type 0
      Claimed = Contains (old.claims ++ merge_claim ∷ [])

      still : (claim : Claim) → Contains old.claims claim → Claimed claim
      still claim inside = Contains-append_left old.claims (merge_claim ∷ []) claim inside

      sides_one : Linked Claimed (told.value (m is.left)) (told.value (m is.right))
      sides_one = Linked-then (told.value (m is.left)) (meets_at is.left) (told.value (m is.right))
          (Linked-more still (told.value (m is.left)) (meets_at is.left) (merge_match.met is.left left_fixed))
          (Linked-then (meets_at is.left) (meets_at is.right) (told.value (m is.right))
          (one_link (meets_at is.left) (meets_at is.right) (Contains-push old.claims merge_claim))
          (Linked-back (told.value (m is.right)) (meets_at is.right)
          (Linked-more still (told.value (m is.right)) (meets_at is.right) (merge_match.met is.right right_fixed))))

      values_one : (term other : Term) → m is.left ≡ term → m is.right ≡ other → Linked Claimed (told.value term) (told.value other)
      values_one term other left_is right_is = subst (λ (it : Term). Linked Claimed (told.value term) (told.value it)) right_is
          (subst (λ (it : Term). Linked Claimed (told.value it) (told.value (m is.right))) left_is sides_one)

      from_to : Linked Claimed (told.value from) (told.value to)
      from_to = elim is.sides [
        | inl both ↦ Linked-back (told.value to) (told.value from) (values_one to from both.0 both.1)
        | inr both ↦ values_one from to both.0 both.1
      ]

      unseen : (term : Term) → Linked Claimed (told.value term) (told.value (replaced from to term))
      unseen term = elim (replaced_cases from to term) [
        | inl at ↦ subst (λ (it : Term). Linked Claimed (told.value term) (told.value it)) (sym at.1)
            (subst (λ (it : Term). Linked Claimed (told.value it) (told.value to)) (sym at.0) from_to)
        | inr apart ↦ Linked-is (told.value term) (told.value (replaced from to term)) (ap told.value (sym apart.1))
      ]

      rows_unseen : (terms : List Term) → AllZip (Linked Claimed) (map told.value terms) (map told.value (map (replaced from to) terms))
      rows_unseen terms = subst (AllZip (Linked Claimed) (map told.value terms)) (sym (map_then (replaced from to) told.value terms))
          (zip_maps Claimed told.value (λ term. told.value (replaced from to term)) terms (λ term _. unseen term))

      merge_sends : (fact : Fact Term) → Contains now.body fact → Reaches Claimed (image told.value (image (replaced from to) fact))
      merge_sends fact inside =
          reaches_one Claimed (image told.value fact) (image told.value (image (replaced from to) fact))
          (reaches_more (Contains old.claims) Claimed still (image told.value fact) (told.sends fact inside)) (refl, rows_unseen fact.terms)

      merge_told : Told case.targets merge_begun.claims next
      merge_told = record {
        value = told.value;
        keeps = told.keeps;
        sends = λ fact inside.
            let source = Contains-map_from (image (replaced from to)) now.body fact
            ((replaced-AreReplaced from to now.body next.body is.facts).back fact inside) in
            subst (λ (it : Fact Term). Reaches Claimed (image told.value it)) source.2 (merge_sends source.0 source.1);
        heads = subst (λ (it : List Term). AllZip (Linked Claimed) case.targets (map told.value it)) (sym is.replaced_head)
            (zip_then Claimed case.targets (map told.value now.head) (map told.value (map (replaced from to) now.head))
            (zip_more (Contains old.claims) Claimed still case.targets (map told.value now.head) told.heads) (rows_unseen now.head));
      }

    -- a tuple rule's step: what it makes is claimed, and the new terms go to what the lines make
    module _ (went : Term → Term) (gone : List Term) (fired : List Key) (kept : Kept case.rules start now went gone fired)
        (flat_start : (term : Term) → Contains start.head term → IsFlat term) (number : ℕ) (m : Term → Term) (places : List ℕ)
        (is : IsAdded case.rules now next number m places) (flat_head : AreFlat is.head) (full : is.body ≢ []) where
      matched : Sends m is.body now.body
      matched = Sends-match m is.body now.body places is.is_next.active.matches

      add_match : Sent old.claims (λ term. told.value (m term)) (through_keeps m is.body is.is_next.active.keeps matched) is.body
          (through_sends m is.body is.is_next.active.keeps matched)
      add_match = at_match m is.body is.is_next.active.keeps matched

      makes : Makes number is.body is.head is.is_next.there full old add_match.found.chosen is.head
      makes = make number is.body is.head is.is_next.there full old add_match.found [] is.head refl

      abbrev Made_claimed : Claim → Type 0
      Made_claimed = Contains makes.new.claims

      kept_claims : (claim : Claim) → Contains old.claims claim → Made_claimed claim
      kept_claims claim inside = subst (λ (it : List Claim). Contains it claim) (sym makes.is) (Contains-append_left old.claims makes.more claim inside)

      abbrev met_at : Term → Term
      met_at = match_map is.body add_match.found.chosen

      met_keeps : Keeps Const met_at
      met_keeps text = taken-Const (terms_of is.body) (terms_of add_match.found.chosen) text

      abbrev made_at_lines : Term → Term
      made_at_lines = extended number is.body is.head met_at

      abbrev made_in_run : Term → Term
      made_in_run = extended number is.body is.head m

      abbrev key_values : List Term
      key_values = map m (frontier is.body is.head)

      abbrev value_now : Term → Term
      value_now = fresh number key_values made_at_lines told.value

      settled : (term : Term) → Settled fired term → value_now term ≡ told.value term
      settled term is_settled = fresh-other number key_values made_at_lines told.value term (λ variable same.
          not_fired case.rules start now next went gone fired kept number is.body is.head m flat_head is.is_next.there is.is_next.active.keeps matched
          is.is_next.active.active (is_settled number variable key_values same))

      keeps_now : Keeps Const value_now
      keeps_now text = settled (Const text) (λ r v fs same. absurd (Const-apart-Made text r v fs same)) ∙ told.keeps text

      -- what the run makes of a term of the head goes to what the lines make of it
      made_one : (term : Term) → Mentions is.head term → Linked Made_claimed (made_at_lines term) (value_now (made_in_run term))
      made_one term inside = elim (extended-flat number is.body is.head m term is.is_next.active.keeps (flat_head term inside)) [
        | inl text ↦ Linked-is (made_at_lines term) (value_now (made_in_run term))
            (ap made_at_lines text.1 ∙ extended-keeps number is.body is.head met_at met_keeps text.0 ∙ sym (keeps_now text.0)
            ∙ ap value_now (sym text.2))
        | inr other ↦ elim other [
          | inl at ↦ in_body at.0 at.1
          | inr new ↦ Linked-is (made_at_lines term) (value_now (made_in_run term))
              (ap made_at_lines new.1 ∙ sym (fresh-new number key_values made_at_lines told.value new.0) ∙ ap value_now (sym new.3))
        ]
      ]
        where
          in_body : Mentions is.body term → made_in_run term ≡ m term → Linked Made_claimed (made_at_lines term) (value_now (made_in_run term))
          in_body mentioned same =
              let known = kept.known (m term) (Mentions-sent m is.body now.body term matched mentioned) in
              subst (λ (it : Term). Linked Made_claimed it (value_now (made_in_run term)))
              (sym (extended-body number is.body is.head met_at term mentioned))
              (subst (Linked Made_claimed (met_at term)) (sym (ap value_now same ∙ settled (m term) known))
              (Linked-back (told.value (m term)) (met_at term)
              (Linked-more kept_claims (told.value (m term)) (met_at term) (add_match.met term (inr mentioned)))))

      made_sends : (atom : Fact Term) → Contains is.head atom → Reaches Made_claimed (image value_now (image made_in_run atom))
      made_sends atom inside = (
        image made_at_lines atom,
        makes.made atom inside,
        (
          refl,
          subst (AllZip (Linked Made_claimed) (map made_at_lines atom.terms)) (sym (map_then made_in_run value_now atom.terms))
              (zip_maps Made_claimed made_at_lines (λ term. value_now (made_in_run term)) atom.terms (λ term in_atom. made_one term (atom, inside, in_atom))),
        ),
      )

      old_sends : SendsInto value_now now.body (Reaches Made_claimed)
      old_sends = SendsInto-agree told.value value_now now.body (Reaches Made_claimed) (λ term inside. sym (settled term (kept.known term inside)))
          (λ fact inside. reaches_more (Contains old.claims) Made_claimed kept_claims (image told.value fact) (told.sends fact inside))

      -- a term of the state's head is none that the step makes
      settled_head : (term : Term) → Contains now.head term → Settled fired term
      settled_head term inside =
          let source = Contains-map_from went start.head term (subst (λ (it : List Term). Contains it term) (sym kept.heads) inside) in
          subst (Settled fired) source.2 (elim (kept.moved source.0) [
            | inl stays ↦ subst (Settled fired) (sym stays) (λ r v fs same. absurd (flat-apart-Made source.0 r v fs (flat_start source.0 source.1) same))
            | inr both ↦ both.1
          ])

      add_told : Told case.targets makes.new.claims next
      add_told = record {
        value = value_now;
        keeps = keeps_now;
        sends = λ fact inside.
            elim ((joined-AreTogether now.body (made_facts number is.body is.head m) next.body is.facts).from fact inside) [
              | inl before ↦ old_sends fact before
              | inr added_fact ↦
                  let source = Contains-map_from (image made_in_run) is.head fact added_fact in
                  subst (λ (it : Fact Term). Reaches Made_claimed (image value_now it)) source.2 (made_sends source.0 source.1)
            ];
        heads = subst (λ (it : List Term). AllZip (Linked Made_claimed) case.targets (map value_now it)) (sym is.kept_head)
            (subst (AllZip (Linked Made_claimed) case.targets)
            (sym (map_agree value_now told.value now.head (λ term inside. settled term (settled_head term inside))))
            (zip_more (Contains old.claims) Made_claimed kept_claims case.targets (map told.value now.head) told.heads));
      }

  -- ---- the run

  module _ (are_rules : AreRules case.rules) (start : ConjunctiveQuery) (is_start : IsStart start) (first : Begun case)
      (told : Told case.targets first.claims start) where
    abbrev Reached : ConjunctiveQuery → Type 0
    Reached now = (lines : Begun case) × Told case.targets lines.claims now

    one_step : (trace : List Move) (now next : ConjunctiveQuery) (step : Move) → IsRun case.rules start trace now → IsStep case.rules now step next
        → Reached now → Reached next
    one_step trace now next (merged number m places from to) run is (lines, tells) =
        let shape = are_rules (equality is.body is.left is.right)
        (Contains-at case.rules number (equality is.body is.left is.right) is.is_next.there) in (
          merge_begun start now next lines tells number m places from to is shape.left_fixed shape.right_fixed shape.has_body,
          merge_told start now next lines tells number m places from to is shape.left_fixed shape.right_fixed shape.has_body,
        )
    one_step trace now next (added number m places) run is (lines, tells) =
        let shape = are_rules (tuple is.body is.head) (Contains-at case.rules number (tuple is.body is.head) is.is_next.there) in
        let so_far = ran case.rules start are_rules is_start.flat_body trace now run in (
          (makes start now next lines tells (moved_by trace) so_far.gone so_far.fired so_far.kept is_start.flat_head number m places is shape.flat_head
              shape.has_body).new,
          add_told start now next lines tells (moved_by trace) so_far.gone so_far.fired so_far.kept is_start.flat_head number m places is shape.flat_head
              shape.has_body,
        )

    pub reached : (trace : List Move) (now : ConjunctiveQuery) → IsRun case.rules start trace now → Reached now
    reached trace now begun = (first, told)
    reached trace now (went before old step next run is) = one_step before old next step run is (reached before old run)

  -- ---- the last line

  module _ (lines : Begun case) (end : ConjunctiveQuery) (told : Told case.targets lines.claims end) (is_query : IsQuery case.query) where
    -- a match of the query in the state is one in what is claimed, head to head
    pub record Ended : Type 0 where
      pub facts : List ℕ
      pub links : List ℕ
      pub some : facts ≢ []
      pub ends : MayEnd case lines.claims (Match facts links)

    module _ (m : Term → Term) (m_keeps : Keeps Const m) (m_sends : Sends m case.query.body end.body) (heads_are : map m case.query.head ≡ end.head) where
      abbrev value : Term → Term
      value term = told.value (m term)

      value_keeps : Keeps Const value
      value_keeps text = ap told.value (m_keeps text) ∙ told.keeps text

      value_sends : SendsInto value case.query.body (Reaches (Contains lines.claims))
      value_sends = SendsInto-then m told.value case.query.body (Contains end.body) (Reaches (Contains lines.claims)) told.sends m_sends

      at : Sent lines.claims value value_keeps case.query.body value_sends
      at = sent lines.claims value value_keeps case.query.body value_sends

      head_is : map told.value end.head ≡ map value case.query.head
      head_is = ap (map told.value) (sym heads_are) ∙ map_then m told.value case.query.head

      all_one : AllZip (Linked (Contains lines.claims)) case.targets (map (match_map case.query.body at.found.chosen) case.query.head)
      all_one = zip_then (Contains lines.claims) case.targets (map value case.query.head)
          (map (match_map case.query.body at.found.chosen) case.query.head)
          (subst (AllZip (Linked (Contains lines.claims)) case.targets) head_is told.heads)
          (zip_maps (Contains lines.claims) value (match_map case.query.body at.found.chosen) case.query.head
          (λ term inside. at.met term (is_query.safe term inside)))

      ended_by : Ended
      ended_by = record {
        facts = facts_named lines.claims case.query.body at.found;
        links = links_named lines.claims case.query.body at.found;
        some = some_named lines.claims case.query.body at.found is_query.has_body;
        ends = (
          at.found.chosen,
          map equality_from at.found.pairs,
          matches lines.claims case.query.body at.found,
          zip_weaker (Linked (Contains lines.claims)) (Linked (IsAmong at.found.chosen (map equality_from at.found.pairs))) case.targets
              (map (match_map case.query.body at.found.chosen) case.query.head) (λ term other _ linked. Linked-said at.all term other linked) all_one,
        );
      }

    pub ended : MapsTo case.query end → Ended
    ended (m, m_keeps, m_sends, heads_are) = ended_by m m_keeps m_sends heads_are
