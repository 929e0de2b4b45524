-- Ways that grow by one term, by a row, by an atom and by a body.
use Rattle.std.proofs.Common.{◌≡◌, ◌⊎◌, ◌↔◌, ◌<◌, ◌≤◌, ◌+◌, inl, inr, ℕ, Bool, true, false, List, [], ◌∷◌, ◌++◌, length, map, take, drop, get_or, slice_get}
use Rattle.std.proofs.Common.{slice_range, ◌-◌, Contains, Some, refl, sym, ap, ◌∙◌, subst, arith}
use Rattle.std.specs.List.{AllZip}
use Rattle.std.proofs.lemmas.List.{append_assoc, length-drop, take_all, drop_all}
use Rattle.std.proofs.lemmas.List.Elements.{Contains-append_cases, Contains-append_left, Contains-append_right, Contains-push, Contains-push_cases}
use Rattle.std.proofs.lemmas.Option.{slice_get_within}
use Rattle.esto_term.specs.declared.term.Term.{Term}
use Rattle.esto_term.specs.Order.{same_term}
use Rattle.esto_semantics.proofs.TermLemmas.{same_term-Decides}
use Rattle.std.specs.Bool.{Decides}
use Rattle.std.specs.Set.{is_member}
use Rattle.std.proofs.lemmas.Map.Made.{is_member-Decides}
use Rattle.std.proofs.lemmas.Bool.{false≢true}
use Rattle.esto_term.specs.Sets.{Has, Within, united}
use Rattle.esto_semantics.specs.declared.fact.Fact.{Fact}
use Rattle.esto_term.proofs.ListLemmas.{Contains-nil, Contains-head, Contains-one, map_agree}
use Rattle.esto_term.proofs.SetLemmas.{has_united}
use Rattle.esto_chase_laws.specs.Worlds.{InWorld}
use Rattle.esto_semantics.specs.Facts.{terms_of}
use Rattle.esto_chase_laws.specs.WorldMatches.{taken, IsDirectMatch}
use Rattle.esto_chase_laws.specs.Derived.{Claims, IsNamed, IsUnion}
use Rattle.esto_chase_laws.specs.declared.entry.Claim.{Claim}
use Rattle.esto_chase_laws.specs.declared.entry.Claim.TheVariants.{Fact as Stated}
use Rattle.esto_chase_laws.specs.declared.entry.Entry.{Entry}
use Rattle.esto_chase_laws.proofs.TakenLemmas.{taken-stays}
use Rattle.esto_prov.proofs.MeetLemmas.{taken-new}
use Rattle.esto_condchase.specs.Ways.{AgreeOn, IsFound, AreFound}
use Rattle.esto_known.specs.KeptWays.{AreCounted}
use Rattle.esto_known.specs.Told.{Tell}
use Rattle.esto_known.specs.declared.way.Way.{Way}
use Rattle.esto_term.proofs.PlaceLemmas.{take-item, drop-item}
use Rattle.esto_known.proofs.TellLemmas.{taken-apart}
use Rattle.esto_semantics.proofs.FactLemmas.{terms_of-push}

one_of : {X : Type 0} (P : X → Type 0) (only other : X) → Contains (only ∷ []) other → P only → P other
one_of P only other inside it = subst P (Contains-one only other inside) it

-- ---- unions

IsNamed-more : (entries : List Entry) (places more : List ℕ) (claim : Claim) → IsNamed entries places claim → IsNamed entries (places ++ more) claim
IsNamed-more entries places more claim (place, inside, claims) = (place, Contains-append_left places more place inside, claims)

pub IsNamed-held : (entries : List Entry) (places more : List ℕ) → ((place : ℕ) → Contains places place → Contains more place) → (claim : Claim)
    → IsNamed entries places claim → IsNamed entries more claim
IsNamed-held entries places more kept claim (place, inside, claims) = (place, kept place inside, claims)

module _ (entries : List Entry) (places more : List ℕ) (product : List Bool) (place : ℕ) (entry : Entry) (at : slice_get entries place ≡ Some entry)
    (same : (other : ℕ) → Contains more other ↔ (Contains places other ⊎ (place ≡ other))) (union : IsUnion entries places product) where
  pub IsUnion-more : IsUnion entries more (united product entry.product)
  IsUnion-more = record {
    there = λ other inside. elim ((same other).0 inside) [
      | inl earlier ↦ union.there other earlier
      | inr is ↦ subst (λ it. it < length entries) is (slice_get_within entries place entry at)
    ];
    exact = λ number. (
      (λ has. elim ((has_united product entry.product number).0 has) [
        | inl here ↦ let found = (union.exact number).0 here in (found.0, found.1, (same found.0).1 (inl found.2), found.3, found.4)
        | inr there ↦ (place, entry, (same place).1 (inr refl), at, there)
      ]),
      (λ (other, its, inside, at_other, has). (has_united product entry.product number).1 (elim ((same other).0 inside) [
        | inl earlier ↦ inl ((union.exact number).1 (other, its, earlier, at_other, has))
        | inr is ↦ inr (let both : Some entry ≡ Some its = sym at ∙ ap (slice_get entries) is ∙ at_other in let is_entry : its ≡ entry = cc in
            subst (λ (it : Entry). Has it.product number) is_entry has)
      ])),
    );
  }

pub IsUnion-none : (entries : List Entry) (product : List Bool) → ((number : ℕ) → Has product number → ⊥) → IsUnion entries [] product
IsUnion-none entries product none = record {
  there = λ place inside. absurd (Contains-nil place inside);
  exact = λ number. ((λ has. absurd (none number has)), (λ (place, entry, inside, at, has). absurd (Contains-nil place inside)));
}

pub last_more : (facts links : List ℕ) (place other : ℕ) → Contains (facts ++ (links ++ place ∷ [])) other ↔ (Contains (facts ++ links) other ⊎ (place ≡ other))
last_more facts links place other = (
  (λ inside. elim (Contains-append_cases facts (links ++ place ∷ []) other inside) [
    | inl in_facts ↦ inl (Contains-append_left facts links other in_facts)
    | inr in_links ↦ elim (Contains-push_cases links place other in_links) [
      | inl earlier ↦ inl (Contains-append_right facts links other earlier)
      | inr is ↦ inr is
    ]
  ]),
  (λ which. elim which [
    | inl inside ↦ elim (Contains-append_cases facts links other inside) [
      | inl in_facts ↦ Contains-append_left facts (links ++ place ∷ []) other in_facts
      | inr in_links ↦ Contains-append_right facts (links ++ place ∷ []) other (Contains-append_left links (place ∷ []) other in_links)
    ]
    | inr is ↦ Contains-append_right facts (links ++ place ∷ []) other (subst (Contains (links ++ place ∷ [])) is (Contains-push links place))
  ]),
)

pub fact_more : (facts links : List ℕ) (place other : ℕ) → Contains ((facts ++ place ∷ []) ++ links) other ↔ (Contains (facts ++ links) other ⊎ (place ≡ other))
fact_more facts links place other = (
  (λ inside. elim (Contains-append_cases (facts ++ place ∷ []) links other inside) [
    | inl in_facts ↦ elim (Contains-push_cases facts place other in_facts) [
      | inl earlier ↦ inl (Contains-append_left facts links other earlier)
      | inr is ↦ inr is
    ]
    | inr in_links ↦ inl (Contains-append_right facts links other in_links)
  ]),
  (λ which. elim which [
    | inl inside ↦ elim (Contains-append_cases facts links other inside) [
      | inl in_facts ↦ Contains-append_left (facts ++ place ∷ []) links other (Contains-append_left facts (place ∷ []) other in_facts)
      | inr in_links ↦ Contains-append_right (facts ++ place ∷ []) links other in_links
    ]
    | inr is ↦ Contains-append_left (facts ++ place ∷ []) links other (subst (Contains (facts ++ place ∷ [])) is (Contains-push facts place))
  ]),
)

pub within_united : (one other atoms : List Bool) → Within one atoms → Within other atoms → Within (united one other) atoms
within_united one other atoms left right number has = elim ((has_united one other number).0 has) [
  | inl here ↦ left number here
  | inr there ↦ right number there
]

-- ---- agreement on terms

-- going on by the same terms keeps the agreement
pub AgreeOn-more : (terms from to others more owns : List Term) → length from ≡ length to → length from ≡ length others → AgreeOn terms from to others
    → AgreeOn terms (from ++ more) (to ++ owns) (others ++ owns)
AgreeOn-more terms from to others more owns l k agree term inside =
    by (is_member same_term from term) (is_member-Decides same_term-Decides from term) refl
  where
    by : (answer : Bool) → Decides (is_member same_term from term) (Contains from term) → is_member same_term from term ≡ answer
        → taken (from ++ more) (to ++ owns) term ≡ taken (from ++ more) (others ++ owns) term
    by true decides told =
        let here = decides.0 told in
        taken-stays from to more owns l term here ∙ agree term inside ∙ sym (taken-stays from others more owns k term here)
    by false decides told =
        let apart : Contains from term → ⊥ = λ here. false≢true (sym told ∙ decides.1 here) in
        taken-new from to more owns l term apart ∙ sym (taken-new from others more owns k term apart)

pub AgreeOn-same : (terms from its_from to others its_others : List Term) → its_from ≡ from → its_others ≡ others → AgreeOn terms from to others
    → AgreeOn terms its_from to its_others
AgreeOn-same terms from its_from to others its_others same same_others agree =
    subst (λ it. AgreeOn terms it to its_others) (sym same) (subst (AgreeOn terms from to) (sym same_others) agree)

-- terms that tell as much as all are enough
pub AgreeOn-told : (from terms these to others : List Term) → Tell from terms these → AgreeOn these from to others → AgreeOn terms from to others
AgreeOn-told from terms these to others tell agree term inside = elim (tell.told term inside) [
  | inl told ↦ agree term told
  | inr apart ↦ taken-apart from to others term apart
]

pub row_agrees : (One : Term → Term → Type 0) (terms from to others owns : List Term) → AgreeOn terms from to others
    → AllZip One owns (map (taken from others) terms)
    → AllZip One owns (map (taken from to) terms)
row_agrees One terms from to others owns agree row =
    subst (AllZip One owns) (map_agree (taken from others) (taken from to) terms (λ term inside. sym (agree term inside))) row

-- ---- a body

pub found_none : (entries : List Entry) (live sides : List Term) (ways : List Way) (way : Way) → ways ≡ way ∷ [] → way.to ≡ [] → way.facts ≡ [] → way.links ≡ []
    → ((number : ℕ) → Has way.product number → ⊥) → AreFound entries [] live sides ways
found_none entries live sides ways way are no_to no_facts no_links empty = rw are record {
  sound = λ it inside. one_of (IsFound entries []) way it inside (record {
    chosen = [];
    stated = subst (λ its. AllZip (λ (place : ℕ) (fact : Fact Term). Claims entries place (Stated fact)) its []) (sym no_facts) tt;
    alike = tt;
    is_way = record {
      lengths = refl;
      facts_are = refl;
      to_is = no_to;
      fits = tt;
      equalities = λ place inside. absurd (Contains-nil place (subst (λ links. Contains links place) no_links inside));
      union =
          rw (no_facts, no_links) (IsUnion-none entries way.product empty);
    };
  });
  complete = λ atoms chosen matches. inl (none atoms chosen matches);
}
  where
    none : (atoms : List Bool) (chosen : List (Fact Term)) → IsDirectMatch (InWorld entries atoms) [] chosen → (it : Way) × Contains (way ∷ []) it
        × AgreeOn live [] it.to (terms_of chosen) × Within it.product atoms
    none atoms [] matches = (
      way,
      Contains-head way [],
      (λ term _. taken-apart [] way.to [] term (Contains-nil term)),
      (λ number has. absurd (empty number has)),
    )
    none atoms (fact ∷ chosen) matches = absurd matches.0

-- the last fact of as many as the atoms
pub last_chosen : (R : Fact Term → Fact Term → Type 0) (body : List (Fact Term)) (atom : Fact Term) (chosen : List (Fact Term))
    → AllZip R (body ++ atom ∷ []) chosen
    → (before : List (Fact Term)) × (fact : Fact Term) × (chosen ≡ before ++ fact ∷ []) × AllZip R body before × R atom fact
last_chosen R [] atom [] z = absurd z
last_chosen R [] atom (fact ∷ []) z = ([], fact, refl, tt, z.0)
last_chosen R [] atom (fact ∷ next ∷ more) z = absurd z.1
last_chosen R (first ∷ body) atom [] z = absurd z
last_chosen R (first ∷ body) atom (fact ∷ chosen) z = let rest = last_chosen R body atom chosen z.1 in
    (fact ∷ rest.0, rest.1, ap (λ it. fact ∷ it) rest.2, (z.0, rest.3), rest.4)

-- ---- the turns of the loops

pub counted_one : (count : ℕ) (ways : List Way) (way : Way) → ways ≡ way ∷ [] → length way.product ≡ count → AreCounted count ways
counted_one count ways way are is = rw are (λ it inside. one_of (λ (its : Way). length its.product ≡ count) way it inside is)

pub found_lengths : (entries : List Entry) (body : List (Fact Term)) (live sides : List Term) (ways items : List Way) (from : List Term)
    → AreFound entries body live sides ways → items ≡ ways → from ≡ terms_of body → (way : Way) → Contains items way → length from ≡ length way.to
found_lengths entries body live sides ways items from found same from_is way inside =
    let it = found.sound way (subst (λ its. Contains its way) same inside) in
    ap length from_is ∙ it.is_way.lengths ∙ ap length (sym it.is_way.to_is)

pub rest_after : {X : Type 0} (items : List X) (place : ℕ) → place < length items → slice_range items (place + 1) (length items) ≡ drop (place + 1) items
rest_after items place within = take_all (length items - (place + 1)) (drop (place + 1) items) (rw length-drop (omega arith))

-- the terms of the atoms from a place on, and the others
pub live_turn : (body : List (Fact Term)) (asked : List Term) (place : ℕ) (atom : Fact Term) → place < length body → atom ≡ get_or body place atom
    → terms_of (drop place body) ++ asked ≡ atom.terms ++ (terms_of (drop (place + 1) body) ++ asked)
live_turn body asked place atom within is = ap (λ (it : List (Fact Term)). terms_of it ++ asked) (drop-item body place atom within is)
    ∙ append_assoc atom.terms (terms_of (drop (place + 1) body)) asked

pub body_all : (entries : List Entry) (body : List (Fact Term)) (asked sides : List Term) (place : ℕ) (ways : List Way) → length body ≤ place
    → AreFound entries (take place body) (terms_of (drop place body) ++ asked) sides ways → AreFound entries body asked sides ways
body_all entries body asked sides place ways past found =
    subst (λ it. AreFound entries it asked sides ways) (take_all place body past)
    (subst (λ (it : List (Fact Term)). AreFound entries (take place body) (terms_of it ++ asked) sides ways) (drop_all place body past) found)

pub from_turn : (body : List (Fact Term)) (place : ℕ) (atom : Fact Term) (from later copied : List Term) → place < length body → atom ≡ get_or body place atom
    → from ≡ terms_of (take place body) → copied ≡ atom.terms → later ≡ from ++ copied
    → later ≡ terms_of (take (place + 1) body)
from_turn body place atom from later copied within is from_is copied_is grown =
    rw (take-item body place atom within is) (grown ∙ (λ i. from_is i ++ copied_is i) ∙ sym (terms_of-push (take place body) atom))

pub AgreeOn-from : (terms from to its others : List Term) → to ≡ its → AgreeOn terms from to others → AgreeOn terms from its others
AgreeOn-from terms from to its others same agree = subst (λ it. AgreeOn terms from it others) same agree
