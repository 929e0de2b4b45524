-- What the worlds of all sets claim, and the terms that the atoms of a body reach in them.
use Rattle.std.proofs.Common.{◌≡◌, ◌↔◌, ◌<◌, ◌≤◌, ◌+◌, inl, inr, ℕ, Bool, true, false, cond, List, [], ◌∷◌, ◌++◌, length, map, drop, get_or, Contains}
use Rattle.std.proofs.Common.{refl, sym, ap, ◌∙◌, subst, arith, append_assoc}
use Rattle.std.specs.Bool.{Decides}
use Rattle.std.specs.List.{AllZip}
use Rattle.std.specs.Set.{is_member}
use Rattle.std.proofs.lemmas.Bool.{false≢true}
use Rattle.std.proofs.lemmas.List.{length-append, length-map, map-append, drop_all}
use Rattle.std.proofs.lemmas.List.Elements.{Contains-append_right}
use Rattle.std.proofs.lemmas.Map.Made.{is_member-Decides}
use Rattle.esto_term.specs.Order.{same_term}
use Rattle.esto_term.specs.declared.term.Term.{Term}
use Rattle.esto_term.proofs.ListLemmas.{Contains-nil, Contains-cases, map_agree}
use Rattle.esto_term.proofs.PlaceLemmas.{drop-item}
use Rattle.esto_term.proofs.ZipLemmas.{zip_append, zip_split, zip_weaker}
use Rattle.esto_semantics.specs.Facts.{terms_of}
use Rattle.esto_term.specs.Sets.{Within, Covers}
use Rattle.esto_semantics.specs.declared.fact.Fact.{Fact}
use Rattle.esto_semantics.proofs.TermLemmas.{same_term-Decides}
use Rattle.esto_semantics.specs.Spreads.{substituted}
use Rattle.esto_chase_laws.specs.Claims.{AreSameClaim}
use Rattle.esto_chase_laws.specs.WorldLaws.{HasMatch}
use Rattle.esto_chase_laws.specs.WorldMatches.{taken, Touching, Fits, AreChosen}
use Rattle.esto_chase_laws.specs.WorldSteps.{AreJoined}
use Rattle.esto_chase_laws.specs.Worlds.{InWorld, SaysOne, Linked}
use Rattle.esto_chase_laws.specs.declared.entry.Claim.{Claim}
use Rattle.esto_chase_laws.specs.declared.entry.Claim.TheVariants.{Fact as Stated, Same}
use Rattle.esto_chase_laws.specs.declared.entry.Entry.{Entry}
use Rattle.esto_chase_laws.proofs.ClosedLemmas.{choose, touching, Fits-linked}
use Rattle.esto_chase_laws.proofs.LinkLemmas.{Linked-touching, Touching-back}
use Rattle.esto_chase_laws.proofs.SoundLemmas.{rows_split}
use Rattle.esto_chase_laws.proofs.TakenLemmas.{taken_cases, taken-Const, taken-stays, Fits-join}
use Rattle.esto_known.specs.Groups.{AreGroups}
use Rattle.esto_condchase.specs.Products.{Reach, Steps, IsFirst, IsNext}
use Rattle.esto_known.specs.Touching.{AreTouching}
use Rattle.esto_known.specs.Indexes.{CoversClaim}
use Rattle.esto_known.specs.Told.{Tell}
use Rattle.esto_known.specs.declared.group.Group.{Group}
use Rattle.esto_condchase.specs.declared.reached.Reached.{Reached}
use Rattle.esto_known.proofs.CoverLemmas.{covers_covered}
use Rattle.esto_prov.proofs.MeetLemmas.{taken-new}

-- ---- going on

-- The terms `from` have met the terms `to`. What holds goes on with a body: it has a fact for each atom, whose terms touch what the atoms' terms meet first.
abbrev pub GoesOn : (Claim → Type 0) → List Term → List Term → List (Fact Term) → Type 0
GoesOn Holds from to body =
    (chosen : List (Fact Term)) × AreChosen Holds body chosen
    × AllZip (Touching Holds) (terms_of chosen) (map (taken (from ++ terms_of body) (to ++ terms_of chosen)) (terms_of body))

-- What holds goes on with a body, with this fact for its first atom.
abbrev pub GoesOnBy : (Claim → Type 0) → List Term → List Term → List (Fact Term) → Fact Term → Type 0
GoesOnBy Holds from to [] fact = ⊥
GoesOnBy Holds from to (atom ∷ body) fact =
    (fact.relation ≡ atom.relation) × (length fact.terms ≡ length atom.terms)
    × AllZip (Touching Holds) fact.terms (map (taken (from ++ atom.terms) (to ++ fact.terms)) atom.terms)
    × GoesOn Holds (from ++ atom.terms) (to ++ fact.terms) body

module _ (Holds : Claim → Type 0) (from to : List Term) (lengths : length from ≡ length to) (atom : Fact Term) (rest : List (Fact Term)) where
  abbrev whole : Fact Term → List (Fact Term) → Term → Term
  whole fact chosen = taken ((from ++ atom.terms) ++ terms_of rest) ((to ++ fact.terms) ++ terms_of chosen)

  -- the terms of the first atom meet the same by the first atom alone
  first_row : (fact : Fact Term) (chosen : List (Fact Term)) → length fact.terms ≡ length atom.terms
      → map (whole fact chosen) atom.terms ≡ map (taken (from ++ atom.terms) (to ++ fact.terms)) atom.terms
  first_row fact chosen same =
      let both : length (from ++ atom.terms) ≡ length (to ++ fact.terms) = rw (length-append, length-append) (omega (arith, lengths, same)) in
      map_agree (whole fact chosen) (taken (from ++ atom.terms) (to ++ fact.terms)) atom.terms
      (λ term inside. taken-stays (from ++ atom.terms) (to ++ fact.terms) (terms_of rest) (terms_of chosen) both term
      (Contains-append_right from atom.terms term inside))

  abbrev Row : Fact Term → List (Fact Term) → List Term → List Term → Type 0
  Row fact chosen its_from its_to = AllZip (Touching Holds) (fact.terms ++ terms_of chosen) (map (taken its_from its_to) (atom.terms ++ terms_of rest))

  regroup : (fact : Fact Term) (chosen : List (Fact Term))
      → Row fact chosen (from ++ (atom.terms ++ terms_of rest)) (to ++ (fact.terms ++ terms_of chosen))
      ≡ Row fact chosen ((from ++ atom.terms) ++ terms_of rest) ((to ++ fact.terms) ++ terms_of chosen)
  regroup fact chosen =
      λ i. Row fact chosen (sym (append_assoc from atom.terms (terms_of rest)) i) (sym (append_assoc to fact.terms (terms_of chosen)) i)

  -- what goes on with a body does so by a fact for its first atom, and back
  pub go_split : GoesOn Holds from to (atom ∷ rest) → (fact : Fact Term) × Holds (Stated fact) × GoesOnBy Holds from to (atom ∷ rest) fact
  go_split ([], are, fits) = absurd are
  go_split (fact ∷ chosen, are, fits) =
      let m : Term → Term = whole fact chosen in
      let same : AllZip (Touching Holds) (fact.terms ++ terms_of chosen) (map m (atom.terms ++ terms_of rest)) =
      subst (λ (it : Type 0). it) (regroup fact chosen) fits in
      let parts = zip_split (Touching Holds) fact.terms (terms_of chosen) (map m atom.terms) (map m (terms_of rest))
      (are.0.2 ∙ sym (length-map atom.terms m))
      (subst (AllZip (Touching Holds) (fact.terms ++ terms_of chosen)) (map-append m atom.terms (terms_of rest)) same) in
      (fact, are.0.0, (are.0.1, are.0.2, subst (AllZip (Touching Holds) fact.terms) (first_row fact chosen are.0.2) parts.0, (chosen, are.1, parts.1)))

  pub go_join : (fact : Fact Term) → Holds (Stated fact) → GoesOnBy Holds from to (atom ∷ rest) fact → GoesOn Holds from to (atom ∷ rest)
  go_join fact holds (relation, same, row, (chosen, are, fits)) =
      let m : Term → Term = whole fact chosen in
      let rows : AllZip (Touching Holds) (fact.terms ++ terms_of chosen) (map m atom.terms ++ map m (terms_of rest)) =
      zip_append (Touching Holds) fact.terms (terms_of chosen) (map m atom.terms) (map m (terms_of rest))
      (subst (AllZip (Touching Holds) fact.terms) (sym (first_row fact chosen same)) row) fits in (
        fact ∷ chosen,
        ((holds, relation, same), are),
        subst (λ (it : Type 0). it) (sym (regroup fact chosen))
            (subst (AllZip (Touching Holds) (fact.terms ++ terms_of chosen)) (sym (map-append m atom.terms (terms_of rest))) rows),
      )

-- ---- the terms that tell are enough

substituted_map : (m : Term → Term) (these : List Term) (term : Term) → Contains these term → substituted these (map m these) term ≡ m term
substituted_map m [] term inside = absurd (Contains-nil term inside)
substituted_map m (first ∷ these) term inside = by (same_term term first) refl (λ later. substituted_map m these term later)
  where
    by : (answer : Bool) → same_term term first ≡ answer → (Contains these term → substituted these (map m these) term ≡ m term)
        → cond answer (m first) (substituted these (map m these) term) ≡ m term
    by true told again = ap m (sym ((same_term-Decides term first).0 told))
    by false told again = elim (Contains-cases first these term inside) [
      | inl is ↦ (let wrong : true ≡ false = sym ((same_term-Decides term first).1 (sym is)) ∙ told in cc)
      | inr later ↦ again later
    ]

module _ (from to terms these : List Term) (lengths : length from ≡ length to) (tell : Tell from terms these) where
  abbrev told_to : List Term
  told_to = map (taken from to) these

  told_first : (term : Term) → Contains these term → taken these told_to term ≡ taken from to term
  told_first term inside = elim (taken_cases term) [
    | inl (text, is) ↦ subst (λ it. taken these told_to it ≡ taken from to it) (sym is)
        (taken-Const these told_to text ∙ sym (taken-Const from to text))
    | inr by ↦ by these told_to ∙ substituted_map (taken from to) these term inside
  ]

  pub told_more : (more owns : List Term) (term : Term) → Contains terms term
      → taken (these ++ more) (told_to ++ owns) term ≡ taken (from ++ more) (to ++ owns) term
  told_more more owns term inside = by (is_member same_term these term) (is_member-Decides same_term-Decides these term) refl
    where
      by : (answer : Bool) → Decides (is_member same_term these term) (Contains these term) → is_member same_term these term ≡ answer
          → taken (these ++ more) (told_to ++ owns) term ≡ taken (from ++ more) (to ++ owns) term
      by true decides is =
          let here = decides.0 is in
          taken-stays these told_to more owns (sym (length-map these (taken from to))) term here ∙ told_first term here
          ∙ sym (taken-stays from to more owns lengths term (tell.among term here))
      by false decides is =
          let none : Contains these term → ⊥ = λ here. false≢true (sym is ∙ decides.1 here) in
          elim (tell.told term inside) [
            | inl here ↦ absurd (none here)
            | inr apart ↦ taken-new these told_to more owns (sym (length-map these (taken from to))) term none
                ∙ sym (taken-new from to more owns lengths term apart)
          ]

module _ (Holds : Claim → Type 0) (from to these : List Term) (rest : List (Fact Term)) (lengths : length from ≡ length to)
    (tell : Tell from (terms_of rest) these) where
  told_row : (chosen : List (Fact Term))
      → map (taken (these ++ terms_of rest) (map (taken from to) these ++ terms_of chosen)) (terms_of rest)
      ≡ map (taken (from ++ terms_of rest) (to ++ terms_of chosen)) (terms_of rest)
  told_row chosen = map_agree (taken (these ++ terms_of rest) (map (taken from to) these ++ terms_of chosen))
      (taken (from ++ terms_of rest) (to ++ terms_of chosen)) (terms_of rest)
      (told_more from to (terms_of rest) these lengths tell (terms_of rest) (terms_of chosen))

  pub goes_told : GoesOn Holds these (map (taken from to) these) rest ↔ GoesOn Holds from to rest
  goes_told = (
    (λ (chosen, are, row). (chosen, are, subst (AllZip (Touching Holds) (terms_of chosen)) (told_row chosen) row)),
    (λ (chosen, are, row). (chosen, are, subst (AllZip (Touching Holds) (terms_of chosen)) (sym (told_row chosen)) row)),
  )

-- ---- what is group

says_alike : (one other : Claim) → AreSameClaim one other → (s t : Term) → SaysOne one s t → SaysOne other s t
says_alike (Stated fact) other alike s t (inl is) = cc
says_alike (Stated fact) other alike s t (inr is) = cc
says_alike (Same a b) (Stated fact) alike s t says = absurd alike
says_alike (Same a b) (Same c d) (inl both) s t says = subst (λ it. SaysOne it s t) (λ i. Same (both.0 i) (both.1 i)) says
says_alike (Same a b) (Same c d) (inr both) s t (inl is) =
    let h : Same a b ≡ Same s t = is in
    let x : a ≡ s = cc in
    let y : b ≡ t = cc in
    inr (λ i. Same ((sym both.1 ∙ y) i) ((sym both.0 ∙ x) i))
says_alike (Same a b) (Same c d) (inr both) s t (inr is) =
    let h : Same a b ≡ Same t s = is in
    let x : a ≡ t = cc in
    let y : b ≡ s = cc in
    inl (λ i. Same ((sym both.1 ∙ y) i) ((sym both.0 ∙ x) i))

states_alike : (fact : Fact Term) (one claim : Claim) → one ≡ Stated fact → AreSameClaim one claim → claim ≡ Stated fact
states_alike fact one claim is alike = by claim (subst (λ it. AreSameClaim it claim) is alike)
  where
    by : (it : Claim) → AreSameClaim (Stated fact) it → it ≡ Stated fact
    by (Stated other) same = ap Stated (sym same)
    by (Same left right) never = absurd never

module _ (entries : List Entry) (groups : List Group) (are_groups : AreGroups entries groups) (set : List Bool) where
  pub touching_to : (s t : Term) → AreTouching groups set s t → Touching (InWorld entries set) s t
  touching_to s t (inl is) = inl is
  touching_to s t (inr (group, inside, (inl is), covers)) =
      covers_covered entries (Same s t) set (subst (λ it. CoversClaim entries it set) is (((are_groups.each group inside).exact set).0 covers))
  touching_to s t (inr (group, inside, (inr is), covers)) =
      Touching-back (InWorld entries set) t s (covers_covered entries (Same t s) set (subst (λ it. CoversClaim entries it set) is
      (((are_groups.each group inside).exact set).0 covers)))

  by_entry : (entry : Entry) → Contains entries entry → Within entry.product set → (s t : Term) → SaysOne entry.claim s t → AreTouching groups set s t
  by_entry entry inside within s t says =
      let (group, in_groups, alike) = are_groups.all entry inside in
      inr (group, in_groups, says_alike entry.claim group.claim alike s t says, ((are_groups.each group in_groups).exact set).1 (entry, inside, alike, within))

  pub touching_from : (s t : Term) → Touching (InWorld entries set) s t → AreTouching groups set s t
  touching_from s t (inl is) = inl is
  touching_from s t (inr (inl (entry, inside, within, is))) = by_entry entry inside within s t (inl is)
  touching_from s t (inr (inr (entry, inside, within, is))) = by_entry entry inside within s t (inr is)

  pub fact_to : (group : Group) → Contains groups group → (fact : Fact Term) → group.claim ≡ Stated fact → Covers group.by.sets set
      → InWorld entries set (Stated fact)
  fact_to group inside fact is covers =
      covers_covered entries (Stated fact) set (subst (λ it. CoversClaim entries it set) is (((are_groups.each group inside).exact set).0 covers))

  pub fact_from : (fact : Fact Term) → InWorld entries set (Stated fact)
      → (group : Group) × Contains groups group × (group.claim ≡ Stated fact) × Covers group.by.sets set
  fact_from fact (entry, inside, within, is) =
      let (group, in_groups, alike) = are_groups.all entry inside in
      (group, in_groups, states_alike fact entry.claim group.claim is alike, ((are_groups.each group in_groups).exact set).1 (entry, inside, alike, within))

-- ---- what is reached leads on

-- The set's world goes on with the body from something that is reached in it.
abbrev pub Leads : List Entry → List Term → List (Fact Term) → List Reached → List Bool → Type 0
Leads entries from body ones set = (to : List Term) × Reach ones to set × GoesOn (InWorld entries set) from to body

abbrev pub AreLong : List Term → List Reached → Type 0
AreLong from ones = (to : List Term) (set : List Bool) → Reach ones to set → length from ≡ length to

module _ (entries : List Entry) (groups : List Group) (are_groups : AreGroups entries groups) (atom : Fact Term) (rest : List (Fact Term)) (from : List Term)
    (ones : List Reached) (lengths : AreLong from ones) (later_from : List Term) (later : List Reached)
    (next : IsNext groups atom rest from ones later_from later) where
  abbrev longer : List Term
  longer = from ++ atom.terms

  longer_lengths : (to : List Term) (fact : Fact Term) → length from ≡ length to → length fact.terms ≡ length atom.terms
      → length longer ≡ length (to ++ fact.terms)
  longer_lengths to fact l same = rw (length-append, length-append) (omega (arith, l, same))

  pub lengths_turn : AreLong later_from later
  lengths_turn to set reach =
      let (one, inside, (group, in_groups, (fact, states, like, (to_is, covers, covers_known, row)))) = (next.1 to set).0 reach in
      sym (ap length to_is ∙ length-map later_from (taken longer (one.to ++ fact.terms)))

  pub leads_turn : (set : List Bool) → Leads entries later_from rest later set ↔ Leads entries from (atom ∷ rest) ones set
  leads_turn set = (
    (λ (to, reach, goes).
        let (one, inside, (group, in_groups, (fact, states, like, (to_is, covers, covers_known, row)))) = (next.1 to set).0 reach in
        let l = lengths one.to set (one, inside, refl, covers) in
        let on = (goes_told (InWorld entries set) longer (one.to ++ fact.terms) later_from rest (longer_lengths one.to fact l like.1) next.0).0
        (subst (λ it. GoesOn (InWorld entries set) later_from it rest) to_is goes) in (
          one.to,
          (one, inside, refl, covers),
          go_join (InWorld entries set) from one.to l atom rest fact (fact_to entries groups are_groups set group in_groups fact states covers_known) (
            like.0,
            like.1,
            zip_weaker (AreTouching groups set) (Touching (InWorld entries set)) fact.terms (map (taken longer (one.to ++ fact.terms)) atom.terms)
                (λ s t _ one. touching_to entries groups are_groups set s t one) row,
            on,
          ),
        )),
    (λ (to, (one, inside, is, covers), goes).
        let l = lengths one.to set (one, inside, refl, covers) in
        let (fact, holds, (relation, same, row, on)) = go_split (InWorld entries set) from one.to l atom rest
        (subst (λ it. GoesOn (InWorld entries set) from it (atom ∷ rest)) (sym is) goes) in
        let (group, in_groups, states, covers_known) = fact_from entries groups are_groups set fact holds in
        let own : List Term = map (taken longer (one.to ++ fact.terms)) later_from in (
          own,
          (next.1 own set).1 (
            one,
            inside,
            (
              group,
              in_groups,
              (
                fact,
                states,
                (relation, same),
                (
                  refl,
                  covers,
                  covers_known,
                  zip_weaker (Touching (InWorld entries set)) (AreTouching groups set) fact.terms (map (taken longer (one.to ++ fact.terms)) atom.terms)
                      (λ s t _ one. touching_from entries groups are_groups set s t one) row,
                ),
              ),
            ),
          ),
          (goes_told (InWorld entries set) longer (one.to ++ fact.terms) later_from rest (longer_lengths one.to fact l same) next.0).1 on,
        )),
  )

-- ---- the begin: the head with the targets

module _ (entries : List Entry) (groups : List Group) (are_groups : AreGroups entries groups) (head : List Term) (body : List (Fact Term)) (targets : List Term)
    (heads : length targets ≡ length head) (joined : AreJoined entries entries) (ones : List Reached) (first : IsFirst groups head targets ones) where
  pub first_lengths : AreLong head ones
  first_lengths to set reach = sym (ap length ((first to set).0 reach).0 ∙ heads)

  module _ (set : List Bool) where
    abbrev Holds : Claim → Type 0
    Holds = InWorld entries set

    is_match : (chosen : List (Fact Term)) → AreChosen Holds body chosen → Fits (Touching Holds) (head ++ terms_of body) (targets ++ terms_of chosen)
        → HasMatch Holds head body targets
    is_match chosen are fits =
        let m : Term → Term = taken (head ++ terms_of body) (targets ++ terms_of chosen) in
        let linked : AllZip (Linked Holds) (targets ++ terms_of chosen) (map m (head ++ terms_of body)) =
        zip_weaker (Touching Holds) (Linked Holds) (targets ++ terms_of chosen) (map m (head ++ terms_of body))
        (λ term other _ one. Linked-touching term other one) fits in
        let rows = zip_split (Linked Holds) targets (terms_of chosen) (map m head) (map m (terms_of body)) (heads ∙ sym (length-map head m))
        (subst (AllZip (Linked Holds) (targets ++ terms_of chosen)) (map-append m head (terms_of body)) linked) in (
          m,
          (λ text. taken-Const (head ++ terms_of body) (targets ++ terms_of chosen) text),
          (λ atom inside. let part = rows_split Holds (Linked Holds) m body chosen are rows.1 atom inside in (part.0, part.1, (part.2, part.3))),
          rows.0,
        )

    first_leads : Leads entries head body ones set → HasMatch Holds head body targets
    first_leads (to, reach, goes) =
        let (is, row) = (first to set).0 reach in
        let (chosen, are, rest) : GoesOn Holds head targets body = subst (λ it. GoesOn Holds head it body) is goes in
        is_match chosen are (Fits-join (Touching Holds) head targets (sym heads) (terms_of body) (terms_of chosen)
        (zip_weaker (AreTouching groups set) (Touching Holds) targets (map (taken head targets) head)
        (λ s t _ one. touching_to entries groups are_groups set s t one) row) rest)

    first_led : HasMatch Holds head body targets → Leads entries head body ones set
    first_led (val, keeps, sends, fits) =
        let (chosen, are, chosen_fits) = choose Holds val keeps body sends in
        let all : AllZip (Linked Holds) (targets ++ terms_of chosen) (map val (head ++ terms_of body)) =
        subst (AllZip (Linked Holds) (targets ++ terms_of chosen)) (sym (map-append val head (terms_of body)))
        (zip_append (Linked Holds) targets (terms_of chosen) (map val head) (map val (terms_of body)) fits chosen_fits) in
        let m : Term → Term = taken (head ++ terms_of body) (targets ++ terms_of chosen) in
        let linked : AllZip (Linked Holds) (targets ++ terms_of chosen) (map m (head ++ terms_of body)) =
        Fits-linked Holds val keeps (head ++ terms_of body) (targets ++ terms_of chosen) all in
        let parts = zip_split (Linked Holds) targets (terms_of chosen) (map m head) (map m (terms_of body)) (heads ∙ sym (length-map head m))
        (subst (AllZip (Linked Holds) (targets ++ terms_of chosen)) (map-append m head (terms_of body)) linked) in
        let row : AllZip (AreTouching groups set) targets (map (taken head targets) head) =
        zip_weaker (Linked Holds) (AreTouching groups set) targets (map (taken head targets) head)
        (λ term other _ one. touching_from entries groups are_groups set term other (touching (joined set) term other one))
        (Fits-linked Holds val keeps head targets fits) in (
          targets,
          (first targets set).1 (refl, row),
          (
            chosen,
            are,
            zip_weaker (Linked Holds) (Touching Holds) (terms_of chosen) (map m (terms_of body))
                (λ term other _ one. touching (joined set) term other one) parts.1,
          ),
        )

  pub leads_first : (set : List Bool) → Leads entries head body ones set ↔ HasMatch (InWorld entries set) head body targets
  leads_first set = (first_leads set, first_led set)

-- ---- the end

pub leads_last : (entries : List Entry) (from : List Term) (ones : List Reached) (set : List Bool)
    → Leads entries from [] ones set ↔ ((one : Reached) × Contains ones one × Covers one.by.sets set)
leads_last entries from ones set = (
  (λ (to, (one, inside, is, covers), goes). (one, inside, covers)),
  (λ (one, inside, covers). (one.to, (one, inside, refl, covers), ([], tt, tt))),
)

-- ---- the loop

pub record LedSoFar (entries : List Entry) (head : List Term) (body : List (Fact Term)) (targets : List Term) (place : ℕ) (from : List Term)
    (ones : List Reached) : Type 0 where
  pub leads : (set : List Bool) → Leads entries from (drop place body) ones set ↔ HasMatch (InWorld entries set) head body targets
  pub lengths : AreLong from ones

pub led_first : (entries : List Entry) (groups : List Group) → AreGroups entries groups → (head : List Term) (body : List (Fact Term)) (targets : List Term)
    → length targets ≡ length head → AreJoined entries entries → (from : List Term) (ones : List Reached) → from ≡ head → IsFirst groups head targets ones
    → LedSoFar entries head body targets 0 from ones
led_first entries groups are_groups head body targets heads joined from ones is first = rw is record {
  leads = leads_first entries groups are_groups head body targets heads joined ones first;
  lengths = first_lengths entries groups are_groups head body targets heads joined ones first;
}

pub led_turn : (entries : List Entry) (groups : List Group) → AreGroups entries groups → (head : List Term) (body : List (Fact Term)) (targets : List Term)
    (place : ℕ) (atom : Fact Term) (rest : List (Fact Term)) (from : List Term) (ones : List Reached) (later_from : List Term) (later : List Reached)
    → place < length body → atom ≡ get_or body place atom → rest ≡ drop (place + 1) body → LedSoFar entries head body targets place from ones
    → IsNext groups atom rest from ones later_from later → LedSoFar entries head body targets (place + 1) later_from later
led_turn entries groups are_groups head body targets place atom rest from ones later_from later within is rest_is so_far next =
    let own : IsNext groups atom (drop (place + 1) body) from ones later_from later =
    subst (λ it. IsNext groups atom it from ones later_from later) rest_is next in
    let turn = leads_turn entries groups are_groups atom (drop (place + 1) body) from ones so_far.lengths later_from later own in
    let split : drop place body ≡ atom ∷ drop (place + 1) body = drop-item body place atom within is in
    record {
      leads = λ set. (
        (λ leads. (so_far.leads set).0 (subst (λ it. Leads entries from it ones set) (sym split) ((turn set).0 leads))),
        (λ matched. (turn set).1 (subst (λ it. Leads entries from it ones set) split ((so_far.leads set).1 matched))),
      );
      lengths = lengths_turn entries groups are_groups atom (drop (place + 1) body) from ones so_far.lengths later_from later own;
    }

pub led_all : (entries : List Entry) (head : List Term) (body : List (Fact Term)) (targets : List Term) (place : ℕ) (from : List Term)
    (ones items : List Reached) (sets : List (List Bool)) → length body ≤ place → items ≡ ones → LedSoFar entries head body targets place from ones
    → ((set : List Bool) → Covers sets set ↔ ((one : Reached) × Contains items one × Covers one.by.sets set))
    → (set : List Bool) → Covers sets set ↔ HasMatch (InWorld entries set) head body targets
led_all entries head body targets place from ones items sets past same so_far exact set =
    let last = leads_last entries from ones set in
    let empty : drop place body ≡ [] = drop_all place body past in (
      (λ covers.
          let (one, inside, its) = (exact set).0 covers in
          (so_far.leads set).0 (subst (λ it. Leads entries from it ones set) (sym empty) (last.1 (one, subst (λ it. Contains it one) same inside, its)))),
      (λ matched.
          let (one, inside, its) = last.0 (subst (λ it. Leads entries from it ones set) empty ((so_far.leads set).1 matched)) in
          (exact set).1 (one, subst (λ it. Contains it one) (sym same) inside, its)),
    )

pub next_from : (groups : List Group) (atom : Fact Term) (rest : List (Fact Term)) (from : List Term) (ones : List Reached)
    (its_terms grown items these these_items again : List Term) (its_ones later : List Reached)
    → its_terms ≡ atom.terms → grown ≡ from ++ its_terms → items ≡ grown → Tell items (terms_of rest) these
    → again ≡ grown → these_items ≡ these → its_ones ≡ ones
    → ((to : List Term) (set : List Bool) → Reach later to set ↔ Steps groups again these_items atom its_ones to set)
    → IsNext groups atom rest from ones these later
next_from groups atom rest from ones its_terms grown items these these_items again its_ones later terms_are grown_is items_are tell
    again_is these_same ones_same steps =
    let all : grown ≡ from ++ atom.terms = grown_is ∙ ap (λ it. from ++ it) terms_are in (
      subst (λ it. Tell it (terms_of rest) these) (items_are ∙ all) tell,
      (λ to set. subst (λ it. Reach later to set ↔ Steps groups it these atom ones to set) (again_is ∙ all)
          (subst (λ it. Reach later to set ↔ Steps groups again it atom ones to set) these_same
          (subst (λ it. Reach later to set ↔ Steps groups again these_items atom it to set) ones_same (steps to set)))),
    )
