-- The rows of a body, atom by atom and fact by fact.
use Rattle.std.proofs.Common.{◌≡◌, ℕ, ◌+◌, ◌<◌, ◌≤◌, ◌++◌, ◌⊎◌, ◌↔◌, Bool, true, false, List, [], ◌∷◌, length, get_or, take, map, Contains, Bor, Option, Some}
use Rattle.std.proofs.Common.{None, IsSome, is_some, option_copied, refl, sym, ap, subst, ◌∙◌, inl, inr}
use Rattle.std.specs.List.{slice_get}
use Rattle.std.specs.FinMap.{get, empty, get-empty}
use Rattle.std.specs.Ordering.{nat_cmp}
use Rattle.std.proofs.lemmas.Bool.{false≢true}
use Rattle.std.proofs.lemmas.Option.{none-some, same_Some, slice_get_read}
use Rattle.std.proofs.lemmas.List.{take_all, map_push}
use Rattle.std.proofs.lemmas.List.Elements.{Contains-append_left, Contains-push, Contains-push_cases}
use Rattle.esto_term.specs.declared.term.Term.{Term}
use Rattle.esto_term.specs.declared.term.Term.TheVariants.{Const, Plain}
use Rattle.esto_semantics.specs.Facts.{image, Mentions}
use Rattle.esto_semantics.specs.Maps.{IsConstant, IsFlat, Keeps, Sends}
use Rattle.esto_semantics.specs.Queries.{ConjunctiveQuery, IsQuery, IsAnswerInto}
use Rattle.esto_semantics.specs.declared.fact.Fact.{Fact}
use Rattle.esto_semantics.proofs.FactLemmas.{Sends-match}
use Rattle.esto_semantics.specs.Valuations.{Assignment, Extends, map_of}
use Rattle.esto_query.specs.Trails.{with_trail, Narrows, Excludes}
use Rattle.esto_query.specs.Rows.{IsRow, IsKnown, AreKnown, Decides, Adds}
use Rattle.esto_query.specs.Searches.{Searched}
use Rattle.esto_query.specs.Indexes.{AreCandidates}
use Rattle.esto_query.specs.declared.trail.Binding.{Binding}
use Rattle.esto_query.proofs.PlaceLemmas.{IsAtMost-nil}
use Rattle.esto_query.proofs.MapLemmas.{image_values}
use Rattle.esto_semantics.proofs.ValuationLemmas.{Keeps-map_of, Extends-map_of}
use Rattle.esto_query.proofs.MatchLemmas.{known_kept, known_fixed, match-Sends}
use Rattle.esto_term.proofs.ListLemmas.{Contains-at, Contains-cases, Contains-head, Contains-nil, Contains-rest, map_agree}
use Rattle.esto_term.proofs.PlaceLemmas.{take-item}

-- ---- with no atom left there is one row

pub some_value : (o : Option Term) → IsSome o → (term : Term) × (o ≡ Some term)
some_value None some = absurd (false≢true some)
some_value (Some term) some = (term, refl)

agree_known : (m : Term → Term) (known : Assignment) (term : Term) → Keeps Const m → Extends m known → IsKnown [] known term → m term ≡ map_of known term
agree_known m known term keeps extends (inl constant) =
    ap m constant.1 ∙ keeps constant.0 ∙ sym (Keeps-map_of known constant.0) ∙ ap (map_of known) (sym constant.1)
agree_known m known term keeps extends (inr plain) = elim plain.2 [
  | inl some ↦
      let value = some_value (get known plain.0) some in
      ap m plain.1 ∙ extends plain.0 value.0 value.1 ∙ sym (Extends-map_of known plain.0 value.0 value.1) ∙ ap (map_of known) (sym plain.1)
  | inr mentioned ↦ absurd (Contains-nil mentioned.0 mentioned.1)
]

-- a variable that has a value is known
pub variable_known : (known : Assignment) (term : Term) (variable : ℕ) (value : Option (Bor Term)) → term ≡ Plain variable
    → option_copied value ≡ get known variable → is_some value ≡ true → IsKnown [] known term
variable_known known term variable None is same some = absurd (false≢true some)
variable_known known term variable (Some there) is same some = inr (variable, is, inl (subst IsSome same refl))

-- one more image of a row
pub images_more : (m : Term → Term) (row : List Term) (place : ℕ) (term image : Term) (images more : List Term) → place < length row
    → term ≡ get_or row place term → images ≡ map m (take place row) → image ≡ m term → more ≡ images ++ image ∷ [] → more ≡ map m (take (place + 1) row)
images_more m row place term image images more within at so_far is grown =
    grown ∙ ap (λ (l : List Term). l ++ image ∷ []) so_far ∙ ap (λ (it : Term). map m (take place row) ++ it ∷ []) is
    ∙ sym (map_push m (take place row) term) ∙ ap (map m) (sym (take-item row place term within at))

pub IsRow-nil : (head : List Term) (facts : List (Fact Term)) (known : Assignment) (row : List Term) → AreKnown head [] known
    → (row ≡ map (map_of known) head) ↔ IsRow head [] facts known row
IsRow-nil head facts known row all = (
  λ e. (map_of known, Keeps-map_of known, Extends-map_of known, (λ atom inside. absurd (Contains-nil atom inside)), e),
  λ r. r.4 ∙ map_agree r.0 (map_of known) head (λ term inside. agree_known r.0 known term r.1 r.2 (all term inside)),
)

-- where the head is known, one match gives its one row
pub known_adds : (head : List Term) (body facts : List (Fact Term)) (known : Assignment) (old new : List (List Term)) → AreKnown head [] known
    → Decides body facts known true → Adds old new (λ row. row ≡ map (map_of known) head) → Adds old new (IsRow head body facts known)
known_adds head body facts known old new all found adds row = (
  λ there. elim ((adds row).0 there) [
    | inl before ↦ inl before
    | inr is ↦ inr (
      found.0,
      found.1,
      found.2,
      found.3,
      is ∙ sym (map_agree found.0 (map_of known) head (λ term inside. agree_known found.0 known term found.1 found.2 (all term inside))),
    )
  ],
  λ either. (adds row).1 (elim either [
    | inl before ↦ inl before
    | inr r ↦ inr (r.4 ∙ map_agree r.0 (map_of known) head (λ term inside. agree_known r.0 known term r.1 r.2 (all term inside)))
  ]),
)

pub none_adds : (head : List Term) (body facts : List (Fact Term)) (known : Assignment) (old new : List (List Term)) → new ≡ old
    → Decides body facts known false → Adds old new (IsRow head body facts known)
none_adds head body facts known old new same none row = (
  λ there. inl (subst (λ rows. Contains rows row) same there),
  λ either. elim either [
    | inl before ↦ subst (λ rows. Contains rows row) (sym same) before
    | inr r ↦ absurd (none r.0 r.1 r.2 r.3)
  ],
)

-- a search decides
pub Decides-searched : (start : Assignment) (body facts : List (Fact Term)) (old new : List Binding) (places_old places_new : List ℕ) (is_found : Bool)
    → Searched start body facts [] old new places_old places_new is_found → Decides body facts (with_trail start old) is_found
Decides-searched start body facts old new places_old places_new true searched =
    let m = map_of (with_trail start new) in
    let both = (searched.3.matches m (Keeps-map_of (with_trail start new))).0 (Extends-map_of (with_trail start new)) in
    (m, Keeps-map_of (with_trail start new), both.0, Sends-match m body facts searched.0 both.1)
Decides-searched start body facts old new places_old places_new false searched = λ m keeps extends sends.
    let match = match-Sends m body facts sends in
    searched.2 m match.0 keeps extends match.1 (IsAtMost-nil match.0)

-- one more row
pub Adds-push : (old new : List (List Term)) (row image : List Term) → new ≡ old ++ row ∷ [] → row ≡ image → Adds old new (λ other. other ≡ image)
Adds-push old new row image grown same other = (
  λ there. elim (Contains-push_cases old row other (subst (λ rows. Contains rows other) grown there)) [
    | inl before ↦ inl before
    | inr is ↦ inr (sym is ∙ same)
  ],
  λ either. subst (λ rows. Contains rows other) (sym grown) (elim either [
    | inl before ↦ Contains-append_left old (row ∷ []) other before
    | inr is ↦ subst (Contains (old ++ row ∷ [])) (sym (is ∙ sym same)) (Contains-push old row)
  ]),
)

-- ---- what is known after an atom

module _ (old new : Assignment) (atom : Fact Term) (facts : List (Fact Term)) (place : ℕ) (rest : List (Fact Term))
    (step : Narrows old new (λ m. slice_get facts place ≡ Some (image m atom))) where
  known_next : (term : Term) → IsKnown (atom ∷ rest) old term → IsKnown rest new term
  known_next term (inl constant) = inl constant
  known_next term (inr plain) = inr (
    plain.0,
    plain.1,
    elim plain.2 [
      | inl some ↦ inl (known_kept old new (λ m. slice_get facts place ≡ Some (image m atom)) step plain.0 some)
      | inr mentioned ↦ elim (Contains-cases atom rest mentioned.0 mentioned.1) [
        | inl same ↦ inl (known_fixed old new (λ m. slice_get facts place ≡ Some (image m atom)) step plain.0
            (λ m n p q. image_values m n atom (Plain plain.0) (same_Some _ _ (sym p ∙ q))
            (subst (Contains atom.terms) plain.1 (subst (λ (a : Fact Term). Contains a.terms term) (sym same) mentioned.2))))
        | inr later ↦ inr (mentioned.0, later, mentioned.2)
      ]
    ],
  )

  pub AreKnown-next : (head : List Term) → AreKnown head (atom ∷ rest) old → AreKnown head rest new
  AreKnown-next head all term inside = known_next term (all term inside)

-- ---- the rows whose first atom goes to the place of one of the candidates seen

pub record IsRowSeen (head : List Term) (atom : Fact Term) (rest facts : List (Fact Term)) (seen : List ℕ) (known : Assignment)
    (row : List Term) : Type 0 where
  pub m : Term → Term
  pub keeps : Keeps Const m
  pub extends : Extends m known
  pub place : ℕ
  pub among : Contains seen place
  pub first : slice_get facts place ≡ Some (image m atom)
  pub others : Sends m rest facts
  pub is_image : row ≡ map m head

pub Adds-same : {X : Type 0} (old new : List X) (P Q : X → Type 0) → ((x : X) → P x ↔ Q x) → Adds old new P → Adds old new Q
Adds-same old new P Q same adds x = (
  λ there. elim ((adds x).0 there) [ inl before ↦ inl before | inr p ↦ inr ((same x).0 p) ],
  λ either. (adds x).1 (elim either [ inl before ↦ inl before | inr q ↦ inr ((same x).1 q) ]),
)

pub leaf_adds : (head : List Term) (facts : List (Fact Term)) (known : Assignment) (old new : List (List Term)) (row : List Term) → AreKnown head [] known
    → row ≡ map (map_of known) head → Adds old new (λ other. other ≡ row) → Adds old new (IsRow head [] facts known)
leaf_adds head facts known old new row all is adds =
    Adds-same old new (λ other. other ≡ row) (IsRow head [] facts known)
    (λ other. let one = IsRow-nil head facts known other all in (λ e. one.0 (e ∙ is), λ r. one.1 r ∙ sym is)) adds

module _ (head : List Term) (atom : Fact Term) (rest facts : List (Fact Term)) (known : Assignment) (old : List (List Term)) where
  abbrev pub Seen : List ℕ → List Term → Type 0
  Seen seen row = IsRowSeen head atom rest facts seen known row

  pub none_seen : Adds old old (Seen [])
  none_seen row = (λ there. inl there, λ either. elim either [ inl there ↦ there | inr s ↦ absurd (Contains-nil s.place s.among) ])

  with_among : (seen other : List ℕ) (row : List Term) (s : Seen seen row) → Contains other s.place → Seen other row
  with_among seen other row s among =
      record { m = s.m; keeps = s.keeps; extends = s.extends; place = s.place; among = among; first = s.first; others = s.others; is_image = s.is_image }

  seen_more : (seen : List ℕ) (place : ℕ) (row : List Term) → Seen seen row → Seen (seen ++ place ∷ []) row
  seen_more seen place row s = with_among seen (seen ++ place ∷ []) row s (Contains-append_left seen (place ∷ []) s.place s.among)

  -- the map sends the atom to the fact at this place
  abbrev pub Here : ℕ → (Term → Term) → Type 0
  Here place m = slice_get facts place ≡ Some (image m atom)

  skip : (seen : List ℕ) (place : ℕ) (now : List (List Term)) → Excludes known (Here place) → Adds old now (Seen seen)
      → Adds old now (Seen (seen ++ place ∷ []))
  skip seen place now none = Adds-same old now (Seen seen) (Seen (seen ++ place ∷ [])) (λ row. (
    λ s. seen_more seen place row s,
    λ s. elim (Contains-push_cases seen place s.place s.among) [
      | inl before ↦ with_among (seen ++ place ∷ []) seen row s before
      | inr same ↦ absurd (none s.m s.keeps s.extends (ap (slice_get facts) same ∙ s.first))
    ],
  ))

  next : (seen : List ℕ) (place : ℕ) (mid : Assignment) (now new : List (List Term)) → Narrows known mid (Here place)
      → Adds now new (IsRow head rest facts mid) → Adds old now (Seen seen) → Adds old new (Seen (seen ++ place ∷ []))
  next seen place mid now new step more before row = (
    λ there. elim ((more row).0 there) [
      | inl earlier ↦ elim ((before row).0 earlier) [ inl first ↦ inl first | inr s ↦ inr (seen_more seen place row s) ]
      | inr r ↦
          let n = (step r.0 r.1).0 r.2 in
          inr (record {
            m = r.0;
            keeps = r.1;
            extends = n.0;
            place = place;
            among = Contains-push seen place;
            first = n.1;
            others = r.3;
            is_image = r.4;
          })
    ],
    λ either. (more row).1 (elim either [
      | inl first ↦ inl ((before row).1 (inl first))
      | inr s ↦ elim (Contains-push_cases seen place s.place s.among) [
        | inl earlier ↦ inl ((before row).1 (inr (with_among (seen ++ place ∷ []) seen row s earlier)))
        | inr same ↦
            let here : slice_get facts place ≡ Some (image s.m atom) =
            ap (slice_get facts) same ∙ s.first in
            inr (s.m, s.keeps, (step s.m s.keeps).1 (s.extends, here), s.others, s.is_image)
      ]
    ]),
  )

  module _ (found : List ℕ) (served : AreCandidates facts atom known found) where
    whole : (row : List Term) → Seen found row ↔ IsRow head (atom ∷ rest) facts known row
    whole row = (
      λ s. (
        s.m,
        s.keeps,
        s.extends,
        (λ a inside. elim (Contains-cases atom rest a inside)
            [ inl same ↦ subst (λ b. Contains facts (image s.m b)) same (Contains-at facts s.place (image s.m atom) s.first) | inr later ↦ s.others a later ]),
        s.is_image,
      ),
      λ r.
          let first = r.3 atom (Contains-head atom rest) in
          let at : slice_get facts first.0 ≡ Some (image r.0 atom) = slice_get_read facts _ first.0 (image r.0 atom) refl first.1 (sym first.2) in
          record {
            m = r.0;
            keeps = r.1;
            extends = r.2;
            place = first.0;
            among = served.complete r.0 first.0 r.1 r.2 at;
            first = at;
            others =
                λ a inside. r.3 a (Contains-rest atom rest a inside);
            is_image = r.4;
          },
    )

    module _ (i : ℕ) where
      pub turn_skip : (place : ℕ) (now : List (List Term)) → i < length found → place ≡ get_or found i place → Excludes known (Here place)
          → Adds old now (Seen (take i found)) → Adds old now (Seen (take (i + 1) found))
      turn_skip place now within read none seen =
          subst (λ es. Adds old now (Seen es)) (sym (take-item found i place within read)) (skip (take i found) place now none seen)

      pub turn_next : (place : ℕ) (mid : Assignment) (now new : List (List Term)) → i < length found → place ≡ get_or found i place
          → Narrows known mid (Here place) → Adds now new (IsRow head rest facts mid) → Adds old now (Seen (take i found))
          → Adds old new (Seen (take (i + 1) found))
      turn_next place mid now new within read step more seen =
          subst (λ es. Adds old new (Seen es)) (sym (take-item found i place within read)) (next (take i found) place mid now new step more seen)

      pub end_adds : (now : List (List Term)) → length found ≤ i → Adds old now (Seen (take i found)) → Adds old now (IsRow head (atom ∷ rest) facts known)
      end_adds now end seen =
          Adds-same old now (Seen found) (IsRow head (atom ∷ rest) facts known) whole (subst (λ es. Adds old now (Seen es)) (take_all i found end) seen)

-- ---- the answers

pub known_at_first : (query : ConjunctiveQuery) (start : Assignment) → IsQuery query → AreKnown query.head query.body start
known_at_first query start kept term inside = by (kept.flat_head term inside) (kept.safe term inside)
  where
    by : IsFlat term → IsConstant term ⊎ Mentions query.body term → IsKnown query.body start term
    by flat (inl constant) = inl constant
    by (inl constant) (inr mentioned) = inl constant
    by (inr plain) (inr mentioned) = inr (plain.0, plain.1, inr mentioned)

pub answers_added : (query : ConjunctiveQuery) (facts : List (Fact Term)) (old new : List (List Term)) (start : Assignment)
    → start ≡ empty {R = nat_cmp} → Adds old new (IsRow query.head query.body facts start) → Adds old new (IsAnswerInto Const query (Contains facts))
answers_added query facts old new start nothing adds =
    let extends : (m : Term → Term) → Extends m start =
    λ m variable term at. absurd (none-some term
    (sym (get-empty nat_cmp variable) ∙ ap (λ (known : Assignment). get known variable) (sym nothing) ∙ at)) in
    Adds-same old new (IsRow query.head query.body facts start) (IsAnswerInto Const query (Contains facts)) (λ row. (
      λ r. (r.0, r.1, r.3, r.4),
      λ answer. (answer.0, answer.1, extends answer.0, answer.2, answer.3),
    )) adds

pub answers_are : (Answers : List Term → Type 0) (old new kept : List (List Term)) → old ≡ [] → Adds old new Answers
    → ((row : List Term) → Contains kept row ↔ Contains new row) → (row : List Term) → Contains kept row ↔ Answers row
answers_are Answers old new kept none adds same row = (
  λ there. elim ((adds row).0 ((same row).0 there)) [
    | inl before ↦ absurd (Contains-nil row (subst (λ rows. Contains rows row) none before))
    | inr answer ↦ answer
  ],
  λ answer. (same row).1 ((adds row).1 (inr answer)),
)
