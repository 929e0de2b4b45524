-- Whether a match is active, and whether some match is.
use Rattle.std.proofs.Common.{◌≡◌, ℕ, ◌+◌, ◌*◌, ◌<◌, ◌≤◌, ◌⊎◌, ◌↔◌, Bool, true, false, not, IsTrue, List, [], ◌∷◌, length, get_or, take, map, Contains, IsSome}
use Rattle.std.proofs.Common.{Some, Result, Ok, Err}
use Rattle.std.specs.Result.{IfOk, OnOk}
use Rattle.std.proofs.Common.{Bor, refl, sym, ap, subst, ◌∙◌, inl, inr, arith}
use Rattle.std.specs.List.{slice_get}
use Rattle.std.specs.FinMap.{get}
use Rattle.std.proofs.lemmas.Bool.{false≢true}
use Rattle.std.proofs.lemmas.Option.{slice_get_read}
use Rattle.esto_term.specs.declared.term.Term.{Term}
use Rattle.esto_term.specs.declared.term.Term.TheVariants.{Const, Plain}
use Rattle.esto_term.proofs.ListLemmas.{Contains-at, Contains-cases, Contains-head, Contains-nil, Contains-rest, each_more, each_seen}
use Rattle.esto_semantics.specs.Facts.{image, Mentions}
use Rattle.esto_semantics.specs.Maps.{AreFlat, Keeps, Sends, AgreeOn}
use Rattle.esto_semantics.specs.Rules.{Rule, tuple, equality, denial}
use Rattle.esto_semantics.specs.declared.fact.Fact.{Fact}
use Rattle.esto_query.specs.Active.{Holds, IsOver, Completes, Tells, IsConcluded, NoneIsActive, DecidesActive}
use Rattle.esto_query.specs.Indexes.{AreCandidates}
use Rattle.esto_query.specs.Orders.{HaveSameAtoms}
use Rattle.esto_query.specs.Rows.{AreKnown, Decides}
use Rattle.esto_query.specs.Trails.{Narrows, Excludes}
use Rattle.esto_semantics.specs.Valuations.{Assignment, Extends, map_of}
use Rattle.esto_query.specs.declared.active.Conclusion.{Conclusion}
use Rattle.esto_query.specs.declared.active.Conclusion.TheVariants.{Extends as ExtendsTo, Equals, Never}
use Rattle.esto_query.proofs.MatchLemmas.{found_variables}
use Rattle.esto_query.proofs.OrderLemmas.{same_mentions, same_known, same_sends}
use Rattle.esto_query.proofs.RowLemmas.{IsRow-nil, AreKnown-next, some_value}
use Rattle.esto_semantics.proofs.ValuationLemmas.{Keeps-map_of, Extends-map_of}

-- ---- how much a search has to do at a match

abbrev pub work : Conclusion → ℕ
work (ExtendsTo head) = 3 * length head.now + 3
work (Equals left right) = 0
work Never = 0

-- to look for the head of a rule is less
pub head_less : (conclusion : Conclusion) (head : Bor (List (Fact Term))) → conclusion ≡ ExtendsTo head
    → 3 * length head.now + 2 + 0 < work conclusion
head_less conclusion head is = rw is (omega arith)

-- what holds of each outcome by two clauses
pub both_told : {E : Type 0} (result : Result Bool E) (P : Type 0) (Q R : Bool → Type 0) → (P → (is : Bool) → Q is → R is) → OnOk result P → IfOk result Q
    → IfOk result R
both_told (Ok is) P Q R by p q = by p is q
both_told (Err error) P Q R by p q = tt

-- ---- whether a match is active

-- two terms that have their values
pub equality_told : (body facts : List (Fact Term)) (left right : Term) (known : Assignment) → AreKnown (left ∷ right ∷ []) [] known → (is_same : Bool)
    → IsTrue is_same ↔ (map_of known left ≡ map_of known right) → Tells known (Holds facts (equality body left right)) (not is_same)
equality_told body facts left right known all = by
  where
    values : (m : Term → Term) → Keeps Const m → Extends m known → map m (left ∷ right ∷ []) ≡ map (map_of known) (left ∷ right ∷ [])
    values m keeps extends =
        (IsRow-nil (left ∷ right ∷ []) facts known (map m (left ∷ right ∷ [])) all).1
        (m, keeps, extends, (λ atom inside. absurd (Contains-nil atom inside)), refl)

    by : (is_same : Bool) → IsTrue is_same ↔ (map_of known left ≡ map_of known right) → Tells known (Holds facts (equality body left right)) (not is_same)
    by true told = λ m keeps extends.
        let both = values m keeps extends in
        let one : m left ≡ map_of known left = cc in
        let other : m right ≡ map_of known right = cc in
        one ∙ told.0 refl ∙ sym other
    by false told = λ m keeps extends same.
        let both = values m keeps extends in
        let one : m left ≡ map_of known left = cc in
        let other : m right ≡ map_of known right = cc in
        false≢true (told.1 (sym one ∙ same ∙ other))

module _ (body : List (Fact Term)) (known : Assignment) (flat : AreFlat body) (over : IsOver body known) where
  maps_agree : (m other : Term → Term) → Keeps Const m → Keeps Const other → Extends m known → Extends other known → AgreeOn ◌≡◌ body m other
  maps_agree m other keeps other_keeps extends other_extends term mentioned = elim (flat term mentioned) [
    | inl constant ↦ ap m constant.1 ∙ keeps constant.0 ∙ sym (ap other constant.1 ∙ other_keeps constant.0)
    | inr plain ↦
        let value = some_value (get known plain.0) ((over plain.0).1 (subst (Mentions body) plain.1 mentioned)) in
        ap m plain.1 ∙ extends plain.0 value.0 value.1 ∙ sym (ap other plain.1 ∙ other_extends plain.0 value.0 value.1)
  ]

  Extends-agree : (m more : Term → Term) → Extends m known → AgreeOn ◌≡◌ body m more → Extends more known
  Extends-agree m more extends same variable term at =
      sym (same (Plain variable) ((over variable).0 (subst IsSome (sym at) refl))) ∙ extends variable term at

  -- a match that extends to the head
  pub tuple_told : (head facts : List (Fact Term)) (is_found : Bool) → Decides head facts known is_found
      → Tells known (Holds facts (tuple body head)) (not is_found)
  tuple_told head facts true found = λ m keeps extends.
      (found.0, found.1, maps_agree m found.0 keeps found.1 extends found.2, found.3)
  tuple_told head facts false none = λ m keeps extends extension.
      none extension.0 extension.1 (Extends-agree m extension.0 extends extension.2) extension.3

pub over_at_end : (known : Assignment) (whole : List (Fact Term)) → Completes known [] whole → IsOver whole known
over_at_end known whole completes variable = (
  λ some. (completes variable).0 (inl some),
  λ at. elim ((completes variable).1 at) [ inl some ↦ some | inr never ↦ absurd (Contains-nil never.0 never.1) ],
)

-- with no atom left, that of the valuation tells
pub end_decides : (facts : List (Fact Term)) (rule : Rule) (known : Assignment) (is : Bool) → Tells known (Holds facts rule) is
    → DecidesActive facts rule known [] is
end_decides facts rule known true tells =
    let m = map_of known in (
      m,
      Keeps-map_of known,
      Extends-map_of known,
      (λ atom inside. absurd (Contains-nil atom inside)),
      tells m (Keeps-map_of known) (Extends-map_of known),
    )
end_decides facts rule known false tells = λ m keeps extends sends. tells m keeps extends

-- under a denial each match is active
pub denial_decides : (atoms facts : List (Fact Term)) (known : Assignment) (is : Bool) → DecidesActive facts (denial []) known atoms is
    → Decides atoms facts known is
denial_decides atoms facts known true found = (found.0, found.1, found.2, found.3)
denial_decides atoms facts known false none = none

-- ---- the atoms in another order

module _ (body other : List (Fact Term)) (same : HaveSameAtoms body other) where
  pub same_decides : (facts : List (Fact Term)) (rule : Rule) (known : Assignment) (is : Bool) → DecidesActive facts rule known other is
      → DecidesActive facts rule known body is
  same_decides facts rule known true decides =
      (decides.0, decides.1, decides.2, (same_sends body other same decides.0 (Contains facts)).1 decides.3, decides.4)
  same_decides facts rule known false none = λ m keeps extends sends.
      none m keeps extends ((same_sends body other same m (Contains facts)).0 sends)

  same_completes : (known : Assignment) (whole : List (Fact Term)) → Completes known body whole → Completes known other whole
  same_completes known whole completes variable = (
    λ either. (completes variable).0 (elim either [ inl some ↦ inl some | inr at ↦ inr ((same_mentions body other same (Plain variable)).1 at) ]),
    λ at. elim ((completes variable).1 at) [ inl some ↦ inl some | inr there ↦ inr ((same_mentions body other same (Plain variable)).0 there) ],
  )

  pub same_concluded : (whole : List (Fact Term)) (conclusion : Conclusion) (known : Assignment) → IsConcluded whole conclusion body known
      → IsConcluded whole conclusion other known
  same_concluded whole (ExtendsTo head) known concluded = (concluded.0, concluded.1, same_completes known whole concluded.2)
  same_concluded whole (Equals left right) known concluded = same_known body other same (left.now ∷ right.now ∷ []) known concluded
  same_concluded whole Never known concluded = tt

-- ---- where the atom goes to a place

module _ (facts : List (Fact Term)) (known : Assignment) (atom : Fact Term) (rest : List (Fact Term)) (flat : AreFlat (atom ∷ rest)) (place : ℕ)
    (mid : Assignment) (step : Narrows known mid (λ m. slice_get facts place ≡ Some (image m atom))) where
  flat_one : AreFlat (atom ∷ [])
  flat_one term at = elim (Contains-cases atom [] at.0 at.1) [
    | inl is ↦ flat term (atom, Contains-head atom rest, subst (λ (a : Fact Term). Contains a.terms term) (sym is) at.2)
    | inr never ↦ absurd (Contains-nil at.0 never)
  ]

  now_known : (variable : ℕ) → IsSome (get mid variable) ↔ (IsSome (get known variable) ⊎ Mentions (atom ∷ []) (Plain variable))
  now_known = found_variables (atom ∷ []) facts known mid (place ∷ []) flat_one
      (λ m keeps. (λ extends. let both = (step m keeps).0 extends in (both.0, (both.1, tt)), λ both. (step m keeps).1 (both.0, both.1.0)))

  completes_next : (whole : List (Fact Term)) → Completes known (atom ∷ rest) whole → Completes mid rest whole
  completes_next whole completes variable = (
    λ either. (completes variable).0 (elim either [
      | inl some ↦ elim ((now_known variable).0 some) [
        | inl before ↦ inl before
        | inr at ↦ inr (elim (Contains-cases atom [] at.0 at.1) [
          | inl here ↦ (atom, Contains-head atom rest, subst (λ (a : Fact Term). Contains a.terms (Plain variable)) (sym here) at.2)
          | inr never ↦ absurd (Contains-nil at.0 never)
        ])
      ]
      | inr at ↦ inr (at.0, Contains-rest atom rest at.0 at.1, at.2)
    ]),
    λ mentioned. elim ((completes variable).1 mentioned) [
      | inl before ↦ inl ((now_known variable).1 (inl before))
      | inr at ↦ elim (Contains-cases atom rest at.0 at.1) [
        | inl here ↦ inl ((now_known variable).1
            (inr (atom, Contains-head atom [], subst (λ (a : Fact Term). Contains a.terms (Plain variable)) (sym here) at.2)))
        | inr later ↦ inr (at.0, later, at.2)
      ]
    ],
  )

  pub concluded_next : (whole : List (Fact Term)) (conclusion : Conclusion) → IsConcluded whole conclusion (atom ∷ rest) known
      → IsConcluded whole conclusion rest mid
  concluded_next whole (ExtendsTo head) concluded = (concluded.0, concluded.1, completes_next whole concluded.2)
  concluded_next whole (Equals left right) concluded = AreKnown-next known mid atom facts place rest step (left.now ∷ right.now ∷ []) concluded
  concluded_next whole Never concluded = tt

-- ---- the candidates of an atom in turn

module _ (facts : List (Fact Term)) (rule : Rule) (known : Assignment) (atom : Fact Term) (rest : List (Fact Term)) where
  -- no match with the atom at the place is active
  abbrev pub HoldsAt : ℕ → Type 0
  HoldsAt place =
      (m : Term → Term) → Keeps Const m → Extends m known → slice_get facts place ≡ Some (image m atom) → Sends m rest facts → Holds facts rule m

  pub holds_without : (place : ℕ) → Excludes known (λ m. slice_get facts place ≡ Some (image m atom)) → HoldsAt place
  holds_without place none m keeps extends at sends = absurd (none m keeps extends at)

  module _ (place : ℕ) (mid : Assignment) (step : Narrows known mid (λ m. slice_get facts place ≡ Some (image m atom))) where
    pub holds_with : DecidesActive facts rule mid rest false → HoldsAt place
    holds_with none m keeps extends at sends = none m keeps ((step m keeps).1 (extends, at)) sends

    pub active_with : DecidesActive facts rule mid rest true → DecidesActive facts rule known (atom ∷ rest) true
    active_with (m, keeps, extends, sends, fails) =
        let before = (step m keeps).0 extends in (
          m,
          keeps,
          before.0,
          (λ a inside. elim (Contains-cases atom rest a inside)
              [ inl same ↦ subst (λ b. Contains facts (image m b)) same (Contains-at facts place (image m atom) before.1) | inr later ↦ sends a later ]),
          fails,
        )

  pub holds_more : (found : List ℕ) (i place : ℕ) → i < length found → place ≡ get_or found i place → HoldsAt place
      → ((other : ℕ) → Contains (take i found) other → HoldsAt other) → (other : ℕ) → Contains (take (i + 1) found) other → HoldsAt other
  holds_more found i place within read = each_more HoldsAt found i place within read

  pub holds_all : (found : List ℕ) (i : ℕ) → AreCandidates facts atom known found → length found ≤ i
      → ((other : ℕ) → Contains (take i found) other → HoldsAt other) → NoneIsActive facts rule known (atom ∷ rest)
  holds_all found i served past before m keeps extends sends =
      let first = sends atom (Contains-head atom rest) in
      let at : slice_get facts first.0 ≡ Some (image m atom) = slice_get_read facts _ first.0 (image m atom) refl first.1 (sym first.2) in
      each_seen HoldsAt found i past before first.0 (served.complete m first.0 keeps extends at) m keeps extends at
      (λ a inside. sends a (Contains-rest atom rest a inside))
