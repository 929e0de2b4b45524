-- Things named by values: each that has a text by that text, and every other by its first place in a list. What facts say of the
-- things, the facts over the values say of the values.
use Rattle.std.proofs.Common.{◌≡◌, inl, inr, suc, ℕ, Bool, true, false, cond, List, [], ◌∷◌, map, Contains, slice_index_or, get_or, Some, None, Option, refl}
use Rattle.std.proofs.Common.{sym, ap, ◌∙◌, subst}
use Rattle.std.specs.Bool.{Decides}
use Rattle.esto_term.specs.declared.term.Term.{Term}
use Rattle.esto_term.specs.declared.term.Term.TheVariants.{Const}
use Rattle.esto_semantics.specs.Facts.{Database, image, Mentions}
use Rattle.esto_semantics.specs.Maps.{Keeps, Sends, IsFixedBy}
use Rattle.esto_semantics.specs.Queries.{ConjunctiveQuery, IsAnswerInto}
use Rattle.esto_semantics.specs.Rules.{Rule, tuple, equality, denial, IsRule, MeetsInto, MeetsRule}
use Rattle.esto_semantics.specs.declared.fact.Fact.{Fact}
use Rattle.esto_semantics.specs.declared.fact.Value.{Value}
use Rattle.esto_semantics.specs.declared.fact.Value.TheVariants.{Text, Node}
use Rattle.esto_semantics.proofs.FactLemmas.{image_agree, image_then, image_itself, SendsInto-then, SendsInto-agree, Sends-then, Sends-images, Mentions-images}
use Rattle.esto_semantics.proofs.FactLemmas.{Mentions-sent}
use Rattle.esto_semantics.proofs.TermLemmas.{mended, mended-Keeps, mended-same}
use Rattle.esto_term.proofs.ListLemmas.{Contains-cases, Contains-map_from, Contains-nil, map_agree, map_itself, map_then}

-- How things have texts: what a text stands for, which text a thing is named by, and a test of equality.
pub record Naming (V : Type 0) : Type 0 where
  pub constant : List ℕ → V
  pub text_of : V → Option (List ℕ)
  pub same : V → V → Bool
  pub told : (thing : V) (text : List ℕ) → text_of thing ≡ Some text → constant text ≡ thing
  pub decides : (thing other : V) → Decides (same thing other) (thing ≡ other)

module _ {V : Type 0} where
  -- the first place of a thing
  abbrev place : (V → V → Bool) → List V → V → ℕ
  place same [] thing = 0
  place same (first ∷ rest) thing = cond (same first thing) 0 (suc (place same rest thing))

  at_place : (same : V → V → Bool) → ((thing other : V) → Decides (same thing other) (thing ≡ other))
      → (things : List V) (thing otherwise : V) → Contains things thing → get_or things (place same things thing) otherwise ≡ thing
  at_place same decides [] thing otherwise inside = absurd (Contains-nil thing inside)
  at_place same decides (first ∷ rest) thing otherwise inside = by (λ later. at_place same decides rest thing otherwise later) (same first thing) refl
    where
      by : (Contains rest thing → get_or rest (place same rest thing) otherwise ≡ thing) → (answer : Bool) → same first thing ≡ answer
          → get_or (first ∷ rest) (cond answer 0 (suc (place same rest thing))) otherwise ≡ thing
      by again true told = (decides first thing).0 told
      by again false told = elim (Contains-cases first rest thing inside) [
        | inl is ↦ let wrong : false ≡ true = sym told ∙ (decides first thing).1 is in cc
        | inr later ↦ again later
      ]

abbrev value_step : Option (List ℕ) → ℕ → Value
value_step (Some text) number = Text text
value_step None number = Node number

module _ {V : Type 0} (naming : Naming V) (things : List V) where
  -- the value that names a thing
  abbrev pub value_of : V → Value
  value_of thing = value_step (naming.text_of thing) (place naming.same things thing)

  -- the thing that a value names
  abbrev pub thing_of : Value → V
  thing_of (Text text) = naming.constant text
  thing_of (Node number) = slice_index_or things number (naming.constant [])

  -- the facts over the values
  abbrev pub renamed : List (Fact V) → Database
  renamed facts = map (image value_of) facts

-- a text by which what it stands for is named
abbrev pub IsKept : {V : Type 0} → Naming V → List ℕ → Type 0
IsKept naming text = naming.text_of (naming.constant text) ≡ Some text

-- each constant of the atoms is such a text
abbrev pub AtomsAreKept : {V : Type 0} → Naming V → List (Fact Term) → Type 0
AtomsAreKept naming atoms = (text : List ℕ) → Mentions atoms (Const text) → IsKept naming text

abbrev pub TermIsKept : {V : Type 0} → Naming V → Term → Type 0
TermIsKept naming term = (text : List ℕ) → term ≡ Const text → IsKept naming text

abbrev pub RuleIsKept : {V : Type 0} → Naming V → Rule → Type 0
RuleIsKept naming (tuple body head) = AtomsAreKept naming head
RuleIsKept naming (equality body left right) = TermIsKept naming left × TermIsKept naming right
RuleIsKept naming (denial body) = Unit {0}

module _ {V : Type 0} (naming : Naming V) (things : List V) where
  abbrev value : V → Value
  value = value_of naming things

  abbrev thing : Value → V
  thing = thing_of naming things

  pub value_of-kept : (text : List ℕ) → IsKept naming text → value (naming.constant text) ≡ Text text
  value_of-kept text kept = ap (λ found. value_step found (place naming.same things (naming.constant text))) kept

  -- a thing that is named by a text has it
  pub value_of-Text : (it : V) (text : List ℕ) → value it ≡ Text text → naming.text_of it ≡ Some text
  value_of-Text it text is = by (naming.text_of it) is
    where
      by : (found : Option (List ℕ)) → value_step found (place naming.same things it) ≡ Text text → found ≡ Some text
      by (Some own) is = cc
      by None is = cc

  -- the way back undoes the way there
  pub thing_of-value_of : (it : V) → Contains things it → thing (value it) ≡ it
  thing_of-value_of it inside = by (naming.text_of it) refl
    where
      by : (found : Option (List ℕ)) → naming.text_of it ≡ found → thing (value_step found (place naming.same things it)) ≡ it
      by (Some text) told = naming.told it text told
      by None told = at_place naming.same naming.decides things it (naming.constant []) inside

  pub map-thing_of-value_of : (row : List V) → ((it : V) → Contains row it → Contains things it) → map thing (map value row) ≡ row
  map-thing_of-value_of row inside = map_then value thing row
      ∙ map_agree (λ it. thing (value it)) (λ it. it) row (λ it in_row. thing_of-value_of it (inside it in_row)) ∙ map_itself row

  -- ---- answers go there, where their constants are kept, and back

  pub answer_there : (query : ConjunctiveQuery) (Holds : Fact V → Type 0) (Named : Fact Value → Type 0) (row : List V)
      → AtomsAreKept naming query.body → ((term : Term) → Contains query.head term → TermIsKept naming term)
      → ((fact : Fact V) → Holds fact → Named (image value fact))
      → IsAnswerInto naming.constant query Holds row → IsAnswerInto Text query Named (map value row)
  answer_there query Holds Named row body_kept head_kept carried (m, keeps, sends, is) =
      let right : (term : Term) → TermIsKept naming term → value (m term) ≡ mended Text (λ it. value (m it)) term = λ term kept.
      mended-same Text (λ it. value (m it)) term
      (λ text is_text. ap (λ it. value (m it)) is_text ∙ ap value (keeps text) ∙ value_of-kept text (kept text is_text)) in (
        mended Text (λ it. value (m it)),
        mended-Keeps Text (λ it. value (m it)),
        SendsInto-agree (λ it. value (m it)) (mended Text (λ it. value (m it))) query.body Named
            (λ term inside. right term (λ text is_text. body_kept text (subst (Mentions query.body) is_text inside)))
            (SendsInto-then m value query.body Holds Named carried sends),
        ap (map value) is ∙ map_then m value query.head
            ∙ map_agree (λ it. value (m it)) (mended Text (λ it. value (m it))) query.head (λ term inside. right term (head_kept term inside)),
      )

  pub answer_back : (query : ConjunctiveQuery) (Holds : Fact V → Type 0) (Named : Fact Value → Type 0) (row : List Value)
      → ((fact : Fact Value) → Named fact → Holds (image thing fact))
      → IsAnswerInto Text query Named row → IsAnswerInto naming.constant query Holds (map thing row)
  answer_back query Holds Named row carried (m, keeps, sends, is) = (
    (λ term. thing (m term)),
    (λ text. ap thing (keeps text)),
    SendsInto-then m thing query.body Named Holds carried sends,
    ap (map thing) is ∙ map_then m thing query.head,
  )

  module _ (facts : List (Fact V)) (all : (it : V) → Mentions facts it → Contains things it) where
    pub fact_there : (fact : Fact V) → Contains facts fact → Contains (renamed naming things facts) (image value fact)
    fact_there fact inside = Sends-images value facts fact inside

    pub fact_back : (fact : Fact Value) → Contains (renamed naming things facts) fact → Contains facts (image thing fact)
    fact_back fact inside =
        let found = Contains-map_from (image value) facts fact inside in
        let is : found.0 ≡ image thing fact =
        sym (image_itself found.0)
        ∙ sym (image_agree (λ it. thing (value it)) (λ it. it) found.0 (λ it in_fact. thing_of-value_of it (all it (found.0, found.1, in_fact))))
        ∙ sym (image_then value thing found.0) ∙ ap (image thing) found.2 in
        subst (Contains facts) is found.1

    -- a value of the facts there is named again
    value_of-thing_of : (it : Value) → Mentions (renamed naming things facts) it → value (thing it) ≡ it
    value_of-thing_of it inside =
        let from = Mentions-images value facts it inside in
        ap (λ x. value (thing x)) (sym from.2) ∙ ap value (thing_of-value_of from.0 (all from.0 from.1)) ∙ from.2

    module _ (m : Term → Value) (keeps : Keeps Text m) (body : List (Fact Term)) (sends : Sends m body (renamed naming things facts)) where
      back_keeps : Keeps naming.constant (λ term. thing (m term))
      back_keeps text = ap thing (keeps text)

      back_sends : Sends (λ term. thing (m term)) body facts
      back_sends = SendsInto-then m thing body (Contains (renamed naming things facts)) (Contains facts) fact_back sends

      at_body : (term : Term) → Mentions body term → value (thing (m term)) ≡ m term
      at_body term inside = value_of-thing_of (m term) (Mentions-sent m body (renamed naming things facts) term sends inside)

      at_side : (term : Term) → TermIsKept naming term → IsFixedBy body term → value (thing (m term)) ≡ m term
      at_side term kept (inl (text, is)) =
          let named : value (thing (Text text)) ≡ Text text = value_of-kept text (kept text is) in
          let own : m term ≡ Text text = ap m is ∙ keeps text in
          ap (λ x. value (thing x)) own ∙ named ∙ sym own
      at_side term kept (inr inside) = at_body term inside

    -- the facts there meet each rule that the facts meet
    pub meets_there : (rule : Rule) → IsRule rule → RuleIsKept naming rule → MeetsInto naming.constant ◌≡◌ (Contains facts) rule
        → MeetsRule rule (renamed naming things facts)
    meets_there (tuple body head) shape kept meets = λ m keeps sends.
        let found = meets (λ term. thing (m term)) (back_keeps m keeps body sends) (back_sends m keeps body sends) in
        let there : Term → Value = λ term. value (found.0 term) in
        let at : (term : Term) → Mentions body term → m term ≡ there term = λ term inside. sym (at_body m keeps body sends term inside)
        ∙ ap value (found.2 term inside) in (
          mended Text there,
          mended-Keeps Text there,
          (λ term inside. at term inside ∙ mended-same Text there term (λ text is. sym (at term inside) ∙ ap m is ∙ keeps text)),
          SendsInto-agree there (mended Text there) head (Contains (renamed naming things facts))
              (λ term inside. mended-same Text there term (λ text is.
              ap there is ∙ ap value (found.1 text) ∙ value_of-kept text (kept text (subst (Mentions head) is inside))))
              (Sends-then found.0 value head facts (renamed naming things facts) found.3 fact_there),
        )
    meets_there (equality body left right) shape kept meets = λ m keeps sends.
        sym (at_side m keeps body sends left kept.0 shape.left_fixed)
        ∙ ap value (meets (λ term. thing (m term)) (back_keeps m keeps body sends) (back_sends m keeps body sends))
        ∙ at_side m keeps body sends right kept.1 shape.right_fixed
    meets_there (denial body) shape kept meets = λ m keeps sends.
        meets (λ term. thing (m term)) (back_keeps m keeps body sends) (back_sends m keeps body sends)
