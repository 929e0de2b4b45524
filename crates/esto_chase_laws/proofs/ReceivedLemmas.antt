-- A database that meets the rules and receives the start receives each state of a run.
use Rattle.std.proofs.Common.{◌≡◌, ◌≢◌, inl, inr, ℕ, Bool, true, false, cond, List, map, Contains, slice_get, Some, refl, sym, ap, ◌∙◌}
use Rattle.std.proofs.Common.{subst}
use Rattle.esto_term.specs.Order.{replaced, same_term}
use Rattle.esto_term.specs.declared.term.Term.{Term, out-Term}
use Rattle.esto_term.specs.declared.term.Term.TheOpen.{Term-F}
use Rattle.esto_term.specs.declared.term.Term.TheVariants.{Const, Plain, Made, outs-Const, outs-Plain, outs-Made}
use Rattle.esto_term.proofs.ListLemmas.{Contains-map_from, Contains-at}
use Rattle.esto_semantics.specs.Facts.{Database, image, Mentions}
use Rattle.esto_semantics.specs.Maps.{IsFlat, Sends, Keeps, AreFlat}
use Rattle.esto_semantics.specs.Queries.{ConjunctiveQuery}
use Rattle.esto_semantics.specs.Rules.{Rule, tuple, equality, Concludes, Meets}
use Rattle.esto_semantics.specs.declared.fact.Fact.{Fact}
use Rattle.esto_semantics.specs.declared.fact.Value.{Value}
use Rattle.esto_semantics.specs.declared.fact.Value.TheVariants.{Text}
use Rattle.esto_semantics.proofs.FactLemmas.{image_then, image_agree, SendsInto-agree, Sends-then, Mentions-sent}
use Rattle.esto_semantics.proofs.TermLemmas.{term_cases, flat-apart-Made, Const-apart-Made, same_term-Decides, replaced_cases}
use Rattle.esto_chase_laws.specs.Bounds.{Key}
use Rattle.esto_chase_laws.specs.Making.{frontier, extended, made_facts}
use Rattle.esto_chase_laws.proofs.JoinedLemmas.{AreTogether, AreReplaced}
use Rattle.esto_chase_laws.proofs.KeptLemmas.{Settled, Kept, not_fired}
use Rattle.esto_chase_laws.proofs.MakingLemmas.{extended-flat}

-- a valuation of the state in the database, which agrees with the given one on flat terms and gives merged terms one value
pub record Received (now : ConjunctiveQuery) (went : Term → Term) (given : Term → Value) (database : Database) : Type 0 where
  pub value : Term → Value
  pub keeps : Keeps Text value
  pub sends : Sends value now.body database
  pub extends : (term : Term) → IsFlat term → value term ≡ given term
  pub one_value : (term : Term) → value (went term) ≡ value term

pub Received-start : (start : ConjunctiveQuery) (given : Term → Value) (database : Database) → Keeps Text given → Sends given start.body database
    → Received start (λ term. term) given database
Received-start start given database keeps sends =
    record { value = given; keeps = keeps; sends = sends; extends = λ term flat. refl; one_value = λ term. refl }

-- ---- a merge

module _ (now next : ConjunctiveQuery) (went : Term → Term) (given : Term → Value) (database : Database) (received : Received now went given database)
    (from to : Term) (same : AreReplaced from to now.body next.body) (one : received.value from ≡ received.value to) where
  unseen : (term : Term) → received.value (replaced from to term) ≡ received.value term
  unseen term = elim (replaced_cases from to term) [
    | inl at ↦ ap received.value at.1 ∙ sym one ∙ sym (ap received.value at.0)
    | inr apart ↦ ap received.value apart.1
  ]

  pub Received-merged : Received next (λ term. replaced from to (went term)) given database
  Received-merged = record {
    value = received.value;
    keeps = received.keeps;
    sends = λ fact inside.
        let old = Contains-map_from (image (replaced from to)) now.body fact (same.back fact inside) in
        let same_image : image received.value old.0 ≡ image received.value fact =
        sym (image_agree (λ term. received.value (replaced from to term)) received.value old.0 (λ term within. unseen term))
        ∙ sym (image_then (replaced from to) received.value old.0) ∙ ap (image received.value) old.2 in
        subst (Contains database) same_image (received.sends old.0 old.1);
    extends = received.extends;
    one_value = λ term. unseen (went term) ∙ received.one_value term;
  }

-- what an equality rule that is met makes of the match
pub one_value_at : (rules : List Rule) (facts : List (Fact Term)) (database : Database) (value : Term → Value)
    → Keeps Text value → Sends value facts database → Meets rules database
    → (number : ℕ) (body : List (Fact Term)) (left right : Term) (m : Term → Term) → slice_get rules number ≡ Some (equality body left right)
    → Keeps Const m → Sends m body facts → value (m left) ≡ value (m right)
one_value_at rules facts database value keeps sends meets number body left right m rule m_keeps m_sends =
    meets (equality body left right) (Contains-at rules number (equality body left right) rule) (λ term. value (m term))
    (λ text. ap value (m_keeps text) ∙ keeps text) (Sends-then m value body facts database m_sends sends)

-- ---- a tuple rule's step

-- what the database has for what the rule made, and the old value for all else
abbrev told_level : ℕ → List Term → (Term → Value) → (Term → Value) → Term → Term-F Term → Value
told_level number values fresh old term (Term-F.Const _) = old term
told_level number values fresh old term (Term-F.Plain _) = old term
told_level number values fresh old term (Term-F.Made _ variable _) = cond (same_term term (Made number variable values)) (fresh (Plain variable)) (old term)

same_itself : (term : Term) → same_term term term ≡ true
same_itself term = (same_term-Decides term term).1 refl

abbrev told : ℕ → List Term → (Term → Value) → (Term → Value) → Term → Value
told number values fresh old term = told_level number values fresh old term (out-Term term)

module _ (number : ℕ) (values : List Term) (fresh old : Term → Value) where
  told-new : (variable : ℕ) → told number values fresh old (Made number variable values) ≡ fresh (Plain variable)
  told-new variable =
      ap (told_level number values fresh old (Made number variable values)) (outs-Made number variable values)
      ∙ ap (λ it. cond it (fresh (Plain variable)) (old (Made number variable values))) (same_itself (Made number variable values))

  told-other : (term : Term) → ((variable : ℕ) → term ≢ Made number variable values) → told number values fresh old term ≡ old term
  told-other = term_cases (λ term. ((variable : ℕ) → term ≢ Made number variable values) → told number values fresh old term ≡ old term)
      (λ text other. ap (told_level number values fresh old (Const text)) (outs-Const text))
      (λ plain other. ap (told_level number values fresh old (Plain plain)) (outs-Plain plain))
      (λ r v fs other.
      ap (told_level number values fresh old (Made r v fs)) (outs-Made r v fs)
      ∙ by (Made r v fs) v (same_term (Made r v fs) (Made number v values))
      (λ is. other v ((same_term-Decides (Made r v fs) (Made number v values)).0 is)))
    where
      by : (term : Term) (variable : ℕ) (answer : Bool) → (answer ≡ true → ⊥) → cond answer (fresh (Plain variable)) (old term) ≡ old term
      by term variable true never = absurd (never refl)
      by term variable false never = refl

module _ (rules : List Rule) (start now next : ConjunctiveQuery) (went : Term → Term) (gone : List Term) (fired : List Key)
    (kept : Kept rules start now went gone fired) (number : ℕ) (body head : List (Fact Term)) (m : Term → Term) (flat_head : AreFlat head)
    (rule : slice_get rules number ≡ Some (tuple body head)) (keeps : Keeps Const m) (sends : Sends m body now.body)
    (active : Concludes Const ◌≡◌ (Contains now.body) (tuple body head) m → ⊥)
    (same : AreTogether now.body (made_facts number body head m) next.body)
    (given : Term → Value) (database : Database) (received : Received now went given database) (meets : Meets rules database) where
  abbrev values : List Term
  values = map m (frontier body head)

  settled_other : (term : Term) → Settled fired term → (variable : ℕ) → term ≢ Made number variable values
  settled_other term settled variable is =
      not_fired rules start now next went gone fired kept number body head m flat_head rule keeps sends active (settled number variable values is)

  pub Received-added : Received next went given database
  Received-added =
      let fresh = meets (tuple body head) (Contains-at rules number (tuple body head) rule) (λ term. received.value (m term))
      (λ text. ap received.value (keeps text) ∙ received.keeps text) (Sends-then m received.value body now.body database sends received.sends) in
      let value : Term → Value = told number values fresh.0 received.value in
      let settled : (term : Term) → Settled fired term → value term ≡ received.value term =
      λ term is. told-other number values fresh.0 received.value term (settled_other term is) in
      let constant : Keeps Text value = λ text. settled (Const text) (λ r v fs is. absurd (Const-apart-Made text r v fs is)) ∙ received.keeps text in
      let old : Sends value now.body database =
      SendsInto-agree received.value value now.body (Contains database) (λ term inside. sym (settled term (kept.known term inside))) received.sends in
      let new : (term : Term) → Mentions head term → fresh.0 term ≡ value (extended number body head m term) =
      λ term inside. elim (extended-flat number body head m term keeps (flat_head term inside)) [
        | inl text ↦ ap fresh.0 text.1 ∙ fresh.1 text.0 ∙ sym (constant text.0) ∙ ap value (sym text.2)
        | inr other ↦ elim other [
          | inl at ↦
              let known = kept.known (m term) (Mentions-sent m body now.body term sends at.0) in
              sym (fresh.2 term at.0) ∙ sym (settled (m term) known) ∙ ap value (sym at.1)
          | inr made ↦ ap fresh.0 made.1 ∙ sym (told-new number values fresh.0 received.value made.0) ∙ ap value (sym made.3)
        ]
      ] in
      record {
        value = value;
        keeps = constant;
        sends = λ fact inside. elim (same.from fact inside) [
          | inl before ↦ old fact before
          | inr added ↦
              let from = Contains-map_from (image (extended number body head m)) head fact added in
              let same_image : image fresh.0 from.0 ≡ image value fact =
              image_agree fresh.0 (λ term. value (extended number body head m term)) from.0 (λ term within. new term (from.0, from.1, within))
              ∙ sym (image_then (extended number body head m) value from.0) ∙ ap (image value) from.2 in
              subst (Contains database) same_image (fresh.3 from.0 from.1)
        ];
        extends = λ term flat. settled term (λ r v fs is. absurd (flat-apart-Made term r v fs flat is)) ∙ received.extends term flat;
        one_value = λ term. elim (kept.moved term) [
          | inl is ↦ ap value is
          | inr both ↦ settled (went term) both.1 ∙ received.one_value term ∙ sym (settled term both.0)
        ];
      }
