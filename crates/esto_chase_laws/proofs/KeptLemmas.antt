-- What each step of a run keeps: where the start's terms went, what was merged away, and which rules were applied at which frontier values.
use Rattle.std.proofs.Common.{◌≡◌, ◌≢◌, ◌⊎◌, inl, inr, ℕ, Bool, true, false, cond, List, [], ◌∷◌, map, Contains, slice_get, Some, refl, sym, ap, ◌∙◌, subst}
use Rattle.std.specs.Set.{is_member}
use Rattle.esto_term.specs.Order.{replaced, same_term}
use Rattle.esto_term.specs.declared.term.Term.{Term}
use Rattle.esto_term.specs.declared.term.Term.TheVariants.{Const, Plain, Made}
use Rattle.esto_term.proofs.DistinctLemmas.{Distinct, distinct_none, distinct_cons}
use Rattle.esto_term.proofs.ListLemmas.{Contains-nil, Contains-head, Contains-rest, Contains-cases, map_then, map_itself, agree-from_map}
use Rattle.esto_semantics.specs.Facts.{image, Mentions, terms_of}
use Rattle.esto_semantics.specs.Maps.{IsConstant, Sends, Keeps, AreFlat}
use Rattle.esto_semantics.specs.Queries.{ConjunctiveQuery}
use Rattle.esto_semantics.specs.Rules.{Rule, tuple, Concludes}
use Rattle.esto_semantics.specs.declared.fact.Fact.{Fact}
use Rattle.esto_semantics.proofs.CanonicalLemmas.{Mentions-terms_of}
use Rattle.esto_semantics.proofs.FactLemmas.{image_itself, SendsInto-agree, Sends-then, Sends-images, Mentions-images, Mentions-sent, Mentions-among}
use Rattle.esto_semantics.proofs.TermLemmas.{flat-apart-Made, Made-same, Const-apart-Made, replaced_cases}
use Rattle.esto_chase_laws.specs.Bounds.{Key}
use Rattle.esto_chase_laws.specs.Making.{frontier, extended, made_facts}
use Rattle.esto_chase_laws.proofs.JoinedLemmas.{AreTogether, AreReplaced}
use Rattle.esto_chase_laws.proofs.MakingLemmas.{terms_of-Mentions, in_terms-Decides, frontier_has, extended-keeps, extended-flat, extended-frontier}
use Rattle.esto_chase_laws.proofs.ReplacementLemmas.{replaced-from, replaced-other}

-- if the term is made, then its key was used
abbrev pub Settled : List Key → Term → Type 0
Settled fired term = (number variable : ℕ) (values : List Term) → term ≡ Made number variable values → Contains fired (number, values)

-- some map gives the frontier these values, and under the merges it sends the head to facts
abbrev pub StaysAt : (Term → Term) → List (Fact Term) → List (Fact Term) → List (Fact Term) → List Term → Type 0
StaysAt went facts body head values =
    (made : Term → Term) × Keeps Const made × (map made (frontier body head) ≡ values) × Sends (λ term. went (made term)) head facts

-- what the rule's head made at the key stays so
abbrev pub Stays : List Rule → List (Fact Term) → (Term → Term) → Key → Type 0
Stays rules facts went key =
    (body head : List (Fact Term)) → slice_get rules key.0 ≡ Some (tuple body head) → StaysAt went facts body head key.1

-- `went` is all merges so far, one after the other; `gone` are the terms merged away, `fired` the keys of the tuple rules' steps
pub record Kept (rules : List Rule) (start now : ConjunctiveQuery) (went : Term → Term) (gone : List Term) (fired : List Key) : Type 0 where
  pub constants : Keeps Const went
  pub fixed : (term : Term) → Mentions now.body term → went term ≡ term
  pub moved : (term : Term) → (went term ≡ term) ⊎ (Settled fired term × Settled fired (went term))
  pub known : (term : Term) → Mentions now.body term → Settled fired term
  pub stays : (key : Key) → Contains fired key → Stays rules now.body went key
  pub reached : Sends went start.body now.body
  pub heads : map went start.head ≡ now.head
  pub left : (term : Term) → Contains gone term → went term ≢ term
  pub gone_once : Distinct gone
  pub fired_once : Distinct fired

pub Kept-start : (rules : List Rule) (start : ConjunctiveQuery) → AreFlat start.body → Kept rules start start (λ term. term) [] []
Kept-start rules start flat = record {
  constants = λ text. refl;
  fixed = λ term inside. refl;
  moved = λ term. inl refl;
  known = λ term inside number variable values is. absurd (flat-apart-Made term number variable values (flat term inside) is);
  stays = λ key none. absurd (Contains-nil key none);
  reached = λ fact inside. subst (Contains start.body) (sym (image_itself fact)) inside;
  heads = map_itself start.head;
  left = λ term none. absurd (Contains-nil term none);
  gone_once = distinct_none;
  fired_once = distinct_none;
}

-- ---- a merge

module _ (rules : List Rule) (start now next : ConjunctiveQuery) (went : Term → Term) (gone : List Term) (fired : List Key)
    (kept : Kept rules start now went gone fired) (from to : Term) (differ : to ≢ from) (no_constant : IsConstant from → ⊥) (from_in : Mentions now.body from)
    (to_in : IsConstant to ⊎ Mentions now.body to)
    (same : AreReplaced from to now.body next.body) (heads : next.head ≡ map (replaced from to) now.head) where
  abbrev s : Term → Term
  s = replaced from to

  went_from : went from ≡ from
  went_from = kept.fixed from from_in

  went_to : went to ≡ to
  went_to = elim to_in [
    | inl constant ↦ ap went constant.1 ∙ kept.constants constant.0 ∙ sym constant.1
    | inr inside ↦ kept.fixed to inside
  ]

  settled_to : Settled fired to
  settled_to = elim to_in [
    | inl constant ↦ λ number variable values is. absurd (Const-apart-Made constant.0 number variable values (sym constant.1 ∙ is))
    | inr inside ↦ kept.known to inside
  ]

  settled_from : Settled fired from
  settled_from = kept.known from from_in

  sent : Sends s now.body next.body
  sent fact inside = same.there (image s fact) (Sends-images s now.body fact inside)

  came : (term : Term) → Mentions next.body term → (old : Term) × Mentions now.body old × (s old ≡ term)
  came term inside = Mentions-images s now.body term (Mentions-among next.body (map (image s) now.body) term same.back inside)

  constants_next : Keeps Const (λ term. s (went term))
  constants_next text = ap s (kept.constants text) ∙ replaced-other from to (Const text) (λ is. no_constant (text, sym is))

  fixed_at : (old : Term) → Mentions now.body old → s (went (s old)) ≡ s old
  fixed_at old inside = elim (replaced_cases from to old) [
    | inl at ↦ ap (λ it. s (went it)) at.1 ∙ ap s went_to ∙ replaced-other from to to differ ∙ sym at.1
    | inr apart ↦ ap (λ it. s (went it)) apart.1 ∙ ap s (kept.fixed old inside)
  ]

  moved_next : (term : Term) → (s (went term) ≡ term) ⊎ (Settled fired term × Settled fired (s (went term)))
  moved_next term = elim (replaced_cases from to (went term)) [
    | inl at ↦ inr (
      (elim (kept.moved term) [
        | inl is ↦ subst (Settled fired) (sym at.0 ∙ is) settled_from
        | inr both ↦ both.0
      ]),
      subst (Settled fired) (sym at.1) settled_to,
    )
    | inr apart ↦ elim (kept.moved term) [
      | inl is ↦ inl (apart.1 ∙ is)
      | inr both ↦ inr (both.0, subst (Settled fired) (sym apart.1) both.1)
    ]
  ]

  known_at : (old : Term) → Mentions now.body old → Settled fired (s old)
  known_at old inside = elim (replaced_cases from to old) [
    | inl at ↦ subst (Settled fired) (sym at.1) settled_to
    | inr apart ↦ subst (Settled fired) (sym apart.1) (kept.known old inside)
  ]

  left_next : (term : Term) → Contains (from ∷ gone) term → s (went term) ≢ term
  left_next term inside = elim (Contains-cases from gone term inside) [
    | inl is ↦ λ back. differ (sym (replaced-from from to) ∙ ap s (sym went_from) ∙ ap (λ it. s (went it)) is ∙ back ∙ sym is)
    | inr earlier ↦ λ back. elim (replaced_cases from to (went term)) [
      | inl at ↦ let to_term : to ≡ term = sym at.1 ∙ back in kept.left term earlier (ap went (sym to_term) ∙ went_to ∙ to_term)
      | inr apart ↦ kept.left term earlier (sym apart.1 ∙ back)
    ]
  ]

  pub Kept-merged : Kept rules start next (λ term. s (went term)) (from ∷ gone) fired
  Kept-merged = record {
    constants = constants_next;
    fixed = λ term inside. let old = came term inside in subst (λ it. s (went it) ≡ it) old.2 (fixed_at old.0 old.1);
    moved = moved_next;
    known = λ term inside. let old = came term inside in subst (Settled fired) old.2 (known_at old.0 old.1);
    stays = λ key inside body head there.
        let old = kept.stays key inside body head there in
        (old.0, old.1, old.2, Sends-then (λ term. went (old.0 term)) s head now.body next.body old.3 sent);
    reached = Sends-then went s start.body now.body next.body kept.reached sent;
    heads = sym (map_then went s start.head) ∙ ap (map s) kept.heads ∙ sym heads;
    left = left_next;
    gone_once = distinct_cons from gone (λ inside. kept.left from inside went_from) kept.gone_once;
    fired_once = kept.fired_once;
  }

-- ---- a tuple rule's step

module _ (rules : List Rule) (start now next : ConjunctiveQuery) (went : Term → Term) (gone : List Term) (fired : List Key)
    (kept : Kept rules start now went gone fired) (number : ℕ) (body head : List (Fact Term)) (m : Term → Term) (flat_head : AreFlat head)
    (rule : slice_get rules number ≡ Some (tuple body head)) (keeps : Keeps Const m) (sends : Sends m body now.body)
    (active : Concludes Const ◌≡◌ (Contains now.body) (tuple body head) m → ⊥) where
  abbrev values : List Term
  values = map m (frontier body head)

  -- the match, extended to the head by what was made before
  abbrev more : (Term → Term) → Term → Term
  more old term = cond (is_member same_term (terms_of body) term) (m term) (went (old term))

  more_cases : (old : Term → Term) (term : Term) → (Mentions body term × (more old term ≡ m term)) ⊎ (more old term ≡ went (old term))
  more_cases old term = by (is_member same_term (terms_of body) term) (λ told. terms_of-Mentions body term ((in_terms-Decides body term).0 told))
    where
      by : (answer : Bool) → (answer ≡ true → Mentions body term)
          → (Mentions body term × (cond answer (m term) (went (old term)) ≡ m term)) ⊎ (cond answer (m term) (went (old term)) ≡ went (old term))
      by true inside = inl (inside refl, refl)
      by false inside = inr refl

  more_body : (old : Term → Term) (term : Term) → Mentions body term → more old term ≡ m term
  more_body old term inside = ap (λ it. cond it (m term) (went (old term))) ((in_terms-Decides body term).1 (Mentions-terms_of body term inside))

  more_keeps : (old : Term → Term) → Keeps Const old → Keeps Const (more old)
  more_keeps old old_keeps text = elim (more_cases old (Const text)) [
    | inl at ↦ at.1 ∙ keeps text
    | inr is ↦ is ∙ ap went (old_keeps text) ∙ kept.constants text
  ]

  more_head : (old : Term → Term) → Keeps Const old → map old (frontier body head) ≡ values
      → (term : Term) → Mentions head term → more old term ≡ went (old term)
  more_head old old_keeps same_values term inside = elim (more_cases old term) [
    | inr is ↦ is
    | inl at ↦ elim (flat_head term inside) [
      | inl constant ↦
          at.1 ∙ ap m constant.1 ∙ keeps constant.0 ∙ sym (kept.constants constant.0) ∙ ap went (sym (old_keeps constant.0))
          ∙ ap (λ it. went (old it)) (sym constant.1)
      | inr plain ↦
          let shared : Contains (frontier body head) term =
          subst (Contains (frontier body head)) (sym plain.1)
          (frontier_has body head plain.0 (subst (Mentions body) plain.1 at.0) (subst (Mentions head) plain.1 inside)) in
          let one : old term ≡ m term = agree-from_map old m (frontier body head) term same_values shared in
          at.1 ∙ sym (kept.fixed (m term) (Mentions-sent m body now.body term sends at.0)) ∙ ap went (sym one)
    ]
  ]

  -- had the rule been applied at these values before, the match would have an extension
  pub not_fired : Contains fired (number, values) → ⊥
  not_fired inside =
      let old = kept.stays (number, values) inside body head rule in
      active (
        more old.0,
        more_keeps old.0 old.1,
        (λ term there. sym (more_body old.0 term there)),
        SendsInto-agree (λ term. went (old.0 term)) (more old.0) head (Contains now.body) (λ term there. sym (more_head old.0 old.1 old.2 term there)) old.3,
      )

  abbrev made : Term → Term
  made = extended number body head m

  -- a constant, what was there, or new
  made_cases : (term : Term) → Mentions head term
      → ((text : List ℕ) × (term ≡ Const text) × (made term ≡ Const text))
      ⊎ ((Mentions body term × (made term ≡ m term))
      ⊎ ((variable : ℕ) × (term ≡ Plain variable) × (Mentions body term → ⊥) × (made term ≡ Made number variable values)))
  made_cases term inside = extended-flat number body head m term keeps (flat_head term inside)

  went_new : (variable : ℕ) → went (Made number variable values) ≡ Made number variable values
  went_new variable = elim (kept.moved (Made number variable values)) [
    | inl is ↦ is
    | inr both ↦ absurd (not_fired (both.0 number variable values refl))
  ]

  went_made : (term : Term) → Mentions head term → went (made term) ≡ made term
  went_made term inside = elim (made_cases term inside) [
    | inl constant ↦ ap went constant.2 ∙ kept.constants constant.0 ∙ sym constant.2
    | inr other ↦ elim other [
      | inl at ↦ ap went at.1 ∙ kept.fixed (m term) (Mentions-sent m body now.body term sends at.0) ∙ sym at.1
      | inr new ↦ ap went new.3 ∙ went_new new.0 ∙ sym new.3
    ]
  ]

  settled_more : (term : Term) → Settled fired term → Settled ((number, values) ∷ fired) term
  settled_more term settled r v fs is = Contains-rest (number, values) fired (r, fs) (settled r v fs is)

  known_made : (term : Term) → Mentions head term → Settled ((number, values) ∷ fired) (made term)
  known_made term inside = elim (made_cases term inside) [
    | inl constant ↦ λ r v fs is. absurd (Const-apart-Made constant.0 r v fs (sym constant.2 ∙ is))
    | inr other ↦ elim other [
      | inl at ↦ settled_more (made term) (subst (Settled fired) (sym at.1) (kept.known (m term) (Mentions-sent m body now.body term sends at.0)))
      | inr new ↦ λ r v fs is.
          let parts = Made-same number new.0 values r v fs (sym new.3 ∙ is) in
          subst (λ (key : Key). Contains ((number, values) ∷ fired) key) (λ i. (parts.0 i, parts.2 i)) (Contains-head (number, values) fired)
    ]
  ]

  module _ (same : AreTogether now.body (made_facts number body head m) next.body) (same_head : next.head ≡ now.head) where
    sent_new : Sends made head next.body
    sent_new fact inside = same.new (image made fact) (Sends-images made head fact inside)

    came_new : (term : Term) → Mentions next.body term → Mentions now.body term ⊎ ((old : Term) × Mentions head old × (made old ≡ term))
    came_new term (fact, inside, within) = elim (same.from fact inside) [
      | inl old ↦ inl (fact, old, within)
      | inr new ↦ inr (Mentions-images made head term (fact, new, within))
    ]

    stays_now : StaysAt went next.body body head values
    stays_now = (
      made,
      extended-keeps number body head m keeps,
      extended-frontier number body head m,
      SendsInto-agree made (λ term. went (made term)) head (Contains next.body) (λ term inside. sym (went_made term inside)) sent_new,
    )

    stays_next : (key : Key) → Contains ((number, values) ∷ fired) key → Stays rules next.body went key
    stays_next key inside = elim (Contains-cases (number, values) fired key inside) [
      | inl is ↦ subst (Stays rules next.body went) is (λ b h there.
          let rules_same : tuple body head ≡ tuple b h = (let both : Some (tuple body head) ≡ Some (tuple b h) = sym rule ∙ there in cc) in
          let same_body : body ≡ b = cc in
          let same_atoms : head ≡ h = cc in
          subst (λ (it : List (Fact Term) × List (Fact Term)). StaysAt went next.body it.0 it.1 values) (λ i. (same_body i, same_atoms i)) stays_now)
      | inr earlier ↦ λ b h there.
          let old = kept.stays key earlier b h there in
          (old.0, old.1, old.2, λ atom in_head. same.old _ (old.3 atom in_head))
    ]

    pub Kept-added : Kept rules start next went gone ((number, values) ∷ fired)
    Kept-added = record {
      constants = kept.constants;
      fixed = λ term inside. elim (came_new term inside) [
        | inl old ↦ kept.fixed term old
        | inr new ↦ ap went (sym new.2) ∙ went_made new.0 new.1 ∙ new.2
      ];
      moved = λ term. elim (kept.moved term) [
        | inl is ↦ inl is
        | inr both ↦ inr (settled_more term both.0, settled_more (went term) both.1)
      ];
      known = λ term inside. elim (came_new term inside) [
        | inl old ↦ settled_more term (kept.known term old)
        | inr new ↦ subst (Settled ((number, values) ∷ fired)) new.2 (known_made new.0 new.1)
      ];
      stays = stays_next;
      reached = λ fact inside. same.old _ (kept.reached fact inside);
      heads = kept.heads ∙ sym same_head;
      left = kept.left;
      gone_once = kept.gone_once;
      fired_once = distinct_cons (number, values) fired not_fired kept.fired_once;
    }
