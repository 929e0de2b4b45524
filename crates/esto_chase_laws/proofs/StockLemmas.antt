-- The stock of the rules and the start has what they need.
use Rattle.std.proofs.Common.{◌≡◌, ◌⊎◌, inl, inr, ℕ, zero, suc, ◌<◌, ◌≤◌, List, ◌∷◌, length, [], Contains, subst, sym, ap, arith, length-append}
use Rattle.std.specs.List.{flat_map}
use Rattle.std.proofs.lemmas.Bool.{cases_order}
use Rattle.std.proofs.lemmas.List.Elements.{Contains-append_left, Contains-append_right}
use Rattle.std.proofs.lemmas.Option.{slice_get_within}
use Rattle.esto_term.specs.Finite.{IsMadeOf}
use Rattle.esto_term.specs.Finite.IsMadeOf.{constant, plain}
use Rattle.esto_term.specs.declared.term.Term.{Term, out-Term}
use Rattle.esto_term.specs.declared.term.Term.TheVariants.{Const, Plain, outs-Const, outs-Plain}
use Rattle.esto_term.proofs.ListLemmas.{Contains-nil, Contains-head, Contains-rest, Contains-cases, Contains-flat}
use Rattle.esto_semantics.specs.Facts.{Mentions, terms_of}
use Rattle.esto_semantics.specs.Maps.{AreFlat}
use Rattle.esto_semantics.specs.Queries.{ConjunctiveQuery}
use Rattle.esto_semantics.specs.Rules.{Rule, tuple, equality}
use Rattle.esto_semantics.specs.declared.fact.Fact.{Fact}
use Rattle.esto_semantics.proofs.CanonicalLemmas.{Mentions-terms_of}
use Rattle.esto_chase_laws.specs.Bounds.{rule_terms, first_terms, texts_of_level, numbers_of_level, numbers_below, stock_of, width_of}
use Rattle.esto_chase_laws.proofs.LowLemmas.{Serves}
use Rattle.esto_chase_laws.proofs.MakingLemmas.{frontier_shorter}

pub in_below : (count number : ℕ) → number < count → Contains (numbers_below count) number
in_below zero number less = absurd (omega arith)
in_below (suc count) number less = elim (cases_order number count) [
  | inl same ↦ subst (Contains (count ∷ numbers_below count)) (sym same) (Contains-head count (numbers_below count))
  | inr apart ↦ elim apart [
    | inl below ↦ Contains-rest count (numbers_below count) number (in_below count number below)
    | inr above ↦ absurd (omega (arith, less, above))
  ]
]

pub flat_longer : {X Y : Type 0} (parts : X → List Y) (things : List X) (thing : X)
    → Contains things thing → length (parts thing) ≤ length (flat_map parts things)
flat_longer parts [] thing none = absurd (Contains-nil thing none)
flat_longer parts (first ∷ rest) thing inside = elim (Contains-cases first rest thing inside) [
  | inl is ↦ omega (arith, length-append (parts first) (flat_map parts rest), ap (λ it. length (parts it)) is)
  | inr later ↦ omega (arith, length-append (parts first) (flat_map parts rest), flat_longer parts rest thing later)
]

module _ (rules : List Rule) (start : ConjunctiveQuery) where
  in_rules : (rule : Rule) (term : Term) → Contains rules rule → Contains (rule_terms rule) term → Contains (first_terms rules start) term
  in_rules rule term inside within =
      Contains-append_right (terms_of start.body) (flat_map rule_terms rules) term (Contains-flat rule_terms rules rule term inside within)

  at_left : (body : List (Fact Term)) (left right : Term) → Contains (left ∷ right ∷ terms_of body) left
  at_left body left right = Contains-head left (right ∷ terms_of body)

  at_right : (body : List (Fact Term)) (left right : Term) → Contains (left ∷ right ∷ terms_of body) right
  at_right body left right = Contains-rest left (right ∷ terms_of body) right (Contains-head right (terms_of body))

  in_head : (body head : List (Fact Term)) → Contains rules (tuple body head) → (term : Term) → Mentions head term → Contains (first_terms rules start) term
  in_head body head rule term inside =
      in_rules (tuple body head) term rule (Contains-append_right (terms_of body) (terms_of head) term (Mentions-terms_of head term inside))

  in_start : (term : Term) → Mentions start.body term → Contains (first_terms rules start) term
  in_start term inside = Contains-append_left (terms_of start.body) (flat_map rule_terms rules) term (Mentions-terms_of start.body term inside)

  has_text : (text : List ℕ) → Contains (first_terms rules start) (Const text) → Contains (stock_of rules start).texts text
  has_text text inside =
      Contains-flat (λ term. texts_of_level (out-Term term)) (first_terms rules start) (Const text) text inside
      (rw (outs-Const text) (Contains-head text []))

  has_number : (number : ℕ) → Contains (first_terms rules start) (Plain number) → Contains (stock_of rules start).numbers number
  has_number number inside =
      Contains-flat (λ term. numbers_of_level (out-Term term)) (first_terms rules start) (Plain number) number inside
      (rw (outs-Plain number) (Contains-head number []))

  flat_made : (term : Term) → Mentions start.body term → ((text : List ℕ) × (term ≡ Const text)) ⊎ ((number : ℕ) × (term ≡ Plain number))
      → IsMadeOf (stock_of rules start) (width_of rules start) term
  flat_made term inside (inl (text, is)) =
      subst (IsMadeOf (stock_of rules start) (width_of rules start)) (sym is)
      (constant text (has_text text (subst (Contains (first_terms rules start)) is (in_start term inside))))
  flat_made term inside (inr (number, is)) =
      subst (IsMadeOf (stock_of rules start) (width_of rules start)) (sym is)
      (plain number (has_number number (subst (Contains (first_terms rules start)) is (in_start term inside))))

  pub stock-Serves : AreFlat start.body → Serves (stock_of rules start) (width_of rules start) rules start
  stock-Serves flat = record {
    start_in = λ term inside. flat_made term inside (flat term inside);
    sides = λ body left right rule text either. elim either [
      | inl is ↦ has_text text (subst (Contains (first_terms rules start)) is (in_rules (equality body left right) left rule (at_left body left right)))
      | inr is ↦ has_text text (subst (Contains (first_terms rules start)) is (in_rules (equality body left right) right rule (at_right body left right)))
    ];
    head_texts = λ body head rule text inside. has_text text (in_head body head rule (Const text) inside);
    head_variables = λ body head rule variable inside. has_number variable (in_head body head rule (Plain variable) inside);
    numbers = λ number rule there. in_below (length rules) number (slice_get_within rules number rule there);
    widths = λ body head rule. omega (
      arith,
      frontier_shorter body head,
      length-append (terms_of body) (terms_of head),
      flat_longer rule_terms rules (tuple body head) rule,
      length-append (terms_of start.body) (flat_map rule_terms rules),
    );
  }
