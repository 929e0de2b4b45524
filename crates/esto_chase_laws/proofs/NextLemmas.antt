-- A state has one match that is next, and so one step or one clash.
use Rattle.std.proofs.Common.{◌≡◌, ◌⊎◌, inl, inr, ℕ, List, [], ◌∷◌, map, Contains, slice_get, Some, refl, sym, ap, ◌∙◌, subst}
use Rattle.std.specs.Ordering.{ordering_reverse, nat_cmp}
use Rattle.std.specs.declared.cmp.Ordering.TheVariants.{Less, Greater}
use Rattle.std.specs.Cmp.Lexicographic.{slice_cmp}
use Rattle.std.proofs.lemmas.Bool.{cases_order}
use Rattle.std.proofs.lemmas.Cmp.{nat_list_cmp_total}
use Rattle.std.proofs.lemmas.Map.Lookups.{exact_bytes}
use Rattle.esto_term.specs.Order.{term_cmp, replaced}
use Rattle.esto_term.specs.declared.term.Term.{Term}
use Rattle.esto_term.specs.declared.term.Term.TheVariants.{Const}
use Rattle.esto_term.proofs.ListLemmas.{Contains-nil, Contains-cases, Contains-at, map_agree, agree-from_map}
use Rattle.esto_term.proofs.OrderLemmas.{term_cmp_total}
use Rattle.esto_term.proofs.TotalOrderLemmas.{at_most_both}
use Rattle.esto_semantics.specs.Facts.{image}
use Rattle.esto_semantics.specs.Instances.{IsFinished}
use Rattle.esto_semantics.specs.Maps.{Keeps, AgreeOn, IsFixedBy}
use Rattle.esto_semantics.specs.Matches.{IsMatch, IsActive}
use Rattle.esto_semantics.specs.Queries.{ConjunctiveQuery}
use Rattle.esto_semantics.specs.Rules.{Rule, tuple, equality, denial, body_of, AreRules, MeetsInto}
use Rattle.esto_semantics.specs.declared.fact.Fact.{Fact}
use Rattle.esto_semantics.proofs.FactLemmas.{image_agree, Sends-match}
use Rattle.esto_semantics.proofs.TermLemmas.{Const-same}
use Rattle.esto_chase_laws.specs.Joined.{joined}
use Rattle.esto_chase_laws.specs.Making.{extended, made_facts}
use Rattle.esto_chase_laws.specs.Runs.{Step, added, merged, AreSides, IsTriedBefore, IsNext, IsAdded, IsMerged, IsStep, IsClashed, IsDenied, HasClashed, IsEnd}
use Rattle.esto_chase_laws.specs.Runs.{kind_of, move_of, merge_of, replaced_facts}
use Rattle.esto_chase_laws.specs.declared.clash.Clash.{Clash}
use Rattle.esto_chase_laws.specs.declared.clash.Clash.TheVariants.{Equal, Denied}
use Rattle.esto_chase_laws.proofs.MakingLemmas.{extended_agree}

-- ---- two matches that are next are one

either_before : (one : Rule) (i : ℕ) (other : Rule) (j : ℕ) → (i ≡ j) ⊎ (IsTriedBefore one i other j ⊎ IsTriedBefore other j one i)
either_before one i other j = elim (cases_order (kind_of one) (kind_of other)) [
  | inl kind ↦ elim (cases_order i j) [
    | inl same ↦ inl same
    | inr apart ↦ elim apart [
      | inl below ↦ inr (inl (inr (kind, below)))
      | inr above ↦ inr (inr (inr (sym kind, above)))
    ]
  ]
  | inr apart ↦ elim apart [
    | inl below ↦ inr (inl (inl below))
    | inr above ↦ inr (inr (inl above))
  ]
]

-- matches at the same places agree on the body
same_values : (m other : Term → Term) (body facts : List (Fact Term)) (places : List ℕ) → IsMatch m body facts places → IsMatch other body facts places
    → AgreeOn ◌≡◌ body m other
same_values m other [] facts places one two term (atom, inside, within) = absurd (Contains-nil atom inside)
same_values m other (first ∷ body) facts [] one two term (atom, inside, within) = absurd one
same_values m other (first ∷ body) facts (place ∷ places) one two term (atom, inside, within) = elim (Contains-cases first body atom inside) [
  | inl is ↦
      let both : Some (image m first) ≡ Some (image other first) = sym one.0 ∙ two.0 in
      let images : image m first ≡ image other first = cc in
      let rows : map m first.terms ≡ map other first.terms = ap (λ (it : Fact Term). it.terms) images in
      agree-from_map m other first.terms term rows (subst (λ (it : Fact Term). Contains it.terms term) (sym is) within)
  | inr later ↦ same_values m other body facts places one.1 two.1 term (atom, later, within)
]

module _ (rules : List Rule) (facts : List (Fact Term)) (i j : ℕ) (one two : Rule) (m other : Term → Term) (places others : List ℕ)
    (next : IsNext rules facts i one m places) (again : IsNext rules facts j two other others) where
  pub same_number : i ≡ j
  same_number = elim (either_before one i two j) [
    | inl same ↦ same
    | inr apart ↦ elim apart [
      | inl before ↦ absurd (again.first i one next.there before m places next.active)
      | inr before ↦ absurd (next.first j two again.there before other others again.active)
    ]
  ]

  pub same_rule : one ≡ two
  same_rule = let both : Some one ≡ Some two = sym next.there ∙ ap (slice_get rules) same_number ∙ again.there in cc

  again_active : IsActive one facts other others
  again_active = subst (λ rule. IsActive rule facts other others) (sym same_rule) again.active

  next_active : IsActive two facts m places
  next_active = subst (λ rule. IsActive rule facts m places) same_rule next.active

  pub same_places : places ≡ others
  same_places = at_most_both (slice_cmp nat_cmp) nat_list_cmp_total exact_bytes places others (next.least other others again_active)
      (again.least m places next_active)

  pub same_map : AgreeOn ◌≡◌ (body_of one) m other
  same_map =
      same_values m other (body_of one) facts places next.active.matches
      (subst (IsMatch other (body_of one) facts) (sym same_places) again_active.matches)

-- ---- two terms that are told apart by the order

-- no two terms are each less than the other
crossed : (to from to' from' : Term) → to ≡ from' → from ≡ to' → term_cmp to from ≡ Less → term_cmp to' from' ≡ Less → ⊥
crossed to from to' from' one two less less' =
    let turned : term_cmp from to ≡ Less = (λ i. term_cmp (two i) (one i)) ∙ less' in
    let wrong : Less ≡ Greater = sym less ∙ term_cmp_total.antisymm to from ∙ ap ordering_reverse turned in
    cc

-- of the two pairs of terms, each with the lesser first, that the map gives two sides
one_pair : (m other : Term → Term) (left right left' right' to from to' from' : Term) → m left ≡ other left' → m right ≡ other right'
    → AreSides m left right to from → AreSides other left' right' to' from' → term_cmp to from ≡ Less → term_cmp to' from' ≡ Less → (to ≡ to') × (from ≡ from')
one_pair m other left right left' right' to from to' from' l r (inl p) (inl q) less less' = (sym p.0 ∙ l ∙ q.0, sym p.1 ∙ r ∙ q.1)
one_pair m other left right left' right' to from to' from' l r (inr p) (inr q) less less' = (sym p.1 ∙ r ∙ q.1, sym p.0 ∙ l ∙ q.0)
one_pair m other left right left' right' to from to' from' l r (inl p) (inr q) less less' =
    absurd (crossed to from to' from' (sym p.0 ∙ l ∙ q.0) (sym p.1 ∙ r ∙ q.1) less less')
one_pair m other left right left' right' to from to' from' l r (inr p) (inl q) less less' =
    absurd (crossed to from to' from' (sym p.1 ∙ r ∙ q.1) (sym p.0 ∙ l ∙ q.0) less less')

-- ---- equality rules

-- the maps of the two matches give the sides of the rule one value each
pub side_agrees : (body : List (Fact Term)) (m other : Term → Term) (term : Term) → Keeps Const m → Keeps Const other → AgreeOn ◌≡◌ body m other
    → IsFixedBy body term → m term ≡ other term
side_agrees body m other term keeps keeps' agree (inl (text, is)) = ap m is ∙ keeps text ∙ sym (keeps' text) ∙ sym (ap other is)
side_agrees body m other term keeps keeps' agree (inr inside) = agree term inside

module _ (rules : List Rule) (are_rules : AreRules rules) (facts : List (Fact Term)) (i j : ℕ) (body body' : List (Fact Term)) (left right left' right' : Term)
    (m other : Term → Term) (places others : List ℕ)
    (next : IsNext rules facts i (equality body left right) m places) (again : IsNext rules facts j (equality body' left' right') other others) where
  same_equality : equality body left right ≡ equality body' left' right'
  same_equality = same_rule rules facts i j (equality body left right) (equality body' left' right') m other places others next again

  agree : AgreeOn ◌≡◌ body m other
  agree = same_map rules facts i j (equality body left right) (equality body' left' right') m other places others next again

  same_sides : (m left ≡ other left') × (m right ≡ other right')
  same_sides =
      let same = same_equality in
      let is_left : left ≡ left' = cc in
      let is_right : right ≡ right' = cc in
      let shape = are_rules (equality body left right) (Contains-at rules i (equality body left right) next.there) in (
        side_agrees body m other left next.active.keeps again.active.keeps agree shape.left_fixed ∙ ap other is_left,
        side_agrees body m other right next.active.keeps again.active.keeps agree shape.right_fixed ∙ ap other is_right,
      )

  pub same_pair : (to from to' from' : Term) → AreSides m left right to from → AreSides other left' right' to' from'
      → term_cmp to from ≡ Less → term_cmp to' from' ≡ Less → (to ≡ to') × (from ≡ from')
  same_pair to from to' from' sides sides' less less' =
      one_pair m other left right left' right' to from to' from' same_sides.0 same_sides.1 sides sides' less less'

-- ---- two steps are one

module _ (rules : List Rule) (are_rules : AreRules rules) (now one two : ConjunctiveQuery) where
  both_added : (i j : ℕ) (m other : Term → Term) (places others : List ℕ) → IsAdded rules now one i m places → IsAdded rules now two j other others → one ≡ two
  both_added i j m other places others a b =
      let number : i ≡ j = same_number rules now.body i j (tuple a.body a.head) (tuple b.body b.head) m other places others a.is_next b.is_next in
      let rule : tuple a.body a.head ≡ tuple b.body b.head =
      same_rule rules now.body i j (tuple a.body a.head) (tuple b.body b.head) m other places others a.is_next b.is_next in
      let body : a.body ≡ b.body = cc in
      let head : a.head ≡ b.head = cc in
      let agree = same_map rules now.body i j (tuple a.body a.head) (tuple b.body b.head) m other places others a.is_next b.is_next in
      let made : made_facts i a.body a.head m ≡ made_facts i a.body a.head other =
      map_agree (image (extended i a.body a.head m)) (image (extended i a.body a.head other)) a.head
      (λ fact inside. image_agree (extended i a.body a.head m) (extended i a.body a.head other) fact
      (λ term within. extended_agree i a.body a.head m other agree term)) in
      let facts : one.body ≡ two.body =
      a.facts ∙ ap (joined now.body) (made ∙ (λ k. made_facts (number k) (body k) (head k) other)) ∙ sym b.facts in
      λ k. record { head = (a.kept_head ∙ sym b.kept_head) k; body = facts k }

  both_merged : (i j : ℕ) (m other : Term → Term) (places others : List ℕ) (from to from' to' : Term)
      → IsMerged rules now one i m places from to → IsMerged rules now two j other others from' to' → one ≡ two
  both_merged i j m other places others from to from' to' a b =
      let pair = same_pair rules are_rules now.body i j a.body b.body a.left a.right b.left b.right m other places others a.is_next b.is_next
      to from to' from' a.sides b.sides a.lesser b.lesser in
      λ k. record {
        body = (a.facts ∙ (λ k. replaced_facts (pair.1 k) (pair.0 k) now.body) ∙ sym b.facts) k;
        head = (a.replaced_head ∙ (λ k. map (replaced (pair.1 k) (pair.0 k)) now.head) ∙ sym b.replaced_head) k;
      }

  pub not_mixed : (i j : ℕ) (m other : Term → Term) (places others : List ℕ) (from to : Term)
      → IsAdded rules now one i m places → IsMerged rules now two j other others from to → ⊥
  not_mixed i j m other places others from to a b =
      let rule : tuple a.body a.head ≡ equality b.body b.left b.right =
      same_rule rules now.body i j (tuple a.body a.head) (equality b.body b.left b.right) m other places others a.is_next b.is_next in
      cc

pub one_step : (rules : List Rule) → AreRules rules → (now : ConjunctiveQuery) (s t : Step) (one two : ConjunctiveQuery)
    → IsStep rules now s one → IsStep rules now t two → one ≡ two
one_step rules are_rules now (added i m places) (added j other others) one two a b =
    both_added rules are_rules now one two i j m other places others a b
one_step rules are_rules now (added i m places) (merged j other others from to) one two a b =
    absurd (not_mixed rules are_rules now one two i j m other places others from to a b)
one_step rules are_rules now (merged i m places from to) (added j other others) one two a b =
    absurd (not_mixed rules are_rules now two one j i other m others places from to b a)
one_step rules are_rules now (merged i m places from to) (merged j other others from' to') one two a b =
    both_merged rules are_rules now one two i j m other places others from to from' to' a b

-- the match of a step
next_of : (rules : List Rule) (now : ConjunctiveQuery) (s : Step) (end : ConjunctiveQuery) → IsStep rules now s end
    → (rule : Rule) × (m : Term → Term) × IsNext rules now.body (move_of s).0 rule m (move_of s).1
next_of rules now (added number m places) end a = (tuple a.body a.head, m, a.is_next)
next_of rules now (merged number m places from to) end a = (equality a.body a.left a.right, m, a.is_next)

-- two steps from one state apply one rule at the same places
pub same_move : (rules : List Rule) (now : ConjunctiveQuery) (s t : Step) (one two : ConjunctiveQuery)
    → IsStep rules now s one → IsStep rules now t two → move_of s ≡ move_of t
same_move rules now s t one two a b =
    let x = next_of rules now s one a in
    let y = next_of rules now t two b in
    let number = same_number rules now.body (move_of s).0 (move_of t).0 x.0 y.0 x.1 y.1 (move_of s).1 (move_of t).1 x.2 y.2 in
    let places = same_places rules now.body (move_of s).0 (move_of t).0 x.0 y.0 x.1 y.1 (move_of s).1 (move_of t).1 x.2 y.2 in
    λ k. (number k, places k)

-- two steps from one state merge the same terms, or merge none
pub same_merge : (rules : List Rule) → AreRules rules → (now : ConjunctiveQuery) (s t : Step) (one two : ConjunctiveQuery)
    → IsStep rules now s one → IsStep rules now t two → merge_of s ≡ merge_of t
same_merge rules are_rules now (added i m places) (added j other others) one two a b = refl
same_merge rules are_rules now (added i m places) (merged j other others from to) one two a b =
    absurd (not_mixed rules are_rules now one two i j m other places others from to a b)
same_merge rules are_rules now (merged i m places from to) (added j other others) one two a b =
    absurd (not_mixed rules are_rules now two one j i other m others places from to b a)
same_merge rules are_rules now (merged i m places from to) (merged j other others from' to') one two a b =
    let pair = same_pair rules are_rules now.body i j a.body b.body a.left a.right b.left b.right m other places others a.is_next b.is_next
    to from to' from' a.sides b.sides a.lesser b.lesser in
    λ k. Some (pair.1 k, pair.0 k)

-- ---- an end has no step

-- where the facts meet a rule it has no active match
pub met_has_no_match : (rule : Rule) (facts : List (Fact Term)) (m : Term → Term) (places : List ℕ)
    → MeetsInto Const ◌≡◌ (Contains facts) rule → IsActive rule facts m places → ⊥
met_has_no_match rule facts m places meets active = active.active (meets m active.keeps (Sends-match m (body_of rule) facts places active.matches))

finished_stops : (rules : List Rule) (now : ConjunctiveQuery) (s : Step) (end : ConjunctiveQuery) → IsFinished rules now → IsStep rules now s end → ⊥
finished_stops rules now s end finished step =
    let x = next_of rules now s end step in
    met_has_no_match x.0 now.body x.1 (move_of s).1 (finished x.0 (Contains-at rules (move_of s).0 x.0 x.2.there)) x.2.active

clashed_stops : (rules : List Rule) → AreRules rules → (now : ConjunctiveQuery) (s : Step) (end : ConjunctiveQuery) (one other : List ℕ)
    → IsClashed rules now one other → IsStep rules now s end → ⊥
clashed_stops rules are_rules now (added i m places) end one other clash a =
    let wanted : Rule = equality clash.body clash.left clash.right in
    let rule : tuple a.body a.head ≡ equality clash.body clash.left clash.right =
    same_rule rules now.body i clash.number (tuple a.body a.head) wanted m clash.m places clash.places a.is_next clash.is_next in
    cc
clashed_stops rules are_rules now (merged i m places from to) end one other clash a =
    let pair = same_pair rules are_rules now.body i clash.number a.body clash.body a.left a.right clash.left clash.right m clash.m places clash.places
    a.is_next clash.is_next to from (Const one) (Const other) a.sides clash.sides a.lesser clash.lesser in
    a.no_constant (other, pair.1)

denied_stops : (rules : List Rule) (now : ConjunctiveQuery) (s : Step) (end : ConjunctiveQuery) (number : ℕ)
    → IsDenied rules now number → IsStep rules now s end → ⊥
denied_stops rules now (added i m places) end number stop a =
    let rule : tuple a.body a.head ≡ denial stop.body =
    same_rule rules now.body i number (tuple a.body a.head) (denial stop.body) m stop.m places stop.places a.is_next stop.is_next in
    cc
denied_stops rules now (merged i m places from to) end number stop a =
    let rule : equality a.body a.left a.right ≡ denial stop.body =
    same_rule rules now.body i number (equality a.body a.left a.right) (denial stop.body) m stop.m places stop.places a.is_next stop.is_next in
    cc

-- no step leads on
abbrev pub Stops : List Rule → ConjunctiveQuery → Type 0
Stops rules now = (s : Step) (end : ConjunctiveQuery) → IsStep rules now s end → ⊥

pub end_stops : (rules : List Rule) → AreRules rules → (now : ConjunctiveQuery) → IsEnd rules now → Stops rules now
end_stops rules are_rules now (inl finished) = λ s end step. finished_stops rules now s end finished step
end_stops rules are_rules now (inr (Equal one other, clash)) = λ s end step. clashed_stops rules are_rules now s end one other clash step
end_stops rules are_rules now (inr (Denied number, clash)) = λ s end step. denied_stops rules now s end number clash step

-- ---- a state has one clash, and is not finished then

not_denied_too : (rules : List Rule) (now : ConjunctiveQuery) (one other : List ℕ) (number : ℕ) → IsClashed rules now one other → IsDenied rules now number → ⊥
not_denied_too rules now one other number a b =
    let rule : equality a.body a.left a.right ≡ denial b.body =
    same_rule rules now.body a.number number (equality a.body a.left a.right) (denial b.body) a.m b.m a.places b.places a.is_next b.is_next in
    cc

pub one_clash : (rules : List Rule) → AreRules rules → (now : ConjunctiveQuery) (clash other : Clash)
    → HasClashed rules now clash → HasClashed rules now other → clash ≡ other
one_clash rules are_rules now (Equal c d) (Equal c' d') a b =
    let pair = same_pair rules are_rules now.body a.number b.number a.body b.body a.left a.right b.left b.right a.m b.m a.places b.places
    a.is_next b.is_next (Const c) (Const d) (Const c') (Const d') a.sides b.sides a.lesser b.lesser in
    λ k. Equal (Const-same c c' pair.0 k) (Const-same d d' pair.1 k)
one_clash rules are_rules now (Equal c d) (Denied number) a b = absurd (not_denied_too rules now c d number a b)
one_clash rules are_rules now (Denied number) (Equal c d) a b = absurd (not_denied_too rules now c d number b a)
one_clash rules are_rules now (Denied number) (Denied number') a b =
    ap Denied (same_number rules now.body number number' (denial a.body) (denial b.body) a.m b.m a.places b.places a.is_next b.is_next)

pub clashed_not_finished : (rules : List Rule) (now : ConjunctiveQuery) (clash : Clash) → HasClashed rules now clash → IsFinished rules now → ⊥
clashed_not_finished rules now (Equal c d) a finished =
    let rule : Rule = equality a.body a.left a.right in
    met_has_no_match rule now.body a.m a.places (finished rule (Contains-at rules a.number rule a.is_next.there)) a.is_next.active
clashed_not_finished rules now (Denied number) a finished =
    let rule : Rule = denial a.body in
    met_has_no_match rule now.body a.m a.places (finished rule (Contains-at rules number rule a.is_next.there)) a.is_next.active
