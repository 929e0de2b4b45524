-- A closed world as a database: each term under one name for all that it is linked with.
use Rattle.std.proofs.Common.{◌≡◌, ℕ, Bool, List, [], ◌∷◌, ◌++◌, map, refl, sym, ap, ◌∙◌, inl, inr, Contains, subst, Option, Some, None}
use Rattle.std.proofs.lemmas.List.Elements.{Contains-append_left, Contains-append_right, Contains-append_cases}
use Rattle.std.specs.List.{AllZip}
use Rattle.esto_term.specs.declared.term.Term.{Term}
use Rattle.esto_term.specs.declared.term.Term.TheVariants.{Const}
use Rattle.esto_term.proofs.ChoiceLemmas.{Decided}
use Rattle.esto_term.proofs.ListLemmas.{Contains-nil, Contains-head, Contains-rest, Contains-cases, Contains-map, Contains-map_from}
use Rattle.esto_semantics.specs.Facts.{Database, image, Mentions}
use Rattle.esto_semantics.specs.Maps.{IsFixedBy, Keeps, Sends}
use Rattle.esto_semantics.specs.Rules.{Rule, tuple, equality, denial, IsRule, AreRules, MeetsInto}
use Rattle.esto_term.specs.Sets.{Within}
use Rattle.esto_semantics.specs.Standing.{Stands}
use Rattle.esto_semantics.specs.declared.fact.Fact.{Fact}
use Rattle.esto_semantics.specs.declared.fact.Value.{Value}
use Rattle.esto_semantics.proofs.FactLemmas.{image_then}
use Rattle.esto_term.proofs.SetLemmas.{decided_within}
use Rattle.esto_semantics.proofs.StandingLemmas.{standing_exists, finished_stands}
use Rattle.esto_semantics.proofs.TermLemmas.{decided_term, constant_text, constant_text-told, constant_text-Const}
use Rattle.esto_chase_laws.specs.WorldBounds.{start_from}
use Rattle.esto_chase_laws.specs.Worlds.{InWorld, Linked, here, AreOne, Reaches, IsMetBy, IsClosed, IsBroken, IsDenied}
use Rattle.esto_chase_laws.specs.WorldLaws.{IsReadAs, IsDatabase, ClosedWorldsAreDatabases}
use Rattle.esto_chase_laws.specs.declared.entry.Claim.{Claim}
use Rattle.esto_chase_laws.specs.declared.entry.Claim.TheVariants.{Fact as Stated, Same}
use Rattle.esto_chase_laws.specs.declared.entry.Entry.{Entry}
use Rattle.esto_chase_laws.proofs.LinkLemmas.{one_link, Linked-then, Linked-back, Linked-respects, facts_one}

-- two terms that an equality makes one
pub record Pair : Type 0 where
  pub left : Term
  pub right : Term

decided_const : (term : Term) → Decided ((text : List ℕ) × (Const text ≡ term))
decided_const term = by (constant_text term) refl
  where
    open_text : (text : List ℕ) → Const text ≡ term → constant_text term ≡ Some text
    open_text text is = ap constant_text (sym is) ∙ constant_text-Const text

    by : (found : Option (List ℕ)) → constant_text term ≡ found → Decided ((text : List ℕ) × (Const text ≡ term))
    by (Some text) told = inl (text, constant_text-told term text told)
    by None told = inr (λ (text, is). let wrong = sym told ∙ open_text text is in cc)

-- which of two names goes, and which stays: a constant stays
abbrev goes : {P : Type 0} → Decided P → Term → Term → Term
goes (inl c) a b = b
goes (inr c) a b = a

abbrev stays : {P : Type 0} → Decided P → Term → Term → Term
stays (inl c) a b = a
stays (inr c) a b = b

abbrev redirected : {P : Type 0} → Decided P → Term → Term → Term
redirected (inl e) to x = to
redirected (inr e) to x = x

abbrev merged : Term → Term → Term → Term
merged a b x = redirected (decided_term x (goes (decided_const a) a b)) (stays (decided_const a) a b) x

abbrev name : List Pair → Term → Term
name [] x = x
name (p ∷ ps) x = merged (name ps p.left) (name ps p.right) (name ps x)

meets_left : (a b : Term) (c : Decided ((d : List ℕ) × (Const d ≡ a))) (is : Decided (a ≡ goes c a b)) → redirected is (stays c a b) a ≡ stays c a b
meets_left a b c (inl e) = refl
meets_left a b (inl c) (inr n) = refl
meets_left a b (inr c) (inr n) = absurd (n refl)

meets_right : (a b : Term) (c : Decided ((d : List ℕ) × (Const d ≡ a))) (is : Decided (b ≡ goes c a b)) → redirected is (stays c a b) b ≡ stays c a b
meets_right a b c (inl e) = refl
meets_right a b (inl c) (inr n) = absurd (n refl)
meets_right a b (inr c) (inr n) = refl

merged_one : (a b : Term) → merged a b a ≡ merged a b b
merged_one a b = meets_left a b (decided_const a) (decided_term a _) ∙ sym (meets_right a b (decided_const a) (decided_term b _))

name_pair : (ps : List Pair) (p : Pair) → Contains ps p → name ps p.left ≡ name ps p.right
name_pair [] p c = absurd (Contains-nil p c)
name_pair (q ∷ qs) p c = elim (Contains-cases q qs p c) [
  | inl e ↦ subst (λ (r : Pair). merged (name qs q.left) (name qs q.right) (name qs r.left) ≡ merged (name qs q.left) (name qs q.right)
      (name qs r.right)) e (merged_one (name qs q.left) (name qs q.right))
  | inr t ↦ ap (merged (name qs q.left) (name qs q.right)) (name_pair qs p t)
]

module _ {Holds : Claim → Type 0} where
  redirected_linked : (a b x : Term) → Linked Holds a b → (c : Decided ((d : List ℕ) × (Const d ≡ a))) (is : Decided (x ≡ goes c a b))
      → Linked Holds x (redirected is (stays c a b) x)
  redirected_linked a b x l (inl c) (inl e) = subst (λ (t : Term). Linked Holds t a) (sym e) (Linked-back a b l)
  redirected_linked a b x l (inr c) (inl e) = subst (λ (t : Term). Linked Holds t b) (sym e) l
  redirected_linked a b x l (inl c) (inr n) = here
  redirected_linked a b x l (inr c) (inr n) = here

  name_linked : (ps : List Pair) → ((p : Pair) → Contains ps p → Holds (Same p.left p.right)) → (x : Term) → Linked Holds x (name ps x)
  name_linked [] h x = here
  name_linked (p ∷ ps) h x =
      let rest = name_linked ps (λ q c. h q (Contains-rest p ps q c)) in
      let sides = Linked-then _ _ _ (Linked-back _ _ (rest p.left)) (Linked-then _ _ _ (one_link p.left p.right (h p (Contains-head p ps))) (rest p.right)) in
      Linked-then _ _ _ (rest x)
      (redirected_linked (name ps p.left) (name ps p.right) (name ps x) sides (decided_const (name ps p.left)) (decided_term (name ps x) _))

redirected_const : (a b : Term) (d : List ℕ) (c : Decided ((e : List ℕ) × (Const e ≡ a))) (is : Decided (Const d ≡ goes c a b)) → (e : List ℕ)
    × (Const e ≡ redirected is (stays c a b) (Const d))
redirected_const a b d (inl c) (inl e) = c
redirected_const a b d (inr n) (inl e) = absurd (n (d, e))
redirected_const a b d (inl c) (inr n) = (d, refl)
redirected_const a b d (inr c) (inr n) = (d, refl)

name_const : (ps : List Pair) (c : List ℕ) → (d : List ℕ) × (Const d ≡ name ps (Const c))
name_const [] c = (c, refl)
name_const (p ∷ ps) c =
    let rest = name_const ps c in
    let a = name ps p.left in
    let b = name ps p.right in
    subst (λ (t : Term). (e : List ℕ) × (Const e ≡ merged a b t)) rest.1 (redirected_const a b rest.0 (decided_const a) (decided_term (Const rest.0) _))

-- ---- what holds, by names

pub row_linked : (Holds : Claim → Type 0) (rep : Term → Term) → ((term : Term) → Linked Holds term (rep term)) → (terms : List Term)
    → AllZip (Linked Holds) terms (map rep terms)
row_linked Holds rep linked [] = tt
row_linked Holds rep linked (term ∷ terms) = (linked term, row_linked Holds rep linked terms)

module _ (Holds : Claim → Type 0) (facts : List (Fact Term)) (listed : (f : Fact Term) → Holds (Stated f) → Contains facts f)
    (from : (f : Fact Term) → Contains facts f → Holds (Stated f))
    (rep : Term → Term) (linked_rep : (t : Term) → Linked Holds t (rep t)) (one_rep : (s t : Term) → Linked Holds s t → rep s ≡ rep t)
    (const_rep : (c : List ℕ) → rep (Const c) ≡ Const c) where
  abbrev pub reps : List (Fact Term)
  reps = map (image rep) facts

  -- a fact under names is reached
  pub reached : (fact : Fact Term) → Contains reps fact → Reaches Holds fact
  reached fact inside =
      let found = Contains-map_from (image rep) facts fact inside in
      (found.0, from found.0 found.1, subst (AreOne Holds found.0) found.2 (refl, row_linked Holds rep linked_rep found.0.terms))

  -- and what is reached stands there under names
  rep_reached : (fact : Fact Term) → Reaches Holds fact → Contains reps (image rep fact)
  rep_reached fact (other, holds, are) = subst (Contains reps) (facts_one rep one_rep other fact are)
      (Contains-map (image rep) facts other (listed other holds))

  rep_twice : (t : Term) → rep (rep t) ≡ rep t
  rep_twice t = sym (one_rep t (rep t) (linked_rep t))

  module _ (m : Term → Term) (keeps : Keeps Const m) (body : List (Fact Term)) (sends : Sends m body reps) where
    own : (term : Term) → Mentions body term → rep (m term) ≡ m term
    own term (atom, inside, in_atom) =
        let found = Contains-map_from (image rep) facts (image m atom) (sends atom inside) in
        let in_row : Contains (map rep found.0.terms) (m term) = subst (λ (it : Fact Term). Contains it.terms (m term)) (sym found.2)
        (Contains-map m atom.terms term in_atom) in
        let at = Contains-map_from rep found.0.terms (m term) in_row in
        ap rep (sym at.2) ∙ rep_twice at.0 ∙ at.2

    own_fixed : (term : Term) → IsFixedBy body term → rep (m term) ≡ m term
    own_fixed term (inl constant) = ap rep (ap m constant.1 ∙ keeps constant.0) ∙ const_rep constant.0 ∙ sym (ap m constant.1 ∙ keeps constant.0)
    own_fixed term (inr inside) = own term inside

  pub finished : (rule : Rule) → IsRule rule → IsMetBy Holds rule → MeetsInto Const ◌≡◌ (Contains reps) rule
  finished (tuple body head) is_rule met = λ m keeps sends.
      let more = met m keeps (λ atom inside. reached (image m atom) (sends atom inside)) in (
        (λ term. rep (more.0 term)),
        (λ text. ap rep (more.1 text) ∙ const_rep text),
        (λ term inside. sym (own m keeps body sends term inside) ∙ one_rep (m term) (more.0 term) (more.2 term inside)),
        (λ atom inside. subst (Contains reps) (image_then more.0 rep atom) (rep_reached (image more.0 atom) (more.3 atom inside))),
      )
  finished (equality body left right) is_rule met = λ m keeps sends.
      sym (own_fixed m keeps body sends left is_rule.left_fixed)
      ∙ one_rep (m left) (m right) (met m keeps (λ atom inside. reached (image m atom) (sends atom inside)))
      ∙ own_fixed m keeps body sends right is_rule.right_fixed
  finished (denial body) is_rule met = λ m keeps sends. met m keeps (λ atom inside. reached (image m atom) (sends atom inside))

  -- a world that is closed, and in which no denial's body has a match, meets each rule
  pub met_by : (rules : List Rule) → IsClosed rules Holds → ¬ (IsDenied rules Holds) → (rule : Rule) → Contains rules rule → IsMetBy Holds rule
  met_by rules closed undenied (tuple body head) inside = closed (tuple body head) inside tt
  met_by rules closed undenied (equality body left right) inside = closed (equality body left right) inside tt
  met_by rules closed undenied (denial body) inside = λ m keeps sends. absurd (undenied (body, inside, (m, keeps, sends)))

  module _ (value : Term → Value) (database : Database) (stands : Stands reps value database) where
    in_reps : (fact : Fact Term) (term : Term) → Contains facts fact → Contains fact.terms term → Mentions reps (rep term)
    in_reps fact term inside in_fact = (image rep fact, Contains-map (image rep) facts fact inside, Contains-map rep fact.terms term in_fact)

    pub read : IsReadAs Holds database (λ term. value (rep term))
    read = record {
      keeps = λ text. ap value (const_rep text) ∙ stands.values.keeps text;
      one = λ term other linked. ap value (one_rep term other linked);
      unnamed = λ fact term holds in_fact. elim (stands.values.unnamed (rep term) (in_reps fact term (listed fact holds) in_fact)) [
        | inl constant ↦ inl (constant.0, subst (Linked Holds term) constant.1 (linked_rep term))
        | inr node ↦ inr node
      ];
      apart = λ fact other term other_term holds other_holds in_fact in_other is.
          let names : rep term ≡ rep other_term =
          stands.values.apart (rep term) (rep other_term) (in_reps fact term (listed fact holds) in_fact)
          (in_reps other other_term (listed other other_holds) in_other) is in
          Linked-then term (rep term) other_term (linked_rep term)
          (subst (λ it. Linked Holds it other_term) (sym names) (Linked-back other_term (rep other_term) (linked_rep other_term)));
      facts = λ fact holds.
          subst (Contains database) (image_then rep value fact)
          ((stands.images (image value (image rep fact))).1
          (Contains-map (image value) reps (image rep fact) (Contains-map (image rep) facts fact (listed fact holds))));
      from = λ image_fact inside.
          let one = Contains-map_from (image value) reps image_fact ((stands.images image_fact).0 inside) in
          let two = Contains-map_from (image rep) facts one.0 one.1 in
          (two.0, from two.0 two.1, sym (image_then rep value two.0) ∙ ap (image value) two.2 ∙ one.2);
    }

  pub is_database : (rules : List Rule) → AreRules rules → IsClosed rules Holds → ¬ (IsDenied rules Holds) → IsDatabase rules Holds
  is_database rules are_rules closed undenied =
      let found = standing_exists reps in
      let meets = (finished_stands (start_from reps) found.0 found.1 rules found.2 are_rules).0
      (λ rule inside. finished rule (are_rules rule inside) (met_by rules closed undenied rule inside)) in
      (found.1, (λ term. found.0 (rep term)), read found.0 found.1 found.2, meets)

-- ---- the world's facts and equalities, listed

abbrev facts_of : Claim → List (Fact Term)
facts_of (Stated f) = f ∷ []
facts_of (Same s t) = []

abbrev pairs_of : Claim → List Pair
pairs_of (Stated f) = []
pairs_of (Same s t) = record { left = s; right = t } ∷ []

abbrev picked_by : {P X : Type 0} → Decided P → List X → List X
picked_by (inl p) xs = xs
picked_by (inr n) xs = []

abbrev picked : {X : Type 0} → (Claim → List X) → List Bool → List Entry → List X
picked of atoms [] = []
picked of atoms (e ∷ es) = picked_by (decided_within e.product atoms) (of e.claim) ++ picked of atoms es

in_by : {P X : Type 0} (d : Decided P) (xs : List X) (x : X) → P → Contains xs x → Contains (picked_by d xs) x
in_by (inl p) xs x h c = c
in_by (inr n) xs x h c = absurd (n h)

from_by : {P X : Type 0} (d : Decided P) (xs : List X) (x : X) → Contains (picked_by d xs) x → P × Contains xs x
from_by (inl p) xs x c = (p, c)
from_by (inr n) xs x c = absurd (Contains-nil x c)

in_picked : {X : Type 0} (of : Claim → List X) (atoms : List Bool) (es : List Entry) (e : Entry) (x : X) → Contains es e → Within e.product atoms
    → Contains (of e.claim) x → Contains (picked of atoms es) x
in_picked of atoms [] e x c w i = absurd (Contains-nil e c)
in_picked of atoms (d ∷ ds) e x c w i = elim (Contains-cases d ds e c) [
  | inl is ↦ Contains-append_left _ (picked of atoms ds) x
      (in_by (decided_within d.product atoms) (of d.claim) x (subst (λ (y : Entry). Within y.product atoms) (sym is) w)
      (subst (λ (y : Entry). Contains (of y.claim) x) (sym is) i))
  | inr t ↦ Contains-append_right (picked_by (decided_within d.product atoms) (of d.claim)) _ x (in_picked of atoms ds e x t w i)
]

from_picked : {X : Type 0} (of : Claim → List X) (atoms : List Bool) (es : List Entry) (x : X) → Contains (picked of atoms es) x → (e : Entry)
    × Contains es e × Within e.product atoms × Contains (of e.claim) x
from_picked of atoms [] x c = absurd (Contains-nil x c)
from_picked of atoms (d ∷ ds) x c = elim (Contains-append_cases (picked_by (decided_within d.product atoms) (of d.claim)) (picked of atoms ds) x c) [
  | inl h ↦ let r = from_by (decided_within d.product atoms) (of d.claim) x h in (d, Contains-head d ds, r.0, r.1)
  | inr h ↦ let r = from_picked of atoms ds x h in (r.0, Contains-rest d ds r.0 r.1, r.2, r.3)
]

module _ (entries : List Entry) (atoms : List Bool) where
  pub world_facts : List (Fact Term)
  world_facts = picked facts_of atoms entries

  world_pairs : List Pair
  world_pairs = picked pairs_of atoms entries

  pub listed_fact : (f : Fact Term) → InWorld entries atoms (Stated f) → Contains world_facts f
  unfolding world_facts
  listed_fact f (e, c, w, is) = in_picked facts_of atoms entries e f c w (subst (λ (d : Claim). Contains (facts_of d) f) (sym is) (Contains-head f []))

  listed_pair : (s t : Term) → InWorld entries atoms (Same s t) → Contains world_pairs (record { left = s; right = t })
  unfolding world_pairs
  listed_pair s t (e, c, w, is) = in_picked pairs_of atoms entries e (record { left = s; right = t }) c w
      (subst (λ (d : Claim). Contains (pairs_of d) (record { left = s; right = t })) (sym is) (Contains-head _ []))

  fact_claim : (f : Fact Term) (claim : Claim) → Contains (facts_of claim) f → claim ≡ Stated f
  fact_claim f (Stated g) c = elim (Contains-cases g [] f c) [ inl e ↦ ap Stated e | inr t ↦ absurd (Contains-nil f t) ]
  fact_claim f (Same s t) c = absurd (Contains-nil f c)

  pair_claim : (p : Pair) (claim : Claim) → Contains (pairs_of claim) p → claim ≡ Same p.left p.right
  pair_claim p (Stated g) c = absurd (Contains-nil p c)
  pair_claim p (Same s t) c = elim (Contains-cases _ [] p c) [ inl e ↦ ap (λ (q : Pair). Same q.left q.right) e | inr i ↦ absurd (Contains-nil p i) ]

  pub fact_in_world : (f : Fact Term) → Contains world_facts f → InWorld entries atoms (Stated f)
  unfolding world_facts
  fact_in_world f c = let r = from_picked facts_of atoms entries f c in (r.0, r.1, r.2, fact_claim f r.0.claim r.3)

  pair_in_world : (p : Pair) → Contains world_pairs p → InWorld entries atoms (Same p.left p.right)
  unfolding world_pairs
  pair_in_world p c = let r = from_picked pairs_of atoms entries p c in (r.0, r.1, r.2, pair_claim p r.0.claim r.3)

  pub rep_of : Term → Term
  rep_of = name world_pairs

  pub rep_linked : (t : Term) → Linked (InWorld entries atoms) t (rep_of t)
  unfolding rep_of
  rep_linked t = name_linked world_pairs pair_in_world t

  pub rep_one : (s t : Term) → Linked (InWorld entries atoms) s t → rep_of s ≡ rep_of t
  unfolding rep_of
  rep_one s t l = Linked-respects (name world_pairs) (λ a b k. name_pair world_pairs (record { left = a; right = b }) (listed_pair a b k)) s t l

  rep_named : (c : List ℕ) → (d : List ℕ) × (Const d ≡ rep_of (Const c))
  unfolding rep_of
  rep_named c = name_const world_pairs c

  pub rep_const : (IsBroken (InWorld entries atoms) → ⊥) → (c : List ℕ) → rep_of (Const c) ≡ Const c
  rep_const whole c =
      let d : (d : List ℕ) × (Const d ≡ rep_of (Const c)) = rep_named c in
      let l : Linked (InWorld entries atoms) (Const c) (Const d.0) = subst (λ (t : Term). Linked (InWorld entries atoms) (Const c) t) (sym d.1)
      (rep_linked (Const c)) in
      elim (decided_term (Const c) (Const d.0)) [
        | inl e ↦ sym d.1 ∙ sym e
        | inr n ↦ absurd (whole (c, d.0, l, (λ is. n (ap Const is))))
      ]

pub databases : ClosedWorldsAreDatabases
databases rules entries atoms are_rules closed whole undenied =
    is_database (InWorld entries atoms) (world_facts entries atoms) (listed_fact entries atoms) (fact_in_world entries atoms) (rep_of entries atoms)
    (rep_linked entries atoms) (rep_one entries atoms) (rep_const entries atoms whole) rules are_rules closed undenied
