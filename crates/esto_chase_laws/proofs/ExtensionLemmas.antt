-- An extension of a match to a rule's head in a database, chosen by the values of the frontier alone, and the value that this choice gives each term.
use Rattle.std.proofs.Common.{◌≡◌, ℕ, Bool, true, false, cond, List, [], ◌∷◌, map, length, slice_get, Option, Some, None, refl, sym, ap, ◌∙◌}
use Rattle.std.proofs.Common.{inl, inr, Contains, subst, arith}
use Rattle.std.specs.List.{filter}
use Rattle.std.specs.Set.{is_member}
use Rattle.std.proofs.lemmas.Bool.{cases_eq, and_parts}
use Rattle.std.proofs.lemmas.List.{length-map}
use Rattle.esto_term.specs.Finite.{lists_within}
use Rattle.esto_term.specs.Order.{same_term}
use Rattle.esto_term.specs.declared.term.Term.{Term, out-Term, fold-roll-Term}
use Rattle.esto_term.specs.declared.term.Term.TheVariants.{Const, Plain, Made, rolls-Const, rolls-Plain, rolls-Made}
use Rattle.esto_term.specs.declared.term.Term.TheOpen.{Term-F}
use Rattle.esto_term.specs.declared.term.Term.TheFolds.{fold-Term}
use Rattle.esto_term.proofs.ChoiceLemmas.{Decided, decided_both, decided_in, decided_each}
use Rattle.esto_term.proofs.DistinctLemmas.{decided_contains}
use Rattle.esto_term.proofs.FiniteLemmas.{Contains-lists_within}
use Rattle.esto_term.proofs.ListLemmas.{Contains-nil, Contains-cases, Contains-map, Contains-map_from, Contains-flat}
use Rattle.esto_term.proofs.ListLemmas.{Contains-filter_from, map_agree}
use Rattle.esto_semantics.specs.Facts.{Database, image, Mentions, terms_of}
use Rattle.esto_semantics.specs.Maps.{Keeps, Sends}
use Rattle.esto_semantics.specs.Rules.{Rule, tuple, equality, denial}
use Rattle.esto_semantics.specs.declared.fact.Fact.{Fact}
use Rattle.esto_semantics.specs.declared.fact.Value.{Value}
use Rattle.esto_semantics.specs.declared.fact.Value.TheVariants.{Text, Node}
use Rattle.esto_semantics.proofs.CanonicalLemmas.{Mentions-terms_of}
use Rattle.esto_semantics.proofs.FactLemmas.{image_agree, decided_fact}
use Rattle.esto_semantics.proofs.TermLemmas.{same_term-Decides, mended, mended-Keeps, mended-same}
use Rattle.esto_chase_laws.specs.Making.{is_variable_of, is_variable_level, frontier}
use Rattle.esto_chase_laws.proofs.JoinedLemmas.{joined_from}
use Rattle.esto_chase_laws.proofs.MakingLemmas.{in_terms-Decides, terms_of-Mentions}

-- ---- decisions

list_decided : {X : Type 0} → ((x y : X) → Decided (x ≡ y)) → (xs ys : List X) → Decided (xs ≡ ys)
list_decided d [] [] = inl refl
list_decided d [] (y ∷ ys) = inr (λ e. cc)
list_decided d (x ∷ xs) [] = inr (λ e. cc)
list_decided d (x ∷ xs) (y ∷ ys) = elim (d x y) [
  | inl p ↦ elim (list_decided d xs ys) [
    | inl q ↦ inl (cc)
    | inr m ↦ inr (λ e. let t : xs ≡ ys = cc in m t)
  ]
  | inr n ↦ inr (λ e. let t : x ≡ y = cc in n t)
]

value_decided : (x y : Value) → Decided (x ≡ y)
value_decided (Text s) (Text t) = elim (list_decided cases_eq s t) [ inl e ↦ inl (ap Text e) | inr n ↦ inr (λ e. let p : s ≡ t = cc in n p) ]
value_decided (Text s) (Node n) = inr (λ e. cc)
value_decided (Node m) (Text t) = inr (λ e. cc)
value_decided (Node m) (Node n) = elim (cases_eq m n) [ inl e ↦ inl (ap Node e) | inr d ↦ inr (λ e. let p : m ≡ n = cc in d p) ]

fact_decided : (f g : Fact Value) → Decided (f ≡ g)
fact_decided = decided_fact value_decided

-- ---- the frontier is in the head

pub frontier_head : (body head : List (Fact Term)) (term : Term) → Contains (frontier body head) term → Mentions head term
frontier_head body head term inside =
    elim (joined_from same_term same_term-Decides (filter (is_variable_of head) (terms_of body)) [] term inside) [
      | inl none ↦ absurd (Contains-nil term none)
      | inr passed ↦
          let told = (Contains-filter_from (is_variable_of head) (terms_of body) term passed).1 in
          terms_of-Mentions head term ((in_terms-Decides head term).0
          (and_parts (is_variable_level (out-Term term)) (is_member same_term (terms_of head) term) told).1)
    ]

-- ---- a choice of an extension, by the frontier's values alone

-- the values of a list of terms, elsewhere a value of no weight
abbrev valued : List Term → List Value → Term → Value
valued [] xs t = Node 0
valued (h ∷ hs) [] t = Node 0
valued (h ∷ hs) (x ∷ xs) t = cond (same_term h t) x (valued hs xs t)

valued-map : (m : Term → Value) (hs : List Term) (t : Term) → Contains hs t → valued hs (map m hs) t ≡ m t
valued-map m [] t c = absurd (Contains-nil t c)
valued-map m (h ∷ hs) t c = by (same_term h t) refl (λ later. valued-map m hs t later)
  where
    by : (answer : Bool) → same_term h t ≡ answer → (Contains hs t → valued hs (map m hs) t ≡ m t) → cond answer (m h) (valued hs (map m hs) t) ≡ m t
    by true told again = ap m ((same_term-Decides h t).0 told)
    by false told again = elim (Contains-cases h hs t c) [
      | inl is ↦ (let wrong : true ≡ false = sym ((same_term-Decides h t).1 is) ∙ told in cc)
      | inr later ↦ again later
    ]

module _ (database : Database) (body head : List (Fact Term)) (xs : List Value) where
  abbrev IsExtension : (Term → Value) → Type 0
  IsExtension m = (map m (frontier body head) ≡ xs) × Sends m head database

  abbrev candidate : List Value → Term → Value
  candidate ys = mended Text (valued (terms_of head) ys)

  extension_decided : (m : Term → Value) → Decided (IsExtension m)
  extension_decided m = decided_both (list_decided value_decided (map m (frontier body head)) xs)
      (decided_each (λ atom. Contains database (image m atom)) (λ atom. decided_contains fact_decided database (image m atom)) head)

  abbrev domain : List Value
  domain = terms_of database

  found : Decided ((ys : List Value) × Contains (lists_within domain (length (terms_of head))) ys × IsExtension (candidate ys))
  found = decided_in (λ ys. IsExtension (candidate ys)) (λ ys. extension_decided (candidate ys)) (lists_within domain (length (terms_of head)))

  pick : Decided ((ys : List Value) × Contains (lists_within domain (length (terms_of head))) ys × IsExtension (candidate ys)) → Term → Value
  pick (inl w) = candidate w.0
  pick (inr n) = λ t. Node 0

  -- an extension is told by its values on the head
  unseen : ((t : Term) → Contains (frontier body head) t → Mentions head t) → (m : Term → Value) → Keeps Text m → IsExtension m
      → IsExtension (candidate (map m (terms_of head)))
  unseen inside m keeps e = (
    map_agree (candidate (map m (terms_of head))) m (frontier body head) (λ t c. agree t (inside t c)) ∙ e.0,
    (λ atom i. subst (Contains database) (sym (image_agree (candidate (map m (terms_of head))) m atom (λ t c. agree t (atom, i, c)))) (e.1 atom i)),
  )
    where
      agree : (t : Term) → Mentions head t → candidate (map m (terms_of head)) t ≡ m t
      agree t h =
          let is : valued (terms_of head) (map m (terms_of head)) t ≡ m t = valued-map m (terms_of head) t (Mentions-terms_of head t h) in
          sym (mended-same Text (valued (terms_of head) (map m (terms_of head))) t (λ text is_text. is ∙ ap m is_text ∙ keeps text)) ∙ is

  picked : ((t : Term) → Contains (frontier body head) t → Mentions head t)
      → (d : Decided ((ys : List Value) × Contains (lists_within domain (length (terms_of head))) ys × IsExtension (candidate ys))) → (m : Term → Value)
      → Keeps Text m → IsExtension m
      → Keeps Text (pick d) × IsExtension (pick d)
  unfolding pick
  picked inside (inl w) m keeps e = (mended-Keeps Text (valued (terms_of head) w.0), w.2)
  picked inside (inr n) m keeps e = absurd (n (map m (terms_of head), within, unseen inside m keeps e))
    where
      within : Contains (lists_within domain (length (terms_of head))) (map m (terms_of head))
      within = Contains-lists_within domain (map m (terms_of head)) (length (terms_of head)) (rw (length-map (terms_of head) m) (omega arith))
          (λ y c.
          let t = Contains-map_from m (terms_of head) y c in
          let atom = terms_of-Mentions head t.0 t.1 in
          Contains-flat (λ (f : Fact Value). f.terms) database (image m atom.0) y (e.1 atom.0 atom.1)
          (subst (Contains (map m atom.0.terms)) t.2 (Contains-map m atom.0.terms t.0 atom.2)))

  pub chosen_extension : Term → Value
  chosen_extension = pick found

  pub chosen_extension-is : ((t : Term) → Contains (frontier body head) t → Mentions head t) → (m : Term → Value) → Keeps Text m → IsExtension m
      → Keeps Text chosen_extension × IsExtension chosen_extension
  unfolding chosen_extension
  chosen_extension-is inside m keeps e = picked inside found m keeps e

pub choice_of : Database → Option Rule → List Value → Term → Value
choice_of database (Some (tuple body head)) xs = chosen_extension database body head xs
choice_of database (Some (equality body left right)) xs = λ t. Node 0
choice_of database (Some (denial body)) xs = λ t. Node 0
choice_of database None xs = λ t. Node 0

pub choice-tuple : (database : Database) (rules : List Rule) (number : ℕ) (body head : List (Fact Term)) (xs : List Value) (t : Term)
    → slice_get rules number ≡ Some (tuple body head) → choice_of database (slice_get rules number) xs t ≡ chosen_extension database body head xs t
unfolding choice_of
choice-tuple database rules number body head xs t at = ap (λ it. choice_of database it xs t) at

-- ---- the assignment of all terms

assign_step : (ℕ → List Value → Term → Value) → (Term → Value) → Term-F Value → Value
assign_step make e (Term-F.Const c) = Text c
assign_step make e (Term-F.Plain n) = e (Plain n)
assign_step make e (Term-F.Made r v xs) = make r xs (Plain v)

pub assigned : (ℕ → List Value → Term → Value) → (Term → Value) → Term → Value
assigned make e = fold-Term Value (assign_step make e)

module _ (make : ℕ → List Value → Term → Value) (e : Term → Value) where
  pub assigned-Const : (c : List ℕ) → assigned make e (Const c) ≡ Text c
  unfolding assigned assign_step
  assigned-Const c = ap (assigned make e) (sym (rolls-Const c)) ∙ fold-roll-Term Value (assign_step make e) (Term-F.Const c)

  pub assigned-Plain : (n : ℕ) → assigned make e (Plain n) ≡ e (Plain n)
  unfolding assigned assign_step
  assigned-Plain n = ap (assigned make e) (sym (rolls-Plain n)) ∙ fold-roll-Term Value (assign_step make e) (Term-F.Plain n)

  pub assigned-Made : (r v : ℕ) (fs : List Term) → assigned make e (Made r v fs) ≡ make r (map (assigned make e) fs) (Plain v)
  unfolding assigned assign_step
  assigned-Made r v fs = ap (assigned make e) (sym (rolls-Made r v fs)) ∙ fold-roll-Term Value (assign_step make e) (Term-F.Made r v fs)
