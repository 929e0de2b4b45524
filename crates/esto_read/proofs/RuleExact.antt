-- A text of a constraint has one reading and no fault, or one first fault and no reading.
use Rattle.std.proofs.Common.{◌≡◌, ◌≢◌, ℕ, inl, inr, List, [], ◌∷◌, sym, subst, ◌∙◌}
use Rattle.std.specs.Prelude.{AllPairs, map}
use Rattle.esto_constraint.specs.declared.rule.Constraint.{Constraint}
use Rattle.esto_constraint.specs.declared.rule.Constraint.TheVariants.{Tuple, Equal, Never}
use Rattle.esto_query.specs.declared.query.Name.{Name}
use Rattle.esto_semantics.specs.Maps.{IsFixedBy}
use Rattle.esto_semantics.specs.declared.fact.Fact.{Fact}
use Rattle.esto_term.specs.declared.term.Term.{Term}
use Rattle.esto_text.specs.Faults as text
use Rattle.esto_text.specs.Trees.{ItemTree, HeadTree, Items, Equality, Never as Nothing, ConstraintTree}
use Rattle.esto_text.specs.declared.fault.TextFault.{TextFault}
use Rattle.esto_text.specs.declared.token.Token.{Token}
use Rattle.esto_text.specs.declared.version.Version.{Version}
use Rattle.esto_read.specs.Constraints.{IsTupleRead, IsEqualityRead, IsUnsafeSide, IsRuleOf, IsConstraintReading, IsRuleHeadFault, IsRuleFault}
use Rattle.esto_read.specs.Constraints.{IsConstraintFault, AreSameRule}
use Rattle.esto_read.specs.Items.{AreFitting, AreItems}
use Rattle.esto_read.specs.Terms.{AreTerms}
use Rattle.esto_docmodel.specs.declared.words.Word.{Word}
use Rattle.esto_read.proofs.OneLemmas.{terms_one, items_one, apart_none}
use Rattle.esto_read.proofs.ExactLemmas.{fault_same, fitting_or_fault, items_fault_one}

-- ---- sides

module _ (body : List (Fact Term)) (left right : Token) (one other : Term) where
  fixed_no_unsafe : (m : ℕ) → IsFixedBy body one → IsFixedBy body other → ¬ IsUnsafeSide body left right one other m
  fixed_no_unsafe m h g (inl (n, e)) = n h
  fixed_no_unsafe m h g (inr (f, n, e)) = n g

  unsafe_one : (m n : ℕ) → IsUnsafeSide body left right one other m → IsUnsafeSide body left right one other n → m ≡ n
  unsafe_one m n (inl (h, e)) (inl (g, f)) = e ∙ sym f
  unsafe_one m n (inl (h, e)) (inr (g, k, f)) = absurd (h g)
  unsafe_one m n (inr (h, k, e)) (inl (g, f)) = absurd (g h)
  unsafe_one m n (inr (h, k, e)) (inr (g, l, f)) = e ∙ sym f

module _ (words : List Word) (apart : AllPairs ◌≢◌ (map (λ word. word.name) words)) (schema bytes : List ℕ) where
  -- ---- rules

  tuple_one : (items head_items : List ItemTree) (body head body' head' : List (Fact Term)) (names names' : List Name)
      → IsTupleRead words schema bytes items head_items body head names
      → IsTupleRead words schema bytes items head_items body' head' names' → (body ≡ body') × (head ≡ head') × (names ≡ names')
  tuple_one items head_items body head body' head' names names' h g =
      let first = items_one words apart schema bytes [] items body body' h.between g.between apart_none h.body_atoms g.body_atoms in
      let later = items_one words apart schema bytes h.between head_items head head' names names' first.2 h.head_atoms
      (subst (λ (l : List Name). AreItems words schema bytes l head_items head' names') (sym first.1) g.head_atoms) in
      (first.0, later.0, later.1)

  equality_one : (items : List ItemTree) (left right : Token) (body body' : List (Fact Term)) (one other one' other' : Term) (names names' : List Name)
      → IsEqualityRead words schema bytes items left right body one other names → IsEqualityRead words schema bytes items left right body' one' other' names'
      → (body ≡ body') × (one ≡ one') × (other ≡ other') × (names ≡ names')
  equality_one items left right body body' one other one' other' names names' h g =
      let first = items_one words apart schema bytes [] items body body' h.between g.between apart_none h.body_atoms g.body_atoms in
      let later = terms_one bytes h.between (left ∷ right ∷ []) (one ∷ other ∷ []) (one' ∷ other' ∷ []) names names' first.2 h.sides
      (subst (λ (l : List Name). AreTerms bytes l (left ∷ right ∷ []) (one' ∷ other' ∷ []) names') (sym first.1) g.sides) in
      let sides : one ∷ other ∷ [] ≡ one' ∷ other' ∷ [] = later.0 in
      (first.0, cc sides, cc sides, later.1)

  rule_one : (items : List ItemTree) (head : HeadTree) (rule other : Constraint) → IsRuleOf words schema bytes items head rule
      → IsRuleOf words schema bytes items head other → AreSameRule rule other
  rule_one items (Items head_items) (Tuple rule) (Tuple other) h g = tuple_one items head_items rule.body rule.head other.body other.head rule.names other.names
      h g
  rule_one items (Items head_items) (Tuple rule) (Equal other) h g = absurd g
  rule_one items (Items head_items) (Tuple rule) (Never other) h g = absurd g
  rule_one items (Items head_items) (Equal rule) other h g = absurd h
  rule_one items (Items head_items) (Never rule) other h g = absurd h
  rule_one items (Equality left right) (Equal rule) (Equal other) h g =
      equality_one items left right rule.body other.body rule.left rule.right other.left other.right rule.names other.names h.0 g.0
  rule_one items (Equality left right) (Equal rule) (Tuple other) h g = absurd g
  rule_one items (Equality left right) (Equal rule) (Never other) h g = absurd g
  rule_one items (Equality left right) (Tuple rule) other h g = absurd h
  rule_one items Nothing (Never rule) (Never other) h g =
      let same = items_one words apart schema bytes [] items rule.body other.body rule.names other.names apart_none h.body_atoms g.body_atoms in
      (same.0, same.1)
  rule_one items Nothing (Never rule) (Tuple other) h g = absurd g
  rule_one items Nothing (Never rule) (Equal other) h g = absurd g
  rule_one items Nothing (Tuple rule) other h g = absurd h
  rule_one items Nothing (Equal rule) other h g = absurd h
  rule_one items (Equality left right) (Never rule) other h g = absurd h

  -- ---- faults

  head_fault_one : (items : List ItemTree) (head : HeadTree) (f g : TextFault) → IsRuleHeadFault words schema bytes items head f
      → IsRuleHeadFault words schema bytes items head g → f ≡ g
  head_fault_one items (Items head_items) f g h k = items_fault_one words apart schema bytes 0 head_items f g h k
  head_fault_one items (Equality left right) f g (body, one, other, names, h, k, side) (body', one', other', names', h', k', side') =
      let s = equality_one items left right body body' one other one' other' names names' h h' in
      let moved : IsUnsafeSide body left right one other g.offset =
      subst (λ (l : List (Fact Term)). IsUnsafeSide l left right one other g.offset) (sym s.0)
      (subst (λ (x : Term). IsUnsafeSide body' left right x other g.offset) (sym s.1)
      (subst (λ (x : Term). IsUnsafeSide body' left right one' x g.offset) (sym s.2) side')) in
      fault_same f g (unsafe_one body left right one other f.offset g.offset side moved) (k ∙ sym k')
  head_fault_one items Nothing f g h k = absurd h

  rule_fault_one : (tree : ConstraintTree) (f g : TextFault) → IsRuleFault words schema bytes tree f → IsRuleFault words schema bytes tree g → f ≡ g
  rule_fault_one tree f g (inl h) (inl k) = items_fault_one words apart schema bytes 0 tree.body f g h k
  rule_fault_one tree f g (inl h) (inr k) = absurd (fitting_or_fault words apart schema bytes 0 tree.body f k.0 h)
  rule_fault_one tree f g (inr h) (inl k) = absurd (fitting_or_fault words apart schema bytes 0 tree.body g h.0 k)
  rule_fault_one tree f g (inr h) (inr k) = head_fault_one tree.body tree.head f g h.1 k.1

  rule_or_head_fault : (items : List ItemTree) (head : HeadTree) (rule : Constraint) (f : TextFault) → IsRuleOf words schema bytes items head rule
      → ¬ IsRuleHeadFault words schema bytes items head f
  rule_or_head_fault items (Items head_items) (Tuple rule) f h k = fitting_or_fault words apart schema bytes 0 head_items f h.head_fits k
  rule_or_head_fault items (Items head_items) (Equal rule) f h k = h
  rule_or_head_fault items (Items head_items) (Never rule) f h k = h
  rule_or_head_fault items (Equality left right) (Tuple rule) f h k = h
  rule_or_head_fault items (Equality left right) (Never rule) f h k = h
  rule_or_head_fault items Nothing rule f h k = k
  rule_or_head_fault items (Equality left right) (Equal rule) f (h, one_fixed, other_fixed) (body, one, other, names, g, k, side) =
      let s = equality_one items left right rule.body body rule.left rule.right one other rule.names names h g in
      fixed_no_unsafe body left right one other f.offset
      (subst (λ (l : List (Fact Term)). IsFixedBy l one) s.0 (subst (IsFixedBy rule.body) s.1 one_fixed))
      (subst (λ (l : List (Fact Term)). IsFixedBy l other) s.0 (subst (IsFixedBy rule.body) s.2 other_fixed)) side

  body_fits : (items : List ItemTree) (head : HeadTree) (rule : Constraint) → IsRuleOf words schema bytes items head rule
      → AreFitting words schema bytes 0 items
  body_fits items (Items head_items) (Tuple rule) h = h.body_fits
  body_fits items (Items head_items) (Equal rule) h = absurd h
  body_fits items (Items head_items) (Never rule) h = absurd h
  body_fits items (Equality left right) (Tuple rule) h = absurd h
  body_fits items (Equality left right) (Never rule) h = absurd h
  body_fits items (Equality left right) (Equal rule) h = h.0.body_fits
  body_fits items Nothing (Never rule) h = h.body_fits
  body_fits items Nothing (Tuple rule) h = absurd h
  body_fits items Nothing (Equal rule) h = absurd h

  rule_or_fault : (tree : ConstraintTree) (rule : Constraint) (f : TextFault) → IsRuleOf words schema bytes tree.body tree.head rule
      → ¬ IsRuleFault words schema bytes tree f
  rule_or_fault tree rule f h (inl k) = fitting_or_fault words apart schema bytes 0 tree.body f (body_fits tree.body tree.head rule h) k
  rule_or_fault tree rule f h (inr k) = rule_or_head_fault tree.body tree.head rule f h k.1

-- ---- texts

module _ (version : Version) (trees : text.HaveOneTree (text.IsConstraintText version)) where
  pub one_rule : (words : List Word) → AllPairs ◌≢◌ (map (λ word. word.name) words) → (schema bytes : List ℕ) (rule other : Constraint)
      → IsConstraintReading version words schema bytes rule
      → IsConstraintReading version words schema bytes other → AreSameRule rule other
  one_rule words apart schema bytes rule other (tree, t, h) (tree', t', g) =
      let same : tree' ≡ tree = trees bytes tree' t' tree t in
      rule_one words apart schema bytes tree.body tree.head rule other h
      (subst (λ (x : ConstraintTree). IsRuleOf words schema bytes x.body x.head other) same g)

  module _ (clean : text.HaveNoFault (text.IsConstraintText version) (text.IsConstraintGrammarFault version)) where
    pub no_rule_fault : (words : List Word) → AllPairs ◌≢◌ (map (λ word. word.name) words) → (schema bytes : List ℕ) (rule : Constraint) (fault : TextFault)
        → IsConstraintReading version words schema bytes rule
        → ¬ IsConstraintFault version words schema bytes fault
    no_rule_fault words apart schema bytes rule fault (tree, t, h) (inl g) = clean bytes tree fault t g
    no_rule_fault words apart schema bytes rule fault (tree, t, h) (inr (tree', t', g)) =
        let same : tree' ≡ tree = trees bytes tree' t' tree t in
        rule_or_fault words apart schema bytes tree rule fault h (subst (λ (x : ConstraintTree). IsRuleFault words schema bytes x fault) same g)

    pub one_rule_fault : (grammar : text.HaveOneFault (text.IsConstraintGrammarFault version)) (words : List Word)
        → AllPairs ◌≢◌ (map (λ word. word.name) words) → (schema bytes : List ℕ) (fault other : TextFault)
        → IsConstraintFault version words schema bytes fault → IsConstraintFault version words schema bytes other → fault ≡ other
    one_rule_fault grammar words apart schema bytes fault other (inl h) (inl g) = grammar bytes fault other h g
    one_rule_fault grammar words apart schema bytes fault other (inl h) (inr (tree, t, g)) = absurd (clean bytes tree fault t h)
    one_rule_fault grammar words apart schema bytes fault other (inr (tree, t, h)) (inl g) = absurd (clean bytes tree other t g)
    one_rule_fault grammar words apart schema bytes fault other (inr (tree, t, h)) (inr (tree', t', g)) =
        let same : tree' ≡ tree = trees bytes tree' t' tree t in
        rule_fault_one words apart schema bytes tree fault other h (subst (λ (x : ConstraintTree). IsRuleFault words schema bytes x other) same g)
