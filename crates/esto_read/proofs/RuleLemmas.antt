-- Rules from their parts.
use Rattle.std.proofs.Common.{IsUtf8, ◌≡◌, ◌≢◌, ℕ, ◌≤◌, ◌⊎◌, inl, inr, List, [], ◌∷◌, length, Result, Ok, Err, refl, sym, ap, subst, arith}
use Rattle.std.specs.Prelude.{Contains, All}
use Rattle.std.specs.List.{AllByRecursion}
use Rattle.std.specs.Result.{IfOk, IfErr, result_and}
use Rattle.esto_constraint.specs.Constraints.{rule_of}
use Rattle.esto_constraint.specs.Making.{MakesTuple, MakesEquality, MakesDenial}
use Rattle.esto_constraint.specs.declared.rule.Constraint.{Constraint}
use Rattle.esto_constraint.specs.declared.rule.Constraint.TheVariants.{Tuple, Equal, Never}
use Rattle.esto_constraint.specs.Soundness.{IsSoundTuple, IsSoundEquality, IsSoundDenial}
use Rattle.esto_query.specs.Soundness.{AreNamed}
use Rattle.esto_query.specs.declared.make.TheConstants.{MAX_ATOMS}
use Rattle.esto_query.specs.declared.query.Name.{Name}
use Rattle.esto_semantics.specs.Maps.{AreFlat, IsFixedBy}
use Rattle.esto_semantics.specs.Rules.{tuple, equality, denial}
use Rattle.esto_semantics.specs.WellFormed.{AreOver, HaveUtf8, IsRuleOver}
use Rattle.esto_semantics.specs.declared.fact.Fact.{Fact}
use Rattle.esto_term.specs.declared.term.Term.{Term}
use Rattle.esto_term.specs.declared.term.Term.TheVariants.{Const, Plain}
use Rattle.esto_text.specs.Faults.{IsFalse, IsNameIn, IsFieldIn, IsTermIn, IsConstraintText, ConstraintStandsAt}
use Rattle.esto_text.specs.Grammar.{is_term, IsBody, IsHead}
use Rattle.esto_text.specs.Tokens.{text_of}
use Rattle.esto_text.specs.Trees.{ItemTree, HeadTree, Items, Equality, Never as Nothing, ConstraintTree, EachOfHead}
use Rattle.esto_text.specs.declared.fault.ReadError.{ReadError}
use Rattle.esto_text.specs.declared.fault.ReadError.TheVariants.{Fault, OutOfMemory}
use Rattle.esto_text.specs.declared.fault.TextKind.TheVariants.{Unsafe}
use Rattle.esto_text.specs.declared.token.Token.{Token}
use Rattle.esto_text.specs.declared.version.Version.{Version}
use Rattle.esto_read.specs.Constraints.{IsTupleRead, IsEqualityRead, IsDenialRead, IsUnsafeSide, IsRuleOf, IsRuleHeadFault, IsRuleError, IsConstraintError}
use Rattle.esto_read.specs.Items.{AreFitting, AreItems, IsBodyError}
use Rattle.esto_read.specs.Parts.{AreTupleParts, AreEqualityParts, AreDenialParts}
use Rattle.esto_read.specs.Terms.{IsTermOf, AreTerms}
use Rattle.esto_docmodel.specs.Words.{HasRelations}
use Rattle.esto_docmodel.specs.declared.words.Word.{Word}
use Rattle.esto_read.proofs.ItemLemmas.{items_size}
use Rattle.esto_read.proofs.BelowLemmas.{below_more, AllGrow, terms_grow}
use Rattle.esto_read.proofs.ReadLemmas.{Good, ItemIn, AllGood, items_good, items_some}

-- ---- sides

pub name_is_term : (bytes : List ℕ) (t : Token) → IsNameIn bytes t → IsTermIn bytes t
name_is_term bytes t h = (h.0, ap is_term h.1)

pub sides_are : (bytes : List ℕ) (before between after : List Name) (left right : Token) (one other : Term)
    → IsTermOf left.kind (text_of bytes left) before one between
    → IsTermOf right.kind (text_of bytes right) between other after → AreTerms bytes before (left ∷ right ∷ []) (one ∷ other ∷ []) after
sides_are bytes before between after left right one other h g = (between, h, (after, g, refl))

-- what is made where a test lets it pass
module _ {A : Type 0} (checked : Result (Unit {0}) ReadError) (value : A) (result : Result A ReadError) (is : result ≡ result_and checked (Ok value)) where
  pub passed_ok : (P : A → Type 0) → IfOk checked (λ _. P value) → IfOk result P
  passed_ok P holds = subst (λ (it : Result A ReadError). IfOk it P) (sym is) (keeps checked holds) where
    keeps : (checked : Result (Unit {0}) ReadError) → IfOk checked (λ _. P value) → IfOk (result_and checked (Ok value)) P
    keeps (Ok unit) h = h
    keeps (Err error) h = tt

  pub passed_holds : (P : A → Type 0) → P value → IfOk result P
  passed_holds P holds = passed_ok P (each checked) where
    each : (checked : Result (Unit {0}) ReadError) → IfOk checked (λ _. P value)
    each (Ok unit) = holds
    each (Err error) = tt

  pub passed_err : (P : ReadError → Type 0) → IfErr checked P → IfErr result P
  passed_err P holds = subst (λ (it : Result A ReadError). IfErr it P) (sym is) (keeps checked holds) where
    keeps : (checked : Result (Unit {0}) ReadError) → IfErr checked P → IfErr (result_and checked (Ok value)) P
    keeps (Ok unit) h = tt
    keeps (Err error) h = h

-- ---- what a text's constraint stands in

module _ (version : Version) (bytes : List ℕ) (tree : ConstraintTree) (text : IsConstraintText version bytes tree) where
  pub some_items : tree.body ≢ []
  some_items none = let (tokens, h, (body, head, e, (front, arrow, f, b, a), g)) = text in subst (λ (l : List ItemTree). IsBody l front) none b

  pub some_head : (items : List ItemTree) → tree.head ≡ Items items → items ≢ []
  some_head items is none =
      let (tokens, h, (body, head, e, b, g)) = text in
      subst (λ (l : List ItemTree). IsBody l head) none (subst (λ (x : HeadTree). IsHead (IsFalse version bytes) x head) is g)

module _ (bytes : List ℕ) (tree : ConstraintTree) (stands : ConstraintStandsAt bytes tree) where
  pub head_stands : (h : HeadTree) → tree.head ≡ h → EachOfHead (IsNameIn bytes) (IsFieldIn bytes) (IsTermIn bytes) h
  head_stands h is = subst (EachOfHead (IsNameIn bytes) (IsFieldIn bytes) (IsTermIn bytes)) is stands.1

-- ---- atoms among so many variables

module _ (words : List Word) (schema bytes : List ℕ) (u : IsUtf8 bytes) where
  abbrev AreGood : ℕ → List (Fact Term) → Type 0
  AreGood count atoms = (atom : Fact Term) → Contains atoms atom → Good words schema bytes u count atom

  good_more : (m n : ℕ) (atoms : List (Fact Term)) → m ≤ n → AreGood m atoms → AreGood n atoms
  good_more m n atoms le h atom k = let g = h atom k in (g.0, λ x l. below_more m n x le (g.1 x l))

  good_flat : (n : ℕ) (atoms : List (Fact Term)) → AreGood n atoms → AreFlat atoms
  good_flat n atoms h x (atom, k, l) = ((h atom k).1 x l).0

  good_named : (names : List Name) (atoms : List (Fact Term)) → AreGood (length names) atoms → AreNamed names atoms
  good_named names atoms h v (atom, k, l) = ((h atom k).1 (Plain v) l).1 v refl

  good_over : (n : ℕ) (atoms : List (Fact Term)) → AreGood n atoms → AreOver schema atoms
  good_over n atoms h atom k = (h atom k).0

  -- items in which nothing is wrong give not too many atoms
  few : (before : List Name) (items : List ItemTree) (atoms : List (Fact Term)) (after : List Name) → AreItems words schema bytes before items atoms after
      → AreFitting words schema bytes 0 items → length atoms ≤ MAX_ATOMS
  few before items atoms after are fits =
      let size = items_size words schema bytes 0 before items atoms after (omega arith) are fits in omega (arith, size)

  good_texts : (n : ℕ) (atoms : List (Fact Term)) → AreGood n atoms → HaveUtf8 atoms
  good_texts n atoms h s (atom, k, l) = ((h atom k).1 (Const s) l).2 s refl

-- ---- what a text's constraint keeps

module _ (version : Version) (words : List Word) (schema bytes : List ℕ) (tree : ConstraintTree) (text : IsConstraintText version bytes tree)
    (stands : ConstraintStandsAt bytes tree) (relations : All (λ word. HasRelations schema word.model word.base) words) where
  u : IsUtf8 bytes
  u = text.1.0

  module _ (items : List ItemTree) (is : tree.head ≡ Items items) (body head : List (Fact Term)) (names : List Name)
      (h : IsTupleRead words schema bytes tree.body items body head names) where
    head_stand : AllByRecursion (ItemIn words schema bytes u) items
    head_stand = head_stands bytes tree stands (Items items) is

    in_head : AllGood words schema bytes u h.between names head
    in_head = items_good words schema bytes u relations h.between items head names head_stand h.head_atoms

    good_body : AreGood words schema bytes u (length names) body
    good_body = good_more words schema bytes u (length h.between) (length names) body in_head.0
        (items_good words schema bytes u relations [] tree.body body h.between stands.0 h.body_atoms).1

    tuple_sound : IsSoundTuple body head names
    tuple_sound = record {
      rule = record {
        has_body = items_some words schema bytes u [] tree.body body h.between h.body_atoms (some_items version bytes tree text);
        has_head = items_some words schema bytes u h.between items head names h.head_atoms (some_head version bytes tree text items is);
        flat_body = good_flat words schema bytes u (length names) body good_body;
        flat_head = good_flat words schema bytes u (length names) head in_head.1;
      };
      body_named = good_named words schema bytes u names body good_body;
      head_named = good_named words schema bytes u names head in_head.1;
    }

    tuple_over : IsRuleOver schema (tuple body head)
    tuple_over = (
      good_over words schema bytes u (length names) body good_body,
      good_over words schema bytes u (length names) head in_head.1,
      good_texts words schema bytes u (length names) body good_body,
      good_texts words schema bytes u (length names) head in_head.1,
    )

    pub tuple_parts : AreTupleParts schema body head names
    tuple_parts = record {
      sound = tuple_sound;
      over = tuple_over;
      body_size = few words schema bytes u [] tree.body body h.between h.body_atoms h.body_fits;
      head_size = few words schema bytes u h.between items head names h.head_atoms h.head_fits;
    }

  module _ (left_token right_token : Token) (is : tree.head ≡ Equality left_token right_token) (body : List (Fact Term)) (left right : Term) (names : List Name)
      (h : IsEqualityRead words schema bytes tree.body left_token right_token body left right names) where
    in_sides : AllGrow h.between names (left ∷ right ∷ [])
    in_sides =
        let stand = head_stands bytes tree stands (Equality left_token right_token) is in
        terms_grow bytes u h.between (left_token ∷ right_token ∷ []) (left ∷ right ∷ []) names (name_is_term bytes left_token stand.0, (stand.1, tt)) h.sides

    good_equality : AreGood words schema bytes u (length names) body
    good_equality = good_more words schema bytes u (length h.between) (length names) body in_sides.0
        (items_good words schema bytes u relations [] tree.body body h.between stands.0 h.body_atoms).1

    equality_sound : IsFixedBy body left × IsFixedBy body right → IsSoundEquality body left right names
    equality_sound fixed = record {
      rule = record {
        has_body = items_some words schema bytes u [] tree.body body h.between h.body_atoms (some_items version bytes tree text);
        flat_body = good_flat words schema bytes u (length names) body good_equality;
        left_fixed = fixed.0;
        right_fixed = fixed.1;
      };
      named = good_named words schema bytes u names body good_equality;
    }

    equality_over : IsRuleOver schema (equality body left right)
    equality_over = (
      good_over words schema bytes u (length names) body good_equality,
      good_texts words schema bytes u (length names) body good_equality,
      λ s e. (in_sides.1 left (0, omega arith, refl)).2 s e,
      λ s e. (in_sides.1 right (1, omega arith, refl)).2 s e,
    )

    pub equality_parts : IsFixedBy body left × IsFixedBy body right → AreEqualityParts schema body left right names
    equality_parts fixed = record {
      sound = equality_sound fixed;
      over = equality_over;
      size = few words schema bytes u [] tree.body body h.between h.body_atoms h.body_fits;
    }

  module _ (body : List (Fact Term)) (names : List Name) (h : IsDenialRead words schema bytes tree.body body names) where
    good_denial : AreGood words schema bytes u (length names) body
    good_denial = (items_good words schema bytes u relations [] tree.body body names stands.0 h.body_atoms).1

    denial_sound : IsSoundDenial body names
    denial_sound = record {
      rule = record {
        has_body = items_some words schema bytes u [] tree.body body names h.body_atoms (some_items version bytes tree text);
        flat_body = good_flat words schema bytes u (length names) body good_denial;
      };
      named = good_named words schema bytes u names body good_denial;
    }

    denial_over : IsRuleOver schema (denial body)
    denial_over = (good_over words schema bytes u (length names) body good_denial, good_texts words schema bytes u (length names) body good_denial)

    pub denial_parts : AreDenialParts schema body names
    denial_parts = record {
      sound = denial_sound;
      over = denial_over;
      size = few words schema bytes u [] tree.body body names h.body_atoms h.body_fits;
    }

-- ---- rules that are made

module _ (schema : List ℕ) (names : List Name) where
  pub tuple_made_over : (rule : Constraint) (body head : List (Fact Term)) → MakesTuple schema body head names (Ok rule) → IsRuleOver schema (tuple body head)
      → IsRuleOver schema (rule_of rule)
  tuple_made_over (Tuple rule) body head made over =
      subst (λ (l : List (Fact Term)). IsRuleOver schema (tuple rule.body l)) (sym made.4)
      (subst (λ (l : List (Fact Term)). IsRuleOver schema (tuple l head)) (sym made.3) over)
  tuple_made_over (Equal rule) body head made over = absurd made
  tuple_made_over (Never rule) body head made over = absurd made

  pub equality_made_over : (rule : Constraint) (body : List (Fact Term)) (left right : Term) → MakesEquality schema body left right names (Ok rule)
      → IsRuleOver schema (equality body left right) → IsRuleOver schema (rule_of rule)
  equality_made_over (Equal rule) body left right made over =
      subst (λ (x : Term). IsRuleOver schema (equality rule.body rule.left x)) (sym made.6)
      (subst (λ (x : Term). IsRuleOver schema (equality rule.body x right)) (sym made.5)
      (subst (λ (l : List (Fact Term)). IsRuleOver schema (equality l left right)) (sym made.4) over))
  equality_made_over (Tuple rule) body left right made over = absurd made
  equality_made_over (Never rule) body left right made over = absurd made

  pub denial_made_over : (rule : Constraint) (body : List (Fact Term)) → MakesDenial schema body names (Ok rule) → IsRuleOver schema (denial body)
      → IsRuleOver schema (rule_of rule)
  denial_made_over (Never rule) body made over = subst (λ (l : List (Fact Term)). IsRuleOver schema (denial l)) (sym made.2) over
  denial_made_over (Tuple rule) body made over = absurd made
  denial_made_over (Equal rule) body made over = absurd made

-- ---- readings and errors

module _ (words : List Word) (schema bytes : List ℕ) (tree : ConstraintTree) where
  pub tuple_said : (head_items : List ItemTree) (rule : Constraint) (body head : List (Fact Term)) (names : List Name)
      → MakesTuple schema body head names (Ok rule)
      → tree.head ≡ Items head_items → IsTupleRead words schema bytes tree.body head_items body head names
      → IsRuleOf words schema bytes tree.body tree.head rule
  tuple_said head_items (Tuple rule) body head names made is h =
      let bodies = subst (λ (l : List (Fact Term)). IsTupleRead words schema bytes tree.body head_items l head names) (sym made.3) h in
      let heads = subst (λ (l : List (Fact Term)). IsTupleRead words schema bytes tree.body head_items rule.body l names) (sym made.4) bodies in
      let whole = subst (λ (l : List Name). IsTupleRead words schema bytes tree.body head_items rule.body rule.head l) (sym made.5) heads in
      subst (λ (x : HeadTree). IsRuleOf words schema bytes tree.body x (Tuple rule)) (sym is) whole
  tuple_said head_items (Equal rule) body head names made is h = absurd made
  tuple_said head_items (Never rule) body head names made is h = absurd made

  pub equality_said : (left right : Token) (rule : Constraint) (body : List (Fact Term)) (one other : Term) (names : List Name)
      → MakesEquality schema body one other names (Ok rule)
      → tree.head ≡ Equality left right → IsEqualityRead words schema bytes tree.body left right body one other names
      → IsRuleOf words schema bytes tree.body tree.head rule
  equality_said left right (Equal rule) body one other names made is h =
      let bodies = subst (λ (l : List (Fact Term)). IsEqualityRead words schema bytes tree.body left right l one other names × IsFixedBy l one
      × IsFixedBy l other) (sym made.4) (h, made.2, made.3) in
      let lefts = subst (λ (x : Term). IsEqualityRead words schema bytes tree.body left right rule.body x other names × IsFixedBy rule.body x
      × IsFixedBy rule.body other) (sym made.5) bodies in
      let sides = subst (λ (x : Term). IsEqualityRead words schema bytes tree.body left right rule.body rule.left x names × IsFixedBy rule.body rule.left
      × IsFixedBy rule.body x) (sym made.6) lefts in
      let whole = subst (λ (l : List Name). IsEqualityRead words schema bytes tree.body left right rule.body rule.left rule.right l
      × IsFixedBy rule.body rule.left × IsFixedBy rule.body rule.right) (sym made.7) sides in
      subst (λ (x : HeadTree). IsRuleOf words schema bytes tree.body x (Equal rule)) (sym is) whole
  equality_said left right (Tuple rule) body one other names made is h = absurd made
  equality_said left right (Never rule) body one other names made is h = absurd made

  pub denial_said : (rule : Constraint) (body : List (Fact Term)) (names : List Name) → MakesDenial schema body names (Ok rule) → tree.head ≡ Nothing
      → IsDenialRead words schema bytes tree.body body names → IsRuleOf words schema bytes tree.body tree.head rule
  denial_said (Never rule) body names made is h =
      let bodies = subst (λ (l : List (Fact Term)). IsDenialRead words schema bytes tree.body l names) (sym made.2) h in
      let whole = subst (λ (l : List Name). IsDenialRead words schema bytes tree.body rule.body l) (sym made.3) bodies in
      subst (λ (x : HeadTree). IsRuleOf words schema bytes tree.body x (Never rule)) (sym is) whole
  denial_said (Tuple rule) body names made is h = absurd made
  denial_said (Equal rule) body names made is h = absurd made

  pub body_error : (e : ReadError) → IsBodyError words schema bytes tree.body e → IsRuleError words schema bytes tree e
  body_error OutOfMemory h = tt
  body_error (Fault f) h = inl h

  module _ (fits : AreFitting words schema bytes 0 tree.body) where
    pub head_error : (head_items : List ItemTree) → tree.head ≡ Items head_items → (e : ReadError) → IsBodyError words schema bytes head_items e
        → IsRuleError words schema bytes tree e
    head_error head_items is OutOfMemory h = tt
    head_error head_items is (Fault f) h = inr (fits, subst (λ (x : HeadTree). IsRuleHeadFault words schema bytes tree.body x f) (sym is) h)

    pub side_error : (left right : Token) (body : List (Fact Term)) (one other : Term) (names : List Name) (offset : ℕ) → tree.head ≡ Equality left right
        → IsEqualityRead words schema bytes tree.body left right body one other names → IsUnsafeSide body left right one other offset
        → IsRuleError words schema bytes tree (Fault (record { offset = offset; kind = Unsafe }))
    side_error left right body one other names offset is h g =
        inr (
          fits,
          subst (λ (x : HeadTree). IsRuleHeadFault words schema bytes tree.body x (record { offset = offset; kind = Unsafe }))
              (sym is) (body, one, other, names, h, refl, g),
        )

    -- an equality's sides are not read, or one is no constant and not in the body
    pub sides_error : (left right : Token) (body : List (Fact Term)) (between : List Name) → tree.head ≡ Equality left right
        → AreItems words schema bytes [] tree.body body between → (e : ReadError)
        → (e ≡ OutOfMemory) ⊎ ((after : List Name) × (one other : Term) × (offset : ℕ) × AreTerms bytes between (left ∷ right ∷ []) (one ∷ other ∷ []) after
        × IsUnsafeSide body left right one other offset × (e ≡ Fault (record { offset = offset; kind = Unsafe })))
        → IsRuleError words schema bytes tree e
    sides_error left right body between is are e (inl none) = subst (IsRuleError words schema bytes tree) (sym none) tt
    sides_error left right body between is are e (inr (after, one, other, offset, terms, unsafe, it)) =
        subst (IsRuleError words schema bytes tree) (sym it) (side_error left right body one other after offset is (record {
          between = between;
          body_atoms = are;
          body_fits = fits;
          sides = terms;
        }) unsafe)

pub rule_error : (version : Version) (words : List Word) (schema bytes : List ℕ) (tree : ConstraintTree) → IsConstraintText version bytes tree
    → (e : ReadError) → IsRuleError words schema bytes tree e → IsConstraintError version words schema bytes e
rule_error version words schema bytes tree text OutOfMemory h = text.1.0
rule_error version words schema bytes tree text (Fault f) h = inr (tree, text, h)
