-- A text has one reading and no fault, or one first fault and no reading.
use Rattle.std.proofs.Common.{◌≡◌, ◌≢◌, ℕ, ◌+◌, inl, inr, List, [], ◌∷◌, Some, refl, sym, ap, subst, ◌∙◌, arith}
use Rattle.std.specs.Prelude.{AllPairs, map, slice_get}
use Rattle.std.proofs.lemmas.Bool.{cases_lt}
use Rattle.esto_query.specs.declared.query.Name.{Name}
use Rattle.esto_semantics.specs.declared.fact.Fact.{Fact}
use Rattle.esto_term.specs.declared.term.Term.{Term}
use Rattle.esto_term.proofs.ListLemmas.{Contains-at}
use Rattle.esto_term.proofs.PlaceLemmas.{Contains-take}
use Rattle.esto_text.specs.Faults as text
use Rattle.esto_text.specs.Tokens.{text_of}
use Rattle.esto_text.specs.Trees.{ItemTree, QueryTree}
use Rattle.esto_text.specs.declared.fault.TextFault.{TextFault}
use Rattle.esto_text.specs.declared.fault.TextKind.{TextKind}
use Rattle.esto_text.specs.declared.fault.TextKind.TheVariants.{Unknown, Arity, TooLarge}
use Rattle.esto_text.specs.declared.token.Token.{Token}
use Rattle.esto_read.specs.Heads.{IsFirstRepeat, IsFirstMissing}
use Rattle.esto_read.specs.Items.{item_size, IsRelationOf, HasArity, IsMisfit, IsFitting, AreFitting, IsItemFault, IsFirstItemFault, AreItems}
use Rattle.esto_read.specs.Readings.{IsRead, IsAllowed, IsRefused, IsHeadFit, IsHeadFault, IsReading, IsTreeFault, IsFirstFault, AreSame}
use Rattle.esto_read.specs.declared.read.Form.{Form}
use Rattle.esto_read.specs.declared.read.Form.TheVariants.{Query, View}
use Rattle.esto_read.specs.declared.read.NamedQuery.{NamedQuery}
use Rattle.esto_docmodel.specs.declared.words.Word.{Word}
use Rattle.esto_read.proofs.OneLemmas.{terms_one, items_one, apart_none}
use Rattle.esto_read.proofs.WordLemmas.{relation_one}

pub fault_same : (f g : TextFault) → f.offset ≡ g.offset → f.kind ≡ g.kind → f ≡ g
fault_same f g o k = λ i. record { offset = o i; kind = k i }

one_there : {X : Type 0} → (xs : List X) (i j : ℕ) (x y : X) → slice_get xs i ≡ Some x → slice_get xs j ≡ Some y → i ≡ j → x ≡ y
one_there xs i j x y e f same = let g : Some x ≡ Some y = sym e ∙ ap (slice_get xs) same ∙ f in cc

-- ---- heads

repeat_one : (bytes : List ℕ) (variables : List Token) (m n : ℕ) → IsFirstRepeat bytes variables m → IsFirstRepeat bytes variables n → m ≡ n
repeat_one bytes variables m n (p, t, r, e, none) (q, u, s, f, none') =
    elim (cases_lt p q) [
      | inl lt ↦ absurd (none' p t lt r)
      | inr le ↦ elim (cases_lt q p) [
        | inl lt ↦ absurd (none q u lt s)
        | inr ge ↦ let same : t ≡ u = one_there variables p q t u r.0 s.0 (omega arith) in e ∙ ap (λ (x : Token). x.start) same ∙ sym f
      ]
    ]

missing_one : (body : List (Fact Term)) (head : List Term) (p q : ℕ) → IsFirstMissing body head p → IsFirstMissing body head q → p ≡ q
missing_one body head p q (x, at, none, before) (y, at', none', before') =
    elim (cases_lt p q) [
      | inl lt ↦ absurd (none (before' x (Contains-take head q p x lt at)))
      | inr le ↦ elim (cases_lt q p) [
        | inl lt ↦ absurd (none' (before y (Contains-take head p q y lt at')))
        | inr ge ↦ omega arith
      ]
    ]

not_refused : (form : Form) (bytes : List ℕ) (variables : List Token) (n : ℕ) → IsAllowed form bytes variables → ¬ IsRefused form bytes variables n
not_refused Query bytes variables n h g = g
not_refused View bytes variables n h (place, token, r, e, none) = h place token r

refused_one : (form : Form) (bytes : List ℕ) (variables : List Token) (m n : ℕ) → IsRefused form bytes variables m → IsRefused form bytes variables n → m ≡ n
refused_one Query bytes variables m n h g = absurd h
refused_one View bytes variables m n h g = repeat_one bytes variables m n h g

module _ (form : Form) (bytes : List ℕ) (variables : List Token) (head : List Term) (body : List (Fact Term)) where
  fit_or_fault : (f : TextFault) → IsHeadFit form bytes variables head body → ¬ IsHeadFault form bytes variables head body f
  fit_or_fault f fit (inl (k, r)) = not_refused form bytes variables f.offset fit.0 r
  fit_or_fault f fit (inr (k, allowed, place, token, (x, at, none, before), there, e)) = none (fit.1 x (Contains-at head place x at))

  head_fault_one : (f g : TextFault) → IsHeadFault form bytes variables head body f → IsHeadFault form bytes variables head body g → f ≡ g
  head_fault_one f g (inl (k, r)) (inl (k', r')) = fault_same f g (refused_one form bytes variables f.offset g.offset r r') (k ∙ sym k')
  head_fault_one f g (inl (k, r)) (inr h) = absurd (not_refused form bytes variables f.offset h.1 r)
  head_fault_one f g (inr h) (inl (k', r')) = absurd (not_refused form bytes variables g.offset h.1 r')
  head_fault_one f g (inr (k, allowed, p, t, m, at, e)) (inr (k', allowed', q, u, m', at', e')) =
      let same : t ≡ u = one_there variables p q t u at at' (missing_one body head p q m m') in
      fault_same f g (e ∙ ap (λ (x : Token). x.start) same ∙ sym e') (k ∙ sym k')

module _ (words : List Word) (apart : AllPairs ◌≢◌ (map (λ word. word.name) words)) (schema bytes : List ℕ) where
  -- ---- items

  module _ (atoms : ℕ) (item : ItemTree) where
    one : (relation other : ℕ) → IsRelationOf words bytes item relation → IsRelationOf words bytes item other → HasArity schema item other
        → HasArity schema item relation
    one relation other named named' columns =
        subst (HasArity schema item) (relation_one words apart bytes item other relation named' named) columns

    fit_no_misfit : (k : TextKind) → IsFitting words schema bytes atoms item → ¬ IsMisfit words schema bytes atoms item k
    fit_no_misfit Unknown (r, named, n, le) h = h r named
    fit_no_misfit Arity (r, named, n, le) (s, named', no_fit) = no_fit (one s r named' named n)
    fit_no_misfit TooLarge (r, named, n, le) (s, named', m, lt) = omega arith
    fit_no_misfit _ h g = absurd g

    misfit_one : (k l : TextKind) → IsMisfit words schema bytes atoms item k → IsMisfit words schema bytes atoms item l → k ≡ l
    misfit_one Unknown Unknown h g = refl
    misfit_one Unknown Arity h (s, named, n) = absurd (h s named)
    misfit_one Unknown TooLarge h (s, named, n, lt) = absurd (h s named)
    misfit_one Unknown _ h g = absurd g
    misfit_one Arity Unknown (r, named, n) g = absurd (g r named)
    misfit_one Arity Arity h g = refl
    misfit_one Arity TooLarge (r, named, n) (s, named', m, lt) = absurd (n (one r s named named' m))
    misfit_one Arity _ h g = absurd g
    misfit_one TooLarge Unknown (r, named, n, lt) g = absurd (g r named)
    misfit_one TooLarge Arity (r, named, n, lt) (s, named', m) = absurd (m (one s r named' named n))
    misfit_one TooLarge TooLarge h g = refl
    misfit_one TooLarge _ h g = absurd g
    misfit_one _ l h g = absurd h

  fitting_no_fault : (atoms : ℕ) (item : ItemTree) (f : TextFault) → IsFitting words schema bytes atoms item → ¬ IsItemFault words schema bytes atoms item f
  fitting_no_fault atoms item f h (o, m) = fit_no_misfit atoms item f.kind h m

  item_fault_one : (atoms : ℕ) (item : ItemTree) (f g : TextFault) → IsItemFault words schema bytes atoms item f → IsItemFault words schema bytes atoms item g
      → f ≡ g
  item_fault_one atoms item f g (o, m) (o', m') = fault_same f g (o ∙ sym o') (misfit_one atoms item f.kind g.kind m m')

  pub fitting_or_fault : (atoms : ℕ) (items : List ItemTree) (f : TextFault) → AreFitting words schema bytes atoms items
      → ¬ IsFirstItemFault words schema bytes atoms items f
  fitting_or_fault atoms [] f h g = g
  fitting_or_fault atoms (item ∷ items) f h (inl g) = fitting_no_fault atoms item f h.0 g
  fitting_or_fault atoms (item ∷ items) f h (inr g) = fitting_or_fault (atoms + item_size item) items f h.1 g.1

  pub items_fault_one : (atoms : ℕ) (items : List ItemTree) (f g : TextFault) → IsFirstItemFault words schema bytes atoms items f
      → IsFirstItemFault words schema bytes atoms items g → f ≡ g
  items_fault_one atoms [] f g h k = absurd h
  items_fault_one atoms (item ∷ items) f g (inl h) (inl k) = item_fault_one atoms item f g h k
  items_fault_one atoms (item ∷ items) f g (inl h) (inr k) = absurd (fitting_no_fault atoms item f k.0 h)
  items_fault_one atoms (item ∷ items) f g (inr h) (inl k) = absurd (fitting_no_fault atoms item g h.0 k)
  items_fault_one atoms (item ∷ items) f g (inr h) (inr k) = items_fault_one (atoms + item_size item) items f g h.1 k.1

  -- ---- trees

  pub read_one : (tree : QueryTree) (head head' : List Term) (body body' : List (Fact Term)) (names names' : List Name)
      → IsRead words schema bytes tree head body names → IsRead words schema bytes tree head' body' names'
      → (head ≡ head') × (body ≡ body') × (names ≡ names')
  read_one tree head head' body body' names names' h g =
      let first = terms_one bytes [] tree.variables head head' h.between g.between apart_none h.head_terms g.head_terms in
      let later = items_one words apart schema bytes h.between tree.items body body' names names' first.2 h.body_atoms
      (subst (λ (l : List Name). AreItems words schema bytes l tree.items body' names') (sym first.1) g.body_atoms) in
      (first.0, later.0, later.1)

  module _ (form : Form) (tree : QueryTree) where
    head_moves : (head head' : List Term) (body body' : List (Fact Term)) (names names' : List Name) (f : TextFault)
        → IsRead words schema bytes tree head body names → IsRead words schema bytes tree head' body' names'
        → IsHeadFault form bytes tree.variables head' body' f → IsHeadFault form bytes tree.variables head body f
    head_moves head head' body body' names names' f h g k =
        let s = read_one tree head head' body body' names names' h g in
        subst (λ (l : List Term). IsHeadFault form bytes tree.variables l body f) (sym s.0)
        (subst (λ (l : List (Fact Term)). IsHeadFault form bytes tree.variables head' l f) (sym s.1) k)

    pub tree_fault_one : (f g : TextFault) → IsTreeFault form words schema bytes tree f → IsTreeFault form words schema bytes tree g → f ≡ g
    tree_fault_one f g (inl h) (inl k) = items_fault_one 0 tree.items f g h k
    tree_fault_one f g (inl h) (inr (head, body, names, r, k)) = absurd (fitting_or_fault 0 tree.items f r.fits h)
    tree_fault_one f g (inr (head, body, names, r, h)) (inl k) = absurd (fitting_or_fault 0 tree.items g r.fits k)
    tree_fault_one f g (inr (head, body, names, r, h)) (inr (head', body', names', r', k)) =
        head_fault_one form bytes tree.variables head body f g h (head_moves head head' body body' names names' g r r' k)

    pub read_or_fault : (head : List Term) (body : List (Fact Term)) (names : List Name) (f : TextFault) → IsRead words schema bytes tree head body names
        → IsHeadFit form bytes tree.variables head body → ¬ IsTreeFault form words schema bytes tree f
    read_or_fault head body names f r fit (inl h) = fitting_or_fault 0 tree.items f r.fits h
    read_or_fault head body names f r fit (inr (head', body', names', r', h)) =
        fit_or_fault form bytes tree.variables head body f fit (head_moves head head' body body' names names' f r r' h)

-- ---- texts

module _ (trees : text.HaveOneTree text.IsQueryText) where
  pub one_reading : (form : Form) (words : List Word) → AllPairs ◌≢◌ (map (λ word. word.name) words) → (schema bytes : List ℕ) (query other : NamedQuery)
      → IsReading form words schema bytes query → IsReading form words schema bytes other
      → AreSame query other
  one_reading form words apart schema bytes query other (tree, h) (tree', g) =
      let same : tree' ≡ tree = trees bytes tree' g.text tree h.text in
      let r = subst (λ (t : QueryTree). IsRead words schema bytes t other.query.head other.query.body other.query.names) same g.said.read in
      let s = read_one words apart schema bytes tree query.query.head other.query.head query.query.body other.query.body query.query.names other.query.names
      h.said.read r in
      (h.said.name ∙ ap (λ (t : QueryTree). text_of bytes t.name) (sym same) ∙ sym g.said.name, s.0, s.1, s.2)

  module _ (clean : text.HaveNoFault text.IsQueryText text.IsGrammarFault) where
    pub no_fault : (form : Form) (words : List Word) → AllPairs ◌≢◌ (map (λ word. word.name) words)
        → (schema bytes : List ℕ) (query : NamedQuery) (fault : TextFault) → IsReading form words schema bytes query
        → ¬ IsFirstFault form words schema bytes fault
    no_fault form words apart schema bytes query fault (tree, h) (inl g) = clean bytes tree fault h.text g
    no_fault form words apart schema bytes query fault (tree, h) (inr (tree', text', g)) =
        let same : tree' ≡ tree = trees bytes tree' text' tree h.text in
        read_or_fault words apart schema bytes form tree query.query.head query.query.body query.query.names fault h.said.read h.said.fit
        (subst (λ (t : QueryTree). IsTreeFault form words schema bytes t fault) same g)

    pub one_fault : (grammar : text.HaveOneFault text.IsGrammarFault) (form : Form) (words : List Word) → AllPairs ◌≢◌ (map (λ word. word.name) words)
        → (schema bytes : List ℕ) (fault other : TextFault) → IsFirstFault form words schema bytes fault
        → IsFirstFault form words schema bytes other → fault ≡ other
    one_fault grammar form words apart schema bytes fault other (inl h) (inl g) = grammar bytes fault other h g
    one_fault grammar form words apart schema bytes fault other (inl h) (inr (tree, t, g)) = absurd (clean bytes tree fault t h)
    one_fault grammar form words apart schema bytes fault other (inr (tree, t, h)) (inl g) = absurd (clean bytes tree other t g)
    one_fault grammar form words apart schema bytes fault other (inr (tree, t, h)) (inr (tree', t', g)) =
        let same : tree' ≡ tree = trees bytes tree' t' tree t in
        tree_fault_one words apart schema bytes form tree fault other h (subst (λ (x : QueryTree). IsTreeFault form words schema bytes x other) same g)
