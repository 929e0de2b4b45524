-- Queries from their parts.
use Rattle.std.proofs.Common.{IsUtf8, take, get_or, ◌≡◌, ◌≢◌, ℕ, ◌≤◌, inl, inr, List, [], ◌∷◌, length, Some, refl, sym, ap, subst, ◌∙◌, arith}
use Rattle.std.specs.Prelude.{map, All, Contains, AllPairs, slice_get}
use Rattle.std.specs.List.{AllByRecursion, AllZip}
use Rattle.std.proofs.lemmas.List.{length-append, get_or-take, length-take-le}
use Rattle.std.proofs.lemmas.List.Elements.{Contains-append_cases}
use Rattle.std.proofs.lemmas.Option.{slice_get-get_or, get_or_from_slice_get}
use Rattle.esto_query.specs.declared.query.Name.{Name}
use Rattle.esto_query.specs.declared.query.Name.TheVariants.{Given}
use Rattle.esto_query.specs.Soundness.{IsSound}
use Rattle.esto_semantics.specs.Maps.{IsVariable}
use Rattle.esto_semantics.specs.WellFormed.{IsQueryOver}
use Rattle.esto_semantics.specs.declared.fact.Fact.{Fact}
use Rattle.esto_term.proofs.ListLemmas.{Contains-nil, Contains-one}
use Rattle.esto_term.proofs.ZipLemmas.{zip_read, zip_right}
use Rattle.esto_term.specs.declared.term.Term.{Term}
use Rattle.esto_term.specs.declared.term.Term.TheVariants.{Const, Plain}
use Rattle.esto_text.specs.Faults.{IsNameIn, IsFieldIn, IsTermIn, StandsAt, IsQueryText, IsErrorOf, IsGrammarFault}
use Rattle.esto_text.specs.Grammar.{IsName, IsRow, IsBody, IsQuery}
use Rattle.esto_text.specs.Tokens.{text_of}
use Rattle.esto_text.specs.Trees.{ItemTree, Atom, Part, Pattern, QueryTree, EachOfItem}
use Rattle.esto_text.specs.View.{item_of, tree_of}
use Rattle.esto_text.specs.declared.fault.ReadError.{ReadError}
use Rattle.esto_text.specs.declared.fault.ReadError.TheVariants.{Fault, OutOfMemory}
use Rattle.esto_text.specs.declared.token.Token.{Token}
use Rattle.esto_text.specs.declared.tree.ItemSyntax.{ItemSyntax}
use Rattle.esto_text.specs.declared.tree.QuerySyntax.{QuerySyntax}
use Rattle.esto_text.specs.declared.token.TokenKind.{TokenKind}
use Rattle.esto_text.specs.declared.token.TokenKind.TheVariants as kind
use Rattle.esto_read.specs.Heads.{AreDifferent, AreMentioned}
use Rattle.esto_read.specs.Items.{AreFitting, IsAtomOf, IsItemOf, AreItems, IsBodyError}
use Rattle.esto_read.specs.Readings.{IsAllowed, HasVariables, HasParts, IsRead, IsTreeError, IsReadError}
use Rattle.esto_read.specs.Terms.{IsVariableOf, IsTermOf, AreTerms}
use Rattle.esto_read.specs.declared.read.Form.{Form}
use Rattle.esto_read.specs.declared.read.Form.TheVariants.{Query, View}
use Rattle.esto_docmodel.specs.Words.{HasRelations}
use Rattle.esto_docmodel.specs.declared.words.DataModel.TheVariants.{Documents}
use Rattle.esto_docmodel.specs.declared.words.Word.{Word}
use Rattle.esto_read.proofs.ItemLemmas.{size_positive, item_count}
use Rattle.esto_read.proofs.WordLemmas.{base_has}
use Rattle.esto_read.proofs.EntryLemmas.{pattern_good}
use Rattle.esto_read.proofs.BelowLemmas.{names_are_terms, terms_length, plain_one, Below, below_more, AllGrow, terms_grow, Keeps, keeps_more, new_is_last}

-- ---- the parts of a query

pub query_parts : (tree : QueryTree) (tokens : List Token) → IsQuery tree tokens → HasParts tree
query_parts tree tokens (paren, head, turnstile, body, e, n, p, row, t, b) =
    (λ none. subst (λ (l : List Token). IsRow IsName l head) none row, λ none. subst (λ (l : List ItemTree). IsBody l body) none b)

-- ---- bodies

module _ (words : List Word) (schema bytes : List ℕ) (u : IsUtf8 bytes) where
  abbrev pub ItemIn : ItemTree → Type 0
  ItemIn item = EachOfItem (IsNameIn bytes) (IsFieldIn bytes) (IsTermIn bytes) item

  -- the atom is over the schema, and its terms are among so many variables
  abbrev pub Good : ℕ → Fact Term → Type 0
  Good count atom = (slice_get schema atom.relation ≡ Some (length atom.terms)) × ((x : Term) → Contains atom.terms x → Below count x)

  abbrev pub AllGood : List Name → List Name → List (Fact Term) → Type 0
  AllGood before after atoms = (length before ≤ length after) × ((atom : Fact Term) → Contains atoms atom → Good (length after) atom)

  atom_good : (before after : List Name) (relation : ℕ) (ts : List Token) (own : List (Fact Term)) → AllByRecursion (IsTermIn bytes) ts
      → slice_get schema relation ≡ Some (length ts) → IsAtomOf bytes before relation ts own after → AllGood before after own
  atom_good before after relation ts own in_text columns (row, h, e) =
      let g = terms_grow bytes u before ts row after in_text h in
      let fact : Fact Term = record { relation = relation; terms = row } in
      let n : length row ≡ length ts = terms_length bytes before ts row after h in (
        g.0,
        λ atom k.
            let is : atom ≡ fact = sym (Contains-one fact atom (subst (λ (l : List (Fact Term)). Contains l atom) e k)) in
            subst (Good (length after)) (sym is) (columns ∙ ap (λ (i : ℕ). Some i) (sym n), g.1),
      )

  module _ (relations : All (λ word. HasRelations schema word.model word.base) words) where
    item_good : (item : ItemTree) (before after : List Name) (own : List (Fact Term)) → ItemIn item → IsItemOf words schema bytes before item own after
        → AllGood before after own
    item_good (Atom name ts) before after own in_text (relation, named, columns, h) = atom_good before after relation ts own in_text.1 columns h
    item_good (Part name part ts) before after own in_text (relation, named, columns, h) = atom_good before after relation ts own in_text.2 columns h
    item_good (Pattern name es) before after own in_text (base, named, columns, h) =
        pattern_good bytes u schema before base es own after (base_has words schema relations (text_of bytes name) Documents base named) in_text.1 h

    pub items_good : (before : List Name) (items : List ItemTree) (atoms : List (Fact Term)) (after : List Name) → AllByRecursion ItemIn items
        → AreItems words schema bytes before items atoms after → AllGood before after atoms
    items_good before [] atoms after in_text (e, f) = (
      omega (arith, ap length f),
      λ atom k. absurd
          (Contains-nil atom (subst (λ (l : List (Fact Term)). Contains l atom) e k)),
    )
    items_good before (item ∷ items) atoms after in_text (own, rest, between, e, h, more) =
        let first = item_good item before between own in_text.0 h in
        let later = items_good between items rest after in_text.1 more in (
          omega (arith, first.0, later.0),
          λ atom k. elim (Contains-append_cases own rest atom (subst (λ (l : List (Fact Term)). Contains l atom) e k)) [
            | inl l ↦ let g = first.1 atom l in (g.0, λ x m. below_more (length between) (length after) x later.0 (g.1 x m))
            | inr l ↦ later.1 atom l
          ],
        )

  pub items_some : (before : List Name) (items : List ItemTree) (atoms : List (Fact Term)) (after : List Name)
      → AreItems words schema bytes before items atoms after → items ≢ [] → atoms ≢ []
  items_some before [] atoms after h ne none = absurd (ne refl)
  items_some before (item ∷ items) atoms after (own, rest, between, e, h, more) ne none =
      let count = item_count words schema bytes before item own between h in
      omega (arith, size_positive item, count, ap length e, length-append own rest, ap length none)

  some_head : (before after : List Name) (ts : List Token) (xs : List Term) → AreTerms bytes before ts xs after → ts ≢ [] → xs ≢ []
  some_head before after [] xs h ne none = absurd (ne refl)
  some_head before after (t ∷ ts) xs h ne none = let n = terms_length bytes before (t ∷ ts) xs after h in omega (arith, n, ap length none)

  -- a query of what was read
  module _ (tree : QueryTree) (head : List Term) (body : List (Fact Term)) (names : List Name) (parts : HasParts tree) (stands : StandsAt bytes tree)
      (h : IsRead words schema bytes tree head body names) (relations : All (λ word. HasRelations schema word.model word.base) words) where
    head_grows : AllGrow [] h.between head
    head_grows = terms_grow bytes u [] tree.variables head h.between (names_are_terms bytes tree.variables stands.1) h.head_terms

    body_good : AllGood h.between names body
    body_good = items_good relations h.between tree.items body names stands.2 h.body_atoms

    pub sound : AreMentioned body head → IsSound head body names
    sound safe = record {
      query = record {
        has_head = some_head [] h.between tree.variables head h.head_terms parts.0;
        has_body = items_some h.between tree.items body names h.body_atoms parts.1;
        flat_head = λ x k. (head_grows.1 x k).0;
        flat_body = λ x (atom, k, l). ((body_good.1 atom k).1 x l).0;
        safe = λ x k. inr (safe x k);
      };
      named = λ v (atom, k, l). ((body_good.1 atom k).1 (Plain v) l).1 v refl;
    }

    pub over : IsQueryOver schema (record { head = head; body = body })
    over = record {
      over = λ atom k. (body_good.1 atom k).0;
      body_texts = λ s (atom, k, l). ((body_good.1 atom k).1 (Const s) l).2 s refl;
      head_texts = λ s k. (head_grows.1 (Const s) k).2 s refl;
    }

-- what was read from lists that are the tree's is what the tree means
pub is_read : (words : List Word) (schema bytes : List ℕ) (tree : QuerySyntax) (head : List Term) (body : List (Fact Term)) (names : List Name)
    → (given : List Word) (start between : List Name) (variables : List Token) (items : List ItemSyntax)
    → given ≡ words → start ≡ [] → variables ≡ tree.variables → items ≡ tree.items
    → AreTerms bytes start variables head between → AreItems given schema bytes between (map item_of items) body names
    → AreFitting given schema bytes 0 (map item_of items) → IsRead words schema bytes (tree_of tree) head body names
is_read words schema bytes tree head body names given start between variables items w s v i terms atoms fits = record {
  between = between;
  head_terms = subst (λ (l : List Name). AreTerms bytes l tree.variables head between) s
      (subst (λ (l : List Token). AreTerms bytes start l head between) v terms);
  body_atoms = subst (λ (l : List Word). AreItems l schema bytes between (map item_of tree.items) body names) w
      (subst (λ (l : List ItemSyntax). AreItems given schema bytes between (map item_of l) body names) i atoms);
  fits = subst (λ (l : List Word). AreFitting l schema bytes 0 (map item_of tree.items)) w
      (subst (λ (l : List ItemSyntax). AreFitting given schema bytes 0 (map item_of l)) i fits);
}

-- ---- variables of a head

-- the term is the variable of that name
abbrev pub IsNumbered : List Name → List ℕ → Term → Type 0
IsNumbered names name x = (n : ℕ) × (x ≡ Plain n) × (slice_get names n ≡ Some (Given name))

pub variable_numbered : (name : List ℕ) (before after : List Name) (x : Term) → IsVariableOf name before x after → Keeps before after × IsNumbered after name x
variable_numbered name before after x (inl (n, here, e, p)) =
    (λ k v f. subst (λ (l : List Name). slice_get l k ≡ Some v) (sym p) f, (n, e, subst (λ (l : List Name). slice_get l n ≡ Some (Given name)) (sym p) here))
variable_numbered name before after x (inr (new, e, p)) = (
  λ k v f. subst (λ (l : List Name). slice_get l k ≡ Some v) (sym p) (keeps_more before (Given name) k v f),
  (length before, e, subst (λ (l : List Name). slice_get l (length before) ≡ Some (Given name)) (sym p) (new_is_last before (Given name))),
)

module _ (bytes : List ℕ) where
  name_numbered : (t : Token) (k : TokenKind) → t.kind ≡ k → k ≡ kind.Name → (before after : List Name) (x : Term) → IsTermOf k (text_of bytes t) before x after
      → Keeps before after × IsNumbered after (text_of bytes t) x
  name_numbered t k q e before after x h = variable_numbered (text_of bytes t) before after x
      (subst (λ (k : TokenKind). IsTermOf k (text_of bytes t) before x after) e h)

  pub head_numbered : (before : List Name) (ts : List Token) (xs : List Term) (after : List Name) → AllByRecursion (IsNameIn bytes) ts
      → AreTerms bytes before ts xs after
      → Keeps before after × AllZip (λ t x. IsNumbered after (text_of bytes t) x) ts xs
  head_numbered before [] [] after all h = (λ k v f. subst (λ (l : List Name). slice_get l k ≡ Some v) (sym h) f, tt)
  head_numbered before [] (x ∷ xs) after all h = absurd h
  head_numbered before (t ∷ ts) [] after all h = absurd h
  head_numbered before (t ∷ ts) (x ∷ xs) after all (between, h, more) =
      let first = name_numbered t t.kind refl all.0.1 before between x h in
      let rest = head_numbered between ts xs after all.1 more in
      (λ k v f. rest.0 k v (first.0 k v f), ((first.1.0, first.1.1, rest.0 first.1.0 (Given (text_of bytes t)) first.1.2), rest.1))

module _ (bytes : List ℕ) (variables : List Token) (head : List Term) (names : List Name) (all : AllByRecursion (IsNameIn bytes) variables)
    (h : AreTerms bytes [] variables head names) where
  numbered : AllZip (λ t x. IsNumbered names (text_of bytes t) x) variables head
  numbered = (head_numbered bytes [] variables head names all h).1

  each_variable : (x : Term) → Contains head x → IsVariable x
  each_variable x k =
      let (token, inside, is) = zip_right (λ t x. IsNumbered names (text_of bytes t) x) variables head numbered x k in (is.0, is.1)

  all_different : AreDifferent bytes variables → AllPairs ◌≢◌ head
  all_different different i j d lt le same =
      let t : Token = record { kind = kind.Name; start = 0; end = 0 } in
      let n : length head ≡ length variables = terms_length bytes [] variables head names h in
      let a = zip_read (λ t x. IsNumbered names (text_of bytes t) x) variables head i t d numbered (omega arith) in
      let b = zip_read (λ t x. IsNumbered names (text_of bytes t) x) variables head j t d numbered le in
      let number : a.0 ≡ b.0 = plain_one a.0 b.0 (sym a.1 ∙ same ∙ b.1) in
      let given : Some (Given (text_of bytes (get_or variables i t))) ≡ Some (Given (text_of bytes (get_or variables j t))) = sym a.2
      ∙ ap (slice_get names) number ∙ b.2 in
      let text : text_of bytes (get_or variables i t) ≡ text_of bytes (get_or variables j t) = cc in
      let at : slice_get variables i ≡ Some (get_or variables i t) = slice_get-get_or variables i t (omega arith) in
      let earlier : Contains (take j variables) (get_or variables i t) = (
        i,
        omega (arith, length-take-le j variables (omega arith)),
        get_or-take j variables i (get_or variables i t) lt ∙ get_or_from_slice_get variables i (get_or variables i t) (get_or variables i t) at,
      ) in
      different j (get_or variables j t) (slice_get-get_or variables j t (omega arith), (get_or variables i t, earlier, text))

  pub head_is : (form : Form) → IsAllowed form bytes variables → HasVariables form head
  head_is Query allowed = each_variable
  head_is View allowed = (each_variable, all_different allowed)

-- ---- errors

pub body_error : (form : Form) (words : List Word) (schema bytes : List ℕ) (tree : QueryTree) (e : ReadError) → IsBodyError words schema bytes tree.items e
    → IsTreeError form words schema bytes tree e
body_error form words schema bytes tree OutOfMemory h = tt
body_error form words schema bytes tree (Fault f) h = inl h

pub grammar_error : (form : Form) (words : List Word) (schema bytes : List ℕ) (e : ReadError) → IsErrorOf IsGrammarFault bytes e
    → IsReadError form words schema bytes e
grammar_error form words schema bytes OutOfMemory h = h
grammar_error form words schema bytes (Fault f) h = inl h

pub read_error : (form : Form) (words : List Word) (schema bytes : List ℕ) (tree : QueryTree) (e : ReadError) → IsQueryText bytes tree
    → IsTreeError form words schema bytes tree e → IsReadError form words schema bytes e
read_error form words schema bytes tree OutOfMemory text h = text.1.0
read_error form words schema bytes tree (Fault f) text h = inr (tree, text, h)
