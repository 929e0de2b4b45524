-- The names of a view's columns.
use Rattle.std.proofs.Common.{◌≡◌, ◌≢◌, ℕ, zero, suc, ◌<◌, List, [], ◌∷◌, ◌++◌, map, length, take, get_or, Some, refl, sym, subst, ◌∙◌, arith, inl, inr}
use Rattle.std.specs.Prelude.{Contains, AllPairs, slice_get, replicate}
use Rattle.std.specs.List.{AllByRecursion, AllZip}
use Rattle.std.proofs.lemmas.List.{length-map, get_or-map, length-take-le}
use Rattle.std.proofs.lemmas.Option.{slice_get-get_or}
use Rattle.esto_term.proofs.ListLemmas.{at_left, Contains-cases, Contains-map_from, Contains-nil}
use Rattle.esto_docmodel.specs.Encodings.{used}
use Rattle.esto_docmodel.specs.Patterns.{Entries, done, holds, group}
use Rattle.esto_query.specs.declared.query.Name.{Name}
use Rattle.esto_query.specs.declared.query.Name.TheVariants.{Given, Hidden}
use Rattle.esto_semantics.specs.declared.fact.Fact.{Fact}
use Rattle.esto_term.specs.declared.term.Term.{Term}
use Rattle.esto_text.specs.Faults.{IsNameIn}
use Rattle.esto_text.specs.Lexemes.{IsNameText}
use Rattle.esto_text.specs.Tokens.{text_of, IsToken}
use Rattle.esto_text.specs.Trees.{EntryTrees, Value, Nested, NoEntry, AndEntry, ItemTree, Atom, Part, Pattern}
use Rattle.esto_text.specs.declared.token.Token.{Token}
use Rattle.esto_text.specs.declared.token.TokenKind.{TokenKind}
use Rattle.esto_text.specs.declared.token.TokenKind.TheVariants as kind
use Rattle.esto_text.proofs.LeafLemmas.{tree_stands}
use Rattle.esto_read.specs.Heads.{AreDifferent}
use Rattle.esto_read.specs.Items.{IsItemOf, AreItems}
use Rattle.esto_read.specs.Naming.{IsCalled, ViewsNameTheirColumns}
use Rattle.esto_read.specs.Patterns.{AreEntries, IsPatternOf}
use Rattle.esto_read.specs.Terms.{IsTermOf, AreTerms}
use Rattle.esto_docmodel.specs.declared.words.Word.{Word}
use Rattle.esto_read.proofs.BelowLemmas.{Keeps, keeps_more}
use Rattle.esto_read.proofs.ReadLemmas.{IsNumbered, variable_numbered, head_numbered}

-- ---- a name that was given stays

same_kept : (before after : List Name) → after ≡ before → Keeps before after
same_kept before after same n name at = subst (λ names. slice_get names n ≡ Some name) (sym same) at

term_kept : (which : TokenKind) (text : List ℕ) (before after : List Name) (term : Term) → IsTermOf which text before term after → Keeps before after
term_kept kind.Name text before after term is = (variable_numbered text before after term is).0
term_kept kind.Wildcard text before after term is = subst (Keeps before) (sym is.1) (keeps_more before Hidden)
term_kept kind.Quoted text before after term is = same_kept before after is.3
term_kept kind.Number text before after term is = same_kept before after is.1
term_kept _ text before after term is = absurd is

terms_kept : (bytes : List ℕ) (before : List Name) (tokens : List Token) (terms : List Term) (after : List Name) → AreTerms bytes before tokens terms after
    → Keeps before after
terms_kept bytes before [] [] after are = same_kept before after are
terms_kept bytes before [] (term ∷ terms) after are = absurd are
terms_kept bytes before (token ∷ tokens) [] after are = absurd are
terms_kept bytes before (token ∷ tokens) (term ∷ terms) after (between, is, are) = λ n name at.
    terms_kept bytes between tokens terms after are n name (term_kept token.kind (text_of bytes token) before between term is n name at)

-- what stands behind names changes none of them
append_kept : (before more : List Name) → Keeps before (before ++ more)
append_kept before more n name at = at_left before more n name at

module _ (bytes : List ℕ) where
  entries_kept : (before : List Name) (es : EntryTrees) (pattern : Entries) (after : List Name) → AreEntries bytes before es pattern after → Keeps before after
  entries_kept before NoEntry done after are = same_kept before after are
  entries_kept before (AndEntry (Value path token) others) (holds steps term rest) after (between, along, is, are) = λ n name at.
      entries_kept between others rest after are n name (term_kept token.kind (text_of bytes token) before between term is n name at)
  entries_kept before (AndEntry (Nested path entries) others) (group steps inner rest) after (between, along, is, are) = λ n name at.
      entries_kept between others rest after are n name (entries_kept before entries inner between is n name at)
  entries_kept before _ _ after are = absurd are

  pattern_kept : (before : List Name) (base : ℕ) (es : EntryTrees) (own : List (Fact Term)) (after : List Name) → IsPatternOf bytes before base es own after
      → Keeps before after
  pattern_kept before base es own after (pattern, between, are, atoms, names) = λ n name at.
      subst (λ names. slice_get names n ≡ Some name) (sym names)
      (append_kept between (replicate (used pattern) Hidden) n name
      (entries_kept (before ++ Hidden ∷ []) es pattern between are n name (append_kept before (Hidden ∷ []) n name at)))

module _ (words : List Word) (schema bytes : List ℕ) where
  item_kept : (item : ItemTree) (before : List Name) (atoms : List (Fact Term)) (after : List Name) → IsItemOf words schema bytes before item atoms after
      → Keeps before after
  item_kept (Atom name tokens) before atoms after (relation, named, columns, (row, are, is)) = terms_kept bytes before tokens row after are
  item_kept (Part name part tokens) before atoms after (relation, named, columns, (row, are, is)) = terms_kept bytes before tokens row after are
  item_kept (Pattern name entries) before atoms after (base, named, columns, is) = pattern_kept bytes before base entries atoms after is

  items_kept : (before : List Name) (items : List ItemTree) (atoms : List (Fact Term)) (after : List Name)
      → AreItems words schema bytes before items atoms after → Keeps before after
  items_kept before [] atoms after are = same_kept before after are.1
  items_kept before (item ∷ items) atoms after (first, rest, between, joined, is, are) = λ n name at.
      items_kept between items rest after are n name (item_kept item before first between is n name at)

-- ---- the names of a head

module _ (bytes : List ℕ) where
  called : (between names : List Name) → Keeps between names → (tokens : List Token) (head : List Term)
      → AllZip (λ token term. IsNumbered between (text_of bytes token) term) tokens head
      → AllZip (IsCalled names) head (map (text_of bytes) tokens)
  called between names kept [] [] zipped = tt
  called between names kept [] (term ∷ head) zipped = absurd zipped
  called between names kept (token ∷ tokens) [] zipped = absurd zipped
  called between names kept (token ∷ tokens) (term ∷ head) ((number, is, at), rest) =
      ((number, is, kept number (Given (text_of bytes token)) at), called between names kept tokens head rest)

  name_text : (token : Token) → IsNameIn bytes token → IsNameText (text_of bytes token)
  name_text token (stands, is_name) = name_of token.kind is_name _ _ stands.is_token
    where
      name_of : (which : TokenKind) → which ≡ kind.Name → (text after : List ℕ) → IsToken which text after → IsNameText text
      name_of which is text after stands = (subst (λ it. IsToken it text after) is stands).stands

  each_name : (tokens : List Token) → AllByRecursion (IsNameIn bytes) tokens → (token : Token) → Contains tokens token → IsNameIn bytes token
  each_name [] all token inside = absurd (Contains-nil token inside)
  each_name (first ∷ tokens) all token inside = elim (Contains-cases first tokens token inside) [
    | inl same ↦ subst (IsNameIn bytes) same all.0
    | inr later ↦ each_name tokens all.1 token later
  ]

  names_distinct : (tokens : List Token) → AreDifferent bytes tokens → AllPairs ◌≢◌ (map (text_of bytes) tokens)
  names_distinct tokens different i j d less within same =
      let short : j < length tokens = rw (length-map tokens (text_of bytes)) at within in
      let none : Token = record { kind = kind.Name; start = 0; end = 0 } in
      let early : i < length tokens = omega arith in
      let texts : text_of bytes (get_or tokens i none) ≡ text_of bytes (get_or tokens j none) =
      sym (get_or-map (text_of bytes) tokens i none d early) ∙ same ∙ get_or-map (text_of bytes) tokens j none d short in
      let count : length (take j tokens) ≡ j = length-take-le j tokens (omega arith) in
      different j (get_or tokens j none) (slice_get-get_or tokens j none short, (get_or tokens i none, before tokens i j none less short, texts))
    where
      before : (tokens : List Token) (i j : ℕ) (none : Token) → i < j → j < length tokens → Contains (take j tokens) (get_or tokens i none)
      before [] i j none less short = absurd (omega arith)
      before (first ∷ tokens) zero zero none less short = absurd (omega arith)
      before (first ∷ tokens) zero (suc j) none less short = (0, omega arith, refl)
      before (first ∷ tokens) (suc i) zero none less short = absurd (omega arith)
      before (first ∷ tokens) (suc i) (suc j) none less short =
          let later = before tokens i j none (omega arith) (omega arith) in
          (suc later.0, omega (arith, later.1), later.2)

pub views_named : ViewsNameTheirColumns
views_named words schema bytes view (tree, meaning) =
    let stands = tree_stands bytes meaning.text.0 tree meaning.text.1.1 meaning.text.2 in
    let kept = items_kept words schema bytes meaning.said.read.between tree.items view.query.body view.query.names meaning.said.read.body_atoms in
    let numbered = head_numbered bytes [] tree.variables view.query.head meaning.said.read.between stands.1 meaning.said.read.head_terms in (
      map (text_of bytes) tree.variables,
      record {
        called = called bytes meaning.said.read.between view.query.names kept tree.variables view.query.head numbered.1;
        distinct = names_distinct bytes tree.variables meaning.said.fit.0;
        written = λ text inside.
            let found = Contains-map_from (text_of bytes) tree.variables text inside in
            subst IsNameText found.2 (name_text bytes found.0 (each_name bytes tree.variables stands.1 found.0 found.1));
      },
    )
