-- Layouts: the first name that is no column's, and that a text has one pattern or one fault.
use Rattle.std.proofs.Common.{◌≡◌, ℕ, ◌+◌, ◌<◌, ◌≤◌, inl, inr, Bool, true, false, not, List, [], ◌∷◌, ◌++◌, length, drop, get_or, Some, None, refl, sym, ap}
use Rattle.std.proofs.Common.{subst, ◌∙◌, append_assoc, arith}
use Rattle.std.specs.Prelude.{◌↔◌, IsTrue, Option, MatchOption, is_some, slice_get, Contains}
use Rattle.std.proofs.lemmas.Bool.{cases_lt, false≢true}
use Rattle.std.proofs.lemmas.List.Elements.{Contains-append_cases}
use Rattle.std.proofs.lemmas.Option.{slice_get_within, get_or_from_slice_get}
use Rattle.esto_term.proofs.ListLemmas.{Contains-at, Contains-head, Contains-nil, Contains-one, Contains-rest}
use Rattle.esto_docmodel.specs.Shapes.{entries_of as pattern_of}
use Rattle.esto_docmodel.specs.declared.pattern.Pattern.{Pattern}
use Rattle.esto_query.specs.declared.query.Name.{Name}
use Rattle.esto_query.specs.declared.query.Name.TheVariants.{Given}
use Rattle.esto_text.specs.Faults as text
use Rattle.esto_text.specs.Tokens.{text_of}
use Rattle.esto_text.specs.Trees.{EntryTrees}
use Rattle.esto_text.specs.View.{entry_of, entries_of}
use Rattle.esto_text.specs.declared.fault.TextFault.{TextFault}
use Rattle.esto_text.specs.declared.fault.TextKind.TheVariants.{Unknown}
use Rattle.esto_text.specs.declared.token.Token.{Token}
use Rattle.esto_text.specs.declared.token.TokenKind.TheVariants as kind
use Rattle.esto_text.specs.declared.tree.EntrySyntax.{EntrySyntax}
use Rattle.esto_read.specs.Layouts.{AreColumns, entry_terms, terms_of, IsStranger, AreKnown, IsFirstStranger, IsLayoutReading, IsLayoutFault}
use Rattle.esto_read.specs.Patterns.{AreEntries}
use Rattle.esto_read.proofs.OneLemmas.{Apart, entries_one}
use Rattle.esto_read.proofs.PatternLemmas.{rest_at, rest_done}

-- ---- the first name that is no column's

module _ (bytes : List ℕ) (columns : List Name) where
  known_both : (front more : List Token) → AreKnown bytes columns front → AreKnown bytes columns more → AreKnown bytes columns (front ++ more)
  known_both front more h g token k = elim (Contains-append_cases front more token k) [ inl l ↦ h token l | inr l ↦ g token l ]

  pub one_known : (token : Token) → ¬ IsStranger bytes columns token → AreKnown bytes columns (token ∷ [])
  one_known token h other k = subst (λ (t : Token). ¬ IsStranger bytes columns t) (Contains-one token other k) h

  -- a name is a stranger exactly where no column is found for it
  pub stranger_told : (token : Token) → token.kind ≡ kind.Name → (found : Option ℕ)
      → MatchOption found (¬ Contains columns (Given (text_of bytes token))) (λ number. slice_get columns number ≡ Some (Given (text_of bytes token)))
      → (none : Bool) → is_some found ≡ not none → IsTrue none ↔ IsStranger bytes columns token
  stranger_told token name None unknown true told = (λ _. (name, unknown), λ _. refl)
  stranger_told token name None unknown false told = absurd (false≢true told)
  stranger_told token name (Some number) known true told = absurd (false≢true (sym told))
  stranger_told token name (Some number) known false told =
      (λ none. absurd (false≢true none), λ stranger. absurd (stranger.1 (Contains-at columns number _ known)))

  pub one_stranger : (token : Token) → IsStranger bytes columns token
      → IsFirstStranger bytes columns (token ∷ []) (record { offset = token.start; kind = Unknown })
  one_stranger token h = ([], [], token, refl, λ other k. absurd (Contains-nil other k), h, refl)

  module _ (es : List EntrySyntax) where
    -- the names of the entries so far are columns'
    pub record StrangersSoFar (n : ℕ) : Type 0 where
      pub known : AreKnown bytes columns (terms_of (entries_of (drop n es))) → AreKnown bytes columns (terms_of (entries_of es))
      pub fault : (f : TextFault) → IsFirstStranger bytes columns (terms_of (entries_of (drop n es))) f
          → IsFirstStranger bytes columns (terms_of (entries_of es)) f

    pub strangers_begin : StrangersSoFar 0
    strangers_begin = record { known = λ h. h; fault = λ f h. h }

    module _ (n : ℕ) (so_far : StrangersSoFar n) (x : EntrySyntax) (lt : n < length es) (e : x ≡ get_or es n x) where
      here : terms_of (entries_of (drop n es)) ≡ entry_terms (entry_of x) ++ terms_of (entries_of (drop (n + 1) es))
      here = ap terms_of (rest_at es n x lt e)

      pub strangers_more : AreKnown bytes columns (entry_terms (entry_of x)) → StrangersSoFar (n + 1)
      strangers_more h = record {
        known = λ g. so_far.known (subst (AreKnown bytes columns) (sym here)
            (known_both (entry_terms (entry_of x)) (terms_of (entries_of (drop (n + 1) es))) h g));
        fault = λ f (front, rest, token, is, known, stranger, at). so_far.fault f (
          entry_terms (entry_of x) ++ front,
          rest,
          token,
          here ∙ ap (λ (l : List Token). entry_terms (entry_of x) ++ l) is ∙ sym (append_assoc (entry_terms (entry_of x)) front (token ∷ rest)),
          known_both (entry_terms (entry_of x)) front h known,
          stranger,
          at,
        );
      }

      pub stranger_found : (f : TextFault) → IsFirstStranger bytes columns (entry_terms (entry_of x)) f
          → IsFirstStranger bytes columns (terms_of (entries_of es)) f
      stranger_found f (front, rest, token, is, known, stranger, at) =
          let others = terms_of (entries_of (drop (n + 1) es)) in
          so_far.fault f (
            front,
            rest ++ others,
            token,
            here ∙ ap (λ (l : List Token). l ++ others) is ∙ append_assoc front (token ∷ rest) others,
            known,
            stranger,
            at,
          )

    pub none_strange : (n : ℕ) → StrangersSoFar n → length es ≤ n → AreKnown bytes columns (terms_of (entries_of es))
    none_strange n so_far le =
        so_far.known (subst (λ (l : EntryTrees). AreKnown bytes columns (terms_of l)) (sym (rest_done es n le)) (λ token k. absurd (Contains-nil token k)))

  -- ---- one fault

  first_one : (front rest front' rest' : List Token) (t t' : Token) → front ++ t ∷ rest ≡ front' ++ t' ∷ rest' → AreKnown bytes columns front
      → AreKnown bytes columns front' → IsStranger bytes columns t → IsStranger bytes columns t' → t ≡ t'
  first_one [] rest [] rest' t t' e h g s s' = cc e
  first_one [] rest (x ∷ front') rest' t t' e h g s s' =
      let same : t ≡ x = cc e in absurd (g x (Contains-head x front') (subst (IsStranger bytes columns) same s))
  first_one (x ∷ front) rest [] rest' t t' e h g s s' =
      let same : x ≡ t' = cc e in absurd (h x (Contains-head x front) (subst (IsStranger bytes columns) (sym same) s'))
  first_one (x ∷ front) rest (y ∷ front') rest' t t' e h g s s' =
      let more : front ++ t ∷ rest ≡ front' ++ t' ∷ rest' = cc e in
      first_one front rest front' rest' t t' more (λ z k. h z (Contains-rest x front z k)) (λ z k. g z (Contains-rest y front' z k)) s s'

  known_or_strange : (tokens : List Token) (f : TextFault) → AreKnown bytes columns tokens → ¬ IsFirstStranger bytes columns tokens f
  known_or_strange tokens f h (front, rest, token, is, known, stranger, at) =
      h token (subst (λ (l : List Token). Contains l token) (sym is) (inside front)) stranger
    where
      inside : (front : List Token) → Contains (front ++ token ∷ rest) token
      inside [] = Contains-head token rest
      inside (x ∷ front) = Contains-rest x (front ++ token ∷ rest) token (inside front)

  strange_one : (tokens : List Token) (f g : TextFault) → IsFirstStranger bytes columns tokens f → IsFirstStranger bytes columns tokens g → f ≡ g
  strange_one tokens f g (front, rest, t, is, known, s, at) (front', rest', t', is', known', s', at') =
      let same = first_one front rest front' rest' t t' (sym is ∙ is') known known' s s' in
      at ∙ ap (λ (x : Token). record { offset = x.start; kind = Unknown }) same ∙ sym at'

-- ---- texts

columns_apart : (columns : List Name) → AreColumns columns → Apart columns
columns_apart columns h i j name e f =
    let before : get_or columns i (Given name) ≡ Given name = get_or_from_slice_get columns i (Given name) (Given name) e in
    let behind : get_or columns j (Given name) ≡ Given name = get_or_from_slice_get columns j (Given name) (Given name) f in
    elim (cases_lt i j) [
      | inl lt ↦ absurd (h.distinct i j (Given name) lt (slice_get_within columns j (Given name) f) (before ∙ sym behind))
      | inr le ↦ elim (cases_lt j i) [
        | inl lt ↦ absurd (h.distinct j i (Given name) lt (slice_get_within columns i (Given name) e) (behind ∙ sym before))
        | inr ge ↦ omega arith
      ]
    ]

module _ (trees : text.HaveOneTree text.IsLayoutText) where
  pub one_layout : (columns : List Name) (bytes : List ℕ) (pattern other : Pattern) → AreColumns columns → IsLayoutReading columns bytes pattern
      → IsLayoutReading columns bytes other → pattern_of pattern.entries ≡ pattern_of other.entries
  one_layout columns bytes pattern other h (es, after, is, known, are) (es', after', is', known', are') =
      let same : es' ≡ es = trees bytes es' is' es is in
      (entries_one bytes columns es (pattern_of pattern.entries) (pattern_of other.entries) after after' (columns_apart columns h) are
      (subst (λ (l : EntryTrees). AreEntries bytes columns l (pattern_of other.entries) after') same are')).0

  module _ (clean : text.HaveNoFault text.IsLayoutText text.IsLayoutGrammarFault) where
    pub no_layout_fault : (columns : List Name) (bytes : List ℕ) (pattern : Pattern) (fault : TextFault) → IsLayoutReading columns bytes pattern
        → ¬ IsLayoutFault columns bytes fault
    no_layout_fault columns bytes pattern fault (es, after, is, known, are) (inl g) = clean bytes es fault is g
    no_layout_fault columns bytes pattern fault (es, after, is, known, are) (inr (es', is', g)) =
        let same : es' ≡ es = trees bytes es' is' es is in
        known_or_strange bytes columns (terms_of es) fault known (subst (λ (l : EntryTrees). IsFirstStranger bytes columns (terms_of l) fault) same g)

    pub one_layout_fault : (grammar : text.HaveOneFault text.IsLayoutGrammarFault) (columns : List Name) (bytes : List ℕ) (fault other : TextFault)
        → IsLayoutFault columns bytes fault → IsLayoutFault columns bytes other → fault ≡ other
    one_layout_fault grammar columns bytes fault other (inl h) (inl g) = grammar bytes fault other h g
    one_layout_fault grammar columns bytes fault other (inl h) (inr (es, is, g)) = absurd (clean bytes es fault is h)
    one_layout_fault grammar columns bytes fault other (inr (es, is, h)) (inl g) = absurd (clean bytes es other is g)
    one_layout_fault grammar columns bytes fault other (inr (es, is, h)) (inr (es', is', g)) =
        let same : es' ≡ es = trees bytes es' is' es is in
        strange_one bytes columns (terms_of es) fault other h (subst (λ (l : EntryTrees). IsFirstStranger bytes columns (terms_of l) other) same g)
