-- Terms and the numbers of variables.
use Rattle.std.proofs.Common.{IsUtf8, ◌≡◌, ℕ, ◌+◌, ◌<◌, ◌≤◌, inl, inr, List, [], ◌∷◌, ◌++◌, length, Some, refl, sym, ap, subst, ◌∙◌, arith}
use Rattle.std.specs.Prelude.{Contains, slice_get}
use Rattle.std.specs.List.{AllByRecursion}
use Rattle.std.proofs.lemmas.List.{length-append, get_or_append_left, get_or_at}
use Rattle.std.proofs.lemmas.Option.{slice_get_within, slice_get-get_or, get_or_from_slice_get}
use Rattle.esto_query.specs.declared.query.Name.{Name}
use Rattle.esto_query.specs.declared.query.Name.TheVariants.{Given, Hidden}
use Rattle.esto_semantics.specs.Maps.{IsFlat}
use Rattle.esto_term.proofs.ListLemmas.{Contains-cases, Contains-nil}
use Rattle.esto_term.specs.declared.term.Term.{Term, out-Term}
use Rattle.esto_term.specs.declared.term.Term.TheOpen.{Term-F}
use Rattle.esto_term.specs.declared.term.Term.TheVariants.{Const, Plain, outs-Const, outs-Plain}
use Rattle.esto_text.specs.Faults.{IsNameIn, IsTermIn}
use Rattle.esto_text.specs.Grammar.{is_term}
use Rattle.esto_text.specs.Tokens.{text_of, StandsIn}
use Rattle.esto_text.specs.declared.token.Token.{Token}
use Rattle.esto_text.specs.declared.token.TokenKind.{TokenKind}
use Rattle.esto_text.specs.declared.token.TokenKind.TheVariants as kind
use Rattle.esto_read.specs.Terms.{IsTermOf, AreTerms}
use Rattle.esto_read.proofs.Utf8Lemmas.{said_utf8, text_inside_utf8, number_token, quoted_token}

-- ---- tokens

pub names_are_terms : (bytes : List ℕ) (ts : List Token) → AllByRecursion (IsNameIn bytes) ts → AllByRecursion (IsTermIn bytes) ts
names_are_terms bytes [] h = tt
names_are_terms bytes (t ∷ ts) h = ((h.0.0, ap is_term h.0.1), names_are_terms bytes ts h.1)

pub terms_length : (bytes : List ℕ) (before : List Name) (ts : List Token) (xs : List Term) (after : List Name) → AreTerms bytes before ts xs after → length xs
    ≡ length ts
terms_length bytes before [] [] after h = refl
terms_length bytes before [] (x ∷ xs) after h = absurd h
terms_length bytes before (t ∷ ts) [] after h = absurd h
terms_length bytes before (t ∷ ts) (x ∷ xs) after (between, h, more) = let n = terms_length bytes between ts xs after more in omega arith

-- ---- variables

pub plain_one : (m n : ℕ) → Plain m ≡ Plain n → m ≡ n
plain_one m n e = let same : Term-F.Plain m ≡ Term-F.Plain n = sym (outs-Plain m) ∙ ap out-Term e ∙ outs-Plain n in cc

pub const_no_plain : (s : List ℕ) (n : ℕ) → ¬ (Const s ≡ Plain n)
const_no_plain s n e = let same : Term-F.Const s ≡ Term-F.Plain n = sym (outs-Const s) ∙ ap out-Term e ∙ outs-Plain n in cc

pub const_one : (s t : List ℕ) → Const s ≡ Const t → s ≡ t
const_one s t e = let same : Term-F.Const s ≡ Term-F.Const t = sym (outs-Const s) ∙ ap out-Term e ∙ outs-Const t in cc

-- the term is a constant that is UTF-8, or a variable that is among so many
abbrev pub Below : ℕ → Term → Type 0
Below count x = IsFlat x × ((v : ℕ) → x ≡ Plain v → v < count) × ((s : List ℕ) → x ≡ Const s → IsUtf8 s)

pub below_more : (m n : ℕ) (x : Term) → m ≤ n → Below m x → Below n x
below_more m n x le h = (h.0, λ v e. omega (arith, h.1 v e), h.2)

pub plain_below : (m n : ℕ) (x : Term) → x ≡ Plain m → m < n → Below n x
plain_below m n x e lt = (inr (m, e), λ v f. omega (arith, plain_one m v (sym e ∙ f)), λ s f. absurd (const_no_plain s m (sym f ∙ e)))

pub const_below : (s : List ℕ) (n : ℕ) (x : Term) → x ≡ Const s → IsUtf8 s → Below n x
const_below s n x e u = (inl (s, e), λ v f. absurd (const_no_plain s v (sym e ∙ f)), λ t f. subst IsUtf8 (const_one s t (sym e ∙ f)) u)

abbrev pub Grows : List Name → List Name → Term → Type 0
Grows before after x = (length before ≤ length after) × Below (length after) x

one_more : (before after : List Name) (name : Name) (x : Term) → x ≡ Plain (length before) → after ≡ before ++ name ∷ [] → Grows before after x
one_more before after name x e p =
    let n : length after ≡ length before + 1 = ap length p ∙ length-append before (name ∷ []) in
    (omega (arith, n), plain_below (length before) (length after) x e (omega (arith, n)))

as_before : (before after : List Name) (s : List ℕ) (x : Term) → x ≡ Const s → IsUtf8 s → after ≡ before → Grows before after x
as_before before after s x e u p = (omega (arith, ap length p), const_below s (length after) x e u)

pub term_grows : (bytes : List ℕ) → IsUtf8 bytes → (t : Token) → StandsIn bytes t → (k : TokenKind) → t.kind ≡ k → (before after : List Name) (x : Term)
    → IsTermOf k (text_of bytes t) before x after → Grows before after x
term_grows bytes u t h kind.Name q before after x (inl (number, here, e, p)) = (
  omega (arith, ap length p),
  plain_below number (length after) x e (omega
      (arith, ap length p, slice_get_within before number (Given (text_of bytes t)) here)),
)
term_grows bytes u t h kind.Name q before after x (inr (new, e, p)) = one_more before after (Given (text_of bytes t)) x e p
term_grows bytes u t h kind.Wildcard q before after x (e, p) = one_more before after Hidden x e p
term_grows bytes u t h kind.Quoted q before after x (content, w, e, p) =
    as_before before after content x e (said_utf8 content (text_inside_utf8 (text_of bytes t) content w (quoted_token bytes u t h q))) p
term_grows bytes u t h kind.Number q before after x (e, p) = as_before before after (text_of bytes t) x e (number_token bytes u t h q) p
term_grows bytes u t h _ q before after x g = absurd g

abbrev pub AllGrow : List Name → List Name → List Term → Type 0
AllGrow before after xs = (length before ≤ length after) × ((x : Term) → Contains xs x → Below (length after) x)

module _ (bytes : List ℕ) (u : IsUtf8 bytes) where
  pub terms_grow : (before : List Name) (ts : List Token) (xs : List Term) (after : List Name) → AllByRecursion (IsTermIn bytes) ts
      → AreTerms bytes before ts xs after → AllGrow before after xs
  terms_grow before [] [] after all h = (omega (arith, ap length h), λ x k. absurd (Contains-nil x k))
  terms_grow before [] (x ∷ xs) after all h = absurd h
  terms_grow before (t ∷ ts) [] after all h = absurd h
  terms_grow before (t ∷ ts) (x ∷ xs) after all (between, h, more) =
      let first = term_grows bytes u t all.0.0 t.kind refl before between x h in
      let rest = terms_grow between ts xs after all.1 more in (
        omega (arith, first.0, rest.0),
        λ y k. elim (Contains-cases x xs y k) [
          | inl e ↦ subst (Below (length after)) e (below_more (length between) (length after) x rest.0 first.1)
          | inr l ↦
              rest.1 y l
        ],
      )

-- ---- names that stay

-- what a name was before it is after
abbrev pub Keeps : List Name → List Name → Type 0
Keeps before after = (n : ℕ) (name : Name) → slice_get before n ≡ Some name → slice_get after n ≡ Some name

pub keeps_more : (before : List Name) (new : Name) → Keeps before (before ++ new ∷ [])
keeps_more before new n name e =
    let lt : n < length before = slice_get_within before n name e in
    slice_get-get_or (before ++ new ∷ []) n name (omega (arith, length-append before (new ∷ [])))
    ∙ ap (λ (x : Name). Some x) (get_or_append_left before (new ∷ []) name n lt ∙ get_or_from_slice_get before n name name e)

pub new_is_last : (before : List Name) (new : Name) → slice_get (before ++ new ∷ []) (length before) ≡ Some new
new_is_last before new =
    slice_get-get_or (before ++ new ∷ []) (length before) new (omega (arith, length-append before (new ∷ [])))
    ∙ ap (λ (x : Name). Some x) (get_or_at before new [] new (length before) refl)
