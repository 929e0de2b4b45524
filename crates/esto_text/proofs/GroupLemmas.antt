-- Entries: the row of a group, and one entry.
use Rattle.std.proofs.Common.{◌≡◌, ℕ, suc, ◌≢◌, ◌+◌, ◌<◌, ◌≤◌, Bool, true, false, List, [], ◌∷◌, ◌++◌, length, drop, refl, sym, ap, subst, ◌∙◌, append_assoc}
use Rattle.std.proofs.Common.{add-one}
use Rattle.esto_text.specs.declared.stop.Stop.{Stop}
use Rattle.esto_text.specs.declared.stop.Stop.TheVariants.{Syntax}
use Rattle.esto_text.specs.declared.token.Token.{Token}
use Rattle.esto_text.specs.declared.token.TokenKind.TheVariants.{LeftBrace, RightBrace, Comma, Colon}
use Rattle.esto_text.specs.declared.tree.EntrySyntax.{EntrySyntax}
use Rattle.esto_text.specs.declared.tree.EntrySyntax.TheOpen.{EntrySyntax-F}
use Rattle.esto_text.specs.declared.tree.EntrySyntax.TheVariants as variants
use Rattle.esto_text.specs.declared.tree.EntrySyntax.TheVariants.{rolls-Value, rolls-Group}
use Rattle.esto_text.specs.declared.tree.EntrySyntax.TheFolds.{fold-roll-EntrySyntax}
use Rattle.esto_text.specs.declared.tree.StepSyntax.{StepSyntax}
use Rattle.esto_text.specs.Trees.{EntryTree, Value, Nested, EntryTrees, NoEntry, AndEntry}
use Rattle.esto_text.specs.Grammar.{class_of, is_term, IsTerm, IsPath, IsEntry, IsGroup}
use Rattle.esto_text.specs.Machine.{Symbol, ATerm, AnEntry, PathRest, MoreEntries, class_at, first_fault, FailsAt, Fails, Takes, EndsPath}
use Rattle.esto_text.specs.View.{entry_step, entry_of, entries_of}
use Rattle.esto_text.proofs.Runs.{seen, brace_seen, path_runs, entry_runs}
use Rattle.esto_text.proofs.RowLemmas.{fails_along, fails_here, not_term, too_deep, not_path_rest, not_more_entries, Grows, next, Goes, Ends, Ended, NoEnd}
use Rattle.esto_text.proofs.RowLemmas.{row_more}

-- ---- the trees of the code

pub value_entry : (path : List StepSyntax) (term : Token) → entry_of (variants.Value path term) ≡ Value path term
value_entry path term = ap entry_of (sym (rolls-Value path term)) ∙ fold-roll-EntrySyntax EntryTree entry_step (EntrySyntax-F.Value path term)

pub group_entry : (path : List StepSyntax) (entries : List EntrySyntax) → entry_of (variants.Group path entries) ≡ Nested path (entries_of entries)
group_entry path entries = ap entry_of (sym (rolls-Group path entries)) ∙ fold-roll-EntrySyntax EntryTree entry_step (EntrySyntax-F.Group path entries)

-- ---- rows of entries

abbrev pub AreGroup : ℕ → List EntrySyntax → List Token → Type 0
AreGroup n es ts = IsGroup n (entries_of es) ts

entries_cons : (n : ℕ) (f : EntryTree) (fs : EntryTrees) (a : List Token) (c : Token) (ts : List Token) → IsEntry n f a → class_of c ≡ Comma → IsGroup n fs ts
    → IsGroup n (AndEntry f fs) (a ++ c ∷ ts)
entries_cons n f NoEntry a c ts p q h = absurd h
entries_cons n f (AndEntry g gs) a c ts p q (a', b', e, hg, hgs) = (a, c ∷ ts, refl, p, (c, a', b', ap (λ (l : List Token). c ∷ l) e, q, hg, hgs))

pub entries_grow : (n : ℕ) (e : EntrySyntax) (a : List Token) (c : Token) (more : Bool) → IsEntry n (entry_of e) a → Ends RightBrace more c
    → Grows (AreGroup n) (e ∷ []) (a ++ c ∷ []) more
entries_grow n e a c true p q = λ xs ts h. subst (IsGroup n (AndEntry (entry_of e) (entries_of xs))) (sym (append_assoc a (c ∷ []) ts))
    (entries_cons n (entry_of e) (entries_of xs) a c ts p q h)
entries_grow n e a c false p q = (a, c ∷ [], refl, p, (c, refl, q))

ended_runs : (n : ℕ) (s : List Symbol) (c : Token) (left : List Token) (more : Bool) → Ends RightBrace more c → first_fault (MoreEntries n ∷ s) (c ∷ left)
    ≡ first_fault (next more (AnEntry n ∷ MoreEntries n ∷ s) s) left
ended_runs n s c left true q = seen (MoreEntries n ∷ s) c left Comma q
ended_runs n s c left false q = seen (MoreEntries n ∷ s) c left RightBrace q

pub entry_fails : (n : ℕ) (rest : List Token) (e : Stop) → Fails (AnEntry n ∷ []) rest e → Fails (AnEntry n ∷ MoreEntries n ∷ []) rest e
entry_fails n rest e h s = h (MoreEntries n ∷ s)

pub entry_end_fails : (n : ℕ) (rest after' : List Token) (x : EntrySyntax) (e : Stop) → Takes (IsEntry n (entry_of x)) rest after' → NoEnd RightBrace after' e
    → Fails (AnEntry n ∷ MoreEntries n ∷ []) rest e
entry_end_fails n rest after' x e (a, r, p) (q, m, o) s =
    fails_along (AnEntry n ∷ MoreEntries n ∷ s) (MoreEntries n ∷ s) rest after' e (ap (first_fault (AnEntry n ∷ MoreEntries n ∷ s)) r
    ∙ entry_runs (entry_of x) n a (MoreEntries n ∷ s) after' p)
    (fails_here (MoreEntries n) s after' e refl (not_more_entries n (class_at after') m o) q)

pub entry_more : (n : ℕ) (tokens : List Token) (so_far : List EntrySyntax) (rest : List Token) (more : Bool) → more ≡ true
    → ((s : List Symbol) → Goes (AreGroup n) (AnEntry n ∷ MoreEntries n ∷ s) s tokens so_far rest more)
    → (x : EntrySyntax) (after' left : List Token) (more' : Bool) → Takes (IsEntry n (entry_of x)) rest after' → Ended RightBrace more' after' left
    → (s : List Symbol) → Goes (AreGroup n) (AnEntry n ∷ MoreEntries n ∷ s) s tokens (so_far ++ x ∷ []) left more'
entry_more n tokens so_far rest more on h x after' left more' (a, r, p) (t, e, q) =
    let parts : rest ≡ a ++ (t ∷ left) = r ∙ ap (λ (l : List Token). a ++ l) e in
    let whole : rest ≡ (a ++ t ∷ []) ++ left = parts ∙ sym (append_assoc a (t ∷ []) left) in
    row_more (AreGroup n) (AnEntry n ∷ MoreEntries n ∷ []) tokens so_far rest more on h x (a ++ t ∷ []) left more' whole (entries_grow n x a t more' p q)
    (λ s. ap (first_fault (AnEntry n ∷ MoreEntries n ∷ s)) parts ∙ entry_runs (entry_of x) n a (MoreEntries n ∷ s) (t ∷ left) p ∙ ended_runs n s t left more' q)

-- ---- one entry

module _ (n : ℕ) (tokens rest : List Token) (path : List StepSyntax) (h : Takes (IsPath path) tokens rest) where
  after_path : (s : List Symbol) → first_fault (AnEntry n ∷ s) tokens ≡ first_fault (PathRest n ∷ s) rest
  after_path s = ap (first_fault (AnEntry n ∷ s)) h.1 ∙ path_runs n path h.0 s rest h.2

  pub entry_term : (t : Token) (term : Token) (left : List Token) → rest ≡ t ∷ drop 1 rest → class_of t ≡ Colon → (drop 1 rest ≡ term ∷ left) × IsTerm term
      → Takes (IsEntry n (Value path term)) tokens left
  entry_term t term left e p (f, q) = (
    h.0 ++ t ∷ term ∷ [],
    h.1 ∙ ap (λ (l : List Token). h.0 ++ l) (e ∙ ap (λ (l : List Token). t ∷ l) f)
        ∙ sym (append_assoc h.0 (t ∷ term ∷ []) left),
    (h.0, t, refl, h.2, p, q),
  )

  pub entry_rest_fails : (e : Stop) → ((s : List Symbol) → FailsAt (PathRest n ∷ s) rest e) → Fails (AnEntry n ∷ []) tokens e
  entry_rest_fails e f s = fails_along (AnEntry n ∷ s) (PathRest n ∷ s) tokens rest e (after_path s) (f s)

  pub entry_term_fails : (t : Token) (e : Stop) → rest ≡ t ∷ drop 1 rest → class_of t ≡ Colon → (e ≡ Syntax (length (drop 1 rest)))
      × (is_term (class_at (drop 1 rest)) ≡ false) → Fails (AnEntry n ∷ []) tokens e
  entry_term_fails t e p q (f, g) =
      entry_rest_fails e (λ s. fails_along (PathRest n ∷ s) (ATerm ∷ s) rest (drop 1 rest) e (ap (first_fault (PathRest n ∷ s)) p
      ∙ seen (PathRest n ∷ s) t (drop 1 rest) Colon q)
      (fails_here ATerm s (drop 1 rest) e refl (not_term (class_at (drop 1 rest)) g) f))

  pub entry_end_stops : class_at rest ≢ Colon → class_at rest ≢ LeftBrace → EndsPath rest → Fails (AnEntry n ∷ []) tokens (Syntax (length rest))
  entry_end_stops c b (l, d) = entry_rest_fails (Syntax (length rest)) (λ s. fails_here (PathRest n) s rest (Syntax (length rest)) refl
      (not_path_rest n (class_at rest) c b l d) refl)

  pub entry_too_deep : class_at rest ≡ LeftBrace → 32 ≤ n → Fails (AnEntry n ∷ []) tokens (Syntax (length rest))
  entry_too_deep p le = entry_rest_fails (Syntax (length rest)) (λ s. fails_here (PathRest n) s rest (Syntax (length rest)) refl
      (too_deep n (class_at rest) p le) refl)

  pub entry_group_fails : (t : Token) (e : Stop) → rest ≡ t ∷ drop 1 rest → class_of t ≡ LeftBrace → n < 32
      → Fails (AnEntry (n + 1) ∷ MoreEntries (n + 1) ∷ []) (drop 1 rest) e → Fails (AnEntry n ∷ []) tokens e
  entry_group_fails t e p q lt f s =
      let f' : Fails (AnEntry (suc n) ∷ MoreEntries (suc n) ∷ []) (drop 1 rest) e = subst (λ (k : ℕ). Fails (AnEntry k ∷ MoreEntries k ∷ []) (drop 1 rest) e)
      (add-one n) f in
      fails_along (AnEntry n ∷ s) (AnEntry (suc n) ∷ MoreEntries (suc n) ∷ s) tokens (drop 1 rest) e
      (after_path s ∙ ap (first_fault (PathRest n ∷ s)) p ∙ brace_seen n s t (drop 1 rest) q lt) (f' s)

  pub entry_group : (t : Token) (fs : EntryTrees) (left : List Token) → rest ≡ t ∷ drop 1 rest → class_of t ≡ LeftBrace → n < 32
      → Takes (IsGroup (n + 1) fs) (drop 1 rest) left → Takes (IsEntry n (Nested path fs)) tokens left
  entry_group t fs left p q lt (front, e, g) = (
    h.0 ++ t ∷ front,
    h.1 ∙ ap (λ (l : List Token). h.0 ++ l) (p ∙ ap (λ (l : List Token). t ∷ l) e) ∙ sym (append_assoc h.0 (t ∷ front) left),
    nested fs front (subst (λ (k : ℕ). IsGroup k fs front) (add-one n) g),
  )
    where
      nested : (fs : EntryTrees) (front : List Token) → IsGroup (suc n) fs front → IsEntry n (Nested path fs) (h.0 ++ t ∷ front)
      nested NoEntry front g = absurd g
      nested (AndEntry f fs) front (a, b, e, hf, hfs) = (h.0, t, a, b, ap (λ (l : List Token). h.0 ++ t ∷ l) e, h.2, q, lt, hf, hfs)
