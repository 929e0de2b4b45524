-- Steps and paths, as the readers take them.
use Rattle.std.proofs.Common.{◌≡◌, ◌≢◌, ◌≤◌, ℕ, arith, List, [], ◌∷◌, ◌++◌, length, drop, inl, inr, refl, sym, ap, ◌∙◌, append_assoc}
use Rattle.std.proofs.Common.{◌<◌, Bor, Result}
use Rattle.std.specs.Result.{IfOk, IfErr}
use Rattle.std.proofs.lemmas.List.{append-nil}
use Rattle.std.proofs.lemmas.Result.{IfOk-weaker, IfErr-weaker}
use Rattle.esto_text.specs.declared.stop.Stop.{Stop}
use Rattle.esto_text.specs.declared.stop.Stop.TheVariants.{Syntax}
use Rattle.esto_text.specs.declared.token.Token.{Token}
use Rattle.esto_text.specs.declared.token.TokenKind.{TokenKind}
use Rattle.esto_text.specs.declared.token.TokenKind.TheVariants.{LeftBracket, RightBracket, Dot}
use Rattle.esto_text.specs.declared.tree.StepSyntax.{StepSyntax}
use Rattle.esto_text.specs.declared.tree.StepSyntax.TheVariants.{Item}
use Rattle.esto_text.specs.Grammar.{class_of, IsNext, IsBrackets, IsFirst, IsLater, IsPath}
use Rattle.esto_text.specs.Machine.{ANext, AnEntry, PathRest, class_at, first_fault, Fails, Takes}
use Rattle.esto_text.proofs.Runs.{seen, path_runs}
use Rattle.esto_text.proofs.Languages.{path_more}
use Rattle.esto_text.proofs.RowLemmas.{fails_along, fails_here, NoStep, not_next, not_entry}

-- the next token, where its class is known
pub next_is : (ts : List Token) (k : TokenKind) → class_at ts ≡ k → (class_at [] ≡ k → ⊥) → (t : Token) × (ts ≡ t ∷ drop 1 ts) × (class_of t ≡ k)
next_is [] k e n = absurd (n e)
next_is (t ∷ ts) k e n = (t, refl, e)

-- there is a next token, where its class is known
pub some_next : (ts : List Token) (k : TokenKind) → class_at ts ≡ k → (class_at [] ≡ k → ⊥) → 1 ≤ length ts
some_next [] k e n = absurd (n e)
some_next (t ∷ ts) k e n = omega arith

-- no step stands there
abbrev pub NoneStands : List Token → Stop → Type 0
NoneStands rest e = (e ≡ Syntax (length rest)) × NoStep (class_at rest)

-- ---- a step

pub brackets_taken : (tokens left : List Token) (r : Token) → class_at tokens ≡ LeftBracket → (drop 1 tokens ≡ r ∷ left) × (class_of r ≡ RightBracket)
    → Takes (IsBrackets Item) tokens left
brackets_taken tokens left r p (e, q) =
    let t = next_is tokens LeftBracket p (λ z. cc) in
    (t.0 ∷ r ∷ [], t.1 ∙ ap (λ (l : List Token). t.0 ∷ l) e, (refl, t.0, r, refl, t.2, q))

pub first_brackets : (tokens left : List Token) → Takes (IsBrackets Item) tokens left → Takes (IsFirst Item) tokens left
first_brackets tokens left (front, e, h) = (front, e, inr h)

pub later_brackets : (tokens left : List Token) → Takes (IsBrackets Item) tokens left → Takes (IsLater Item) tokens left
later_brackets tokens left (front, e, h) = (front, e, inr h)

pub first_next : (tokens left : List Token) (s : StepSyntax) → (t : Token) × (tokens ≡ t ∷ left) × IsNext s t → Takes (IsFirst s) tokens left
first_next tokens left s (t, e, h) = (t ∷ [], e, inl (t, refl, h))

pub later_next : (tokens left : List Token) (s : StepSyntax) → class_at tokens ≡ Dot → (t : Token) × (drop 1 tokens ≡ t ∷ left) × IsNext s t
    → Takes (IsLater s) tokens left
later_next tokens left s p (t, e, h) =
    let d = next_is tokens Dot p (λ z. cc) in
    (d.0 ∷ t ∷ [], d.1 ∙ ap (λ (l : List Token). d.0 ∷ l) e, inl (d.0, t, refl, d.2, h))

pub first_fails : (tokens : List Token) (e : Stop) → NoneStands tokens e → class_at tokens ≢ LeftBracket → (n : ℕ) → Fails (AnEntry n ∷ []) tokens e
first_fails tokens e (q, h) g n s = fails_here (AnEntry n) s tokens e refl (not_entry n (class_at tokens) h g) q

-- a first step that is the next token
module _ (tokens : List Token) (result : Result (StepSyntax × Bor (List Token)) Stop) where
  abbrev Stands : StepSyntax × Bor (List Token) → Type 0
  Stands x = (t : Token) × (tokens ≡ t ∷ x.1.now) × IsNext x.0 t

  pub first_stands : IfOk result Stands → IfOk result (λ x. Takes (IsFirst x.0) tokens x.1.now)
  first_stands ok = IfOk-weaker result Stands (λ x. Takes (IsFirst x.0) tokens x.1.now) (λ x stands. first_next tokens x.1.now x.0 stands) ok

  pub first_shorter : IfOk result Stands → IfOk result (λ x. length x.1.now < length tokens)
  first_shorter ok = IfOk-weaker result Stands (λ x. length x.1.now < length tokens) (λ x stands. omega (arith, ap length stands.1)) ok

  pub first_stops : class_at tokens ≢ LeftBracket → IfErr result (NoneStands tokens) → IfErr result (λ e. (n : ℕ) → Fails (AnEntry n ∷ []) tokens e)
  first_stops apart err = IfErr-weaker result (NoneStands tokens) (λ e. (n : ℕ) → Fails (AnEntry n ∷ []) tokens e)
      (λ e none. first_fails tokens e none apart) err

pub dot_fails : (tokens : List Token) (e : Stop) → class_at tokens ≡ Dot → NoneStands (drop 1 tokens) e → (n : ℕ) → Fails (PathRest n ∷ []) tokens e
dot_fails tokens e p (q, h) n s =
    let d = next_is tokens Dot p (λ z. cc) in
    fails_along (PathRest n ∷ s) (ANext ∷ PathRest n ∷ s) tokens (drop 1 tokens) e (ap (first_fault (PathRest n ∷ s)) d.1
    ∙ seen (PathRest n ∷ s) d.0 (drop 1 tokens) Dot d.2)
    (fails_here ANext (PathRest n ∷ s) (drop 1 tokens) e refl (not_next (class_at (drop 1 tokens)) h) q)

-- ---- a path

pub path_begins : (tokens rest : List Token) (s : StepSyntax) → Takes (IsFirst s) tokens rest → Takes (IsPath (s ∷ [])) tokens rest
path_begins tokens rest s (front, e, h) = (front, e, (front, [], sym (append-nil front), h, refl))

pub path_goes : (tokens rest left : List Token) (path : List StepSyntax) (s : StepSyntax) → Takes (IsPath path) tokens rest → Takes (IsLater s) rest left
    → Takes (IsPath (path ++ s ∷ [])) tokens left
path_goes tokens rest left path s (front, e, h) (more, f, g) =
    (front ++ more, e ∙ ap (λ (l : List Token). front ++ l) f ∙ sym (append_assoc front more left), path_more path front s more h g)

pub path_fails : (tokens rest : List Token) (path : List StepSyntax) (e : Stop) → Takes (IsPath path) tokens rest → ((n : ℕ) → Fails (PathRest n ∷ []) rest e)
    → (n : ℕ) → Fails (AnEntry n ∷ []) tokens e
path_fails tokens rest path e (front, p, h) f n s =
    fails_along (AnEntry n ∷ s) (PathRest n ∷ s) tokens rest e (ap (first_fault (AnEntry n ∷ s)) p ∙ path_runs n path front s rest h) (f n s)
