-- Constraints: the items of a body with its arrow, and a head.
use Rattle.std.proofs.Common.{◌≡◌, ℕ, Bool, true, false, inl, inr, Some, None, List, [], ◌∷◌, ◌++◌, length, drop, refl, sym, ap, subst, ◌∙◌, append_assoc}
use Rattle.std.specs.List.{AllByRecursion}
use Rattle.std.specs.Prelude.{◌↔◌, map, IsTrue}
use Rattle.std.proofs.lemmas.Bool.{true≢false}
use Rattle.std.proofs.lemmas.List.{append-nil}
use Rattle.esto_text.specs.declared.stop.Stop.{Stop}
use Rattle.esto_text.specs.declared.stop.Stop.TheVariants.{Syntax, OutOfMemory}
use Rattle.esto_text.specs.declared.token.Token.{Token}
use Rattle.esto_text.specs.declared.token.TokenKind.TheVariants.{Name, Comma, Arrow, Equals}
use Rattle.esto_text.specs.declared.tree.ItemSyntax.{ItemSyntax}
use Rattle.esto_text.specs.Trees.{ItemTree, HeadTree, Equality, Never, ConstraintTree}
use Rattle.esto_text.specs.Grammar.{class_of, IsTerm, IsItem, IsRuleBody, IsHead, IsConstraint, NoFalse}
use Rattle.esto_text.specs.Machine.{Symbol, ATerm, AnItem, MoreBody, AHead, HeadRest, constraint_start, class_at, first_fault, FailsAt, ConstraintFails, Fails}
use Rattle.esto_text.specs.Machine.{Takes}
use Rattle.esto_text.specs.View.{item_of}
use Rattle.esto_text.proofs.Runs.{seen, term_seen, item_runs, rule_body_runs, head_runs, head_through, plain_or_denial}
use Rattle.esto_text.proofs.Unique.{rule_body_one}
use Rattle.esto_text.proofs.RowLemmas.{fails_along, fails_here, not_more_body, Grows, next, Goes, Ends, Ended, NoEnd, row_more, left_fails}
use Rattle.esto_text.proofs.ItemLemmas.{Named, body_cons}
use Rattle.esto_text.proofs.PathLemmas.{next_is}

-- ---- the items of a body

abbrev pub AreRuleItems : List ItemSyntax → List Token → Type 0
AreRuleItems is ts = IsRuleBody (map item_of is) ts

abbrev pub body_part : List Symbol
body_part = AnItem ∷ MoreBody ∷ []

rule_body_cons : (i : ItemTree) (is : List ItemTree) (a : List Token) (c : Token) (ts : List Token) → IsItem i a → class_of c ≡ Comma → IsRuleBody is ts
    → IsRuleBody (i ∷ is) (a ++ c ∷ ts)
rule_body_cons i is a c ts p q (front, arrow, e, h, k) =
    (a ++ c ∷ front, arrow, ap (λ (l : List Token). a ++ c ∷ l) e ∙ sym (append_assoc a (c ∷ front) (arrow ∷ [])), body_cons i is a c front p q h, k)

item_grows : (x : ItemSyntax) (a : List Token) (c : Token) (more : Bool) → IsItem (item_of x) a → Ends Arrow more c
    → Grows AreRuleItems (x ∷ []) (a ++ c ∷ []) more
item_grows x a c true p q = λ xs ts h. subst (IsRuleBody (item_of x ∷ map item_of xs)) (sym (append_assoc a (c ∷ []) ts))
    (rule_body_cons (item_of x) (map item_of xs) a c ts p q h)
item_grows x a c false p q = (a, c, refl, (a, [], sym (append-nil a), p, refl), q)

ended_runs : (s : List Symbol) (c : Token) (left : List Token) (more : Bool) → Ends Arrow more c → first_fault (MoreBody ∷ s) (c ∷ left)
    ≡ first_fault (next more (AnItem ∷ MoreBody ∷ s) s) left
ended_runs s c left true q = seen (MoreBody ∷ s) c left Comma q
ended_runs s c left false q = seen (MoreBody ∷ s) c left Arrow q

pub item_fails : (rest : List Token) (e : Stop) → Fails (AnItem ∷ []) rest e → Fails body_part rest e
item_fails rest e h s = h (MoreBody ∷ s)

pub item_end_fails : (rest after' : List Token) (x : ItemSyntax) (e : Stop) → Takes (IsItem (item_of x)) rest after' → NoEnd Arrow after' e
    → Fails body_part rest e
item_end_fails rest after' x e (a, r, p) (q, m, o) s =
    fails_along (AnItem ∷ MoreBody ∷ s) (MoreBody ∷ s) rest after' e (ap (first_fault (AnItem ∷ MoreBody ∷ s)) r
    ∙ item_runs (item_of x) a (MoreBody ∷ s) after' p)
    (fails_here MoreBody s after' e refl (not_more_body (class_at after') m o) q)

pub item_more : (tokens : List Token) (so_far : List ItemSyntax) (rest : List Token) (more : Bool) → more ≡ true
    → ((s : List Symbol) → Goes AreRuleItems (AnItem ∷ MoreBody ∷ s) s tokens so_far rest more)
    → (x : ItemSyntax) (after' left : List Token) (more' : Bool) → Takes (IsItem (item_of x)) rest after' → Ended Arrow more' after' left
    → (s : List Symbol) → Goes AreRuleItems (AnItem ∷ MoreBody ∷ s) s tokens (so_far ++ x ∷ []) left more'
item_more tokens so_far rest more on h x after' left more' (a, r, p) (t, e, q) =
    let whole : rest ≡ a ++ (t ∷ left) = r ∙ ap (λ (l : List Token). a ++ l) e in
    row_more AreRuleItems body_part tokens so_far rest more on h x (a ++ t ∷ []) left more' (whole ∙ sym (append_assoc a (t ∷ []) left))
    (item_grows x a t more' p q)
    (λ s. ap (first_fault (AnItem ∷ MoreBody ∷ s)) whole ∙ item_runs (item_of x) a (MoreBody ∷ s) (t ∷ left) p ∙ ended_runs s t left more' q)

-- ---- the head

module _ (tokens rest : List Token) (name : Token) (h : Named tokens name rest) where
  module _ (is : class_at rest ≡ Equals) where
    to_term : first_fault (AHead ∷ []) tokens ≡ first_fault (ATerm ∷ []) (drop 1 rest)
    to_term =
        let t = next_is rest Equals is (λ z. cc) in
        ap (first_fault (AHead ∷ [])) h.0 ∙ seen (AHead ∷ []) name rest Name h.1 ∙ ap (first_fault (HeadRest ∷ [])) t.1
        ∙ seen (HeadRest ∷ []) t.0 (drop 1 rest) Equals t.2

    module _ (right : Token) (left : List Token) (g : (drop 1 rest ≡ right ∷ left) × IsTerm right) where
      pub side_ends : length left ≡ 0 → IsHead NoFalse (Equality name right) tokens
      side_ends none =
          let t = next_is rest Equals is (λ z. cc) in
          (t.0, h.0 ∙ ap (λ (l : List Token). name ∷ l) (t.1 ∙ ap (λ (l : List Token). t.0 ∷ l) (only left g.0 none)), h.1, t.2, g.1)
        where
          only : (l : List Token) → drop 1 rest ≡ right ∷ l → length l ≡ 0 → drop 1 rest ≡ right ∷ []
          only [] e n = e
          only (t ∷ ts) e n = absurd cc

      pub side_end_fails : ¬ (length left ≡ 0) → FailsAt (AHead ∷ []) tokens (Syntax (length left))
      side_end_fails ne =
          fails_along (AHead ∷ []) [] tokens left (Syntax (length left)) (to_term ∙ ap (first_fault (ATerm ∷ [])) g.0 ∙ term_seen [] right left g.1)
          (left_fails left ne)

-- ---- a denial

module _ {IsFalse : Token → Type 0} (tokens rest : List Token) (word : Token) (are : tokens ≡ word ∷ rest) where
  -- a lone name is a denial where it is the word
  pub is_lone : length rest ≡ 0 → class_at tokens ≡ Name → (told : Bool) → IsTrue told ↔ IsFalse word → IsTrue told ↔ IsHead IsFalse Never tokens
  is_lone none name told (to, from) = (λ yes. (word, are ∙ ap (λ (l : List Token). word ∷ l) (nil rest none), sym (ap class_at are) ∙ name, to yes), back)
    where
      nil : (l : List Token) → length l ≡ 0 → l ≡ []
      nil [] e = refl
      nil (t ∷ l) e = absurd cc

      back : IsHead IsFalse Never tokens → IsTrue told
      back (other, alone, named, is) = let same : other ≡ word = cc (sym alone ∙ are) in from (subst IsFalse same is)

  -- what is no lone name is no denial
  pub is_not_lone : (told : Bool) → told ≡ false → (length rest ≡ 0 → class_at tokens ≡ Name → ⊥) → IsTrue told ↔ IsHead IsFalse Never tokens
  is_not_lone told is_false not_lone = (
    λ yes. absurd (true≢false (sym yes ∙ is_false)),
    λ (other, alone, named, is).
        let both : word ∷ rest ≡ other ∷ [] = sym are ∙ alone in
        absurd (not_lone (ap (λ (l : List Token). length (drop 1 l)) both) (ap class_at alone ∙ named)),
  )

-- ---- the whole constraint

-- what stands behind a front stands
pub back_stands : (P : Token → Type 0) (a b : List Token) → AllByRecursion P (a ++ b) → AllByRecursion P b
back_stands P [] b h = h
back_stands P (t ∷ a) b h = back_stands P a b h.1

module _ (IsFalse : Token → Type 0) (tokens : List Token) where
  none_with_body : (left : ℕ) → Fails body_part tokens (Syntax left) → (tree : ConstraintTree) → ¬ IsConstraint IsFalse tree tokens
  none_with_body left fails tree (body, head, e, b, h) =
      let (s, through) = head_through IsFalse tree.head head h in
      let (rest, stops, long) = fails s in
      let none : first_fault (AnItem ∷ MoreBody ∷ s) tokens ≡ None =
      ap (first_fault (AnItem ∷ MoreBody ∷ s)) e ∙ rule_body_runs tree.body body s head b ∙ through in
      let same : None ≡ Some rest = sym none ∙ stops in absurd cc

  pub no_body : (e : Stop) → Fails body_part tokens e → ConstraintFails IsFalse tokens e
  no_body OutOfMemory fails = tt
  no_body (Syntax left) fails = (none_with_body left fails, fails (AHead ∷ []))

  module _ (rest : List Token) (body : List ItemTree) (h : Takes (IsRuleBody body) tokens rest) where
    none_with_head : (left : ℕ) → ¬ IsHead IsFalse Never rest → FailsAt (AHead ∷ []) rest (Syntax left) → (tree : ConstraintTree)
        → ¬ IsConstraint IsFalse tree tokens
    none_with_head left no_denial (stop, fails, long) tree (body', head', e', b', h') =
        let same : rest ≡ head' = (rule_body_one body h.0 tree.body body' rest head' (sym h.1 ∙ e') h.2 b').1 in
        elim (plain_or_denial IsFalse tree.head rest (subst (IsHead IsFalse tree.head) (sym same) h')) [
          | inl plain ↦
              let none : first_fault (AHead ∷ []) rest ≡ None = head_runs tree.head rest plain in
              let both : None ≡ Some stop = sym none ∙ fails in absurd cc
          | inr denial ↦ no_denial denial
        ]

    pub no_head : (e : Stop) → ¬ IsHead IsFalse Never rest → FailsAt (AHead ∷ []) rest e → ConstraintFails IsFalse tokens e
    no_head OutOfMemory no_denial f = tt
    no_head (Syntax left) no_denial f = (
      none_with_head left no_denial f,
      fails_along constraint_start (AHead ∷ []) tokens rest (Syntax left)
          (ap (first_fault constraint_start) h.1 ∙ rule_body_runs body h.0 (AHead ∷ []) rest h.2) f,
    )

    pub constraint_is : (head : HeadTree) → IsHead IsFalse head rest → IsConstraint IsFalse (record { body = body; head = head }) tokens
    constraint_is head g = (h.0, rest, h.1, h.2, g)
