-- A pattern's own match is a match of its encoding.
use Rattle.std.proofs.Common.{◌≡◌, ℕ, suc, ◌+◌, ◌<◌, ◌≤◌, ◌==◌, true, false, cond, ap, List, [], ◌∷◌, length, refl, sym, ◌∙◌, subst, inl, inr, arith}
use Rattle.std.proofs.lemmas.Bool.Decides.{nat_tests}
use Rattle.std.proofs.lemmas.List.Elements.{Contains-append_cases}
use Rattle.esto_term.proofs.ListLemmas.{Contains-cases, Contains-nil}
use Rattle.esto_docmodel.proofs.PatternLemmas.{carried_linked}
use Rattle.esto_term.specs.declared.term.Term.{Term, out-Term}
use Rattle.esto_term.specs.declared.term.Term.TheOpen.{Term-F}
use Rattle.esto_term.specs.declared.term.Term.TheVariants.{Const, Plain, Made, outs-Const, outs-Plain, outs-Made}
use Rattle.esto_semantics.proofs.TermLemmas.{term_cases, Const-apart-Plain, Plain-same}
use Rattle.esto_docmodel.specs.Meanings.{AgreeAfter}
use Rattle.esto_docmodel.proofs.Worlds.{Sends, IsEncoded, Agrees}
use Rattle.esto_docmodel.specs.DocumentFacts.{DocFact, value, carried}
use Rattle.esto_docmodel.specs.Encodings.{linked, end, step_atoms, used, atoms}
use Rattle.esto_docmodel.specs.Forests.{Node}
use Rattle.esto_docmodel.specs.Patterns.{Entries, done, holds, group, Leads, Matches, IsBelow, AreBelow}
use Rattle.esto_semantics.specs.Maps.{Keeps}
use Rattle.esto_docmodel.specs.declared.pattern.Step.{Step}

-- a map that is changed at one variable
abbrev set_kind : Term → ℕ → Term → Term-F Term → Term
set_kind old v x (Term-F.Const c) = old
set_kind old v x (Term-F.Plain w) = cond (w == v) x old
set_kind old v x (Term-F.Made r u f) = old

pub set : (Term → Term) → ℕ → Term → Term → Term
set m v x y = set_kind (m y) v x (out-Term y)

same_test : (n : ℕ) → (n == n) ≡ true
same_test n = grind (arith, nat_tests)

other_test : (n k : ℕ) → (n ≡ k → ⊥) → (n == k) ≡ false
other_test n k apart = grind (arith, nat_tests)

pub set_here : (m : Term → Term) (v : ℕ) (x : Term) → set m v x (Plain v) ≡ x
unfolding set
set_here m v x = ap (set_kind (m (Plain v)) v x) (outs-Plain v) ∙ ap (λ b. cond b x (m (Plain v))) (same_test v)

pub set_else : (m : Term → Term) (v : ℕ) (x : Term) (w : ℕ) → (w ≡ v → ⊥) → set m v x (Plain w) ≡ m (Plain w)
unfolding set
set_else m v x w n = ap (set_kind (m (Plain w)) v x) (outs-Plain w) ∙ ap (λ b. cond b x (m (Plain w))) (other_test w v n)

pub set_const : (m : Term → Term) (v : ℕ) (x : Term) (c : List ℕ) → set m v x (Const c) ≡ m (Const c)
unfolding set
set_const m v x c = ap (set_kind (m (Const c)) v x) (outs-Const c)

set_made : (m : Term → Term) (v : ℕ) (x : Term) (r u : ℕ) (f : List Term) → set m v x (Made r u f) ≡ m (Made r u f)
unfolding set
set_made m v x r u f = ap (set_kind (m (Made r u f)) v x) (outs-Made r u f)

-- a term other than the variable stays
pub set_other : (m : Term → Term) (v : ℕ) (x y : Term) → (y ≡ Plain v → ⊥) → set m v x y ≡ m y
set_other m v x = term_cases (λ y. (y ≡ Plain v → ⊥) → set m v x y ≡ m y)
    (λ c n. set_const m v x c)
    (λ w n. set_else m v x w (λ e. n (ap Plain e)))
    (λ r u f n. set_made m v x r u f)

pub below_const : (n : ℕ) (c : List ℕ) → IsBelow n (Const c)
below_const n c v e = absurd (Const-apart-Plain c v e)

pub below_plain : (n w : ℕ) → w < n → IsBelow n (Plain w)
below_plain n w l v e = let same : w ≡ v = Plain-same w v e in omega arith

pub set_agrees : (m : Term → Term) (v : ℕ) (x : Term) → Agrees v m (set m v x)
set_agrees m v x y b = sym (set_other m v x y (λ e. let h = b v e in omega arith))

pub below_more : (n k : ℕ) → n ≤ k → (x : Term) → IsBelow n x → IsBelow k x
below_more n k le x b v e = let h = b v e in omega arith

pub agrees_less : (n k : ℕ) (f g : Term → Term) → n ≤ k → Agrees k f g → Agrees n f g
agrees_less n k f g le a x b = a x (below_more n k le x b)

pub agrees_then : (n : ℕ) (f g h : Term → Term) → Agrees n f g → Agrees n g h → Agrees n f h
agrees_then n f g h a b x l = a x l ∙ b x l

pub keeps_on : (n : ℕ) (f g : Term → Term) → Agrees n f g → Keeps Const f → Keeps Const g
keeps_on n f g a keeps c = sym (a (Const c) (below_const n c)) ∙ keeps c

pub end_below : (path : List Step) (v next : ℕ) → v < next → end path v next < next + length path
end_below [] v next l = omega arith
end_below (s ∷ path) v next l = let h = end_below path next (suc next) (omega arith) in omega arith

-- entries that are matched under a map are matched under any that agrees with it on their terms
pub matches_on : (f g : Term → Term) (entries : Entries) (t : Node) → AgreeAfter entries f g → Matches f entries t → Matches g entries t
matches_on f g done t e h = tt
matches_on f g (holds path x rest) t e (found, others) =
    ((found.0, found.1, (found.2.0, found.2.1, sym (e x (inl refl)) ∙ found.2.2)), matches_on f g rest t (λ y i. e y (inr i)) others)
matches_on f g (group path inner rest) t e (found, others) =
    ((found.0, found.1, matches_on f g inner found.0 (λ y i. e y (inl i)) found.2), matches_on f g rest t (λ y i. e y (inr i)) others)

module _ (Is : ℕ → Node → Type 0) (IsDocument : Node → Type 0) (P : DocFact Term → Type 0) (world : IsEncoded Is IsDocument P) where
  to_path : (path : List Step) (m : Term → Term) (v next n : ℕ) (t u : Node) → Keeps Const m → v < next → m (Plain v) ≡ Plain n → Is n t → Leads path t u
      → (more : Term → Term) × (k : ℕ) × Agrees next m more × (more (Plain (end path v next)) ≡ Plain k) × Is k u
      × ((after : Term → Term) → Agrees (next + length path) more after → Sends after (step_atoms path v next) P)
  to_path [] m v next n t u keeps lt at is leads = (m, n, (λ x b. refl), at, subst (λ (w : Node). Is n w) leads is, λ after a f c. absurd (Contains-nil f c))
  to_path (s ∷ path) m v next n t u keeps lt at is (c, takes, rest) =
      let r = world.to_step s n t c is takes in
      let m1 : Term → Term = set m next (Plain r.0) in
      let one : Agrees next m m1 = set_agrees m next (Plain r.0) in
      let q = to_path path m1 next (suc next) r.0 c u (keeps_on next m m1 one keeps) (omega arith) (set_here m next (Plain r.0)) r.1 rest in
      let here : Agrees next m q.0 = agrees_then next m m1 q.0 one (agrees_less next (suc next) m1 q.0 (omega arith) q.2) in (
        q.0,
        q.1,
        here,
        q.3,
        q.4,
        λ after a f cf.
            let late : Agrees (suc next + length path) q.0 after = agrees_less (suc next + length path) (next + suc (length path)) q.0 after (omega arith) a in
            let kept : Keeps Const after = keeps_on next m after
            (agrees_then next m q.0 after here (agrees_less next (next + suc (length path)) q.0 after (omega arith) a)) keeps in
            elim (Contains-cases _ _ f cf) [
              | inl e ↦
                  let x : after (Plain v) ≡ Plain n = sym (here (Plain v) (below_plain _ v lt) ∙ a (Plain v) (below_plain _ v (omega arith))) ∙ at in
                  let y : after (Plain next) ≡ Plain r.0 =
                  sym (q.2 (Plain next) (below_plain _ next (omega arith)) ∙ a (Plain next) (below_plain _ next (omega arith)))
                  ∙ set_here m next (Plain r.0) in
                  let two : P (linked Const s (after (Plain v)) (after (Plain next))) =
                  subst (λ (w : Term). P (linked Const s w (after (Plain next)))) (sym x)
                  (subst (λ (w : Term). P (linked Const s (Plain n) w)) (sym y) r.2) in
                  subst (λ (w : DocFact Term). P (carried after w)) e (subst P (sym (carried_linked after kept s (Plain v) (Plain next))) two)
              | inr d ↦ q.5 after late f d
            ],
      )

  pub to_atoms : (entries : Entries) (m : Term → Term) (v next n : ℕ) (t : Node) → Keeps Const m → v < next → m (Plain v) ≡ Plain n → Is n t
      → AreBelow next entries → Matches m entries t
      → (more : Term → Term) × Agrees next m more × ((after : Term → Term) → Agrees (next + used entries) more after → Sends after (atoms entries v next) P)
  to_atoms done m v next n t keeps lt at is low matches = (m, (λ x b. refl), λ after a f c. absurd (Contains-nil f c))
  to_atoms (holds path x rest) m v next n t keeps lt at is low (found, others) =
      let q = to_path path m v next n t found.0 keeps lt at is found.1 in
      let r = to_atoms rest q.0 v (next + length path) n t (keeps_on next m q.0 q.2 keeps) (omega arith) (sym (q.2 (Plain v) (below_plain _ v lt)) ∙ at) is
      (λ y h. below_more next (next + length path) (omega arith) y (low y (inr h))) (matches_on m q.0 rest t (λ y h. q.2 y (low y (inr h))) others) in (
        r.0,
        agrees_then next m q.0 r.0 q.2 (agrees_less next (next + length path) q.0 r.0 (omega arith) r.1),
        λ after a f cf.
            let late : Agrees (next + length path) q.0 after =
            agrees_then (next + length path) q.0 r.0 after r.1
            (agrees_less (next + length path) (next + (length path + used rest)) r.0 after (omega arith) a) in
            elim (Contains-append_cases (step_atoms path v next) _ f cf) [
              | inl c ↦ q.5 after late f c
              | inr d ↦ elim (Contains-cases _ _ f d) [
                | inl e ↦
                    let p : after (Plain (end path v next)) ≡ Plain q.1 =
                    sym (late (Plain (end path v next)) (below_plain _ _ (end_below path v next lt))) ∙ q.3 in
                    let y : after x ≡ Const found.2.0 =
                    sym (q.2 x (low x (inl refl)) ∙ late x (below_more next (next + length path) (omega arith) x (low x (inl refl)))) ∙ found.2.2 in
                    let two : P (value (after (Plain (end path v next))) (after x)) =
                    subst (λ (w : Term). P (value w (after x))) (sym p)
                    (subst (λ (w : Term). P (value (Plain q.1) w)) (sym y) (world.to_value q.1 found.0 found.2.0 q.4 found.2.1)) in
                    subst (λ (w : DocFact Term). P (carried after w)) e two
                | inr c ↦ r.2 after (agrees_less ((next + length path) + used rest) (next + (length path + used rest)) r.0 after (omega arith) a) f c
              ]
            ],
      )
  to_atoms (group path inner rest) m v next n t keeps lt at is low (found, others) =
      let q = to_path path m v next n t found.0 keeps lt at is found.1 in
      let i = to_atoms inner q.0 (end path v next) (next + length path) q.1 found.0 (keeps_on next m q.0 q.2 keeps) (end_below path v next lt) q.3 q.4
      (λ y h. below_more next (next + length path) (omega arith) y (low y (inl h))) (matches_on m q.0 inner found.0 (λ y h. q.2 y (low y (inl h))) found.2) in
      let one : Agrees next m i.0 = agrees_then next m q.0 i.0 q.2 (agrees_less next (next + length path) q.0 i.0 (omega arith) i.1) in
      let r = to_atoms rest i.0 v ((next + length path) + used inner) n t (keeps_on next m i.0 one keeps) (omega arith)
      (sym (one (Plain v) (below_plain _ v lt)) ∙ at) is
      (λ y h. below_more next ((next + length path) + used inner) (omega arith) y (low y (inr h)))
      (matches_on m i.0 rest t (λ y h. one y (low y (inr h))) others) in (
        r.0,
        agrees_then next m i.0 r.0 one (agrees_less next ((next + length path) + used inner) i.0 r.0 (omega arith) r.1),
        λ after a f cf.
            let late : Agrees ((next + length path) + used inner) i.0 after =
            agrees_then ((next + length path) + used inner) i.0 r.0 after r.1
            (agrees_less ((next + length path) + used inner) (next + (length path + (used inner + used rest))) r.0 after (omega arith) a) in
            elim (Contains-append_cases (step_atoms path v next) _ f cf) [
              | inl c ↦ q.5 after (agrees_then (next + length path) q.0 i.0 after i.1
                  (agrees_less (next + length path) ((next + length path) + used inner) i.0 after (omega arith) late)) f c
              | inr d ↦ elim (Contains-append_cases (atoms inner (end path v next) (next + length path)) _ f d) [
                | inl c ↦ i.2 after late f c
                | inr c ↦ r.2 after (agrees_less (((next + length path) + used inner) + used rest) (next + (length path + (used inner + used rest))) r.0 after
                    (omega arith) a) f c
              ]
            ],
      )
