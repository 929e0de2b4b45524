-- A pattern's own meaning is that of its encoding.
use Rattle.std.proofs.Common.{◌≡◌, ℕ, suc, ◌+◌, List, [], ◌∷◌, length, refl, ap, subst}
use Rattle.std.proofs.lemmas.List.Elements.{Contains-append_left, Contains-append_right}
use Rattle.esto_term.proofs.ListLemmas.{Contains-head, Contains-rest}
use Rattle.esto_term.specs.declared.term.Term.{Term}
use Rattle.esto_term.specs.declared.term.Term.TheVariants.{Const, Plain}
use Rattle.esto_docmodel.proofs.Worlds.{Sends, IsEncoded}
use Rattle.esto_docmodel.specs.DocumentFacts.{DocFact, field, value, carried}
use Rattle.esto_docmodel.specs.Encodings.{linked, end, step_atoms, used, atoms}
use Rattle.esto_docmodel.specs.Forests.{Node}
use Rattle.esto_docmodel.specs.Patterns.{Entries, done, holds, group, Leads, Matches}
use Rattle.esto_semantics.specs.Maps.{Keeps}
use Rattle.esto_docmodel.specs.declared.pattern.Step.{Step}
use Rattle.esto_docmodel.specs.declared.pattern.Step.TheVariants.{Name, Item, Below}

pub carried_linked : (m : Term → Term) → Keeps Const m → (s : Step) (x y : Term) → carried m (linked Const s x y) ≡ linked Const s (m x) (m y)
carried_linked m keeps (Name k) x y = ap (λ (w : Term). field (m x) w (m y)) (keeps k)
carried_linked m keeps Item x y = refl
carried_linked m keeps Below x y = refl

module _ (Is : ℕ → Node → Type 0) (IsDocument : Node → Type 0) (P : DocFact Term → Type 0) (world : IsEncoded Is IsDocument P) where
  -- ---- from the encoding
  from_path : (m : Term → Term) → Keeps Const m → (path : List Step) (v next n : ℕ) (t : Node) → m (Plain v) ≡ Plain n → Is n t
      → Sends m (step_atoms path v next) P
      → (k : ℕ) × (u : Node) × (m (Plain (end path v next)) ≡ Plain k) × Is k u × Leads path t u
  from_path m keeps [] v next n t at is sends = (n, t, at, is, refl)
  from_path m keeps (s ∷ path) v next n t at is sends =
      let first : P (linked Const s (m (Plain v)) (m (Plain next))) = subst P (carried_linked m keeps s (Plain v) (Plain next)) (sends _ (Contains-head _ _)) in
      let here : P (linked Const s (Plain n) (m (Plain next))) = subst (λ (w : Term). P (linked Const s w (m (Plain next)))) at first in
      let r = world.from_step s n t (m (Plain next)) is here in
      let q = from_path m keeps path next (suc next) r.0 r.1 r.2 r.3 (λ a c. sends a (Contains-rest _ _ a c)) in
      (q.0, q.1, q.2, q.3, (r.1, r.4, q.4))

  pub from_atoms : (m : Term → Term) → Keeps Const m → (entries : Entries) (v next n : ℕ) (t : Node) → m (Plain v) ≡ Plain n → Is n t
      → Sends m (atoms entries v next) P → Matches m entries t
  from_atoms m keeps done v next n t at is sends = tt
  from_atoms m keeps (holds path x rest) v next n t at is sends =
      let q = from_path m keeps path v next n t at is (λ a c. sends a (Contains-append_left _ _ a c)) in
      let fact : P (value (m (Plain (end path v next))) (m x)) = sends _ (Contains-append_right (step_atoms path v next) _ _ (Contains-head _ _)) in
      let here : P (value (Plain q.0) (m x)) = subst (λ (w : Term). P (value w (m x))) q.2 fact in
      let r = world.from_value q.0 q.1 (m x) q.3 here in
      let more = from_atoms m keeps rest v (next + length path) n t at is
      (λ a c. sends a (Contains-append_right (step_atoms path v next) _ a (Contains-rest _ _ a c))) in
      ((q.1, q.4, (r.0, r.2, r.1)), more)
  from_atoms m keeps (group path inner rest) v next n t at is sends =
      let q = from_path m keeps path v next n t at is (λ a c. sends a (Contains-append_left _ _ a c)) in
      let deeper = from_atoms m keeps inner (end path v next) (next + length path) q.0 q.1 q.2 q.3
      (λ a c. sends a (Contains-append_right (step_atoms path v next) _ a (Contains-append_left _ _ a c))) in
      let more = from_atoms m keeps rest v ((next + length path) + used inner) n t at is
      (λ a c. sends a (Contains-append_right (step_atoms path v next) _ a
      (Contains-append_right (atoms inner (end path v next) (next + length path)) _ a c))) in
      ((q.1, q.4, deeper), more)
