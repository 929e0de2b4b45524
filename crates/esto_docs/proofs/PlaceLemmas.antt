-- Entries that have no place in a node.
use Rattle.std.proofs.Common.{◌≡◌, ◌↔◌, ◌∙◌, ◌++◌, ℕ, Bool, false, List, [], ◌∷◌, inl, inr, sym, ap, subst}
use Rattle.std.specs.Prelude.{Contains}
use Rattle.std.proofs.lemmas.List.Elements.{Contains-push_cases}
use Rattle.serde_json.specs.Data.{Data}
use Rattle.esto_term.specs.declared.term.Term.{Term}
use Rattle.esto_docmodel.specs.Forests.{name, place, Node, HasKid}
use Rattle.esto_docmodel.specs.Layouts.{first_path}
use Rattle.esto_docmodel.specs.Patterns.{Entries, done, holds, group, Matches}
use Rattle.esto_docmodel.specs.Shapes.{entries_of}
use Rattle.esto_docmodel.specs.declared.pattern.Entry.{Entry}
use Rattle.esto_docmodel.specs.declared.pattern.Step.{Step}
use Rattle.esto_docmodel.specs.declared.pattern.Step.TheVariants.{Name, Item}
use Rattle.esto_docs.specs.Filling.{holds_text, value_node, with_path, RulesOut}
use Rattle.esto_docs.proofs.FillingLemmas.{entries_first, IsSome, matched_before, matched_step}
use Rattle.esto_docs.proofs.HoldingLemmas.{textless}

-- ---- the first entry

module _ (test : Bool) (node : Node) (e : Entry) (es rest : List Entry) (split : es ≡ e ∷ rest) where
  parts : (m : Term → Term) → Matches m (entries_of es) node
      → Matches m (with_path (first_path (entries_of (e ∷ []))) (entries_of (e ∷ []))) node × Matches m (entries_of rest) node
  parts m h =
      (matched_before m node (entries_of (e ∷ [])) (entries_of rest)).1
      (subst (λ (x : Entries). Matches m x node) (ap entries_of split ∙ entries_first e rest) h)

  pub ruled_first : (path : List Step) → path ≡ first_path (entries_of (e ∷ [])) → RulesOut test (with_path path (entries_of (e ∷ []))) node → test ≡ false
      → RulesOut false (entries_of es) node
  ruled_first path first rules lacks _ m h =
      rules lacks m (subst (λ (p : List Step). Matches m (with_path p (entries_of (e ∷ []))) node) (sym first) (parts m h).0)

  pub ruled_rest : RulesOut test (entries_of rest) node → RulesOut test (entries_of es) node
  ruled_rest rules lacks m h = rules lacks m (parts m h).1

-- ---- a step of its path

module _ (node : Node) (whole path : List Step) (x : Entries) (some : IsSome x) where
  pub ruled_member : (test : Bool) (k : List ℕ) (found : Node) → whole ≡ Name k ∷ path → ((u : Node) → HasKid node.inside (name k) u ↔ (found ≡ u))
      → RulesOut test (with_path path x) found → RulesOut test (with_path whole x) node
  ruled_member test k found split is rules lacks m h =
      let at = (matched_step m node (Name k) path x some).0 (subst (λ (p : List Step). Matches m (with_path p x) node) split h) in
      rules lacks m (subst (λ (n : Node). Matches m (with_path path x) n) (sym ((is at.0).0 at.1)) at.2)

  pub ruled_memberless : (k : List ℕ) → whole ≡ Name k ∷ path → ((u : Node) → HasKid node.inside (name k) u → ⊥) → RulesOut false (with_path whole x) node
  ruled_memberless k split none _ m h =
      let at = (matched_step m node (Name k) path x some).0 (subst (λ (p : List Step). Matches m (with_path p x) node) split h) in none at.0 at.1

  pub ruled_items : (test : Bool) (nodes : List Node) → whole ≡ Item ∷ path → ((u : Node) → HasKid node.inside place u ↔ Contains nodes u)
      → ((u : Node) → Contains nodes u → RulesOut test (with_path path x) u) → RulesOut test (with_path whole x) node
  ruled_items test nodes split are rules lacks m h =
      let at = (matched_step m node Item path x some).0 (subst (λ (p : List Step). Matches m (with_path p x) node) split h) in
      rules at.0 ((are at.0).0 at.1) lacks m at.2

-- A turn of the loop over the items.
pub ruled_more : (x : Entries) (nodes more : List Node) (node : Node) (test : Bool) → more ≡ nodes ++ node ∷ []
    → ((u : Node) → Contains nodes u → RulesOut false x u) → RulesOut test x node → test ≡ false → (u : Node) → Contains more u → RulesOut false x u
ruled_more x nodes more node test is before rules lacks u there = elim (Contains-push_cases nodes node u (subst (λ (ns : List Node). Contains ns u) is there)) [
  | inl earlier ↦ before u earlier
  | inr last ↦ λ _ m h. rules lacks m (subst (λ (n : Node). Matches m x n) (sym last) h)
]

-- ---- the end of its path

pub ruled_value : (d : Data) (x : Entries) (term : Term) → x ≡ holds [] term done → RulesOut (holds_text d) x (value_node d)
ruled_value d x term is lacks m h =
    let at = (subst (λ (y : Entries). Matches m y (value_node d)) is h).0 in
    textless d at.2.0 lacks (ap (λ (n : Node). n.content) at.1 ∙ at.2.1)

pub ruled_group : (test : Bool) (node : Node) (x inner : Entries) → x ≡ group [] inner done → RulesOut test inner node → RulesOut test x node
ruled_group test node x inner is rules lacks m h =
    let at = (subst (λ (y : Entries). Matches m y node) is h).0 in rules lacks m (subst (λ (n : Node). Matches m inner n) (sym at.1) at.2)
