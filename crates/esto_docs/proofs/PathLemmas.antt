-- What a path writes is followed to the one node at its end.
use Rattle.std.proofs.Common.{◌≡◌, ◌⊎◌, ◌≤◌, ◌∙◌, ◌∷◌, [], ℕ, List, true, false, length, Some, inl, inr, refl, sym, ap, subst, arith}
use Rattle.std.specs.Prelude.{Contains}
use Rattle.esto_term.proofs.ListLemmas.{Contains-head, Contains-rest}
use Rattle.esto_term.specs.declared.term.Term.{Term}
use Rattle.esto_term.specs.declared.term.Term.TheVariants.{Const}
use Rattle.serde_json.specs.Data.{Data, string, array, object, no_items, item, Members, no_members, member}
use Rattle.esto_docmodel.specs.Forests.{name, place, Node, HasKid}
use Rattle.esto_docmodel.specs.Patterns.{Leads, HoldsTerm}
use Rattle.esto_docmodel.specs.Layouts.{Begins}
use Rattle.esto_docmodel.specs.declared.pattern.Step.{Step}
use Rattle.esto_docmodel.specs.declared.pattern.Step.TheVariants.{Name, Item, Below}
use Rattle.esto_docs.specs.Documents.{path_data, begins_with_field, first_name, later_steps}
use Rattle.esto_docs.proofs.FieldLemmas.{node_of, node_string, node_object, node_array, HasField, field_from, field_to}

-- No step of the path is `**`.
abbrev pub NoneBelow : List Step → Type 0
NoneBelow path = ¬ (Contains path Below)

none_later : (step : Step) (path : List Step) → NoneBelow (step ∷ path) → NoneBelow path
none_later step path h there = h (Contains-rest step path Below there)

pub object_kid : (ms : Members) (k : List ℕ) (u : Node) → HasField k ms u → HasKid (node_of (object ms)).inside (name k) u
object_kid ms k u h = subst (λ (n : Node). HasKid n.inside (name k) u) (sym (node_object ms)) (field_to k ms u h)

pub object_kid_from : (ms : Members) (k : List ℕ) (u : Node) → HasKid (node_of (object ms)).inside (name k) u → HasField k ms u
object_kid_from ms k u h = field_from k ms u (subst (λ (n : Node). HasKid n.inside (name k) u) (node_object ms) h)

pub array_kid : (d : Data) → HasKid (node_of (array (item d no_items))).inside place (node_of d)
array_kid d = subst (λ (n : Node). HasKid n.inside place (node_of d)) (sym (node_array (item d no_items))) (inl (refl, refl))

one_kid : (d : Data) (u : Node) → ((place ≡ place) × (node_of d ≡ u)) ⊎ ⊥ → u ≡ node_of d
one_kid d u (inl h) = sym h.1
one_kid d u (inr h) = absurd h

pub array_kid_from : (d : Data) (u : Node) → HasKid (node_of (array (item d no_items))).inside place u → u ≡ node_of d
array_kid_from d u h = one_kid d u (subst (λ (n : Node). HasKid n.inside place u) (node_array (item d no_items)) h)

one_field : (k : List ℕ) (d : Data) (u : Node) → HasField k (member k d no_members) u → u ≡ node_of d
one_field k d u (inl h) = sym h.1
one_field k d u (inr h) = absurd h

ends_one : (path : List Step) (d : Data) → NoneBelow path → Leads path (node_of (path_data path d)) (node_of d)
ends_one [] d h = refl
ends_one (Name k ∷ path) d h = (
  node_of (path_data path d),
  object_kid (member k (path_data path d) no_members) k (node_of (path_data path d)) (inl (refl, refl)),
  ends_one path d
      (none_later (Name k) path h),
)
ends_one (Item ∷ path) d h = (node_of (path_data path d), array_kid (path_data path d), ends_one path d (none_later Item path h))
ends_one (Below ∷ path) d h = absurd (h (Contains-head Below path))

ends_only : (path : List Step) (d : Data) (end : Node) → NoneBelow path → Leads path (node_of (path_data path d)) end → end ≡ node_of d
ends_only [] d end h leads = sym leads
ends_only (Name k ∷ path) d end h (u, kid, more) =
    let same : u ≡ node_of (path_data path d) = one_field k (path_data path d) u (object_kid_from (member k (path_data path d) no_members) k u kid) in
    ends_only path d end (none_later (Name k) path h) (subst (λ (n : Node). Leads path n end) same more)
ends_only (Item ∷ path) d end h (u, kid, more) =
    let same : u ≡ node_of (path_data path d) = array_kid_from (path_data path d) u kid in
    ends_only path d end (none_later Item path h) (subst (λ (n : Node). Leads path n end) same more)
ends_only (Below ∷ path) d end h leads = absurd (h (Contains-head Below path))

-- The first step of the path leads to that node alone.
abbrev pub LeadsTo : List Step → Node → Node → Type 0
LeadsTo [] t target = ⊥
LeadsTo (Name k ∷ path) t target = HasKid t.inside (name k) target × ((u : Node) → HasKid t.inside (name k) u → u ≡ target)
LeadsTo (Item ∷ path) t target = HasKid t.inside place target × ((u : Node) → HasKid t.inside place u → u ≡ target)
LeadsTo (Below ∷ path) t target = ⊥

pub led_one : (path : List Step) (t : Node) (d : Data) → NoneBelow path → LeadsTo path t (node_of (path_data (later_steps path) d)) → Leads path t (node_of d)
led_one [] t d h lead = absurd lead
led_one (Name k ∷ path) t d h lead = (node_of (path_data path d), lead.0, ends_one path d (none_later (Name k) path h))
led_one (Item ∷ path) t d h lead = (node_of (path_data path d), lead.0, ends_one path d (none_later Item path h))
led_one (Below ∷ path) t d h lead = absurd lead

pub led_only : (path : List Step) (t : Node) (d : Data) (end : Node) → NoneBelow path → LeadsTo path t (node_of (path_data (later_steps path) d))
    → Leads path t end
    → end ≡ node_of d
led_only [] t d end h lead leads = absurd lead
led_only (Name k ∷ path) t d end h lead (u, kid, more) =
    ends_only path d end (none_later (Name k) path h) (subst (λ (n : Node). Leads path n end) (lead.1 u kid) more)
led_only (Item ∷ path) t d end h lead (u, kid, more) =
    ends_only path d end (none_later Item path h) (subst (λ (n : Node). Leads path n end) (lead.1 u kid) more)
led_only (Below ∷ path) t d end h lead leads = absurd lead

-- A path that begins with a field, and one that begins with an item.
pub begins_name : (path : List Step) (k : List ℕ) → Begins (Name k) path → (first_name path ≡ k) × (begins_with_field path ≡ true)
begins_name [] k h = absurd h
begins_name (step ∷ path) k h = rw h (refl, refl)

pub begins_item : (path : List Step) → Begins Item path → begins_with_field path ≡ false
begins_item [] h = absurd h
begins_item (step ∷ path) h = rw h refl

pub has_steps : (step : Step) (path : List Step) → Begins step path → 1 ≤ length path
has_steps step [] h = absurd h
has_steps step (first ∷ path) h = omega arith

-- The node of a cell holds its text alone.
same_text : (a b : List ℕ) → Some a ≡ Some b → a ≡ b
same_text a b e = cc e

pub held : (s : List ℕ) (t : Term) → HoldsTerm (node_of (string s)) t → t ≡ Const s
held s t (text, content, is) = is ∙ ap Const (same_text text s (sym content ∙ ap (λ (n : Node). n.content) (node_string s)))

pub holds_string : (s : List ℕ) → HoldsTerm (node_of (string s)) (Const s)
holds_string s = (s, ap (λ (n : Node). n.content) (node_string s), refl)
