-- What stands in JSON values.
use Rattle.std.proofs.Common.{◌≡◌, ◌↔◌, ◌∙◌, ℕ, true, false, List, [], ◌∷◌, map, Option, Some, None, option_map, is_some, Bor, Ordering, Less, Equal, Greater}
use Rattle.std.proofs.Common.{nat_cmp, string_bytes, string_cmp, inl, inr, refl, sym, ap, subst, arith}
use Rattle.std.specs.Prelude.{Contains, MatchOption}
use Rattle.std.specs.Cmp.Lexicographic.{slice_cmp}
use Rattle.std.specs.List.{AllByRecursion}
use Rattle.std.specs.List.Sorted.{IsStrictlySortedBy}
use Rattle.std.specs.Map.{keys_of}
use Rattle.std.specs.Ordering.{match_ordering}
use Rattle.std.proofs.lemmas.Cmp.{nat_list_cmp_total, tied_itself}
use Rattle.std.proofs.lemmas.Map.Lookups.{exact_bytes}
use Rattle.std.proofs.lemmas.Option.{none-some, same_Some}
use Rattle.serde_json.proofs.Views.{Entry}
use Rattle.serde_json.specs.Data.{Num, unsigned, negative, float, Data, null, boolean, number, string, array, object, Items, Members, member}
use Rattle.serde_json.specs.Find.{as_array, as_object, get_member}
use Rattle.serde_json.specs.View.{view, items_view, members_view}
use Rattle.serde_json.specs.declared.value.Value.{Value}
use Rattle.esto_term.proofs.ListLemmas.{Contains-rest, Contains-cases, Contains-nil}
use Rattle.esto_docmodel.specs.Forests.{name, place, none, Forest, Node, node, HasKid}
use Rattle.esto_docmodel.specs.Shapes.{shape, shape_step, shaped_field, row, named_row}
use Rattle.esto_docmodel.specs.declared.field.FieldOf.{FieldOf}
use Rattle.esto_docmodel.specs.declared.tree.Tree.{Tree, fold-roll-Tree}
use Rattle.esto_docmodel.specs.declared.tree.Tree.TheOpen.{Tree-F}
use Rattle.esto_docmodel.specs.declared.tree.Tree.TheVariants.{Nothing, rolls-Nothing}
use Rattle.esto_docs.specs.Filling.{is_whole, holds_text, text_or_none, value_node, value_text}
use Rattle.esto_docs.specs.Trees.{trees_of, fields_of}
use Rattle.esto_docs.proofs.FieldLemmas.{node_of, node_string, node_object, node_array, HasField, field_from, field_to}

-- ---- texts

pub node_nothing : shape Nothing ≡ node None none
node_nothing = ap shape (sym rolls-Nothing) ∙ fold-roll-Tree Node shape_step Tree-F.Nothing

number_content : (n : Num) → is_some (value_node (number n)).content ≡ is_whole n
number_content (unsigned n) = ap (λ (x : Node). is_some x.content) (node_string _)
number_content (negative z) = ap (λ (x : Node). is_some x.content) (node_string _)
number_content (float x) = ap (λ (x : Node). is_some x.content) node_nothing

-- A value holds a text exactly where its node has content.
pub content : (d : Data) → is_some (value_node d).content ≡ holds_text d
content null = ap (λ (x : Node). is_some x.content) node_nothing
content (boolean b) = ap (λ (x : Node). is_some x.content) (node_string _)
content (number n) = number_content n
content (string s) = ap (λ (x : Node). is_some x.content) (node_string s)
content (array ds) = ap (λ (x : Node). is_some x.content) (node_array ds)
content (object ms) = ap (λ (x : Node). is_some x.content) (node_object ms)

pub textless : (d : Data) (text : List ℕ) → holds_text d ≡ false → (value_node d).content ≡ Some text → ⊥
textless d text lacks is = apart (sym lacks ∙ sym (content d) ∙ ap is_some is) where
  apart : false ≡ true → ⊥
  apart e = cc e

pub textful : (d : Data) → holds_text d ≡ true → (value_node d).content ≡ Some (value_text d)
textful d holds = go (value_node d).content refl where
  apart : true ≡ false → ⊥
  apart e = cc e

  go : (o : Option (List ℕ)) → (value_node d).content ≡ o → (value_node d).content ≡ Some (value_text d)
  go None is = absurd (apart (sym holds ∙ sym (content d) ∙ ap is_some is))
  go (Some text) is = is ∙ ap (λ (o : Option (List ℕ)). Some (text_or_none o)) (sym is)

-- ---- members

later_name : (k : List ℕ) (e : Entry) (es : List Entry) (u : Node) → k ≡ string_bytes e.0
    → AllByRecursion (λ y. string_cmp e.0 y ≡ Less) (keys_of es) → HasField k (members_view es) u → ⊥
later_name k e [] u is above h = h
later_name k e (f ∷ es) u is above (inl h) =
    let tied : slice_cmp nat_cmp (string_bytes e.0) (string_bytes f.0) ≡ Equal =
    ap (λ (x : List ℕ). slice_cmp nat_cmp (string_bytes e.0) x) (h.0 ∙ is) ∙ tied_itself nat_list_cmp_total (string_bytes e.0) in
    less_tied (sym above.0 ∙ tied) where
      less_tied : Less ≡ Equal → ⊥
      less_tied e = cc e
later_name k e (f ∷ es) u is above (inr h) = later_name k e es u is above.1 h

-- A name leads to what is found there.
Found : List ℕ → Members → Node → Type 0
Found k ms u = (d : Data) × (get_member k ms ≡ Some d) × (node_of d ≡ u)

found_into : (o : Ordering) (k l : List ℕ) (d : Data) (ms : Members) (u : Node) → slice_cmp nat_cmp k l ≡ o → (k ≡ l → HasField k ms u → ⊥)
    → (HasField k ms u → Found k ms u) → HasField k (member l d ms) u
    → (x : Data) × (match_ordering o (get_member k ms) (Some d) (get_member k ms) ≡ Some x) × (node_of x ≡ u)
unfolding Found
found_into Less k l d ms u is apart next (inl h) = absurd (untied (sym is ∙ ap (slice_cmp nat_cmp k) h.0 ∙ tied_itself nat_list_cmp_total k)) where
  untied : Less ≡ Equal → ⊥
  untied e = cc e
found_into Less k l d ms u is apart next (inr h) = next h
found_into Equal k l d ms u is apart next (inl h) = (d, refl, h.1)
found_into Equal k l d ms u is apart next (inr h) = absurd (apart (exact_bytes k l is) h)
found_into Greater k l d ms u is apart next (inl h) = absurd (untied (sym is ∙ ap (slice_cmp nat_cmp k) h.0 ∙ tied_itself nat_list_cmp_total k)) where
  untied : Greater ≡ Equal → ⊥
  untied e = cc e
found_into Greater k l d ms u is apart next (inr h) = next h

found_from : (o : Ordering) (k l : List ℕ) (d x : Data) (ms : Members) (u : Node) → slice_cmp nat_cmp k l ≡ o
    → (get_member k ms ≡ Some x → HasField k ms u)
    → match_ordering o (get_member k ms) (Some d) (get_member k ms) ≡ Some x → node_of x ≡ u → HasField k (member l d ms) u
found_from Less k l d x ms u is next e n = inr (next e)
found_from Equal k l d x ms u is next e n = inl (sym (exact_bytes k l is), ap node_of (same_Some d x e) ∙ n)
found_from Greater k l d x ms u is next e n = inr (next e)

field_found : (k : List ℕ) (es : List Entry) (u : Node) → IsStrictlySortedBy string_cmp (keys_of es) → HasField k (members_view es) u
    → (x : Data) × (get_member k (members_view es) ≡ Some x) × (node_of x ≡ u)
unfolding IsStrictlySortedBy Found
field_found k [] u sorted h = absurd h
field_found k (e ∷ es) u sorted h =
    found_into (slice_cmp nat_cmp k (string_bytes e.0)) k (string_bytes e.0) (view e.1) (members_view es) u refl
    (λ is there. later_name k e es u is sorted.0 there) (field_found k es u sorted.1) h

found_field : (k : List ℕ) (es : List Entry) (x : Data) (u : Node) → get_member k (members_view es) ≡ Some x → node_of x ≡ u → HasField k (members_view es) u
found_field k [] x u e n = cc e
found_field k (e ∷ es) x u found n =
    found_from (slice_cmp nat_cmp k (string_bytes e.0)) k (string_bytes e.0) (view e.1) x (members_view es) u refl (λ f. found_field k es x u f n) found n

-- What the member of a name is, and that there is none.
abbrev pub IsMember : Data → List ℕ → Option (Bor Value) → Type 0
IsMember d k result = MatchOption result ((found : Node) → ¬ (HasKid (value_node d).inside (name k) found))
    (λ it. (found : Node) → HasKid (value_node d).inside (name k) found ↔ (value_node (view it.now) ≡ found))

kid_field : (k : List ℕ) (ms : Members) (u : Node) → HasKid (value_node (object ms)).inside (name k) u ↔ HasField k ms u
kid_field k ms u = (
  (λ h. field_from k ms u (subst (λ (n : Node). HasKid n.inside (name k) u) (node_object ms) h)),
  (λ h. subst (λ (n : Node). HasKid n.inside (name k) u) (sym (node_object ms)) (field_to k ms u h)),
)

pub member_is : (k : List ℕ) (es : List Entry) (result : Option (Bor Value)) → IsStrictlySortedBy string_cmp (keys_of es)
    → option_map (λ it. view it.now) result ≡ get_member k (members_view es) → IsMember (object (members_view es)) k result
member_is k es None sorted is = none where
  none : (found : Node) → HasKid (value_node (object (members_view es))).inside (name k) found → ⊥
  none found h = let there = field_found k es found sorted ((kid_field k (members_view es) found).0 h) in none-some there.0 (is ∙ there.1)
member_is k es (Some it) sorted is = λ found. (into found, from found) where
  into : (found : Node) → HasKid (value_node (object (members_view es))).inside (name k) found → value_node (view it.now) ≡ found
  into found h =
      let there = field_found k es found sorted ((kid_field k (members_view es) found).0 h) in
      ap node_of (same_Some (view it.now) there.0 (is ∙ there.1)) ∙ there.2

  from : (found : Node) → value_node (view it.now) ≡ found → HasKid (value_node (object (members_view es))).inside (name k) found
  from found e = (kid_field k (members_view es) found).1 (found_field k es (view it.now) found (sym is) e)

items_unnamed : (k : List ℕ) (ts : List Tree) (found : Node) → HasKid (row (map shape ts)) (name k) found → ⊥
items_unnamed k [] found h = h
items_unnamed k (t ∷ ts) found (inl h) = apart h.0 where
  apart : place ≡ name k → ⊥
  apart e = cc e
items_unnamed k (t ∷ ts) found (inr h) = items_unnamed k ts found h

-- Nothing stands inside a node that is known to have no kids.
pub nothing_inside : (n : Node) (content : Option (List ℕ)) → n ≡ node content none → n.inside ≡ none
nothing_inside n content e = ap (λ (x : Node). x.inside) e

pub number_inside : (n : Num) → (value_node (number n)).inside ≡ none
number_inside (unsigned n) = nothing_inside _ _ (node_string _)
number_inside (negative z) = nothing_inside _ _ (node_string _)
number_inside (float x) = nothing_inside _ _ node_nothing

pub as_object_is : (d : Data) (ms : Members) → as_object d ≡ Some ms → d ≡ object ms
as_object_is null ms e = cc e
as_object_is (boolean b) ms e = cc e
as_object_is (number n) ms e = cc e
as_object_is (string s) ms e = cc e
as_object_is (array ds) ms e = cc e
as_object_is (object es) ms e = ap object (same_Some es ms e)

-- A value that is no object has no member.
pub no_member : (d : Data) (k : List ℕ) (found : Node) → as_object d ≡ None → HasKid (value_node d).inside (name k) found → ⊥
no_member null k found other h = subst (λ (f : Forest). HasKid f (name k) found) (nothing_inside _ _ node_nothing) h
no_member (boolean b) k found other h = subst (λ (f : Forest). HasKid f (name k) found) (nothing_inside _ _ (node_string _)) h
no_member (number n) k found other h = subst (λ (f : Forest). HasKid f (name k) found) (number_inside n) h
no_member (string s) k found other h = subst (λ (f : Forest). HasKid f (name k) found) (nothing_inside _ _ (node_string s)) h
no_member (array ds) k found other h = items_unnamed k (trees_of ds) found (subst (λ (n : Node). HasKid n.inside (name k) found) (node_array ds) h)
no_member (object ms) k found other h = cc other

-- ---- items

-- These are the nodes of the value's items.
abbrev pub AreItems : Data → List Node → Type 0
AreItems d nodes = (found : Node) → HasKid (value_node d).inside place found ↔ Contains nodes found

item_into : (vs : List Value) (found : Node) → HasKid (row (map shape (trees_of (items_view vs)))) place found
    → Contains (map (λ v. value_node (view v)) vs) found
item_into [] found h = absurd h
item_into (v ∷ vs) found (inl h) = (0, omega arith, h.1)
item_into (v ∷ vs) found (inr h) = Contains-rest (value_node (view v)) (map (λ v. value_node (view v)) vs) found (item_into vs found h)

item_from : (vs : List Value) (found : Node) → Contains (map (λ v. value_node (view v)) vs) found
    → HasKid (row (map shape (trees_of (items_view vs)))) place found
item_from [] found h = Contains-nil found h
item_from (v ∷ vs) found h = elim (Contains-cases (value_node (view v)) (map (λ v. value_node (view v)) vs) found h) [
  | inl is ↦ inl (refl, is)
  | inr later ↦ inr (item_from vs found later)
]

pub items_are : (d : Data) (vs : List Value) → d ≡ array (items_view vs) → AreItems d (map (λ v. value_node (view v)) vs)
items_are d vs is found =
    let whole : value_node d ≡ node None (row (map shape (trees_of (items_view vs)))) = ap node_of is ∙ node_array (items_view vs) in (
      (λ h. item_into vs found (subst (λ (n : Node). HasKid n.inside place found) whole h)),
      (λ h. subst (λ (n : Node). HasKid n.inside place found) (sym whole) (item_from vs found h)),
    )

pub as_array_is : (d : Data) (ds : Items) → as_array d ≡ Some ds → d ≡ array ds
as_array_is null ds e = cc e
as_array_is (boolean b) ds e = cc e
as_array_is (number n) ds e = cc e
as_array_is (string s) ds e = cc e
as_array_is (array es) ds e = ap array (same_Some es ds e)
as_array_is (object ms) ds e = cc e

fields_placeless : (fs : List (FieldOf Tree)) (found : Node) → HasKid (named_row (map shaped_field fs)) place found → ⊥
fields_placeless [] found h = h
fields_placeless (f ∷ fs) found (inl h) = apart f.name h.0 where
  apart : (k : List ℕ) → name k ≡ place → ⊥
  apart k e = cc e
fields_placeless (f ∷ fs) found (inr h) = fields_placeless fs found h

no_item : (d : Data) (found : Node) → as_array d ≡ None → HasKid (value_node d).inside place found → ⊥
no_item null found other h = subst (λ (f : Forest). HasKid f place found) (nothing_inside _ _ node_nothing) h
no_item (boolean b) found other h = subst (λ (f : Forest). HasKid f place found) (nothing_inside _ _ (node_string _)) h
no_item (number n) found other h = subst (λ (f : Forest). HasKid f place found) (number_inside n) h
no_item (string s) found other h = subst (λ (f : Forest). HasKid f place found) (nothing_inside _ _ (node_string s)) h
no_item (array ds) found other h = cc other
no_item (object ms) found other h = fields_placeless (fields_of ms) found (subst (λ (n : Node). HasKid n.inside place found) (node_object ms) h)

pub no_items_are : (d : Data) → as_array d ≡ None → AreItems d []
no_items_are d other found = ((λ h. absurd (no_item d found other h)), (λ h. absurd (Contains-nil found h)))
