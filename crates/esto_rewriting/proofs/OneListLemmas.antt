-- Lists of one plan, and their texts, are one.
use Rattle.std.proofs.Common.{◌≡◌, ℕ, zero, suc, ◌+◌, List, [], ◌∷◌, ◌++◌, map, length, slice_get, Option, Some, None, All, refl, sym, ap, subst, ◌∙◌, arith}
use Rattle.std.specs.Fmt.{decimal}
use Rattle.std.specs.Prelude.{codes}
use Rattle.std.proofs.lemmas.List.Elements.{All-head, All-tail}
use Rattle.esto_term.specs.declared.term.Term.{Term}
use Rattle.esto_term.proofs.ListLemmas.{first_same, rest_same}
use Rattle.esto_list.specs.Items.{sets_of, totals_of, IsPickOf}
use Rattle.esto_views.specs.Names.{met_atoms, met_terms}
use Rattle.esto_list.specs.Text.{fragment_name, atom_line, item_line, pick_line, list_text}
use Rattle.esto_views.specs.Printing.{each_from, terms_text, count_line}
use Rattle.esto_list.specs.declared.listing.Listed.{Listed}
use Rattle.esto_query.specs.declared.query.Name.{Name}
use Rattle.esto_semantics.specs.Access.{Patterns, IsStatedOrder}
use Rattle.esto_semantics.specs.AccessLaws.{StatedOrderIsOne}
use Rattle.esto_semantics.specs.Listed.{IsWeight, chosen}
use Rattle.esto_semantics.specs.ListedLaws.{PickIsOne, WeightIsOne}
use Rattle.esto_semantics.specs.Queries.{ConjunctiveQuery}
use Rattle.esto_semantics.specs.declared.fact.Fact.{Fact}
use Rattle.esto_views.specs.Fragments.{patterns_of, weights_of}
use Rattle.esto_views.specs.Plans.{fact_of, plan_query}
use Rattle.esto_views.specs.declared.fragments.FragmentDef.{FragmentDef}
use Rattle.esto_views.specs.declared.plan.PlanAtom.{PlanAtom}
use Rattle.esto_views.specs.declared.plan.Plan.{Plan}
use Rattle.esto_rewriting.specs.Alike.{ItemsAreOne, ListTextIsMoved, ListTextIsOne}

-- ---- the items

same_item : (item other : Listed) → item.set ≡ other.set → item.order ≡ other.order → item.weight ≡ other.weight → item ≡ other
same_item item other set order weight = λ i. record { set = set i; order = order i; weight = weight i }

module _ (one_order : StatedOrderIsOne) (one_weight : WeightIsOne) (patterns : Patterns) (weights : List ℕ) (atoms : List (Fact Term)) where
  abbrev pub HasOrder : Listed → Type 0
  HasOrder item = IsStatedOrder patterns atoms item.set item.order

  abbrev pub HasWeight : Listed → Type 0
  HasWeight item = IsWeight weights (chosen item.set atoms) item.weight

  -- the sets determine the items
  pub same_items : (items others : List Listed) → sets_of items ≡ sets_of others → All HasOrder items → All HasOrder others → All HasWeight items
      → All HasWeight others → items ≡ others
  same_items [] [] same orders other_orders totals other_totals = refl
  same_items [] (other ∷ others) same orders other_orders totals other_totals = absurd (cc)
  same_items (item ∷ items) [] same orders other_orders totals other_totals = absurd (cc)
  same_items (item ∷ items) (other ∷ others) same orders other_orders totals other_totals =
      let set : item.set ≡ other.set = first_same item.set other.set (sets_of items) (sets_of others) same in
      let order : item.order ≡ other.order =
      one_order patterns atoms other.set item.order other.order (subst (λ it. IsStatedOrder patterns atoms it item.order) set
      (All-head HasOrder item items orders)) (All-head HasOrder other others other_orders) in
      let weight : item.weight ≡ other.weight =
      one_weight weights (chosen other.set atoms) item.weight other.weight
      (subst (λ it. IsWeight weights (chosen it atoms) item.weight) set (All-head HasWeight item items totals))
      (All-head HasWeight other others other_totals) in
      let rest : items ≡ others =
      same_items items others (rest_same item.set other.set (sets_of items) (sets_of others) same) (All-tail HasOrder item items orders)
      (All-tail HasOrder other others other_orders)
      (All-tail HasWeight item items totals) (All-tail HasWeight other others other_totals) in
      λ i. same_item item other set order weight i ∷ rest i

-- ---- the pick

pub same_pick : PickIsOne → (items : List Listed) (pick other : Option ℕ) → IsPickOf items pick → IsPickOf items other → pick ≡ other
same_pick one items None None is is_other = refl
same_pick one items None (Some place) is is_other = absurd (omega (arith, is_other.there, ap (λ (it : List Listed). length (totals_of it)) is))
same_pick one items (Some place) None is is_other = absurd (omega (arith, is.there, ap (λ (it : List Listed). length (totals_of it)) is_other))
same_pick one items (Some place) (Some other) is is_other = ap Some (one (totals_of items) place other is is_other)

-- ---- the atoms of a plan

same_atom : (atom other : PlanAtom) → fact_of atom ≡ fact_of other → atom ≡ other
same_atom atom other same = λ i. record { fragment = (same i).relation; terms = (same i).terms }

pub same_atoms : (atoms others : List PlanAtom) → map fact_of atoms ≡ map fact_of others → atoms ≡ others
same_atoms [] [] same = refl
same_atoms [] (other ∷ others) same = absurd (cc)
same_atoms (atom ∷ atoms) [] same = absurd (cc)
same_atoms (atom ∷ atoms) (other ∷ others) same =
    let first : atom ≡ other = same_atom atom other (first_same (fact_of atom) (fact_of other) (map fact_of atoms) (map fact_of others) same) in
    let rest : atoms ≡ others = same_atoms atoms others (rest_same (fact_of atom) (fact_of other) (map fact_of atoms) (map fact_of others) same) in
    λ i. first i ∷ rest i

-- ---- the text

each-same : {A : Type 0} (text other : ℕ → A → List ℕ) → ((place : ℕ) (thing : A) → text place thing ≡ other place thing) → (from : ℕ) (things : List A)
    → each_from text from things ≡ each_from other from things
each-same text other same from [] = refl
each-same text other same from (thing ∷ things) = let rest = each-same text other same (from + 1) things in λ i. same from thing i ++ rest i

named : Option (List ℕ) → List ℕ
named None = []
named (Some name) = name

named-fragment : (fragments : List FragmentDef) (place : ℕ) → fragment_name (slice_get fragments place)
    ≡ named (slice_get (map (λ fragment. fragment.name) fragments) place)
unfolding named
named-fragment [] place = refl
named-fragment (fragment ∷ fragments) zero = refl
named-fragment (fragment ∷ fragments) (suc place) = named-fragment fragments place

-- the text of a list, by the parts of the plan
abbrev text_by : List FragmentDef → List PlanAtom → List Term → List Name → List Listed → Option ℕ → List ℕ
text_by fragments atoms head names items pick =
    count_line (codes "plan ") (length atoms) ++ each_from (atom_line fragments names (met_terms names (met_atoms names [] atoms) head)) 0 atoms
    ++ codes "head " ++ terms_text names (met_terms names (met_atoms names [] atoms) head) head ++ codes "\n"
    ++ count_line (codes "rewritings ") (length items) ++ each_from item_line 0 items ++ pick_line pick

module _ (fragments others : List FragmentDef) (same : map (λ fragment. fragment.name) fragments ≡ map (λ fragment. fragment.name) others) where
  atom-same : (names : List Name) (nameless : List ℕ) (place : ℕ) (atom : PlanAtom)
      → atom_line fragments names nameless place atom ≡ atom_line others names nameless place atom
  atom-same names nameless place atom =
      let name : fragment_name (slice_get fragments atom.fragment) ≡ fragment_name (slice_get others atom.fragment) =
      named-fragment fragments atom.fragment ∙ ap (λ (it : List (List ℕ)). named (slice_get it atom.fragment)) same
      ∙ sym (named-fragment others atom.fragment) in
      λ i. decimal (place + 1) ++ codes " " ++ name i ++ terms_text names nameless atom.terms ++ codes "\n"

  text_by-same : (atoms : List PlanAtom) (head : List Term) (names : List Name) (items : List Listed) (pick : Option ℕ)
      → text_by fragments atoms head names items pick ≡ text_by others atoms head names items pick
  text_by-same atoms head names items pick =
      let nameless : List ℕ = met_terms names (met_atoms names [] atoms) head in
      let lines : each_from (atom_line fragments names nameless) 0 atoms ≡ each_from (atom_line others names nameless) 0 atoms =
      each-same (atom_line fragments names nameless) (atom_line others names nameless) (atom-same names nameless) 0 atoms in
      λ i. count_line (codes "plan ") (length atoms) ++ lines i ++ codes "head " ++ terms_text names nameless head ++ codes "\n" ++ count_line
      (codes "rewritings ") (length items)
      ++ each_from item_line 0 items ++ pick_line pick

  pub same_text : (plan other : Plan) (items : List Listed) (pick : Option ℕ) → plan.atoms ≡ other.atoms → plan.head ≡ other.head → plan.names ≡ other.names
      → list_text fragments plan items pick ≡ list_text others other items pick
  same_text plan other items pick atoms head names =
      let moved : text_by fragments plan.atoms plan.head plan.names items pick ≡ text_by fragments other.atoms other.head other.names items pick =
      λ i. text_by fragments (atoms i) (head i) (names i) items pick in
      moved ∙ text_by-same other.atoms other.head other.names items pick

-- ---- the laws

pub items_same : StatedOrderIsOne → WeightIsOne → ItemsAreOne
items_same orders weights fragments plan other_plan items others plans sets has_orders other_orders has_weights other_weights =
    same_items orders weights (patterns_of fragments) (weights_of fragments) (plan_query plan).body items others sets
    has_orders (subst (λ (it : ConjunctiveQuery). All (HasOrder orders weights (patterns_of fragments) (weights_of fragments) it.body) others)
    (sym plans) other_orders)
    has_weights (subst (λ (it : ConjunctiveQuery). All (HasWeight orders weights (patterns_of fragments) (weights_of fragments) it.body) others)
    (sym plans) other_weights)

pub text_same : PickIsOne → ListTextIsOne
text_same picks fragments others plan other_plan items text other_text names plans (pick, is_pick, is) (other_pick, is_other_pick, is_other) =
    is ∙ ap (λ it. list_text fragments plan items it) (same_pick picks items pick other_pick is_pick is_other_pick)
    ∙ same_text fragments others names plan other_plan items other_pick
    (same_atoms plan.atoms other_plan.atoms (ap (λ (it : ConjunctiveQuery). it.body) plans.0)) (ap (λ (it : ConjunctiveQuery). it.head) plans.0) plans.1
    ∙ sym is_other

pub text_moved : ListTextIsMoved
text_moved fragments others plan items text names (pick, is_pick, is) =
    (pick, is_pick, is ∙ same_text others fragments (sym names) plan plan items pick refl refl refl)
