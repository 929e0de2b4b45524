-- The facts of JSON values, a step at a time.
use Rattle.std.proofs.Common.{◌≡◌, ℕ, Bool, suc, ◌+◌, List, [], ◌∷◌, ◌++◌, map, Option, Some, None, String, Vec, BTreeMap, refl, sym, ap, ◌∙◌, subst, arith}
use Rattle.std.proofs.Common.{rules, string_bytes}
use Rattle.std.proofs.lemmas.Option.{none-some}
use Rattle.std.specs.Fmt.{signed_decimal}
use Rattle.std.specs.Prelude.{ℤ, decimal, option_map, Result, Ok, IfOk, OnOk}
use Rattle.std.specs.declared.alloc.Global.{Global}
use Rattle.serde_json.specs.Data.{Num, unsigned, negative, float, Data, null, boolean, number, string, array, object}
use Rattle.serde_json.specs.Find.{as_i64, as_u64}
use Rattle.serde_json.specs.View.{view, number_view, items_view, members_view}
use Rattle.serde_json.specs.declared.number.Number.{Number}
use Rattle.serde_json.specs.declared.value.Value.{Value, the_lemmas}
use Rattle.serde_json.specs.declared.value.Value as json
use Rattle.serde_json.proofs.Views.{view-Array, view-Object}
use Rattle.esto_term.specs.declared.term.Term.{Term}
use Rattle.esto_term.specs.declared.term.Term.TheVariants.{Plain}
use Rattle.esto_semantics.specs.declared.fact.Fact.{Fact}
use Rattle.esto_docmodel.specs.DocumentFacts.{root}
use Rattle.esto_docmodel.specs.Encodings.{belows, entering, facts_from, holding, kept, size}
use Rattle.esto_docmodel.specs.Forests.{Label, Forest, none, kid, Node, node}
use Rattle.esto_docmodel.specs.Gaining.{Gains}
use Rattle.esto_docmodel.specs.Putting.{PutsDocuments, turned}
use Rattle.esto_docmodel.specs.Rising.{IsRising, AreInside}
use Rattle.esto_docmodel.specs.Shapes.{shape, row, named_row, shaped_field}
use Rattle.esto_docmodel.specs.declared.kept.Kept.{Kept}
use Rattle.esto_docmodel.proofs.EncodeLemmas.{first_facts, kept-append, kid_count, node_rest}
use Rattle.esto_docmodel.proofs.GainLemmas.{Leads, document_puts, gains_both, gains_none, gains_those, leads_end, leads_more, leads_start}
use Rattle.esto_docs.specs.Encoding.{PutsNode, PutsRow}
use Rattle.esto_docs.specs.Filling.{value_node}
use Rattle.esto_docs.specs.Trees.{tree_of, trees_of, fields_of, word}
use Rattle.esto_docs.proofs.FieldLemmas.{node_array, node_object, node_string}
use Rattle.esto_docs.proofs.GroupLemmas.{text_data}
use Rattle.esto_docs.proofs.HoldingLemmas.{node_nothing, number_inside}

-- ---- the trees and the nodes of values, kind by kind

pub tree_as : (v w : Value) (d : Data) → v ≡ w → view w ≡ d → tree_of (view v) ≡ tree_of d
tree_as v w d is seen = ap (λ (x : Value). tree_of (view x)) is ∙ ap tree_of seen

node_as : (v w : Value) (d : Data) (t : Node) → v ≡ w → view w ≡ d → value_node d ≡ t → value_node (view v) ≡ t
node_as v w d t is seen shaped = ap (λ (x : Value). value_node (view x)) is ∙ ap value_node seen ∙ shaped

pub view_null : view json.Null ≡ null
view_null = search (rules, the_lemmas)

pub view_bool : (b : Bool) → view (json.Bool b) ≡ boolean b
view_bool b = search (rules, the_lemmas)

pub view_number : (n : Number) → view (json.Number n) ≡ number (number_view n)
view_number n = search (rules, the_lemmas)

pub null_node : (v : Value) → v ≡ json.Null → value_node (view v) ≡ node None none
null_node v is = node_as v json.Null null _ is view_null node_nothing

pub bool_node : (v : Value) (b : Bool) → v ≡ json.Bool b → value_node (view v) ≡ node (Some (word b)) none
bool_node v b is = node_as v (json.Bool b) (boolean b) _ is (view_bool b) (node_string (word b))

pub string_node : (v : Value) (s : String Global) → v ≡ json.String s → value_node (view v) ≡ node (Some (string_bytes s)) none
string_node v s is = node_as v (json.String s) (string (string_bytes s)) _ is (text_data s) (node_string (string_bytes s))

pub number_node : (v : Value) (n : Number) → v ≡ json.Number n → value_node (view v) ≡ value_node (number (number_view n))
number_node v n is = node_as v (json.Number n) (number (number_view n)) _ is (view_number n) refl

pub items_node : (v : Value) (items : Vec Value Global) → v ≡ json.Array items
    → value_node (view v) ≡ node None (row (map shape (trees_of (items_view items.items))))
items_node v items is = node_as v (json.Array items) (array (items_view items.items)) _ is (view-Array items) (node_array (items_view items.items))

pub members_node : (v : Value) (members : BTreeMap (String Global) Value) → v ≡ json.Object members
    → value_node (view v) ≡ node None (named_row (map shaped_field (fields_of (members_view members.entries))))
members_node v members is =
    node_as v (json.Object members) (object (members_view members.entries)) _ is (view-Object members) (node_object (members_view members.entries))

pub unsigned_node : (m : Num) (n : ℕ) → as_u64 m ≡ Some n → value_node (number m) ≡ node (Some (decimal n)) none
unsigned_node (unsigned k) n is = node_string (decimal k) ∙ ap (λ (o : Option ℕ). node (option_map decimal o) none) is
unsigned_node (negative z) n is = absurd (none-some n is)
unsigned_node (float x) n is = absurd (none-some n is)

pub signed_node : (m : Num) (z : ℤ) → as_u64 m ≡ None → as_i64 m ≡ Some z → value_node (number m) ≡ node (Some (signed_decimal z)) none
signed_node (unsigned k) z other is = absurd (none-some k (sym other))
signed_node (negative y) z other is = node_string (signed_decimal y) ∙ ap (λ (o : Option ℤ). node (option_map signed_decimal o) none) is
signed_node (float x) z other is = absurd (none-some z is)

pub float_node : (m : Num) → as_u64 m ≡ None → as_i64 m ≡ None → value_node (number m) ≡ node None none
float_node (unsigned k) other more = absurd (none-some k (sym other))
float_node (negative z) other more = absurd (none-some z (sym more))
float_node (float x) other more = node_nothing

-- nothing stands inside a number
pub number_bare : (v : Value) (n : Number) → v ≡ json.Number n → (value_node (view v)).inside ≡ none
number_bare v n is = ap (λ (t : Node). t.inside) (number_node v n is) ∙ number_inside (number_view n)

module _ {S : Type 0} (Holds : S → List (Fact Term) → Type 0) (arities : S → Option (List ℕ)) (relations : Kept) where
  -- ---- what a value holds

  pub held : {E : Type 0} (n : ℕ) (own same : Node) (result : Result (Unit {0}) E) (old new : S) → own ≡ same
      → OnOk result (Gains Holds arities (kept relations (holding same.content n)) old new)
      → OnOk result (Gains Holds arities (kept relations (holding own.content n)) old new)
  held n own same result old new is = subst (λ (t : Node). OnOk result (Gains Holds arities (kept relations (holding t.content n)) old new)) (sym is)

  pub lacks : (n : ℕ) (own : Node) (inside : Forest) (sink : S) → own ≡ node None inside
      → Gains Holds arities (kept relations (holding own.content n)) sink sink
  lacks n own inside sink is = gains_none Holds arities _ sink (ap (λ (t : Node). kept relations (holding t.content n)) is)

  -- ---- a node

  pub node_puts : (above : List ℕ) (n first later : ℕ) (t : Node) (start one two now : S) → first ≡ suc n
      → Gains Holds arities (kept relations (belows (turned above) n)) start one
      → Gains Holds arities (kept relations (holding t.content n)) one two
      → PutsRow Holds arities relations (n ∷ turned above) first t.inside later two now
      → PutsNode Holds arities relations (turned above) n t later start now
  node_puts above n first later t start one two now numbered below content row = record {
    facts = gains_those Holds arities _ _ start now (node_rest relations n above t)
        (gains_both Holds arities _ _ start one now below
        (gains_those Holds arities _ _ one now (sym (kept-append relations (holding t.content n) (facts_from (n ∷ turned above) (suc n) t.inside)))
        (gains_both Holds arities _ _ one two now content
        (subst (λ (k : ℕ). Gains Holds arities (kept relations (facts_from (n ∷ turned above) k t.inside)) two now) numbered row.facts))));
    next = let told = row.next in omega (arith, told, numbered);
    rising = row.rising;
  }

  pub inside_puts : {E : Type 0} (above : List ℕ) (first : ℕ) (own same : Node) (result : Result ℕ E) (old new : S) → own ≡ same
      → IfOk result (λ next. PutsRow Holds arities relations above first same.inside next old new)
      → IfOk result (λ next. PutsRow Holds arities relations above first own.inside next old new)
  inside_puts above first own same result old new is =
      subst (λ (t : Node). IfOk result (λ next. PutsRow Holds arities relations above first t.inside next old new)) (sym is)

  pub no_row : (above : List ℕ) (n : ℕ) (row : Forest) (sink : S) → row ≡ none → PutsRow Holds arities relations above n row n sink sink
  no_row above n row sink is = subst (λ (f : Forest). PutsRow Holds arities relations above n f n sink sink) (sym is)
      (record { facts = gains_none Holds arities [] sink refl; next = omega arith; rising = tt })

  pub document_put : (n later : ℕ) (d : Data) (above : List ℕ) (start entered now : S) → above ≡ []
      → Gains Holds arities (kept relations (root (Plain n) ∷ [])) start entered
      → PutsNode Holds arities relations (turned above) n (value_node d) later entered now
      → PutsDocuments Holds arities relations (tree_of d ∷ []) n later start now
  document_put n later d above start entered now on_top first it =
      let answer : Result ℕ (Unit {0}) = Ok later in
      document_puts Holds arities relations n (tree_of d) above start entered now answer on_top first it.facts it.rising it.next

  -- ---- a loop over the nodes of a row: what is left from where it stands leads to the whole row

  pub record Turns (above : List ℕ) (first next : ℕ) (all left : Forest) (start now : S) : Type 0 where
    pub leads : Leads Holds arities (kept relations (facts_from above next left)) (kept relations (facts_from above first all)) start now
    pub counted : next + size left ≡ first + size all
    pub inside : AreInside left → AreInside all

  pub turns_start : (above : List ℕ) (first : ℕ) (all left : Forest) (start : S) → all ≡ left → Turns above first first all left start start
  turns_start above first all left start is = subst (λ (f : Forest). Turns above first first all f start start) is
      (record { leads = leads_start Holds arities _ start; counted = refl; inside = λ inside. inside })

  pub turns_more : (above inner : List ℕ) (parent first next later : ℕ) (all left rest : Forest) (l : Label) (t : Node) (start old entered now : S)
      → inner ≡ above ++ parent ∷ [] → left ≡ kid l t.content t.inside rest
      → Gains Holds arities (kept relations (entering (parent ∷ turned above) l next ∷ [])) old entered
      → PutsNode Holds arities relations (turned inner) next t later entered now
      → Turns (parent ∷ turned above) first next all left start old → Turns (parent ∷ turned above) first later all rest start now
  turns_more above inner parent first next later all left rest l t start old entered now is_inner is enters it turns = record {
    leads = leads_more Holds arities _ _ _ _ start old now
        (ap (λ (f : Forest). kept relations (facts_from (parent ∷ turned above) next f)) is
        ∙ first_facts relations parent next later above inner is_inner l t rest it.next)
        (gains_both Holds arities _ _ old entered now enters it.facts) turns.leads;
    counted = let numbered = it.next in
        rw numbered (kid_count next (first + size all) t rest l (ap (λ (f : Forest). next + size f) (sym is) ∙ turns.counted));
    inside = λ inside. turns.inside (subst AreInside (sym is) (it.rising, inside));
  }

  pub turns_end : (above : List ℕ) (first next : ℕ) (all left : Forest) (start now : S) → left ≡ none → (AreInside all → IsRising all)
      → Turns above first next all left start now → PutsRow Holds arities relations above first all next start now
  turns_end above first next all left start now is rises turns = record {
    facts = leads_end Holds arities _ _ start now (ap (λ (f : Forest). kept relations (facts_from above next f)) is) turns.leads;
    next = let counted = turns.counted in let empty = ap size is in omega (arith, counted, empty);
    rising = rises (turns.inside (subst AreInside (sym is) tt));
  }
