-- What a sink of facts gains, a step at a time.
use Rattle.std.proofs.Common.{◌≡◌, ◌+◌, ◌≤◌, ℕ, suc, List, [], ◌∷◌, ◌++◌, map, drop, length, refl, sym, ap, ◌∙◌, subst, arith, append_assoc, append-nil}
use Rattle.std.proofs.lemmas.List.{drop_all}
use Rattle.std.specs.Prelude.{Option, Result, Ok, Err, IfOk, OnOk}
use Rattle.esto_term.specs.declared.term.Term.{Term}
use Rattle.esto_term.specs.declared.term.Term.TheVariants.{Plain}
use Rattle.esto_semantics.specs.declared.fact.Fact.{Fact}
use Rattle.esto_docmodel.specs.DocumentFacts.{root}
use Rattle.esto_docmodel.specs.Encodings.{facts_from, kept, kept_of, size}
use Rattle.esto_docmodel.specs.Gaining.{Gains, HasRoom, HaveRoom, fact_over}
use Rattle.esto_docmodel.specs.Putting.{PutsDocuments, node_facts, turned}
use Rattle.esto_docmodel.specs.Rising.{IsRising}
use Rattle.esto_docmodel.specs.Shapes.{shape, row, named_row, shaped_field, documents}
use Rattle.esto_docmodel.specs.declared.field.FieldOf.{FieldOf}
use Rattle.esto_docmodel.specs.declared.kept.Kept.{Kept}
use Rattle.esto_docmodel.specs.declared.tree.Tree.{Tree}
use Rattle.esto_docmodel.proofs.DocumentLemmas.{kept_append}
use Rattle.esto_docmodel.proofs.EncodeLemmas.{document_facts, rising_append, size_append}

-- the fact that a node is a document has room, over the base itself
pub root_room : (told : Option (List ℕ)) (base node : ℕ) → HaveRoom told base → HasRoom told (fact_over base (Plain node ∷ []))
root_room told base node room =
    let same : base + 0 ≡ base = omega arith in subst (λ (k : ℕ). HasRoom told (fact_over k (Plain node ∷ []))) same (room (root (Plain node)))

module _ {S : Type 0} (Holds : S → List (Fact Term) → Type 0) (arities : S → Option (List ℕ)) where
  -- there is room still
  pub room_stays : (base : ℕ) (old new : S) → arities new ≡ arities old → HaveRoom (arities old) base → HaveRoom (arities new) base
  room_stays base old new same room = subst (λ told. HaveRoom told base) (sym same) room

  -- no facts
  pub gains_none : (facts : List (Fact Term)) (sink : S) → facts ≡ [] → Gains Holds arities facts sink sink
  gains_none facts sink none = record {
    held = λ before held. subst (Holds sink) (sym (append-nil before) ∙ ap (λ those. before ++ those) (sym none)) held;
    same = refl;
  }

  -- the same facts
  pub gains_those : (facts others : List (Fact Term)) (old new : S) → facts ≡ others → Gains Holds arities facts old new → Gains Holds arities others old new
  gains_those facts others old new same gains = subst (λ those. Gains Holds arities those old new) same gains

  -- facts, and more after them
  pub gains_both : (facts more : List (Fact Term)) (old middle new : S) → Gains Holds arities facts old middle → Gains Holds arities more middle new
      → Gains Holds arities (facts ++ more) old new
  gains_both facts more old middle new before after = record {
    held = λ first held. subst (Holds new) (append_assoc first facts more) (after.held (first ++ facts) (before.held first held));
    same = after.same ∙ before.same;
  }

  -- ---- a loop that puts facts: whichever sink gains what is left from where the loop stands has gained all from its start

  pub record Leads (left all : List (Fact Term)) (start now : S) : Type 0 where
    pub same : arities now ≡ arities start
    pub on : (last : S) → Gains Holds arities left now last → Gains Holds arities all start last

  pub leads_start : (all : List (Fact Term)) (start : S) → Leads all all start start
  leads_start all start = record { same = refl; on = λ last gains. gains }

  pub leads_more : (left later all put : List (Fact Term)) (start old new : S) → left ≡ put ++ later → Gains Holds arities put old new
      → Leads left all start old → Leads later all start new
  leads_more left later all put start old new is gains leads = record {
    same = gains.same ∙ leads.same;
    on = λ last rest. leads.on last (gains_those (put ++ later) left old last (sym is) (gains_both put later old new last gains rest));
  }

  pub leads_end : (left all : List (Fact Term)) (start now : S) → left ≡ [] → Leads left all start now → Gains Holds arities all start now
  leads_end left all start now none leads = leads.on now (gains_none left now none)

  -- the fields, or the items, are all put
  module _ (relations : Kept) (number first next : ℕ) (above : List ℕ) (start now : S) where
    pub fields_end : (items fields : List (FieldOf Tree)) (i : ℕ) → length items ≤ i → items ≡ fields
        → Leads (kept relations (facts_from (number ∷ above) next (named_row (map shaped_field (drop i items)))))
        (kept relations (facts_from (number ∷ above) first (named_row (map shaped_field items)))) start now
        → Gains Holds arities (kept relations (facts_from (number ∷ above) first (named_row (map shaped_field fields)))) start now
    fields_end items fields i past is leads =
        subst (λ (w : List (FieldOf Tree)). Gains Holds arities (kept relations (facts_from (number ∷ above) first (named_row (map shaped_field w)))) start now)
        is (leads_end _ _ start now
        (ap (λ (w : List (FieldOf Tree)). kept relations (facts_from (number ∷ above) next (named_row (map shaped_field w)))) (drop_all i items past)) leads)

    pub items_end : (items : List Tree) (i : ℕ) → length items ≤ i
        → Leads (kept relations (facts_from (number ∷ above) next (row (map shape (drop i items)))))
        (kept relations (facts_from (number ∷ above) first (row (map shape items)))) start now
        → Gains Holds arities (kept relations (facts_from (number ∷ above) first (row (map shape items)))) start now
    items_end items i past leads =
        leads_end _ _ start now
        (ap (λ (w : List Tree). kept relations (facts_from (number ∷ above) next (row (map shape w)))) (drop_all i items past)) leads

  -- a document is put: that it is one, and its node
  pub document_puts : {E : Type 0} (relations : Kept) (n : ℕ) (tree : Tree) (above : List ℕ) (start entered now : S) (result : Result ℕ E) → above ≡ []
      → Gains Holds arities (kept relations (root (Plain n) ∷ [])) start entered
      → OnOk result (Gains Holds arities (kept relations (node_facts (turned above) n (shape tree))) entered now)
      → OnOk result (IsRising (shape tree).inside) → IfOk result (λ next. next ≡ suc n + size (shape tree).inside)
      → IfOk result (λ next. PutsDocuments Holds arities relations (tree ∷ []) n next start now)
  document_puts relations n tree above start entered now (Ok next) none first inside rising numbered = record {
    facts = gains_those _ _ start now (document_facts relations n tree) (gains_both _ _ start entered now first
        (gains_those _ _ entered now (ap (λ (w : List ℕ). kept relations (node_facts (turned w) n (shape tree))) none) inside));
    next = omega (arith, numbered);
    rising = (tt, (rising, tt));
  }
  document_puts relations n tree above start entered now (Err error) none first inside rising numbered = tt

  -- no documents, and documents after others
  pub puts_none : (relations : Kept) (first : ℕ) (sink : S) → PutsDocuments Holds arities relations [] first first sink sink
  puts_none relations first sink = record { facts = gains_none [] sink refl; next = omega arith; rising = tt }

  pub puts_more : (relations : Kept) (trees more : List Tree) (first next later : ℕ) (start old new : S)
      → PutsDocuments Holds arities relations trees first next start old → PutsDocuments Holds arities relations more next later old new
      → PutsDocuments Holds arities relations (trees ++ more) first later start new
  puts_more relations trees more first next later start old new before after = record {
    facts = gains_those _ _ start new
        (ap (λ (k : ℕ). kept_of relations first (documents trees) ++ kept_of relations k (documents more)) before.next
        ∙ sym (kept_append relations first trees more))
        (gains_both _ _ start old new before.facts after.facts);
    next = let whole = size_append trees more in let one = before.next in let two = after.next in omega (arith, one, two, whole);
    rising = rising_append trees more before.rising after.rising;
  }
