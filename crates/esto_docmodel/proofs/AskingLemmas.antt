-- The facts of documents that the atoms of a pattern can go to, and the rows of a query that was made before.
use Rattle.std.proofs.Common.{◌≡◌, ◌↔◌, ◌==◌, true, filter, List, [], map, Contains, refl, sym, ap, ◌∙◌, subst, arith}
use Rattle.std.proofs.lemmas.Bool.Decides.{nat_tests}
use Rattle.std.proofs.lemmas.List.Folds.{list_any_at}
use Rattle.esto_term.proofs.ListLemmas.{Contains-filter, Contains-filter_from, Contains-map, Contains-map_from}
use Rattle.esto_term.specs.declared.term.Term.{Term}
use Rattle.esto_term.specs.declared.term.Term.TheVariants.{Const}
use Rattle.esto_semantics.specs.Facts.{image}
use Rattle.esto_semantics.specs.Queries.{IsAnswerInto}
use Rattle.esto_semantics.specs.declared.fact.Fact.{Fact}
use Rattle.esto_docmodel.specs.Asking.{all_but_below, asks_below, IsAskedBy}
use Rattle.esto_docmodel.specs.DocumentFacts.{DocFact, root, field, item, value, below, flat}
use Rattle.esto_docmodel.specs.Encodings.{facts_from, facts_of, is_kept, kept}
use Rattle.esto_docmodel.specs.Forests.{Node}
use Rattle.esto_docmodel.specs.Matching.{AreRows, head_of}
use Rattle.esto_docmodel.specs.Patterns.{Entries}
use Rattle.esto_docmodel.specs.declared.matches.AskedPattern.{AskedPattern}
use Rattle.esto_docmodel.proofs.MatchLemmas.{are_rows, one}

-- a fact of documents that an atom goes to is kept
kept_there : (body : List (Fact Term)) (m : Term → Term) (atom : Fact Term) (fact : DocFact Term) → Contains body atom → flat 0 fact ≡ image m atom
    → is_kept (all_but_below (asks_below body)) fact ≡ true
kept_there body m atom (root n) inside goes = refl
kept_there body m atom (field p k n) inside goes = refl
kept_there body m atom (item p n) inside goes = refl
kept_there body m atom (value n t) inside goes = refl
kept_there body m atom (below a n) inside goes =
    let over : atom.relation ≡ 4 = sym (ap (λ (it : Fact Term). it.relation) goes) in
    let told : (atom.relation == 4) ≡ true = grind (arith, nat_tests, over) in
    let (at, here, is) = inside in
    list_any_at (λ (it : Fact Term). it.relation == 4) body at atom here (ap (λ (it : Fact Term). it.relation == 4) is ∙ told)

-- the answers over the facts that are kept are those over all
pub answers_kept : (docs : List (DocFact Term)) (head : List Term) (body : List (Fact Term)) (row : List Term)
    → IsAnswerInto Const (record { head = head; body = body }) (Contains (kept (all_but_below (asks_below body)) docs)) row
    ↔ IsAnswerInto Const (record { head = head; body = body }) (Contains (map (flat 0) docs)) row
answers_kept docs head body row = (
  λ (m, keeps, sends, is). (m, keeps, (λ atom inside. from_kept (image m atom) (sends atom inside)), is),
  λ (m, keeps, sends, is). (m, keeps, (λ atom inside. to_kept m atom inside (sends atom inside)), is),
)
  where
    from_kept : (fact : Fact Term) → Contains (kept (all_but_below (asks_below body)) docs) fact → Contains (map (flat 0) docs) fact
    from_kept fact there =
        let (doc, in_some, is) = Contains-map_from (flat 0) (filter (is_kept (all_but_below (asks_below body))) docs) fact there in
        subst (Contains (map (flat 0) docs)) is
        (Contains-map (flat 0) docs doc (Contains-filter_from (is_kept (all_but_below (asks_below body))) docs doc in_some).0)

    to_kept : (m : Term → Term) (atom : Fact Term) → Contains body atom → Contains (map (flat 0) docs) (image m atom)
        → Contains (kept (all_but_below (asks_below body)) docs) (image m atom)
    to_kept m atom inside there =
        let (doc, in_all, is) = Contains-map_from (flat 0) docs (image m atom) there in
        subst (Contains (kept (all_but_below (asks_below body)) docs)) is
        (Contains-map (flat 0) (filter (is_kept (all_but_below (asks_below body))) docs) doc
        (Contains-filter (is_kept (all_but_below (asks_below body))) docs doc in_all (kept_there body m atom doc inside is)))

-- the rows of a query that was made before
pub asked_rows : (entries : Entries) (start : Node) (asked : AskedPattern) → IsAskedBy entries asked → (facts : List (Fact Term))
    → facts ≡ kept (all_but_below (asks_below asked.query.body)) (facts_from [] 0 (one start)) → (rows : List (List Term))
    → ((row : List Term) → Contains rows row
    ↔ IsAnswerInto Const (record { head = asked.query.head; body = asked.query.body }) (Contains facts) row)
    → AreRows entries start asked.variables.items rows
asked_rows entries start asked is facts facts_are rows told =
    are_rows entries start asked.variables.items is.variables (facts_of 0 0 (one start)) asked.query.body refl is.body rows
    (λ row.
    let same = answers_kept (facts_from [] 0 (one start)) (head_of asked.variables.items) asked.query.body row in
    let own : Contains rows row ↔ IsAnswerInto Const (record { head = head_of asked.variables.items; body = asked.query.body })
    (Contains (kept (all_but_below (asks_below asked.query.body)) (facts_from [] 0 (one start)))) row =
    subst (λ (head : List Term). Contains rows row ↔ IsAnswerInto Const (record { head = head; body = asked.query.body })
    (Contains (kept (all_but_below (asks_below asked.query.body)) (facts_from [] 0 (one start)))) row) is.head
    (subst (λ (them : List (Fact Term)). Contains rows row
    ↔ IsAnswerInto Const (record { head = asked.query.head; body = asked.query.body }) (Contains them) row)
    facts_are (told row)) in
    ((λ inside. same.0 (own.0 inside)), (λ answer. own.1 (same.1 answer))))
