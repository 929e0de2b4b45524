-- The facts of rows have as many columns as the rows.
use Rattle.std.proofs.Common.{◌≡◌, ℕ, List, length, get_or, Contains, ◌∙◌, subst}
use Rattle.std.specs.Prelude.{All}
use Rattle.std.proofs.lemmas.List.{length-map}
use Rattle.std.proofs.lemmas.List.Elements.{Contains-get_or}
use Rattle.esto_term.proofs.ListLemmas.{Contains-map_from}
use Rattle.esto_term.specs.declared.term.Term.{Term}
use Rattle.esto_term.specs.declared.term.Term.TheVariants.{Const}
use Rattle.esto_semantics.specs.declared.fact.Fact.{Fact}
use Rattle.esto_relmodel.specs.RowFacts.{row_fact, AreRowFacts}

pub columns_of : (relation count : ℕ) (rows : List (List (List ℕ))) (facts : List (Fact Term)) → All (λ row. length row ≡ count) rows
    → AreRowFacts relation rows facts
    → All (λ (fact : Fact Term). length fact.terms ≡ count) facts
columns_of relation count rows facts wide (kept, once, are) k d within =
    let inside : Contains facts (get_or facts k d) = Contains-get_or facts k d within in
    let from = Contains-map_from (row_fact relation) kept (get_or facts k d) (subst (λ those. Contains those (get_or facts k d)) are inside) in
    let row_in = (once.same from.0).0 from.1 in
    let long : length from.0 ≡ count = subst (λ row. length row ≡ count) row_in.2 (wide row_in.0 from.0 row_in.1) in
    subst (λ (fact : Fact Term). length fact.terms ≡ count) from.2 (length-map from.0 Const ∙ long)
