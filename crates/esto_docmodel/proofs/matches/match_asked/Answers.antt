use Rattle.std.proofs.Common.{◌≡◌, ℕ, List, map, suc, length, Contains, AllPairs, ap, sym, ◌∙◌, subst}
use Rattle.std.proofs.lemmas.Result.{IfOk-weaker}
use Rattle.esto_term.specs.declared.term.Term.{Term}
use Rattle.esto_semantics.specs.Valuations.{Assignment}
use Rattle.esto_docmodel.specs.Matching.{valuation_of}
use Rattle.esto_docmodel.specs.Shapes.{shape, entries_of}
use Rattle.esto_docmodel.specs.Valuations.{AreMatches, BindsVariables, GivesTexts, ComesBefore}
use Rattle.esto_docmodel.proofs.MatchLemmas.{are_matches, bind_variables, give_texts, are_ascending, rows_long}
use Rattle.esto_docmodel.proofs.matches.match_asked.Goals as goal

valuations_are : (lent variables : List ℕ) (shown rows : List (List Term)) (all : List Assignment) → all ≡ map (valuation_of lent) shown
    → lent ≡ variables → shown ≡ rows → map (valuation_of variables) rows ≡ all
valuations_are lent variables shown rows all is held listed = sym (is ∙ (λ i. map (valuation_of (held i)) (listed i)))

pub valuations_of-requires : goal.valuations_of-requires
valuations_of-requires c row inside =
    let entries = entries_of c.args.pattern.now.entries in
    let variables = c.args.asked.now.variables.items in
    let told = c.in_ok-rows.ensures.rows in
    rows_long entries (shape c.args.tree.now) variables c.in_ok-rows.rows c.requires.variables told row
    (subst (λ (rows : List (List Term)). Contains rows row) c.items.ensures inside)
    ∙ ap (λ (vs : List ℕ). suc (length vs)) (sym c.as_slice.ensures.value)

pub returns-clause-matches : goal.returns-clause-matches
returns-clause-matches c =
    let entries = entries_of c.args.pattern.now.entries in
    let variables = c.args.asked.now.variables.items in
    let told = c.in_ok-rows.ensures.rows in
    IfOk-weaker c.valuations_of.result _ _ (λ all is.
    subst (λ (them : List Assignment). AreMatches entries (shape c.args.tree.now) them)
    (valuations_are _ _ _ _ all is c.as_slice.ensures.value c.items.ensures)
    (are_matches entries (shape c.args.tree.now) variables c.in_ok-rows.rows c.requires.variables told c.requires.flat)) c.valuations_of.ensures

pub returns-clause-variables : goal.returns-clause-variables
returns-clause-variables c =
    let entries = entries_of c.args.pattern.now.entries in
    let variables = c.args.asked.now.variables.items in
    let told = c.in_ok-rows.ensures.rows in
    IfOk-weaker c.valuations_of.result _ _ (λ all is.
    subst (λ (them : List Assignment). (valuation : Assignment) → Contains them valuation → BindsVariables entries valuation)
    (valuations_are _ _ _ _ all is c.as_slice.ensures.value c.items.ensures)
    (bind_variables entries (shape c.args.tree.now) variables c.in_ok-rows.rows c.requires.variables told)) c.valuations_of.ensures

pub returns-clause-texts : goal.returns-clause-texts
returns-clause-texts c =
    let entries = entries_of c.args.pattern.now.entries in
    let variables = c.args.asked.now.variables.items in
    let told = c.in_ok-rows.ensures.rows in
    IfOk-weaker c.valuations_of.result _ _ (λ all is.
    subst (λ (them : List Assignment). (valuation : Assignment) → Contains them valuation → GivesTexts valuation)
    (valuations_are _ _ _ _ all is c.as_slice.ensures.value c.items.ensures)
    (give_texts entries (shape c.args.tree.now) variables c.in_ok-rows.rows c.requires.variables told)) c.valuations_of.ensures

pub returns-clause-ascending : goal.returns-clause-ascending
returns-clause-ascending c =
    let entries = entries_of c.args.pattern.now.entries in
    let variables = c.args.asked.now.variables.items in
    let told = c.in_ok-rows.ensures.rows in
    IfOk-weaker c.valuations_of.result _ _ (λ all is.
    subst (λ (them : List Assignment). AllPairs ComesBefore them)
    (valuations_are _ _ _ _ all is c.as_slice.ensures.value c.items.ensures)
    (are_ascending entries (shape c.args.tree.now) variables c.in_ok-rows.rows c.requires.ascending told c.in_ok-rows.ensures.ascending))
    c.valuations_of.ensures
