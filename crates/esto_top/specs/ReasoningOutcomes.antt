-- What `contains` and `minimise` answer where nothing is wrong with the files.
use Rattle.std.specs.Prelude.{◌≡◌, ℕ, List, [], ◌∷◌, codes}
use Rattle.esto_mapping.specs.declared.catalogue.Catalogue.{Catalogue}
use Rattle.esto_opening.specs.Opening.{FilesSayQuery}
use Rattle.esto_ports.specs.Files.{Files}
use Rattle.esto_query.specs.declared.query.Query.{Query}
use Rattle.esto_status.specs.declared.status.Status.{Status}
use Rattle.esto_reasoning.specs.Exact.{IsExactContains, IsExactMinimise}
use Rattle.esto_top.specs.Call.{Call, HoldsOfPut, WhereTold}
use Rattle.esto_top.specs.Headline.{FilesSay}
use Rattle.esto_top.specs.Outcome.{Outcome}

-- ---- outcomes

-- Each outcome of `contains C L R` is exact, where the files say a catalogue and two queries over it.
abbrev pub OutcomesAreContainments : Type 0
OutcomesAreContainments =
    (words : List (List ℕ)) (files : Files) (catalogue_name left_name right_name : List ℕ) (catalogue : Catalogue) (left right : Query) (said : Status)
    (text : List ℕ) → words ≡ codes "contains" ∷ catalogue_name ∷ left_name ∷ right_name ∷ [] → FilesSay files catalogue_name left_name catalogue left
    → FilesSayQuery files right_name catalogue right → Outcome words files said text
    → IsExactContains catalogue left right said text

-- Each outcome of `minimise C Q` is exact, where the files say a catalogue and a query over it.
abbrev pub OutcomesAreMinimised : Type 0
OutcomesAreMinimised =
    (words : List (List ℕ)) (files : Files) (catalogue_name query_name : List ℕ) (catalogue : Catalogue) (query : Query) (said : Status) (text : List ℕ)
    → words ≡ codes "minimise" ∷ catalogue_name ∷ query_name ∷ [] → FilesSay files catalogue_name query_name catalogue query → Outcome words files said text
    → IsExactMinimise catalogue query said text

-- ---- what the top call says

-- What `contains C L R` puts is exact, or memory was refused and nothing put, where the files are told and say a catalogue and two queries over it, and neither
-- count rose.
abbrev pub ContainsWhereTold : Call → Type 0
ContainsWhereTold call = WhereTold call (λ files.
    (catalogue_name left_name right_name : List ℕ) (catalogue : Catalogue) (left right : Query)
    → call.words ≡ codes "contains" ∷ catalogue_name ∷ left_name ∷ right_name ∷ [] → FilesSay files catalogue_name left_name catalogue left
    → FilesSayQuery files right_name catalogue right
    → HoldsOfPut (IsExactContains catalogue left right) call)

-- What `minimise C Q` puts is exact, or memory was refused and nothing put, where the files are told and say a catalogue and a query over it, and neither count
-- rose.
abbrev pub MinimisesWhereTold : Call → Type 0
MinimisesWhereTold call = WhereTold call (λ files.
    (catalogue_name query_name : List ℕ) (catalogue : Catalogue) (query : Query)
    → call.words ≡ codes "minimise" ∷ catalogue_name ∷ query_name ∷ [] → FilesSay files catalogue_name query_name catalogue query
    → HoldsOfPut (IsExactMinimise catalogue query) call)
