-- The rows of fragments as rows of codes and as rows of texts, and what is compared.
use Rattle.std.proofs.Common.{◌≡◌, ◌↔◌, ◌<◌, ◌+◌, inl, inr, ℕ, List, [], ◌∷◌, length, map, slice_get, Contains, Some}
use Rattle.std.proofs.Common.{refl, sym, subst, ◌∙◌}
use Rattle.std.proofs.lemmas.List.{length-map}
use Rattle.std.proofs.lemmas.Option.{same_Some, slice_get_within}
use Rattle.esto_mapping.specs.declared.catalogue.Catalogue.{Catalogue}
use Rattle.esto_mapping.specs.declared.dataset.Dataset.{Dataset}
use Rattle.esto_columns.specs.CodedRows.{CodedRows}
use Rattle.esto_columns.specs.Interned.{AreCodedRows, AreCodesOf, Grows}
use Rattle.esto_columns.proofs.CodingLemmas.{rows_grow}
use Rattle.esto_constraint.specs.Constraints.{rule_of, rules_of}
use Rattle.esto_constraint.specs.declared.rule.Constraint.{Constraint}
use Rattle.esto_data.specs.Coding.{AreCodedLists}
use Rattle.esto_fill.specs.Files.{AreFactsFrom, IsLoadedFrom, nodes_in}
use Rattle.esto_fill.specs.Laws.{FactsAreOne}
use Rattle.esto_fill.specs.Trials.{IsEnoughFor, IsTrialOf}
use Rattle.esto_fill.specs.Wanted.{Leaves}
use Rattle.esto_fill.specs.declared.datasets.DatasetBytes.{DatasetBytes}
use Rattle.esto_fill.specs.declared.loaded.Loaded.{Loaded}
use Rattle.esto_fill.specs.declared.trial.Trial.{Trial}
use Rattle.esto_run.proofs.HeldLemmas.{code_below, text_of_codes}
use Rattle.esto_semantics.specs.Rules.{Rule}
use Rattle.esto_semantics.specs.declared.fact.Fact.{Fact}
use Rattle.esto_stores.specs.Rows.{Row}
use Rattle.esto_term.proofs.ListLemmas.{Contains-cases, Contains-map, Contains-map_from, Contains-nil, map_one}
use Rattle.esto_term.proofs.ZipLemmas.{zip_at, zip_length, zip_weaker}
use Rattle.esto_term.specs.declared.term.Term.{Term}
use Rattle.esto_query.specs.Making.{query_of}
use Rattle.esto_views.specs.Fragments.{views_of}
use Rattle.esto_views.specs.declared.fragments.FragmentDef.{FragmentDef}
use Rattle.esto_data.specs.Audit.{AreFactsToAudit, HoldContents}
use Rattle.esto_data.specs.Datasets.{AreNumbered}
use Rattle.esto_data.proofs.WantedLemmas.{enough_left}

-- ---- rows of codes

lists_grow : (old new : List (List ℕ)) → Grows old new → (lists : List CodedRows) (rows : List (List Row)) → AreCodedLists old lists rows
    → AreCodedLists new lists rows
lists_grow old new grown lists rows coded =
    zip_weaker _ _ lists rows (λ own its inside are. rows_grow old new own.rows its grown are) coded

module _ (catalogue : Catalogue) (contents : ℕ → List ℕ) (texts : List (List ℕ)) (lists : List CodedRows)
    (held : HoldContents catalogue contents texts lists) where
  pub contents_grow : (more : List (List ℕ)) → Grows texts more → HoldContents catalogue contents more lists
  contents_grow more grown = record { rows = held.rows; coded = lists_grow texts more grown lists held.rows held.coded; are = held.are }

  -- these are the same rows
  pub contents_rows : (more : List (List ℕ)) (grown : Grows texts more) → held.rows ≡ (contents_grow more grown).rows
  unfolding contents_grow
  contents_rows more grown = refl

  pub contents_many : length lists ≡ length catalogue.fragments
  contents_many = zip_length _ lists held.rows held.coded ∙ held.are.many

-- a rule that is there has a number below how many there are
pub rule_within : (rules : List Constraint) (number : ℕ) (rule : Rule) → slice_get (rules_of rules) number ≡ Some rule → number < length rules
rule_within rules number rule there =
    subst (λ long. number < long) (length-map rules rule_of) (slice_get_within (rules_of rules) number rule there)

pub fragment_within : (fragments : List FragmentDef) (number : ℕ) → number < length (views_of fragments) → number < length fragments
fragment_within fragments number within =
    subst (λ long. number < long) (length-map fragments (λ (it : FragmentDef). query_of it.view)) within

-- ---- their texts

module _ (texts coded : List (List ℕ)) (rows : List Row) (are : AreCodedRows texts coded rows) where
  -- each code is that of a text
  pub codes_below : (codes : List ℕ) → Contains coded codes → (code : ℕ) → Contains codes code → code < length texts
  codes_below codes inside code within =
      let found = text_of_codes texts coded rows are codes inside in code_below texts codes found.0 found.2 code within

  -- the rows that they say are the rows of which they are the codes
  rows_said : (row : Row) → ((own : List ℕ) × Contains coded own × AreCodesOf texts own row) ↔ Contains rows row
  rows_said row = (
    (λ (own, inside, codes).
        let found = text_of_codes texts coded rows are own inside in
        subst (Contains rows) (map_one Some (λ one other same. same_Some one other same) found.0 row (sym found.2 ∙ codes)) found.1),
    (λ inside.
        let found = Contains-map_from (map (slice_get texts)) coded (map Some row)
        (subst (λ (it : List (List _)). Contains it (map Some row)) (sym are) (Contains-map (map Some) rows row inside)) in
        (found.0, found.1, found.2)),
  )

  -- what is shown of them are those rows
  pub shown_said : (shown : List Row) → ((row : Row) → Contains shown row ↔ ((own : List ℕ) × Contains coded own × AreCodesOf texts own row))
      → (row : Row) → Contains shown row ↔ Contains rows row
  shown_said shown says row = ((λ inside. (rows_said row).0 ((says row).0 inside)), (λ inside. (says row).1 ((rows_said row).1 inside)))

-- the rows of codes at a place have their rows of texts
pub texts_there : (texts : List (List ℕ)) (coded : List CodedRows) (index : ℕ) (its : CodedRows) → slice_get coded index ≡ Some its
    → (lists : List (List Row)) → AreCodedLists texts coded lists → (own : List Row) × AreCodedRows texts its.rows own
texts_there texts coded index its at lists are = let found = zip_at _ coded lists are index its at in (found.0, found.2)

-- ---- files that are loaded again

module _ (one : FactsAreOne) (catalogue : Catalogue) (trial : Trial) (tries : IsTrialOf catalogue trial) (files : List DatasetBytes)
    (facts : List (Fact Term)) (audited : AreFactsToAudit catalogue files facts) (loaded : Loaded)
    (again : IsLoadedFrom catalogue.datasets trial.wanted files loaded) where
  -- what is loaded of them is enough
  pub again_enough : IsEnoughFor catalogue (rules_of trial.laws) facts loaded.facts
  again_enough =
      let (others, are, leaves, rising) = again in
      let same = (one catalogue.datasets 0 files others facts loaded.next audited.are.next are audited.are.are).0 in
      enough_left catalogue trial tries facts loaded.facts
      (subst (λ (it : List (Fact Term)). Leaves trial.wanted it loaded.facts) same leaves) audited.lawful

-- each of the files of facts is that of a dataset
numbered : (datasets : List Dataset) (first : ℕ) (files : List DatasetBytes) (facts : List (Fact Term)) (next : ℕ)
    → AreFactsFrom datasets first files facts next → AreNumbered datasets files
numbered datasets first [] facts next are file inside = absurd (Contains-nil file inside)
numbered datasets first (own ∷ files) facts next (dataset, its, others, at, is, rest, both) file inside =
    let later = numbered datasets (first + nodes_in dataset own.bytes) files others next rest in
    elim (Contains-cases own files file inside) [
      | inl same ↦ subst (λ (it : DatasetBytes). it.dataset < length datasets) same (slice_get_within datasets own.dataset dataset at)
      | inr among ↦ later file among
    ]

pub files_numbered : (catalogue : Catalogue) (files : List DatasetBytes) (facts : List (Fact Term)) → AreFactsToAudit catalogue files facts
    → AreNumbered catalogue.datasets files
files_numbered catalogue files facts audited = numbered catalogue.datasets 0 files facts audited.are.next audited.are.are
