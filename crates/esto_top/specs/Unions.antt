-- What `list` and `run` answer to a union of two or more queries where nothing is wrong with the files.
use Rattle.std.specs.Prelude.{◌≡◌, ℕ, ◌<◌, List, [], ◌∷◌, length, Option, codes}
use Rattle.esto_mapping.specs.declared.catalogue.Catalogue.{Catalogue}
use Rattle.esto_rewriting.specs.Exact.{ListsUnionExactly}
use Rattle.esto_rewriting.specs.RunExact.{RunsUnionExactly}
use Rattle.esto_opening.specs.Opening.{FilesSayCatalogue, FilesSayUnion}
use Rattle.esto_status.specs.declared.status.Status.{Status}
use Rattle.esto_status.specs.declared.status.Status.TheVariants as status
use Rattle.esto_ports.specs.Files.{Files}
use Rattle.esto_query.specs.declared.query.Query.{Query}
use Rattle.esto_top.specs.Call.{Call, HoldsOfPut, WhereTold}
use Rattle.esto_top.specs.Outcome.{Outcome}
use Rattle.esto_top.specs.Runs.{AsksRun}

-- The files say this catalogue, and a union of these queries over it, which are two or more.
pub record FilesSayQueries (files : Files) (catalogue_name query_name : List ℕ) (catalogue : Catalogue) (queries : List Query) : Type 0 where
  pub says_catalogue : FilesSayCatalogue files catalogue_name catalogue
  pub says_union : FilesSayUnion files query_name catalogue queries
  pub more : 1 < length queries

-- ---- outcomes

-- Each outcome of `list C Q` is exact, where the files say a catalogue and a union of two or more queries over it.
abbrev pub OutcomesAreUnionLists : Type 0
OutcomesAreUnionLists =
    (words : List (List ℕ)) (files : Files) (catalogue_name query_name : List ℕ) (catalogue : Catalogue) (queries : List Query) (said : Status)
    (text : List ℕ) → words ≡ codes "list" ∷ catalogue_name ∷ query_name ∷ [] → FilesSayQueries files catalogue_name query_name catalogue queries
    → Outcome words files said text → ListsUnionExactly catalogue queries said text

-- Each outcome of `run C Q` and `run C Q N` is exact, where the files say a catalogue and a union of two or more queries over it.
abbrev pub OutcomesAreUnionRuns : Type 0
OutcomesAreUnionRuns =
    (words : List (List ℕ)) (files : Files) (catalogue_name query_name : List ℕ) (number : Option ℕ) (catalogue : Catalogue) (queries : List Query)
    (said : Status) (text : List ℕ) → AsksRun words catalogue_name query_name number → FilesSayQueries files catalogue_name query_name catalogue queries
    → Outcome words files said text → RunsUnionExactly files catalogue queries number said text

-- ---- what the top call says

-- What `list C Q` puts is exact, or memory was refused and nothing put, where the files are told and say a catalogue and a union of two or more queries over
-- it, and neither count rose.
abbrev pub UnionListsWhereTold : Call → Type 0
UnionListsWhereTold call = WhereTold call (λ files.
    (catalogue_name query_name : List ℕ) (catalogue : Catalogue) (queries : List Query)
    → call.words ≡ codes "list" ∷ catalogue_name ∷ query_name ∷ [] → FilesSayQueries files catalogue_name query_name catalogue queries
    → HoldsOfPut (ListsUnionExactly catalogue queries) call)

-- What `run C Q` or `run C Q N` puts is exact, or memory was refused and nothing put, where the files are told and say a catalogue and a union of two or more
-- queries over it, and neither count rose.
abbrev pub UnionRunsWhereTold : Call → Type 0
UnionRunsWhereTold call = WhereTold call (λ files.
    (catalogue_name query_name : List ℕ) (number : Option ℕ) (catalogue : Catalogue) (queries : List Query)
    → AsksRun call.words catalogue_name query_name number → FilesSayQueries files catalogue_name query_name catalogue queries
    → HoldsOfPut (RunsUnionExactly files catalogue queries number) call)

-- ---- agreement

-- Where the files say a catalogue and a union of two or more queries over it, and over them `audit` and `run` are Done, each outcome of `answer` is Done with
-- the text of `run`.
abbrev pub UnionOutcomesAgree : Type 0
UnionOutcomesAgree =
    (words : List (List ℕ)) (files : Files) (catalogue_name query_name : List ℕ) (number : Option ℕ) (catalogue : Catalogue) (queries : List Query)
    (audited ran answered : List ℕ) (said : Status) → FilesSayQueries files catalogue_name query_name catalogue queries
    → Outcome (codes "audit" ∷ catalogue_name ∷ []) files status.Done audited
    → AsksRun words catalogue_name query_name number → Outcome words files status.Done ran
    → Outcome (codes "answer" ∷ catalogue_name ∷ query_name ∷ []) files said answered
    → (said ≡ status.Done) × (answered ≡ ran)
