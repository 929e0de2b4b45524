-- What `audit` says of a catalogue.
use Rattle.std.specs.Prelude.{◌≡◌, ◌↔◌, ℕ, List, ◌++◌, length, map, codes, slice_get, Option, Some, None, Result, Ok, Err}
use Rattle.std.specs.Fmt.{decimal}
use Rattle.std.specs.List.{range_with_len}
use Rattle.esto_mapping.specs.declared.catalogue.Catalogue.{Catalogue}
use Rattle.esto_docmodel.specs.declared.file.Shape.{Shape}
use Rattle.esto_docmodel.specs.declared.file.Store.{Store}
use Rattle.esto_run.specs.Fragments.{opens_fragment, opens_fragments}
use Rattle.esto_constraint.specs.Constraints.{rules_of}
use Rattle.esto_constraint.specs.EncodingRules.{written}
use Rattle.esto_columns.specs.CodedRows.{CodedRows}
use Rattle.esto_course.specs.Course.{Course, Names, Stops, judges, gives, and_then}
use Rattle.esto_data.specs.Coding.{AddsList, AreCodedLists}
use Rattle.esto_fill.specs.Databases.{database_of}
use Rattle.esto_fill.specs.Differences.{Audits}
use Rattle.esto_fill.specs.Files.{AreReadable}
use Rattle.esto_fill.specs.Texts.{AreTextViews, IsFirstNodeView}
use Rattle.esto_data.specs.declared.coded_data.CodedData.{CodedData}
use Rattle.esto_fill.specs.declared.datasets.DatasetBytes.{DatasetBytes}
use Rattle.esto_fill.specs.declared.wanted.Wanted.{Wanted}
use Rattle.esto_ports.specs.declared.difference.Difference.{Difference}
use Rattle.esto_steps.specs.Rows.{IsRowOf, held_by}
use Rattle.esto_ports.specs.Files.{Files}
use Rattle.esto_docs.specs.Stores.{IsFileRow, IsRowIn}
use Rattle.esto_semantics.specs.declared.fact.Fact.{Fact}
use Rattle.esto_stores.specs.Rows.{Row}
use Rattle.esto_term.specs.declared.term.Term.{Term}
use Rattle.esto_views.specs.Fragments.{views_of}
use Rattle.esto_status.specs.Answers.{IsWant, IsCaused}
use Rattle.esto_status.specs.Asked.{AsksIn}
use Rattle.esto_data.specs.Datasets.{AreFactsOfFiles, AreLawful, HoldsFiles, IsAny, loads}
use Rattle.esto_data.specs.Fill.{names_of}
use Rattle.esto_status.specs.declared.reply.Reply.{Reply}
use Rattle.esto_status.specs.declared.reply.Reply.TheVariants.{Done}
use Rattle.esto_status.specs.declared.status.Status.{Status}
use Rattle.esto_status.specs.declared.status.Status.TheVariants.{Differs, NodeInRow}

-- ---- the text

-- The text of `audit`: how many constraints of its own and how many fragments the catalogue has, and that all agrees.
abbrev pub audit_text : Catalogue → List ℕ
audit_text catalogue =
    codes "constraints " ++ (decimal catalogue.given ++ (codes "\nfragments " ++ (decimal (length catalogue.fragments) ++ codes "\nagree\n")))

-- ---- the steps

-- The rows of all views over the facts are rows of texts; or of the first view of which one is not, this is the least
-- column.
abbrev pub judges_views : Catalogue → List (Fact Term) → Course Status (Unit {0})
judges_views catalogue facts =
    judges (λ _. AreTextViews (views_of catalogue.fragments) (database_of facts))
    (λ refusal. (column : ℕ) × IsFirstNodeView (views_of catalogue.fragments) (database_of facts) column × (refusal ≡ NodeInRow column))

-- The numbers of all fragments, in order.
abbrev pub all_fragments : Catalogue → List ℕ
all_fragments catalogue = range_with_len 0 (length catalogue.fragments)

-- The audit of the facts and of the fragments' files comes to this end.
abbrev pub AuditsFiles : Catalogue → List (Fact Term) → (ℕ → List ℕ) → Option Difference → Type 0
AuditsFiles catalogue facts contents outcome =
    Audits (rules_of catalogue.rules) (map written catalogue.rules) (names_of catalogue.fragments) (views_of catalogue.fragments) facts
    (IsFileRow catalogue.stores contents) outcome

-- The facts meet the rules, and the fragments' files hold the rows of their views; or there is a first difference.
abbrev pub compares : Catalogue → List (Fact Term) → (ℕ → List ℕ) → Course Status (Unit {0})
compares catalogue facts contents =
    judges (λ _. AuditsFiles catalogue facts contents None)
    (λ refusal. (difference : Difference) × AuditsFiles catalogue facts contents (Some difference) × (refusal ≡ Differs difference))

-- The views of the facts are judged, the files of all fragments opened, and both compared; the text is the reply.
abbrev pub audits_facts : Option Files → Catalogue → List (Fact Term) → Course Status Reply
audits_facts files catalogue facts =
    and_then (judges_views catalogue facts) (λ _.
    and_then (opens_fragments files catalogue (all_fragments catalogue)) (λ contents.
    and_then (compares catalogue facts contents) (λ _.
    gives (Done (audit_text catalogue)))))

-- All datasets are loaded, and audited.
abbrev pub audits_catalogue : Option Files → Catalogue → Course Status Reply
audits_catalogue files catalogue = and_then (loads files catalogue.datasets IsAny) (audits_facts files catalogue)

-- The files of all fragments are opened, and compared with the facts; the text is the reply.
abbrev pub audits_rows : Option Files → Catalogue → List (Fact Term) → Course Status Reply
audits_rows files catalogue facts =
    and_then (opens_fragments files catalogue (all_fragments catalogue)) (λ contents.
    and_then (compares catalogue facts contents) (λ _.
    gives (Done (audit_text catalogue))))

-- The facts and the contents of the fragments' files are compared; the text is the reply.
abbrev pub tells : Catalogue → List (Fact Term) → (ℕ → List ℕ) → Course Status Reply
tells catalogue facts contents = and_then (compares catalogue facts contents) (λ _. gives (Done (audit_text catalogue)))

-- ---- what functions answer

-- The facts to audit are those of the files, which have no fault, and they meet the laws.
pub record AreFactsToAudit (catalogue : Catalogue) (files : List DatasetBytes) (facts : List (Fact Term)) : Type 0 where
  pub readable : AreReadable catalogue.datasets files
  pub are : AreFactsOfFiles catalogue.datasets files facts
  pub lawful : AreLawful catalogue.datasets facts

-- The rows of codes stand for what is left of the facts to audit, and the rows of the views over these are rows of
-- texts.
pub record HoldsAudit (catalogue : Catalogue) (wanted : Wanted) (files : List DatasetBytes) (facts : List (Fact Term)) (coded : CodedData) : Type 0 where
  pub held : HoldsFiles catalogue.datasets wanted facts files coded
  pub texts : AreTextViews (views_of catalogue.fragments) (database_of facts)

-- The lists of rows, one for each fragment, are the rows of the contents of the fragments' files.
pub record AreRowsOfFiles (catalogue : Catalogue) (contents : ℕ → List ℕ) (rows : List (List Row)) : Type 0 where
  pub many : length rows ≡ length catalogue.fragments
  pub are : (fact : Fact (List ℕ)) → IsRowOf (held_by rows) fact ↔ IsFileRow catalogue.stores contents fact

-- The lists of rows of codes are those of the rows of the contents of the fragments' files.
pub record HoldContents (catalogue : Catalogue) (contents : ℕ → List ℕ) (texts : List (List ℕ)) (lists : List CodedRows) : Type 0 where
  pub rows : List (List Row)
  pub coded : AreCodedLists texts lists rows
  pub are : AreRowsOfFiles catalogue contents rows

-- The rows of codes of all fragments are those of their files, all of which were opened; or the course stops. To the
-- names that were asked for came those for which it asked.
abbrev pub OpensRows : Option Files → Catalogue → List (List ℕ) → Type 0 → Option Names → Option Names → Result (List CodedRows) Status → Type 0
OpensRows files catalogue texts rose before after (Ok lists) =
    (contents : ℕ → List ℕ) × (opens_fragments files catalogue (all_fragments catalogue)).goes contents × HoldContents catalogue contents texts lists
    × AsksIn before after (opens_fragments files catalogue (all_fragments catalogue)) (Ok contents)
OpensRows files catalogue texts rose before after (Err refusal) =
    Stops IsWant (IsCaused rose) (opens_fragments files catalogue (all_fragments catalogue)) refusal
    × AsksIn before after (opens_fragments files catalogue (all_fragments catalogue)) (Err refusal)

-- To the lists of rows of codes came that of the rows that the bytes say in this shape.
abbrev pub AddsRows : Shape → List ℕ → List (List ℕ) → List (List ℕ) → List CodedRows → List CodedRows → Type 0
AddsRows shape bytes texts more old new = AddsList (IsRowIn shape bytes) texts more old new

-- The file of the fragment of the number was opened, and its rows came to those that were there; or the course stops.
-- To the names that were asked for came those for which it asked.
abbrev pub OpensNextRows : Option Files → Catalogue → ℕ → List (List ℕ) → List (List ℕ) → List CodedRows → List CodedRows → Type 0 → Option Names → Option Names
    → Result (Unit {0}) Status → Type 0
OpensNextRows files catalogue number texts more old new rose before after (Ok _) =
    (bytes : List ℕ) × (store : Store) × (opens_fragment files catalogue number).goes bytes × (slice_get catalogue.stores number ≡ Some store)
    × AddsRows store.shape bytes texts more old new × AsksIn before after (opens_fragment files catalogue number) (Ok bytes)
OpensNextRows files catalogue number texts more old new rose before after (Err refusal) =
    Stops IsWant (IsCaused rose) (opens_fragment files catalogue number) refusal × AsksIn before after (opens_fragment files catalogue number) (Err refusal)
