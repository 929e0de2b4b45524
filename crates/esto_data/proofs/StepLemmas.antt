-- The steps of the commands on data.
use Rattle.std.proofs.Common.{◌≡◌, ◌<◌, ℕ, List, length, slice_get, Option, Some, None, Result, Ok, Err, refl, subst, arith}
use Rattle.std.specs.Prelude.{IfSome}
use Rattle.esto_mapping.specs.declared.catalogue.Catalogue.{Catalogue}
use Rattle.esto_run.specs.Fragments.{Stored, IsStoredAt}
use Rattle.esto_course.specs.Course.{Course, Stops, judges, gives, and_then}
use Rattle.esto_course.specs.Course.Stops.{is_free, refused}
use Rattle.esto_course.proofs.Asking.{quiet_gives, quiet_judges}
use Rattle.esto_course.proofs.Steps.{then_stops, then_goes, first_stops, gives_goes}
use Rattle.esto_docmodel.specs.declared.file.Store.{Store}
use Rattle.esto_fill.specs.Databases.{database_of}
use Rattle.esto_fill.specs.Filled.{Fills, IsOpenedAs}
use Rattle.esto_ports.specs.Marks.{without_mark}
use Rattle.esto_fill.specs.Texts.{IsFirstNodeColumn, IsFirstNodeView}
use Rattle.esto_ports.specs.declared.difference.Difference.{Difference}
use Rattle.esto_fill.specs.declared.filled.FillError.{FillError}
use Rattle.esto_fill.specs.declared.filled.FillError.TheVariants as filled
use Rattle.esto_ports.specs.Files.{Files}
use Rattle.esto_query.specs.Making.{query_of}
use Rattle.esto_semantics.specs.Queries.{IsAnswer}
use Rattle.esto_views.specs.Fragments.{views_of}
use Rattle.esto_semantics.specs.declared.fact.Fact.{Fact}
use Rattle.esto_semantics.specs.declared.fact.Value.{Value}
use Rattle.esto_term.specs.declared.term.Term.{Term}
use Rattle.esto_views.specs.declared.fragments.FragmentDef.{FragmentDef}
use Rattle.esto_data.specs.Answer.{lists_texts}
use Rattle.esto_status.specs.Answers.{IsWant, IsCaused}
use Rattle.esto_status.specs.Asked.{AsksIn}
use Rattle.esto_data.specs.Audit.{AuditsFiles, compares, judges_views}
use Rattle.esto_data.specs.Datasets.{Names, loads}
use Rattle.esto_data.specs.Fill.{IsRowOfView, fill_status, fills_file, fills_fragment}
use Rattle.esto_status.specs.declared.reply.Reply.{Reply}
use Rattle.esto_status.specs.declared.reply.Reply.TheVariants.{Done}
use Rattle.esto_status.proofs.AskedSteps.{exit_asks, later_asks, quiet_asks}
use Rattle.esto_status.proofs.Steps.{still_stops}
use Rattle.esto_term.proofs.ListLemmas.{thing_at}
use Rattle.esto_status.specs.declared.status.Status.{Status}
use Rattle.esto_status.specs.declared.status.Status.TheVariants as status

-- ---- `answer`

pub node_stops : (Rows : List Value → Type 0) (column : ℕ) → IsFirstNodeColumn Rows column
    → Stops IsWant (IsCaused ⊥) (lists_texts Rows) (status.NodeInRow column)
unfolding judges
node_stops Rows column first = refused (record { cause = tt }) (column, first, refl)

-- ---- `fill`

-- the cause that was given is one of the file's
pub fill_stops : (stored : Stored) (facts : List (Fact Term)) (cause : FillError) (said : Status)
    → Fills stored.store.shape (IsRowOfView stored.definition facts) (Err cause) → said ≡ fill_status cause
    → Stops IsWant (IsCaused ⊥) (fills_file stored facts) said
unfolding judges
fill_stops stored facts (filled.NodeInRow column) said fills is = rw is (refused (record { cause = tt }) (filled.NodeInRow column, fills, refl))
fill_stops stored facts (filled.KeyText cell) said fills is = rw is (refused (record { cause = tt }) (filled.KeyText cell, fills, refl))
fill_stops stored facts filled.OutOfMemory said fills is = is_free is

-- what is said of the fragment and the store at the number is said of them
both_at : (P : FragmentDef → Store → Type 0) (catalogue : Catalogue) (number : ℕ) (stored : Stored) → IsStoredAt catalogue number stored
    → IfSome (slice_get catalogue.fragments number) (λ definition. IfSome (slice_get catalogue.stores number) (λ store. P definition store))
    → P stored.definition stored.store
both_at P catalogue number stored at holds =
    subst (λ (it : Option Store). IfSome it (P stored.definition)) at.store
    (subst (λ (it : Option FragmentDef). IfSome it (λ definition. IfSome (slice_get catalogue.stores number) (P definition))) at.definition holds)

-- what came of filling the file
pub file_given : (catalogue : Catalogue) (number : ℕ) (stored : Stored) → IsStoredAt catalogue number stored → (facts : List (Fact Term))
    (result : Result (List ℕ) FillError)
    → IfSome (slice_get catalogue.fragments number) (λ definition. IfSome (slice_get catalogue.stores number) (λ store.
    Fills store.shape (IsAnswer (query_of definition.view) (database_of facts)) result))
    → Fills stored.store.shape (IsRowOfView stored.definition facts) result
file_given catalogue number stored at facts result =
    both_at (λ definition store. Fills store.shape (IsAnswer (query_of definition.view) (database_of facts)) result) catalogue number stored at

pub file_filled : (catalogue : Catalogue) (number : ℕ) (stored : Stored) → IsStoredAt catalogue number stored → (facts : List (Fact Term)) (text : List ℕ)
    → IfSome (slice_get catalogue.fragments number) (λ definition. IfSome (slice_get catalogue.stores number) (λ store.
    Fills store.shape (IsAnswer (query_of definition.view) (database_of facts)) (Ok text)))
    → IfSome (slice_get catalogue.fragments number) (λ definition. IfSome (slice_get catalogue.stores number) (λ store.
    IsOpenedAs store.shape (length definition.view.head) (IsAnswer (query_of definition.view) (database_of facts)) (without_mark text)))
    → (fills_file stored facts).goes text
unfolding judges
file_filled catalogue number stored at facts text filled opened = record {
  filled = file_given catalogue number stored at facts (Ok text) filled;
  opened = both_at (λ definition store. IsOpenedAs store.shape (length definition.view.head) (IsAnswer (query_of definition.view) (database_of facts))
      (without_mark text)) catalogue number stored at opened;
}

-- ---- `audit`

pub view_stops : (catalogue : Catalogue) (facts : List (Fact Term)) (column : ℕ) → IsFirstNodeView (views_of catalogue.fragments) (database_of facts) column
    → Stops IsWant (IsCaused ⊥) (judges_views catalogue facts) (status.NodeInRow column)
unfolding judges
view_stops catalogue facts column first = refused (record { cause = tt }) (column, first, refl)

pub differs_stops : (catalogue : Catalogue) (facts : List (Fact Term)) (contents : ℕ → List ℕ) (difference : Difference)
    → AuditsFiles catalogue facts contents (Some difference) → Stops IsWant (IsCaused ⊥) (compares catalogue facts contents) (status.Differs difference)
unfolding judges
differs_stops catalogue facts contents difference first = refused (record { cause = tt }) (difference, first, refl)

pub agrees_goes : (catalogue : Catalogue) (facts : List (Fact Term)) (contents : ℕ → List ℕ) → AuditsFiles catalogue facts contents None
    → (compares catalogue facts contents).goes tt
unfolding judges
agrees_goes catalogue facts contents agree = agree

-- the fragment of the number is stored
pub fragment_stored : (catalogue : Catalogue) (number : ℕ) (definition : FragmentDef) → number < length catalogue.fragments
    → slice_get catalogue.fragments number ≡ Some definition → length catalogue.stores ≡ length catalogue.fragments
    → (store : Store) × IsStoredAt catalogue number (record { definition = definition; store = store })
fragment_stored catalogue number definition below is many =
    let within : number < length catalogue.stores = omega (arith, below, many) in
    let found = thing_at catalogue.stores number within in
    (found.0, record { definition = is; store = found.1 })

module _ (files : Option Files) (catalogue : Catalogue) (number : ℕ) (stored : Stored) (at : IsStoredAt catalogue number stored) where
  -- from the stored fragment on, what follows
  abbrev fills_stored : Stored → Course Status Reply
  fills_stored it =
      and_then (loads files catalogue.datasets (Names (query_of it.definition.view).body)) (λ facts.
      and_then (fills_file it facts) (λ text. gives (Done text)))

  stored_stops : (rose : Type 0) (refusal : Status) → Stops IsWant (IsCaused rose) (fills_stored stored) refusal
      → Stops IsWant (IsCaused rose) (fills_fragment files catalogue number) refusal
  unfolding judges
  stored_stops rose refusal stops = then_stops (judges (IsStoredAt catalogue number) (λ _. ⊥)) fills_stored stored at stops

  -- the datasets are not loaded
  pub fill_unloaded : (rose : Type 0) (refusal : Status)
      → Stops IsWant (IsCaused rose) (loads files catalogue.datasets (Names (query_of stored.definition.view).body)) refusal
      → Stops IsWant (IsCaused rose) (fills_fragment files catalogue number) refusal
  fill_unloaded rose refusal stops = stored_stops rose refusal (first_stops _ _ stops)

  module _ (facts : List (Fact Term)) (loaded : (loads files catalogue.datasets (Names (query_of stored.definition.view).body)).goes facts) where
    -- the file is not filled, or is
    pub fill_unfilled : (rose : Type 0) (refusal : Status) → Stops IsWant (IsCaused ⊥) (fills_file stored facts) refusal
        → Stops IsWant (IsCaused rose) (fills_fragment files catalogue number) refusal
    fill_unfilled rose refusal stops = stored_stops rose refusal (then_stops _ _ facts loaded (still_stops _ _ stops))

    pub fill_goes : (text : List ℕ) → (fills_file stored facts).goes text → (reply : Reply) → reply ≡ Done text
        → (fills_fragment files catalogue number).goes reply
    unfolding judges
    fill_goes text filled reply is = then_goes (judges (IsStoredAt catalogue number) (λ _. ⊥)) fills_stored stored reply at
        (then_goes _ _ facts reply loaded (then_goes _ _ text reply filled (gives_goes Status _ reply is)))

  -- what is asked for, once the fragment is found
  abbrev then_fills : List (Fact Term) → Course Status Reply
  then_fills facts = and_then (fills_file stored facts) (λ text. gives (Done text))

  stored_asks : {before after : Option (List (List ℕ))} {result : Result Reply Status} → AsksIn before after (fills_stored stored) result
      → AsksIn before after (fills_fragment files catalogue number) result
  unfolding judges
  stored_asks {before = before} asks =
      later_asks (judges (IsStoredAt catalogue number) (λ _. ⊥)) fills_stored
      (quiet_asks (judges (IsStoredAt catalogue number) (λ _. ⊥)) before (Ok stored) (quiet_judges _ _) at) asks

  pub fill_unloaded_asks : {before after : Option (List (List ℕ))} (refusal : Status)
      → AsksIn before after (loads files catalogue.datasets (Names (query_of stored.definition.view).body)) (Err refusal)
      → AsksIn before after (fills_fragment files catalogue number) (Err refusal)
  fill_unloaded_asks refusal asks =
      stored_asks (exit_asks (loads files catalogue.datasets (Names (query_of stored.definition.view).body)) then_fills asks)

  module _ {before after : Option (List (List ℕ))} (facts : List (Fact Term))
      (loaded : AsksIn before after (loads files catalogue.datasets (Names (query_of stored.definition.view).body)) (Ok facts)) where
    loaded_asks : {result : Result Reply Status} → AsksIn after after (then_fills facts) result
        → AsksIn before after (fills_fragment files catalogue number) result
    loaded_asks asks = stored_asks (later_asks (loads files catalogue.datasets (Names (query_of stored.definition.view).body)) then_fills loaded asks)

    pub fill_unfilled_asks : (refusal : Status) → Stops IsWant (IsCaused ⊥) (fills_file stored facts) refusal
        → AsksIn before after (fills_fragment files catalogue number) (Err refusal)
    fill_unfilled_asks refusal stops = loaded_asks (exit_asks (fills_file stored facts) (λ text. gives (Done text))
        (quiet_asks (fills_file stored facts) after (Err refusal) (quiet_judges _ _) stops))

    pub fill_goes_asks : (text : List ℕ) → (fills_file stored facts).goes text
        → AsksIn before after (fills_fragment files catalogue number) (Ok (Done text))
    fill_goes_asks text filled = loaded_asks (later_asks (fills_file stored facts) (λ it. gives (Done it))
        (quiet_asks (fills_file stored facts) after (Ok text) (quiet_judges _ _) filled)
        (quiet_asks (gives (Done text)) after (Ok (Done text)) (quiet_gives Status (Done text)) (gives_goes Status (Done text) (Done text) refl)))
