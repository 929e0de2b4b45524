-- What the run of a union asks of the shelf.
use Rattle.std.proofs.Common.{ℕ, List, Option, Some, None, Result, Ok, Err, refl}
use Rattle.esto_mapping.specs.declared.catalogue.Catalogue.{Catalogue}
use Rattle.esto_chase_laws.specs.declared.clash.Clash.{Clash}
use Rattle.esto_course.specs.Course.{Names, Stops, judges, gives}
use Rattle.esto_course.specs.Course.Stops.{is_free}
use Rattle.esto_course.proofs.Asking.{quiet_gives, quiet_judges}
use Rattle.esto_course.proofs.Steps.{gives_goes}
use Rattle.esto_status.specs.Answers.{IsCaused, IsWant}
use Rattle.esto_status.specs.Asked.{AsksIn}
use Rattle.esto_run.specs.Fragments.{opens_fragments}
use Rattle.esto_status.specs.declared.reply.Reply.{Reply}
use Rattle.esto_status.specs.declared.reply.Reply.TheVariants.{Done}
use Rattle.esto_status.specs.declared.status.Status.{Status}
use Rattle.esto_status.specs.declared.status.Status.TheVariants.{OutOfMemory}
use Rattle.esto_status.proofs.AskedSteps.{accepted, exit_asks, later_asks, quiet_asks, wanted}
use Rattle.esto_ports.specs.Files.{Files}
use Rattle.esto_query.specs.declared.query.Query.{Query}
use Rattle.esto_run.specs.Used.{AreUsedByAll}
use Rattle.esto_semantics.specs.Queries.{ConjunctiveQuery}
use Rattle.esto_rewriting.specs.List.{makes_members}
use Rattle.esto_rewriting.specs.Members.{AreMembersOf, ClashAt, HavePlan}
use Rattle.esto_rewriting.specs.Run.{AreChosen, IsNoRows, IsUnionRunText, chooses_each, ends_members, runs_chosen, runs_end, runs_members, runs_union}
use Rattle.esto_rewriting.specs.declared.members.Member.{Member}

-- ---- what is chosen

module _ (files : Option Files) (catalogue : Catalogue) (queries : List Query) (others : List ConjunctiveQuery) where
  -- memory is wanting before a file is fetched
  pub chosen_wants : (told : Option Names) → AsksIn told told (runs_chosen files catalogue queries others) (Err OutOfMemory)
  chosen_wants told = wanted told _ _ _

  module _ (numbers : List ℕ) (used : AreUsedByAll others numbers) {old new : Option Names} where
    -- a file of theirs is not opened
    pub chosen_exit_asks : (refusal : Status) → AsksIn old new (opens_fragments files catalogue numbers) (Err refusal)
        → AsksIn old new (runs_chosen files catalogue queries others) (Err refusal)
    chosen_exit_asks refusal asked = later_asks _ _ (accepted old _ _ numbers used) (exit_asks _ _ asked)

    module _ (contents : ℕ → List ℕ) (opened : AsksIn old new (opens_fragments files catalogue numbers) (Ok contents)) where
      -- all are opened, and the text is made
      pub chosen_asks : (text : List ℕ) → IsUnionRunText catalogue queries others contents text
          → AsksIn old new (runs_chosen files catalogue queries others) (Ok (Done text))
      chosen_asks text is = later_asks _ _ (accepted old _ _ numbers used) (later_asks _ _ opened (later_asks _ _ (accepted new _ _ text is)
          (quiet_asks (gives (Done text)) new (Ok (Done text)) (quiet_gives Status (Done text)) (gives_goes Status (Done text) (Done text) refl))))

      -- or memory is wanting for it
      pub chosen_text_wants : AsksIn old new (runs_chosen files catalogue queries others) (Err OutOfMemory)
      chosen_text_wants = later_asks _ _ (accepted old _ _ numbers used) (later_asks _ _ opened (wanted new _ _ _))

-- ---- members

module _ (files : Option Files) (catalogue : Catalogue) (queries : List Query) (number : Option ℕ) (members : List Member) where
  -- memory is wanting for the clash
  pub end_wants : (told : Option Names) → AsksIn told told (runs_members files catalogue queries number members) (Err OutOfMemory)
  end_wants told = wanted told _ _ _

  module _ (told : Option Names) (clash : Clash) (at : ClashAt members clash) where
    -- none has a plan
    pub clash_asks : (reply : Reply) → IsNoRows queries clash reply → AsksIn told told (runs_members files catalogue queries number members) (Ok reply)
    clash_asks reply is = later_asks (ends_members members) (runs_end files catalogue queries number members) (accepted told _ _ (Some clash) at)
        (accepted told (IsNoRows queries clash) (λ _. ⊥) reply is)

    -- and memory is wanting for its text
    pub clash_wants : AsksIn told told (runs_members files catalogue queries number members) (Err OutOfMemory)
    clash_wants = later_asks (ends_members members) (runs_end files catalogue queries number members) (accepted told _ _ (Some clash) at)
        (quiet_asks (judges (IsNoRows queries clash) (λ _. ⊥)) told (Err OutOfMemory) (quiet_judges _ _) (is_free refl))

  module _ (some : HavePlan members) where
    -- no sets are chosen
    pub choice_asks : (told : Option Names) (refusal : Status) → Stops IsWant (IsCaused ⊥) (chooses_each members number) refusal
        → AsksIn told told (runs_members files catalogue queries number members) (Err refusal)
    choice_asks told refusal stops = later_asks (ends_members members) (runs_end files catalogue queries number members) (accepted told _ _ None some)
        (exit_asks _ _ (quiet_asks (chooses_each members number) told (Err refusal) (quiet_judges _ _) stops))

    -- those that are chosen are run
    pub picks_ask : {old new : Option Names} (others : List ConjunctiveQuery) → AreChosen number members others → (result : Result Reply Status)
        → AsksIn old new (runs_chosen files catalogue queries others) result → AsksIn old new (runs_members files catalogue queries number members) result
    picks_ask {old = old} others chosen result asked =
        later_asks (ends_members members) (runs_end files catalogue queries number members) (accepted old _ _ None some)
        (later_asks (chooses_each members number) (runs_chosen files catalogue queries) (accepted old _ _ others chosen) asked)

-- ---- the union

module _ (files : Option Files) (catalogue : Catalogue) (queries : List Query) (number : Option ℕ) where
  -- memory is wanting for the members
  pub union_wants : (told : Option Names) → AsksIn told told (runs_union files catalogue queries number) (Err OutOfMemory)
  union_wants told = wanted told _ _ _

  -- they are run
  pub union_asks : {old new : Option Names} (members : List Member) → AreMembersOf catalogue queries members → (result : Result Reply Status)
      → AsksIn old new (runs_members files catalogue queries number members) result → AsksIn old new (runs_union files catalogue queries number) result
  union_asks {old = old} members are result asked =
      later_asks (makes_members catalogue queries) (runs_members files catalogue queries number) (accepted old _ _ members are) asked
