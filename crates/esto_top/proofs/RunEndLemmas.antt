-- The steps of `list` and of `run` come to an end or ask for a file that is not there.
use Rattle.std.proofs.Common.{◌≡◌, ◌⊎◌, inl, inr, ℕ, ◌-◌, ◌<◌, Bool, List, [], ◌∷◌, length, Some, None, Option, Contains, refl, subst, arith}
use Rattle.std.proofs.lemmas.Bool.{cases_order}
use Rattle.either.specs.Either.{MatchEither}
use Rattle.either.specs.declared.Either.{Either}
use Rattle.either.specs.declared.Either.TheVariants.{Left, Right}
use Rattle.esto_mapping.specs.declared.catalogue.Catalogue.{Catalogue}
use Rattle.esto_chase_laws.specs.declared.clash.Clash.{Clash}
use Rattle.esto_course.specs.Course.{judges, gives, and_then}
use Rattle.esto_list.specs.Items.{totals_of}
use Rattle.esto_list.specs.declared.listing.Listed.{Listed}
use Rattle.esto_status.specs.Fetch.{fetches}
use Rattle.esto_run.specs.Fragments.{Stored, IsStoredAt, content_fault, reads_content, opens_stored, opens_fragment, opens_fragments, opens_next, no_contents}
use Rattle.esto_run.specs.Fragments.{with_content}
use Rattle.esto_status.specs.declared.limits.TheConstants.{DATA_LIMIT}
use Rattle.esto_status.specs.declared.status.Status.{Status}
use Rattle.esto_status.specs.declared.status.Status.TheVariants.{BadFragment, NoRewriting, NoSuchNumber, Unsatisfiable}
use Rattle.esto_run.proofs.SameLemmas.{itself}
use Rattle.esto_rewriting.specs.Choice.{HasNoPlace, IsItemOf, IsPlace}
use Rattle.esto_rewriting.specs.Choice.HasNoPlace.{is_empty, is_above}
use Rattle.esto_rewriting.specs.Listing.{IsClash, IsListing, IsPlanned}
use Rattle.esto_rewriting.specs.Planning.{chooses, ends_query, plans_query}
use Rattle.esto_ports.specs.Files.{Files}
use Rattle.esto_ports.specs.declared.file_fault.FileFault.{FileFault}
use Rattle.esto_query.specs.declared.query.Query.{Query}
use Rattle.esto_run.specs.Answers.{IsAnswersText}
use Rattle.esto_run.specs.Laws.{IsAnswerOver}
use Rattle.esto_docs.specs.Stores.{IsFileRow}
use Rattle.esto_run.specs.Used.{AreUsed}
use Rattle.esto_semantics.specs.Listed.{candidate, chosen}
use Rattle.esto_semantics.specs.ListedLaws.{PickExists}
use Rattle.esto_semantics.specs.declared.fact.Fact.{Fact}
use Rattle.esto_semantics.proofs.CandidateLemmas.{chosen-among}
use Rattle.esto_semantics.proofs.FactLemmas.{Mentions-among}
use Rattle.esto_semantics.proofs.PlaceLemmas.{Has-from_chosen}
use Rattle.esto_term.specs.declared.term.Term.{Term}
use Rattle.esto_term.proofs.ListLemmas.{Contains-at, Contains-map_from, thing_at}
use Rattle.esto_views.specs.Plans.{fact_of, plan_query, IsPlanOver}
use Rattle.esto_views.specs.declared.fragments.FragmentDef.{FragmentDef}
use Rattle.esto_views.specs.declared.plan.Plan.{Plan}
use Rattle.std.proofs.lemmas.Option.{slice_get_within}
use Rattle.esto_top.specs.Ends.{Ends, EndsOrLacks}
use Rattle.esto_top.specs.LawsBelow.{BelowLaws}
use Rattle.esto_top.proofs.CourseLemmas.{ends_by, ends_then, each_ends, fetches_ends, gives_ends, goes_ends, judges_accepted, judges_goes, judges_refuses}
use Rattle.esto_top.proofs.FileLemmas.{answers_text, file_answers}
use Rattle.esto_top.proofs.ListLemmas.{text_exists}
use Rattle.esto_top.proofs.PlannedLemmas.{end_exists, list_exists}

-- ---- the choice of an item

pub chooses_ends : {lack : Type 0} → PickExists → (items : List Listed) (number : Option ℕ) → Ends lack (chooses items number)
chooses_ends picks [] number = judges_refuses (IsPlace [] number) (HasNoPlace [] number) NoRewriting (record { cause = tt }) (is_empty refl refl)
chooses_ends picks (first ∷ rest) None =
    let pick = picks (totals_of (first ∷ rest)) (λ is. absurd (cc)) in
    goes_ends (chooses (first ∷ rest) None) pick.0 (judges_goes (IsPlace (first ∷ rest) None) (HasNoPlace (first ∷ rest) None) pick.0 pick.1)
chooses_ends {lack} picks (first ∷ rest) (Some asked) = by (cases_order (length (first ∷ rest)) asked)
  where
    items : List Listed
    items = first ∷ rest

    goes : asked - 1 < length (first ∷ rest) → Ends lack (chooses (first ∷ rest) (Some asked))
    goes within =
        goes_ends (chooses (first ∷ rest) (Some asked)) (asked - 1)
        (judges_goes (IsPlace (first ∷ rest) (Some asked)) (HasNoPlace (first ∷ rest) (Some asked)) (asked - 1) (refl, within))

    by : (length (first ∷ rest) ≡ asked) ⊎ ((length (first ∷ rest) < asked) ⊎ (asked < length (first ∷ rest))) → Ends lack (chooses (first ∷ rest) (Some asked))
    by (inl same) = goes (omega (arith, same))
    by (inr (inl less)) =
        judges_refuses (IsPlace (first ∷ rest) (Some asked)) (HasNoPlace (first ∷ rest) (Some asked)) (NoSuchNumber asked (length (first ∷ rest)))
        (record { cause = tt }) (is_above asked refl (λ is. absurd (cc)) less refl)
    by (inr (inr more)) = goes (omega (arith, more))

-- ---- the files of fragments

content_ends : {lack : Type 0} (stored : Stored) (bytes : List ℕ) → Ends lack (reads_content stored bytes)
content_ends {lack} stored bytes = by (content_fault stored bytes) refl
  where
    Refuses : Status → Type 0
    Refuses refusal = (fault : FileFault) × (content_fault stored bytes ≡ Some fault) × (refusal ≡ BadFragment stored.definition.name fault)

    by : (found : Option FileFault) → content_fault stored bytes ≡ found → Ends lack (reads_content stored bytes)
    by None is = goes_ends (reads_content stored bytes) tt (judges_goes (λ _. content_fault stored bytes ≡ None) Refuses tt is)
    by (Some fault) is =
        judges_refuses (λ _. content_fault stored bytes ≡ None) Refuses (BadFragment stored.definition.name fault) (record { cause = tt }) (fault, is, refl)

module _ (files : Files) (catalogue : Catalogue) (stores : length catalogue.stores ≡ length catalogue.fragments) where
  fragment_ends : (number : ℕ) → number < length catalogue.fragments → EndsOrLacks (opens_fragment (Some files) catalogue number)
  fragment_ends number below =
      let definition = thing_at catalogue.fragments number below in
      let store = thing_at catalogue.stores number (omega (arith, below, stores)) in
      let stored : Stored = record { definition = definition.0; store = store.0 } in
      ends_by (judges (IsStoredAt catalogue number) (λ _. ⊥)) (opens_stored (Some files)) stored
      (judges_goes (IsStoredAt catalogue number) (λ _. ⊥) stored (record { definition = definition.1; store = store.1 }))
      (ends_then (fetches (Some files) store.0.file DATA_LIMIT) (λ bytes. and_then (reads_content stored bytes) (λ _. gives bytes))
      (fetches_ends files store.0.file DATA_LIMIT)
      (λ bytes _. ends_then (reads_content stored bytes) (λ _. gives bytes) (content_ends stored bytes) (λ _ _. gives_ends bytes)))

  pub fragments_end : (numbers : List ℕ) → ((number : ℕ) → Contains numbers number → number < length catalogue.fragments)
      → EndsOrLacks (opens_fragments (Some files) catalogue numbers)
  fragments_end numbers below =
      each_ends (opens_next (Some files) catalogue) numbers 0 no_contents (λ place contents number inside.
      ends_then (opens_fragment (Some files) catalogue number) (λ bytes. gives (with_content contents number bytes))
      (fragment_ends number (below number inside)) (λ bytes _. gives_ends (with_content contents number bytes)))

-- the fragments of a plan's atoms are the catalogue's
pub atom_below : (plan : Plan) (fragments : List FragmentDef) → IsPlanOver plan fragments → (atom : Fact Term) → Contains (plan_query plan).body atom
    → atom.relation < length fragments
atom_below plan fragments over atom inside =
    let from = Contains-map_from fact_of plan.atoms atom inside in
    let found = over from.0 from.1 in
    subst (λ (it : Fact Term). it.relation < length fragments) from.2 (slice_get_within fragments from.0.fragment found.0 found.1)

module _ (laws : BelowLaws) (catalogue : Catalogue) (query : Query) where
  -- ---- the plan of a query, or its clash

  pub plans_ends : {lack : Type 0} → Ends lack (plans_query catalogue query)
  plans_ends = elim (end_exists laws.keeps laws.chase catalogue query) [
    | inl (plan, planned) ↦ goes_ends (plans_query catalogue query) plan (judges_goes (IsPlanned catalogue query) Refuses plan planned)
    | inr (clash, is) ↦ judges_refuses (IsPlanned catalogue query) Refuses (Unsatisfiable clash) (record { cause = tt }) (clash, is, refl)
  ]
    where
      Refuses : Status → Type 0
      Refuses refusal = (clash : Clash) × IsClash catalogue query clash × (refusal ≡ Unsatisfiable clash)

  pub plan_of : (plan : Plan) → (plans_query catalogue query).goes plan → IsPlanned catalogue query plan
  plan_of plan goes =
      judges_accepted (IsPlanned catalogue query) (λ refusal. (clash : Clash) × IsClash catalogue query clash × (refusal ≡ Unsatisfiable clash)) plan goes

  pub ends_ends : {lack : Type 0} → Ends lack (ends_query catalogue query)
  ends_ends = elim (end_exists laws.keeps laws.chase catalogue query) [
    | inl (plan, planned) ↦ goes_ends (ends_query catalogue query) (Left plan) (judges_goes IsOne (λ _. ⊥) (Left plan) planned)
    | inr (clash, is) ↦ goes_ends (ends_query catalogue query) (Right clash) (judges_goes IsOne (λ _. ⊥) (Right clash) is)
  ]
    where
      IsOne : Either Plan Clash → Type 0
      IsOne end = MatchEither end (IsPlanned catalogue query) (IsClash catalogue query)

  module _ (plan : Plan) (planned : IsPlanned catalogue query plan) where
    -- ---- its list

    pub listing_exists : (text : List ℕ) × IsListing catalogue query plan text
    listing_exists =
        let items = list_exists laws.keeps laws.chase catalogue laws.lists query plan planned in
        let text = text_exists laws.lists.picks catalogue.fragments plan items.0 in
        (text.0, record { items = items.0; list = items.1; printed = text.1 })

    -- ---- the run of a set

    -- the fragments that a set uses are the catalogue's
    used_below : (set : List Bool) (numbers : List ℕ) → AreUsed (plan_query plan).body set numbers → (number : ℕ) → Contains numbers number
        → number < length catalogue.fragments
    used_below set numbers are number inside =
        let (place, (has, (atom, at, is))) = (are.exact number).0 inside in
        subst (λ it. it < length catalogue.fragments) is
        (atom_below plan catalogue.fragments (laws.lists.over catalogue query plan planned) atom (Contains-at (plan_query plan).body place atom at))

    module _ (files : Files) (item : Listed) (is : IsItemOf catalogue query plan item) (numbers : List ℕ)
        (are : AreUsed (plan_query plan).body item.set numbers) where
      pub set_opens : EndsOrLacks (opens_fragments (Some files) catalogue numbers)
      set_opens = fragments_end files catalogue (laws.keeps.catalogues catalogue).stored numbers (used_below item.set numbers are)

      pub rows_exist : (contents : ℕ → List ℕ) → (opens_fragments (Some files) catalogue numbers).goes contents
          → (text : List ℕ) × IsAnswersText query (IsAnswerOver (IsFileRow catalogue.stores contents) (candidate (plan_query plan) item.set)) text
      rows_exist contents goes =
          answers_text query (IsAnswerOver (IsFileRow catalogue.stores contents) (candidate (plan_query plan) item.set))
          (file_answers laws.rows files catalogue (laws.keeps.catalogues catalogue).shapes numbers contents
          ((laws.readable files catalogue catalogue numbers (itself catalogue)).goes contents goes) (candidate (plan_query plan) item.set)
          (λ term inside. (laws.lists.form catalogue query plan planned).flat_body term
          (Mentions-among (chosen item.set (plan_query plan).body) (plan_query plan).body term (chosen-among (plan_query plan) item.set) inside))
          is.set.0.safe
          (λ atom inside.
          let found = Has-from_chosen item.set (plan_query plan).body atom inside in
          (are.exact atom.relation).1 (found.0, (found.1, (atom, found.2, refl)))))
