-- The files of fragments that are readable are those that are opened.
use Rattle.std.proofs.Common.{◌≡◌, ◌≢◌, ◌⊎◌, ◌==◌, arith, ℕ, suc, true, false, Bool, List, [], ◌∷◌, Contains, Some, None, slice_get, refl, sym, ap, subst, ◌∙◌}
use Rattle.std.proofs.Common.{inl, inr}
use Rattle.std.proofs.lemmas.Bool.Decides.{nat_tests}
use Rattle.esto_mapping.specs.Catalogues.{AreSame, stored_as}
use Rattle.esto_mapping.specs.declared.catalogue.Catalogue.{Catalogue}
use Rattle.esto_course.specs.Course.{and_then, each, gives, judges}
use Rattle.esto_ports.specs.Files.{Files}
use Rattle.esto_term.proofs.ListLemmas.{Contains-cases, Contains-head, Contains-nil, Contains-rest, map_at, map_at-from}
use Rattle.esto_views.specs.declared.fragments.FragmentDef.{FragmentDef}
use Rattle.esto_status.specs.Answers.{IsCaused}
use Rattle.esto_status.specs.Calm.{Leads}
use Rattle.esto_status.specs.Fetch.{FetchStops, HasWithin, fetches}
use Rattle.esto_status.specs.Fetch.FetchStops.{fails, is_longer}
use Rattle.esto_run.specs.Fragments.{IsReadableFragment, IsStoredAt, Stored, content_fault, no_contents, opens_fragment, opens_fragments, opens_next}
use Rattle.esto_run.specs.Fragments.{with_content}
use Rattle.esto_run.specs.Readable.{OpenedAreReadable, ReadableAreOpened, TellsOfFile}
use Rattle.esto_run.specs.Readable.TellsOfFile.{fails as file_fails, is_longer as file_longer, has_fault}
use Rattle.esto_status.specs.declared.limits.TheConstants.{DATA_LIMIT}
use Rattle.esto_status.specs.declared.status.Status.{Status}
use Rattle.esto_run.proofs.FragmentAlikeLemmas.{fragment_agree}
use Rattle.esto_status.proofs.LeadLemmas.{gives-leads, judges-leads, leads-more, then-leads}
use Rattle.esto_run.proofs.StoreAlikeLemmas.{same_fault, same_file}

-- with a further content: that of its number, and the others as they were
content_cases : (contents : ℕ → List ℕ) (number : ℕ) (bytes : List ℕ) (other : ℕ)
    → ((other ≡ number) × (with_content contents number bytes other ≡ bytes))
    ⊎ ((other ≢ number) × (with_content contents number bytes other ≡ contents other))
content_cases contents number bytes other = decide (other == number) refl
  where
    decide : (test : Bool) → (other == number) ≡ test
        → ((other ≡ number) × (with_content contents number bytes other ≡ bytes))
        ⊎ ((other ≢ number) × (with_content contents number bytes other ≡ contents other))
    decide true is = inl (grind (arith, nat_tests, is), rw is refl)
    decide false is = inr ((λ same. grind (arith, nat_tests, is, same)), rw is refl)

module _ (files : Files) (catalogue : Catalogue) where
  -- what holds of each file that is opened holds of the contents of all
  module _ (Holds : ℕ → List ℕ → Type 0) where
    abbrev IsSo : ℕ → Type 0
    IsSo number = (bytes : List ℕ) → (opens_fragment (Some files) catalogue number).goes bytes → Holds number bytes

    each_holds : (numbers : List ℕ) → ((number : ℕ) → Contains numbers number → IsSo number) → (counter : ℕ) (before got : ℕ → List ℕ)
        → (each (opens_next (Some files) catalogue) counter before numbers).goes got
        → (number : ℕ) → Contains numbers number ⊎ Holds number (before number) → Holds number (got number)
    unfolding and_then gives
    each_holds [] so counter before got is number cases = elim cases [
      | inl inside ↦ absurd (Contains-nil number inside)
      | inr held ↦ subst (λ (it : ℕ → List ℕ). Holds number (it number)) (sym is) held
    ]
    each_holds (first ∷ rest) so counter before got (next, (bytes, opens, next_is), more) number cases =
        each_holds rest (λ it inside. so it (Contains-rest first rest it inside)) (suc counter) next got more number (elim cases [
          | inl inside ↦ elim (Contains-cases first rest number inside) [ inl same ↦ inr (here (inl same)) | inr after ↦ inl after ]
          | inr held ↦ inr (here (inr held))
        ])
      where
        own : Holds first bytes
        own = so first (Contains-head first rest) bytes opens

        here : (first ≡ number) ⊎ Holds number (before number) → Holds number (next number)
        here either = subst (λ (it : ℕ → List ℕ). Holds number (it number)) (sym next_is) (elim (content_cases before first bytes number) [
          | inl changed ↦ subst (Holds number) (sym changed.1) (subst (λ (it : ℕ). Holds it bytes) (sym changed.0) own)
          | inr stays ↦ elim either [
            | inl same ↦ absurd (stays.0 (sym same))
            | inr held ↦ subst (Holds number) (sym stays.1) held
          ]
        ])

    opened_hold : (numbers : List ℕ) → ((number : ℕ) → Contains numbers number → IsSo number) → (contents : ℕ → List ℕ)
        → (opens_fragments (Some files) catalogue numbers).goes contents → (number : ℕ) → Contains numbers number → Holds number (contents number)
    opened_hold numbers so contents goes number inside = each_holds numbers so 0 no_contents contents goes number (inl inside)

  -- what holds of each refusal of a file holds of a refusal of all
  module _ (Refused : Status → Type 0) where
    abbrev RefusesSo : ℕ → Type 0
    RefusesSo number = (refusal : Status) → IsCaused ⊥ refusal → (opens_fragment (Some files) catalogue number).stops refusal → Refused refusal

    each_refused : (numbers : List ℕ) → ((number : ℕ) → Contains numbers number → RefusesSo number) → (counter : ℕ) (before : ℕ → List ℕ)
        (refusal : Status) → IsCaused ⊥ refusal → (each (opens_next (Some files) catalogue) counter before numbers).stops refusal → Refused refusal
    unfolding and_then gives
    each_refused [] so counter before refusal caused never = absurd never
    each_refused (first ∷ rest) so counter before refusal caused (inl (inl stops)) = so first (Contains-head first rest) refusal caused stops
    each_refused (first ∷ rest) so counter before refusal caused (inl (inr (bytes, opens, never))) = absurd never
    each_refused (first ∷ rest) so counter before refusal caused (inr (next, opens, stops)) =
        each_refused rest (λ it inside. so it (Contains-rest first rest it inside)) (suc counter) next refusal caused stops

    all_refused : (numbers : List ℕ) → ((number : ℕ) → Contains numbers number → RefusesSo number) → (refusal : Status) → IsCaused ⊥ refusal
        → (opens_fragments (Some files) catalogue numbers).stops refusal → Refused refusal
    all_refused numbers so refusal caused stops = each_refused numbers so 0 no_contents refusal caused stops

  -- a file is opened exactly where it is readable
  readable_opens : (number : ℕ) (bytes : List ℕ) → IsReadableFragment files catalogue number bytes
      → (opens_fragment (Some files) catalogue number).goes bytes
  unfolding fetches judges and_then gives
  readable_opens number bytes (stored, at, has, none) = (stored, at, (bytes, has, (tt, none, refl)))

  opened_readable : (number : ℕ) (bytes : List ℕ) → (opens_fragment (Some files) catalogue number).goes bytes
      → IsReadableFragment files catalogue number bytes
  unfolding fetches judges and_then gives
  opened_readable number bytes (stored, at, (content, has, (value, none, is))) =
      subst (IsReadableFragment files catalogue number) (sym is) (stored, at, has, none)

  fetch_tells : (name : List ℕ) (limit : ℕ) → Leads (fetches (Some files) name limit) (λ _. Unit {0}) TellsOfFile
  unfolding fetches
  fetch_tells name limit = record { goes = λ bytes goes. tt; stops = λ refusal caused stops. told refusal stops }
    where
      told : (refusal : Status) → FetchStops (Some files) name limit refusal → TellsOfFile refusal
      told refusal (fails is) = file_fails name is
      told refusal (is_longer file holds longer is) = file_longer name limit is

  fragment_tells : (number : ℕ) → Leads (opens_fragment (Some files) catalogue number) (λ _. Unit {0}) TellsOfFile
  fragment_tells number =
      then-leads _ _ (IsStoredAt catalogue number) _ TellsOfFile (judges-leads _ _ TellsOfFile (λ refusal caused never. absurd never)) (λ stored at.
      then-leads _ _ (λ _. Unit {0}) _ TellsOfFile (fetch_tells stored.store.file DATA_LIMIT) (λ bytes fetched.
      then-leads _ _ (λ _. content_fault stored bytes ≡ None) _ TellsOfFile
      (judges-leads _ _ TellsOfFile (λ refusal caused (fault, found, is). has_fault stored.definition.name fault is))
      (λ value good. leads-more _ (λ other. other ≡ bytes) _ TellsOfFile (λ other is. tt) (gives-leads bytes TellsOfFile))))

-- a file that is readable over one of two catalogues that say the same is so over the other
module _ (files : Files) (catalogue other : Catalogue) (alike : AreSame catalogue other) where
  pub stored_here : (number : ℕ) (stored : Stored) → IsStoredAt other number stored → (own : Stored) × IsStoredAt catalogue number own
  stored_here number stored at =
      let definition = map_at-from (λ (it : FragmentDef). it.name) catalogue.fragments number stored.definition.name
      (ap (λ it. slice_get it number) alike.names ∙ map_at (λ (it : FragmentDef). it.name) other.fragments number stored.definition at.definition) in
      let store = map_at-from stored_as catalogue.stores number (stored_as stored.store)
      (ap (λ it. slice_get it number) alike.stores ∙ map_at stored_as other.stores number stored.store at.store) in
      (record { definition = definition.0; store = store.0 }, record { definition = definition.1; store = store.1 })

  readable_here : (number : ℕ) (bytes : List ℕ) → IsReadableFragment files other number bytes → IsReadableFragment files catalogue number bytes
  readable_here number bytes (stored, at, has, none) =
      let (own, here) = stored_here number stored at in (
        own,
        here,
        subst (λ (it : List ℕ). HasWithin files it DATA_LIMIT bytes) (sym (same_file catalogue other alike number own stored here at)) has,
        same_fault catalogue other alike number own stored here at bytes ∙ none,
      )

pub opened_are_readable : OpenedAreReadable
opened_are_readable files catalogue other numbers alike = record {
  goes = opened_hold files other (IsReadableFragment files catalogue) numbers (λ number inside bytes goes.
      readable_here files catalogue other alike number bytes (opened_readable files other number bytes goes));
  stops = all_refused files other TellsOfFile numbers (λ number inside. (fragment_tells files other number).stops);
}

pub readable_are_opened : ReadableAreOpened
readable_are_opened files catalogue other numbers contents alike readable = record {
  goes = opened_hold files other (λ number bytes. bytes ≡ contents number) numbers (λ number inside bytes goes.
      sym ((fragment_agree files catalogue other alike number).one (contents number) bytes
      (readable_opens files catalogue number (contents number) (readable number inside)) goes));
  stops = all_refused files other (λ _. ⊥) numbers (λ number inside refusal caused stops.
      (fragment_agree files catalogue other alike number).apart (contents number) refusal caused
      (readable_opens files catalogue number (contents number) (readable number inside)) stops);
}
