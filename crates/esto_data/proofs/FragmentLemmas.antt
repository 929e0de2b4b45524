-- The files of all fragments, opened one after the other.
use Rattle.std.proofs.Common.{◌≡◌, ◌⊎◌, ◌↔◌, ◌<◌, ◌≤◌, ◌+◌, ℕ, zero, suc, List, length, slice_get, Option, Some, sym, ap, subst, ◌∙◌, arith, inl, inr}
use Rattle.std.specs.List.{range_with_len}
use Rattle.std.proofs.lemmas.Option.{same_Some, none-some, slice_get_within}
use Rattle.esto_mapping.specs.declared.catalogue.Catalogue.{Catalogue}
use Rattle.esto_docmodel.specs.declared.file.Store.{Store}
use Rattle.esto_course.specs.Course.{judges, gives, and_then, each}
use Rattle.esto_ports.specs.Files.{Files}
use Rattle.esto_docs.specs.Stores.{IsFileRow, IsRowIn}
use Rattle.esto_semantics.specs.declared.fact.Fact.{Fact}
use Rattle.esto_status.specs.Answers.{IsCaused}
use Rattle.esto_status.specs.Calm.{Leads}
use Rattle.esto_run.specs.Fragments.{Stored, IsReadableFragment, IsStoredAt, reads_content, opens_stored, opens_fragment, opens_next, opens_fragments}
use Rattle.esto_run.specs.Fragments.{no_contents, with_content}
use Rattle.esto_status.specs.declared.limits.TheConstants.{DATA_LIMIT}
use Rattle.esto_status.specs.declared.status.Status.{Status}
use Rattle.esto_status.proofs.LeadLemmas.{then-leads, leads-more, gives-leads, judges-leads, fetches-leads}
use Rattle.esto_run.proofs.FragmentLemmas.{content_there}
use Rattle.esto_data.specs.Audit.{all_fragments}
use Rattle.esto_data.specs.Exact.{AreReadableFragments}
use Rattle.esto_data.proofs.LeadLemmas.{holds-leads}
use Rattle.esto_data.proofs.RowLemmas.{elsewhere_than}

-- ---- what was opened

-- of fragments in order from a first one on, so many: the contents of earlier ones stay, and those of each are what was opened
pub record AreOpenedFrom (files : Option Files) (catalogue : Catalogue) (first count : ℕ) (old contents : ℕ → List ℕ) : Type 0 where
  pub kept : (number : ℕ) → number < first → contents number ≡ old number
  pub opened : (number : ℕ) → first ≤ number → number < first + count → (opens_fragment files catalogue number).goes (contents number)

module _ (files : Option Files) (catalogue : Catalogue) where
  first_or_later : (first number : ℕ) → first ≤ number → (first ≡ number) ⊎ (first + 1 ≤ number)
  first_or_later first number le = grind arith

  module _ (first count : ℕ) (old next contents : ℕ → List ℕ) (bytes : List ℕ) (opens : (opens_fragment files catalogue first).goes bytes)
      (next_is : next ≡ with_content old first bytes) (rest : AreOpenedFrom files catalogue (first + 1) count next contents) where
    own_content : contents first ≡ bytes
    own_content = rest.kept first (omega arith) ∙ ap (λ (it : ℕ → List ℕ). it first) next_is ∙ content_there old first bytes

    one_more : AreOpenedFrom files catalogue first (suc count) old contents
    one_more = record {
      kept = λ number less. rest.kept number (omega arith) ∙ ap (λ (it : ℕ → List ℕ). it number) next_is
          ∙ elsewhere_than old first number bytes (λ same. omega (arith, less, same));
      opened = λ number le within. elim (first_or_later first number le) [
        | inl same ↦ subst (λ (it : ℕ). (opens_fragment files catalogue it).goes (contents it)) same
            (subst (λ (it : List ℕ). (opens_fragment files catalogue first).goes it) (sym own_content) opens)
        | inr later ↦ rest.opened number later (omega (arith, within))
      ];
    }

  opened_from : (count first counter : ℕ) (old contents : ℕ → List ℕ)
      → (each (opens_next files catalogue) counter old (range_with_len first count)).goes contents
      → AreOpenedFrom files catalogue first count old contents
  unfolding and_then gives
  opened_from zero first counter old contents is = record {
    kept = λ number less. ap (λ (it : ℕ → List ℕ). it number) is;
    opened = λ number le within. absurd (omega (arith, le, within));
  }
  opened_from (suc count) first counter old contents (next, (bytes, opens, next_is), more) =
      one_more first count old next contents bytes opens next_is (opened_from count (first + 1) (suc counter) next contents more)

  pub each_opened : (contents : ℕ → List ℕ) → (opens_fragments files catalogue (all_fragments catalogue)).goes contents → (number : ℕ)
      → number < length catalogue.fragments → (opens_fragment files catalogue number).goes (contents number)
  each_opened contents goes number within =
      (opened_from (length catalogue.fragments) 0 0 no_contents contents goes).opened number (omega arith) (omega (arith, within))

  -- the fragment that was opened is there
  pub opened_within : (number : ℕ) (bytes : List ℕ) → (opens_fragment files catalogue number).goes bytes → number < length catalogue.fragments
  unfolding and_then judges
  opened_within number bytes (stored, at, more) = slice_get_within catalogue.fragments number stored.definition at.definition

  never_opened : (count first counter : ℕ) (old : ℕ → List ℕ)
      → ((number : ℕ) → first ≤ number → number < first + count → (said : Status) → IsCaused ⊥ said → (opens_fragment files catalogue number).stops said → ⊥)
      → (said : Status) → IsCaused ⊥ said → (each (opens_next files catalogue) counter old (range_with_len first count)).stops said → ⊥
  unfolding and_then gives
  never_opened zero first counter old can said caused stops = stops
  never_opened (suc count) first counter old can said caused stops = elim stops [
    | inl at_once ↦ elim at_once [
      | inl early ↦ can first (omega arith) (omega arith) said caused early
      | inr (bytes, opens, none) ↦ none
    ]
    | inr (next, goes, more) ↦ never_opened count (first + 1) (suc counter) next (λ number le within. can number (omega (arith, le)) (omega (arith, within)))
        said caused more
  ]

-- ---- readable files

module _ (files : Files) (catalogue : Catalogue) where
  readable_opens : (number : ℕ) (bytes : List ℕ) → IsReadableFragment files catalogue number bytes
      → Leads (opens_fragment (Some files) catalogue number) (λ other. other ≡ bytes) (λ _. ⊥)
  readable_opens number bytes (stored, at, has, none) =
      then-leads _ _ (λ other. other ≡ stored) _ _
      (holds-leads _ _ (λ _. ⊥) (λ other there. one_stored other there))
      (λ other is. subst (λ (it : Stored). Leads (opens_stored (Some files) it) (λ own. own ≡ bytes) (λ _. ⊥)) (sym is)
      (then-leads _ _ (λ own. own ≡ bytes) _ _ (fetches-leads files stored.store.file DATA_LIMIT bytes has (λ _. ⊥))
      (λ own same. then-leads _ _ (λ value. Unit {0}) _ _ (read_leads own same)
      (λ value done. leads-more _ _ _ (λ _. ⊥) (λ given given_is. given_is ∙ same) (gives-leads own (λ _. ⊥))))))
    where
      one_stored : (other : Stored) → IsStoredAt catalogue number other → other ≡ stored
      one_stored other there =
          let definition : other.definition ≡ stored.definition = same_Some other.definition stored.definition (sym there.definition ∙ at.definition) in
          let store : other.store ≡ stored.store = same_Some other.store stored.store (sym there.store ∙ at.store) in
          λ i. record { definition = definition i; store = store i }

      read_leads : (own : List ℕ) → own ≡ bytes → Leads (reads_content stored own) (λ value. Unit {0}) (λ _. ⊥)
      read_leads own same = subst (λ (it : List ℕ). Leads (reads_content stored it) (λ value. Unit {0}) (λ _. ⊥)) (sym same)
          (leads-more _ _ _ (λ _. ⊥) (λ value good. tt)
          (judges-leads _ _ (λ _. ⊥) (λ said caused fault. none-some fault.0 (sym none ∙ fault.1))))

  module _ (contents : ℕ → List ℕ) (readable : AreReadableFragments files catalogue contents) where
    pub fragments_never : (said : Status) → IsCaused ⊥ said → (opens_fragments (Some files) catalogue (all_fragments catalogue)).stops said → ⊥
    fragments_never said caused stops =
        never_opened (Some files) catalogue (length catalogue.fragments) 0 0 no_contents
        (λ number le within. (readable_opens number (contents number) (readable number (omega (arith, within)))).stops) said caused stops

    one_content : (others : ℕ → List ℕ) → (opens_fragments (Some files) catalogue (all_fragments catalogue)).goes others → (number : ℕ)
        → number < length catalogue.fragments → others number ≡ contents number
    one_content others goes number within =
        (readable_opens number (contents number) (readable number within)).goes (others number)
        (each_opened (Some files) catalogue others goes number within)

    -- what was opened has the same rows
    pub rows_same : (others : ℕ → List ℕ) → (opens_fragments (Some files) catalogue (all_fragments catalogue)).goes others
        → length catalogue.stores ≡ length catalogue.fragments
        → (fact : Fact (List ℕ)) → IsFileRow catalogue.stores others fact ↔ IsFileRow catalogue.stores contents fact
    rows_same others goes many fact = (
      (λ (store, there, is). (store, there, subst (λ (it : List ℕ). IsRowIn store.shape it fact.terms) (same store there) is)),
      (λ (store, there, is). (store, there, subst (λ (it : List ℕ). IsRowIn store.shape it fact.terms) (sym (same store there)) is)),
    )
      where
        same : (store : Store) → slice_get catalogue.stores fact.relation ≡ Some store → others fact.relation ≡ contents fact.relation
        same store there = one_content others goes fact.relation (omega (arith, slice_get_within catalogue.stores fact.relation store there, many))
