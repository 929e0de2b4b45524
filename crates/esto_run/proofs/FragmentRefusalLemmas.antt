-- No course that opens files of fragments stops with Done.
use Rattle.std.proofs.Common.{◌≡◌, ℕ, List, Some, sym, ◌∙◌}
use Rattle.esto_mapping.specs.declared.catalogue.Catalogue.{Catalogue}
use Rattle.esto_ports.specs.Files.{Files}
use Rattle.esto_run.specs.Fragments.{opens_fragment, opens_fragments, opens_next, no_contents, with_content}
use Rattle.esto_status.specs.declared.limits.TheConstants.{DATA_LIMIT}
use Rattle.esto_status.specs.declared.status.Status.TheVariants as status
use Rattle.esto_status.proofs.RefusalLemmas.{Refuses, then_refuses, gives_refuses, judges_refuses, each_refuses, fetch_refuses}

module _ (files : Files) where
  pub fragment_refuses : (catalogue : Catalogue) (number : ℕ) → Refuses (opens_fragment (Some files) catalogue number)
  fragment_refuses catalogue number = then_refuses _ _ (judges_refuses _ _ (λ said never. absurd never))
      (λ stored. then_refuses _ _ (fetch_refuses files stored.store.file DATA_LIMIT)
      (λ bytes. then_refuses _ _ (judges_refuses _ _ (λ said (fault, found, is).
      λ done. let h : status.BadFragment stored.definition.name fault ≡ status.Done = sym is ∙ done in cc))
      (λ value. gives_refuses bytes)))

  pub fragments_refuse : (catalogue : Catalogue) (numbers : List ℕ) → Refuses (opens_fragments (Some files) catalogue numbers)
  fragments_refuse catalogue numbers = each_refuses (opens_next (Some files) catalogue)
      (λ place contents number. then_refuses _ _ (fragment_refuses catalogue number) (λ bytes. gives_refuses (with_content contents number bytes)))
      0 no_contents numbers
