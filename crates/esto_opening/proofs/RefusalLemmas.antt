-- The openings stop with no Done.
use Rattle.std.proofs.Common.{◌≢◌, ℕ, List, Some, sym, ◌∙◌}
use Rattle.esto_catalog.specs.declared.fault.CatalogueError.{CatalogueError}
use Rattle.esto_catalog.specs.declared.fault.CatalogueError.TheVariants as error
use Rattle.esto_ports.specs.Files.{Files}
use Rattle.esto_opening.specs.Opening.{opens_catalogue, status_of}
use Rattle.esto_status.specs.declared.limits.TheConstants.{CATALOGUE_LIMIT}
use Rattle.esto_status.specs.declared.status.Status.TheVariants as status
use Rattle.esto_status.proofs.RefusalLemmas.{Refuses, then_refuses, judges_refuses, fetch_refuses}

error_other : (cause : CatalogueError) → status_of cause ≢ status.Done
error_other (error.Fault fault) same = cc
error_other (error.NotAcyclic cycle) same = cc
error_other error.OutOfMemory same = cc

module _ (files : Files) where
  pub catalogue_refuses : (name : List ℕ) → Refuses (opens_catalogue (Some files) name)
  catalogue_refuses name = then_refuses _ _ (fetch_refuses files name CATALOGUE_LIMIT)
      (λ bytes. judges_refuses _ _ (λ said (cause, is_error, is). λ done. error_other cause (sym is ∙ done)))
