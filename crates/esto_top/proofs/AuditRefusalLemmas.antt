-- `audit` never stops with Done.
use Rattle.std.proofs.Common.{◌≡◌, ◌≢◌, ℕ, List, [], ◌∷◌, ◌++◌, Some, sym, ◌∙◌}
use Rattle.esto_mapping.specs.declared.dataset.Dataset.{Dataset}
use Rattle.esto_fill.specs.declared.datasets.DatasetBytes.{DatasetBytes}
use Rattle.esto_course.specs.Course.{demands}
use Rattle.esto_ports.specs.Files.{Files}
use Rattle.esto_status.specs.declared.reply.Reply.TheVariants.{Done}
use Rattle.esto_status.specs.declared.status.Status.{Status}
use Rattle.esto_status.specs.declared.status.Status.TheVariants as status
use Rattle.esto_opening.proofs.RefusalLemmas.{catalogue_refuses}
use Rattle.esto_status.proofs.RefusalLemmas.{Refuses, each_refuses, fetch_refuses, gives_refuses, judges_refuses, then_refuses}
use Rattle.esto_run.proofs.FragmentRefusalLemmas.{fragments_refuse}
use Rattle.esto_data.specs.Audit.{all_fragments, audit_text}
use Rattle.esto_top.specs.Audit.{audit_course}
use Rattle.esto_data.specs.Datasets.{IsAny, demands_file, loads, loads_next, opens_dataset}
use Rattle.esto_status.specs.declared.limits.TheConstants.{DATA_LIMIT}

demands_refuses : (condition : Type 0) (said : Status) → said ≢ status.Done → Refuses (demands condition said)
unfolding demands
demands_refuses condition said other = record { goes = λ value goes. tt; stops = λ its caused (without, is). λ done. other (sym is ∙ done) }

module _ (files : Files) (datasets : List Dataset) where
  dataset_refuses : (number : ℕ) → Refuses (opens_dataset (Some files) datasets number)
  dataset_refuses number = then_refuses _ _ (judges_refuses _ _ (λ said never. absurd never))
      (λ source. then_refuses _ _ (fetch_refuses files source.file DATA_LIMIT)
      (λ bytes. then_refuses _ _ (judges_refuses _ _ (λ said (fault, found, is).
      λ done. let h : status.BadDataset source.dataset.name fault ≡ status.Done = sym is ∙ done in cc))
      (λ value. gives_refuses bytes)))

  loads_refuse : (Needs : Dataset → Type 0) → Refuses (loads (Some files) datasets Needs)
  loads_refuse Needs = then_refuses _ _ (judges_refuses _ _ (λ said never. absurd never))
      (λ numbers. then_refuses _ _ (each_refuses (demands_file datasets) (λ place given number. demand_refuses place given number) 0 tt numbers)
      (λ value. then_refuses _ _ (each_refuses (loads_next (Some files) datasets) (λ place so_far number. next_refuses place so_far number) 0 [] numbers)
      (λ contents. judges_refuses _ _ (λ said never. absurd never))))
    where
      no_data : (name : List ℕ) → status.NoData name ≢ status.Done
      no_data name same = cc

      demand_refuses : (place : ℕ) (given : Unit {0}) (number : ℕ) → Refuses (demands_file datasets place given number)
      demand_refuses place given number = then_refuses _ _ (judges_refuses _ _ (λ said never. absurd never))
          (λ dataset. demands_refuses _ (status.NoData dataset.name) (no_data dataset.name))

      next_refuses : (place : ℕ) (so_far : List DatasetBytes) (number : ℕ) → Refuses (loads_next (Some files) datasets place so_far number)
      next_refuses place so_far number = then_refuses _ _ (dataset_refuses number)
          (λ bytes. gives_refuses (so_far ++ record { dataset = number; bytes = bytes } ∷ []))

pub audit_refuses : (files : Files) (name : List ℕ) → Refuses (audit_course (Some files) name)
audit_refuses files name = then_refuses _ _ (catalogue_refuses files name)
    (λ catalogue. then_refuses _ _ (loads_refuse files catalogue.datasets IsAny)
    (λ facts. then_refuses _ _ (judges_refuses _ _ (λ said (column, first, is). λ done. let h : status.NodeInRow column ≡ status.Done = sym is ∙ done in cc))
    (λ value. then_refuses _ _ (fragments_refuse files catalogue (all_fragments catalogue))
    (λ contents. then_refuses _ _ (judges_refuses _ _ (λ said (difference, first, is).
    λ done. let h : status.Differs difference ≡ status.Done = sym is ∙ done in cc))
    (λ given. gives_refuses (Done (audit_text catalogue)))))))
