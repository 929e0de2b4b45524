-- No status with which the opening of fragments' files stops tells of a node.
use Rattle.std.proofs.Common.{◌≡◌, ◌≢◌, ℕ, suc, List, [], ◌∷◌, Some}
use Rattle.esto_mapping.specs.declared.catalogue.Catalogue.{Catalogue}
use Rattle.esto_course.specs.Course.{each}
use Rattle.esto_ports.specs.Files.{Files}
use Rattle.esto_ports.specs.declared.file_fault.FileFault.{FileFault}
use Rattle.esto_status.specs.Answers.{IsCaused}
use Rattle.esto_status.specs.Calm.{Leads}
use Rattle.esto_status.specs.Fetch.{fetches, FetchStops}
use Rattle.esto_status.specs.Fetch.FetchStops.{fails, is_longer}
use Rattle.esto_run.specs.Fragments.{no_contents, opens_fragment, opens_fragments, opens_next, with_content}
use Rattle.esto_status.specs.declared.limits.TheConstants.{DATA_LIMIT}
use Rattle.esto_status.specs.declared.status.Status.{Status}
use Rattle.esto_status.specs.declared.status.Status.TheVariants as status
use Rattle.esto_status.proofs.LeadLemmas.{then-leads, leads-more, gives-leads, judges-leads}
use Rattle.esto_status.proofs.Steps.{read_cause}
use Rattle.esto_data.proofs.LeadLemmas.{holds-leads}

-- the status tells of no node
abbrev pub TellsNoNode : Status → Type 0
TellsNoNode said = (column : ℕ) → said ≢ status.NodeInRow column

bad_file : (name : List ℕ) (fault : FileFault) (said : Status) → said ≡ status.BadFragment name fault → TellsNoNode said
bad_file name fault said is column same = cc

long_file : (name : List ℕ) (limit : ℕ) (said : Status) → said ≡ status.TooLong name limit → TellsNoNode said
long_file name limit said is column same = cc

module _ (files : Files) where
  fetch_stops : (name : List ℕ) (limit : ℕ) (said : Status) → IsCaused ⊥ said → FetchStops (Some files) name limit said → TellsNoNode said
  fetch_stops name limit said caused (fails is) = absurd (read_cause ⊥ said name is caused)
  fetch_stops name limit said caused (is_longer bytes holds less is) = long_file name limit said is

  fetched : (name : List ℕ) (limit : ℕ) → Leads (fetches (Some files) name limit) (λ _. Unit {0}) TellsNoNode
  unfolding fetches
  fetched name limit = record { goes = λ bytes goes. tt; stops = λ said caused stop. fetch_stops name limit said caused stop }

  module _ (catalogue : Catalogue) where
    fragment_opened : (number : ℕ) → Leads (opens_fragment (Some files) catalogue number) (λ _. Unit {0}) TellsNoNode
    fragment_opened number =
        then-leads _ _ (λ _. Unit {0}) _ _ (holds-leads _ _ _ (λ stored at. tt))
        (λ stored at. then-leads _ _ (λ _. Unit {0}) _ _ (fetched stored.store.file DATA_LIMIT)
        (λ bytes done. then-leads _ _ (λ _. Unit {0}) _ _
        (leads-more _ _ _ _ (λ value good. tt)
        (judges-leads _ _ TellsNoNode (λ said caused fault. bad_file stored.definition.name fault.0 said fault.2)))
        (λ value good. leads-more _ _ _ _ (λ its is. tt) (gives-leads bytes TellsNoNode))))

    each_opened : (numbers : List ℕ) (counter : ℕ) (contents : ℕ → List ℕ)
        → Leads (each (opens_next (Some files) catalogue) counter contents numbers) (λ _. Unit {0}) TellsNoNode
    each_opened [] counter contents = leads-more _ _ _ _ (λ value is. tt) (gives-leads contents TellsNoNode)
    each_opened (number ∷ rest) counter contents =
        then-leads _ _ (λ _. Unit {0}) _ _
        (then-leads _ _ (λ _. Unit {0}) _ _ (fragment_opened number)
        (λ bytes opened. leads-more _ _ _ _ (λ value is. tt) (gives-leads (with_content contents number bytes) TellsNoNode)))
        (λ next done. each_opened rest (suc counter) next)

    pub opened_without_node : (numbers : List ℕ) → Leads (opens_fragments (Some files) catalogue numbers) (λ _. Unit {0}) TellsNoNode
    opened_without_node numbers = each_opened numbers 0 no_contents
