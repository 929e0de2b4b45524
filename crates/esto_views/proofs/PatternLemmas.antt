-- The patterns of a fragment.
use Rattle.std.proofs.Common.{◌≡◌, ℕ, List, [], Some, slice_get, slice_index_or}
use Rattle.std.proofs.lemmas.Option.{get_or_from_slice_get}
use Rattle.esto_views.specs.Fragments.{patterns_of}
use Rattle.esto_views.specs.declared.fragments.FragmentDef.{FragmentDef}
use Rattle.esto_term.proofs.ListLemmas.{map_at}

-- the patterns of the fragment of a number
pub patterns_at : (fragments : List FragmentDef) (number : ℕ) (fragment : FragmentDef) → slice_get fragments number ≡ Some fragment
    → slice_index_or (patterns_of fragments) number [] ≡ fragment.access
patterns_at fragments number fragment at = get_or_from_slice_get (patterns_of fragments) number fragment.access []
    (map_at (λ (it : FragmentDef). it.access) fragments number fragment at)
