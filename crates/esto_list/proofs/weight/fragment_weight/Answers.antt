use Rattle.std.proofs.Common.{sym}
use Rattle.std.proofs.lemmas.Option.{get_or_from_slice_get}
use Rattle.esto_term.proofs.ListLemmas.{map_at}
use Rattle.esto_views.specs.Fragments.{weights_of}
use Rattle.esto_views.specs.declared.fragments.FragmentDef.{FragmentDef}
use Rattle.esto_list.proofs.weight.fragment_weight.Goals as goal

pub returns : goal.returns
returns c = sym (get_or_from_slice_get (weights_of c.args.fragments.now) c.args.fragment c.item.result.now.weight 0
    (map_at (λ (it : FragmentDef). it.weight) c.args.fragments.now c.args.fragment c.item.result.now c.item.ensures))
