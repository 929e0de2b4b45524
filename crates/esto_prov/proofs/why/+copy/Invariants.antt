use Rattle.std.proofs.Common.{◌≡◌, take}
use Rattle.esto_prov.proofs.why.+copy.Given as goal

-- the derivations so far are copied
abbrev pub invariant-copied_all-whys : goal.invariant-copied_all-whys
invariant-copied_all-whys l = l.own ≡ take l.why-index l.whys
