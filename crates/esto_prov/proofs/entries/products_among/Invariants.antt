use Rattle.std.proofs.Common.{◌≡◌, take}
use Rattle.esto_prov.specs.Products.{count_of}
use Rattle.esto_prov.proofs.ProductLemmas.{AreKept}
use Rattle.esto_prov.proofs.entries.products_among.Given as goal

-- the minimal products of the entries so far are kept
abbrev pub invariant-entries : goal.invariant-entries
invariant-entries l = record {
  count : l.products.count ≡ count_of l.entries;
  kept : AreKept l.claim (count_of l.entries) (take l.entry-index l.entries) l.products.sets;
}
