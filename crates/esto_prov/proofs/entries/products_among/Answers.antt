use Rattle.std.proofs.Common.{◌∙◌, sym}
use Rattle.esto_term.proofs.ListLemmas.{Contains-read}
use Rattle.esto_prov.specs.Products.{count_of}
use Rattle.esto_prov.proofs.ProductLemmas.{product_count, kept_none, kept_more, kept_all}
use Rattle.esto_prov.proofs.entries.products_among.Goals as goal

pub entries-init : goal.entries-init
entries-init c = record {
  count = c.new-products.ensures.count ∙ c.count_of.ensures;
  kept = kept_none c.args.claim.now (count_of c.args.entries.now) c.kept_sets_are_minimal.ensures.all _ c.new-products.ensures.empty;
}

pub add_product-requires : goal.add_product-requires
add_product-requires c =
    product_count c.args.entries.now c.entry-item.result c.requires
    (Contains-read c.args.entries.now c.entries.entry-index c.entry-item.result c.entries-test.true c.entry-item.is)
    ∙ sym c.entries.invariant.count

pub entries-preserved : goal.entries-preserved
entries-preserved c =
    let inside = Contains-read c.args.entries.now c.entries.entry-index c.entry-item.result c.entries-test.true c.entry-item.is in
    record {
      count = c.add_product.ensures.count ∙ c.entries.invariant.count;
      kept = kept_more c.args.claim.now (count_of c.args.entries.now) c.kept_sets_are_minimal.ensures.one_more c.args.entries.now c.entries.entry-index
          c.entry-item.result c.entries.products.sets c.add_product.new.products.sets c.entries-test.true c.entry-item.is c.entries.invariant.kept
          (product_count c.args.entries.now c.entry-item.result c.requires inside) c.in_ok-add_product.ensures.sets;
    }

pub returns-clause-exact : goal.returns-clause-exact
returns-clause-exact c =
    kept_all c.args.claim.now (count_of c.args.entries.now) c.args.entries.now c.entries.entry-index c.entries.products.sets c.entries-test.false
    c.entries.invariant.kept
