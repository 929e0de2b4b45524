use Rattle.std.proofs.Common.{◌≡◌, ◌↔◌, Bool, List, Contains, subst, ◌∙◌}
use Rattle.std.proofs.lemmas.Result.{IfOk-weaker}
use Rattle.esto_term.specs.Sets.{IsMinimal}
use Rattle.esto_prov.specs.Products.{count_of, IsProductOf}
use Rattle.esto_prov.proofs.entries.Entries.products_of.Goals as goal

pub returns-clause-count : goal.returns-clause-count
returns-clause-count c =
    IfOk-weaker c.products_among.result _ _ (λ products. subst (λ it. products.count ≡ count_of it) (c.items.ensures ∙ c.self.view_is))
    c.products_among.ensures.count

pub returns-clause-exact : goal.returns-clause-exact
returns-clause-exact c =
    IfOk-weaker c.products_among.result _ _
    (λ products. subst (λ it. (set : List Bool) → Contains products.sets set ↔ IsMinimal (IsProductOf it c.args.claim.now) set)
    (c.items.ensures ∙ c.self.view_is)) c.products_among.ensures.exact
