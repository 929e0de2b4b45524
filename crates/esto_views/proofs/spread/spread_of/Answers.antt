use Rattle.std.proofs.Common.{◌+◌, ◌++◌, ap, ◌∙◌, length, map}
use Rattle.std.specs.List.{range_with_len}
use Rattle.esto_term.specs.declared.term.Term.TheVariants.{Plain}
use Rattle.esto_query.specs.Making.{query_of}
use Rattle.esto_semantics.proofs.SubstitutionLemmas.{spread_done}
use Rattle.esto_views.proofs.spread.spread_of.Goals as goal

pub returns : goal.returns
returns c =
    let (inner, are_inner, from, to, next) = c.in_ok-push_inner.ensures in
    let done = spread_done (query_of c.args.fragment.now.view) c.args.terms.now c.args.first c.push_inner.new.spread.next inner are_inner
    c.requires.fragment.variables c.requires.fragment.distinct c.requires.columns c.push_inner.new.spread.from c.push_inner.new.spread.to
    (from ∙ ap (λ it. it ++ map Plain inner) c.in_ok-spread.ensures.from)
    (to ∙ (λ i. c.in_ok-spread.ensures.to i ++ map Plain (range_with_len (c.in_ok-spread.ensures.next i) (length inner))))
    (next ∙ ap (λ it. it + length inner) c.in_ok-spread.ensures.next) in
    record { spread = done.0; same_length = done.1 }
