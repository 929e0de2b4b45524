use Rattle.std.proofs.Common.{◌↔◌, IsTrue, sym, ◌∙◌, subst}
use Rattle.std.proofs.lemmas.Bool.{false≢true}
use Rattle.esto_semantics.specs.Expansions.{IsInner}
use Rattle.esto_semantics.specs.Facts.{Mentions}
use Rattle.esto_term.specs.declared.term.Term.TheVariants.{Plain}
use Rattle.esto_query.specs.Making.{query_of}
use Rattle.esto_views.proofs.InnerLemmas.{inner_where}
use Rattle.esto_views.proofs.inner.is_inner.Goals.{then-mentions, else-mentions}
use Rattle.esto_views.proofs.inner.is_inner.Goals as goal

pub returns : goal.returns
returns c =
    let told : IsTrue c.mentions.result ↔ Mentions c.args.view.now.body (Plain c.args.variable) = rw c.items.ensures at c.mentions.ensures in
    elim c.if-mentions.branch [
      | then-mentions w ↦ subst (λ answer. IsTrue answer ↔ IsInner (query_of c.args.view.now) (Plain c.args.variable)) (sym w.result-is)
          (inner_where (query_of c.args.view.now) c.args.variable (told.0 w.if-mentions.true) w.has_term.result
          (rw w.items-then-mentions.ensures at w.has_term.ensures))
      | else-mentions w ↦ (
        λ e. absurd (false≢true (sym w.if-mentions.false ∙ sym w.result-is ∙ e)),
        λ inner. absurd (false≢true (sym w.if-mentions.false ∙ told.1 inner.in_body)),
      )
    ]
