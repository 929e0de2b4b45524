use Rattle.std.proofs.Common.{◌∙◌}
use Rattle.std.proofs.lemmas.Result.{IfOk-weaker}
use Rattle.esto_query.specs.Schemas.{names_of}
use Rattle.esto_reasoning.specs.Texts.{minimal_text}
use Rattle.esto_reasoning.proofs.minimising.listed_text.Goals as goal

pub returns : goal.returns
returns c =
    let members = c.in_ok-sets.ensures.members in
    let exact = c.requires.exact in
    IfOk-weaker c.minimal_text.result _ _ (λ text is. record {
      sets = c.in_ok-sets.sets;
      are_listed = record {
        exact = λ set. (λ inside. (exact set).0 ((members set).0 inside), λ is. (members set).1 ((exact set).1 is));
        ordered = c.in_ok-sets.ensures.in_order;
      };
      is = is ∙ (λ i. minimal_text (names_of c.args.catalogue.now.schema) c.args.minimal.now.names (c.items.ensures i) (c.items-2.ensures i)
          c.in_ok-sets.sets);
    }) c.minimal_text.ensures
