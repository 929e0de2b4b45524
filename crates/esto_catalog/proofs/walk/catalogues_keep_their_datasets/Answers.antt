use Rattle.std.proofs.Common.{sym, subst, ◌∙◌, ap}
use Rattle.esto_course.specs.Course.{and_then, judges}
use Rattle.esto_catalog.proofs.DatasetLemmas.{read_based}
use Rattle.esto_catalog.proofs.WalkLemmas.{found_ranked}
use Rattle.esto_mapping.specs.Datasets.{AreBased, schema_of}
use Rattle.esto_catalog.specs.Rules.{AreAllRules}
use Rattle.esto_catalog.proofs.walk.catalogues_keep_their_datasets.Goals as goal

pub returns-clause-relations : goal.returns-clause-relations
unfolding and_then judges
returns-clause-relations c = λ bytes catalogue reads.
    let made = reads.2.2.2 in
    record {
      schema = made.schema ∙ ap schema_of (sym made.same_datasets);
      bases = subst (AreBased 0) (sym made.same_datasets) (read_based reads.0.datasets reads.2.0 reads.2.1);
    }

pub returns-clause-encodings : goal.returns-clause-encodings
unfolding and_then judges
returns-clause-encodings c = λ bytes catalogue reads.
    let made = reads.2.2.2 in
    let (version, own, are) = found_ranked reads.0 reads.2.0 reads.2.2.0 reads.2.2.1 in
    record {
      version = version;
      own = own;
      counted = made.given ∙ are.given_are;
      rules = subst (λ it. AreAllRules version it own catalogue.rules) (sym made.same_datasets)
          (subst (AreAllRules version reads.2.0 own) (sym made.rules) are.rules);
    }
