use Rattle.esto_query.specs.Schemas.{arities_of}
use Rattle.esto_catalog.proofs.EncodingLemmas.{AreRulesSoFar}
use Rattle.esto_catalog.proofs.rules.with_encodings.Given as goal

abbrev pub invariant-datasets : goal.invariant-datasets
invariant-datasets l = AreRulesSoFar l.version (arities_of l.scope.schema) l.dataset-items l.initial.rules l.rules l.dataset-index
