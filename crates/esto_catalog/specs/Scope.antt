-- Datasets with their relations and the words that name them.
use Rattle.std.specs.Prelude.{◌≡◌}
use Rattle.esto_query.specs.Schemas.{arities_of}
use Rattle.esto_docmodel.specs.Words.{IsVocabulary}
use Rattle.esto_catalog.specs.Datasets.{AreDatasets}
use Rattle.esto_mapping.specs.Datasets.{schema_of, words_of}
use Rattle.esto_catalog.specs.declared.scope.Scope.{Scope}

-- The datasets are sound, the relations and the words are theirs, and the words are a vocabulary over the relations.
pub record IsScope (scope : Scope) : Type 0 where
  pub datasets_are : AreDatasets scope.datasets
  pub schema : scope.schema ≡ schema_of scope.datasets
  pub words : scope.words ≡ words_of scope.datasets
  pub vocabulary : IsVocabulary (arities_of scope.schema) scope.words
