-- The rules of a catalogue: its own constraints, and then those that the encodings of its datasets bring.
use Rattle.std.specs.Prelude.{◌≡◌, ℕ, List, [], ◌∷◌, ◌++◌, length, map, take}
use Rattle.esto_constraint.specs.Constraints.{rules_of}
use Rattle.esto_constraint.specs.EncodingRules.{written, document_names, document_names_2, key_names}
use Rattle.esto_semantics.specs.DocumentRules.{document_rules, document_rules_2, key_rules}
use Rattle.esto_constraint.specs.declared.rule.Constraint.{Constraint}
use Rattle.esto_query.specs.declared.query.Name.{Name}
use Rattle.esto_docmodel.specs.declared.words.DataModel.{DataModel}
use Rattle.esto_docmodel.specs.declared.words.DataModel.TheVariants.{Table, Documents, Keys}
use Rattle.esto_semantics.specs.Rules.{Rule}
use Rattle.esto_text.specs.declared.version.Version.{Version}
use Rattle.esto_text.specs.declared.version.Version.TheVariants.{One, Two}
use Rattle.esto_mapping.specs.declared.dataset.Dataset.{Dataset}

-- The rules of the encoding of a dataset of this model whose relations stand from the base on. Documents have one more in version 2.
abbrev pub encoding_rules : Version → DataModel → ℕ → List Rule
encoding_rules version Table base = []
encoding_rules One Documents base = document_rules base
encoding_rules Two Documents base = document_rules_2 base
encoding_rules version Keys base = key_rules base

-- The names of the variables of those rules.
abbrev pub encoding_names : Version → DataModel → List (List Name)
encoding_names version Table = []
encoding_names One Documents = document_names
encoding_names Two Documents = document_names_2
encoding_names version Keys = key_names

-- The rules of the encodings of datasets, in order of dataset.
abbrev pub encodings_rules : Version → List Dataset → List Rule
encodings_rules version [] = []
encodings_rules version (dataset ∷ datasets) = encoding_rules version dataset.model dataset.base ++ encodings_rules version datasets

-- The names of the variables of those rules.
abbrev pub encodings_names : Version → List Dataset → List (List Name)
encodings_names version [] = []
encodings_names version (dataset ∷ datasets) = encoding_names version dataset.model ++ encodings_names version datasets

-- The rules of a catalogue with these constraints of its own.
abbrev pub all_rules : Version → List Dataset → List Constraint → List Rule
all_rules version datasets given = rules_of given ++ encodings_rules version datasets

-- All the rules are the given ones as they are, and then those of the encodings, whose variables are named as those rules are written.
pub record AreAllRules (version : Version) (datasets : List Dataset) (given rules : List Constraint) : Type 0 where
  pub first : take (length given) rules ≡ given
  pub all : rules_of rules ≡ all_rules version datasets given
  pub names : map written rules ≡ map written given ++ encodings_names version datasets
