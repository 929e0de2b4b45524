-- The rows of a fragment's binding patterns and of its weight.
use Rattle.std.specs.Prelude.{◌≡◌, ◌≢◌, ℕ, ◌≤◌, ℤ, pos, List, [], ◌∷◌, Option, Some, None, Bool, true, false, length, map, nat_eq, codes, AllPairs, Contains}
use Rattle.std.specs.List.{range_with_len}
use Rattle.esto_course.specs.Course.{Course, judges, gives, refuses}
use Rattle.esto_query.specs.declared.query.Query.{Query}
use Rattle.esto_docmodel.specs.declared.words.DataModel.{DataModel}
use Rattle.esto_docmodel.specs.declared.words.DataModel.TheVariants.{Table, Documents, Keys}
use Rattle.esto_catalog.specs.Rows.{fault_at}
use Rattle.esto_settings.specs.Settings.{setting_at}
use Rattle.esto_mapping.specs.declared.catalogue.TheConstants.{MAX_PATTERNS, MAX_WEIGHT}
use Rattle.esto_catalog.specs.declared.fault.CatalogueError.{CatalogueError}
use Rattle.esto_status.specs.declared.fault.CatalogueKind.TheVariants.{WrongType, BadAccess, BadWeight}
use Rattle.esto_catalog.specs.declared.fault.Place.{Place}
use Rattle.esto_settings.specs.declared.setting.Field.{Field}
use Rattle.esto_settings.specs.declared.setting.Setting.{Setting}
use Rattle.esto_settings.specs.declared.setting.Setting.TheVariants.{Text, Integer, Texts}

-- The letter of a column: `i` where it is an input, and `o` where it is not.
abbrev pub letter_of : Bool → ℕ
letter_of true = 105
letter_of false = 111

-- The text of a pattern has the letter of each column.
abbrev pub written_pattern : List Bool → List ℕ
written_pattern pattern = map letter_of pattern

-- The text is that of this pattern of so many columns.
abbrev pub IsPattern : ℕ → List ℕ → List Bool → Type 0
IsPattern columns text pattern = (text ≡ written_pattern pattern) × (length pattern ≡ columns)

-- The texts are those of these patterns: there is one, there are no more than a fragment may have, no two are the same, and each has so many columns.
pub record ArePatterns (columns : ℕ) (texts : List (List ℕ)) (patterns : List (List Bool)) : Type 0 where
  pub some : 1 ≤ length texts
  pub few : length texts ≤ MAX_PATTERNS
  pub distinct : AllPairs ◌≢◌ texts
  pub written : texts ≡ map written_pattern patterns
  pub wide : (pattern : List Bool) → Contains patterns pattern → length pattern ≡ columns

-- The texts are those of patterns; else BadAccess.
abbrev pub reads_patterns : Place → ℕ → List (List ℕ) → Course CatalogueError (List (List Bool))
reads_patterns place columns texts =
    judges (ArePatterns columns texts)
    (λ error. ((patterns : List (List Bool)) → ¬ ArePatterns columns texts patterns) × (error ≡ fault_at BadAccess place (codes "access")))

-- Where no pattern is written, the first column of keys is an input, and no other column is one.
abbrev pub is_usual_input : DataModel → ℕ → Bool
is_usual_input Table column = false
is_usual_input Documents column = false
is_usual_input Keys column = nat_eq column 0

-- The pattern of so many columns for which none is written.
abbrev pub usual_pattern : DataModel → ℕ → List Bool
usual_pattern model columns = map (is_usual_input model) (range_with_len 0 columns)

-- The access may be absent, and is then the one usual pattern. Else it is the text of a pattern, or the texts of some.
abbrev pub allows_access : Place → DataModel → ℕ → Option Setting → Course CatalogueError (List (List Bool))
allows_access place model columns None = gives (usual_pattern model columns ∷ [])
allows_access place model columns (Some (Text text)) = reads_patterns place columns (text ∷ [])
allows_access place model columns (Some (Texts texts)) = reads_patterns place columns texts
allows_access place model columns (Some _) = refuses (fault_at WrongType place (codes "access"))

-- The binding patterns of the view's fragment, whose store is of this model.
abbrev pub access_row : Place → DataModel → Query → List Field → Course CatalogueError (List (List Bool))
access_row place model view entry = allows_access place model (length view.head) (setting_at (codes "access") entry)

-- The integer is this weight, which is no greater than a fragment's may be.
abbrev pub IsWeight : ℤ → ℕ → Type 0
IsWeight number weight = (number ≡ pos weight) × (weight ≤ MAX_WEIGHT)

-- The integer is a weight; else BadWeight.
abbrev pub reads_weight : Place → ℤ → Course CatalogueError ℕ
reads_weight place number =
    judges (IsWeight number) (λ error. ((weight : ℕ) → ¬ IsWeight number weight) × (error ≡ fault_at BadWeight place (codes "weight")))

-- The weight may be absent, and is then 1.
abbrev pub allows_weight : Place → Option Setting → Course CatalogueError ℕ
allows_weight place None = gives 1
allows_weight place (Some (Integer number)) = reads_weight place number
allows_weight place (Some _) = refuses (fault_at WrongType place (codes "weight"))

-- The weight of the fragment.
abbrev pub weight_row : Place → List Field → Course CatalogueError ℕ
weight_row place entry = allows_weight place (setting_at (codes "weight") entry)
