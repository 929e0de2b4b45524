-- What the rows after a view give fits the view.
use Rattle.std.proofs.Common.{◌≡◌, ◌≤◌, ℕ, Bool, List, length, ap, subst, sym, ◌∙◌}
use Rattle.esto_course.specs.Course.{and_then, gives}
use Rattle.esto_query.specs.declared.query.Query.{Query}
use Rattle.esto_settings.specs.declared.setting.Field.{Field}
use Rattle.esto_catalog.proofs.AccessLemmas.{AreSoundPatterns, access_sound, weight_light}
use Rattle.esto_catalog.proofs.ShapeLemmas.{shape_fit}
use Rattle.esto_catalog.specs.Fragments.{rows_after_view}
use Rattle.esto_catalog.specs.Shapes.{head_columns}
use Rattle.esto_docmodel.specs.Stores.{FitView, IsShapeFor}
use Rattle.esto_mapping.specs.declared.catalogue.TheConstants.{MAX_WEIGHT}
use Rattle.esto_docmodel.specs.declared.file.Shape.{Shape}
use Rattle.esto_docmodel.specs.declared.file.Store.{Store}
use Rattle.esto_catalog.specs.declared.fault.Place.{Place}

-- the shape fits the view, the patterns are as wide as it, and the weight is in range
pub rows_fit : (place : Place) (view : Query) (entry : List Field) (store : Store) (access : List (List Bool)) (weight : ℕ) → FitView view (head_columns view)
    → (rows_after_view place view entry).goes (store, access, weight)
    → IsShapeFor store.shape view × AreSoundPatterns (length view.head) access × (weight ≤ MAX_WEIGHT)
unfolding and_then gives
rows_fit place view entry store access weight fit (model, m, (file, f, (rest, (shape, s, (last, (access', a, (weight', w, is)), same)), all))) =
    let parts : (store.shape, access, weight) ≡ (shape, access', weight') =
    ap (λ (it : Store × List (List Bool) × ℕ). (it.0.shape, it.1, it.2)) all ∙ same ∙ ap (λ (it : List (List Bool) × ℕ). (shape, it.0, it.1)) is in
    subst (λ (it : Shape × List (List Bool) × ℕ). IsShapeFor it.0 view × AreSoundPatterns (length view.head) it.1 × (it.2 ≤ MAX_WEIGHT)) (sym parts)
    (shape_fit place model view entry shape fit s, access_sound place model _ _ access' a, weight_light place _ weight' w)
