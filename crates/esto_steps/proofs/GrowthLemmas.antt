-- Steps of texts are those of longer lists of texts.
use Rattle.std.proofs.Common.{inl, inr, ℕ, Bool, List, [], ◌∷◌, ◌++◌, take, slice_get, sym, ap, ◌∙◌}
use Rattle.std.specs.List.{AllZip}
use Rattle.std.proofs.lemmas.List.{append-nil}
use Rattle.esto_term.specs.declared.term.Term.{Term}
use Rattle.esto_term.proofs.ListLemmas.{at_left}
use Rattle.esto_semantics.specs.declared.fact.Fact.{Fact}
use Rattle.esto_columns.specs.Interned.{Grows}
use Rattle.esto_steps.specs.declared.steps.Get.{Get}
use Rattle.esto_steps.specs.declared.steps.Link.{Link}
use Rattle.esto_steps.specs.declared.steps.Source.{Source}
use Rattle.esto_steps.specs.Planned.{IsSource, IsLink, IsGetOf}

pub grows_refl : (texts : List (List ℕ)) → Grows texts texts
grows_refl texts = ([], sym (append-nil texts))

pub source_grows : (old new : List (List ℕ)) (bound : List Term) (term : Term) (source : Source) → Grows old new → IsSource old bound term source
    → IsSource new bound term source
source_grows old new bound term source grown told = elim told [
  | inl constant ↦ inl (
    constant.0,
    constant.1,
    constant.2,
    ap (λ them. slice_get them constant.1) grown.1 ∙ at_left old grown.0 constant.1 constant.0 constant.3,
    constant.4,
  )
  | inr found ↦ inr found
]

pub link_grows : (old new : List (List ℕ)) (bound terms : List Term) (link : Link) → Grows old new → IsLink old bound terms link → IsLink new bound terms link
link_grows old new bound terms link grown told = (told.0, told.1, source_grows old new bound told.0 link.source grown told.2)

pub get_grows : (old new : List (List ℕ)) (patterns : List (List Bool)) (bound : List Term) (atom : Fact Term) (get : Get) → Grows old new
    → IsGetOf old patterns bound atom get → IsGetOf new patterns bound atom get
get_grows old new patterns bound atom get grown is = record {
  fragment = is.fragment;
  columns = is.columns;
  inputs = λ link inside. link_grows old new bound atom.terms link grown (is.inputs link inside);
  filters = λ link inside. link_grows old new (bound ++ take link.column atom.terms) atom.terms link grown (is.filters link inside);
  complete = is.complete;
}

pub head_grows : (old new : List (List ℕ)) (bound head : List Term) (sources : List Source) → Grows old new → AllZip (IsSource old bound) head sources
    → AllZip (IsSource new bound) head sources
head_grows old new bound [] [] grown told = told
head_grows old new bound [] (source ∷ sources) grown told = absurd told
head_grows old new bound (term ∷ head) [] grown told = absurd told
head_grows old new bound (term ∷ head) (source ∷ sources) grown told =
    (source_grows old new bound term source grown told.0, head_grows old new bound head sources grown told.1)
