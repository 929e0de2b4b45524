-- Gets by the first column can be run over fragments that may be asked by it.
use Rattle.std.proofs.Common.{◌≡◌, ℕ, ◌<◌, ◌+◌, List, [], ◌∷◌, ◌++◌, map, Contains, inl, inr, sym, ap, subst, ◌∙◌, arith, option_map}
use Rattle.std.proofs.lemmas.List.{length-append}
use Rattle.std.proofs.lemmas.Option.{slice_get-map}
use Rattle.esto_columns.specs.Asked.{Shape, IsAllowed}
use Rattle.esto_exec.specs.Runnable.{AreRunnable}
use Rattle.esto_steps.specs.declared.steps.Get.{Get}
use Rattle.esto_term.proofs.ListLemmas.{Contains-one, Contains-head, Contains-at, place-from_Contains, at_pushed, thing_at}
use Rattle.esto_part_cases.specs.Refusing.{IsOpen, AreOpen, AskEach}
use Rattle.esto_part_cases.specs.declared.refusing.Flagged.{Flagged}

-- the shape of a fragment
abbrev pub shape_of : Flagged → Shape
shape_of it = record { arity = it.stored.rows.arity; ways = it.stored.ways }

-- one fragment more
pub one_open_more : (count : ℕ) (fragments : List Flagged) (fragment : Flagged) → AreOpen count fragments → IsOpen fragment.stored
    → AreOpen (count + 1) (fragments ++ fragment ∷ [])
one_open_more count fragments fragment before may_ask =
    let long = length-append fragments (fragment ∷ []) in
    let number = before.number in record {
      number = omega (arith, long, number);
      asked = λ other there.
          let place = place-from_Contains (fragments ++ fragment ∷ []) other there in
          elim (at_pushed fragments fragment place.0 other place.1) [
            | inl old ↦ before.asked other (Contains-at fragments place.0 other old)
            | inr last ↦ subst (λ it. IsOpen it.stored) last.1 may_ask
          ];
    }

-- one get more
pub one_more : (count : ℕ) (gets : List Get) (get : Get) → AskEach count gets → get.fragment ≡ count → map (λ link. link.column) get.inputs ≡ 0 ∷ []
    → AskEach (count + 1) (gets ++ get ∷ [])
one_more count gets get all at by_first other there =
    let place = place-from_Contains (gets ++ get ∷ []) other there in
    elim (at_pushed gets get place.0 other place.1) [
      | inl before ↦ (omega (arith, (all other (Contains-at gets place.0 other before)).0), (all other (Contains-at gets place.0 other before)).1)
      | inr last ↦ (
        subst (λ it. it.fragment < count + 1) last.1 (omega (arith, at)),
        subst (λ it. map (λ link. link.column) it.inputs ≡ 0 ∷ []) last.1 by_first,
      )
    ]

-- the first column may be asked by where that is the one way
first_allowed : (shape : Shape) → shape.arity ≡ 1 → shape.ways ≡ (0 ∷ []) ∷ [] → IsAllowed shape (0 ∷ [])
first_allowed shape wide is =
    record {
      there = λ column among. let same = Contains-one 0 column among in omega (arith, wide, same);
      once = λ i j d l m. absurd (omega (arith, m));
      way = (0 ∷ [], subst (λ ways. Contains ways (0 ∷ [])) (sym is) (Contains-head (0 ∷ []) []), λ column. (λ among. among, λ among. among));
    }

pub runnable : (count : ℕ) (fragments : List Flagged) (gets : List Get) → AreOpen count fragments → AskEach count gets → AreRunnable (map shape_of fragments)
    gets
runnable count fragments gets may all get there =
    let asked = all get there in
    let found = thing_at fragments get.fragment (omega (arith, asked.0, may.number)) in
    let own = may.asked found.0 (Contains-at fragments get.fragment found.0 found.1) in
    let shape = shape_of found.0 in (
      shape,
      slice_get-map shape_of fragments get.fragment ∙ ap (option_map shape_of) found.1,
      subst (IsAllowed shape) (sym asked.1) (first_allowed shape own.0 own.1),
    )
