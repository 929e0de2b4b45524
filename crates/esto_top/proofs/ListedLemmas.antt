-- Properties of which all things that have them stand in a list.
use Rattle.std.proofs.Common.{◌↔◌, inl, inr, List, [], ◌∷◌, ◌++◌, Contains, sym, subst}
use Rattle.std.proofs.lemmas.List.Elements.{Contains-append_cases, Contains-append_left, Contains-append_right}
use Rattle.esto_term.proofs.ListLemmas.{Contains-nil, Contains-head, Contains-rest, Contains-cases}

-- a list has exactly the things that have the property
abbrev pub Listed : {A : Type 0} → (A → Type 0) → Type 0
Listed {A} P = (things : List A) × ((thing : A) → Contains things thing ↔ P thing)

-- so it has where the property is that of one of finitely many, each of which has its list
pub each_listed : {X A : Type 0} (P : X → A → Type 0) (xs : List X) → ((x : X) → Contains xs x → Listed (P x))
    → Listed (λ (thing : A). (x : X) × Contains xs x × P x thing)
each_listed P [] list = ([], λ thing. ((λ inside. absurd (Contains-nil thing inside)), (λ (x, inside, has). absurd (Contains-nil x inside))))
each_listed {X} {A} P (first ∷ rest) list =
    by (list first (Contains-head first rest)) (each_listed P rest (λ x inside. list x (Contains-rest first rest x inside)))
  where
    by : Listed (P first) → Listed (λ (thing : A). (x : X) × Contains rest x × P x thing)
        → Listed (λ (thing : A). (x : X) × Contains (first ∷ rest) x × P x thing)
    by (ones, in_ones) (others, in_others) = (
      ones ++ others,
      λ thing. (
        (λ inside. elim (Contains-append_cases ones others thing inside) [
          | inl here ↦ (first, Contains-head first rest, (in_ones thing).0 here)
          | inr later ↦ let (x, there, has) = (in_others thing).0 later in (x, Contains-rest first rest x there, has)
        ]),
        (λ (x, there, has). elim (Contains-cases first rest x there) [
          | inl is ↦ Contains-append_left ones others thing ((in_ones thing).1 (subst (λ it. P it thing) (sym is) has))
          | inr later ↦ Contains-append_right ones others thing ((in_others thing).1 (x, later, has))
        ]),
      ),
    )
