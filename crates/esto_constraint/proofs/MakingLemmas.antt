-- The first misfit among atoms of a body and then of a head.
use Rattle.std.proofs.Common.{ℕ, ◌+◌, ◌<◌, ◌++◌, List, [], length, take, Some, Err, sym, ap, ◌∙◌, subst, inl, inr, arith, length-append}
use Rattle.std.proofs.Math.Seq.{take-append-add}
use Rattle.std.proofs.lemmas.List.{take-append-le, get_or_append_left, get_or-append-add}
use Rattle.std.proofs.lemmas.List.Elements.{Contains-append_cases}
use Rattle.std.proofs.lemmas.Option.{slice_get_within, slice_get-get_or, get_or_from_slice_get}
use Rattle.esto_term.specs.declared.term.Term.{Term}
use Rattle.esto_semantics.specs.WellFormed.{AreOver}
use Rattle.esto_semantics.specs.declared.fact.Fact.{Fact}
use Rattle.esto_query.specs.Making.{IsFirstMisfit}
use Rattle.esto_query.specs.declared.query.Name.{Name}
use Rattle.esto_query.specs.declared.make.QueryFault.{QueryFault}
use Rattle.esto_query.specs.declared.make.QueryFault.TheVariants.{Unsafe, Arity, TooLarge, OutOfMemory}
use Rattle.esto_constraint.specs.Making.{MakesTuple, MakesEquality, IsBodyFault}

module _ (schema : List ℕ) where
  pub AreOver-append : (body head : List (Fact Term)) → AreOver schema body → AreOver schema head → AreOver schema (body ++ head)
  AreOver-append body head one two fact inside = elim (Contains-append_cases body head fact inside) [
    | inl in_body ↦ one fact in_body
    | inr in_head ↦ two fact in_head
  ]

  pub IsFirstMisfit-body : (body head : List (Fact Term)) (place : ℕ) → IsFirstMisfit schema body place → IsFirstMisfit schema (body ++ head) place
  IsFirstMisfit-body body head place first = record {
    atom = first.atom;
    there = slice_get-get_or (body ++ head) place first.atom (omega (arith, within, length-append body head))
        ∙ ap Some (get_or_append_left body head first.atom place within ∙ get_or_from_slice_get body place first.atom first.atom first.there);
    misfit = first.misfit;
    before = subst (AreOver schema) (sym (take-append-le place body head (omega (arith, within)))) first.before;
  }
    where
      within : place < length body
      within = slice_get_within body place first.atom first.there

  pub IsFirstMisfit-head : (body head : List (Fact Term)) (place : ℕ) → AreOver schema body → IsFirstMisfit schema head place
      → IsFirstMisfit schema (body ++ head) (length body + place)
  IsFirstMisfit-head body head place over first = record {
    atom = first.atom;
    there = slice_get-get_or (body ++ head) (length body + place) first.atom (omega (arith, within, length-append body head))
        ∙ ap Some (get_or-append-add body head place first.atom ∙ get_or_from_slice_get head place first.atom first.atom first.there);
    misfit = first.misfit;
    before = subst (AreOver schema) (sym (take-append-add body head place)) (AreOver-append body (take place head) over first.before);
  }
    where
      within : place < length head
      within = slice_get_within head place first.atom first.there

-- ---- what is wrong, whatever the names are

pub body_refused : (schema : List ℕ) (body : List (Fact Term)) (left right : Term) (fault : QueryFault) → IsBodyFault schema body fault
    → MakesEquality schema body left right [] (Err fault)
body_refused schema body left right (Arity place) is = is
body_refused schema body left right (TooLarge atoms) is = is
body_refused schema body left right (Unsafe variable) is = absurd is
body_refused schema body left right OutOfMemory is = is

pub equality_refused : (schema : List ℕ) (body : List (Fact Term)) (left right : Term) (names : List Name) (fault : QueryFault)
    → MakesEquality schema body left right [] (Err fault) → MakesEquality schema body left right names (Err fault)
equality_refused schema body left right names (Arity place) is = is
equality_refused schema body left right names (TooLarge atoms) is = is
equality_refused schema body left right names (Unsafe variable) is = is
equality_refused schema body left right names OutOfMemory is = is

pub tuple_refused : (schema : List ℕ) (body head : List (Fact Term)) (names : List Name) (fault : QueryFault) → MakesTuple schema body head [] (Err fault)
    → MakesTuple schema body head names (Err fault)
tuple_refused schema body head names (Arity place) is = is
tuple_refused schema body head names (TooLarge atoms) is = is
tuple_refused schema body head names (Unsafe variable) is = is
tuple_refused schema body head names OutOfMemory is = is
