-- The renaming of terms to variables, and the names of these variables.
use Rattle.std.specs.Prelude.{◌≡◌, ℕ, ◌+◌, cond, List, [], ◌∷◌, Some, unwrap_or, map, slice_get}
use Rattle.std.specs.Ordering.{is_eq}
use Rattle.esto_term.specs.Order.{term_cmp}
use Rattle.esto_term.specs.declared.term.Term.{Term, out-Term}
use Rattle.esto_term.specs.declared.term.Term.TheOpen.{Term-F}
use Rattle.esto_term.specs.declared.term.Term.TheVariants.{Const, Plain}
use Rattle.esto_semantics.specs.Maps.{Keeps}
use Rattle.esto_semantics.specs.declared.fact.Fact.{Fact}
use Rattle.esto_query.specs.declared.query.Name.{Name}
use Rattle.esto_query.specs.declared.query.Name.TheVariants.{Hidden}
use Rattle.esto_views.specs.declared.plan.PlanAtom.{PlanAtom}

-- The map renames the terms by place: it keeps constants, and makes the term at each place the variable of that number.
pub record IsRenaming (seen : List Term) (m : Term → Term) : Type 0 where
  pub keeps : Keeps Const m
  pub numbers : (place : ℕ) (term : Term) → slice_get seen place ≡ Some term → m term ≡ Plain place

-- The variable that a term becomes, where the first of those seen has this number; each term that is not among them stays.
abbrev pub numbered : ℕ → List Term → Term → Term
numbered number [] term = term
numbered number (first ∷ seen) term = cond (is_eq (term_cmp term first)) (Plain number) (numbered (number + 1) seen term)

-- The plan's atom that a row over fragments becomes.
abbrev pub renamed_atom : (Term → Term) → Fact Term → PlanAtom
renamed_atom m row = record { fragment = row.relation; terms = map m row.terms }

-- The name of one level of a term.
abbrev pub name_by_kind : List Name → Term-F Term → Name
name_by_kind names (Term-F.Const _) = Hidden
name_by_kind names (Term-F.Plain variable) = unwrap_or (slice_get names variable) Hidden
name_by_kind names (Term-F.Made _ _ _) = Hidden

-- The name of a term is that of its variable, where the term is a variable that has one; each other term is hidden.
abbrev pub name_of : List Name → Term → Name
name_of names term = name_by_kind names (out-Term term)
