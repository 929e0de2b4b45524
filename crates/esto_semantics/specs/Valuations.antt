-- Finite valuations, and the maps of terms that extend them.
use Rattle.std.specs.Prelude.{◌≡◌, ℕ, Some, unwrap_or}
use Rattle.std.specs.FinMap.{FinMap, get}
use Rattle.std.specs.Ordering.{nat_cmp}
use Rattle.esto_term.specs.declared.term.Term.{Term, out-Term}
use Rattle.esto_term.specs.declared.term.Term.TheOpen.{Term-F}
use Rattle.esto_term.specs.declared.term.Term.TheVariants.{Plain}

-- A valuation gives some variables, by number, a term each.
abbrev pub Assignment : Type 0
Assignment = FinMap nat_cmp Term

-- The map gives each variable of the valuation the term that the valuation gives it.
abbrev pub Extends : (Term → Term) → Assignment → Type 0
Extends m valuation = (variable : ℕ) (term : Term) → get valuation variable ≡ Some term → m (Plain variable) ≡ term

-- What a valuation makes of a term, by the term's kind.
abbrev pub value_by_kind : Assignment → Term → Term-F Term → Term
value_by_kind valuation term (Term-F.Const _) = term
value_by_kind valuation term (Term-F.Plain variable) = unwrap_or (get valuation variable) term
value_by_kind valuation term (Term-F.Made _ _ _) = term

-- The map of a valuation gives its variables their terms, and every other term stays.
abbrev pub map_of : Assignment → Term → Term
map_of valuation term = value_by_kind valuation term (out-Term term)
