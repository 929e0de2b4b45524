-- What a tuple rule makes of a term of its head, by the valuation of its body.
use Rattle.std.specs.Prelude.{ℕ, List, unwrap_or}
use Rattle.std.specs.FinMap.{get}
use Rattle.esto_term.specs.declared.term.Term.{Term, out-Term}
use Rattle.esto_term.specs.declared.term.Term.TheOpen.{Term-F}
use Rattle.esto_term.specs.declared.term.Term.TheVariants.{Made}
use Rattle.esto_semantics.specs.Valuations.{Assignment}

-- What it makes of a term, by the term's level.
abbrev pub made_by_level : ℕ → List Term → Assignment → Term → Term-F Term → Term
made_by_level number values valuation term (Term-F.Const _) = term
made_by_level number values valuation term (Term-F.Plain variable) = unwrap_or (get valuation variable) (Made number variable values)
made_by_level number values valuation term (Term-F.Made _ _ _) = term

-- A variable that has a value becomes it, each other variable a term that is made for it, and every other term stays.
abbrev pub made_by : ℕ → List Term → Assignment → Term → Term
made_by number values valuation term = made_by_level number values valuation term (out-Term term)
