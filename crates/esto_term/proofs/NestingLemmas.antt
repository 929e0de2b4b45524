-- Laws of the nesting of terms.
use Rattle.std.proofs.Common.{◌≡◌, ℕ, zero, suc, ◌+◌, ◌<◌, ◌≤◌, max, List, [], ◌∷◌, map, drop, length, get_or, slice_index_or, sym, ap, ◌∙◌, arith, add-one}
use Rattle.std.proofs.Math.Seq.{drop-cons}
use Rattle.esto_term.specs.Nesting.{nesting, nesting_above, level_nesting, one_deeper}
use Rattle.esto_term.specs.declared.term.Term.{Term, fold-roll-Term}
use Rattle.esto_term.specs.declared.term.Term.TheOpen.{Term-F}
use Rattle.esto_term.specs.declared.term.Term.TheVariants.{Const, Plain, Made, rolls-Const, rolls-Plain, rolls-Made}

-- ---- the nesting of each kind of term

pub nesting-Const : (bytes : List ℕ) → nesting (Const bytes) ≡ 0
nesting-Const bytes = ap nesting (sym (rolls-Const bytes)) ∙ fold-roll-Term ℕ level_nesting (Term-F.Const bytes)

pub nesting-Plain : (number : ℕ) → nesting (Plain number) ≡ 0
nesting-Plain number = ap nesting (sym (rolls-Plain number)) ∙ fold-roll-Term ℕ level_nesting (Term-F.Plain number)

pub nesting-Made : (rule variable : ℕ) (frontier : List Term) → nesting (Made rule variable frontier) ≡ nesting_above (map nesting frontier)
nesting-Made rule variable frontier =
    ap nesting (sym (rolls-Made rule variable frontier)) ∙ fold-roll-Term ℕ level_nesting (Term-F.Made rule variable frontier)

-- ---- a frontier and its terms

-- a made term nests at least one deeper than each term of its frontier
pub one_deeper-part : (frontier : List Term) (place : ℕ) (part : Term) → place < length frontier → slice_index_or frontier place part ≡ part
    → one_deeper (nesting part) ≤ nesting_above (map nesting frontier)
one_deeper-part [] place part within is = absurd (omega arith)
one_deeper-part (first ∷ rest) zero part within is = omega (arith, ap nesting is)
one_deeper-part (first ∷ rest) (suc place) part within is = omega (arith, one_deeper-part rest place part (omega arith) is)

-- a walk over a frontier moves one term from what is left into the greatest so far
pub nesting_above-step : (frontier : List Term) (place : ℕ) (part : Term) (so_far all : ℕ) → place < length frontier → part ≡ get_or frontier place part
    → max so_far (nesting_above (map nesting (drop place frontier))) ≡ all
    → max (max so_far (one_deeper (nesting part))) (nesting_above (map nesting (drop (place + 1) frontier))) ≡ all
nesting_above-step frontier place part so_far all within is known =
    rw (add-one place) (let split = rw (drop-cons frontier place part within, ← is) at known in omega (arith, split))
