-- Terms: what a replacement leaves, and how deep lesser terms nest.
use Rattle.std.proofs.Common.{◌≡◌, ◌≢◌, inl, inr, ℕ, ◌≤◌, sym, ◌∙◌, arith, refl}
use Rattle.std.specs.Ordering.{nat_cmp, ordering_then}
use Rattle.std.specs.declared.cmp.Ordering.{Ordering}
use Rattle.std.specs.declared.cmp.Ordering.TheVariants.{Less, Equal, Greater}
use Rattle.std.proofs.lemmas.Bool.Decides.{nat_tests}
use Rattle.esto_term.specs.Nesting.{nesting}
use Rattle.esto_term.specs.Order.{term_cmp, replaced}
use Rattle.esto_term.specs.declared.term.Term.{Term}
use Rattle.esto_term.specs.declared.term.Term.TheVariants.{Made}
use Rattle.esto_term.proofs.CompareLemmas.{term_cmp-Equal, term_cmp-Made-Made, term_cmp-Made-Const, term_cmp-Made-Plain}
use Rattle.esto_term.proofs.NestingLemmas.{nesting-Const, nesting-Plain}
use Rattle.esto_semantics.proofs.TermLemmas.{term_cases, replaced_cases}

-- ---- a replacement

pub replaced-from : (from to : Term) → replaced from to from ≡ to
replaced-from from to = elim (replaced_cases from to from) [
  | inl at ↦ at.1
  | inr apart ↦ absurd (apart.0 refl)
]

pub replaced-other : (from to term : Term) → term ≢ from → replaced from to term ≡ term
replaced-other from to term differs = elim (replaced_cases from to term) [
  | inl at ↦ absurd (differs at.0)
  | inr apart ↦ apart.1
]

-- ---- nesting

then_less : (m n : ℕ) (a b c : Ordering) → ordering_then (ordering_then (ordering_then (nat_cmp m n) a) b) c ≡ Less → m ≤ n
then_less m n a b c less = by (nat_cmp m n) refl less
  where
    by : (order : Ordering) → nat_cmp m n ≡ order → ordering_then (ordering_then (ordering_then order a) b) c ≡ Less → m ≤ n
    by Less told less = grind (arith, nat_tests)
    by Equal told less = grind (arith, nat_tests)
    by Greater told less = cc

-- a lesser term nests no deeper
pub nesting-lesser : (term other : Term) → term_cmp term other ≡ Less → nesting term ≤ nesting other
nesting-lesser = term_cases (λ term. (other : Term) → term_cmp term other ≡ Less → nesting term ≤ nesting other)
    (λ text other less. omega (arith, nesting-Const text))
    (λ number other less. omega (arith, nesting-Plain number))
    (λ r v fs. term_cases (λ other. term_cmp (Made r v fs) other ≡ Less → nesting (Made r v fs) ≤ nesting other)
    (λ text less. let wrong : Greater ≡ Less = sym (term_cmp-Made-Const r v fs text) ∙ less in cc)
    (λ number less. let wrong : Greater ≡ Less = sym (term_cmp-Made-Plain r v fs number) ∙ less in cc)
    (λ q w gs less. then_less (nesting (Made r v fs)) (nesting (Made q w gs)) _ _ _ (sym (term_cmp-Made-Made r v fs q w gs) ∙ less)))

pub less-apart : (term other : Term) → term_cmp term other ≡ Less → term ≢ other
less-apart term other less is = let wrong : Less ≡ Equal = sym less ∙ (term_cmp-Equal term other).1 is in cc

-- ---- a match by places sends the body into the facts
