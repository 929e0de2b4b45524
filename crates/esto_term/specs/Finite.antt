-- The finitely many terms over a finite stock, where frontiers are short and nesting is low.
use Rattle.std.specs.Prelude.{ℕ, zero, suc, ◌≤◌, ◌<◌, List, [], ◌∷◌, ◌++◌, map, length, Contains}
use Rattle.std.specs.List.{flat_map}
use Rattle.esto_term.specs.Nesting.{nesting, greatest_u64}
use Rattle.esto_term.specs.declared.term.Term.{Term}
use Rattle.esto_term.specs.declared.term.Term.TheVariants.{Const, Plain, Made}

-- A stock is what terms are made of: texts of constants, numbers of plain terms, rules, and variables of rules.
pub record Stock : Type 0 where
  pub texts : List (List ℕ)
  pub numbers : List ℕ
  pub rules : List ℕ
  pub variables : List ℕ

-- A term is made of the stock when all that stands in it is of the stock, and no frontier in it is longer than `width`.
pub data IsMadeOf (stock : Stock) (width : ℕ) : Term → Type 0 where
  constant : (text : List ℕ) → Contains stock.texts text → IsMadeOf stock width (Const text)
  plain : (number : ℕ) → Contains stock.numbers number → IsMadeOf stock width (Plain number)
  made : (rule variable : ℕ) (frontier : List Term) → Contains stock.rules rule → Contains stock.variables variable → length frontier ≤ width
      → ((term : Term) → Contains frontier term → IsMadeOf stock width term) → IsMadeOf stock width (Made rule variable frontier)

-- Every list of at most `width` of the items.
abbrev pub lists_within : {A : Type 0} → List A → ℕ → List (List A)
lists_within items zero = [] ∷ []
lists_within items (suc width) = [] ∷ flat_map (λ first. map (λ rest. first ∷ rest) (lists_within items width)) items

-- The constants and the plain terms of the stock.
abbrev pub unmade_terms : Stock → List Term
unmade_terms stock = map Const stock.texts ++ map Plain stock.numbers

-- The made terms of the stock's rules and variables over these frontiers.
abbrev pub made_terms : Stock → List (List Term) → List Term
made_terms stock frontiers = flat_map (λ rule. flat_map (λ variable. map (Made rule variable) frontiers) stock.variables) stock.rules

-- The terms over the stock whose frontiers have at most `width` terms and whose made terms nest at most `depth` deep.
unfoldable pub terms_within : Stock → ℕ → ℕ → List Term
terms_within stock width zero = unmade_terms stock ++ made_terms stock ([] ∷ [])
terms_within stock width (suc depth) = unmade_terms stock ++ made_terms stock (lists_within (terms_within stock width depth) width)

-- The finite list of terms within a width and a depth below the greatest `u64` holds every term that is within them.
abbrev pub AreFinite : Type 0
AreFinite =
    (stock : Stock) (width depth : ℕ) → depth < greatest_u64
    → (term : Term) → IsMadeOf stock width term → nesting term ≤ depth → Contains (terms_within stock width depth) term
