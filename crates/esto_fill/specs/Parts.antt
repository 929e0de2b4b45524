-- The difference of a rule, found in a part of the facts.
use Rattle.std.specs.Prelude.{◌≡◌, ℕ, List, map, take, Contains}
use Rattle.esto_constraint.specs.Constraints.{rules_of}
use Rattle.esto_constraint.specs.EncodingRules.{written}
use Rattle.esto_mapping.specs.declared.catalogue.Catalogue.{Catalogue}
use Rattle.esto_relmodel.specs.Parts.{IsPartFor}
use Rattle.esto_semantics.specs.Rules.{Rule}
use Rattle.esto_semantics.specs.Valuations.{Assignment}
use Rattle.esto_semantics.specs.declared.fact.Fact.{Fact}
use Rattle.esto_stores.specs.Rows.{Row}
use Rattle.esto_term.specs.declared.term.Term.{Term}
use Rattle.esto_fill.specs.Differences.{IsFirstBroken}
use Rattle.esto_fill.specs.Judging.{ArePassed, IsFirstTried}
use Rattle.esto_fill.specs.Trials.{IsEnoughFor}
use Rattle.esto_ports.specs.declared.difference.Difference.{Difference}
use Rattle.esto_ports.specs.declared.difference.Difference.TheVariants.{Rule as Broken}

-- The difference is that of the first rule of the catalogue which the facts do not meet; so it comes before those of all fragments, whatever they hold.
abbrev pub IsFirstByRule : Catalogue → List (Fact Term) → Difference → Type 0
IsFirstByRule catalogue facts difference =
    (number : ℕ) × (cells : Row) × (difference ≡ Broken number cells)
    × IsFirstBroken (rules_of catalogue.rules) (map written catalogue.rules) facts number cells

-- It is the first difference of all facts of which some are enough, where the rule of the number is none of the laws, those facts pass each rule before
-- it, and the part is one of theirs for the rule.
abbrev pub IsFirstByPart : Catalogue → ℕ → Rule → List (Fact Term) → Difference → Type 0
IsFirstByPart catalogue number rule part difference =
    (laws : List Rule) (facts some : List (Fact Term)) → IsEnoughFor catalogue laws facts some → ¬ (Contains laws rule)
    → ArePassed laws some (take number (rules_of catalogue.rules)) → IsPartFor rule some part
    → IsFirstByRule catalogue facts difference

-- ---- for private clauses

-- It is the first difference of all facts of which some are enough, where the rule of the number is the first that those do not meet, and the valuation is
-- that of its least active match.
abbrev pub IsFirstByMatch : Catalogue → ℕ → Assignment → Difference → Type 0
IsFirstByMatch catalogue number valuation difference =
    (laws : List Rule) (facts some : List (Fact Term)) (places : List ℕ) → IsEnoughFor catalogue laws facts some
    → IsFirstTried laws (rules_of catalogue.rules) some number valuation places
    → IsFirstByRule catalogue facts difference
