-- A part of all facts that were put is one of those that are loaded, and what is found in it is the first difference.
use Rattle.std.proofs.Common.{◌≡◌, ℕ, List, take, Option, None, Some, slice_get}
use Rattle.std.specs.Prelude.{IfSome, MatchOption}
use Rattle.esto_constraint.specs.Constraints.{rules_of}
use Rattle.esto_data.specs.Disagreeing.{IsFirstUnpassed}
use Rattle.esto_fill.specs.Parts.{IsFirstByPart, IsFirstByRule}
use Rattle.esto_fill.specs.Trials.{IsEnoughFor}
use Rattle.esto_fill.proofs.TrialLemmas.{concludes_among, met_moves, passed_moves}
use Rattle.esto_mapping.specs.declared.catalogue.Catalogue.{Catalogue}
use Rattle.esto_ports.specs.declared.difference.Difference.{Difference}
use Rattle.esto_query.proofs.MatchLemmas.{match-Sends}
use Rattle.esto_relmodel.specs.Once.{KeepAll}
use Rattle.esto_relmodel.specs.Parts.{IsPartFor}
use Rattle.esto_semantics.specs.Facts.{image}
use Rattle.esto_semantics.specs.Rules.{IsMet, Rule, body_of}
use Rattle.esto_semantics.specs.declared.fact.Fact.{Fact}
use Rattle.esto_semantics.proofs.FactLemmas.{Sends-match}
use Rattle.esto_term.specs.declared.term.Term.{Term}
use Rattle.esto_term.proofs.ListLemmas.{Contains-at}
use Rattle.esto_term.proofs.PlaceLemmas.{Contains-take_in}
use Rattle.esto_views.specs.Fragments.{views_of}

pub part_moves : (rule : Rule) (all facts part : List (Fact Term)) → KeepAll all facts → IsPartFor rule all part → IsPartFor rule facts part
part_moves rule all facts part keep is = record {
  among = λ fact inside. (keep.same fact).0 (is.among fact inside);
  in_order = λ one other alike inside before. keep.in_order one other (is.among other inside) (is.in_order one other alike inside before);
  active = λ m places active.
      let sends = Sends-match m (body_of rule) facts places active.matches in
      let found = match-Sends m (body_of rule) all (λ atom inside. (keep.same (image m atom)).1 (sends atom inside)) in
      is.active m found.0 (record {
        keeps = active.keeps;
        matches = found.1;
        active = λ concluded. active.active (concludes_among facts all (λ fact. (keep.same fact).0) rule m concluded);
      });
  concluded = λ m keeps sends concluded. is.concluded m keeps sends (concludes_among all facts (λ fact. (keep.same fact).1) rule m concluded);
}

-- what is found in the part is the first difference
pub first_by_part : (catalogue : Catalogue) (number : ℕ) (part : List (Fact Term)) (outcome : Option Difference)
    → ((rule : Rule) → slice_get (rules_of catalogue.rules) number ≡ Some rule
    → MatchOption outcome (IsMet part rule) (IsFirstByPart catalogue number rule part))
    → IfSome outcome (λ difference. (laws : List Rule) (facts some : List (Fact Term))
    → IsFirstUnpassed laws (rules_of catalogue.rules) some number (Some part) → IsEnoughFor catalogue laws facts some
    → IsFirstByRule catalogue facts difference)
first_by_part catalogue number part None told = tt
first_by_part catalogue number part (Some difference) told = λ laws facts some first enough.
    told first.rule first.there laws facts some enough first.tried first.before first.part

-- ---- facts that are loaded again

-- all of the facts are a part of them
part_all : (rule : Rule) (facts : List (Fact Term)) → IsPartFor rule facts facts
part_all rule facts = record {
  among = λ fact inside. inside;
  in_order = λ one other alike inside before. before;
  active = λ m places active. Sends-match m (body_of rule) facts places active.matches;
  concluded = λ m keeps sends concluded. concluded;
}

-- what is found in facts that are enough too is the first difference
pub first_again : (catalogue : Catalogue) (laws : List Rule) (facts some others : List (Fact Term)) → IsEnoughFor catalogue laws facts some
    → IsEnoughFor catalogue laws facts others → (number : ℕ) (given : Option (List (Fact Term)))
    → IsFirstUnpassed laws (rules_of catalogue.rules) some number given → (outcome : Option Difference)
    → ((rule : Rule) → slice_get (rules_of catalogue.rules) number ≡ Some rule
    → MatchOption outcome (IsMet others rule) (IsFirstByPart catalogue number rule others))
    → MatchOption outcome ⊥ (IsFirstByRule catalogue facts)
first_again catalogue laws facts some others enough again number given first None told =
    let rules = rules_of catalogue.rules in
    first.unmet (met_moves rules laws (views_of catalogue.fragments) facts others some again enough first.rule
    (Contains-at rules number first.rule first.there) first.tried (told first.rule first.there))
first_again catalogue laws facts some others enough again number given first (Some difference) told =
    let rules = rules_of catalogue.rules in
    told first.rule first.there laws facts others again first.tried
    (passed_moves rules laws (views_of catalogue.fragments) facts some others enough again (take number rules)
    (λ rule inside. Contains-take_in rules number rule inside) first.before) (part_all first.rule others)
