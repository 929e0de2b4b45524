-- What the facts of documents meet.
use Rattle.std.proofs.Common.{◌≡◌, ℕ, List, [], sym, subst}
use Rattle.esto_term.specs.declared.term.Term.{Term}
use Rattle.esto_semantics.specs.declared.fact.Fact.{Fact}
use Rattle.esto_semantics.specs.DocumentRules.{document_rules_2}
use Rattle.esto_semantics.specs.Rules.{AreMet}
use Rattle.esto_docmodel.proofs.FlatLemmas.{meets_flat, from_flat_in}
use Rattle.esto_docmodel.proofs.RisingLemmas.{named_once}
use Rattle.esto_docmodel.proofs.RuleLemmas.{rules_hold, no_root_below}
use Rattle.esto_docmodel.specs.DocumentFacts.{root, below}
use Rattle.esto_docmodel.specs.Encodings.{facts_from, facts_of}
use Rattle.esto_docmodel.specs.Forests.{Forest}
use Rattle.esto_docmodel.specs.Meanings.{HaveRootsOnTop}
use Rattle.esto_docmodel.specs.Rising.{IsRising}

pub facts_meet_rules : (base first : ℕ) (forest : Forest) → IsRising forest → AreMet (facts_of base first forest) (document_rules_2 base)
facts_meet_rules base first forest rising = meets_flat base (facts_from [] first forest) (rules_hold first forest (named_once forest rising))

pub roots_on_top : (base first : ℕ) (forest : Forest) → HaveRootsOnTop base (facts_of base first forest)
roots_on_top base first forest ancestor node is_root stands_below =
    no_root_below first forest ancestor node (from_flat_in base (facts_from [] first forest) (root node) is_root)
    (from_flat_in base (facts_from [] first forest) (below ancestor node) stands_below)

pub these_meet_rules : (base first : ℕ) (forest : Forest) (facts : List (Fact Term)) → facts ≡ facts_of base first forest → IsRising forest
    → AreMet facts (document_rules_2 base)
these_meet_rules base first forest facts are rising =
    subst (λ those. AreMet those (document_rules_2 base)) (sym are) (facts_meet_rules base first forest rising)

pub these_have_roots_on_top : (base first : ℕ) (forest : Forest) (facts : List (Fact Term)) → facts ≡ facts_of base first forest → HaveRootsOnTop base facts
these_have_roots_on_top base first forest facts are = subst (λ those. HaveRootsOnTop base those) (sym are) (roots_on_top base first forest)
