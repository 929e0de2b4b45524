-- Listed sets, and the atoms that a set chooses.
use Rattle.std.proofs.Common.{◌≢◌, Bool, true, false, List, [], ◌∷◌, length, sym, ◌∙◌, arith}
use Rattle.std.specs.Prelude.{◌↔◌, Contains, AllPairs}
use Rattle.esto_term.specs.declared.term.Term.{Term}
use Rattle.esto_semantics.specs.declared.fact.Fact.{Fact}
use Rattle.esto_semantics.specs.Queries.{ConjunctiveQuery}
use Rattle.esto_semantics.specs.Rules.{Rule}
use Rattle.esto_term.specs.Sets.{Within, IsMinimal, AreMinimal, HaveCount, HaveOneCount, AreInOrder, all_sets}
use Rattle.esto_semantics.specs.Listed.{chosen, IsRewriting, IsListed, AreListed}
use Rattle.esto_semantics.specs.ListedLaws.{AreRewritings, TestedAreRewritings, ListedAreMinimal, ListedExist, ListedIsOne, ListedCover, NoneIsListed}
use Rattle.esto_semantics.specs.ListedLaws.{ChosenAreNamed}
use Rattle.esto_term.proofs.CoverLemmas.{minimal-cover, listed_by_is_one, none_is_listed_by}
use Rattle.esto_semantics.proofs.PlaceLemmas.{chosen-from_Has, Has-from_chosen}
use Rattle.esto_term.proofs.SetLemmas.{in_order_once, minimal_exist, all_sets_are_listed}
use Rattle.esto_term.proofs.ChoiceLemmas.{pairs_cons, pairs_head, pairs_tail}
use Rattle.esto_term.proofs.ListLemmas.{Contains-at, Contains-filter, Contains-filter_from}
use Rattle.esto_semantics.specs.Access.{Patterns}

pub tested_are_rewritings : TestedAreRewritings
tested_are_rewritings rules views patterns query plan test tells set = (
  λ h. let both = Contains-filter_from test (all_sets (length plan.body)) set h in
      (tells set (((all_sets_are_listed (length plan.body)).0 set).0 both.0)).0 both.1,
  λ rewriting. let l = rewriting.has_candidate.over in
      Contains-filter test (all_sets (length plan.body)) set (((all_sets_are_listed (length plan.body)).0 set).1 l) ((tells set l).1 rewriting),
)

-- ---- the list

module _ (rules : List Rule) (views : List ConjunctiveQuery) (patterns : Patterns) (query plan : ConjunctiveQuery) (family : List (List Bool))
    (exact : AreRewritings rules views patterns query plan family) where
  counted : HaveOneCount family
  counted set other h k = ((exact set).0 h).has_candidate.over ∙ sym ((exact other).0 k).has_candidate.over

  minimal_listed : (set : List Bool) → IsMinimal (Contains family) set ↔ IsListed rules views patterns query plan set
  minimal_listed set = (
    λ h. ((exact set).0 h.0, λ other rewriting within. h.1 other ((exact other).1 rewriting) within),
    λ h. ((exact set).1 h.0, λ other there within. h.1 other ((exact other).0 there) within),
  )

  listed_minimal : (sets : List (List Bool)) → AreListed rules views patterns query plan sets ↔ (AreMinimal family sets × AreInOrder sets)
  listed_minimal sets = (
    λ listed. (
      record {
        counted = counted;
        exact = λ set. (λ h. (minimal_listed set).1 ((listed.exact set).0 h), λ h. (listed.exact set).1 ((minimal_listed set).0 h));
        once = in_order_once sets listed.ordered;
      },
      listed.ordered,
    ),
    λ h. record {
      exact = λ set. (λ there. (minimal_listed set).0 (((h.0).exact set).0 there), λ listed. ((h.0).exact set).1 ((minimal_listed set).1 listed));
      ordered = h.1;
    },
  )

  list_exists : (sets : List (List Bool)) × AreListed rules views patterns query plan sets
  list_exists = let found = minimal_exist family counted in (found.0, (listed_minimal found.0).1 (found.1, found.2))

pub listed_are_minimal : ListedAreMinimal
listed_are_minimal rules views patterns query plan family sets exact = listed_minimal rules views patterns query plan family exact sets

pub listed_exist : ListedExist
listed_exist = list_exists

rewritings_count : (rules : List Rule) (views : List ConjunctiveQuery) (patterns : Patterns) (query plan : ConjunctiveQuery)
    → HaveCount (length plan.body) (IsRewriting rules views patterns query plan)
rewritings_count rules views patterns query plan set rewriting = rewriting.has_candidate.over

pub listed_is_one : ListedIsOne
listed_is_one rules views patterns query plan sets others = listed_by_is_one (IsRewriting rules views patterns query plan) sets others

pub listed_cover : ListedCover
listed_cover rules views patterns query plan sets listed =
    minimal-cover (IsRewriting rules views patterns query plan) (length plan.body) (rewritings_count rules views patterns query plan) sets listed.exact

pub none_is_listed : NoneIsListed
none_is_listed rules views patterns query plan sets =
    none_is_listed_by (IsRewriting rules views patterns query plan) (length plan.body) (rewritings_count rules views patterns query plan) sets

-- ---- chosen atoms

pub chosen_are_named : ChosenAreNamed
chosen_are_named set atoms atom = (Has-from_chosen set atoms atom, λ h. chosen-from_Has set atoms h.0 atom h.1 h.2)

pub chosen_within : (set other : List Bool) (atoms : List (Fact Term)) → Within set other → (atom : Fact Term) → Contains (chosen set atoms) atom
    → Contains (chosen other atoms) atom
chosen_within set other atoms within atom h =
    let back = Has-from_chosen set atoms atom h in chosen-from_Has other atoms back.0 atom (within back.0 back.1) back.2

pub chosen_once : (set : List Bool) (atoms : List (Fact Term)) → AllPairs ◌≢◌ atoms → AllPairs ◌≢◌ (chosen set atoms)
chosen_once [] atoms once = λ i j d l m. absurd (omega (arith, m))
chosen_once (is_in ∷ set) [] once = λ i j d l m. absurd (omega (arith, m))
chosen_once (true ∷ set) (first ∷ atoms) once =
    pairs_cons ◌≢◌ first (chosen set atoms)
    (λ atom h. let back = Has-from_chosen set atoms atom h in pairs_head ◌≢◌ first atoms once atom (Contains-at atoms back.0 atom back.2))
    (chosen_once set atoms (pairs_tail ◌≢◌ first atoms once))
chosen_once (false ∷ set) (first ∷ atoms) once = chosen_once set atoms (pairs_tail ◌≢◌ first atoms once)
