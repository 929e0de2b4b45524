-- What goes on from a way: kept ways, places that tell, supports, and a fact's row.
use Rattle.std.proofs.Common.{◌≡◌, ◌⊎◌, ◌<◌, ◌≤◌, ◌+◌, inl, inr, zero, suc, ℕ, Bool, true, false, cond, List, [], ◌∷◌, ◌++◌, length, map, take, get_or}
use Rattle.std.proofs.Common.{slice_get, ◌==◌, Contains, Option, Some, refl, sym, ap, ◌∙◌, subst, arith}
use Rattle.std.proofs.lemmas.Bool.Decides.{nat_tests}
use Rattle.std.specs.List.{AllZip}
use Rattle.std.proofs.lemmas.List.{get_or_default, length-append, length-map}
use Rattle.std.proofs.lemmas.List.Elements.{Contains-append_left, Contains-push, Contains-push_cases}
use Rattle.std.proofs.lemmas.Option.{slice_get_within, same_Some}
use Rattle.std.proofs.lemmas.Bool.{cases_lt, cases_order, false≢true}
use Rattle.esto_term.specs.declared.term.Term.{Term}
use Rattle.esto_term.specs.Order.{same_term}
use Rattle.esto_semantics.proofs.TermLemmas.{same_term-Decides}
use Rattle.esto_term.specs.Sets.{Within, united}
use Rattle.esto_semantics.specs.declared.fact.Fact.{Fact}
use Rattle.esto_term.proofs.SetLemmas.{length-united, none_has}
use Rattle.esto_term.proofs.ListLemmas.{Contains-nil, Contains-at, Contains-head, Contains-one, thing_at, place-from_Contains, map_at, at_left}
use Rattle.esto_term.proofs.PlaceLemmas.{Contains-take, item_at}
use Rattle.esto_term.proofs.ZipLemmas.{zip_both, zip_by_places, zip_weaker}
use Rattle.esto_chase_laws.specs.Worlds.{InWorld, SaysOne}
use Rattle.esto_chase_laws.specs.WorldMatches.{IsLike, taken, Touching}
use Rattle.esto_chase_laws.specs.Derived.{IsNamed, IsUnion, IsEquality}
use Rattle.esto_chase_laws.specs.declared.entry.Claim.TheVariants.{Fact as Stated}
use Rattle.esto_chase_laws.specs.declared.entry.Entry.{Entry}
use Rattle.esto_chase_laws.proofs.LinkLemmas.{Touching-more}
use Rattle.esto_chase_laws.proofs.GrowLemmas.{InWorld-within}
use Rattle.esto_chase_laws.proofs.TakenLemmas.{Fits-join}
use Rattle.esto_condchase.proofs.WayLemmas.{IsUnion-more, last_more, fact_more, within_united, IsNamed-held}
use Rattle.esto_condchase.proofs.JoinLemmas.{says_side}
use Rattle.esto_condchase.specs.Ways.{Grown, IsTold, HasSupport, meets, IsLinkedFrom, TouchesFrom}
use Rattle.esto_known.specs.KeptWays.{AreCounted, HasWay, IsOldWay}
use Rattle.esto_known.specs.Live.{AreAllLive, AreAllFacts, IsFreeLink, IsStale, AreFresh}
use Rattle.esto_condchase.specs.Ways.{floor_of, PassesTo, PassesIn, IsPassedAt, IsLonger, IsSupport, AreLonger, AreSupports, ComesBy, Comes, extended, GoesOn}
use Rattle.esto_condchase.specs.declared.passing.Support.{Support}
use Rattle.esto_known.specs.declared.way.Way.{Way}

-- ---- lists that grow

pub grown_same : {X : Type 0} (Comes : X → Type 0) (old new : List X) → new ≡ old → Grown Comes old new
grown_same Comes old new same = rw same record { kept = λ thing inside. inside; come = λ thing inside. inl inside }

pub grown_push : {X : Type 0} (Comes : X → Type 0) (old new : List X) (thing : X) → new ≡ old ++ thing ∷ [] → Comes thing → Grown Comes old new
grown_push Comes old new thing is comes = rw is record {
  kept = λ it inside. Contains-append_left old (thing ∷ []) it inside;
  come = λ it inside. elim (Contains-push_cases old thing it inside) [ inl earlier ↦ inl earlier | inr here ↦ inr (subst Comes here comes) ];
}

pub grown_then : {X : Type 0} (Comes : X → Type 0) (old mid new : List X) → Grown Comes old mid → Grown Comes mid new → Grown Comes old new
grown_then Comes old mid new one other = record {
  kept = λ it inside. other.kept it (one.kept it inside);
  come = λ it inside. elim (other.come it inside) [ inl earlier ↦ one.come it earlier | inr here ↦ inr here ];
}

pub grown_weaker : {X : Type 0} (Comes Goes : X → Type 0) (old new : List X) → ((thing : X) → Comes thing → Goes thing) → Grown Comes old new
    → Grown Goes old new
grown_weaker Comes Goes old new weaker grown = record {
  kept = grown.kept;
  come = λ it inside. elim (grown.come it inside) [ inl earlier ↦ inl earlier | inr here ↦ inr (weaker it here) ];
}

pub grown_all : {X : Type 0} (Comes : X → Type 0) (new : List X) (old : List X) → old ≡ [] → Grown Comes old new → (thing : X) → Contains new thing
    → Comes thing
grown_all Comes new old none grown thing inside =
    elim (grown.come thing inside) [ inl earlier ↦ absurd (Contains-nil thing (subst (λ it. Contains it thing) none earlier)) | inr here ↦ here ]

pub counted_grown : (count : ℕ) (Comes : Way → Type 0) (old new : List Way) → Grown Comes old new → ((way : Way) → Comes way → length way.product ≡ count)
    → AreCounted count old → AreCounted count new
counted_grown count Comes old new grown counts counted way inside =
    elim (grown.come way inside) [ inl earlier ↦ counted way earlier | inr here ↦ counts way here ]

-- ---- ways that are there

pub way_kept : (places : List ℕ) (ways later : List Way) (to : List Term) (set : List Bool) → ((way : Way) → Contains ways way → Contains later way)
    → HasWay places ways to set → HasWay places later to set
way_kept places ways later to set kept (way, inside, agree, within) = (way, kept way inside, agree, within)

pub way_wider : (places : List ℕ) (ways : List Way) (to : List Term) (small set : List Bool) → HasWay places ways to small → Within small set
    → HasWay places ways to set
way_wider places ways to small set (way, inside, agree, within) wider = (way, inside, agree, λ number has. wider number (within number has))

pub told_kept : (entries : List Entry) (sides : Option (ℕ × ℕ)) (places : List ℕ) (ways later : List Way) (to : List Term) (set : List Bool)
    → ((way : Way) → Contains ways way → Contains later way) → IsTold entries sides places ways to set → IsTold entries sides places later to set
told_kept entries sides places ways later to set kept told = elim told [
  | inl way ↦ inl (way_kept places ways later to set kept way)
  | inr one ↦ inr one
]

pub told_wider : (entries : List Entry) (sides : Option (ℕ × ℕ)) (places : List ℕ) (ways : List Way) (to : List Term) (small set : List Bool)
    → IsTold entries sides places ways to small → Within small set → IsTold entries sides places ways to set
told_wider entries sides places ways to small set told wider = elim told [
  | inl way ↦ inl (way_wider places ways to small set way wider)
  | inr (left, right, is, own, other, at, at_other, touches) ↦
      inr (left, right, is, own, other, at, at_other, Touching-more (InWorld-within entries small set wider) own other touches)
]

-- ---- two sides

pub support_kept : (supports later : List Support) (set : List Bool) → ((support : Support) → Contains supports support → Contains later support)
    → HasSupport supports set → HasSupport later set
support_kept supports later set kept (support, inside, within) = (support, kept support inside, within)

-- ---- one term more

module _ (entries : List Entry) (before : Support) (place : ℕ) (entry : Entry) (at : slice_get entries place ≡ Some entry)
    (count : length before.product ≡ length entry.product) where
  abbrev pub linked : Support
  linked = record { links = before.links ++ place ∷ []; product = united before.product entry.product }

  pub longer_linked : (own goal : Term) → SaysOne entry.claim own goal → IsLonger entries own goal before linked
  longer_linked own goal links = record {
    kept = λ other inside. Contains-append_left before.links (place ∷ []) other inside;
    touch = elim links [
      | inl is ↦ inr (inl (place, Contains-push before.links place, (entry, at, is)))
      | inr is ↦ inr (inr (place, Contains-push before.links place, (entry, at, is)))
    ];
    equalities = λ all other inside. elim (Contains-push_cases before.links place other inside) [
      | inl earlier ↦ all other earlier
      | inr last ↦ subst (IsEquality entries) last equality
    ];
    union = λ facts union. IsUnion-more entries (facts ++ before.links) (facts ++ (before.links ++ place ∷ [])) before.product place entry at
        (last_more facts before.links place) union;
    count = length-united before.product entry.product count;
  }
    where
      equality : IsEquality entries place
      equality = elim links [ inl is ↦ (own, goal, (entry, at, is)) | inr is ↦ (goal, own, (entry, at, is)) ]

  -- the support with the equality is added
  pub added_grown : (own goal : Term) → SaysOne entry.claim own goal → (product : List Bool) (more : Support) (next later : List Support)
      → product ≡ united before.product entry.product → more ≡ record { links = before.links ++ place ∷ []; product = product }
      → later ≡ next ++ more ∷ [] → Grown (IsLonger entries own goal before) next later
  added_grown own goal links product more next later product_is is grown = grown_push (IsLonger entries own goal before) next later more grown
      (subst (IsLonger entries own goal before) (sym (is ∙ ap (λ it. record { links = before.links ++ place ∷ []; product = it }) product_is))
      (longer_linked own goal links))

pub added_goes : (before : Support) (product its : List Bool) (place : ℕ) (more : Support) (next later : List Support) → product ≡ united before.product its
    → more ≡ record { links = before.links ++ place ∷ []; product = product } → later ≡ next ++ more ∷ []
    → (set : List Bool) → Within before.product set → Within its set → HasSupport later set
added_goes before product its place more next later product_is is grown set within its_within = rw grown (
  more,
  Contains-push next more,
  subst (λ it. Within it set) (sym (ap (λ (it : Support). it.product) is ∙ product_is)) (within_united before.product its set within its_within),
)

-- the equalities tried so far, and at the end
pub links_end : (entries : List Entry) (own goal : Term) (links : List ℕ) (floor : ℕ) (start set : List Bool) (Found : Type 0)
    → AreAllLive entries links (λ claim. SaysOne claim own goal)
    → ((place : ℕ) → Contains links place → (entry : Entry) → floor ≤ place → slice_get entries place ≡ Some entry → SaysOne entry.claim own goal
    → Within entry.product set → Found) → IsLinkedFrom entries floor set own goal → Found
links_end entries own goal links floor start set Found live tried (place, (entry, late, at, says, within)) =
    let it = live place entry at says in
    let bound = it.3 in
    tried it.0 it.2 it.1 (omega (arith, late, bound)) it.4 it.5 (λ number has. within number (it.6 number has))

pub longer_same : (entries : List Entry) (own goal : Term) (floor : ℕ) (Settled : List Bool → Type 0) (given later : List Support) → own ≡ goal → later ≡ given
    → AreLonger entries own goal floor Settled given later
longer_same entries own goal floor Settled given later is same = rw same record {
  come = λ support inside. (
    support,
    inside,
    record { kept = λ place its. its; touch = inl is; equalities = λ all. all; union = λ facts union. union; count = refl },
  );
  go_on = λ set before inside within touches. inl (before, inside, within);
}

-- the given supports so far
pub record LongerSoFar (entries : List Entry) (own goal : Term) (floor : ℕ) (Settled : List Bool → Type 0) (given next : List Support) : Type 0 where
  pub come : (support : Support) → Contains next support → (before : Support) × Contains given before × IsLonger entries own goal before support
  pub go_on : (set : List Bool) (before : Support) → Contains given before → Within before.product set → IsLinkedFrom entries floor set own goal
      → HasSupport next set ⊎ Settled set

module _ (entries : List Entry) (own goal : Term) (floor : ℕ) (Settled : List Bool → Type 0) where
  pub longer_none : (next : List Support) → next ≡ [] → LongerSoFar entries own goal floor Settled [] next
  longer_none next none = rw none record {
    come = λ support inside. absurd (Contains-nil support inside);
    go_on = λ set before inside. absurd (Contains-nil before inside);
  }

  pub longer_turn : (given next later : List Support) (before : Support) → LongerSoFar entries own goal floor Settled given next
      → Grown (IsLonger entries own goal before) next later
      → ((set : List Bool) → Within before.product set → IsLinkedFrom entries floor set own goal → HasSupport later set ⊎ Settled set)
      → LongerSoFar entries own goal floor Settled (given ++ before ∷ []) later
  longer_turn given next later before so_far grown goes = record {
    come = λ support inside. elim (grown.come support inside) [
      | inl earlier ↦ let it = so_far.come support earlier in (it.0, Contains-append_left given (before ∷ []) it.0 it.1, it.2)
      | inr here ↦ (before, Contains-push given before, here)
    ];
    go_on = λ set its inside within link. elim (Contains-push_cases given before its inside) [
      | inl earlier ↦ elim (so_far.go_on set its earlier within link) [
        | inl found ↦ inl (support_kept next later set grown.kept found)
        | inr settled ↦ inr settled
      ]
      | inr here ↦ goes set (subst (λ (it : Support). Within it.product set) (sym here) within) link
    ];
  }

  pub longer_end : (given next : List Support) → (own ≡ goal → ⊥) → LongerSoFar entries own goal floor Settled given next
      → AreLonger entries own goal floor Settled given next
  longer_end given next apart so_far = record {
    come = so_far.come;
    go_on = λ set before inside within touches. elim touches [ inl is ↦ absurd (apart is) | inr link ↦ so_far.go_on set before inside within link ];
  }

-- ---- a row

floor_cases : (at floor index : ℕ) → (index ≡ at) ⊎ (floor_of at floor index ≡ 0)
floor_cases at floor index = by (index == at) refl
  where
    by : (answer : Bool) → (index == at) ≡ answer → (index ≡ at) ⊎ (floor_of at floor index ≡ 0)
    by true told = inl (grind (arith, nat_tests, told))
    by false told = inr (ap (λ it. cond it floor 0) told)

module _ (entries : List Entry) (m : Term → Term) (terms owns : List Term) (at floor : ℕ) (Settled : List Bool → Type 0) (start : Support) where
  pub supports_none : (first : Support) (supports : List Support) → first ≡ start → supports ≡ first ∷ []
      → AreSupports entries m terms owns at floor Settled start 0 supports
  supports_none first supports is are = rw (are, is) record {
    come = λ support inside. subst (IsSupport entries m terms owns start 0) (Contains-one start support inside) (record {
      kept = λ place its. its;
      touch = λ index own term below. absurd (omega (arith, below));
      equalities = λ all. all;
      union = λ facts union. union;
      count = refl;
    });
    go_on = λ set within passes. inl (start, Contains-head start [], within);
  }

  pub supports_turn : (few : ℕ) (given later : List Support) (own term : Term) → slice_get owns few ≡ Some own → slice_get terms few ≡ Some term
      → AreSupports entries m terms owns at floor Settled start few given
      → AreLonger entries own (m term) (floor_of at floor few) Settled given later
      → AreSupports entries m terms owns at floor Settled start (few + 1) later
  supports_turn few given later own term at_own at_term so_far longer = record {
    come = λ support inside.
        let it = longer.come support inside in
        let before = so_far.come it.0 it.1 in
        record {
          kept = λ place its. it.2.kept place (before.kept place its);
          touch = λ index its its_term below at_its at_its_term. elim (cases_order index few) [
            | inl same ↦
                let is_own : own ≡ its = same_Some own its (sym at_own ∙ ap (slice_get owns) (sym same) ∙ at_its) in
                let is_term : term ≡ its_term = same_Some term its_term (sym at_term ∙ ap (slice_get terms) (sym same) ∙ at_its_term) in
                subst (λ x. Touching (IsNamed entries support.links) x (m its_term)) is_own
                (subst (λ x. Touching (IsNamed entries support.links) own (m x)) is_term it.2.touch)
            | inr apart ↦ elim apart [
              | inl lower ↦ Touching-more (IsNamed-held entries it.0.links support.links it.2.kept) its (m its_term)
                  (before.touch index its its_term lower at_its at_its_term)
              | inr above ↦ absurd (omega (arith, below, above))
            ]
          ];
          equalities = λ all. it.2.equalities (before.equalities all);
          union = λ facts union. it.2.union facts (before.union facts union);
          count = it.2.count ∙ before.count;
        };
    go_on = λ set within passes. elim (so_far.go_on set within (λ index its its_term below. passes index its its_term (omega (arith, below)))) [
      | inl (support, inside, support_within) ↦
          longer.go_on set support inside support_within (passes few own term (omega arith) at_own at_term)
      | inr settled ↦ inr settled
    ];
  }

-- ---- all of a row

-- in the world of a set, by an entry from a place on, or by the first few
from_world : (entries : List Entry) (set : List Bool) (own goal : Term) → Touching (InWorld entries set) own goal → TouchesFrom entries 0 set own goal
from_world entries set own goal (inl is) = inl is
from_world entries set own goal (inr (inl (entry, inside, within, is))) =
    let at = place-from_Contains entries entry inside in inr (at.0, (entry, omega arith, at.1, inl is, within))
from_world entries set own goal (inr (inr (entry, inside, within, is))) =
    let at = place-from_Contains entries entry inside in inr (at.0, (entry, omega arith, at.1, inr is, within))

old_or_new : (entries : List Entry) (floor : ℕ) (set : List Bool) (own goal : Term) → Touching (InWorld entries set) own goal
    → Touching (InWorld (take floor entries) set) own goal ⊎ IsLinkedFrom entries floor set own goal
old_or_new entries floor set own goal touches = elim (from_world entries set own goal touches) [
  | inl is ↦ inl (inl is)
  | inr (place, (entry, low, at, says, within)) ↦ elim (cases_lt place floor) [
    | inl early ↦ inl (inr (elim says [
      | inl is ↦ inl (entry, Contains-take entries floor place entry early at, within, is)
      | inr is ↦ inr (entry, Contains-take entries floor place entry early at, within, is)
    ]))
    | inr late ↦ inr (place, (entry, late, at, says, within))
  ]
]

passes_at : (entries : List Entry) (m : Term → Term) (terms owns : List Term) (set : List Bool) → PassesIn entries m terms owns set
    → (index : ℕ) (own term : Term) → slice_get owns index ≡ Some own → slice_get terms index ≡ Some term → Touching (InWorld entries set) own (m term)
passes_at entries m terms owns set passes index own term at at_term =
    zip_both (Touching (InWorld entries set)) owns (map m terms) passes index own (m term) at (map_at m terms index term at_term)

-- all passes where no least place is asked for
pub passes_all : (entries : List Entry) (m : Term → Term) (terms owns : List Term) (set : List Bool) (at : ℕ) → PassesIn entries m terms owns set
    → PassesTo entries m terms owns at 0 set (length owns)
passes_all entries m terms owns set at passes index own term below at_own at_term =
    subst (λ n. TouchesFrom entries n set own (m term)) (sym (same (index == at) 0))
    (from_world entries set own (m term) (passes_at entries m terms owns set passes index own term at_own at_term))
  where
    same : (answer : Bool) (n : ℕ) → cond answer n n ≡ n
    same true n = refl
    same false n = refl

-- and where one is asked for at a term that an equality from there on makes one
pub passes_one : (entries : List Entry) (m : Term → Term) (terms owns : List Term) (set : List Bool) (at floor : ℕ) (own term : Term)
    → slice_get owns at ≡ Some own → slice_get terms at ≡ Some term → PassesIn entries m terms owns set → IsLinkedFrom entries floor set own (m term)
    → PassesTo entries m terms owns at floor set (length owns)
passes_one entries m terms owns set at floor own term at_own at_term passes link index its its_term below at_its at_its_term =
    elim (floor_cases at floor index) [
      | inl same ↦
          let is_own : own ≡ its = same_Some own its (sym at_own ∙ ap (slice_get owns) (sym same) ∙ at_its) in
          let is_term : term ≡ its_term = same_Some term its_term (sym at_term ∙ ap (slice_get terms) (sym same) ∙ at_its_term) in
          by (index == at) (inr (subst (λ x. IsLinkedFrom entries floor set x (m its_term)) is_own
          (subst (λ x. IsLinkedFrom entries floor set own (m x)) is_term link)))
          (from_world entries set its (m its_term) (passes_at entries m terms owns set passes index its its_term at_its at_its_term))
      | inr none ↦ subst (λ n. TouchesFrom entries n set its (m its_term)) (sym none)
          (from_world entries set its (m its_term) (passes_at entries m terms owns set passes index its its_term at_its at_its_term))
    ]
  where
    by : (answer : Bool) → TouchesFrom entries floor set its (m its_term) → TouchesFrom entries 0 set its (m its_term)
        → TouchesFrom entries (cond answer floor 0) set its (m its_term)
    by true one other = one
    by false one other = other

same_or_apart : (own goal : Term) → (own ≡ goal) ⊎ (own ≡ goal → ⊥)
same_or_apart own goal = by (same_term own goal) refl
  where
    by : (answer : Bool) → same_term own goal ≡ answer → (own ≡ goal) ⊎ (own ≡ goal → ⊥)
    by true told = inl ((same_term-Decides own goal).0 told)
    by false told = inr (λ is. false≢true (sym told ∙ (same_term-Decides own goal).1 is))

-- where each place is passed, a row passes, or the first few entries let it
pub anew_end : (entries : List Entry) (m : Term → Term) (terms owns : List Term) (floor : ℕ) (product : List Bool) (Settled : List Bool → Type 0)
    → length owns ≡ length terms → ((at : ℕ) → at < length owns → IsPassedAt entries m terms owns floor product Settled at)
    → (set : List Bool) → Within product set → PassesIn entries m terms owns set
    → Settled set ⊎ PassesIn (take floor entries) m terms owns set
anew_end entries m terms owns floor product Settled rows each set within passes = elim (up_to (length owns) (omega arith)) [
  | inl settled ↦ inl settled
  | inr all ↦ inr (zip_by_places (Touching (InWorld (take floor entries) set)) owns (map m terms) (rw length-map rows)
      (λ place own goal at_own at_goal.
      let there = thing_at terms place (let some = slice_get_within owns place own at_own in omega (arith, some, rows)) in
      let goal_is : m there.0 ≡ goal = same_Some (m there.0) goal (sym (map_at m terms place there.0 there.1) ∙ at_goal) in
      subst (Touching (InWorld (take floor entries) set) own) goal_is
      (all place own there.0 (slice_get_within owns place own at_own) at_own there.1)))
]
  where
    Old : ℕ → Type 0
    Old count = (place : ℕ) (own term : Term) → place < count → slice_get owns place ≡ Some own → slice_get terms place ≡ Some term
        → Touching (InWorld (take floor entries) set) own (m term)

    up_to : (count : ℕ) → count ≤ length owns → Settled set ⊎ Old count
    up_to zero low = inr (λ place own term below. absurd (omega (arith, below)))
    up_to (suc count) low =
        let there = thing_at owns count (omega (arith, low)) in
        let its = thing_at terms count (omega (arith, low, rows)) in
        elim (up_to count (omega (arith, low))) [
          | inl settled ↦ inl settled
          | inr all ↦
              let more : Touching (InWorld (take floor entries) set) there.0 (m its.0) → Old (suc count) =
              λ touches place own term below at_own at_term. elim (cases_order place count) [
                | inl same ↦
                    let is_own : there.0 ≡ own = same_Some there.0 own (sym there.1 ∙ ap (slice_get owns) (sym same) ∙ at_own) in
                    let is_term : its.0 ≡ term = same_Some its.0 term (sym its.1 ∙ ap (slice_get terms) (sym same) ∙ at_term) in
                    subst (λ x. Touching (InWorld (take floor entries) set) x (m term)) is_own
                    (subst (λ x. Touching (InWorld (take floor entries) set) there.0 (m x)) is_term touches)
                | inr apart ↦ elim apart [ inl lower ↦ all place own term lower at_own at_term | inr above ↦ absurd (omega (arith, below, above)) ]
              ] in
              elim (same_or_apart there.0 (m its.0)) [
                | inl is ↦ inr (more (inl is))
                | inr unlike ↦ elim (old_or_new entries floor set there.0 (m its.0)
                    (passes_at entries m terms owns set passes count there.0 its.0 there.1 its.1)) [
                      | inl old ↦ inr (more old)
                      | inr link ↦ inl (each count (omega (arith, low)) set there.0 its.0 within passes there.1 its.1 unlike link)
                    ]
              ]
        ]

pub passed_equal : (entries : List Entry) (m : Term → Term) (terms owns : List Term) (at floor : ℕ) (product : List Bool) (Settled : List Bool → Type 0)
    (own term goal : Term) → at < length owns → at < length terms → own ≡ get_or owns at own → term ≡ get_or terms at term → goal ≡ m term → own ≡ goal
    → IsPassedAt entries m terms owns floor product Settled at
passed_equal entries m terms owns at floor product Settled own term goal within within_terms own_is term_is goal_is same set its its_term in_set passes
    at_its at_its_term apart link =
    let is_own : own ≡ its = same_Some own its (sym (item_at owns at own within own_is) ∙ at_its) in
    let is_term : term ≡ its_term = same_Some term its_term (sym (item_at terms at term within_terms term_is) ∙ at_its_term) in
    absurd (apart (sym is_own ∙ same ∙ goal_is ∙ ap m is_term))

pub passed_one : (entries : List Entry) (m : Term → Term) (terms owns : List Term) (at floor : ℕ) (product : List Bool) (Settled : List Bool → Type 0)
    → ((set : List Bool) → Within product set → PassesTo entries m terms owns at floor set (length owns) → Settled set)
    → IsPassedAt entries m terms owns floor product Settled at
passed_one entries m terms owns at floor product Settled there set own term within passes at_own at_term apart link =
    there set within (passes_one entries m terms owns set at floor own term at_own at_term passes link)

pub passed_kept : (entries : List Entry) (m : Term → Term) (terms owns : List Term) (at floor : ℕ) (product : List Bool) (Settled Later : List Bool → Type 0)
    → ((set : List Bool) → Settled set → Later set) → IsPassedAt entries m terms owns floor product Settled at
    → IsPassedAt entries m terms owns floor product Later at
passed_kept entries m terms owns at floor product Settled Later kept passed set own term within passes at_own at_term apart link =
    kept set (passed set own term within passes at_own at_term apart link)

-- ---- a fact

pub counted_union : (ways : List Way) (one other product : List Bool) → length one ≡ length other → product ≡ united one other → AreCounted (length one) ways
    → AreCounted (length product) ways
counted_union ways one other product same is counted =
    subst (λ n. AreCounted n ways) (sym (ap length is ∙ length-united one other same)) counted

pub union_count : (one other product : List Bool) (count : ℕ) → length one ≡ count → length other ≡ count → product ≡ united one other → length product ≡ count
union_count one other product count first second is = ap length is ∙ length-united one other (first ∙ sym second) ∙ first

pub come_by : (entries : List Entry) (from terms its_to owns : List Term) (before : Way) (place : ℕ) (entry : Entry) (product : List Bool)
    (start support : Support) (few : ℕ) → its_to ≡ before.to → length owns ≡ length terms → slice_get entries place ≡ Some entry
    → product ≡ united before.product entry.product → start ≡ record { links = before.links; product = product } → few ≡ length owns
    → IsSupport entries (meets from terms its_to owns) terms owns start few support
    → ComesBy entries from terms before place owns (extended before place owns support)
come_by entries from terms its_to owns before place entry product start support few to_is rows at product_is start_is few_is its = (
  refl,
  λ facts to way.
      let One : Term → Term → Type 0 = Touching (IsNamed entries support.links) in
      let start_links : start.links ≡ before.links = ap (λ (it : Support). it.links) start_is in
      let start_product : start.product ≡ united before.product entry.product = ap (λ (it : Support). it.product) start_is ∙ product_is in
      let row : AllZip One owns (map (meets from terms its_to owns) terms) =
      zip_by_places One owns (map (meets from terms its_to owns) terms) (rw length-map rows) (λ index own goal at_own at_goal.
      let within = slice_get_within owns index own at_own in
      let there = thing_at terms index (omega (arith, within, rows)) in
      subst (One own) (same_Some (meets from terms its_to owns there.0) goal
      (sym (map_at (meets from terms its_to owns) terms index there.0 there.1) ∙ at_goal))
      (its.touch index own there.0 (subst (λ n. index < n) (sym few_is) within) at_own there.1)) in
      record {
        lengths = rw (length-append, length-append) (omega (arith, way.lengths, rows));
        facts_are = ap (λ it. it ++ place ∷ []) way.facts_are;
        to_is = ap (λ it. it ++ owns) way.to_is;
        fits = Fits-join One from to way.lengths terms owns
            (zip_weaker (Touching (IsNamed entries before.links)) One to (map (taken from to) from)
            (λ s t _ one. Touching-more (IsNamed-held entries before.links support.links
            (λ other inside. its.kept other (subst (λ it. Contains it other) (sym start_links) inside))) s t one) way.fits)
            (subst (λ it. AllZip One owns (map (meets from terms it owns) terms)) (to_is ∙ way.to_is) row);
        equalities = its.equalities (λ other inside. way.equalities other (subst (λ it. Contains it other) start_links inside));
        union = its.union (before.facts ++ place ∷ []) (subst (λ it. IsUnion entries ((before.facts ++ place ∷ []) ++ it) start.product) (sym start_links)
            (subst (IsUnion entries ((before.facts ++ place ∷ []) ++ before.links)) (sym start_product)
            (IsUnion-more entries (before.facts ++ before.links) ((before.facts ++ place ∷ []) ++ before.links) before.product place entry at
            (fact_more before.facts before.links place) way.union)));
      },
)

pub kept_come : (entries : List Entry) (from terms its_to owns : List Term) (before : Way) (place : ℕ) (entry : Entry) (product : List Bool) (start : Support)
    (few : ℕ) (supports items : List Support) (ways later : List Way) → its_to ≡ before.to → length owns ≡ length terms → slice_get entries place ≡ Some entry
    → product ≡ united before.product entry.product → start ≡ record { links = before.links; product = product } → few ≡ length owns → items ≡ supports
    → ((support : Support) → Contains supports support → IsSupport entries (meets from terms its_to owns) terms owns start few support)
    → Grown (λ way. (support : Support) × Contains items support × (way ≡ extended before place owns support)) ways later
    → Grown (ComesBy entries from terms before place owns) ways later
kept_come entries from terms its_to owns before place entry product start few supports items ways later to_is rows at product_is start_is few_is
    same its grown =
    grown_weaker (λ way. (support : Support) × Contains items support × (way ≡ extended before place owns support))
    (ComesBy entries from terms before place owns) ways later (λ way (support, inside, is). subst (ComesBy entries from terms before place owns) (sym is)
    (come_by entries from terms its_to owns before place entry product start support few to_is rows at product_is start_is few_is
    (its support (subst (λ it. Contains it support) same inside)))) grown

pub kept_there : (entries : List Entry) (m : Term → Term) (terms owns to : List Term) (at floor few : ℕ) (sides : Option (ℕ × ℕ)) (places : List ℕ)
    (ways later : List Way) (start : Support) (supports items : List Support) → items ≡ supports → ((way : Way) → Contains ways way → Contains later way)
    → AreSupports entries m terms owns at floor (IsTold entries sides places ways to) start few supports
    → ((support : Support) → Contains items support → IsTold entries sides places later to support.product)
    → (set : List Bool) → Within start.product set → PassesTo entries m terms owns at floor set few → IsTold entries sides places later to set
kept_there entries m terms owns to at floor few sides places ways later start supports items same kept its there set within passes =
    elim (its.go_on set within passes) [
      | inl (support, inside, support_within) ↦
          told_wider entries sides places later to support.product set (there support (subst (λ it. Contains it support) (sym same) inside)) support_within
      | inr settled ↦ told_kept entries sides places ways later to set kept settled
    ]

pub counted_come : (count place : ℕ) (owns : List Term) (before : Way) (items supports : List Support) (ways later : List Way) → items ≡ supports
    → Grown (λ way. (support : Support) × Contains items support × (way ≡ extended before place owns support)) ways later
    → ((support : Support) → Contains supports support → length support.product ≡ count) → AreCounted count ways → AreCounted count later
counted_come count place owns before items supports ways later same grown counts =
    counted_grown count (λ way. (support : Support) × Contains items support × (way ≡ extended before place owns support)) ways later grown
    (λ way (support, inside, is). ap (λ (it : Way). length it.product) is ∙ counts support (subst (λ it. Contains it support) same inside))

-- ---- an atom

-- what the entry at a place lets go on
abbrev pub GoesAt : List Entry → List Term → Fact Term → Option (ℕ × ℕ) → List ℕ → Way → List Way → ℕ → ℕ → Type 0
GoesAt entries from atom sides places before ways floor place = (entry : Entry) (fact : Fact Term) (set : List Bool) → slice_get entries place ≡ Some entry
    → entry.claim ≡ Stated fact → IsLike atom fact → Within before.product set → Within entry.product set
    → PassesIn entries (meets from atom.terms before.to fact.terms) atom.terms fact.terms set
    → IsTold entries sides places ways (before.to ++ fact.terms) set
    ⊎ ((0 < floor) × PassesIn (take floor entries) (meets from atom.terms before.to fact.terms) atom.terms fact.terms set)

-- the same, once it is known what is old
abbrev pub GoesSince : List Entry → ℕ → List Term → Fact Term → Option (ℕ × ℕ) → List ℕ → Way → List Way → ℕ → Type 0
GoesSince entries since from atom sides places before ways place = (entry : Entry) (fact : Fact Term) (set : List Bool) → slice_get entries place ≡ Some entry
    → entry.claim ≡ Stated fact → IsLike atom fact → Within before.product set → Within entry.product set
    → PassesIn entries (meets from atom.terms before.to fact.terms) atom.terms fact.terms set
    → IsTold entries sides places ways (before.to ++ fact.terms) set
    ⊎ (IsOldWay since before × (place < since) × PassesIn (take since entries) (meets from atom.terms before.to fact.terms) atom.terms fact.terms set)

module _ (entries : List Entry) (from : List Term) (atom : Fact Term) (sides : Option (ℕ × ℕ)) (places : List ℕ) (before : Way) where
  pub at_since : (since floor place : ℕ) (new : Bool) (ways : List Way) → (0 < floor → (new ≡ false) × (place < since) × (floor ≡ since))
      → (new ≡ false → IsOldWay since before) → GoesAt entries from atom sides places before ways floor place
      → GoesSince entries since from atom sides places before ways place
  at_since since floor place new ways floors old goes entry fact set at states like within its_within passes =
      elim (goes entry fact set at states like within its_within passes) [
        | inl there ↦ inl there
        | inr (some, its) ↦
            let it = floors some in
            inr (old it.0, it.1, subst (λ n. PassesIn (take n entries) (meets from atom.terms before.to fact.terms) atom.terms fact.terms set) it.2 its)
      ]

  pub since_kept : (since place : ℕ) (ways later : List Way) → ((way : Way) → Contains ways way → Contains later way)
      → GoesSince entries since from atom sides places before ways place → GoesSince entries since from atom sides places before later place
  since_kept since place ways later kept goes entry fact set at states like within its_within passes =
      elim (goes entry fact set at states like within its_within passes) [
        | inl there ↦ inl (told_kept entries sides places ways later (before.to ++ fact.terms) set kept there)
        | inr old ↦ inr old
      ]

  pub goes_all : (since : ℕ) (facts : List ℕ) (ways : List Way) → AreAllFacts entries atom.relation facts
      → ((place : ℕ) → Contains facts place → GoesSince entries since from atom sides places before ways place)
      → GoesOn entries since from atom sides places before ways
  goes_all since facts ways live each set fact within (entry, inside, entry_within, is) like passes =
      let at = place-from_Contains entries entry inside in
      let it = live fact like.0 at.0 entry at.1 is in
      let its_within : Within it.1.product set = λ number has. entry_within number (it.6 number has) in
      elim (each it.0 it.2 it.1 fact set it.4 it.5 like within its_within passes) [
        | inl there ↦ inl there
        | inr (old, early, its) ↦ inr (old, (it.1, Contains-take entries since it.0 it.1 early it.4, its_within, it.5), its)
      ]

pub goes_kept : (entries : List Entry) (since : ℕ) (from : List Term) (atom : Fact Term) (sides : Option (ℕ × ℕ)) (places : List ℕ) (before : Way)
    (ways later : List Way)
    → ((way : Way) → Contains ways way → Contains later way) → GoesOn entries since from atom sides places before ways
    → GoesOn entries since from atom sides places before later
goes_kept entries since from atom sides places before ways later kept goes set fact within holds like passes = elim (goes set fact within holds like passes) [
  | inl there ↦ inl (told_kept entries sides places ways later (before.to ++ fact.terms) set kept there)
  | inr old ↦ inr old
]

-- ---- the loops

pub kept_pushed : (places later : List ℕ) (place : ℕ) → later ≡ places ++ place ∷ [] → (at : ℕ) → Contains places at → Contains later at
kept_pushed places later place grown at inside = rw grown (Contains-append_left places (place ∷ []) at inside)

pub has_pushed : (places later : List ℕ) (place : ℕ) → later ≡ places ++ place ∷ [] → Contains later place
has_pushed places later place grown = rw grown (Contains-push places place)

pub way_pushed : (places : List ℕ) (ways later : List Way) (way : Way) (to : List Term) → later ≡ ways ++ way ∷ [] → way.to ≡ to
    → HasWay places later to way.product
way_pushed places ways later way to grown is =
    rw grown (way, Contains-push ways way, (λ place inside. ap (λ (it : List Term). slice_get it place) is), (λ number has. has))

pub longer_at_term : (entries : List Entry) (m : Term → Term) (terms owns : List Term) (index floor : ℕ) (Settled : List Bool → Type 0)
    (given later : List Support) (read d read_term e goal own term : Term) → slice_get owns index ≡ Some own → slice_get terms index ≡ Some term
    → index < length owns → index < length terms → read ≡ get_or owns index d → read_term ≡ get_or terms index e → goal ≡ m read_term
    → AreLonger entries read goal floor Settled given later → AreLonger entries own (m term) floor Settled given later
longer_at_term entries m terms owns index floor Settled given later read d read_term e goal own term at_own at_term within within_terms read_is read_term_is
    goal_is longer =
    let own_is = read_is ∙ get_or_default owns index d read within in
    let its_is = read_term_is ∙ get_or_default terms index e read_term within_terms in
    let is_own : read ≡ own = same_Some read own (sym (item_at owns index read within own_is) ∙ at_own) in
    let is_term : read_term ≡ term = same_Some read_term term (sym (item_at terms index read_term within_terms its_is) ∙ at_term) in
    subst (λ it. AreLonger entries own it floor Settled given later) (goal_is ∙ ap m is_term)
    (subst (λ it. AreLonger entries it goal floor Settled given later) is_own longer)

pub supports_end : (entries : List Entry) (m : Term → Term) (terms owns : List Term) (at floor : ℕ) (Settled : List Bool → Type 0) (start : Support) (few : ℕ)
    (supports : List Support) → length owns ≤ few → AreSupports entries m terms owns at floor Settled start few supports
    → AreSupports entries m terms owns at floor Settled start (length owns) supports
supports_end entries m terms owns at floor Settled start few supports past its = record {
  come = λ support inside.
      let it = its.come support inside in
      record {
        kept = it.kept;
        touch = λ index own term below. it.touch index own term (omega (arith, below, past));
        equalities = it.equalities;
        union = it.union;
        count = it.count;
      };
  go_on = λ set within passes. its.go_on set within (λ index own term below at_own. passes index own term (slice_get_within owns index own at_own) at_own);
}

pub entry_grown : (entries : List Entry) (from terms owns : List Term) (atom fact : Fact Term) (before : Way) (place : ℕ) (entry : Entry)
    (ways later : List Way)
    → terms ≡ atom.terms → owns ≡ fact.terms → slice_get entries place ≡ Some entry → entry.claim ≡ Stated fact → IsLike atom fact
    → Grown (ComesBy entries from terms before place owns) ways later → Grown (Comes entries from atom before) ways later
entry_grown entries from terms owns atom fact before place entry ways later terms_is owns_is at states like grown =
    grown_weaker (ComesBy entries from terms before place owns) (Comes entries from atom before) ways later (λ way by. (
      place,
      fact,
      (entry, at, states),
      like,
      subst (λ it. ComesBy entries from atom.terms before place it way) owns_is (subst (λ it. ComesBy entries from it before place owns way) terms_is by),
    )) grown

pub entry_goes : (entries : List Entry) (from terms to owns : List Term) (atom fact : Fact Term) (sides : Option (ℕ × ℕ)) (places : List ℕ) (before : Way)
    (place floor : ℕ) (entry : Entry) (later : List Way) → terms ≡ atom.terms → to ≡ before.to → owns ≡ fact.terms → slice_get entries place ≡ Some entry
    → entry.claim ≡ Stated fact
    → ((set : List Bool) → Within before.product set → Within entry.product set → PassesIn entries (meets from terms to owns) terms owns set
    → IsTold entries sides places later (to ++ owns) set ⊎ ((0 < floor) × PassesIn (take floor entries) (meets from terms to owns) terms owns set))
    → GoesAt entries from atom sides places before later floor place
entry_goes entries from terms to owns atom fact sides places before place floor entry later terms_is to_is owns_is at states there its its_fact set
    its_at its_states like within its_within passes =
    let entry_is : entry ≡ its = same_Some entry its (sym at ∙ its_at) in
    let claims : Stated fact ≡ Stated its_fact = sym states ∙ ap (λ (it : Entry). it.claim) entry_is ∙ its_states in
    let fact_is : fact ≡ its_fact = cc in
    let all : owns ≡ its_fact.terms = owns_is ∙ ap (λ (it : Fact Term). it.terms) fact_is in
    let Goes : List Term → List Term → List Term → Type 0 = λ terms to owns. PassesIn entries (meets from terms to owns) terms owns set
    → IsTold entries sides places later (to ++ owns) set ⊎ ((0 < floor) × PassesIn (take floor entries) (meets from terms to owns) terms owns set) in
    subst (λ it. Goes atom.terms before.to it) all (subst (λ it. Goes atom.terms it owns) to_is (subst (λ it. Goes it to owns) terms_is
    (there set within (subst (λ (it : Entry). Within it.product set) (sym entry_is) its_within)))) passes

pub floor_goes : (entries : List Entry) (m : Term → Term) (terms owns : List Term) (floor : ℕ) (product : List Bool) (Settled : List Bool → Type 0)
    → ((set : List Bool) → Within product set → PassesIn entries m terms owns set → Settled set ⊎ PassesIn (take floor entries) m terms owns set)
    → 0 < floor → (set : List Bool) → Within product set → PassesIn entries m terms owns set
    → Settled set ⊎ ((0 < floor) × PassesIn (take floor entries) m terms owns set)
floor_goes entries m terms owns floor product Settled goes some set within passes =
    elim (goes set within passes) [ inl settled ↦ inl settled | inr old ↦ inr (some, old) ]

pub longer_items : (entries : List Entry) (own goal : Term) (floor : ℕ) (Settled : List Bool → Type 0) (given items later : List Support) → items ≡ given
    → AreLonger entries own goal floor Settled items later → AreLonger entries own goal floor Settled given later
longer_items entries own goal floor Settled given items later same longer = subst (λ it. AreLonger entries own goal floor Settled it later) same longer

pub free_goes : (entries : List Entry) (floor : ℕ) (own goal : Term) (product : List Bool) (place : ℕ) (Found : List Bool → Type 0)
    → IsFreeLink entries floor own goal product place
    → ((set : List Bool) (entry : Entry) → floor ≤ place → slice_get entries place ≡ Some entry → SaysOne entry.claim own goal
    → Within product set → Within entry.product set → Found set) → (set : List Bool) → Within product set → IsLinkedFrom entries floor set own goal → Found set
free_goes entries floor own goal product place Found (entry, late, at, says, free) goes set within link =
    goes set entry late at says within (λ number has. within number (free number has))

pub passed_unlinked : (entries : List Entry) (m : Term → Term) (terms owns : List Term) (at floor : ℕ) (product : List Bool) (Settled : List Bool → Type 0)
    (read d read_term e goal : Term) (links : List ℕ) → at < length owns → at < length terms → read ≡ get_or owns at d → read_term ≡ get_or terms at e
    → goal ≡ m read_term → AreAllLive entries links (λ claim. SaysOne claim read goal) → ((place : ℕ) → Contains links place → place < floor)
    → IsPassedAt entries m terms owns floor product Settled at
passed_unlinked entries m terms owns at floor product Settled read d read_term e goal links within within_terms read_is read_term_is goal_is live low set
    own term in_set passes at_own at_term apart (place, (entry, late, at_entry, says, entry_within)) =
    let own_is = read_is ∙ get_or_default owns at d read within in
    let its_is = read_term_is ∙ get_or_default terms at e read_term within_terms in
    let is_own : own ≡ read = same_Some own read (sym at_own ∙ item_at owns at read within own_is) in
    let is_term : term ≡ read_term = same_Some term read_term (sym at_term ∙ item_at terms at read_term within_terms its_is) in
    let its_says : SaysOne entry.claim read goal = subst (λ it. SaysOne entry.claim read it) (ap m is_term ∙ sym goal_is)
    (subst (λ it. SaysOne entry.claim it (m term)) is_own says) in
    let it = live place entry at_entry its_says in
    let below = low it.0 it.2 in
    let above = it.3 in
    absurd (omega (arith, below, above, late))

pub never_passed : (entries : List Entry) (m : Term → Term) (terms owns : List Term) (at : ℕ) (read d read_term e goal : Term) (links : List ℕ)
    → at < length owns → at < length terms → read ≡ get_or owns at d → read_term ≡ get_or terms at e → goal ≡ m read_term → (read ≡ goal → ⊥)
    → AreAllLive entries links (λ claim. SaysOne claim read goal) → length links ≡ 0 → (set : List Bool) → PassesIn entries m terms owns set → ⊥
never_passed entries m terms owns at read d read_term e goal links within within_terms read_is read_term_is goal_is apart live none set passes =
    let at_own = item_at owns at read within (read_is ∙ get_or_default owns at d read within) in
    let at_term = item_at terms at read_term within_terms (read_term_is ∙ get_or_default terms at e read_term within_terms) in
    let unlike : read ≡ m read_term → ⊥ = λ is. apart (is ∙ sym goal_is) in
    elim (from_world entries set read (m read_term) (passes_at entries m terms owns set passes at read read_term at_own at_term)) [
      | inl is ↦ unlike is
      | inr link ↦ passed_unlinked entries m terms owns at 0 [] (λ _. ⊥) read d read_term e goal links within within_terms read_is read_term_is goal_is live
          (λ place inside. absurd (let below = inside.1 in omega (arith, below, none))) set read read_term (λ number has. absurd (none_has 0 number has))
          passes at_own at_term unlike link
    ]

pub all_old : (entries : List Entry) (m : Term → Term) (terms owns : List Term) (floor few : ℕ) → length owns ≡ length terms → length owns ≤ few
    → ((at : ℕ) → at < few → IsPassedAt entries m terms owns floor [] (λ _. ⊥) at)
    → (set : List Bool) → PassesIn entries m terms owns set → PassesIn (take floor entries) m terms owns set
all_old entries m terms owns floor few rows past each set passes =
    elim (anew_end entries m terms owns floor [] (λ _. ⊥) rows (λ at below. each at (omega (arith, below, past))) set
    (λ number has. absurd (none_has 0 number has))
    passes) [ inl never ↦ absurd never | inr all ↦ all ]

-- ---- what the earlier terms tell

pub told_all : (places : List ℕ) (ways : List Way) (to items none : List Term) (bound : ℕ) (product : List Bool) → items ≡ to → bound ≡ length to → none ≡ []
    → ((place : ℕ) → Contains places place → place < bound) → HasWay places ways (items ++ none) product
    → (owns : List Term) → HasWay places ways (to ++ owns) product
told_all places ways to items none bound product same long empty below (way, inside, agree, within) owns = (
  way,
  inside,
  (λ place its.
      let there = thing_at to place (subst (λ n. place < n) long (below place its)) in
      agree place its ∙ (λ i. slice_get (same i ++ empty i) place) ∙ at_left to [] place there.0 there.1 ∙ sym (at_left to owns place there.0 there.1)),
  within,
)

pub goes_told : (entries : List Entry) (since : ℕ) (from : List Term) (atom : Fact Term) (sides : Option (ℕ × ℕ)) (places : List ℕ) (before : Way)
    (ways : List Way)
    → ((owns : List Term) → HasWay places ways (before.to ++ owns) before.product) → GoesOn entries since from atom sides places before ways
goes_told entries since from atom sides places before ways told set fact within holds like passes =
    inl (inl (way_wider places ways (before.to ++ fact.terms) before.product set (told fact.terms) within))

-- ---- facts that make nothing new

pub stale_goes : (entries : List Entry) (since : ℕ) (from : List Term) (atom : Fact Term) (sides : Option (ℕ × ℕ)) (places : List ℕ) (before : Way)
    (ways : List Way) (place : ℕ)
    → IsOldWay since before → IsStale entries since place → GoesSince entries since from atom sides places before ways place
stale_goes entries since from atom sides places before ways place old (early, stale) entry fact set at states like within its_within passes = inr (
  old,
  early,
  all_old entries (meets from atom.terms before.to fact.terms) atom.terms fact.terms since (length fact.terms) like.1 (omega arith)
      (λ index below its own term in_set its_passes at_own at_term apart (link, (linking, late, at_link, says, link_within)).
      let low = stale entry fact at states own (Contains-at fact.terms index own at_own) link linking at_link
      (says_side linking.claim own (meets from atom.terms before.to fact.terms term) says) in
      absurd (omega (arith, low, late)))
      set passes,
)

pub tried_goes : (entries : List Entry) (since : ℕ) (from : List Term) (atom : Fact Term) (sides : Option (ℕ × ℕ)) (places : List ℕ) (before : Way)
    (ways : List Way)
    (new : Bool) (facts fresh tried : List ℕ) → (new ≡ false → IsOldWay since before) → AreFresh entries since facts fresh
    → ((new ≡ true) × (tried ≡ facts)) ⊎ ((new ≡ false) × (tried ≡ fresh))
    → ((place : ℕ) → Contains tried place → GoesSince entries since from atom sides places before ways place)
    → (place : ℕ) → Contains facts place → GoesSince entries since from atom sides places before ways place
tried_goes entries since from atom sides places before ways new facts fresh tried old are_fresh which each place inside = elim which [
  | inl (is, all) ↦ each place (subst (λ it. Contains it place) (sym all) inside)
  | inr (is, some) ↦ elim (are_fresh place inside) [
    | inl there ↦ each place (subst (λ it. Contains it place) (sym some) there)
    | inr stale ↦ stale_goes entries since from atom sides places before ways place (old is) stale
  ]
]
