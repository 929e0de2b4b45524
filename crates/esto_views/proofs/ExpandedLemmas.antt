-- What a plan's atoms ask of the datasets is an expansion of the plan.
use Rattle.std.proofs.Common.{◌≡◌, ◌↔◌, ◌⊎◌, inl, inr, zero, suc, ℕ, ◌<◌, ◌≤◌, ◌+◌, List, [], ◌∷◌, ◌++◌, map, length, drop, get_or, slice_get, Contains, Some}
use Rattle.std.proofs.Common.{refl, sym, ap, ◌∙◌, subst, arith}
use Rattle.std.proofs.lemmas.Bool.{cases_order}
use Rattle.std.proofs.lemmas.List.{append-nil, append_assoc, drop_all, length-map}
use Rattle.std.proofs.lemmas.List.Elements.{Contains-append_cases, Contains-append_left, Contains-append_right}
use Rattle.std.proofs.lemmas.Option.{slice_get_within, same_Some}
use Rattle.esto_term.specs.declared.term.Term.{Term}
use Rattle.esto_term.specs.declared.term.Term.TheVariants.{Const, Plain}
use Rattle.esto_semantics.specs.Expansions.{IsInner, IsOfQuery, FitsViews}
use Rattle.esto_semantics.specs.Facts.{image}
use Rattle.esto_semantics.specs.Maps.{IsFlat, Keeps}
use Rattle.esto_semantics.specs.Queries.{ConjunctiveQuery}
use Rattle.esto_semantics.specs.declared.fact.Fact.{Fact}
use Rattle.esto_semantics.proofs.TermLemmas.{Plain-same}
use Rattle.esto_query.specs.Making.{query_of}
use Rattle.esto_query.specs.Soundness.{IsSound}
use Rattle.esto_query.specs.declared.query.Query.{Query}
use Rattle.esto_views.specs.Expanded.{placed, AreExpanded, Expands}
use Rattle.esto_semantics.specs.Expanded.{facts_of}
use Rattle.esto_views.specs.Fragments.{views_of, IsFragment}
use Rattle.esto_views.specs.Plans.{fact_of, plan_query, IsAtomOver, IsPlanOver}
use Rattle.esto_views.specs.Soundness.{IsSoundPlan}
use Rattle.esto_semantics.specs.Spreads.{IsSpread}
use Rattle.esto_semantics.specs.declared.expanded.ExpandedFact.{ExpandedFact}
use Rattle.esto_views.specs.declared.fragments.FragmentDef.{FragmentDef}
use Rattle.esto_views.specs.declared.plan.PlanAtom.{PlanAtom}
use Rattle.esto_views.specs.declared.plan.Plan.{Plan}
use Rattle.esto_views.proofs.SoundLemmas.{named-Plain}
use Rattle.esto_term.proofs.ListLemmas.{Contains-at, Contains-cases, Contains-head, Contains-map, Contains-map_from, Contains-nil, Contains-read, Contains-rest}
use Rattle.esto_term.proofs.ListLemmas.{map_at, map_at-from, place-from_Contains}
use Rattle.esto_term.proofs.PlaceLemmas.{drop-item}

-- ---- the fragment of an atom

pub is_atom_over : (plan : Plan) (fragments : List FragmentDef) (items : List PlanAtom) (number : ℕ) (atom : PlanAtom) → IsPlanOver plan fragments
    → items ≡ plan.atoms
    → number < length items → atom ≡ get_or items number atom → IsAtomOver atom fragments
is_atom_over plan fragments items number atom over same within read = over atom
    (subst (λ it. Contains it atom) same (Contains-read items number atom within read))

pub fragment_is : (fragments : List FragmentDef) (atom : PlanAtom) (found : FragmentDef) → IsAtomOver atom fragments
    → slice_get fragments atom.fragment ≡ Some found
    → IsFragment found × (length atom.terms ≡ length found.view.head)
fragment_is fragments atom found (fragment, at, is_fragment, lengths) there =
    let same : fragment ≡ found = same_Some fragment found (sym at ∙ there) in
    (subst IsFragment same is_fragment, lengths ∙ ap (λ it. length it.view.head) same)

pub fits : (plan : Plan) (fragments : List FragmentDef) → IsPlanOver plan fragments → FitsViews (views_of fragments) (plan_query plan)
fits plan fragments over fact inside =
    let source = Contains-map_from fact_of plan.atoms fact inside in
    let found = over source.0 source.1 in
    let view = query_of found.0.view in (
      view,
      ap (λ (it : Fact Term). slice_get (views_of fragments) it.relation) (sym source.2)
          ∙ map_at (λ it. query_of it.view) fragments source.0.fragment found.0 found.1,
      record {
        same_length = sym found.3 ∙ ap (λ (it : Fact Term). length it.terms) source.2;
        variables = found.2.variables;
        distinct = found.2.distinct;
      },
    )

-- ---- one atom more

pub expanded_more : (fragments : List FragmentDef) (atoms : List PlanAtom) (start number first next : ℕ) (atom : PlanAtom) (fragment : FragmentDef)
    (m : Term → Term) (done more : List ExpandedFact)
    → number < length atoms → atom ≡ get_or atoms number atom → slice_get fragments atom.fragment ≡ Some fragment
    → IsSpread (query_of fragment.view) atom.terms first next m
    → more ≡ done ++ placed number 0 (map (image m) fragment.view.body)
    → ((rest : List ExpandedFact) → AreExpanded fragments number first (drop number atoms) rest → AreExpanded fragments 0 start atoms (done ++ rest))
    → (rest : List ExpandedFact) → AreExpanded fragments (number + 1) next (drop (number + 1) atoms) rest → AreExpanded fragments 0 start atoms (more ++ rest)
expanded_more fragments atoms start number first next atom fragment m done more within read found spread is so_far rest tail =
    let own = placed number 0 (map (image m) fragment.view.body) in
    let left : drop number atoms ≡ atom ∷ drop (number + 1) atoms = drop-item atoms number atom within read in
    let joined : more ++ rest ≡ done ++ (own ++ rest) = ap (λ it. it ++ rest) is ∙ append_assoc done own rest in
    subst (AreExpanded fragments 0 start atoms) (sym joined)
    (so_far (own ++ rest) (subst (λ it. AreExpanded fragments number first it (own ++ rest)) (sym left)
    (fragment, found, (next, (m, spread, (rest, refl, tail))))))

pub expanded_all : (fragments : List FragmentDef) (atoms : List PlanAtom) (start number first : ℕ) (done : List ExpandedFact) → length atoms ≤ number
    → ((rest : List ExpandedFact) → AreExpanded fragments number first (drop number atoms) rest → AreExpanded fragments 0 start atoms (done ++ rest))
    → AreExpanded fragments 0 start atoms done
expanded_all fragments atoms start number first done past so_far =
    subst (AreExpanded fragments 0 start atoms) (append-nil done)
    (so_far [] (subst (λ it. AreExpanded fragments number first it []) (sym (drop_all number atoms past)) refl))

-- ---- the facts of one atom

placed-from : (atom place : ℕ) (facts : List (Fact Term)) (found : ExpandedFact) → Contains (placed atom place facts) found
    → (found.atom ≡ atom) × ((offset : ℕ) × (found.place ≡ place + offset) × (slice_get facts offset ≡ Some found.fact))
placed-from atom place [] found inside = absurd (Contains-nil found inside)
placed-from atom place (first ∷ facts) found inside = elim (Contains-cases (record { atom = atom; place = place; fact = first })
    (placed atom (place + 1) facts) found inside) [
      | inl is ↦
          let own : place ≡ found.place = ap (λ (it : ExpandedFact). it.place) is in
          (ap (λ (it : ExpandedFact). it.atom) (sym is), (0, omega arith, ap (λ (it : ExpandedFact). Some it.fact) is))
      | inr later ↦ let rest = placed-from atom (place + 1) facts found later in (rest.0, (suc rest.1.0, omega (arith, rest.1.1), rest.1.2))
    ]

placed-has : (atom place : ℕ) (facts : List (Fact Term)) (offset at : ℕ) (fact : Fact Term) → at ≡ place + offset → slice_get facts offset ≡ Some fact
    → Contains (placed atom place facts) (record { atom = atom; place = at; fact = fact })
placed-has atom place [] offset at fact is found = absurd (cc)
placed-has atom place (first ∷ facts) zero at fact is found =
    let same : first ≡ fact = cc in
    let here : place ≡ at = omega arith in
    subst (Contains (placed atom place (first ∷ facts))) (λ i. record { atom = atom; place = here i; fact = same i })
    (Contains-head (record { atom = atom; place = place; fact = first }) (placed atom (place + 1) facts))
placed-has atom place (first ∷ facts) (suc offset) at fact is found =
    Contains-rest (record { atom = atom; place = place; fact = first }) (placed atom (place + 1) facts) (record { atom = atom; place = at; fact = fact })
    (placed-has atom (place + 1) facts offset at fact (omega arith) found)

-- ---- what each atom's view and map are

module _ (fragments : List FragmentDef) where
  -- the atoms, of which the first has a number, and whose new variables are numbered from `first` on, have these expanded facts
  pub record IsLaidOut (number first : ℕ) (atoms : List PlanAtom) (expanded : List ExpandedFact) : Type 0 where
    pub view : ℕ → ConjunctiveQuery
    pub spread : ℕ → Term → Term
    pub start : ℕ → ℕ
    pub starts : start 0 ≡ first
    pub rises : (place : ℕ) → start place ≤ start (suc place)
    pub has_view : (place : ℕ) (atom : PlanAtom) → slice_get atoms place ≡ Some atom → slice_get (views_of fragments) atom.fragment ≡ Some (view place)
    pub keeps : (place : ℕ) → Keeps Const (spread place)
    pub head : (place : ℕ) (atom : PlanAtom) → slice_get atoms place ≡ Some atom → map (spread place) (view place).head ≡ atom.terms
    pub new : (place : ℕ) (term : Term) → place < length atoms → IsInner (view place) term
        → (n : ℕ) × (spread place term ≡ Plain n) × (start place ≤ n) × (n < start (suc place))
    pub apart : (place : ℕ) (term other : Term) → place < length atoms → IsInner (view place) term → IsInner (view place) other
        → spread place term ≡ spread place other → term ≡ other
    pub exact : (fact : ExpandedFact) → Contains expanded fact
        ↔ ((place : ℕ) × (place < length atoms) × (fact.atom ≡ number + place)
        × ((part : Fact Term) × (slice_get (view place).body fact.place ≡ Some part) × (image (spread place) part ≡ fact.fact)))

  laid_nil : (number first : ℕ) (expanded : List ExpandedFact) → expanded ≡ [] → IsLaidOut number first [] expanded
  laid_nil number first expanded none = record {
    view = λ place. record { head = []; body = [] };
    spread = λ place term. term;
    start = λ place. first;
    starts = refl;
    rises = λ place. omega arith;
    has_view = λ place atom at. absurd (cc);
    keeps = λ place text. refl;
    head = λ place atom at. absurd (cc);
    new = λ place term within inner. absurd (omega arith);
    apart = λ place term other within inner other_inner same. absurd (omega arith);
    exact = λ fact. ((λ inside. absurd (Contains-nil fact (subst (λ it. Contains it fact) none inside))), (λ found. absurd (omega (arith, found.1))));
  }

  module _ (number first next : ℕ) (atom : PlanAtom) (atoms : List PlanAtom) (fragment : FragmentDef) (m : Term → Term) (rest expanded : List ExpandedFact)
      (found : slice_get fragments atom.fragment ≡ Some fragment) (flat : (term : Term) → IsInner (query_of fragment.view) term → IsFlat term)
      (is_spread : IsSpread (query_of fragment.view) atom.terms first next m)
      (is : expanded ≡ placed number 0 (map (image m) fragment.view.body) ++ rest) (tail : IsLaidOut (number + 1) next atoms rest) where
    abbrev own_view : ConjunctiveQuery
    own_view = query_of fragment.view

    inner_at : (term : Term) → IsInner own_view term → (place : ℕ) × (number : ℕ) × (term ≡ Plain number) × (slice_get is_spread.inner place ≡ Some number)
        × (m term ≡ Plain (first + place))
    inner_at term inner = by (flat term inner)
      where
        by : IsFlat term → (place : ℕ) × (number : ℕ) × (term ≡ Plain number) × (slice_get is_spread.inner place ≡ Some number)
            × (m term ≡ Plain (first + place))
        by (inl constant) = absurd (inner.no_constant constant)
        by (inr (number, plain)) =
            let at = place-from_Contains is_spread.inner number ((is_spread.are_inner.exact number).1 (subst (IsInner own_view) plain inner)) in
            (at.0, number, plain, at.1, ap m plain ∙ is_spread.new at.0 number at.1)

    abbrev views : ℕ → ConjunctiveQuery
    views zero = own_view
    views (suc place) = tail.view place

    abbrev spreads : ℕ → Term → Term
    spreads zero = m
    spreads (suc place) = tail.spread place

    abbrev begins : ℕ → ℕ
    begins zero = first
    begins (suc place) = tail.start place

    begins-rise : (place : ℕ) → begins place ≤ begins (suc place)
    begins-rise zero = let after = is_spread.after in let then = tail.starts in omega arith
    begins-rise (suc place) = tail.rises place

    has_views : (place : ℕ) (other : PlanAtom) → slice_get (atom ∷ atoms) place ≡ Some other
        → slice_get (views_of fragments) other.fragment ≡ Some (views place)
    has_views zero other at =
        let same : atom ≡ other = cc in
        ap (λ (it : PlanAtom). slice_get (views_of fragments) it.fragment) (sym same) ∙ map_at (λ it. query_of it.view) fragments atom.fragment fragment found
    has_views (suc place) other at = tail.has_view place other at

    all_keep : (place : ℕ) → Keeps Const (spreads place)
    all_keep zero = is_spread.keeps
    all_keep (suc place) = tail.keeps place

    heads : (place : ℕ) (other : PlanAtom) → slice_get (atom ∷ atoms) place ≡ Some other → map (spreads place) (views place).head ≡ other.terms
    heads zero other at = let same : atom ≡ other = cc in is_spread.head ∙ ap (λ (it : PlanAtom). it.terms) same
    heads (suc place) other at = tail.head place other at

    all_new : (place : ℕ) (term : Term) → place < length (atom ∷ atoms) → IsInner (views place) term
        → (n : ℕ) × (spreads place term ≡ Plain n) × (begins place ≤ n) × (n < begins (suc place))
    all_new zero term within inner =
        let at = inner_at term inner in
        let below = slice_get_within is_spread.inner at.0 at.1 at.3 in
        let after = is_spread.after in
        let then = tail.starts in
        (first + at.0, at.4, omega arith, omega arith)
    all_new (suc place) term within inner = tail.new place term (omega arith) inner

    all_apart : (place : ℕ) (term other : Term) → place < length (atom ∷ atoms) → IsInner (views place) term → IsInner (views place) other
        → spreads place term ≡ spreads place other → term ≡ other
    all_apart zero term other within inner other_inner same =
        let at = inner_at term inner in
        let there = inner_at other other_inner in
        let sums : first + at.0 ≡ first + there.0 = Plain-same _ _ (sym at.4 ∙ same ∙ there.4) in
        let places : at.0 ≡ there.0 = omega arith in
        let numbers : at.1 ≡ there.1 = same_Some _ _ (sym at.3 ∙ ap (slice_get is_spread.inner) places ∙ there.3) in
        at.2 ∙ ap Plain numbers ∙ sym there.2
    all_apart (suc place) term other within inner other_inner same = tail.apart place term other (omega arith) inner other_inner same

    abbrev IsThere : ExpandedFact → ℕ → Type 0
    IsThere fact place =
        (place < length (atom ∷ atoms)) × (fact.atom ≡ number + place)
        × ((part : Fact Term) × (slice_get (views place).body fact.place ≡ Some part) × (image (spreads place) part ≡ fact.fact))

    there-from : (fact : ExpandedFact) → Contains (placed number 0 (map (image m) fragment.view.body) ++ rest) fact → (place : ℕ) × IsThere fact place
    there-from fact inside = elim (Contains-append_cases (placed number 0 (map (image m) fragment.view.body)) rest fact inside) [
      | inl own ↦
          let at = placed-from number 0 (map (image m) fragment.view.body) fact own in
          let offset : at.1.0 ≡ fact.place = omega (arith, at.1.1) in
          let part = map_at-from (image m) fragment.view.body fact.place fact.fact (ap (slice_get (map (image m) fragment.view.body)) (sym offset) ∙ at.1.2) in
          (0, (omega arith, omega (arith, at.0), part))
      | inr later ↦
          let at = (tail.exact fact).0 later in
          (suc at.0, (omega (arith, at.1), omega (arith, at.2), at.3))
    ]

    there-has : (fact : ExpandedFact) (place : ℕ) → IsThere fact place → Contains (placed number 0 (map (image m) fragment.view.body) ++ rest) fact
    there-has fact zero (within, is_atom, (part, at, goes)) =
        let own : number ≡ fact.atom = omega arith in
        Contains-append_left (placed number 0 (map (image m) fragment.view.body)) rest fact
        (subst (Contains (placed number 0 (map (image m) fragment.view.body))) (λ i. record { atom = own i; place = fact.place; fact = fact.fact })
        (placed-has number 0 (map (image m) fragment.view.body) fact.place fact.place fact.fact (omega arith)
        (map_at (image m) fragment.view.body fact.place part at ∙ ap Some goes)))
    there-has fact (suc place) (within, is_atom, part) =
        Contains-append_right (placed number 0 (map (image m) fragment.view.body)) rest fact ((tail.exact fact).1 (place, omega arith, omega arith, part))

    laid_cons : IsLaidOut number first (atom ∷ atoms) expanded
    laid_cons = record {
      view = views;
      spread = spreads;
      start = begins;
      starts = refl;
      rises = begins-rise;
      has_view = has_views;
      keeps = all_keep;
      head = heads;
      new = all_new;
      apart = all_apart;
      exact = λ fact. (
        (λ inside. let at = there-from fact (subst (λ it. Contains it fact) is inside) in (at.0, at.1.0, at.1.1, at.1.2)),
        (λ at. subst (λ it. Contains it fact) (sym is) (there-has fact at.0 (at.1, at.2, at.3))),
      );
    }

  laid_out : ((query : Query) (term : Term) → IsInner (query_of query) term → IsFlat term)
      → (number first : ℕ) (atoms : List PlanAtom) (expanded : List ExpandedFact)
      → AreExpanded fragments number first atoms expanded → IsLaidOut number first atoms expanded
  laid_out flat number first [] expanded none = laid_nil number first expanded none
  laid_out flat number first (atom ∷ atoms) expanded (fragment, found, (next, (m, is_spread, (rest, is, further)))) =
      laid_cons number first next atom atoms fragment m rest expanded found (flat fragment.view) is_spread is
      (laid_out flat (number + 1) next atoms rest further)

-- ---- the expansion of a plan

module _ (plan : Plan) (fragments : List FragmentDef) (expanded : List ExpandedFact) (sound : IsSoundPlan plan.atoms plan.head plan.names)
    (laid : IsLaidOut fragments 0 (length plan.names) plan.atoms expanded) where
  start-above : (place : ℕ) → length plan.names ≤ laid.start place
  start-above zero = let starts = laid.starts in omega arith
  start-above (suc place) = let so_far = start-above place in let rises = laid.rises place in omega arith

  start-later : (place other : ℕ) → place < other → laid.start (suc place) ≤ laid.start other
  start-later place zero less = absurd (omega arith)
  start-later place (suc other) less = by (start-later place other) (cases_order place other)
    where
      by : (place < other → laid.start (suc place) ≤ laid.start other) → (place ≡ other) ⊎ ((place < other) ⊎ (other < place))
          → laid.start (suc place) ≤ laid.start (suc other)
      by again (inl same) = let equal : laid.start (suc place) ≡ laid.start (suc other) = ap (λ it. laid.start (suc it)) same in omega arith
      by again (inr (inl earlier)) = let so_far = again earlier in let rises = laid.rises other in omega arith
      by again (inr (inr later)) = absurd (omega arith)

  below_names : (number : ℕ) → IsOfQuery (plan_query plan) (Plain number) → number < length plan.names
  below_names number (inl (fact, inside, at)) =
      let source = Contains-map_from fact_of plan.atoms fact inside in
      named-Plain plan.names number (sound.named_atoms source.0 source.1 (Plain number)
      (subst (λ (it : Fact Term). Contains it.terms (Plain number)) (sym source.2) at))
  below_names number (inr in_head) = named-Plain plan.names number (sound.named_head (Plain number) in_head)

  new_outside : (number : ℕ) (term : Term) → number < length plan.atoms → IsInner (laid.view number) term
      → IsOfQuery (plan_query plan) (laid.spread number term) → ⊥
  new_outside number term within inner of_query =
      let new = laid.new number term within inner in
      let below = below_names new.0 (subst (IsOfQuery (plan_query plan)) new.1 of_query) in
      let above = start-above number in
      omega (arith, new.2)

  never_later : (number other : ℕ) (term other_term : Term) → number < length plan.atoms → other < length plan.atoms → IsInner (laid.view number) term
      → IsInner (laid.view other) other_term
      → laid.spread number term ≡ laid.spread other other_term → number < other → ⊥
  never_later number other term other_term within other_within inner other_inner same less =
      let new = laid.new number term within inner in
      let later = laid.new other other_term other_within other_inner in
      let equal : new.0 ≡ later.0 = Plain-same _ _ (sym new.1 ∙ same ∙ later.1) in
      let rises = start-later number other less in
      omega (arith, new.3, later.2)

  new_apart : (number other : ℕ) (term other_term : Term) → number < length plan.atoms → other < length plan.atoms → IsInner (laid.view number) term
      → IsInner (laid.view other) other_term
      → laid.spread number term ≡ laid.spread other other_term → (number ≡ other) × (term ≡ other_term)
  new_apart number other term other_term within other_within inner other_inner same = by (cases_order number other)
    where
      by : (number ≡ other) ⊎ ((number < other) ⊎ (other < number)) → (number ≡ other) × (term ≡ other_term)
      by (inl is) = (
        is,
        laid.apart number term other_term within inner (subst (λ it. IsInner (laid.view it) other_term) (sym is) other_inner)
            (same ∙ ap (λ it. laid.spread it other_term) (sym is)),
      )
      by (inr (inl less)) = absurd (never_later number other term other_term within other_within inner other_inner same less)
      by (inr (inr more)) = absurd (never_later other number other_term term other_within within other_inner inner (sym same) more)

  atom_at : (number : ℕ) (fact : Fact Term) → slice_get (map fact_of plan.atoms) number ≡ Some fact
      → (atom : PlanAtom) × (slice_get plan.atoms number ≡ Some atom) × (fact_of atom ≡ fact)
  atom_at number fact at = map_at-from fact_of plan.atoms number fact at

  short : (number : ℕ) → number < length (map fact_of plan.atoms) → number < length plan.atoms
  short number within = rw length-map at within

  long : (number : ℕ) → number < length plan.atoms → number < length (map fact_of plan.atoms)
  long number within = rw length-map within

  abbrev IsImage : Fact Term → Type 0
  IsImage fact =
      (number : ℕ) × (number < length (map fact_of plan.atoms))
      × ((part : Fact Term) × Contains (laid.view number).body part × (image (laid.spread number) part ≡ fact))

  images-from : (fact : Fact Term) → Contains (facts_of expanded) fact → IsImage fact
  images-from fact inside =
      let source = Contains-map_from (λ (it : ExpandedFact). it.fact) expanded fact inside in
      let at = (laid.exact source.0).0 source.1 in
      (at.0, long at.0 at.1, (at.3.0, Contains-at (laid.view at.0).body source.0.place at.3.0 at.3.1, at.3.2 ∙ source.2))

  images-have : (fact : Fact Term) → IsImage fact → Contains (facts_of expanded) fact
  images-have fact (number, within, (part, inside, goes)) =
      let place = place-from_Contains (laid.view number).body part inside in
      let found : ExpandedFact = record { atom = number; place = place.0; fact = fact } in
      Contains-map (λ (it : ExpandedFact). it.fact) expanded found ((laid.exact found).1 (number, short number within, omega arith, (part, place.1, goes)))

  pub expands : Expands plan fragments expanded
  expands = record {
    of = record {
      view = laid.view;
      spread = laid.spread;
      has_view = λ number fact at. let atom = atom_at number fact at in
          ap (λ (it : Fact Term). slice_get (views_of fragments) it.relation) (sym atom.2) ∙ laid.has_view number atom.0 atom.1;
      keeps = laid.keeps;
      head = λ number fact at. let atom = atom_at number fact at in laid.head number atom.0 atom.1 ∙ ap (λ (it : Fact Term). it.terms) atom.2;
      variable = λ number term within inner. let new = laid.new number term (short number within) inner in (new.0, new.1);
      outside = λ number term within inner of_query. new_outside number term (short number within) inner of_query;
      apart = λ number other term other_term within other_within inner other_inner same.
          new_apart number other term other_term (short number within) (short other other_within) inner other_inner same;
      facts = λ fact. (images-from fact, images-have fact);
    };
    exact = λ fact. (
      (λ inside.
          let at = (laid.exact fact).0 inside in
          let is : at.0 ≡ fact.atom = omega (arith, at.2) in
          subst (λ it. (it < length plan.atoms) × ((part : Fact Term) × (slice_get (laid.view it).body fact.place ≡ Some part)
          × (image (laid.spread it) part ≡ fact.fact))) is (at.1, at.3)),
      (λ at. (laid.exact fact).1 (fact.atom, at.0, omega arith, at.1)),
    );
  }

pub plan_expands : (plan : Plan) (fragments : List FragmentDef) (expanded : List ExpandedFact) → IsSoundPlan plan.atoms plan.head plan.names
    → ((query : Query) → IsSound query.head query.body query.names) → AreExpanded fragments 0 (length plan.names) plan.atoms expanded
    → Expands plan fragments expanded
plan_expands plan fragments expanded sound queries are_expanded =
    expands plan fragments expanded sound
    (laid_out fragments (λ query term inner. (queries query).query.flat_body term inner.in_body) 0 (length plan.names) plan.atoms expanded are_expanded)
