-- The steps of queries over relations that are asked as a whole.
use Rattle.std.proofs.Common.{◌≡◌, ◌⊎◌, ◌↔◌, inl, inr, ℕ, ◌+◌, ◌<◌, ◌≤◌, Bool, true, List, [], ◌∷◌, ◌++◌, map, length, take, Some, slice_get, Contains}
use Rattle.std.proofs.Common.{refl, sym, ap, ◌∙◌, subst, arith, get_or}
use Rattle.std.specs.List.{AllZip}
use Rattle.std.proofs.lemmas.List.{append_assoc, append-nil, length-take-le, take_all, take-append-le}
use Rattle.std.proofs.lemmas.List.Elements.{Contains-append_left, Contains-push, Contains-push_cases}
use Rattle.std.proofs.lemmas.Option.{none-some, same_Some, slice_get_within, get_or_from_slice_get}
use Rattle.std.proofs.lemmas.Slice.Zip.{all_zipped_more}
use Rattle.esto_term.specs.declared.term.Term.{Term}
use Rattle.esto_term.specs.declared.term.Term.TheVariants.{Const}
use Rattle.esto_semantics.specs.Facts.{terms_of}
use Rattle.esto_semantics.specs.Maps.{IsFixedBy}
use Rattle.esto_semantics.specs.Queries.{ConjunctiveQuery}
use Rattle.esto_semantics.specs.declared.fact.Fact.{Fact}
use Rattle.esto_term.proofs.ListLemmas.{Contains-nil, Contains-head, Contains-rest, Contains-cases, Contains-at, Contains-flat, at_left, at_end, at_pushed}
use Rattle.esto_term.proofs.ListLemmas.{map_at}
use Rattle.esto_term.proofs.PlaceLemmas.{take-item}
use Rattle.esto_term.proofs.ZipLemmas.{zip_left}
use Rattle.esto_semantics.proofs.TermLemmas.{Const-same}
use Rattle.esto_columns.specs.Asked.{Shape, IsAllowed}
use Rattle.esto_columns.specs.Interned.{Grows}
use Rattle.esto_columns.proofs.CodingLemmas.{grows_on}
use Rattle.esto_columns.specs.declared.stored.StoredRows.{StoredRows}
use Rattle.esto_exec.specs.Runnable.{AreRunnable}
use Rattle.esto_steps.specs.Planned.{IsSource, IsLink, IsNew, IsKnown, IsGetOf, AreStepsAfter, AreStepsOf}
use Rattle.esto_steps.proofs.GrowthLemmas.{source_grows, link_grows, head_grows, grows_refl}
use Rattle.esto_steps.specs.declared.steps.Get.{Get}
use Rattle.esto_steps.specs.declared.steps.Link.{Link}
use Rattle.esto_steps.specs.declared.steps.Source.{Source}
use Rattle.esto_steps.specs.declared.steps.Steps.{Steps}
use Rattle.esto_steps.specs.Meaning.{Follows, Leads, IsResult}
use Rattle.esto_steps.specs.Named.{NamesCodes}
use Rattle.esto_steps.specs.Rows.{IsRowOf, held_by}
use Rattle.esto_coded.specs.Relations.{AreWhole}
use Rattle.esto_coded.specs.Whole.{IsLinked, AreFilters, IsWholeGet, AreWholeGets, AreWholeSteps, TakeWhole, IsOver}
use Rattle.esto_semantics.proofs.FactLemmas.{terms_of-push}

-- ---- growing texts

pub filters_grow : (old new : List (List ℕ)) (bound terms : List Term) (links : List Link) → Grows old new → AreFilters old bound terms links
    → AreFilters new bound terms links
filters_grow old new bound terms links grown are = record {
  sound = λ link inside. link_grows old new (bound ++ take link.column terms) terms link grown (are.sound link inside);
  complete = are.complete;
}

pub gets_grow : (old new : List (List ℕ)) (bound : List Term) (atoms : List (Fact Term)) (gets : List Get) → Grows old new → AreWholeGets old bound atoms gets
    → AreWholeGets new bound atoms gets
gets_grow old new bound [] [] grown are = are
gets_grow old new bound [] (get ∷ gets) grown are = absurd are
gets_grow old new bound (atom ∷ atoms) [] grown are = absurd are
gets_grow old new bound (atom ∷ atoms) (get ∷ gets) grown are = (
  record {
    fragment = (are.0).fragment;
    inputs = (are.0).inputs;
    filters = filters_grow old new bound atom.terms get.filters grown (are.0).filters;
  },
  gets_grow old new (bound ++ atom.terms) atoms gets grown are.1,
)

-- ---- columns

pub no_filters : (texts : List (List ℕ)) (bound : List Term) (links : List Link) → links ≡ [] → AreFilters texts bound [] links
no_filters texts bound links none = record {
  sound = λ link inside. absurd (Contains-nil link (subst (λ them. Contains them link) none inside));
  complete = λ column term at. absurd (none-some term at);
}

module _ (old texts : List (List ℕ)) (bound own : List Term) (term : Term) (links : List Link) (grown : Grows old texts)
    (are : AreFilters old bound own links) where
  front : (place : ℕ) → place ≤ length own → take place (own ++ term ∷ []) ≡ take place own
  front place within = take-append-le place own (term ∷ []) within

  all_front : (place : ℕ) → place ≡ length own → take place (own ++ term ∷ []) ≡ own
  all_front place is = front place (omega (arith, is)) ∙ take_all place own (omega (arith, is))

  sound_still : (link : Link) → Contains links link → IsLink texts (bound ++ take link.column (own ++ term ∷ [])) (own ++ term ∷ []) link
  sound_still link inside =
      let told = are.sound link inside in let below = slice_get_within own link.column told.0 told.1 in (
        told.0,
        at_left own (term ∷ []) link.column told.0 told.1,
        subst (λ them. IsSource texts (bound ++ them) told.0 link.source) (sym (front link.column (omega (arith, below))))
            (source_grows old texts (bound ++ take link.column own) told.0 link.source grown told.2),
      )

  -- a column before the new one is as it was, where links are only put at the end
  complete_still : (more : List Link) → ((link : Link) → Contains links link → Contains more link) → (column : ℕ) (other : Term)
      → slice_get own column ≡ Some other
      → IsNew (bound ++ take column (own ++ term ∷ [])) other ⊎ ((link : Link) × (link.column ≡ column) × Contains more link)
  complete_still more kept column other at =
      let below = slice_get_within own column other at in
      elim (are.complete column other at) [
        | inl new ↦ inl (subst (λ them. IsNew (bound ++ them) other) (sym (front column (omega (arith, below)))) new)
        | inr (link, here, among) ↦ inr (link, here, kept link among)
      ]

  filters_without : IsNew (bound ++ own) term → AreFilters texts bound (own ++ term ∷ []) links
  filters_without new = record {
    sound = sound_still;
    complete = λ column other at. elim (at_pushed own term column other at) [
      | inl before ↦ complete_still links (λ link inside. inside) column other before
      | inr (last, same) ↦ inl (subst (λ them. IsNew (bound ++ them) other) (sym (all_front column last)) (subst (IsNew (bound ++ own)) same new))
    ];
  }

  filters_with : (source : Source) → IsSource texts (bound ++ own) term source
      → AreFilters texts bound (own ++ term ∷ []) (links ++ record { column = length own; source = source } ∷ [])
  filters_with source is = record {
    sound = λ link inside. elim (Contains-push_cases links last link inside) [
      | inl before ↦ sound_still link before
      | inr same ↦ subst (λ (it : Link). IsLink texts (bound ++ take it.column (own ++ term ∷ [])) (own ++ term ∷ []) it) same (
        term,
        at_end own term,
        subst (λ them. IsSource texts (bound ++ them) term source) (sym (all_front (length own) refl)) is,
      )
    ];
    complete = λ column other at. elim (at_pushed own term column other at) [
      | inl before ↦ complete_still (links ++ last ∷ []) (λ link inside. Contains-append_left links (last ∷ []) link inside) column other before
      | inr (at_last, same) ↦ inr (last, sym at_last, Contains-push links last)
    ];
  }
    where
      last : Link
      last = record { column = length own; source = source }

pub filters_more : (old texts : List (List ℕ)) (bound own more : List Term) (term : Term) (column : ℕ) (links new : List Link) → Grows old texts
    → AreFilters old bound own links → column ≡ length own → more ≡ own ++ term ∷ [] → IsLinked texts (bound ++ own) term column links new
    → AreFilters texts bound more new
filters_more old texts bound own more term column links new grown are here more_is linked =
    subst (λ them. AreFilters texts bound them new) (sym more_is) (elim linked [
      | inl (is_new, same) ↦ subst (AreFilters texts bound (own ++ term ∷ [])) (sym same) (filters_without old texts bound own term links grown are is_new)
      | inr (source, is, pushed) ↦ subst (AreFilters texts bound (own ++ term ∷ []))
          (sym (pushed ∙ ap (λ place. links ++ record { column = place; source = source } ∷ []) here))
          (filters_with old texts bound own term links grown are source is)
    ])

-- the links filter rows for the terms before a place, which are bound
pub record AreFiltersBelow (start_texts texts : List (List ℕ)) (start terms : List Term) (count : ℕ) (bound : List Term) (links : List Link) : Type 0 where
  pub own : AreFilters texts start (take count terms) links
  pub after : bound ≡ start ++ take count terms
  pub grown : Grows start_texts texts

pub filters_below_more : (start_texts texts more : List (List ℕ)) (start terms : List Term) (count : ℕ) (bound new_bound : List Term) (links new : List Link)
    (term : Term) → AreFiltersBelow start_texts texts start terms count bound links → count < length terms → term ≡ get_or terms count term
    → Grows texts more → IsLinked more bound term count links new → new_bound ≡ bound ++ term ∷ []
    → AreFiltersBelow start_texts more start terms (count + 1) new_bound new
filters_below_more start_texts texts more start terms count bound new_bound links new term before below is grown linked bound_is =
    let taken : take (count + 1) terms ≡ take count terms ++ term ∷ [] = take-item terms count term below is in record {
      own = filters_more texts more start (take count terms) (take (count + 1) terms) term count links new grown before.own
          (sym (length-take-le count terms (omega (arith, below)))) taken (subst (λ them. IsLinked more them term count links new) before.after linked);
      after = bound_is ∙ ap (λ them. them ++ term ∷ []) before.after ∙ append_assoc start (take count terms) (term ∷ [])
          ∙ ap (λ them. start ++ them) (sym taken);
      grown = grows_on start_texts texts more before.grown grown;
    }

-- ---- atoms

pub gets_more : (texts : List (List ℕ)) (bound : List Term) (atoms : List (Fact Term)) (gets : List Get) (atom : Fact Term) (get : Get)
    → AreWholeGets texts bound atoms gets → IsWholeGet texts (bound ++ terms_of atoms) atom get
    → AreWholeGets texts bound (atoms ++ atom ∷ []) (gets ++ get ∷ [])
gets_more texts bound [] [] atom get are is = (subst (λ them. IsWholeGet texts them atom get) (append-nil bound) is, tt)
gets_more texts bound [] (own ∷ gets) atom get are is = absurd are
gets_more texts bound (first ∷ atoms) [] atom get are is = absurd are
gets_more texts bound (first ∷ atoms) (own ∷ gets) atom get are is = (
  are.0,
  gets_more texts (bound ++ first.terms) atoms gets atom get are.1
      (subst (λ them. IsWholeGet texts them atom get) (sym (append_assoc bound first.terms (terms_of atoms))) is),
)

-- the gets are those of the atoms before a place, whose terms are bound
pub record AreGetsBelow (start texts : List (List ℕ)) (atoms : List (Fact Term)) (count : ℕ) (bound : List Term) (gets : List Get) : Type 0 where
  pub own : AreWholeGets texts [] (take count atoms) gets
  pub terms : bound ≡ terms_of (take count atoms)
  pub grown : Grows start texts

pub below_start : (texts : List (List ℕ)) (atoms : List (Fact Term)) (bound : List Term) (gets : List Get) → bound ≡ [] → gets ≡ []
    → AreGetsBelow texts texts atoms 0 bound gets
below_start texts atoms bound gets no_terms none = record {
  own = subst (AreWholeGets texts [] []) (sym none) tt;
  terms = no_terms;
  grown = grows_refl texts;
}

pub below_more : (start texts more : List (List ℕ)) (atoms : List (Fact Term)) (count : ℕ) (bound new_bound : List Term) (gets new_gets : List Get)
    (atom : Fact Term) (get : Get) → AreGetsBelow start texts atoms count bound gets → count < length atoms → atom ≡ get_or atoms count atom
    → Grows texts more → IsWholeGet more bound atom get → new_bound ≡ bound ++ atom.terms → new_gets ≡ gets ++ get ∷ []
    → AreGetsBelow start more atoms (count + 1) new_bound new_gets
below_more start texts more atoms count bound new_bound gets new_gets atom get before below is grown is_get bound_is gets_is =
    let taken : take (count + 1) atoms ≡ take count atoms ++ atom ∷ [] = take-item atoms count atom below is in record {
      own = subst (λ them. AreWholeGets more [] them new_gets) (sym taken) (subst (AreWholeGets more [] (take count atoms ++ atom ∷ [])) (sym gets_is)
          (gets_more more [] (take count atoms) gets atom get (gets_grow texts more [] (take count atoms) gets grown before.own)
          (subst (λ them. IsWholeGet more them atom get) before.terms is_get)));
      terms = bound_is ∙ ap (λ them. them ++ atom.terms) before.terms ∙ sym (terms_of-push (take count atoms) atom) ∙ ap terms_of (sym taken);
      grown = grows_on start texts more before.grown grown;
    }

pub below_all : (start texts : List (List ℕ)) (atoms : List (Fact Term)) (count : ℕ) (bound : List Term) (gets : List Get)
    → AreGetsBelow start texts atoms count bound gets → length atoms ≤ count → AreWholeGets texts [] atoms gets × (bound ≡ terms_of atoms)
below_all start texts atoms count bound gets below past = (
  subst (λ them. AreWholeGets texts [] them gets) (take_all count atoms past) below.own,
  below.terms ∙ ap terms_of (take_all count atoms past),
)

-- ---- the head

pub known_not_new : (bound : List Term) (term : Term) → IsKnown bound term → IsNew bound term → ⊥
known_not_new bound term (inl constant) new = new.variable constant
known_not_new bound term (inr among) new = new.absent among

pub fixed_known : (atoms : List (Fact Term)) (term : Term) → IsFixedBy atoms term → IsKnown (terms_of atoms) term
fixed_known atoms term (inl constant) = inl constant
fixed_known atoms term (inr (atom, inside, there)) = inr (Contains-flat (λ (fact : Fact Term). fact.terms) atoms atom term inside there)

pub head_more : (old texts : List (List ℕ)) (bound head : List Term) (sources new : List Source) (count : ℕ) (term : Term) (source : Source) → Grows old texts
    → count < length head → term ≡ get_or head count term
    → AllZip (IsSource old bound) (take count head) sources → IsSource texts bound term source → new ≡ sources ++ source ∷ []
    → AllZip (IsSource texts bound) (take (count + 1) head) new
head_more old texts bound head sources new count term source grown below is all last more =
    subst (λ them. AllZip (IsSource texts bound) them new) (sym (take-item head count term below is))
    (subst (AllZip (IsSource texts bound) (take count head ++ term ∷ [])) (sym more)
    (all_zipped_more (IsSource texts bound) (take count head) sources term source (head_grows old texts bound (take count head) sources grown all) last))

-- ---- the steps

pub whole_steps : (old texts : List (List ℕ)) (query : ConjunctiveQuery) (bound : List Term) (gets : List Get) (sources : List Source)
    → Grows old texts → AreWholeGets old [] query.body gets → bound ≡ terms_of query.body → AllZip (IsSource texts bound) query.head sources
    → AreWholeSteps texts query (record { gets = gets; head = sources })
whole_steps old texts query bound gets sources grown are is all = record {
  gets = gets_grow old texts [] query.body gets grown are;
  head = subst (λ them. AllZip (IsSource texts them) query.head sources) is all;
}

is_get : (texts : List (List ℕ)) (bound : List Term) (atom : Fact Term) (get : Get) → IsWholeGet texts bound atom get → IsGetOf texts ([] ∷ []) bound atom get
is_get texts bound atom get is = record {
  fragment = is.fragment;
  columns = (
    [],
    (0, refl, (λ column term input at. absurd (none-some true input)), λ lesser other below at. absurd (omega (arith, below))),
    ap (map (λ (link : Link). link.column)) is.inputs,
  );
  inputs = λ link inside. absurd (Contains-nil link (subst (λ them. Contains them link) is.inputs inside));
  filters = (is.filters).sound;
  complete = λ column term at. elim ((is.filters).complete column term at) [
    | inl new ↦ inl new
    | inr (link, here, among) ↦ inr (link, here, inr among)
  ];
}

-- where each relation has the one pattern of no inputs, the steps are those of the query over fragments
module _ (texts : List (List ℕ)) (patterns : List (List (List Bool))) (head : List Term) (sources : List Source) where
  steps_after : (bound : List Term) (atoms : List (Fact Term)) (gets : List Get)
      → ((atom : Fact Term) → Contains atoms atom → get_or patterns atom.relation [] ≡ [] ∷ []) → AreWholeGets texts bound atoms gets
      → AllZip (IsSource texts (bound ++ terms_of atoms)) head sources → AreStepsAfter texts patterns head sources bound atoms gets
  steps_after bound [] [] own are all = subst (λ them. AllZip (IsSource texts them) head sources) (append-nil bound) all
  steps_after bound [] (get ∷ gets) own are all = absurd are
  steps_after bound (atom ∷ atoms) [] own are all = absurd are
  steps_after bound (atom ∷ atoms) (get ∷ gets) own are all = (
    subst (λ them. IsGetOf texts them bound atom get) (sym (own atom (Contains-head atom atoms))) (is_get texts bound atom get are.0),
    steps_after (bound ++ atom.terms) atoms gets (λ other inside. own other (Contains-rest atom atoms other inside)) are.1
        (subst (λ them. AllZip (IsSource texts them) head sources) (sym (append_assoc bound atom.terms (terms_of atoms))) all),
  )

pub steps_of_query : (texts : List (List ℕ)) (patterns : List (List (List Bool))) (query : ConjunctiveQuery) (steps : Steps)
    → ((atom : Fact Term) → Contains query.body atom → get_or patterns atom.relation [] ≡ [] ∷ []) → AreWholeSteps texts query steps
    → AreStepsOf texts patterns query steps
steps_of_query texts patterns query steps own are = steps_after texts patterns query.head steps.head [] query.body steps.gets own are.gets are.head

-- the head's constants are among the texts
pub head_interned : (texts : List (List ℕ)) (bound head : List Term) (sources : List Source) → AllZip (IsSource texts bound) head sources → (text : List ℕ)
    → Contains head (Const text) → Contains texts text
head_interned texts bound head sources all text inside =
    let found = zip_left (IsSource texts bound) head sources all (Const text) inside in
    elim found.2 [
      | inl (own, code, is, at, _) ↦ subst (Contains texts) (sym (Const-same text own is)) (Contains-at texts code own at)
      | inr (_, _, _, variable) ↦ absurd (variable (text, refl))
    ]

-- ---- the gets can be run

get_named : (texts : List (List ℕ)) (bound : List Term) (atoms : List (Fact Term)) (gets : List Get) → AreWholeGets texts bound atoms gets → (get : Get)
    → Contains gets get → (atom : Fact Term) × Contains atoms atom × (get.fragment ≡ atom.relation) × (get.inputs ≡ [])
get_named texts bound atoms [] are get inside = absurd (Contains-nil get inside)
get_named texts bound [] (first ∷ gets) are get inside = absurd are
get_named texts bound (atom ∷ atoms) (first ∷ gets) are get inside = elim (Contains-cases first gets get inside) [
  | inl same ↦ (
    atom,
    Contains-head atom atoms,
    ap (λ (it : Get). it.fragment) (sym same) ∙ (are.0).fragment,
    ap (λ (it : Get). it.inputs) (sym same) ∙ (are.0).inputs,
  )
  | inr later ↦ let found = get_named texts (bound ++ atom.terms) atoms gets are.1 get later in
      (found.0, Contains-rest atom atoms found.0 found.1, found.2, found.3)
]

-- what a fragment of the relation's rows is to the executor
abbrev pub shape_of : StoredRows → Shape
shape_of relation = record { arity = relation.rows.arity; ways = relation.ways }

allowed : (shape : Shape) (links : List Link) → shape.ways ≡ [] ∷ [] → links ≡ [] → IsAllowed shape (map (λ (link : Link). link.column) links)
allowed shape links whole none = subst (λ (them : List Link). IsAllowed shape (map (λ (link : Link). link.column) them)) (sym none) (record {
  there = λ column inside. absurd (Contains-nil column inside);
  once = λ one other default before inside. absurd (omega (arith, inside));
  way = ([], subst (λ them. Contains them []) (sym whole) (Contains-head [] []), λ column. ((λ inside. inside), λ inside. inside));
})

pub take_whole : (texts : List (List ℕ)) (query : ConjunctiveQuery) (steps : Steps) (relations : List StoredRows) → AreWhole relations
    → ((atom : Fact Term) → Contains query.body atom → IsOver relations atom) → AreWholeSteps texts query steps → TakeWhole relations steps.gets
take_whole texts query steps relations whole over are get inside =
    let named = get_named texts [] query.body steps.gets are.gets get inside in
    let relation = over named.0 named.1 in
    let there : slice_get relations get.fragment ≡ Some relation.0 = ap (slice_get relations) named.2 ∙ relation.1 in
    (named.3, (relation.0, there, whole relation.0 (Contains-at relations get.fragment relation.0 there)))

pub takes_run : (relations : List StoredRows) (gets : List Get) → TakeWhole relations gets → AreRunnable (map shape_of relations) gets
takes_run relations gets take get inside =
    let own = take get inside in
    let relation = own.1.0 in
    (shape_of relation, map_at shape_of relations get.fragment relation own.1.1, allowed (shape_of relation) get.inputs own.1.2 own.0)

-- ---- one get that filters nothing

pub no_items : {X : Type 0} (items : List X) → length items ≡ 0 → items ≡ []
no_items [] none = refl
no_items (first ∷ rest) none = absurd (omega (arith, none))

pub one_item : {X : Type 0} (items : List X) (item : X) → length items ≡ 1 → slice_get items 0 ≡ Some item → items ≡ item ∷ []
one_item [] item one at = absurd (none-some item at)
one_item (first ∷ rest) item one at =
    let is : first ≡ item = same_Some first item at in let none : rest ≡ [] = no_items rest (omega (arith, one)) in λ i. is i ∷ none i

-- the one get is what is read at its place
pub read_get : (gets : List Get) (first : Get) → ((get : Get) × (gets ≡ get ∷ []) × (get.filters ≡ [])) → slice_get gets 0 ≡ Some first
    → (gets ≡ first ∷ []) × (first.filters ≡ [])
read_get gets first (get, is, filters) at =
    let same : get ≡ first = same_Some get first (sym (ap (λ them. slice_get them 0) is) ∙ at) in
    (is ∙ ap (λ it. it ∷ []) same, subst (λ (it : Get). it.filters ≡ []) same filters)

module _ (relations : List StoredRows) (steps : Steps) (get : Get) (relation : StoredRows) (is : steps.gets ≡ get ∷ []) (inputs : get.inputs ≡ [])
    (filters : get.filters ≡ []) (there : slice_get relations get.fragment ≡ Some relation) where
  abbrev Holds : Fact ℕ → Type 0
  Holds = IsRowOf (held_by (map (λ (stored : StoredRows). stored.rows.rows) relations))

  rows_here : held_by (map (λ (stored : StoredRows). stored.rows.rows) relations) get.fragment ≡ relation.rows.rows
  rows_here = get_or_from_slice_get (map (λ (stored : StoredRows). stored.rows.rows) relations) get.fragment relation.rows.rows []
      (map_at (λ (stored : StoredRows). stored.rows.rows) relations get.fragment relation there)

  follows : (row : List ℕ) → Follows get [] row
  follows row = record {
    inputs = λ link inside. absurd (Contains-nil link (subst (λ them. Contains them link) inputs inside));
    filters = λ link inside. absurd (Contains-nil link (subst (λ them. Contains them link) filters inside));
  }

  -- the results are what the head names in the rows of the relation
  pub plain_results : (row : List ℕ) → ((end : List ℕ) × Contains relation.rows.rows end × NamesCodes end steps.head row) ↔ IsResult Holds steps row
  plain_results row = (
    λ (end, inside, named). (
      end,
      subst (λ them. Leads Holds them [] end) (sym is) (end, subst (λ them. Contains them end) (sym rows_here) inside, follows end, refl),
      named,
    ),
    λ (end, leads, named). let first = subst (λ them. Leads Holds them [] end) is leads in (
      end,
      subst (Contains relation.rows.rows) first.3 (subst (λ them. Contains them first.0) rows_here first.1),
      named,
    ),
  )
