-- Planning, term by term, column by column and atom by atom.
use Rattle.std.proofs.Common.{◌≡◌, ◌⊎◌, inl, inr, ℕ, suc, ◌+◌, ◌<◌, ◌≤◌, Bool, true, false, cond, List, [], ◌∷◌, ◌++◌, map, length, get_or, take, drop, Some}
use Rattle.std.proofs.Common.{slice_get, Contains, option_to_list, refl, sym, ap, ◌∙◌, subst, arith}
use Rattle.std.specs.List.{AllZip}
use Rattle.std.proofs.lemmas.Bool.{cases_lt}
use Rattle.std.proofs.lemmas.List.{append_assoc, append-nil, length-take, take_all, drop_more, drop_all, map_push, get_or_past}
use Rattle.std.proofs.lemmas.List.Elements.{Contains-append_left, Contains-append_right, Contains-push, Contains-push_cases}
use Rattle.std.proofs.lemmas.Option.{same_Some, slice_get_within}
use Rattle.std.proofs.lemmas.Slice.Zip.{all_zipped_more}
use Rattle.esto_term.specs.declared.term.Term.{Term}
use Rattle.esto_term.specs.declared.term.Term.TheVariants.{Const}
use Rattle.esto_semantics.specs.Maps.{IsFixedBy}
use Rattle.esto_semantics.specs.declared.fact.Fact.{Fact}
use Rattle.esto_term.proofs.ListLemmas.{Contains-nil, Contains-cases, at_left, at_right}
use Rattle.esto_term.proofs.PlaceLemmas.{take-item, take-there, earlier_or_last}
use Rattle.esto_steps.specs.declared.steps.Get.{Get}
use Rattle.esto_steps.specs.declared.steps.Link.{Link}
use Rattle.esto_steps.specs.declared.steps.Source.{Source}
use Rattle.esto_steps.specs.declared.steps.Source.TheVariants.{Cell}
use Rattle.esto_steps.specs.Planned.{IsSource, IsLink, IsNew, IsKnown, CanMeet, IsFirstMet, IsGetOf, AreStepsAfter, CanPlan, atoms_of, inputs_from, inputs_of}
use Rattle.esto_plan.specs.Planning.{IsLinkMade, IsGetBelow}
use Rattle.esto_columns.specs.Interned.{Grows}
use Rattle.esto_columns.proofs.CodingLemmas.{grows_on}
use Rattle.esto_steps.proofs.GrowthLemmas.{grows_refl, link_grows, get_grows, head_grows}

-- ---- growing texts

pub below_start : (texts : List (List ℕ)) (pattern : List Bool) (bound terms : List Term) (get : Get) → get.inputs ≡ [] → get.filters ≡ []
    → IsGetBelow texts pattern bound terms 0 get
below_start texts pattern bound terms get inputs filters = record {
  columns = ap (map (λ (link : Link). link.column)) inputs;
  inputs = λ link inside. absurd (Contains-nil link (subst (λ them. Contains them link) inputs inside));
  filters = λ link inside. absurd (Contains-nil link (subst (λ them. Contains them link) filters inside));
  complete = λ column term below. absurd (omega (arith, below));
}

pub below_grows : (old new : List (List ℕ)) (pattern : List Bool) (bound terms : List Term) (count : ℕ) (get : Get) → Grows old new
    → IsGetBelow old pattern bound terms count get → IsGetBelow new pattern bound terms count get
below_grows old new pattern bound terms count get grown below = record {
  columns = below.columns;
  inputs = λ link inside. link_grows old new bound terms link grown (below.inputs link inside);
  filters = λ link inside. link_grows old new (bound ++ take link.column terms) terms link grown (below.filters link inside);
  complete = below.complete;
}

-- ---- sources

pub bound_place : (texts : List (List ℕ)) (bound own : List Term) (term : Term) (place : ℕ) → ((text : List ℕ) → term ≡ Const text → ⊥)
    → slice_get bound place ≡ Some term → IsSource texts (bound ++ own) term (Cell place)
bound_place texts bound own term place variable at = inr (place, at_left bound own place term at, refl, λ constant. variable constant.0 constant.1)

pub own_place : (texts : List (List ℕ)) (bound own : List Term) (term : Term) (place sum : ℕ) → ((text : List ℕ) → term ≡ Const text → ⊥)
    → slice_get own place ≡ Some term → length bound + place ≡ sum → IsSource texts (bound ++ own) term (Cell sum)
own_place texts bound own term place sum variable at is =
    inr (length bound + place, at_right bound own place term at, ap Cell (sym is), λ constant. variable constant.0 constant.1)

-- ---- inputs

inputs-append : (from : ℕ) (xs ys : List Bool) → inputs_from from (xs ++ ys) ≡ inputs_from from xs ++ inputs_from (from + length xs) ys
inputs-append from [] ys = ap (λ at. inputs_from at ys) (let none : from ≡ from + 0 = omega arith in none)
inputs-append from (x ∷ xs) ys =
    by x (inputs-append (from + 1) xs ys
    ∙ ap (λ at. inputs_from (from + 1) xs ++ inputs_from at ys) (let next : from + 1 + length xs ≡ from + suc (length xs) = omega arith in next))
  where
    by : (input : Bool) → inputs_from (from + 1) (xs ++ ys) ≡ inputs_from (from + 1) xs ++ inputs_from (from + suc (length xs)) ys
        → cond input (from ∷ inputs_from (from + 1) (xs ++ ys)) (inputs_from (from + 1) (xs ++ ys)) ≡ cond input (from ∷ inputs_from (from + 1) xs)
        (inputs_from (from + 1) xs) ++ inputs_from (from + suc (length xs)) ys
    by true rest = ap (λ them. from ∷ them) rest
    by false rest = rest

pub inputs_more : (pattern : List Bool) (count : ℕ) (input : Bool) → slice_get pattern count ≡ Some input
    → inputs_of (take (count + 1) pattern) ≡ inputs_of (take count pattern) ++ cond input (count ∷ []) []
inputs_more pattern count input at =
    let below = slice_get_within pattern count input at in let short = length-take count pattern in
    let place : 0 + length (take count pattern) ≡ count = omega (arith, short, below) in
    ap inputs_of (take-there pattern count input at)
    ∙ inputs-append 0 (take count pattern) (input ∷ []) ∙ ap (λ n. inputs_of (take count pattern) ++ cond input (n ∷ []) []) place

-- ---- columns

module _ (old texts : List (List ℕ)) (pattern : List Bool) (bound terms : List Term) (count : ℕ) (get : Get) (links : List Link) (grown : Grows old texts)
    (below : IsGetBelow old pattern bound terms count get) where
  kept_below : IsGetBelow texts pattern bound terms count get
  kept_below = below_grows old texts pattern bound terms count get grown below

  pub add_input : slice_get pattern count ≡ Some true → CanMeet bound terms pattern → IsLinkMade texts (bound ++ take 0 terms) terms count get.inputs links
      → IsGetBelow texts pattern bound terms (count + 1) (record { fragment = get.fragment; inputs = links; filters = get.filters })
  add_input input can (term, at, made) = elim made [
    | inl new ↦ absurd (not_new (can count term input at) new.0)
    | inr added ↦ with_link added.0 added.1 added.2 added.3
  ]
    where
      no_more : bound ++ take 0 terms ≡ bound
      no_more = append-nil bound

      not_new : IsKnown bound term → IsNew (bound ++ take 0 terms) term → ⊥
      not_new (inl constant) new = new.variable constant
      not_new (inr among) new = new.absent (Contains-append_left bound (take 0 terms) term among)

      with_link : (link : Link) → link.column ≡ count → IsSource texts (bound ++ take 0 terms) term link.source → links ≡ get.inputs ++ link ∷ []
          → IsGetBelow texts pattern bound terms (count + 1) (record { fragment = get.fragment; inputs = links; filters = get.filters })
      with_link link here source is = record {
        columns = ap (map (λ it. it.column)) is ∙ map_push (λ (it : Link). it.column) get.inputs link ∙ (λ i. kept_below.columns i ++ here i ∷ [])
            ∙ sym (inputs_more pattern count true input);
        inputs = λ it inside. elim (Contains-push_cases get.inputs link it (subst (λ them. Contains them it) is inside)) [
          | inl before ↦ kept_below.inputs it before
          | inr same ↦ subst (IsLink texts bound terms) same
              (term, ap (slice_get terms) here ∙ at, subst (λ them. IsSource texts them term link.source) no_more source)
        ];
        filters = kept_below.filters;
        complete = λ column other inside at_column. elim (earlier_or_last column count inside) [
          | inl before ↦ elim (kept_below.complete column other before at_column) [
            | inl new ↦ inl new
            | inr (found, at_found, among) ↦
                inr (
                  found,
                  at_found,
                  elim among [
                    | inl in_inputs ↦ inl (subst (λ them. Contains them found) (sym is) (Contains-append_left get.inputs (link ∷ []) found in_inputs))
                    | inr
                        in_filters ↦ inr in_filters
                  ],
                )
          ]
          | inr last ↦ inr (link, here ∙ sym last, inl (subst (λ them. Contains them link) (sym is) (Contains-push get.inputs link)))
        ];
      }

  pub add_filter : slice_get pattern count ≡ Some false → IsLinkMade texts (bound ++ take count terms) terms count get.filters links
      → IsGetBelow texts pattern bound terms (count + 1) (record { fragment = get.fragment; inputs = get.inputs; filters = links })
  add_filter input (term, at, made) = elim made [
    | inl new ↦ subst (λ them. IsGetBelow texts pattern bound terms (count + 1) (record { fragment = get.fragment; inputs = get.inputs; filters = them }))
        (sym new.1) (without new.0)
    | inr added ↦ with_link added.0 added.1 added.2 added.3
  ]
    where
      columns : map (λ (it : Link). it.column) get.inputs ≡ inputs_of (take (count + 1) pattern)
      columns = kept_below.columns ∙ sym (append-nil (inputs_of (take count pattern))) ∙ sym (inputs_more pattern count false input)

      without : IsNew (bound ++ take count terms) term
          → IsGetBelow texts pattern bound terms (count + 1) (record { fragment = get.fragment; inputs = get.inputs; filters = get.filters })
      without new = record {
        columns = columns;
        inputs = kept_below.inputs;
        filters = kept_below.filters;
        complete = λ column other inside at_column. elim (earlier_or_last column count inside) [
          | inl before ↦ kept_below.complete column other before at_column
          | inr last ↦ inl (subst (λ n. IsNew (bound ++ take n terms) other) (sym last)
              (subst (IsNew (bound ++ take count terms)) (same_Some term other (sym at ∙ ap (slice_get terms) (sym last) ∙ at_column)) new))
        ];
      }

      with_link : (link : Link) → link.column ≡ count → IsSource texts (bound ++ take count terms) term link.source → links ≡ get.filters ++ link ∷ []
          → IsGetBelow texts pattern bound terms (count + 1) (record { fragment = get.fragment; inputs = get.inputs; filters = links })
      with_link link here source is = record {
        columns = columns;
        inputs = kept_below.inputs;
        filters = λ it inside. elim (Contains-push_cases get.filters link it (subst (λ them. Contains them it) is inside)) [
          | inl before ↦ kept_below.filters it before
          | inr same ↦ subst (λ (them : Link). IsLink texts (bound ++ take them.column terms) terms them) same
              (term, ap (slice_get terms) here ∙ at, subst (λ n. IsSource texts (bound ++ take n terms) term link.source) (sym here) source)
        ];
        complete = λ column other inside at_column. elim (earlier_or_last column count inside) [
          | inl before ↦ elim (kept_below.complete column other before at_column) [
            | inl new ↦ inl new
            | inr (found, at_found, among) ↦
                inr (
                  found,
                  at_found,
                  elim among [
                    | inl in_inputs ↦ inl in_inputs
                    | inr in_filters ↦
                        inr (subst (λ them. Contains them found) (sym is) (Contains-append_left get.filters (link ∷ []) found in_filters))
                  ],
                )
          ]
          | inr last ↦ inr (link, here ∙ sym last, inr (subst (λ them. Contains them link) (sym is) (Contains-push get.filters link)))
        ];
      }

pub whole_get : (texts : List (List ℕ)) (patterns : List (List Bool)) (bound : List Term) (atom : Fact Term) (pattern given : List Bool) (count : ℕ) (get : Get)
    → IsFirstMet patterns bound atom.terms pattern → given ≡ pattern → length given ≡ length atom.terms
    → length atom.terms ≤ count → get.fragment ≡ atom.relation → IsGetBelow texts given bound atom.terms count get → IsGetOf texts patterns bound atom get
whole_get texts patterns bound atom pattern given count get first same long past fragment below = record {
  fragment = fragment;
  columns = (pattern, first, below.columns ∙ ap inputs_of (take_all count given (omega (arith, long, past)) ∙ same));
  inputs = below.inputs;
  filters = below.filters;
  complete = λ column term at. below.complete column term (let inside = slice_get_within atom.terms column term at in omega (arith, inside, past)) at;
}

-- ---- the head

pub known_not_new : (bound : List Term) (term : Term) → IsKnown bound term → IsNew (bound ++ []) term → ⊥
known_not_new bound term (inl constant) new = new.variable constant
known_not_new bound term (inr among) new = new.absent (Contains-append_left bound [] term among)

pub head_more : (old texts : List (List ℕ)) (bound items : List Term) (sources new : List Source) (count : ℕ) (term : Term) (source : Source) → Grows old texts
    → count < length items → term ≡ get_or items count term
    → AllZip (IsSource old bound) (take count items) sources → IsSource texts (bound ++ []) term source → new ≡ sources ++ source ∷ []
    → AllZip (IsSource texts bound) (take (count + 1) items) new
head_more old texts bound items sources new count term source grown below is all last more =
    subst (λ them. AllZip (IsSource texts bound) them new) (sym (take-item items count term below is))
    (subst (AllZip (IsSource texts bound) (take count items ++ term ∷ [])) (sym more)
    (all_zipped_more (IsSource texts bound) (take count items) sources term source (head_grows old texts bound (take count items) sources grown all)
    (subst (λ them. IsSource texts them term source) (append-nil bound) last)))

-- ---- atoms

pub record IsPlannedBelow (patterns : List (List (List Bool))) (atoms : List (Fact Term)) (order : List ℕ) (count : ℕ) (start texts : List (List ℕ))
    (bound : List Term) (gets : List Get) : Type 0 where
  pub grown : Grows start texts
  pub can : CanPlan patterns bound (atoms_of atoms (drop count order))
  pub completes : (later : List (List ℕ)) (head : List Term) (sources : List Source) (rest : List Get) → Grows texts later
      → AreStepsAfter later patterns head sources bound (atoms_of atoms (drop count order)) rest
      → AreStepsAfter later patterns head sources [] (atoms_of atoms order) (gets ++ rest)
  pub known : (term : Term) → IsFixedBy (atoms_of atoms order) term → IsKnown bound term ⊎ IsFixedBy (atoms_of atoms (drop count order)) term

pub planned_start : (patterns : List (List (List Bool))) (atoms : List (Fact Term)) (order : List ℕ) (texts : List (List ℕ))
    → CanPlan patterns [] (atoms_of atoms order) → IsPlannedBelow patterns atoms order 0 texts texts [] []
planned_start patterns atoms order texts can = record {
  grown = grows_refl texts;
  can = can;
  completes = λ later head sources rest grown are. are;
  known = λ term fixed. inr fixed;
}

module _ (patterns : List (List (List Bool))) (atoms : List (Fact Term)) (order : List ℕ) (count : ℕ) (start texts : List (List ℕ)) (bound : List Term)
    (gets : List Get) (before : IsPlannedBelow patterns atoms order count start texts bound gets) where
  module _ (number : ℕ) (atom : Fact Term) (below : count < length order) (is : number ≡ get_or order count 0) (at : slice_get atoms number ≡ Some atom) where
    split : atoms_of atoms (drop count order) ≡ atom ∷ atoms_of atoms (drop (count + 1) order)
    split = ap (atoms_of atoms) (drop_more order count 0 below ∙ ap (λ it. it ∷ drop (count + 1) order) (sym is))
        ∙ ap (λ it. option_to_list it ++ atoms_of atoms (drop (count + 1) order)) at

    pub can_here : CanPlan patterns bound (atom ∷ atoms_of atoms (drop (count + 1) order))
    can_here = subst (CanPlan patterns bound) split before.can

    pub fragment_there : atom.relation < length patterns
    fragment_there = elim (cases_lt atom.relation (length patterns)) [
      | inl inside ↦ inside
      | inr past ↦ absurd (Contains-nil can_here.0.0 (subst (λ them. Contains them can_here.0.0) (get_or_past patterns atom.relation [] past) can_here.0.1))
    ]

    pub planned_more : (more : List (List ℕ)) (get : Get) (new_bound : List Term) (new_gets : List Get) → Grows texts more
        → IsGetOf more (get_or patterns atom.relation []) bound atom get → new_bound ≡ bound ++ atom.terms → new_gets ≡ gets ++ get ∷ []
        → IsPlannedBelow patterns atoms order (count + 1) start more new_bound new_gets
    planned_more more get new_bound new_gets grown is_get bound_is gets_is = record {
      grown = grows_on start texts more before.grown grown;
      can = subst (λ them. CanPlan patterns them (atoms_of atoms (drop (count + 1) order))) (sym bound_is) can_here.2;
      completes = λ later head sources rest on are.
          subst (AreStepsAfter later patterns head sources [] (atoms_of atoms order))
          (sym (ap (λ them. them ++ rest) gets_is ∙ append_assoc gets (get ∷ []) rest))
          (before.completes later head sources (get ∷ rest) (grows_on texts more later grown on)
          (subst (λ them. AreStepsAfter later patterns head sources bound them (get ∷ rest)) (sym split) (
            get_grows more later (get_or patterns atom.relation []) bound atom get on is_get,
            subst (λ them. AreStepsAfter later patterns head sources them (atoms_of atoms (drop (count + 1) order)) rest) bound_is are,
          )));
      known = λ term fixed. elim (before.known term fixed) [
        | inl known ↦ inl (more_known term known)
        | inr left ↦ elim left [
          | inl constant ↦ inl (inl constant)
          | inr (other, among, in_other) ↦
              elim (Contains-cases atom (atoms_of atoms (drop (count + 1) order)) other (subst (λ them. Contains them other) split among)) [
                | inl same ↦ inl (inr (subst (λ them. Contains them term) (sym bound_is)
                    (Contains-append_right bound atom.terms term (subst (λ (it : Fact Term). Contains it.terms term) (sym same) in_other))))
                | inr rest ↦ inr (inr (other, rest, in_other))
              ]
        ]
      ];
    }
      where
        more_known : (term : Term) → IsKnown bound term → IsKnown new_bound term
        more_known term (inl constant) = inl constant
        more_known term (inr among) = inr (subst (λ them. Contains them term) (sym bound_is) (Contains-append_left bound atom.terms term among))

  module _ (past : length order ≤ count) where
    none_left : atoms_of atoms (drop count order) ≡ []
    none_left = ap (atoms_of atoms) (drop_all count order past)

    pub head_known : (term : Term) → IsFixedBy (atoms_of atoms order) term → IsKnown bound term
    head_known term fixed = elim (before.known term fixed) [
      | inl known ↦ known
      | inr left ↦ elim left [
        | inl constant ↦ inl constant
        | inr (other, among, _) ↦ absurd (Contains-nil other (subst (λ them. Contains them other) none_left among))
      ]
    ]

    pub planned_all : (later : List (List ℕ)) (head : List Term) (sources : List Source) → Grows texts later → AllZip (IsSource later bound) head sources
        → AreStepsAfter later patterns head sources [] (atoms_of atoms order) gets
    planned_all later head sources grown all = subst (AreStepsAfter later patterns head sources [] (atoms_of atoms order)) (append-nil gets)
        (before.completes later head sources [] grown (subst (λ them. AreStepsAfter later patterns head sources bound them []) (sym none_left) all))
