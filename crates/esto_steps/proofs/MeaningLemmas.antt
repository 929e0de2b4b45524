-- The results of the steps of a query are its answers.
use Rattle.std.proofs.Common.{◌<◌, ◌≡◌, ◌⊎◌, ◌↔◌, inl, inr, ℕ, suc, Bool, true, false, cond, List, [], ◌∷◌, ◌++◌, map, length, take, drop, Some, slice_get}
use Rattle.std.proofs.Common.{Contains, refl, sym, ap, ◌∙◌, subst, arith}
use Rattle.std.specs.List.{AllZip}
use Rattle.std.proofs.lemmas.List.{map-append, append_assoc, append-nil, take-append-drop}
use Rattle.std.proofs.lemmas.List.Elements.{Contains-append_cases, Contains-append_left, Contains-append_right, Contains-push}
use Rattle.std.proofs.lemmas.Option.{slice_get_within, same_Some}
use Rattle.esto_term.specs.declared.term.Term.{Term}
use Rattle.esto_term.specs.declared.term.Term.TheVariants.{Const}
use Rattle.esto_semantics.specs.Facts.{Mentions, image}
use Rattle.esto_semantics.specs.Maps.{Keeps, SendsInto}
use Rattle.esto_semantics.specs.Queries.{ConjunctiveQuery, IsAnswerInto}
use Rattle.esto_semantics.specs.declared.fact.Fact.{Fact}
use Rattle.esto_term.proofs.ListLemmas.{Contains-at, Contains-nil, Contains-head, Contains-rest, Contains-cases, map_agree, map_one}
use Rattle.esto_term.proofs.ListLemmas.{place-from_Contains, map_at, at_left}
use Rattle.esto_semantics.proofs.TermLemmas.{Const-same, same_term-Decides, mended, mended-Keeps}
use Rattle.esto_term.specs.Order.{same_term}
use Rattle.esto_steps.specs.declared.steps.Get.{Get}
use Rattle.esto_steps.specs.declared.steps.Link.{Link}
use Rattle.esto_steps.specs.declared.steps.Source.{Source}
use Rattle.esto_steps.specs.declared.steps.Source.TheVariants.{Code, Cell}
use Rattle.esto_steps.specs.declared.steps.Steps.{Steps}
use Rattle.esto_steps.specs.Meaning.{code_at, IsMet, Follows, Leads, IsResult}
use Rattle.esto_steps.specs.Rows.{IsRowOf}
use Rattle.esto_steps.specs.Texts.{AreInterned, HoldSame, IsNumbering}
use Rattle.esto_steps.specs.Planned.{IsSource, IsLink, IsNew, IsGetOf, AreStepsAfter, AreStepsOf, Fits}

-- ---- lists

-- terms bound so far and those before a column are among those bound so far and all
pub front : {A : Type 0} (bound terms : List A) (column : ℕ) → (bound ++ take column terms) ++ drop column terms ≡ bound ++ terms
front bound terms column = append_assoc bound (take column terms) (drop column terms) ∙ ap (λ it. bound ++ it) (take-append-drop column terms)

-- ---- sources

pub more_bound : (texts : List (List ℕ)) (bound more : List Term) (term : Term) (source : Source) → IsSource texts bound term source
    → IsSource texts (bound ++ more) term source
more_bound texts bound more term source told = elim told [
  | inl constant ↦ inl constant
  | inr found ↦ inr (found.0, at_left bound more found.0 term found.1, found.2, found.3)
]

module _ (texts : List (List ℕ)) (code : List ℕ → ℕ) (numbering : IsNumbering texts code) where
  module _ (m : Term → ℕ) (keeps : Keeps code m) where
    -- where the cells are the images of the bound terms, a source of a term names its image
    pub source_names : (bound : List Term) (term : Term) (source : Source) → IsSource texts bound term source → code_at (map m bound) source ≡ Some (m term)
    source_names bound term source told = elim told [
      | inl constant ↦ ap (code_at (map m bound)) constant.4
          ∙ ap Some (sym (numbering constant.1 constant.0 constant.3) ∙ sym (keeps constant.0) ∙ sym (ap m constant.2))
      | inr found ↦ ap (code_at (map m bound)) found.2 ∙ map_at m bound found.0 term found.1
    ]

    pub sources_name : (bound head : List Term) (sources : List Source) → AllZip (IsSource texts bound) head sources
        → map (code_at (map m bound)) sources ≡ map Some (map m head)
    sources_name bound [] [] told = refl
    sources_name bound [] (source ∷ sources) told = absurd told
    sources_name bound (term ∷ head) [] told = absurd told
    sources_name bound (term ∷ head) (source ∷ sources) told =
        let first = source_names bound term source told.0 in let rest = sources_name bound head sources told.1 in λ i. first i ∷ rest i

  module _ (patterns : List (List (List Bool))) (head : List Term) (sources : List Source) (Holds : Fact ℕ → Type 0) where
    -- ---- answers are results

    module _ (m : Term → ℕ) (keeps : Keeps code m) where
      link_met : (bound more terms : List Term) (link : Link) → IsLink texts bound terms link → IsMet (map m (bound ++ more)) (map m terms) link
      link_met bound more terms link told = (
        m told.0,
        map_at m terms link.column told.0 told.1,
        source_names m keeps (bound ++ more) told.0 link.source (more_bound texts bound more told.0 link.source told.2),
      )

      follows : (own : List (List Bool)) (bound : List Term) (atom : Fact Term) (get : Get) → IsGetOf texts own bound atom get
          → Follows get (map m bound) (map m atom.terms)
      follows own bound atom get is = record {
        inputs = λ link inside. subst (λ cells. IsMet cells (map m atom.terms) link) (ap (map m) (append-nil bound))
            (link_met bound [] atom.terms link (is.inputs link inside));
        filters = λ link inside. subst (λ cells. IsMet cells (map m atom.terms) link)
            (ap (map m) (front bound atom.terms link.column) ∙ map-append m bound atom.terms)
            (link_met (bound ++ take link.column atom.terms) (drop link.column atom.terms) atom.terms link (is.filters link inside));
      }

      pub answers_lead : (bound : List Term) (atoms : List (Fact Term)) (gets : List Get) → AreStepsAfter texts patterns head sources bound atoms gets
          → SendsInto m atoms Holds
          → (end : List ℕ) × Leads Holds gets (map m bound) end × (map (code_at end) sources ≡ map Some (map m head))
      answers_lead bound [] [] are sends = (map m bound, refl, sources_name m keeps bound head sources are)
      answers_lead bound [] (get ∷ gets) are sends = absurd are
      answers_lead bound (atom ∷ atoms) [] are sends = absurd are
      answers_lead bound (atom ∷ atoms) (get ∷ gets) are sends =
          let later = answers_lead (bound ++ atom.terms) atoms gets are.1 (λ fact inside. sends fact (Contains-rest atom atoms fact inside)) in (
            later.0,
            (
              map m atom.terms,
              subst (λ (number : ℕ). Holds (record { relation = number; terms = map m atom.terms })) (sym (are.0).fragment)
                  (sends atom (Contains-head atom atoms)),
              follows _ bound atom get are.0,
              subst (λ cells. Leads Holds gets cells later.0) (map-append m bound atom.terms) later.1,
            ),
            later.2,
          )

    -- ---- results are answers

    -- the map, but for one term
    abbrev put : (Term → ℕ) → Term → ℕ → Term → ℕ
    put m term value other = cond (same_term other term) value (m other)

    put_here : (m : Term → ℕ) (term : Term) (value : ℕ) → put m term value term ≡ value
    put_here m term value = ap (λ it. cond it value (m term)) ((same_term-Decides term term).1 refl)

    put_other : (m : Term → ℕ) (term : Term) (value : ℕ) (other : Term) → (other ≡ term → ⊥) → put m term value other ≡ m other
    put_other m term value other apart = by (same_term other term) refl
      where
        by : (answer : Bool) → same_term other term ≡ answer → cond answer value (m other) ≡ m other
        by true told = absurd (apart ((same_term-Decides other term).0 told))
        by false told = refl

    -- the column's term is new, or a source of it names the column's code in the cells
    abbrev Settled : List Term → List ℕ → ℕ → Term → Type 0
    Settled bound all value term = IsNew bound term ⊎ ((source : Source) × IsSource texts bound term source × (code_at all source ≡ Some value))

    -- a map with which one more term goes to the row's next code, where the terms after it can be done
    then_more : (bound terms : List Term) (all row : List ℕ) (m : Term → ℕ) (term : Term) (value : ℕ) → all ≡ map m bound ++ value ∷ row
        → ((next : Term → ℕ) → Keeps code next → all ≡ map next (bound ++ term ∷ []) ++ row
        → (other : Term → ℕ) × Keeps code other × ((it : Term) → Contains (bound ++ term ∷ []) it → other it ≡ next it) × (map other terms ≡ row))
        → (next : Term → ℕ) → Keeps code next → ((it : Term) → Contains bound it → next it ≡ m it) → next term ≡ value
        → (other : Term → ℕ) × Keeps code other × ((it : Term) → Contains bound it → other it ≡ m it) × (map other (term ∷ terms) ≡ value ∷ row)
    then_more bound terms all row m term value same again next keeps agree here =
        let front_same : map next bound ≡ map m bound = map_agree next m bound agree in
        let cells : map next (bound ++ term ∷ []) ≡ map m bound ++ value ∷ [] = map-append next bound (term ∷ []) ∙ (λ i. front_same i ++ here i ∷ []) in
        let later = again next keeps (same ∙ sym (append_assoc (map m bound) (value ∷ []) row) ∙ ap (λ it. it ++ row) (sym cells)) in
        let first : later.0 term ≡ value = later.2 term (Contains-push bound term) ∙ here in (
          later.0,
          later.1,
          (λ it inside. later.2 it (Contains-append_left bound (term ∷ []) it inside) ∙ agree it inside),
          (λ i. first i ∷ later.3 i),
        )

    in_all : (bound : List Term) (all row : List ℕ) (m : Term → ℕ) → all ≡ map m bound ++ row → (source : Source) (found : ℕ)
        → code_at (map m bound) source ≡ Some found → code_at all source ≡ Some found
    in_all bound all row m same (Code number) found e = e
    in_all bound all row m same (Cell place) found e = ap (λ it. slice_get it place) same ∙ at_left (map m bound) row place found e

    -- a map that keeps constants can be changed at new terms so that it sends the terms to the row
    extends : (bound terms : List Term) (all row : List ℕ) (m : Term → ℕ) → Keeps code m → all ≡ map m bound ++ row → length terms ≡ length row
        → ((column : ℕ) (term : Term) (value : ℕ) → slice_get terms column ≡ Some term → slice_get row column ≡ Some value
        → Settled (bound ++ take column terms) all value term)
        → (other : Term → ℕ) × Keeps code other × ((term : Term) → Contains bound term → other term ≡ m term) × (map other terms ≡ row)
    extends bound [] all [] m keeps same long settled = (m, keeps, (λ term inside. refl), refl)
    extends bound [] all (value ∷ row) m keeps same long settled = absurd (omega (arith, long))
    extends bound (term ∷ terms) all [] m keeps same long settled = absurd (omega (arith, long))
    extends bound (term ∷ terms) all (value ∷ row) m keeps same long settled =
        let again = λ (next : Term → ℕ) (next_keeps : Keeps code next) (next_same : all ≡ map next (bound ++ term ∷ []) ++ row).
        extends (bound ++ term ∷ []) terms all row next next_keeps next_same (omega (arith, long))
        (λ column it found at at_row. subst (λ before. Settled before all found it) (sym (append_assoc bound (term ∷ []) (take column terms)))
        (settled (suc column) it found at at_row)) in
        elim (subst (λ it. Settled it all value term) (append-nil bound) (settled 0 term value refl refl)) [
          | inl new ↦ then_more bound terms all row m term value same again (put m term value)
              (λ text. put_other m term value (Const text) (λ is. new.variable (text, sym is)) ∙ keeps text)
              (λ other inside. put_other m term value other (λ is. new.absent (subst (Contains bound) is inside)))
              (put_here m term value)
          | inr found ↦ then_more bound terms all row m term value same again m keeps (λ other inside. refl)
              (let named = source_names m keeps bound term found.0 found.1 in
              same_Some (m term) value (sym (in_all bound all (value ∷ row) m same found.0 (m term) named) ∙ found.2))
        ]

    code_more : (cells more : List ℕ) (source : Source) (found : ℕ) → code_at cells source ≡ Some found → code_at (cells ++ more) source ≡ Some found
    code_more cells more (Code number) found e = e
    code_more cells more (Cell place) found e = at_left cells more place found e

    -- a row that follows settles each column
    settles : (own : List (List Bool)) (bound : List Term) (atom : Fact Term) (get : Get) (cells row : List ℕ) → IsGetOf texts own bound atom get
        → Follows get cells row
        → (column : ℕ) (term : Term) (value : ℕ) → slice_get atom.terms column ≡ Some term → slice_get row column ≡ Some value
        → Settled (bound ++ take column atom.terms) (cells ++ row) value term
    settles own bound atom get cells row is follows column term value at at_row = elim (is.complete column term at) [
      | inl new ↦ inl new
      | inr joined ↦ by joined.0 joined.1 joined.2
    ]
      where
        by : (link : Link) → link.column ≡ column → Contains get.inputs link ⊎ Contains get.filters link
            → Settled (bound ++ take column atom.terms) (cells ++ row) value term
        by link here (inl input) =
            let own_term = is.inputs link input in let met = follows.inputs link input in
            let same_term : own_term.0 ≡ term = same_Some own_term.0 term (sym own_term.1 ∙ ap (slice_get atom.terms) here ∙ at) in
            let same_code : met.0 ≡ value = same_Some met.0 value (sym met.1 ∙ ap (slice_get row) here ∙ at_row) in
            inr (
              link.source,
              more_bound texts bound (take column atom.terms) term link.source (subst (λ it. IsSource texts bound it link.source) same_term own_term.2),
              code_more cells row link.source met.0 met.2 ∙ ap Some same_code,
            )
        by link here (inr filter) =
            let own_term = is.filters link filter in let met = follows.filters link filter in
            let same_term : own_term.0 ≡ term = same_Some own_term.0 term (sym own_term.1 ∙ ap (slice_get atom.terms) here ∙ at) in
            let same_code : met.0 ≡ value = same_Some met.0 value (sym met.1 ∙ ap (slice_get row) here ∙ at_row) in
            inr (
              link.source,
              subst (λ it. IsSource texts (bound ++ take it atom.terms) term link.source) here
                  (subst (λ it. IsSource texts (bound ++ take link.column atom.terms) it link.source) same_term own_term.2),
              met.2 ∙ ap Some same_code,
            )

    -- the row that a fragment holds is what the map makes of the atom
    held_as : (m : Term → ℕ) (atom : Fact Term) (fragment : ℕ) (row : List ℕ) → fragment ≡ atom.relation → map m atom.terms ≡ row
        → Holds (record { relation = fragment; terms = row }) → Holds (image m atom)
    held_as m atom fragment row named own holds = subst (λ (it : Fact ℕ). Holds it) (λ i. record { relation = named i; terms = sym own i }) holds

    pub results_answer : (bound : List Term) (atoms : List (Fact Term)) (gets : List Get) (m : Term → ℕ) (end : List ℕ) → Keeps code m
        → AreStepsAfter texts patterns head sources bound atoms gets
        → Fits atoms Holds → Leads Holds gets (map m bound) end
        → (other : Term → ℕ) × Keeps code other × ((term : Term) → Contains bound term → other term ≡ m term) × SendsInto other atoms Holds
        × (map (code_at end) sources ≡ map Some (map other head))
    results_answer bound [] [] m end keeps are fits leads = (
      m,
      keeps,
      (λ term inside. refl),
      (λ fact inside. absurd (Contains-nil fact inside)),
      ap (λ cells. map (code_at cells) sources) (sym leads) ∙ sources_name m keeps bound head sources are,
    )
    results_answer bound [] (get ∷ gets) m end keeps are fits leads = absurd are
    results_answer bound (atom ∷ atoms) [] m end keeps are fits leads = absurd are
    results_answer bound (atom ∷ atoms) (get ∷ gets) m end keeps are fits leads =
        let row = leads.0 in
        let long : length atom.terms ≡ length row =
        fits atom (record { relation = get.fragment; terms = row }) (Contains-head atom atoms) leads.1 (are.0).fragment in
        let next = extends bound atom.terms (map m bound ++ row) row m keeps refl long (settles _ bound atom get (map m bound) row are.0 leads.2) in
        let cells : map next.0 (bound ++ atom.terms) ≡ map m bound ++ row =
        map-append next.0 bound atom.terms ∙ (λ i. map_agree next.0 m bound next.2 i ++ next.3 i) in
        let later = results_answer (bound ++ atom.terms) atoms gets next.0 end next.1 are.1
        (λ other fact inside. fits other fact (Contains-rest atom atoms other inside))
        (subst (λ it. Leads Holds gets it end) (sym cells) leads.3) in
        let own : map later.0 atom.terms ≡ row =
        map_agree later.0 next.0 atom.terms (λ term inside. later.2 term (Contains-append_right bound atom.terms term inside)) ∙ next.3 in (
          later.0,
          later.1,
          (λ term inside. later.2 term (Contains-append_left bound atom.terms term inside) ∙ next.2 term inside),
          (λ fact inside. elim (Contains-cases atom atoms fact inside) [
            | inl is ↦ subst (λ it. Holds (image later.0 it)) is (held_as later.0 atom get.fragment row (are.0).fragment own leads.1)
            | inr rest ↦ later.3 fact rest
          ]),
          later.4,
        )

pub results_are_answers : (texts : List (List ℕ)) (code : List ℕ → ℕ) → IsNumbering texts code
    → (patterns : List (List (List Bool))) (query : ConjunctiveQuery) (steps : Steps) (Holds : Fact ℕ → Type 0) → AreStepsOf texts patterns query steps
    → Fits query.body Holds
    → (row : List ℕ) → IsResult Holds steps row ↔ IsAnswerInto code query Holds row
results_are_answers texts code numbering patterns query steps Holds are fits row = (
  λ result. by result.0 result.2 (results_answer texts code numbering patterns query.head steps.head Holds [] query.body steps.gets start result.0 start-Keeps
      are fits result.1),
  λ answer. let found = answers_lead texts code numbering patterns query.head steps.head Holds answer.0 answer.1 [] query.body steps.gets are answer.2 in
      (found.0, found.1, found.2 ∙ ap (map Some) (sym answer.3)),
)
  where
    -- some map that keeps constants
    start : Term → ℕ
    start = mended code (λ term. 0)

    start-Keeps : Keeps code start
    start-Keeps = mended-Keeps code (λ term. 0)

    by : (end : List ℕ) → map (code_at end) steps.head ≡ map Some row
        → (other : Term → ℕ) × Keeps code other × ((term : Term) → Contains [] term → other term ≡ start term) × SendsInto other query.body Holds
        × (map (code_at end) steps.head ≡ map Some (map other query.head))
        → IsAnswerInto code query Holds row
    by end told found = (found.0, found.1, found.3, map_one Some same_Some row (map found.0 query.head) (sym told ∙ found.4))

-- ---- the fragments that steps name

leads_rest : (gets : List Get) (Holds Others : Fact ℕ → Type 0)
    → ((get : Get) → Contains gets get → (row : List ℕ) → Holds (record { relation = get.fragment; terms = row })
    → Others (record { relation = get.fragment; terms = row }))
    → (cells end : List ℕ) → Leads Holds gets cells end → Leads Others gets cells end
leads_rest [] Holds Others same cells end leads = leads
leads_rest (get ∷ gets) Holds Others same cells end (row, held, follows, rest) = (
  row,
  same get (Contains-head get gets) row held,
  follows,
  leads_rest gets Holds Others (λ other inside. same other (Contains-rest get gets other inside)) (cells ++ row) end rest,
)

pub results_rest : (steps : Steps) (rows others : ℕ → List (List ℕ)) → HoldSame steps rows others → (row : List ℕ) → IsResult (IsRowOf rows) steps row
    → IsResult (IsRowOf others) steps row
results_rest steps rows others same row (end, leads, head) =
    (end, leads_rest steps.gets (IsRowOf rows) (IsRowOf others) (λ get inside it held. (same get inside it).0 held) [] end leads, head)

-- ---- the constants of planned steps have codes

source_interned : (texts : List (List ℕ)) (bound : List Term) (text : List ℕ) (source : Source) → IsSource texts bound (Const text) source → Contains texts text
source_interned texts bound text source told = elim told [
  | inl constant ↦ subst (Contains texts) (Const-same constant.0 text (sym constant.2)) (Contains-at texts constant.1 constant.0 constant.3)
  | inr found ↦ absurd (found.3 (text, refl))
]

steps_interned : (texts : List (List ℕ)) (patterns : List (List (List Bool))) (head : List Term) (sources : List Source) (bound : List Term)
    (atoms : List (Fact Term)) (gets : List Get) → AreStepsAfter texts patterns head sources bound atoms gets
    → (text : List ℕ) → Contains head (Const text) ⊎ Mentions atoms (Const text) → Contains texts text
steps_interned texts patterns head sources bound [] [] are text stands = elim stands [
  | inl in_head ↦ zipped head sources are in_head
  | inr mentioned ↦ absurd (Contains-nil mentioned.0 mentioned.1)
]
  where
    zipped : (terms : List Term) (them : List Source) → AllZip (IsSource texts bound) terms them → Contains terms (Const text) → Contains texts text
    zipped [] [] all inside = absurd (Contains-nil (Const text) inside)
    zipped [] (_ ∷ them) all inside = absurd all
    zipped (_ ∷ terms) [] all inside = absurd all
    zipped (term ∷ terms) (source ∷ them) all inside = elim (Contains-cases term terms (Const text) inside) [
      | inl is ↦ source_interned texts bound text source (subst (λ it. IsSource texts bound it source) is all.0)
      | inr later ↦ zipped terms them all.1 later
    ]
steps_interned texts patterns head sources bound [] (get ∷ gets) are text stands = absurd are
steps_interned texts patterns head sources bound (atom ∷ atoms) [] are text stands = absurd are
steps_interned texts patterns head sources bound (atom ∷ atoms) (get ∷ gets) are text stands =
    let later = λ (it : Contains head (Const text) ⊎ Mentions atoms (Const text)). steps_interned texts patterns head sources
    (bound ++ atom.terms) atoms gets are.1 text it in
    elim stands [
      | inl in_head ↦ later (inl in_head)
      | inr mentioned ↦ elim (Contains-cases atom atoms mentioned.0 mentioned.1) [
        | inl is ↦ here are.0 (place-from_Contains atom.terms (Const text) (subst (λ (it : Fact Term). Contains it.terms (Const text)) (sym is) mentioned.2))
        | inr rest ↦ later (inr (mentioned.0, rest, mentioned.2))
      ]
    ]
  where
    here : {own : List (List Bool)} → IsGetOf texts own bound atom get → (place : ℕ) × (slice_get atom.terms place ≡ Some (Const text)) → Contains texts text
    here is (place, at) = elim (is.complete place (Const text) at) [
      | inl new ↦ absurd (new.variable (text, refl))
      | inr (link, column, among) ↦ elim among [
        | inl input ↦ let own_term = is.inputs link input in
            source_interned texts bound text link.source
            (subst (λ it. IsSource texts bound it link.source)
            (same_Some own_term.0 (Const text) (sym own_term.1 ∙ ap (slice_get atom.terms) column ∙ at)) own_term.2)
        | inr filter ↦ let own_term = is.filters link filter in
            source_interned texts (bound ++ take link.column atom.terms) text link.source
            (subst (λ it. IsSource texts (bound ++ take link.column atom.terms) it link.source)
            (same_Some own_term.0 (Const text) (sym own_term.1 ∙ ap (slice_get atom.terms) column ∙ at)) own_term.2)
      ]
    ]

pub plans_intern : (texts : List (List ℕ)) (patterns : List (List (List Bool))) (query : ConjunctiveQuery) (steps : Steps)
    → AreStepsOf texts patterns query steps → AreInterned texts query
plans_intern texts patterns query steps are text stands = steps_interned texts patterns query.head steps.head [] query.body steps.gets are text stands

-- ---- the codes of results are codes of texts

AllBelow : ℕ → List ℕ → Type 0
AllBelow count codes = (code : ℕ) → Contains codes code → code < count

leads_below : (count : ℕ) (gets : List Get) (coded : ℕ → List (List ℕ)) → ((fragment : ℕ) (row : List ℕ) → Contains (coded fragment) row → AllBelow count row)
    → (cells end : List ℕ) → AllBelow count cells
    → Leads (IsRowOf coded) gets cells end → AllBelow count end
unfolding AllBelow
leads_below count [] coded rows cells end below leads = λ code inside. below code (subst (λ them. Contains them code) (sym leads) inside)
leads_below count (get ∷ gets) coded rows cells end below (row, held, follows, rest) = leads_below count gets coded rows (cells ++ row) end
    (λ code inside. elim (Contains-append_cases cells row code inside) [ inl old ↦ below code old | inr new ↦ rows get.fragment row held code new ]) rest

-- a source of planned steps names a code of a text, or a cell
code_sources : (texts : List (List ℕ)) (patterns : List (List (List Bool))) (head : List Term) (sources : List Source) (bound : List Term)
    (atoms : List (Fact Term)) (gets : List Get) → AreStepsAfter texts patterns head sources bound atoms gets
    → (code : ℕ) → Contains sources (Code code) → code < length texts
code_sources texts patterns head sources bound [] [] are code inside = zipped head sources are inside
  where
    of_source : (term : Term) (source : Source) → IsSource texts bound term source → source ≡ Code code → code < length texts
    of_source term source told is = elim told [
      | inl constant ↦ let same : Code constant.1 ≡ Code code = sym constant.4 ∙ is in let number : constant.1 ≡ code = cc in
          subst (λ n. n < length texts) number (slice_get_within texts constant.1 constant.0 constant.3)
      | inr found ↦ let wrong : Cell found.0 ≡ Code code = sym found.2 ∙ is in absurd (cc)
    ]

    zipped : (terms : List Term) (them : List Source) → AllZip (IsSource texts bound) terms them → Contains them (Code code) → code < length texts
    zipped [] [] all there = absurd (Contains-nil (Code code) there)
    zipped [] (_ ∷ them) all there = absurd all
    zipped (_ ∷ terms) [] all there = absurd all
    zipped (term ∷ terms) (source ∷ them) all there = elim (Contains-cases source them (Code code) there) [
      | inl is ↦ of_source term source all.0 is
      | inr later ↦ zipped terms them all.1 later
    ]
code_sources texts patterns head sources bound [] (get ∷ gets) are code inside = absurd are
code_sources texts patterns head sources bound (atom ∷ atoms) [] are code inside = absurd are
code_sources texts patterns head sources bound (atom ∷ atoms) (get ∷ gets) are code inside =
    code_sources texts patterns head sources (bound ++ atom.terms) atoms gets are.1 code inside

head_below : (count : ℕ) (end : List ℕ) → AllBelow count end → (sources : List Source) (row : List ℕ)
    → ((code : ℕ) → Contains sources (Code code) → code < count) → map (code_at end) sources ≡ map Some row → AllBelow count row
unfolding AllBelow
head_below count end below [] [] codes is code inside = absurd (Contains-nil code inside)
head_below count end below [] (_ ∷ row) codes is code inside = absurd (cc)
head_below count end below (_ ∷ sources) [] codes is code inside = absurd (cc)
head_below count end below (source ∷ sources) (first ∷ row) codes is code inside = elim (Contains-cases first row code inside) [
  | inl same ↦ let here : code_at end source ≡ Some first = cc in
      subst (λ n. n < count) same (of_source source first (λ n e. codes n (subst (Contains (source ∷ sources)) e (Contains-head source sources))) here)
  | inr later ↦ head_below count end below sources row (λ n there. codes n (Contains-rest source sources (Code n) there)) (cc) code later
]
  where
    of_source : (it : Source) (found : ℕ) → ((n : ℕ) → it ≡ Code n → n < count) → code_at end it ≡ Some found → found < count
    of_source (Code n) found codes_of e = subst (λ k. k < count) (same_Some n found e) (codes_of n refl)
    of_source (Cell place) found codes_of e = below found (Contains-at end place found e)

pub results_below : (texts : List (List ℕ)) (patterns : List (List (List Bool))) (query : ConjunctiveQuery) (steps : Steps) (coded : ℕ → List (List ℕ))
    → AreStepsOf texts patterns query steps
    → ((fragment : ℕ) (row : List ℕ) → Contains (coded fragment) row → (code : ℕ) → Contains row code → code < length texts)
    → (row : List ℕ) → IsResult (IsRowOf coded) steps row → (code : ℕ) → Contains row code → code < length texts
unfolding AllBelow
results_below texts patterns query steps coded are rows row (end, leads, is) =
    head_below (length texts) end (leads_below (length texts) steps.gets coded rows [] end (λ code inside. absurd (Contains-nil code inside)) leads) steps.head
    row
    (code_sources texts patterns query.head steps.head [] query.body steps.gets are) is
