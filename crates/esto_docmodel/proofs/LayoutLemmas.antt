-- What makes entries a layout, an entry at a time.
use Rattle.std.proofs.Common.{◌≡◌, ◌≢◌, ◌⊎◌, ◌↔◌, inl, inr, ℕ, ◌+◌, ◌-◌, ◌<◌, ◌≤◌, ◌==◌, Bool, true, false, not, IsTrue, List, [], ◌∷◌, length, drop, get_or}
use Rattle.std.proofs.Common.{Contains, refl, sym, ap, ◌∙◌, subst, arith}
use Rattle.std.proofs.lemmas.Bool.{false≢true, cases_eq, eqb-true, eq-eqb}
use Rattle.esto_term.proofs.ListLemmas.{Contains-head, Contains-rest, Contains-cases}
use Rattle.esto_term.proofs.PlaceLemmas.{drop-item}
use Rattle.esto_term.specs.declared.term.Term.{Term}
use Rattle.esto_term.specs.declared.term.Term.TheVariants.{Plain}
use Rattle.esto_docmodel.specs.Layouts.{paths, Begins, SomeBegins, AreFields, IsOneItem, FitTogether, IsColumn, AreLaidOut, StandsOnce, height, IsLayout}
use Rattle.esto_docmodel.specs.Patterns.{Entries, done, holds, group, Mentions}
use Rattle.esto_docmodel.specs.Shapes.{entry_shape, entries_of}
use Rattle.esto_docmodel.proofs.ShapeLemmas.{entry-Value, entry-Group}
use Rattle.esto_docmodel.specs.declared.layout.TheConstants.{MAX_LAYOUT_DEPTH}
use Rattle.esto_docmodel.specs.declared.pattern.Step.{Step}
use Rattle.esto_docmodel.specs.declared.pattern.Step.TheVariants.{Name, Below}
use Rattle.esto_docmodel.specs.declared.pattern.Entry.{Entry, roll-Entry, out-Entry, roll-out-Entry}
use Rattle.esto_docmodel.specs.declared.pattern.Entry.TheVariants as entry
use Rattle.esto_docmodel.specs.declared.pattern.Entry.TheOpen.{Entry-F}

pub entry_cases : (P : Entry → Type 0) → ((path : List Step) (term : Term) → P (entry.Value path term))
    → ((path : List Step) (inner : List Entry) → P (entry.Group path inner)) → (it : Entry) → P it
entry_cases P value grouped it = subst P (roll-out-Entry it) (by (out-Entry it))
  where
    by : (level : Entry-F Entry) → P (roll-Entry level)
    by (Entry-F.Value path term) = subst P (sym (entry.rolls-Value path term)) (value path term)
    by (Entry-F.Group path inner) = subst P (sym (entry.rolls-Group path inner)) (grouped path inner)

-- ---- a test of one after another

module _ {First Rest Left Whole : Type 0} where
  pub one_more : Left ↔ (First ⊎ Rest) → ¬ First → Left ↔ Whole → Rest ↔ Whole
  one_more parts other same = (
    λ later. same.0 (parts.1 (inr later)),
    λ whole. elim (parts.0 (same.1 whole)) [ inl first ↦ absurd (other first) | inr later ↦ later ],
  )

  pub one_found : Left ↔ (First ⊎ Rest) → First → Left ↔ Whole → Whole
  one_found parts first same = same.0 (parts.1 (inl first))

  pub each_goes : Left ↔ (First × Rest) → First → Left ↔ Whole → Rest ↔ Whole
  each_goes parts first same = (λ later. same.0 (parts.1 (first, later)), λ whole. (parts.0 (same.1 whole)).1)

  pub each_fails : Left ↔ (First × Rest) → ¬ First → Left ↔ Whole → ¬ Whole
  each_fails parts other same whole = other (parts.0 (same.1 whole)).0

-- ---- tests of one and of another

module _ {First Second Whole : Type 0} (parts : Whole ↔ (First × Second)) where
  pub first_fails : (p : Bool) → IsTrue p ↔ First → p ≡ false → IsTrue p ↔ Whole
  first_fails p tells is = (λ e. absurd (false≢true (sym is ∙ e)), λ whole. tells.1 (parts.0 whole).0)

  pub first_goes : (p q : Bool) → IsTrue p ↔ First → p ≡ true → IsTrue q ↔ Second → IsTrue q ↔ Whole
  first_goes p q tells is goes = (λ e. parts.1 (tells.0 is, goes.0 e), λ whole. goes.1 (parts.0 whole).1)

pub same_parts : (First Second : Type 0) → (First × Second) ↔ (First × Second)
same_parts First Second = (λ both. both, λ both. both)

pub told_as : {First Second Third : Type 0} → First ↔ Second → Second ↔ Third → First ↔ Third
told_as one two = (λ it. two.0 (one.0 it), λ it. one.1 (two.1 it))

pub same_variable : (term : Term) (variable number : ℕ) → term ≡ Plain variable → IsTrue (variable == number) ↔ (term ≡ Plain number)
same_variable term variable number is = (
  λ e. is ∙ ap Plain (eqb-true variable number e),
  λ h. let same : Plain variable ≡ Plain number = sym is ∙ h in eq-eqb variable number cc,
)

-- ---- paths

pub steps_parts : (left rest : List Step) (step : Step) → left ≡ step ∷ rest → Contains left Below ↔ ((step ≡ Below) ⊎ Contains rest Below)
steps_parts left rest step is = (
  λ inside. Contains-cases step rest Below (subst (λ (w : List Step). Contains w Below) is inside),
  λ either. subst (λ (w : List Step). Contains w Below) (sym is) (elim either [
    | inl here ↦ subst (λ (w : Step). Contains (w ∷ rest) Below) (sym here) (Contains-head Below rest)
    | inr later ↦ Contains-rest step rest Below later
  ]),
)

module _ (left rest : List Entry) (it : Entry) (is : left ≡ it ∷ rest) (path : List Step)
    (at : (others : Entries) → paths (entry_shape it others) ≡ path ∷ paths others) where
  pub paths_at : paths (entries_of left) ≡ path ∷ paths (entries_of rest)
  paths_at = ap (λ (w : List Entry). paths (entries_of w)) is ∙ at (entries_of rest)

  pub some_parts : (step : Step) → SomeBegins step (paths (entries_of left)) ↔ (Begins step path ⊎ SomeBegins step (paths (entries_of rest)))
  some_parts step = (
    λ it. subst (λ (w : List (List Step)). SomeBegins step w) paths_at it,
    λ it. subst (λ (w : List (List Step)). SomeBegins step w) (sym paths_at) it,
  )

  pub fields_parts : AreFields (paths (entries_of left))
      ↔ (((name : List ℕ) × Begins (Name name) path × ¬ (SomeBegins (Name name) (paths (entries_of rest)))) × AreFields (paths (entries_of rest)))
  fields_parts = (λ it. subst AreFields paths_at it, λ it. subst AreFields (sym paths_at) it)

-- ---- entries

-- laid out, and no deeper than so many steps
abbrev pub LaidOutWithin : ℕ → ℕ → Entries → Type 0
LaidOutWithin columns steps entries = AreLaidOut columns entries × (height entries ≤ steps)

abbrev Once : Term → Entries → Entries → Type 0
Once term here others = (StandsOnce term here × ¬ (Mentions others term)) ⊎ (¬ (Mentions here term) × StandsOnce term others)

module _ (columns steps : ℕ) (others : Entries) where
  abbrev LaidParts : Entry → Type 0
  LaidParts it = LaidOutWithin columns steps (entry_shape it others)
      ↔ (LaidOutWithin columns steps (entry_shape it done) × LaidOutWithin columns steps others)

  laid_value : (path : List Step) (term : Term) → LaidOutWithin columns steps (holds path term others)
      ↔ (LaidOutWithin columns steps (holds path term done) × LaidOutWithin columns steps others)
  laid_value path term = (
    λ ((plain, column, laid), low). (((plain, column, tt), omega (arith, low)), (laid, omega (arith, low))),
    λ (((plain, column, end), low), (laid, lower)). ((plain, column, laid), omega (arith, low, lower)),
  )

  laid_group : (path : List Step) (inner : Entries) → LaidOutWithin columns steps (group path inner others)
      ↔ (LaidOutWithin columns steps (group path inner done) × LaidOutWithin columns steps others)
  laid_group path inner = (
    λ ((plain, fit, within, laid), low). (((plain, fit, within, tt), omega (arith, low)), (laid, omega (arith, low))),
    λ (((plain, fit, within, end), low), (laid, lower)). ((plain, fit, within, laid), omega (arith, low, lower)),
  )

  laid_here : (it : Entry) → LaidParts it
  laid_here = entry_cases LaidParts
      (λ path term. rw (entry-Value path term others, entry-Value path term done) (laid_value path term))
      (λ path inner. rw (entry-Group path inner others, entry-Group path inner done) (laid_group path (entries_of inner)))

module _ (columns steps : ℕ) (it : Entry) (path : List Step) where
  pub value_parts : (term : Term) → it ≡ entry.Value path term → LaidOutWithin columns steps (entry_shape it done)
      ↔ ((¬ (Contains path Below) × (length path ≤ steps)) × IsColumn columns term)
  value_parts term is = rw (is, entry-Value path term done) (
    λ ((plain, column, end), low). ((plain, omega (arith, low)), column),
    λ ((plain, low), column). ((plain, column, tt), omega (arith, low)),
  )

  pub group_parts : (inner : List Entry) → it ≡ entry.Group path inner → LaidOutWithin columns steps (entry_shape it done)
      ↔ ((¬ (Contains path Below) × (length path ≤ steps))
      × (FitTogether (paths (entries_of inner)) × LaidOutWithin columns (steps - length path) (entries_of inner)))
  group_parts inner is = rw (is, entry-Group path inner done) (
    λ ((plain, fit, within, end), low). ((plain, omega (arith, low)), (fit, (within, omega (arith, low)))),
    λ ((plain, short), (fit, (within, low))). ((plain, fit, within, tt), omega (arith, short, low)),
  )

pub laid_parts : (columns steps : ℕ) (left rest : List Entry) (it : Entry) → left ≡ it ∷ rest → LaidOutWithin columns steps (entries_of left)
    ↔ (LaidOutWithin columns steps (entry_shape it done) × LaidOutWithin columns steps (entries_of rest))
laid_parts columns steps left rest it is = rw is (laid_here columns steps (entries_of rest) it)

-- the same in a loop over entries
pub laid_at : (columns steps : ℕ) (entries : List Entry) (i : ℕ) (it : Entry) → i < length entries → it ≡ get_or entries i it
    → LaidOutWithin columns steps (entries_of (drop i entries))
    ↔ (LaidOutWithin columns steps (entry_shape it done) × LaidOutWithin columns steps (entries_of (drop (i + 1) entries)))
laid_at columns steps entries i it within is =
    laid_parts columns steps (drop i entries) (drop (i + 1) entries) it (drop-item entries i it within is)

module _ (term : Term) (others : Entries) where
  abbrev MentionParts : Entry → Type 0
  MentionParts it = Mentions (entry_shape it others) term ↔ (Mentions (entry_shape it done) term ⊎ Mentions others term)

  mention_here : (it : Entry) → MentionParts it
  mention_here = entry_cases MentionParts
      (λ path first. rw (entry-Value path first others, entry-Value path first done) (
        λ either. elim either [ inl is ↦ inl (inl is) | inr later ↦ inr later ],
        λ either. elim either [ inl (inl is) ↦ inl is | inl (inr none) ↦ absurd none | inr later ↦ inr later ],
      ))
      (λ path inner. rw (entry-Group path inner others, entry-Group path inner done) (
        λ either. elim either [ inl inside ↦ inl (inl inside) | inr later ↦ inr later ],
        λ either. elim either [ inl (inl inside) ↦ inl inside | inl (inr none) ↦ absurd none | inr later ↦ inr later ],
      ))

  abbrev OnceParts : Entry → Type 0
  OnceParts it = StandsOnce term (entry_shape it others) ↔ Once term (entry_shape it done) others

  once_value : (path : List Step) (first : Term) → StandsOnce term (holds path first others) ↔ Once term (holds path first done) others
  once_value path first = (
    λ either. elim either [
      | inl (is, none) ↦ inl (inl (is, λ absent. absent), none)
      | inr (other, once) ↦ inr ((λ said. elim said [ inl is ↦ other is | inr none ↦ none ]), once)
    ],
    λ either. elim either [
      | inl (inl (is, end), none) ↦ inl (is, none)
      | inl (inr (other, never), none) ↦ absurd never
      | inr (unsaid, once) ↦ inr ((λ is. unsaid (inl is)), once)
    ],
  )

  once_group : (path : List Step) (inner : Entries) → StandsOnce term (group path inner others) ↔ Once term (group path inner done) others
  once_group path inner = (
    λ either. elim either [
      | inl (once, none) ↦ inl (inl (once, λ absent. absent), none)
      | inr (unsaid, once) ↦ inr ((λ said. elim said [ inl inside ↦ unsaid inside | inr none ↦ none ]), once)
    ],
    λ either. elim either [
      | inl (inl (once, end), none) ↦ inl (once, none)
      | inl (inr (unsaid, never), none) ↦ absurd never
      | inr (unsaid, once) ↦ inr ((λ inside. unsaid (inl inside)), once)
    ],
  )

  once_here : (it : Entry) → OnceParts it
  once_here = entry_cases OnceParts
      (λ path first. rw (entry-Value path first others, entry-Value path first done) (once_value path first))
      (λ path inner. rw (entry-Group path inner others, entry-Group path inner done) (once_group path (entries_of inner)))

pub mention_parts : (term : Term) (left rest : List Entry) (it : Entry) → left ≡ it ∷ rest
    → Mentions (entries_of left) term ↔ (Mentions (entry_shape it done) term ⊎ Mentions (entries_of rest) term)
mention_parts term left rest it is = rw is (mention_here term (entries_of rest) it)

pub mention_at : (term : Term) (entries : List Entry) (i : ℕ) (it : Entry) → i < length entries → it ≡ get_or entries i it
    → Mentions (entries_of (drop i entries)) term ↔ (Mentions (entry_shape it done) term ⊎ Mentions (entries_of (drop (i + 1) entries)) term)
mention_at term entries i it within is = mention_parts term (drop i entries) (drop (i + 1) entries) it (drop-item entries i it within is)

once_parts : (term : Term) (left rest : List Entry) (it : Entry) → left ≡ it ∷ rest
    → StandsOnce term (entries_of left) ↔ Once term (entry_shape it done) (entries_of rest)
once_parts term left rest it is = rw is (once_here term (entries_of rest) it)

-- an entry by itself
module _ (term : Term) (it : Entry) (path : List Step) where
  pub value_once : (first : Term) → it ≡ entry.Value path first → (first ≡ term) ↔ StandsOnce term (entry_shape it done)
  value_once first is = rw (is, entry-Value path first done) (
    λ same. inl (same, λ never. never),
    λ either. elim either [ inl (same, none) ↦ same | inr (other, never) ↦ absurd never ],
  )

  pub group_once : (inner : List Entry) → it ≡ entry.Group path inner → StandsOnce term (entries_of inner) ↔ StandsOnce term (entry_shape it done)
  group_once inner is = rw (is, entry-Group path inner done) (
    λ once. inl (once, λ never. never),
    λ either. elim either [ inl (once, none) ↦ once | inr (unsaid, never) ↦ absurd never ],
  )

  pub value_mention : (first : Term) → it ≡ entry.Value path first → (first ≡ term) ↔ Mentions (entry_shape it done) term
  value_mention first is = rw (is, entry-Value path first done) (
    λ same. inl same,
    λ either. elim either [ inl same ↦ same | inr never ↦ absurd never ],
  )

  pub group_mention : (inner : List Entry) → it ≡ entry.Group path inner → Mentions (entries_of inner) term ↔ Mentions (entry_shape it done) term
  group_mention inner is = rw (is, entry-Group path inner done) (
    λ inside. inl inside,
    λ either. elim either [ inl inside ↦ inside | inr never ↦ absurd never ],
  )

-- what stands once is mentioned
once_is_mentioned : (term : Term) (entries : Entries) → StandsOnce term entries → Mentions entries term
once_is_mentioned term done never = absurd never
once_is_mentioned term (holds path first rest) (inl (is, none)) = inl is
once_is_mentioned term (holds path first rest) (inr (other, once)) = inr (once_is_mentioned term rest once)
once_is_mentioned term (group path inner rest) (inl (once, none)) = inl (once_is_mentioned term inner once)
once_is_mentioned term (group path inner rest) (inr (unsaid, once)) = inr (once_is_mentioned term rest once)

-- the first entry that mentions it decides
once_found : (term : Term) (left rest : List Entry) (it : Entry) {Whole : Type 0} → left ≡ it ∷ rest → Mentions (entry_shape it done) term
    → StandsOnce term (entries_of left) ↔ Whole → Whole ↔ (StandsOnce term (entry_shape it done) × ¬ (Mentions (entries_of rest) term))
once_found term left rest it is said same = (
  λ whole. elim ((once_parts term left rest it is).0 (same.1 whole)) [ inl both ↦ both | inr (unsaid, once) ↦ absurd (unsaid said) ],
  λ both. same.0 ((once_parts term left rest it is).1 (inl both)),
)

pub once_found_at : (term : Term) (entries : List Entry) (i : ℕ) (it : Entry) {Whole : Type 0} → i < length entries → it ≡ get_or entries i it
    → Mentions (entry_shape it done) term → StandsOnce term (entries_of (drop i entries)) ↔ Whole
    → Whole ↔ (StandsOnce term (entry_shape it done) × ¬ (Mentions (entries_of (drop (i + 1) entries)) term))
once_found_at term entries i it within is said same =
    once_found term (drop i entries) (drop (i + 1) entries) it (drop-item entries i it within is) said same

pub not_told : {P : Type 0} (test : Bool) → IsTrue test ↔ P → IsTrue (not test) ↔ ¬ P
not_told true tells = (λ e. absurd (false≢true e), λ none. absurd (none (tells.0 refl)))
not_told false tells = ((λ e it. false≢true (tells.1 it)), λ none. refl)

once_passed : (term : Term) (left rest : List Entry) (it : Entry) {Whole : Type 0} → left ≡ it ∷ rest → ¬ (Mentions (entry_shape it done) term)
    → StandsOnce term (entries_of left) ↔ Whole → StandsOnce term (entries_of rest) ↔ Whole
once_passed term left rest it is unsaid same = (
  λ once. same.0 ((once_parts term left rest it is).1 (inr (unsaid, once))),
  λ whole. elim ((once_parts term left rest it is).0 (same.1 whole)) [
    | inl (once, none) ↦ absurd (unsaid (once_is_mentioned term (entry_shape it done) once))
    | inr (unsaid, once) ↦ once
  ],
)

pub once_passed_at : (term : Term) (entries : List Entry) (i : ℕ) (it : Entry) {Whole : Type 0} → i < length entries → it ≡ get_or entries i it
    → ¬ (Mentions (entry_shape it done) term) → StandsOnce term (entries_of (drop i entries)) ↔ Whole
    → StandsOnce term (entries_of (drop (i + 1) entries)) ↔ Whole
once_passed_at term entries i it within is unsaid same =
    once_passed term (drop i entries) (drop (i + 1) entries) it (drop-item entries i it within is) unsaid same

-- ---- groups

-- each entry has a path
some_path : (it : Entry) (others : Entries) → (path : List Step) × (paths (entry_shape it others) ≡ path ∷ paths others)
some_path it others = entry_cases (λ it. (path : List Step) × (paths (entry_shape it others) ≡ path ∷ paths others))
    (λ path term. (path, ap paths (entry-Value path term others))) (λ path inner. (path, ap paths (entry-Group path inner others))) it

pub one_alone : (entries rest : List Entry) (it : Entry) → entries ≡ it ∷ rest → IsOneItem (paths (entries_of entries)) → length rest ≡ 0
one_alone entries [] it is one = refl
one_alone entries (next ∷ rest) it is one =
    let first = some_path it (entries_of (next ∷ rest)) in
    let second = some_path next (entries_of rest) in
    let here : paths (entries_of entries) ≡ first.0 ∷ second.0 ∷ paths (entries_of rest) =
    ap (λ (w : List Entry). paths (entries_of w)) is ∙ first.1 ∙ ap (λ (w : List (List Step)). first.0 ∷ w) second.1 in
    absurd (subst IsOneItem here one)

pub have_paths : (entries : List Entry) → (length entries ≡ 0 → ⊥) → paths (entries_of entries) ≢ []
have_paths [] some = absurd (some refl)
have_paths (it ∷ rest) some =
    let first = some_path it (entries_of rest) in
    λ nothing. let wrong : first.0 ∷ paths (entries_of rest) ≡ [] = sym first.1 ∙ nothing in cc

same_begun : (path : List Step) (name other : List ℕ) → Begins (Name name) path → Begins (Name other) path → name ≡ other
same_begun [] name other never also = absurd never
same_begun (first ∷ path) name other is also = let same : Name name ≡ Name other = sym is ∙ also in cc

pub new_field : (found : Bool) (path : List Step) (name : List ℕ) (others : List (List Step)) → Begins (Name name) path
    → IsTrue found ↔ SomeBegins (Name name) others
    → IsTrue (not found) ↔ ((it : List ℕ) × Begins (Name it) path × ¬ (SomeBegins (Name it) others))
new_field true path name others begins tells = (
  λ e. absurd (false≢true e),
  λ (it, also, none). absurd (none (subst (λ (w : List ℕ). SomeBegins (Name w) others) (same_begun path name it begins also) (tells.0 refl))),
)
new_field false path name others begins tells = ((λ e. (name, begins, λ some. false≢true (tells.1 some))), λ h. refl)

pub one_column_more : (P : ℕ → Type 0) (n : ℕ) → P n → ((k : ℕ) → k < n → P k) → (k : ℕ) → k < n + 1 → P k
one_column_more P n here before k low = elim (cases_eq n k) [
  | inl same ↦ subst P same here
  | inr apart ↦ before k (grind (arith))
]

pub layout_told : (columns : ℕ) (entries : Entries) (each : Bool) → FitTogether (paths entries) → LaidOutWithin columns MAX_LAYOUT_DEPTH entries
    → IsTrue each ↔ ((column : ℕ) → column < columns → StandsOnce (Plain column) entries) → IsTrue each ↔ IsLayout columns entries
layout_told columns entries each together laid tells = (
  λ e. record { together = together; laid_out = laid.0; once = tells.0 e; shallow = laid.1 },
  λ layout. tells.1 layout.once,
)

-- a list that is not found empty
pub no_length : (empty : Bool) (n : ℕ) → empty ≡ (n == 0) → empty ≡ false → n ≡ 0 → ⊥
no_length empty n is not_empty none = let wrong : false ≡ true = sym not_empty ∙ is ∙ ap (λ (k : ℕ). k == 0) none in cc
