-- Facts that are wanted, and the answers of a query over them.
use Rattle.std.proofs.Common.{◌≡◌, ◌⊎◌, inl, inr, ◌==◌, ℕ, ◌+◌, Bool, true, false, cond, filter, List, [], ◌∷◌, ◌++◌, map, take, length}
use Rattle.std.proofs.Common.{get_or, Some, slice_get, Contains, refl, sym, ap, ◌∙◌, subst, arith}
use Rattle.std.proofs.lemmas.Bool.{false≢true, or_left, or_right}
use Rattle.std.proofs.lemmas.Bool.Decides.{nat_tests}
use Rattle.std.proofs.lemmas.List.Elements.{Contains-append_right}
use Rattle.std.proofs.lemmas.Option.{same_Some}
use Rattle.std.proofs.lemmas.Slice.Eq.{bytes_eq-Decides}
use Rattle.std.specs.List.{list_any}
use Rattle.std.specs.Prelude.{◌||◌, ◌<◌, ◌≤◌}
use Rattle.std.specs.Str.{bytes_eq}
use Rattle.esto_docmodel.specs.DocumentFacts.{DocFact, root, field, item, value, below, flat, kind}
use Rattle.esto_docmodel.specs.Encodings.{has_term, has_text, is_among_kind, is_kept, kept}
use Rattle.esto_docmodel.specs.declared.kept.Kept.{Kept}
use Rattle.esto_docmodel.specs.declared.kept.KeptTexts.{KeptTexts}
use Rattle.esto_docmodel.specs.declared.kept.KeptTexts.TheVariants.{Every as EveryText, These}
use Rattle.esto_docmodel.proofs.EncodeLemmas.{all_kept, has_constant}
use Rattle.esto_semantics.specs.Facts.{image}
use Rattle.esto_semantics.specs.Maps.{AreFlat}
use Rattle.esto_semantics.specs.declared.fact.Fact.{Fact}
use Rattle.esto_semantics.specs.declared.fact.Value.{Value}
use Rattle.esto_term.specs.declared.term.Term.{Term, out-Term}
use Rattle.esto_term.specs.declared.term.Term.TheOpen.{Term-F}
use Rattle.esto_term.specs.declared.term.Term.TheVariants.{Const}
use Rattle.esto_term.proofs.ListLemmas.{Contains-cases, Contains-head, Contains-map, Contains-map_from}
use Rattle.esto_term.proofs.ListLemmas.{Contains-nil, Contains-one, Contains-rest}
use Rattle.esto_term.proofs.ListLemmas.{each_more, each_seen, map_at}
use Rattle.esto_fill.specs.Databases.{database_of, value_of}
use Rattle.esto_fill.specs.Laws.{AnswersRestOnWantedFacts}
use Rattle.esto_fill.specs.Wanted.{Admits, AdmitsAll, AdmitsMore, DropsUnasked, Grow, HasAsked, IsAsked, IsKeptFor, IsThere, IsWanted, Leaves, LeavesAsked}
use Rattle.esto_fill.specs.Wanted.{MeetsWant, is_wanted, names}
use Rattle.esto_fill.specs.declared.wanted.Wanted.{Wanted}
use Rattle.esto_fill.specs.declared.wanted.Wanted.TheVariants.{Every, Asked}
use Rattle.esto_fill.proofs.ValueLemmas.{text_constant}

-- ---- tests of lists

there : {X : Type 0} (test : X → Bool) (things : List X) (thing : X) → Contains things thing → test thing ≡ true → list_any test things ≡ true
there test [] thing inside told = absurd (Contains-nil thing inside)
there test (first ∷ rest) thing inside told = elim (Contains-cases first rest thing inside) [
  | inl is ↦ or_left (test first) (list_any test rest) (ap test is ∙ told)
  | inr later ↦ or_right (test first) (list_any test rest) (there test rest thing later told)
]

either_true : (a b : Bool) → (a || b) ≡ true → (a ≡ true) ⊎ (b ≡ true)
either_true true b e = inl refl
either_true false b e = inr e

any_left : {X : Type 0} (test : X → Bool) (xs ys : List X) → list_any test xs ≡ true → list_any test (xs ++ ys) ≡ true
any_left test [] ys told = absurd (false≢true told)
any_left test (x ∷ xs) ys told = elim (either_true (test x) (list_any test xs) told) [
  | inl here ↦ or_left (test x) (list_any test (xs ++ ys)) here
  | inr later ↦ or_right (test x) (list_any test (xs ++ ys)) (any_left test xs ys later)
]

-- ---- texts that are added

-- a text more
pub text_more : (text own : List ℕ) (some more : List (List ℕ)) (texts : KeptTexts) → texts ≡ These some → more ≡ some ++ own ∷ [] → own ≡ text
    → AdmitsMore text texts (These more)
text_more text own some more texts is pushed copied =
    subst (λ those. AdmitsMore text those (These more)) (sym is) (subst (λ those. AdmitsMore text (These some) (These those)) (sym pushed) (
      grows,
      inr (there (λ it. bytes_eq it text) (some ++ own ∷ []) own (Contains-append_right some (own ∷ []) own (Contains-head own []))
          ((bytes_eq-Decides own text).1 copied)),
    ))
  where
    grows : Grow (These some) (These (some ++ own ∷ []))
    grows atom (inl any) = absurd (cc)
    grows atom (inr (it, at, told)) = inr (it, at, any_left (λ other. bytes_eq other it) some (own ∷ []) told)

-- each text
pub every_text : (text : List ℕ) (texts : KeptTexts) → AdmitsMore text texts EveryText
every_text text texts = ((λ atom before. inl refl), inl refl)

-- an atom over another relation
pub other_atom : (relation : ℕ) (atom : Fact Term) (texts : KeptTexts) → (atom.relation ≡ relation → ⊥) → Admits relation (atom ∷ []) texts texts
other_atom relation atom texts apart = (
  (λ it before. before),
  λ it inside same. absurd (apart (ap (λ (its : Fact Term). its.relation) (Contains-one atom it inside) ∙ same)),
)

-- an atom with a constant there
pub atom_text : (relation : ℕ) (atom : Fact Term) (text : List ℕ) (old new : KeptTexts) → slice_get atom.terms 1 ≡ Some (Const text)
    → AdmitsMore text old new → Admits relation (atom ∷ []) old new
atom_text relation atom text old new at more = (
  more.0,
  λ it inside same. subst (IsThere new) (Contains-one atom it inside) (here more.1),
)
  where
    here : (new ≡ EveryText) ⊎ (has_text new text ≡ true) → IsThere new atom
    here (inl any) = inl any
    here (inr told) = inr (text, at, told)

-- an atom with another term there
pub atom_any : (relation : ℕ) (atom : Fact Term) (texts : KeptTexts) → Admits relation (atom ∷ []) texts EveryText
atom_any relation atom texts = ((λ it before. inl refl), λ it inside same. inl refl)

-- one atom more of a body
pub atoms_more : (relation : ℕ) (body : List (Fact Term)) (place : ℕ) (atom : Fact Term) (start old new : KeptTexts) → place < length body
    → atom ≡ get_or body place atom → Admits relation (take place body) start old → Admits relation (atom ∷ []) old new
    → Admits relation (take (place + 1) body) start new
atoms_more relation body place atom start old new within read before own = (
  (λ it first. own.0 it (before.0 it first)),
  each_more (λ (it : Fact Term). it.relation ≡ relation → IsThere new it) body place atom within read (own.1 atom (Contains-head atom []))
      (λ it inside same. own.0 it (before.1 it inside same)),
)

pub atoms_all : (relation : ℕ) (body : List (Fact Term)) (place : ℕ) (start now : KeptTexts) → length body ≤ place
    → Admits relation (take place body) start now → Admits relation body start now
atoms_all relation body place start now past all = (
  all.0,
  each_seen (λ (it : Fact Term). it.relation ≡ relation → IsThere now it) body place past all.1,
)

-- one body more
pub bodies_more : (relation : ℕ) (bodies : List (List (Fact Term))) (place : ℕ) (body : List (Fact Term)) (old new : KeptTexts) → place < length bodies
    → body ≡ get_or bodies place body → AdmitsAll relation (take place bodies) old → Admits relation body old new
    → AdmitsAll relation (take (place + 1) bodies) new
bodies_more relation bodies place body old new within read before own it atom inside =
    each_more (λ (its : List (Fact Term)). (other : Fact Term) → Contains its other → other.relation ≡ relation → IsThere new other) bodies place body
    within read own.1 (λ its among other in_it same. own.0 other (before its other among in_it same)) it inside atom

pub bodies_all : (relation : ℕ) (bodies : List (List (Fact Term))) (place : ℕ) (now : KeptTexts) → length bodies ≤ place
    → AdmitsAll relation (take place bodies) now → AdmitsAll relation bodies now
bodies_all relation bodies place now past all it atom inside =
    each_seen (λ (its : List (Fact Term)). (other : Fact Term) → Contains its other → other.relation ≡ relation → IsThere now other) bodies place past
    (λ its among other. all its other among) it inside atom

-- ---- wanted facts by their relation, and by their second place

asked_relation : (bodies : List (List (Fact Term))) (fact : Fact Term) → IsAsked bodies fact → is_wanted (Asked bodies) fact.relation ≡ true
asked_relation bodies fact (body, atom, m, inside, in_body, keeps, goes) =
    let same : atom.relation ≡ fact.relation = ap (λ (it : Fact Value). it.relation) goes in
    let told : (atom.relation == fact.relation) ≡ true = grind (arith, nat_tests, same) in
    there (names fact.relation) bodies body inside (there (λ (it : Fact Term). it.relation == fact.relation) body atom in_body told)

wanted_relation : (wanted : Wanted) (fact : Fact Term) → IsWanted wanted fact → is_wanted wanted fact.relation ≡ true
wanted_relation Every fact want = refl
wanted_relation (Asked bodies) fact want = asked_relation bodies fact want

second_asked : (bodies : List (List (Fact Term))) (relation : ℕ) (texts : KeptTexts) → AdmitsAll relation bodies texts → (fact : Fact Term)
    → fact.relation ≡ relation → (term : Term) → slice_get fact.terms 1 ≡ Some term → IsAsked bodies fact → has_term texts term ≡ true
second_asked bodies relation texts all fact same term second (body, atom, m, inside, in_body, keeps, goes) =
    by (all body atom inside in_body (ap (λ (it : Fact Value). it.relation) goes ∙ same))
  where
    by : IsThere texts atom → has_term texts term ≡ true
    by (inl any) = ap (λ it. has_term it term) any
    by (inr (text, at, told)) =
        let rows : map m atom.terms ≡ map value_of fact.terms = ap (λ (it : Fact Value). it.terms) goes in
        let one : m (Const text) ≡ value_of term =
        same_Some (m (Const text)) (value_of term) (sym (map_at m atom.terms 1 (Const text) at) ∙ ap (λ those. slice_get those 1) rows
        ∙ map_at value_of fact.terms 1 term second) in
        ap (has_term texts) (text_constant term text (sym one ∙ keeps text)) ∙ has_constant texts text ∙ told

second_wanted : (wanted : Wanted) (relation : ℕ) (texts : KeptTexts) → MeetsWant wanted relation texts → (fact : Fact Term) → fact.relation ≡ relation
    → (term : Term) → slice_get fact.terms 1 ≡ Some term → IsWanted wanted fact → has_term texts term ≡ true
second_wanted Every relation texts any fact same term second want = ap (λ it. has_term it term) any
second_wanted (Asked bodies) relation texts all fact same term second want = second_asked bodies relation texts all.0 fact same term second want

-- of no texts there is none
none_among : (kind : Term-F Term) → is_among_kind [] kind ≡ false
none_among (Term-F.Const text) = refl
none_among (Term-F.Plain n) = refl
none_among (Term-F.Made one two three) = refl

-- no texts meet what is wanted of a relation that no atom has
pub none_wanted : (bodies : List (List (Fact Term))) (relation : ℕ) → is_wanted (Asked bodies) relation ≡ false
    → MeetsWant (Asked bodies) relation (These [])
none_wanted bodies relation told = (
  (λ body atom inside in_body same.
      let one : (atom.relation == relation) ≡ true = grind (arith, nat_tests, same) in
      absurd (false≢true (sym told
      ∙ there (names relation) bodies body inside (there (λ (it : Fact Term). it.relation == relation) body atom in_body one)))),
  λ _. refl,
)

-- and where an atom has it, those at the second place do
pub some_wanted : (bodies : List (List (Fact Term))) (relation : ℕ) → is_wanted (Asked bodies) relation ≡ true
    → (texts : KeptTexts) → AdmitsAll relation bodies texts → MeetsWant (Asked bodies) relation texts
some_wanted bodies relation told texts all = (all, λ none. absurd (false≢true (sym none ∙ told)))

-- where a text is kept, its relation is wanted
text_wanted : (wanted : Wanted) (relation : ℕ) (texts : KeptTexts) → MeetsWant wanted relation texts → (term : Term) → has_term texts term ≡ true
    → is_wanted wanted relation ≡ true
text_wanted Every relation texts any term kept = refl
text_wanted (Asked bodies) relation texts all term kept = by (is_wanted (Asked bodies) relation) refl
  where
    by : (answer : Bool) → is_wanted (Asked bodies) relation ≡ answer → answer ≡ true
    by true is = refl
    by false is = absurd (false≢true (sym (none_among (out-Term term)) ∙ ap (λ it. has_term it term) (sym (all.1 is)) ∙ kept))

-- ---- facts of documents

-- each of the five by its number
pub kept_each : (wanted : Wanted) (base : ℕ) (relations : Kept) → relations.base ≡ base → relations.root ≡ is_wanted wanted base
    → MeetsWant wanted (base + 1) relations.field → relations.item ≡ is_wanted wanted (base + 2) → MeetsWant wanted (base + 3) relations.value
    → relations.below ≡ is_wanted wanted (base + 4) → IsKeptFor wanted base relations
kept_each wanted base relations same roots fields items values belows = record { from_base = same; each = by; others = of_wanted }
  where
    by : (fact : DocFact Term) → IsWanted wanted (flat base fact) → is_kept relations fact ≡ true
    by (root n) want = roots ∙ ap (is_wanted wanted) (omega arith) ∙ wanted_relation wanted (flat base (root n)) want
    by (field p k n) want = second_wanted wanted (base + 1) relations.field fields (flat base (field p k n)) refl k refl want
    by (item p n) want = items ∙ wanted_relation wanted (flat base (item p n)) want
    by (value n text) want = second_wanted wanted (base + 3) relations.value values (flat base (value n text)) refl text refl want
    by (below a n) want = belows ∙ wanted_relation wanted (flat base (below a n)) want

    of_wanted : (fact : DocFact Term) → is_kept relations fact ≡ true → is_wanted wanted (base + kind fact) ≡ true
    of_wanted (root n) kept = ap (is_wanted wanted) (omega arith) ∙ sym roots ∙ kept
    of_wanted (field p k n) kept = text_wanted wanted (base + 1) relations.field fields k kept
    of_wanted (item p n) kept = sym items ∙ kept
    of_wanted (value n text) kept = text_wanted wanted (base + 3) relations.value values text kept
    of_wanted (below a n) kept = sym belows ∙ kept

kept_asked : (bodies : List (List (Fact Term))) (base : ℕ) (relations : Kept) → IsKeptFor (Asked bodies) base relations → (facts : List (DocFact Term))
    → LeavesAsked bodies (map (flat base) facts) (kept relations facts)
kept_asked bodies base relations are [] = refl
kept_asked bodies base relations are (fact ∷ facts) = by (is_kept relations fact) refl (kept_asked bodies base relations are facts)
  where
    by : (answer : Bool) → is_kept relations fact ≡ answer → LeavesAsked bodies (map (flat base) facts) (kept relations facts)
        → LeavesAsked bodies (flat base fact ∷ map (flat base) facts)
        (map (flat relations.base) (cond answer (fact ∷ filter (is_kept relations) facts) (filter (is_kept relations) facts)))
    by true told before =
        (kept relations facts, before, inl (ap (λ n. flat n fact ∷ kept relations facts) are.from_base, are.others fact told))
    by false told before = (kept relations facts, before, inr (refl, λ asked. false≢true (sym told ∙ are.each fact asked)))

pub kept_leaves : (wanted : Wanted) (base : ℕ) (relations : Kept) → IsKeptFor wanted base relations → (facts : List (DocFact Term))
    → Leaves wanted (map (flat base) facts) (kept relations facts)
kept_leaves Every base relations are facts =
    all_kept relations (λ fact. are.each fact tt) facts ∙ ap (λ (n : ℕ). map (flat n) facts) are.from_base
kept_leaves (Asked bodies) base relations are facts = kept_asked bodies base relations are facts

-- ---- facts of one relation

abbrev pub AreOver : ℕ → List (Fact Term) → Type 0
AreOver relation facts = (fact : Fact Term) → Contains facts fact → fact.relation ≡ relation

module _ (bodies : List (List (Fact Term))) (relation : ℕ) where
  all_left : is_wanted (Asked bodies) relation ≡ true → (facts : List (Fact Term)) → AreOver relation facts → LeavesAsked bodies facts facts
  all_left told [] over = refl
  all_left told (fact ∷ facts) over = (
    facts,
    all_left told facts (λ it inside. over it (Contains-rest fact facts it inside)),
    inl (refl, ap (is_wanted (Asked bodies)) (over fact (Contains-head fact facts)) ∙ told),
  )

  none_left : is_wanted (Asked bodies) relation ≡ false → (facts : List (Fact Term)) → AreOver relation facts → LeavesAsked bodies facts []
  none_left told [] over = refl
  none_left told (fact ∷ facts) over = (
    [],
    none_left told facts (λ it inside. over it (Contains-rest fact facts it inside)),
    inr (
      refl,
      λ asked. false≢true (sym told ∙ ap (is_wanted (Asked bodies)) (sym (over fact (Contains-head fact facts))) ∙ asked_relation bodies fact asked),
    ),
  )

pub chosen : (wanted : Wanted) (relation : ℕ) (facts some : List (Fact Term)) → AreOver relation facts → (is_wanted wanted relation ≡ true → some ≡ facts)
    → (is_wanted wanted relation ≡ false → some ≡ []) → Leaves wanted facts some
chosen Every relation facts some over all none = all refl
chosen (Asked bodies) relation facts some over all none = by (is_wanted (Asked bodies) relation) refl
  where
    by : (answer : Bool) → is_wanted (Asked bodies) relation ≡ answer → LeavesAsked bodies facts some
    by true is = subst (LeavesAsked bodies facts) (sym (all is)) (all_left bodies relation is facts over)
    by false is = subst (LeavesAsked bodies facts) (sym (none is)) (none_left bodies relation is facts over)

-- ---- what is left

asked_append : (bodies : List (List (Fact Term))) (facts some others more : List (Fact Term)) → LeavesAsked bodies facts some → LeavesAsked bodies others more
    → LeavesAsked bodies (facts ++ others) (some ++ more)
asked_append bodies [] some others more empty two = subst (λ those. LeavesAsked bodies others (those ++ more)) (sym empty) two
asked_append bodies (fact ∷ facts) some others more (rest, before, inl (is, told)) two =
    (rest ++ more, asked_append bodies facts rest others more before two, inl (ap (λ those. those ++ more) is, told))
asked_append bodies (fact ∷ facts) some others more (rest, before, inr (is, free)) two =
    (rest ++ more, asked_append bodies facts rest others more before two, inr (ap (λ those. those ++ more) is, free))

pub leaves_append : (wanted : Wanted) (facts some others more : List (Fact Term)) → Leaves wanted facts some → Leaves wanted others more
    → Leaves wanted (facts ++ others) (some ++ more)
leaves_append Every facts some others more one two = ap (λ those. those ++ more) one ∙ ap (λ those. facts ++ those) two
leaves_append (Asked bodies) facts some others more one two = asked_append bodies facts some others more one two

module _ (bodies : List (List (Fact Term))) where
  -- what is left of a list drops what is not asked for
  pub leaves_drop : (facts some : List (Fact Term)) → LeavesAsked bodies facts some → DropsUnasked bodies facts some
  leaves_drop [] some empty = empty
  leaves_drop (first ∷ facts) some (rest, before, inl (is, told)) = (rest, leaves_drop facts rest before, inl is)
  leaves_drop (first ∷ facts) some (rest, before, inr dropped) = (rest, leaves_drop facts rest before, inr dropped)

  left_inside : (facts some : List (Fact Term)) → DropsUnasked bodies facts some → (fact : Fact Term) → Contains some fact → Contains facts fact
  left_inside [] some empty fact inside = subst (λ those. Contains those fact) empty inside
  left_inside (first ∷ facts) some (rest, before, inl is) fact inside =
      elim (Contains-cases first rest fact (subst (λ those. Contains those fact) is inside)) [
        | inl same ↦ subst (Contains (first ∷ facts)) same (Contains-head first facts)
        | inr later ↦ Contains-rest first facts fact (left_inside facts rest before fact later)
      ]
  left_inside (first ∷ facts) some (rest, before, inr (is, free)) fact inside =
      Contains-rest first facts fact (left_inside facts rest before fact (subst (λ those. Contains those fact) is inside))

  asked_left : (facts some : List (Fact Term)) → DropsUnasked bodies facts some → (fact : Fact Term) → Contains facts fact → IsAsked bodies fact
      → Contains some fact
  asked_left [] some empty fact inside asked = absurd (Contains-nil fact inside)
  asked_left (first ∷ facts) some (rest, before, inl is) fact inside asked =
      subst (λ those. Contains those fact) (sym is) (elim (Contains-cases first facts fact inside) [
        | inl same ↦ subst (Contains (first ∷ rest)) same (Contains-head first rest)
        | inr later ↦ Contains-rest first rest fact (asked_left facts rest before fact later asked)
      ])
  asked_left (first ∷ facts) some (rest, before, inr (is, free)) fact inside asked =
      subst (λ those. Contains those fact) (sym is) (elim (Contains-cases first facts fact inside) [
        | inl same ↦ absurd (free (subst (IsAsked bodies) (sym same) asked))
        | inr later ↦ asked_left facts rest before fact later asked
      ])

  pub drops_has : (facts some : List (Fact Term)) → DropsUnasked bodies facts some → HasAsked bodies facts some
  drops_has facts some drops = (left_inside facts some drops, asked_left facts some drops)

  pub has_asked : (facts some : List (Fact Term)) → LeavesAsked bodies facts some → HasAsked bodies facts some
  has_asked facts some leaves = drops_has facts some (leaves_drop facts some leaves)

pub leaves_flat : (wanted : Wanted) (facts some : List (Fact Term)) → Leaves wanted facts some → AreFlat facts → AreFlat some
leaves_flat Every facts some is all = subst AreFlat (sym is) all
leaves_flat (Asked bodies) facts some leaves all = λ term (fact, inside, at). all term (fact, (has_asked bodies facts some leaves).0 fact inside, at)

pub leaves_none : (wanted : Wanted) (some : List (Fact Term)) → some ≡ [] → Leaves wanted [] some
leaves_none Every some empty = empty
leaves_none (Asked bodies) some empty = empty

-- ---- answers

pub answers_rest_on_wanted_facts : AnswersRestOnWantedFacts
answers_rest_on_wanted_facts bodies facts some query values has named = (
  (λ (m, keeps, sends, is). (
    m,
    keeps,
    (λ atom inside.
        let from = Contains-map_from (image value_of) some (image m atom) (sends atom inside) in
        subst (Contains (database_of facts)) from.2 (Contains-map (image value_of) facts from.0 (has.0 from.0 from.1))),
    is,
  )),
  (λ (m, keeps, sends, is). (
    m,
    keeps,
    (λ atom inside.
        let from = Contains-map_from (image value_of) facts (image m atom) (sends atom inside) in
        subst (Contains (database_of some)) from.2
        (Contains-map (image value_of) some from.0 (has.1 from.0 from.1 (query.body, atom, m, named, inside, keeps, sym from.2)))),
    is,
  )),
)
