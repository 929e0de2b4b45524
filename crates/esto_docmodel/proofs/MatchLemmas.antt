-- A pattern's matches in a tree, from the rows of its query.
use Rattle.std.proofs.Common.{◌≡◌, ◌⊎◌, ◌↔◌, ℕ, suc, ◌<◌, cond, List, [], ◌∷◌, length, map, get_or, Contains, AllPairs, Option, Some, None, IsSome, refl, sym}
use Rattle.std.proofs.Common.{ap, ◌∙◌, subst, inl, inr, arith}
use Rattle.std.proofs.lemmas.Bool.{cases_eq}
use Rattle.std.proofs.lemmas.List.{length-map, get_or-map}
use Rattle.std.proofs.lemmas.List.Elements.{Contains-get_or}
use Rattle.std.proofs.lemmas.Option.{none-some, same_Some}
use Rattle.std.specs.Cmp.{nat_cmp_total, tied_itself}
use Rattle.std.specs.Cmp.Lexicographic.{slice_cmp}
use Rattle.std.specs.FinMap.{get, empty, insert, get-empty, get-insert}
use Rattle.std.specs.Ordering.{nat_cmp, ordering_then}
use Rattle.std.specs.declared.cmp.Ordering.{Ordering}
use Rattle.std.specs.declared.cmp.Ordering.TheVariants.{Less, Equal, Greater}
use Rattle.esto_term.proofs.ListLemmas.{Contains-nil, Contains-head, Contains-rest, Contains-cases, Contains-map, Contains-map_from, map_agree}
use Rattle.esto_term.proofs.OrderLemmas.{term_cmp_total, term_cmp_exact}
use Rattle.esto_term.specs.Order.{term_cmp}
use Rattle.esto_term.specs.declared.term.Term.{Term}
use Rattle.esto_term.specs.declared.term.Term.TheVariants.{Const, Plain}
use Rattle.esto_semantics.specs.Maps.{IsConstant, Keeps, Sends}
use Rattle.esto_semantics.specs.Queries.{IsAnswerInto}
use Rattle.esto_semantics.specs.declared.fact.Fact.{Fact}
use Rattle.esto_query.specs.Rows.{IsAscending}
use Rattle.esto_semantics.specs.Valuations.{Assignment, Extends}
use Rattle.esto_semantics.proofs.ValuationLemmas.{other_key, same_key}
use Rattle.esto_docmodel.specs.Encodings.{facts_of}
use Rattle.esto_docmodel.specs.Forests.{Label, Node, Forest, place, kid, none, HasKid}
use Rattle.esto_docmodel.specs.Matching.{AreVariables, AreRows, head_of, IsEncoding, given, valuation_of}
use Rattle.esto_docmodel.specs.Meanings.{AgreeAfter}
use Rattle.esto_docmodel.specs.Patterns.{Entries, done, holds, group, Matches, Mentions}
use Rattle.esto_docmodel.specs.Valuations.{HaveFlatTerms, AreMatches, BindsVariables, GivesTexts, ComesBefore}
use Rattle.esto_docmodel.proofs.ExtendingLemmas.{matches_on}
use Rattle.esto_docmodel.proofs.SameLemmas.{means_the_same}

-- ---- the terms of variables

module _ (known : Assignment) (variable : ℕ) (term : Term) where
  value_here : (other : ℕ) → variable ≡ other → get (insert known variable term) other ≡ Some term
  value_here other is = get-insert nat_cmp_total known variable term other ∙ ap (λ b. cond b (Some term) (get known other)) (same_key variable other is)

  value_other : (other : ℕ) → (variable ≡ other → ⊥) → get (insert known variable term) other ≡ get known other
  value_other other apart = get-insert nat_cmp_total known variable term other ∙ ap (λ b. cond b (Some term) (get known other)) (other_key variable other apart)

extends_more : (m : Term → Term) (known : Assignment) (variable : ℕ) → Extends m known → Extends m (insert known variable (m (Plain variable)))
extends_more m known variable extends other term at = elim (cases_eq variable other) [
  | inl is ↦ ap (λ (n : ℕ). m (Plain n)) (sym is) ∙ same_Some _ _ (sym (value_here known variable (m (Plain variable)) other is) ∙ at)
  | inr apart ↦ extends other term (sym (value_other known variable (m (Plain variable)) other apart) ∙ at)
]

given_extends : (m : Term → Term) (variables : List ℕ) (known : Assignment) → Extends m known → Extends m (given known variables (map m (map Plain variables)))
given_extends m [] known extends = extends
given_extends m (v ∷ vs) known extends = given_extends m vs (insert known v (m (Plain v))) (extends_more m known v extends)

given_some : (variables : List ℕ) (terms : List Term) (known : Assignment) (variable : ℕ) → length terms ≡ length variables
    → IsSome (get (given known variables terms) variable) ↔ (IsSome (get known variable) ⊎ Contains variables variable)
given_some [] terms known variable long = (λ some. inl some, λ either. elim either [ inl some ↦ some | inr never ↦ absurd (Contains-nil variable never) ])
given_some (v ∷ vs) [] known variable long = absurd (omega (arith, long))
given_some (v ∷ vs) (t ∷ ts) known variable long =
    let more = given_some vs ts (insert known v t) variable (omega (arith, long)) in
    elim (cases_eq v variable) [
      | inl is ↦ (
        λ some. inr (subst (Contains (v ∷ vs)) is (Contains-head v vs)),
        λ either. more.1 (inl (subst (λ (o : Option Term). IsSome o) (sym (value_here known v t variable is)) refl)),
      )
      | inr apart ↦ (
        λ some. elim (more.0 some) [
          | inl old ↦ inl (subst (λ (o : Option Term). IsSome o) (value_other known v t variable apart) old)
          | inr later ↦ inr (Contains-rest v vs variable later)
        ],
        λ either. elim either [
          | inl old ↦ more.1 (inl (subst (λ (o : Option Term). IsSome o) (sym (value_other known v t variable apart)) old))
          | inr there ↦ elim (Contains-cases v vs variable there) [ inl is ↦ absurd (apart is) | inr later ↦ more.1 (inr later) ]
        ],
      )
    ]

-- the value that the map says
said_value : (m : Term → Term) (known : Assignment) (variable : ℕ) → Extends m known → IsSome (get known variable)
    → get known variable ≡ Some (m (Plain variable))
said_value m known variable extends some = by (get known variable) refl some
  where
    by : (found : Option Term) → get known variable ≡ found → IsSome found → found ≡ Some (m (Plain variable))
    by None at some = absurd cc
    by (Some term) at some = ap (λ (w : Term). Some w) (sym (extends variable term at))

is_some : {A : Type 0} (found : Option A) (thing : A) → found ≡ Some thing → IsSome found
is_some {A} found thing is = subst (λ (o : Option A). IsSome o) (sym is) refl

-- the valuation of a row that a map makes
module _ (m : Term → Term) (variables : List ℕ) where
  abbrev made : Assignment
  made = valuation_of variables (map m (head_of variables))

  made_extends : Extends m made
  made_extends = given_extends m variables empty (λ v t at. absurd (none-some t (sym (get-empty nat_cmp v) ∙ at)))

  made_some : (variable : ℕ) → IsSome (get made variable) ↔ Contains variables variable
  made_some variable =
      let more = given_some variables (map m (map Plain variables)) empty variable (length-map (map Plain variables) m ∙ length-map variables Plain) in (
        λ some. elim (more.0 some) [ inl old ↦ absurd (by (get empty variable) (get-empty nat_cmp variable) old) | inr there ↦ there ],
        λ there. more.1 (inr there),
      )
    where
      by : (found : Option Term) → found ≡ None → IsSome found → ⊥
      by found absent some = cc

  made_value : (variable : ℕ) → Contains variables variable → get made variable ≡ Some (m (Plain variable))
  made_value variable there = said_value m made variable made_extends ((made_some variable).1 there)

-- ---- matches

-- each term after `:` goes to a text
pub matched_text : (m : Term → Term) (entries : Entries) (start : Node) (term : Term) → Matches m entries start → Mentions entries term → IsConstant (m term)
matched_text m done start term matches never = absurd never
matched_text m (holds path first rest) start term ((found, leads, (text, content, is)), others) (inl same) = (text, ap m (sym same) ∙ is)
matched_text m (holds path first rest) start term (here, others) (inr later) = matched_text m rest start term others later
matched_text m (group path inner rest) start term ((found, leads, matches), others) (inl inside) = matched_text m inner found term matches inside
matched_text m (group path inner rest) start term (here, others) (inr later) = matched_text m rest start term others later

-- one document
abbrev pub one : Node → Forest
one start = kid place start.content start.inside none

module _ (entries : Entries) (start : Node) (variables : List ℕ) (said : AreVariables entries variables) (facts body : List (Fact Term))
    (are_facts : facts ≡ facts_of 0 0 (one start)) (encode : IsEncoding entries body) where
  from_query : (m : Term → Term) → Keeps Const m → Sends m body facts → Matches m entries start
  from_query m keeps sends =
      let (root, next, fresh, is) = encode in
      let sends_all = rw (is, are_facts) at sends in
      let found = (means_the_same 0 0 (one start) entries root next fresh m keeps).0 (m, keeps, sends_all, λ term h. refl) in
      by found.0 found.1.0 found.1.1 found.2
    where
      by : (found : Node) (label : Label) → HasKid (one start) label found → Matches m entries found → Matches m entries start
      by found label (inl (same, is)) matches = subst (Matches m entries) (sym is) matches
      by found label (inr never) matches = absurd never

  to_query : (m : Term → Term) → Keeps Const m → Matches m entries start
      → (other : Term → Term) × Keeps Const other × Sends other body facts × AgreeAfter entries m other
  to_query m keeps matches =
      let (root, next, fresh, is) = encode in
      let (other, kept, sends, agree) = (means_the_same 0 0 (one start) entries root next fresh m keeps).1 (start, (place, inl (refl, refl)), matches) in
      (other, kept, rw (is, are_facts) sends, agree)

  heads_agree : (m other : Term → Term) → Keeps Const m → Keeps Const other → AgreeAfter entries m other
      → map m (head_of variables) ≡ map other (head_of variables)
  heads_agree m other keeps kept agree = map_agree m other (head_of variables)
      (λ term inside. elim (Contains-cases (Const []) (map Plain variables) term inside) [
        | inl is ↦ ap m (sym is) ∙ keeps [] ∙ sym (kept []) ∙ ap other is
        | inr later ↦
            let (v, there, is) = Contains-map_from Plain variables term later in
            ap m (sym is) ∙ agree (Plain v) ((said v).0 there) ∙ ap other is
      ])

  pub are_rows : (rows : List (List Term))
      → ((row : List Term) → Contains rows row ↔ IsAnswerInto Const (record { head = head_of variables; body = body }) (Contains facts) row)
      → AreRows entries start variables rows
  are_rows rows answers row = (
    λ inside. let (m, keeps, sends, is) = (answers row).0 inside in (m, keeps, from_query m keeps sends, is),
    λ (m, keeps, matches, is).
        let (other, kept, sends, agree) = to_query m keeps matches in
        (answers row).1 (other, kept, sends, is ∙ heads_agree m other keeps kept agree),
  )

module _ (entries : Entries) (start : Node) (variables : List ℕ) (rows : List (List Term)) (said : AreVariables entries variables)
    (told : AreRows entries start variables rows) where
  -- a valuation comes from a match
  valuation_match : (valuation : Assignment) → Contains (map (valuation_of variables) rows) valuation
      → (m : Term → Term) × Keeps Const m × Matches m entries start × (made m variables ≡ valuation)
  valuation_match valuation inside =
      let (row, there, is) = Contains-map_from (valuation_of variables) rows valuation inside in
      let (m, keeps, matches, made_is) = (told row).0 there in
      (m, keeps, matches, ap (valuation_of variables) (sym made_is) ∙ is)

  pub are_matches : HaveFlatTerms entries → AreMatches entries start (map (valuation_of variables) rows)
  are_matches flat m keeps = (
    λ matches. (
      made m variables,
      Contains-map (valuation_of variables) rows (map m (head_of variables)) ((told (map m (head_of variables))).1 (m, keeps, matches, refl)),
      made_extends m variables,
    ),
    λ (valuation, inside, extends).
        let (other, kept, matches, is) = valuation_match valuation inside in
        matches_on other m entries start
        (λ term h. elim (flat term h) [
          | inl (text, constant) ↦ ap other constant ∙ kept text ∙ sym (keeps text) ∙ ap m (sym constant)
          | inr (v, plain) ↦
              let at = made_value other variables v ((said v).1 (subst (Mentions entries) plain h)) in
              ap other plain ∙ sym (extends v (other (Plain v)) (ap (λ (w : Assignment). get w v) (sym is) ∙ at)) ∙ ap m (sym plain)
        ])
        matches,
  )

  pub bind_variables : (valuation : Assignment) → Contains (map (valuation_of variables) rows) valuation → BindsVariables entries valuation
  bind_variables valuation inside v =
      let (m, keeps, matches, is) = valuation_match valuation inside in
      subst (λ (w : Assignment). IsSome (get w v) ↔ Mentions entries (Plain v)) is
      (λ some. (said v).0 ((made_some m variables v).0 some), λ h. (made_some m variables v).1 ((said v).1 h))

  pub give_texts : (valuation : Assignment) → Contains (map (valuation_of variables) rows) valuation → GivesTexts valuation
  give_texts valuation inside v term at =
      let (m, keeps, matches, is) = valuation_match valuation inside in
      let here : get (made m variables) v ≡ Some term = ap (λ (w : Assignment). get w v) is ∙ at in
      subst IsConstant (made_extends m variables v term here)
      (matched_text m entries start (Plain v) matches ((said v).0 ((made_some m variables v).0 (is_some _ term here))))

  pub rows_long : (row : List Term) → Contains rows row → length row ≡ suc (length variables)
  rows_long row inside =
      let (m, keeps, matches, is) = (told row).0 inside in
      ap length is ∙ ap suc (length-map (map Plain variables) m ∙ length-map variables Plain)

-- ---- order

-- the first variable that tells two rows apart
abbrev Parts : (Term → Term) → (Term → Term) → List ℕ → Type 0
Parts m other variables = (variable : ℕ) × Contains variables variable × (term_cmp (m (Plain variable)) (other (Plain variable)) ≡ Less)
    × ((earlier : ℕ) → Contains variables earlier → earlier < variable → m (Plain earlier) ≡ other (Plain earlier))

module _ (m other : Term → Term) where
  parted : (variables : List ℕ) → AllPairs ◌<◌ variables → slice_cmp term_cmp (map m (map Plain variables)) (map other (map Plain variables)) ≡ Less
      → Parts m other variables
  parted [] rising less = absurd cc
  parted (v ∷ vs) rising less = by (parted vs later_rising) (term_cmp (m (Plain v)) (other (Plain v))) refl less
    where
      lower : (w : ℕ) → Contains vs w → v < w
      lower w (k, within, is) = subst (λ (n : ℕ). v < n) is (rising 0 (suc k) w (omega arith) (omega (arith, within)))

      later_rising : AllPairs ◌<◌ vs
      later_rising i j d before within = rising (suc i) (suc j) d (omega (arith, before)) (omega (arith, within))

      rest_parts : m (Plain v) ≡ other (Plain v) → Parts m other vs → Parts m other (v ∷ vs)
      rest_parts same (w, there, less, before) = (
        w,
        Contains-rest v vs w there,
        less,
        λ earlier inside low. elim (Contains-cases v vs earlier inside) [
          | inl is ↦ subst (λ (n : ℕ). m (Plain n) ≡ other (Plain n)) is same
          | inr later ↦ before earlier later low
        ],
      )

      by : (slice_cmp term_cmp (map m (map Plain vs)) (map other (map Plain vs)) ≡ Less → Parts m other vs) → (order : Ordering)
          → term_cmp (m (Plain v)) (other (Plain v)) ≡ order
          → ordering_then order (slice_cmp term_cmp (map m (map Plain vs)) (map other (map Plain vs))) ≡ Less → Parts m other (v ∷ vs)
      by later Less is less = (
        v,
        Contains-head v vs,
        is,
        λ earlier inside low. elim (Contains-cases v vs earlier inside) [
          | inl same ↦ absurd (omega (arith, low, same))
          | inr rest ↦ absurd (let above = lower earlier rest in omega (arith, low, above))
        ],
      )
      by later Equal is less = rest_parts (term_cmp_exact _ _ is) (later less)
      by later Greater is less = absurd cc

  -- rows in order give valuations in order
  come_before : (variables : List ℕ) → AllPairs ◌<◌ variables → Keeps Const m → Keeps Const other
      → slice_cmp term_cmp (map m (head_of variables)) (map other (head_of variables)) ≡ Less → ComesBefore (made m variables) (made other variables)
  come_before variables rising keeps kept less =
      let constants : term_cmp (m (Const [])) (other (Const [])) ≡ Equal = rw (keeps [], kept []) (tied_itself term_cmp_total (Const [])) in
      let rows = slice_cmp term_cmp (map m (map Plain variables)) (map other (map Plain variables)) in
      let later : rows ≡ Less = ap (λ (order : Ordering). ordering_then order rows) (sym constants) ∙ less in
      let (v, there, lesser, before) = parted variables rising later in (
        v,
        m (Plain v),
        other (Plain v),
        made_value m variables v there,
        made_value other variables v there,
        lesser,
        λ earlier low. same_value variables earlier (λ inside. before earlier inside low),
      )
    where
      same_value : (variables : List ℕ) (v : ℕ) → (Contains variables v → m (Plain v) ≡ other (Plain v))
          → get (made m variables) v ≡ get (made other variables) v
      same_value variables v same = by (get (made m variables) v) (get (made other variables) v) refl refl
        where
          by : (one two : Option Term) → get (made m variables) v ≡ one → get (made other variables) v ≡ two
              → get (made m variables) v ≡ get (made other variables) v
          by None None at also = at ∙ sym also
          by None (Some term) at also =
              absurd (none-some _ (sym at ∙ made_value m variables v ((made_some other variables v).0 (is_some _ term also))))
          by (Some term) two at also =
              let there = (made_some m variables v).0 (is_some _ term at) in
              made_value m variables v there ∙ ap (λ (w : Term). Some w) (same there) ∙ sym (made_value other variables v there)

pub are_ascending : (entries : Entries) (start : Node) (variables : List ℕ) (rows : List (List Term)) → AllPairs ◌<◌ variables
    → AreRows entries start variables rows → IsAscending rows → AllPairs ComesBefore (map (valuation_of variables) rows)
are_ascending entries start variables rows rising told ascending i j d before within =
    let low : j < length rows = rw (length-map rows (valuation_of variables)) at within in
    let lower : i < length rows = omega (arith, before, low) in
    let (m, keeps, matches, is) = (told (get_or rows i [])).0 (Contains-get_or rows i [] lower) in
    let (other, kept, also_matches, also) = (told (get_or rows j [])).0 (Contains-get_or rows j [] low) in
    let less = come_before m other variables rising keeps kept (rw (is, also) at (ascending i j [] before low)) in
    subst (λ (w : Assignment). ComesBefore w (get_or (map (valuation_of variables) rows) j d))
    (ap (valuation_of variables) (sym is) ∙ sym (get_or-map (valuation_of variables) rows i [] d lower))
    (subst (λ (w : Assignment). ComesBefore (made m variables) w)
    (ap (valuation_of variables) (sym also) ∙ sym (get_or-map (valuation_of variables) rows j [] d low)) less)
