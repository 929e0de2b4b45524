-- The entries of facts, the marks of the fresh ones, and the facts joined.
use Rattle.std.proofs.Common.{◌≡◌, ◌⊎◌, ◌↔◌, inl, inr, ℕ, zero, suc, ◌+◌, ◌<◌, ◌≤◌, Bool, true, false, cond, List, [], ◌∷◌, ◌++◌}
use Rattle.std.proofs.Common.{length, get_or, take, drop, Contains, slice_get, Some, refl, sym, ap, ◌∙◌, subst, arith, length-append, append_assoc}
use Rattle.std.specs.List.Sorted.{IsPermutation}
use Rattle.std.specs.Set.{is_member}
use Rattle.std.proofs.lemmas.Bool.{cases_order}
use Rattle.std.proofs.lemmas.List.{drop_more, append-nil, length-take}
use Rattle.std.proofs.lemmas.List.Elements.{Contains-append_left, Contains-push, Contains-push_cases}
use Rattle.std.proofs.lemmas.List.Sorted.{Contains-permutation, IsPermutation-sym}
use Rattle.std.proofs.lemmas.Map.Made.{is_member-Decides}
use Rattle.std.proofs.lemmas.Option.{slice_get_within, get_or_from_slice_get}
use Rattle.esto_term.specs.declared.term.Term.{Term}
use Rattle.esto_term.proofs.ListLemmas.{Contains-cases, Contains-head, Contains-nil, Contains-rest, at_left, at_pushed, at_right, Contains-pushed}
use Rattle.esto_term.proofs.PlaceLemmas.{Contains-take, Contains-take_from, drop-item, take-item}
use Rattle.esto_semantics.specs.Listed.{chosen}
use Rattle.esto_semantics.specs.declared.fact.Fact.{Fact}
use Rattle.esto_chase_laws.specs.Joined.{joined, same_fact}
use Rattle.esto_chase_laws.proofs.JoinedLemmas.{joined_one, one_from, one_has, same_fact-Decides}
use Rattle.esto_instance.specs.Fresh.{IsEntry, HasEntry, IsOld, IsNew, Adds, AreEntries, IsFirstRank, IsEarlier, AreFresh}
use Rattle.esto_instance.specs.declared.fresh.Entry.{Entry}

-- ---- entries, one after the other

adds_none : (IsSo : Fact Term → ℕ → Type 0) → ((fact : Fact Term) (rank : ℕ) → IsSo fact rank → ⊥) → (entries : List Entry) → Adds IsSo entries entries
adds_none IsSo none entries = record {
  kept = λ entry inside. inside;
  has = λ fact rank is. absurd (none fact rank is);
  only = λ entry inside. inl inside;
}

module _ (IsSo Then : Fact Term → ℕ → Type 0) (fact : Fact Term) (rank : ℕ)
    (more : (it : Fact Term) (other : ℕ) → Then it other → IsSo it other ⊎ ((fact ≡ it) × (rank ≡ other)))
    (still : (it : Fact Term) (other : ℕ) → IsSo it other → Then it other) (here : Then fact rank)
    (old now new : List Entry) (entry : Entry) (pushed : new ≡ now ++ entry ∷ []) (is_entry : IsEntry fact rank entry) where
  adds_more : Adds IsSo old now → Adds Then old new
  adds_more so_far = record {
    kept = λ it inside. Contains-pushed now new entry it pushed (so_far.kept it inside);
    has = λ it other is. elim (more it other is) [
      | inl earlier ↦ let found = so_far.has it other earlier in (found.0, Contains-pushed now new entry found.0 pushed found.1, found.2)
      | inr same ↦ (entry, subst (λ all. Contains all entry) (sym pushed) (Contains-push now entry), (is_entry.0 ∙ same.0, is_entry.1 ∙ same.1))
    ];
    only = λ it inside. elim (Contains-push_cases now entry it (subst (λ all. Contains all it) pushed inside)) [
      | inl earlier ↦ elim (so_far.only it earlier) [
        | inl was ↦ inl was
        | inr is ↦ inr (still it.fact.now it.rank is)
      ]
      | inr same ↦ inr (subst (λ (e : Entry). Then e.fact.now e.rank) same
          (subst (λ (pair : Fact Term × ℕ). Then pair.0 pair.1) (λ i. (sym is_entry.0 i, sym is_entry.1 i)) here))
    ];
  }

pub old_none : (entries : List Entry) → Adds (IsOld []) entries entries
old_none entries = adds_none (IsOld []) (λ fact rank is. Contains-nil fact is.0) entries

pub old_more : (facts : List (Fact Term)) (place : ℕ) (fact : Fact Term) → place < length facts → fact ≡ get_or facts place fact
    → (old now new : List Entry) (entry : Entry) → new ≡ now ++ entry ∷ [] → IsEntry fact 0 entry
    → Adds (IsOld (take place facts)) old now → Adds (IsOld (take (place + 1) facts)) old new
old_more facts place fact within is =
    let whole = take-item facts place fact within is in
    adds_more (IsOld (take place facts)) (IsOld (take (place + 1) facts)) fact 0
    (λ it other (inside, none). elim (Contains-push_cases (take place facts) fact it (subst (λ all. Contains all it) whole inside)) [
      | inl earlier ↦ inl (earlier, none)
      | inr same ↦ inr (same, sym none)
    ])
    (λ it other (inside, none). (subst (λ all. Contains all it) (sym whole) (Contains-append_left (take place facts) (fact ∷ []) it inside), none))
    (subst (λ all. Contains all fact) (sym whole) (Contains-push (take place facts) fact), refl)

pub new_none : (entries : List Entry) → Adds (IsNew []) entries entries
new_none entries = adds_none (IsNew []) (λ fact rank is. let wrong = is.1 in cc) entries

pub new_more : (facts : List (Fact Term)) (place : ℕ) (fact : Fact Term) → place < length facts → fact ≡ get_or facts place fact
    → (old now new : List Entry) (entry : Entry) → new ≡ now ++ entry ∷ [] → IsEntry fact (place + 1) entry
    → Adds (IsNew (take place facts)) old now → Adds (IsNew (take (place + 1) facts)) old new
new_more facts place fact within is =
    let whole = take-item facts place fact within is in
    let count : length (take place facts) ≡ place = omega (arith, within, length-take place facts) in
    adds_more (IsNew (take place facts)) (IsNew (take (place + 1) facts)) fact (place + 1)
    (λ it other (at, there, rank). elim (at_pushed (take place facts) fact at it (subst (λ all. slice_get all at ≡ Some it) whole there)) [
      | inl earlier ↦ inl (at, earlier, rank)
      | inr same ↦ inr (same.1, sym (rank ∙ ap (λ n. n + 1) (same.0 ∙ count)))
    ])
    (λ it other (at, there, rank).
    (at, subst (λ all. slice_get all at ≡ Some it) (sym whole) (at_left (take place facts) (fact ∷ []) at it there), rank)) (
      place,
      subst (λ all. slice_get all place ≡ Some fact) (sym whole)
          (subst (λ at. slice_get (take place facts ++ fact ∷ []) at ≡ Some fact) (omega (arith, count)) (at_right (take place facts) (fact ∷ []) 0 fact refl)),
      refl,
    )

-- the entries of all, in whatever order
pub entries_of_all : (facts more : List (Fact Term)) (some all index : List Entry) → Adds (IsOld facts) [] some → Adds (IsNew more) some all
    → IsPermutation all index → AreEntries facts more index
entries_of_all facts more some all index olds news permuted = record {
  has = λ fact rank is. elim is [
    | inl old ↦ let found = olds.has fact rank old in (found.0, there found.0 (news.kept found.0 found.1), found.2)
    | inr new ↦ let found = news.has fact rank new in (found.0, there found.0 found.1, found.2)
  ];
  only = λ entry inside. elim (news.only entry (Contains-permutation index all entry (IsPermutation-sym all index permuted) inside)) [
    | inl earlier ↦ elim (olds.only entry earlier) [
      | inl none ↦ absurd (Contains-nil entry none)
      | inr old ↦ inl old
    ]
    | inr new ↦ inr new
  ];
}
  where
    there : (entry : Entry) → Contains all entry → Contains index entry
    there entry inside = Contains-permutation all index entry permuted inside

-- ---- the mark of a fact

module _ (facts more : List (Fact Term)) (index : List Entry) (are : AreEntries facts more index)
    (place : ℕ) (fact : Fact Term) (at : slice_get more place ≡ Some fact) (rank : ℕ) (first : IsFirstRank index fact rank) where
  own : HasEntry index fact rank × (rank ≤ place + 1)
  own = first (place + 1) (are.has fact (place + 1) (inr (place, at, refl)))

  earlier_is_less : IsEarlier facts more place fact → rank < place + 1
  earlier_is_less (inl inside) = omega (arith, (first 0 (are.has fact 0 (inl (inside, refl)))).1)
  earlier_is_less (inr inside) =
      let found = Contains-take_from more place fact inside in
      omega (arith, found.1, (first (found.0 + 1) (are.has fact (found.0 + 1) (inr (found.0, found.2, refl)))).1)

  fresh_is_first : (IsEarlier facts more place fact → ⊥) → rank ≡ place + 1
  fresh_is_first fresh = by own.0
    where
      by : HasEntry index fact rank → rank ≡ place + 1
      by (entry, inside, (is, ranked)) = elim (are.only entry inside) [
        | inl old ↦ absurd (fresh (inl (subst (Contains facts) is old.0)))
        | inr (k, there, counted) ↦ elim (cases_order k place) [
          | inl same ↦ sym ranked ∙ counted ∙ ap (λ n. n + 1) same
          | inr apart ↦ elim apart [
            | inl less ↦ absurd (fresh (inr (Contains-take more place k fact less (there ∙ ap Some is))))
            | inr above ↦ absurd (omega (arith, above, own.1, ranked, counted))
          ]
        ]
      ]

  pub mark_is : (mark : Bool) → (mark ≡ true) ↔ (rank ≡ place + 1) → (mark ≡ true) ↔ (IsEarlier facts more place fact → ⊥)
  mark_is mark tells = (
    (λ marked earlier. let same = tells.0 marked in omega (arith, earlier_is_less earlier, same)),
    (λ fresh. tells.1 (fresh_is_first fresh)),
  )

-- ---- the marks so far

pub record AreFreshBelow (facts more : List (Fact Term)) (count : ℕ) (marks : List Bool) : Type 0 where
  pub for_each : length marks ≡ count
  pub exact : (place : ℕ) (fact : Fact Term) → place < count → slice_get more place ≡ Some fact
      → (get_or marks place false ≡ true) ↔ (IsEarlier facts more place fact → ⊥)

pub marks_none : (facts more : List (Fact Term)) → AreFreshBelow facts more 0 []
marks_none facts more = record { for_each = refl; exact = λ place fact less at. absurd (omega (arith, less)) }

pub marks_more : (facts more : List (Fact Term)) (count : ℕ) (marks new : List Bool) (fact : Fact Term) (mark : Bool) → count < length more
    → slice_get more count ≡ Some fact → new ≡ marks ++ mark ∷ [] → (mark ≡ true) ↔ (IsEarlier facts more count fact → ⊥)
    → AreFreshBelow facts more count marks → AreFreshBelow facts more (count + 1) new
marks_more facts more count marks new fact mark within at pushed tells so_far = record {
  for_each = ap length pushed ∙ length-append marks (mark ∷ []) ∙ ap (λ n. n + 1) so_far.for_each;
  exact = λ place it less there. elim (cases_order place count) [
    | inl same ↦
        let own : Some it ≡ Some fact = sym there ∙ ap (slice_get more) same ∙ at in
        let is : it ≡ fact = cc in
        subst (λ (pair : ℕ × Fact Term). (get_or new pair.0 false ≡ true) ↔ (IsEarlier facts more pair.0 pair.1 → ⊥)) (λ i. (sym same i, sym is i))
        (subst (λ answer. (answer ≡ true) ↔ (IsEarlier facts more count fact → ⊥)) (sym last) tells)
    | inr apart ↦ elim apart [
      | inl below ↦
          subst (λ answer. (answer ≡ true) ↔ (IsEarlier facts more place it → ⊥)) (sym (earlier place below)) (so_far.exact place it below there)
      | inr above ↦ absurd (omega (arith, above, less))
    ]
  ];
}
  where
    last : get_or new count false ≡ mark
    last = ap (λ all. get_or all count false) pushed ∙ last_of marks count so_far.for_each
      where
        last_of : (all : List Bool) (n : ℕ) → length all ≡ n → get_or (all ++ mark ∷ []) n false ≡ mark
        last_of [] zero long = refl
        last_of [] (suc n) long = absurd (omega arith)
        last_of (x ∷ all) zero long = absurd (omega arith)
        last_of (x ∷ all) (suc n) long = last_of all n (omega arith)

    earlier : (place : ℕ) → place < count → get_or new place false ≡ get_or marks place false
    earlier place below = ap (λ all. get_or all place false) pushed ∙ early_of marks place (omega (arith, below, so_far.for_each))
      where
        early_of : (all : List Bool) (n : ℕ) → n < length all → get_or (all ++ mark ∷ []) n false ≡ get_or all n false
        early_of [] n less = absurd (omega arith)
        early_of (x ∷ all) zero less = refl
        early_of (x ∷ all) (suc n) less = early_of all n (omega arith)

pub marks_all : (facts more : List (Fact Term)) (count : ℕ) (marks : List Bool) → count ≡ length more
    → AreFreshBelow facts more count marks → AreFresh facts more marks
marks_all facts more count marks all so_far = record {
  for_each = so_far.for_each ∙ all;
  exact = λ place fact at. so_far.exact place fact (omega (arith, all, slice_get_within more place fact at)) at;
}

-- ---- the fresh facts put at the end are the facts joined

earlier_rest : (facts more : List (Fact Term)) (first : Fact Term) (place : ℕ) (fact : Fact Term)
    → IsEarlier facts (first ∷ more) (suc place) fact ↔ IsEarlier (joined_one same_fact facts first) more place fact
earlier_rest facts more first place fact = (there, back)
  where
    there : IsEarlier facts (first ∷ more) (suc place) fact → IsEarlier (joined_one same_fact facts first) more place fact
    there (inl old) = inl (one_has same_fact same_fact-Decides facts first fact (inl old))
    there (inr inside) = elim (Contains-cases first (take place more) fact inside) [
      | inl is ↦ inl (one_has same_fact same_fact-Decides facts first fact (inr is))
      | inr later ↦ inr later
    ]

    back : IsEarlier (joined_one same_fact facts first) more place fact → IsEarlier facts (first ∷ more) (suc place) fact
    back (inl inside) = elim (one_from same_fact same_fact-Decides facts first fact inside) [
      | inl old ↦ inl old
      | inr is ↦ inr (subst (Contains (first ∷ take place more)) is (Contains-head first (take place more)))
    ]
    back (inr later) = inr (Contains-rest first (take place more) fact later)

pub fresh_joined : (facts more : List (Fact Term)) (marks : List Bool) → AreFresh facts more marks → joined facts more ≡ facts ++ chosen marks more
fresh_joined facts [] [] fresh = sym (append-nil facts)
fresh_joined facts [] (mark ∷ marks) fresh = absurd (omega (arith, fresh.for_each))
fresh_joined facts (first ∷ more) [] fresh = absurd (omega (arith, fresh.for_each))
fresh_joined facts (first ∷ more) (mark ∷ marks) fresh =
    fresh_joined (joined_one same_fact facts first) more marks later
    ∙ by (is_member same_fact facts first) mark (is_member-Decides same_fact-Decides facts first) here
  where
    later : AreFresh (joined_one same_fact facts first) more marks
    later = record {
      for_each = let both = fresh.for_each in omega (arith, both);
      exact = λ place fact at.
          let told = fresh.exact (suc place) fact at in
          let same = earlier_rest facts more first place fact in
          ((λ marked early. told.0 marked (same.1 early)), (λ none. told.1 (λ early. none (same.0 early))));
    }

    here : (mark ≡ true) ↔ (Contains facts first → ⊥)
    here = let told = fresh.exact 0 first refl in (
      (λ marked inside. told.0 marked (inl inside)),
      (λ none. told.1 (λ early. elim early [ inl inside ↦ none inside | inr nothing ↦ Contains-nil first nothing ])),
    )

    by : (answer : Bool) (told : Bool) → (answer ≡ true → Contains facts first) × (Contains facts first → answer ≡ true)
        → (told ≡ true) ↔ (Contains facts first → ⊥)
        → cond answer facts (facts ++ first ∷ []) ++ chosen marks more ≡ facts ++ cond told (first ∷ chosen marks more) (chosen marks more)
    by true true is tells = absurd (tells.0 refl (is.0 refl))
    by true false is tells = refl
    by false true is tells = append_assoc facts (first ∷ []) (chosen marks more)
    by false false is tells = let wrong : false ≡ true = tells.1 (λ inside. let bad : false ≡ true = is.1 inside in cc) in absurd (cc)

-- ---- the marked facts, one after the other

module _ (marks : List Bool) (facts copies : List (Fact Term)) (place : ℕ) (mark : Bool) (fact : Fact Term) (marked : slice_get marks place ≡ Some mark)
    (within : place < length facts) (is : fact ≡ get_or facts place fact)
    (so_far : chosen marks facts ≡ copies ++ chosen (drop place marks) (drop place facts)) where
  abbrev rest : List (Fact Term)
  rest = chosen (drop (place + 1) marks) (drop (place + 1) facts)

  one_more : chosen (drop place marks) (drop place facts) ≡ cond mark (fact ∷ rest) rest
  one_more =
      ap (λ all. chosen all (drop place facts))
      (drop_more marks place mark (slice_get_within marks place mark marked)
      ∙ ap (λ it. it ∷ drop (place + 1) marks) (get_or_from_slice_get marks place mark mark marked))
      ∙ ap (chosen (mark ∷ drop (place + 1) marks)) (drop-item facts place fact within is)

  pub copied : (new : List (Fact Term)) (copy : Fact Term) → mark ≡ true → copy ≡ fact → new ≡ copies ++ copy ∷ [] → chosen marks facts ≡ new ++ rest
  copied new copy told same pushed =
      so_far ∙ ap (λ it. copies ++ it) (one_more ∙ ap (λ it. cond it (fact ∷ rest) rest) told) ∙ sym (append_assoc copies (fact ∷ []) rest)
      ∙ ap (λ it. (copies ++ it ∷ []) ++ rest) (sym same) ∙ ap (λ it. it ++ rest) (sym pushed)

  pub passed : (new : List (Fact Term)) → mark ≡ false → new ≡ copies → chosen marks facts ≡ new ++ rest
  passed new told same = so_far ∙ ap (λ it. copies ++ it) (one_more ∙ ap (λ it. cond it (fact ∷ rest) rest) told) ∙ ap (λ it. it ++ rest) (sym same)
