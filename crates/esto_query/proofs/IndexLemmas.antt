-- An index of a list of facts: what stands in it, and the candidates of an atom.
use Rattle.std.proofs.Common.{◌≡◌, ℕ, ◌+◌, ◌<◌, ◌%◌, true, false, List, [], ◌∷◌, ◌++◌, length, get_or, Contains, Some}
use Rattle.std.proofs.Common.{sym, ap, subst, ◌∙◌, inl, inr, arith}
use Rattle.std.specs.List.{slice_get}
use Rattle.std.proofs.lemmas.Bool.{false≢true}
use Rattle.std.proofs.lemmas.List.{get_or_default}
use Rattle.std.proofs.lemmas.List.Elements.{Contains-push}
use Rattle.std.proofs.lemmas.Option.{same_Some, slice_get_within}
use Rattle.esto_term.specs.declared.term.Term.{Term}
use Rattle.esto_term.specs.declared.term.Term.TheVariants.{Const}
use Rattle.esto_term.proofs.ListLemmas.{map_at, Contains-pushed}
use Rattle.esto_term.proofs.PlaceLemmas.{earlier_or_last}
use Rattle.esto_semantics.specs.Facts.{image}
use Rattle.esto_semantics.specs.Maps.{Keeps}
use Rattle.esto_semantics.specs.declared.fact.Fact.{Fact}
use Rattle.esto_table.specs.Buckets.{places_at, with_place, AreRising}
use Rattle.esto_table.specs.Marks.{is_among}
use Rattle.esto_table.specs.Numbers.{IsNumber, key_of}
use Rattle.esto_table.specs.Tables.{entry_of, IsTable, AreUnder}
use Rattle.esto_semantics.specs.Valuations.{Assignment, Extends}
use Rattle.esto_query.specs.Indexes.{AddsTerms, AreInBuckets, AreListed, IsIndex, AreCandidates}
use Rattle.esto_table.specs.declared.marks.Marks.{Marks}
use Rattle.esto_query.specs.declared.index.Index.{Index}
use Rattle.esto_table.specs.declared.entry.Entry.{Entry}
use Rattle.esto_table.proofs.NumberLemmas.{number_is}
use Rattle.esto_table.proofs.BucketLemmas.{AreRising-more, put_keeps, put_adds, put_rises}

-- ---- the terms of one fact

pub AddsTerms-none : (fact : Fact Term) (columns : Marks) (names : List Term) (place : ℕ) (old : List Entry)
    → AddsTerms fact columns names place 0 old old
AddsTerms-none fact columns names place old = record { kept = λ entry inside. inside; added = λ column term l. absurd (omega arith) }

module _ (fact : Fact Term) (columns : Marks) (names : List Term) (place n : ℕ) (old now : List Entry)
    (adds : AddsTerms fact columns names place n old now) where
  -- a column that is not one of the columns
  pub AddsTerms-skip : false ≡ is_among columns fact.relation n → AddsTerms fact columns names place (n + 1) old now
  AddsTerms-skip apart = record {
    kept = adds.kept;
    added = λ column term l there among. elim (earlier_or_last column n l) [
      | inl before ↦ adds.added column term before there among
      | inr here ↦ absurd (false≢true (apart ∙ ap (is_among columns fact.relation) (sym here) ∙ among))
    ];
  }

  pub AddsTerms-put : (term : Term) (number : ℕ) (new : List Entry) → slice_get fact.terms n ≡ Some term → IsNumber names term number
      → new ≡ now ++ entry_of (key_of fact.relation n number) place ∷ [] → AddsTerms fact columns names place (n + 1) old new
  AddsTerms-put term number new at is grown = record {
    kept = λ entry inside. Contains-pushed now new (entry_of (key_of fact.relation n number) place) entry grown (adds.kept entry inside);
    added = λ column other l there among. elim (earlier_or_last column n l) [
      | inl before ↦ λ its is_its.
          Contains-pushed now new (entry_of (key_of fact.relation n number) place) (entry_of (key_of fact.relation column its) place) grown
          (adds.added column other before there among its is_its)
      | inr here ↦ λ its is_its.
          let same : term ≡ other = same_Some term other (sym at ∙ ap (slice_get fact.terms) (sym here) ∙ there) in
          let equal : number ≡ its = number_is names other number its (subst (λ t. IsNumber names t number) same is) is_its in
          let key : key_of fact.relation n number ≡ key_of fact.relation column its =
          ap (λ c. key_of fact.relation c number) (sym here) ∙ ap (key_of fact.relation column) equal in
          subst (λ k. Contains new (entry_of k place)) key
          (subst (λ all. Contains all (entry_of (key_of fact.relation n number) place)) (sym grown)
          (Contains-push now (entry_of (key_of fact.relation n number) place)))
    ];
  }

-- ---- the facts

-- the fact at a place is the one that stands there
fact_is : (facts : List (Fact Term)) (fact other : Fact Term) (place n : ℕ) → place ≡ n → slice_get facts n ≡ Some fact → slice_get facts place ≡ Some other
    → fact ≡ other
fact_is facts fact other place n here at there = same_Some fact other (sym at ∙ ap (slice_get facts) (sym here) ∙ there)

pub AreInBuckets-none : (facts : List (Fact Term)) (relations : List (List ℕ)) → AreRising relations 0 → AreInBuckets facts 0 relations
AreInBuckets-none facts relations rising = record { has = λ place fact l. absurd (omega arith); rising = rising }

pub AreInBuckets-next : (facts : List (Fact Term)) (fact : Fact Term) (n : ℕ) (relations new : List (List ℕ)) → slice_get facts n ≡ Some fact
    → 0 < length relations → new ≡ with_place relations fact.relation n → AreInBuckets facts n relations → AreInBuckets facts (n + 1) new
AreInBuckets-next facts fact n relations new at some grown so_far = record {
  has = λ place other l there. elim (earlier_or_last place n l) [
    | inl before ↦ put_keeps relations new fact.relation n some grown other.relation place (so_far.has place other before there)
    | inr here ↦
        subst (λ (f : Fact Term). Contains (places_at new f.relation) place) (fact_is facts fact other place n here at there)
        (subst (λ p. Contains (places_at new fact.relation) p) (sym here) (put_adds relations new fact.relation n some grown))
  ];
  rising = put_rises relations new fact.relation n some grown (AreRising-more relations n so_far.rising);
}

pub AreListed-none : (facts : List (Fact Term)) (columns : Marks) (names : List Term) (terms : List Entry) → AreListed facts columns names 0 terms
AreListed-none facts columns names terms place column fact term l = absurd (omega arith)

pub AreListed-next : (facts : List (Fact Term)) (columns : Marks) (names : List Term) (fact : Fact Term) (n : ℕ) (terms new : List Entry)
    → slice_get facts n ≡ Some fact → AddsTerms fact columns names n (length fact.terms) terms new → AreListed facts columns names n terms
    → AreListed facts columns names (n + 1) new
AreListed-next facts columns names fact n terms new at adds listed place column other term l stands number is = elim (earlier_or_last place n l) [
  | inl before ↦ adds.kept (entry_of (key_of other.relation column number) place) (listed place column other term before stands number is)
  | inr here ↦
      subst (λ p. Contains new (entry_of (key_of other.relation column number) p)) (sym here)
      (own other (fact_is facts fact other place n here at stands.there) stands.own stands.among)
]
  where
    own : (other : Fact Term) → fact ≡ other → slice_get other.terms column ≡ Some term → is_among columns other.relation column ≡ true
        → Contains new (entry_of (key_of other.relation column number) n)
    own other same there among =
        subst (λ (f : Fact Term). slice_get f.terms column ≡ Some term → is_among columns f.relation column ≡ true
        → Contains new (entry_of (key_of f.relation column number) n)) same
        (λ own in_it. adds.added column term (slice_get_within fact.terms column term own) own in_it number is) there among

-- ---- candidates

module _ (facts : List (Fact Term)) (index : Index) (atom : Fact Term) (known : Assignment) (is : IsIndex facts index) where
  pub candidates-relation : AreCandidates facts atom known (places_at index.relations atom.relation)
  candidates-relation = record {
    complete = λ m place keeps extends there.
        is.relations.has place (image m atom) (slice_get_within facts place (image m atom) there) there;
    rising = is.relations.rising.rising (atom.relation % length index.relations);
  }

  -- a term that each map gives the atom in one of the columns
  pub candidates-term : (column number : ℕ) (term bound : Term) (places : List ℕ) → slice_get atom.terms column ≡ Some term
      → is_among index.columns atom.relation column ≡ true → ((m : Term → Term) → Keeps Const m → Extends m known → m term ≡ bound)
      → IsNumber index.names.items bound number
      → ((terms : List Entry) → IsTable terms index.terms → AreUnder terms (key_of atom.relation column number) places)
      → AreCandidates facts atom known places
  candidates-term column number term bound places there among same is_number read =
      let under = read is.terms.0 is.terms.1 in
      record {
        complete = λ m place keeps extends at. under.complete place
            (is.terms.2 place column (image m atom) (m term) (slice_get_within facts place (image m atom) at)
            (record { there = at; own = map_at m atom.terms column term there; among = among }) number
            (subst (λ t. IsNumber index.names.items t number) (sym (same m keeps extends)) is_number));
        rising = under.rising;
      }

-- ---- reading places

-- the place of that number
abbrev pub place_at : List ℕ → ℕ → ℕ
place_at found i = get_or found i 0

pub place_read : (found : List ℕ) (i : ℕ) → i < length found → place_at found i ≡ get_or found i (place_at found i)
place_read found i within = get_or_default found i 0 (place_at found i) within

pub place_inside : (found : List ℕ) (i : ℕ) → i < length found → Contains found (place_at found i)
place_inside found i within = (i, within, sym (place_read found i within))
