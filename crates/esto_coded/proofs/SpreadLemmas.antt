-- Codes that spread from some terms of a match to all terms of its atoms.
use Rattle.std.proofs.Common.{◌≡◌, inl, inr, ℕ, ◌+◌, ◌<◌, ◌≤◌, Bool, false, List, [], ◌∷◌, ◌++◌, map, length, take, Some, slice_get, Contains, sym, ◌∙◌}
use Rattle.std.proofs.Common.{subst, IsTrue, Option, None, Result, Ok, Err}
use Rattle.std.specs.Prelude.{nat_eq, IfSome}
use Rattle.std.specs.Result.{IfOk}
use Rattle.std.specs.Set.{is_member}
use Rattle.std.proofs.lemmas.Bool.{false≢true}
use Rattle.std.proofs.lemmas.List.{length-map, take_all}
use Rattle.std.proofs.lemmas.List.Elements.{Contains-append_left, Contains-append_right, Contains-push_cases}
use Rattle.esto_term.specs.declared.list.OutOfMemory.{OutOfMemory}
use Rattle.esto_term.specs.declared.term.Term.{Term}
use Rattle.esto_term.proofs.ListLemmas.{Contains-nil, Contains-head, Contains-one, Contains-map, map_at, thing_at}
use Rattle.esto_term.proofs.PlaceLemmas.{take-there}
use Rattle.esto_term.proofs.ZipLemmas.{zip_both, zip_left, zip_length}
use Rattle.esto_columns.specs.declared.stored.StoredRows.{StoredRows}
use Rattle.esto_semantics.specs.Facts.{image}
use Rattle.esto_semantics.specs.Maps.{Sends}
use Rattle.esto_semantics.specs.declared.fact.Fact.{Fact}
use Rattle.esto_rows.specs.Wanted.{are_among, TakesIn}
use Rattle.esto_coded.specs.Coded.{Coded, IsCodeOf, rows_in}
use Rattle.esto_coded.specs.Relations.{coded_of}
use Rattle.esto_coded.specs.Spread.{AreReached, HaveReached, IsReached, Passes, Reaches, Spreads, TakesPassing}
use Rattle.esto_coded.specs.Whole.{IsVain}
use Rattle.esto_rows.proofs.WantedLemmas.{among_at, among_each}
use Rattle.esto_coded.proofs.StandLemmas.{one_code}

-- ---- columns of reached terms

pub columns_more : (lead : List Term) (before : List (Fact Term)) (terms : List Term) (column : ℕ) (term : Term) (old new : List ℕ)
    → slice_get terms column ≡ Some term → IsReached lead before term → new ≡ old ++ column ∷ [] → AreReached lead before terms old
    → AreReached lead before terms new
columns_more lead before terms column term old new there reached more are other inside =
    elim (Contains-push_cases old column other (subst (λ them. Contains them other) more inside)) [
      | inl early ↦ are other early
      | inr same ↦ (term, subst (λ it. slice_get terms it ≡ Some term) same there, reached)
    ]

-- ---- rows that pass

stays_one : (old new : List ℕ) → ((other : List ℕ) → IsTrue (are_among old other) → IsTrue (are_among new other)) → (code : ℕ)
    → IsTrue (is_member nat_eq old code) → IsTrue (is_member nat_eq new code)
stays_one old new stay code among = among_at new (code ∷ [])
    (stay (code ∷ [])
    (among_each old (code ∷ []) (λ it inside. subst (λ one. IsTrue (is_member nat_eq old one)) (Contains-one code it inside) among)))
    code (Contains-head code [])

pub passing_not : (columns row codes : List ℕ) (answer : Bool) → (Passes columns row codes → IsTrue answer) → answer ≡ false
    → TakesPassing columns (row ∷ []) codes codes
passing_not columns row codes answer told is = record {
  here = λ own inside passes.
      absurd (false≢true (sym is ∙ told (subst (λ it. Passes columns it codes) (sym (Contains-one row own inside)) passes)));
  stay = λ other among. among;
}

-- the same of the row at a place
pub passing_past : (columns : List ℕ) (rows : List (List ℕ)) (at : ℕ) (codes : List ℕ) (answer : Bool) → at < length rows
    → ((row : List ℕ) → slice_get rows at ≡ Some row → Passes columns row codes → IsTrue answer) → answer ≡ false
    → (own : List ℕ) × (slice_get rows at ≡ Some own) × TakesPassing columns (own ∷ []) codes codes
passing_past columns rows at codes answer within told is =
    let own = thing_at rows at within in (own.0, own.1, passing_not columns own.0 codes answer (told own.0 own.1) is)

pub passing_one : (columns row old new : List ℕ) → TakesIn row old new → TakesPassing columns (row ∷ []) old new
passing_one columns row old new takes = record {
  here = λ own inside passes. subst (λ it. IsTrue (are_among new it)) (Contains-one row own inside) takes.here;
  stay = takes.stay;
}

pub passing_none : (columns : List ℕ) (rows : List (List ℕ)) (codes : List ℕ) → TakesPassing columns (take 0 rows) codes codes
passing_none columns rows codes = record { here = λ row inside. absurd (Contains-nil row inside); stay = λ other among. among }

pub passing_more : (columns : List ℕ) (rows : List (List ℕ)) (at : ℕ) (first old new : List ℕ) → TakesPassing columns (take at rows) first old
    → (own : List ℕ) × (slice_get rows at ≡ Some own) × TakesPassing columns (own ∷ []) old new
    → TakesPassing columns (take (at + 1) rows) first new
passing_more columns rows at first old new before (own, there, now) = record {
  here = λ row inside passes.
      elim (Contains-push_cases (take at rows) own row (subst (λ them. Contains them row) (take-there rows at own there) inside)) [
        | inl early ↦ now.stay row (before.here row early passes)
        | inr same ↦
            now.here row (subst (Contains (own ∷ [])) same (Contains-head own []))
            (λ column listed code stands. stays_one first old before.stay code (passes column listed code stands))
      ];
  stay = λ other among. now.stay other (before.stay other among);
}

pub passing_all : (columns : List ℕ) (rows : List (List ℕ)) (count : ℕ) (old new : List ℕ) → length rows ≤ count
    → TakesPassing columns (take count rows) old new → TakesPassing columns rows old new
passing_all columns rows count old new past takes = subst (λ them. TakesPassing columns them old new) (take_all count rows past) takes

-- ---- atoms

-- the row of what the atom is sent to passes, so its codes come
pub atom_reached : (coded : Coded) (lead : List Term) (before : List (Fact Term)) (atom : Fact Term) (columns : List ℕ) (rows : List (List ℕ))
    (old new : List ℕ) → rows_in coded.relations atom.relation ≡ rows → AreReached lead before atom.terms columns → TakesPassing columns rows old new
    → Reaches coded lead before atom old new
atom_reached coded lead before atom columns rows old new are reached takes = record {
  here = λ tell facts stand m inside have term among code stands.
      let own = stand.has (image m atom) inside in
      let passes : Passes columns own.0 old = λ column listed it there.
      (let found = reached column listed in
      have found.0 found.2 it
      (zip_both (IsCodeOf coded.texts) (map m atom.terms) own.0 own.1 column (m found.0) it (map_at m atom.terms column found.0 found.1) there)) in
      let told = takes.here own.0 (subst (λ them. Contains them own.0) are own.2) passes in
      let found = zip_left (IsCodeOf coded.texts) (map m atom.terms) own.0 own.1 (m term) (Contains-map m atom.terms term among) in
      subst (λ it. IsTrue (is_member nat_eq new it)) (one_code coded.texts tell.distinct (m term) found.0 code found.2 stands)
      (among_at new own.0 told found.0 found.1);
  stay = takes.stay;
}

pub atom_vain : (texts : List (List ℕ)) (relations : List StoredRows) (lead : List Term) (before : List (Fact Term)) (atom : Fact Term) (codes : List ℕ)
    → IsVain relations atom → Reaches (coded_of texts relations) lead before atom codes codes
atom_vain texts relations lead before atom codes vain = record {
  here = λ tell facts stand m inside have term among code stands.
      let own = stand.has (image m atom) inside in
      absurd (vain own.0 own.2 (sym (zip_length (IsCodeOf texts) (map m atom.terms) own.0 own.1) ∙ length-map atom.terms m));
  stay = λ other among. among;
}

pub spreads_none : (coded : Coded) (lead : List Term) (atoms : List (Fact Term)) (codes : List ℕ) → Spreads coded lead (take 0 atoms) codes codes
spreads_none coded lead atoms codes tell facts stand m sends have = have

pub spreads_more : (coded : Coded) (lead : List Term) (atoms before : List (Fact Term)) (at : ℕ) (atom : Fact Term) (first old new : List ℕ)
    → slice_get atoms at ≡ Some atom → before ≡ take at atoms → Spreads coded lead (take at atoms) first old → Reaches coded lead before atom old new
    → Spreads coded lead (take (at + 1) atoms) first new
spreads_more coded lead atoms before at atom first old new there is spreads reaches tell facts stand m sends have term reached code stands =
    let longer = take-there atoms at atom there in
    let each : Sends m (take at atoms ++ atom ∷ []) facts = subst (λ them. Sends m them facts) longer sends in
    let known : HaveReached coded.texts lead (take at atoms) m old =
    spreads tell facts stand m (λ it inside. each it (Contains-append_left (take at atoms) (atom ∷ []) it inside)) have in
    elim reached [
      | inl leading ↦ stays_one old new reaches.stay code (known term (inl leading) code stands)
      | inr (it, inside, among) ↦ elim (Contains-push_cases (take at atoms) atom it (subst (λ them. Contains them it) longer inside)) [
        | inl early ↦ stays_one old new reaches.stay code (known term (inr (it, early, among)) code stands)
        | inr same ↦
            reaches.here tell facts stand m (each atom (Contains-append_right (take at atoms) (atom ∷ []) atom (Contains-head atom [])))
            (subst (λ them. HaveReached coded.texts lead them m old) (sym is) known) term
            (subst (λ (fact : Fact Term). Contains fact.terms term) (sym same) among) code stands
      ]
    ]

pub spreads_all : (coded : Coded) (lead : List Term) (atoms : List (Fact Term)) (count : ℕ) (old new : List ℕ) → length atoms ≤ count
    → Spreads coded lead (take count atoms) old new → Spreads coded lead atoms old new
spreads_all coded lead atoms count old new past spreads = subst (λ them. Spreads coded lead them old new) (take_all count atoms past) spreads

-- ---- what is said of the codes that come, if any come

pub some_weaker : (result : Result (Option (List ℕ)) OutOfMemory) (P Q : List ℕ → Type 0) → ((set : List ℕ) → P set → Q set)
    → IfOk result (λ it. IfSome it P) → IfOk result (λ it. IfSome it Q)
some_weaker (Ok (Some set)) P Q weaker told = weaker set told
some_weaker (Ok None) P Q weaker told = tt
some_weaker (Err error) P Q weaker told = tt
