-- Codes that come to others, keys of rows, and rows that are wanted.
use Rattle.std.proofs.Common.{◌≡◌, ◌⊎◌, inl, inr, ℕ, ◌+◌, ◌≤◌, Bool, true, false, cond, List, [], ◌∷◌, ◌++◌, map, length, take, Some, slice_get, Contains, refl}
use Rattle.std.proofs.Common.{sym, ap, ◌∙◌, subst, arith, IsTrue}
use Rattle.std.specs.Prelude.{nat_eq}
use Rattle.std.specs.Set.{is_member}
use Rattle.std.proofs.lemmas.Bool.{false≢true, and_parts, and_from}
use Rattle.std.proofs.lemmas.Bool.Decides.{Decides-eqb}
use Rattle.std.proofs.lemmas.List.{length-append, map-append, take_all}
use Rattle.std.proofs.lemmas.List.Elements.{Contains-push_cases}
use Rattle.std.proofs.lemmas.List.Folds.{list_all-append}
use Rattle.std.proofs.lemmas.Option.{same_Some, slice_get_within}
use Rattle.esto_term.proofs.ListLemmas.{Contains-nil, Contains-head, Contains-rest, Contains-cases, Contains-one, Contains-at, Contains-map, at_left, at_end}
use Rattle.esto_term.proofs.ListLemmas.{at_pushed}
use Rattle.esto_term.proofs.PlaceLemmas.{take-there}
use Rattle.esto_columns.specs.CodedRows.{CodedRows}
use Rattle.esto_columns.specs.Indexed.{Index, IsIndexOf}
use Rattle.esto_columns.specs.RowIndexes.{StandsLast}
use Rattle.esto_rows.specs.Told.{IsContrary}
use Rattle.esto_rows.specs.Wanted.{are_among, TakesIn, IsKnown, Know, IsApart, IsWanted, PutsWanted, HaveWanted, HaveApart}
use Rattle.esto_rows.specs.declared.keys.Keys.{Keys}
use Rattle.esto_rows.specs.declared.wanted.Wanted.{Wanted}
use Rattle.esto_rows.specs.declared.wanted.Wanted.TheVariants.{Apart}
use Rattle.esto_rows.proofs.SameLemmas.{one_place}

-- ---- codes that come to others

pub among_at : (codes row : List ℕ) → IsTrue (are_among codes row) → (code : ℕ) → Contains row code → IsTrue (is_member nat_eq codes code)
among_at codes [] told code inside = absurd (Contains-nil code inside)
among_at codes (first ∷ row) told code inside =
    let parts = and_parts (is_member nat_eq codes first) (are_among codes row) told in
    elim (Contains-cases first row code inside) [
      | inl same ↦ subst (λ it. IsTrue (is_member nat_eq codes it)) same parts.0
      | inr later ↦ among_at codes row parts.1 code later
    ]

pub among_each : (codes row : List ℕ) → ((code : ℕ) → Contains row code → IsTrue (is_member nat_eq codes code)) → IsTrue (are_among codes row)
among_each codes [] each = refl
among_each codes (first ∷ row) each = and_from (is_member nat_eq codes first) (are_among codes row) (each first (Contains-head first row))
    (among_each codes row (λ code inside. each code (Contains-rest first row code inside)))

pub takes_one : (code : ℕ) (old new : List ℕ) → ((other : ℕ) → is_member nat_eq new other ≡ cond (nat_eq code other) true (is_member nat_eq old other))
    → TakesIn (code ∷ []) old new
takes_one code old new told = record {
  here = among_each new (code ∷ []) (λ other inside. told other ∙ by (nat_eq code other) (is_member nat_eq old other)
      (inl ((Decides-eqb code other).1 (Contains-one code other inside))));
  stay =
      λ row among. among_each new row
      (λ other inside. told other ∙ by (nat_eq code other) (is_member nat_eq old other) (inr (among_at old row among other inside)));
}
  where
    by : (one two : Bool) → (one ≡ true) ⊎ (two ≡ true) → cond one true two ≡ true
    by true two either = refl
    by false two (inl wrong) = absurd (false≢true wrong)
    by false two (inr so) = so

pub takes_none : (codes : List ℕ) → TakesIn [] codes codes
takes_none codes = record { here = refl; stay = λ row among. among }

pub takes_more : (row : List ℕ) (at code : ℕ) (first old new : List ℕ) → slice_get row at ≡ Some code → TakesIn (take at row) first old
    → TakesIn (code ∷ []) old new
    → TakesIn (take (at + 1) row) first new
takes_more row at code first old new there before now = record {
  here = ap (are_among new) (take-there row at code there) ∙ list_all-append (is_member nat_eq new) (take at row) (code ∷ [])
      ∙ and_from (are_among new (take at row)) (are_among new (code ∷ [])) (now.stay (take at row) before.here) now.here;
  stay = λ other among. now.stay other (before.stay other among);
}

pub takes_all : (row : List ℕ) (count : ℕ) (old new : List ℕ) → length row ≤ count → TakesIn (take count row) old new → TakesIn row old new
takes_all row count old new past takes = subst (λ it. TakesIn it old new) (take_all count row past) takes

-- ---- keys

-- the rows known so far and one more, by a change that keeps what was known
know_more : (old new : Keys) → IsIndexOf new.index new.keys.rows → length new.codes ≡ length new.keys.rows
    → ((code : ℕ) (key : List ℕ) → IsKnown old code key → IsKnown new code key) → (code : ℕ) (key : List ℕ) → IsKnown new code key
    → (rows : List (List ℕ)) → Know old rows → Know new (rows ++ (code ∷ key) ∷ [])
know_more old new index long stay code key known rows know = record {
  index = index;
  long = long;
  known = λ other rest inside. elim (Contains-push_cases rows (code ∷ key) (other ∷ rest) inside) [
    | inl early ↦ stay other rest (know.known other rest early)
    | inr same ↦ let one : code ≡ other = cc in let two : key ≡ rest = cc in
        subst (λ it. IsKnown new it rest) one (subst (IsKnown new code) two known)
  ];
}

pub know_same : (keys : Keys) (place code : ℕ) (key : List ℕ) → StandsLast keys.keys.rows key place → slice_get keys.codes place ≡ Some code
    → (rows : List (List ℕ)) → Know keys rows → Know keys (rows ++ (code ∷ key) ∷ [])
know_same keys place code key stands is rows know =
    know_more keys keys know.index know.long (λ other rest known. known) code key (record { place = place; stands = stands; told = inl is }) rows know

pub know_apart : (old : Keys) (apart : List ℕ) (place code : ℕ) (key : List ℕ) → StandsLast old.keys.rows key place → TakesIn (place ∷ []) old.apart apart
    → (rows : List (List ℕ)) → Know old rows
    → Know (record { keys = old.keys; index = old.index; codes = old.codes; apart = apart }) (rows ++ (code ∷ key) ∷ [])
know_apart old apart place code key stands takes rows know =
    know_more old (record { keys = old.keys; index = old.index; codes = old.codes; apart = apart }) know.index know.long
    (λ other rest known. record {
      place = known.place;
      stands = known.stands;
      told = elim known.told [
        | inl is ↦ inl is
        | inr is ↦ inr (among_at apart (known.place ∷ []) (takes.stay (known.place ∷ []) (among_each old.apart (known.place ∷ [])
            (λ it inside. subst (λ one. IsTrue (is_member nat_eq old.apart one)) (Contains-one known.place it inside) is))) known.place
            (Contains-head known.place []))
      ];
    })
    code key
    (record { place = place; stands = stands; told = inr (among_at apart (place ∷ []) takes.here place (Contains-head place [])) })
    rows know

pub know_put : (old : Keys) (keys : CodedRows) (index : Index) (codes : List ℕ) (code : ℕ) (key : List ℕ)
    → keys ≡ record { arity = old.keys.arity; rows = old.keys.rows ++ key ∷ [] }
    → ((listed : List (List ℕ)) → IsIndexOf old.index listed → IsIndexOf index (listed ++ key ∷ [])) → codes ≡ old.codes ++ code ∷ []
    → (Contains old.keys.rows key → ⊥) → (rows : List (List ℕ)) → Know old rows
    → Know (record { keys = keys; index = index; codes = codes; apart = old.apart }) (rows ++ (code ∷ key) ∷ [])
know_put old keys index codes code key is indexed more new rows know =
    know_more old (record { keys = keys; index = index; codes = codes; apart = old.apart })
    (subst (IsIndexOf index) (sym listed) (indexed old.keys.rows know.index))
    (ap length more ∙ length-append old.codes (code ∷ []) ∙ ap (λ count. count + 1) know.long ∙ sym (length-append old.keys.rows (key ∷ []))
    ∙ ap length (sym listed))
    (λ other rest known. record {
      place = known.place;
      stands = kept rest known.place known.stands;
      told = elim known.told [
        | inl at ↦ inl (ap (λ them. slice_get them known.place) more ∙ at_left old.codes (code ∷ []) known.place other at)
        | inr apart ↦ inr apart
      ];
    })
    code key
    (record {
      place = length old.codes;
      stands = subst (λ them. StandsLast them key (length old.codes)) (sym listed) last;
      told = inl (ap (λ them. slice_get them (length old.codes)) more ∙ at_end old.codes code);
    })
    rows know
  where
    listed : keys.rows ≡ old.keys.rows ++ key ∷ []
    listed = ap (λ (it : CodedRows). it.rows) is

    kept : (rest : List ℕ) (place : ℕ) → StandsLast old.keys.rows rest place → StandsLast keys.rows rest place
    kept rest place stands = subst (λ them. StandsLast them rest place) (sym listed) (record {
      at = at_left old.keys.rows (key ∷ []) place rest stands.at;
      last = λ later past there. elim (at_pushed old.keys.rows key later rest there) [
        | inl early ↦ stands.last later past early
        | inr end ↦ new (subst (Contains old.keys.rows) (sym end.1) (Contains-at old.keys.rows place rest stands.at))
      ];
    })

    last : StandsLast (old.keys.rows ++ key ∷ []) key (length old.codes)
    last = record {
      at = ap (slice_get (old.keys.rows ++ key ∷ [])) know.long ∙ at_end old.keys.rows key;
      last = λ later past there.
          let within = slice_get_within (old.keys.rows ++ key ∷ []) later key there in
          let long = length-append old.keys.rows (key ∷ []) in
          let same = know.long in omega (arith, within, long, same, past);
    }

-- the key of a row that is apart stands among the keys, where several codes came with it
pub apart_place : (keys : Keys) (code : ℕ) (key : List ℕ) → IsApart keys (code ∷ key)
    → (place : ℕ) × StandsLast keys.keys.rows key place × IsTrue (is_member nat_eq keys.apart place)
apart_place keys code key is = by is.other is.among is.contrary
  where
    by : (other : List ℕ) → Contains is.rows other → IsContrary (code ∷ key) other
        → (place : ℕ) × StandsLast keys.keys.rows key place × IsTrue (is_member nat_eq keys.apart place)
    by [] among contrary = absurd contrary
    by (more ∷ rest) among contrary =
        let one = is.know.known code key is.inside in
        let two = is.know.known more rest among in
        let stands = subst (λ it. StandsLast keys.keys.rows it two.place) (sym contrary.1) two.stands in
        let same : one.place ≡ two.place = one_place keys.keys.rows key one.place two.place one.stands stands in
        elim one.told [
          | inl at ↦ elim two.told [
            | inl there ↦ absurd (contrary.0 (same_Some code more (sym at ∙ ap (slice_get keys.codes) same ∙ there)))
            | inr apart ↦ (two.place, stands, apart)
          ]
          | inr apart ↦ (one.place, one.stands, apart)
        ]

-- ---- rows that are wanted

pub wanted_none : (wanted : Wanted) (rows : List (List ℕ)) (codes : List ℕ) → HaveWanted wanted (take 0 rows) codes
wanted_none wanted rows codes row inside = absurd (Contains-nil row inside)

pub wanted_more : (wanted : Wanted) (rows : List (List ℕ)) (at : ℕ) (old new : List ℕ) → HaveWanted wanted (take at rows) old
    → (own : List ℕ) × (slice_get rows at ≡ Some own) × PutsWanted wanted own old new → HaveWanted wanted (take (at + 1) rows) new
wanted_more wanted rows at old new have (own, there, puts) row inside is =
    elim (Contains-push_cases (take at rows) own row (subst (λ them. Contains them row) (take-there rows at own there) inside)) [
      | inl early ↦ puts.stay row (have row early is)
      | inr same ↦ subst (λ it. IsTrue (are_among new it)) same (puts.here (subst (IsWanted wanted) (sym same) is))
    ]

pub wanted_all : (wanted : Wanted) (rows : List (List ℕ)) (count : ℕ) (codes : List ℕ) → length rows ≤ count → HaveWanted wanted (take count rows) codes
    → HaveWanted wanted rows codes
wanted_all wanted rows count codes past have = subst (λ them. HaveWanted wanted them codes) (take_all count rows past) have

pub fronts_more : (rows : List (List ℕ)) (at width : ℕ) (row : List ℕ) → slice_get rows at ≡ Some row
    → map (take width) (take at rows) ++ take width row ∷ [] ≡ map (take width) (take (at + 1) rows)
fronts_more rows at width row there =
    sym (map-append (take width) (take at rows) (row ∷ [])) ∙ ap (map (take width)) (sym (take-there rows at row there))

pub fronts_all : (rows : List (List ℕ)) (count width : ℕ) (keys : Keys) → length rows ≤ count → Know keys (map (take width) (take count rows))
    → Know keys (map (take width) rows)
fronts_all rows count width keys past know = subst (λ them. Know keys (map (take width) them)) (take_all count rows past) know

pub apart_told : (width : ℕ) (keys : Keys) (rows : List (List ℕ)) (codes : List ℕ) → Know keys (map (take width) rows)
    → HaveWanted (Apart width keys) rows codes
    → HaveApart width rows codes
apart_told width keys rows codes know have row other inside among contrary = have row inside (record {
  rows = map (take width) rows;
  know = know;
  inside = Contains-map (take width) rows row inside;
  other = take width other;
  among = Contains-map (take width) rows other among;
  contrary = contrary;
})

-- ---- what is known of a row that is apart

pub apart_found : (keys : Keys) (row : List ℕ) (code : ℕ) (key : List ℕ) (place : ℕ) → row ≡ code ∷ key
    → (IsIndexOf keys.index keys.keys.rows → StandsLast keys.keys.rows key place) → IsApart keys row → IsTrue (is_member nat_eq keys.apart place)
apart_found keys row code key place is found apart =
    let own = apart_place keys code key (subst (IsApart keys) is apart) in
    subst (λ it. IsTrue (is_member nat_eq keys.apart it)) (one_place keys.keys.rows key own.0 place own.1 (found apart.know.index)) own.2

pub apart_there : (keys : Keys) (row : List ℕ) (code : ℕ) (key : List ℕ) → row ≡ code ∷ key
    → (IsIndexOf keys.index keys.keys.rows → ¬ (Contains keys.keys.rows key))
    → IsApart keys row → ⊥
apart_there keys row code key is none apart =
    let own = apart_place keys code key (subst (IsApart keys) is apart) in
    none apart.know.index (Contains-at keys.keys.rows own.0 key own.1.at)
