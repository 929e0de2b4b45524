-- Codes of a rule's active matches.
use Rattle.std.proofs.Common.{◌≡◌, inl, inr, ℕ, List, [], ◌∷◌, ◌++◌, map, length, take, Contains, refl, sym, ap, ◌∙◌}
use Rattle.std.proofs.Common.{subst, arith, IsTrue}
use Rattle.std.specs.Prelude.{nat_eq}
use Rattle.std.specs.Set.{is_member}
use Rattle.std.proofs.lemmas.List.{length-map, take_all}
use Rattle.std.proofs.lemmas.List.Elements.{Contains-append_left, Contains-append_right, Contains-append_cases}
use Rattle.esto_term.specs.declared.term.Term.{Term}
use Rattle.esto_term.specs.declared.term.Term.TheVariants.{Const}
use Rattle.esto_term.proofs.ListLemmas.{Contains-nil, Contains-map, Contains-map_from}
use Rattle.esto_term.proofs.ZipLemmas.{zip_left, zip_length}
use Rattle.esto_semantics.specs.Facts.{image, Mentions}
use Rattle.esto_semantics.specs.Maps.{IsFixedBy, Keeps, Sends}
use Rattle.esto_semantics.specs.Rules.{equality}
use Rattle.esto_semantics.specs.declared.fact.Fact.{Fact}
use Rattle.esto_rows.specs.Told.{IsContrary}
use Rattle.esto_rows.specs.Wanted.{are_among, AreUnequal, HaveWanted, HaveApart}
use Rattle.esto_rows.specs.declared.wanted.Wanted.TheVariants.{Unequal}
use Rattle.esto_rows.proofs.WantedLemmas.{among_at}
use Rattle.esto_coded.specs.Active.{HaveActive}
use Rattle.esto_coded.specs.Answered.{AreCodedAnswers}
use Rattle.esto_coded.specs.Coded.{Coded, IsCodeOf, AreCodesOf, AreTelling, StandFor}
use Rattle.esto_coded.specs.Mirrored.{IsMirrored}
use Rattle.esto_coded.specs.Spread.{HaveReached, Spreads}
use Rattle.esto_coded.proofs.MeetLemmas.{HaveTexts, answer_row}
use Rattle.esto_coded.proofs.MirrorLemmas.{head_fixed, sends_after}
use Rattle.esto_coded.proofs.StandLemmas.{one_term, one_code, one_codes}

-- a row that has the codes of the leading terms is among the codes
reached_row : (texts : List (List ℕ)) → AreTelling texts → (m : Term → Term) (lead : List Term) (row codes : List ℕ) → AreCodesOf texts (map m lead) row
    → IsTrue (are_among codes row) → HaveReached texts lead [] m codes
reached_row texts tell m lead row codes are told term (inl inside) code stands =
    let found = zip_left (IsCodeOf texts) (map m lead) row are (m term) (Contains-map m lead term inside) in
    subst (λ it. IsTrue (is_member nat_eq codes it)) (one_code texts tell.distinct (m term) found.0 code found.2 stands)
    (among_at codes row told found.0 found.1)
reached_row texts tell m lead row codes are told term (inr (atom, inside, among)) code stands = absurd (Contains-nil atom inside)

unequal : (texts : List (List ℕ)) → AreTelling texts → (one other : Term) (row : List ℕ) → AreCodesOf texts (one ∷ other ∷ []) row
    → (one ≡ other → ⊥)
    → AreUnequal row
unequal texts tell one other [] are apart = absurd are
unequal texts tell one other (code ∷ []) are apart = absurd are.1
unequal texts tell one other (code ∷ more ∷ rest) are apart = λ same.
    apart (one_term texts tell.few one other code are.0 (subst (IsCodeOf texts other) (sym same) are.1.0))

pub sides_active : (coded : Coded) (body : List (Fact Term)) (left right : Term) (sides : List Term) (rows : List (List ℕ)) (seed codes : List ℕ)
    → sides ≡ left ∷ right ∷ [] → AreTelling coded.texts → HaveTexts coded.texts sides
    → ((term : Term) → Contains sides term → IsFixedBy body term)
    → AreCodedAnswers coded (record { head = sides; body = body }) rows → HaveWanted Unequal rows seed → Spreads coded sides body seed codes
    → HaveActive coded (equality body left right) codes
sides_active coded body left right sides rows seed codes are tell known fixed answers have spreads facts stand m keeps sends active term inside code
    stands =
    let own = answer_row coded sides body rows answers known fixed facts stand m keeps sends in
    let apart = unequal coded.texts tell (m left) (m right) own.0 (subst (λ terms. AreCodesOf coded.texts (map m terms) own.0) are own.2) active in
    spreads tell facts stand m sends (reached_row coded.texts tell m sides own.0 seed own.2 (have own.0 own.1 apart)) term (inr inside) code stands

contrary_from : (texts : List (List ℕ)) → AreTelling texts → (one other : Term) (terms : List Term) (row more : List ℕ)
    → AreCodesOf texts (one ∷ terms) row
    → AreCodesOf texts (other ∷ terms) more → (one ≡ other → ⊥) → IsContrary row more
contrary_from texts tell one other terms [] more are also apart = absurd are
contrary_from texts tell one other terms (code ∷ key) [] are also apart = absurd also
contrary_from texts tell one other terms (code ∷ key) (next ∷ rest) are also apart = (
  λ same. apart (one_term texts tell.few one other code are.0 (subst (IsCodeOf texts other) (sym same) also.0)),
  one_codes texts tell.distinct terms key rest are.1 also.1,
)

map_after : (go m : Term → Term) (terms : List Term) → map (λ term. m (go term)) terms ≡ map m (map go terms)
map_after go m [] = refl
map_after go m (term ∷ rest) = ap (λ them. m (go term) ∷ them) (map_after go m rest)

module _ (coded : Coded) (first second : List (Fact Term)) (left right : Term) (shared : List Term) (is : IsMirrored first second left right shared)
    (tell : AreTelling coded.texts) (known : HaveTexts coded.texts (left ∷ shared)) (rows : List (List ℕ))
    (answers : AreCodedAnswers coded (record { head = left ∷ shared; body = first }) rows) (seed codes : List ℕ)
    (have : HaveApart (length (left ∷ shared)) rows seed) (spreads : Spreads coded (left ∷ shared) first seed codes) (facts : List (Fact Term))
    (stand : StandFor coded facts) (m : Term → Term) (keeps : Keeps Const m) (sends : Sends m (first ++ second) facts)
    (active : m left ≡ m right → ⊥) where
  abbrev go : Term → Term
  go = is.there.0

  -- the match sends the half, and so does the one that goes over to the other half before
  own_sends : Sends m first facts
  own_sends atom inside = sends atom (Contains-append_left first second atom inside)

  other_sends : Sends (λ term. m (go term)) first facts
  other_sends =
      sends_after go m first second facts is.there.1.atoms (λ atom inside. sends atom (Contains-append_right first second atom inside))

  one_row : (row : List ℕ) × Contains rows row × AreCodesOf coded.texts (map m (left ∷ shared)) row
  one_row = answer_row coded (left ∷ shared) first rows answers known (head_fixed first second left right shared is) facts stand m keeps own_sends

  other_row : (row : List ℕ) × Contains rows row × AreCodesOf coded.texts (map (λ term. m (go term)) (left ∷ shared)) row
  other_row = answer_row coded (left ∷ shared) first rows answers known (head_fixed first second left right shared is) facts stand
      (λ term. m (go term)) (λ text. ap m (is.there.1.keeps text) ∙ keeps text) other_sends

  -- a row of answers has no other codes than its first
  whole_row : (terms : List Term) (row : List ℕ) → length terms ≡ length (left ∷ shared) → AreCodesOf coded.texts terms row
      → AreCodesOf coded.texts terms (take (length (left ∷ shared)) row)
  whole_row terms row wide are =
      let long = zip_length (IsCodeOf coded.texts) terms row are in
      subst (AreCodesOf coded.texts terms) (sym (take_all (length (left ∷ shared)) row (omega (arith, wide, long)))) are

  one_front : AreCodesOf coded.texts (m left ∷ map m shared) (take (length (left ∷ shared)) one_row.0)
  one_front = whole_row (map m (left ∷ shared)) one_row.0 (length-map (left ∷ shared) m) one_row.2

  other_front : AreCodesOf coded.texts (m right ∷ map m shared) (take (length (left ∷ shared)) other_row.0)
  other_front = subst (λ terms. AreCodesOf coded.texts terms (take (length (left ∷ shared)) other_row.0)) turned
      (whole_row (map (λ term. m (go term)) (left ∷ shared)) other_row.0 (length-map (left ∷ shared) (λ term. m (go term))) other_row.2)
    where
      turned : m (go left) ∷ map (λ term. m (go term)) shared ≡ m right ∷ map m shared
      turned =
          let side = ap m is.there.1.side in
          let rest = map_after go m shared ∙ ap (map m) is.there.1.stay in λ i. side i ∷ rest i

  one_told : IsTrue (are_among seed one_row.0)
  one_told = have one_row.0 other_row.0 one_row.1 other_row.1
      (contrary_from coded.texts tell (m left) (m right) (map m shared) (take (length (left ∷ shared)) one_row.0)
      (take (length (left ∷ shared)) other_row.0) one_front other_front active)

  other_told : IsTrue (are_among seed other_row.0)
  other_told = have other_row.0 one_row.0 other_row.1 one_row.1
      (contrary_from coded.texts tell (m right) (m left) (map m shared) (take (length (left ∷ shared)) other_row.0)
      (take (length (left ∷ shared)) one_row.0) other_front one_front (λ same. active (sym same)))

  pub half_codes : (term : Term) → Mentions (first ++ second) term → (code : ℕ) → IsCodeOf coded.texts (m term) code → IsTrue (is_member nat_eq codes code)
  half_codes term (atom, inside, among) code stands = elim (Contains-append_cases first second atom inside) [
    | inl early ↦
        spreads tell facts stand m own_sends (reached_row coded.texts tell m (left ∷ shared) one_row.0 seed one_row.2 one_told) term
        (inr (atom, early, among)) code stands
    | inr later ↦
        let before = Contains-map_from (image go) first atom (subst (λ atoms. Contains atoms atom) (sym is.there.1.atoms) later) in
        let own = Contains-map_from go before.0.terms term (subst (λ (it : Fact Term). Contains it.terms term) (sym before.2) among) in
        spreads tell facts stand (λ term. m (go term)) other_sends
        (reached_row coded.texts tell (λ term. m (go term)) (left ∷ shared) other_row.0 seed other_row.2 other_told) own.0
        (inr (before.0, before.1, own.1)) code (subst (λ it. IsCodeOf coded.texts (m it) code) (sym own.2) stands)
  ]

pub mirrored_active : (coded : Coded) (first : List (Fact Term)) (left : Term) (shared lead : List Term) (rows : List (List ℕ)) (seed codes : List ℕ)
    → lead ≡ left ∷ shared → AreTelling coded.texts → HaveTexts coded.texts lead → AreCodedAnswers coded (record { head = lead; body = first }) rows
    → HaveApart (length lead) rows seed → Spreads coded lead first seed codes
    → (second : List (Fact Term)) (right : Term) → IsMirrored first second left right shared
    → HaveActive coded (equality (first ++ second) left right) codes
mirrored_active coded first left shared lead rows seed codes are tell known answers have spreads second right is facts stand m keeps sends active term
    inside code stands =
    half_codes coded first second left right shared is tell (subst (HaveTexts coded.texts) are known) rows
    (subst (λ (terms : List Term). AreCodedAnswers coded (record { head = terms; body = first }) rows) are answers) seed codes
    (subst (λ (terms : List Term). HaveApart (length terms) rows seed) are have) (subst (λ terms. Spreads coded terms first seed codes) are spreads)
    facts stand m keeps sends active term inside code stands
