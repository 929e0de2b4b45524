-- Whether facts meet a rule, by the codes of answers.
use Rattle.std.proofs.Common.{◌≡◌, ◌↔◌, inl, inr, ℕ, Bool, true, false, cond, List, [], ◌∷◌, ◌++◌, map, length, get_or, Contains, refl, sym, ap, ◌∙◌}
use Rattle.std.proofs.Common.{subst, arith, IsTrue, Result, Ok, Err, ◌+◌, ◌<◌, take, slice_get, Some}
use Rattle.std.specs.List.{AllZip}
use Rattle.std.specs.Result.{IfOk}
use Rattle.std.specs.Set.{is_member}
use Rattle.std.proofs.lemmas.List.{get_or_default}
use Rattle.std.proofs.lemmas.List.Elements.{Contains-append_left, Contains-append_right, Contains-append_cases}
use Rattle.esto_term.specs.Order.{same_term}
use Rattle.esto_term.specs.declared.list.OutOfMemory.{OutOfMemory}
use Rattle.esto_term.specs.declared.term.Term.{Term}
use Rattle.esto_term.specs.declared.term.Term.TheVariants.{Const}
use Rattle.esto_term.proofs.ListLemmas.{Contains-nil, Contains-head, Contains-rest, Contains-cases, Contains-one, Contains-map, Contains-map_from}
use Rattle.esto_term.proofs.ListLemmas.{agree-from_map, map_agree, place-from_Contains, Contains-read, each_more}
use Rattle.esto_term.proofs.ZipLemmas.{zip_left}
use Rattle.esto_semantics.specs.Facts.{image, Mentions, terms_of}
use Rattle.esto_semantics.specs.Maps.{AgreeOn, IsFlat, IsFixedBy, Keeps, Sends}
use Rattle.esto_semantics.specs.Rules.{Rule, IsMet, IsTupleRule, tuple, equality, denial}
use Rattle.esto_semantics.specs.declared.fact.Fact.{Fact}
use Rattle.esto_semantics.proofs.CanonicalLemmas.{Mentions-terms_of}
use Rattle.esto_chase_laws.specs.Making.{frontier}
use Rattle.esto_chase_laws.proofs.MakingLemmas.{in_terms-Decides, terms_of-Mentions, frontier_body, frontier_has}
use Rattle.esto_columns.proofs.FindLemmas.{code_there}
use Rattle.esto_rows.proofs.SameLemmas.{is_not}
use Rattle.esto_coded.specs.Answered.{IsCodedAnswer, AreCodedAnswers}
use Rattle.esto_coded.specs.Coded.{Coded, IsCodeOf, AreCodesOf, AreTelling, StandFor}
use Rattle.esto_coded.specs.Met.{StaysFor, AnswersWhether}
use Rattle.esto_coded.proofs.StandLemmas.{codes_grow, one_term, one_code}

-- ---- codes of terms, one each

pub one_terms : (texts : List (List ℕ)) → AreTelling texts → (terms others : List Term) (codes : List ℕ) → AreCodesOf texts terms codes
    → AreCodesOf texts others codes → terms ≡ others
one_terms texts tell [] [] codes are also = refl
one_terms texts tell [] (other ∷ others) [] are also = absurd also
one_terms texts tell [] (other ∷ others) (code ∷ codes) are also = absurd are
one_terms texts tell (term ∷ terms) [] [] are also = absurd are
one_terms texts tell (term ∷ terms) [] (code ∷ codes) are also = absurd also
one_terms texts tell (term ∷ terms) (other ∷ others) [] are also = absurd are
one_terms texts tell (term ∷ terms) (other ∷ others) (code ∷ codes) are also =
    let first = one_term texts tell.few term other code are.0 also.0 in
    let rest = one_terms texts tell terms others codes are.1 also.1 in λ i. first i ∷ rest i

-- what each thing of a list has, one after the other
zip_made : {X Y : Type 0} (R : X → Y → Type 0) (xs : List X) → ((x : X) → Contains xs x → (y : Y) × R x y) → (ys : List Y) × AllZip R xs ys
zip_made R [] each = ([], tt)
zip_made R (x ∷ xs) each =
    let first = each x (Contains-head x xs) in
    let rest = zip_made R xs (λ other inside. each other (Contains-rest x xs other inside)) in (first.0 ∷ rest.0, (first.1, rest.1))

-- ---- the codes of what a match makes of terms

-- each of the constants among the terms is one of the texts
abbrev pub HaveTexts : List (List ℕ) → List Term → Type 0
HaveTexts texts terms = (text : List ℕ) → Contains terms (Const text) → Contains texts text

module _ (coded : Coded) (facts : List (Fact Term)) (stand : StandFor coded facts) (m : Term → Term) (body : List (Fact Term))
    (sends : Sends m body facts) where
  mentioned_code : (term : Term) → Mentions body term → (code : ℕ) × IsCodeOf coded.texts (m term) code
  mentioned_code term (fact, inside, among) =
      let own = stand.has (image m fact) (sends fact inside) in
      let found = zip_left (IsCodeOf coded.texts) (map m fact.terms) own.0 own.1 (m term) (Contains-map m fact.terms term among) in
      (found.0, found.2)

  term_code : (head : List Term) → Keeps Const m → HaveTexts coded.texts head → (term : Term) → Contains head term → IsFixedBy body term
      → (code : ℕ) × IsCodeOf coded.texts (m term) code
  term_code head keeps known term inside (inl (text, is)) =
      let place = place-from_Contains coded.texts text (known text (subst (Contains head) is inside)) in
      (place.0, inl (text, ap m is ∙ keeps text, place.1))
  term_code head keeps known term inside (inr mentioned) = mentioned_code term mentioned

  head_codes : (head : List Term) → Keeps Const m → HaveTexts coded.texts head → ((term : Term) → Contains head term → IsFixedBy body term)
      → (row : List ℕ) × AreCodesOf coded.texts (map m head) row
  head_codes head keeps known fixed = zip_made (IsCodeOf coded.texts) (map m head) made
    where
      made : (value : Term) → Contains (map m head) value → (code : ℕ) × IsCodeOf coded.texts value code
      made value inside =
          let own = Contains-map_from m head value inside in
          let code = term_code head keeps known own.0 own.1 (fixed own.0 own.1) in
          (code.0, subst (λ it. IsCodeOf coded.texts it code.0) own.2 code.1)

-- so what a match makes of the head has its row among the answers
pub answer_row : (coded : Coded) (head : List Term) (body : List (Fact Term)) (rows : List (List ℕ))
    → AreCodedAnswers coded (record { head = head; body = body }) rows → HaveTexts coded.texts head → ((term : Term) → Contains head term → IsFixedBy body term)
    → (facts : List (Fact Term)) → StandFor coded facts → (m : Term → Term) → Keeps Const m → Sends m body facts
    → (row : List ℕ) × Contains rows row × AreCodesOf coded.texts (map m head) row
answer_row coded head body rows answers known fixed facts stand m keeps sends =
    let own = head_codes coded facts stand m body sends head keeps known fixed in
    (own.0, (answers facts stand own.0).1 (map m head, own.1, (m, keeps, sends, refl)), own.1)

-- ---- what was so of the rows before

pub whether_before : (rule : Rule) (old new : Coded) (answer : Bool) → StaysFor old new → AnswersWhether new rule answer → AnswersWhether old rule answer
whether_before rule old new answer stays whether facts stand = whether facts (stays.facts facts stand)

-- ---- denials

pub denial_answered : (coded : Coded) (body : List (Fact Term)) (rows : List (List ℕ)) (answer : Bool)
    → AreCodedAnswers coded (record { head = []; body = body }) rows → IsTrue answer ↔ (length rows ≡ 0) → AnswersWhether coded (denial body) answer
denial_answered coded body rows answer answers told facts stand = (
  λ empty m keeps sends.
      let own = answer_row coded [] body rows answers (λ text inside. absurd (Contains-nil (Const text) inside))
      (λ term inside. absurd (Contains-nil term inside)) facts stand m keeps sends in
      let within = own.1.1 in let none = told.0 empty in omega (arith, within, none),
  λ met. told.1 (by rows (λ row inside. let own = (answers facts stand row).0 inside in met own.2.0 own.2.1 own.2.2)),
)
  where
    by : (all : List (List ℕ)) → ((row : List ℕ) → Contains all row → ⊥) → length all ≡ 0
    by [] none = refl
    by (row ∷ rest) none = absurd (none row (Contains-head row rest))

-- ---- equality rules

-- the two codes of a row are one exactly where the two terms are
sides_told : (texts : List (List ℕ)) → AreTelling texts → (left right : Term) (row : List ℕ) → AreCodesOf texts (left ∷ right ∷ []) row
    → (get_or row 0 0 ≡ get_or row 1 0) ↔ (left ≡ right)
sides_told texts tell left right [] are = absurd are
sides_told texts tell left right (code ∷ []) are = absurd are.1
sides_told texts tell left right (code ∷ other ∷ []) are = (
  λ same. one_term texts tell.few left right code are.0 (subst (IsCodeOf texts right) (sym same) are.1.0),
  λ same. one_code texts tell.distinct left code other are.0 (subst (λ it. IsCodeOf texts it other) (sym same) are.1.0),
)
sides_told texts tell left right (code ∷ other ∷ more ∷ rest) are = absurd are.1.1

pub equality_answered : (coded : Coded) (body : List (Fact Term)) (left right : Term) (rows : List (List ℕ)) (answer : Bool) → AreTelling coded.texts
    → HaveTexts coded.texts (left ∷ right ∷ []) → ((term : Term) → Contains (left ∷ right ∷ []) term → IsFixedBy body term)
    → AreCodedAnswers coded (record { head = left ∷ right ∷ []; body = body }) rows
    → IsTrue answer ↔ ((row : List ℕ) → Contains rows row → get_or row 0 0 ≡ get_or row 1 0) → AnswersWhether coded (equality body left right) answer
equality_answered coded body left right rows answer tell known fixed answers told facts stand = (
  λ agree m keeps sends.
      let own = answer_row coded (left ∷ right ∷ []) body rows answers known fixed facts stand m keeps sends in
      (sides_told coded.texts tell (m left) (m right) own.0 own.2).0 (told.0 agree own.0 own.1),
  λ met. told.1 (λ row inside. let own = (answers facts stand row).0 inside in
      (sides_told coded.texts tell (own.2.0 left) (own.2.0 right) row (subst (λ them. AreCodesOf coded.texts them row) own.2.3 own.1)).1
      (met own.2.0 own.2.1 own.2.2)),
)

module _ (rows : List (List ℕ)) (left right : List ℕ) (is : left ≡ map (λ row. get_or row 0 0) rows) (also : right ≡ map (λ row. get_or row 1 0) rows)
    (at one other : ℕ) (below : at < length rows) (here : slice_get left at ≡ Some one) (there : slice_get right at ≡ Some other) where
  -- where the rows before a place have the same code in both columns, and the one there too, those up to it have
  pub agree_more : one ≡ other → ((row : List ℕ) → Contains (take at rows) row → get_or row 0 0 ≡ get_or row 1 0)
      → (row : List ℕ) → Contains (take (at + 1) rows) row → get_or row 0 0 ≡ get_or row 1 0
  agree_more same =
      each_more (λ row. get_or row 0 0 ≡ get_or row 1 0) rows at (get_or rows at []) below (get_or_default rows at [] (get_or rows at []) below)
      (sym (code_there rows at 0 left one below is here) ∙ same ∙ code_there rows at 1 right other below also there)

  -- where one row has two codes there, not each has the same
  pub agree_not : (one ≡ other → ⊥) → IsTrue false ↔ ((row : List ℕ) → Contains rows row → get_or row 0 0 ≡ get_or row 1 0)
  agree_not apart = is_not (λ each. apart (code_there rows at 0 left one below is here
      ∙ each (get_or rows at []) (Contains-read rows at (get_or rows at []) below (get_or_default rows at [] (get_or rows at []) below))
      ∙ sym (code_there rows at 1 right other below also there)))

-- ---- tuple rules

pub body_fixed : (body head : List (Fact Term)) (term : Term) → Contains (frontier body head) term → IsFixedBy body term
body_fixed body head term inside = inr (frontier_body body head term inside)

-- the one map at the terms of the body, and the other at all others
module _ (body : List (Fact Term)) (m other : Term → Term) where
  abbrev pub joint : Term → Term
  joint term = cond (is_member same_term (terms_of body) term) (m term) (other term)

  pub joint_body : (term : Term) → Mentions body term → joint term ≡ m term
  joint_body term inside = ap (λ it. cond it (m term) (other term)) ((in_terms-Decides body term).1 (Mentions-terms_of body term inside))

  -- it is the other, if this agrees at the term in the body
  pub joint_other : (term : Term) → (Mentions body term → m term ≡ other term) → joint term ≡ other term
  joint_other term agree = by (is_member same_term (terms_of body) term) (λ told. agree (terms_of-Mentions body term ((in_terms-Decides body term).0 told)))
    where
      by : (answer : Bool) → (answer ≡ true → m term ≡ other term) → cond answer (m term) (other term) ≡ other term
      by true same = same refl
      by false same = refl

  module _ (head : List (Fact Term)) (flat : (term : Term) → Mentions head term → IsFlat term) (keeps : Keeps Const m) (also : Keeps Const other)
      (same : map m (frontier body head) ≡ map other (frontier body head)) where
    joint_keeps : Keeps Const joint
    joint_keeps text = joint_other (Const text) (λ inside. keeps text ∙ sym (also text)) ∙ also text

    at_head : (term : Term) → Mentions head term → joint term ≡ other term
    at_head term in_head = joint_other term (by (flat term in_head))
      where
        by : IsFlat term → Mentions body term → m term ≡ other term
        by (inl (text, is)) in_body = ap m is ∙ keeps text ∙ sym (also text) ∙ ap other (sym is)
        by (inr (variable, is)) in_body = agree-from_map m other (frontier body head) term same (subst (Contains (frontier body head)) (sym is)
            (frontier_has body head variable (subst (Mentions body) is in_body) (subst (Mentions head) is in_head)))

    joint_sends : (facts : List (Fact Term)) → Sends other head facts → Sends joint head facts
    joint_sends facts sends atom inside =
        let terms = map_agree joint other atom.terms (λ term among. at_head term (atom, inside, among)) in
        subst (λ them. Contains facts (record { relation = atom.relation; terms = them })) (sym terms) (sends atom inside)

-- a map of both bodies is one of the later
sends_later : (m : Term → Term) (body head facts : List (Fact Term)) → Sends m (body ++ head) facts → Sends m head facts
sends_later m body head facts sends atom inside = sends atom (Contains-append_right body head atom inside)

-- and one that agrees with a map of the body, and sends the head, is one of both
sends_both : (m more : Term → Term) (body head facts : List (Fact Term)) → Sends m body facts → AgreeOn ◌≡◌ body m more → Sends more head facts
    → Sends more (body ++ head) facts
sends_both m more body head facts sends agree also atom inside = elim (Contains-append_cases body head atom inside) [
  | inl early ↦
      let terms = map_agree m more atom.terms (λ term among. agree term (atom, early, among)) in
      subst (λ them. Contains facts (record { relation = atom.relation; terms = them })) terms (sends atom early)
  | inr later ↦ also atom later
]

-- ---- whether rows are answers

pub part_told : (coded : Coded) (head : List Term) (body : List (Fact Term)) (rows answers : List (List ℕ))
    → AreCodedAnswers coded (record { head = head; body = body }) answers → (answer : Bool)
    → IsTrue answer ↔ ((row : List ℕ) → Contains rows row → Contains answers row) → (facts : List (Fact Term)) → StandFor coded facts
    → IsTrue answer ↔ ((row : List ℕ) → Contains rows row → IsCodedAnswer coded (record { head = head; body = body }) facts row)
part_told coded head body rows answers are answer told facts stand = (
  λ part row inside. (are facts stand row).0 (told.0 part row inside),
  λ each. told.1 (λ row inside. (are facts stand row).1 (each row inside)),
)

-- and the same where the body is another list that is equal
pub told_over : (result : Result Bool OutOfMemory) (coded : Coded) (head : List Term) (body both : List (Fact Term)) (rows : List (List ℕ)) → body ≡ both
    → IfOk result (λ answer. (facts : List (Fact Term)) → StandFor coded facts
    → IsTrue answer ↔ ((row : List ℕ) → Contains rows row → IsCodedAnswer coded (record { head = head; body = body }) facts row))
    → IfOk result (λ answer. (facts : List (Fact Term)) → StandFor coded facts
    → IsTrue answer ↔ ((row : List ℕ) → Contains rows row → IsCodedAnswer coded (record { head = head; body = both }) facts row))
told_over result coded head body both rows same told =
    subst (λ them. IfOk result (λ answer. (facts : List (Fact Term)) → StandFor coded facts
    → IsTrue answer ↔ ((row : List ℕ) → Contains rows row → IsCodedAnswer coded (record { head = head; body = them }) facts row))) same told

module _ (body head : List (Fact Term)) (is : IsTupleRule body head) (one two : Coded) (stays : StaysFor one two) (tell : AreTelling two.texts)
    (known : HaveTexts one.texts (frontier body head)) (given : List (List ℕ))
    (of_body : AreCodedAnswers one (record { head = frontier body head; body = body }) given) (facts : List (Fact Term)) (stand : StandFor one facts) where
  -- each row that the body gives is one that body and head give together
  abbrev GoesOn : Type 0
  GoesOn = (row : List ℕ) → Contains given row → IsCodedAnswer two (record { head = frontier body head; body = body ++ head }) facts row

  -- then each match of the body goes on to the head
  goes_on : GoesOn → IsMet facts (tuple body head)
  goes_on each m keeps sends =
      let own = answer_row one (frontier body head) body given of_body known (body_fixed body head) facts stand m keeps sends in
      let found = each own.0 own.1 in
      let other = found.2.0 in
      let terms : map m (frontier body head) ≡ map other (frontier body head) =
      one_terms two.texts tell (map m (frontier body head)) found.0 own.0
      (codes_grow one.texts two.texts stays.grown (map m (frontier body head)) own.0 own.2) found.1
      ∙ found.2.3 in (
        joint body m other,
        joint_keeps body m other head is.flat_head keeps found.2.1 terms,
        (λ term inside. sym (joint_body body m other term inside)),
        joint_sends body m other head is.flat_head keeps found.2.1 terms facts (sends_later other body head facts found.2.2),
      )

  -- and where each match goes on, each row is given
  is_given : IsMet facts (tuple body head) → GoesOn
  is_given met row inside =
      let own = (of_body facts stand row).0 inside in
      let m = own.2.0 in
      let found = met m own.2.1 own.2.2 in
      let terms : own.0 ≡ map found.0 (frontier body head) =
      own.2.3 ∙ map_agree m found.0 (frontier body head) (λ term among. found.2 term (frontier_body body head term among)) in (
        own.0,
        codes_grow one.texts two.texts stays.grown own.0 row own.1,
        (found.0, found.1, sends_both m found.0 body head facts own.2.2 found.2 found.3, terms),
      )

pub tuple_answered : (body head : List (Fact Term)) → IsTupleRule body head → (shared : List Term) → shared ≡ frontier body head → (one two : Coded)
    → StaysFor one two → AreTelling two.texts → HaveTexts one.texts shared → (given : List (List ℕ)) (answer : Bool)
    → AreCodedAnswers one (record { head = shared; body = body }) given
    → ((facts : List (Fact Term)) → StandFor two facts
    → IsTrue answer ↔ ((row : List ℕ) → Contains given row → IsCodedAnswer two (record { head = shared; body = body ++ head }) facts row))
    → AnswersWhether one (tuple body head) answer
tuple_answered body head is shared same one two stays tell known given answer of_body told facts stand =
    let have = subst (HaveTexts one.texts) same known in
    let are = subst (λ terms. AreCodedAnswers one (record { head = terms; body = body }) given) same of_body in
    let each = subst (λ terms. IsTrue answer
    ↔ ((row : List ℕ) → Contains given row → IsCodedAnswer two (record { head = terms; body = body ++ head }) facts row))
    same (told facts (stays.facts facts stand)) in (
      λ yes. goes_on body head is one two stays tell have given are facts stand (each.0 yes),
      λ met. each.1 (is_given body head is one two stays tell have given are facts stand met),
    )

-- the same of what a call answers
pub over_told : (result : Result Bool OutOfMemory) (body head : List (Fact Term)) → IsTupleRule body head → (shared : List Term) → shared ≡ frontier body head
    → (old one two : Coded) → StaysFor old one → StaysFor one two → HaveTexts one.texts shared → (given : List (List ℕ))
    → AreCodedAnswers one (record { head = shared; body = body }) given → IfOk result (λ it. AreTelling two.texts)
    → IfOk result (λ answer. (facts : List (Fact Term)) → StandFor two facts
    → IsTrue answer ↔ ((row : List ℕ) → Contains given row → IsCodedAnswer two (record { head = shared; body = body ++ head }) facts row))
    → IfOk result (AnswersWhether old (tuple body head))
over_told (Ok answer) body head is shared same old one two before stays known given of_body tell told =
    whether_before (tuple body head) old one answer before (tuple_answered body head is shared same one two stays tell known given answer of_body told)
over_told (Err error) body head is shared same old one two before stays known given of_body tell told = tt

-- where there are no rows all of them are so
pub none_are : (rows : List (List ℕ)) (So : List ℕ → Type 0) → length rows ≡ 0 → IsTrue true ↔ ((row : List ℕ) → Contains rows row → So row)
none_are rows So empty = (λ _ row inside. let within = inside.1 in absurd (omega (arith, within, empty)), λ _. refl)

-- what the frontier has is fixed
pub shared_body : (body head : List (Fact Term)) (shared : List Term) → shared ≡ frontier body head → (term : Term) → Contains shared term → IsFixedBy body term
shared_body body head shared same term inside = body_fixed body head term (subst (λ terms. Contains terms term) same inside)

pub shared_both : (body head : List (Fact Term)) (shared : List Term) → shared ≡ frontier body head → (term : Term) → Contains shared term
    → IsFixedBy (body ++ head) term
shared_both body head shared same term inside =
    let own = frontier_body body head term (subst (λ terms. Contains terms term) same inside) in
    inr (own.0, Contains-append_left body head own.0 own.1, own.2)

-- and the sides of an equality rule
pub sides_fixed : (body : List (Fact Term)) (left right : Term) (sides : List Term) → sides ≡ left ∷ right ∷ [] → IsFixedBy body left → IsFixedBy body right
    → (term : Term) → Contains sides term → IsFixedBy body term
sides_fixed body left right sides same one other term inside =
    elim (Contains-cases left (right ∷ []) term (subst (λ terms. Contains terms term) same inside)) [
      | inl is ↦ subst (IsFixedBy body) is one
      | inr later ↦ subst (IsFixedBy body) (Contains-one right term later) other
    ]
