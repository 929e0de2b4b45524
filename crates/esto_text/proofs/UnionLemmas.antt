-- Unions: queries that are parted by semicolons, and the place at which their texts leave the grammar.
use Rattle.std.proofs.Common.{◌≡◌, ◌≢◌, ◌<◌, ◌≤◌, ◌-◌, ℕ, zero, suc, Bool, true, false, cond, List, [], ◌∷◌, ◌++◌, length, Option, Some, None, refl, sym}
use Rattle.std.proofs.Common.{ap, subst, ◌∙◌, append_assoc, arith}
use Rattle.std.proofs.lemmas.List.{append-nil}
use Rattle.esto_text.specs.declared.token.Token.{Token}
use Rattle.esto_text.specs.declared.token.TokenKind.{TokenKind}
use Rattle.esto_text.specs.declared.token.TokenKind.TheVariants.{Semicolon, Stray}
use Rattle.esto_text.specs.declared.unions.TheConstants.{MAX_QUERIES}
use Rattle.esto_text.specs.Faults.{Leaves, StopsAt}
use Rattle.esto_text.specs.Grammar.{class_of, IsQuery, IsUnionEnd, IsUnionFrom, IsUnion}
use Rattle.esto_text.specs.Limits.{is_close, is_name, is_semicolon, in_room, limited_row, limited, Reached, Nothing, Part, Head, reached_then, limited_token}
use Rattle.esto_text.specs.Limits.{limited_after, limited_union}
use Rattle.esto_text.specs.Machine.{Symbol, AName, ATerm, ANext, AParen, ABracket, ATurnstile, MoreNames, MoreTerms, AnItem, ItemRest, MoreItems, MoreBody}
use Rattle.esto_text.specs.Machine.{AHead, HeadRest, AGroup, AnEntry, PathRest, MoreEntries, start, step, advance, first_fault, HasNoSemicolon, EndsQuery}
use Rattle.esto_text.specs.Machine.{IsCut}
use Rattle.esto_text.specs.Trees.{QueryTree}
use Rattle.esto_text.proofs.Runs.{query_runs, after}
use Rattle.esto_text.proofs.Unique.{query_one}

-- ---- a query has no semicolon

step_none : (x : Symbol) → step x Semicolon ≡ None
step_none AName = refl
step_none ATerm = refl
step_none ANext = refl
step_none AParen = refl
step_none ABracket = refl
step_none ATurnstile = refl
step_none MoreNames = refl
step_none MoreTerms = refl
step_none AnItem = refl
step_none ItemRest = refl
step_none MoreItems = refl
step_none MoreBody = refl
step_none AHead = refl
step_none HeadRest = refl
step_none AGroup = refl
step_none (AnEntry n) = refl
step_none (PathRest n) = refl
step_none (MoreEntries n) = refl

advance_none : (xs : List Symbol) → advance xs Semicolon ≡ None
advance_none [] = refl
advance_none (x ∷ xs) = ap (λ (o : Option (List Symbol)). elim o [ Some new ↦ Some (new ++ xs) | None ↦ None ]) (step_none x)

fits_none : (xs : List Symbol) (ts : List Token) → first_fault xs ts ≡ None → HasNoSemicolon ts
fits_none xs [] e = tt
fits_none xs (t ∷ ts) e = go (advance xs (class_of t)) refl e (λ new. fits_none new ts)
  where
    go : (o : Option (List Symbol)) → advance xs (class_of t) ≡ o → after o t ts ≡ None
        → ((new : List Symbol) → first_fault new ts ≡ None → HasNoSemicolon ts) → HasNoSemicolon (t ∷ ts)
    go None f g later = absurd cc
    go (Some new) f g later = (
      λ is. let wrong : None ≡ Some new = sym (advance_none xs) ∙ ap (advance xs) (sym is) ∙ f in absurd cc,
      later new g,
    )

pub query_none : (q : QueryTree) (ts : List Token) → IsQuery q ts → HasNoSemicolon ts
query_none q ts h = fits_none start ts (query_runs q ts h)

-- ---- one cut

none_front : (a b : List Token) → HasNoSemicolon (a ++ b) → HasNoSemicolon a
none_front [] b h = tt
none_front (t ∷ a) b h = (h.0, none_front a b h.1)

none_back : (a b : List Token) → HasNoSemicolon (a ++ b) → HasNoSemicolon b
none_back [] b h = h
none_back (t ∷ a) b h = none_back a b h.1

-- what ends a query and has no semicolon is nothing
ends_none : (b : List Token) → EndsQuery b → HasNoSemicolon b → b ≡ []
ends_none [] ends none = refl
ends_none (t ∷ b) ends none = absurd (none.0 ends)

pub one_cut : (p r a b : List Token) → p ++ r ≡ a ++ b → HasNoSemicolon p → EndsQuery r → HasNoSemicolon a → EndsQuery b → (p ≡ a) × (r ≡ b)
one_cut [] r [] b e none ends none' ends' = (refl, e)
one_cut [] r (y ∷ a) b e none ends none' ends' = absurd (none'.0 (subst EndsQuery e ends))
one_cut (x ∷ p) r [] b e none ends none' ends' = absurd (none.0 (subst EndsQuery (sym e) ends'))
one_cut (x ∷ p) r (y ∷ a) b e none ends none' ends' =
    let first : x ≡ y = cc in
    let rest : p ++ r ≡ a ++ b = cc in
    let more = one_cut p r a b rest none.1 ends none'.1 ends' in
    ((λ i. first i ∷ more.0 i), more.1)

-- a part that no semicolon cuts lies within the query
within : (front : List Token) (t : Token) (more a b : List Token) → a ++ b ≡ front ++ t ∷ more → HasNoSemicolon front → class_of t ≢ Semicolon → EndsQuery b
    → (rest : List Token) × (a ≡ front ++ t ∷ rest)
within [] t more [] b e none not ends = absurd (not (subst EndsQuery e ends))
within (y ∷ front) t more [] b e none not ends = absurd (none.0 (subst EndsQuery e ends))
within [] t more (x ∷ a) b e none not ends = let same : x ≡ t = cc in (a, ap (λ (z : Token). z ∷ a) same)
within (y ∷ front) t more (x ∷ a) b e none not ends =
    let same : x ≡ y = cc in
    let rest : a ++ b ≡ front ++ t ∷ more = cc in
    let found = within front t more a b rest none.1 not ends in
    (found.0, (λ i. same i ∷ found.1 i))

end_ends : (count : ℕ) (qs : List QueryTree) (b : List Token) → IsUnionEnd count qs b → EndsQuery b
end_ends count [] b h = subst EndsQuery (sym h) tt
end_ends count (q ∷ qs) b (semicolon, a, more, e, is, less, query, end) = subst EndsQuery (sym e) is

-- ---- unions are one

parts_one : (q q' : QueryTree) (a b a' b' : List Token) → a ++ b ≡ a' ++ b' → IsQuery q a → EndsQuery b → IsQuery q' a' → EndsQuery b'
    → (q ≡ q') × (b ≡ b')
parts_one q q' a b a' b' e query ends query' ends' =
    let cut = one_cut a b a' b' e (query_none q a query) ends (query_none q' a' query') ends' in
    (query_one q q' a query (subst (IsQuery q') (sym cut.0) query'), cut.1)

end_one : (qs qs' : List QueryTree) (count : ℕ) (ts : List Token) → IsUnionEnd count qs ts → IsUnionEnd count qs' ts → qs ≡ qs'
end_one [] [] count ts h h' = refl
end_one [] (q' ∷ qs') count ts h (semicolon, a, b, e, is, less, query, end) = let wrong : [] ≡ semicolon ∷ (a ++ b) = sym h ∙ e in absurd cc
end_one (q ∷ qs) [] count ts (semicolon, a, b, e, is, less, query, end) h = let wrong : [] ≡ semicolon ∷ (a ++ b) = sym h ∙ e in absurd cc
end_one (q ∷ qs) (q' ∷ qs') count ts (semicolon, a, b, e, is, less, query, end) (semicolon', a', b', e', is', less', query', end') =
    let both : semicolon ∷ (a ++ b) ≡ semicolon' ∷ (a' ++ b') = sym e ∙ e' in
    let rest : a ++ b ≡ a' ++ b' = cc in
    let first = parts_one q q' a b a' b' rest query (end_ends (suc count) qs b end) query' (end_ends (suc count) qs' b' end') in
    let more : qs ≡ qs' = end_one qs qs' (suc count) b end (subst (IsUnionEnd (suc count) qs') (sym first.1) end') in
    λ i. first.0 i ∷ more i

from_one : (count : ℕ) (qs qs' : List QueryTree) (ts : List Token) → IsUnionFrom count qs ts → IsUnionFrom count qs' ts → qs ≡ qs'
from_one count [] qs' ts h h' = absurd h
from_one count (q ∷ qs) [] ts h h' = absurd h'
from_one count (q ∷ qs) (q' ∷ qs') ts (a, b, e, query, end) (a', b', e', query', end') =
    let first = parts_one q q' a b a' b' (sym e ∙ e') query (end_ends (suc count) qs b end) query' (end_ends (suc count) qs' b' end') in
    let more : qs ≡ qs' = end_one qs qs' (suc count) b end (subst (IsUnionEnd (suc count) qs') (sym first.1) end') in
    λ i. first.0 i ∷ more i

pub union_one : (qs qs' : List QueryTree) (ts : List Token) → IsUnion qs ts → IsUnion qs' ts → qs ≡ qs'
union_one = from_one 0

-- ---- one query more

pub one_query : (count : ℕ) (q : QueryTree) (part : List Token) → IsQuery q part → IsUnionFrom count (q ∷ []) part
one_query count q part h = (part, [], sym (append-nil part), h, refl)

pub more_queries : (count : ℕ) (q : QueryTree) (qs : List QueryTree) (part : List Token) (semicolon : Token) (more : List Token) → IsQuery q part
    → class_of semicolon ≡ Semicolon → suc count < MAX_QUERIES → IsUnionFrom (suc count) qs more → IsUnionFrom count (q ∷ qs) (part ++ semicolon ∷ more)
more_queries count q [] part semicolon more query is less h = absurd h
more_queries count q (q' ∷ qs) part semicolon more query is less (a, b, e, query', end) =
    (part, semicolon ∷ more, refl, query, (semicolon, a, b, ap (λ (l : List Token). semicolon ∷ l) e, is, less, query', end))

-- what follows a query and a semicolon is a union that goes on
module _ (count : ℕ) (part : List Token) (semicolon : Token) (none : HasNoSemicolon part) (is : class_of semicolon ≡ Semicolon) where
  after_one : (qs : List QueryTree) (more : List Token) → IsUnionFrom count qs (part ++ semicolon ∷ more)
      → (suc count < MAX_QUERIES) × ((rest : List QueryTree) × IsUnionFrom (suc count) rest more)
  after_one [] more h = absurd h
  after_one (q ∷ qs) more (a, b, e, query, end) =
      let cut = one_cut part (semicolon ∷ more) a b e none is (query_none q a query) (end_ends (suc count) qs b end) in
      at_end qs (subst (IsUnionEnd (suc count) qs) (sym cut.1) end)
    where
      at_end : (qs : List QueryTree) → IsUnionEnd (suc count) qs (semicolon ∷ more)
          → (suc count < MAX_QUERIES) × ((rest : List QueryTree) × IsUnionFrom (suc count) rest more)
      at_end [] wrong = absurd cc
      at_end (q' ∷ qs) (semicolon', a, b, e, is', less, query, end) =
          let rest : more ≡ a ++ b = cc in (less, (q' ∷ qs, (a, b, rest, query, end)))

  -- and stops where that stops
  pub more_stop : (q : QueryTree) (more rest : List Token) → IsQuery q part → suc count < MAX_QUERIES → StopsAt (IsUnionFrom (suc count)) more rest
      → StopsAt (IsUnionFrom count) (part ++ semicolon ∷ more) rest
  more_stop q more rest query less (front, e, (qs, m, viable), leaves) = (
    part ++ semicolon ∷ front,
    ap (λ (l : List Token). part ++ semicolon ∷ l) e ∙ sym (append_assoc part (semicolon ∷ front) rest),
    (
      q ∷ qs,
      m,
      subst (IsUnionFrom count (q ∷ qs)) (sym (append_assoc part (semicolon ∷ front) m))
          (more_queries count q qs part semicolon (front ++ m) query is less viable),
    ),
    leave rest leaves,
  ) where
    leave : (rest : List Token) → Leaves (IsUnionFrom (suc count)) front rest → Leaves (IsUnionFrom count) (part ++ semicolon ∷ front) rest
    leave [] none_there = λ qs h. let found = (after_one qs front h).1 in none_there found.0 found.1
    leave (t ∷ rest) not_viable = λ (qs, m, h).
        let same : ((part ++ semicolon ∷ front) ++ t ∷ []) ++ m ≡ part ++ semicolon ∷ ((front ++ t ∷ []) ++ m) =
        append_assoc (part ++ semicolon ∷ front) (t ∷ []) m ∙ append_assoc part (semicolon ∷ front) (t ∷ m)
        ∙ ap (λ (l : List Token). part ++ semicolon ∷ l) (sym (append_assoc front (t ∷ []) m)) in
        let found = (after_one qs ((front ++ t ∷ []) ++ m) (subst (IsUnionFrom count qs) same h)).1 in
        not_viable (found.0, m, found.1)

  -- where no more queries may stand, it stops at the semicolon
  pub full_stop : (q : QueryTree) (more : List Token) → IsQuery q part → MAX_QUERIES ≤ suc count
      → StopsAt (IsUnionFrom count) (part ++ semicolon ∷ more) (semicolon ∷ more)
  full_stop q more query full = (
    part,
    refl,
    (q ∷ [], [], subst (IsUnionFrom count (q ∷ [])) (sym (append-nil part)) (one_query count q part query)),
    λ (qs, m, h).
        let same : (part ++ semicolon ∷ []) ++ m ≡ part ++ semicolon ∷ m = append_assoc part (semicolon ∷ []) m in
        let less = (after_one qs m (subst (IsUnionFrom count qs) same h)).0 in
        absurd (omega (arith, less, full)),
  )

-- a union stops where the query at its front does
module _ (count : ℕ) (part rest : List Token) (none : HasNoSemicolon part) (ends : EndsQuery rest) where
  pub part_stop : (stop : List Token) → StopsAt IsQuery part stop → StopsAt (IsUnionFrom count) (part ++ rest) (stop ++ rest)
  part_stop stop (front, e, (q, m, viable), leaves) = (
    front,
    ap (λ (l : List Token). l ++ rest) e ∙ append_assoc front stop rest,
    (q ∷ [], m, one_query count q (front ++ m) viable),
    leave stop rest (subst HasNoSemicolon e none) ends leaves,
  ) where
    front_query : (q : QueryTree) (a : List Token) → front ≡ a → IsQuery q a → IsQuery q front
    front_query q a same h = subst (IsQuery q) (sym same) h

    leave : (stop rest : List Token) → HasNoSemicolon (front ++ stop) → EndsQuery rest → Leaves IsQuery front stop
        → Leaves (IsUnionFrom count) front (stop ++ rest)
    leave (t ∷ stop) rest whole ends leaves = λ (qs, m, h). inside qs m h
      where
        inside : (qs : List QueryTree) (m : List Token) → IsUnionFrom count qs ((front ++ t ∷ []) ++ m) → ⊥
        inside [] m h = h
        inside (q ∷ qs) m (a, b, e, query, end) =
            let found = within front t m a b (sym e ∙ append_assoc front (t ∷ []) m) (none_front front (t ∷ stop) whole)
            (none_back front (t ∷ stop) whole).0 (end_ends (suc count) qs b end) in
            leaves (q, found.0, subst (IsQuery q) (found.1 ∙ sym (append_assoc front (t ∷ []) found.0)) query)
    leave [] [] whole ends leaves = λ qs h. alone qs h
      where
        alone : (qs : List QueryTree) → IsUnionFrom count qs front → ⊥
        alone [] h = h
        alone (q ∷ qs) (a, b, e, query, end) =
            let nothing : b ≡ [] = ends_none b (end_ends (suc count) qs b end) (none_back a b (subst HasNoSemicolon (e) (none_front front [] whole))) in
            leaves q (front_query q a (e ∙ ap (λ (l : List Token). a ++ l) nothing ∙ append-nil a) query)
    leave [] (semicolon ∷ more) whole ends leaves = λ (qs, m, h). before qs m h
      where
        before : (qs : List QueryTree) (m : List Token) → IsUnionFrom count qs ((front ++ semicolon ∷ []) ++ m) → ⊥
        before [] m h = h
        before (q ∷ qs) m (a, b, e, query, end) =
            let cut = one_cut front (semicolon ∷ m) a b (sym (append_assoc front (semicolon ∷ []) m) ∙ e) (none_front front [] whole) ends
            (query_none q a query) (end_ends (suc count) qs b end) in
            leaves q (front_query q a cut.0 query)

-- ---- the limit of heads

-- what comes after a query, as the grammar sees it
abbrev pub later : List Token → List Token
later [] = []
later (t ∷ ts) = t ∷ limited_after Nothing ts

semicolon_is : (t : Token) → class_of t ≢ Semicolon → is_semicolon (class_of t) ≡ false
semicolon_is t not = by (class_of t) not
  where
    by : (k : TokenKind) → k ≢ Semicolon → is_semicolon k ≡ false
    by Semicolon not = absurd (not refl)
    by _ not = refl

-- at a semicolon nothing changes, and a query begins anew
ends_later : (reached : Reached) (rest : List Token) → EndsQuery rest → limited_after reached rest ≡ later rest
ends_later reached [] ends = refl
ends_later reached (t ∷ ts) ends = here reached
  where
    here : (reached : Reached) → limited_token reached t ∷ limited_after (reached_then reached (class_of t)) ts ≡ t ∷ limited_after Nothing ts
    here Nothing = rw ends refl
    here (Part room) = rw ends refl
    here Head = rw ends refl

behind_head : (part rest : List Token) → HasNoSemicolon part → EndsQuery rest → limited_after Head (part ++ rest) ≡ part ++ later rest
behind_head [] rest none ends = ends_later Head rest ends
behind_head (t ∷ part) rest none ends =
    let not : is_semicolon (class_of t) ≡ false = semicolon_is t none.0 in
    let more : limited_after Head (part ++ rest) ≡ part ++ later rest = behind_head part rest none.1 ends in
    rw not (ap (λ (l : List Token). t ∷ l) more)

in_head : (room : ℕ) (part rest : List Token) → HasNoSemicolon part → EndsQuery rest
    → limited_after (Part room) (part ++ rest) ≡ limited_row room part ++ later rest
in_head room [] rest none ends = ends_later (Part room) rest ends
in_head room (t ∷ part) rest none ends =
    let not : is_semicolon (class_of t) ≡ false = semicolon_is t none.0 in
    rw not (by (is_close (class_of t)) (is_name (class_of t)) (behind_head part rest none.1 ends) (in_head room part rest none.1 ends)
    (in_head (room - 1) part rest none.1 ends))
  where
    by : (close name : Bool) → limited_after Head (part ++ rest) ≡ part ++ later rest
        → limited_after (Part room) (part ++ rest) ≡ limited_row room part ++ later rest
        → limited_after (Part (room - 1)) (part ++ rest) ≡ limited_row (room - 1) part ++ later rest
        → cond close t (cond name (in_room room t) t) ∷ limited_after (cond close Head (cond name (Part (room - 1)) (Part room))) (part ++ rest)
        ≡ cond close (t ∷ part) (cond name (in_room room t ∷ limited_row (room - 1) part) (t ∷ limited_row room part)) ++ later rest
    by true name behind same less = ap (λ (l : List Token). t ∷ l) behind
    by false true behind same less = ap (λ (l : List Token). in_room room t ∷ l) less
    by false false behind same less = ap (λ (l : List Token). t ∷ l) same

-- each query of a union is limited by itself
pub limited_cut : (tokens part rest : List Token) → IsCut tokens part rest → limited_union tokens ≡ limited part ++ later rest
limited_cut tokens [] rest cut = ap limited_union cut.is ∙ ends_later Nothing rest cut.ends
limited_cut tokens (t ∷ part) rest cut =
    let not : is_semicolon (class_of t) ≡ false = semicolon_is t cut.none.0 in
    let first : limited_union (t ∷ (part ++ rest)) ≡ t ∷ limited_after (Part 32) (part ++ rest) = rw not refl in
    ap limited_union cut.is ∙ first ∙ ap (λ (l : List Token). t ∷ l) (in_head 32 part rest cut.none.1 cut.ends)

room_none : (room : ℕ) (t : Token) → class_of t ≢ Semicolon → class_of (in_room room t) ≢ Semicolon
room_none zero t not = λ is. let wrong : Stray ≡ Semicolon = is in cc
room_none (suc room) t not = not

row_none : (room : ℕ) (part : List Token) → HasNoSemicolon part → HasNoSemicolon (limited_row room part)
row_none room [] none = tt
row_none room (t ∷ part) none = by (is_close (class_of t)) (is_name (class_of t)) (row_none room part none.1) (row_none (room - 1) part none.1)
  where
    by : (close name : Bool) → HasNoSemicolon (limited_row room part) → HasNoSemicolon (limited_row (room - 1) part)
        → HasNoSemicolon (cond close (t ∷ part) (cond name (in_room room t ∷ limited_row (room - 1) part) (t ∷ limited_row room part)))
    by true name same less = none
    by false true same less = (room_none room t none.0, less)
    by false false same less = (none.0, same)

pub limited_none : (part : List Token) → HasNoSemicolon part → HasNoSemicolon (limited part)
limited_none [] none = tt
limited_none (t ∷ part) none = (none.0, row_none 32 part none.1)

pub later_ends : (rest : List Token) → EndsQuery rest → EndsQuery (later rest)
later_ends [] ends = tt
later_ends (t ∷ rest) ends = ends

pub length_after : (reached : Reached) (ts : List Token) → length (limited_after reached ts) ≡ length ts
length_after reached [] = refl
length_after reached (t ∷ ts) = ap suc (length_after (reached_then reached (class_of t)) ts)

pub length_later : (rest : List Token) → length (later rest) ≡ length rest
length_later [] = refl
length_later (t ∷ rest) = ap suc (length_after Nothing rest)

-- ---- a union of one query

row_back : (room : ℕ) (part : List Token) → HasNoSemicolon (limited_row room part) → HasNoSemicolon part
row_back room [] h = tt
row_back room (t ∷ part) h = (
  λ is. let same : limited_row room (t ∷ part) ≡ t ∷ limited_row room part = rw is refl in (subst HasNoSemicolon same h).0 is,
  by (is_close (class_of t)) (is_name (class_of t)) (row_back room part) (row_back (room - 1) part) h,
)
  where
    by : (close name : Bool) → (HasNoSemicolon (limited_row room part) → HasNoSemicolon part)
        → (HasNoSemicolon (limited_row (room - 1) part) → HasNoSemicolon part)
        → HasNoSemicolon (cond close (t ∷ part) (cond name (in_room room t ∷ limited_row (room - 1) part) (t ∷ limited_row room part)))
        → HasNoSemicolon part
    by true name same less h = h.1
    by false true same less h = less h.1
    by false false same less h = same h.1

limited_back : (part : List Token) → HasNoSemicolon (limited part) → HasNoSemicolon part
limited_back [] h = tt
limited_back (t ∷ part) h = (h.0, row_back 32 part h.1)

token_same : (reached : Reached) (t : Token) → class_of t ≡ Semicolon → limited_token reached t ≡ t
token_same Nothing t is = refl
token_same (Part room) t is = rw is refl
token_same Head t is = refl

after_back : (reached : Reached) (ts : List Token) → HasNoSemicolon (limited_after reached ts) → HasNoSemicolon ts
after_back reached [] h = tt
after_back reached (t ∷ ts) h =
    (λ is. h.0 (ap class_of (token_same reached t is) ∙ is), after_back (reached_then reached (class_of t)) ts h.1)

whole_cut : (ts : List Token) → HasNoSemicolon ts → limited_union ts ≡ limited ts
whole_cut ts none = limited_cut ts ts [] (record { is = sym (append-nil ts); none = none; ends = tt }) ∙ append-nil (limited ts)

pub one_there : (q : QueryTree) (ts : List Token) → IsUnion (q ∷ []) (limited_union ts) → IsQuery q (limited ts)
one_there q ts (a, b, e, query, end) =
    let whole : limited_union ts ≡ a = e ∙ ap (λ (l : List Token). a ++ l) end ∙ append-nil a in
    let here : IsQuery q (limited_union ts) = subst (IsQuery q) (sym whole) query in
    subst (IsQuery q) (whole_cut ts (after_back Nothing ts (query_none q (limited_union ts) here))) here

pub one_back : (q : QueryTree) (ts : List Token) → IsQuery q (limited ts) → IsUnion (q ∷ []) (limited_union ts)
one_back q ts query =
    one_query 0 q (limited_union ts)
    (subst (IsQuery q) (sym (whole_cut ts (limited_back ts (query_none q (limited ts) query)))) query)
