-- The least unknown key of the fields so far.
use Rattle.std.proofs.Common.{◌≡◌, ◌≢◌, ◌⊎◌, ◌<◌, ◌≤◌, ◌+◌, ℕ, Bor, option_copied, List, [], ◌∷◌, ◌++◌, take, get_or, length, true, false, Option, Some, None}
use Rattle.std.proofs.Common.{Ordering, Less, Equal, Greater, inl, inr, refl, sym, ap, subst, ◌∙◌}
use Rattle.std.specs.Prelude.{MatchOption}
use Rattle.std.specs.Ordering.{nat_cmp, is_lt, is_gt, ordering_reverse}
use Rattle.std.specs.Cmp.Lexicographic.{slice_cmp}
use Rattle.std.proofs.lemmas.Cmp.{nat_list_cmp_total, tied_itself, upto}
use Rattle.std.proofs.lemmas.Bool.{false≢true}
use Rattle.std.proofs.lemmas.List.{take_all}
use Rattle.std.proofs.lemmas.List.Elements.{Contains-append_left, Contains-push, Contains-push_cases}
use Rattle.esto_catalog.specs.Rows.{is_known, IsUnknown, IsLeastUnknown, IsLesserOf}
use Rattle.esto_catalog.specs.declared.row.Keys.{Keys}
use Rattle.esto_settings.specs.declared.setting.Field.{Field}
use Rattle.esto_term.proofs.ListLemmas.{Contains-nil}
use Rattle.esto_term.proofs.PlaceLemmas.{take-item}

-- the key comes at or before the other, by bytes
abbrev IsUpTo : List ℕ → List ℕ → Type 0
IsUpTo key other = slice_cmp nat_cmp key other ≢ Greater

not_greater : (o : Ordering) → o ≢ Greater → is_gt o ≡ false
not_greater Less not = refl
not_greater Equal not = refl
not_greater Greater not = absurd (not refl)

is_not_greater : (o : Ordering) → is_gt o ≡ false → o ≢ Greater
is_not_greater Less is same = cc
is_not_greater Equal is same = cc
is_not_greater Greater is same = cc

itself : (key : List ℕ) → IsUpTo key key
itself key same = let tied : slice_cmp nat_cmp key key ≡ Equal = tied_itself nat_list_cmp_total key in let wrong : Equal ≡ Greater = sym tied ∙ same in cc

across : (key other more : List ℕ) → IsUpTo key other → IsUpTo other more → IsUpTo key more
across key other more first second = is_not_greater _ (upto nat_list_cmp_total key other more (not_greater _ first) (not_greater _ second))

less_upto : (o : Ordering) → is_lt o ≡ true → o ≢ Greater
less_upto Less is same = cc
less_upto Equal is same = cc
less_upto Greater is same = cc

back : (o p : Ordering) → is_lt o ≡ false → p ≡ ordering_reverse o → p ≢ Greater
back Less p is reversed same = cc
back Equal p is reversed same = let wrong : Equal ≡ Greater = sym reversed ∙ same in cc
back Greater p is reversed same = let wrong : Less ≡ Greater = sym reversed ∙ same in cc

-- the key is less than the other
pub lesser_new : (key other : List ℕ) → is_lt (slice_cmp nat_cmp key other) ≡ true → IsLesserOf (Some other) key key
lesser_new key other less = (inr refl, less_upto _ less, itself key)

-- the key is not less than the other
pub lesser_old : (key other : List ℕ) → is_lt (slice_cmp nat_cmp key other) ≡ false → IsLesserOf (Some other) key other
lesser_old key other not = (inl refl, itself other, back _ _ not (nat_list_cmp_total.antisymm other key))

-- what the least unknown key of some fields is
abbrev pub IsLeastOf : Keys → List Field → Option (List ℕ) → Type 0
IsLeastOf keys fields least = MatchOption least ((key : List ℕ) → ¬ IsUnknown keys fields key) (IsLeastUnknown keys fields)

pub none_unknown : (keys : Keys) → IsLeastOf keys [] None
none_unknown keys key (field, inside, same, unknown) = Contains-nil field inside

module _ (keys : Keys) (fields : List Field) (field : Field) where
  later : (key : List ℕ) → IsUnknown keys fields key → IsUnknown keys (fields ++ field ∷ []) key
  later key (other, inside, same, unknown) = (other, Contains-append_left fields (field ∷ []) other inside, same, unknown)

  split : (key : List ℕ) → IsUnknown keys (fields ++ field ∷ []) key → IsUnknown keys fields key ⊎ ((field.key ≡ key) × (is_known keys key ≡ false))
  split key (other, inside, same, unknown) = elim (Contains-push_cases fields field other inside) [
    | inl before ↦ inl (other, before, same, unknown)
    | inr last ↦ inr (ap (λ (f : Field). f.key) last ∙ same, unknown)
  ]

  -- a known key changes nothing
  pub known_next : (least : Option (List ℕ)) → is_known keys field.key ≡ true → IsLeastOf keys fields least
      → IsLeastOf keys (fields ++ field ∷ []) least
  known_next least known before = by least before where
    old : (key : List ℕ) → IsUnknown keys (fields ++ field ∷ []) key → IsUnknown keys fields key
    old key unknown = elim (split key unknown) [
      | inl before ↦ before
      | inr last ↦ absurd (false≢true (sym last.1 ∙ (ap (is_known keys) (sym last.0) ∙ known)))
    ]

    by : (least : Option (List ℕ)) → IsLeastOf keys fields least → IsLeastOf keys (fields ++ field ∷ []) least
    by None none = λ key unknown. none key (old key unknown)
    by (Some least) (unknown, first) = (later least unknown, λ other is. first other (old other is))

  -- the lesser of the least key so far and an unknown one
  pub unknown_next : (least : Option (List ℕ)) (lesser : List ℕ) → is_known keys field.key ≡ false → IsLesserOf least field.key lesser
      → IsLeastOf keys fields least
      → IsLeastOf keys (fields ++ field ∷ []) (Some lesser)
  unknown_next None lesser unknown is none = (
    (field, Contains-push fields field, sym is, ap (is_known keys) is ∙ unknown),
    λ other found. elim (split other found) [
      | inl before ↦ absurd (none other before)
      | inr last ↦ subst (IsUpTo lesser) (is ∙ last.0) (itself lesser)
    ],
  )
  unknown_next (Some least) lesser unknown (which, up_old, up_new) (least_is, first) = (
    elim which [
      | inl old ↦ later lesser (subst (IsUnknown keys fields) (sym old) least_is)
      | inr new ↦ (field, Contains-push fields field, sym new, ap (is_known keys) new ∙ unknown)
    ],
    λ other found. elim (split other found) [
      | inl before ↦ across lesser least other up_old (first other before)
      | inr last ↦ subst (IsUpTo lesser) last.0 up_new
    ],
  )

-- an answer by reference
pub copied_match : {X : Type 0} (found : Option (Bor X)) (P : Type 0) (Q : X → Type 0) → MatchOption (option_copied found) P Q
    → MatchOption found P (λ it. Q it.now)
copied_match None P Q holds = holds
copied_match (Some it) P Q holds = holds

-- all fields were seen
pub all_fields : (keys : Keys) (fields : List Field) (place : ℕ) (least : Option (List ℕ)) → length fields ≤ place
    → IsLeastOf keys (take place fields) least → IsLeastOf keys fields least
all_fields keys fields place least le seen = subst (λ (f : List Field). IsLeastOf keys f least) (take_all place fields le) seen

pub known_turn : (keys : Keys) (fields : List Field) (place : ℕ) (field : Field) (old new : Option (List ℕ)) → place < length fields
    → field ≡ get_or fields place field → new ≡ old → is_known keys field.key ≡ true
    → IsLeastOf keys (take place fields) old → IsLeastOf keys (take (place + 1) fields) new
known_turn keys fields place field old new below is same known seen =
    subst (λ (f : List Field). IsLeastOf keys f new) (sym (take-item fields place field below is))
    (subst (IsLeastOf keys (take place fields ++ field ∷ [])) (sym same) (known_next keys (take place fields) field old known seen))

pub unknown_turn : (keys : Keys) (fields : List Field) (place : ℕ) (field : Field) (old new : Option (List ℕ)) (lesser : List ℕ)
    → place < length fields → field ≡ get_or fields place field → new ≡ Some lesser
    → is_known keys field.key ≡ false → IsLesserOf old field.key lesser → IsLeastOf keys (take place fields) old
    → IsLeastOf keys (take (place + 1) fields) new
unknown_turn keys fields place field old new lesser below is same unknown lesser_is seen =
    subst (λ (f : List Field). IsLeastOf keys f new) (sym (take-item fields place field below is))
    (subst (IsLeastOf keys (take place fields ++ field ∷ [])) (sym same) (unknown_next keys (take place fields) field old lesser unknown lesser_is seen))
