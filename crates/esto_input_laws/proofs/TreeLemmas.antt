-- Tokens are a text of the grammar, or there is a place at which they leave it.
use Rattle.std.proofs.Common.{◌≡◌, ◌≢◌, ℕ, zero, suc, ◌<◌, inl, inr, List, [], ◌∷◌, ◌++◌, length, Option, Some, None, refl, sym, ap, subst, ◌∙◌, arith}
use Rattle.std.specs.Prelude.{codes}
use Rattle.std.proofs.lemmas.Bool.{cases_lt}
use Rattle.std.proofs.lemmas.List.{append-nil, length-append}
use Rattle.esto_term.proofs.ChoiceLemmas.{Decided, decided_as, decided_both}
use Rattle.esto_text.proofs.Languages.{fault_is, constraint_fault_is, layout_fault_is, query_there, constraint_there, layout_there, rule_body_there}
use Rattle.esto_text.proofs.Runs.{rule_body_runs, head_runs, plain_or_denial}
use Rattle.esto_text.proofs.UnionLemmas.{one_query, more_queries, more_stop, full_stop, part_stop}
use Rattle.esto_text.specs.Faults.{StopsAt, IsFalse, IsTextOf, IsFaultOf, place_of}
use Rattle.esto_text.specs.Grammar.{class_of, IsName, IsQuery, IsUnionFrom, IsUnion, IsRuleBody, IsConstraint, IsLayout}
use Rattle.esto_text.specs.Machine.{AnItem, MoreBody, AHead, start, constraint_start, layout_start, first_fault, IsCut}
use Rattle.esto_text.specs.Tokens.{text_of, utf8_fault}
use Rattle.esto_text.specs.Trees.{ItemTree, QueryTree, Never}
use Rattle.esto_text.specs.declared.fault.TextKind.TheVariants.{Syntax}
use Rattle.esto_text.specs.declared.token.Token.{Token}
use Rattle.esto_text.specs.declared.token.TokenKind.{TokenKind}
use Rattle.esto_text.specs.declared.token.TokenKind.TheVariants.{Name, Semicolon}
use Rattle.esto_text.specs.declared.unions.TheConstants.{MAX_QUERIES}
use Rattle.esto_text.specs.declared.version.Version.{Version}
use Rattle.esto_text.specs.declared.version.Version.TheVariants.{One, Two}
use Rattle.esto_input_laws.specs.Totality.{HasOneOf}
use Rattle.esto_input_laws.specs.GrammarLaws.{HaveTreeOrStop}
use Rattle.esto_input_laws.proofs.TokenLemmas.{have_tokens}
use Rattle.esto_term.proofs.DecisionLemmas.{same_bytes}

-- ---- queries and layouts

pub query_or_stop : HaveTreeOrStop IsQuery
query_or_stop ts = go (first_fault start ts) refl
  where
    go : (o : Option (List Token)) → first_fault start ts ≡ o → HasOneOf (λ q. IsQuery q ts) (StopsAt IsQuery ts)
    go None e = inl (query_there ts e)
    go (Some rest) e = inr (rest, fault_is ts rest e)

pub layout_or_stop : HaveTreeOrStop IsLayout
layout_or_stop ts = go (first_fault layout_start ts) refl
  where
    go : (o : Option (List Token)) → first_fault layout_start ts ≡ o → HasOneOf (λ fs. IsLayout fs ts) (StopsAt IsLayout ts)
    go None e = inl (layout_there ts e)
    go (Some rest) e = inr (rest, layout_fault_is ts rest e)

-- ---- unions

is_parting : (k : TokenKind) → Decided (k ≡ Semicolon)
is_parting Semicolon = inl refl
is_parting _ = inr (λ e. cc)

cut_of : (ts : List Token) → (part rest : List Token) × IsCut ts part rest
cut_of [] = ([], [], record { is = refl; none = tt; ends = tt })
cut_of (t ∷ ts) = by (is_parting (class_of t)) (cut_of ts)
  where
    by : Decided (class_of t ≡ Semicolon) → ((part rest : List Token) × IsCut ts part rest) → (part rest : List Token) × IsCut (t ∷ ts) part rest
    by (inl parts) later = ([], t ∷ ts, record { is = refl; none = tt; ends = parts })
    by (inr not) (part, rest, cut) = (t ∷ part, rest, record { is = ap (λ (l : List Token). t ∷ l) cut.is; none = (not, cut.none); ends = cut.ends })

abbrev UnionOrStop : ℕ → List Token → Type 0
UnionOrStop count ts = HasOneOf (λ (qs : List QueryTree). IsUnionFrom count qs ts) (StopsAt (IsUnionFrom count) ts)

-- so for each list of fewer tokens
abbrev UnionLater : ℕ → Type 0
UnionLater fuel = (count : ℕ) (ts : List Token) → count < MAX_QUERIES → length ts < fuel → UnionOrStop count ts

union_from : (fuel count : ℕ) (ts : List Token) → count < MAX_QUERIES → length ts < fuel → UnionOrStop count ts
union_from zero count ts room short = absurd (omega (arith, short))
union_from (suc fuel) count ts room short = by (cut_of ts) (union_from fuel)
  where
    behind : (part : List Token) (q : QueryTree) (rest : List Token) → IsCut ts part rest → IsQuery q part
        → UnionLater fuel → UnionOrStop count (part ++ rest)
    behind part q [] cut query later = inl (q ∷ [], subst (IsUnionFrom count (q ∷ [])) (sym (append-nil part)) (one_query count q part query))
    behind part q (semicolon ∷ more) cut query later = elim (cases_lt (suc count) MAX_QUERIES) [
      | inl less ↦
          let short' : length more < fuel = omega (arith, short, ap length cut.is, length-append part (semicolon ∷ more)) in
          elim (later (suc count) more less short') [
            | inl (qs, union) ↦ inl (q ∷ qs, more_queries count q qs part semicolon more query cut.ends less union)
            | inr (stop, stops) ↦ inr (stop, more_stop count part semicolon cut.none cut.ends q more stop query less stops)
          ]
      | inr full ↦ inr (semicolon ∷ more, full_stop count part semicolon cut.none cut.ends q more query full)
    ]

    by : ((part rest : List Token) × IsCut ts part rest)
        → UnionLater fuel → UnionOrStop count ts
    by (part, rest, cut) later = subst (UnionOrStop count) (sym cut.is) (elim (query_or_stop part) [
      | inl (q, query) ↦ behind part q rest cut query later
      | inr (stop, stops) ↦ inr (stop ++ rest, part_stop count part rest cut.none cut.ends stop stops)
    ])

pub union_or_stop : HaveTreeOrStop IsUnion
union_or_stop ts = union_from (suc (length ts)) 0 ts (omega arith) (omega arith)

-- ---- constraints

is_false : (version : Version) (bytes : List ℕ) (token : Token) → Decided (IsFalse version bytes token)
is_false One bytes token = inr (λ h. h)
is_false Two bytes token = same_bytes (text_of bytes token) (codes "false")

pub is_name : (k : TokenKind) → Decided (k ≡ Name)
is_name Name = inl refl
is_name _ = inr (λ e. cc)

-- tokens have a last one
last_of : (t : Token) (ts : List Token) → (front : List Token) × (last : Token) × (t ∷ ts ≡ front ++ last ∷ [])
last_of t [] = ([], t, refl)
last_of t (u ∷ ts) = let (front, last, e) = last_of u ts in (t ∷ front, last, ap (λ (l : List Token). t ∷ l) e)

no_last : (front : List Token) (last : Token) → [] ≢ front ++ last ∷ []
no_last [] last e = cc
no_last (t ∷ front) last e = cc

one_last : (front : List Token) (last : Token) (front' : List Token) (last' : Token) → front ++ last ∷ [] ≡ front' ++ last' ∷ []
    → (front ≡ front') × (last ≡ last')
one_last [] last [] last' e = (refl, cc)
one_last [] last (t' ∷ front') last' e = let f : [] ≡ front' ++ last' ∷ [] = cc in absurd (no_last front' last' f)
one_last (t ∷ front) last [] last' e = let f : [] ≡ front ++ last ∷ [] = cc in absurd (no_last front last f)
one_last (t ∷ front) last (t' ∷ front') last' e =
    let first : t ≡ t' = cc in
    let rest : front ++ last ∷ [] ≡ front' ++ last' ∷ [] = cc in
    let more = one_last front last front' last' rest in
    ((λ i. first i ∷ more.0 i), more.1)

rule_body : (ts : List Token) → Decided ((is : List ItemTree) × IsRuleBody is ts)
rule_body ts = go (first_fault (AnItem ∷ MoreBody ∷ []) ts) refl
  where
    go : (o : Option (List Token)) → first_fault (AnItem ∷ MoreBody ∷ []) ts ≡ o → Decided ((is : List ItemTree) × IsRuleBody is ts)
    go None e = inl (rule_body_there ts e)
    go (Some rest) e = inr (λ (is, h).
        let none : first_fault (AnItem ∷ MoreBody ∷ []) ts ≡ None =
        ap (first_fault (AnItem ∷ MoreBody ∷ [])) (sym (append-nil ts)) ∙ rule_body_runs is ts [] [] h in cc)

module _ (W : Token → Type 0) (word : (token : Token) → Decided (W token)) where
  -- items, an arrow and the word
  record IsDenial (ts : List Token) : Type 0 where
    front : List Token
    last : Token
    split : ts ≡ front ++ last ∷ []
    items : (is : List ItemTree) × IsRuleBody is front
    name : IsName last
    is : W last

  denial : (ts : List Token) → Decided (IsDenial ts)
  denial [] = inr (λ h. no_last h.front h.last h.split)
  denial (t ∷ ts) =
      let (front, last, e) = last_of t ts in
      decided_as (
        λ (items, (name, is)). record { front = front; last = last; split = e; items = items; name = name; is = is },
        λ h. let same = one_last h.front h.last front last (sym h.split ∙ e) in
            (subst (λ (l : List Token). (is : List ItemTree) × IsRuleBody is l) same.0 h.items, (subst IsName same.1 h.name, subst W same.1 h.is)),
      )
      (decided_both (rule_body front) (decided_both (is_name (class_of last)) (word last)))

  pub constraint_or_stop : HaveTreeOrStop (IsConstraint W)
  constraint_or_stop ts = go (first_fault constraint_start ts) refl (denial ts)
    where
      go : (o : Option (List Token)) → first_fault constraint_start ts ≡ o → Decided (IsDenial ts)
          → HasOneOf (λ c. IsConstraint W c ts) (StopsAt (IsConstraint W) ts)
      go None e d = inl (constraint_there W ts e)
      go (Some rest) e (inl d) =
          inl (record { body = d.items.0; head = Never }, (d.front, d.last ∷ [], d.split, d.items.1, (d.last, refl, d.name, d.is)))
      go (Some rest) e (inr none) = inr (
        rest,
        constraint_fault_is W ts rest (λ c h.
            let (body, head, whole, b, g) = h in
            elim (plain_or_denial W c.head head g) [
              | inl plain ↦
                  let through : first_fault constraint_start ts ≡ None =
                  ap (first_fault constraint_start) whole ∙ rule_body_runs c.body body (AHead ∷ []) head b ∙ head_runs c.head head plain in
                  cc
              | inr (last, is, n, f) ↦ none (record {
                front = body;
                last = last;
                split = whole ∙ ap (λ (l : List Token). body ++ l) is;
                items = (c.body, b);
                name = n;
                is = f;
              })
            ]) e,
      )

pub constraints_or_stops : (version : Version) (bytes : List ℕ) → HaveTreeOrStop (IsConstraint (IsFalse version bytes))
constraints_or_stops version bytes = constraint_or_stop (IsFalse version bytes) (is_false version bytes)

-- ---- texts

module _ {T : Type 0} (IsTree : T → List Token → Type 0) (marked : List Token → List Token) (total : HaveTreeOrStop IsTree) where
  pub text_or_fault : (bytes : List ℕ) → HasOneOf (IsTextOf IsTree marked bytes) (IsFaultOf IsTree marked bytes)
  text_or_fault bytes = elim (have_tokens bytes) [
    | inl none ↦ inr (utf8_fault, inl (refl, none))
    | inr (tokens, are) ↦ elim (total (marked tokens)) [
      | inl (tree, is) ↦ inl (tree, (tokens, are, is))
      | inr (rest, stops) ↦ inr (record { offset = place_of rest (length bytes); kind = Syntax }, inr (tokens, rest, are, stops, refl))
    ]
  ]
