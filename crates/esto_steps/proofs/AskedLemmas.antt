-- Rows that are asked for, row by row.
use Rattle.std.proofs.Common.{◌≡◌, ◌⊎◌, inl, inr, ℕ, zero, suc, ◌+◌, ◌<◌, ◌≤◌, true, ◌&&◌, List, [], ◌∷◌, ◌++◌, map, length, get_or, take, Some}
use Rattle.std.proofs.Common.{Contains, refl, sym, ap, ◌∙◌, subst, arith, eqb, eq-eqb}
use Rattle.std.specs.List.{filter}
use Rattle.std.proofs.lemmas.List.{get_or_default, take_more, take_all, length-map}
use Rattle.std.proofs.lemmas.List.Elements.{Contains-append_left, Contains-append_right, Contains-append_cases, Contains-push_cases}
use Rattle.std.proofs.lemmas.Option.{same_Some, get_or_from_slice_get}
use Rattle.esto_term.proofs.ListLemmas.{Contains-nil, Contains-head, Contains-rest, Contains-filter, Contains-filter_from}
use Rattle.esto_columns.specs.declared.fragment.Input.{Input}
use Rattle.esto_columns.specs.Asked.{holds_all}
use Rattle.esto_steps.specs.declared.steps.Get.{Get}
use Rattle.esto_steps.specs.declared.steps.Link.{Link}
use Rattle.esto_steps.specs.declared.steps.Source.{Source}
use Rattle.esto_steps.specs.Meaning.{code_at, IsMet, Follows}
use Rattle.esto_steps.specs.Named.{NamesCodes}
use Rattle.esto_steps.specs.Inputs.{inputs_with, AreAnswered}
use Rattle.esto_steps.proofs.JoinLemmas.{taken_more}
use Rattle.esto_steps.proofs.NamedLemmas.{met_names, length-named}

-- ---- inputs

pub inputs_more : (links : List Link) (codes : List ℕ) (count : ℕ) (link : Link) → length codes ≡ length links → count < length links
    → link ≡ get_or links count link
    → inputs_with (take (count + 1) links) codes ≡ inputs_with (take count links) codes ++ record { column = link.column; code = get_or codes count 0 } ∷ []
inputs_more links codes count link long below is =
    ap (λ it. inputs_with it codes) (take_more links count link below) ∙ go links codes count (get_or links count link) long below refl
    ∙ ap (λ (it : Link). inputs_with (take count links) codes ++ record { column = it.column; code = get_or codes count 0 } ∷ []) (sym is)
  where
    go : (all : List Link) (numbers : List ℕ) (n : ℕ) (it : Link) → length numbers ≡ length all → n < length all → it ≡ get_or all n link
        → inputs_with (take n all ++ it ∷ []) numbers ≡ inputs_with (take n all) numbers ++ record { column = it.column; code = get_or numbers n 0 } ∷ []
    go [] numbers n it same inside at = absurd (omega (arith, inside))
    go (first ∷ all) [] n it same inside at = absurd (omega (arith, same))
    go (first ∷ all) (number ∷ numbers) zero it same inside at = refl
    go (first ∷ all) (number ∷ numbers) (suc n) it same inside at =
        ap (λ them. record { column = first.column; code = number } ∷ them) (go all numbers n it (omega (arith, same)) (omega (arith, inside)) at)

pub columns_with : (links : List Link) (codes : List ℕ) → length codes ≡ length links
    → map (λ (input : Input). input.column) (inputs_with links codes) ≡ map (λ (link : Link). link.column) links
columns_with [] codes long = refl
columns_with (link ∷ links) [] long = absurd (omega (arith, long))
columns_with (link ∷ links) (code ∷ codes) long = ap (λ them. link.column ∷ them) (columns_with links codes (omega (arith, long)))

-- a row that meets the links holds the codes that their sources name
pub holds_with : (links : List Link) (cells codes row : List ℕ) → NamesCodes cells (map (λ link. link.source) links) codes
    → ((link : Link) → Contains links link → IsMet cells row link) → holds_all (inputs_with links codes) row ≡ true
holds_with [] cells codes row named met = refl
holds_with (link ∷ links) cells [] row named met = absurd (cc)
holds_with (link ∷ links) cells (code ∷ codes) row named met =
    let own = met link (Contains-head link links) in
    let code_is : code_at cells link.source ≡ Some code = cc in
    let same : own.0 ≡ code = same_Some own.0 code (sym own.2 ∙ code_is) in
    let first : eqb (get_or row link.column 0) code ≡ true =
    eq-eqb (get_or row link.column 0) code (get_or_from_slice_get row link.column own.0 0 own.1 ∙ same) in
    let rest = holds_with links cells codes row (cc) (λ it inside. met it (Contains-rest link links it inside)) in
    (λ i. first i && rest i)

-- ---- what is asked for by the first rows so far, so many

pub record IsAskedBelow (get : Get) (rows so_far : List (List ℕ)) (count : ℕ) (seen asked : List (List ℕ)) : Type 0 where
  pub sound : (row : List ℕ) → Contains asked row → Contains rows row
  pub answered : AreAnswered get.inputs rows seen asked
  pub complete : (cells row : List ℕ) → Contains (take count so_far) cells → Contains rows row → Follows get cells row → Contains asked row

pub none_asked : (get : Get) (rows so_far : List (List ℕ)) → IsAskedBelow get rows so_far 0 [] []
none_asked get rows so_far = record {
  sound = λ row has. absurd (Contains-nil row has);
  answered = λ key row has. absurd (Contains-nil key has);
  complete = λ cells row has. absurd (Contains-nil cells has);
}

pub asked_more : (get : Get) (rows so_far : List (List ℕ)) (count : ℕ) (seen asked new_seen new : List (List ℕ)) (cells : List ℕ) → count < length so_far
    → cells ≡ get_or so_far count cells → IsAskedBelow get rows so_far count seen asked
    → ((row : List ℕ) → Contains asked row → Contains new row) → ((row : List ℕ) → Contains new row → Contains asked row ⊎ Contains rows row)
    → (AreAnswered get.inputs rows seen asked → AreAnswered get.inputs rows new_seen new)
    → (AreAnswered get.inputs rows seen asked → (row : List ℕ) → Contains rows row → Follows get cells row → Contains new row)
    → IsAskedBelow get rows so_far (count + 1) new_seen new
asked_more get rows so_far count seen asked new_seen new cells below is before kept sound answered complete = record {
  sound = λ row has. elim (sound row has) [ inl old ↦ before.sound row old | inr there ↦ there ];
  answered = answered before.answered;
  complete = λ other row among there follows. elim ((taken_more so_far count cells other below is).0 among) [
    | inl earlier ↦ kept row (before.complete other row earlier there follows)
    | inr same ↦ complete before.answered row there (subst (λ it. Follows get it row) (sym same) follows)
  ];
}

-- ---- one question

pub named_length : (links : List Link) (cells : List ℕ) (sources : List Source) → sources ≡ map (λ (link : Link). link.source) links → (key : List ℕ)
    → NamesCodes cells sources key → length key ≡ length links
named_length links cells sources is key named = length-named cells sources key named ∙ ap length is ∙ length-map links (λ (link : Link). link.source)

module _ (get : Get) (rows : List (List ℕ)) (cells : List ℕ) (sources : List Source) (is : sources ≡ map (λ (link : Link). link.source) get.inputs) where
  pub named_by : (row : List ℕ) → Follows get cells row → (codes : List ℕ) × NamesCodes cells sources codes
  named_by row follows = let names = met_names cells row get.inputs follows.inputs in (names.0, subst (λ it. NamesCodes cells it names.0) (sym is) names.1)

  module _ (key : List ℕ) (named : NamesCodes cells sources key) where
    holds_key : (row : List ℕ) → Follows get cells row → holds_all (inputs_with get.inputs key) row ≡ true
    holds_key row follows = holds_with get.inputs cells key row (subst (λ it. NamesCodes cells it key) is named) follows.inputs

    pub seen_complete : (seen asked : List (List ℕ)) → Contains seen key → AreAnswered get.inputs rows seen asked → (row : List ℕ) → Contains rows row
        → Follows get cells row → Contains asked row
    seen_complete seen asked there answered row among follows = answered key row there among (holds_key row follows)

module _ (asked new got : List (List ℕ)) (grown : new ≡ asked ++ got) where
  pub ask_kept : (row : List ℕ) → Contains asked row → Contains new row
  ask_kept row has = subst (λ them. Contains them row) (sym grown) (Contains-append_left asked got row has)

  module _ (rows : List (List ℕ)) (inputs : List Input) (got_is : got ≡ filter (holds_all inputs) rows) where
    pub ask_sound : (row : List ℕ) → Contains new row → Contains asked row ⊎ Contains rows row
    ask_sound row has = elim (Contains-append_cases asked got row (subst (λ them. Contains them row) grown has)) [
      | inl old ↦ inl old
      | inr given ↦ inr (Contains-filter_from (holds_all inputs) rows row (subst (λ them. Contains them row) got_is given)).0
    ]

    module _ (get : Get) (key : List ℕ) (inputs_are : inputs ≡ inputs_with get.inputs key) (seen : List (List ℕ)) where
      own_answer : (row : List ℕ) → Contains rows row → holds_all (inputs_with get.inputs key) row ≡ true → Contains new row
      own_answer row among holds = subst (λ them. Contains them row) (sym grown) (Contains-append_right asked got row
          (subst (λ them. Contains them row) (sym got_is)
          (Contains-filter (holds_all inputs) rows row among (ap (λ them. holds_all them row) inputs_are ∙ holds))))

      pub ask_answered : (new_seen : List (List ℕ)) → (new_seen ≡ seen) ⊎ (new_seen ≡ seen ++ key ∷ []) → AreAnswered get.inputs rows seen asked
          → AreAnswered get.inputs rows new_seen new
      ask_answered new_seen seen_grown answered other row there among holds = elim seen_grown [
        | inl same ↦ ask_kept row (answered other row (subst (λ them. Contains them other) same there) among holds)
        | inr more ↦ elim (Contains-push_cases seen key other (subst (λ them. Contains them other) more there)) [
          | inl old ↦ ask_kept row (answered other row old among holds)
          | inr own ↦ own_answer row among (subst (λ it. holds_all (inputs_with get.inputs it) row ≡ true) (sym own) holds)
        ]
      ]

      pub ask_complete : (cells : List ℕ) (sources : List Source) → sources ≡ map (λ (link : Link). link.source) get.inputs → NamesCodes cells sources key
          → AreAnswered get.inputs rows seen asked → (row : List ℕ) → Contains rows row → Follows get cells row → Contains new row
      ask_complete cells sources is named answered row among follows = own_answer row among (holds_key get rows cells sources is key named row follows)

pub inputs_turn : (links items : List Link) (codes : List ℕ) (inputs new : List Input) (count : ℕ) (default : Link) → items ≡ links
    → length codes ≡ length links → count < length items → inputs ≡ inputs_with (take count items) codes
    → new ≡ inputs ++ record { column = (get_or items count default).column; code = get_or codes count 0 } ∷ []
    → new ≡ inputs_with (take (count + 1) items) codes
inputs_turn links items codes inputs new count default same long below so_far is =
    is ∙ ap (λ them. them ++ record { column = (get_or items count default).column; code = get_or codes count 0 } ∷ []) so_far
    ∙ sym (inputs_more items codes count (get_or items count default) (long ∙ sym (ap length same)) below
    (get_or_default items count default (get_or items count default) below))

pub asked_all : (get : Get) (rows so_far seen asked : List (List ℕ)) (count : ℕ) → length so_far ≤ count → IsAskedBelow get rows so_far count seen asked
    → (cells row : List ℕ) → Contains so_far cells → Contains rows row → Follows get cells row → Contains asked row
asked_all get rows so_far seen asked count past below cells row among =
    below.complete cells row (subst (λ them. Contains them cells) (sym (take_all count so_far past)) among)

pub asked_turn : (get : Get) (rows so_far : List (List ℕ)) (count : ℕ) (seen asked new_seen new : List (List ℕ)) → count < length so_far
    → IsAskedBelow get rows so_far count seen asked
    → ((row : List ℕ) → Contains asked row → Contains new row) → ((row : List ℕ) → Contains new row → Contains asked row ⊎ Contains rows row)
    → (AreAnswered get.inputs rows seen asked → AreAnswered get.inputs rows new_seen new)
    → (AreAnswered get.inputs rows seen asked → (row : List ℕ) → Contains rows row → Follows get (get_or so_far count []) row → Contains new row)
    → IsAskedBelow get rows so_far (count + 1) new_seen new
asked_turn get rows so_far count seen asked new_seen new below before kept sound answered complete =
    asked_more get rows so_far count seen asked new_seen new (get_or so_far count []) below
    (get_or_default so_far count [] (get_or so_far count []) below) before kept sound answered complete
