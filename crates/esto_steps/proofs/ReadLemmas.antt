-- Rows that stand for others, which have the same codes where a join reads them.
use Rattle.std.proofs.Common.{◌≡◌, ◌↔◌, ◌⊎◌, inl, inr, ℕ, ◌+◌, ◌-◌, ◌<◌, ◌≤◌, nat_lt, Bool, true, false, cond, List, [], ◌∷◌, ◌++◌, map, flat_map, length}
use Rattle.std.proofs.Common.{get_or, take}
use Rattle.std.proofs.Common.{slice_get, Contains, refl, sym, ap, ◌∙◌, subst, arith}
use Rattle.std.proofs.lemmas.List.{take_all}
use Rattle.std.proofs.lemmas.List.Elements.{Contains-append_left, Contains-append_right, Contains-push, Contains-push_cases}
use Rattle.esto_term.proofs.ListLemmas.{Contains-nil, Contains-head, Contains-rest, Contains-cases, Contains-map, Contains-flat, map_agree}
use Rattle.esto_steps.specs.declared.steps.Get.{Get}
use Rattle.esto_steps.specs.declared.steps.Link.{Link}
use Rattle.esto_steps.specs.declared.steps.Source.{Source}
use Rattle.esto_steps.specs.declared.steps.Source.TheVariants.{Code, Cell}
use Rattle.esto_steps.specs.Meaning.{code_at, Follows}
use Rattle.esto_steps.specs.Joined.{IsJoin, IsKept}
use Rattle.esto_steps.specs.Named.{NamesCodes}
use Rattle.esto_steps.specs.Reads.{own_cells, filter_cells, read_cells, AgreeOn, StandFor, AreStood}
use Rattle.esto_steps.proofs.JoinLemmas.{taken_more}
use Rattle.esto_steps.proofs.NamedLemmas.{front, back, lt_is, lt_not}

-- ---- rows, one by one

maps_agree : (row other : List ℕ) (cells : List Source) → map (code_at row) cells ≡ map (code_at other) cells → AgreeOn cells row other
maps_agree row other [] same cell inside = absurd (Contains-nil cell inside)
maps_agree row other (first ∷ rest) same cell inside =
    let own : code_at row first ≡ code_at other first = cc in
    let later : map (code_at row) rest ≡ map (code_at other) rest = cc in
    elim (Contains-cases first rest cell inside) [
      | inl is ↦ subst (λ it. code_at row it ≡ code_at other it) is own
      | inr among ↦ maps_agree row other rest later cell among
    ]

pub stood_none : (cells : List Source) → AreStood cells [] [] []
stood_none cells = record {
  stand = record { among = λ row inside. inside; one = λ row inside. absurd (Contains-nil row inside) };
  known = λ key inside. absurd (Contains-nil key inside);
}

module _ (cells : List Source) (rows : List (List ℕ)) (count : ℕ) (row : List ℕ) (below : count < length rows) (is : row ≡ get_or rows count row)
    (seen few : List (List ℕ)) (before : AreStood cells (take count rows) seen few) where
  -- a row whose key was seen
  pub stood_seen : (key : List ℕ) → NamesCodes row cells key → Contains seen key → AreStood cells (take (count + 1) rows) seen few
  stood_seen key named inside = record {
    stand = record {
      among = λ it there. (taken_more rows count row it below is).1 (inl (before.stand.among it there));
      one = λ it there. elim ((taken_more rows count row it below is).0 there) [
        | inl old ↦ before.stand.one it old
        | inr same ↦
            let found = before.known key inside in
            (found.0, found.1, subst (λ one. AgreeOn cells one found.0) same (maps_agree row found.0 cells (named ∙ sym found.2)))
      ];
    };
    known = before.known;
  }

  -- a row that is put after the few
  pub stood_pushed : (given : List ℕ) (new_seen new : List (List ℕ)) → given ≡ row → new ≡ few ++ given ∷ []
      → ((key : List ℕ) → Contains new_seen key → Contains seen key ⊎ NamesCodes row cells key) → AreStood cells (take (count + 1) rows) new_seen new
  stood_pushed given new_seen new same grown keys = record {
    stand = record {
      among = λ it there. elim (Contains-push_cases few given it (subst (λ them. Contains them it) grown there)) [
        | inl old ↦ (taken_more rows count row it below is).1 (inl (before.stand.among it old))
        | inr last ↦ (taken_more rows count row it below is).1 (inr (sym same ∙ last))
      ];
      one = λ it there. elim ((taken_more rows count row it below is).0 there) [
        | inl old ↦ let found = before.stand.one it old in (found.0, kept found.0 found.1, found.2)
        | inr own ↦ (it, subst (Contains new) (same ∙ own) last_there, λ cell inside. refl)
      ];
    };
    known = λ key inside. elim (keys key inside) [
      | inl old ↦ let found = before.known key old in (found.0, kept found.0 found.1, found.2)
      | inr own ↦ (row, subst (Contains new) same last_there, own)
    ];
  }
    where
      kept : (it : List ℕ) → Contains few it → Contains new it
      kept it there = subst (λ them. Contains them it) (sym grown) (Contains-append_left few (given ∷ []) it there)

      last_there : Contains new given
      last_there = subst (λ them. Contains them given) (sym grown) (Contains-push few given)

pub stood_all : (cells : List Source) (rows seen few : List (List ℕ)) (count : ℕ) → length rows ≤ count → AreStood cells (take count rows) seen few
    → StandFor cells rows few
stood_all cells rows seen few count past stood = subst (λ them. StandFor cells them few) (take_all count rows past) stood.stand

-- ---- what is read

own_agree : (width : ℕ) (so_far row other : List ℕ) (source : Source) → length so_far ≡ width → AgreeOn (own_cells width source) row other
    → code_at (so_far ++ row) source ≡ code_at (so_far ++ other) source
own_agree width so_far row other (Code code) long agree = refl
own_agree width so_far row other (Cell place) long agree = by (nat_lt place width) refl agree
  where
    by : (answer : Bool) → nat_lt place width ≡ answer → AgreeOn (cond answer [] (Cell (place - width) ∷ [])) row other
        → slice_get (so_far ++ row) place ≡ slice_get (so_far ++ other) place
    by true is _ =
        let below : place < length so_far = let less = lt_is place width is in omega (arith, less, long) in
        front so_far row place below ∙ sym (front so_far other place below)
    by false is same =
        let past : length so_far ≤ place = let more = lt_not place width is in omega (arith, more, long) in
        back so_far row place past ∙ ap (λ n. slice_get row (place - n)) long ∙ same (Cell (place - width)) (Contains-head (Cell (place - width)) [])
        ∙ ap (λ n. slice_get other (place - n)) (sym long) ∙ sym (back so_far other place past)

module _ (width : ℕ) (get : Get) (kept : List Source) (so_far row other : List ℕ) (long : length so_far ≡ width)
    (agree : AgreeOn (read_cells width get kept) row other) where
  abbrev input_cells : List Source
  input_cells = map (λ (link : Link). Cell link.column) get.inputs

  abbrev filters_cells : List Source
  filters_cells = flat_map (filter_cells width) get.filters

  abbrev kept_cells : List Source
  kept_cells = flat_map (own_cells width) kept

  by_input : (link : Link) → Contains get.inputs link → code_at row (Cell link.column) ≡ code_at other (Cell link.column)
  by_input link inside = agree (Cell link.column) (Contains-append_left (input_cells ++ filters_cells) kept_cells (Cell link.column)
      (Contains-append_left input_cells filters_cells (Cell link.column) (Contains-map (λ (it : Link). Cell it.column) get.inputs link inside)))

  by_filter : (link : Link) → Contains get.filters link → AgreeOn (filter_cells width link) row other
  by_filter link inside cell among = agree cell (Contains-append_left (input_cells ++ filters_cells) kept_cells cell
      (Contains-append_right input_cells filters_cells cell (Contains-flat (filter_cells width) get.filters link cell inside among)))

  by_kept : (source : Source) → Contains kept source → AgreeOn (own_cells width source) row other
  by_kept source inside cell among = agree cell (Contains-append_right (input_cells ++ filters_cells) kept_cells cell
      (Contains-flat (own_cells width) kept source cell inside among))

  pub follows_too : Follows get so_far row → Follows get so_far other
  follows_too follows = record {
    inputs = λ link inside. let met = follows.inputs link inside in (met.0, sym (by_input link inside) ∙ met.1, met.2);
    filters = λ link inside.
        let met = follows.filters link inside in (
          met.0,
          sym (by_filter link inside (Cell link.column) (Contains-head (Cell link.column) (own_cells width link.source))) ∙ met.1,
          sym (own_agree width so_far row other link.source long
              (λ cell among. by_filter link inside cell (Contains-rest (Cell link.column) (own_cells width link.source) cell among))) ∙ met.2,
        );
  }

  pub names_too : (codes : List ℕ) → NamesCodes (so_far ++ row) kept codes → NamesCodes (so_far ++ other) kept codes
  names_too codes named =
      sym (map_agree (code_at (so_far ++ row)) (code_at (so_far ++ other)) kept
      (λ source inside. own_agree width so_far row other source long (by_kept source inside))) ∙ named

-- few rows serve as well as all
pub join_few : (width : ℕ) (get : Get) (kept cells : List Source) (so_far rows few new : List (List ℕ))
    → ((row : List ℕ) → Contains so_far row → length row ≡ width) → cells ≡ read_cells width get kept → StandFor cells rows few
    → ((row : List ℕ) → Contains new row ↔ IsKept kept (IsJoin get so_far few) row) → (row : List ℕ)
    → Contains new row ↔ IsKept kept (IsJoin get so_far rows) row
join_few width get kept cells so_far rows few new long are stand joins row = (
  λ there. let (both, join, names) = (joins row).0 there in (both, (join.0, join.1, join.2, stand.among join.1 join.3, join.4, join.5), names),
  λ has. let (both, join, names) = has in
      let other = stand.one join.1 join.3 in
      let agree : AgreeOn (read_cells width get kept) join.1 other.0 = subst (λ them. AgreeOn them join.1 other.0) are other.2 in
      (joins row).1 (
        join.0 ++ other.0,
        (join.0, other.0, join.2, other.1, follows_too width get kept join.0 join.1 other.0 (long join.0 join.2) agree join.4, refl),
        names_too width get kept join.0 join.1 other.0 (long join.0 join.2) agree row (subst (λ it. NamesCodes it kept row) join.5 names),
      ),
)
