-- From one empty row to what all gets give together.
use Rattle.std.proofs.Common.{◌≡◌, ◌⊎◌, ◌↔◌, inl, inr, ℕ, ◌+◌, ◌<◌, ◌≤◌, List, [], ◌∷◌, ◌++◌, map, flat_map, length, take, Some, slice_get}
use Rattle.std.proofs.Common.{Contains, refl, sym, ap, ◌∙◌, subst, arith}
use Rattle.std.proofs.lemmas.Bool.{cases_order}
use Rattle.std.proofs.lemmas.List.{length-append, length-take-le}
use Rattle.std.proofs.lemmas.List.Elements.{Contains-append_left, Contains-push, Contains-push_cases}
use Rattle.std.proofs.lemmas.Option.{none-some, same_Some, slice_get_within}
use Rattle.esto_semantics.specs.declared.fact.Fact.{Fact}
use Rattle.esto_term.proofs.ListLemmas.{Contains-nil, Contains-head, Contains-one, at_left, at_end, at_pushed, thing_at, map_then, map_agree, map_one}
use Rattle.esto_term.proofs.PlaceLemmas.{take-there}
use Rattle.esto_steps.specs.declared.steps.Get.{Get}
use Rattle.esto_steps.specs.declared.steps.Link.{Link}
use Rattle.esto_steps.specs.declared.steps.Source.{Source}
use Rattle.esto_steps.specs.declared.steps.Steps.{Steps}
use Rattle.esto_steps.specs.Meaning.{code_at, IsResult}
use Rattle.esto_steps.specs.Joined.{IsJoin, IsKept}
use Rattle.esto_steps.specs.Named.{NamesCodes}
use Rattle.esto_exec.specs.Slots.{IsChoice, side_of, IsKnown, equations_from, slot_at}
use Rattle.esto_exec.specs.Turns.{AreSlots, needed_slots, kept_slots, source_in, link_in, links_of, slots_from, IsReady, AreArities, IsUnderWay}
use Rattle.esto_exec.specs.Turns.{AreParts}
use Rattle.esto_exec.specs.Hubs.{SayTheSame}
use Rattle.esto_exec.specs.declared.slots.Slot.{Slot}
use Rattle.esto_exec.specs.declared.slots.Side.TheVariants.{Held}
use Rattle.esto_exec.specs.declared.slots.Equation.{Equation}
use Rattle.esto_exec.proofs.SlotLemmas.{known_before}
use Rattle.esto_exec.proofs.TurnLemmas.{place_found, known_more, slots_more, kept_among, kept_needed, needed_before, needed_are, head_needed}
use Rattle.esto_exec.proofs.ChoiceLemmas.{parts_more, choice_long}
use Rattle.esto_exec.proofs.ResultLemmas.{parts_are_results, cells_of}

-- ---- arities

pub arities_none : (Holds : Fact ℕ → Type 0) → AreArities Holds [] []
arities_none Holds = record { long = refl; fit = λ number get row there held. absurd (none-some get there) }

pub arities_more : (Holds : Fact ℕ → Type 0) (gets : List Get) (count : ℕ) (get : Get) (arities new : List ℕ) (arity : ℕ) → slice_get gets count ≡ Some get
    → AreArities Holds (take count gets) arities → ((row : List ℕ) → Holds (record { relation = get.fragment; terms = row }) → length row ≡ arity)
    → new ≡ arities ++ arity ∷ [] → AreArities Holds (take (count + 1) gets) new
arities_more Holds gets count get arities new arity there before long is =
    let more : take (count + 1) gets ≡ take count gets ++ get ∷ [] = take-there gets count get there in record {
      long = ap length is ∙ length-append arities (arity ∷ []) ∙ ap (λ n. n + 1) before.long ∙ sym (length-append (take count gets) (get ∷ []))
          ∙ ap length (sym more);
      fit = λ number own row at held. elim (at_pushed (take count gets) get number own (subst (λ them. slice_get them number ≡ Some own) more at)) [
        | inl old ↦
            let found = before.fit number own row old held in
            (found.0, ap (λ them. slice_get them number) is ∙ at_left arities (arity ∷ []) number found.0 found.1, found.2)
        | inr last ↦ (
          arity,
          ap (slice_get new) (last.0 ∙ sym before.long) ∙ ap (λ them. slice_get them (length arities)) is ∙ at_end arities arity,
          long row (subst (λ (it : Get). Holds (record { relation = it.fragment; terms = row })) (sym last.1) held),
        )
      ];
    }

-- ---- the start

module _ (Holds : Fact ℕ → Type 0) (arities : List ℕ) (gets : List Get) (equations : List Equation) (head : List Source) where
  pub under_way_start : IsUnderWay Holds arities gets equations head [] [] ([] ∷ [])
  under_way_start = record {
    named = λ number inside. absurd (Contains-nil number inside);
    settled = λ number get inside there. absurd (Contains-nil number inside);
    slots = record {
      there = λ slot arity needed inside is below. absurd (Contains-nil slot.get inside);
      own = λ slot inside. absurd (Contains-nil slot inside);
      within = λ slot arity inside is. absurd (Contains-nil slot inside);
    };
    parts = λ row. (
      (λ inside. (
        (λ number. []),
        record {
          held = λ number get among there. absurd (Contains-nil number among);
          inputs = λ number get link among there linked. absurd (Contains-nil number among);
          filters = λ equation inside_all among known. absurd (Contains-nil equation.slot.get among);
        },
        ap (map Some) (Contains-one [] row inside),
      )),
      (λ found. subst (Contains ([] ∷ [])) (map_one Some same_Some [] row found.2) (Contains-head [] [])),
    );
  }

  -- ---- a turn

  -- cells of which some slots are kept
  parts_less : (done : List ℕ) (wide kept : List Slot) (Joined : List ℕ → Type 0) (new : List (List ℕ))
      → ((choice : ℕ → List ℕ) → IsChoice Holds arities gets equations done choice → (cells : List ℕ) × (map (slot_at choice) wide ≡ map Some cells))
      → ((slot : Slot) → Contains kept slot → Contains wide slot) → AreParts Holds arities gets equations done wide Joined
      → ((row : List ℕ) → Contains new row ↔ IsKept (map (λ slot. source_in wide (Held slot)) kept) Joined row)
      → AreParts Holds arities gets equations done kept (Contains new)
  parts_less done wide kept Joined new have among parts cut row = (
    λ inside.
        let found = (cut row).0 inside in let of = (parts found.0).0 found.1 in
        (of.0, of.1, sym (kept_reads of.0 found.0 of.2) ∙ found.2),
    λ found.
        let cells = have found.0 found.1 in
        (cut row).1 (cells.0, (parts cells.0).1 (found.0, found.1, cells.1), kept_reads found.0 cells.0 cells.1 ∙ found.2),
  )
    where
      kept_reads : (choice : ℕ → List ℕ) (cells : List ℕ) → map (slot_at choice) wide ≡ map Some cells
          → map (code_at cells) (map (λ slot. source_in wide (Held slot)) kept) ≡ map (slot_at choice) kept
      kept_reads choice cells is = map_then (λ slot. source_in wide (Held slot)) (code_at cells) kept
          ∙ map_agree (λ slot. code_at cells (source_in wide (Held slot))) (slot_at choice) kept
          (λ slot inside. place_found choice wide cells slot is (among slot inside))

  pub under_way_more : (done new_done : List ℕ) (places wide kept needed : List Slot) (number : ℕ) (get own_get : Get)
      (so_far rows new : List (List ℕ))
      → AreArities Holds gets arities → IsUnderWay Holds arities gets equations head done places so_far → (Contains done number → ⊥)
      → slice_get gets number ≡ Some get → IsReady arities done get number
      → ((row : List ℕ) → Contains rows row ↔ Holds (record { relation = get.fragment; terms = row }))
      → new_done ≡ done ++ number ∷ []
      → (arity : ℕ) → slice_get arities number ≡ Some arity → wide ≡ places ++ slots_from number 0 arity
      → own_get.inputs ≡ map (link_in places (take number arities)) get.inputs
      → own_get.filters ≡ flat_map (links_of number new_done wide) equations
      → needed ≡ needed_slots arities gets equations head new_done → kept ≡ kept_slots needed wide
      → ((row : List ℕ) → Contains new row ↔ IsKept (map (λ slot. source_in wide (Held slot)) kept) (IsJoin own_get so_far rows) row)
      → IsUnderWay Holds arities gets equations head new_done kept new
  under_way_more done new_done places wide kept needed number get own_get so_far rows new are under fresh there ready holds done_is arity at_arity
      wide_is inputs_are filters_are needed_is kept_is cut =
      subst (λ them. IsUnderWay Holds arities gets equations head them kept new) (sym done_is) (record {
        named = λ n inside. elim (Contains-push_cases done number n inside) [
          | inl old ↦ under.named n old
          | inr same ↦ subst (λ m. m < length gets) same (slice_get_within gets number get there)
        ];
        settled = λ n own inside at link linked. elim (Contains-push_cases done number n inside) [
          | inl old ↦ known_more done number (side_of (take n arities) link.source) (under.settled n own old at link linked)
          | inr same ↦
              let one : get ≡ own = same_Some get own (sym there ∙ ap (slice_get gets) same ∙ at) in
              known_more done number (side_of (take n arities) link.source)
              (subst (λ m. IsKnown done (side_of (take m arities) link.source)) same
              (ready link (subst (λ (it : Get). Contains it.inputs link) (sym one) linked)))
        ];
        slots = record {
          there = λ slot own is_needed inside at below. keeps slot
              (wide_slots.there slot own (needed_before arities gets equations head done number slot is_needed) inside at below) is_needed;
          own = λ slot inside. wide_slots.own slot (among slot inside);
          within = λ slot own inside at. wide_slots.within slot own (among slot inside) at;
        };
        parts = parts_less (done ++ number ∷ []) wide kept (IsJoin own_get so_far rows) new have among wide_parts cut;
      })
    where
      among : (slot : Slot) → Contains kept slot → Contains wide slot
      among slot inside = kept_among needed wide slot (subst (λ them. Contains them slot) kept_is inside)

      keeps : (slot : Slot) → Contains wide slot → Contains (needed_slots arities gets equations head (done ++ number ∷ [])) slot → Contains kept slot
      keeps slot inside is_needed = subst (λ them. Contains them slot) (sym kept_is) (kept_needed needed wide slot inside
          (subst (λ them. Contains them slot) (sym (needed_is ∙ ap (needed_slots arities gets equations head) done_is)) is_needed))

      wide_slots : AreSlots (needed_slots arities gets equations head done) arities (done ++ number ∷ []) wide
      wide_slots = subst (AreSlots (needed_slots arities gets equations head done) arities (done ++ number ∷ [])) (sym wide_is)
          (slots_more (needed_slots arities gets equations head done) arities done places number arity at_arity under.slots)

      wide_parts : AreParts Holds arities gets equations (done ++ number ∷ []) wide (IsJoin own_get so_far rows)
      wide_parts = subst (λ them. AreParts Holds arities gets equations (done ++ number ∷ []) them (IsJoin own_get so_far rows)) (sym wide_is)
          (parts_more Holds arities gets equations are.fit done (needed_slots arities gets equations head done)
          (needed_are arities gets equations head done) places number get arity own_get so_far rows fresh there at_arity
          (λ n inside. thing_at gets n (under.named n inside)) under.settled ready under.slots under.parts holds inputs_are
          (filters_are ∙ (λ i. flat_map (links_of number (done_is i) (wide_is i)) equations)))

      all_named : (n : ℕ) → Contains (done ++ number ∷ []) n → (own : Get) × (slice_get gets n ≡ Some own)
      all_named n inside = elim (Contains-push_cases done number n inside) [
        | inl old ↦ thing_at gets n (under.named n old)
        | inr same ↦ (get, ap (slice_get gets) (sym same) ∙ there)
      ]

      have : (choice : ℕ → List ℕ) → IsChoice Holds arities gets equations (done ++ number ∷ []) choice
          → (cells : List ℕ) × (map (slot_at choice) wide ≡ map Some cells)
      have choice is = cells_of arities (done ++ number ∷ []) choice
          (choice_long Holds arities gets equations are.fit (done ++ number ∷ []) choice all_named is) wide
          (λ slot inside. (wide_slots.own slot inside, λ own at. wide_slots.within slot own inside at))

-- ---- the inputs of the next get in the stated order are known

pub next_ready : (arities done : List ℕ) (get : Get) (number : ℕ) → number ≤ length arities → ((other : ℕ) → other < number → Contains done other)
    → IsReady arities done get number
next_ready arities done get number within before link linked =
    known_before (take number arities) link.source done
    (λ other below. before other (let taken = length-take-le number arities within in omega (arith, below, taken)))

pub before_more : (done new : List ℕ) (number : ℕ) → new ≡ done ++ number ∷ [] → ((other : ℕ) → other < number → Contains done other)
    → (other : ℕ) → other < number + 1 → Contains new other
before_more done new number is before other below = subst (λ them. Contains them other) (sym is) (elim (same_or_less other below) [
  | inl same ↦ subst (Contains (done ++ number ∷ [])) (sym same) (Contains-push done number)
  | inr less ↦ Contains-append_left done (number ∷ []) other (before other less)
])
  where
    same_or_less : (n : ℕ) → n < number + 1 → (n ≡ number) ⊎ (n < number)
    same_or_less n limit = elim (cases_order n number) [
      | inl same ↦ inl same
      | inr (inl less) ↦ inr less
      | inr (inr past) ↦ absurd (omega (arith, past, limit))
    ]

-- ---- the end

pub results_told : (Holds : Fact ℕ → Type 0) (steps : Steps) (arities : List ℕ) (own : List Equation) (done : List ℕ) (places : List Slot)
    (rows results : List (List ℕ)) (head : List Source)
    → AreArities Holds steps.gets arities → SayTheSame (equations_from arities 0 steps.gets) own
    → ((number : ℕ) → number < length steps.gets → Contains done number)
    → IsUnderWay Holds arities steps.gets own steps.head done places rows
    → head ≡ map (λ source. source_in places (side_of arities source)) steps.head
    → ((row : List ℕ) → Contains results row ↔ ((end : List ℕ) × Contains rows end × NamesCodes end head row))
    → (row : List ℕ) → Contains results row ↔ IsResult Holds steps row
results_told Holds steps arities own done places rows results head are same all under head_is projected =
    parts_are_results Holds arities steps.gets are.long are.fit own same done all
    (needed_slots arities steps.gets own steps.head done) places rows results steps.head under.named
    (head_needed arities steps.gets own steps.head done) under.slots under.parts
    (λ row. subst (λ them. Contains results row ↔ ((end : List ℕ) × Contains rows end × NamesCodes end them row)) head_is (projected row))

-- ---- the fragment of a get

pub links_in_columns : (places : List Slot) (arities : List ℕ) (links own : List Link) → own ≡ map (link_in places arities) links
    → map (λ (link : Link). link.column) own ≡ map (λ (link : Link). link.column) links
links_in_columns places arities links own is = ap (map (λ (link : Link). link.column)) is ∙ map_then (link_in places arities) (λ
    (link : Link). link.column) links

pub before_same : (done : List ℕ) (number : ℕ) → Contains done number → ((other : ℕ) → other < number → Contains done other)
    → (other : ℕ) → other < number + 1 → Contains done other
before_same done number inside before other below = elim (cases_order other number) [
  | inl same ↦ subst (Contains done) (sym same) inside
  | inr (inl less) ↦ before other less
  | inr (inr past) ↦ absurd (omega (arith, past, below))
]

pub under_way_at : (Holds : Fact ℕ → Type 0) (arities : List ℕ) (gets : List Get) (equations : List Equation) (head : List Source) (done : List ℕ)
    (places : List Slot) (rows : List (List ℕ)) → done ≡ [] → places ≡ [] → rows ≡ [] ∷ []
    → IsUnderWay Holds arities gets equations head done places rows
under_way_at Holds arities gets equations head done places rows none no_places one =
    subst (λ them. IsUnderWay Holds arities gets equations head them places rows) (sym none)
    (subst (λ them. IsUnderWay Holds arities gets equations head [] them rows) (sym no_places)
    (subst (λ them. IsUnderWay Holds arities gets equations head [] [] them) (sym one) (under_way_start Holds arities gets equations head)))
