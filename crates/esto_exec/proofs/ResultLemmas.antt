-- The results of steps are the choices for all gets.
use Rattle.std.proofs.Common.{◌≡◌, ◌↔◌, inl, inr, ℕ, zero, suc, ◌+◌, ◌<◌, ◌≤◌, List, [], ◌∷◌, ◌++◌, map, length, take, Some, slice_get, Contains}
use Rattle.std.proofs.Common.{refl, sym, ap, ◌∙◌, subst, arith}
use Rattle.std.proofs.lemmas.List.{append_assoc, append-nil, length-take-le}
use Rattle.std.proofs.lemmas.List.Elements.{Contains-append_left, Contains-append_right, Contains-append_cases}
use Rattle.std.proofs.lemmas.Option.{none-some, same_Some, slice_get_within}
use Rattle.esto_semantics.specs.declared.fact.Fact.{Fact}
use Rattle.esto_term.proofs.ListLemmas.{Contains-nil, Contains-head, Contains-rest, Contains-map, Contains-map_from, map_agree, map_then, thing_at}
use Rattle.esto_term.proofs.PlaceLemmas.{taken_at}
use Rattle.esto_steps.specs.declared.steps.Get.{Get}
use Rattle.esto_steps.specs.declared.steps.Link.{Link}
use Rattle.esto_steps.specs.declared.steps.Source.{Source}
use Rattle.esto_steps.specs.Meaning.{code_at, IsMet, Follows, Leads}
use Rattle.esto_steps.specs.Named.{NamesCodes}
use Rattle.esto_exec.specs.Slots.{side_of, slot_at, side_at, AreEqual, IsKnown, IsChoice, equations_by, equations_from}
use Rattle.esto_exec.specs.Turns.{source_in, AreSlots, AreParts}
use Rattle.esto_exec.specs.Hubs.{AreMet, AreKnown, SayTheSame}
use Rattle.esto_exec.specs.declared.slots.Slot.{Slot}
use Rattle.esto_exec.specs.declared.slots.Equation.{Equation}
use Rattle.esto_exec.specs.declared.slots.Side.TheVariants.{Held}
use Rattle.esto_exec.proofs.SlotLemmas.{put, put-same, put-other, cells_from, AreLong, source_reads, known_before}
use Rattle.esto_exec.proofs.TurnLemmas.{AreDoneLong, source_in_reads}

-- ---- the rows of a choice one after another

cells_more : (choice : ℕ → List ℕ) (number count : ℕ) → cells_from choice number (suc count) ≡ cells_from choice number count ++ choice (number + count)
cells_more choice number zero = append-nil (choice number) ∙ ap choice (omega (arith))
cells_more choice number (suc count) =
    ap (λ them. choice number ++ them) (cells_more choice (number + 1) count)
    ∙ sym (append_assoc (choice number) (cells_from choice (number + 1) count) (choice (number + 1 + count)))
    ∙ ap (λ n. (choice number ++ cells_from choice (number + 1) count) ++ choice n) (omega (arith))

cells_agree : (choice other : ℕ → List ℕ) (number count : ℕ) → ((n : ℕ) → n < number + count → other n ≡ choice n)
    → cells_from other number count ≡ cells_from choice number count
cells_agree choice other number zero agree = refl
cells_agree choice other number (suc count) agree =
    let first = agree number (omega (arith)) in
    let rest = cells_agree choice other (number + 1) count (λ n below. agree n (omega (arith, below))) in
    λ i. first i ++ rest i

-- the row of the number in the choice is one of the get's fragment, and follows those before it
abbrev pub IsNext : (Fact ℕ → Type 0) → Get → (ℕ → List ℕ) → ℕ → Type 0
IsNext Holds get choice number =
    Holds (record { relation = get.fragment; terms = choice number }) × Follows get (cells_from choice 0 number) (choice number)

-- the gets lead along the choice, of which the first one has the number
abbrev pub Goes : (Fact ℕ → Type 0) → List Get → ℕ → (ℕ → List ℕ) → Type 0
Goes Holds gets number choice = (at : ℕ) (get : Get) → slice_get gets at ≡ Some get → IsNext Holds get choice (number + at)

module _ (Holds : Fact ℕ → Type 0) where
  pub leads_goes : (gets : List Get) (number : ℕ) (choice : ℕ → List ℕ) (cells end : List ℕ) → cells ≡ cells_from choice 0 number → Leads Holds gets cells end
      → (other : ℕ → List ℕ) × ((n : ℕ) → n < number → other n ≡ choice n) × Goes Holds gets number other
      × (end ≡ cells_from other 0 (number + length gets))
  leads_goes [] number choice cells end is leads = (
    choice,
    (λ n below. refl),
    (λ at get there. absurd (none-some get there)),
    sym leads ∙ is ∙ (let same : number ≡ number + 0 = omega (arith) in ap (cells_from choice 0) same),
  )
  leads_goes (get ∷ gets) number choice cells end is (row, held, follows, rest) =
      by (leads_goes gets (number + 1) (put choice number row) (cells ++ row) end next_cells rest)
    where
      next_cells : cells ++ row ≡ cells_from (put choice number row) 0 (number + 1)
      next_cells =
          let own = put-same choice number row in
          let old = cells_agree choice (put choice number row) 0 number (λ n below. put-other choice number row n (omega (arith, below))) in
          let at : number ≡ 0 + number = omega (arith) in
          let next : suc number ≡ number + 1 = omega (arith) in
          (λ i. (is ∙ sym old) i ++ sym own i)
          ∙ ap (λ n. cells_from (put choice number row) 0 number ++ put choice number row n) at
          ∙ sym (cells_more (put choice number row) 0 number)
          ∙ ap (cells_from (put choice number row) 0) next

      by : ((other : ℕ → List ℕ) × ((n : ℕ) → n < number + 1 → other n ≡ put choice number row n) × Goes Holds gets (number + 1) other
          × (end ≡ cells_from other 0 (number + 1 + length gets)))
          → (other : ℕ → List ℕ) × ((n : ℕ) → n < number → other n ≡ choice n) × Goes Holds (get ∷ gets) number other
          × (end ≡ cells_from other 0 (number + suc (length gets)))
      by (other, agree, goes, end_is) = (
        other,
        (λ n below. old n below),
        each,
        end_is ∙ ap (cells_from other 0) (omega (arith)),
      )
        where
          old : (n : ℕ) → n < number → other n ≡ choice n
          old n below = agree n (omega (arith, below)) ∙ put-other choice number row n (omega (arith, below))

          row_is : row ≡ other number
          row_is = sym (put-same choice number row) ∙ sym (agree number (omega (arith)))

          cells_are : cells ≡ cells_from other 0 number
          cells_are = is ∙ sym (cells_agree choice other 0 number (λ n below. old n (omega (arith, below))))

          each : Goes Holds (get ∷ gets) number other
          each zero own there =
              let one : get ≡ own = same_Some get own there in
              let zeroth : number ≡ number + 0 = omega (arith) in
              subst (IsNext Holds own other) zeroth (
                subst (λ (it : Fact ℕ). Holds it) (λ i. record { relation = (one i).fragment; terms = row_is i }) held,
                first own one,
              )
            where
              first : (it : Get) → get ≡ it → Follows it (cells_from other 0 number) (other number)
              first it same = subst (λ (g : Get). Follows g (cells_from other 0 number) (other number)) same
                  (subst (λ them. Follows get them (other number)) cells_are (subst (Follows get cells) row_is follows))
          each (suc at) own there =
              let next : number + 1 + at ≡ number + suc at = omega (arith) in
              subst (IsNext Holds own other) next (goes at own there)

  pub goes_leads : (gets : List Get) (number : ℕ) (choice : ℕ → List ℕ) → Goes Holds gets number choice
      → Leads Holds gets (cells_from choice 0 number) (cells_from choice 0 (number + length gets))
  goes_leads [] number choice goes = ap (cells_from choice 0) (omega (arith))
  goes_leads (get ∷ gets) number choice goes =
      let zeroth : number + 0 ≡ number = omega (arith) in
      let own = subst (IsNext Holds get choice) zeroth (goes 0 get refl) in
      let next : number + 1 ≡ suc number = omega (arith) in
      let own_number : 0 + number ≡ number = omega (arith) in
      let grown : cells_from choice 0 (number + 1) ≡ cells_from choice 0 number ++ choice number =
      ap (cells_from choice 0) next ∙ cells_more choice 0 number ∙ ap (λ n. cells_from choice 0 number ++ choice n) own_number in
      let last : number + 1 + length gets ≡ number + suc (length gets) = omega (arith) in (
        choice number,
        own.0,
        own.1,
        subst (λ cells. Leads Holds gets cells (cells_from choice 0 (number + suc (length gets)))) grown
            (subst (λ n. Leads Holds gets (cells_from choice 0 (number + 1)) (cells_from choice 0 n)) last
            (goes_leads gets (number + 1) choice (later goes))),
      )
    where
      later : Goes Holds (get ∷ gets) number choice → Goes Holds gets (number + 1) choice
      later goes_on at own there =
          let next : number + suc at ≡ number + 1 + at = omega (arith) in
          subst (IsNext Holds own choice) next (goes_on (suc at) own there)

-- ---- equations

equations_have : (arities : List ℕ) (number : ℕ) (gets : List Get) (at : ℕ) (get : Get) (link : Link) → slice_get gets at ≡ Some get → Contains get.filters link
    → Contains (equations_from arities number gets) (record {
      slot = record { get = number + at; column = link.column };
      side = side_of (take (number + at + 1) arities) link.source;
    })
equations_have arities number [] at get link there linked = absurd (none-some get there)
equations_have arities number (first ∷ rest) zero get link there linked =
    let one : first ≡ get = same_Some first get there in
    let zeroth : number ≡ number + 0 = omega (arith) in
    subst (λ n. Contains (equations_from arities number (first ∷ rest)) (record {
      slot = record { get = n; column = link.column };
      side = side_of (take (n + 1) arities) link.source;
    })) zeroth
    (Contains-append_left (equations_by (take (number + 1) arities) number first.filters) (equations_from arities (number + 1) rest) _
    (Contains-map (λ (it : Link). record { slot = record { get = number; column = it.column }; side = side_of (take (number + 1) arities) it.source })
    first.filters link (subst (λ (it : Get). Contains it.filters link) (sym one) linked)))
equations_have arities number (first ∷ rest) (suc at) get link there linked =
    let next : number + 1 + at ≡ number + suc at = omega (arith) in
    subst (λ n. Contains (equations_from arities number (first ∷ rest)) (record {
      slot = record { get = n; column = link.column };
      side = side_of (take (n + 1) arities) link.source;
    })) next
    (Contains-append_right (equations_by (take (number + 1) arities) number first.filters) (equations_from arities (number + 1) rest) _
    (equations_have arities (number + 1) rest at get link there linked))

equations_are : (arities : List ℕ) (number : ℕ) (gets : List Get) (equation : Equation) → Contains (equations_from arities number gets) equation
    → (at : ℕ) × (get : Get) × (link : Link) × (slice_get gets at ≡ Some get) × Contains get.filters link × (equation ≡ record {
      slot = record { get = number + at; column = link.column };
      side = side_of (take (number + at + 1) arities) link.source;
    })
equations_are arities number [] equation inside = absurd (Contains-nil equation inside)
equations_are arities number (first ∷ rest) equation inside = elim
    (Contains-append_cases (equations_by (take (number + 1) arities) number first.filters) (equations_from arities (number + 1) rest) equation inside) [
      | inl own ↦
          let found = Contains-map_from (λ (it : Link). record {
            slot = record { get = number; column = it.column };
            side = side_of (take (number + 1) arities) it.source;
          }) first.filters equation own in
          let zeroth : number ≡ number + 0 = omega (arith) in (
            0,
            first,
            found.0,
            refl,
            found.1,
            sym found.2 ∙ ap (λ n. record {
              slot = record { get = n; column = (found.0).column };
              side = side_of (take (n + 1) arities) (found.0).source;
            }) zeroth,
          )
      | inr later ↦
          let found = equations_are arities (number + 1) rest equation later in
          let next : number + 1 + found.0 ≡ number + suc found.0 = omega (arith) in (
            suc found.0,
            found.1,
            found.2,
            found.3,
            found.4,
            found.5 ∙ ap (λ n. record {
              slot = record { get = n; column = (found.2).column };
              side = side_of (take (n + 1) arities) (found.2).source;
            }) next,
          )
    ]

-- ---- choices along which all gets lead

-- slots of rows that are long enough hold codes
pub cells_of : (arities done : List ℕ) (choice : ℕ → List ℕ) → AreDoneLong arities done choice → (places : List Slot)
    → ((slot : Slot) → Contains places slot → Contains done slot.get × ((arity : ℕ) → slice_get arities slot.get ≡ Some arity → slot.column < arity))
    → (cells : List ℕ) × (map (slot_at choice) places ≡ map Some cells)
cells_of arities done choice long [] within = ([], refl)
cells_of arities done choice long (slot ∷ places) within =
    let own = within slot (Contains-head slot places) in
    let arity = long slot.get own.0 in
    let code = thing_at (choice slot.get) slot.column (let below = own.1 arity.0 arity.1 in omega (arith, below, arity.2)) in
    let rest = cells_of arities done choice long places (λ it inside. within it (Contains-rest slot places it inside)) in
    (code.0 ∷ rest.0, λ i. code.1 i ∷ rest.1 i)

module _ (Holds : Fact ℕ → Type 0) (arities : List ℕ) (gets : List Get) (long : length arities ≡ length gets)
    (fits : (number : ℕ) (get : Get) (row : List ℕ) → slice_get gets number ≡ Some get → Holds (record { relation = get.fragment; terms = row })
    → (arity : ℕ) × (slice_get arities number ≡ Some arity) × (length row ≡ arity)) where
  abbrev AreHeld : (ℕ → List ℕ) → Type 0
  AreHeld choice = (number : ℕ) (get : Get) → slice_get gets number ≡ Some get → Holds (record { relation = get.fragment; terms = choice number })

  pub rows_long : (choice : ℕ → List ℕ) → AreHeld choice → (count : ℕ) → AreLong choice 0 (take count arities)
  rows_long choice held count at arity is =
      let at_all = taken_at arities count at arity is in
      let get = thing_at gets at (let inside = slice_get_within arities at arity at_all in omega (arith, inside, long)) in
      let own = fits at get.0 (choice at) get.1 (held at get.0 get.1) in
      let number : 0 + at ≡ at = omega (arith) in
      ap (λ n. length (choice n)) number ∙ own.2 ∙ same_Some own.0 arity (sym own.1 ∙ at_all)

  reads : (choice : ℕ → List ℕ) → AreHeld choice → (count : ℕ) → count ≤ length gets → (source : Source)
      → code_at (cells_from choice 0 count) source ≡ side_at choice (side_of (take count arities) source)
  reads choice held count within source =
      let taken : length (take count arities) ≡ count = length-take-le count arities (omega (arith, within, long)) in
      ap (λ n. code_at (cells_from choice 0 n) source) (sym taken) ∙ source_reads choice (take count arities) source (rows_long choice held count)

  row_after : (choice : ℕ → List ℕ) (number : ℕ) → cells_from choice 0 number ++ choice number ≡ cells_from choice 0 (number + 1)
  row_after choice number =
      let own : number ≡ 0 + number = omega (arith) in
      let next : suc number ≡ number + 1 = omega (arith) in
      ap (λ n. cells_from choice 0 number ++ choice n) own ∙ sym (cells_more choice 0 number) ∙ ap (cells_from choice 0) next

  pub goes_choice : (own : List Equation) → SayTheSame (equations_from arities 0 gets) own → (choice : ℕ → List ℕ) (done : List ℕ)
      → Goes Holds gets 0 choice → IsChoice Holds arities gets own done choice
  goes_choice own same choice done goes = record {
    held = λ n get inside there. held n get there;
    inputs = λ n get link inside there linked.
        let met = (each n get there).1.inputs link linked in
        let below = slice_get_within gets n get there in
        (met.0, met.1, sym (reads choice held n (omega (arith, below)) link.source) ∙ met.2);
    filters = λ equation among inside known_side. (same.met choice).0 stated equation among;
  }
    where
      each : (n : ℕ) (get : Get) → slice_get gets n ≡ Some get → IsNext Holds get choice n
      each n get there =
          let number : 0 + n ≡ n = omega (arith) in
          subst (IsNext Holds get choice) number (goes n get there)

      held : AreHeld choice
      held n get there = (each n get there).0

      stated : AreMet choice (equations_from arities 0 gets)
      stated equation among =
          let found = equations_are arities 0 gets equation among in
          let number : found.0 ≡ 0 + found.0 = omega (arith) in
          let met = (each found.0 found.1 found.3).1.filters found.2 found.4 in
          let below = slice_get_within gets found.0 found.1 found.3 in
          let own : AreEqual choice (record { get = found.0; column = (found.2).column }) (side_of (take (found.0 + 1) arities) (found.2).source) = (
            met.0,
            met.1,
            sym (ap (λ cells. code_at cells (found.2).source) (row_after choice found.0)
                ∙ reads choice held (found.0 + 1) (omega (arith, below)) (found.2).source)
                ∙ met.2,
          ) in
          let shifted = subst (λ n. AreEqual choice (record { get = n; column = (found.2).column }) (side_of (take (n + 1) arities)
          (found.2).source)) number own in
          subst (λ (it : Equation). AreEqual choice it.slot it.side) (sym found.5) shifted

  -- the gets of the numbers are all that there are
  module _ (own : List Equation) (same : SayTheSame (equations_from arities 0 gets) own) (done : List ℕ)
      (all : (number : ℕ) → number < length gets → Contains done number) where
    known : (count : ℕ) → count ≤ length gets → (source : Source) → IsKnown done (side_of (take count arities) source)
    known count within source = known_before (take count arities) source done (λ number below.
        all number (let taken = length-take-le count arities (omega (arith, within, long)) in omega (arith, below, taken, within)))

    all_known : AreKnown done (equations_from arities 0 gets)
    all_known equation among =
        let found = equations_are arities 0 gets equation among in
        let below = slice_get_within gets found.0 found.1 found.3 in
        subst (λ (it : Equation). Contains done it.slot.get × IsKnown done it.side) (sym found.5)
        (all (0 + found.0) (omega (arith, below)), known (0 + found.0 + 1) (omega (arith, below)) (found.2).source)

    -- what the choice meets is all that the gets state
    all_met : (choice : ℕ → List ℕ) → IsChoice Holds arities gets own done choice → AreMet choice (equations_from arities 0 gets)
    all_met choice is = (same.met choice).1
        (λ equation among. let both = same.known done all_known equation among in is.filters equation among both.0 both.1)

    choice_goes : (choice : ℕ → List ℕ) → IsChoice Holds arities gets own done choice → Goes Holds gets 0 choice
    choice_goes choice is at get there =
        let number : at ≡ 0 + at = omega (arith) in
        subst (IsNext Holds get choice) number (held at get there, record { inputs = inputs; filters = filters })
      where
        held : AreHeld choice
        held n own is_own = is.held n own (all n (slice_get_within gets n own is_own)) is_own

        inside : at < length gets
        inside = slice_get_within gets at get there

        inputs : (link : Link) → Contains get.inputs link → IsMet (cells_from choice 0 at) (choice at) link
        inputs link linked =
            let equal = is.inputs at get link (all at inside) there linked in
            (equal.0, equal.1, reads choice held at (omega (arith, inside)) link.source ∙ equal.2)

        filters : (link : Link) → Contains get.filters link → IsMet (cells_from choice 0 at ++ choice at) (choice at) link
        filters link linked =
            let number : 0 + at ≡ at = omega (arith) in
            let among = subst (λ n. Contains (equations_from arities 0 gets) (record {
              slot = record { get = n; column = link.column };
              side = side_of (take (n + 1) arities) link.source;
            })) number (equations_have arities 0 gets at get link there linked) in
            let equal = all_met choice is _ among in (
              equal.0,
              equal.1,
              ap (λ cells. code_at cells link.source) (row_after choice at) ∙ reads choice held (at + 1) (omega (arith, inside)) link.source ∙ equal.2,
            )

    -- the head reads in rows so far what it reads at the end
    heads_read : (needed : List Slot) (choice : ℕ → List ℕ) → AreHeld choice → (places : List Slot) (cells : List ℕ) → AreSlots needed arities done places
        → AreDoneLong arities done choice → map (slot_at choice) places ≡ map Some cells → (head : List Source)
        → ((source : Source) (slot : Slot) → Contains head source → side_of arities source ≡ Held slot → Contains needed slot)
        → map (code_at cells) (map (λ source. source_in places (side_of arities source)) head) ≡ map (code_at (cells_from choice 0 (length gets))) head
    heads_read needed choice held places cells slots done_long cells_are head is_needed =
        map_then (λ source. source_in places (side_of arities source)) (code_at cells) head
        ∙ map_agree (λ source. code_at cells (source_in places (side_of arities source))) (code_at (cells_from choice 0 (length gets))) head
        (λ source inside. source_in_reads choice needed arities done places cells (side_of arities source) slots done_long cells_are
        (known_before arities source done (λ number below. all number (omega (arith, below, long))))
        (λ slot is_slot. is_needed source slot inside is_slot)
        ∙ sym (source_reads choice arities source (λ at arity is. own_long choice held at arity is))
        ∙ ap (λ n. code_at (cells_from choice 0 n) source) long)
      where
        own_long : (chosen : ℕ → List ℕ) → AreHeld chosen → AreLong chosen 0 arities
        own_long chosen is_held at arity is =
            let get = thing_at gets at (let inside = slice_get_within arities at arity is in omega (arith, inside, long)) in
            let own = fits at get.0 (chosen at) get.1 (is_held at get.0 get.1) in
            let number : 0 + at ≡ at = omega (arith) in
            ap (λ n. length (chosen n)) number ∙ own.2 ∙ same_Some own.0 arity (sym own.1 ∙ is)

    pub parts_are_results : (needed : List Slot) (places : List Slot) (rows results : List (List ℕ)) (steps_head : List Source) (named : (n : ℕ)
        → Contains done n → n < length gets)
        → ((source : Source) (slot : Slot) → Contains steps_head source → side_of arities source ≡ Held slot → Contains needed slot)
        → AreSlots needed arities done places → AreParts Holds arities gets own done places (Contains rows)
        → ((row : List ℕ) → Contains results row
        ↔ ((end : List ℕ) × Contains rows end × NamesCodes end (map (λ source. source_in places (side_of arities source)) steps_head) row))
        → (row : List ℕ) → Contains results row
        ↔ ((end : List ℕ) × Leads Holds gets [] end × (map (code_at end) steps_head ≡ map Some row))
    parts_are_results needed places rows results head named is_needed slots parts projected row = (
      λ inside. let found = (projected row).0 inside in let of = (parts found.0).0 found.1 in by_parts found.0 of.0 of.1 of.2 found.2,
      λ result. by_end result.0 (leads_goes Holds gets 0 (λ n. []) [] result.0 refl result.1) result.2,
    )
      where
        done_long : (choice : ℕ → List ℕ) → AreHeld choice → AreDoneLong arities done choice
        done_long choice held n inside =
            let get = thing_at gets n (named n inside) in fits n get.0 (choice n) get.1 (held n get.0 get.1)

        choice_held : (choice : ℕ → List ℕ) → IsChoice Holds arities gets own done choice → AreHeld choice
        choice_held choice is n get there = is.held n get (all n (slice_get_within gets n get there)) there

        by_parts : (cells : List ℕ) (choice : ℕ → List ℕ) → IsChoice Holds arities gets own done choice
            → map (slot_at choice) places ≡ map Some cells
            → NamesCodes cells (map (λ source. source_in places (side_of arities source)) head) row
            → (end : List ℕ) × Leads Holds gets [] end × (map (code_at end) head ≡ map Some row)
        by_parts cells choice is cells_are names =
            let held = choice_held choice is in
            let count : 0 + length gets ≡ length gets = omega (arith) in (
              cells_from choice 0 (length gets),
              subst (λ n. Leads Holds gets [] (cells_from choice 0 n)) count (goes_leads Holds gets 0 choice (choice_goes choice is)),
              sym (heads_read needed choice held places cells slots (done_long choice held) cells_are head is_needed) ∙ names,
            )

        by_end : (end : List ℕ) → ((choice : ℕ → List ℕ) × ((n : ℕ) → n < 0 → choice n ≡ []) × Goes Holds gets 0 choice
            × (end ≡ cells_from choice 0 (0 + length gets)))
            → map (code_at end) head ≡ map Some row → Contains results row
        by_end end (choice, _, goes, end_is) head_is =
            let is = goes_choice own same choice done goes in
            let held = choice_held choice is in
            let cells = cells_of arities done choice (done_long choice held) places (λ slot among.
            (slots.own slot among, λ arity at. slots.within slot arity among at)) in
            let count : 0 + length gets ≡ length gets = omega (arith) in
            (projected row).1 (
              cells.0,
              (parts cells.0).1 (choice, is, cells.1),
              heads_read needed choice held places cells.0 slots (done_long choice held) cells.1 head is_needed
                  ∙ ap (λ it. map (code_at it) head) (sym (end_is ∙ ap (cells_from choice 0) count)) ∙ head_is,
            )
