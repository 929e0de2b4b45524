-- What a turn joins: the choices for one more get.
use Rattle.std.proofs.Common.{◌≡◌, ◌↔◌, ◌⊎◌, inl, inr, ℕ, ◌==◌, ◌&&◌, Bool, true, false, cond, List, [], ◌∷◌, ◌++◌, map, flat_map}
use Rattle.std.proofs.Common.{length, take, Some, slice_get, Contains, refl, sym, ap, ◌∙◌, subst}
use Rattle.std.proofs.lemmas.List.{map-append}
use Rattle.std.proofs.lemmas.List.Elements.{Contains-append_left, Contains-push, Contains-push_cases}
use Rattle.std.proofs.lemmas.Option.{same_Some}
use Rattle.esto_semantics.specs.declared.fact.Fact.{Fact}
use Rattle.esto_term.proofs.ListLemmas.{Contains-nil, Contains-one, Contains-head, Contains-map, Contains-map_from, map_agree, Contains-flat, map_one}
use Rattle.esto_term.proofs.ListLemmas.{Contains-flat_from}
use Rattle.esto_steps.specs.declared.steps.Get.{Get}
use Rattle.esto_steps.specs.declared.steps.Link.{Link}
use Rattle.esto_steps.specs.Meaning.{code_at, IsMet, Follows}
use Rattle.esto_steps.specs.Joined.{IsJoin}
use Rattle.esto_exec.specs.Slots.{side_of, slot_at, side_at, AreEqual, IsKnown, IsChoice}
use Rattle.esto_exec.specs.Turns.{AreNeeded, is_in, is_known, source_in, link_in, link_back, links_of, slots_from, IsReady, AreSlots, AreParts}
use Rattle.esto_exec.specs.declared.slots.Slot.{Slot}
use Rattle.esto_exec.specs.declared.slots.Side.{Side}
use Rattle.esto_exec.specs.declared.slots.Side.TheVariants.{Constant, Held, Nothing}
use Rattle.esto_exec.specs.declared.slots.Equation.{Equation}
use Rattle.esto_exec.proofs.SlotLemmas.{put, put-same, put-other}
use Rattle.esto_exec.proofs.TurnLemmas.{equal_numbers, numbers_equal, other_numbers, both_true, in_is, is_in-from, known_is, is_known-from, known_more}
use Rattle.esto_exec.proofs.TurnLemmas.{AreDoneLong}
use Rattle.esto_exec.proofs.TurnLemmas.{source_in_reads, slots_read, slots_more, parts_split}

-- ---- the links that an equation gives

-- the link tells the equation from the get's own side, or from the other one
pub record IsOwn (number : ℕ) (done : List ℕ) (places : List Slot) (equation : Equation) (link : Link) : Type 0 where
  pub get : equation.slot.get ≡ number
  pub known : IsKnown done equation.side
  pub is : link ≡ record { column = equation.slot.column; source = source_in places equation.side }

pub record IsBack (number : ℕ) (done : List ℕ) (places : List Slot) (equation : Equation) (link : Link) : Type 0 where
  pub other : Slot
  pub side : equation.side ≡ Held other
  pub get : other.get ≡ number
  pub inside : Contains done equation.slot.get
  pub is : link ≡ record { column = other.column; source = source_in places (Held equation.slot) }

pub links_from : (number : ℕ) (done : List ℕ) (places : List Slot) (equation : Equation) (link : Link)
    → Contains (links_of number done places equation) link
    → IsOwn number done places equation link ⊎ IsBack number done places equation link
links_from number done places equation link inside = by (equation.slot.get == number) refl inside
  where
    own : Link
    own = record { column = equation.slot.column; source = source_in places equation.side }

    by_known : (answer : Bool) → equation.slot.get ≡ number → is_known done equation.side ≡ answer → Contains (cond answer (own ∷ []) []) link
        → IsOwn number done places equation link
    by_known true get known there = record { get = get; known = known_is done equation.side known; is = sym (Contains-one own link there) }
    by_known false get known there = absurd (Contains-nil link there)

    by_back : (other : Slot) → equation.side ≡ Held other → (answer : Bool) → (other.get == number && is_in done equation.slot.get) ≡ answer
        → Contains (cond answer (record { column = other.column; source = source_in places (Held equation.slot) } ∷ []) []) link
        → IsBack number done places equation link
    by_back other side true both there =
        let parts = both_true (other.get == number) (is_in done equation.slot.get) both in record {
          other = other;
          side = side;
          get = equal_numbers other.get number parts.0;
          inside = in_is done equation.slot.get parts.1;
          is = sym (Contains-one (record { column = other.column; source = source_in places (Held equation.slot) }) link there);
        }
    by_back other side false both there = absurd (Contains-nil link there)

    by_side : (side : Side) → equation.side ≡ side → Contains (link_back number done places equation.slot side) link → IsBack number done places equation link
    by_side (Constant code) is there = absurd (Contains-nil link there)
    by_side Nothing is there = absurd (Contains-nil link there)
    by_side (Held other) is there = by_back other is (other.get == number && is_in done equation.slot.get) refl there

    by : (answer : Bool) → (equation.slot.get == number) ≡ answer
        → Contains (cond answer (cond (is_known done equation.side) (own ∷ []) []) (link_back number done places equation.slot equation.side)) link
        → IsOwn number done places equation link ⊎ IsBack number done places equation link
    by true get there = inl (by_known (is_known done equation.side) (equal_numbers equation.slot.get number get) refl there)
    by false get there = inr (by_side equation.side refl there)

pub own_link : (number : ℕ) (done : List ℕ) (places : List Slot) (equation : Equation) → equation.slot.get ≡ number → IsKnown done equation.side
    → Contains (links_of number done places equation) (record { column = equation.slot.column; source = source_in places equation.side })
own_link number done places equation get known =
    subst (λ them. Contains them own) (sym is) (Contains-head own [])
  where
    own : Link
    own = record { column = equation.slot.column; source = source_in places equation.side }

    is : links_of number done places equation ≡ own ∷ []
    is = ap (λ b. cond b (cond (is_known done equation.side) (own ∷ []) []) (link_back number done places equation.slot equation.side))
        (numbers_equal equation.slot.get number get)
        ∙ ap (λ b. cond b (own ∷ []) []) (is_known-from done equation.side known)

pub back_link : (number : ℕ) (done : List ℕ) (places : List Slot) (equation : Equation) (other : Slot) → (equation.slot.get == number) ≡ false
    → equation.side ≡ Held other → other.get ≡ number → Contains done equation.slot.get
    → Contains (links_of number done places equation) (record { column = other.column; source = source_in places (Held equation.slot) })
back_link number done places equation other differs side get inside =
    subst (λ them. Contains them own) (sym is) (Contains-head own [])
  where
    own : Link
    own = record { column = other.column; source = source_in places (Held equation.slot) }

    both : (other.get == number && is_in done equation.slot.get) ≡ true
    both = let first = numbers_equal other.get number get in let second = is_in-from done equation.slot.get inside in λ i. first i && second i

    is : links_of number done places equation ≡ own ∷ []
    is = ap (λ b. cond b (cond (is_known done equation.side) (record { column = equation.slot.column; source = source_in places equation.side } ∷ []) [])
        (link_back number done places equation.slot equation.side)) differs
        ∙ ap (link_back number done places equation.slot) side ∙ ap (λ b. cond b (own ∷ []) []) both

-- ---- choices

-- choices that agree on the gets of a side give it one code
pub side_agrees : (done : List ℕ) (choice other : ℕ → List ℕ) (side : Side) → ((number : ℕ) → Contains done number → other number ≡ choice number)
    → IsKnown done side → side_at other side ≡ side_at choice side
side_agrees done choice other (Constant code) agree known = refl
side_agrees done choice other (Held slot) agree known = ap (λ row. slice_get row slot.column) (agree slot.get known)
side_agrees done choice other Nothing agree known = refl

-- the slot of an equation that is not decided is needed
needs_slot : {arities : List ℕ} {gets : List Get} {equations : List Equation} {done : List ℕ} {needed : List Slot}
    → AreNeeded arities gets equations done needed → (equation : Equation) → Contains equations equation
    → (Contains done equation.slot.get × IsKnown done equation.side → ⊥) → (slot : Slot) → Held equation.slot ≡ Held slot → Contains needed slot
needs_slot {arities} {gets} {equations} {done} {needed} needs equation among undecided slot is =
    let same : equation.slot ≡ slot = cc in subst (Contains needed) same (needs.slots equation among undecided)

module _ (Holds : Fact ℕ → Type 0) (arities : List ℕ) (gets : List Get) (equations : List Equation) where
  pub choice_less : (done : List ℕ) (number : ℕ) (choice : ℕ → List ℕ) → IsChoice Holds arities gets equations (done ++ number ∷ []) choice
      → IsChoice Holds arities gets equations done choice
  choice_less done number choice is = record {
    held = λ n get inside at. is.held n get (Contains-append_left done (number ∷ []) n inside) at;
    inputs = λ n get link inside at among. is.inputs n get link (Contains-append_left done (number ∷ []) n inside) at among;
    filters = λ equation among inside known.
        is.filters equation among (Contains-append_left done (number ∷ []) equation.slot.get inside) (known_more done number equation.side known);
  }

  -- every row that holds is as long as its get's arity says
  module _ (fits : (number : ℕ) (get : Get) (row : List ℕ) → slice_get gets number ≡ Some get → Holds (record { relation = get.fragment; terms = row })
      → (arity : ℕ) × (slice_get arities number ≡ Some arity) × (length row ≡ arity)) where
    pub choice_long : (done : List ℕ) (choice : ℕ → List ℕ) → ((n : ℕ) → Contains done n → (own : Get) × (slice_get gets n ≡ Some own))
        → IsChoice Holds arities gets equations done choice → AreDoneLong arities done choice
    choice_long done choice named is number inside =
        let get = named number inside in fits number get.0 (choice number) get.1 (is.held number get.0 inside get.1)

    module _ (done : List ℕ) (needed : List Slot) (needs : AreNeeded arities gets equations done needed) (places : List Slot) (number : ℕ) (get : Get)
        (arity : ℕ) (own_get : Get) (so_far rows : List (List ℕ))
        (fresh : Contains done number → ⊥) (at : slice_get gets number ≡ Some get) (at_arity : slice_get arities number ≡ Some arity)
        (known_gets : (n : ℕ) → Contains done n → (own : Get) × (slice_get gets n ≡ Some own))
        (settled : (n : ℕ) (own : Get) → Contains done n → slice_get gets n ≡ Some own → IsReady arities done own n)
        (ready : IsReady arities done get number) (slots : AreSlots needed arities done places)
        (parts : AreParts Holds arities gets equations done places (Contains so_far))
        (holds : (row : List ℕ) → Contains rows row ↔ Holds (record { relation = get.fragment; terms = row }))
        (inputs_are : own_get.inputs ≡ map (link_in places (take number arities)) get.inputs)
        (filters_are : own_get.filters ≡ flat_map (links_of number (done ++ number ∷ []) (places ++ slots_from number 0 arity)) equations) where
      abbrev all : List ℕ
      all = done ++ number ∷ []

      -- an equation that names the new get is not decided before
      own_open : (equation : Equation) → equation.slot.get ≡ number → Contains done equation.slot.get × IsKnown done equation.side → ⊥
      own_open equation own decided = fresh (subst (Contains done) own decided.0)

      other_open : (equation : Equation) (other : Slot) → equation.side ≡ Held other → other.get ≡ number
          → Contains done equation.slot.get × IsKnown done equation.side → ⊥
      other_open equation other side own decided = fresh (subst (Contains done) own (subst (IsKnown done) side decided.1))

      abbrev wide : List Slot
      wide = places ++ slots_from number 0 arity

      all_gets : (n : ℕ) → Contains all n → (own : Get) × (slice_get gets n ≡ Some own)
      all_gets n inside = elim (Contains-push_cases done number n inside) [
        | inl old ↦ known_gets n old
        | inr same ↦ (get, ap (slice_get gets) (sym same) ∙ at)
      ]

      wide_slots : AreSlots needed arities all wide
      wide_slots = slots_more needed arities done places number arity at_arity slots

      row_long : (row : List ℕ) → Contains rows row → length row ≡ arity
      row_long row inside =
          let own = fits number get row at ((holds row).0 inside) in own.2 ∙ same_Some own.0 arity (sym own.1 ∙ at_arity)

      -- a row so far with a row that follows it is of a choice
      module _ (choice : ℕ → List ℕ) (cells row : List ℕ) (is : IsChoice Holds arities gets equations done choice)
          (cells_are : map (slot_at choice) places ≡ map Some cells) (among : Contains rows row) (follows : Follows own_get cells row) where
        abbrev next : ℕ → List ℕ
        next = put choice number row

        next_own : next number ≡ row
        next_own = put-same choice number row

        next_old : (n : ℕ) → Contains done n → next n ≡ choice n
        next_old n inside = put-other choice number row n (λ same. fresh (subst (Contains done) same inside))

        next_cells : map (slot_at next) places ≡ map Some cells
        next_cells = map_agree (slot_at next) (slot_at choice) places (λ slot inside. ap (λ it. slice_get it slot.column) (next_old slot.get
            (slots.own slot inside)))
            ∙ cells_are

        next_wide : map (slot_at next) wide ≡ map Some (cells ++ row)
        next_wide = map-append (slot_at next) places (slots_from number 0 arity)
            ∙ (λ i. next_cells i ++ map (slot_at next) (slots_from number 0 (sym (row_long row among) i)))
            ∙ ap (λ them. map Some cells ++ them) (slots_read next number [] row next_own)
            ∙ sym (map-append Some cells row)

        next_held : (n : ℕ) (own : Get) → Contains all n → slice_get gets n ≡ Some own → Holds (record { relation = own.fragment; terms = next n })
        next_held n own inside own_at = elim (Contains-push_cases done number n inside) [
          | inl old ↦ subst (λ it. Holds (record { relation = own.fragment; terms = it })) (sym (next_old n old)) (is.held n own old own_at)
          | inr same ↦
              let one : get ≡ own = same_Some get own (sym at ∙ ap (slice_get gets) same ∙ own_at) in
              let row_is : row ≡ next n = sym next_own ∙ ap next same in
              subst (λ (it : Fact ℕ). Holds it) (λ i. record { relation = (one i).fragment; terms = row_is i }) ((holds row).0 among)
        ]

        next_long : AreDoneLong arities all next
        next_long n inside = let own = all_gets n inside in fits n own.0 (next n) own.1 (next_held n own.0 inside own.1)

        next_inputs : (n : ℕ) (own : Get) (link : Link) → Contains all n → slice_get gets n ≡ Some own → Contains own.inputs link
            → AreEqual next (record { get = n; column = link.column }) (side_of (take n arities) link.source)
        next_inputs n own link inside own_at linked = elim (Contains-push_cases done number n inside) [
          | inl old ↦
              let equal = is.inputs n own link old own_at linked in (
                equal.0,
                ap (λ it. slice_get it link.column) (next_old n old) ∙ equal.1,
                side_agrees done choice next (side_of (take n arities) link.source) next_old (settled n own old own_at link linked) ∙ equal.2,
              )
          | inr same ↦ subst (λ m. AreEqual next (record { get = m; column = link.column }) (side_of (take m arities) link.source)) same (here (
              let one : get ≡ own = same_Some get own (sym at ∙ ap (slice_get gets) same ∙ own_at) in subst (λ (it : Get). Contains it.inputs link)
              (sym one) linked))
        ]
          where
            here : Contains get.inputs link → AreEqual next (record { get = number; column = link.column }) (side_of (take number arities) link.source)
            here own_link_in =
                let side = side_of (take number arities) link.source in
                let met = follows.inputs (link_in places (take number arities) link)
                (subst (λ them. Contains them (link_in places (take number arities) link)) (sym inputs_are)
                (Contains-map (link_in places (take number arities)) get.inputs link own_link_in)) in
                let known = ready link own_link_in in (
                  met.0,
                  ap (λ it. slice_get it link.column) next_own ∙ met.1,
                  side_agrees done choice next side next_old known
                      ∙ sym (source_in_reads choice needed arities done places cells side slots (choice_long done choice known_gets is) cells_are known
                      (λ slot is_slot. needs.inputs number get link slot at own_link_in fresh is_slot)) ∙ met.2,
                )

        old_filters : (equation : Equation) → Contains equations equation → Contains done equation.slot.get → (side : Side) → equation.side ≡ side
            → IsKnown done side → AreEqual next equation.slot side
        old_filters equation among_all old side side_is known =
            let equal = is.filters equation among_all old (subst (IsKnown done) (sym side_is) known) in (
              equal.0,
              ap (λ it. slice_get it equation.slot.column) (next_old equation.slot.get old) ∙ equal.1,
              side_agrees done choice next side next_old known ∙ ap (side_at choice) (sym side_is) ∙ equal.2,
            )

        met_by : (equation : Equation) → Contains equations equation → (link : Link) → Contains (links_of number all wide equation) link
            → IsMet (cells ++ row) row link
        met_by equation among_all link there = follows.filters link (subst (λ them. Contains them link) (sym filters_are)
            (Contains-flat (links_of number all wide) equations equation link among_all there))

        source_is : (side : Side) → IsKnown all side → ((slot : Slot) → side ≡ Held slot → Contains needed slot)
            → code_at (cells ++ row) (source_in wide side) ≡ side_at next side
        source_is side known is_needed = source_in_reads next needed arities all wide (cells ++ row) side wide_slots next_long next_wide known is_needed

        new_filters : (equation : Equation) → Contains equations equation → equation.slot.get ≡ number → IsKnown all equation.side
            → AreEqual next equation.slot equation.side
        new_filters equation among_all own known =
            let met = met_by equation among_all (record { column = equation.slot.column; source = source_in wide equation.side })
            (own_link number all wide equation own known) in (
              met.0,
              ap (λ it. slice_get it equation.slot.column) (ap next own ∙ next_own) ∙ met.1,
              sym (source_is equation.side known (λ slot is_slot. needs.sides equation slot among_all (own_open equation own) is_slot)) ∙ met.2,
            )

        back_filters : (equation : Equation) → Contains equations equation → (equation.slot.get == number) ≡ false → Contains all equation.slot.get
            → (other : Slot) → equation.side ≡ Held other → other.get ≡ number → AreEqual next equation.slot (Held other)
        back_filters equation among_all differs inside other side_is own =
            let met = met_by equation among_all (record { column = other.column; source = source_in wide (Held equation.slot) })
            (back_link number all wide equation other differs side_is own inside) in (
              met.0,
              sym (source_is (Held equation.slot) inside (needs_slot needs equation among_all (other_open equation other side_is own))) ∙ met.2,
              ap (λ it. slice_get it other.column) (ap next own ∙ next_own) ∙ met.1,
            )

        other_filters : (equation : Equation) → Contains equations equation → (equation.slot.get == number) ≡ false → Contains all equation.slot.get
            → (side : Side) → equation.side ≡ side → IsKnown all side → AreEqual next equation.slot side
        other_filters equation among_all differs inside side side_is known = elim (Contains-push_cases done number equation.slot.get inside) [
          | inl old ↦ by old side side_is known
          | inr same ↦ absurd (other_numbers equation.slot.get number differs (sym same))
        ]
          where
            by : Contains done equation.slot.get → (it : Side) → equation.side ≡ it → IsKnown all it → AreEqual next equation.slot it
            by old (Constant code) it_is _ = old_filters equation among_all old (Constant code) it_is _
            by old Nothing it_is _ = old_filters equation among_all old Nothing it_is _
            by old (Held other) it_is known_it = elim (Contains-push_cases done number other.get known_it) [
              | inl old_other ↦ old_filters equation among_all old (Held other) it_is old_other
              | inr same ↦ back_filters equation among_all differs inside other it_is (sym same)
            ]

        next_filters : (equation : Equation) → Contains equations equation → Contains all equation.slot.get → IsKnown all equation.side
            → AreEqual next equation.slot equation.side
        next_filters equation among_all inside known = by (equation.slot.get == number) refl
          where
            by : (answer : Bool) → (equation.slot.get == number) ≡ answer → AreEqual next equation.slot equation.side
            by true own = new_filters equation among_all (equal_numbers equation.slot.get number own) known
            by false differs = other_filters equation among_all differs inside equation.side refl known

        next_is : IsChoice Holds arities gets equations all next
        next_is = record { held = next_held; inputs = next_inputs; filters = next_filters }

      -- a choice gives a row so far with a row that follows it
      module _ (choice : ℕ → List ℕ) (both : List ℕ) (is : IsChoice Holds arities gets equations all choice)
          (both_are : map (slot_at choice) wide ≡ map Some both) where
        long : AreDoneLong arities all choice
        long = choice_long all choice all_gets is

        among_rows : Contains rows (choice number)
        among_rows = (holds (choice number)).1 (is.held number get (Contains-push done number) at)

        row_read : map (slot_at choice) (slots_from number 0 arity) ≡ map Some (choice number)
        row_read = subst (λ n. map (slot_at choice) (slots_from number 0 n) ≡ map Some (choice number)) (row_long (choice number) among_rows)
            (slots_read choice number [] (choice number) refl)

        split : (cells : List ℕ) × (map (slot_at choice) places ≡ map Some cells) × (both ≡ cells ++ choice number)
        split =
            let parted = parts_split (slot_at choice) places (slots_from number 0 arity) both both_are in
            let row_is = map_one Some same_Some parted.1 (choice number) (sym parted.4 ∙ row_read) in
            (parted.0, parted.3, parted.2 ∙ ap (λ row. parted.0 ++ row) row_is)

        read : (side : Side) → IsKnown all side → ((slot : Slot) → side ≡ Held slot → Contains needed slot)
            → code_at both (source_in wide side) ≡ side_at choice side
        read side known is_needed = source_in_reads choice needed arities all wide both side wide_slots long both_are known is_needed

        inputs_met : (cells : List ℕ) → map (slot_at choice) places ≡ map Some cells → (link : Link) → Contains own_get.inputs link
            → IsMet cells (choice number) link
        inputs_met cells cells_are link inside =
            let found = Contains-map_from (link_in places (take number arities)) get.inputs link (subst (λ them. Contains them link) inputs_are inside) in
            let side = side_of (take number arities) found.0.source in
            let equal = is.inputs number get found.0 (Contains-push done number) at found.1 in
            subst (IsMet cells (choice number)) found.2 (
              equal.0,
              equal.1,
              source_in_reads choice needed arities done places cells side slots (choice_long done choice known_gets
                  (choice_less done number choice is)) cells_are
                  (ready found.0 found.1) (λ slot is_slot. needs.inputs number get found.0 slot at found.1 fresh is_slot) ∙ equal.2,
            )

        filters_met : (link : Link) → Contains own_get.filters link → IsMet both (choice number) link
        filters_met link inside =
            let found = Contains-flat_from (links_of number all wide) equations link (subst (λ them. Contains them link) filters_are inside) in
            elim (links_from number all wide found.0 link found.2) [
              | inl own ↦
                  let equal = is.filters found.0 found.1 (subst (Contains all) (sym own.get) (Contains-push done number)) own.known in
                  subst (IsMet both (choice number)) (sym own.is) (
                    equal.0,
                    ap (λ n. slice_get (choice n) (found.0).slot.column) (sym own.get) ∙ equal.1,
                    read (found.0).side own.known (λ slot is_slot. needs.sides found.0 slot found.1 (own_open found.0 own.get) is_slot) ∙ equal.2,
                  )
              | inr back ↦
                  let known : IsKnown all (found.0).side = subst (IsKnown all) (sym back.side) (subst (Contains all) (sym back.get)
                  (Contains-push done number)) in
                  let equal = is.filters found.0 found.1 back.inside known in
                  subst (IsMet both (choice number)) (sym back.is) (
                    equal.0,
                    ap (λ n. slice_get (choice n) (back.other).column) (sym back.get) ∙ ap (side_at choice) (sym back.side) ∙ equal.2,
                    read (Held (found.0).slot) back.inside (needs_slot needs found.0 found.1 (other_open found.0 back.other back.side back.get)) ∙ equal.1,
                  )
            ]

        is_join : IsJoin own_get so_far rows both
        is_join = let cut = split in (
          cut.0,
          choice number,
          (parts cut.0).1 (choice, choice_less done number choice is, cut.1),
          among_rows,
          record {
            inputs = inputs_met cut.0 cut.1;
            filters = λ link inside. subst (λ it. IsMet it (choice number) link) cut.2 (filters_met link inside);
          },
          cut.2,
        )

      pub parts_more : AreParts Holds arities gets equations all wide (IsJoin own_get so_far rows)
      parts_more both = (
        λ join. let of = (parts join.0).0 join.2 in (
          put of.0 number join.1,
          next_is of.0 join.0 join.1 of.1 of.2 join.3 join.4,
          subst (λ it. map (slot_at (put of.0 number join.1)) wide ≡ map Some it) (sym join.5) (next_wide of.0 join.0 join.1 of.1 of.2 join.3 join.4),
        ),
        λ found. is_join found.0 both found.1 found.2,
      )
