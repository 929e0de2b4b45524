-- Gets over rows that were asked for beforehand stand for those that have inputs.
use Rattle.std.proofs.Common.{◌≡◌, ◌≢◌, ◌⊎◌, ◌↔◌, inl, inr, ℕ, ◌+◌, ◌<◌, List, [], ◌∷◌, ◌++◌, map, length, take, get_or, Some, slice_get, Contains, sym, ap}
use Rattle.std.proofs.Common.{◌∙◌, subst, arith}
use Rattle.std.proofs.lemmas.List.{length-append}
use Rattle.std.proofs.lemmas.Option.{none-some, same_Some, slice_get_within, get_or_from_slice_get}
use Rattle.esto_semantics.specs.declared.fact.Fact.{Fact}
use Rattle.esto_term.proofs.ListLemmas.{Contains-nil, Contains-one, Contains-head, Contains-map_from, at_pushed, thing_at, place-from_Contains}
use Rattle.esto_columns.specs.Asked.{Shape, IsAllowed}
use Rattle.esto_steps.specs.declared.steps.Get.{Get}
use Rattle.esto_steps.specs.declared.steps.Link.{Link}
use Rattle.esto_steps.specs.declared.steps.Source.{Source}
use Rattle.esto_steps.specs.Meaning.{IsMet, Follows}
use Rattle.esto_steps.specs.Rows.{IsRowOf}
use Rattle.esto_exec.specs.Given.{IsFreed, IsLike, IsWhole, AreGiven}
use Rattle.esto_exec.specs.Instead.{AreEnough, IsInstead, AreInstead}
use Rattle.esto_exec.specs.Runnable.{AreRunnable}
use Rattle.esto_exec.specs.Slots.{side_of}
use Rattle.esto_exec.specs.Turns.{link_in, needed_slots, AreArities, IsReady, IsUnderWay}
use Rattle.esto_exec.specs.declared.slots.Equation.{Equation}
use Rattle.esto_exec.specs.declared.slots.Slot.{Slot}
use Rattle.esto_exec.specs.declared.slots.Side.TheVariants.{Nothing}
use Rattle.esto_exec.proofs.TurnLemmas.{source_in_reads, needed_are}
use Rattle.esto_exec.proofs.ChoiceLemmas.{choice_long}
use Rattle.esto_exec.proofs.ResultLemmas.{cells_of}

-- ---- asking by rows so far

-- what meets the links, as they are told in the cells, follows them
pub follows_links : (get : Get) (told : Link → Link) (links : List Link) (cells row : List ℕ) → get.inputs ≡ map told links → get.filters ≡ []
    → ((link : Link) → Contains links link → IsMet cells row (told link)) → Follows get cells row
follows_links get told links cells row inputs filters met = record {
  inputs = λ link inside.
      let found = Contains-map_from told links link (subst (λ them. Contains them link) inputs inside) in subst (IsMet cells row) found.2 (met found.0 found.1);
  filters = λ link inside. absurd (Contains-nil link (subst (λ them. Contains them link) filters inside));
}

module _ (Holds : Fact ℕ → Type 0) (arities : List ℕ) (gets : List Get) (equations : List Equation) (number : ℕ) (get : Get)
    (at : slice_get gets number ≡ Some get) (rows : List (List ℕ))
    (holds : (row : List ℕ) → Contains rows row ↔ Holds (record { relation = get.fragment; terms = row })) where
  -- all rows of the get's fragment are enough
  pub own_enough : (own : List (List ℕ)) → own ≡ rows → AreEnough Holds arities gets equations number own
  own_enough own is = record {
    sound = λ other row other_at inside. subst (λ (it : Get). Holds (record { relation = it.fragment; terms = row })) (same_Some get other (sym at ∙ other_at))
        ((holds row).0 (subst (λ them. Contains them row) is inside));
    complete = λ other choice other_at whole. subst (λ them. Contains them (choice number)) (sym is) ((holds (choice number)).1
        ((whole (number ∷ []) all_named).held number get (Contains-head number []) at));
  }
    where
      all_named : (n : ℕ) → Contains (number ∷ []) n → n < length gets
      all_named n inside = subst (λ m. m < length gets) (Contains-one number n inside) (slice_get_within gets number get at)

  -- rows that have all that the rows so far ask for are enough
  pub asked_enough : (head : List Source) (done : List ℕ) (places : List Slot) (so_far asked own : List (List ℕ))
      → AreArities Holds gets arities → IsUnderWay Holds arities gets equations head done places so_far → (Contains done number → ⊥)
      → IsReady arities done get number → ((row : List ℕ) → Contains asked row → Contains rows row)
      → ((cells row : List ℕ) → Contains so_far cells → Contains rows row
      → ((link : Link) → Contains get.inputs link → IsMet cells row (link_in places (take number arities) link)) → Contains asked row)
      → own ≡ asked → AreEnough Holds arities gets equations number own
  asked_enough head done places so_far asked own are under fresh ready sound complete is = record {
    sound = λ other row other_at inside. subst (λ (it : Get). Holds (record { relation = it.fragment; terms = row })) (same_Some get other (sym at ∙ other_at))
        ((holds row).0 (sound row (subst (λ them. Contains them row) is inside)));
    complete = λ other choice other_at whole. subst (λ them. Contains them (choice number)) (sym is) (among choice whole);
  }
    where
      own_named : (n : ℕ) → Contains (number ∷ []) n → n < length gets
      own_named n inside = subst (λ m. m < length gets) (Contains-one number n inside) (slice_get_within gets number get at)

      among : (choice : ℕ → List ℕ) → IsWhole Holds arities gets equations choice → Contains asked (choice number)
      among choice whole =
          let of_done = whole done under.named in let of_own = whole (number ∷ []) own_named in
          let long = choice_long Holds arities gets equations are.fit done choice (λ n inside. thing_at gets n (under.named n inside)) of_done in
          let cells = cells_of arities done choice long places
          (λ slot inside. (under.slots.own slot inside, λ own_arity own_at. under.slots.within slot own_arity inside own_at)) in
          complete cells.0 (choice number) ((under.parts cells.0).1 (choice, of_done, cells.1))
          ((holds (choice number)).1 (of_own.held number get (Contains-head number []) at))
          (λ link inside.
          let equal = of_own.inputs number get link (Contains-head number []) at inside in (
            equal.0,
            equal.1,
            source_in_reads choice (needed_slots arities gets equations head done) arities done places cells.0 (side_of (take number arities) link.source)
                under.slots long cells.1 (ready link inside)
                (λ slot is_slot. (needed_are arities gets equations head done).inputs number get link slot at inside fresh is_slot)
                ∙ equal.2,
          ))

-- ---- what stands for a get

module _ (arities : List ℕ) (gets : List Get) (number : ℕ) (get own : Get) (shape own_shape : Shape) (at : slice_get gets number ≡ Some get)
    (fragment : own.fragment ≡ number) (same : own_shape ≡ shape) where
  pub like_instead : own.inputs ≡ get.inputs → own.filters ≡ get.filters → IsAllowed shape (map (λ (link : Link). link.column) get.inputs)
      → IsInstead arities gets number own own_shape
  like_instead inputs filters allowed = record {
    fragment = fragment;
    links = λ other other_at. inr (subst (λ (it : Get). IsLike it own) (same_Some get other (sym at ∙ other_at))
        (record { inputs = inputs; filters = filters }));
    allowed = subst (λ it. IsAllowed it (map (λ (link : Link). link.column) own.inputs)) (sym same)
        (subst (λ them. IsAllowed shape (map (λ (link : Link). link.column) them)) (sym inputs) allowed);
  }

  pub freed_instead : own.inputs ≡ [] → own.filters ≡ get.inputs ++ get.filters → shape.ways ≡ [] ∷ []
      → ((link : Link) → Contains get.inputs link → side_of (take number arities) link.source ≢ Nothing)
      → IsInstead arities gets number own own_shape
  freed_instead inputs filters ways sides = record {
    fragment = fragment;
    links = λ other other_at. inl (subst (λ (it : Get). IsFreed arities number it own) (same_Some get other (sym at ∙ other_at))
        (record { inputs = inputs; filters = filters; sides = sides }));
    allowed = subst (λ it. IsAllowed it (map (λ (link : Link). link.column) own.inputs)) (sym same)
        (subst (λ them. IsAllowed shape (map (λ (link : Link). link.column) them)) (sym inputs) none_allowed);
  }
    where
      none_allowed : IsAllowed shape []
      none_allowed = record {
        there = λ column inside. absurd (Contains-nil column inside);
        once = λ one other default before inside. absurd (omega (arith, inside));
        way = ([], subst (λ them. Contains them []) (sym ways) (Contains-head [] []), (λ column. ((λ it. it), (λ it. it))));
      }

-- ---- what stands for the gets

module _ (Holds : Fact ℕ → Type 0) (arities : List ℕ) (gets : List Get) (equations : List Equation) where
  pub instead_none : (owns : List Get) (shapes : List Shape) (rows : List (List (List ℕ))) → owns ≡ [] → shapes ≡ [] → rows ≡ []
      → AreInstead Holds arities gets equations owns shapes rows
  instead_none owns shapes rows no_owns no_shapes no_rows = record {
    shapes_long = ap length no_shapes ∙ sym (ap length no_owns);
    rows_long = ap length no_rows ∙ sym (ap length no_owns);
    instead = λ number own shape at shape_at. absurd (none-some own (ap (λ them. slice_get them number) (sym no_owns) ∙ at));
    enough = λ number own at. absurd (none-some own (ap (λ them. slice_get them number) (sym no_rows) ∙ at));
  }

  pub instead_more : (owns new_owns : List Get) (shapes new_shapes : List Shape) (rows new_rows : List (List (List ℕ))) (number : ℕ) (own : Get)
      (shape : Shape) (own_rows : List (List ℕ)) → length owns ≡ number → AreInstead Holds arities gets equations owns shapes rows
      → IsInstead arities gets number own shape → AreEnough Holds arities gets equations number own_rows
      → new_owns ≡ owns ++ own ∷ [] → new_shapes ≡ shapes ++ shape ∷ [] → new_rows ≡ rows ++ own_rows ∷ []
      → AreInstead Holds arities gets equations new_owns new_shapes new_rows
  instead_more owns new_owns shapes new_shapes rows new_rows number own shape own_rows many before instead enough is is_shapes is_rows = record {
    shapes_long = ap length is_shapes ∙ length-append shapes (shape ∷ []) ∙ ap (λ n. n + 1) before.shapes_long ∙ sym (length-append owns (own ∷ []))
        ∙ sym (ap length is);
    rows_long = ap length is_rows ∙ length-append rows (own_rows ∷ []) ∙ ap (λ n. n + 1) before.rows_long ∙ sym (length-append owns (own ∷ []))
        ∙ sym (ap length is);
    instead = λ n it its_shape at shape_at.
        by n it its_shape (at_pushed owns own n it (ap (λ them. slice_get them n) (sym is) ∙ at))
        (at_pushed shapes shape n its_shape (ap (λ them. slice_get them n) (sym is_shapes) ∙ shape_at));
    enough = λ n it at. elim (at_pushed rows own_rows n it (ap (λ them. slice_get them n) (sym is_rows) ∙ at)) [
      | inl old ↦ before.enough n it old
      | inr last ↦
          let same : number ≡ n = sym many ∙ sym before.rows_long ∙ sym last.0 in
          subst (λ m. AreEnough Holds arities gets equations m it) same (subst (AreEnough Holds arities gets equations number) last.1 enough)
    ];
  }
    where
      by : (n : ℕ) (it : Get) (its_shape : Shape) → (slice_get owns n ≡ Some it) ⊎ ((n ≡ length owns) × (own ≡ it))
          → (slice_get shapes n ≡ Some its_shape) ⊎ ((n ≡ length shapes) × (shape ≡ its_shape)) → IsInstead arities gets n it its_shape
      by n it its_shape (inl old) (inl old_shape) = before.instead n it its_shape old old_shape
      by n it its_shape (inl old) (inr last) =
          let below = slice_get_within owns n it old in let long = before.shapes_long in let place = last.0 in absurd (omega (arith, below, long, place))
      by n it its_shape (inr last) (inl old) =
          let below = slice_get_within shapes n its_shape old in let long = before.shapes_long in let place = last.0 in
          absurd (omega (arith, below, long, place))
      by n it its_shape (inr last) (inr last_shape) =
          let same : number ≡ n = sym many ∙ sym last.0 in
          subst (λ m. IsInstead arities gets m it its_shape) same
          (subst (λ (one : Get). IsInstead arities gets number one its_shape) last.1 (subst (IsInstead arities gets number own) last_shape.1 instead))

  module _ (owns : List Get) (shapes : List Shape) (rows : List (List (List ℕ))) (all : AreInstead Holds arities gets equations owns shapes rows) where
    shape_there : (number : ℕ) (own : Get) → slice_get owns number ≡ Some own
        → (shape : Shape) × (slice_get shapes number ≡ Some shape) × IsInstead arities gets number own shape
    shape_there number own at =
        let below = slice_get_within owns number own at in let long = all.shapes_long in
        let found = thing_at shapes number (omega (arith, below, long)) in
        (found.0, found.1, all.instead number own found.0 at found.1)

    rows_there : (number : ℕ) (own : Get) → slice_get owns number ≡ Some own
        → (its : List (List ℕ)) × (get_or rows own.fragment [] ≡ its) × AreEnough Holds arities gets equations number its
    rows_there number own at =
        let below = slice_get_within owns number own at in let long = all.rows_long in
        let found = thing_at rows number (omega (arith, below, long)) in
        let its = shape_there number own at in
        (found.0, ap (λ n. get_or rows n []) (its.2).fragment ∙ get_or_from_slice_get rows number found.0 [] found.1, all.enough number found.0 found.1)

    pub instead_runnable : AreRunnable shapes owns
    instead_runnable own inside =
        let at = place-from_Contains owns own inside in let found = shape_there at.0 own at.1 in
        (found.0, ap (slice_get shapes) (found.2).fragment ∙ found.1, (found.2).allowed)

    pub instead_given : length owns ≡ length gets → AreGiven Holds (IsRowOf (λ number. get_or rows number [])) arities gets owns equations
    instead_given many = record {
      many = many;
      links = λ number get own at own_at. ((shape_there number own own_at).2).links get at;
      sound = λ number get own row at own_at inside.
          let found = rows_there number own own_at in (found.2).sound get row at (subst (λ them. Contains them row) found.1 inside);
      complete = λ number get own choice at own_at whole.
          let found = rows_there number own own_at in
          subst (λ them. Contains them (choice number)) (sym found.1) ((found.2).complete get choice at whole);
    }

-- what says the same as the one says the same as the other
pub same_rows : {P Q R : Type 0} → P ↔ Q → R ↔ Q → P ↔ R
same_rows one other = ((λ p. other.1 (one.0 p)), (λ r. one.1 (other.0 r)))
