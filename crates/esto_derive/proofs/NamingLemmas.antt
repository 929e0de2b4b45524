-- What lines name, by the reasons of their entries; and that each line is named by a later one.
use Rattle.std.proofs.Common.{◌≡◌, ◌⊎◌, inl, inr, ℕ, ◌+◌, ◌<◌, ◌≤◌, zero, suc, Bool, List, [], ◌∷◌, ◌++◌, length, map, slice_get, Some, Contains, subst, refl}
use Rattle.std.proofs.Common.{sym, ap, ◌∙◌, arith}
use Rattle.std.specs.List.{AllZip}
use Rattle.std.proofs.lemmas.List.Elements.{Contains-append_cases, Contains-append_left, Contains-append_right}
use Rattle.std.proofs.lemmas.Option.{same_Some, slice_get_within}
use Rattle.esto_term.proofs.ListLemmas.{Contains-at, Contains-flat, Contains-flat_from, Contains-head, Contains-map, Contains-map_from, Contains-nil}
use Rattle.esto_term.proofs.ListLemmas.{Contains-rest, at_end, at_left, place-from_Contains, thing_at}
use Rattle.esto_term.proofs.ZipLemmas.{zip_at, zip_left}
use Rattle.esto_term.specs.declared.term.Term.{Term}
use Rattle.esto_term.specs.Sets.{Has}
use Rattle.esto_semantics.specs.declared.fact.Fact.{Fact}
use Rattle.esto_chase_laws.specs.Derived.{Claims, IsEquality}
use Rattle.esto_chase_laws.specs.declared.entry.Claim.{Claim}
use Rattle.esto_chase_laws.specs.declared.entry.Claim.TheVariants.{Fact as Stated, Same}
use Rattle.esto_chase_laws.specs.declared.entry.Entry.{Entry}
use Rattle.esto_chase_laws.specs.declared.entry.Reason.{Reason}
use Rattle.esto_chase_laws.specs.declared.entry.Reason.TheVariants as reason
use Rattle.esto_cert.specs.Certificates.{Case, numbered}
use Rattle.esto_cert.specs.declared.line.Line.{Line}
use Rattle.esto_cert.specs.declared.line.Line.TheVariants.{Match}
use Rattle.esto_derive.specs.Marking.{named_by, AreUsed, IsNamedByUsed}
use Rattle.esto_derive.specs.Reasons.{HasLine, IsBehind, itself, through, AreNamedBy, IsLineOf, IsNamedLater, named_in, SaysReason}
use Rattle.esto_derive.specs.Writing.{AddsNew, AreOwn, IsBasis, IsState, StandFor, lines_at, own_lines}
use Rattle.esto_derive.specs.declared.writing.Written.{Written}
use Rattle.esto_cert.proofs.NumberLemmas.{numbered_at, numbered_next}
use Rattle.esto_derive.proofs.ReasonLemmas.{as_many_lines, behind_below, behind_own, named_below, stands_before, stands_once}
use Rattle.esto_derive.proofs.StepLemmas.{from_links}

-- ---- what a line names

module _ (claims : List Claim) (written : List ℕ) (lines : List (List ℕ)) (entries : List Entry) (places : List ℕ)
    (fact_lines : (place : ℕ) (entry : Entry) → slice_get entries place ≡ Some entry → (fact : Fact Term) → entry.claim ≡ Stated fact → HasLine entry.reason)
    (both : (place : ℕ) → Contains places place → (claim : Claim) → Claims entries place claim
    → (own : List ℕ) × (slice_get lines place ≡ Some own) × StandFor claims own claim × AreOwn entries written place own) where
  -- the line of a fact
  fact_line : (place : ℕ) → Contains places place → (fact : Fact Term) → Claims entries place (Stated fact)
      → (line : ℕ) × (slice_get lines place ≡ Some (line ∷ [])) × (slice_get written line ≡ Some place)
  fact_line place inside fact claims_it =
      let (own, at, (line, own_is, claimed), owned) = both place inside (Stated fact) claims_it in
      let (other, behind, line_at) = owned.only line (subst (λ (it : List ℕ). Contains it line) (sym own_is) (Contains-head line [])) in
      let (entry, entry_at, is) = claims_it in
      let same : other ≡ place = behind_own entries place other entry entry_at (fact_lines place entry entry_at fact is) behind in
      (line, at ∙ ap Some own_is, line_at ∙ ap Some same)

  facts_by_lines : (facts : List ℕ) (chosen : List (Fact Term)) → ((place : ℕ) → Contains facts place → Contains places place)
      → AllZip (λ (place : ℕ) (fact : Fact Term). Claims entries place (Stated fact)) facts chosen
      → AllZip (λ (place : ℕ) (number : ℕ). numbered written number ≡ Some place) facts (map (λ line. line + 1) (lines_at lines facts))
  facts_by_lines [] [] among stated = tt
  facts_by_lines [] (fact ∷ chosen) among stated = absurd stated
  facts_by_lines (place ∷ facts) [] among stated = absurd stated
  facts_by_lines (place ∷ facts) (fact ∷ chosen) among stated =
      let (line, at, line_at) = fact_line place (among place (Contains-head place facts)) fact stated.0 in
      subst (λ (it : List ℕ). AllZip (λ (place : ℕ) (number : ℕ). numbered written number ≡ Some place) (place ∷ facts) (map (λ line. line + 1)
      (it ++ lines_at lines facts))) (sym (ap own_lines at))
      (numbered_next written line ∙ line_at, facts_by_lines facts chosen (λ other inside. among other (Contains-rest place facts other inside)) stated.1)

  module _ (facts links : List ℕ) (facts_among : (place : ℕ) → Contains facts place → Contains places place)
      (links_among : (place : ℕ) → Contains links place → Contains places place) (chosen : List (Fact Term))
      (stated : AllZip (λ (place : ℕ) (fact : Fact Term). Claims entries place (Stated fact)) facts chosen)
      (equalities : (place : ℕ) → Contains links place → IsEquality entries place) (linked : List ℕ) (adds : AddsNew [] (lines_at lines links) linked) where
    link_lines : (place : ℕ) → Contains links place → (own : List ℕ) × (slice_get lines place ≡ Some own) × AreOwn entries written place own
    link_lines place inside =
        let (left, right, claims_it) = equalities place inside in
        let (own, at, stands, owned) = both place (links_among place inside) (Same left right) claims_it in (own, at, owned)

    pub are_named : AreNamedBy entries written (facts ++ links) (map (λ line. line + 1) (lines_at lines facts)) (map (λ line. line + 1) linked)
    are_named = record {
      stated = facts;
      equal = links;
      in_order = refl;
      facts_are = facts_by_lines facts chosen facts_among stated;
      links_all = λ place other inside behind.
          let (own, at, owned) = link_lines place inside in
          let (line, own_inside, line_at) = owned.all other behind in (
            line + 1,
            Contains-map (λ line. line + 1) linked line ((adds line).1 (inr (Contains-flat (λ place. own_lines (slice_get lines place)) links place line inside
                (subst (λ (it : List ℕ). Contains it line) (sym (ap own_lines at)) own_inside)))),
            numbered_next written line ∙ line_at,
          );
      links_only = λ number inside.
          let (line, linked_inside, is) = Contains-map_from (λ line. line + 1) linked number inside in
          let (place, place_inside, own_inside) = Contains-flat_from (λ place. own_lines (slice_get lines place)) links line
          (from_links (lines_at lines links) linked adds line linked_inside) in
          let (own, at, owned) = link_lines place place_inside in
          let (other, behind, line_at) = owned.only line (subst (λ (it : List ℕ). Contains it line) (ap own_lines at) own_inside) in
          (place, other, place_inside, behind, ap (numbered written) (sym is) ∙ numbered_next written line ∙ line_at);
    }

-- ---- a later line names each

-- a reason that a line says is no chain of equalities
line_said : (entries : List Entry) (written : List ℕ) (its : Reason) (line : Line) → SaysReason entries written its line → HasLine its
line_said entries written (reason.Expanded atom place) line says = tt
line_said entries written (reason.Step number places) line says = tt
line_said entries written (reason.Equal places) line says = absurd says

-- what a step's line says
step_said : (entries : List Entry) (written : List ℕ) (its : Reason) (line : Line) (number : ℕ) (places : List ℕ) → its ≡ reason.Step number places
    → SaysReason entries written its line → SaysReason entries written (reason.Step number places) line
step_said entries written its line number places is says = subst (λ (it : Reason). SaysReason entries written it line) is says

module _ (case : Case) (entries : List Entry) (used : List Bool) (basis : IsBasis case entries used) (lines : List (List ℕ)) (old : Written)
    (state : IsState case entries used lines old) (whole : length lines ≡ length entries) where
  -- the line of an entry that is written
  line_at : (at : ℕ) (place : ℕ) → slice_get state.places at ≡ Some place
      → (line : Line) × (slice_get state.lines at ≡ Some line) × IsLineOf entries case.set state.places place line
  line_at at place is = zip_at (IsLineOf entries case.set state.places) state.places state.lines state.are_of.says at place is

  -- a fact's place that is numbered stands for itself
  names_fact : (place other number : ℕ) → numbered state.places number ≡ Some place → IsBehind entries place other → other ≡ place
  names_fact place other number is behind =
      let (at, number_is, place_at) = numbered_at state.places number place is in
      let (line, its_line, (entry, entry_at, within, says)) = line_at at place place_at in
      behind_own entries place other entry entry_at (line_said entries state.places entry.reason line says) behind

  -- a line names all that stands for what its reason names
  names_all : (places facts links : List ℕ) → AreNamedBy entries state.places places facts links → (place other : ℕ) → Contains places place
      → IsBehind entries place other → (at : ℕ) → slice_get state.places at ≡ Some other → Contains (facts ++ links) (at + 1)
  names_all places facts links are place other inside behind at other_at =
      let (number, there, is) = by (Contains-append_cases are.stated are.equal place (subst (λ (it : List ℕ). Contains it place) are.in_order inside)) in
      let (its_at, number_is, its_other) = numbered_at state.places number other is in
      subst (Contains (facts ++ links))
      (number_is ∙ ap (λ (it : ℕ). it + 1) (stands_once state.places state.are_of.rising its_at at other its_other other_at)) there
    where
      by : Contains are.stated place ⊎ Contains are.equal place → (number : ℕ) × Contains (facts ++ links) number × (numbered state.places number ≡ Some other)
      by (inl fact) =
          let (number, there, is) = zip_left (λ (place : ℕ) (number : ℕ). numbered state.places number ≡ Some place) are.stated facts are.facts_are place fact
          in
          (number, Contains-append_left facts links number there, is ∙ ap Some (sym (names_fact place other number is behind)))
      by (inr link) = let (number, there, is) = are.links_all place other link behind in (number, Contains-append_right facts links number there, is)

  -- so does a step's line
  step_names : (number : ℕ) (places : List ℕ) (line : Line) → SaysReason entries state.places (reason.Step number places) line → (place other : ℕ)
      → Contains places place → IsBehind entries place other → (at : ℕ) → slice_get state.places at ≡ Some other → Contains (named_in line) (at + 1)
  step_names number places line (head, facts, links, is, are) place other inside behind at other_at =
      subst (λ (it : Line). Contains (named_in it) (at + 1)) (sym is) (names_all places facts links are place other inside behind at other_at)

  module _ (facts links : List ℕ) (are_used : AreUsed entries facts links used) (numbers others : List ℕ)
      (named : AreNamedBy entries state.places (facts ++ links) numbers others) where
    abbrev IsNamed : ℕ → Type 0
    IsNamed at = IsNamedLater (state.lines ++ Match numbers others ∷ []) at

    by_last : (place other : ℕ) → Contains (facts ++ links) place → IsBehind entries place other → (at : ℕ) → slice_get state.places at ≡ Some other → IsNamed
        at
    by_last place other inside behind at other_at = (
      length state.lines,
      Match numbers others,
      omega (
        arith,
        slice_get_within state.places at other other_at,
        as_many_lines case entries state.places state.lines state.claims state.are_of,
      ),
      at_end state.lines (Match numbers others),
      names_all (facts ++ links) numbers others named place other inside behind at other_at,
    )

    -- what stands for an entry that a step names
    by_step : (up place other : ℕ) (entry : Entry) → slice_get entries up ≡ Some entry → Has used up → (number : ℕ) (places : List ℕ)
        → entry.reason ≡ reason.Step number places → Contains places place → IsBehind entries place other → (at : ℕ)
        → slice_get state.places at ≡ Some other → IsNamed at
    by_step up place other entry entry_at has number places is inside behind at other_at =
        let written = state.are_written.all up entry (subst (λ (it : ℕ). up < it) (sym whole) (slice_get_within entries up entry entry_at)) entry_at has
        (subst HasLine (sym is) tt) in
        let (later, up_at) = place-from_Contains state.places up written in
        let (line, its_line, (its, its_at, within, says)) = line_at later up up_at in
        let said = step_said entries state.places its.reason line number places
        (ap (λ (it : Entry). it.reason) (same_Some its entry (sym its_at ∙ entry_at)) ∙ is) says in (
          later,
          line,
          stands_before state.places state.are_of.rising at later other up other_at up_at
              (omega (
                arith,
                behind_below case.expanded case.rules entries basis.derived place other behind,
                named_below case.expanded case.rules entries basis.derived up entry entry_at place
                    (subst (λ (it : Reason). Contains (named_by it) place) (sym is) inside),
              )),
          at_left state.lines (Match numbers others ∷ []) later line its_line,
          step_names number places line said place other inside behind at other_at,
        )

    -- what stands for a used entry, where what stands for those that equalities of it make one is named
    by_used : (place other : ℕ) → IsBehind entries place other → (at : ℕ) → slice_get state.places at ≡ Some other
        → (Contains facts place ⊎ Contains links place) ⊎ IsNamedByUsed entries used place
        → ((up : ℕ) (entry : Entry) (places : List ℕ) → slice_get entries up ≡ Some entry → Has used up → entry.reason ≡ reason.Equal places
        → Contains places place → place < up → IsNamed at) → IsNamed at
    by_used place other behind at other_at (inl (inl fact)) chain = by_last place other (Contains-append_left facts links place fact) behind at other_at
    by_used place other behind at other_at (inl (inr link)) chain = by_last place other (Contains-append_right facts links place link) behind at other_at
    by_used place other behind at other_at (inr (up, entry, entry_at, has, inside)) chain = by entry.reason refl inside
      where
        by : (its : Reason) → entry.reason ≡ its → Contains (named_by its) place → IsNamed at
        by (reason.Expanded atom at_place) is named_inside = absurd (Contains-nil place named_inside)
        by (reason.Step number places) is named_inside = by_step up place other entry entry_at has number places is named_inside behind at other_at
        by (reason.Equal places) is named_inside =
            chain up entry places entry_at has is named_inside (named_below case.expanded case.rules entries basis.derived up entry entry_at place inside)

    -- what stands for a used entry, by how many entries follow it at most
    later_names : (gap place other : ℕ) → length entries ≤ place + gap → Has used place → IsBehind entries place other → (at : ℕ)
        → slice_get state.places at ≡ Some other → IsNamed at
    later_names zero place other few has behind at other_at =
        by_used place other behind at other_at (are_used.only place has)
        (λ up entry places entry_at up_has is inside below. absurd (omega (arith, few, below, slice_get_within entries up entry entry_at)))
    later_names (suc gap) place other few has behind at other_at =
        by_used place other behind at other_at (are_used.only place has)
        (λ up entry places entry_at up_has is inside below. later_names gap up other (omega (arith, few, below)) up_has (through entry_at is inside behind)
        at other_at)

    pub all_named : (at : ℕ) → at < length state.lines → IsNamed at
    all_named at within =
        let (place, place_at) = thing_at state.places at (subst (λ (it : ℕ). at < it)
        (sym (as_many_lines case entries state.places state.lines state.claims state.are_of)) within) in
        let (line, its_line, (entry, entry_at, in_set, says)) = line_at at place place_at in
        later_names (length entries) place place (omega arith) (state.are_written.only place (Contains-at state.places at place place_at)).1
        (itself entry_at (line_said entries state.places entry.reason line says)) at place_at
