-- Ways for a body, atom by atom, and those that use something new.
use Rattle.std.proofs.Common.{◌≡◌, ◌⊎◌, inl, inr, ℕ, Bool, Option, IfSome, List, [], ◌∷◌, ◌++◌, length, map, take, drop, get_or, ◌+◌, ◌<◌, Contains, refl, sym}
use Rattle.std.proofs.Common.{ap, ◌∙◌, subst, arith}
use Rattle.std.specs.List.{AllZip}
use Rattle.std.proofs.lemmas.List.{length-append}
use Rattle.std.proofs.lemmas.List.Elements.{Contains-append_left, Contains-append_right}
use Rattle.esto_term.specs.declared.term.Term.{Term}
use Rattle.esto_term.specs.Sets.{Within}
use Rattle.esto_semantics.specs.Facts.{terms_of}
use Rattle.esto_semantics.specs.declared.fact.Fact.{Fact}
use Rattle.esto_term.proofs.ListLemmas.{Contains-nil, Contains-head, Contains-rest}
use Rattle.esto_term.proofs.PlaceLemmas.{take-item}
use Rattle.esto_term.proofs.ZipLemmas.{zip_append}
use Rattle.esto_chase_laws.specs.Worlds.{InWorld}
use Rattle.esto_chase_laws.specs.WorldMatches.{IsLike, taken, Touching, Fits, IsDirectMatch}
use Rattle.esto_chase_laws.specs.Derived.{Claims}
use Rattle.esto_chase_laws.specs.declared.entry.Claim.TheVariants.{Fact as Stated}
use Rattle.esto_chase_laws.specs.declared.entry.Entry.{Entry}
use Rattle.esto_chase_laws.proofs.TakenLemmas.{Fits-join, Fits-split, taken-stays}
use Rattle.esto_chase_laws.proofs.WorldBoundLemmas.{chosen_length}
use Rattle.esto_condchase.specs.News.{AreFoundAnew, IsOlder}
use Rattle.esto_condchase.specs.Ways.{AgreeOn, IsWay, AreFound, AreNext, AreOneAt, Comes, GoesOn, MeetOne}
use Rattle.esto_known.specs.Told.{AreMetAt, TellsOne}
use Rattle.esto_known.specs.declared.way.Way.{Way}
use Rattle.esto_condchase.proofs.NewsLemmas.{old_match}
use Rattle.esto_condchase.proofs.WayLemmas.{last_chosen, AgreeOn-more, AgreeOn-same, AgreeOn-from, row_agrees, live_turn}
use Rattle.esto_semantics.proofs.FactLemmas.{terms_of-push}

-- ---- one atom more

-- what stands at the sides' places is what the sides meet
meet_one : (entries : List Entry) (from sides to : List Term) (at : Option (ℕ × ℕ)) (set : List Bool) → IfSome at (AreMetAt from sides)
    → length from ≡ length to → AreOneAt entries at to set → MeetOne entries sides from to set
meet_one entries from sides to at set met l (left, right, is, own, other, at_own, at_other, touches) =
    let its : AreMetAt from sides (left, right) = subst (λ it. IfSome it (AreMetAt from sides)) is met in
    let left_is = its.3.1 to own l at_own in
    let right_is = its.4.1 to other l at_other in (
      its.0,
      its.1,
      its.2,
      its.3.0,
      its.4.0,
      subst (λ it. Touching (InWorld entries set) it (taken from to its.1)) left_is
          (subst (Touching (InWorld entries set) own) right_is touches),
    )

-- further terms leave what the sides meet
meet_longer : (entries : List Entry) (from sides to more owns : List Term) (set : List Bool) → length from ≡ length to → MeetOne entries sides from to set
    → MeetOne entries sides (from ++ more) (to ++ owns) set
meet_longer entries from sides to more owns set l (left, right, is, in_left, in_right, touches) = (
  left,
  right,
  is,
  Contains-append_left from more left in_left,
  Contains-append_left from more right in_right,
  subst (λ it. Touching (InWorld entries set) it (taken (from ++ more) (to ++ owns) right)) (sym (taken-stays from to more owns l left in_left))
      (subst (Touching (InWorld entries set) (taken from to left)) (sym (taken-stays from to more owns l right in_right)) touches),
)

-- and so do others that agree on the sides
meet_agree : (entries : List Entry) (from sides to others : List Term) (set : List Bool) → AgreeOn sides from to others → MeetOne entries sides from to set
    → MeetOne entries sides from others set
meet_agree entries from sides to others set agree (left, right, is, in_left, in_right, touches) =
    let left_in : Contains sides left = subst (λ it. Contains it left) (sym is) (Contains-head left (right ∷ [])) in
    let right_in : Contains sides right = subst (λ it. Contains it right) (sym is) (Contains-rest left (right ∷ []) right (Contains-head right [])) in (
      left,
      right,
      is,
      in_left,
      in_right,
      subst (λ it. Touching (InWorld entries set) it (taken from others right)) (agree left left_in)
          (subst (Touching (InWorld entries set) (taken from to left)) (agree right right_in) touches),
    )

pub next_is : (entries : List Entry) (since : ℕ) (from : List Term) (atom : Fact Term) (live sides : List Term) (at : Option (ℕ × ℕ)) (places : List ℕ)
    (given ways : List Way) → IfSome at (AreMetAt (from ++ atom.terms) sides)
    → ((term : Term) → Contains live term → TellsOne (from ++ atom.terms) places term)
    → ((way : Way) → Contains ways way → (before : Way) × Contains given before × Comes entries from atom before way)
    → ((way : Way) → Contains given way → length from ≡ length way.to)
    → ((before : Way) → Contains given before → GoesOn entries since from atom at places before ways)
    → AreNext entries since from atom live sides given ways
next_is entries since from atom live sides at places given ways met tells come lengths goes = record {
  come = come;
  go_on = λ set before fact inside same within holds like passes. elim (goes before inside set fact within holds like passes) [
    | inl (inr one) ↦ inr (inl (meet_one entries (from ++ atom.terms) sides (before.to ++ fact.terms) at set met
        (rw (length-append, length-append) (omega (arith, same, like.1))) one))
    | inl (inl (way, in_ways, agree, its_within)) ↦
        let its = come way in_ways in
        let long = lengths its.0 its.1 in
        let its_like = its.2.3 in
        inl (
          way,
          in_ways,
          (λ term in_live. tells term in_live way.to (before.to ++ fact.terms)
              (rw (its.2.4.0, length-append, length-append) (omega (arith, long, its_like.1)))
              (rw (length-append, length-append) (omega (arith, same, like.1))) agree),
          its_within,
        )
    | inr old ↦ inr (inr old)
  ];
}

module _ (entries : List Entry) (since : ℕ) (body : List (Fact Term)) (atom : Fact Term) (live sides : List Term)
    (among : (term : Term) → Contains sides term → Contains live term) (given ways : List Way)
    (so_far : AreFound entries body (atom.terms ++ live) sides given) where
  way_length : (way : Way) → Contains given way → length (terms_of body) ≡ length way.to
  way_length way inside = let it = so_far.sound way inside in it.is_way.lengths ∙ ap length (sym it.is_way.to_is)

  pub found_next : AreNext entries since (terms_of body) atom live sides given ways → AreFoundAnew entries since (body ++ atom ∷ []) live sides ways
  found_next next = record {
    sound = λ way inside.
        let come = next.come way inside in
        let before = so_far.sound come.0 come.1 in
        let fact = come.2.1 in
        let is_way : IsWay entries (come.0.facts ++ come.2.0 ∷ []) (terms_of body ++ atom.terms) (terms_of before.chosen ++ fact.terms) way =
        come.2.4.1 come.0.facts (terms_of before.chosen) before.is_way in
        record {
          chosen = before.chosen ++ fact ∷ [];
          stated = subst (λ it. AllZip (λ (place : ℕ) (it : Fact Term). Claims entries place (Stated it)) it (before.chosen ++ fact ∷ []))
              (sym is_way.facts_are)
              (zip_append (λ (place : ℕ) (it : Fact Term). Claims entries place (Stated it)) come.0.facts (come.2.0 ∷ []) before.chosen (fact ∷ [])
              before.stated (come.2.2, tt));
          alike = zip_append IsLike body (atom ∷ []) before.chosen (fact ∷ []) before.alike (come.2.3, tt);
          is_way = subst (λ it. IsWay entries it (terms_of (body ++ atom ∷ [])) (terms_of (before.chosen ++ fact ∷ [])) way) (sym is_way.facts_are)
              (rw (terms_of-push body atom, terms_of-push before.chosen fact) is_way);
        };
    complete = λ atoms chosen matches.
        let split = last_chosen _ body atom chosen matches.0 in
        let fact = split.1 in
        let chosen_is : terms_of chosen ≡ terms_of split.0 ++ fact.terms = ap terms_of split.2 ∙ terms_of-push split.0 fact in
        let lengths = chosen_length (InWorld entries atoms) body split.0 split.3 in
        let fits : Fits (Touching (InWorld entries atoms)) (terms_of body ++ atom.terms) (terms_of split.0 ++ fact.terms) =
        subst (λ it. Fits (Touching (InWorld entries atoms)) (terms_of body ++ atom.terms) it) chosen_is
        (subst (λ it. Fits (Touching (InWorld entries atoms)) it (terms_of chosen)) (terms_of-push body atom) matches.1) in
        let parts = Fits-split (Touching (InWorld entries atoms)) (terms_of body) (terms_of split.0) lengths atom.terms fact.terms (sym split.4.2) fits in
        let Said : List Term → Type 0 = λ to. MeetOne entries sides (terms_of body ++ atom.terms) to atoms in
        let said : Said (terms_of split.0 ++ fact.terms) → MeetOne entries sides (terms_of (body ++ atom ∷ [])) (terms_of chosen) atoms = λ one.
        subst (λ it. MeetOne entries sides it (terms_of chosen) atoms) (sym (terms_of-push body atom)) (subst Said (sym chosen_is) one) in
        elim (so_far.complete atoms split.0 (split.3, parts.0)) [
          | inr one ↦ inr (inr (said (meet_longer entries (terms_of body) sides (terms_of split.0) atom.terms fact.terms atoms lengths one)))
          | inl before ↦
              let own_lengths = way_length before.0 before.1 in
              let agree = AgreeOn-more (atom.terms ++ live) (terms_of body) before.0.to (terms_of split.0) atom.terms fact.terms own_lengths lengths
              before.2 in
              let row = row_agrees (Touching (InWorld entries atoms)) atom.terms (terms_of body ++ atom.terms) (before.0.to ++ fact.terms)
              (terms_of split.0 ++ fact.terms) fact.terms (λ term inside. agree term (Contains-append_left atom.terms live term inside)) parts.1 in
              elim (next.go_on atoms before.0 fact before.1 own_lengths before.3 split.4.0 (split.4.1, split.4.2) row) [
                | inl (way, inside, same, within) ↦ inr (inl (
                  way,
                  inside,
                  AgreeOn-same live (terms_of body ++ atom.terms) (terms_of (body ++ atom ∷ [])) way.to (terms_of split.0 ++ fact.terms) (terms_of chosen)
                      (terms_of-push body atom) chosen_is
                      (λ term its. same term its ∙ agree term (Contains-append_right atom.terms live term its)),
                  within,
                ))
                | inr (inl one) ↦ inr (inr (said (meet_agree entries (terms_of body ++ atom.terms) sides (before.0.to ++ fact.terms)
                    (terms_of split.0 ++ fact.terms) atoms (λ term its. agree term (Contains-append_right atom.terms live term (among term its))) one)))
                | inr (inr (old, stated, passes)) ↦
                    let its = so_far.sound before.0 before.1 in
                    let older = old_match entries since body before.0 its old atoms before.3 in
                    let its_is : terms_of (its.chosen ++ fact ∷ []) ≡ terms_of its.chosen ++ fact.terms = terms_of-push its.chosen fact in
                    let to_is = its.is_way.to_is in
                    inl (
                      its.chosen ++ fact ∷ [],
                      AgreeOn-same live (terms_of body ++ atom.terms) (terms_of (body ++ atom ∷ [])) (terms_of (its.chosen ++ fact ∷ []))
                          (terms_of split.0 ++ fact.terms) (terms_of chosen) (terms_of-push body atom) chosen_is
                          (AgreeOn-from live (terms_of body ++ atom.terms) (before.0.to ++ fact.terms) (terms_of (its.chosen ++ fact ∷ []))
                          (terms_of split.0 ++ fact.terms) (ap (λ it. it ++ fact.terms) to_is ∙ sym its_is)
                          (λ term inside. agree term (Contains-append_right atom.terms live term inside))),
                      (
                        zip_append _ body (atom ∷ []) its.chosen (fact ∷ []) older.0 ((stated, split.4.1, split.4.2), tt),
                        rw (terms_of-push body atom, its_is) (Fits-join (Touching (InWorld (take since entries) atoms)) (terms_of body) (terms_of its.chosen)
                            its.is_way.lengths atom.terms fact.terms older.1
                            (subst (λ it. AllZip (Touching (InWorld (take since entries) atoms)) fact.terms
                            (map (taken (terms_of body ++ atom.terms) (it ++ fact.terms)) atom.terms)) to_is passes)),
                      ),
                    )
              ]
        ];
  }

-- where no entry is among the first few, no match is
pub found_all : (entries : List Entry) (body : List (Fact Term)) (atom : Fact Term) (live sides : List Term) (ways : List Way)
    → AreFoundAnew entries 0 (body ++ atom ∷ []) live sides ways → AreFound entries (body ++ atom ∷ []) live sides ways
found_all entries body atom live sides ways anew = record {
  sound = anew.sound;
  complete = λ atoms chosen matches. elim (anew.complete atoms chosen matches) [
    | inl (older, agree, its) ↦
        let split = last_chosen _ body atom older its.0 in
        let stated = split.4.0 in
        absurd (Contains-nil stated.0 stated.1)
    | inr way ↦ way
  ];
}

pub body_turn : (entries : List Entry) (body : List (Fact Term)) (asked sides live : List Term) (place : ℕ) (atom : Fact Term) (given ways : List Way)
    (from : List Term) → ((term : Term) → Contains sides term → Contains asked term) → place < length body → atom ≡ get_or body place atom
    → live ≡ terms_of (drop (place + 1) body) ++ asked → from ≡ terms_of (take place body)
    → AreFound entries (take place body) (terms_of (drop place body) ++ asked) sides given → AreNext entries 0 from atom live sides given ways
    → AreFound entries (take (place + 1) body) (terms_of (drop (place + 1) body) ++ asked) sides ways
body_turn entries body asked sides live place atom given ways from among within is live_is from_is found next =
    let after = terms_of (drop (place + 1) body) in
    let rest = after ++ asked in
    rw (take-item body place atom within is) (found_all entries (take place body) atom rest sides ways
    (found_next entries 0 (take place body) atom rest sides (λ term inside. Contains-append_right after asked term (among term inside)) given ways
    (subst (λ it. AreFound entries (take place body) it sides given) (live_turn body asked place atom within is) found)
    (subst (λ it. AreNext entries 0 it atom rest sides given ways) from_is (subst (λ it. AreNext entries 0 from atom it sides given ways) live_is next))))

-- ---- a body and its last atom

pub anew_last : (entries : List Entry) (since : ℕ) (body : List (Fact Term)) (last : Fact Term) (asked sides live from : List Term)
    (given items ways : List Way) → ((term : Term) → Contains sides term → Contains asked term) → from ≡ terms_of body → live ≡ last.terms ++ asked
    → items ≡ given → AreFound entries body live sides given
    → AreNext entries since from last asked sides items ways → AreFoundAnew entries since (body ++ last ∷ []) asked sides ways
anew_last entries since body last asked sides live from given items ways among from_is live_is same found next =
    found_next entries since body last asked sides among given ways (subst (λ it. AreFound entries body it sides given) live_is found)
    (subst (λ it. AreNext entries since it last asked sides given ways) from_is
    (subst (λ it. AreNext entries since from last asked sides it ways) same next))

pub anew_none : (entries : List Entry) (since : ℕ) (body : List (Fact Term)) (live sides : List Term) (ways : List Way) → body ≡ [] → ways ≡ []
    → AreFoundAnew entries since body live sides ways
anew_none entries since body live sides ways no_body none = rw (none, no_body) record {
  sound = λ way inside. absurd (Contains-nil way inside);
  complete = λ atoms chosen matches. empty atoms chosen matches;
}
  where
    empty : (atoms : List Bool) (chosen : List (Fact Term)) → IsDirectMatch (InWorld entries atoms) [] chosen
        → IsOlder entries since [] live atoms (terms_of chosen)
        ⊎ (((way : Way) × Contains [] way × AgreeOn live (terms_of []) way.to (terms_of chosen) × Within way.product atoms)
        ⊎ MeetOne entries sides (terms_of []) (terms_of chosen) atoms)
    empty atoms [] matches = inl ([], (λ term inside. refl), (tt, tt))
    empty atoms (fact ∷ chosen) matches = absurd matches.0

-- the same over what is read of the terms and the places
pub next_level : (entries : List Entry) (since : ℕ) (from its_from : List Term) (atom : Fact Term) (live sides : List Term) (at : Option (ℕ × ℕ))
    (places its_places : List ℕ) (given ways : List Way) → its_from ≡ from → its_places ≡ places → IfSome at (AreMetAt (from ++ atom.terms) sides)
    → ((term : Term) → Contains live term → TellsOne (from ++ atom.terms) places term)
    → ((way : Way) → Contains ways way → (before : Way) × Contains given before × Comes entries its_from atom before way)
    → ((way : Way) → Contains given way → length from ≡ length way.to)
    → ((before : Way) → Contains given before → GoesOn entries since its_from atom at its_places before ways)
    → AreNext entries since from atom live sides given ways
next_level entries since from its_from atom live sides at places its_places given ways from_is places_are met tells come lengths goes =
    next_is entries since from atom live sides at places given ways met tells
    (λ way inside. let it = come way inside in (it.0, it.1, subst (λ them. Comes entries them atom it.0 way) from_is it.2)) lengths
    (λ before inside. subst (λ them. GoesOn entries since from atom at them before ways) places_are
    (subst (λ them. GoesOn entries since them atom at its_places before ways) from_is (goes before inside)))

pub next_items : (entries : List Entry) (since : ℕ) (from : List Term) (atom : Fact Term) (live its_live sides : List Term) (given items ways : List Way)
    → its_live ≡ live → items ≡ given → AreNext entries since from atom its_live sides items ways → AreNext entries since from atom live sides given ways
next_items entries since from atom live its_live sides given items ways same_live same next =
    subst (λ it. AreNext entries since from atom it sides given ways) same_live
    (subst (λ it. AreNext entries since from atom its_live sides it ways) same next)

pub tells_terms : (terms its live : List Term) (places : List ℕ) → its ≡ terms → ((term : Term) → Contains live term → TellsOne its places term)
    → (term : Term) → Contains live term → TellsOne terms places term
tells_terms terms its live places same tells term inside = subst (λ it. TellsOne it places term) same (tells term inside)

pub met_terms : (terms its sides : List Term) (at : Option (ℕ × ℕ)) → its ≡ terms → IfSome at (AreMetAt its sides) → IfSome at (AreMetAt terms sides)
met_terms terms its sides at same met = subst (λ it. IfSome at (AreMetAt it sides)) same met

pub anew_body : (entries : List Entry) (since : ℕ) (body its : List (Fact Term)) (live sides : List Term) (ways : List Way) → its ≡ body
    → AreFoundAnew entries since its live sides ways → AreFoundAnew entries since body live sides ways
anew_body entries since body its live sides ways same found = subst (λ it. AreFoundAnew entries since it live sides ways) same found
