-- Certificates while they are written.
use Rattle.std.proofs.Common.{◌≡◌, inl, inr, ◌==◌, ℕ, ◌+◌, ◌<◌, ◌≤◌, Bool, List, [], ◌∷◌, ◌++◌, length, map, slice_get, Some, None, Contains, codes, subst}
use Rattle.std.proofs.Common.{refl, sym, ap, ◌∙◌, arith}
use Rattle.std.specs.List.{slice_split, flat_map}
use Rattle.std.proofs.lemmas.List.{append_assoc, append-nil, length-append}
use Rattle.std.proofs.lemmas.List.Concat.{flat_map-append}
use Rattle.std.proofs.lemmas.List.Elements.{Contains-append_cases, Contains-append_left, Contains-append_right}
use Rattle.std.proofs.lemmas.List.Splits.{slice_split_at}
use Rattle.std.proofs.lemmas.Option.{same_Some}
use Rattle.esto_term.proofs.ListLemmas.{Contains-nil, Contains-cases, Contains-head, Contains-rest, at_left, at_end, at_pushed, map_agree, map_then}
use Rattle.esto_term.specs.Sets.{Has, Within}
use Rattle.esto_chase_laws.proofs.LinkLemmas.{Linked-more, one_link}
use Rattle.esto_chase_laws.specs.declared.entry.Claim.{Claim}
use Rattle.esto_chase_laws.specs.declared.entry.Claim.TheVariants.{Fact as Stated, Same}
use Rattle.esto_chase_laws.specs.declared.entry.Entry.{Entry}
use Rattle.esto_constraint.specs.Constraints.{rules_of}
use Rattle.esto_constraint.specs.declared.rule.Constraint.{Constraint}
use Rattle.esto_cert.specs.Certificates.{Case, MayClaim, MayEnd}
use Rattle.esto_cert.specs.Lines.{line_of}
use Rattle.esto_cert.specs.Showing.{AreLinesOf}
use Rattle.esto_cert.specs.declared.line.Line.{Line}
use Rattle.esto_cert.specs.declared.line.Line.TheVariants.{Match}
use Rattle.esto_derive.specs.Printing.{line_text, IsReadable}
use Rattle.esto_derive.specs.Reasons.{HasLine, itself, IsNamedLater, SaysReason}
use Rattle.esto_derive.specs.Writing.{AreOwn, AtLines, StandFor, IsBasis, IsState, IsWritten, WritesIfUsed}
use Rattle.esto_derive.specs.declared.writing.Written.{Written}
use Rattle.esto_derive.proofs.MarkLemmas.{same_or_later}
use Rattle.esto_derive.proofs.ReasonLemmas.{as_many_claims, behind_own, of_entries_more}
use Rattle.esto_derive.proofs.TextLemmas.{read_back, no_feed}

-- ---- what stands for a claim still does after more lines

at_more : (claims more : List Claim) (lines : List ℕ) (claim : Claim) → AtLines claims lines claim → AtLines (claims ++ more) lines claim
at_more claims more lines claim (line, inside, at) = (line, inside, at_left claims more line claim at)

stand_more : (claims more : List Claim) (lines : List ℕ) (claim : Claim) → StandFor claims lines claim → StandFor (claims ++ more) lines claim
stand_more claims more lines (Stated fact) (line, is, at) = (line, is, at_left claims more line (Stated fact) at)
stand_more claims more lines (Same left right) (are, linked) = (
  (λ line inside. let its = are line inside in (its.0, its.1, at_left claims more line (Same its.0 its.1) its.2)),
  Linked-more (at_more claims more lines) left right linked,
)

-- the line of a claim stands for it
stands_alone : (claims : List Claim) (claim : Claim) → StandFor (claims ++ claim ∷ []) (length claims ∷ []) claim
stands_alone claims (Stated fact) = (length claims, refl, at_end claims (Stated fact))
stands_alone claims (Same left right) = (
  (λ line inside. elim (Contains-cases (length claims) [] line inside) [
    | inl is ↦ (left, right, subst (λ (it : ℕ). slice_get (claims ++ Same left right ∷ []) it ≡ Some (Same left right)) is (at_end claims (Same left right)))
    | inr none ↦ absurd (Contains-nil line none)
  ]),
  one_link left right (length claims, Contains-head (length claims) [], at_end claims (Same left right)),
)

-- so do those of an entry
own_more : (entries : List Entry) (written more : List ℕ) (place : ℕ) (lines : List ℕ) → AreOwn entries written place lines
    → AreOwn entries (written ++ more) place lines
own_more entries written more place lines are = record {
  all = λ other behind. let (line, inside, at) = are.all other behind in (line, inside, at_left written more line other at);
  only = λ line inside. let (other, behind, at) = are.only line inside in (other, behind, at_left written more line other at);
}

-- the line of an entry stands for it
owns_alone : (entries : List Entry) (written : List ℕ) (place : ℕ) (entry : Entry) → slice_get entries place ≡ Some entry → HasLine entry.reason
    → AreOwn entries (written ++ place ∷ []) place (length written ∷ [])
owns_alone entries written place entry at has = record {
  all = λ other behind. (
    length written,
    Contains-head (length written) [],
    subst (λ (it : ℕ). slice_get (written ++ place ∷ []) (length written) ≡ Some it) (sym (behind_own entries place other entry at has behind))
        (at_end written place),
  );
  only = λ line inside. elim (Contains-cases (length written) [] line inside) [
    | inl is ↦ (place, itself at has, subst (λ (it : ℕ). slice_get (written ++ place ∷ []) it ≡ Some place) is (at_end written place))
    | inr none ↦ absurd (Contains-nil line none)
  ];
}

-- ---- the text of lines

split_all : (lines : List Line) → ((line : Line) → Contains lines line → IsReadable line)
    → slice_split (λ byte. byte == 10) (flat_map (λ line. line_text line ++ codes "\n") lines) ≡ map line_text lines ++ [] ∷ []
split_all [] readable = refl
split_all (first ∷ lines) readable =
    ap (slice_split (λ byte. byte == 10)) (append_assoc (line_text first) (codes "\n") (flat_map (λ line. line_text line ++ codes "\n") lines))
    ∙ slice_split_at (λ byte. byte == 10) (line_text first) 10 (flat_map (λ line. line_text line ++ codes "\n") lines)
    (no_feed first (readable first (Contains-head first lines))) refl
    ∙ ap (λ (it : List (List ℕ)). line_text first ∷ it) (split_all lines (λ line inside. readable line (Contains-rest first lines line inside)))

lines_of : (bytes : List ℕ) (lines : List Line) → bytes ≡ flat_map (λ line. line_text line ++ codes "\n") lines
    → ((line : Line) → Contains lines line → IsReadable line) → AreLinesOf bytes lines
lines_of bytes lines is readable = (
  map line_text lines,
  ap (slice_split (λ byte. byte == 10)) is ∙ split_all lines readable,
  map_then line_text line_of lines ∙ map_agree (λ line. line_of (line_text line)) Some lines (λ line inside. read_back line (readable line inside)),
)

text_more : (lines : List Line) (line : Line) (old new : List ℕ) → old ≡ flat_map (λ line. line_text line ++ codes "\n") lines
    → new ≡ old ++ (line_text line ++ codes "\n") → new ≡ flat_map (λ line. line_text line ++ codes "\n") (lines ++ line ∷ [])
text_more lines line old new old_is new_is =
    new_is ∙ ap (λ (it : List ℕ). it ++ (line_text line ++ codes "\n")) old_is
    ∙ sym (flat_map-append (λ line. line_text line ++ codes "\n") lines (line ∷ [])
    ∙ ap (λ (it : List ℕ). flat_map (λ line. line_text line ++ codes "\n") lines ++ it) (append-nil (line_text line ++ codes "\n")))

readable_more : (lines : List Line) (line : Line) → ((its : Line) → Contains lines its → IsReadable its) → IsReadable line → (its : Line)
    → Contains (lines ++ line ∷ []) its → IsReadable its
readable_more lines line readable own its inside = elim (Contains-append_cases lines (line ∷ []) its inside) [
  | inl earlier ↦ readable its earlier
  | inr last ↦ elim (Contains-cases line [] its last) [
    | inl is ↦ subst IsReadable is own
    | inr none ↦ absurd (Contains-nil its none)
  ]
]

-- ---- the start

pub state_start : (case : Case) (entries : List Entry) (used : List Bool) (lines : List (List ℕ)) (written : Written) → lines ≡ [] → written.text ≡ []
    → written.count ≡ 0 → IsState case entries used lines written
state_start case entries used lines written none text count = record {
  places = [];
  lines = [];
  claims = [];
  text_is = text;
  readable = λ line inside. absurd (Contains-nil line inside);
  counted = sym count;
  are_of = record {
    rising = λ line later default before within. absurd (omega (arith, within));
    says = tt;
    claimed = tt;
    are_claims = record { as_many = refl; each = λ place line claim at claimed. absurd (let wrong : None ≡ Some line = at in cc) };
  };
  are_written = record {
    all = λ place entry below at has has_line. absurd (omega (arith, below, ap length none));
    only = λ place inside. absurd (Contains-nil place inside);
  };
  stand = λ place entry own at has is. absurd (let wrong : None ≡ Some own = ap (λ (it : List (List ℕ)). slice_get it place) (sym none) ∙ is in cc);
}

-- ---- one entry more

module _ (case : Case) (entries : List Entry) (used : List Bool) (lines : List (List ℕ)) (old : Written) (state : IsState case entries used lines old)
    (entry : Entry) (at : slice_get entries (length lines) ≡ Some entry) (own : List ℕ) where
  next_place : (place : ℕ) → place < length (lines ++ own ∷ []) → place ≤ length lines
  next_place place below = omega (arith, below, length-append lines (own ∷ []))

  written_below : (place : ℕ) → Contains state.places place → place < length lines
  written_below place inside = (state.are_written.only place inside).0

  -- an entry that has no line of its own, or is not used
  pub state_push : (Has used (length lines) → HasLine entry.reason → ⊥)
      → (Has used (length lines) → StandFor state.claims own entry.claim × AreOwn entries state.places (length lines) own)
      → IsState case entries used (lines ++ own ∷ []) old
  state_push none stands = record {
    places = state.places;
    lines = state.lines;
    claims = state.claims;
    text_is = state.text_is;
    readable = state.readable;
    counted = state.counted;
    are_of = state.are_of;
    are_written = record {
      all = λ place its below its_at has has_line. elim (same_or_later place (length lines) (next_place place below)) [
        | inl same ↦ absurd (none (subst (Has used) (sym same) has)
            (subst (λ (it : Entry). HasLine it.reason) (same_Some its entry (sym its_at ∙ ap (slice_get entries) (sym same) ∙ at)) has_line))
        | inr later ↦ state.are_written.all place its (omega (arith, later)) its_at has has_line
      ];
      only = λ place inside.
          let its = state.are_written.only place inside in (omega (arith, its.0, length-append lines (own ∷ [])), its.1);
    };
    stand = λ place its its_own its_at has is. elim (at_pushed lines own place its_own is) [
      | inl earlier ↦ state.stand place its its_own its_at has earlier
      | inr (place_is, own_is) ↦ pushed place its its_own its_at has place_is (sym own_is)
    ];
  }
    where
      pushed : (place : ℕ) (its : Entry) (its_own : List ℕ) → slice_get entries place ≡ Some its → Has used place → place ≡ length lines → its_own ≡ own
          → StandFor state.claims its_own its.claim × AreOwn entries state.places place its_own
      pushed place its its_own its_at has place_is own_is =
          let same : its ≡ entry = same_Some its entry (sym its_at ∙ ap (slice_get entries) place_is ∙ at) in
          let both = stands (subst (Has used) place_is has) in (
            subst (λ (it : List ℕ). StandFor state.claims it its.claim) (sym own_is)
                (subst (λ (it : Entry). StandFor state.claims own it.claim) (sym same) both.0),
            subst (λ (it : List ℕ). AreOwn entries state.places place it) (sym own_is)
                (subst (λ (it : ℕ). AreOwn entries state.places it own) (sym place_is) both.1),
          )

  -- a used entry with its line
  module _ (has : Has used (length lines)) (has_line : HasLine entry.reason) (within : Within entry.product case.set) (line : Line)
      (readable : IsReadable line) (may : MayClaim case state.claims line entry.claim) (says : SaysReason entries state.places entry.reason line)
      (new : Written) (text : new.text ≡ old.text ++ (line_text line ++ codes "\n")) (count : new.count ≡ old.count + 1) (own_is : own ≡ old.count ∷ []) where
    own_stands : StandFor (state.claims ++ entry.claim ∷ []) own entry.claim × AreOwn entries (state.places ++ length lines ∷ []) (length lines) own
    own_stands = (
      subst (λ (it : List ℕ). StandFor (state.claims ++ entry.claim ∷ []) it entry.claim)
          (ap (λ (it : ℕ). it ∷ []) state.counted ∙ sym own_is) (stands_alone state.claims entry.claim),
      subst (AreOwn entries (state.places ++ length lines ∷ []) (length lines))
          (ap (λ (it : ℕ). it ∷ []) (as_many_claims case entries state.places state.lines state.claims state.are_of ∙ state.counted) ∙ sym own_is)
          (owns_alone entries state.places (length lines) entry at has_line),
    )

    pub line_more : IsState case entries used (lines ++ own ∷ []) new
    line_more = record {
      places = state.places ++ length lines ∷ [];
      lines = state.lines ++ line ∷ [];
      claims = state.claims ++ entry.claim ∷ [];
      text_is = text_more state.lines line old.text new.text state.text_is text;
      readable = readable_more state.lines line state.readable readable;
      counted = omega (arith, length-append state.claims (entry.claim ∷ []), state.counted, count);
      are_of = of_entries_more case entries state.places state.lines state.claims state.are_of (length lines) written_below line entry.claim may
          (entry, at, refl) (entry, at, within, says);
      are_written = record {
        all = λ place its below its_at its_has its_line. elim (same_or_later place (length lines) (next_place place below)) [
          | inl same ↦ subst (Contains (state.places ++ length lines ∷ [])) same
              (Contains-append_right state.places (length lines ∷ []) (length lines) (Contains-head (length lines) []))
          | inr later ↦ Contains-append_left state.places (length lines ∷ []) place
              (state.are_written.all place its (omega (arith, later)) its_at its_has its_line)
        ];
        only = λ place inside. elim (Contains-append_cases state.places (length lines ∷ []) place inside) [
          | inl earlier ↦ (let its = state.are_written.only place earlier in (omega (arith, its.0, length-append lines (own ∷ [])), its.1))
          | inr last ↦ elim (Contains-cases (length lines) [] place last) [
            | inl is ↦ (omega (arith, is, length-append lines (own ∷ [])), subst (Has used) is has)
            | inr none ↦ absurd (Contains-nil place none)
          ]
        ];
      };
      stand = λ place its its_own its_at its_has is. elim (at_pushed lines own place its_own is) [
        | inl earlier ↦ (let both = state.stand place its its_own its_at its_has earlier in (
          stand_more state.claims (entry.claim ∷ []) its_own its.claim both.0,
          own_more entries state.places (length lines ∷ []) place its_own both.1,
        ))
        | inr (place_is, own_same) ↦ pushed place its its_own its_at place_is (sym own_same)
      ];
    }
      where
        pushed : (place : ℕ) (its : Entry) (its_own : List ℕ) → slice_get entries place ≡ Some its → place ≡ length lines → its_own ≡ own
            → StandFor (state.claims ++ entry.claim ∷ []) its_own its.claim × AreOwn entries (state.places ++ length lines ∷ []) place its_own
        pushed place its its_own its_at place_is own_same =
            let same : its ≡ entry = same_Some its entry (sym its_at ∙ ap (slice_get entries) place_is ∙ at) in (
              subst (λ (it : List ℕ). StandFor (state.claims ++ entry.claim ∷ []) it its.claim) (sym own_same)
                  (subst (λ (it : Entry). StandFor (state.claims ++ entry.claim ∷ []) own it.claim) (sym same) own_stands.0),
              subst (λ (it : List ℕ). AreOwn entries (state.places ++ length lines ∷ []) place it) (sym own_same)
                  (subst (λ (it : ℕ). AreOwn entries (state.places ++ length lines ∷ []) it own) (sym place_is) own_stands.1),
            )

-- one entry more, used or not
pub used_goes : (rules : List Constraint) (entries : List Entry) (used : List Bool) (lines shown more : List (List ℕ)) (entry : Entry) (old new : Written)
    (own : List ℕ) → shown ≡ lines → slice_get entries (length lines) ≡ Some entry → WritesIfUsed rules entries used shown old new own
    → more ≡ lines ++ own ∷ [] → (case : Case) → case.rules ≡ rules_of rules → IsBasis case entries used
    → IsState case entries used lines old → IsState case entries used more new
used_goes rules entries used lines shown more entry old new own shown_is at writes more_is case rules_is basis state =
    subst (λ (it : List (List ℕ)). IsState case entries used it new) (sym more_is)
    (elim (subst (λ (it : List (List ℕ)). WritesIfUsed rules entries used it old new own) shown_is writes) [
      | inl (has, goes) ↦ goes case rules_is basis has state
      | inr (unused, same, _) ↦ subst (λ (it : Written). IsState case entries used (lines ++ own ∷ []) it) (sym same)
          (state_push case entries used lines old state entry at own (λ has has_line. unused has) (λ has. absurd (unused has)))
    ])

-- ---- the last line

pub ended : (case : Case) (entries : List Entry) (used : List Bool) (lines : List (List ℕ)) (old : Written)
    (state : IsState case entries used lines old) (facts links : List ℕ) → IsReadable (Match facts links) → MayEnd case state.claims (Match facts links)
    → (bytes : List ℕ) → bytes ≡ old.text ++ (line_text (Match facts links) ++ codes "\n")
    → ((place : ℕ) → place < length state.lines → IsNamedLater (state.lines ++ Match facts links ∷ []) place) → IsWritten case entries bytes
ended case entries used lines old state facts links readable may bytes text named = record {
  places = state.places;
  lines = state.lines;
  claims = state.claims;
  facts = facts;
  links = links;
  are_lines = lines_of bytes (state.lines ++ Match facts links ∷ []) (text_more state.lines (Match facts links) old.text bytes state.text_is text)
      (readable_more state.lines (Match facts links) state.readable readable);
  are_of = state.are_of;
  ends = may;
  named = named;
}
