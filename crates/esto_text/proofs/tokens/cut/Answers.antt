use Rattle.std.proofs.Common.{◌<◌, ◌+◌, length, refl, arith}
use Rattle.std.proofs.lemmas.List.{take_rest, length-drop}
use Rattle.esto_text.proofs.Covering.{covers_more, covers_ends, Next, same_byte, next_lexeme, next_stray, nothing_left, only_gap_left}
use Rattle.esto_text.proofs.tokens.cut.Goals as goal
use Rattle.esto_text.proofs.tokens.cut.Goals.{else-places-test, then-places-test+then-start-bytes, in-Some, in-None, In_ok-push}
use Rattle.esto_text.specs.declared.token.Token.{Token}

next : (c : In_ok-push) → Next c.args.bytes.now c.match-lexeme_at.kind.0 (c.places.at + c.gap_len.result) c.match-lexeme_at.kind.1
next c =
    let bytes = c.args.bytes.now in
    let start = c.places.at + c.gap_len.result in
    let in_gap = rw (take_rest bytes c.places.at) at c.gap_len.ensures.in_range in
    let below : start < length bytes = omega (arith, length-drop c.places.at bytes, c.if-start-bytes.false) in
    elim c.match-lexeme_at.branch [
      | in-Some w ↦ rw w.kind-is (next_lexeme bytes start w.in-Some.kind w.in-Some.len (omega arith) (rw (take_rest bytes start) at w.in-Some.ensures))
      | in-None w ↦
          let stops = (rw (take_rest bytes c.places.at) at c.gap_len.ensures.stops) (omega (arith, length-drop c.places.at bytes)) in
          rw w.kind-is (next_stray bytes start below (rw same_byte stops.0) (rw same_byte stops.1) (rw (take_rest bytes start) at w.in-None.ensures))
    ]

pub places-preserved : goal.places-preserved
places-preserved c =
    let bytes = c.args.bytes.now in
    let t : Token = record { kind = c.match-lexeme_at.kind.0; start = c.places.at + c.gap_len.result; end = c.match-lexeme_at.kind.1 } in
    rw c.in_ok-push.ensures.ok
    (covers_more bytes c.places.tokens c.places.at c.gap_len.result t c.places.invariant (rw (take_rest bytes c.places.at) at c.gap_len.ensures.in_range)
    (rw (take_rest bytes c.places.at) at c.gap_len.ensures.gap) refl (next c))

pub returns : goal.returns
returns c =
    covers_ends c.args.bytes.now c.places.tokens c.places.at c.places.invariant (elim c.places-test.branch [
      | else-places-test w ↦ nothing_left c.args.bytes.now c.places.at w.places-test.false
      | then-places-test+then-start-bytes w ↦ only_gap_left c.args.bytes.now c.places.at w.gap_len.result w.if-start-bytes.true
          (rw (take_rest c.args.bytes.now c.places.at) at w.gap_len.ensures.gap)
    ])
