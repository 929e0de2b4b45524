use Rattle.std.proofs.Common.{◌≡◌, ◌≤◌, drop, option_map}
use Rattle.esto_cert.specs.Lines.{number_after}
use Rattle.esto_cert.specs.Reading.{capped}
use Rattle.esto_cert.proofs.reading.number_after.Given as goal

abbrev pub invariant-digits : goal.invariant-digits
invariant-digits l =
    (l.value ≤ 18446744073709551616)
    × (option_map capped (number_after l.value (drop l.digit-index l.digits)) ≡ option_map capped (number_after 0 l.digits))
