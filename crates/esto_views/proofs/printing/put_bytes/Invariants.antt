use Rattle.std.proofs.Common.{◌≡◌, ◌++◌, drop}
use Rattle.esto_views.specs.Printing.{byte_text, each_from}
use Rattle.esto_views.proofs.printing.put_bytes.Given as goal

abbrev pub invariant-bytes : goal.invariant-bytes
invariant-bytes l = l.text ++ each_from (λ _ byte. byte_text byte) l.byte-index (drop l.byte-index l.bytes)
    ≡ l.initial.text ++ each_from (λ _ byte. byte_text byte) 0 l.bytes
