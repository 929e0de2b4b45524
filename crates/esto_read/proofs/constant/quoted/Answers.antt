use Rattle.std.proofs.Common.{◌∷◌, sym, ap, subst, ◌∙◌}
use Rattle.std.specs.Prelude.{IsUtf8}
use Rattle.esto_read.proofs.Utf8Lemmas.{said_utf8, inside_is, text_inside_utf8}
use Rattle.esto_read.proofs.constant.quoted.Goals as goal

pub plain-requires : goal.plain-requires
plain-requires c =
    let k = c.requires.quoted in
    let whole = k.1 ∙ ap (λ l. 39 ∷ l) k.2.2 in
    let same = sym (inside_is c.args.text.now k.2.0 whole) ∙ c.in_ok-content.ensures in
    rw c.items.ensures (said_utf8 c.in_ok-content.content (subst IsUtf8 same (text_inside_utf8 c.args.text.now k.2.0 whole c.requires.utf8)))
