use Rattle.esto_read.proofs.PatternLemmas.{only_name}
use Rattle.esto_read.proofs.Utf8Lemmas.{name_token, quoted_token}
use Rattle.esto_read.proofs.pattern.field.Goals as goal

pub quoted-requires-clause-utf8 : goal.quoted-requires-clause-utf8
quoted-requires-clause-utf8 c = rw c.bytes_of-text.ensures (quoted_token c.args.bytes.now c.requires.utf8 c.args.token c.requires.stands.0 c.in-Quoted.is)

pub plain-requires : goal.plain-requires
plain-requires c =
    rw c.bytes_of-text.ensures (name_token c.args.bytes.now c.requires.utf8 c.args.token c.requires.stands.0
    (only_name c.args.token.kind c.requires.stands.1 c.in_default.not-Quoted))
