use Rattle.esto_read.proofs.Utf8Lemmas.{name_token, number_token, quoted_lexeme, quoted_token}
use Rattle.esto_read.proofs.TermLemmas.{only_number}
use Rattle.esto_read.proofs.term.term.Goals as goal

pub variable-requires : goal.variable-requires
variable-requires c = rw c.bytes_of-text.ensures (name_token c.args.bytes.now c.requires.utf8 c.args.token c.requires.stands.0 c.in-Name.is)

pub plain-requires : goal.plain-requires
plain-requires c = rw c.bytes_of-text.ensures (number_token c.args.bytes.now c.requires.utf8 c.args.token c.requires.stands.0
    (only_number c.args.token.kind c.requires.stands.1 c.in_default.not-Name c.in_default.not-Wildcard c.in_default.not-Quoted))

pub quoted-requires-clause-utf8 : goal.quoted-requires-clause-utf8
quoted-requires-clause-utf8 c = rw c.bytes_of-text.ensures (quoted_token c.args.bytes.now c.requires.utf8 c.args.token c.requires.stands.0 c.in-Quoted.is)

pub quoted-requires-clause-quoted : goal.quoted-requires-clause-quoted
quoted-requires-clause-quoted c = rw c.bytes_of-text.ensures (quoted_lexeme c.args.bytes.now c.requires.utf8 c.args.token c.requires.stands.0 c.in-Quoted.is)

pub returns-in-Name : goal.returns-in-Name
returns-in-Name c = rw c.in-Name.is (rw c.bytes_of-text.ensures at c.variable.ensures)

pub returns-in-Wildcard : goal.returns-in-Wildcard
returns-in-Wildcard c = rw c.in-Wildcard.is c.wildcard.ensures
