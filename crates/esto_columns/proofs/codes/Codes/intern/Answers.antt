use Rattle.std.proofs.lemmas.Option.{slice_get_within}
use Rattle.esto_columns.proofs.codes.Codes.intern.Goals as goal

pub text-known-requires : goal.text-known-requires
text-known-requires c = slice_get_within c.args.self.now c.in-Some-find.code c.args.text.now c.in-Some-find.ensures
