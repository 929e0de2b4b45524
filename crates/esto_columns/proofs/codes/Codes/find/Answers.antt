use Rattle.std.proofs.Common.{◌≡◌, Contains, Some, slice_get, subst}
use Rattle.std.specs.Str.{bytes_eq}
use Rattle.std.proofs.lemmas.Option.{MatchOption-at_none, MatchOption-at_some}
use Rattle.esto_columns.proofs.NumberLemmas.{number_of, told_back}
use Rattle.esto_columns.proofs.codes.Codes.find.Goals as goal

pub returns-in-Some : goal.returns-in-Some
returns-in-Some c = subst (λ it. slice_get it c.in-Some.number ≡ Some c.args.text.now) c.self.view_is
    (MatchOption-at_some _ (λ number. _ ≡ Some c.args.text.now) c.in-Some.number c.in-Some.is
    (number_of (λ key. key.items) c.args.text.now (λ key. bytes_eq c.args.text.now key.items)
    (λ key. told_back c.args.text.now key.items) c.self.inside.texts.keys c.get_index_of.result c.get_index_of.ensures.index c.get_index_of.ensures.found))

pub returns-in-None : goal.returns-in-None
returns-in-None c = subst (λ it. ¬ (Contains it c.args.text.now)) c.self.view_is
    (MatchOption-at_none _ _ c.in-None.is
    (number_of (λ key. key.items) c.args.text.now (λ key. bytes_eq c.args.text.now key.items)
    (λ key. told_back c.args.text.now key.items) c.self.inside.texts.keys c.get_index_of.result c.get_index_of.ensures.index c.get_index_of.ensures.found))
