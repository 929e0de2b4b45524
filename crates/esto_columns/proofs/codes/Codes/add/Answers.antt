use Rattle.std.proofs.Common.{◌≡◌, ◌⊎◌, ◌++◌, ◌∷◌, [], ℕ, List, length, map, subst, sym, ◌∙◌}
use Rattle.std.specs.Str.{bytes_eq}
use Rattle.std.proofs.lemmas.Bool.{false≢true}
use Rattle.esto_columns.proofs.NumberLemmas.{passes_at, list_grown, told_from}
use Rattle.esto_columns.proofs.CodeLemmas.{texts_grown}
use Rattle.esto_columns.proofs.codes.Codes.add.Goals as goal

pub invariant_of-self-2 : goal.invariant_of-self-2
invariant_of-self-2 c =
    texts_grown (λ key. key.items) c.args.text.now (λ key. bytes_eq c.in-Ok.owned.items key.items)
    (λ key. told_from c.in-Ok.owned.items c.args.text.now key.items c.in-Ok.ensures.ok)
    c.self.inside.texts.keys c.insert_full.new.self.keys c.in-Ok.owned c.in-Ok.ensures.ok c.in-Ok-insert_full.ensures.keys c.self.invariant
    (c.is_utf8.ensures.0 c.if-not-is_utf8.false)

pub returns-clause-found : goal.returns-clause-found
returns-clause-found c =
    let stored = c.in-Ok-insert_full.ensures.stored in
    passes_at (λ key. key.items) c.args.text.now (λ key. bytes_eq c.in-Ok.owned.items key.items)
    (λ key. told_from c.in-Ok.owned.items c.args.text.now key.items c.in-Ok.ensures.ok)
    c.insert_full.new.self.keys c.in-Ok-insert_full.number stored.0 stored.1 stored.2

pub returns-clause-grown : goal.returns-clause-grown
returns-clause-grown c =
    subst (λ (it : List (List ℕ)). (map (λ key. key.items) c.insert_full.new.self.keys ≡ it)
    ⊎ ((map (λ key. key.items) c.insert_full.new.self.keys ≡ it ++ c.args.text.now ∷ []) × (c.in-Ok-insert_full.number ≡ length it)))
    c.self.view_is
    (list_grown (λ key. key.items) c.args.text.now (λ key. bytes_eq c.in-Ok.owned.items key.items)
    (λ key. told_from c.in-Ok.owned.items c.args.text.now key.items c.in-Ok.ensures.ok)
    c.self.inside.texts.keys c.insert_full.new.self.keys c.in-Ok.owned c.in-Ok-insert_full.number c.in-Ok.ensures.ok c.in-Ok-insert_full.ensures.keys
    (c.self.invariant).distinct (returns-clause-found c))

pub returns-clause-utf8 : goal.returns-clause-utf8
returns-clause-utf8 c = c.is_utf8.ensures.0 c.if-not-is_utf8.false

pub returns-then-not-is_utf8-clause-fault : goal.returns-then-not-is_utf8-clause-fault
returns-then-not-is_utf8-clause-fault c = λ is. false≢true (sym c.if-not-is_utf8.true ∙ c.is_utf8.ensures.1 is)
