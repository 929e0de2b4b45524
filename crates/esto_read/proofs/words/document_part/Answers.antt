use Rattle.std.proofs.Common.{Some, sym, ap, ◌∙◌}
use Rattle.std.proofs.lemmas.Bool.{false≢true}
use Rattle.esto_read.proofs.WordLemmas.{no_document_part}
use Rattle.esto_read.proofs.words.document_part.Goals as goal

pub returns-then-is_named : goal.returns-then-is_named
returns-then-is_named c = ap Some (sym (c.is_named.ensures.0 c.if-is_named.true))

pub returns-then-is_named-2 : goal.returns-then-is_named-2
returns-then-is_named-2 c = ap Some (sym (c.is_named-2.ensures.0 c.if-is_named-2.true))

pub returns-then-is_named-3 : goal.returns-then-is_named-3
returns-then-is_named-3 c = ap Some (sym (c.is_named-3.ensures.0 c.if-is_named-3.true))

pub returns-then-is_named-4 : goal.returns-then-is_named-4
returns-then-is_named-4 c = ap Some (sym (c.is_named-4.ensures.0 c.if-is_named-4.true))

pub returns-then-is_named-5 : goal.returns-then-is_named-5
returns-then-is_named-5 c = ap Some (sym (c.is_named-5.ensures.0 c.if-is_named-5.true))

pub returns : goal.returns
returns c =
    no_document_part c.args.part.now (λ same. false≢true (sym c.if-is_named.false ∙ c.is_named.ensures.1 same))
    (λ same. false≢true (sym c.if-is_named-2.false ∙ c.is_named-2.ensures.1 same))
    (λ same. false≢true (sym c.if-is_named-3.false ∙ c.is_named-3.ensures.1 same))
    (λ same. false≢true (sym c.if-is_named-4.false ∙ c.is_named-4.ensures.1 same))
    (λ same. false≢true (sym c.if-is_named-5.false ∙ c.is_named-5.ensures.1 same))
