use Rattle.std.proofs.Common.{◌++◌, ◌∷◌, [], ap, map, ◌∙◌, encode_utf8}
use Rattle.esto_query.specs.declared.query.Name.TheVariants.{Given}
use Rattle.esto_constraint.proofs.EncodingLemmas.{made_all, made_more}
use Rattle.esto_constraint.proofs.encodings.names_of.Goals as goal

pub letters-init : goal.letters-init
letters-init c = ap (λ those. those ++ map (λ letter. Given (encode_utf8 letter)) c.args.letters.now) c.new-names.ensures

pub letters-preserved : goal.letters-preserved
letters-preserved c =
    made_more (λ letter. Given (encode_utf8 letter)) c.args.letters.now c.letters.letter-index c.letters.names _ c.letters.invariant c.letter-item.result
    c.letters-test.true _
    (c.in_ok-push.ensures.ok
    ∙ ap (λ it. c.letters.names ++ it ∷ []) (c.in_ok-name.ensures ∙ ap (λ letter. Given (encode_utf8 letter)) c.letter-item.is))

pub returns : goal.returns
returns c =
    made_all (λ letter. Given (encode_utf8 letter)) c.args.letters.now c.letters.letter-index c.letters.names _ c.letters.invariant c.letters-test.false
