use Rattle.esto_fill.proofs.WantedLemmas.{every_text, text_more}
use Rattle.esto_fill.proofs.wanted.with_text.Goals as goal

pub returns-in-Every : goal.returns-in-Every
returns-in-Every c = every_text c.args.text.now c.args.texts

pub returns-in_ok-push-in-These : goal.returns-in_ok-push-in-These
returns-in_ok-push-in-These c =
    text_more c.args.text.now _ c.in-These.some _ c.args.texts c.in-These.is c.in_ok-push-in-These.ensures.ok c.in_ok-own-in-These.ensures
