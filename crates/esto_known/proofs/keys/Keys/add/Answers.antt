use Rattle.std.proofs.lemmas.Result.{on_ok_weaker}
use Rattle.esto_known.specs.Hashes.{claim_key, first_key, second_key}
use Rattle.esto_known.proofs.IndexLemmas.{key_more}
use Rattle.esto_known.proofs.keys.Keys.add.Goals as goal

pub returns : goal.returns
returns c = on_ok_weaker c.add-3.result
    (λ put claims are. record {
      by_claim = key_more claim_key claims c.args.claim.now _ c.args.self.now.by_claim _ c.claim_key.ensures are.by_claim c.in_ok-add.ensures.ok;
      by_first = key_more first_key claims c.args.claim.now _ c.args.self.now.by_first _ c.first_key.ensures are.by_first c.in_ok-add-2.ensures.ok;
      by_second = key_more second_key claims c.args.claim.now _ c.args.self.now.by_second _ c.second_key.ensures are.by_second put;
    }) c.add-3.ensures.ok
