use Rattle.esto_coded.proofs.coded.CodedFacts.put_coded.Goals as goal

pub invariant_of-self : goal.invariant_of-self
invariant_of-self c = c.put_codes.ensures.whole c.self.invariant
