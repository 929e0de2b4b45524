use Rattle.esto_constraint.proofs.RuleLemmas.{tuple_sound, equality_sound, denial_sound, is_rule}
use Rattle.esto_constraint.proofs.make.rules_are_sound.Goals as goal

pub returns-clause-tuples : goal.returns-clause-tuples
returns-clause-tuples c rule = tuple_sound _ _ _ rule.sound

pub returns-clause-equalities : goal.returns-clause-equalities
returns-clause-equalities c rule = equality_sound _ _ _ _ rule.sound

pub returns-clause-denials : goal.returns-clause-denials
returns-clause-denials c rule = denial_sound _ _ rule.sound

pub returns-clause-rules : goal.returns-clause-rules
returns-clause-rules c = is_rule
