use Rattle.esto_steps.proofs.reads.joined_cheaply.Goals as goal

pub joined_reached-requires : goal.joined_reached-requires
joined_reached-requires c = λ cells row among follows link inside. c.requires cells row among follows link (c.in_ok-cheap.ensures link inside)
