use Rattle.esto_top.proofs.check.check_text.Goals as goal

pub put_ranks-requires : goal.put_ranks-requires
put_ranks-requires c = (c.catalogues_are_sound.ensures c.args.catalogue.now).ranks_are.for_each
