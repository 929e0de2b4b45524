use Rattle.esto_backchase.proofs.laws.listed_sets_cover_rewritings.Goals as goal

pub returns : goal.returns
returns c = λ rules views patterns query plan other sets flat universal satisfiable listed rewriting.
    let onto = c.rewritings_map_onto_sets.ensures rules views patterns query plan other flat universal satisfiable rewriting in
    (onto.0, onto.2, c.listed_sets_are_minimal.ensures.cover rules views patterns query plan sets listed onto.0 onto.1)
