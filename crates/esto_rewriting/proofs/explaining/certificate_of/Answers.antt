use Rattle.esto_rewriting.proofs.explaining.certificate_of.Goals as goal

pub write_certificate-requires-clause-same_length : goal.write_certificate-requires-clause-same_length
write_certificate-requires-clause-same_length c =
    (c.planned_plans_have_their_form.ensures.form c.args.catalogue.now c.args.query.now c.args.plan.now c.requires.planned).same_length

pub write_certificate-requires-clause-universal : goal.write_certificate-requires-clause-universal
write_certificate-requires-clause-universal c =
    c.planned_plans_are_universal.ensures.universal c.args.catalogue.now c.args.query.now c.args.plan.now c.requires.planned

pub write_certificate-requires-clause-satisfiable : goal.write_certificate-requires-clause-satisfiable
write_certificate-requires-clause-satisfiable c =
    c.planned_plans_are_universal.ensures.satisfiable c.args.catalogue.now c.args.query.now c.args.plan.now c.requires.planned

pub write_certificate-requires-clause-listed : goal.write_certificate-requires-clause-listed
write_certificate-requires-clause-listed c = c.requires.item.set
