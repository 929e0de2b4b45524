use Rattle.esto_rewriting.proofs.TellLemmas.{TellLaws, empty_told, members_cored, members_cover, members_tell, members_universal}
use Rattle.esto_rewriting.proofs.union_laws.members_tell_rewritings.Goals as goal

pub returns : goal.returns
returns c =
    let laws : TellLaws = record {
      form = c.planned_plans_have_their_form.ensures.form;
      receives = c.planned_plans_are_universal.ensures.unions;
      satisfiable = c.planned_plans_are_universal.ensures.satisfiable;
      unsatisfiable = c.planned_plans_are_universal.ensures.unsatisfiable;
      universal = c.plans_receive_unions.ensures.universal;
      core = c.planned_plans_are_universal.ensures.core;
      only_core = c.planned_plans_are_universal.ensures.only_core;
      cover = c.executable_unions_map_onto_sets.ensures.cover;
      excludes = c.executable_unions_exist.ensures.none;
      exists = c.choices_are_executable_unions.ensures.exist;
      executable = c.choices_are_executable_unions.ensures.executable;
    } in record {
      satisfiable = members_tell laws;
      universal = members_universal laws;
      cored = members_cored laws;
      complete = members_cover laws;
      empty = empty_told laws;
    }
