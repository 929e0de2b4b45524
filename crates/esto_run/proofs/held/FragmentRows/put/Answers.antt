use Rattle.std.proofs.Common.{◌<◌, length, map, refl, set, sym, subst, ap, ◌∙◌}
use Rattle.std.proofs.lemmas.List.{length-map}
use Rattle.esto_ports.specs.declared.file_fault.FileError.TheVariants.{OutOfMemory}
use Rattle.esto_docs.specs.Stores.{IsRowIn}
use Rattle.esto_run.specs.Opened.{HaveTexts, shape_of, held_of}
use Rattle.esto_run.proofs.HeldLemmas.{at_error, fault_handed, texts_kept, held_kept, texts_put, held_put}
use Rattle.esto_run.proofs.held.FragmentRows.put.Goals as goal

pub invariant_of-self : goal.invariant_of-self
invariant_of-self c =
    texts_kept c.self.inside.codes c.code_store.new.codes c.code_store.ensures.grown c.self.inside.stored c.self.invariant

pub returns-in_err-coded-clause-err : goal.returns-in_err-coded-clause-err
returns-in_err-coded-clause-err c = at_error _
    (held_kept c.self.inside.codes c.code_store.new.codes c.code_store.ensures.grown c.self.inside.stored c.self.invariant ∙ c.self.view_is)

pub invariant_of-self-in_err-stored : goal.invariant_of-self-in_err-stored
invariant_of-self-in_err-stored c =
    texts_kept c.self.inside.codes c.code_store.new.codes c.code_store.ensures.grown c.self.inside.stored c.self.invariant

pub returns-in_err-stored-clause-err : goal.returns-in_err-stored-clause-err
returns-in_err-stored-clause-err c = at_error _
    (held_kept c.self.inside.codes c.code_store.new.codes c.code_store.ensures.grown c.self.inside.stored c.self.invariant ∙ c.self.view_is)

pub invariant_of-self-2 : goal.invariant_of-self-2
invariant_of-self-2 c =
    let file = c.in_ok-coded.ensures.rows.1 in
    subst (HaveTexts c.code_store.new.codes) (sym c.set.ensures)
    (texts_put c.self.inside.codes c.code_store.new.codes c.code_store.ensures.grown c.self.inside.stored c.self.invariant c.args.number
    c.args.fragment.now file.rows c.in_ok-coded.coded c.in_ok-stored.stored file.arity file.are c.in_ok-stored.ensures)

pub returns-clause-ok : goal.returns-clause-ok
returns-clause-ok c =
    let file = c.in_ok-coded.ensures.rows.1 in
    record {
      rows = file.rows;
      wide = file.wide;
      exact = file.exact;
      put = ap (map (held_of c.code_store.new.codes)) c.set.ensures
          ∙ held_put c.self.inside.codes c.code_store.new.codes c.code_store.ensures.grown c.self.inside.stored c.self.invariant c.args.number
          c.args.fragment.now file.rows c.in_ok-coded.coded c.in_ok-stored.stored file.arity file.are c.in_ok-stored.ensures
          ∙ ap (λ them. set them c.args.number (record { shape = shape_of c.args.fragment.now; rows = file.rows })) c.self.view_is;
    }

pub returns-in_err-coded-clause-fault : goal.returns-in_err-coded-clause-fault
returns-in_err-coded-clause-fault c = fault_handed (IsRowIn c.args.shape.now c.args.bytes.now) _ (length c.args.fragment.now.view.head) c.code_store.new.codes _
    c.from_residual.result c.from_residual.ensures.1 c.in_err-coded.ensures.rows

pub returns-clause-fault : goal.returns-clause-fault
returns-clause-fault c = (c.in_ok-coded.ensures.rows.0, refl)

pub returns-in_err-stored-clause-fault : goal.returns-in_err-stored-clause-fault
returns-in_err-stored-clause-fault c = fault_handed (IsRowIn c.args.shape.now c.args.bytes.now) _ (length c.args.fragment.now.view.head)
    c.code_store.new.codes OutOfMemory c.from_residual-in_err-stored.result c.from_residual-in_err-stored.ensures.1 tt

pub set-requires : goal.set-requires
set-requires c =
    subst (λ count. c.args.number < count) (ap length (sym c.self.view_is) ∙ length-map c.self.inside.stored (held_of c.self.inside.codes)) c.requires.there
