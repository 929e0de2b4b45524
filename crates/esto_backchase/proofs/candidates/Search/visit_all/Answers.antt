use Rattle.std.proofs.Common.{◌≡◌, ℕ, [], length, sym, ap, subst, ◌∙◌}
use Rattle.std.proofs.lemmas.Bool.{false≢true}
use Rattle.std.proofs.lemmas.List.{length-replicate}
use Rattle.std.proofs.lemmas.Result.{on_ok_weaker}
use Rattle.esto_access.proofs.NeedLemmas.{none_within}
use Rattle.esto_term.specs.Sets.{Has}
use Rattle.esto_backchase.specs.Candidates.{Answers}
use Rattle.esto_backchase.specs.Searching.{AreFailing, IsBetween}
use Rattle.esto_backchase.proofs.VisitLemmas.{all-between, failing-none, visited-as}
use Rattle.esto_backchase.proofs.candidates.Search.visit_all.Goals as goal

pub visit-requires-clause-count : goal.visit-requires-clause-count
visit-requires-clause-count c = ap length c.in_ok-none.ensures ∙ length-replicate _ _ ∙ c.len.ensures

pub visit-requires-clause-left_out : goal.visit-requires-clause-left_out
visit-requires-clause-left_out c = ap length c.in_ok-none.ensures ∙ length-replicate _ _ ∙ c.len.ensures

pub visit-requires-clause-failing : goal.visit-requires-clause-failing
visit-requires-clause-failing c =
    let it = c.args.self.now in
    let Pass = Answers it.catalogue.now it.query.now it.plan.now in
    subst (AreFailing (length it.plan.now.atoms) Pass) (sym c.new-failing.ensures) (failing-none (length it.plan.now.atoms) Pass)

pub returns-clause-visited : goal.returns-clause-visited
returns-clause-visited c =
    let it = c.args.self.now in
    let none = c.in_ok-none.none in
    let counted : length none ≡ length it.plan.now.atoms = ap length c.in_ok-none.ensures ∙ length-replicate _ _ ∙ c.len.ensures in
    let empty : (number : ℕ) → Has none number → ⊥ =
    λ number has. false≢true (none_within _ [] number (subst (λ row. Has row number) c.in_ok-none.ensures has)) in
    on_ok_weaker c.visit.result
    (λ visited. visited-as (Answers it.catalogue.now it.query.now it.plan.now) (λ other. length other ≡ length it.plan.now.atoms) (IsBetween none none)
    c.args.found.now.sets c.visit.new.found.sets visited (λ other same _. all-between none other empty (same ∙ sym counted))) c.visit.ensures.visited

pub returns-clause-count : goal.returns-clause-count
returns-clause-count c = c.visit.ensures.count
