use Rattle.std.proofs.Common.{ℕ, List, [], ◌∷◌, ◌++◌, length, sym, subst, ap, ◌∙◌, arith}
use Rattle.std.proofs.lemmas.List.{length-replicate, replicate_more}
use Rattle.esto_table.specs.Buckets.{AreRising}
use Rattle.esto_table.proofs.BucketLemmas.{AreRising-replicate}
use Rattle.esto_table.proofs.buckets.empty_lists.Goals as goal

pub lists-init : goal.lists-init
lists-init c = c.new-lists.ensures.items

pub lists-preserved : goal.lists-preserved
lists-preserved c =
    c.in_ok-push.ensures ∙ ap (λ list. c.lists.lists.items ++ list ∷ []) c.new.ensures
    ∙ ap (λ lists. lists ++ [] ∷ []) c.lists.invariant ∙ replicate_more c.lists._list []

pub returns-clause-long : goal.returns-clause-long
returns-clause-long c = omega (arith, ap length c.lists.invariant, length-replicate {A = List ℕ} c.lists._list [])

pub returns-clause-rising : goal.returns-clause-rising
returns-clause-rising c = subst (λ lists. AreRising lists 0) (sym c.lists.invariant) (AreRising-replicate c.lists._list)
