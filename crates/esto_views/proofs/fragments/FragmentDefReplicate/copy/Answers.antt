use Rattle.esto_views.proofs.fragments.FragmentDefReplicate.copy.Goals as goal

pub returns : goal.returns
returns c = λ i. record {
  name = c.in_ok-copy.ensures i;
  view = c.in_ok-copy-3.ensures i;
  access = c.in_ok-copy-2.ensures i;
  weight = c.args.self.now.weight;
}
