use Rattle.esto_views.proofs.ExpandedLemmas.{fits}
use Rattle.esto_views.proofs.expansion.plans_fit_views.Goals as goal

pub returns : goal.returns
returns c = fits
