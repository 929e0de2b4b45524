use Rattle.esto_read.proofs.NamingLemmas.{views_named}
use Rattle.esto_read.proofs.read.views_name_their_columns.Goals as goal

pub returns : goal.returns
returns c = views_named
