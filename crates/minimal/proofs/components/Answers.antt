-- `minimal::components` meets its contract: a labelling by the marks is one by the stored edges.
use Rattle.minimal.proofs.Links.{labelled_stored}
use Rattle.minimal.proofs.components.Goals as goal

pub returns : goal.returns
returns c ns es held = labelled_stored _ ns es held c.requires _ c.labels.ensures
