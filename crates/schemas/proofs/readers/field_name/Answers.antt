-- `field_name`: behind the name's head, up to the node.
use Rattle.schemas.proofs.readers.field_name.Goals as goal

pub returns : goal.returns
returns c = rw c.field_node-to.ensures
