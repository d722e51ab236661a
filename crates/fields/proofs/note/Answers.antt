-- `note`: what was looked up is entered; an id fits.
use Rattle.fields.proofs.EntryLaws.{tells_fits}
use Rattle.fields.proofs.note.Goals as goal

pub enter-requires : goal.enter-requires
enter-requires c = (c.requires.1, tells_fits c.look_up-looked.ensures c.requires.2)

pub returns : goal.returns
returns c = record {
  looked = c.look_up-looked.result;
  tells = rw c.field_name.ensures at c.look_up-looked.ensures;
  entered = c.enter.ensures;
}
