-- No second answer satisfies a contract, for each function for C. `Post` is the `ensures` of the source, so that what is said
-- here cannot drift from the contract.
use mathlib.Core.Path.{refl}
use Rattle.register.proofs.OneAnswer.{OneAnswer, settled, two_buffers, one_buffer}
use Rattle.register_c.specs.contracts.tanvelis_check as tanvelis_check
use Rattle.register_c.specs.contracts.tanvelis_find as tanvelis_find
use Rattle.register_c.specs.contracts.tanvelis_normalise as tanvelis_normalise
use Rattle.register_c.specs.contracts.tanvelis_shred as tanvelis_shred
use Rattle.register_c.specs.contracts.tanvelis_judge as tanvelis_judge
use Rattle.register_c.specs.contracts.tanvelis_rebuild as tanvelis_rebuild
use Rattle.register_c.specs.contracts.tanvelis_box as tanvelis_box
use Rattle.register_c.specs.contracts.tanvelis_box_east as tanvelis_box_east
use Rattle.register_c.specs.contracts.tanvelis_box_north as tanvelis_box_north
use Rattle.register_c.specs.contracts.tanvelis_box_south as tanvelis_box_south
use Rattle.register_c.specs.contracts.tanvelis_box_west as tanvelis_box_west
use Rattle.register_c.specs.contracts.tanvelis_cell as tanvelis_cell
use Rattle.register_c.specs.contracts.tanvelis_cell_first as tanvelis_cell_first
use Rattle.register_c.specs.contracts.tanvelis_cell_second as tanvelis_cell_second
use Rattle.register_c.proofs.tanvelis_check.Reads as tanvelis_check-reads
use Rattle.register_c.proofs.tanvelis_find.Reads as tanvelis_find-reads
use Rattle.register_c.proofs.tanvelis_normalise.Reads as tanvelis_normalise-reads
use Rattle.register_c.proofs.tanvelis_shred.Reads as tanvelis_shred-reads
use Rattle.register_c.proofs.tanvelis_judge.Reads as tanvelis_judge-reads
use Rattle.register_c.proofs.tanvelis_rebuild.Reads as tanvelis_rebuild-reads
use Rattle.register_c.proofs.tanvelis_box.Reads as tanvelis_box-reads
use Rattle.register_c.proofs.tanvelis_box_east.Reads as tanvelis_box_east-reads
use Rattle.register_c.proofs.tanvelis_box_north.Reads as tanvelis_box_north-reads
use Rattle.register_c.proofs.tanvelis_box_south.Reads as tanvelis_box_south-reads
use Rattle.register_c.proofs.tanvelis_box_west.Reads as tanvelis_box_west-reads
use Rattle.register_c.proofs.tanvelis_cell.Reads as tanvelis_cell-reads
use Rattle.register_c.proofs.tanvelis_cell_first.Reads as tanvelis_cell_first-reads
use Rattle.register_c.proofs.tanvelis_cell_second.Reads as tanvelis_cell_second-reads

pub one_tanvelis_check : OneAnswer tanvelis_check.ended tanvelis_check-reads.Post
one_tanvelis_check κs lent answer other left left' e f = (settled e f, refl)

pub one_tanvelis_find : OneAnswer tanvelis_find.ended tanvelis_find-reads.Post
one_tanvelis_find κs lent answer other left left' e f = (settled e f, refl)

pub one_tanvelis_normalise : OneAnswer tanvelis_normalise.ended tanvelis_normalise-reads.Post
one_tanvelis_normalise κs lent answer other left left' e f =
    (settled e.0 f.0, two_buffers (settled e.1 f.1) (settled e.2 f.2))

pub one_tanvelis_shred : OneAnswer tanvelis_shred.ended tanvelis_shred-reads.Post
one_tanvelis_shred κs lent answer other left left' e f = (settled e.0 f.0, one_buffer (settled e.1 f.1))

pub one_tanvelis_judge : OneAnswer tanvelis_judge.ended tanvelis_judge-reads.Post
one_tanvelis_judge κs lent answer other left left' e f = (settled e f, refl)

pub one_tanvelis_rebuild : OneAnswer tanvelis_rebuild.ended tanvelis_rebuild-reads.Post
one_tanvelis_rebuild κs lent answer other left left' e f =
    (settled e.0 f.0, two_buffers (settled e.1 f.1) (settled e.2 f.2))

pub one_tanvelis_box : OneAnswer tanvelis_box.ended tanvelis_box-reads.Post
one_tanvelis_box κs lent answer other left left' e f = (settled e f, refl)

pub one_tanvelis_box_east : OneAnswer tanvelis_box_east.ended tanvelis_box_east-reads.Post
one_tanvelis_box_east κs lent answer other left left' e f = (settled e f, refl)

pub one_tanvelis_box_north : OneAnswer tanvelis_box_north.ended tanvelis_box_north-reads.Post
one_tanvelis_box_north κs lent answer other left left' e f = (settled e f, refl)

pub one_tanvelis_box_south : OneAnswer tanvelis_box_south.ended tanvelis_box_south-reads.Post
one_tanvelis_box_south κs lent answer other left left' e f = (settled e f, refl)

pub one_tanvelis_box_west : OneAnswer tanvelis_box_west.ended tanvelis_box_west-reads.Post
one_tanvelis_box_west κs lent answer other left left' e f = (settled e f, refl)

pub one_tanvelis_cell : OneAnswer tanvelis_cell.ended tanvelis_cell-reads.Post
one_tanvelis_cell κs lent answer other left left' e f = (settled e f, refl)

pub one_tanvelis_cell_first : OneAnswer tanvelis_cell_first.ended tanvelis_cell_first-reads.Post
one_tanvelis_cell_first κs lent answer other left left' e f = (settled e f, refl)

pub one_tanvelis_cell_second : OneAnswer tanvelis_cell_second.ended tanvelis_cell_second-reads.Post
one_tanvelis_cell_second κs lent answer other left left' e f = (settled e f, refl)
