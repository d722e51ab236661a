-- `put`: the part from the place on comes back as the new bytes.
use Rattle.numbers.proofs.PutLaws.{put_part}
use Rattle.numbers.proofs.put.Goals as goal

pub returns : goal.returns
returns c = put_part _ _ _ _ c.copy_from_slice.ensures.after
