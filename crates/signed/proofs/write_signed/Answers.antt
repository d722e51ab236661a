-- `write_signed`: the lowest bytes of the eight that hold the number.
use mathlib.Core.Path.{ap, ◌∙◌}
use native.Mathlib.Omega.{arith}
use Rattle.numbers.specs.Little.{put_at}
use Rattle.signed.proofs.SignedLaws.{bytes_handed}
use Rattle.signed.proofs.write_signed.Goals as goal

pub write-requires : goal.write-requires
write-requires c = let width = c.requires.1 in
    let most = width.none_between c.if-width-eq8.false in
    (omega arith, omega arith, omega arith)

pub returns-then-width-eq8 : goal.returns-then-width-eq8
returns-then-width-eq8 c = c.write8.ensures
    ∙ ap (put_at _ _) (bytes_handed _ _ _ c.ranges.z c.requires.1.most (omega arith) c.unsigned.ensures)

pub returns-else-width-eq8 : goal.returns-else-width-eq8
returns-else-width-eq8 c = c.write.ensures
    ∙ ap (put_at _ _) (bytes_handed _ _ _ c.ranges.z c.requires.1.most (omega arith) c.unsigned-else-width-eq8.ensures)
