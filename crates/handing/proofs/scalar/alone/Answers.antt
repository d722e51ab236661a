-- `alone`: what was put is the outermost place, and it fits.
use native.Mathlib.Omega.{arith}
use lib.ListN.{length-take, length-drop}
use borrow.Author.Rules.{rules}
use Rattle.handing.proofs.AloneLaws.{alone_fits, alone_starts, alone_answers}
use Rattle.handing.proofs.scalar.alone.Goals as goal

pub unwrap-start-requires : goal.unwrap-start-requires
unwrap-start-requires c = alone_fits c.outermost.ensures c.requires.0 c.requires.1

pub slice_bounds-hand_out-count : goal.slice_bounds-hand_out-count
slice_bounds-hand_out-count c = alone_starts c.outermost.ensures c.requires.0 c.unwrap-start.ensures

pub slice_bounds-hand_out-start : goal.slice_bounds-hand_out-start
slice_bounds-hand_out-start c = let inside = alone_starts c.outermost.ensures c.requires.0 c.unwrap-start.ensures in search rules

pub hand_out-requires : goal.hand_out-requires
hand_out-requires c = (omega arith, rw (length-take, length-drop) (omega (arith, c.requires.2)))

pub returns : goal.returns
returns c = alone_answers c.outermost.ensures c.unwrap-start.ensures c.hand_out.ensures
