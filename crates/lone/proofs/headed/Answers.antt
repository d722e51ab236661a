-- `headed`: the first byte, and the bytes behind it.
use borrow.Author.Rules.{rules}
use Rattle.lone.proofs.LoneLaws.{put_headed}
use Rattle.lone.proofs.headed.Goals as goal

pub returns : goal.returns
returns c = search (rules, put_headed)
