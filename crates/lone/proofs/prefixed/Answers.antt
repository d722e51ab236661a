-- `prefixed`: the first byte, the length, and the bytes behind them.
use borrow.Author.Rules.{rules}
use Rattle.lone.proofs.LoneLaws.{put_prefixed}
use Rattle.lone.proofs.prefixed.Goals as goal

pub returns : goal.returns
returns c = search (rules, put_prefixed)
