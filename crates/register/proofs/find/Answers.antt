-- `find`: the length of the path, the document, then the path.
use borrow.Author.Rules.{rules}
use Rattle.register.proofs.DocumentAnswers.{path_long, find_refused, find_path_bad, find_asks, found}
use Rattle.register.proofs.find.Goals as goal

pub returns-then-path-gt-MOST_PATH : goal.returns-then-path-gt-MOST_PATH
returns-then-path-gt-MOST_PATH c = path_long _ _ _ c.if-path-gt-MOST_PATH.true

pub returns-in_err-dictionary : goal.returns-in_err-dictionary
returns-in_err-dictionary c = search (rules, find_refused)

pub returns-then-not-path_good : goal.returns-then-not-path_good
returns-then-not-path_good c =
    find_path_bad _ _ _ c.judge.ensures _ c.if-path-gt-MOST_PATH.false _ c.in_ok-dictionary.was _ c.path_good.ensures c.if-not-path_good.true

pub find-requires : goal.find-requires
find-requires c =
    find_asks _ _ _ c.judge.ensures _ c.if-path-gt-MOST_PATH.false _ c.in_ok-dictionary.was _ c.path_good.ensures c.if-not-path_good.false

pub returns : goal.returns
returns c =
    found _ _ _ c.judge.ensures _ c.if-path-gt-MOST_PATH.false _ c.in_ok-dictionary.was _ c.path_good.ensures c.if-not-path_good.false _
    c.find.ensures
