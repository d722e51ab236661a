-- `normalise`: by what the judging of the document says.
use Rattle.std.proofs.lemmas.Result.{err_from_is_err_and}
use Rattle.register.proofs.NormaliseLaws.{normalise_asks, normalise_lawful, normalise_refused}
use Rattle.register.proofs.normalise.Goals as goal

pub returns-in_err-dictionary : goal.returns-in_err-dictionary
returns-in_err-dictionary c =
    let p = err_from_is_err_and c.from_residual.result c.from_residual.ensures.1 in
    rw (p.1, p.2) (normalise_refused _ _ _ c.judge.ensures _ c.in_err-dictionary.was _ _)

pub normalise-requires : goal.normalise-requires
normalise-requires c = normalise_asks _ _ _ c.judge.ensures _ c.in_ok-dictionary.was

pub returns : goal.returns
returns c = normalise_lawful _ _ _ c.judge.ensures _ _ _ _ _ c.in_ok-dictionary.was _ c.normalise.ensures
