use Rattle.std.proofs.lemmas.Result.{err_from_is_err_and}
use Rattle.job_calls.proofs.Ending.{unread}
use Rattle.job_calls.proofs.reporting.run.Goals as goal

pub returns-in_err-tile : goal.returns-in_err-tile
returns-in_err-tile g c =
    let p = err_from_is_err_and c.from_residual.result c.from_residual.ensures.1 in
    let cut = c.of.ensures in
    rw (p.1, p.2) (unread _ _ _ _ _ _ _ cut.records cut.left c.requires c.in_err-tile.ensures)
