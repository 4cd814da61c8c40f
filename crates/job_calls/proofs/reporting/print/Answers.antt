use Rattle.std.proofs.Common.{refl}
use Rattle.job_calls.proofs.Ending.{ended_by}
use Rattle.job_calls.proofs.reporting.print.Goals as goal

pub returns-in-Ok : goal.returns-in-Ok
returns-in-Ok g c = c.in-Ok.ensures

pub returns-in_ok-writeln-in-Err-Fault : goal.returns-in_ok-writeln-in-Err-Fault
returns-in_ok-writeln-in-Err-Fault g c =
    let stop = c.in-Err-Fault in
    rw c.in_ok-writeln-in-Err-Fault.ensures.bytes (ended_by _ _ _ _ _ stop.field-0 stop.fault stop.ensures stop.field-0-is refl)
