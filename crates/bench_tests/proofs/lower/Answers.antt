use Rattle.std.proofs.Common.{◌≡◌, length, rules}
use Rattle.morphology.specs.Calls.{Lowering, erode, open_too}
use Rattle.morphology.proofs.Pictures.{picture_order}
use Rattle.bench.specs.Calls.{no_call, one_more}
use Rattle.bench_tests.proofs.Asking.{nothing, also, accepted_only}
use Rattle.bench_tests.proofs.lower.Goals as goal

pub returns-in_err-seated-clause-below : goal.returns-in_err-seated-clause-below
returns-in_err-seated-clause-below g c = (picture_order g.met.S.Scale.lattice).reflexive c.args.picture.now

pub returns-clause-lowered : goal.returns-clause-lowered
returns-clause-lowered g c =
    let marks : length c.open.new.scratch.0 ≡ length c.args.marks.now = search rules in
    let queue : length c.open.new.scratch.1.0 ≡ length c.args.queue.now = search rules in
    let spare : length c.open.new.scratch.1.1.0 ≡ length c.args.spare.now = search rules in
    record {
      start = _;
      seated = c.in_ok-seated.ensures.seated;
      answers = _;
      calls = one_more c.open.ensures.filtered (one_more (rw (marks, queue, spare) at c.erode.ensures.filtered) no_call);
    }

pub returns-clause-below : goal.returns-clause-below
returns-clause-below g c =
    let run = one_more c.open.ensures.filtered (one_more c.erode.ensures.filtered no_call) in
    let law = c.in_ok-seated.ensures.seated.lawful _ _ _ run in
    law.of_kinds.lowering (accepted_only Lowering law.tallied (also open_too (also erode nothing)))
