use Rattle.std.proofs.Common.{length, refl}
use Rattle.std.proofs.lemmas.Result.{err_from_is_err_and}
use Rattle.morphology.specs.Levels.{moved}
use Rattle.operators.specs.Operations.{room_of}
use Rattle.bench.specs.Settings.{calling}
use Rattle.bench.specs.Checks.{handed_checks, level_checks}
use Rattle.bench.proofs.Passing.{refused_early, refused_late}
use Rattle.bench.proofs.calls.attempt.Goals as goal

pub returns-in_err-check_handed : goal.returns-in_err-check_handed
returns-in_err-check_handed g c =
    let b = c.args.bench.now in
    let j = g.C.Criterion.judgement c.args.criterion.now in
    let call = calling c.args.operation c.args.size in
    let room = room_of c.args.marks.now c.args.queue.now c.args.spare.now in
    let handed = handed_checks j c.args.map.now b.tile (length c.args.picture.now) room in
    let later = level_checks call b.book.levels.present b.book.count in
    let p = err_from_is_err_and c.from_residual.result c.from_residual.ensures.1 in
    rw (p.1, p.2)
    (record {
      answer_is = refused_early handed later tt (moved call b.book.levels).present c.in_err-check_handed.ensures.answer;
      levels_are = refl;
      count_is = refl;
      tile_stays = refl;
      picture_is = refl;
    })

pub returns-in_err-level : goal.returns-in_err-level
returns-in_err-level g c =
    let b = c.args.bench.now in
    let j = g.C.Criterion.judgement c.args.criterion.now in
    let call = calling c.args.operation c.args.size in
    let room = room_of c.args.marks.now c.args.queue.now c.args.spare.now in
    let handed = handed_checks j c.args.map.now b.tile (length c.args.picture.now) room in
    let later = level_checks call b.book.levels.present b.book.count in
    let after = moved call b.book.levels in
    let back = c.from_residual-in_err-level in
    let p = err_from_is_err_and back.result back.ensures.1 in
    let e = c.in_err-level.ensures in
    rw (p.1, p.2)
    (record {
      answer_is = refused_late handed later tt after.present after.present c.in_ok-check_handed.ensures.answer e.answer;
      levels_are = e.levels;
      count_is = e.count;
      tile_stays = refl;
      picture_is = refl;
    })
