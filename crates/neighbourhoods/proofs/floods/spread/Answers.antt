use Rattle.neighbourhoods.proofs.Turning.{started, loop_starts, loop_turns, loop_ends}
use Rattle.neighbourhoods.proofs.floods.spread.Goals as goal

pub loop-done-init : goal.loop-done-init
loop-done-init g c =
    let centre = c.value_at-centre.ensures in
    let s = started _ c.args.map.now c.args.z centre c.args.marks.now c.args.queue.now c.requires.pixel c.requires.room.marks_serve c.requires.room.queue_serves c.visit-found.ensures in
    loop_starts _ c.args.map.now c.args.z centre s

pub loop-done-preserved : goal.loop-done-preserved
loop-done-preserved g c =
    let centre = c.value_at-centre.ensures in
    let s = started _ c.args.map.now c.args.z centre c.args.marks.now c.args.queue.now c.requires.pixel c.requires.room.marks_serve c.requires.room.queue_serves c.visit-found.ensures in
    loop_turns _ c.args.map.now c.args.z centre s c.loop-done.invariant c.loop-done-test.true c.expand-found.ensures

pub returns : goal.returns
returns g c =
    let centre = c.value_at-centre.ensures in
    let s = started _ c.args.map.now c.args.z centre c.args.marks.now c.args.queue.now c.requires.pixel c.requires.room.marks_serve c.requires.room.queue_serves c.visit-found.ensures in
    loop_ends _ c.args.map.now c.args.z centre s c.loop-done.invariant c.loop-done-test.false
