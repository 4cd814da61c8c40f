use Rattle.maps.proofs.Nearness.{passes_at}
use Rattle.neighbourhoods.proofs.Rooms.{room_left}
use Rattle.neighbourhoods.proofs.Visiting.{before_steps, no_pixel, to_pixel, after_steps}
use Rattle.neighbourhoods.proofs.floods.expand.Goals as goal
use Rattle.neighbourhoods.proofs.floods.expand.Goals.{in-Some, in_default}

pub loop-step-init : goal.loop-step-init
loop-step-init g c = before_steps _ _ _ _ _ _ c.requires.room

pub visit-count-requires-clause-room : goal.visit-count-requires-clause-room
visit-count-requires-clause-room g c = room_left c.loop-step.invariant.room c.in-Some.next c.in-Some.ensures.inside

pub loop-step-preserved : goal.loop-step-preserved
loop-step-preserved g c =
    elim c.match-after.branch [
      | in-Some w ↦
          let j = g.C.Criterion.judgement c.args.criterion.now in
          rw (w.marks-is, w.queue-is, w.count-is)
          (to_pixel _ _ _ _ _ _ c.steps-step-items.ensures c.of-place.ensures.place c.loop-step.invariant _ c.loop-step-test.true w.in-Some.ensures.pixel w.in-Some.ensures.inside
          (passes_at (j.near c.args.centre) w.value_at-value.ensures) w.visit-count.ensures)
      | in_default w ↦
          rw (w.marks-is, w.queue-is, w.count-is)
          (no_pixel _ _ _ _ _ _ c.steps-step-items.ensures c.of-place.ensures.place c.loop-step.invariant _ c.loop-step-test.true w.in_default.ensures.pixel)
    ]

pub returns : goal.returns
returns g c = after_steps _ _ _ _ _ _ c.steps-step-items.ensures c.of-place.ensures.place c.loop-step.invariant c.loop-step-test.false
