use Rattle.std.proofs.Common.{sym, ◌∙◌, arith}
use Rattle.maps.specs.Windows.{pixels_of}
use Rattle.maps.specs.Grounds.{ground}
use Rattle.std.proofs.lemmas.Bool.{false≢true}
use Rattle.neighbourhoods.proofs.Listing.{listed_in, in_listed}
use Rattle.neighbourhoods.proofs.Showing.{cleared, listed_inside, flood_drawn, flood_passed, all_held}
use Rattle.neighbourhoods.proofs.reach.show_symmetric.Goals as goal
use Rattle.neighbourhoods.proofs.reach.show_symmetric.Goals.{then-lists, else-lists}

pub draw-requires : goal.draw-requires
draw-requires g c = λ i early. omega (arith, listed_inside c.flood_within-count.ensures.flooded i early, c.loop-z.invariant.1.size)

pub loop-z-preserved : goal.loop-z-preserved
loop-z-preserved g c =
    let flooded = c.flood_within-count.ensures.flooded in
    let clear = cleared _ (pixels_of c.args.map.now) (c.loop-z.invariant.0 ∙ c.clear_all.ensures) in
    let here = ground (g.C.Criterion.judgement c.args.criterion.now) c.args.map.now in (
      c.flood_within-count.ensures.marks_kept ∙ c.loop-z.invariant.0,
      elim c.if-lists.branch [
        | then-lists w ↦ rw (w.sheet-is, w.draw.ensures) (flood_drawn flooded clear c.loop-z.invariant.1 (listed_in _ _ (sym w.if-lists.ensures)))
        | else-lists w ↦ rw w.sheet-is (flood_passed flooded clear c.loop-z.invariant.1 (λ i. false≢true (w.if-lists.ensures ∙ in_listed _ _ i)))
      ],
    )

pub returns : goal.returns
returns g c =
    let here = ground (g.C.Criterion.judgement c.args.criterion.now) c.args.map.now in
    all_held here c.args.pixel c.loop-z.z (omega (arith, c.loop-z-test.false, c.pixels-z-end.ensures)) c.loop-z.invariant.1
