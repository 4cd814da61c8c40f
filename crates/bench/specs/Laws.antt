-- What holds after any list of calls on a seated picture. Assumes nothing.
use Rattle.std.specs.Prelude.{◌≡◌, List, pos}
use Rattle.maps.specs.Windows.{pixels_of}
use Rattle.morphology.specs.declared.calls.Levels.{Levels}
use Rattle.morphology.specs.Algebra.{times, opening, closing}
use Rattle.morphology.specs.Neighbourhoods.{Ground, NearItself}
use Rattle.morphology.specs.Pictures.{Under, dilation, erosion}
use Rattle.morphology.specs.Calls.{Call, run, Lowering, Raising, Opening, Closing, Only, largest}
use Rattle.morphology.specs.Levels.{at_zero, steps}
use Rattle.morphology.specs.Theorems.{LawsOfOperators}
use Rattle.scales.specs.Scales.{Grading}
use Rattle.bench.specs.declared.bench.Bench.{Bench}
use Rattle.bench.specs.Settings.{Setting, ground_of, Standing, standing, Asked}
use Rattle.bench.specs.Calls.{Answer, Run}
use Rattle.bench.specs.Tallies.{Tally, empty, Tallied, LawsOfTally}

-- The picture p at these levels lies between two pictures made of the seated f.
pub record Between {S : Type 0} (scale : Grading S) (g : Ground) (f : List S) (l : Levels) (p : List S) : Type 0 where
  -- at or above f eroded to the lowest level touched and then dilated to the present one
  pub floor : Under scale
      (times (steps l.lowest l.present) (dilation scale g) (times (steps l.lowest (pos 0)) (erosion scale g) f)) p
  -- at or below f dilated to the highest level touched and then eroded to the present one
  pub ceiling : Under scale p
      (times (steps l.present l.highest) (erosion scale g) (times (steps (pos 0) l.highest) (dilation scale g) f))

-- The picture p after these accepted calls on the seated f, where they are of some kinds alone.
pub record OfKinds {S : Type 0} (scale : Grading S) (g : Ground) (f : List S) (calls : List Call) (p : List S) : Type 0 where
  -- erodes and opens never raise, dilates and closes never lower
  pub lowering : Only Lowering calls → Under scale p f
  pub raising : Only Raising calls → Under scale f p
  -- opens come to one opening by the greatest size, and closes to one closing; where there is none, that size is 0 and p is f
  pub openings : Only Opening calls → p ≡ opening (dilation scale g) (erosion scale g) (largest calls) f
  pub closings : Only Closing calls → p ≡ closing (dilation scale g) (erosion scale g) (largest calls) f

-- A list of calls on the seated picture f was answered so and left this, and its tally says so too.
pub record Lawful {V S : Type 0} (s : Setting V S) (f : List S) (asked : List Asked) (answers : List Answer) (after : Standing S) : Type 0 where
  pub accepted : List Call
  pub tally : Tally
  pub tallied : Tallied (pixels_of s.map) asked empty answers accepted tally
  pub tally_is : LawsOfTally accepted tally
  pub levels_are : after.bench.book.levels ≡ tally.levels
  pub count_is : after.bench.book.count ≡ tally.count
  pub picture_is : after.picture ≡ run (dilation s.scale (ground_of s)) (erosion s.scale (ground_of s)) accepted f
  pub between : Between s.scale (ground_of s) f tally.levels after.picture
  pub of_kinds : OfKinds s.scale (ground_of s) f accepted after.picture

-- The bench b on which the picture f is seated, and the law over every list of calls from there.
pub record Seated {V S : Type 0} (s : Setting V S) (f : List S) (b : Bench) : Type 0 where
  pub tile_is : b.tile ≡ s.map.tile
  pub levels_start : b.book.levels ≡ at_zero
  pub count_starts : b.book.count ≡ 0
  -- the operators are the join and the meet over the symmetric neighbourhood, since each pixel is near itself
  pub near_itself : NearItself (ground_of s)
  pub operators : LawsOfOperators s.scale (ground_of s)
  pub lawful : (asked : List Asked) (answers : List Answer) (after : Standing S) → Run s asked answers (standing b f) after →
      Lawful s f asked answers after
