use Rattle.std.proofs.Common.{◌≡◌, ◌<◌, true, refl, ◌∙◌, lt-ltb, eq-eqb}
use Rattle.maps.specs.declared.map.Map.{Map}
use Rattle.maps.specs.Joinings.{number_of}
use Rattle.maps.specs.Windows.{pixels_of}
use Rattle.maps.proofs.Nearness.{near_itself}
use Rattle.morphology.proofs.Operators.{operators}
use Rattle.bench.specs.Settings.{setting, ground_of}
use Rattle.bench.specs.Checks.{matches}
use Rattle.bench.proofs.Running.{lawful}
use Rattle.bench.proofs.seating.seat.Goals as goal

-- a map that has a pixel has its own tile
own_tile : {V : Type 0} (map : Map V) → 0 < pixels_of map → matches map map.tile ≡ true
own_tile map some =
    rw (lt-ltb 0 (pixels_of map) some, eq-eqb map.tile.width map.tile.width refl, eq-eqb map.tile.height map.tile.height refl, eq-eqb (number_of map.tile.joining) _ refl) refl

pub returns-clause-seated : goal.returns-clause-seated
returns-clause-seated g c =
    let map = c.args.map.now in
    let j = g.C.Criterion.judgement c.args.criterion.now in
    let s = setting g.S.Scale.grading j map in
    let L = g.met.S.Scale.lattice in
    let ok = c.in_ok-check_seat.ensures in
    let tile = c.new.ensures.tile ∙ c.tile.ensures in
    let fits : matches map c.new.result.tile ≡ true = rw tile (own_tile map ok.filled) in
    record {
      tile_is = tile;
      levels_start = c.new.ensures.levels;
      count_starts = c.new.ensures.count;
      near_itself = near_itself j (g.met.C.Criterion.itself c.args.criterion.now) map ok.admitted;
      operators = operators L (ground_of s);
      lawful = λ asked answers after r. lawful s L ok.admitted (record { tile_fits = fits; count_fits = ok.picture })
          (record { levels_are = c.new.ensures.levels; count_is = c.new.ensures.count }) r;
    }
