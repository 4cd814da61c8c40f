use Rattle.morphology.proofs.Tile.{tile}
use Rattle.morphology.proofs.theorems.tile_holds.Goals as goal

pub returns : goal.returns
returns c = tile
