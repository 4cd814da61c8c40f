-- What a map's width, height and joining say where it has a pixel. Assumes nothing.
use Rattle.std.proofs.Common.{◌≡◌, ℕ, ◌*◌, ◌<◌, ◌≤◌, true, leb}
use Rattle.std.proofs.lemmas.Bool.{and_parts, leb-true}
use Rattle.maps.specs.Tiles.{is_side, is_tile}

-- sides from 1 to 255, and at most 4,096 pixels
pub record TileOf (w h : ℕ) : Type 0 where
  pub some_width : 0 < w
  pub width_fits : w ≤ 255
  pub some_height : 0 < h
  pub height_fits : h ≤ 255
  pub pixels_fit : w * h ≤ 4096

pub tile_of : (w h : ℕ) → is_tile w h ≡ true → TileOf w h
tile_of w h t =
    let across = and_parts (is_side w) _ t in
    let down = and_parts (is_side h) _ across.1 in
    let wide = and_parts (leb 1 w) _ across.0 in
    let high = and_parts (leb 1 h) _ down.0 in
    record {
      some_width = leb-true 1 w wide.0;
      width_fits = leb-true w 255 wide.1;
      some_height = leb-true 1 h high.0;
      height_fits = leb-true h 255 high.1;
      pixels_fit = leb-true (w * h) 4096 down.1;
    }
