use Rattle.std.proofs.Common.{◌≡◌, length, take, ap, ◌∙◌, arith}
use Rattle.maps.specs.Windows.{pixels_of}
use Rattle.neighbourhoods.specs.Zeros.{zeros}
use Rattle.neighbourhoods.specs.Sheets.{drawn}
use Rattle.neighbourhoods.proofs.Showing.{cleared, listed_inside, weak_shown}
use Rattle.neighbourhoods.proofs.reach.show_weak.Goals as goal

pub draw-requires : goal.draw-requires
draw-requires g c =
    let flooded = c.flood_within-count.ensures.flooded in
    let size : length c.fill.new.self ≡ pixels_of c.args.map.now = c.fill.ensures.len ∙ c.requires.sheet in
    λ i early. omega (arith, listed_inside flooded i early)

pub returns : goal.returns
returns g c =
    let flooded = c.flood_within-count.ensures.flooded in
    let clear = cleared _ (pixels_of c.args.map.now) c.clear_all.ensures in
    let clean : c.fill.new.self ≡ zeros (pixels_of c.args.map.now) = c.fill.ensures.after (λ y e. e) ∙ ap zeros c.requires.sheet in
    c.draw.ensures
    ∙ ap (λ s. drawn s (take c.flood_within-count.result c.flood_within-count.new.queue)) clean
    ∙ weak_shown flooded clear
