-- When a flood is accepted. Assumes nothing.
use Rattle.std.proofs.Common.{◌≡◌, ℕ, ◌<◌, ◌≤◌, ltb, leb, List, length, None, ◌∙◌}
use Rattle.std.proofs.lemmas.Bool.{lt-ltb, le-leb, cond-true}
use Rattle.maps.specs.declared.map.Map.{Map}
use Rattle.maps.specs.Windows.{pixels_of}
use Rattle.neighbourhoods.specs.Marks.{served}
use Rattle.neighbourhoods.specs.Floods.{flood_fault}

-- a flood from a pixel of the map, with scratch that serves it, finds no fault
pub flood_accepted : {V : Type 0} (map : Map V) (z : ℕ) (marks queue : List ℕ) →
    z < pixels_of map → pixels_of map ≤ served (length marks) → pixels_of map ≤ length queue → flood_fault map z marks queue ≡ None
flood_accepted map z marks queue inside serves holds =
    cond-true (ltb z (pixels_of map)) _ _ (lt-ltb z (pixels_of map) inside)
    ∙ cond-true (leb (pixels_of map) (served (length marks))) _ _ (le-leb (pixels_of map) (served (length marks)) serves)
    ∙ cond-true (leb (pixels_of map) (length queue)) _ _ (le-leb (pixels_of map) (length queue) holds)
