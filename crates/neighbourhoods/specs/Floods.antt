-- What a flood answers and leaves. Assumes nothing.
use Rattle.std.specs.Prelude.{◌≡◌, ℕ, ◌<◌, ◌≤◌, ◌&&◌, List, [], ◌∷◌, length, take, drop, Ok, Err, Option, Result, nat_le, nat_lt, slice_index}
use Rattle.criteria.specs.declared.fault.MapFault.{MapFault}
use Rattle.criteria.specs.declared.fault.MapFault.TheVariants.{Pixel, Scratch}
use Rattle.criteria.specs.declared.fault.Part.TheVariants as part
use Rattle.maps.specs.declared.map.Map.{Map}
use Rattle.maps.specs.Checks.{Check, first_fault}
use Rattle.maps.specs.Windows.{pixels_of}
use Rattle.morphology.specs.Neighbourhoods.{Ground, pixels, Weak}
use Rattle.neighbourhoods.specs.Marks.{served, free, Clear}
use Rattle.neighbourhoods.specs.Listings.{Lists}
use Rattle.neighbourhoods.specs.Finds.{Finds, found_in, unmark_all}

-- the pixel is one of the map's
abbrev pub pixel_check : {V : Type 0} → Map V → ℕ → Check MapFault
pixel_check map z = record { holds = nat_lt z (pixels_of map); fault = Pixel z }

-- marks and queue serve every pixel of the map
abbrev pub scratch_checks : {V : Type 0} → Map V → List ℕ → List ℕ → List (Check MapFault)
scratch_checks map marks queue =
    record { holds = nat_le (pixels_of map) (served (length marks)); fault = Scratch part.Marks }
    ∷ record { holds = nat_le (pixels_of map) (length queue); fault = Scratch part.Queue } ∷ []

-- Marks and queue have an entry for every pixel of the map.
pub record Serving {V : Type 0} (map : Map V) (marks queue : List ℕ) : Type 0 where
  pub marks_serve : pixels_of map ≤ served (length marks)
  pub queue_serves : pixels_of map ≤ length queue

-- what is wrong with a flood from z, if anything is
abbrev pub flood_fault : {V : Type 0} → Map V → ℕ → List ℕ → List ℕ → Option MapFault
flood_fault map z marks queue = first_fault (pixel_check map z ∷ scratch_checks map marks queue)

-- the ground of the free pixels alone
abbrev pub among_free : List ℕ → Ground → Ground
among_free marks g = record { width = g.width; height = g.height; joining = g.joining; near = λ z y. g.near z y && free marks y }

-- A flood from z lists the weak neighbourhood of z at the head of the queue and leaves the rest of the queue.
-- Pixels that were marked before are taken for walls.
pub record Flooded (g : Ground) (z : ℕ) (marks queue queue' : List ℕ) (count : ℕ) : Type 0 where
  pub within : count ≤ length queue'
  pub listed : Clear (pixels g) marks → Lists (Weak g z) (take count queue')
  pub listed_among_free : Lists (Weak (among_free marks g) z) (take count queue')
  pub rest : drop count queue' ≡ drop count queue

-- a flood before it takes its marks off again
pub record SpreadOut (g : Ground) (z : ℕ) (marks queue : List ℕ) (f : Finds) : Type 0 where
  pub flooded : Flooded g z marks queue f.queue f.count
  pub pixels_served : (i : ℕ) → i < f.count → slice_index f.queue i < served (length f.marks)
  pub marks_back : unmark_all f.marks (found_in f) ≡ marks

-- what the answer of a flood says of the queue; a refusal leaves it
abbrev pub QueueAfter : Ground → ℕ → List ℕ → List ℕ → List ℕ → Result ℕ MapFault → Type 0
QueueAfter g z marks queue queue' (Ok count) = Flooded g z marks queue queue' count
QueueAfter g z marks queue queue' (Err f) = queue' ≡ queue
