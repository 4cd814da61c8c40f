-- What a flood does with marks and queue, visit by visit. Assumes nothing.
use Rattle.std.specs.Prelude.{ℕ, zero, suc, ◌+◌, ◌≤◌, Bool, cond, ◌&&◌, List, [], ◌∷◌, length, take, Some, None, Option, slice_set}
use Rattle.std.specs.List.{fold}
use Rattle.criteria.specs.Criteria.{Judgement}
use Rattle.maps.specs.declared.map.Map.{Map}
use Rattle.maps.specs.Joinings.{number_of}
use Rattle.maps.specs.Grounds.{value_passes}
use Rattle.neighbourhoods.specs.Marks.{served, free, marked, unmarked}
use Rattle.neighbourhoods.specs.Steps.{neighbours}

-- the marks, and the queue, whose first entries are the pixels found so far
pub record Finds : Type 0 where
  pub marks : List ℕ
  pub queue : List ℕ
  pub count : ℕ

-- the same from what code holds
abbrev pub finds : List ℕ → List ℕ → ℕ → Finds
finds marks queue count = record { marks = marks; queue = queue; count = count }

-- the pixels found so far
abbrev pub found_in : Finds → List ℕ
found_in f = take f.count f.queue

-- a pixel is marked and queued
abbrev pub taken_in : ℕ → Finds → Finds
taken_in p f = record { marks = marked f.marks p; queue = slice_set f.queue f.count p; count = f.count + 1 }

-- the visit of a pixel: it is taken in where it is free and near
abbrev pub visited : Bool → ℕ → Finds → Finds
visited near p f = cond (free f.marks p && near) (taken_in p f) f

-- one visit after another
abbrev pub visit_each : (ℕ → Bool) → List (Option ℕ) → Finds → Finds
visit_each near [] f = f
visit_each near (None ∷ ps) f = visit_each near ps f
visit_each near (Some p ∷ ps) f = visit_each near ps (visited (near p) p f)

-- the test whether the value at a pixel is near the centre
abbrev pub near_centre : {V : Type 0} → Judgement V → Map V → V → ℕ → Bool
near_centre j m centre p = value_passes m.values.now p (j.near centre)

-- the visits of all neighbours of a pixel
abbrev pub expanded : {V : Type 0} → Judgement V → Map V → V → ℕ → Finds → Finds
expanded j m centre p f = visit_each (near_centre j m centre) (neighbours m.tile.width m.tile.height (number_of m.tile.joining) p) f

-- how many numbers below n pass the test
abbrev pub count_below : ℕ → (ℕ → Bool) → ℕ
count_below zero test = 0
count_below (suc n) test = cond (test n) 1 0 + count_below n test

-- marks and queue have room for all that may still be found in a tile of n pixels
pub record Room (n : ℕ) (f : Finds) : Type 0 where
  pub marks_serve : n ≤ served (length f.marks)
  pub queue_serves : n ≤ length f.queue
  pub free_left : f.count + count_below n (free f.marks) ≤ n

-- the pixels are freed
abbrev pub unmark_all : List ℕ → List ℕ → List ℕ
unmark_all marks pixels = fold unmarked marks pixels
