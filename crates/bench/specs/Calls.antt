-- What a filter call does, and lists of such calls. Assumes nothing.
use Rattle.std.specs.Prelude.{◌≡◌, ℕ, ◌+◌, List, [], ◌∷◌, length, replicate, ℤ, Result}
use Rattle.maps.specs.Checks.{first_fault, answered, left_by}
use Rattle.morphology.specs.Levels.{moved}
use Rattle.bench.specs.declared.fault.BenchFault.{BenchFault}
use Rattle.bench.specs.Settings.{Setting, ground_of, Standing, Asked}
use Rattle.bench.specs.Checks.{filter_checks}
use Rattle.operators.specs.Operations.{operated}

-- the present level, or why the call is refused
abbrev pub Answer : Type 0
Answer = Result ℤ BenchFault

-- A filter call in this setting: what it is asked and finds, what it answers, and what it leaves.
pub record Filtered {V S : Type 0} (s : Setting V S) (a : Asked) (before : Standing S) (r : Answer) (after : Standing S) : Type 0 where
  pub answer_is : r ≡ answered (first_fault (filter_checks s a before)) (moved a.call before.bench.book.levels).present
  pub levels_are : after.bench.book.levels ≡ left_by r (moved a.call before.bench.book.levels) before.bench.book.levels
  pub count_is : after.bench.book.count ≡ left_by r (before.bench.book.count + 1) before.bench.book.count
  pub tile_stays : after.bench.tile ≡ before.bench.tile
  pub picture_is : after.picture ≡
      left_by r (operated s.scale (ground_of s) a.call.operation a.call.size before.picture) before.picture

-- Scratch after any call: marks and queue zero throughout, spare lowest throughout.
pub record Cleared {S : Type 0} (lowest : S) (marks queue : List ℕ) (spare : List S) : Type 0 where
  pub marks_zero : marks ≡ replicate (length marks) 0
  pub queue_zero : queue ≡ replicate (length queue) 0
  pub spare_lowest : spare ≡ replicate (length spare) lowest

-- Any list of filter calls in one setting, each on what the call before it left: what is asked and what is answered.
pub data Run {V S : Type 0} (s : Setting V S) : List Asked → List Answer → Standing S → Standing S → Type 0 where
  no_call : {at : Standing S} → Run s [] [] at at
  one_more : {a : Asked} {r : Answer} {asked : List Asked} {answers : List Answer} {before between after : Standing S} →
      Filtered s a before r between → Run s asked answers between after → Run s (a ∷ asked) (r ∷ answers) before after
