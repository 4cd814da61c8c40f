-- The levels through which calls take a picture. Assumes nothing.
use Rattle.std.specs.Prelude.{ℕ, List, [], ◌∷◌, ℤ, pos, ◌+ℤ◌, ◌-ℤ◌, sum_by, unsigned_abs}
use Rattle.std.specs.Int.{int_max, int_min}
use Rattle.morphology.specs.declared.calls.Levels.{Levels}
use Rattle.morphology.specs.declared.calls.Operation.{Operation}
use Rattle.morphology.specs.declared.calls.Operation.TheVariants.{Dilate, Erode, Open, Close}
use Rattle.morphology.specs.Calls.{Call}

-- the levels of a picture on which nothing was done
abbrev pub at_zero : Levels
at_zero = record { present = pos 0; lowest = pos 0; highest = pos 0 }

-- the level that an operation of size p touches from level z: dilate and close p higher, erode and open p lower
abbrev pub touched : Operation → ℕ → ℤ → ℤ
touched Dilate p z = z +ℤ pos p
touched Erode p z = z -ℤ pos p
touched Open p z = z -ℤ pos p
touched Close p z = z +ℤ pos p

-- the level at which an operation that touched t leaves a picture from level z: open and close come back
abbrev pub left_at : Operation → ℤ → ℤ → ℤ
left_at Dilate t z = t
left_at Erode t z = t
left_at Open t z = z
left_at Close t z = z

-- the levels once an operation has touched t
abbrev pub reached : Operation → ℤ → Levels → Levels
reached o t l = record { present = left_at o t l.present; lowest = int_min l.lowest t; highest = int_max l.highest t }

-- the levels after a call
abbrev pub moved : Call → Levels → Levels
moved c l = reached c.operation (touched c.operation c.size l.present) l

-- the levels after the calls, in list order
abbrev pub levels_after : List Call → Levels → Levels
levels_after [] l = l
levels_after (c ∷ calls) l = levels_after calls (moved c l)

-- how many steps lead from level a to level b
abbrev pub steps : ℤ → ℤ → ℕ
steps a b = unsigned_abs (b -ℤ a)

-- the calls, begun at level z, touch level t
pub data Touches : ℤ → List Call → ℤ → Type 0 where
  by_first : {z : ℤ} {c : Call} {calls : List Call} → Touches z (c ∷ calls) (touched c.operation c.size z)
  by_later : {z t : ℤ} {c : Call} {calls : List Call} →
      Touches (left_at c.operation (touched c.operation c.size z) z) calls t → Touches z (c ∷ calls) t

-- the size of a dilate, and 0 of any other operation
abbrev pub dilate_size : Operation → ℕ → ℕ
dilate_size Dilate p = p
dilate_size Erode p = 0
dilate_size Open p = 0
dilate_size Close p = 0

-- the size of an erode, and 0 of any other operation
abbrev pub erode_size : Operation → ℕ → ℕ
erode_size Dilate p = 0
erode_size Erode p = p
erode_size Open p = 0
erode_size Close p = 0

-- the sum of the dilates' sizes
abbrev pub dilated : List Call → ℕ
dilated calls = sum_by (λ c. dilate_size c.operation c.size) calls

-- the sum of the erodes' sizes
abbrev pub eroded : List Call → ℕ
eroded calls = sum_by (λ c. erode_size c.operation c.size) calls
