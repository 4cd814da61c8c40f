-- The tally of a list of calls: fed with the count of pixels and with what each call is asked, and with nothing else. Assumes nothing.
use Rattle.std.specs.Prelude.{◌≡◌, ℕ, ◌+◌, List, [], ◌∷◌, ◌++◌, length, Some, None, Ok, Err}
use Rattle.maps.specs.Checks.{Check, first_fault}
use Rattle.morphology.specs.declared.calls.Levels.{Levels}
use Rattle.morphology.specs.Calls.{Call}
use Rattle.morphology.specs.Levels.{at_zero, moved}
use Rattle.morphology.specs.Theorems.{LawsOfLevels}
use Rattle.bench.specs.declared.fault.BenchFault.{BenchFault}
use Rattle.bench.specs.Settings.{Asked}
use Rattle.bench.specs.Checks.{scratch_checks, level_checks}
use Rattle.bench.specs.Calls.{Answer}

-- three levels, and how many calls were accepted
pub record Tally : Type 0 where
  pub levels : Levels
  pub count : ℕ

-- the tally at the start
abbrev pub empty : Tally
empty = record { levels = at_zero; count = 0 }

-- the tally with one more call
abbrev pub counted : Call → Tally → Tally
counted c t = record { levels = moved c t.levels; count = t.count + 1 }

-- the checks of a call on a tile of n pixels, by the tally's own figures
abbrev pub tally_checks : ℕ → Asked → Tally → List (Check BenchFault)
tally_checks n a t = scratch_checks n a.room ++ level_checks a.call t.levels.present t.count

-- What is asked leads from one tally to another, with these answers and these calls accepted: a call at fault moves nothing.
pub data Tallied (n : ℕ) : List Asked → Tally → List Answer → List Call → Tally → Type 0 where
  no_call : {t : Tally} → Tallied n [] t [] [] t
  accepts : {a : Asked} {asked : List Asked} {answers : List Answer} {calls : List Call} {t u : Tally} →
      first_fault (tally_checks n a t) ≡ None → Tallied n asked (counted a.call t) answers calls u →
      Tallied n (a ∷ asked) t (Ok (moved a.call t.levels).present ∷ answers) (a.call ∷ calls) u
  refuses : {a : Asked} {f : BenchFault} {asked : List Asked} {answers : List Answer} {calls : List Call} {t u : Tally} →
      first_fault (tally_checks n a t) ≡ Some f → Tallied n asked t answers calls u →
      Tallied n (a ∷ asked) t (Err f ∷ answers) calls u

-- A tally in words of its own: it counts the accepted calls, and its levels are those that they touch.
pub record LawsOfTally (calls : List Call) (t : Tally) : Type 0 where
  pub count_is : t.count ≡ length calls
  pub levels_are : LawsOfLevels calls t.levels
