-- How pixels are joined, and the numbers 4 and 8 that stand for it. Assumes nothing.
use Rattle.std.specs.Prelude.{◌≡◌, ◌≢◌, ℕ, Ok, Err, Result}
use Rattle.criteria.specs.declared.fault.MapFault.{MapFault}
use Rattle.criteria.specs.declared.fault.MapFault.TheVariants as fault
use Rattle.maps.specs.declared.joining.Joining.{Joining}
use Rattle.maps.specs.declared.joining.Joining.TheVariants.{Four, Eight}

-- to how many pixels one is joined: over the shared sides, or over the shared corners too
abbrev pub number_of : Joining → ℕ
number_of Four = 4
number_of Eight = 8

-- a number is that of the joining, or it is neither 4 nor 8 and refused
abbrev pub Numbered : ℕ → Result Joining MapFault → Type 0
Numbered n (Ok j) = number_of j ≡ n
Numbered n (Err f) = (f ≡ fault.Joining n) × ((n ≢ 4) × (n ≢ 8))
