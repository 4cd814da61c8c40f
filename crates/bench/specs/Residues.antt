-- The residue of two pictures. Assumes nothing.
use Rattle.std.specs.Prelude.{ℕ, ◌+◌, ◌&&◌, List, [], ◌∷◌, ◌==◌, nat_le}
use Rattle.maps.specs.Checks.{Check}
use Rattle.bench.specs.declared.fault.BenchFault.{BenchFault}
use Rattle.bench.specs.declared.fault.BenchFault.TheVariants.{Tile, Misfit}
use Rattle.bench.specs.declared.fault.Misfit.TheVariants as misfit

-- the checks of two pictures of these counts
abbrev pub residue_checks : ℕ → ℕ → List (Check BenchFault)
residue_checks first second =
    record { holds = nat_le 1 first && nat_le first 4096; fault = Tile } ∷ record { holds = (first == second); fault = Misfit misfit.Picture } ∷ []

-- the sum over all pixels of the gap of the first picture over the second
abbrev pub gap_sum : {S : Type 0} → (S → S → ℕ) → List S → List S → ℕ
gap_sum gap [] ys = 0
gap_sum gap (x ∷ xs) [] = 0
gap_sum gap (x ∷ xs) (y ∷ ys) = gap x y + gap_sum gap xs ys
