-- Scratch that is zero throughout. Assumes nothing.
use Rattle.std.specs.Prelude.{ℕ, List, replicate}

-- this many zeros
abbrev pub zeros : ℕ → List ℕ
zeros n = replicate n 0
