-- Pixels listed one by one. Assumes nothing.
use Rattle.std.specs.Prelude.{◌≡◌, ℕ, List}
use Rattle.morphology.specs.Pictures.{At}

-- pixel p stands in the list
abbrev pub In : List ℕ → ℕ → Type 0
In list p = (i : ℕ) × At list i p

-- the list has the members, each once, and nothing else
pub record Lists (Member : ℕ → Type 0) (list : List ℕ) : Type 0 where
  pub sound : {i p : ℕ} → At list i p → Member p
  pub complete : {p : ℕ} → Member p → In list p
  pub once : {i k p : ℕ} → At list i p → At list k p → i ≡ k
