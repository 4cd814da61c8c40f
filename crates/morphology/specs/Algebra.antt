-- A dilation δ and an erosion ε on an ordered kind of picture; their powers, opening and closing. Assumes nothing.
use Rattle.std.specs.Prelude.{ℕ, zero, suc}
use Rattle.scales.specs.Scales.{Order}

-- δ and ε are adjoint: δ f is at or below g exactly when f is at or below ε g; and δ never lowers a picture.
pub record Adjunction {P : Type 0} (below : P → P → Type 0) (δ ε : P → P) : Type 0 where
  pub order : Order below
  pub across : {f g : P} → below (δ f) g → below f (ε g)
  pub back : {f g : P} → below f (ε g) → below (δ f) g
  pub extends : (f : P) → below f (δ f)

-- F done n times
abbrev pub times : {P : Type 0} → ℕ → (P → P) → P → P
times zero F f = f
times (suc n) F f = F (times n F f)

-- the opening of size p: erode p times, then dilate p times
abbrev pub opening : {P : Type 0} → (P → P) → (P → P) → ℕ → P → P
opening δ ε p f = times p δ (times p ε f)

-- the closing of size p: dilate p times, then erode p times
abbrev pub closing : {P : Type 0} → (P → P) → (P → P) → ℕ → P → P
closing δ ε p f = times p ε (times p δ f)
