-- What a criterion answers. Assumes nothing.
use Rattle.std.specs.Prelude.{◌≡◌, Bool, true}

-- Which values a criterion admits, and which values are near a centre value.
pub record Judgement (V : Type 0) : Type 0 where
  pub admits : V → Bool
  -- near c v: the value v is near the centre c
  pub near : V → V → Bool

-- every admitted value is near itself
abbrev pub Itself : {V : Type 0} → Judgement V → Type 0
Itself {V} j = (v : V) → j.admits v ≡ true → j.near v v ≡ true
