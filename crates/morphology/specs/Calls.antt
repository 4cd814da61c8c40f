-- Lists of calls, and what they do to a picture by a dilation δ and an erosion ε. Assumes nothing.
use Rattle.std.specs.Prelude.{ℕ, max, List, [], ◌∷◌}
use Rattle.morphology.specs.declared.calls.Operation.{Operation}
use Rattle.morphology.specs.declared.calls.Operation.TheVariants.{Dilate, Erode, Open, Close}
use Rattle.morphology.specs.Algebra.{times, opening, closing}

-- A call: an operation and its size.
pub record Call : Type 0 where
  pub operation : Operation
  pub size : ℕ

-- the picture after an operation of size p
abbrev pub act : {P : Type 0} → (P → P) → (P → P) → Operation → ℕ → P → P
act δ ε Dilate p f = times p δ f
act δ ε Erode p f = times p ε f
act δ ε Open p f = opening δ ε p f
act δ ε Close p f = closing δ ε p f

-- the picture after the calls, in list order
abbrev pub run : {P : Type 0} → (P → P) → (P → P) → List Call → P → P
run δ ε [] f = f
run δ ε (c ∷ calls) f = run δ ε calls (act δ ε c.operation c.size f)

-- an erode or an open
pub data Lowering : Operation → Type 0 where
  erode : Lowering Erode
  open_too : Lowering Open

-- a dilate or a close
pub data Raising : Operation → Type 0 where
  dilate : Raising Dilate
  close_too : Raising Close

-- an open
pub data Opening : Operation → Type 0 where
  open_only : Opening Open

-- a close
pub data Closing : Operation → Type 0 where
  close_only : Closing Close

-- the list has calls of this kind alone
pub data Only (Kind : Operation → Type 0) : List Call → Type 0 where
  no_call : Only Kind []
  one_more : {c : Call} {calls : List Call} → Kind c.operation → Only Kind calls → Only Kind (c ∷ calls)

-- the greatest size in a list of calls, 0 where there is no call
abbrev pub largest : List Call → ℕ
largest [] = 0
largest (c ∷ calls) = max c.size (largest calls)
