-- Checks in a stated order: the first that fails names the fault. Assumes nothing.
use Rattle.std.specs.Prelude.{Bool, cond, List, [], ◌∷◌, Some, None, Ok, Err, Option, Result}

-- one check: what has to hold, and the fault where it does not
pub record Check (F : Type 0) : Type 0 where
  pub holds : Bool
  pub fault : F

-- the fault of the first check that does not hold
abbrev pub first_fault : {F : Type 0} → List (Check F) → Option F
first_fault [] = None
first_fault (c ∷ cs) = cond c.holds (first_fault cs) (Some c.fault)

-- a call answers the value, unless there is a fault
abbrev pub answered : {V F : Type 0} → Option F → V → Result V F
answered None v = Ok v
answered (Some f) v = Err f

-- what a call leaves: the one where it is accepted, the other where it is refused
abbrev pub left_by : {A V F : Type 0} → Result V F → A → A → A
left_by (Ok v) accepted refused = accepted
left_by (Err f) accepted refused = refused
