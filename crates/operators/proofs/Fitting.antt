-- What fits a map passes the checks. Assumes nothing.
use Rattle.std.proofs.Common.{◌≡◌, ℕ, ◌≤◌, None, eq-eqb, le-leb}
use Rattle.maps.specs.Checks.{first_fault}
use Rattle.operators.specs.declared.room.Room.{Room}
use Rattle.operators.specs.Operations.{fit_checks}

pub all_fit : {n picture : ℕ} {room : Room} → picture ≡ n → n ≤ room.marks → n ≤ room.queue → n ≤ room.spare →
    first_fault (fit_checks n picture room) ≡ None
all_fit {n} {picture} {room} p m q s = rw (eq-eqb picture n p, le-leb n room.marks m, le-leb n room.queue q, le-leb n room.spare s)
