-- Calls of some kinds alone are asked for, so such alone are accepted. Assumes nothing.
use Rattle.std.proofs.Common.{ℕ, List, [], ◌∷◌}
use Rattle.morphology.specs.declared.calls.Operation.{Operation}
use Rattle.morphology.specs.Calls.{Call, Only, no_call, one_more}
use Rattle.bench.specs.Settings.{Asked}
use Rattle.bench.specs.Calls.{Answer}
use Rattle.bench.specs.Tallies as tallies
use Rattle.bench.specs.Tallies.{Tally, Tallied, accepts, refuses}

-- every call that is asked for is of the kind
pub data Asks (Kind : Operation → Type 0) : List Asked → Type 0 where
  nothing : Asks Kind []
  also : {a : Asked} {asked : List Asked} → Kind a.call.operation → Asks Kind asked → Asks Kind (a ∷ asked)

pub accepted_only : (Kind : Operation → Type 0) {n : ℕ} {asked : List Asked} {t u : Tally} {answers : List Answer} {calls : List Call} →
    Tallied n asked t answers calls u → Asks Kind asked → Only Kind calls
accepted_only Kind tallies.no_call nothing = no_call
accepted_only Kind (accepts e more) (also k rest) = one_more k (accepted_only Kind more rest)
accepted_only Kind (refuses e more) (also k rest) = accepted_only Kind more rest
