-- Checks in a stated order, here and in the layers below. Assumes nothing.
use Rattle.std.proofs.Common.{◌≡◌, ℕ, Bool, true, false, cond, List, [], ◌∷◌, Some, None, Ok, Option, sym, refl, ap, ◌∙◌}
use Rattle.std.proofs.lemmas.Option.{none-some}
use Rattle.criteria.specs.declared.fault.MapFault.{MapFault}
use Rattle.maps.specs.Checks.{Check, first_fault, answered}
use Rattle.maps.proofs.Answering.{no_fault}
use Rattle.bench.specs.declared.fault.BenchFault.TheVariants.{Map}
use Rattle.records.specs.declared.fault.ReaderFault.{ReaderFault}
use Rattle.records.specs.declared.fault.ReaderFault.TheVariants.{Bench}
use Rattle.records.specs.Reading.{through_bench, from_below}

pub some_same : {A : Type 0} {a b : A} → Some a ≡ Some b → a ≡ b
some_same e = cc

-- a fault from below, with the record number
abbrev travelled : ℕ → Option MapFault → Option ReaderFault
travelled n None = None
travelled n (Some f) = Some (Bench (Map f) n)

-- checks of the map layer find here what they find below
from_below_is : (n : ℕ) (cs : List (Check MapFault)) → first_fault (from_below n cs) ≡ travelled n (first_fault cs)
from_below_is n [] = refl
from_below_is n (c ∷ cs) = at c.holds (first_fault (from_below n cs)) (first_fault cs) (from_below_is n cs)
  where
    at : (b : Bool) (o : Option ReaderFault) (p : Option MapFault) → o ≡ travelled n p → cond b o (Some (Bench (Map c.fault) n)) ≡ travelled n (cond b p (Some c.fault))
    at true o p e = e
    at false o p e = refl

pub passes_here : (n : ℕ) (cs : List (Check MapFault)) → first_fault cs ≡ None → first_fault (from_below n cs) ≡ None
passes_here n cs e = from_below_is n cs ∙ ap (travelled n) e

pub passes_below : (n : ℕ) (cs : List (Check MapFault)) → first_fault (from_below n cs) ≡ None → first_fault cs ≡ None
passes_below n cs e = untravelled (first_fault cs) (sym (from_below_is n cs) ∙ e)
  where
    untravelled : (o : Option MapFault) → travelled n o ≡ None → o ≡ None
    untravelled None e = refl
    untravelled (Some f) e = absurd (none-some _ (sym e))

-- what is answered below found nothing
pub reported : {V : Type 0} (o : Option MapFault) (v : V) {w : V} → Ok w ≡ answered (through_bench o) v → o ≡ None
reported None v e = refl
reported (Some f) v e = absurd (none-some _ (sym (no_fault (through_bench (Some f)) v e)))
