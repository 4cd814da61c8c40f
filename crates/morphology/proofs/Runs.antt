-- What any list of calls does to a picture, over an adjunction. Assumes nothing.
use Rattle.std.proofs.Common.{◌≡◌, ℕ, ◌+◌, ◌-◌, List, [], ◌∷◌, ℤ, pos, ◌+ℤ◌, ◌-ℤ◌, neg_ℤ, nat_abs, ◌≤ℤ◌, sym, refl, ap, ◌∙◌, subst, subst₂, arith}
use mathlib.Core.Path.{subst₃}
use Rattle.std.specs.Int.{int_min}
use Rattle.std.proofs.lemmas.Int.{ints, clamps}
use Rattle.morphology.specs.declared.calls.Levels.{Levels}
use Rattle.morphology.specs.declared.calls.Operation.{Operation}
use Rattle.morphology.specs.declared.calls.Operation.TheVariants.{Dilate, Erode, Open, Close}
use Rattle.morphology.specs.Algebra.{Adjunction, times, opening, closing}
use Rattle.morphology.specs.Calls.{Call, act, run, Lowering, erode, open_too, Raising, dilate, close_too, Opening, open_only, Closing, close_only, Only, no_call, one_more, largest}
use Rattle.morphology.specs.Levels.{at_zero, touched, left_at, moved, levels_after, steps}
use Rattle.morphology.specs.Theorems.{LawsOfRuns, LawsOfOpenings}
use Rattle.morphology.proofs.Algebra.{times_add, counit, δ-monotone, ε-monotone, shrinks, dual, powers, sinks, opening_both}
use Rattle.morphology.proofs.Mirror.{mirror, mirrored, upside_down, run_mirror, only_mirror, largest_mirror, levels_mirror, steps_mirror}

steps_up : (a b : ℤ) (n : ℕ) → b ≡ a +ℤ pos n → steps a b ≡ n
steps_up a b n e = let d : b -ℤ a ≡ pos n = omega (arith, ints) in ap nat_abs d

steps_between : (a b : ℤ) → a ≤ℤ b → b ≡ a +ℤ pos (steps a b)
steps_between a b h = grind (arith, ints)

module _ {P : Type 0} {below : P → P → Type 0} {δ ε : P → P} (A : Adjunction below δ ε) (f : P) (start : ℤ) where
  -- A picture g at level `now`, come from f at level `start`: it lies at or above f eroded to level `low` and then dilated to `now`.
  record Floor (low now : ℤ) (g : P) : Type 0 where
    rise : ℕ
    depth : ℕ
    now_is : now ≡ low +ℤ pos rise
    start_is : start ≡ low +ℤ pos depth
    holds : below (times rise δ (times depth ε f)) g

  floor_up : (p : ℕ) {low now : ℤ} {g : P} → Floor low now g → Floor low (now +ℤ pos p) (times p δ g)
  floor_up p {g = g} k = record {
    rise = p + k.rise;
    depth = k.depth;
    now_is = let e = k.now_is in omega (arith, ints);
    start_is = k.start_is;
    holds = subst (λ u. below u (times p δ g)) (sym (times_add p k.rise δ (times k.depth ε f))) (δ-monotone (powers A p) k.holds);
  }

  floor_down : (p : ℕ) {low now : ℤ} {g : P} → Floor low now g → Floor (int_min low (now -ℤ pos p)) (now -ℤ pos p) (times p ε g)
  floor_down p {g = g} k = record {
    rise = k.rise - p;
    depth = (p - k.rise) + k.depth;
    now_is = let e = k.now_is in omega (arith, ints, clamps);
    start_is = let e = k.now_is in let d = k.start_is in omega (arith, ints, clamps);
    holds =
        subst (λ u. below (times (k.rise - p) δ u) (times p ε g)) (sym (times_add (p - k.rise) k.depth ε f))
        (A.order.transitive (sinks A k.rise p (times k.depth ε f)) (ε-monotone (powers A p) k.holds));
  }

  floor_call : (o : Operation) (p : ℕ) {low now : ℤ} {g : P} → Floor low now g →
      Floor (int_min low (touched o p now)) (left_at o (touched o p now) now) (act δ ε o p g)
  floor_call Dilate p {low} {now} {g} k =
      let e = k.now_is in
      let same : low ≡ int_min low (now +ℤ pos p) = omega (arith, ints, clamps) in
      subst (λ l. Floor l (now +ℤ pos p) (times p δ g)) same (floor_up p k)
  floor_call Erode p k = floor_down p k
  floor_call Open p {low} {now} {g} k =
      let back : (now -ℤ pos p) +ℤ pos p ≡ now = omega (arith, ints) in
      subst (λ n. Floor (int_min low (now -ℤ pos p)) n (opening δ ε p g)) back (floor_up p (floor_down p k))
  floor_call Close p {low} {now} {g} k =
      let e = k.now_is in
      let back : (now +ℤ pos p) -ℤ pos p ≡ now = omega (arith, ints) in
      let same : int_min low ((now +ℤ pos p) -ℤ pos p) ≡ int_min low (now +ℤ pos p) = omega (arith, ints, clamps) in
      subst₂ (λ l n. Floor l n (closing δ ε p g)) same back (floor_down p (floor_up p k))

  floor_run : (calls : List Call) (l : Levels) {g : P} → Floor l.lowest l.present g →
      Floor (levels_after calls l).lowest (levels_after calls l).present (run δ ε calls g)
  floor_run [] l k = k
  floor_run (c ∷ calls) l k = floor_run calls (moved c l) (floor_call c.operation c.size k)

  floor_steps : {low now : ℤ} {g : P} → Floor low now g → below (times (steps low now) δ (times (steps low start) ε f)) g
  floor_steps {low} {now} {g} k =
      subst₂ (λ m n. below (times m δ (times n ε f)) g)
      (sym (steps_up low now k.rise k.now_is)) (sym (steps_up low start k.depth k.start_is)) k.holds

module _ {P : Type 0} {below : P → P → Type 0} {δ ε : P → P} (A : Adjunction below δ ε) where
  -- the bound from below, begun at any levels that are in order
  pub floor_from : (s : Levels) (calls : List Call) (f : P) → s.lowest ≤ℤ s.present → let l = levels_after calls s in
      below (times (steps l.lowest l.present) δ (times (steps l.lowest s.present) ε f)) (run δ ε calls f)
  floor_from s calls f low =
      let n = steps s.lowest s.present in
      let apart = steps_between s.lowest s.present low in
      let begun : Floor A f s.present s.lowest s.present f =
      record { rise = n; depth = n; now_is = apart; start_is = apart; holds = counit (powers A n) f } in
      floor_steps A f s.present (floor_run A f s.present calls s begun)

  lowering_call : {o : Operation} (p : ℕ) (f : P) → Lowering o → below (act δ ε o p f) f
  lowering_call p f erode = shrinks (powers A p) f
  lowering_call p f open_too = counit (powers A p) f

  pub lowering : {calls : List Call} (f : P) → Only Lowering calls → below (run δ ε calls f) f
  lowering f no_call = A.order.reflexive f
  lowering f (one_more {c = c} kind rest) =
      A.order.transitive (lowering (act δ ε c.operation c.size f) rest) (lowering_call c.size f kind)

  opening_call : {o : Operation} (p : ℕ) (f : P) → Opening o → act δ ε o p f ≡ opening δ ε p f
  opening_call p f open_only = refl

  pub openings : {calls : List Call} (f : P) → Only Opening calls → run δ ε calls f ≡ opening δ ε (largest calls) f
  openings f no_call = refl
  openings f (one_more {c = c} {calls = calls} kind rest) =
      openings (act δ ε c.operation c.size f) rest
      ∙ ap (opening δ ε (largest calls)) (opening_call c.size f kind)
      ∙ opening_both A (largest calls) c.size f
      ∙ ap (λ n. opening δ ε n f) (omega arith)

raising_mirror : {o : Operation} → Raising o → Lowering (mirror o)
raising_mirror dilate = erode
raising_mirror close_too = open_too

closing_mirror : {o : Operation} → Closing o → Opening (mirror o)
closing_mirror close_only = open_only

-- the other half: the same with the order turned over
module _ {P : Type 0} {below : P → P → Type 0} {δ ε : P → P} (A : Adjunction below δ ε) where
  pub ceiling_from : (s : Levels) (calls : List Call) (f : P) → s.present ≤ℤ s.highest → let l = levels_after calls s in
      below (run δ ε calls f) (times (steps l.present l.highest) ε (times (steps s.present l.highest) δ f))
  ceiling_from s calls f high =
      let l = levels_after calls s in
      let m = levels_after (mirrored calls) (upside_down s) in
      let fall : steps m.lowest m.present ≡ steps l.present l.highest =
      ap (λ (k : Levels). steps k.lowest k.present) (levels_mirror calls s) ∙ steps_mirror l.highest l.present in
      let height : steps m.lowest (neg_ℤ s.present) ≡ steps s.present l.highest =
      ap (λ (k : Levels). steps k.lowest (neg_ℤ s.present)) (levels_mirror calls s) ∙ steps_mirror l.highest s.present in
      subst₃ (λ g a b. below g (times a ε (times b δ f))) (run_mirror δ ε calls f) fall height
      (floor_from (dual A) (upside_down s) (mirrored calls) f (omega (arith, ints)))

  pub raising : {calls : List Call} (f : P) → Only Raising calls → below f (run δ ε calls f)
  raising {calls} f only = subst (below f) (run_mirror δ ε calls f) (lowering (dual A) f (only_mirror (λ o. raising_mirror) only))

  pub closings : {calls : List Call} (f : P) → Only Closing calls → run δ ε calls f ≡ closing δ ε (largest calls) f
  closings {calls} f only =
      sym (run_mirror δ ε calls f)
      ∙ openings (dual A) f (only_mirror (λ o. closing_mirror) only)
      ∙ ap (λ n. closing δ ε n f) (largest_mirror calls)

  pub laws_of_runs : LawsOfRuns below δ ε
  laws_of_runs = record {
    floor = λ calls f. floor_from A at_zero calls f (omega (arith, ints));
    ceiling = λ calls f. ceiling_from at_zero calls f (omega (arith, ints));
    lowering = λ calls f. lowering A f;
    raising = λ calls f. raising f;
  }

  pub laws_of_openings : LawsOfOpenings δ ε
  laws_of_openings = record {
    openings = λ calls f. openings A f;
    closings = λ calls f. closings f;
    no_calls = λ f. refl;
    opening_by_0 = λ f. refl;
    closing_by_0 = λ f. refl;
  }
