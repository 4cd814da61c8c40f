-- Calls with the order turned over: dilate and erode change places, open and close, lowest and highest. Assumes nothing.
use Rattle.std.proofs.Common.{◌≡◌, ℕ, max, List, [], ◌∷◌, ℤ, ◌-ℤ◌, neg_ℤ, nat_abs, sym, refl, ap, ◌∙◌, subst, subst₂, arith}
use lib.IntN.{neg_ℤ-neg_ℤ}
use Rattle.std.specs.Int.{int_max, int_min}
use Rattle.std.proofs.lemmas.Int.{ints, clamps}
use Rattle.morphology.specs.declared.calls.Levels.{Levels}
use Rattle.morphology.specs.declared.calls.Operation.{Operation}
use Rattle.morphology.specs.declared.calls.Operation.TheVariants.{Dilate, Erode, Open, Close}
use Rattle.morphology.specs.Calls.{Call, act, run, Only, no_call, one_more, largest}
use Rattle.morphology.specs.Levels.{touched, left_at, reached, moved, levels_after, steps, Touches, by_first, by_later}

-- the operation with the order turned over
abbrev pub mirror : Operation → Operation
mirror Dilate = Erode
mirror Erode = Dilate
mirror Open = Close
mirror Close = Open

-- the call with the order turned over
abbrev mirror_call : Call → Call
mirror_call c = record { operation = mirror c.operation; size = c.size }

-- each call of the list with the order turned over
abbrev pub mirrored : List Call → List Call
mirrored [] = []
mirrored (c ∷ calls) = mirror_call c ∷ mirrored calls

-- the levels counted downwards
abbrev pub upside_down : Levels → Levels
upside_down l = record { present = neg_ℤ l.present; lowest = neg_ℤ l.highest; highest = neg_ℤ l.lowest }

-- what mirrored calls do
act_mirror : {P : Type 0} (δ ε : P → P) (o : Operation) (p : ℕ) (f : P) → act ε δ (mirror o) p f ≡ act δ ε o p f
act_mirror δ ε Dilate p f = refl
act_mirror δ ε Erode p f = refl
act_mirror δ ε Open p f = refl
act_mirror δ ε Close p f = refl

pub run_mirror : {P : Type 0} (δ ε : P → P) (calls : List Call) (f : P) → run ε δ (mirrored calls) f ≡ run δ ε calls f
run_mirror δ ε [] f = refl
run_mirror δ ε (c ∷ calls) f =
    ap (run ε δ (mirrored calls)) (act_mirror δ ε c.operation c.size f) ∙ run_mirror δ ε calls (act δ ε c.operation c.size f)

pub only_mirror : {Kind Other : Operation → Type 0} {calls : List Call} →
    ((o : Operation) → Kind o → Other (mirror o)) → Only Kind calls → Only Other (mirrored calls)
only_mirror turn no_call = no_call
only_mirror turn (one_more {c = c} kind rest) = one_more (turn c.operation kind) (only_mirror turn rest)

pub largest_mirror : (calls : List Call) → largest (mirrored calls) ≡ largest calls
largest_mirror [] = refl
largest_mirror (c ∷ calls) = ap (max c.size) (largest_mirror calls)

-- which levels they touch
touched_mirror : (o : Operation) (p : ℕ) (z : ℤ) → touched (mirror o) p (neg_ℤ z) ≡ neg_ℤ (touched o p z)
touched_mirror Dilate p z = omega (arith, ints)
touched_mirror Erode p z = omega (arith, ints)
touched_mirror Open p z = omega (arith, ints)
touched_mirror Close p z = omega (arith, ints)

left_mirror : (o : Operation) (t z : ℤ) → left_at (mirror o) (neg_ℤ t) (neg_ℤ z) ≡ neg_ℤ (left_at o t z)
left_mirror Dilate t z = refl
left_mirror Erode t z = refl
left_mirror Open t z = refl
left_mirror Close t z = refl

least_mirror : (a b : ℤ) → int_min (neg_ℤ a) (neg_ℤ b) ≡ neg_ℤ (int_max a b)
least_mirror a b = omega (arith, ints, clamps)

greatest_mirror : (a b : ℤ) → int_max (neg_ℤ a) (neg_ℤ b) ≡ neg_ℤ (int_min a b)
greatest_mirror a b = omega (arith, ints, clamps)

-- the levels after mirrored calls are those after the calls, counted downwards
reached_mirror : (o : Operation) (t : ℤ) (l : Levels) → reached (mirror o) (neg_ℤ t) (upside_down l) ≡ upside_down (reached o t l)
reached_mirror o t l =
    λ i. record { present = left_mirror o t l.present i; lowest = least_mirror l.highest t i; highest = greatest_mirror l.lowest t i }

moved_mirror : (c : Call) (l : Levels) → moved (mirror_call c) (upside_down l) ≡ upside_down (moved c l)
moved_mirror c l =
    ap (λ t. reached (mirror c.operation) t (upside_down l)) (touched_mirror c.operation c.size l.present)
    ∙ reached_mirror c.operation (touched c.operation c.size l.present) l

pub levels_mirror : (calls : List Call) (l : Levels) → levels_after (mirrored calls) (upside_down l) ≡ upside_down (levels_after calls l)
levels_mirror [] l = refl
levels_mirror (c ∷ calls) l = ap (levels_after (mirrored calls)) (moved_mirror c l) ∙ levels_mirror calls (moved c l)

pub steps_mirror : (a b : ℤ) → steps (neg_ℤ a) (neg_ℤ b) ≡ steps b a
steps_mirror a b = let e : neg_ℤ b -ℤ neg_ℤ a ≡ a -ℤ b = omega (arith, ints) in ap nat_abs e

-- mirrored calls touch the levels that the calls touch, counted downwards
pub touches_mirror : {z t : ℤ} {calls : List Call} → Touches z calls t → Touches (neg_ℤ z) (mirrored calls) (neg_ℤ t)
touches_mirror (by_first {z = z} {c = c} {calls = calls}) =
    subst (Touches (neg_ℤ z) (mirrored (c ∷ calls))) (touched_mirror c.operation c.size z) by_first
touches_mirror (by_later {z = z} {t = t} {c = c} {calls = calls} h) =
    let o = c.operation in
    let e = ap (λ u. left_at (mirror o) u (neg_ℤ z)) (touched_mirror o c.size z) ∙ left_mirror o (touched o c.size z) z in
    by_later (subst (λ y. Touches y (mirrored calls) (neg_ℤ t)) (sym e) (touches_mirror h))

mirror_twice : (o : Operation) → mirror (mirror o) ≡ o
mirror_twice Dilate = refl
mirror_twice Erode = refl
mirror_twice Open = refl
mirror_twice Close = refl

mirrored_twice : (calls : List Call) → mirrored (mirrored calls) ≡ calls
mirrored_twice [] = refl
mirrored_twice (c ∷ calls) = λ i. record { operation = mirror_twice c.operation i; size = c.size } ∷ mirrored_twice calls i

pub touches_back : {z t : ℤ} (calls : List Call) → Touches z (mirrored calls) (neg_ℤ t) → Touches (neg_ℤ z) calls t
touches_back {z} {t} calls h = subst₂ (Touches (neg_ℤ z)) (mirrored_twice calls) (neg_ℤ-neg_ℤ t) (touches_mirror h)
