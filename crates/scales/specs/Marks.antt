-- Phase sets: inclusion mark by mark, and what is left of one set without the other. Assumes nothing.
use Rattle.std.specs.Prelude.{◌≡◌, ℕ, zero, suc, ◌+◌, ◌-◌, ◌*◌, ◌/◌, ◌%◌, ◌^◌, ◌<◌, ◌≤◌, min, max, bit_and, bit_or, refl}
use Rattle.std.proofs.Common.{sym, ap, ◌∙◌, pow-suc, arith}
use Rattle.std.specs.Int.Bits.{or_step, and_step}
use Rattle.std.specs.Int.Count.{ones, ones_step}
use Rattle.std.proofs.lemmas.Nat.{shr-shr, or_shr, and_shr, and_le_l}
use Rattle.scales.specs.Scales.{Lattice, Gaps}
use Rattle.scales.specs.Phases.{mark, Within, phases, without, phase_gap, Marked}

or_mark : (a b k : ℕ) → mark (bit_or a b) k ≡ max (mark a k) (mark b k)
or_mark a b k = ap (λ n. n % 2) (or_shr a b k) ∙ omega (arith, or_step (a / 2 ^ k) (b / 2 ^ k))

and_mark : (a b k : ℕ) → mark (bit_and a b) k ≡ min (mark a k) (mark b k)
and_mark a b k = ap (λ n. n % 2) (and_shr a b k) ∙ omega (arith, and_step (a / 2 ^ k) (b / 2 ^ k))

-- the marks of a half are those above the lowest
half_mark : (a k : ℕ) → mark (a / 2) k ≡ mark a (1 + k)
half_mark a k = ap (λ n. n % 2) (shr-shr a 1 k)

same_to : (n a b : ℕ) → a ≤ n → b ≤ n → ((k : ℕ) → mark a k ≡ mark b k) → a ≡ b
same_to zero a b h j e = omega arith
same_to (suc n) a b h j e =
    let low : a / 1 % 2 ≡ b / 1 % 2 = e 0 in
    let high : a / 2 ≡ b / 2 = same_to n (a / 2) (b / 2) (omega arith) (omega arith) (λ k. half_mark a k ∙ e (1 + k) ∙ sym (half_mark b k)) in
    omega arith

-- sets with the same marks are the same number
same_marks : (a b : ℕ) → ((k : ℕ) → mark a k ≡ mark b k) → a ≡ b
same_marks a b e = same_to (max a b) a b (omega arith) (omega arith) e

pub phase_lattice : Lattice phases
phase_lattice = record {
  order = record {
    reflexive = λ a. record { marks = λ k. omega arith };
    transitive = λ h j. record { marks = λ k. omega (arith, h.marks k, j.marks k) };
    antisymmetric = λ {a} {b} h j. same_marks a b (λ k. omega (arith, h.marks k, j.marks k));
  };
  join_left = λ a b. record { marks = λ k. omega (arith, or_mark a b k) };
  join_right = λ a b. record { marks = λ k. omega (arith, or_mark a b k) };
  join_least = λ {a} {b} h j. record { marks = λ k. omega (arith, or_mark a b k, h.marks k, j.marks k) };
  meet_left = λ a b. record { marks = λ k. omega (arith, and_mark a b k) };
  meet_right = λ a b. record { marks = λ k. omega (arith, and_mark a b k) };
  meet_greatest = λ {a} {b} h j. record { marks = λ k. omega (arith, and_mark a b k, h.marks k, j.marks k) };
}

-- a set lies within another exactly when the intersection is the set itself
pub within_of : (a b : ℕ) → bit_and a b ≡ a → Within a b
within_of a b e = record { marks = λ k. omega (arith, ap (λ n. mark n k) e, and_mark a b k) }

pub of_within : (a b : ℕ) → Within a b → bit_and a b ≡ a
of_within a b w = same_marks (bit_and a b) a (λ k. omega (arith, and_mark a b k, w.marks k))

no_marks_to : (n a : ℕ) → a ≤ n → ones a ≡ 0 → a ≡ 0
no_marks_to zero a h e = omega arith
no_marks_to (suc n) a h e =
    let step = ones_step a in
    let half : a / 2 ≡ 0 = no_marks_to n (a / 2) (omega arith) (omega arith) in
    omega arith

no_marks : (a : ℕ) → ones a ≡ 0 → a ≡ 0
no_marks a e = no_marks_to a a (omega arith) e

pub phase_gaps : Gaps phases phase_gap
unfolding ones
phase_gaps = record {
  none = λ {a} {b} w. let e = of_within a b w in ap ones (let d : a - bit_and a b ≡ 0 = omega arith in d);
  only = λ {a} {b} e. let d = no_marks (a - bit_and a b) e in within_of a b (omega (arith, and_le_l a b));
}

-- the marks of a that a set of n marks lacks
pub and_rest : (n a b : ℕ) → a < 2 ^ n → b < 2 ^ n → bit_and a (2 ^ n - 1 - b) ≡ without a b
and_rest zero a b h k = let z : a ≡ 0 = omega arith in rw z refl
and_rest (suc n) a b h k =
    let m = 2 ^ n in
    let twice : 2 ^ suc n ≡ 2 * 2 ^ n = omega (arith, pow-suc 2 n) in
    let c = 2 ^ suc n - 1 - b in
    let half : c / 2 ≡ 2 ^ n - 1 - b / 2 = omega arith in
    let rest : bit_and (a / 2) (c / 2) ≡ a / 2 - bit_and (a / 2) (b / 2) = ap (bit_and (a / 2)) half ∙ and_rest n (a / 2) (b / 2) (omega arith) (omega arith) in
    omega (arith, and_step a c, and_step a b, and_le_l (a / 2) (b / 2))

-- the marks of the difference: halves first, so that the count of marks falls
without_half : (a b : ℕ) → without a b / 2 ≡ without (a / 2) (b / 2)
without_half a b = omega (arith, and_step a b, and_le_l (a / 2) (b / 2))

without_mark : (k a b : ℕ) → mark (without a b) k ≡ mark a k - mark b k
without_mark zero a b = omega (arith, and_step a b, and_le_l (a / 2) (b / 2))
without_mark (suc k) a b =
    let up : (n : ℕ) → mark n (suc k) ≡ mark (n / 2) k = λ n. ap (mark n) (omega arith) ∙ sym (half_mark n k) in
    let half = without_mark k (a / 2) (b / 2) in
    omega (arith, up (without a b), up a, up b, ap (λ n. mark n k) (without_half a b), half)

pub marked : (a b k : ℕ) → Marked a b k
marked a b k = record { union = or_mark a b k; intersection = and_mark a b k; difference = without_mark k a b }
