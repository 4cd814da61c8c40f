-- Room in the queue: each pixel that is queued is one free pixel less. Assumes nothing.
use Rattle.std.proofs.Common.{◌≡◌, ℕ, zero, suc, ◌+◌, ◌<◌, ◌≤◌, Bool, true, false, cond, ◌&&◌, ◌≢◌, List, length, sym, refl, ap, subst, ap₂, inl, inr, arith, length-set}
use Rattle.std.proofs.lemmas.Bool.{cases_eq, and_parts}
use Rattle.neighbourhoods.specs.Marks.{served, free, marked}
use Rattle.neighbourhoods.specs.Finds.{Finds, taken_in, visited, count_below, Room}
use Rattle.neighbourhoods.proofs.Marking.{marked_length, marked_here, marked_elsewhere}

at_most_one : (b : Bool) → cond b 1 0 ≤ 1
at_most_one true = omega arith
at_most_one false = omega arith

pub count_within : (n : ℕ) (test : ℕ → Bool) → count_below n test ≤ n
count_within zero test = omega arith
count_within (suc n) test = let h = at_most_one (test n) in let k = count_within n test in omega arith

count_same : (n : ℕ) (f g : ℕ → Bool) → ((p : ℕ) → p < n → f p ≡ g p) → count_below n f ≡ count_below n g
count_same zero f g same = refl
count_same (suc n) f g same = ap₂ (λ b k. cond b 1 0 + k) (same n (omega arith)) (count_same n f g (λ p h. same p (omega arith)))

-- tests that differ at one number
count_less : (n : ℕ) (f g : ℕ → Bool) (q : ℕ) → q < n → f q ≡ true → g q ≡ false → ((p : ℕ) → p ≢ q → g p ≡ f p) →
    count_below n f ≡ count_below n g + 1
count_less zero f g q h t e same = absurd (omega arith)
count_less (suc n) f g q h t e same = elim (cases_eq q n) [
  | inl at ↦
      let rest : count_below n g ≡ count_below n f = count_same n g f (λ p k. same p (omega arith)) in
      let was : ◌≡◌ {A = ℕ} (cond (f n) 1 0) 1 = ap (λ b. cond b 1 0) (subst (λ x. f x ≡ true) at t) in
      let is : ◌≡◌ {A = ℕ} (cond (g n) 1 0) 0 = ap (λ b. cond b 1 0) (subst (λ x. g x ≡ false) at e) in
      omega arith
  | inr ne ↦
      let rest = count_less n f g q (omega arith) t e same in
      let here : ◌≡◌ {A = ℕ} (cond (g n) 1 0) (cond (f n) 1 0) = ap (λ b. cond b 1 0) (same n (λ k. ne (sym k))) in
      omega arith
]

module _ {n : ℕ} {f : Finds} (room : Room n f) (q : ℕ) (inside : q < n) where
  one_less : free f.marks q ≡ true → count_below n (free f.marks) ≡ count_below n (free (marked f.marks q)) + 1
  one_less h =
      let serves = room.marks_serve in
      count_less n (free f.marks) (free (marked f.marks q)) q inside h (marked_here f.marks q (omega arith)) (marked_elsewhere f.marks q)

  -- while a pixel is free, the queue has room
  pub room_left : free f.marks q ≡ true → f.count < length f.queue
  room_left h = let less = one_less h in let k = room.free_left in let s = room.queue_serves in omega arith

  pub room_taken : free f.marks q ≡ true → Room n (taken_in q f)
  room_taken h = record {
    marks_serve = subst (λ x. n ≤ served x) (sym (marked_length f.marks q)) room.marks_serve;
    queue_serves = let s = room.queue_serves in omega (arith, length-set f.queue f.count q);
    free_left = let less = one_less h in let k = room.free_left in omega arith;
  }

  pub room_visited : (near : Bool) → Room n (visited near q f)
  room_visited near = by (free f.marks q && near) refl
    where
      by : (b : Bool) → (free f.marks q && near) ≡ b → Room n (cond b (taken_in q f) f)
      by true e = room_taken (and_parts (free f.marks q) near e).0
      by false e = room

-- before the first visit
pub room_at_first : (n : ℕ) (marks queue : List ℕ) → n ≤ served (length marks) → n ≤ length queue →
    Room n (record { marks = marks; queue = queue; count = 0 })
room_at_first n marks queue h k = record { marks_serve = h; queue_serves = k; free_left = let c = count_within n (free marks) in omega arith }
