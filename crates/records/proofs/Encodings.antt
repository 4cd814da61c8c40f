-- Reading and writing a record. Assumes nothing.
use Rattle.std.proofs.Common.{◌≡◌, ℕ, ◌+◌, ◌*◌, ◌/◌, ◌%◌, ◌<◌, Bool, true, false, cond, eqb, List, [], ◌∷◌, length, Some, None, Ok, Option, sym, refl, ap, ◌∙◌, subst, true≢false, arith}
use Rattle.std.proofs.lemmas.Bool.{eq-eqb, eqb-true, and_parts}
use Rattle.std.proofs.lemmas.Option.{none-some}
use Rattle.maps.specs.Checks.{first_fault}
use Rattle.maps.proofs.Answering.{no_fault}
use Rattle.bench.proofs.Passing.{the_value}
use Rattle.records.specs.declared.records.Shape.{Shape}
use Rattle.records.specs.declared.records.Shape.TheVariants.{Step, Tone, Turn}
use Rattle.morphology.specs.declared.calls.Operation.{Operation}
use Rattle.morphology.specs.declared.calls.Operation.TheVariants.{Dilate, Erode, Open, Close}
use Rattle.records.specs.declared.records.Kind.{Kind}
use Rattle.records.specs.declared.records.Kind.TheVariants as kind
use Rattle.records.specs.declared.records.Record.{Record}
use Rattle.records.specs.declared.records.Record.TheVariants as sound
use Rattle.records.specs.declared.place.Place.{Place}
use Rattle.records.specs.declared.place.Place.TheVariants as place
use Rattle.records.specs.Records.{byte, shape_of, operation_of, head_kind, call_kind, kind_of, all_zero, filler_of, pixel_number, head_of, record_of}
use Rattle.records.specs.Reading.{in_turn, head_checks, own_checks, record_checks, content_checks, checked, lettered, taken}
use Rattle.maps.proofs.Answering.{first_passes}
use Rattle.records.proofs.Checking.{some_same, passes_here, passes_below}
use Rattle.records.specs.Encoding.{shape_letter, operation_letter, encoded, next_pixel, Comes, head, pixel, call}

-- a Bool by its two cases, with the equation
split : {C : Type 0} (b : Bool) → (b ≡ true → C) → (b ≡ false → C) → C
split true yes-case no-case = yes-case refl
split false yes-case no-case = no-case refl

shape_back : (s : Shape) → shape_of (shape_letter s) ≡ Some s
shape_back Step = refl
shape_back Tone = refl
shape_back Turn = refl

operation_back : (o : Operation) → operation_of (operation_letter o) ≡ Some o
operation_back Dilate = refl
operation_back Erode = refl
operation_back Open = refl
operation_back Close = refl

-- two bytes, low first
digits_back : (i : ℕ) → i % 256 + 256 * (i / 256) ≡ i
digits_back i = omega arith

pub reads_back : (n : ℕ) (p : Place) (r : Record) → Comes p r → taken n p (encoded (next_pixel p) r) ≡ Ok r
reads_back n p (sound.Head h) (head passes) = rw (shape_back h.shape, passes_here n (head_checks h) passes) refl
reads_back n p (sound.Pixel v g) (pixel {next = next}) = rw (eq-eqb _ _ (digits_back next)) refl
reads_back n p (sound.Call o s) call = rw (operation_back o) refl

-- what is found in a list of letters has the letter under which it was found
listed : {A : Type 0} (letter : A → ℕ) (b : ℕ) (a x : A) (o : Option A) → (o ≡ Some x → b ≡ letter x) → cond (eqb b (letter a)) (Some a) o ≡ Some x → b ≡ letter x
listed letter b a x o later e =
    split (eqb b (letter a)) (λ t. let q = rw t at e in eqb-true b (letter a) t ∙ ap letter (some_same q)) (λ t. later (rw t at e))

shape_written : (b : ℕ) (s : Shape) → shape_of b ≡ Some s → b ≡ shape_letter s
shape_written b s e =
    listed shape_letter b Step s _ (listed shape_letter b Tone s _ (listed shape_letter b Turn s _ (λ q. absurd (none-some _ q)))) e

operation_written : (b : ℕ) (o : Operation) → operation_of b ≡ Some o → b ≡ operation_letter o
operation_written b o e =
    listed operation_letter b Dilate o _
    (listed operation_letter b Erode o _ (listed operation_letter b Open o _ (listed operation_letter b Close o _ (λ q. absurd (none-some _ q))))) e

-- The letters of a record of this kind.
data Lettered (bs : List ℕ) : Kind → Type 0 where
  as_head : {s : Shape} → byte bs 0 ≡ 72 → byte bs 4 ≡ shape_letter s → Lettered bs (kind.Head s)
  as_pixel : byte bs 0 ≡ 80 → Lettered bs kind.Pixel
  as_call : {o : Operation} → byte bs 0 ≡ 67 → byte bs 1 ≡ operation_letter o → Lettered bs (kind.Call o)

head_lettered : (bs : List ℕ) (o : Option Shape) (k : Kind) → byte bs 0 ≡ 72 → shape_of (byte bs 4) ≡ o → head_kind o ≡ Some k → Lettered bs k
head_lettered bs None k h q e = absurd (none-some _ e)
head_lettered bs (Some s) k h q e = subst (Lettered bs) (some_same e) (as_head h (shape_written (byte bs 4) s q))

call_lettered : (bs : List ℕ) (o : Option Operation) (k : Kind) → byte bs 0 ≡ 67 → operation_of (byte bs 1) ≡ o → call_kind o ≡ Some k → Lettered bs k
call_lettered bs None k h q e = absurd (none-some _ e)
call_lettered bs (Some o) k h q e = subst (Lettered bs) (some_same e) (as_call h (operation_written (byte bs 1) o q))

lettered_by : (bs : List ℕ) (k : Kind) → kind_of bs ≡ Some k → Lettered bs k
lettered_by bs k e =
    split (eqb (byte bs 0) 72) (λ t. head_lettered bs _ k (eqb-true _ _ t) refl (rw t at e))
    (λ t. let e = rw t at e in
    split (eqb (byte bs 0) 80) (λ u. let q = rw u at e in subst (Lettered bs) (some_same q) (as_pixel (eqb-true _ _ u)))
    (λ u. let e = rw u at e in
    split (eqb (byte bs 0) 67) (λ v. call_lettered bs _ k (eqb-true _ _ v) refl (rw v at e)) (λ v. let q = rw v at e in absurd (none-some _ q))))

-- What is known of a record that was taken: its letters, its turn, its filler, and its own checks.
record Passed (n : ℕ) (p : Place) (bs : List ℕ) (k : Kind) : Type 0 where
  letters : Lettered bs k
  turn : in_turn p k bs ≡ true
  filler : all_zero bs (filler_of k) ≡ true
  own : first_fault (own_checks n k bs) ≡ None

passed : (n : ℕ) (p : Place) (bs : List ℕ) (k : Kind) (r : Record) → kind_of bs ≡ Some k → checked (record_checks n p k bs) k bs ≡ Ok r → Passed n p bs k × (record_of k bs ≡ r)
passed n p bs k r q e =
    let found = first_fault (record_checks n p k bs) in
    let b = first_passes (in_turn p k bs) (first_fault (content_checks n k bs)) _ (no_fault found (record_of k bs) (sym e)) in
    let c = first_passes (all_zero bs (filler_of k)) (first_fault (own_checks n k bs)) _ b.1 in
    (record { letters = lettered_by bs k q; turn = b.0; filler = c.0; own = c.1 }, sym (the_value found (record_of k bs) (sym e)))

-- the eight bytes of a record, one by one
eight : (bs : List ℕ) → length bs ≡ 8 → bs ≡ byte bs 0 ∷ byte bs 1 ∷ byte bs 2 ∷ byte bs 3 ∷ byte bs 4 ∷ byte bs 5 ∷ byte bs 6 ∷ byte bs 7 ∷ []
eight [] e = absurd (omega arith)
eight (a ∷ []) e = absurd (omega arith)
eight (a ∷ b ∷ []) e = absurd (omega arith)
eight (a ∷ b ∷ c ∷ []) e = absurd (omega arith)
eight (a ∷ b ∷ c ∷ d ∷ []) e = absurd (omega arith)
eight (a ∷ b ∷ c ∷ d ∷ f ∷ []) e = absurd (omega arith)
eight (a ∷ b ∷ c ∷ d ∷ f ∷ g ∷ []) e = absurd (omega arith)
eight (a ∷ b ∷ c ∷ d ∷ f ∷ g ∷ h ∷ []) e = absurd (omega arith)
eight (a ∷ b ∷ c ∷ d ∷ f ∷ g ∷ h ∷ i ∷ []) e = refl
eight (a ∷ b ∷ c ∷ d ∷ f ∷ g ∷ h ∷ i ∷ j ∷ more) e = absurd (omega arith)

comes : (n : ℕ) (p : Place) (bs : List ℕ) (k : Kind) → Passed n p bs k → Comes p (record_of k bs)
comes n place.Head bs (kind.Head s) a = head (passes_below n (head_checks (head_of s bs)) a.own)
comes n (place.Pixels h next) bs (kind.Head s) a = absurd (true≢false (sym a.turn))
comes n (place.Calls h) bs (kind.Head s) a = absurd (true≢false (sym a.turn))
comes n place.Head bs kind.Pixel a = absurd (true≢false (sym a.turn))
comes n (place.Pixels h next) bs kind.Pixel a = pixel
comes n (place.Calls h) bs kind.Pixel a = absurd (true≢false (sym a.turn))
comes n place.Head bs (kind.Call o) a = absurd (true≢false (sym a.turn))
comes n (place.Pixels h next) bs (kind.Call o) a = absurd (true≢false (sym a.turn))
comes n (place.Calls h) bs (kind.Call o) a = call

-- the number of a P that comes in turn
pixel_turn : (p : Place) (bs : List ℕ) → in_turn p kind.Pixel bs ≡ true → pixel_number bs ≡ next_pixel p
pixel_turn place.Head bs e = absurd (true≢false (sym e))
pixel_turn (place.Pixels h next) bs e = eqb-true _ _ e
pixel_turn (place.Calls h) bs e = absurd (true≢false (sym e))

zero_at : (i : ℕ) (is bs : List ℕ) → all_zero bs (i ∷ is) ≡ true → (byte bs i ≡ 0) × (all_zero bs is ≡ true)
zero_at i is bs e = let q = and_parts (eqb (byte bs i) 0) (all_zero bs is) e in (eqb-true _ _ q.0, q.1)

written : (n : ℕ) (p : Place) (bs : List ℕ) (k : Kind) → length bs ≡ 8 → byte bs 1 < 256 → Passed n p bs k → bs ≡ encoded (next_pixel p) (record_of k bs)
written n p bs (kind.Head s) len small a =
    let z6 = zero_at 6 (7 ∷ []) bs a.filler in
    let z7 = zero_at 7 [] bs z6.1 in
    elim a.letters [ as_head b0 b4 ↦ let all = eight bs len in cc ]
written n p bs kind.Pixel len small a =
    let z5 = zero_at 5 (6 ∷ 7 ∷ []) bs a.filler in
    let z6 = zero_at 6 (7 ∷ []) bs z5.1 in
    let z7 = zero_at 7 [] bs z6.1 in
    let turn = pixel_turn p bs a.turn in
    let low : byte bs 1 ≡ next_pixel p % 256 = omega (arith, small, turn) in
    let high : byte bs 2 ≡ next_pixel p / 256 = omega (arith, small, turn) in
    elim a.letters [ as_pixel b0 ↦ let all = eight bs len in cc ]
written n p bs (kind.Call o) len small a =
    let z3 = zero_at 3 (4 ∷ 5 ∷ 6 ∷ 7 ∷ []) bs a.filler in
    let z4 = zero_at 4 (5 ∷ 6 ∷ 7 ∷ []) bs z3.1 in
    let z5 = zero_at 5 (6 ∷ 7 ∷ []) bs z4.1 in
    let z6 = zero_at 6 (7 ∷ []) bs z5.1 in
    let z7 = zero_at 7 [] bs z6.1 in
    elim a.letters [ as_call b0 b1 ↦ let all = eight bs len in cc ]

onto : (n : ℕ) (p : Place) (bs : List ℕ) (r : Record) (o : Option Kind) → kind_of bs ≡ o → lettered n p o bs ≡ Ok r → (k : Kind) × Passed n p bs k × (record_of k bs ≡ r)
onto n p bs r None q e = absurd cc
onto n p bs r (Some k) q e = let a = passed n p bs k r q e in (k, a.0, a.1)

pub only_may_come : (n : ℕ) (p : Place) (bs : List ℕ) (r : Record) → taken n p bs ≡ Ok r → Comes p r
only_may_come n p bs r e = let a = onto n p bs r (kind_of bs) refl e in subst (Comes p) a.2 (comes n p bs a.0 a.1)

pub only_written : (n : ℕ) (p : Place) (bs : List ℕ) (r : Record) → length bs ≡ 8 → byte bs 1 < 256 → taken n p bs ≡ Ok r → bs ≡ encoded (next_pixel p) r
only_written n p bs r len small e =
    let a = onto n p bs r (kind_of bs) refl e in written n p bs a.0 len small a.1 ∙ ap (encoded (next_pixel p)) a.2
