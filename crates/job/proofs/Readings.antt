-- Records read one at a time. Assumes nothing.
use Rattle.std.proofs.Common.{◌≡◌, ℕ, ◌+◌, ◌<◌, ◌≤◌, Bool, true, false, cond, eqb, List, [], length, get_or, drop, None, Ok, Err, Result, sym, refl, add-one, arith, drop-cons, length-append}
use Rattle.std.proofs.lemmas.Bool.{eqb-true}
use Rattle.records.specs.declared.fault.ReaderFault.{ReaderFault}
use Rattle.records.specs.declared.records.Head.{Head}
use Rattle.records.specs.declared.records.Record.{Record}
use Rattle.records.specs.declared.records.Record.TheVariants as sound
use Rattle.records.specs.declared.place.Place.{Place}
use Rattle.records.specs.declared.place.Place.TheVariants as place
use Rattle.records.specs.Records.{pixels, map_bytes, grey_bytes}
use Rattle.records.specs.Reading.{taken, place_after, among}
use Rattle.records.specs.Encoding.{Comes, head, pixel, call}
use Rattle.records.proofs.Encodings.{only_may_come}
use Rattle.job.specs.Reading.{Progress, pixels_read, Filled, progress_after, record_fault, reached, read_on}

module _ (i : ℕ) (records : List (List ℕ)) (left : ℕ) (s : Progress) where
  -- a sound record leads on
  pub read_more : i < length records → record_fault i s (get_or records i []) ≡ None →
      read_on i (drop i records) left s ≡ read_on (i + 1) (drop (i + 1) records) left (reached i s (get_or records i []))
  read_more h e = rw (drop-cons records i [] h, e, add-one) refl

-- a record is one call at most
pub calls_grow : (t : Result Record ReaderFault) (s : Progress) → (progress_after t s).calls ≤ s.calls + 1
calls_grow (Ok (sound.Head h)) s = omega arith
calls_grow (Ok (sound.Pixel v g)) s = omega arith
calls_grow (Ok (sound.Call o k)) s = omega arith
calls_grow (Err f) s = omega arith

among_read : (h : Head) (i : ℕ) → pixels_read (among h i) ≡ i
among_read h i = at (eqb i (pixels h)) refl
  where
    at : (b : Bool) → eqb i (pixels h) ≡ b → pixels_read (cond b (place.Calls h) (place.Pixels h i)) ≡ i
    at true e = sym (eqb-true i (pixels h) e)
    at false e = refl

-- a P is one pixel more
counted : {p : Place} {r : Record} → Comes p r → pixels_read (place_after (Ok r) p) ≡ pixels_read p + length (map_bytes r)
counted (head passes) = refl
counted (pixel {h = h} {next = next}) = among_read h (next + 1)
counted (call {h = h}) = omega arith

both : (r : Record) → length (grey_bytes r) ≡ length (map_bytes r)
both (sound.Head h) = refl
both (sound.Pixel v g) = refl
both (sound.Call o k) = refl

pub filled_after : (n : ℕ) (s : Progress) (bs : List ℕ) (t : Result Record ReaderFault) → taken n s.place bs ≡ t → Filled s → Filled (progress_after t s)
filled_after n s bs (Ok r) e f =
    let more = counted (only_may_come n s.place bs r e) in
    let a = length-append s.map (map_bytes r) in
    let b = length-append s.picture (grey_bytes r) in
    let c = both r in
    record { map_count = omega (arith, f.map_count); grey_count = omega (arith, f.grey_count) }
filled_after n s bs (Err g) e f = f
