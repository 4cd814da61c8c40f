-- What the reader takes where. Assumes nothing.
use Rattle.std.specs.Prelude.{ℕ, ◌+◌, Bool, true, false, cond, not, List, [], ◌∷◌, ◌++◌, is_some, Some, None, Ok, Err, Option, Result, ◌==◌}
use Rattle.criteria.specs.declared.fault.MapFault.{MapFault}
use Rattle.criteria.specs.declared.fault.MapFault.TheVariants.{Tolerance}
use Rattle.criteria.specs.Criteria.{Judgement}
use Rattle.criteria.specs.Bytes.{by_step, by_tone, by_turn}
use Rattle.criteria.specs.Tolerances.{accepted}
use Rattle.maps.specs.Checks.{Check, first_fault, answered}
use Rattle.maps.specs.Tiles.{tile_checks}
use Rattle.bench.specs.declared.fault.BenchFault.{BenchFault}
use Rattle.bench.specs.declared.fault.BenchFault.TheVariants.{Map}
use Rattle.records.specs.declared.fault.ReaderFault.{ReaderFault}
use Rattle.records.specs.declared.fault.ReaderFault.TheVariants.{Torn, Letter, Order, Filler, Bench}
use Rattle.records.specs.declared.records.Shape.{Shape}
use Rattle.records.specs.declared.records.Shape.TheVariants.{Step, Tone, Turn}
use Rattle.records.specs.declared.records.Kind.{Kind}
use Rattle.records.specs.declared.records.Kind.TheVariants as kind
use Rattle.records.specs.declared.records.Head.{Head}
use Rattle.records.specs.declared.records.Record.{Record}
use Rattle.records.specs.declared.records.Record.TheVariants as sound
use Rattle.records.specs.declared.place.Place.{Place}
use Rattle.records.specs.declared.place.Place.TheVariants as place
use Rattle.records.specs.Records.{kind_of, all_zero, filler_of, pixel_number, tolerance_of, pixels, head_of, record_of}

-- may a record of this kind come here? one H, then a P for each pixel in order, then C until the end
abbrev pub in_turn : Place → Kind → List ℕ → Bool
in_turn place.Head (kind.Head s) bs = true
in_turn place.Head kind.Pixel bs = false
in_turn place.Head (kind.Call o) bs = false
in_turn (place.Pixels h next) (kind.Head s) bs = false
in_turn (place.Pixels h next) kind.Pixel bs = pixel_number bs == next
in_turn (place.Pixels h next) (kind.Call o) bs = false
in_turn (place.Calls h) (kind.Head s) bs = false
in_turn (place.Calls h) kind.Pixel bs = false
in_turn (place.Calls h) (kind.Call o) bs = true

abbrev pub tolerance_check : Head → Check MapFault
tolerance_check h = record { holds = accepted (tolerance_of h.shape h.limit); fault = Tolerance }

-- an H names a tile, a joining and a tolerance that the map layer takes
abbrev pub head_checks : Head → List (Check MapFault)
head_checks h = tile_checks h.width h.height h.joining ++ (tolerance_check h ∷ [])

abbrev pub through_bench : Option MapFault → Option BenchFault
through_bench None = None
through_bench (Some f) = Some (Map f)

-- an H of which none of these is wrong
abbrev pub passes : Head → Bool
passes h = not (is_some (first_fault (head_checks h)))

-- that an H passes, or the fault of the map layer inside one of the bench layer
abbrev pub head_answer : Head → Result (Unit {0}) BenchFault
head_answer h = answered (through_bench (first_fault (head_checks h))) tt

-- checks of the map layer, at record n: a fault travels up whole, and the reader adds the record number
abbrev pub from_below : ℕ → List (Check MapFault) → List (Check ReaderFault)
from_below n [] = []
from_below n (c ∷ cs) = record { holds = c.holds; fault = Bench (Map c.fault) n } ∷ from_below n cs

abbrev pub own_checks : ℕ → Kind → List ℕ → List (Check ReaderFault)
own_checks n (kind.Head s) bs = from_below n (head_checks (head_of s bs))
own_checks n kind.Pixel bs = []
own_checks n (kind.Call o) bs = []

-- the checks of record n once it is known to come in turn
abbrev pub content_checks : ℕ → Kind → List ℕ → List (Check ReaderFault)
content_checks n k bs = record { holds = all_zero bs (filler_of k); fault = Filler n } ∷ own_checks n k bs

-- a P has the number of the next pixel
abbrev pub number_check : ℕ → ℕ → List ℕ → Check ReaderFault
number_check n next bs = record { holds = (pixel_number bs == next); fault = Order n }

-- the checks of record n once its letters are found listed
abbrev pub record_checks : ℕ → Place → Kind → List ℕ → List (Check ReaderFault)
record_checks n p k bs = record { holds = in_turn p k bs; fault = Order n } ∷ content_checks n k bs

-- what a record of this kind says, unless a check finds a fault
abbrev pub checked : List (Check ReaderFault) → Kind → List ℕ → Result Record ReaderFault
checked cs k bs = answered (first_fault cs) (record_of k bs)

-- what record n says once it is known to come in turn
abbrev pub content : ℕ → Kind → List ℕ → Result Record ReaderFault
content n k bs = checked (content_checks n k bs) k bs

-- what a P says once it is known that a P comes in turn
abbrev pub numbered : ℕ → ℕ → List ℕ → Result Record ReaderFault
numbered n next bs = checked (number_check n next bs ∷ content_checks n kind.Pixel bs) kind.Pixel bs

abbrev pub lettered : ℕ → Place → Option Kind → List ℕ → Result Record ReaderFault
lettered n p None bs = Err (Letter n)
lettered n p (Some k) bs = checked (record_checks n p k bs) k bs

-- what record n says to a reader at p, or what is wrong with it
abbrev pub taken : ℕ → Place → List ℕ → Result Record ReaderFault
taken n p bs = lettered n p (kind_of bs) bs

-- where the reader is once pixels up to number i are read: with the last one read, calls come next
abbrev pub among : Head → ℕ → Place
among h i = cond (i == pixels h) (place.Calls h) (place.Pixels h i)

-- where a P leaves the reader
abbrev pub next_place : Place → Place
next_place place.Head = place.Head
next_place (place.Pixels h next) = among h (next + 1)
next_place (place.Calls h) = place.Calls h

-- where a record leaves the reader: a bad one changes nothing
abbrev pub place_after : Result Record ReaderFault → Place → Place
place_after (Ok (sound.Head h)) p = place.Pixels h 0
place_after (Ok (sound.Pixel v g)) p = next_place p
place_after (Ok (sound.Call o s)) p = p
place_after (Err f) p = p

-- the head of a tile whose pixels are all read
abbrev pub done : ℕ → Place → Result Head ReaderFault
done n place.Head = Err (Order n)
done n (place.Pixels h next) = Err (Order n)
done n (place.Calls h) = Ok h

-- the end of a job after n records, with so many bytes left over: the head of its tile, or what is wrong: it comes out of turn before the last P
abbrev pub ended : ℕ → ℕ → Place → Result Head ReaderFault
ended n left p = cond (left == 0) (done n p) (Err (Torn n))

-- the criterion of a shape with this limit
abbrev pub by_shape : Shape → ℕ → Judgement ℕ
by_shape Step t = by_step t
by_shape Tone t = by_tone t
by_shape Turn t = by_turn t

-- the criterion that an H asks for
abbrev pub judged : Head → Judgement ℕ
judged h = by_shape h.shape h.limit
