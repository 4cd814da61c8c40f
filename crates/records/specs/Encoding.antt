-- How records are written, and which may come where. Assumes nothing.
use Rattle.std.specs.Prelude.{◌≡◌, ℕ, ◌/◌, ◌%◌, ◌<◌, List, [], ◌∷◌, length, None, Ok}
use Rattle.maps.specs.Checks.{first_fault}
use Rattle.records.specs.declared.records.Shape.{Shape}
use Rattle.records.specs.declared.records.Shape.TheVariants.{Step, Tone, Turn}
use Rattle.morphology.specs.declared.calls.Operation.{Operation}
use Rattle.morphology.specs.declared.calls.Operation.TheVariants.{Dilate, Erode, Open, Close}
use Rattle.records.specs.declared.records.Head.{Head}
use Rattle.records.specs.declared.records.Record.{Record}
use Rattle.records.specs.declared.records.Record.TheVariants as sound
use Rattle.records.specs.declared.place.Place.{Place}
use Rattle.records.specs.declared.place.Place.TheVariants as place
use Rattle.records.specs.Records.{byte}
use Rattle.records.specs.Reading.{head_checks, taken}

-- S, T or R
abbrev pub shape_letter : Shape → ℕ
shape_letter Step = 83
shape_letter Tone = 84
shape_letter Turn = 82

-- D, E, O or C
abbrev pub operation_letter : Operation → ℕ
operation_letter Dilate = 68
operation_letter Erode = 69
operation_letter Open = 79
operation_letter Close = 67

-- the eight bytes of a record, where pixel i comes next
abbrev pub encoded : ℕ → Record → List ℕ
encoded i (sound.Head h) = 72 ∷ h.width ∷ h.height ∷ h.joining ∷ shape_letter h.shape ∷ h.limit ∷ 0 ∷ 0 ∷ []
encoded i (sound.Pixel v g) = 80 ∷ i % 256 ∷ i / 256 ∷ v ∷ g ∷ 0 ∷ 0 ∷ 0 ∷ []
encoded i (sound.Call o s) = 67 ∷ operation_letter o ∷ s ∷ 0 ∷ 0 ∷ 0 ∷ 0 ∷ 0 ∷ []

-- the pixel that comes next, and 0 where none does
abbrev pub next_pixel : Place → ℕ
next_pixel place.Head = 0
next_pixel (place.Pixels h next) = next
next_pixel (place.Calls h) = 0

-- which records may come where: a head that passes, then pixels, then calls
pub data Comes : Place → Record → Type 0 where
  head : {h : Head} → first_fault (head_checks h) ≡ None → Comes place.Head (sound.Head h)
  pixel : {h : Head} {next v g : ℕ} → Comes (place.Pixels h next) (sound.Pixel v g)
  call : {h : Head} {o : Operation} {s : ℕ} → Comes (place.Calls h) (sound.Call o s)

-- Reading and writing are each other's inverse: what may come reads as itself from its bytes, and nothing else is read.
pub record LawsOfRecords : Type 0 where
  pub reads_back : (n : ℕ) (p : Place) (r : Record) → Comes p r → taken n p (encoded (next_pixel p) r) ≡ Ok r
  pub only_may_come : (n : ℕ) (p : Place) (bs : List ℕ) (r : Record) → taken n p bs ≡ Ok r → Comes p r
  pub only_written : (n : ℕ) (p : Place) (bs : List ℕ) (r : Record) →
      length bs ≡ 8 → byte bs 1 < 256 → taken n p bs ≡ Ok r → bs ≡ encoded (next_pixel p) r
