-- The records of a job: eight bytes each. Assumes nothing.
use Rattle.std.specs.Prelude.{ℕ, ◌+◌, ◌*◌, Bool, true, cond, ◌&&◌, List, [], ◌∷◌, Some, None, Option, ◌==◌, slice_index}
use Rattle.criteria.specs.declared.tolerance.Tolerance.{Tolerance}
use Rattle.criteria.specs.declared.tolerance.Tolerance.TheVariants as tolerance
use Rattle.records.specs.declared.records.Shape.{Shape}
use Rattle.records.specs.declared.records.Shape.TheVariants.{Step, Tone, Turn}
use Rattle.morphology.specs.declared.calls.Operation.{Operation}
use Rattle.morphology.specs.declared.calls.Operation.TheVariants.{Dilate, Erode, Open, Close}
use Rattle.records.specs.declared.records.Kind.{Kind}
use Rattle.records.specs.declared.records.Kind.TheVariants as kind
use Rattle.records.specs.declared.records.Head.{Head}
use Rattle.records.specs.declared.records.Record.{Record}
use Rattle.records.specs.declared.records.Record.TheVariants as sound

-- byte i of a record
abbrev pub byte : List ℕ → ℕ → ℕ
byte bs i = slice_index bs i

-- the shape letters: 83 is S, 84 is T, 82 is R
abbrev pub shape_of : ℕ → Option Shape
shape_of b = cond (b == 83) (Some Step) (cond (b == 84) (Some Tone) (cond (b == 82) (Some Turn) None))

-- the operation letters: 68 is D, 69 is E, 79 is O, 67 is C
abbrev pub operation_of : ℕ → Option Operation
operation_of b = cond (b == 68) (Some Dilate) (cond (b == 69) (Some Erode) (cond (b == 79) (Some Open) (cond (b == 67) (Some Close) None)))

abbrev pub head_kind : Option Shape → Option Kind
head_kind (Some s) = Some (kind.Head s)
head_kind None = None

abbrev pub call_kind : Option Operation → Option Kind
call_kind (Some o) = Some (kind.Call o)
call_kind None = None

-- what the letters of a record say that it is, none where one of them is not listed: 72 is H, 80 is P, 67 is C
abbrev pub kind_of : List ℕ → Option Kind
kind_of bs = cond (byte bs 0 == 72) (head_kind (shape_of (byte bs 4))) (cond (byte bs 0 == 80) (Some kind.Pixel) (cond (byte bs 0 == 67) (call_kind (operation_of (byte bs 1))) None))

-- the bytes at these places are all 0
abbrev pub all_zero : List ℕ → List ℕ → Bool
all_zero bs [] = true
all_zero bs (i ∷ is) = byte bs i == 0 && all_zero bs is

-- the places that must be 0
abbrev pub filler_of : Kind → List ℕ
filler_of (kind.Head s) = 6 ∷ 7 ∷ []
filler_of kind.Pixel = 5 ∷ 6 ∷ 7 ∷ []
filler_of (kind.Call o) = 3 ∷ 4 ∷ 5 ∷ 6 ∷ 7 ∷ []

-- the pixel number of a P, low byte first
abbrev pub pixel_number : List ℕ → ℕ
pixel_number bs = byte bs 1 + 256 * byte bs 2

abbrev pub tolerance_of : Shape → ℕ → Tolerance
tolerance_of Step t = tolerance.Step t
tolerance_of Tone t = tolerance.Tone t
tolerance_of Turn t = tolerance.Turn t

-- how many pixels the tile of a head has
abbrev pub pixels : Head → ℕ
pixels h = h.width * h.height

-- what the other bytes of an H say
abbrev pub head_of : Shape → List ℕ → Head
head_of s bs = record { width = byte bs 1; height = byte bs 2; joining = byte bs 3; shape = s; limit = byte bs 5 }

-- what a record of this kind says
abbrev pub record_of : Kind → List ℕ → Record
record_of (kind.Head s) bs = sound.Head (head_of s bs)
record_of kind.Pixel bs = sound.Pixel (byte bs 3) (byte bs 4)
record_of (kind.Call o) bs = sound.Call o (byte bs 2)

-- the map byte of a P
abbrev pub map_bytes : Record → List ℕ
map_bytes (sound.Head h) = []
map_bytes (sound.Pixel v g) = v ∷ []
map_bytes (sound.Call o s) = []

-- the grey byte of a P
abbrev pub grey_bytes : Record → List ℕ
grey_bytes (sound.Head h) = []
grey_bytes (sound.Pixel v g) = g ∷ []
grey_bytes (sound.Call o s) = []
