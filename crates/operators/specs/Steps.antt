-- One dilation or erosion, done centre by centre. Assumes nothing.
use Rattle.std.specs.Prelude.{◌≡◌, ℕ, ◌<◌, ◌≤◌, Bool, true, false, ◌⊎◌, List, length, slice_index}
use Rattle.scales.specs.Scales.{Grading}
use Rattle.morphology.specs.Bounds.{turned, JoinOf}
use Rattle.morphology.specs.Neighbourhoods.{Ground, Weak}
use Rattle.morphology.specs.Pictures.{At}
use Rattle.neighbourhoods.specs.Zeros.{zeros}

-- up: the scale itself; else the scale turned over, whose join is the meet
abbrev pub towards : {V : Type 0} → Bool → Grading V → Grading V
towards true scale = scale
towards false scale = turned scale

-- A step can be done on a tile of n pixels: the marks are zero, marks and queue have room, and both pictures have a value for each pixel.
pub record Ready (n : ℕ) (marks : List ℕ) (queue picture spare : ℕ) : Type 0 where
  pub clear : marks ≡ zeros (length marks)
  pub marks_serve : n ≤ length marks
  pub queue_serves : n ≤ queue
  pub picture_fits : picture ≡ n
  pub spare_fits : spare ≡ n

-- each pixel of the list is one of a tile of n pixels
abbrev pub Within : ℕ → List ℕ → Type 0
Within n pixels = (i : ℕ) → i < length pixels → slice_index pixels i < n

-- no pixel stands twice in the list
abbrev pub Once : List ℕ → Type 0
Once pixels = (i k p : ℕ) → At pixels i p → At pixels k p → i ≡ k

-- the value u stands in the picture f at one of the members
pub record Over {V : Type 0} (Member : ℕ → Type 0) (f : List V) (u : V) : Type 0 where
  pub pixel : ℕ
  pub member : Member pixel
  pub value : At f pixel u

-- the value u is own, or stands in the picture f at one of the members
abbrev pub OwnOrOver : {V : Type 0} → V → (ℕ → Type 0) → List V → V → Type 0
OwnOrOver own Member f u = (u ≡ own) ⊎ Over Member f u

-- what pixel x has once v is joined into the old picture at the members
pub data Put {V : Type 0} (scale : Grading V) (Member : ℕ → Type 0) (v : V) (old : List V) (x : ℕ) : V → Type 0 where
  inside : {u : V} → Member x → At old x u → Put scale Member v old x (scale.join u v)
  outside : {u : V} → (Member x → ⊥) → At old x u → Put scale Member v old x u

-- the new picture is the old one with v joined in at the members, and nowhere else
abbrev pub AllPut : {V : Type 0} → Grading V → (ℕ → Type 0) → V → List V → List V → Type 0
AllPut {V} scale Member v old new = (x : ℕ) (b : V) → At new x b → Put scale Member v old x b

-- The new spare picture is the old one with a value joined in at each pixel of the weak neighbourhood of z.
-- Where there is such a pixel, the value is the join of f over them.
pub record Spread {V : Type 0} (scale : Grading V) (g : Ground) (z : ℕ) (f old new : List V) : Type 0 where
  pub value : V
  pub joins : {x : ℕ} → Weak g z x → JoinOf scale (Over (Weak g z) f) value
  pub put : AllPut scale (Weak g z) value old new
