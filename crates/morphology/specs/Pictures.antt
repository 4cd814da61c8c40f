-- Pictures, one value for each pixel in pixel order, and the two operators on them. Assumes nothing.
use Rattle.std.specs.Prelude.{◌≡◌, ℕ, zero, suc, Bool, cond, List, [], ◌∷◌, length}
use Rattle.scales.specs.Scales.{Grading}
use Rattle.morphology.specs.Bounds.{JoinOf, MeetOf}
use Rattle.morphology.specs.Neighbourhoods.{Ground, Symmetric}
use Rattle.morphology.specs.Tables.{symmetric}

-- pixel i of the picture has the value v
pub data At {V : Type 0} : List V → ℕ → V → Type 0 where
  here : {v : V} {vs : List V} → At (v ∷ vs) zero v
  later : {u v : V} {us : List V} {i : ℕ} → At us i v → At (u ∷ us) (suc i) v

-- two pictures of one size, the first at or below the second at each pixel
pub data Under {V : Type 0} (scale : Grading V) : List V → List V → Type 0 where
  none : Under scale [] []
  both : {u v : V} {us vs : List V} → scale.below u v → Under scale us vs → Under scale (u ∷ us) (v ∷ vs)

-- the value u stands in the picture f at a pixel of the symmetric neighbourhood of x
pub record Around {V : Type 0} (g : Ground) (f : List V) (x : ℕ) (u : V) : Type 0 where
  pub pixel : ℕ
  pub neighbour : Symmetric g x pixel
  pub value : At f pixel u

-- r has at each pixel x the join of the values of f over the symmetric neighbourhood of x
pub record Dilated {V : Type 0} (scale : Grading V) (g : Ground) (f r : List V) : Type 0 where
  pub size : length r ≡ length f
  pub joins : (x : ℕ) (b : V) → At r x b → JoinOf scale (Around g f x) b

-- r has at each pixel x the meet of the values of f over the symmetric neighbourhood of x
pub record Eroded {V : Type 0} (scale : Grading V) (g : Ground) (f r : List V) : Type 0 where
  pub size : length r ≡ length f
  pub meets : (x : ℕ) (b : V) → At r x b → MeetOf scale (Around g f x) b

-- the picture whose value at each pixel is F of the pixel's number and its old value
abbrev pub each : {V : Type 0} → (ℕ → V → V) → List V → List V
each F [] = []
each F (v ∷ vs) = F zero v ∷ each (λ i. F (suc i)) vs

-- own and the values of the pixels that pass the test, put together by op
abbrev pub gather : {V : Type 0} → (V → V → V) → (ℕ → Bool) → V → List V → V
gather op test own [] = own
gather op test own (v ∷ vs) = let rest = gather op (λ i. test (suc i)) own vs in cond (test zero) (op v rest) rest

-- each pixel gets its own value and those of the pixels that it reaches, put together by op
abbrev pub gathered : {V : Type 0} → (V → V → V) → (ℕ → ℕ → Bool) → List V → List V
gathered op reach f = each (λ x v. gather op (reach x) v f) f

-- each pixel gets its own value and those of its symmetric neighbourhood, put together by op
unfoldable pub operator : {V : Type 0} → (V → V → V) → Ground → List V → List V
operator op g f = let reach = symmetric g in gathered op reach f

-- one dilation: the join over the symmetric neighbourhood
abbrev pub dilation : {V : Type 0} → Grading V → Ground → List V → List V
dilation scale g = operator scale.join g

-- one erosion: the meet over the symmetric neighbourhood
abbrev pub erosion : {V : Type 0} → Grading V → Ground → List V → List V
erosion scale g = operator scale.meet g
