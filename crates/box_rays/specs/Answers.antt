-- What an answer says of an object.
use Rattle.std.specs.Prelude.{ℕ, ℤ, ◌≤◌, ◌<ℤ◌, List}
use Rattle.cull_base.specs.Screen.{Dimensions}
use Rattle.exact_clip.specs.Clip.{Clip}
use Rattle.box_rays.specs.Objects.{IsBeside, IsNearest, IsReached}
use Rattle.box_rays.specs.Frustums.{IsOnScreen}
use Rattle.box_rays.specs.declared.reached.Reached.{Reached}
use Rattle.box_rays.specs.declared.reached.Reached.TheVariants.{Outside, Visible, At}

-- of the object between some points
abbrev pub Says : Dimensions → ℕ → ℤ → ℕ → List Clip → Reached → Type 0
Says size top near share points Outside = IsBeside size points
Says size top near share points Visible = Unit {0}
Says size top near share points (At rect nearness) = IsReached size points rect × IsNearest top near share nearness points

-- without its rectangle
abbrev pub SaysNear : Dimensions → ℕ → ℤ → ℕ → List Clip → Reached → Type 0
SaysNear size top near share points Outside = IsBeside size points
SaysNear size top near share points Visible = Unit {0}
SaysNear size top near share points (At rect nearness) = IsNearest top near share nearness points

-- a rectangle is of the screen and has a pixel, and its nearness is at most the top
abbrev pub IsInRange : Dimensions → ℕ → Reached → Type 0
IsInRange size top Outside = Unit {0}
IsInRange size top Visible = Unit {0}
IsInRange size top (At rect nearness) = IsOnScreen size rect × (rect.x0 <ℤ rect.x1) × (rect.y0 <ℤ rect.y1) × (nearness ≤ top)
