-- What a rectangle that has a shape asks for, and the turns that it tells
use Rattle.std.specs.Prelude.{cond, Ok, ℕ, eqb}
use Rattle.service.specs.Claims.{Serves}
use Rattle.service.specs.World.{World}
use Rattle.service.specs.declared.Told.{Told}
use Rattle.rectangles.specs.Rectangles.{covered}
use Rattle.rectangles.specs.declared.Rectangle.{Rectangle}
use Rattle.shapes.specs.Shaping.{Shapes}
use Rattle.shapes.specs.declared.Shape.{Shape}

-- a list that is done tells the turns of its rectangle
abbrev pub turns_added : Rectangle → Told → Told
turns_added r t = cond (eqb t.number 0) (covered r) t

-- 1, 2 and 3 do not refuse, nor do 14, 5 and 13
pub record Asks (w : World) (job : ℕ) (r : Rectangle) (s : Shape) : Type 0 where
  pub ready : Serves w job
  pub shape : Shapes r (Ok s)
