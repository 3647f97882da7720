-- UNIQUENESS: the promise leaves one reply, one session and one content of each table
use Rattle.std.specs.Prelude.{ℕ}
use Rattle.service.proofs.Once.{Once, reported_once}
use Rattle.service.specs.World.{World}
use Rattle.rectangles.specs.Rectangles.{rectangle_call}
use Rattle.rectangles.specs.declared.Change.{Change}
use Rattle.rectangles.specs.declared.Rectangle.{Rectangle}

pub rectangle_once : (w : World) (job sheet : ℕ) (change : Change) (r : Rectangle) → Once (rectangle_call w job sheet change r)
rectangle_once w job sheet change r = reported_once (rectangle_call w job sheet change r)
