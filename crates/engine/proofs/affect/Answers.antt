-- `engine::affect` meets its contract: where the tiles fit with the key among them, there is a place for it
use Rattle.std.proofs.Common.{List, false, ◌≡◌, ◌<◌, ◌≤◌, ℕ, arith, length, take}
use Rattle.strict.proofs.Laws.Room.{length_insert}
use Rattle.strict.specs.Tiles.{insert_tile, member}
use Rattle.search.specs.Laws.{used_length}
use Rattle.search.specs.Table.{TileTable}
use Rattle.engine.proofs.affect.Goals as goal

place_for : {l : List ℕ} {count : ℕ} → TileTable l count → (k : ℕ) → length (insert_tile k (take count l)) ≤ length l → member k (take count l) ≡ false → count < length l
place_for {l} {count} t k fit absent =
    let n = used_length t in
    let e = rw absent at (length_insert k (take count l) t.ascending) in
    omega arith

pub put-requires : goal.put-requires
put-requires c = (c.requires.0, c.requires.1, place_for c.requires.0 c.args.spot.key (rw c.in-Ins.is at c.requires.2))
