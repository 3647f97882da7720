-- The table has the columns of each level, and below 0 there is no column
use mathlib.Core.Bool.{Bool, ◌&&◌, cond, false, true}
use mathlib.Core.Path.{◌≡◌, refl}
use Prim.Native.Nat.{◌^◌, ◌≤◌, suc, zero, ℕ}
use native.Mathlib.Omega.{arith}
use lib.Dec.{leb, ltb}
use lib.ListN.{get_or}
use borrow.Author.Tests.{le-ltb, lt-ltb}
use Rattle.grid.specs.Tile.{column_in, is_key, row_in, zoom_in}
use Rattle.address.specs.Columns.{columns_by_zoom}
use Rattle.address.proofs.is_key_by.Goals as goal

table_columns : (z : ℕ) → z ≤ 15 → get_or columns_by_zoom z 0 ≡ cond (leb 4 z && leb z 14) (2 ^ z) 0
table_columns zero h = refl
table_columns (suc zero) h = refl
table_columns (suc (suc zero)) h = refl
table_columns (suc (suc (suc zero))) h = refl
table_columns (suc (suc (suc (suc zero)))) h = refl
table_columns (suc (suc (suc (suc (suc zero))))) h = refl
table_columns (suc (suc (suc (suc (suc (suc zero)))))) h = refl
table_columns (suc (suc (suc (suc (suc (suc (suc zero))))))) h = refl
table_columns (suc (suc (suc (suc (suc (suc (suc (suc zero)))))))) h = refl
table_columns (suc (suc (suc (suc (suc (suc (suc (suc (suc zero))))))))) h = refl
table_columns (suc (suc (suc (suc (suc (suc (suc (suc (suc (suc zero)))))))))) h = refl
table_columns (suc (suc (suc (suc (suc (suc (suc (suc (suc (suc (suc zero))))))))))) h = refl
table_columns (suc (suc (suc (suc (suc (suc (suc (suc (suc (suc (suc (suc zero)))))))))))) h = refl
table_columns (suc (suc (suc (suc (suc (suc (suc (suc (suc (suc (suc (suc (suc zero))))))))))))) h = refl
table_columns (suc (suc (suc (suc (suc (suc (suc (suc (suc (suc (suc (suc (suc (suc zero)))))))))))))) h = refl
table_columns (suc (suc (suc (suc (suc (suc (suc (suc (suc (suc (suc (suc (suc (suc (suc zero))))))))))))))) h = refl
table_columns (suc (suc (suc (suc (suc (suc (suc (suc (suc (suc (suc (suc (suc (suc (suc (suc z)))))))))))))))) h = absurd (omega arith)

-- no level has a column below 0
below_none : (b : Bool) (n x y : ℕ) → (b && ltb x n && ltb y n) ≡ (ltb x (cond b n 0) && ltb y (cond b n 0))
below_none true n x y = refl
below_none false n x y = rw (le-ltb x 0 (omega arith))

by_table : (k : ℕ) → zoom_in k ≤ 15 → is_key k ≡ (ltb (column_in k) (get_or columns_by_zoom (zoom_in k) 0) && ltb (row_in k) (get_or columns_by_zoom (zoom_in k) 0))
unfolding is_key
by_table k h = rw (table_columns (zoom_in k) h) (below_none (leb 4 (zoom_in k) && leb (zoom_in k) 14) (2 ^ zoom_in k) (column_in k) (row_in k))

pub returns-then-at-bound : goal.returns-then-at-bound
returns-then-at-bound c =
    let k = c.args.k in
    let at = c.split-at.ensures in
    rw (at, by_table k (omega arith), lt-ltb (column_in k) (get_or columns_by_zoom (zoom_in k) 0) (rw (at, c.requires) at c.if-at-bound.true), c.requires)

pub returns-else-at-bound : goal.returns-else-at-bound
returns-else-at-bound c =
    let k = c.args.k in
    let at = c.split-at.ensures in
    let none : ltb (column_in k) (get_or columns_by_zoom (zoom_in k) 0) ≡ false = le-ltb _ _ (rw (at, c.requires) at c.if-at-bound.false) in
    rw (at, c.requires, by_table k (omega arith)) (rw none refl)
